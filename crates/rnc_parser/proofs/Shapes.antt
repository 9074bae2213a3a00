-- What the parsing functions make of the parts that they read: one lemma for each production.
use Rattle.std.proofs.Common.{◌≡◌, ℕ, Bool, true, false, inl, inr, List, [], ◌∷◌, Option, Some, None, Ok, refl, sym, ap, ◌∙◌, subst}
use Rattle.rng_model.specs.Texts.{Text}
use Rattle.token_laws.specs.Tokens.{Keyword, Symbol, Token, keyword, ident, cname, ns_name, segment, symbol, Placed, ◌at◌}
use Rattle.token_laws.specs.Tokens.{open_brace, close_brace, open_paren, close_paren, open_bracket, close_bracket, equals, comma, ampersand, bar, question, star, plus, minus, tilde, follows}
use Rattle.token_laws.specs.Tokens as kw
use Rattle.grammar_laws.specs.Trees as tree
use Rattle.grammar_laws.specs.Trees.{TypeName, patterns_of, items_of, classes_of}
use Rattle.grammar_laws.specs.Grammar.{IsAnyId, IsItemName, IsAssign, IsType, IsConnector, IsPostfix, ReadsBlock, ReadsBlocks, ReadsFollow, ReadsLiteral, ReadsUri, ReadsDeclaration, ReadsDeclarations, ReadsParameters, ReadsBraces, ReadsInherit, ReadsClass, ReadsSimple, ReadsAlternatives, ReadsBareClass, ReadsClassExcept, ReadsBare, ReadsPrimary, ReadsParticle, ReadsMembers, ReadsPattern, ReadsItem, ReadsItems, ReadsInner, HasNoInclude, IsInner}
use Rattle.grammar_laws.specs.Grammar as by
use Rattle.rnc_parser.specs.Parts.{ReadsPrefix, ReadsParameter, ReadsOpenClass, ReadsBraced, ReadsExcept, ReadsOpen, BehindPrimary, BehindParticle, BehindPostfix, BehindConnector, ReadsMore, AreInner, IsInnerItem, ReadsNext}
use Rattle.rnc_parser.specs.Reading.{Eats, Takes, IsKeyword, IsSign, IsPlainName, IsPrefixedName, IsName, IsMethod, IsTypeName}
use Rattle.syntax_laws.specs.Expecting.{Part}
use Rattle.schema_tree.specs.Trees.{method_of, item_of, type_of}
use Rattle.schema_tree.specs.declared.tree.TypeName as src
use Rattle.schema_tree.specs.declared.tree.Method.{Method}
use Rattle.schema_tree.specs.declared.tree.Item.{Item}
use Rattle.rnc_parser.proofs.Steps.{keyword_first, symbol_first, plain_first, prefixed_first, name_first}

abbrev pub Words : Keyword → List Placed → ℕ → List Placed → Type 0
Words k ts v us = Takes (Part.word k) (IsKeyword k) ts (Ok v) us

abbrev pub Signs : Symbol → List Placed → ℕ → List Placed → Type 0
Signs s ts v us = Takes (Part.sign s) (IsSign s) ts (Ok v) us

abbrev pub Names : List Placed → Text × ℕ → List Placed → Type 0
Names ts v us = Takes Part.name IsName ts (Ok v) us

-- declarations
pub namespace_read : {ts t1 t2 t3 t4 : List Placed} {a b c : ℕ} {p : Text} {u : tree.Uri} → Words kw.namespace ts a t1 → Names t1 (p, b) t2 → Signs equals t2 c t3 → ReadsUri t3 t4 u →
    ReadsDeclaration ts t4 (tree.Declaration.namespace_prefix p u a)
namespace_read {t1 = t1} {t2 = t2} {t4 = t4} {a = a} {b = b} {p = p} {u = u} w n s r =
    let m = name_first n in
    subst (λ z. ReadsDeclaration z t4 (tree.Declaration.namespace_prefix p u a))
    (sym (keyword_first w ∙ ap (λ z. keyword kw.namespace at a ∷ z) (m.1 ∙ ap (λ z. m.0 at b ∷ z) (symbol_first s)))) (by.namespace m.2 r)

pub datatypes_read : {ts t1 t2 t3 t4 : List Placed} {a b c : ℕ} {p l : Text} → Words kw.datatypes ts a t1 → Names t1 (p, b) t2 → Signs equals t2 c t3 → ReadsLiteral t3 t4 l →
    ReadsDeclaration ts t4 (tree.Declaration.datatypes p l a)
datatypes_read {t4 = t4} {a = a} {b = b} {p = p} {l = l} w n s r =
    let m = name_first n in
    subst (λ z. ReadsDeclaration z t4 (tree.Declaration.datatypes p l a))
    (sym (keyword_first w ∙ ap (λ z. keyword kw.datatypes at a ∷ z) (m.1 ∙ ap (λ z. m.0 at b ∷ z) (symbol_first s)))) (by.datatypes m.2 r)

pub default_read : {ts t1 t2 t3 t4 t5 : List Placed} {a b c : ℕ} (p : Option Text) {u : tree.Uri} → Words kw.default ts a t1 → Words kw.namespace t1 b t2 → ReadsPrefix t2 t3 p → Signs equals t3 c t4 → ReadsUri t4 t5 u →
    ReadsDeclaration ts t5 (tree.Declaration.default_namespace p u a)
default_read {t4 = t4} {t5 = t5} {a = a} {b = b} {c = c} None {u = u} w n e s r =
    subst (λ z. ReadsDeclaration z t5 (tree.Declaration.default_namespace None u a))
    (sym (keyword_first w ∙ ap (λ z. keyword kw.default at a ∷ z) (keyword_first n ∙ ap (λ z. keyword kw.namespace at b ∷ z) (sym e ∙ symbol_first s)))) (by.default r)
default_read {t4 = t4} {t5 = t5} {a = a} {b = b} {c = c} (Some p) {u = u} w n (t, d, e, i) s r =
    subst (λ z. ReadsDeclaration z t5 (tree.Declaration.default_namespace (Some p) u a))
    (sym (keyword_first w ∙ ap (λ z. keyword kw.default at a ∷ z) (keyword_first n ∙ ap (λ z. keyword kw.namespace at b ∷ z) (e ∙ ap (λ z. t at d ∷ z) (symbol_first s))))) (by.default_prefix i r)

pub prefix_read : {ts us : List Placed} {b : ℕ} {p : Text} → Names ts (p, b) us → ReadsPrefix ts us (Some p)
prefix_read {b = b} n = let m = name_first n in (m.0, b, m.1, m.2)

pub inherit_read : {ts us : List Placed} {a : ℕ} → Words kw.inherit ts a us → ReadsUri ts us (tree.Uri.inherit a)
inherit_read {us = us} {a = a} w = subst (λ z. ReadsUri z us (tree.Uri.inherit a)) (sym (keyword_first w)) by.inherit

-- datatypes
pub parameter_read : {ts t0 t1 t2 t3 : List Placed} {a b : ℕ} {n l : Text} → ReadsBlocks ts t0 → Names t0 (n, a) t1 → Signs equals t1 b t2 → ReadsLiteral t2 t3 l →
    ReadsParameter ts t3 (record { name = n; literal = l; place = a })
parameter_read {ts = ts} {t2 = t2} {a = a} {b = b} bl n s r =
    let m = name_first n in
    (m.0, b, t2, subst (ReadsBlocks ts) (m.1 ∙ ap (λ z. m.0 at a ∷ z) (symbol_first s)) bl, m.2, r)

pub passed_read : {ts t1 t2 t3 : List Placed} {a b c : ℕ} {p : Text} → Words kw.inherit ts a t1 → Signs equals t1 b t2 → Names t2 (p, c) t3 →
    ReadsInherit ts t3 (Some (record { prefix = p; place = a }))
passed_read {t3 = t3} {a = a} {b = b} {p = p} w s n =
    let m = name_first n in
    subst (λ z. ReadsInherit z t3 (Some (record { prefix = p; place = a })))
    (sym (keyword_first w ∙ ap (λ z. keyword kw.inherit at a ∷ z) (symbol_first s ∙ ap (λ z. symbol equals at b ∷ z) m.1))) (by.ReadsInherit.passed m.2)

pub braces_read : {ts t1 t2 t3 : List Placed} {b : ℕ} {ps : List tree.Parameter} → Eats open_brace ts true t1 → ReadsParameters t1 t2 ps → Signs close_brace t2 b t3 → ReadsBraces ts t3 ps
braces_read {t1 = t1} {t3 = t3} {ps = ps} (a, e) r s =
    subst (λ z. ReadsBraces z t3 ps) (sym e) (by.ReadsBraces.braces (subst (λ z. ReadsParameters t1 z ps) (symbol_first s) r))

pub no_braces : {ts us : List Placed} → Eats open_brace ts false us → ReadsBraces ts us []
no_braces {ts = ts} (e, h) = subst (λ z. ReadsBraces ts z []) (sym e) by.ReadsBraces.none

-- name classes
pub plain_class_read : {ts us : List Placed} {n : Text} {a : ℕ} → Names ts (n, a) us → ReadsBareClass ts us (tree.Class.plain n a)
plain_class_read {us = us} {n = n} {a = a} m = let f = name_first m in subst (λ z. ReadsBareClass z us (tree.Class.plain n a)) (sym f.1) (by.plain f.2)

pub prefixed_class_read : {ts us : List Placed} {v : Text × Text × ℕ} → Takes Part.prefixed_name IsPrefixedName ts (Ok v) us → ReadsBareClass ts us (tree.Class.prefixed (v.0) (v.1) (v.2))
prefixed_class_read {us = us} {v = v} m = subst (λ z. ReadsBareClass z us (tree.Class.prefixed (v.0) (v.1) (v.2))) (sym (prefixed_first m)) by.ReadsBareClass.prefixed

pub class_in_parentheses_read : {ts t1 t2 t3 : List Placed} {a b : ℕ} {c : tree.Class} → Signs open_paren ts a t1 → ReadsClass t1 t2 c → Signs close_paren t2 b t3 → ReadsBareClass ts t3 c
class_in_parentheses_read {t1 = t1} {t3 = t3} {c = c} s r e =
    subst (λ z. ReadsBareClass z t3 c) (sym (symbol_first s)) (by.ReadsBareClass.parentheses (subst (λ z. ReadsClass t1 z c) (symbol_first e) r))

pub open_class : (e : Bool) {ts us : List Placed} {c : tree.Class} → ReadsBareClass ts us c → ReadsOpenClass e ts us c
open_class false r = r
open_class true r = inl r

pub simple_read : {ts t1 t2 t3 : List Placed} {c : tree.Class} → ReadsBlocks ts t1 → ReadsOpenClass true t1 t2 c → ReadsFollow t2 t3 → ReadsSimple ts t3 c
simple_read b (inl r) f = by.simple b r f
simple_read b (inr r) f = by.ReadsSimple.except b r f

-- patterns
pub element_read : {ts t1 t2 t3 : List Placed} {a : ℕ} {n : tree.Class} {p : tree.Pattern} → Words kw.element ts a t1 → ReadsClass t1 t2 n → ReadsBraced t2 t3 p → ReadsBare ts t3 (tree.Pattern.element n p a)
element_read {t1 = t1} {t3 = t3} {a = a} {n = n} {p = p} w c (b, vs, d, e, r) =
    subst (λ z. ReadsBare z t3 (tree.Pattern.element n p a)) (sym (keyword_first w)) (by.element (subst (λ z. ReadsClass t1 z n) e c) r)

pub attribute_read : {ts t1 t2 t3 : List Placed} {a : ℕ} {n : tree.Class} {p : tree.Pattern} → Words kw.attribute ts a t1 → ReadsClass t1 t2 n → ReadsBraced t2 t3 p → ReadsBare ts t3 (tree.Pattern.attribute n p a)
attribute_read {t1 = t1} {t3 = t3} {a = a} {n = n} {p = p} w c (b, vs, d, e, r) =
    subst (λ z. ReadsBare z t3 (tree.Pattern.attribute n p a)) (sym (keyword_first w)) (by.attribute (subst (λ z. ReadsClass t1 z n) e c) r)

pub list_read : {ts t1 t2 : List Placed} {a : ℕ} {p : tree.Pattern} → Words kw.list ts a t1 → ReadsBraced t1 t2 p → ReadsBare ts t2 (tree.Pattern.list p a)
list_read {t2 = t2} {a = a} {p = p} w (b, vs, d, e, r) =
    subst (λ z. ReadsBare z t2 (tree.Pattern.list p a)) (sym (keyword_first w ∙ ap (λ z. keyword kw.list at a ∷ z) e)) (by.list r)

pub mixed_read : {ts t1 t2 : List Placed} {a : ℕ} {p : tree.Pattern} → Words kw.mixed ts a t1 → ReadsBraced t1 t2 p → ReadsBare ts t2 (tree.Pattern.mixed p)
mixed_read {t2 = t2} {a = a} {p = p} w (b, vs, d, e, r) =
    subst (λ z. ReadsBare z t2 (tree.Pattern.mixed p)) (sym (keyword_first w ∙ ap (λ z. keyword kw.mixed at a ∷ z) e)) (by.mixed r)

pub braced_read : {ts t1 t2 t3 : List Placed} {a b : ℕ} {p : tree.Pattern} → Signs open_brace ts a t1 → ReadsPattern t1 t2 p → Signs close_brace t2 b t3 → ReadsBraced ts t3 p
braced_read {t1 = t1} {a = a} {b = b} {p = p} s r e = (a, t1, b, symbol_first s, subst (λ z. ReadsPattern t1 z p) (symbol_first e) r)

pub parentheses_read : {ts t1 t2 t3 : List Placed} {a b : ℕ} {p : tree.Pattern} → Signs open_paren ts a t1 → ReadsPattern t1 t2 p → Signs close_paren t2 b t3 → ReadsBare ts t3 p
parentheses_read {t1 = t1} {t3 = t3} {p = p} s r e =
    subst (λ z. ReadsBare z t3 p) (sym (symbol_first s)) (by.ReadsBare.parentheses (subst (λ z. ReadsPattern t1 z p) (symbol_first e) r))

pub reference_read : {ts us : List Placed} {v : Text × ℕ} → Takes Part.plain_name IsPlainName ts (Ok v) us → ReadsBare ts us (tree.Pattern.ref (v.0) (v.1))
reference_read {us = us} {v = v} m = subst (λ z. ReadsBare z us (tree.Pattern.ref (v.0) (v.1))) (sym (plain_first m)) by.ref

pub parent_read : {ts t1 t2 : List Placed} {a b : ℕ} {n : Text} → Words kw.parent ts a t1 → Takes Part.plain_name IsPlainName t1 (Ok (n, b)) t2 → ReadsBare ts t2 (tree.Pattern.parent n a)
parent_read {t2 = t2} {a = a} {n = n} w m =
    subst (λ z. ReadsBare z t2 (tree.Pattern.parent n a)) (sym (keyword_first w ∙ ap (λ z. keyword kw.parent at a ∷ z) (plain_first m))) by.parent

pub empty_read : {ts us : List Placed} {a : ℕ} → Words kw.empty ts a us → ReadsBare ts us tree.Pattern.empty
empty_read {us = us} w = subst (λ z. ReadsBare z us tree.Pattern.empty) (sym (keyword_first w)) by.empty

pub text_read : {ts us : List Placed} {a : ℕ} → Words kw.text ts a us → ReadsBare ts us tree.Pattern.any_text
text_read {us = us} w = subst (λ z. ReadsBare z us tree.Pattern.any_text) (sym (keyword_first w)) by.text

pub not_allowed_read : {ts us : List Placed} {a : ℕ} → Words kw.not_allowed ts a us → ReadsBare ts us tree.Pattern.not_allowed
not_allowed_read {us = us} w = subst (λ z. ReadsBare z us tree.Pattern.not_allowed) (sym (keyword_first w)) by.not_allowed

pub external_read : {ts t1 t2 t3 : List Placed} {a : ℕ} {l : Text} {h : Option tree.Passed} → Words kw.external ts a t1 → ReadsLiteral t1 t2 l → ReadsInherit t2 t3 h → ReadsBare ts t3 (tree.Pattern.external l h a)
external_read {t3 = t3} {a = a} {l = l} {h = h} w r i = subst (λ z. ReadsBare z t3 (tree.Pattern.external l h a)) (sym (keyword_first w)) (by.external r i)

pub grammar_read : {ts t1 t2 t3 t4 : List Placed} {a b c : ℕ} {is : tree.Items} → Words kw.grammar ts a t1 → Signs open_brace t1 b t2 → ReadsItems t2 t3 is → Signs close_brace t3 c t4 → ReadsBare ts t4 (tree.Pattern.grammar is)
grammar_read {t2 = t2} {t4 = t4} {a = a} {is = is} w s r e =
    subst (λ z. ReadsBare z t4 (tree.Pattern.grammar is)) (sym (keyword_first w ∙ ap (λ z. keyword kw.grammar at a ∷ z) (symbol_first s)))
    (by.grammar (subst (λ z. ReadsItems t2 z is) (symbol_first e) r))

pub open_bare : (e : Bool) {ts us : List Placed} {p : tree.Pattern} → ReadsBare ts us p → ReadsOpen e ts us p
open_bare false r = r
open_bare true r = inl r

primary_except : {ts t1 t2 t3 : List Placed} {p : tree.Pattern} → ReadsBlocks ts t1 → (r : ReadsExcept t1 t2 p) → ReadsFollow t2 t3 → ReadsPrimary ts t3 p
primary_except {ts = ts} {t3 = t3} b r f =
    subst (ReadsPrimary ts t3) (sym r.made) (by.ReadsPrimary.except (subst (ReadsBlocks ts) r.begins b) r.type r.given r.annotated r.bare f)

pub primary_read : {ts t1 t2 t3 : List Placed} {p : tree.Pattern} → ReadsBlocks ts t1 → ReadsOpen true t1 t2 p → ReadsFollow t2 t3 → ReadsPrimary ts t3 p
primary_read b (inl r) f = by.primary b r f
primary_read b (inr r) f = primary_except b r f

pub postfix_read : {s : Symbol} {repeat : tree.Pattern → tree.Pattern} {p q : tree.Pattern} {ts us : List Placed} → IsPostfix s repeat → ReadsFollow ts us → q ≡ repeat p → BehindPostfix s p ts us q
postfix_read i f e start a r = by.postfix i r f e

pub chain_read : {s : Symbol} {join : tree.Patterns → tree.Pattern} {p q : tree.Pattern} {ts us : List Placed} {ps : List tree.Pattern} → IsConnector s join → ReadsMore s p ts us ps → q ≡ join (patterns_of ps) → BehindConnector s p ts us q
chain_read {join = join} i (qs, made, r) e start a m = by.chain i m r (e ∙ ap (λ z. join (patterns_of z)) made)

pub behind_sign : {s : Symbol} {p q : tree.Pattern} {ts t1 us : List Placed} → (a : ℕ) × (ts ≡ symbol s at a ∷ t1) → BehindPostfix s p t1 us q → BehindPrimary p ts us q
behind_sign {p = p} (a, e) b start r = b start a (subst (λ z. ReadsPrimary start z p) e r)

pub behind_connector : {s : Symbol} {p q : tree.Pattern} {ts t1 us : List Placed} → (a : ℕ) × (ts ≡ symbol s at a ∷ t1) → BehindConnector s p t1 us q → BehindParticle p ts us q
behind_connector {p = p} (a, e) b start r = b start a (subst (λ z. ReadsParticle start z p) e r)

-- items
pub start_read : {ts t1 t2 t3 : List Placed} {a : ℕ} {s : Symbol} {m : tree.Method} {b : ℕ} {p : tree.Pattern} → Words kw.start ts a t1 → t1 ≡ symbol s at b ∷ t2 → IsAssign s m → ReadsPattern t2 t3 p →
    ReadsItem ts t3 (tree.Item.start m p a)
start_read {t3 = t3} {a = a} {m = m} {p = p} w e i r =
    subst (λ z. ReadsItem z t3 (tree.Item.start m p a)) (sym (keyword_first w ∙ ap (λ z. keyword kw.start at a ∷ z) e)) (by.ReadsItem.start i r)

pub define_read : {ts t1 t2 t3 : List Placed} {n : Text} {a : ℕ} {s : Symbol} {m : tree.Method} {b : ℕ} {p : tree.Pattern} → ts ≡ ident n at a ∷ t1 → t1 ≡ symbol s at b ∷ t2 → IsAssign s m → ReadsPattern t2 t3 p →
    ReadsItem ts t3 (tree.Item.define n m p a)
define_read {t3 = t3} {n = n} {a = a} {m = m} {p = p} w e i r =
    subst (λ z. ReadsItem z t3 (tree.Item.define n m p a)) (sym (w ∙ ap (λ z. ident n at a ∷ z) e)) (by.define i r)

pub div_read : {ts t1 t2 t3 t4 : List Placed} {a b c : ℕ} {is : tree.Items} → Words kw.div ts a t1 → Signs open_brace t1 b t2 → ReadsItems t2 t3 is → Signs close_brace t3 c t4 → ReadsItem ts t4 (tree.Item.div is)
div_read {t2 = t2} {t4 = t4} {a = a} {is = is} w s r e =
    subst (λ z. ReadsItem z t4 (tree.Item.div is)) (sym (keyword_first w ∙ ap (λ z. keyword kw.div at a ∷ z) (symbol_first s)))
    (by.div (subst (λ z. ReadsItems t2 z is) (symbol_first e) r))

pub div_inner : (inner : Bool) (is : tree.Items) → AreInner inner is → IsInnerItem inner (tree.Item.div is)
div_inner false is h = tt
div_inner true is h = h

pub include_read : {ts t1 t2 t3 t4 : List Placed} {a : ℕ} {l : Text} {h : Option tree.Passed} {is : tree.Items} → Words kw.include ts a t1 → ReadsLiteral t1 t2 l → ReadsInherit t2 t3 h → ReadsInner t3 t4 is →
    ReadsItem ts t4 (tree.Item.include l h is a)
include_read {t4 = t4} {a = a} {l = l} {h = h} {is = is} w r i n = subst (λ z. ReadsItem z t4 (tree.Item.include l h is a)) (sym (keyword_first w)) (by.include r i n)

pub no_inner_read : {ts us : List Placed} → Eats open_brace ts false us → ReadsInner ts us tree.Items.no_item
no_inner_read {ts = ts} (e, h) = subst (λ z. ReadsInner ts z tree.Items.no_item) (sym e) by.no_inner

pub inner_item : (inner : Bool) (i : tree.Item) → IsInner i → IsInnerItem inner i
inner_item false i h = tt
inner_item true i h = h

-- the sign of a method
method_named : (t : Token) (a : ℕ) (v : Method) → IsMethod t a v → (s : Symbol) × (t ≡ symbol s) × IsAssign s (method_of v)
method_named (symbol Symbol.equals) a v e = (Symbol.equals, refl, subst (IsAssign Symbol.equals) (sym e) by.IsAssign.plain)
method_named (symbol Symbol.bar_equals) a v e = (Symbol.bar_equals, refl, subst (IsAssign Symbol.bar_equals) (sym e) by.IsAssign.choice)
method_named (symbol Symbol.ampersand_equals) a v e = (Symbol.ampersand_equals, refl, subst (IsAssign Symbol.ampersand_equals) (sym e) by.IsAssign.interleave)
method_named t a v e = absurd e

-- the name of a type
pub type_named : (t : Token) (a : ℕ) (v : src.TypeName) → IsTypeName t a v → IsType t a (type_of v)
type_named (cname p n) a v e = subst (IsType (cname p n) a) (sym e) by.IsType.prefixed
type_named (keyword kw.string) a v e = subst (IsType (keyword kw.string) a) (sym e) by.IsType.string
type_named (keyword kw.token) a v e = subst (IsType (keyword kw.token) a) (sym e) by.IsType.token
type_named t a v e = absurd e

method_first : {ts us : List Placed} {t : Token} {a : ℕ} {s : Symbol} → ts ≡ t at a ∷ us → t ≡ symbol s → ts ≡ symbol s at a ∷ us
method_first {us = us} {a = a} e f = e ∙ ap (λ z. z at a ∷ us) f

pub annotation_read : {ts us vs : List Placed} {v : Text × Text × ℕ} → Takes Part.prefixed_name IsPrefixedName ts (Ok v) us → ReadsBlock us vs → ReadsNext true ts vs None
annotation_read {us = us} {v = v} m b = (cname (v.0) (v.1), v.2, us, prefixed_first m, tt, b)

pub named_annotation_read : {ts us vs : List Placed} {v : Text × ℕ} → Takes Part.plain_name IsPlainName ts (Ok v) us → ReadsBlock us vs → ReadsNext true ts vs None
named_annotation_read {us = us} {v = v} m b = (ident (v.0), v.1, us, plain_first m, tt, b)

pub define_item_read : {ts t1 t2 t3 : List Placed} {v : Text × ℕ} {w : Method} {p : tree.Pattern} {i : tree.Item} → i ≡ tree.Item.define (v.0) (method_of w) p (v.1) → Takes Part.plain_name IsPlainName ts (Ok v) t1 →
    Takes Part.assign IsMethod t1 (Ok w) t2 → ReadsPattern t2 t3 p → ReadsItem ts t3 i × IsInner i
define_item_read {ts = ts} {t3 = t3} {w = w} e n m r =
    let k = method_named m.0 m.1 w m.4 in (subst (ReadsItem ts t3) (sym e) (define_read (plain_first n) (method_first m.2 k.1) k.2 r), subst IsInner (sym e) tt)

pub named_define_read : (i : Item) {ts t1 t2 t3 : List Placed} {v : Text × ℕ} {w : Method} {p : tree.Pattern} → item_of i ≡ tree.Item.define (v.0) (method_of w) p (v.1) → Takes Part.plain_name IsPlainName ts (Ok v) t1 →
    Takes Part.assign IsMethod t1 (Ok w) t2 → ReadsPattern t2 t3 p → ReadsNext true ts t3 (Some i)
named_define_read i {ts = ts} e n m r = let d = define_item_read e n m r in ((ts, by.ReadsBlocks.none, d.0), d.1)

pub start_item_read : {ts t1 t2 t3 : List Placed} {a : ℕ} {w : Method} {p : tree.Pattern} {i : tree.Item} → i ≡ tree.Item.start (method_of w) p a → Words kw.start ts a t1 →
    Takes Part.assign IsMethod t1 (Ok w) t2 → ReadsPattern t2 t3 p → ReadsItem ts t3 i × IsInner i
start_item_read {ts = ts} {t3 = t3} {w = w} e n m r =
    let k = method_named m.0 m.1 w m.4 in (subst (ReadsItem ts t3) (sym e) (start_read n (method_first m.2 k.1) k.2 r), subst IsInner (sym e) tt)

pub div_item_read : (inner : Bool) {ts t1 t2 t3 t4 : List Placed} {a b c : ℕ} {is : tree.Items} → Words kw.div ts a t1 → Signs open_brace t1 b t2 → ReadsItems t2 t3 is × AreInner inner is → Signs close_brace t3 c t4 →
    ReadsItem ts t4 (tree.Item.div is) × IsInnerItem inner (tree.Item.div is)
div_item_read inner {is = is} w s (r, h) e = (div_read w s r e, div_inner inner is h)

pub inner_items_read : {ts t1 t2 t3 : List Placed} {b : ℕ} {is : tree.Items} → (a : ℕ) × (ts ≡ symbol open_brace at a ∷ t1) → ReadsItems t1 t2 is × HasNoInclude is → Signs close_brace t2 b t3 → ReadsInner ts t3 is
inner_items_read {t1 = t1} {t3 = t3} {is = is} (a, e) (r, h) s = subst (λ z. ReadsInner z t3 is) (sym e) (by.inner (subst (λ z. ReadsItems t1 z is) (symbol_first s) r) h)
