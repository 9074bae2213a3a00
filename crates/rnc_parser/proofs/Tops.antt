-- Whole files: what stands behind the parts that tell a pattern from items.
use Rattle.std.proofs.Common.{◌≡◌, ℕ, true, false, inl, List, [], ◌∷◌, ◌++◌, map, Ok, Err, refl, sym, ap, ◌∙◌, subst}
use Rattle.rng_model.specs.Texts.{Text}
use Rattle.token_laws.specs.Tokens.{Placed, ident, cname, ◌at◌}
use Rattle.grammar_laws.specs.Trees as tree
use Rattle.grammar_laws.specs.Trees.{items_of}
use Rattle.grammar_laws.specs.Grammar.{ReadsBlock, ReadsBlocks, ReadsFollow, ReadsPattern, ReadsItem, ReadsItems, DerivesBody}
use Rattle.grammar_laws.specs.Grammar as by
use Rattle.syntax_laws.specs.Expecting.{Part, first, Stands}
use Rattle.syntax_laws.specs.Expecting as part
use Rattle.rnc_parser.specs.Reading.{Takes, AtEnd, Fails, at_token, no_memory, Parsed, failed, IsPlainName, IsPrefixedName, IsMethod}
use Rattle.rnc_parser.specs.Parts.{ReadsOpen, BehindType, BehindPrimary, BehindParticle, BehindBare, ReadsMoreItems, ReadsBody, BehindName}
use Rattle.schema_tree.specs.Trees.{pattern_of, item_of}
use Rattle.rnc_parser.specs.declared.stop.Stop.{Stop}
use Rattle.schema_tree.specs.declared.tree.Body.{Body}
use Rattle.schema_tree.specs.declared.tree.Item.{Item, Define}
use Rattle.schema_tree.specs.declared.tree.Method.{Method}
use Rattle.schema_tree.specs.declared.tree.Pattern.{Pattern, Ref}
use Rattle.schema_tree.proofs.Folds as fold
use Rattle.rnc_parser.proofs.Shapes as shape
use Rattle.rnc_parser.proofs.Steps.{turn, run_on, stands, stuck, plain_first, prefixed_first}

-- the parts that are left are read
pub read_rest : {A : Type 0} {R : List Placed → List Placed → A → Type 0} {v : A} {start ys : List Part} {ts us vs : List Placed} → Stands start ts ys us → Parsed ys R us (Ok v) vs → Stands start ts [] vs
read_rest s m = record { runs = λ rest. run_on (s.runs rest) ((stands m).runs rest) }

-- the parts that are left fail
pub inside_rest : {A : Type 0} {R : List Placed → List Placed → A → Type 0} {d : Stop} {start ys : List Part} {ts us vs : List Placed} → Stands start ts ys us → Parsed ys R us (Err d) vs → Fails start ts vs d
inside_rest s (failed (at_token (zs, m, n))) = at_token (zs, record { runs = λ rest. run_on (s.runs rest) (m.runs rest) }, n)
inside_rest s (failed no_memory) = no_memory

-- the end of the tokens
pub at_end : {start ys : List Part} {ts us : List Placed} → Stands start ts (part.end ∷ ys) us → us ≡ [] → Stands start ts ys us
at_end s e = turn s (ap (λ z. part.end_move (first z)) e)

pub not_at_end : (d : Stop) {start ys : List Part} {ts us : List Placed} → Stands start ts (part.end ∷ ys) us → AtEnd us (Err d) → Fails start ts us d
not_at_end Stop.Syntax s h = stuck s h
not_at_end Stop.OutOfMemory s h = no_memory

-- bodies
pub pattern_body : {ts us : List Placed} {p : tree.Pattern} → ReadsPattern ts us p → us ≡ [] → DerivesBody ts (tree.Body.pattern p)
pattern_body {ts = ts} {p = p} r e = by.DerivesBody.pattern (subst (λ z. ReadsPattern ts z p) e r)

pub items_body : {ts us : List Placed} {is : tree.Items} → ReadsItems ts us is → us ≡ [] → DerivesBody ts (tree.Body.items is)
items_body {ts = ts} {is = is} r e = by.DerivesBody.items (subst (λ z. ReadsItems ts z is) e r)

-- items behind an annotation
pub named_annotation : {ts t1 t2 us : List Placed} {v : Text × ℕ} {is : tree.Items} → Takes Part.plain_name IsPlainName ts (Ok v) t1 → ReadsBlock t1 t2 → ReadsItems t2 us is → ReadsItems ts us is
named_annotation {us = us} {is = is} m b r = subst (λ z. ReadsItems z us is) (sym (plain_first m)) (by.ReadsItems.annotation tt b r)

pub prefixed_annotation : {ts t1 t2 us : List Placed} {v : Text × Text × ℕ} {is : tree.Items} → Takes Part.prefixed_name IsPrefixedName ts (Ok v) t1 → ReadsBlock t1 t2 → ReadsItems t2 us is → ReadsItems ts us is
prefixed_annotation {us = us} {is = is} m b r = subst (λ z. ReadsItems z us is) (sym (prefixed_first m)) (by.ReadsItems.annotation tt b r)

-- items behind a first one
pub first_item : (none before : List Item) (i : Item) {start ts t1 us : List Placed} {js : List tree.Item} → none ≡ [] → before ≡ none ++ i ∷ [] → ReadsBlocks start ts → ReadsItem ts t1 (item_of i) →
    ReadsMoreItems false (map item_of before) t1 us js → ReadsItems start us (items_of js)
first_item none before i {start = start} {us = us} e f b d (ks, g, r, h) =
    let same = g ∙ ap (λ z. map item_of z ++ ks) (f ∙ ap (λ z. z ++ i ∷ []) e) in
    subst (λ z. ReadsItems start us (items_of z)) (sym same) (by.ReadsItems.item b d r)

-- a definition, whose name is passed
pub define_behind : {n : Text} {a : ℕ} {ts t1 t2 : List Placed} (w : Method) (q : Pattern) → Takes Part.assign IsMethod ts (Ok w) t1 → ReadsPattern t1 t2 (pattern_of q) →
    ReadsItem (ident n at a ∷ ts) t2 (item_of (Define n w q a))
define_behind {n = n} {a = a} w q m r = (shape.define_item_read {v = (n, a)} (fold.item_define n w q a) (ident n, a, refl, refl, (refl, refl)) m r).0

pub behind_name : (b : Body) {ts t1 us : List Placed} {v : Text × ℕ} → Takes Part.plain_name IsPlainName ts (Ok v) t1 → {start : List Placed} → ReadsBlocks start ts → BehindName (v.0) (v.1) t1 us b → ReadsBody start us b
behind_name b m {start = start} bl r = r start (subst (ReadsBlocks start) (plain_first m) bl)

-- patterns that begin with a reference or a type
pub reference_behind : {ts t1 us : List Placed} {v : Text × ℕ} {q : tree.Pattern} → Takes Part.plain_name IsPlainName ts (Ok v) t1 → {start : List Placed} → ReadsBlocks start ts → BehindBare (pattern_of (Ref (v.0) (v.1))) t1 us q → ReadsPattern start us q
reference_behind {ts = ts} {t1 = t1} {v = v} m {start = start} bl r = r start ts bl (inl (subst (by.ReadsBare ts t1) (sym (fold.pattern_ref (v.0) (v.1))) (shape.reference_read m)))

pub type_behind : {ts t1 t2 us : List Placed} {v : Text × Text × ℕ} {p q : tree.Pattern} → Takes Part.prefixed_name IsPrefixedName ts (Ok v) t1 → BehindType true (tree.prefixed_type (v.0) (v.1) (v.2)) t1 t2 p → BehindBare p t2 us q → ReadsPattern ts us q
type_behind {ts = ts} {t2 = t2} {v = v} {p = p} m o r =
    r ts ts by.ReadsBlocks.none (subst (λ z. ReadsOpen true z t2 p) (sym (prefixed_first m)) (o (cname (v.0) (v.1)) (v.2) by.IsType.prefixed))

pub bare_behind : {p q r : tree.Pattern} {ts t1 t2 us : List Placed} → ReadsFollow ts t1 → BehindPrimary p t1 t2 q → BehindParticle q t2 us r → BehindBare p ts us r
bare_behind f g h start vs b o = h start (g start (shape.primary_read b o f))
