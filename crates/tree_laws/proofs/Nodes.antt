-- What each pattern, name class and item in a tree has by itself, from the tokens that it is read from.
use Rattle.std.proofs.Common.{◌≡◌, ℕ, ◌≤◌, true, List, [], ◌∷◌, Option, refl, sym, ap, ◌∙◌, subst, encode_utf8_all, chars}
use Rattle.std.proofs.lemmas.Str.{chars-encodes}
use Rattle.std.proofs.Math.Utf8.{scalars}
use Rattle.std.specs.Prelude.{IsTrue, IsUtf8, ⊤}
use Rattle.rng_model.specs.Texts.{Text}
use Rattle.rng_model.specs.Names.{is_ncname, are_name_chars}
use Rattle.token_laws.specs.Tokens.{Keyword, Symbol, Token, keyword, ident, cname, ns_name, segment, symbol, Placed, ◌at◌}
use Rattle.token_laws.specs.Tokens as word
use Rattle.token_laws.specs.Spellings.{keyword_text}
use Rattle.token_laws.proofs.Runs.{keyword_names}
use Rattle.grammar_laws.specs.Trees.{Uri, Declaration, TypeName, Parameter, Passed, Class, Classes, Pattern, Patterns, more_patterns, Item, Items, Body}
use Rattle.grammar_laws.specs.Grammar.{IsAnyId, ReadsUri, ReadsDeclaration, ReadsDeclarations, ReadsClass, ReadsAlternatives, ReadsSimple, ReadsBareClass, ReadsClassExcept, IsType, ReadsParameters, ReadsBraces, ReadsInherit, IsConnector, IsPostfix, ReadsPattern, ReadsMembers, ReadsParticle, ReadsPrimary, ReadsBare, ReadsItems, ReadsItem, ReadsInner, DerivesBody}
use Rattle.grammar_laws.specs.Grammar as by
use Rattle.tree_laws.specs.WholeBodies.{Tests, IsLocalName, PassesClass, PassClasses, Passes, PassPatterns, PassesItem, PassItems, PassesBody, HasOne, HasOneClass, HasMembers, HasClassMembers, HasNcname, IsUriWithin, IsDeclarationWithin, AreDeclarationsWithin, IsTypeWithin, AreParametersWithin, IsPassedWithin, IsClassWithin, IsPatternWithin, IsItemWithin}
use Rattle.tree_laws.proofs.Picks.{Picks, done, skip, pick, pick_literal, pick_block, pick_blocks, pick_declaration, pick_simple, pick_class, pick_braces, pick_inherit, pick_particle, pick_item}

-- all at once
abbrev pub whole : ℕ → Tests
whole end = record { pattern = λ p. HasMembers p × IsPatternWithin end p; class = λ c. HasClassMembers c × HasNcname c × IsClassWithin end c; item = IsItemWithin end }

-- the names that become local names of classes
abbrev pub NamesNcname : Token → Type 0
NamesNcname (ident n) = IsLocalName n
NamesNcname (cname p n) = IsLocalName n
NamesNcname t = ⊤

abbrev pub AreGood : ℕ → List Placed → Type 0
AreGood end [] = ⊤
AreGood end (t at a ∷ ts) = (a ≤ end) × NamesNcname t × AreGood end ts

-- and of the tokens behind
pub behind : (end : ℕ) {ts us : List Placed} {xs : List ℕ} → Picks ts us xs → AreGood end ts → AreGood end us
behind end done g = g
behind end (skip p) g = behind end p g.2
behind end (pick p) g = behind end p g.2

keyword_plain : (k : Keyword) → (encode_utf8_all (keyword_text k) ≡ keyword_text k) × (scalars (keyword_text k) ≡ true)
unfolding lib.Utf8.encode
keyword_plain word.attribute = (refl, refl)
keyword_plain word.default = (refl, refl)
keyword_plain word.datatypes = (refl, refl)
keyword_plain word.div = (refl, refl)
keyword_plain word.element = (refl, refl)
keyword_plain word.empty = (refl, refl)
keyword_plain word.external = (refl, refl)
keyword_plain word.grammar = (refl, refl)
keyword_plain word.include = (refl, refl)
keyword_plain word.inherit = (refl, refl)
keyword_plain word.list = (refl, refl)
keyword_plain word.mixed = (refl, refl)
keyword_plain word.namespace = (refl, refl)
keyword_plain word.not_allowed = (refl, refl)
keyword_plain word.parent = (refl, refl)
keyword_plain word.start = (refl, refl)
keyword_plain word.string = (refl, refl)
keyword_plain word.text = (refl, refl)
keyword_plain word.token = (refl, refl)

keyword_utf8 : (k : Keyword) → IsUtf8 (keyword_text k)
keyword_utf8 k = let h = keyword_plain k in (keyword_text k, (h.1, h.0))

keyword_ncname : (k : Keyword) → IsTrue (is_ncname (keyword_text k))
unfolding is_ncname
keyword_ncname k =
    let h = keyword_plain k in
    ap are_name_chars (ap chars (sym h.0) ∙ chars-encodes (keyword_text k) h.1) ∙ keyword_names k

any_ncname : (t : Token) (n : Text) → IsAnyId t n → NamesNcname t → IsLocalName n
any_ncname (keyword k) n i g = subst IsLocalName (sym i) (keyword_utf8 k, keyword_ncname k)
any_ncname (ident m) n i g = subst IsLocalName (sym i) g
any_ncname (cname p m) n i g = absurd i
any_ncname (ns_name p) n i g = absurd i
any_ncname (segment s) n i g = absurd i
any_ncname (symbol s) n i g = absurd i

-- declarations
uri_within : (end : ℕ) {ts us : List Placed} {u : Uri} → ReadsUri ts us u → AreGood end ts → IsUriWithin end u
uri_within end (by.literal r) g = tt
uri_within end by.inherit g = g.0

declaration_within : (end : ℕ) {ts us : List Placed} {d : Declaration} → ReadsDeclaration ts us d → AreGood end ts → IsDeclarationWithin end d
declaration_within end (by.namespace i r) g = (g.0, uri_within end r g.2.2.2)
declaration_within end (by.default r) g = (g.0, uri_within end r g.2.2.2)
declaration_within end (by.default_prefix i r) g = (g.0, uri_within end r g.2.2.2.2)
declaration_within end (by.datatypes i r) g = g.0

pub declarations_within : (end : ℕ) {ts us : List Placed} {ds : List Declaration} → ReadsDeclarations ts us ds → AreGood end ts → AreDeclarationsWithin end ds
declarations_within end by.ReadsDeclarations.none g = tt
declarations_within end (by.ReadsDeclarations.more r s) g = (declaration_within end r g, declarations_within end s (behind end (pick_declaration r) g))

-- name classes
one_class : {ts us : List Placed} {cs : Classes} → ReadsAlternatives ts us cs → HasOneClass cs
one_class (by.ReadsAlternatives.last r) = tt
one_class (by.ReadsAlternatives.more r s) = tt

mutual
  pub whole_class : (end : ℕ) {ts us : List Placed} {c : Class} → ReadsClass ts us c → AreGood end ts → PassesClass (whole end) c
  whole_class end (by.ReadsClass.single r) g = whole_simple end r g
  whole_class end (by.ReadsClass.choice r s) g = ((one_class s, tt, tt), (whole_simple end r g, whole_alternatives end s (behind end (pick_simple r) g).2))

  pub whole_alternatives : (end : ℕ) {ts us : List Placed} {cs : Classes} → ReadsAlternatives ts us cs → AreGood end ts → PassClasses (whole end) cs
  whole_alternatives end (by.ReadsAlternatives.last r) g = (whole_simple end r g, tt)
  whole_alternatives end (by.ReadsAlternatives.more r s) g = (whole_simple end r g, whole_alternatives end s (behind end (pick_simple r) g).2)

  pub whole_simple : (end : ℕ) {ts us : List Placed} {c : Class} → ReadsSimple ts us c → AreGood end ts → PassesClass (whole end) c
  whole_simple end (by.simple b r f) g = whole_bare_class end r (behind end (pick_blocks b) g)
  whole_simple end (by.ReadsSimple.except b r f) g = whole_class_except end r (behind end (pick_blocks b) g)

  pub whole_bare_class : (end : ℕ) {ts us : List Placed} {c : Class} → ReadsBareClass ts us c → AreGood end ts → PassesClass (whole end) c
  whole_bare_class end (by.plain {t = t} {n = n} i) g = (tt, any_ncname t n i g.1, g.0)
  whole_bare_class end by.prefixed g = (tt, g.1, g.0)
  whole_bare_class end (by.ReadsBareClass.parentheses r) g = whole_class end r g.2
  whole_bare_class end by.any g = (tt, tt, g.0)
  whole_bare_class end by.ReadsBareClass.namespace g = (tt, tt, g.0)

  pub whole_class_except : (end : ℕ) {ts us : List Placed} {c : Class} → ReadsClassExcept ts us c → AreGood end ts → PassesClass (whole end) c
  whole_class_except end (by.any_except r s) g = ((tt, tt, g.0), whole_bare_class end s (behind end (pick_blocks r) g.2.2))
  whole_class_except end (by.namespace_except r s) g = ((tt, tt, g.0), whole_bare_class end s (behind end (pick_blocks r) g.2.2))

-- types, parameters and `inherit`
type_within : (end : ℕ) {t : Token} {a : ℕ} {of : TypeName} → IsType t a of → a ≤ end → IsTypeWithin end of
type_within end by.IsType.prefixed h = h
type_within end by.IsType.string h = h
type_within end by.IsType.token h = h

parameters_within : (end : ℕ) {ts us : List Placed} {ps : List Parameter} → ReadsParameters ts us ps → AreGood end ts → AreParametersWithin end ps
parameters_within end by.ReadsParameters.none g = tt
parameters_within end (by.ReadsParameters.more b i r s) g =
    let h = behind end (pick_blocks b) g in
    (h.0, parameters_within end s (behind end (pick_literal r) h.2.2))

braces_within : (end : ℕ) {ts us : List Placed} {ps : List Parameter} → ReadsBraces ts us ps → AreGood end ts → AreParametersWithin end ps
braces_within end by.ReadsBraces.none g = tt
braces_within end (by.ReadsBraces.braces r) g = parameters_within end r g.2

passed_within : (end : ℕ) {ts us : List Placed} {h : Option Passed} → ReadsInherit ts us h → AreGood end ts → IsPassedWithin end h
passed_within end by.ReadsInherit.none g = tt
passed_within end (by.ReadsInherit.passed i) g = g.0

-- patterns and items
one_member : {s : Symbol} {ts us : List Placed} {ps : Patterns} → ReadsMembers s ts us ps → HasOne ps
one_member (by.ReadsMembers.last r) = tt
one_member (by.ReadsMembers.more r rs) = tt

joined : (end : ℕ) (p : Pattern) (ps : Patterns) {s : Symbol} {join : Patterns → Pattern} → IsConnector s join → HasOne ps → Passes (whole end) p → PassPatterns (whole end) ps →
    Passes (whole end) (join (more_patterns p ps))
joined end p ps by.IsConnector.group h w ws = ((h, tt), (w, ws))
joined end p ps by.IsConnector.choice h w ws = ((h, tt), (w, ws))
joined end p ps by.IsConnector.interleave h w ws = ((h, tt), (w, ws))

repeated : (end : ℕ) (p : Pattern) {s : Symbol} {repeat : Pattern → Pattern} → IsPostfix s repeat → Passes (whole end) p → Passes (whole end) (repeat p)
repeated end p by.IsPostfix.optional w = ((tt, tt), w)
repeated end p by.IsPostfix.zero_or_more w = ((tt, tt), w)
repeated end p by.IsPostfix.one_or_more w = ((tt, tt), w)

mutual
  pub whole_pattern : (end : ℕ) {ts us : List Placed} {p : Pattern} → ReadsPattern ts us p → AreGood end ts → Passes (whole end) p
  whole_pattern end (by.ReadsPattern.single r) g = whole_particle end r g
  whole_pattern end (by.chain {p = p} {ps = ps} i r rs made) g =
      subst (Passes (whole end)) (sym made) (joined end p ps i (one_member rs) (whole_particle end r g) (whole_members end rs (behind end (pick_particle r) g).2))

  pub whole_members : (end : ℕ) {s : Symbol} {ts us : List Placed} {ps : Patterns} → ReadsMembers s ts us ps → AreGood end ts → PassPatterns (whole end) ps
  whole_members end (by.ReadsMembers.last r) g = (whole_particle end r g, tt)
  whole_members end (by.ReadsMembers.more r rs) g = (whole_particle end r g, whole_members end rs (behind end (pick_particle r) g).2)

  pub whole_particle : (end : ℕ) {ts us : List Placed} {p : Pattern} → ReadsParticle ts us p → AreGood end ts → Passes (whole end) p
  whole_particle end (by.once r) g = whole_primary end r g
  whole_particle end (by.postfix {p = p} i r f made) g = subst (Passes (whole end)) (sym made) (repeated end p i (whole_primary end r g))

  pub whole_primary : (end : ℕ) {ts us : List Placed} {p : Pattern} → ReadsPrimary ts us p → AreGood end ts → Passes (whole end) p
  whole_primary end (by.primary b r f) g = whole_bare end r (behind end (pick_blocks b) g)
  whole_primary end (by.ReadsPrimary.except b i br c r f) g =
      let h = behind end (pick_blocks b) g in
      let k = behind end (pick_braces br) h.2 in
      ((tt, (type_within end i h.0, braces_within end br h.2)), whole_bare end r (behind end (pick_blocks c) k.2))

  pub whole_bare : (end : ℕ) {ts us : List Placed} {p : Pattern} → ReadsBare ts us p → AreGood end ts → Passes (whole end) p
  whole_bare end (by.element r s) g = ((tt, g.0), whole_class end r g.2, whole_pattern end s (behind end (pick_class r) g.2).2)
  whole_bare end (by.attribute r s) g = ((tt, g.0), whole_class end r g.2, whole_pattern end s (behind end (pick_class r) g.2).2)
  whole_bare end (by.list r) g = ((tt, g.0), whole_pattern end r g.2.2)
  whole_bare end (by.mixed r) g = ((tt, tt), whole_pattern end r g.2.2)
  whole_bare end by.ref g = (tt, g.0)
  whole_bare end by.parent g = (tt, g.0)
  whole_bare end by.empty g = (tt, tt)
  whole_bare end by.text g = (tt, tt)
  whole_bare end by.not_allowed g = (tt, tt)
  whole_bare end (by.ReadsBare.literal r) g = (tt, tt)
  whole_bare end (by.value i r) g = (tt, type_within end i g.0)
  whole_bare end (by.data_type i r) g = (tt, (type_within end i g.0, braces_within end r g.2))
  whole_bare end (by.external r s) g = (tt, (g.0, passed_within end s (behind end (pick_literal r) g.2)))
  whole_bare end (by.grammar r) g = ((tt, tt), whole_items end r g.2.2)
  whole_bare end (by.ReadsBare.parentheses r) g = whole_pattern end r g.2

  pub whole_items : (end : ℕ) {ts us : List Placed} {is : Items} → ReadsItems ts us is → AreGood end ts → PassItems (whole end) is
  whole_items end by.no_items g = tt
  whole_items end (by.item b r s) g = let h = behind end (pick_blocks b) g in (whole_item end r h, whole_items end s (behind end (pick_item r) h))
  whole_items end (by.annotation i r s) g = whole_items end s (behind end (pick_block r) g.2)

  pub whole_item : (end : ℕ) {ts us : List Placed} {i : Item} → ReadsItem ts us i → AreGood end ts → PassesItem (whole end) i
  whole_item end (by.ReadsItem.start i r) g = (g.0, whole_pattern end r g.2.2)
  whole_item end (by.define i r) g = (g.0, whole_pattern end r g.2.2)
  whole_item end (by.div r) g = (tt, whole_items end r g.2.2)
  whole_item end (by.include r s u) g =
      let h = behind end (pick_literal r) g.2 in
      ((g.0, passed_within end s h), whole_inner end u (behind end (pick_inherit s) h))

  pub whole_inner : (end : ℕ) {ts us : List Placed} {is : Items} → ReadsInner ts us is → AreGood end ts → PassItems (whole end) is
  whole_inner end by.no_inner g = tt
  whole_inner end (by.inner r h) g = whole_items end r g.2

pub whole_body : (end : ℕ) {ts : List Placed} {b : Body} → DerivesBody ts b → AreGood end ts → PassesBody (whole end) b
whole_body end (by.DerivesBody.pattern r) g = whole_pattern end r g
whole_body end (by.DerivesBody.items r) g = whole_items end r g
