-- What is read depends on the tokens before the rest alone: with any other rest it is read as well.
use Rattle.std.proofs.Common.{◌≡◌, List, [], ◌∷◌, ◌++◌, Option, refl, sym, ap, ◌∙◌, subst, append_assoc}
use Rattle.rng_model.specs.Texts.{Text}
use Rattle.token_laws.specs.Tokens.{Token, Symbol, keyword, ident, cname, ns_name, segment, symbol, Placed, ◌at◌, open_brace, close_brace, open_paren, close_paren, open_bracket, close_bracket, equals, comma, bar, star, minus, tilde, follows}
use Rattle.token_laws.specs.Tokens as word
use Rattle.grammar_laws.specs.Trees.{Uri, Declaration, Parameter, Passed, Class, Classes, Pattern, Patterns, Item, Items}
use Rattle.grammar_laws.specs.Grammar.{ReadsLiteral, ReadsFilling, ReadsBlock, ReadsBlocks, ReadsFollow, ReadsUri, ReadsDeclaration, ReadsDeclarations, ReadsClass, ReadsAlternatives, ReadsSimple, ReadsBareClass, ReadsClassExcept, ReadsParameters, ReadsBraces, ReadsInherit, ReadsPattern, ReadsMembers, ReadsParticle, ReadsPrimary, ReadsBare, ReadsItems, ReadsItem, ReadsInner}
use Rattle.grammar_laws.specs.Grammar as by

-- f puts some tokens before a list
abbrev pub IsFront : (List Placed → List Placed) → Type 0
IsFront f = (xs : List Placed) × ((vs : List Placed) → xs ++ vs ≡ f vs)

none : IsFront (λ vs. vs)
none = ([], λ vs. refl)

cons : (x : Placed) {f : List Placed → List Placed} → IsFront f → IsFront (λ vs. x ∷ f vs)
cons x (xs, e) = (x ∷ xs, λ vs. ap (λ z. x ∷ z) (e vs))

then : {f g : List Placed → List Placed} → IsFront f → IsFront g → IsFront (λ vs. f (g vs))
then {f = f} {g = g} (xs, e) (ys, h) = (xs ++ ys, λ vs. append_assoc xs ys vs ∙ (ap (λ z. xs ++ z) (h vs) ∙ e (g vs)))

-- the tokens before the rest, and that x is read with any rest
abbrev pub Part : {A : Type 0} → (List Placed → List Placed → A → Type 0) → List Placed → List Placed → A → Type 0
Part Reads ts us x = (f : (List Placed → List Placed)) × IsFront f × (ts ≡ f us) × ((vs : List Placed) → Reads (f vs) vs x)

abbrev pub Tokens : (List Placed → List Placed → Type 0) → List Placed → List Placed → Type 0
Tokens Reads ts us = (f : (List Placed → List Placed)) × IsFront f × (ts ≡ f us) × ((vs : List Placed) → Reads (f vs) vs)

pub part_literal : {ts us : List Placed} {l : Text} → ReadsLiteral ts us l → Part ReadsLiteral ts us l
part_literal (by.one {s = s} {a = a}) = (λ vs. segment s at a ∷ vs, cons (segment s at a) none, refl, λ vs. by.one)
part_literal (by.joined {s = s} {a = a} {b = b} r made) =
    let m = part_literal r in
    (λ vs. segment s at a ∷ symbol tilde at b ∷ m.0 vs, cons (segment s at a) (cons (symbol tilde at b) m.1), ap (λ z. segment s at a ∷ symbol tilde at b ∷ z) m.2, λ vs. by.joined (m.3 vs) made)

pub part_filling : {ts us : List Placed} → ReadsFilling ts us → Tokens ReadsFilling ts us
part_filling (by.closed {a = a}) = (λ vs. symbol close_bracket at a ∷ vs, cons (symbol close_bracket at a) none, refl, λ vs. by.closed)
part_filling (by.passed {t = t} {a = a} i r) =
    let m = part_filling r in
    (λ vs. t at a ∷ m.0 vs, cons (t at a) m.1, ap (λ z. t at a ∷ z) m.2, λ vs. by.passed i (m.3 vs))
part_filling (by.nested {a = a} r s) =
    let m = part_filling r in
    let n = part_filling s in
    (λ vs. symbol open_bracket at a ∷ m.0 (n.0 vs), cons (symbol open_bracket at a) (then m.1 n.1), ap (λ z. symbol open_bracket at a ∷ z) (m.2 ∙ ap m.0 n.2), λ vs. by.nested (m.3 (n.0 vs)) (n.3 vs))

pub part_block : {ts us : List Placed} → ReadsBlock ts us → Tokens ReadsBlock ts us
part_block (by.block {a = a} r) =
    let m = part_filling r in
    (λ vs. symbol open_bracket at a ∷ m.0 vs, cons (symbol open_bracket at a) m.1, ap (λ z. symbol open_bracket at a ∷ z) m.2, λ vs. by.block (m.3 vs))

pub part_blocks : {ts us : List Placed} → ReadsBlocks ts us → Tokens ReadsBlocks ts us
part_blocks by.ReadsBlocks.none = (λ vs. vs, none, refl, λ vs. by.ReadsBlocks.none)
part_blocks (by.ReadsBlocks.more b r) =
    let m = part_block b in
    let n = part_blocks r in
    (λ vs. m.0 (n.0 vs), then m.1 n.1, m.2 ∙ ap m.0 n.2, λ vs. by.ReadsBlocks.more (m.3 (n.0 vs)) (n.3 vs))

pub part_follow : {ts us : List Placed} → ReadsFollow ts us → Tokens ReadsFollow ts us
part_follow by.ReadsFollow.none = (λ vs. vs, none, refl, λ vs. by.ReadsFollow.none)
part_follow (by.ReadsFollow.more {t = t} {a = a} {b = b} i r s) =
    let m = part_block r in
    let n = part_follow s in (
      λ vs. symbol follows at a ∷ t at b ∷ m.0 (n.0 vs),
      cons (symbol follows at a) (cons (t at b) (then m.1 n.1)),
      ap (λ z. symbol follows at a ∷ t at b ∷ z) (m.2 ∙ ap m.0 n.2),
      λ vs. by.ReadsFollow.more i (m.3 (n.0 vs)) (n.3 vs),
    )

pub part_uri : {ts us : List Placed} {u : Uri} → ReadsUri ts us u → Part ReadsUri ts us u
part_uri (by.literal r) = let m = part_literal r in (m.0, m.1, m.2, λ vs. by.literal (m.3 vs))
part_uri (by.inherit {a = a}) = (λ vs. keyword word.inherit at a ∷ vs, cons (keyword word.inherit at a) none, refl, λ vs. by.inherit)

pub part_declaration : {ts us : List Placed} {d : Declaration} → ReadsDeclaration ts us d → Part ReadsDeclaration ts us d
part_declaration (by.namespace {t = t} {a = a} {b = b} {c = c} i r) =
    let m = part_uri r in (
      λ vs. keyword word.namespace at a ∷ t at b ∷ symbol equals at c ∷ m.0 vs,
      cons (keyword word.namespace at a) (cons (t at b) (cons (symbol equals at c) m.1)),
      ap (λ z. keyword word.namespace at a ∷ t at b ∷ symbol equals at c ∷ z) m.2,
      λ vs. by.namespace i (m.3 vs),
    )
part_declaration (by.default {a = a} {b = b} {c = c} r) =
    let m = part_uri r in (
      λ vs. keyword word.default at a ∷ keyword word.namespace at b ∷ symbol equals at c ∷ m.0 vs,
      cons (keyword word.default at a) (cons (keyword word.namespace at b) (cons (symbol equals at c) m.1)),
      ap (λ z. keyword word.default at a ∷ keyword word.namespace at b ∷ symbol equals at c ∷ z) m.2,
      λ vs. by.default (m.3 vs),
    )
part_declaration (by.default_prefix {t = t} {a = a} {b = b} {c = c} {d = d} i r) =
    let m = part_uri r in (
      λ vs. keyword word.default at a ∷ keyword word.namespace at b ∷ t at c ∷ symbol equals at d ∷ m.0 vs,
      cons (keyword word.default at a) (cons (keyword word.namespace at b) (cons (t at c) (cons (symbol equals at d) m.1))),
      ap (λ z. keyword word.default at a ∷ keyword word.namespace at b ∷ t at c ∷ symbol equals at d ∷ z) m.2,
      λ vs. by.default_prefix i (m.3 vs),
    )
part_declaration (by.datatypes {t = t} {a = a} {b = b} {c = c} i r) =
    let m = part_literal r in (
      λ vs. keyword word.datatypes at a ∷ t at b ∷ symbol equals at c ∷ m.0 vs,
      cons (keyword word.datatypes at a) (cons (t at b) (cons (symbol equals at c) m.1)),
      ap (λ z. keyword word.datatypes at a ∷ t at b ∷ symbol equals at c ∷ z) m.2,
      λ vs. by.datatypes i (m.3 vs),
    )

pub part_declarations : {ts us : List Placed} {ds : List Declaration} → ReadsDeclarations ts us ds → Part ReadsDeclarations ts us ds
part_declarations by.ReadsDeclarations.none = (λ vs. vs, none, refl, λ vs. by.ReadsDeclarations.none)
part_declarations (by.ReadsDeclarations.more r s) =
    let m = part_declaration r in
    let n = part_declarations s in
    (λ vs. m.0 (n.0 vs), then m.1 n.1, m.2 ∙ ap m.0 n.2, λ vs. by.ReadsDeclarations.more (m.3 (n.0 vs)) (n.3 vs))

mutual
  pub part_class : {ts us : List Placed} {c : Class} → ReadsClass ts us c → Part ReadsClass ts us c
  part_class (by.ReadsClass.single r) = let m = part_simple r in (m.0, m.1, m.2, λ vs. by.ReadsClass.single (m.3 vs))
  part_class (by.ReadsClass.choice {a = a} r s) =
      let m = part_simple r in
      let n = part_alternatives s in (
        λ vs. m.0 (symbol bar at a ∷ n.0 vs),
        then m.1 (cons (symbol bar at a) n.1),
        m.2 ∙ ap (λ z. m.0 (symbol bar at a ∷ z)) n.2,
        λ vs. by.ReadsClass.choice (m.3 (symbol bar at a ∷ n.0 vs)) (n.3 vs),
      )

  pub part_alternatives : {ts us : List Placed} {cs : Classes} → ReadsAlternatives ts us cs → Part ReadsAlternatives ts us cs
  part_alternatives (by.ReadsAlternatives.last r) = let m = part_simple r in (m.0, m.1, m.2, λ vs. by.ReadsAlternatives.last (m.3 vs))
  part_alternatives (by.ReadsAlternatives.more {a = a} r s) =
      let m = part_simple r in
      let n = part_alternatives s in (
        λ vs. m.0 (symbol bar at a ∷ n.0 vs),
        then m.1 (cons (symbol bar at a) n.1),
        m.2 ∙ ap (λ z. m.0 (symbol bar at a ∷ z)) n.2,
        λ vs. by.ReadsAlternatives.more (m.3 (symbol bar at a ∷ n.0 vs)) (n.3 vs),
      )

  pub part_simple : {ts us : List Placed} {c : Class} → ReadsSimple ts us c → Part ReadsSimple ts us c
  part_simple (by.simple b r f) =
      let m = part_blocks b in
      let n = part_bare_class r in
      let o = part_follow f in
      (λ vs. m.0 (n.0 (o.0 vs)), then m.1 (then n.1 o.1), m.2 ∙ ap m.0 (n.2 ∙ ap n.0 o.2), λ vs. by.simple (m.3 (n.0 (o.0 vs))) (n.3 (o.0 vs)) (o.3 vs))
  part_simple (by.ReadsSimple.except b r f) =
      let m = part_blocks b in
      let n = part_class_except r in
      let o = part_follow f in
      (λ vs. m.0 (n.0 (o.0 vs)), then m.1 (then n.1 o.1), m.2 ∙ ap m.0 (n.2 ∙ ap n.0 o.2), λ vs. by.ReadsSimple.except (m.3 (n.0 (o.0 vs))) (n.3 (o.0 vs)) (o.3 vs))

  pub part_bare_class : {ts us : List Placed} {c : Class} → ReadsBareClass ts us c → Part ReadsBareClass ts us c
  part_bare_class (by.plain {t = t} {a = a} i) = (λ vs. t at a ∷ vs, cons (t at a) none, refl, λ vs. by.plain i)
  part_bare_class (by.prefixed {p = p} {n = n} {a = a}) = (λ vs. cname p n at a ∷ vs, cons (cname p n at a) none, refl, λ vs. by.prefixed)
  part_bare_class (by.ReadsBareClass.parentheses {a = a} {b = b} r) =
      let m = part_class r in (
        λ vs. symbol open_paren at a ∷ m.0 (symbol close_paren at b ∷ vs),
        cons (symbol open_paren at a) (then m.1 (cons (symbol close_paren at b) none)),
        ap (λ z. symbol open_paren at a ∷ z) m.2,
        λ vs. by.ReadsBareClass.parentheses (m.3 (symbol close_paren at b ∷ vs)),
      )
  part_bare_class (by.any {a = a}) = (λ vs. symbol star at a ∷ vs, cons (symbol star at a) none, refl, λ vs. by.any)
  part_bare_class (by.ReadsBareClass.namespace {p = p} {a = a}) = (λ vs. ns_name p at a ∷ vs, cons (ns_name p at a) none, refl, λ vs. by.ReadsBareClass.namespace)

  pub part_class_except : {ts us : List Placed} {c : Class} → ReadsClassExcept ts us c → Part ReadsClassExcept ts us c
  part_class_except (by.any_except {a = a} {b = b} r s) =
      let m = part_blocks r in
      let n = part_bare_class s in (
        λ vs. symbol star at a ∷ symbol minus at b ∷ m.0 (n.0 vs),
        cons (symbol star at a) (cons (symbol minus at b) (then m.1 n.1)),
        ap (λ z. symbol star at a ∷ symbol minus at b ∷ z) (m.2 ∙ ap m.0 n.2),
        λ vs. by.any_except (m.3 (n.0 vs)) (n.3 vs),
      )
  part_class_except (by.namespace_except {p = p} {a = a} {b = b} r s) =
      let m = part_blocks r in
      let n = part_bare_class s in (
        λ vs. ns_name p at a ∷ symbol minus at b ∷ m.0 (n.0 vs),
        cons (ns_name p at a) (cons (symbol minus at b) (then m.1 n.1)),
        ap (λ z. ns_name p at a ∷ symbol minus at b ∷ z) (m.2 ∙ ap m.0 n.2),
        λ vs. by.namespace_except (m.3 (n.0 vs)) (n.3 vs),
      )

pub part_parameters : {ts us : List Placed} {ps : List Parameter} → ReadsParameters ts us ps → Part ReadsParameters ts us ps
part_parameters by.ReadsParameters.none = (λ vs. vs, none, refl, λ vs. by.ReadsParameters.none)
part_parameters (by.ReadsParameters.more {t = t} {a = a} {b = b} bl i r s) =
    let k = part_blocks bl in
    let m = part_literal r in
    let n = part_parameters s in (
      λ vs. k.0 (t at a ∷ symbol equals at b ∷ m.0 (n.0 vs)),
      then k.1 (cons (t at a) (cons (symbol equals at b) (then m.1 n.1))),
      k.2 ∙ ap (λ z. k.0 (t at a ∷ symbol equals at b ∷ z)) (m.2 ∙ ap m.0 n.2),
      λ vs. by.ReadsParameters.more (k.3 (t at a ∷ symbol equals at b ∷ m.0 (n.0 vs))) i (m.3 (n.0 vs)) (n.3 vs),
    )

pub part_braces : {ts us : List Placed} {ps : List Parameter} → ReadsBraces ts us ps → Part ReadsBraces ts us ps
part_braces by.ReadsBraces.none = (λ vs. vs, none, refl, λ vs. by.ReadsBraces.none)
part_braces (by.ReadsBraces.braces {a = a} {b = b} r) =
    let m = part_parameters r in (
      λ vs. symbol open_brace at a ∷ m.0 (symbol close_brace at b ∷ vs),
      cons (symbol open_brace at a) (then m.1 (cons (symbol close_brace at b) none)),
      ap (λ z. symbol open_brace at a ∷ z) m.2,
      λ vs. by.ReadsBraces.braces (m.3 (symbol close_brace at b ∷ vs)),
    )

pub part_inherit : {ts us : List Placed} {h : Option Passed} → ReadsInherit ts us h → Part ReadsInherit ts us h
part_inherit by.ReadsInherit.none = (λ vs. vs, none, refl, λ vs. by.ReadsInherit.none)
part_inherit (by.ReadsInherit.passed {t = t} {a = a} {b = b} {c = c} i) =
    (λ vs. keyword word.inherit at a ∷ symbol equals at b ∷ t at c ∷ vs, cons (keyword word.inherit at a) (cons (symbol equals at b) (cons (t at c) none)), refl, λ vs. by.ReadsInherit.passed i)

mutual
  pub part_pattern : {ts us : List Placed} {p : Pattern} → ReadsPattern ts us p → Part ReadsPattern ts us p
  part_pattern (by.ReadsPattern.single r) = let m = part_particle r in (m.0, m.1, m.2, λ vs. by.ReadsPattern.single (m.3 vs))
  part_pattern (by.chain {s = s} {a = a} i r rs made) =
      let m = part_particle r in
      let n = part_members rs in (
        λ vs. m.0 (symbol s at a ∷ n.0 vs),
        then m.1 (cons (symbol s at a) n.1),
        m.2 ∙ ap (λ z. m.0 (symbol s at a ∷ z)) n.2,
        λ vs. by.chain i (m.3 (symbol s at a ∷ n.0 vs)) (n.3 vs) made,
      )

  pub part_members : {s : Symbol} {ts us : List Placed} {ps : Patterns} → ReadsMembers s ts us ps → Part (ReadsMembers s) ts us ps
  part_members (by.ReadsMembers.last r) = let m = part_particle r in (m.0, m.1, m.2, λ vs. by.ReadsMembers.last (m.3 vs))
  part_members (by.ReadsMembers.more {s = s} {a = a} r rs) =
      let m = part_particle r in
      let n = part_members rs in (
        λ vs. m.0 (symbol s at a ∷ n.0 vs),
        then m.1 (cons (symbol s at a) n.1),
        m.2 ∙ ap (λ z. m.0 (symbol s at a ∷ z)) n.2,
        λ vs. by.ReadsMembers.more (m.3 (symbol s at a ∷ n.0 vs)) (n.3 vs),
      )

  pub part_particle : {ts us : List Placed} {p : Pattern} → ReadsParticle ts us p → Part ReadsParticle ts us p
  part_particle (by.once r) = let m = part_primary r in (m.0, m.1, m.2, λ vs. by.once (m.3 vs))
  part_particle (by.postfix {s = s} {a = a} i r f made) =
      let m = part_primary r in
      let n = part_follow f in (
        λ vs. m.0 (symbol s at a ∷ n.0 vs),
        then m.1 (cons (symbol s at a) n.1),
        m.2 ∙ ap (λ z. m.0 (symbol s at a ∷ z)) n.2,
        λ vs. by.postfix i (m.3 (symbol s at a ∷ n.0 vs)) (n.3 vs) made,
      )

  pub part_primary : {ts us : List Placed} {p : Pattern} → ReadsPrimary ts us p → Part ReadsPrimary ts us p
  part_primary (by.primary b r f) =
      let m = part_blocks b in
      let n = part_bare r in
      let o = part_follow f in
      (λ vs. m.0 (n.0 (o.0 vs)), then m.1 (then n.1 o.1), m.2 ∙ ap m.0 (n.2 ∙ ap n.0 o.2), λ vs. by.primary (m.3 (n.0 (o.0 vs))) (n.3 (o.0 vs)) (o.3 vs))
  part_primary (by.ReadsPrimary.except {t = t} {a = a} {b = b} bl i br bl' r f) =
      let k = part_blocks bl in
      let l = part_braces br in
      let m = part_blocks bl' in
      let n = part_bare r in
      let o = part_follow f in (
        λ vs. k.0 (t at a ∷ l.0 (symbol minus at b ∷ m.0 (n.0 (o.0 vs)))),
        then k.1 (cons (t at a) (then l.1 (cons (symbol minus at b) (then m.1 (then n.1 o.1))))),
        k.2 ∙ ap (λ z. k.0 (t at a ∷ z)) (l.2 ∙ ap (λ z. l.0 (symbol minus at b ∷ z)) (m.2 ∙ ap m.0 (n.2 ∙ ap n.0 o.2))),
        λ vs. by.ReadsPrimary.except (k.3 (t at a ∷ l.0 (symbol minus at b ∷ m.0 (n.0 (o.0 vs))))) i (l.3 (symbol minus at b ∷ m.0 (n.0 (o.0 vs)))) (m.3 (n.0 (o.0 vs))) (n.3 (o.0 vs)) (o.3 vs),
      )

  pub part_bare : {ts us : List Placed} {p : Pattern} → ReadsBare ts us p → Part ReadsBare ts us p
  part_bare (by.element {a = a} {b = b} {c = c} r s) =
      let m = part_class r in
      let n = part_pattern s in (
        λ vs. keyword word.element at a ∷ m.0 (symbol open_brace at b ∷ n.0 (symbol close_brace at c ∷ vs)),
        cons (keyword word.element at a) (then m.1 (cons (symbol open_brace at b) (then n.1 (cons (symbol close_brace at c) none)))),
        ap (λ z. keyword word.element at a ∷ z) (m.2 ∙ ap (λ z. m.0 (symbol open_brace at b ∷ z)) n.2),
        λ vs. by.element (m.3 (symbol open_brace at b ∷ n.0 (symbol close_brace at c ∷ vs))) (n.3 (symbol close_brace at c ∷ vs)),
      )
  part_bare (by.attribute {a = a} {b = b} {c = c} r s) =
      let m = part_class r in
      let n = part_pattern s in (
        λ vs. keyword word.attribute at a ∷ m.0 (symbol open_brace at b ∷ n.0 (symbol close_brace at c ∷ vs)),
        cons (keyword word.attribute at a) (then m.1 (cons (symbol open_brace at b) (then n.1 (cons (symbol close_brace at c) none)))),
        ap (λ z. keyword word.attribute at a ∷ z) (m.2 ∙ ap (λ z. m.0 (symbol open_brace at b ∷ z)) n.2),
        λ vs. by.attribute (m.3 (symbol open_brace at b ∷ n.0 (symbol close_brace at c ∷ vs))) (n.3 (symbol close_brace at c ∷ vs)),
      )
  part_bare (by.list {a = a} {b = b} {c = c} r) =
      let m = part_pattern r in (
        λ vs. keyword word.list at a ∷ symbol open_brace at b ∷ m.0 (symbol close_brace at c ∷ vs),
        cons (keyword word.list at a) (cons (symbol open_brace at b) (then m.1 (cons (symbol close_brace at c) none))),
        ap (λ z. keyword word.list at a ∷ symbol open_brace at b ∷ z) m.2,
        λ vs. by.list (m.3 (symbol close_brace at c ∷ vs)),
      )
  part_bare (by.mixed {a = a} {b = b} {c = c} r) =
      let m = part_pattern r in (
        λ vs. keyword word.mixed at a ∷ symbol open_brace at b ∷ m.0 (symbol close_brace at c ∷ vs),
        cons (keyword word.mixed at a) (cons (symbol open_brace at b) (then m.1 (cons (symbol close_brace at c) none))),
        ap (λ z. keyword word.mixed at a ∷ symbol open_brace at b ∷ z) m.2,
        λ vs. by.mixed (m.3 (symbol close_brace at c ∷ vs)),
      )
  part_bare (by.ref {n = n} {a = a}) = (λ vs. ident n at a ∷ vs, cons (ident n at a) none, refl, λ vs. by.ref)
  part_bare (by.parent {n = n} {a = a} {b = b}) =
      (λ vs. keyword word.parent at a ∷ ident n at b ∷ vs, cons (keyword word.parent at a) (cons (ident n at b) none), refl, λ vs. by.parent)
  part_bare (by.empty {a = a}) = (λ vs. keyword word.empty at a ∷ vs, cons (keyword word.empty at a) none, refl, λ vs. by.empty)
  part_bare (by.text {a = a}) = (λ vs. keyword word.text at a ∷ vs, cons (keyword word.text at a) none, refl, λ vs. by.text)
  part_bare (by.not_allowed {a = a}) = (λ vs. keyword word.not_allowed at a ∷ vs, cons (keyword word.not_allowed at a) none, refl, λ vs. by.not_allowed)
  part_bare (by.ReadsBare.literal r) = let m = part_literal r in (m.0, m.1, m.2, λ vs. by.ReadsBare.literal (m.3 vs))
  part_bare (by.value {t = t} {a = a} i r) =
      let m = part_literal r in
      (λ vs. t at a ∷ m.0 vs, cons (t at a) m.1, ap (λ z. t at a ∷ z) m.2, λ vs. by.value i (m.3 vs))
  part_bare (by.data_type {t = t} {a = a} i r) =
      let m = part_braces r in
      (λ vs. t at a ∷ m.0 vs, cons (t at a) m.1, ap (λ z. t at a ∷ z) m.2, λ vs. by.data_type i (m.3 vs))
  part_bare (by.external {a = a} r s) =
      let m = part_literal r in
      let n = part_inherit s in (
        λ vs. keyword word.external at a ∷ m.0 (n.0 vs),
        cons (keyword word.external at a) (then m.1 n.1),
        ap (λ z. keyword word.external at a ∷ z) (m.2 ∙ ap m.0 n.2),
        λ vs. by.external (m.3 (n.0 vs)) (n.3 vs),
      )
  part_bare (by.grammar {a = a} {b = b} {c = c} r) =
      let m = part_items r in (
        λ vs. keyword word.grammar at a ∷ symbol open_brace at b ∷ m.0 (symbol close_brace at c ∷ vs),
        cons (keyword word.grammar at a) (cons (symbol open_brace at b) (then m.1 (cons (symbol close_brace at c) none))),
        ap (λ z. keyword word.grammar at a ∷ symbol open_brace at b ∷ z) m.2,
        λ vs. by.grammar (m.3 (symbol close_brace at c ∷ vs)),
      )
  part_bare (by.ReadsBare.parentheses {a = a} {b = b} r) =
      let m = part_pattern r in (
        λ vs. symbol open_paren at a ∷ m.0 (symbol close_paren at b ∷ vs),
        cons (symbol open_paren at a) (then m.1 (cons (symbol close_paren at b) none)),
        ap (λ z. symbol open_paren at a ∷ z) m.2,
        λ vs. by.ReadsBare.parentheses (m.3 (symbol close_paren at b ∷ vs)),
      )

  pub part_items : {ts us : List Placed} {is : Items} → ReadsItems ts us is → Part ReadsItems ts us is
  part_items by.no_items = (λ vs. vs, none, refl, λ vs. by.no_items)
  part_items (by.item b r s) =
      let k = part_blocks b in
      let m = part_item r in
      let n = part_items s in
      (λ vs. k.0 (m.0 (n.0 vs)), then k.1 (then m.1 n.1), k.2 ∙ ap k.0 (m.2 ∙ ap m.0 n.2), λ vs. by.item (k.3 (m.0 (n.0 vs))) (m.3 (n.0 vs)) (n.3 vs))
  part_items (by.annotation {t = t} {a = a} i r s) =
      let m = part_block r in
      let n = part_items s in
      (λ vs. t at a ∷ m.0 (n.0 vs), cons (t at a) (then m.1 n.1), ap (λ z. t at a ∷ z) (m.2 ∙ ap m.0 n.2), λ vs. by.annotation i (m.3 (n.0 vs)) (n.3 vs))

  pub part_item : {ts us : List Placed} {i : Item} → ReadsItem ts us i → Part ReadsItem ts us i
  part_item (by.ReadsItem.start {s = s} {a = a} {b = b} i r) =
      let m = part_pattern r in (
        λ vs. keyword word.start at a ∷ symbol s at b ∷ m.0 vs,
        cons (keyword word.start at a) (cons (symbol s at b) m.1),
        ap (λ z. keyword word.start at a ∷ symbol s at b ∷ z) m.2,
        λ vs. by.ReadsItem.start i (m.3 vs),
      )
  part_item (by.define {n = n} {s = s} {a = a} {b = b} i r) =
      let m = part_pattern r in (
        λ vs. ident n at a ∷ symbol s at b ∷ m.0 vs,
        cons (ident n at a) (cons (symbol s at b) m.1),
        ap (λ z. ident n at a ∷ symbol s at b ∷ z) m.2,
        λ vs. by.define i (m.3 vs),
      )
  part_item (by.div {a = a} {b = b} {c = c} r) =
      let m = part_items r in (
        λ vs. keyword word.div at a ∷ symbol open_brace at b ∷ m.0 (symbol close_brace at c ∷ vs),
        cons (keyword word.div at a) (cons (symbol open_brace at b) (then m.1 (cons (symbol close_brace at c) none))),
        ap (λ z. keyword word.div at a ∷ symbol open_brace at b ∷ z) m.2,
        λ vs. by.div (m.3 (symbol close_brace at c ∷ vs)),
      )
  part_item (by.include {a = a} r s u) =
      let k = part_literal r in
      let m = part_inherit s in
      let n = part_inner u in (
        λ vs. keyword word.include at a ∷ k.0 (m.0 (n.0 vs)),
        cons (keyword word.include at a) (then k.1 (then m.1 n.1)),
        ap (λ z. keyword word.include at a ∷ z) (k.2 ∙ ap k.0 (m.2 ∙ ap m.0 n.2)),
        λ vs. by.include (k.3 (m.0 (n.0 vs))) (m.3 (n.0 vs)) (n.3 vs),
      )

  pub part_inner : {ts us : List Placed} {is : Items} → ReadsInner ts us is → Part ReadsInner ts us is
  part_inner by.no_inner = (λ vs. vs, none, refl, λ vs. by.no_inner)
  part_inner (by.inner {a = a} {b = b} r h) =
      let m = part_items r in (
        λ vs. symbol open_brace at a ∷ m.0 (symbol close_brace at b ∷ vs),
        cons (symbol open_brace at a) (then m.1 (cons (symbol close_brace at b) none)),
        ap (λ z. symbol open_brace at a ∷ z) m.2,
        λ vs. by.inner (m.3 (symbol close_brace at b ∷ vs)) h,
      )

-- the tokens before the rest as a list
pub before_rest : {A : Type 0} (R : (List Placed → List Placed → A → Type 0)) {ts us : List Placed} {x : A} → Part R ts us x →
    (xs : List Placed) × (ts ≡ xs ++ us) × ((vs : List Placed) → R (xs ++ vs) vs x)
before_rest R {us = us} {x = x} (f, (xs, front), same, reads) = (xs, same ∙ sym (front us), λ vs. subst (λ z. R z vs x) (sym (front vs)) (reads vs))

pub pattern_any_rest : (ts us : List Placed) (p : Pattern) → ReadsPattern ts us p → (xs : List Placed) × (ts ≡ xs ++ us) × ((vs : List Placed) → ReadsPattern (xs ++ vs) vs p)
pattern_any_rest ts us p r = before_rest ReadsPattern (part_pattern r)

pub items_any_rest : (ts us : List Placed) (is : Items) → ReadsItems ts us is → (xs : List Placed) × (ts ≡ xs ++ us) × ((vs : List Placed) → ReadsItems (xs ++ vs) vs is)
items_any_rest ts us is r = before_rest ReadsItems (part_items r)
