-- Names and their spellings.
use Rattle.std.proofs.Common.{◌≡◌, ℕ, false, List, [], ◌∷◌, ◌++◌, refl, sym, ◌∙◌, ap, subst, append_assoc}
use Rattle.std.specs.Prelude.{◌==◌, flat_map, IsTrue, IsUtf8, Option, Some, None, Result, Ok, Err, IfOk, MatchOption}
use Rattle.std.specs.List.{AllByRecursion}
use Rattle.std.proofs.lemmas.Str.{IsUtf8-nil}
use Rattle.rng_model.specs.Names.{Name, IsName, is_ncname}
use Rattle.rng_model.specs.Lines.{name_spelling, namespace_escape}
use Rattle.line_laws.proofs.Reading.{local_plain, IsPlainByte}
use Rattle.line_reader.specs.declared.escapes.Escapes.TheVariants.{Namespace}
use Rattle.line_reader.specs.Spellings.{StopsAt}
use Rattle.line_reader.proofs.Spelled.{fronts_same, stops_at_brace}

abbrev name_at : List ℕ → List ℕ → Name
name_at u l = record { ns = u; local = l }

qualified_is : (c : ℕ) (u l : List ℕ) → name_spelling (name_at (c ∷ u) l) ≡ 123 ∷ (flat_map namespace_escape (c ∷ u) ++ 125 ∷ l)
qualified_is c u l = go (flat_map namespace_escape (c ∷ u))
  where
    go : (f : List ℕ) → (123 ∷ (f ++ (125 ∷ []))) ++ l ≡ 123 ∷ (f ++ 125 ∷ l)
    go f = ap (λ z. 123 ∷ z) (append_assoc f (125 ∷ []) l)

no_brace : (l x : List ℕ) → AllByRecursion IsPlainByte l → l ≡ 123 ∷ x → ⊥
no_brace [] x p e = cc
no_brace (c ∷ l) x p e =
    let same : c ≡ 123 = cc in
    let no : (123 == 123) ≡ false = ap (λ z. z == 123) (sym same) ∙ p.0.3 in
    cc

-- a namespace is written
pub qualified_spelled : (u l rest : List ℕ) → (u ≡ [] → ⊥) → rest ≡ 125 ∷ l → name_spelling (name_at u l) ≡ 123 ∷ (flat_map namespace_escape u ++ rest)
qualified_spelled [] l rest some e = absurd (some refl)
qualified_spelled (c ∷ u) l rest some e = qualified_is c u l ∙ ap (λ z. 123 ∷ (flat_map namespace_escape (c ∷ u) ++ z)) (sym e)

pub record QualifiedParts (n : Name) (u behind : List ℕ) : Type 0 where
  pub ns : n.ns ≡ u
  pub some : u ≡ [] → ⊥
  pub behind_is : behind ≡ 125 ∷ n.local

-- the parts of a name whose spelling begins with a brace
pub qualified_parts : (n : Name) → IsName n → (u rest bytes : List ℕ) → name_spelling n ≡ 123 ∷ bytes →
    bytes ≡ flat_map namespace_escape u ++ rest → StopsAt Namespace rest → QualifiedParts n u rest
qualified_parts n is u rest bytes h front stops = go n.ns n.local (local_plain n.local is.local is.ncname) h
  where
    go : (v l : List ℕ) → AllByRecursion IsPlainByte l → name_spelling (name_at v l) ≡ 123 ∷ bytes → QualifiedParts (name_at v l) u rest
    go [] l p h = absurd (no_brace l bytes p h)
    go (c ∷ v) l p h =
        let e : 123 ∷ (flat_map namespace_escape (c ∷ v) ++ 125 ∷ l) ≡ 123 ∷ bytes = sym (qualified_is c v l) ∙ h in
        let f : flat_map namespace_escape (c ∷ v) ++ 125 ∷ l ≡ bytes = cc in
        let s = fronts_same Namespace (c ∷ v) u (125 ∷ l) rest (stops_at_brace l) stops (f ∙ front) in
        record { ns = s.0; some = λ none. let bad : c ∷ v ≡ [] = s.0 ∙ none in cc; behind_is = sym s.1 }

-- a spelling without a brace is a local name
pub bare_parts : (n : Name) → IsName n → (bytes : List ℕ) → name_spelling n ≡ bytes → ((x : List ℕ) → bytes ≡ 123 ∷ x → ⊥) → IsName (name_at [] bytes)
bare_parts n is bytes h bare = go n.ns n.local is.local is.ncname h
  where
    go : (v l : List ℕ) → IsUtf8 l → IsTrue (is_ncname l) → name_spelling (name_at v l) ≡ bytes → IsName (name_at [] bytes)
    go [] l utf8 ncname h = subst (λ z. IsName (name_at [] z)) h (record { ns = IsUtf8-nil; local = utf8; ncname = ncname })
    go (c ∷ v) l utf8 ncname h = absurd (bare (flat_map namespace_escape (c ∷ v) ++ 125 ∷ l) (sym h ∙ qualified_is c v l))

abbrev NoQualified : List ℕ → Type 0
NoQualified bytes = (n : Name) → IsName n → name_spelling n ≡ 123 ∷ bytes → ⊥

-- no name without the closing brace, or with nothing in the braces
pub unclosed : (u rest bytes : List ℕ) → bytes ≡ flat_map namespace_escape u ++ rest → StopsAt Namespace rest →
    ((l : List ℕ) → rest ≡ 125 ∷ l → ⊥) → NoQualified bytes
unclosed u rest bytes front stops open_end n is h = open_end n.local (qualified_parts n is u rest bytes h front stops).behind_is

pub empty_braces : (u rest bytes : List ℕ) → bytes ≡ flat_map namespace_escape u ++ rest → StopsAt Namespace rest →
    u ≡ [] → NoQualified bytes
empty_braces u rest bytes front stops none n is h = (qualified_parts n is u rest bytes h front stops).some none

-- a name by its parts
pub named : {E : Type 0} (r : Result (Option Name) E) (u l rest bytes : List ℕ) → (u ≡ [] → ⊥) → rest ≡ 125 ∷ l →
    bytes ≡ flat_map namespace_escape u ++ rest → StopsAt Namespace rest →
    IfOk r (λ read. MatchOption read (IsName (name_at u l) → ⊥) (λ n. n ≡ name_at u l)) →
    IfOk r (λ read. MatchOption read (NoQualified bytes) (λ n. name_spelling n ≡ 123 ∷ bytes))
named (Err e) u l rest bytes some at front stops h = tt
named (Ok None) u l rest bytes some at front stops h = λ n is s.
    let p = qualified_parts n is u rest bytes s front stops in
    let e : 125 ∷ n.local ≡ 125 ∷ l = sym p.behind_is ∙ at in
    let f : n.local ≡ l = cc in
    h (subst IsName (λ i. name_at (p.ns i) (f i)) is)
named (Ok (Some n)) u l rest bytes some at front stops h =
    ap name_spelling h ∙ qualified_spelled u l rest some at ∙ ap (λ z. 123 ∷ z) (sym front)
