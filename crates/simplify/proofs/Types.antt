-- A type that is none of the foreign ones has a kind.
use Rattle.std.proofs.Common.{◌≡◌, ℕ, suc, ◌-◌, inl, inr, ◌⊎◌, Bool, true, false, not, List, [], ◌∷◌, Option, Some, None, refl, sym, subst}
use Rattle.std.specs.Prelude.{◌||◌, if◌then◌else◌, flat_map, codes, nat_le}
use Rattle.std.specs.Str.{bytes_eq}
use Rattle.std.proofs.lemmas.Slice.Eq.{bytes_eq-Decides}
use Rattle.rng_model.specs.Texts.{Text}
use Rattle.rng_model.specs.Kinds.{Kind, Str, Token, Boolean, Integer, NonNegative, Positive, NcName, Nmtoken}
use Rattle.grammar_laws.specs.Trees.{TypeName, built_string, built_token, prefixed_type, Declaration, namespace_prefix, default_namespace, datatypes}
use Rattle.grammar_laws.specs.Files.{SchemaFile}
use Rattle.schema_tree.specs.Features.{Binds, InType, IsForeign, declarations_at, is_built_in, is_foreign, is_xsd}
use Rattle.schema_tree.specs.declared.features.Feature.{Feature}
use Rattle.simple_form_laws.specs.Prefixes.{built_in_kind, file_at, libraries, library_kind, library_table, look_up, second_kind, xsd_uri}
use Rattle.simple_form_laws.specs.Faults.{IsKnownType}

-- there is one
abbrev IsGiven : Option Kind → Type 0
IsGiven o = (k : Kind) × (o ≡ Some k)

two : (a b : Bool) → (a || b) ≡ true → IsGiven (if a then Some Str else if b then Some Token else None)
two true b e = (Str, refl)
two false true e = (Token, refl)
two false false e = absurd (cc)

built_in : (n : Text) → is_built_in n ≡ true → IsGiven (built_in_kind n)
built_in n = two (bytes_eq n (codes "string")) (bytes_eq n (codes "token"))

six_and_more : (a b c d e f g : Bool) (rest : Option Kind) → (g ≡ true → IsGiven rest) → (a || b || c || d || e || f || g) ≡ true →
    IsGiven (if a then Some Boolean else if b then Some Integer else if c then Some NonNegative else if d then Some Positive else if e then Some NcName else if f then Some Nmtoken else rest)
six_and_more true b c d e f g rest h i = (Boolean, refl)
six_and_more false true c d e f g rest h i = (Integer, refl)
six_and_more false false true d e f g rest h i = (NonNegative, refl)
six_and_more false false false true e f g rest h i = (Positive, refl)
six_and_more false false false false true f g rest h i = (NcName, refl)
six_and_more false false false false false true g rest h i = (Nmtoken, refl)
six_and_more false false false false false false g rest h i = h i

second : (n : Text) → is_xsd n ≡ true → IsGiven (second_kind n)
second n = six_and_more (bytes_eq n (codes "boolean")) (bytes_eq n (codes "integer")) (bytes_eq n (codes "nonNegativeInteger"))
    (bytes_eq n (codes "positiveInteger")) (bytes_eq n (codes "NCName")) (bytes_eq n (codes "NMTOKEN")) (is_built_in n) (built_in_kind n) (built_in n)

-- of two libraries the one that is named
by_library : (b c x y : Bool) (o p : Option Kind) → (x ≡ true → IsGiven o) → (y ≡ true → IsGiven p) →
    ((if b then not x else if c then not y else true) ≡ true → ⊥) → IsGiven (if b then o else if c then p else None)
by_library true c true y o p h k n = h refl
by_library true c false y o p h k n = absurd (n refl)
by_library false true x true o p h k n = k refl
by_library false true x false o p h k n = absurd (n refl)
by_library false false x y o p h k n = absurd (n refl)

kind_given : (u n : Text) → (is_foreign u n ≡ true → ⊥) → IsGiven (library_kind n u)
kind_given u n = by_library (bytes_eq u xsd_uri) (bytes_eq u []) (is_xsd n) (is_built_in n) (second_kind n) (built_in_kind n) (second n) (built_in n)

-- the first with the name, or what is found behind it
found : (b : Bool) (t u : Text) (rest : Option Text) → (if b then Some t else rest) ≡ Some u → ((b ≡ true) × (t ≡ u)) ⊎ (rest ≡ Some u)
found true t u rest e = inl (refl, cc)
found false t u rest e = inr e

bound : (ds : List Declaration) (p u : Text) → look_up (flat_map libraries ds) p ≡ Some u → Binds ds p u
bound [] p u e = absurd (cc)
bound (namespace_prefix q uri at ∷ ds) p u e = bound ds p u e
bound (default_namespace q uri at ∷ ds) p u e = bound ds p u e
bound (datatypes q l at ∷ ds) p u e = go (found (bytes_eq q p) l u (look_up (flat_map libraries ds) p) e) (bound ds p u)
  where
    go : ((bytes_eq q p ≡ true) × (l ≡ u)) ⊎ (look_up (flat_map libraries ds) p ≡ Some u) → (look_up (flat_map libraries ds) p ≡ Some u → Binds ds p u) → ((q ≡ p) × (l ≡ u)) ⊎ Binds ds p u
    go (inl w) later = inl ((bytes_eq-Decides q p).0 w.0, w.1)
    go (inr w) later = inr (later w)

one_of : (b : Bool) (f g : SchemaFile) (ds : List Declaration) → ds ≡ g.declarations →
    (if b then f.declarations else ds) ≡ (if b then f else g).declarations
one_of true f g ds e = refl
one_of false f g ds e = e

at_file : (fs : List SchemaFile) (at : ℕ) → declarations_at fs at ≡ (file_at fs at).declarations
at_file [] at = refl
at_file (f ∷ fs) at =
    one_of (nat_le at f.length) f (file_at fs (at - suc f.length)) (declarations_at fs (at - suc f.length)) (at_file fs (at - suc f.length))

-- what the prefix is bound to isn't foreign
not_foreign : (f : SchemaFile) (p n u : Text) → look_up (library_table f) p ≡ Some u → (IsForeign f.declarations p n → ⊥) → is_foreign u n ≡ true → ⊥
not_foreign f p n u e absent foreign = go (found (bytes_eq (codes "xsd") p) xsd_uri u (look_up (flat_map libraries f.declarations) p) e)
  where
    go : ((bytes_eq (codes "xsd") p ≡ true) × (xsd_uri ≡ u)) ⊎ (look_up (flat_map libraries f.declarations) p ≡ Some u) → ⊥
    go (inl w) = absent (inl (sym ((bytes_eq-Decides (codes "xsd") p).0 w.0), subst (λ v. is_foreign v n ≡ true) (sym w.1) foreign))
    go (inr w) = absent (inr (u, bound f.declarations p u w, foreign))

pub known : (fs : List SchemaFile) (of : TypeName) → ((f : Feature) (at : ℕ) → InType fs of f at → ⊥) → IsKnownType fs of
known fs (built_string at) none = tt
known fs (built_token at) none = tt
known fs (prefixed_type p n at) none = λ u e.
    kind_given u n (not_foreign (file_at fs at) p n u e
    (λ w. none Feature.ForeignType at ((refl, refl), subst (λ ds. IsForeign ds p n) (sym (at_file fs at)) w)))
