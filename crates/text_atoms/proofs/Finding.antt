-- Where a text stands among ascending ones.
use Rattle.std.proofs.Common.{◌≡◌, ℕ, zero, suc, ◌+◌, ◌<◌, ◌≤◌, ◌⊎◌, inl, inr, ◌↔◌, List, [], ◌∷◌, length, refl, sym, ◌∙◌, ap, arith, Contains, Some, Option, IsSome, get_or, slice_get, Ok, Err, Result, MatchResult, IfSome, IfNone}
use Rattle.std.specs.Result.{result_ok}
use Rattle.rng_model.proofs.Groups.{lesser}
use Rattle.std.specs.Ordering.{nat_cmp, is_lt, ordering_reverse}
use Rattle.std.specs.declared.cmp.Ordering.{Ordering}
use Rattle.std.specs.declared.cmp.Ordering.TheVariants.{Less, Equal, Greater}
use Rattle.std.specs.Cmp.{tied_itself}
use Rattle.std.specs.Cmp.Lexicographic.{slice_cmp, nat_list_cmp_total}
use Rattle.std.specs.List.Sorted.{IsStrictlySortedBy, IsSortedBy, IsBinarySearchResult, IsSearchInRange}
use Rattle.std.specs.BTreeMap as tree
use Rattle.std.specs.BTreeMap.{BTreeMap}
use Rattle.std.proofs.lemmas.Option.{slice_get_within, get_or_from_slice_get}
use Rattle.std.proofs.lemmas.List.Sorted.{searchable_from_sorted}
use Rattle.std.proofs.lemmas.Map.Keys.{Less-from_sorted}
use Rattle.std.proofs.lemmas.Map.Lookups.{exact_bytes}
use Rattle.std.proofs.lemmas.Map.Views.{btree_map_get_iff, btree_map_contains_key_iff}
use Rattle.rng_model.specs.Texts.{Text}
use Rattle.rng_model.specs.Atoms.{Literals, IsAtom, AreAtoms}
use Rattle.text_atoms.specs.declared.origin.Origin.{Origin}
use Rattle.text_atoms.specs.declared.origin.Origin.TheVariants.{StringLiteral, TokenForm, NormalForm, Sample, Fresh, Extra}
use Rattle.text_atoms.specs.Origins.{Gives, origin_in, HasRules, HaveFirstRules, texts_of}
use Rattle.text_atoms.specs.Standing.{IsStringAtom, NoneBefore}
use Rattle.text_atoms.proofs.Members.{member_at}
use Rattle.text_atoms.proofs.Extending.{some_of}

abbrev pub Atom : Type 0
Atom = Text × Origin

get_or-text : (atoms : List Atom) (k : ℕ) (d : Atom) → get_or (texts_of atoms) k d.0 ≡ (get_or atoms k d).0
get_or-text [] k d = refl
get_or-text (a ∷ atoms) zero d = refl
get_or-text (a ∷ atoms) (suc k) d = get_or-text atoms k d

pub length-texts : (atoms : List Atom) → length (texts_of atoms) ≡ length atoms
length-texts [] = refl
length-texts (a ∷ atoms) = ap suc (length-texts atoms)

pub text_at : (atoms : List Atom) (k : ℕ) (a : Atom) → k < length atoms → a.0 ≡ (get_or atoms k a).0 → slice_get (texts_of atoms) k ≡ Some a.0
text_at [] k a h e = absurd (omega arith)
text_at (b ∷ atoms) zero a h e = ap Some (sym e)
text_at (b ∷ atoms) (suc k) a h e = text_at atoms k a (omega arith) e

sorted_atoms : (atoms : List Atom) → IsStrictlySortedBy (slice_cmp nat_cmp) (texts_of atoms) → IsSortedBy (λ (a : Atom) (b : Atom). is_lt (slice_cmp nat_cmp a.0 b.0)) atoms
sorted_atoms atoms up k d low high =
    let less : slice_cmp nat_cmp (get_or (texts_of atoms) k d.0) (get_or (texts_of atoms) (k + 1) d.0) ≡ Less = Less-from_sorted (slice_cmp nat_cmp) (texts_of atoms) k (k + 1) d.0 up (omega arith) (omega (arith, length-texts atoms)) in
    let first : slice_cmp nat_cmp (get_or atoms k d).0 (get_or atoms (k + 1) d).0 ≡ Less = rw (← get_or-text atoms k d, ← get_or-text atoms (k + 1) d) less in
    ap is_lt (nat_list_cmp_total.antisymm (get_or atoms (k + 1) d).0 (get_or atoms k d).0 ∙ ap ordering_reverse first)

-- what a search says
pub searched_text : (atoms : List Atom) (x : Text) (r : Result ℕ ℕ) → IsStrictlySortedBy (slice_cmp nat_cmp) (texts_of atoms) → IsSearchInRange r (length atoms) →
    IsBinarySearchResult (λ (a : Atom). slice_cmp nat_cmp a.0 x) atoms r → MatchResult r (λ i. slice_get (texts_of atoms) i ≡ Some x) (λ i. Contains (texts_of atoms) x → ⊥)
searched_text atoms x (Ok i) up range found =
    let a : Atom = get_or atoms i (x, Extra) in
    let same : a.0 ≡ x = exact_bytes a.0 x (found (x, Extra)) in
    text_at atoms i (x, Extra) range (sym same)
searched_text atoms x (Err i) up range found = λ (k, below, is). none k (omega (arith, below, length-texts atoms)) (sym (get_or-text atoms k (x, Extra)) ∙ is) (before k)
  where
    before : (k : ℕ) → (k < i) ⊎ (i ≤ k)
    before k = lesser k i

    itself : (a : Atom) (o : Ordering) → a.0 ≡ x → slice_cmp nat_cmp a.0 x ≡ o → o ≡ Equal
    itself a o same e = sym e ∙ ap (λ (y : Text). slice_cmp nat_cmp y x) same ∙ tied_itself nat_list_cmp_total x

    none : (k : ℕ) → k < length atoms → (get_or atoms k (x, Extra)).0 ≡ x → (k < i) ⊎ (i ≤ k) → ⊥
    none k below same (inl early) =
        let parts = found (searchable_from_sorted nat_list_cmp_total (λ (a : Atom). a.0) atoms x (sorted_atoms atoms up)) in
        let clash : Less ≡ Equal = itself (get_or atoms k (x, Extra)) Less same (parts.0 k (x, Extra) (omega arith) early) in
        cc
    none k below same (inr late) =
        let parts = found (searchable_from_sorted nat_list_cmp_total (λ (a : Atom). a.0) atoms x (sorted_atoms atoms up)) in
        let clash : Greater ≡ Equal = itself (get_or atoms k (x, Extra)) Greater same (parts.1 k (x, Extra) late below) in
        cc

-- ---- a string literal among the atoms
text_of : (atoms : List Atom) (k : ℕ) (a : Atom) → slice_get atoms k ≡ Some a → slice_get (texts_of atoms) k ≡ Some a.0
text_of [] k a e = cc
text_of (b ∷ atoms) zero a e = let f : b ≡ a = cc in ap (λ (c : Atom). Some c.0) f
text_of (b ∷ atoms) (suc k) a e = text_of atoms k a e

-- an ascending list has a text at one place
later : (xs : List Text) → IsStrictlySortedBy (slice_cmp nat_cmp) xs → (x : Text) (m n : ℕ) → m < n → slice_get xs m ≡ Some x → slice_get xs n ≡ Some x → ⊥
later xs up x m n less e f =
    let lt = slice_get_within xs n x f in
    let below : slice_cmp nat_cmp (get_or xs m x) (get_or xs n x) ≡ Less = Less-from_sorted (slice_cmp nat_cmp) xs m n x up less lt in
    let equal : slice_cmp nat_cmp (get_or xs m x) (get_or xs n x) ≡ Equal = rw (get_or_from_slice_get xs m x x e, get_or_from_slice_get xs n x x f) (tied_itself nat_list_cmp_total x) in
    let both : Less ≡ Equal = sym below ∙ equal in
    cc

one_place : (xs : List Text) → IsStrictlySortedBy (slice_cmp nat_cmp) xs → (x : Text) (m n : ℕ) → slice_get xs m ≡ Some x → slice_get xs n ≡ Some x → m ≡ n
one_place xs up x m n e f = elim (lesser m n) [
  | inl early ↦ absurd (later xs up x m n early e f)
  | inr late ↦ elim (lesser n m) [ inl early ↦ absurd (later xs up x n m early f e) | inr again ↦ omega (arith, late, again) ]
]

pub no_text : (atoms : List Atom) (x : Text) → (Contains (texts_of atoms) x → ⊥) → NoneBefore atoms (length atoms) (λ a. IsStringAtom a x)
no_text atoms x none k a below at is = none (member_at (texts_of atoms) k x (text_of atoms k a at ∙ ap Some is.1))

pub no_string : (atoms : List Atom) → IsStrictlySortedBy (slice_cmp nat_cmp) (texts_of atoms) → (x : Text) (i : ℕ) → slice_get (texts_of atoms) i ≡ Some x →
    ((a : Atom) → slice_get atoms i ≡ Some a → IsStringAtom a x → ⊥) → NoneBefore atoms (length atoms) (λ a. IsStringAtom a x)
no_string atoms up x i at none k a below there is =
    let same : i ≡ k = one_place (texts_of atoms) up x i k at (text_of atoms k a there ∙ ap Some is.1) in
    none a (rw same there) is

-- as an option
pub option_found : (r : Result ℕ ℕ) (o : Option ℕ) (P : ℕ → Type 0) (Q : Type 0) → o ≡ result_ok r → MatchResult r P (λ i. Q) → IfSome o P × IfNone o Q
option_found (Ok i) o P Q e h = rw e (h, tt)
option_found (Err i) o P Q e h = rw e (tt, h)

module _ (l : Literals) (extra : List Text) (m : BTreeMap Text Origin) (up : tree.IsOrdered (slice_cmp nat_cmp) m) (h : HasRules l extra 6 (origin_in m)) where
  keyed : (x : Text) (o : Origin) → (origin_in m x ≡ Some o) ↔ Contains m.entries (x, o)
  keyed x o = btree_map_get_iff nat_list_cmp_total exact_bytes m up x o

  listed : (x : Text) → IsSome (origin_in m x) ↔ Contains (texts_of m.entries) x
  listed x = btree_map_contains_key_iff nat_list_cmp_total exact_bytes m x

  rule_to : (x : Text) (o : Origin) → Gives l extra o x → IsAtom l x ⊎ Contains extra x
  rule_to x StringLiteral g = inl (inl g)
  rule_to x TokenForm g = inl (inr (inl g))
  rule_to x NormalForm g = inl (inr (inr (inl g)))
  rule_to x Sample g = inl (inr (inr (inr (inl g))))
  rule_to x Fresh g = inl (inr (inr (inr (inr g))))
  rule_to x Extra g = inr g

  to : (x : Text) → IsAtom l x ⊎ Contains extra x → Contains (texts_of m.entries) x
  to x (inl (inl g)) = (listed x).0 (h.all x StringLiteral (omega arith) g)
  to x (inl (inr (inl g))) = (listed x).0 (h.all x TokenForm (omega arith) g)
  to x (inl (inr (inr (inl g)))) = (listed x).0 (h.all x NormalForm (omega arith) g)
  to x (inl (inr (inr (inr (inl g))))) = (listed x).0 (h.all x Sample (omega arith) g)
  to x (inl (inr (inr (inr (inr g))))) = (listed x).0 (h.all x Fresh (omega arith) g)
  to x (inr g) = (listed x).0 (h.all x Extra (omega arith) g)

  from : (x : Text) → Contains (texts_of m.entries) x → IsAtom l x ⊎ Contains extra x
  from x c =
      let (o, found) = some_of (origin_in m x) ((listed x).1 c) in
      let (below, rule) = h.gives x o found in
      rule_to x o rule.gives

  pub are_atoms : AreAtoms l extra (texts_of m.entries)
  are_atoms = record { ascending = up; each = λ x. (from x, to x) }

  pub first_rules : HaveFirstRules l extra m.entries
  first_rules x o c = let (below, rule) = h.gives x o ((keyed x o).1 c) in rule

  pub fresh_listed : (x : Text) × (origin_in m x ≡ Some Fresh) → (x : Text) × Contains m.entries (x, Fresh)
  fresh_listed (x, e) = (x, (keyed x Fresh).0 e)
