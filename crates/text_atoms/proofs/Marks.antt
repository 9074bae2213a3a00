-- The kinds at whose places marks are true.
use Rattle.std.proofs.Common.{◌≡◌, ◌≢◌, ℕ, ◌+◌, ◌<◌, ◌==◌, ◌⊎◌, inl, inr, ◌↔◌, List, length, refl, sym, ◌∙◌, ap, Bool, true, false, arith, Contains, IsTrue, get_or, set, get_or-set_same, get_or-set_other}
use Rattle.std.proofs.lemmas.Bool.Decides.{Decides-eqb}
use Rattle.rng_model.specs.Kinds.{Kind, Str, Token, Boolean, Integer, NonNegative, Positive, NcName, Nmtoken, kind_number}
use Rattle.text_atoms.specs.Kinds.{kind_of}
use Rattle.text_atoms.specs.Literals.{all_kinds, place_of, marked_kinds}
use Rattle.text_atoms.specs.declared.kind.Kind as rust
use Rattle.text_atoms.specs.contracts.kind.Kind.{the_type}
use Rattle.text_atoms.proofs.Members.{member_passes, passes_member}
use Rattle.rng_model.specs.CodedPatterns.{kind_at, kind_at-number}
use denote.Enum.Declared.{tag_of}

eqb_cases : (m n : ℕ) → (m ≡ n) ⊎ (m ≢ n)
eqb_cases m n = go (m == n) refl
  where
    go : (b : Bool) → (m == n) ≡ b → (m ≡ n) ⊎ (m ≢ n)
    go true e = inl ((Decides-eqb m n).0 e)
    go false e = inr (λ s. let f : true ≡ false = sym ((Decides-eqb m n).1 s) ∙ e in cc)

-- the number of a variant is the place of its kind
pub tag-place : (k : rust.Kind) → tag_of the_type k ≡ place_of (kind_of k)
tag-place rust.TheVariants.Str = refl
tag-place rust.TheVariants.Token = refl
tag-place rust.TheVariants.Boolean = refl
tag-place rust.TheVariants.Integer = refl
tag-place rust.TheVariants.NonNegative = refl
tag-place rust.TheVariants.Positive = refl
tag-place rust.TheVariants.NcName = refl
tag-place rust.TheVariants.Nmtoken = refl

number-place : (k : Kind) → kind_number k ≡ place_of k + 1
number-place Str = refl
number-place Token = refl
number-place Boolean = refl
number-place Integer = refl
number-place NonNegative = refl
number-place Positive = refl
number-place NcName = refl
number-place Nmtoken = refl

pub place_injective : (j k : Kind) → place_of j ≡ place_of k → j ≡ k
place_injective j k e =
    let same : kind_number j ≡ kind_number k = omega (arith, number-place j, number-place k, e) in
    sym (kind_at-number j) ∙ ap kind_at same ∙ kind_at-number k

place_below : (k : Kind) → place_of k < 8
place_below k = omega (arith, number-place k, number_below k)
  where
    number_below : (k : Kind) → kind_number k < 9
    number_below Str = omega arith
    number_below Token = omega arith
    number_below Boolean = omega arith
    number_below Integer = omega arith
    number_below NonNegative = omega arith
    number_below Positive = omega arith
    number_below NcName = omega arith
    number_below Nmtoken = omega arith

is_a_kind : (k : Kind) → Contains all_kinds k
is_a_kind Str = (0, omega arith, refl)
is_a_kind Token = (1, omega arith, refl)
is_a_kind Boolean = (2, omega arith, refl)
is_a_kind Integer = (3, omega arith, refl)
is_a_kind NonNegative = (4, omega arith, refl)
is_a_kind Positive = (5, omega arith, refl)
is_a_kind NcName = (6, omega arith, refl)
is_a_kind Nmtoken = (7, omega arith, refl)

pub marked-iff : (marks : List Bool) (k : Kind) → Contains (marked_kinds marks) k ↔ (get_or marks (place_of k) false ≡ true)
unfolding marked_kinds
marked-iff marks k = (
  λ h. (member_passes (λ j. get_or marks (place_of j) false) all_kinds k h).1,
  λ e. passes_member (λ j. get_or marks (place_of j) false) all_kinds k (is_a_kind k) e,
)

-- one more mark is one more kind
pub marked-set : (marks : List Bool) (kind : rust.Kind) → length marks ≡ 8 → (k : Kind) →
    Contains (marked_kinds (set marks (tag_of the_type kind) true)) k ↔ (Contains (marked_kinds marks) k ⊎ (k ≡ kind_of kind))
marked-set marks kind long k = (forth, back)
  where
    read : get_or (set marks (tag_of the_type kind) true) (place_of k) false ≡ true → (k ≡ kind_of kind) ⊎ (get_or marks (place_of k) false ≡ true)
    read e = elim (eqb_cases (place_of k) (place_of (kind_of kind))) [
      | inl same ↦ inl (place_injective k (kind_of kind) same)
      | inr other ↦ inr (
          let apart : place_of k ≢ tag_of the_type kind = λ s. other (s ∙ tag-place kind) in
          sym (get_or-set_other marks (tag_of the_type kind) (place_of k) true false apart) ∙ e)
    ]

    forth : Contains (marked_kinds (set marks (tag_of the_type kind) true)) k → Contains (marked_kinds marks) k ⊎ (k ≡ kind_of kind)
    forth h = elim (read ((marked-iff (set marks (tag_of the_type kind) true) k).0 h)) [ inl s ↦ inr s | inr e ↦ inl ((marked-iff marks k).1 e) ]

    back : Contains (marked_kinds marks) k ⊎ (k ≡ kind_of kind) → Contains (marked_kinds (set marks (tag_of the_type kind) true)) k
    back (inl h) = (marked-iff (set marks (tag_of the_type kind) true) k).1 (elim (eqb_cases (place_of k) (tag_of the_type kind)) [
      | inl same ↦ rw same (get_or-set_same marks (tag_of the_type kind) true false (omega (arith, long, place_below k, same)))
      | inr other ↦ get_or-set_other marks (tag_of the_type kind) (place_of k) true false other ∙ (marked-iff marks k).0 h
    ])
    back (inr s) = (marked-iff (set marks (tag_of the_type kind) true) k).1 (
        let same : place_of k ≡ tag_of the_type kind = ap place_of s ∙ sym (tag-place kind) in
        rw same (get_or-set_same marks (tag_of the_type kind) true false (omega (arith, long, place_below k, same))))

pub marked-read : (marks : List Bool) (kind : rust.Kind) → IsTrue (get_or marks (tag_of the_type kind) false) ↔ Contains (marked_kinds marks) (kind_of kind)
marked-read marks kind = let m = marked-iff marks (kind_of kind) in rw tag-place (m.1, m.0)
