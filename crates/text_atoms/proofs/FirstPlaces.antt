-- The first place in a list of what is looked for.
use Rattle.std.proofs.Common.{◌≡◌, ℕ, ◌+◌, ◌<◌, List, length, get_or, refl, sym, ◌∙◌, subst, below_more, Some, slice_get}
use Rattle.std.proofs.lemmas.Option.{slice_get_read}

-- the element that was read at a place stands there
pub read_at : {X : Type 0} (xs : List X) (i : ℕ) (x : X) → i < length xs → x ≡ get_or xs i x → slice_get xs i ≡ Some x
read_at xs i x below e = slice_get_read xs (length xs) i x refl below e

-- none before a place, and not the one there
pub none_more : {X : Type 0} (xs : List X) (P : X → Type 0) (i : ℕ) (x : X) → i < length xs → x ≡ get_or xs i x → (P x → ⊥) → ((k : ℕ) (a : X) → k < i → slice_get xs k ≡ Some a → P a → ⊥) →
    (k : ℕ) (a : X) → k < i + 1 → slice_get xs k ≡ Some a → P a → ⊥
none_more {X} xs P i x below e fails before k a within at holds =
    below_more (λ (j : ℕ). (b : X) → slice_get xs j ≡ Some b → P b → ⊥) i (λ j less b. before j b less)
    (λ b there so. (
    let one : Some b ≡ Some x = sym there ∙ read_at xs i x below e in
    let is : b ≡ x = cc in
    fails (subst P is so)))
    k within a at holds
