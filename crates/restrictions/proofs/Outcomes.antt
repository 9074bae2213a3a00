-- Results and truth values, and names of a list.
use Rattle.std.proofs.Common.{◌≡◌, ◌≢◌, ℕ, ◌+◌, ◌<◌, ◌⊎◌, inl, inr, Bool, true, false, Some, List, length, slice_get, Contains, Result, Ok, Err, IfOk, sym, ◌∙◌, ap, subst, arith}
use Rattle.std.specs.Bool.{OnTrue, OnFalse}
use Rattle.std.proofs.lemmas.Option.{slice_get_read}
use Rattle.rng_model.specs.Names.{Name}
use Rattle.restrictions.proofs.Numbers.{same_or}

pub if_ok : {X E : Type 0} (P Q : X → Type 0) (r : Result X E) → IfOk r P → ((x : X) → P x → Q x) → IfOk r Q
if_ok P Q (Ok x) p f = f x p
if_ok P Q (Err e) p f = tt

pub on_true : {A B : Type 0} (b : Bool) → OnTrue b A → (A → B) → OnTrue b B
on_true true a f = f a
on_true false a f = tt

pub on_false : {A B : Type 0} (b : Bool) → OnFalse b A → (A → B) → OnFalse b B
on_false true a f = tt
on_false false a f = f a

-- none of the first names, and not the next
pub none_more : (P : Name → Type 0) (xs : List Name) (k : ℕ) (x : Name) → slice_get xs k ≡ Some x → (P x → ⊥) →
    ((i : ℕ) (n : Name) → i < k → slice_get xs i ≡ Some n → P n → ⊥) → (i : ℕ) (n : Name) → i < k + 1 → slice_get xs i ≡ Some n → P n → ⊥
none_more P xs k x at not before i n l e = go (same_or i k)
  where
    go : (i ≡ k) ⊎ (i ≢ k) → P n → ⊥
    go (inl f) p = let g : Some n ≡ Some x = sym e ∙ ap (slice_get xs) f ∙ at in let same : n ≡ x = cc in not (subst P same p)
    go (inr f) p = before i n (omega (arith, l, f)) e p

pub listed : (xs : List Name) (n : Name) → Contains xs n → (i : ℕ) × (slice_get xs i ≡ Some n)
listed xs n (i, l, e) = (i, slice_get_read xs (length xs) i n (λ j. length xs) l (sym e))
