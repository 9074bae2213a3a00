-- Laws of the least place.
use Rattle.std.proofs.Common.{◌≡◌, ℕ, zero, suc, ◌≤◌, min, List, [], ◌∷◌, ◌++◌, Option, Some, None, refl, ap, sym, arith, inl, inr}
use Rattle.std.specs.Prelude.{Contains, ◌⊎◌}
use Rattle.std.proofs.lemmas.List.Elements.{Contains-append_cases, Contains-append_right}
use Rattle.std.proofs.lemmas.Bool.{cases_lt}
use Rattle.name_resolution.specs.Least.{lesser, least, IsLeast}

pub lesser_none : (o : Option ℕ) → lesser o None ≡ o
lesser_none None = refl
lesser_none (Some a) = refl

pub lesser_assoc : (o p q : Option ℕ) → lesser (lesser o p) q ≡ lesser o (lesser p q)
lesser_assoc None p q = refl
lesser_assoc (Some a) None q = refl
lesser_assoc (Some a) (Some b) None = refl
lesser_assoc (Some a) (Some b) (Some c) = ap (λ (n : ℕ). Some n) (omega arith)

pub lesser_comm : (o p : Option ℕ) → lesser o p ≡ lesser p o
lesser_comm None None = refl
lesser_comm None (Some b) = refl
lesser_comm (Some a) None = refl
lesser_comm (Some a) (Some b) = ap (λ (n : ℕ). Some n) (omega arith)

pub lesser_same : (o : Option ℕ) → lesser o o ≡ o
lesser_same None = refl
lesser_same (Some a) = ap (λ (n : ℕ). Some n) (omega arith)

pub least_append : (xs ys : List ℕ) → least (xs ++ ys) ≡ lesser (least xs) (least ys)
least_append [] ys = refl
least_append (x ∷ xs) ys = rw (least_append xs ys) (sym (lesser_assoc (Some x) (least xs) (least ys)))

first : (x : ℕ) (xs : List ℕ) → Contains (x ∷ xs) x
first x xs = (0, omega arith, refl)

later : (x y : ℕ) (xs : List ℕ) → Contains xs y → Contains (x ∷ xs) y
later x y xs h = Contains-append_right (x ∷ []) xs y h

alone : (x y : ℕ) → Contains (x ∷ []) y → x ≡ y
alone x y (zero, h, e) = e
alone x y (suc k, h, e) = absurd (omega arith)

cases : (x y : ℕ) (xs : List ℕ) → Contains (x ∷ xs) y → (x ≡ y) ⊎ Contains xs y
cases x y xs h = elim (Contains-append_cases (x ∷ []) xs y h) [ inl a ↦ inl (alone x y a) | inr b ↦ inr b ]

with_first : (x : ℕ) (xs : List ℕ) (o : Option ℕ) → IsLeast xs o → IsLeast (x ∷ xs) (lesser (Some x) o)
with_first x xs None e = (first x xs, λ b h. elim (cases x b xs h) [ inl p ↦ omega arith | inr i ↦ absurd (omega (arith, (rw e at i).1)) ])
with_first x xs (Some a) l = (
  elim (cases_lt a x) [
    | inl h ↦ (let e : min x a ≡ a = omega arith in rw e (later x a xs l.0))
    | inr h ↦ (let e : min x a ≡ x = omega arith in rw e (first x xs))
  ],
  λ b h. elim (cases x b xs h) [ inl p ↦ omega arith | inr i ↦ (let k : a ≤ b = l.1 b i in omega arith) ],
)

pub least_least : (xs : List ℕ) → IsLeast xs (least xs)
least_least [] = refl
least_least (x ∷ xs) = with_first x xs (least xs) (least_least xs)
