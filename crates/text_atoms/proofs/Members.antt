-- The members of a list.
use Rattle.std.proofs.Common.{◌≡◌, ℕ, zero, suc, ◌⊎◌, inl, inr, List, [], ◌∷◌, refl, sym, ◌∙◌, ap, Bool, true, false, cond, arith, Contains, Some, slice_get, map, filter}

pub member_first : {X : Type 0} (x : X) (xs : List X) → Contains (x ∷ xs) x
member_first x xs = (zero, omega arith, refl)

pub member_later : {X : Type 0} (y x : X) (xs : List X) → Contains xs x → Contains (y ∷ xs) x
member_later y x xs (k, below, is) = (suc k, omega arith, is)

-- a member is the first, or one of the others
pub member_cases : {X : Type 0} (y x : X) (xs : List X) → Contains (y ∷ xs) x → (y ≡ x) ⊎ Contains xs x
member_cases y x xs (zero, below, is) = inl is
member_cases y x xs (suc k, below, is) = inr (k, omega arith, is)

pub member_none : {X : Type 0} (x : X) → Contains [] x → ⊥
member_none x (k, below, is) = omega arith

pub member_at : {X : Type 0} (xs : List X) (k : ℕ) (x : X) → slice_get xs k ≡ Some x → Contains xs x
member_at [] k x e = cc
member_at (y ∷ xs) zero x e = let same : y ≡ x = cc in (zero, omega arith, same)
member_at (y ∷ xs) (suc k) x e = member_later y x xs (member_at xs k x e)

pub place_of_member : {X : Type 0} (xs : List X) (x : X) → Contains xs x → (k : ℕ) × (slice_get xs k ≡ Some x)
place_of_member [] x h = absurd (member_none x h)
place_of_member (y ∷ xs) x (zero, below, e) = (zero, ap Some e)
place_of_member (y ∷ xs) x (suc k, below, e) = let (j, f) = place_of_member xs x (k, omega arith, e) in (suc j, f)

pub member_of_map : {X Y : Type 0} (f : X → Y) (xs : List X) (x : X) → Contains xs x → Contains (map f xs) (f x)
member_of_map f [] x h = absurd (member_none x h)
member_of_map f (y ∷ xs) x (zero, below, e) = (zero, omega arith, ap f e)
member_of_map f (y ∷ xs) x (suc k, below, e) = member_later (f y) (f x) (map f xs) (member_of_map f xs x (k, omega arith, e))

pub map_member : {X Y : Type 0} (f : X → Y) (xs : List X) (y : Y) → Contains (map f xs) y → (x : X) × Contains xs x × (f x ≡ y)
map_member f [] y h = absurd (member_none y h)
map_member f (x ∷ xs) y (zero, below, e) = (x, member_first x xs, e)
map_member f (x ∷ xs) y (suc k, below, e) = let (z, inside, same) = map_member f xs y (k, omega arith, e) in (z, member_later x z xs inside, same)

pub member_passes : {X : Type 0} (p : X → Bool) (xs : List X) (x : X) → Contains (filter p xs) x → Contains xs x × (p x ≡ true)
member_passes p [] x h = absurd (member_none x h)
member_passes p (y ∷ xs) x h = go (member_passes p xs x) (p y) refl h
  where
    go : (Contains (filter p xs) x → Contains xs x × (p x ≡ true)) → (b : Bool) → p y ≡ b → Contains (cond b (y ∷ filter p xs) (filter p xs)) x →
        Contains (y ∷ xs) x × (p x ≡ true)
    go again true e m = elim (member_cases y x (filter p xs) m) [
      | inl s ↦ ((zero, omega arith, s), ap p (sym s) ∙ e)
      | inr i ↦ let (inside, passes) = again i in (member_later y x xs inside, passes)
    ]
    go again false e m = let (inside, passes) = again m in (member_later y x xs inside, passes)

pub passes_member : {X : Type 0} (p : X → Bool) (xs : List X) (x : X) → Contains xs x → p x ≡ true → Contains (filter p xs) x
passes_member p [] x h e = absurd (member_none x h)
passes_member p (y ∷ xs) x h e = go (λ m. passes_member p xs x m e) (p y) refl (member_cases y x xs h)
  where
    go : (Contains xs x → Contains (filter p xs) x) → (b : Bool) → p y ≡ b → (y ≡ x) ⊎ Contains xs x → Contains (cond b (y ∷ filter p xs) (filter p xs)) x
    go again true f (inl s) = (zero, omega arith, s)
    go again true f (inr m) = member_later y x (filter p xs) (again m)
    go again false f (inl s) = let same : true ≡ false = sym (ap p s ∙ e) ∙ f in cc
    go again false f (inr m) = again m
