-- Lists with the same remainders.
use Rattle.std.proofs.Common.{◌≡◌, ◌⊎◌, inl, inr, List, [], ◌∷◌, ◌++◌, map, subst}
use Rattle.std.specs.List.{Contains}
use Rattle.std.proofs.lemmas.List.{map-append}
use Rattle.std.proofs.lemmas.List.Elements.{All-nil, All-contains, Contains-push, Contains-push_cases, Contains-append_left, Contains-append_right, Contains-append_cases}
use Rattle.rng_model.specs.Patterns.{Pattern}
use Rattle.table_laws.specs.Remainders.{Remainder, AreSame, with_rest}

-- members of a list
pub contains_none : {X : Type 0} (x : X) → Contains [] x → ⊥
contains_none x h = All-contains (λ y. ⊥) [] x (All-nil (λ y. ⊥)) h

pub contains_first : {X : Type 0} (x : X) (xs : List X) → Contains (x ∷ xs) x
contains_first x xs = Contains-append_left (x ∷ []) xs x (Contains-push [] x)

pub contains_later : {X : Type 0} (y : X) (xs : List X) (x : X) → Contains xs x → Contains (y ∷ xs) x
contains_later y xs x h = Contains-append_right (y ∷ []) xs x h

pub contains_cases : {X : Type 0} (y : X) (xs : List X) (x : X) → Contains (y ∷ xs) x → (y ≡ x) ⊎ Contains xs x
contains_cases y xs x h = go (Contains-append_cases (y ∷ []) xs x h)
  where
    alone : Contains [] x ⊎ (y ≡ x) → (y ≡ x) ⊎ Contains xs x
    alone (inl k) = absurd (contains_none x k)
    alone (inr e) = inl e

    go : Contains (y ∷ []) x ⊎ Contains xs x → (y ≡ x) ⊎ Contains xs x
    go (inl k) = alone (Contains-push_cases [] y x k)
    go (inr k) = inr k

-- members of the images
module _ {X Y : Type 0} (f : X → Y) where
  pub contains_map : (xs : List X) (x : X) → Contains xs x → Contains (map f xs) (f x)
  contains_map [] x h = absurd (contains_none x h)
  contains_map (y ∷ xs) x h = go (contains_cases y xs x h) (λ k. contains_map xs x k)
    where
      go : (y ≡ x) ⊎ Contains xs x → (Contains xs x → Contains (map f xs) (f x)) → Contains (f y ∷ map f xs) (f x)
      go (inl e) again = subst (λ z. Contains (f y ∷ map f xs) (f z)) e (contains_first (f y) (map f xs))
      go (inr k) again = contains_later (f y) (map f xs) (f x) (again k)

  pub map_contains : (xs : List X) (y : Y) → Contains (map f xs) y → (x : X) × Contains xs x × (f x ≡ y)
  map_contains [] y h = absurd (contains_none y h)
  map_contains (x ∷ xs) y h = go (contains_cases (f x) (map f xs) y h) (λ k. map_contains xs y k)
    where
      later : (z : X) × Contains xs z × (f z ≡ y) → (z : X) × Contains (x ∷ xs) z × (f z ≡ y)
      later (z, k, e) = (z, contains_later x xs z k, e)

      go : (f x ≡ y) ⊎ Contains (map f xs) y → (Contains (map f xs) y → (z : X) × Contains xs z × (f z ≡ y)) → (z : X) × Contains (x ∷ xs) z × (f z ≡ y)
      go (inl e) again = (x, contains_first x xs, e)
      go (inr k) again = later (again k)

-- the same remainders
pub same_refl : (xs : List Remainder) → AreSame xs xs
same_refl xs r = (λ h. h, λ h. h)

pub same_sym : (xs ys : List Remainder) → AreSame xs ys → AreSame ys xs
same_sym xs ys s r = ((s r).1, (s r).0)

pub same_trans : (xs ys zs : List Remainder) → AreSame xs ys → AreSame ys zs → AreSame xs zs
same_trans xs ys zs s t r = (λ h. (t r).0 ((s r).0 h), λ h. (s r).1 ((t r).1 h))

within_append : (xs xs' ys ys' : List Remainder) → AreSame xs xs' → AreSame ys ys' → (r : Remainder) → Contains (xs ++ ys) r → Contains (xs' ++ ys') r
within_append xs xs' ys ys' s t r h = go (Contains-append_cases xs ys r h)
  where
    go : Contains xs r ⊎ Contains ys r → Contains (xs' ++ ys') r
    go (inl k) = Contains-append_left xs' ys' r ((s r).0 k)
    go (inr k) = Contains-append_right xs' ys' r ((t r).0 k)

-- of both parts
pub same_append : (xs xs' ys ys' : List Remainder) → AreSame xs xs' → AreSame ys ys' → AreSame (xs ++ ys) (xs' ++ ys')
same_append xs xs' ys ys' s t r = (within_append xs xs' ys ys' s t r, within_append xs' xs ys' ys (same_sym xs xs' s) (same_sym ys ys' t) r)

within_map : (f : Remainder → Remainder) (xs ys : List Remainder) → AreSame xs ys → (r : Remainder) → Contains (map f xs) r → Contains (map f ys) r
within_map f xs ys s r h = go (map_contains f xs r h)
  where
    go : (x : Remainder) × Contains xs x × (f x ≡ r) → Contains (map f ys) r
    go (x, k, e) = subst (Contains (map f ys)) e (contains_map f ys x ((s x).0 k))

-- with something put behind each
pub same_map : (f : Pattern → Pattern) (xs ys : List Remainder) → AreSame xs ys → AreSame (map (with_rest f) xs) (map (with_rest f) ys)
same_map f xs ys s r = (within_map (with_rest f) xs ys s r, within_map (with_rest f) ys xs (same_sym xs ys s) r)

-- one more that is there already
pub same_added : (xs : List Remainder) (r : Remainder) → Contains xs r → AreSame (xs ++ r ∷ []) xs
same_added xs r h t = (λ k. go (Contains-push_cases xs r t k), λ k. Contains-append_left xs (r ∷ []) t k)
  where
    go : Contains xs t ⊎ (r ≡ t) → Contains xs t
    go (inl k) = k
    go (inr e) = subst (Contains xs) e h

-- all of another list that are there already
pub same_within : (xs ys : List Remainder) → ((r : Remainder) → Contains ys r → Contains xs r) → AreSame (xs ++ ys) xs
same_within xs ys h r = (λ k. go (Contains-append_cases xs ys r k), λ k. Contains-append_left xs ys r k)
  where
    go : Contains xs r ⊎ Contains ys r → Contains xs r
    go (inl k) = k
    go (inr k) = h r k

-- the last of the images
pub map_added : (f : Pattern → Pattern) (xs : List Remainder) (r : Remainder) → map (with_rest f) (xs ++ r ∷ []) ≡ map (with_rest f) xs ++ with_rest f r ∷ []
map_added f xs r = map-append (with_rest f) xs (r ∷ [])
