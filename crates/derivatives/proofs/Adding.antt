-- Remainders that are added to others.
use Rattle.std.proofs.Common.{◌≡◌, ℕ, ◌+◌, ◌<◌, ◌⊎◌, ◌↔◌, inl, inr, Bool, true, false, ◌&&◌, List, [], ◌∷◌, ◌++◌, take, Contains, length, get_or, nat_eq, refl, sym, ◌∙◌, ap, subst, if◌then◌else◌, arith}
use Rattle.std.specs.List.{list_any}
use Rattle.std.proofs.lemmas.List.{take_more}
use Rattle.std.proofs.lemmas.List.Elements.{All-contains, Contains-get_or, Contains-append_left, Contains-append_right, Contains-append_cases}
use Rattle.std.proofs.lemmas.Map.Views.{Contains-from_any}
use Rattle.indexmap.specs.IndexSet.{insert_key}
use Rattle.table_laws.specs.Remainders as law
use Rattle.table_laws.proofs.SameRemainders.{contains_map, map_contains, contains_none, contains_cases}
use Rattle.pattern_intern.specs.Schemas.{Numbered}
use Rattle.derivatives.specs.Remainders.{AreAdded, AreRemainders, IsWithin, remainder_of, remainders_of}
use Rattle.derivatives.specs.declared.remainder.Remainder.{Remainder}

only_one : (x y : Remainder) → Contains (x ∷ []) y → x ≡ y
only_one x y m = go (contains_cases x [] y m)
  where
    go : (x ≡ y) ⊎ Contains [] y → x ≡ y
    go (inl e) = e
    go (inr k) = absurd (contains_none y k)

-- one is added, unless it is there
pub added_one : (eq : Remainder → Remainder → Bool) → ((a b : Remainder) → eq a b ≡ true → a ≡ b) → (x : Remainder) (old new : List Remainder) →
    new ≡ insert_key eq old x → AreAdded (x ∷ []) old new
added_one eq exact x old new e y = subst (λ ks. Contains ks y ↔ (Contains old y ⊎ Contains (x ∷ []) y)) (sym e) (go (list_any (eq x) old) refl)
  where
    back : Contains old x → Contains old y ⊎ Contains (x ∷ []) y → Contains old y
    back here (inl m) = m
    back here (inr m) = subst (Contains old) (only_one x y m) here

    joined : Contains old y ⊎ Contains (x ∷ []) y → Contains (old ++ x ∷ []) y
    joined (inl m) = Contains-append_left old (x ∷ []) y m
    joined (inr m) = Contains-append_right old (x ∷ []) y m

    go : (b : Bool) → list_any (eq x) old ≡ b → Contains (if b then old else old ++ x ∷ []) y ↔ (Contains old y ⊎ Contains (x ∷ []) y)
    go true h = (λ m. inl m, back (Contains-from_any exact x old h))
    go false h = (λ m. Contains-append_cases old (x ∷ []) y m, joined)

pub same_remainder : (a b : Remainder) → (nat_eq a.definition b.definition && nat_eq a.rest.0 b.rest.0) ≡ true → a ≡ b
same_remainder a b h =
    let d : a.definition ≡ b.definition = grind arith in
    let r : a.rest.0 ≡ b.rest.0 = grind arith in
    λ k. record { definition = d k; rest = record { 0 = r k } }

pub added_none : (old : List Remainder) → AreAdded [] old old
added_none old y = (λ m. inl m, go)
  where
    go : Contains old y ⊎ Contains [] y → Contains old y
    go (inl m) = m
    go (inr m) = absurd (contains_none y m)

-- one more of a list is added
pub added_more : (xs old mid new : List Remainder) (i : ℕ) (x d : Remainder) → i < length xs → x ≡ get_or xs i d → AreAdded (take i xs) old mid → AreAdded (x ∷ []) mid new →
    AreAdded (take (i + 1) xs) old new
added_more xs old mid new i x d l is h k y = subst (λ zs. Contains new y ↔ (Contains old y ⊎ Contains zs y)) longer (λ m. to ((k y).0 m), λ m. (k y).1 (from m))
  where
    longer : take i xs ++ x ∷ [] ≡ take (i + 1) xs
    longer = ap (λ z. take i xs ++ z ∷ []) is ∙ sym (take_more xs i d l)

    before : Contains old y ⊎ Contains (take i xs) y → Contains old y ⊎ Contains (take i xs ++ x ∷ []) y
    before (inl m) = inl m
    before (inr m) = inr (Contains-append_left (take i xs) (x ∷ []) y m)

    to : Contains mid y ⊎ Contains (x ∷ []) y → Contains old y ⊎ Contains (take i xs ++ x ∷ []) y
    to (inl m) = before ((h y).0 m)
    to (inr m) = inr (Contains-append_right (take i xs) (x ∷ []) y m)

    behind : Contains (take i xs) y ⊎ Contains (x ∷ []) y → Contains mid y ⊎ Contains (x ∷ []) y
    behind (inl m) = inl ((h y).1 (inr m))
    behind (inr m) = inr m

    from : Contains old y ⊎ Contains (take i xs ++ x ∷ []) y → Contains mid y ⊎ Contains (x ∷ []) y
    from (inl m) = inl ((h y).1 (inl m))
    from (inr m) = behind (Contains-append_cases (take i xs) (x ∷ []) y m)

module _ (g : Numbered) (rs ss : List law.Remainder) (xs old new : List Remainder) (h : AreRemainders g rs old) (k : AreRemainders g ss xs) (added : AreAdded xs old new) where
  each_within : (x : Remainder) → Contains old x ⊎ Contains xs x → IsWithin g x
  each_within x (inl m) = All-contains (IsWithin g) old x h.within m
  each_within x (inr m) = All-contains (IsWithin g) xs x k.within m

  found : (r : law.Remainder) (x : Remainder) → remainder_of g.pool x ≡ r → Contains old x ⊎ Contains xs x → Contains (rs ++ ss) r
  found r x e (inl m) = Contains-append_left rs ss r ((h.same r).0 (subst (Contains (remainders_of g.pool old)) e (contains_map (remainder_of g.pool) old x m)))
  found r x e (inr m) = Contains-append_right rs ss r ((k.same r).0 (subst (Contains (remainders_of g.pool xs)) e (contains_map (remainder_of g.pool) xs x m)))

  there : (r : law.Remainder) (x : Remainder) → Contains new x → remainder_of g.pool x ≡ r → Contains (remainders_of g.pool new) r
  there r x m e = subst (Contains (remainders_of g.pool new)) e (contains_map (remainder_of g.pool) new x m)

  kept : (r : law.Remainder) → Contains rs r ⊎ Contains ss r → Contains (remainders_of g.pool new) r
  kept r (inl m) = let (x, inside, e) = map_contains (remainder_of g.pool) old r ((h.same r).1 m) in there r x ((added x).1 (inl inside)) e
  kept r (inr m) = let (x, inside, e) = map_contains (remainder_of g.pool) xs r ((k.same r).1 m) in there r x ((added x).1 (inr inside)) e

  to : (r : law.Remainder) → Contains (remainders_of g.pool new) r → Contains (rs ++ ss) r
  to r m = let (x, inside, e) = map_contains (remainder_of g.pool) new r m in found r x e ((added x).0 inside)

  -- some are added
  pub remainders_added : AreRemainders g (rs ++ ss) new
  remainders_added = record {
    within = λ i d l. each_within (get_or new i d) ((added (get_or new i d)).0 (Contains-get_or new i d l));
    same = λ r. (to r, λ m. kept r (Contains-append_cases rs ss r m));
  }
