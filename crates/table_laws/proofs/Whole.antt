-- A walk through a size gives all of the size, and the sizes in a row give the list.
use Rattle.std.proofs.Common.{◌≡◌, ◌≢◌, ℕ, ◌+◌, ◌<◌, ◌≤◌, ◌⊎◌, inl, inr, List, [], ◌∷◌, ◌++◌, refl, sym, ◌∙◌, ap, subst, arith}
use Rattle.std.specs.List.{AllByRecursion}
use Rattle.std.specs.List.Sorted.{IsStrictlySortedBy}
use Rattle.std.specs.declared.cmp.Ordering.{Ordering}
use Rattle.std.specs.declared.cmp.Ordering.TheVariants.{Less, Equal, Greater}
use Rattle.std.specs.Ordering.{ordering_then, ordering_reverse}
use Rattle.std.specs.Cmp.{nat_cmp_is}
use Rattle.std.specs.Cmp.Lexicographic.{slice_cmp}
use Rattle.std.proofs.lemmas.Bool.{cases_order}
use Rattle.rng_model.specs.Patterns.{Schema}
use Rattle.rng_model.specs.Hedges.{Skeleton, size}
use Rattle.rng_model.specs.Events.{events, event_cmp, skeleton_cmp}
use Rattle.rng_model.specs.Universe.{Lists}
use Rattle.rng_model.specs.Listing.{IsListed, Listed}
use Rattle.rng_model.proofs.Orders.{skeleton_order, skeleton_cmp-same}
use Rattle.derivative_laws.proofs.Members.{IsIn, is_in, contained, in_left, in_right, in_append, all-append}
use Rattle.table_laws.specs.Walking.{IsOfSize, GoesThrough, IsWalk, AreOfSize}

-- one of two skeletons that isn't below the other is it, or above it
not_below : (r s : Skeleton) → skeleton_cmp r s ≢ Less → (r ≡ s) ⊎ (skeleton_cmp s r ≡ Less)
not_below r s n = go (skeleton_cmp r s) refl
  where
    go : (o : Ordering) → skeleton_cmp r s ≡ o → (r ≡ s) ⊎ (skeleton_cmp s r ≡ Less)
    go Less e = absurd (n e)
    go Equal e = inl (skeleton_cmp-same r s e)
    go Greater e = inr (skeleton_order.antisymm s r ∙ ap ordering_reverse e)

module _ (g : Schema) (u : Lists) where
  module _ (n : ℕ) where
    all_above : (r s : Skeleton) (ts : List Skeleton) → skeleton_cmp r s ≡ Less → GoesThrough g u n s ts → AllByRecursion (λ t. skeleton_cmp r t ≡ Less) ts
    all_above r s [] e h = tt
    all_above r s (t ∷ ts) e h = let l = skeleton_order.trans r s t e h.0.above in (l, all_above r t ts l h.1)

    through_above : (s : Skeleton) (ts : List Skeleton) → GoesThrough g u n s ts → AllByRecursion (λ t. skeleton_cmp s t ≡ Less) ts
    through_above s [] h = tt
    through_above s (t ∷ ts) h = (h.0.above, all_above s t ts h.0.above h.1)

    through_ascending : (s : Skeleton) (ts : List Skeleton) → GoesThrough g u n s ts → IsStrictlySortedBy skeleton_cmp ts
    unfolding IsStrictlySortedBy
    through_ascending s [] h = tt
    through_ascending s (t ∷ ts) h = (through_above t ts h.1, through_ascending t ts h.1)

    through_in : (s : Skeleton) (ts : List Skeleton) → GoesThrough g u n s ts → (r : Skeleton) → IsOfSize g u n r → skeleton_cmp s r ≡ Less → IsIn r ts
    through_in s [] h r l e = absurd (h r l e)
    through_in s (t ∷ ts) h r l e = go (not_below r t (h.0.first r l e)) (λ q. through_in t ts h.1 r l q)
      where
        go : (r ≡ t) ⊎ (skeleton_cmp t r ≡ Less) → (skeleton_cmp t r ≡ Less → IsIn r ts) → (r ≡ t) ⊎ IsIn r ts
        go (inl q) again = inl q
        go (inr q) again = inr (again q)

    through_listed : (s : Skeleton) (ts : List Skeleton) → GoesThrough g u n s ts → (r : Skeleton) → IsIn r ts → IsOfSize g u n r
    through_listed s [] h r i = absurd i
    through_listed s (t ∷ ts) h r (inl e) = subst (IsOfSize g u n) (sym e) h.0.listed
    through_listed s (t ∷ ts) h r (inr i) = through_listed t ts h.1 r i

    walk_ascending : (list : List Skeleton) → IsWalk g u n list → IsStrictlySortedBy skeleton_cmp list
    unfolding IsStrictlySortedBy
    walk_ascending [] h = tt
    walk_ascending (s ∷ ss) h = (through_above s ss h.1, through_ascending s ss h.1)

    walk_in : (list : List Skeleton) → IsWalk g u n list → (r : Skeleton) → IsOfSize g u n r → IsIn r list
    walk_in [] h r l = absurd (h r l)
    walk_in (s ∷ ss) h r l = go (not_below r s (h.0.least r l))
      where
        go : (r ≡ s) ⊎ (skeleton_cmp s r ≡ Less) → (r ≡ s) ⊎ IsIn r ss
        go (inl e) = inl e
        go (inr e) = inr (through_in s ss h.1 r l e)

    walk_listed : (list : List Skeleton) → IsWalk g u n list → (r : Skeleton) → IsIn r list → IsOfSize g u n r
    walk_listed [] h r i = absurd i
    walk_listed (s ∷ ss) h r (inl e) = subst (IsOfSize g u n) (sym e) h.0.listed
    walk_listed (s ∷ ss) h r (inr i) = through_listed s ss h.1 r i

    pub walk_whole : (list : List Skeleton) → IsWalk g u n list → AreOfSize g u n list
    walk_whole list h = record {
      ascending = walk_ascending list h;
      each = λ s. (λ i. walk_listed list h s (is_in s list i), λ l. contained s list (walk_in list h s l));
    }

  -- the list of no nodes is empty
  pub listed_zero : Listed g u 0 []
  unfolding IsStrictlySortedBy
  listed_zero = record { ascending = tt; each = λ s. (λ i. absurd (let l = i.1 in omega arith), λ h. absurd (let l = h.small in omega arith)) }

  all_of : (P : Skeleton → Type 0) (ys : List Skeleton) → ((y : Skeleton) → IsIn y ys → P y) → AllByRecursion P ys
  all_of P [] f = tt
  all_of P (y ∷ ys) f = (f y (inl refl), all_of P ys (λ z i. f z (inr i)))

  sorted_both : (xs ys : List Skeleton) → IsStrictlySortedBy skeleton_cmp xs → IsStrictlySortedBy skeleton_cmp ys → ((x y : Skeleton) → IsIn x xs → IsIn y ys → skeleton_cmp x y ≡ Less) →
      IsStrictlySortedBy skeleton_cmp (xs ++ ys)
  unfolding IsStrictlySortedBy
  sorted_both [] ys s t f = t
  sorted_both (x ∷ xs) ys s t f =
      (all-append (λ z. skeleton_cmp x z ≡ Less) xs ys s.0 (all_of (λ z. skeleton_cmp x z ≡ Less) ys (λ y i. f x y (inl refl) i)), sorted_both xs ys s.1 t (λ a b i j. f a b (inr i) j))

  smaller : (s t : Skeleton) → size s < size t → skeleton_cmp s t ≡ Less
  smaller s t l = ap (λ o. ordering_then o (slice_cmp event_cmp (events s) (events t))) (sym (nat_cmp_is (size s) (size t) Less l))

  wider : (m n : ℕ) (s : Skeleton) → size s ≤ n → IsListed g u m s → IsListed g u n s
  wider m n s l h = record { skeleton = h.skeleton; over = h.over; small = l; matches = h.matches }

  -- with all of the next size behind it, a list is that of the next size
  pub listed_next : (n : ℕ) (list more : List Skeleton) → Listed g u n list → AreOfSize g u (n + 1) more → Listed g u (n + 1) (list ++ more)
  listed_next n list more h k = record {
    ascending = sorted_both list more h.ascending k.ascending (λ x y i j. below x y ((h.each x).0 (contained x list i)) ((k.each y).0 (contained y more j)));
    each = λ s. (λ i. each_to s (in_append s list more (is_in s (list ++ more) i)), λ l. contained s (list ++ more) (each_from s l (cases_order (size s) (n + 1))));
  }
    where
      below : (x y : Skeleton) → IsListed g u n x → IsOfSize g u (n + 1) y → skeleton_cmp x y ≡ Less
      below x y a b = let l = a.small in let e = b.exact in smaller x y (omega arith)

      each_to : (s : Skeleton) → IsIn s list ⊎ IsIn s more → IsListed g u (n + 1) s
      each_to s (inl i) = let l = (h.each s).0 (contained s list i) in let e = l.small in wider n (n + 1) s (omega arith) l
      each_to s (inr i) = ((k.each s).0 (contained s more i)).listed

      each_from : (s : Skeleton) → IsListed g u (n + 1) s → (size s ≡ n + 1) ⊎ ((size s < n + 1) ⊎ (n + 1 < size s)) → IsIn s (list ++ more)
      each_from s l (inl q) = in_right s list more (is_in s more ((k.each s).1 (record { listed = l; exact = q })))
      each_from s l (inr (inl q)) = in_left s list more (is_in s list ((h.each s).1 (wider (n + 1) n s (omega arith) l)))
      each_from s l (inr (inr q)) = absurd (let e = l.small in omega arith)
