-- What a listing has written grows document by document and size by size.
use Rattle.std.proofs.Common.{◌≡◌, ◌≢◌, ℕ, ◌+◌, ◌<◌, ◌≤◌, ◌⊎◌, inl, inr, List, [], ◌∷◌, ◌++◌, length, Option, Some, None, refl, sym, ◌∙◌, ap, subst, arith, Contains}
use Rattle.std.specs.List.{AllByRecursion}
use Rattle.std.specs.List.Sorted.{IsStrictlySortedBy}
use Rattle.std.specs.declared.cmp.Ordering.{Ordering}
use Rattle.std.specs.declared.cmp.Ordering.TheVariants.{Less, Equal, Greater}
use Rattle.std.specs.Ordering.{ordering_reverse}
use Rattle.std.proofs.lemmas.Bool.{cases_order}
use Rattle.std.proofs.lemmas.Option.{same_Some}
use Rattle.rng_model.specs.Hedges.{Skeleton, size}
use Rattle.rng_model.specs.Events.{skeleton_cmp}
use Rattle.rng_model.specs.Listing.{IsListed}
use Rattle.rng_model.proofs.Orders.{skeleton_order, skeleton_cmp-same}
use Rattle.derivative_laws.proofs.Members.{IsIn, is_in, contained, in_left, in_right, in_append, all-append}
use Rattle.table_laws.specs.Walking.{IsOfSize, IsFirst, IsNext, GoesThrough}
use Rattle.table_laws.proofs.Counts.{more_grows}
use Rattle.line_laws.proofs.OrderLaw.{lesser_size}
use Rattle.listing_laws.specs.Pending.{Asked, first_size, Follows, IsOver, IsStop, IsPending, AreAll, AreFirst}
use Rattle.listing_laws.specs.Fronts.{IsDue, AreBelow, AreUpTo, IsBehind, NoStopBelow}

-- one of two that isn't below the other is it, or above it
pub not_below : (r s : Skeleton) → skeleton_cmp r s ≢ Less → (r ≡ s) ⊎ (skeleton_cmp s r ≡ Less)
not_below r s n = go (skeleton_cmp r s) refl
  where
    go : (o : Ordering) → skeleton_cmp r s ≡ o → (r ≡ s) ⊎ (skeleton_cmp s r ≡ Less)
    go Less e = absurd (n e)
    go Equal e = inl (skeleton_cmp-same r s e)
    go Greater e = inr (skeleton_order.antisymm s r ∙ ap ordering_reverse e)

pub not_both : (r s : Skeleton) → skeleton_cmp r s ≡ Less → skeleton_cmp s r ≡ Less → ⊥
not_both r s l k = let clash : Less ≡ Greater = sym k ∙ (skeleton_order.antisymm s r ∙ ap ordering_reverse l) in absurd (cc)

pub not_itself : (s : Skeleton) → skeleton_cmp s s ≢ Less
not_itself s l = not_both s s l l

pub decided : (r s : Skeleton) → (skeleton_cmp r s ≡ Less) ⊎ (skeleton_cmp r s ≢ Less)
decided r s = go (skeleton_cmp r s) refl
  where
    go : (o : Ordering) → skeleton_cmp r s ≡ o → (skeleton_cmp r s ≡ Less) ⊎ (skeleton_cmp r s ≢ Less)
    go Less e = inl e
    go Equal e = inr (λ k. let clash : Equal ≡ Less = sym e ∙ k in absurd (cc))
    go Greater e = inr (λ k. let clash : Greater ≡ Less = sym e ∙ k in absurd (cc))

-- what isn't before another is at least as large
pub no_smaller : (r s : Skeleton) → skeleton_cmp r s ≢ Less → size s ≤ size r
no_smaller r s n = go (cases_order (size r) (size s))
  where
    go : (size r ≡ size s) ⊎ ((size r < size s) ⊎ (size s < size r)) → size s ≤ size r
    go (inl e) = omega (arith, e)
    go (inr (inl l)) = absurd (n (lesser_size r s l))
    go (inr (inr l)) = omega (arith, l)

pub less_or : (r s t : Skeleton) → skeleton_cmp r s ≡ Less → skeleton_cmp t s ≢ Less → skeleton_cmp r t ≡ Less
less_or r s t l n = go (not_below t s n)
  where
    go : (t ≡ s) ⊎ (skeleton_cmp s t ≡ Less) → skeleton_cmp r t ≡ Less
    go (inl e) = subst (λ x. skeleton_cmp r x ≡ Less) (sym e) l
    go (inr k) = skeleton_order.trans r s t l k

all_of : (P : Skeleton → Type 0) (ys : List Skeleton) → ((y : Skeleton) → IsIn y ys → P y) → AllByRecursion P ys
all_of P [] f = tt
all_of P (y ∷ ys) f = (f y (inl refl), all_of P ys (λ z i. f z (inr i)))

-- a list with one more at its end
one_more : (xs : List Skeleton) (t : Skeleton) → IsStrictlySortedBy skeleton_cmp xs → ((x : Skeleton) → IsIn x xs → skeleton_cmp x t ≡ Less) →
    IsStrictlySortedBy skeleton_cmp (xs ++ (t ∷ []))
unfolding IsStrictlySortedBy
one_more [] t s f = (tt, tt)
one_more (x ∷ xs) t s f =
    (all-append (λ z. skeleton_cmp x z ≡ Less) xs (t ∷ []) s.0 (f x (inl refl), tt), one_more xs t s.1 (λ z i. f z (inr i)))

last_in : (xs : List Skeleton) (t s : Skeleton) → Contains (xs ++ (t ∷ [])) s → Contains xs s ⊎ (s ≡ t)
last_in xs t s i = go (in_append s xs (t ∷ []) (is_in s (xs ++ (t ∷ [])) i))
  where
    go : IsIn s xs ⊎ ((s ≡ t) ⊎ ⊥) → Contains xs s ⊎ (s ≡ t)
    go (inl j) = inl (contained s xs j)
    go (inr (inl e)) = inr e
    go (inr (inr x)) = absurd x

in_last : (xs : List Skeleton) (t s : Skeleton) → Contains xs s ⊎ (s ≡ t) → Contains (xs ++ (t ∷ [])) s
in_last xs t s (inl i) = contained s (xs ++ (t ∷ [])) (in_left s xs (t ∷ []) (is_in s xs i))
in_last xs t s (inr e) = contained s (xs ++ (t ∷ [])) (in_right s xs (t ∷ []) (inl e))

module _ (a : Asked) where
  wider : (m : ℕ) (s : Skeleton) → m ≤ a.size → IsListed a.schema a.lists m s → IsListed a.schema a.lists a.size s
  wider m s l h = let k = h.small in record { skeleton = h.skeleton; over = h.over; small = omega (arith, k, l); matches = h.matches }

  of_size : (m : ℕ) (s : Skeleton) → size s ≡ m → IsListed a.schema a.lists a.size s → IsOfSize a.schema a.lists m s
  of_size m s e h = record { listed = record { skeleton = h.skeleton; over = h.over; small = omega (arith, e); matches = h.matches }; exact = e }

  follows_cursor : (c s : Skeleton) → a.after ≡ Some c → Follows a.after s → skeleton_cmp c s ≡ Less
  follows_cursor c s e f = subst (λ o. Follows o s) e f

  is_follower : (s : Skeleton) → ((c : Skeleton) → a.after ≡ Some c → skeleton_cmp c s ≡ Less) → Follows a.after s
  is_follower s f = go a.after f
    where
      go : (o : Option Skeleton) → ((c : Skeleton) → o ≡ Some c → skeleton_cmp c s ≡ Less) → Follows o s
      go None h = tt
      go (Some c) h = h c refl

  pub fresh : a.after ≡ None → AreBelow a 1 []
  unfolding IsStrictlySortedBy
  fresh e = record { ascending = tt; each = λ s. (λ i. absurd (let l = i.1 in omega arith), λ h. absurd (let l = h.1 in omega (arith, l))) }

  -- nothing that is due is smaller than where the listing begins
  pub start : AreBelow a (first_size a.after) []
  unfolding IsStrictlySortedBy
  start = record { ascending = tt; each = λ s. (λ i. absurd (let l = i.1 in omega arith), λ h. absurd (never s a.after h.0.follows h.1)) }
    where
      never : (s : Skeleton) (o : Option Skeleton) → Follows o s → size s < first_size o → ⊥
      never s None f l = absurd (omega (arith, l))
      never s (Some c) f l = not_both c s f (lesser_size s c l)

  pub resumed : (c : Skeleton) → a.after ≡ Some c → AreUpTo a c []
  unfolding IsStrictlySortedBy
  resumed c e = record {
    ascending = tt;
    each = λ s. (λ i. absurd (let l = i.1 in omega arith), λ h. absurd (h.1 (follows_cursor c s e h.0.follows)));
    from = λ d q. subst (λ x. skeleton_cmp c x ≢ Less) (same_Some c d (sym e ∙ q)) (not_itself c);
  }

  -- the first one of a size, behind all smaller ones
  pub first : (m : ℕ) (front : List Skeleton) (t : Skeleton) → AreBelow a m front → IsBehind a m → m ≤ a.size → IsFirst a.schema a.lists m t →
      AreUpTo a t (front ++ (t ∷ []))
  first m front t h b l f = record {
    ascending = one_more front t h.ascending (λ x i. lesser_size x t (let k = ((h.each x).0 (contained x front i)).1 in let e = f.listed.exact in omega (arith, k, e)));
    each = λ s. (λ i. to s (last_in front t s i), λ k. in_last front t s (back s k (cases_order (size s) m)));
    from = λ c e n. not_both t c n (behind c e);
  }
    where
      behind : (c : Skeleton) → a.after ≡ Some c → skeleton_cmp c t ≡ Less
      behind c e = lesser_size c t (let k = b c e in let q = f.listed.exact in omega (arith, k, q))

      due : IsDue a t
      due = record { listed = wider m t l f.listed.listed; follows = is_follower t behind }

      to : (s : Skeleton) → Contains front s ⊎ (s ≡ t) → IsDue a s × (skeleton_cmp t s ≢ Less)
      to s (inl i) = let k = (h.each s).0 i in (k.0, λ n. not_both t s n (lesser_size s t (let d = k.1 in let e = f.listed.exact in omega (arith, d, e))))
      to s (inr e) = subst (λ x. IsDue a x × (skeleton_cmp t x ≢ Less)) (sym e) (due, not_itself t)

      same : (s : Skeleton) → (s ≡ t) ⊎ (skeleton_cmp t s ≡ Less) → skeleton_cmp t s ≢ Less → Contains front s ⊎ (s ≡ t)
      same s (inl e) n = inr e
      same s (inr k) n = absurd (n k)

      back : (s : Skeleton) → IsDue a s × (skeleton_cmp t s ≢ Less) → (size s ≡ m) ⊎ ((size s < m) ⊎ (m < size s)) → Contains front s ⊎ (s ≡ t)
      back s k (inl e) = same s (not_below s t (f.least s (of_size m s e k.0.listed))) k.1
      back s k (inr (inl d)) = inl ((h.each s).1 (k.0, d))
      back s k (inr (inr d)) = absurd (let w = no_smaller t s k.1 in let e = f.listed.exact in omega (arith, w, e, d))

  -- the next one of the size
  pub next : (m : ℕ) (front : List Skeleton) (last t : Skeleton) → AreUpTo a last front → m ≤ a.size → size last ≡ m → IsNext a.schema a.lists m last t →
      AreUpTo a t (front ++ (t ∷ []))
  next m front last t h l q f = record {
    ascending = one_more front t h.ascending (λ x i. before x ((h.each x).0 (contained x front i)).1);
    each = λ s. (λ i. to s (last_in front t s i), λ k. in_last front t s (back s k (decided last s)));
    from = λ c e n. not_both t c n (behind c e);
  }
    where
      before : (x : Skeleton) → skeleton_cmp last x ≢ Less → skeleton_cmp x t ≡ Less
      before x n = go (not_below last x n)
        where
          go : (last ≡ x) ⊎ (skeleton_cmp x last ≡ Less) → skeleton_cmp x t ≡ Less
          go (inl e) = subst (λ y. skeleton_cmp y t ≡ Less) e f.above
          go (inr k) = skeleton_order.trans x last t k f.above

      behind : (c : Skeleton) → a.after ≡ Some c → skeleton_cmp c t ≡ Less
      behind c e = before c (h.from c e)

      due : IsDue a t
      due = record { listed = wider m t l f.listed.listed; follows = is_follower t behind }

      to : (s : Skeleton) → Contains front s ⊎ (s ≡ t) → IsDue a s × (skeleton_cmp t s ≢ Less)
      to s (inl i) = let k = (h.each s).0 i in (k.0, λ n. not_both t s n (before s k.1))
      to s (inr e) = subst (λ x. IsDue a x × (skeleton_cmp t x ≢ Less)) (sym e) (due, not_itself t)

      same : (s : Skeleton) → (s ≡ t) ⊎ (skeleton_cmp t s ≡ Less) → skeleton_cmp t s ≢ Less → Contains front s ⊎ (s ≡ t)
      same s (inl e) n = inr e
      same s (inr k) n = absurd (n k)

      exact : (s : Skeleton) → skeleton_cmp last s ≡ Less → skeleton_cmp t s ≢ Less → size s ≡ m
      exact s k n =
          let d = no_smaller s last (λ z. not_both s last z k) in
          let e = no_smaller t s n in
          let x = f.listed.exact in
          omega (arith, d, e, x, q)

      back : (s : Skeleton) → IsDue a s × (skeleton_cmp t s ≢ Less) → (skeleton_cmp last s ≡ Less) ⊎ (skeleton_cmp last s ≢ Less) → Contains front s ⊎ (s ≡ t)
      back s k (inl d) = same s (not_below s t (f.first s (of_size m s (exact s d k.1) k.0.listed) d)) k.1
      back s k (inr n) = inl ((h.each s).1 (k.0, n))

  -- nothing of a size
  pub none : (m : ℕ) (front : List Skeleton) → AreBelow a m front → ((s : Skeleton) → IsOfSize a.schema a.lists m s → ⊥) → AreBelow a (m + 1) front
  none m front h n = record { ascending = h.ascending; each = λ s. (λ i. to s ((h.each s).0 i), λ k. back s k (cases_order (size s) m)) }
    where
      to : (s : Skeleton) → IsDue a s × (size s < m) → IsDue a s × (size s < m + 1)
      to s k = (k.0, let d = k.1 in omega (arith, d))

      back : (s : Skeleton) → IsDue a s × (size s < m + 1) → (size s ≡ m) ⊎ ((size s < m) ⊎ (m < size s)) → Contains front s
      back s k (inl e) = absurd (n s (of_size m s e k.0.listed))
      back s k (inr (inl d)) = (h.each s).1 (k.0, d)
      back s k (inr (inr d)) = absurd (let w = k.1 in omega (arith, w, d))

  -- the last one of a size
  pub end : (m : ℕ) (front : List Skeleton) (last : Skeleton) → AreUpTo a last front → size last ≡ m → GoesThrough a.schema a.lists m last [] → AreBelow a (m + 1) front
  end m front last h q n = record { ascending = h.ascending; each = λ s. (λ i. to s ((h.each s).0 i), λ k. back s k (decided last s)) }
    where
      to : (s : Skeleton) → IsDue a s × (skeleton_cmp last s ≢ Less) → IsDue a s × (size s < m + 1)
      to s k = (k.0, let d = no_smaller last s k.1 in omega (arith, d, q))

      back : (s : Skeleton) → IsDue a s × (size s < m + 1) → (skeleton_cmp last s ≡ Less) ⊎ (skeleton_cmp last s ≢ Less) → Contains front s
      back s k (inl d) = absurd (n s (of_size m s (let w = no_smaller s last (λ z. not_both s last z d) in let e = k.1 in omega (arith, w, e, q)) k.0.listed) d)
      back s k (inr d) = (h.each s).1 (k.0, d)

  -- a size that is over is at or above the stop
  pub all_whole : (front : List Skeleton) → AreBelow a (a.size + 1) front → ((m : ℕ) → IsStop a m → ⊥) → AreAll a front
  all_whole front h n = record {
    ascending = h.ascending;
    each = λ s. (
      λ i. let k = (h.each s).0 i in record { listed = k.0.listed; follows = k.0.follows; before = λ m x. absurd (n m x) },
      λ p. (h.each s).1 (record { listed = p.listed; follows = p.follows }, let d = p.listed.small in omega (arith, d)),
    );
  }

  pub all_stopped : (m : ℕ) (front : List Skeleton) → AreBelow a m front → IsStop a m → AreAll a front
  all_stopped m front h x = record {
    ascending = h.ascending;
    each = λ s. (
      λ i. let k = (h.each s).0 i in record { listed = k.0.listed; follows = k.0.follows; before = λ j y. before s j y k.1 },
      λ p. (h.each s).1 (record { listed = p.listed; follows = p.follows }, p.before m x),
    );
  }
    where
      before : (s : Skeleton) (j : ℕ) → IsStop a j → size s < m → size s < j
      before s j y d = go (cases_order j m)
        where
          go : (j ≡ m) ⊎ ((j < m) ⊎ (m < j)) → size s < j
          go (inl e) = omega (arith, e, d)
          go (inr (inl l)) = absurd (x.first j y.from l y.more)
          go (inr (inr l)) = omega (arith, l, d)

  -- what is written up to a document is a first part of all
  pub up_to_first : (front : List Skeleton) (last : Skeleton) → AreUpTo a last front → (IsOver a (size last) → ⊥) → AreFirst a (length front) front
  up_to_first front last h n = record {
    many = refl;
    ascending = h.ascending;
    pending = λ s i. let k = (h.each s).0 i in record { listed = k.0.listed; follows = k.0.follows; before = λ m x. before s m x (no_smaller last s k.1) };
    least = λ s t p i. go s t p (decided t s) (((h.each t).0 i).1);
  }
    where
      before : (s : Skeleton) (m : ℕ) → IsStop a m → size s ≤ size last → size s < m
      before s m x d = pick (cases_order m (size last))
        where
          pick : (m ≡ size last) ⊎ ((m < size last) ⊎ (size last < m)) → size s < m
          pick (inl e) = absurd (n (subst (λ y. IsOver a y) e x.more))
          pick (inr (inl l)) = absurd (n (more_grows a.schema a.lists m (size last) a.limit (omega (arith, l)) x.more))
          pick (inr (inr l)) = omega (arith, l, d)

      go : (s t : Skeleton) → IsPending a s → (skeleton_cmp t s ≡ Less) ⊎ (skeleton_cmp t s ≢ Less) → skeleton_cmp last t ≢ Less → Contains front s ⊎ (skeleton_cmp t s ≡ Less)
      go s t p (inl l) k = inr l
      go s t p (inr l) k = inl ((h.each s).1 (record { listed = p.listed; follows = p.follows }, λ z. k (less_or last s t z l)))

  pub below_first : (m : ℕ) (front : List Skeleton) → AreBelow a m front → NoStopBelow a m → AreFirst a (length front) front
  below_first m front h n = record {
    many = refl;
    ascending = h.ascending;
    pending = λ s i. let k = (h.each s).0 i in record { listed = k.0.listed; follows = k.0.follows; before = λ j x. let d = n j x in let e = k.1 in omega (arith, d, e) };
    least = λ s t p i. go s t p (decided t s) (((h.each t).0 i).1);
  }
    where
      go : (s t : Skeleton) → IsPending a s → (skeleton_cmp t s ≡ Less) ⊎ (skeleton_cmp t s ≢ Less) → size t < m → Contains front s ⊎ (skeleton_cmp t s ≡ Less)
      go s t p (inl l) k = inr l
      go s t p (inr l) k = inl ((h.each s).1 (record { listed = p.listed; follows = p.follows }, let d = no_smaller t s l in omega (arith, d, k)))
