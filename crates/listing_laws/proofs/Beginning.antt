-- First parts of what is to be written begin each other, and what is to be written begins with them.
use Rattle.std.proofs.Common.{◌≡◌, ℕ, ◌<◌, ◌≤◌, ◌⊎◌, inl, inr, List, [], ◌∷◌, ◌++◌, length, Option, Some, refl, sym, ◌∙◌, ap, subst, arith, Contains}
use Rattle.std.specs.List.{AllByRecursion}
use Rattle.std.specs.List.Sorted.{IsStrictlySortedBy}
use Rattle.std.specs.declared.cmp.Ordering.TheVariants.{Less}
use Rattle.std.proofs.lemmas.Bool.{cases_order}
use Rattle.std.proofs.lemmas.List.{append-nil, length-append}
use Rattle.std.proofs.lemmas.Option.{same_Some}
use Rattle.rng_model.specs.Hedges.{Skeleton}
use Rattle.rng_model.specs.Events.{skeleton_cmp}
use Rattle.derivative_laws.proofs.Members.{IsIn, is_in, contained, in_right}
use Rattle.listing_laws.specs.Pending.{Asked, IsStop, IsPending, AreAll, AreFirst, IsShort, Ending, Ends}
use Rattle.listing_laws.specs.Fronts.{Fits, BeginsWith}
use Rattle.listing_laws.proofs.Fronts.{not_both, not_itself}

-- P holds of the members, and each of which P holds is a member or above all
record IsPart (P : Skeleton → Type 0) (xs : List Skeleton) : Type 0 where
  ascending : IsStrictlySortedBy skeleton_cmp xs
  members : (s : Skeleton) → IsIn s xs → P s
  least : (s t : Skeleton) → P s → IsIn t xs → IsIn s xs ⊎ (skeleton_cmp t s ≡ Less)

-- P, and above x
record IsAbove (P : Skeleton → Type 0) (x s : Skeleton) : Type 0 where
  holds : P s
  above : skeleton_cmp x s ≡ Less

above_first : (x : Skeleton) (xs : List Skeleton) → AllByRecursion (λ y. skeleton_cmp x y ≡ Less) xs → (y : Skeleton) → IsIn y xs → skeleton_cmp x y ≡ Less
above_first x (z ∷ zs) h y (inl e) = subst (λ w. skeleton_cmp x w ≡ Less) (sym e) h.0
above_first x (z ∷ zs) h y (inr i) = above_first x zs h.1 y i
above_first x [] h y i = absurd i

part_of_rest : (P : Skeleton → Type 0) (x : Skeleton) (xs : List Skeleton) → IsPart P (x ∷ xs) → IsPart (IsAbove P x) xs
unfolding IsStrictlySortedBy
part_of_rest P x xs h = record {
  ascending = h.ascending.1;
  members = λ s i. record { holds = h.members s (inr i); above = above_first x xs h.ascending.0 s i };
  least = λ s t p i. go s t p (h.least s t p.holds (inr i));
}
  where
    go : (s t : Skeleton) → IsAbove P x s → ((s ≡ x) ⊎ IsIn s xs) ⊎ (skeleton_cmp t s ≡ Less) → IsIn s xs ⊎ (skeleton_cmp t s ≡ Less)
    go s t p (inl (inl e)) = absurd (not_itself x (subst (λ w. skeleton_cmp x w ≡ Less) e p.above))
    go s t p (inl (inr i)) = inl i
    go s t p (inr l) = inr l

-- the first members are one
same_first : (P : Skeleton → Type 0) (x y : Skeleton) (xs ys : List Skeleton) → IsPart P (x ∷ xs) → IsPart P (y ∷ ys) → x ≡ y
unfolding IsStrictlySortedBy
same_first P x y xs ys h k = go (k.least x y (h.members x (inl refl)) (inl refl)) (h.least y x (k.members y (inl refl)) (inl refl))
  where
    go : ((x ≡ y) ⊎ IsIn x ys) ⊎ (skeleton_cmp y x ≡ Less) → ((y ≡ x) ⊎ IsIn y xs) ⊎ (skeleton_cmp x y ≡ Less) → x ≡ y
    go (inl (inl e)) c = e
    go b (inl (inl e)) = sym e
    go (inl (inr i)) (inl (inr j)) = absurd (not_both x y (above_first x xs h.ascending.0 y j) (above_first y ys k.ascending.0 x i))
    go (inl (inr i)) (inr l) = absurd (not_both x y l (above_first y ys k.ascending.0 x i))
    go (inr l) (inl (inr j)) = absurd (not_both x y (above_first x xs h.ascending.0 y j) l)
    go (inr l) (inr m) = absurd (not_both x y m l)

cons : (x : Skeleton) (xs ys : List Skeleton) → BeginsWith xs ys → BeginsWith (x ∷ xs) (x ∷ ys)
cons x xs ys b = record { rest = b.rest; is = ap (λ z. x ∷ z) b.is }

one_begins : (P : Skeleton → Type 0) (xs ys : List Skeleton) → IsPart P xs → IsPart P ys → BeginsWith xs ys ⊎ BeginsWith ys xs
one_begins P [] ys h k = inl (record { rest = ys; is = refl })
one_begins P (x ∷ xs) [] h k = inr (record { rest = x ∷ xs; is = refl })
one_begins P (x ∷ xs) (y ∷ ys) h k =
    go (same_first P x y xs ys h k)
    (one_begins (IsAbove P x) xs ys (part_of_rest P x xs h)
    (subst (λ z. IsPart (IsAbove P z) ys) (sym (same_first P x y xs ys h k)) (part_of_rest P y ys k)))
  where
    go : x ≡ y → BeginsWith xs ys ⊎ BeginsWith ys xs → BeginsWith (x ∷ xs) (y ∷ ys) ⊎ BeginsWith (y ∷ ys) (x ∷ xs)
    go e (inl b) = inl (subst (λ z. BeginsWith (x ∷ xs) (z ∷ ys)) e (cons x xs ys b))
    go e (inr b) = inr (subst (λ z. BeginsWith (z ∷ ys) (x ∷ xs)) e (cons x ys xs b))

-- a longer beginning is the whole
no_longer : (xs ys : List Skeleton) → BeginsWith ys xs → length xs ≤ length ys → xs ≡ ys
no_longer xs ys b l = go b.rest b.is
  where
    go : (rest : List Skeleton) → xs ≡ ys ++ rest → xs ≡ ys
    go [] e = e ∙ append-nil ys
    go (r ∷ rs) e = absurd (let q = ap length e in let w = length-append ys (r ∷ rs) in omega (arith, q, w, l))

no_shorter : (xs ys : List Skeleton) → BeginsWith xs ys → length xs ≤ length ys
no_shorter xs ys b = let q = ap length b.is in let w = length-append xs b.rest in omega (arith, q, w)

-- a member of the front doesn't stand behind it
no_rest : (r : Skeleton) (front back : List Skeleton) → IsStrictlySortedBy skeleton_cmp (front ++ (r ∷ back)) → IsIn r front → ⊥
unfolding IsStrictlySortedBy
no_rest r [] back s i = absurd i
no_rest r (z ∷ zs) back s (inl e) = not_itself r (subst (λ w. skeleton_cmp w r ≡ Less) (sym e) (above_first z (zs ++ (r ∷ back)) s.0 r (in_right r zs (r ∷ back) (inl refl))))
no_rest r (z ∷ zs) back s (inr i) = no_rest r zs back s.1 i

-- what has all members of which P holds is the whole
has_all : (P : Skeleton → Type 0) (xs ys : List Skeleton) → IsPart P xs → ((s : Skeleton) → P s → IsIn s ys) → IsPart P ys → BeginsWith xs ys
has_all P xs ys h f k = go (one_begins P xs ys h k)
  where
    whole : (rest : List Skeleton) → xs ≡ ys ++ rest → BeginsWith xs ys
    whole [] e = record { rest = []; is = sym (append-nil ys) ∙ (sym e ∙ sym (append-nil xs)) }
    whole (r ∷ rs) e =
        absurd (no_rest r ys rs (subst (IsStrictlySortedBy skeleton_cmp) e h.ascending)
        (f r (h.members r (subst (λ z. IsIn r z) (sym e) (in_right r ys (r ∷ rs) (inl refl))))))

    go : BeginsWith xs ys ⊎ BeginsWith ys xs → BeginsWith xs ys
    go (inl b) = b
    go (inr b) = whole b.rest b.is

module _ (a : Asked) where
  part_of_first : (k : ℕ) (front : List Skeleton) → AreFirst a k front → IsPart (IsPending a) front
  part_of_first k front h = record {
    ascending = h.ascending;
    members = λ s i. h.pending s (contained s front i);
    least = λ s t p i. go s t (h.least s t p (contained t front i));
  }
    where
      go : (s t : Skeleton) → Contains front s ⊎ (skeleton_cmp t s ≡ Less) → IsIn s front ⊎ (skeleton_cmp t s ≡ Less)
      go s t (inl i) = inl (is_in s front i)
      go s t (inr l) = inr l

  part_of_all : (queue : List Skeleton) → AreAll a queue → IsPart (IsPending a) queue
  part_of_all queue h = record {
    ascending = h.ascending;
    members = λ s i. (h.each s).0 (contained s queue i);
    least = λ s t p i. inl (is_in s queue ((h.each s).1 p));
  }

  begins_all : (k : ℕ) (front queue : List Skeleton) → AreFirst a k front → AreAll a queue → BeginsWith front queue
  begins_all k front queue h all =
      has_all (IsPending a) front queue (part_of_first k front h) (λ s p. is_in s queue ((all.each s).1 p)) (part_of_all queue all)

  -- a first part that fits on the page begins what is written
  pub begins : (page : Option ℕ) (front : List Skeleton) (e : Ending) (queue : List Skeleton) → AreFirst a (length front) front → Fits (length front) page →
      Ends a page e queue → BeginsWith front queue
  begins page front e queue h f (Ends.full {k} is first) = go (one_begins (IsPending a) front queue (part_of_first (length front) front h) (part_of_first k queue first))
    where
      fits : length front ≤ k
      fits = subst (λ o. Fits (length front) o) is f

      go : BeginsWith front queue ⊎ BeginsWith queue front → BeginsWith front queue
      go (inl b) = b
      go (inr b) = record { rest = []; is = sym (no_longer front queue b (let w = first.many in let l = fits in omega (arith, w, l))) ∙ sym (append-nil front) }
  begins page front e queue h f (Ends.stopped stop all short) = begins_all (length front) front queue h all
  begins page front e queue h f (Ends.whole none all short) = begins_all (length front) front queue h all

  one_stop : (m n : ℕ) → IsStop a m → IsStop a n → m ≡ n
  one_stop m n x y = go (cases_order m n)
    where
      go : (m ≡ n) ⊎ ((m < n) ⊎ (n < m)) → m ≡ n
      go (inl e) = e
      go (inr (inl l)) = absurd (y.first m x.from l x.more)
      go (inr (inr l)) = absurd (x.first n y.from l y.more)

  both_all : (queue other : List Skeleton) → AreAll a queue → AreAll a other → queue ≡ other
  both_all queue other h k =
      let b = has_all (IsPending a) queue other (part_of_all queue h) (λ s p. is_in s other ((k.each s).1 p)) (part_of_all other k) in
      let c = has_all (IsPending a) other queue (part_of_all other k) (λ s p. is_in s queue ((h.each s).1 p)) (part_of_all queue h) in
      no_longer queue other c (no_shorter queue other b)

  both_first : (k : ℕ) (front other : List Skeleton) → AreFirst a k front → AreFirst a k other → front ≡ other
  both_first k front other h i = go (one_begins (IsPending a) front other (part_of_first k front h) (part_of_first k other i))
    where
      go : BeginsWith front other ⊎ BeginsWith other front → front ≡ other
      go (inl b) = sym (no_longer other front b (let w = h.many in let v = i.many in omega (arith, w, v)))
      go (inr b) = no_longer front other b (let w = h.many in let v = i.many in omega (arith, w, v))

  not_full : (page : Option ℕ) (k : ℕ) (front queue : List Skeleton) → page ≡ Some k → AreFirst a k front → AreAll a queue → IsShort queue page → ⊥
  not_full page k front queue is h all short =
      let l = subst (λ o. IsShort queue o) is short in
      let b = no_shorter front queue (begins_all k front queue h all) in
      let w = h.many in
      absurd (omega (arith, l, b, w))

  pub one_ending : (page : Option ℕ) (e f : Ending) (queue other : List Skeleton) → Ends a page e queue → Ends a page f other → (e ≡ f) × (queue ≡ other)
  one_ending page e f queue other (Ends.full {k} is h) (Ends.full {k = l} js i) =
      (refl, both_first k queue other h (subst (λ n. AreFirst a n other) (same_Some l k (sym js ∙ is)) i))
  one_ending page e f queue other (Ends.full {k} is h) (Ends.stopped x all short) = absurd (not_full page k queue other is h all short)
  one_ending page e f queue other (Ends.full {k} is h) (Ends.whole n all short) = absurd (not_full page k queue other is h all short)
  one_ending page e f queue other (Ends.stopped x all short) (Ends.full {k} is h) = absurd (not_full page k other queue is h all short)
  one_ending page e f queue other (Ends.stopped {m} x all short) (Ends.stopped {m = n} y whole less) = (ap Ending.stopped (one_stop m n x y), both_all queue other all whole)
  one_ending page e f queue other (Ends.stopped {m} x all short) (Ends.whole n whole less) = absurd (n m x)
  one_ending page e f queue other (Ends.whole n all short) (Ends.full {k} is h) = absurd (not_full page k other queue is h all short)
  one_ending page e f queue other (Ends.whole n all short) (Ends.stopped {m} x whole less) = absurd (n m x)
  one_ending page e f queue other (Ends.whole n all short) (Ends.whole m whole less) = (refl, both_all queue other all whole)
