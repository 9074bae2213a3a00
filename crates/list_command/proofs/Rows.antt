-- Texts of skeletons in a row: where each ends, and which stand below a size.
use Rattle.std.proofs.Common.{◌≡◌, ◌⊎◌, inl, inr, ℕ, ◌<◌, ◌≤◌, List, [], ◌∷◌, ◌++◌, length, refl, ap, ap₂, sym, ◌∙◌, arith}
use Rattle.std.specs.Prelude.{nat_lt, true, false, Bool, Option, Contains}
use Rattle.std.specs.List.Sorted.{IsStrictlySortedBy}
use Rattle.std.specs.List.{AllByRecursion}
use Rattle.std.proofs.lemmas.Bool.{ltb-true, lt-ltb, le-ltb}
use Rattle.std.proofs.lemmas.List.{append-nil, append_assoc}
use Rattle.std.proofs.lemmas.List.Kept.{IsStrictlySortedBy-filter}
use Rattle.rng_model.specs.Hedges.{Skeleton, IsSkeleton, size}
use Rattle.rng_model.specs.Events.{skeleton_cmp}
use Rattle.rng_model.specs.Lines.{skeleton_text}
use Rattle.rng_model.proofs.Orders.{skeleton_order}
use Rattle.derivative_laws.proofs.Members.{IsIn, is_in, contained, in_left, one_list}
use Rattle.listing_laws.specs.Pending.{Asked, IsPending, Ending, Ends}
use Rattle.listing_laws.specs.Fronts.{AreBelow, BeginsWith}
use Rattle.outside.specs.Devices.{IsFrontOf}
use Rattle.list_command.specs.Texts.{lines, below_size, HasTexts}

-- of two ways to split bytes, one has the longer front
split_front : (xs ys a b : List ℕ) → xs ++ a ≡ ys ++ b → ((c : List ℕ) × (ys ≡ xs ++ c) × (a ≡ c ++ b)) ⊎ ((c : List ℕ) × (xs ≡ ys ++ c) × (b ≡ c ++ a))
split_front [] ys a b e = inl (ys, refl, e)
split_front (x ∷ xs) [] a b e = inr (x ∷ xs, refl, sym e)
split_front (x ∷ xs) (y ∷ ys) a b e =
    let first : x ≡ y = cc in
    let rest : xs ++ a ≡ ys ++ b = cc in
    under first (split_front xs ys a b rest)
  where
    under : x ≡ y → ((c : List ℕ) × (ys ≡ xs ++ c) × (a ≡ c ++ b)) ⊎ ((c : List ℕ) × (xs ≡ ys ++ c) × (b ≡ c ++ a)) →
        ((c : List ℕ) × (y ∷ ys ≡ x ∷ (xs ++ c)) × (a ≡ c ++ b)) ⊎ ((c : List ℕ) × (x ∷ xs ≡ y ∷ (ys ++ c)) × (b ≡ c ++ a))
    under first (inl (c, is, also)) = inl (c, ap₂ (λ p q. p ∷ q) (sym first) is, also)
    under first (inr (c, is, also)) = inr (c, ap₂ (λ p q. p ∷ q) first is, also)

-- what the law of texts says
pub record AreTextLaws : Type 0 where
  pub injective : (s t : Skeleton) → IsSkeleton s → IsSkeleton t → skeleton_text s ≡ skeleton_text t → s ≡ t
  pub no_prefix : (s t : Skeleton) → IsSkeleton s → IsSkeleton t → (c : ℕ) (more : List ℕ) → skeleton_text s ++ (c ∷ more) ≡ skeleton_text t → ⊥

module _ (laws : AreTextLaws) where
  -- bytes begin with the text of one skeleton
  same_head : (s t : Skeleton) (a b : List ℕ) → IsSkeleton s → IsSkeleton t → skeleton_text s ++ a ≡ skeleton_text t ++ b → (s ≡ t) × (a ≡ b)
  same_head s t a b is also e = go (split_front (skeleton_text s) (skeleton_text t) a b e)
    where
      go : ((c : List ℕ) × (skeleton_text t ≡ skeleton_text s ++ c) × (a ≡ c ++ b)) ⊎ ((c : List ℕ) × (skeleton_text s ≡ skeleton_text t ++ c) × (b ≡ c ++ a)) →
          (s ≡ t) × (a ≡ b)
      go (inl ([], same, rest)) = (laws.injective s t is also (sym (append-nil (skeleton_text s)) ∙ sym same), rest)
      go (inl (c ∷ more, same, rest)) = absurd (laws.no_prefix s t is also c more (sym same))
      go (inr ([], same, rest)) = (laws.injective s t is also (same ∙ append-nil (skeleton_text t)), sym rest)
      go (inr (c ∷ more, same, rest)) = absurd (laws.no_prefix t s also is c more (sym same))

  -- a text has bytes
  some_bytes : (s : Skeleton) (a : List ℕ) → skeleton_text s ++ a ≡ [] → ⊥
  unfolding skeleton_text
  some_bytes s a e = let l = ap length e in absurd (omega arith)

  -- texts in a row are those of one list
  pub one_row : (xs ys : List Skeleton) → AllByRecursion IsSkeleton xs → AllByRecursion IsSkeleton ys → lines xs ≡ lines ys → xs ≡ ys
  one_row [] [] p q e = refl
  one_row [] (y ∷ ys) p q e = absurd (some_bytes y (lines ys) (sym e))
  one_row (x ∷ xs) [] p q e = absurd (some_bytes x (lines xs) e)
  one_row (x ∷ xs) (y ∷ ys) p q e =
      let both = same_head x y (lines xs) (lines ys) p.0 q.0 e in
      ap₂ (λ s ss. s ∷ ss) both.0 (one_row xs ys p.1 q.1 both.1)

  -- bytes that begin with so many texts have no fewer
  no_fewer : (xs ys : List Skeleton) (a b : List ℕ) → AllByRecursion IsSkeleton xs → AllByRecursion IsSkeleton ys →
      ((s : Skeleton) → IsSkeleton s → IsFrontOf (skeleton_text s) b → ⊥) → lines xs ++ a ≡ lines ys ++ b → length xs ≤ length ys
  no_fewer [] ys a b p q none e = omega arith
  no_fewer (x ∷ xs) [] a b p q none e = absurd (none x p.0 (lines xs ++ a, sym e ∙ append_assoc (skeleton_text x) (lines xs) a))
  no_fewer (x ∷ xs) (y ∷ ys) a b p q none e =
      let whole : skeleton_text x ++ (lines xs ++ a) ≡ skeleton_text y ++ (lines ys ++ b) =
      sym (append_assoc (skeleton_text x) (lines xs) a) ∙ e ∙ append_assoc (skeleton_text y) (lines ys) b in
      let both = same_head x y (lines xs ++ a) (lines ys ++ b) p.0 q.0 whole in
      let again = no_fewer xs ys a b p.1 q.1 none both.1 in
      omega arith

  pub at_least : (xs : List Skeleton) (a written : List ℕ) (w : ℕ) → AllByRecursion IsSkeleton xs → written ≡ lines xs ++ a → HasTexts written w → length xs ≤ w
  at_least xs a written w are is h =
      let few = no_fewer xs h.whole a h.rest are h.are h.no_more (sym is ∙ h.is) in
      let many = h.many in
      omega arith

-- none is below size 0
pub none_below : (given : List Skeleton) → below_size 0 given ≡ []
none_below [] = refl
none_below (s ∷ given) = rw (le-ltb (size s) 0 (omega arith)) (none_below given)

in_below : (m : ℕ) (z : Skeleton) (xs : List Skeleton) → IsIn z (below_size m xs) → IsIn z xs × (size z < m)
in_below m z [] h = absurd h
in_below m z (x ∷ xs) h = by_test (nat_lt (size x) m) refl (in_below m z xs)
  where
    under : nat_lt (size x) m ≡ true → (IsIn z (below_size m xs) → IsIn z xs × (size z < m)) → (z ≡ x) ⊎ IsIn z (below_size m xs) → IsIn z (x ∷ xs) × (size z < m)
    under e again (inl is) = (inl is, rw is (ltb-true (size x) m e))
    under e again (inr i) = let t = again i in (inr t.0, t.1)

    by_test : (b : Bool) → nat_lt (size x) m ≡ b → (IsIn z (below_size m xs) → IsIn z xs × (size z < m)) → IsIn z (x ∷ xs) × (size z < m)
    by_test true e again = under e again (rw e at h)
    by_test false e again = let i : IsIn z (below_size m xs) = rw e at h in let t = again i in (inr t.0, t.1)

below_in : (m : ℕ) (z : Skeleton) (xs : List Skeleton) → IsIn z xs → size z < m → IsIn z (below_size m xs)
below_in m z [] h small = absurd h
below_in m z (x ∷ xs) (inl is) small = rw (lt-ltb (size x) m (rw is at small)) (inl is)
below_in m z (x ∷ xs) (inr i) small = by_test (nat_lt (size x) m) refl (below_in m z xs i small)
  where
    by_test : (b : Bool) → nat_lt (size x) m ≡ b → IsIn z (below_size m xs) → IsIn z (below_size m (x ∷ xs))
    by_test true e again = rw e (inr again)
    by_test false e again = rw e again

-- what was written before a size are those of all that are below it
module _ (a : Asked) (m : ℕ) (front : List Skeleton) (below : AreBelow a m front) where
  given_sorted : {page : Option ℕ} {e : Ending} {given : List Skeleton} → Ends a page e given → IsStrictlySortedBy skeleton_cmp given
  given_sorted (Ends.full is first) = first.ascending
  given_sorted (Ends.stopped stops all short) = all.ascending
  given_sorted (Ends.whole none all short) = all.ascending

  pub given_pending : {page : Option ℕ} {e : Ending} {given : List Skeleton} → Ends a page e given → (z : Skeleton) → Contains given z → IsPending a z
  given_pending (Ends.full is first) z h = first.pending z h
  given_pending (Ends.stopped stops all short) z h = (all.each z).0 h
  given_pending (Ends.whole none all short) z h = (all.each z).0 h

  pub whole_sizes : {page : Option ℕ} {e : Ending} (given : List Skeleton) → Ends a page e given → BeginsWith front given → front ≡ below_size m given
  whole_sizes given ends begins =
      one_list skeleton_cmp skeleton_order (λ z. Contains (below_size m given) z) front (below_size m given) below.ascending
      (IsStrictlySortedBy-filter skeleton_cmp (λ s. nat_lt (size s) m) given (given_sorted ends)) (λ z. (to z, from z)) (λ z. ((λ h. h), (λ h. h)))
    where
      to : (z : Skeleton) → Contains front z → Contains (below_size m given) z
      to z h =
          let inside : IsIn z given = rw begins.is (in_left z front begins.rest (is_in z front h)) in
          contained z (below_size m given) (below_in m z given inside ((below.each z).0 h).1)

      from : (z : Skeleton) → Contains (below_size m given) z → Contains front z
      from z h =
          let inside = in_below m z given (is_in z (below_size m given) h) in
          let pending = given_pending ends z (contained z given inside.0) in
          (below.each z).1 (record { listed = pending.listed; follows = pending.follows }, inside.1)
