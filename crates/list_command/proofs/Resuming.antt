-- What follows a listed skeleton is the rest of the list.
use Rattle.std.proofs.Common.{◌≡◌, ◌⊎◌, inl, inr, ◌↔◌, ℕ, ◌≤◌, List, [], ◌∷◌, ◌++◌, length, refl, ap, sym, ◌∙◌, Contains}
use Rattle.std.specs.Prelude.{Option, None, Some}
use Rattle.std.specs.List.{AllByRecursion}
use Rattle.std.specs.List.Sorted.{IsStrictlySortedBy}
use Rattle.std.specs.declared.cmp.Ordering.{Ordering}
use Rattle.std.specs.declared.cmp.Ordering.TheVariants.{Less}
use Rattle.std.specs.Ordering.{ordering_reverse}
use Rattle.std.specs.Cmp.{IsTotalOrder}
use Rattle.std.proofs.lemmas.Grind.{flat_map-append}
use Rattle.rng_model.specs.Patterns.{Schema}
use Rattle.rng_model.specs.Hedges.{Skeleton, size}
use Rattle.rng_model.specs.Events.{skeleton_cmp}
use Rattle.rng_model.specs.Lines.{skeleton_text}
use Rattle.rng_model.specs.Universe.{Lists}
use Rattle.rng_model.specs.Listing.{IsListed, Listed}
use Rattle.rng_model.specs.States.{ReachesMore}
use Rattle.rng_model.proofs.Orders.{skeleton_order}
use Rattle.derivative_laws.proofs.Members.{IsIn, is_in, contained}
use Rattle.list_command.specs.declared.outcome.Outcome.{Outcome}
use Rattle.command_words.specs.Words.{Request}
use Rattle.listing_laws.specs.Pending.{IsStop, IsPending, AreAll, Ending, Ends}
use Rattle.list_command.specs.Texts.{lines}
use Rattle.list_command.specs.Cursors.{cursor_limit}
use Rattle.list_command.specs.Owed.{asked, OwesAfter, OwesResumed}
use Rattle.list_command.proofs.Whole.{ReachGrows}

module _ {K : Type 0} (R : K → K → Ordering) (total : IsTotalOrder R) where
  in_order : (x z : K) (xs : List K) → AllByRecursion (λ y. R x y ≡ Less) xs → IsIn z xs → R x z ≡ Less
  in_order x z [] a h = absurd h
  in_order x z (y ∷ ys) a (inl e) = rw e a.0
  in_order x z (y ∷ ys) a (inr h) = in_order x z ys a.1 h

  not_both : (x y : K) → R x y ≡ Less → R y x ≡ Less → ⊥
  not_both x y e f = let h : Less ≡ ordering_reverse Less = sym e ∙ total.antisymm x y ∙ ap ordering_reverse f in absurd (cc)

  -- a list before and behind one of its members
  pub record CutAt (s : K) (xs : List K) : Type 0 where
    pub front : List K
    pub back : List K
    pub is : xs ≡ front ++ s ∷ back
    pub sorted : IsStrictlySortedBy R back
    pub behind : (z : K) → IsIn z back ↔ (IsIn z xs × (R s z ≡ Less))

  pub cut_at : (s : K) (xs : List K) → IsStrictlySortedBy R xs → IsIn s xs → CutAt s xs
  unfolding IsStrictlySortedBy
  cut_at s [] sorted h = absurd h
  cut_at s (x ∷ xs) sorted (inl e) = record {
    front = [];
    back = xs;
    is = (λ i. sym e i ∷ xs);
    sorted = sorted.1;
    behind = λ z. ((λ h. (inr h, rw e (in_order x z xs sorted.0 h))), (λ h. of z h.0 h.1));
  }
    where
      of : (z : K) → (z ≡ x) ⊎ IsIn z xs → R s z ≡ Less → IsIn z xs
      of z (inl q) less = let same : z ≡ s = q ∙ sym e in absurd (not_both s s (rw same at less) (rw same at less))
      of z (inr h) less = h
  cut_at s (x ∷ xs) sorted (inr h) = next (cut_at s xs sorted.1 h)
    where
      next : CutAt s xs → CutAt s (x ∷ xs)
      next c = record {
        front = x ∷ c.front;
        back = c.back;
        is = ap (λ ys. x ∷ ys) c.is;
        sorted = c.sorted;
        behind = λ z. ((λ i. (let b = (c.behind z).0 i in (inr b.0, b.1))), (λ i. of z i.0 i.1));
      }
        where
          of : (z : K) → (z ≡ x) ⊎ IsIn z xs → R s z ≡ Less → IsIn z c.back
          of z (inl q) less = absurd (not_both s x (rw q at less) (in_order x s xs sorted.0 h))
          of z (inr i) less = (c.behind z).1 (i, less)

-- where no size has too many states, no listing stops
no_stop : ReachGrows → (g : Schema) (u : Lists) (n : ℕ) (r : Request) → (ReachesMore g u n r.limit → ⊥) → (after : Option Skeleton) (m : ℕ) → IsStop (asked g u n after r) m → ⊥
no_stop grows g u n r few after m stops = few (grows g u m n r.limit stops.to stops.more)

module _ (grows : ReachGrows) (g : Schema) (u : Lists) (n : ℕ) (list : List Skeleton) (listed : Listed g u n list) (r : Request)
    (no_page : r.page ≡ None) (few : ReachesMore g u n r.limit → ⊥) where
  -- all are pending
  all_pending : AreAll (asked g u n None r) list
  all_pending = record { ascending = listed.ascending; each = λ z. (to z, from z) }
    where
      to : (z : Skeleton) → Contains list z → IsPending (asked g u n None r) z
      to z h = record { listed = (listed.each z).0 h; follows = tt; before = λ m stops. absurd (no_stop grows g u n r few None m stops) }

      from : (z : Skeleton) → IsPending (asked g u n None r) z → Contains list z
      from z p = (listed.each z).1 p.listed

  pub list_ends : Ends (asked g u n None r) r.page Ending.whole list
  list_ends = Ends.whole (no_stop grows g u n r few None) all_pending (rw no_page tt)

module _ (g : Schema) (u : Lists) (n : ℕ) (list : List Skeleton) (listed : Listed g u n list) (s : Skeleton) (there : Contains list s) where
  pub the_cut : CutAt skeleton_cmp skeleton_order s list
  the_cut = cut_at skeleton_cmp skeleton_order s list listed.ascending (is_in s list there)

  module _ (grows : ReachGrows) (r : Request) (no_page : r.page ≡ None) (few : ReachesMore g u n r.limit → ⊥) where
    -- behind the member all that follows it is pending
    rest_pending : AreAll (asked g u n (Some s) r) the_cut.back
    rest_pending = record { ascending = the_cut.sorted; each = λ z. (to z, from z) }
      where
        to : (z : Skeleton) → Contains the_cut.back z → IsPending (asked g u n (Some s) r) z
        to z h =
            let b = (the_cut.behind z).0 (is_in z the_cut.back h) in
            record { listed = (listed.each z).0 (contained z list b.0); follows = b.1; before = λ m stops. absurd (no_stop grows g u n r few (Some s) m stops) }

        from : (z : Skeleton) → IsPending (asked g u n (Some s) r) z → Contains the_cut.back z
        from z p = contained z the_cut.back ((the_cut.behind z).1 (is_in z list ((listed.each z).1 p.listed), p.follows))

    the_member : IsListed g u n s
    the_member = (listed.each s).0 there

    pub rest_resumed : length (skeleton_text s) ≤ cursor_limit → OwesResumed g u n (skeleton_text s) r Outcome.Done (lines the_cut.back)
    rest_resumed short =
        OwesResumed.text short the_member.skeleton refl
        (OwesAfter.listing the_member (λ more. few (grows g u (size s) n r.limit the_member.small more))
        (Ends.whole (no_stop grows g u n r few (Some s)) rest_pending (rw no_page tt)) refl refl)

  -- the texts of the list are those up to the member and those behind it
  pub texts_split : lines list ≡ lines (the_cut.front ++ s ∷ []) ++ lines the_cut.back
  texts_split = ap lines (the_cut.is ∙ one_more the_cut.front) ∙ flat_map-append skeleton_text (the_cut.front ++ s ∷ []) the_cut.back
    where
      one_more : (front : List Skeleton) → front ++ s ∷ the_cut.back ≡ (front ++ s ∷ []) ++ the_cut.back
      one_more [] = refl
      one_more (x ∷ xs) = ap (λ ys. x ∷ ys) (one_more xs)
