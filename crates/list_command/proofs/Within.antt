-- How many steps a listing over a table counts.
use Rattle.std.proofs.Common.{◌≡◌, ℕ, ◌+◌, ◌*◌, ◌≤◌, List, ◌++◌, length, refl, ap, ap₂, sym, ◌∙◌, subst, arith}
use Rattle.std.specs.Prelude.{Option, None, Some}
use Rattle.std.proofs.Math.Nat.{mul-le-mul_left}
use Rattle.std.proofs.lemmas.List.{append_cancel_left}
use Rattle.std.specs.List.{AllByRecursion}
use Rattle.std.specs.Io.KnownBytes.{Appends}
use Rattle.rng_model.specs.Patterns.{Schema}
use Rattle.rng_model.specs.Hedges.{Skeleton, IsSkeleton}
use Rattle.rng_model.specs.Atoms.{Literals}
use Rattle.rng_model.specs.Universe.{Lists, AreLists, AreLiterals, event_count}
use Rattle.rng_model.specs.Alike.{Groups, AreAlikeGroups, alike_count}
use Rattle.rng_model.specs.States.{Reach}
use Rattle.derivative_laws.proofs.Members.{contained}
use Rattle.feasibility.specs.Tables.{Table, IsTable, Keeps, lists, lists_of, group_total}
use Rattle.listing_laws.specs.Pending.{Asked, Ending, Ends}
use Rattle.listing_laws.specs.StateCounts.{ReachesExactly}
use Rattle.listing_laws.proofs.Once.{same_count}
use Rattle.listing.specs.Progress.{asked_of}
use Rattle.listing.specs.Summing.{each_of}
use Rattle.listing.specs.Costs.{HasCost}
use Rattle.listing.specs.declared.listing_end.ListingEnd.{ListingEnd}
use Rattle.command_words.specs.Words.{Request}
use Rattle.list_command.specs.declared.outcome.Outcome.{Outcome}
use Rattle.list_command.specs.Owed.{asked}
use Rattle.list_command.specs.Texts.{lines, HasTexts}
use Rattle.list_command.specs.Asking.{IsTableOf, IsNotPlaced, outcome_from}
use Rattle.list_command.specs.Ticks.{IsWithin, WritesWithin, SumsWithin, most_steps}
use Rattle.list_command.proofs.OneUniverse.{one_universe}
use Rattle.list_command.proofs.Rows.{AreTextLaws, at_least}
use Rattle.list_command.proofs.Cuts.{all_skeletons}
use Rattle.list_command.proofs.Ends.{same_asked_of}
use Rattle.list_command.proofs.Alike.{one_grouping}

-- where no step was counted
pub none_within : (g : Schema) (u : Lists) (r : Request) (n count : ℕ) (outcome : Outcome) (ticks : ℕ) → IsWithin ticks ticks g u r n count outcome
none_within g u r n count outcome ticks = record { any = λ l x a b. omega arith; done = λ l x a b e states h. omega arith }

pub none_written : (g : Schema) (r : Request) (n : ℕ) (taken taken_now : Option (List ℕ)) (outcome : Outcome) (ticks : ℕ) →
    WritesWithin ticks ticks g r n taken taken_now outcome
none_written g r n taken taken_now outcome ticks = λ u before written count are e f h. none_within g u r n count outcome ticks

pub none_summed : (g : Schema) (r : Request) (n : ℕ) (outcome : Outcome) (ticks : ℕ) → SumsWithin ticks ticks g r n outcome
none_summed g r n outcome ticks = λ u ending given are ends. none_within g u r n (length given) outcome ticks

pub keeps_itself : (t : Table) → Keeps t t
keeps_itself t = record {
  schema = refl;
  universe = refl;
  atoms = refl;
  groups = refl;
  limit = refl;
  grown = omega arith;
  longer = omega arith;
  states = λ id l. refl;
}

-- the numbers of steps, in one sum
few_in_all : (s s0 m m1 n e c : ℕ) → m ≤ m1 → s ≤ s0 + m + 9 * n + 12 * n * e * n + 12 * n * e * c → s ≤ s0 + (m1 + 9 * n + 12 * n * e * (c + n))
few_in_all s s0 m m1 n e c l h = omega (arith, l, h)

module _ (old new : Table) (kept : Keeps old new) where
  pub same_total : group_total new ≡ group_total old
  same_total =
      ap (λ u. alike_count (lists_of u new.atoms) new.groups) kept.universe
      ∙ (ap (λ x. alike_count (lists_of old.universe x) new.groups) kept.atoms ∙ ap (λ x. alike_count (lists old) x) kept.groups)

  kept_lists : lists new ≡ lists old
  kept_lists = ap (λ u. lists_of u new.atoms) kept.universe ∙ ap (λ x. lists_of old.universe x) kept.atoms

  -- the derivatives of a table are at most those of a state for each that the limit allows
  pub few_spent : IsTable new → new.spent ≤ group_total old * (old.limit + 1)
  few_spent are =
      let few = are.few in
      let limit = kept.limit in
      let mine : new.spent ≤ group_total old * length new.states = subst (λ j. new.spent ≤ j * length new.states) same_total are.counted in
      let most : group_total old * length new.states ≤ group_total old * (old.limit + 1) = mul-le-mul_left (group_total old) (omega (arith, few, limit)) in
      omega (arith, mine, most)

  module _ (g : Schema) (r : Request) (is : IsTableOf old g r) (are : IsTable new) (u : Lists) (own : AreLists g r.fresh r.texts u) where
    same_lists : lists old ≡ u
    same_lists = one_universe g r.fresh r.texts (lists old) u is.lists own

    same_groups : (l : Literals) (x : Groups) → AreLiterals g l → AreAlikeGroups g l u x → group_total old ≡ alike_count u x
    same_groups l x literals alike =
        let schema : new.schema ≡ g = kept.schema ∙ is.schema in
        let mine : AreAlikeGroups g l (lists new) new.groups =
        subst (λ h. AreAlikeGroups h l (lists new) new.groups) schema (are.alike l (subst (λ h. AreLiterals h l) (sym schema) literals)) in
        let here : AreAlikeGroups g l u new.groups = subst (λ v. AreAlikeGroups g l v new.groups) (kept_lists ∙ same_lists) mine in
        sym same_total ∙ ap₂ alike_count (kept_lists ∙ same_lists) (one_grouping g l u new.groups x here alike)

    -- all states that are reached with so many nodes
    spent_by : (n states : ℕ) → new.grown ≡ n → ReachesExactly g u n states → new.spent ≤ group_total old * states
    spent_by n states grown reached =
        let mine : ReachesExactly new.schema (lists new) new.grown (length new.states) = record { states = new.states; distinct = are.once; each = are.each; many = refl } in
        let schema : new.schema ≡ g = kept.schema ∙ is.schema in
        let here : ReachesExactly g u n (length new.states) =
        subst (λ k. ReachesExactly g u k (length new.states)) grown
        (subst (λ v. ReachesExactly g v new.grown (length new.states)) (kept_lists ∙ same_lists)
        (subst (λ h. ReachesExactly h (lists new) new.grown (length new.states)) schema mine)) in
        subst (λ k. new.spent ≤ group_total old * k) (same_count g u n (length new.states) states here reached)
        (subst (λ j. new.spent ≤ j * length new.states) same_total are.counted)

    -- a listing that counted for the growth of the table, for a cursor, and for each skeleton and size
    pub listing_within : (n count s0 s1 : ℕ) (outcome : Outcome) →
        s1 ≤ s0 + group_total old * (old.limit + 1) + 9 * n + each_of old n * n + each_of old n * count →
        (outcome ≡ Outcome.Done → (new.grown ≡ n) × (s1 ≤ s0 + new.spent + 9 * n + each_of old n * n + each_of old n * count)) →
        IsWithin s0 s1 g u r n count outcome
    listing_within n count s0 s1 outcome few all = record {
      any = λ l x literals alike.
          let limit : group_total old * (old.limit + 1) ≡ group_total old * (r.limit + 1) = ap (λ k. group_total old * (k + 1)) is.limit in
          fits l x literals alike (r.limit + 1) (few_in_all s1 s0 (group_total old * (old.limit + 1)) (group_total old * (r.limit + 1)) n (event_count (lists old)) count (omega (arith, limit)) few);
      done = λ l x literals alike done states reached.
          let last = all done in
          fits l x literals alike states (few_in_all s1 s0 new.spent (group_total old * states) n (event_count (lists old)) count (spent_by n states last.0 reached) last.1);
    }
      where
        fits : (l : Literals) (x : Groups) → AreLiterals g l → AreAlikeGroups g l u x → (states : ℕ) →
            s1 ≤ s0 + most_steps (group_total old) (event_count (lists old)) states n count → s1 ≤ s0 + most_steps (alike_count u x) (event_count u) states n count
        fits l x literals alike states h =
            subst (λ e. s1 ≤ s0 + most_steps (alike_count u x) e states n count) (ap event_count same_lists)
            (subst (λ a. s1 ≤ s0 + most_steps a (event_count (lists old)) states n count) (same_groups l x literals alike) h)

-- the steps are those of the texts that were written whole
pub written_whole : (texts : AreTextLaws) (a : Asked) (page : Option ℕ) (taken taken_now : Option (List ℕ)) (x y each s : ℕ) → HasCost taken taken_now x y each s a page →
    (before written : List ℕ) (count : ℕ) → taken ≡ Some before → taken_now ≡ Some (before ++ written) → HasTexts written count → s + x ≤ y + each * count
written_whole texts a page taken taken_now x y each s h before written count is now has =
    let bytes : Appends (Some before) (Some (before ++ written)) (lines h.front ++ h.part) =
    subst (λ o. Appends o (Some (before ++ written)) (lines h.front ++ h.part)) is (subst (λ o. Appends taken o (lines h.front ++ h.part)) now h.bytes) in
    let all : AllByRecursion IsSkeleton h.front = all_skeletons h.front (λ z there. (h.listed z (contained z h.front there)).skeleton) in
    let few = at_least texts h.front h.part written count all (append_cancel_left before written (lines h.front ++ h.part) bytes) has in
    let most : each * length h.front ≤ each * count = mul-le-mul_left each few in
    let ticks = h.ticks in
    omega (arith, ticks, most)

-- a listing over a table, from the cursor on if there is one
module _ (texts : AreTextLaws) (old new : Table) (kept : Keeps old new) (g : Schema) (r : Request) (is : IsTableOf old g r) (are : IsTable new)
    (n : ℕ) (after : Option Skeleton) (page : Option ℕ) (taken taken_now : Option (List ℕ)) (s s0 s1 : ℕ) where
  pub writing_within : (outcome : Outcome) → s ≤ s0 + old.spent + 6 * n →
      HasCost taken taken_now old.spent (s + group_total old * (old.limit + 1) + 3 * n + each_of old n * n) (each_of old n) s1 (asked_of old n after) page →
      (outcome ≡ Outcome.Done → (new.grown ≡ n) × HasCost taken taken_now old.spent (s + new.spent + 3 * n + each_of old n * n) (each_of old n) s1 (asked_of old n after) page) →
      WritesWithin s0 s1 g r n taken taken_now outcome
  writing_within outcome begun cost all = λ u before written count own e f has.
      let any = written_whole texts (asked_of old n after) page taken taken_now old.spent (s + group_total old * (old.limit + 1) + 3 * n + each_of old n * n) (each_of old n) s1 cost
      before written count e f has in
      listing_within old new kept g r is are u own n count s0 s1 outcome (omega (arith, any, begun)) (λ done.
      let last = all done in
      let whole = written_whole texts (asked_of old n after) page taken taken_now old.spent (s + new.spent + 3 * n + each_of old n * n) (each_of old n) s1 last.1
      before written count e f has in
      (last.0, omega (arith, whole, begun)))

-- a summary over a table
module _ (old new : Table) (kept : Keeps old new) (g : Schema) (r : Request) (is : IsTableOf old g r) (are : IsTable new) (n : ℕ) (s0 s1 : ℕ) where
  pub summing_within : (outcome : Outcome) →
      ((e : Ending) (queue : List Skeleton) → Ends (asked_of old n None) r.page e queue →
      s1 + old.spent ≤ s0 + group_total old * (old.limit + 1) + each_of old n * n + each_of old n * length queue) →
      (outcome ≡ Outcome.Done → (new.grown ≡ n) × ((e : Ending) (queue : List Skeleton) → Ends (asked_of old n None) r.page e queue →
      s1 + old.spent ≤ s0 + new.spent + each_of old n * n + each_of old n * length queue)) →
      old.spent ≡ 0 → SumsWithin s0 s1 g r n outcome
  summing_within outcome any all unspent = λ u ending given own ends.
      let same : asked g u n None r ≡ asked_of old n None =
      ap (λ v. asked g v n None r) (one_universe g r.fresh r.texts u (lists old) own is.lists) ∙ sym (same_asked_of old g r n None is) in
      let here : Ends (asked_of old n None) r.page ending given = subst (λ a. Ends a r.page ending given) same ends in
      let few = any ending given here in
      listing_within old new kept g r is are u own n (length given) s0 s1 outcome (omega (arith, few)) (λ done.
      let last = all done in
      let whole = last.1 ending given here in
      (last.0, omega (arith, whole)))

pub done_is_whole : (e : ListingEnd) → outcome_from e ≡ Outcome.Done → e ≡ ListingEnd.Whole
done_is_whole ListingEnd.Full is = absurd (cc)
done_is_whole (ListingEnd.Stopped size count) is = absurd (cc)
done_is_whole ListingEnd.Whole is = refl
done_is_whole ListingEnd.WriteFault is = absurd (cc)
done_is_whole ListingEnd.OutOfMemory is = absurd (cc)

-- a run that ended at its cursor did no listing
pub not_done : (t : Table) (c : Skeleton) (outcome : Outcome) → IsNotPlaced t c outcome → outcome ≡ Outcome.Done → ⊥
not_done t c outcome h is = subst (IsNotPlaced t c) is h
