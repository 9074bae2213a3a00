-- How a run ends whose listing, counting or summing has ended.
use Rattle.std.proofs.Common.{◌≡◌, ◌⊎◌, inl, inr, ℕ, ◌+◌, List, [], ◌∷◌, ◌++◌, Bool, true, false, refl, ap, sym, ◌∙◌, codes}
use Rattle.std.specs.Prelude.{Option, None, Some, IsTrue, decimal}
use Rattle.std.specs.Io.KnownBytes.{Appends}
use Rattle.rng_model.specs.Texts.{Text}
use Rattle.rng_model.specs.Patterns.{Schema}
use Rattle.rng_model.specs.Hedges.{Skeleton, size}
use Rattle.rng_model.specs.Universe.{Lists, AreLists}
use Rattle.rng_model.specs.Listing.{IsListed}
use Rattle.rng_model.specs.States.{ReachesMore}
use Rattle.outside.specs.Counts.{Rose}
use Rattle.outside.specs.Devices.{Shelved, IsFrontOf, AppendsFront}
use Rattle.listing_laws.specs.Pending.{Asked, Ending, Ends}
use Rattle.listing_laws.specs.StateCounts.{EndsCounting}
use Rattle.feasibility.specs.Tables.{Table, lists}
use Rattle.listing.specs.declared.listing_end.ListingEnd.{ListingEnd}
use Rattle.listing.specs.declared.listing_end.ListingEnd.TheVariants as end
use Rattle.listing.specs.Progress.{asked_of, HasEnded, HasBegun, HasWholeSizes as ListedSizes}
use Rattle.listing.specs.Endings.{EndsAs, HasCauseOf}
use Rattle.listing.specs.Counting.{count_lines, CountsAs, HasCounted, HasBegunCounting}
use Rattle.listing.specs.Summing.{SumsAs, HasSummed}
use Rattle.summary.specs.Totals.{Totals, IsTallyOf}
use Rattle.seeded_schema.specs.Made.{made}
use Rattle.summary.specs.Summary.{summary}
use Rattle.command_words.specs.Words.{Command, Request, HasForm}
use Rattle.list_command.specs.declared.outcome.Outcome.{Outcome}
use Rattle.list_command.specs.Texts.{lines}
use Rattle.list_command.specs.Owed.{Owes, OwesAccepted, OwesResumed, OwesAfter, OwesMade, asked, outcome_of, state_lines, summed}
use Rattle.list_command.specs.Accepting.{Refuses, Accepts}
use Rattle.list_command.specs.Meanings.{IsListing, IsCounted, IsSummed, OwesOnly}
use Rattle.list_command.specs.Asking.{IsTableOf, IsCursor, outcome_from, IsSummedUp}
use Rattle.list_command.specs.Causes.{HasWriteCause}
use Rattle.list_command.specs.Runs.{OwesFor, IsFrontOfOwed, HasWholeSizes, EndsAsOwed, IsRead, WritesTexts}
use Rattle.list_command.proofs.Owing.{AskOnce}
use Rattle.list_command.proofs.Rows.{AreTextLaws}
use Rattle.list_command.proofs.Cuts.{front_of_lines, sizes_of_listing}
use Rattle.list_command.proofs.Listings.{owes_accepted}
use Rattle.list_command.proofs.Exits.{OneIsOwed, ends_cut, nothing_of_owed, no_size_of_owed}

-- the outcome of a listing that ends so has its cause
pub listing_cause : (writes writes_now : ℕ) (e : ListingEnd) → HasCauseOf writes writes_now e → HasWriteCause writes writes_now (outcome_from e)
listing_cause writes writes_now end.Full h = h
listing_cause writes writes_now (end.Stopped m count) h = h
listing_cause writes writes_now end.Whole h = h
listing_cause writes writes_now end.WriteFault h = h
listing_cause writes writes_now end.OutOfMemory h = h

-- and so has that of a summing, where no write failed
pub sum_cause : (writes writes_now : ℕ) (a : Asked) (page : Option ℕ) (totals : Totals) (e : ListingEnd) → SumsAs a page totals e → writes_now ≡ writes →
    HasWriteCause writes writes_now (outcome_from e)
sum_cause writes writes_now a page totals end.Full sums same = same
sum_cause writes writes_now a page totals (end.Stopped m count) sums same = same
sum_cause writes writes_now a page totals end.Whole sums same = same
sum_cause writes writes_now a page totals end.WriteFault sums same = absurd sums
sum_cause writes writes_now a page totals end.OutOfMemory sums same = same

-- a test that failed says that nothing is summed up
pub not_summed_up : (b : Bool) (e : ListingEnd) → (IsSummedUp e → IsTrue b) → b ≡ false → IsSummedUp e → ⊥
not_summed_up b e sums failed up = never (sym (sums up) ∙ failed)
  where
    never : true ≡ false → ⊥
    never same = cc

-- what is asked of the table is what is asked for
pub same_asked_of : (t : Table) (g : Schema) (r : Request) (n : ℕ) (after : Option Skeleton) → IsTableOf t g r → asked_of t n after ≡ asked g (lists t) n after r
same_asked_of t g r n after is = λ i. record { schema = is.schema i; lists = lists t; size = n; after = after; limit = is.limit i }

-- the lines of numbers of states
same_lines : (from : ℕ) (counts : List ℕ) → count_lines from counts ≡ state_lines from counts
same_lines from [] = refl
same_lines from (count ∷ counts) = ap (λ t. decimal from ++ codes " " ++ decimal count ++ codes "\n" ++ t) (same_lines (from + 1) counts)

module _ (words : List Text) (files : Shelved) (r : Request) (form : HasForm words r) (taken taken_now : Option (List ℕ)) (reads reads_now writes writes_now : ℕ) where
  abbrev Ended : Outcome → Type 0
  Ended = EndsAsOwed words files taken taken_now reads reads_now writes writes_now

  -- texts of what is asked for
  module _ (texts : AreTextLaws) (a : Asked) (limit : a.limit ≡ r.limit) (needed : List Text)
      (owes : (e : Ending) (given : List Skeleton) → Ends a r.page e given → OwesFor words files needed (outcome_of r.limit e) (lines given))
      (only : OwesOnly words files (IsListing r a)) where
    listing_stopped : (m count : ℕ) → HasEnded a r.page (Ending.stopped m) taken taken_now → count ≡ a.limit + 1 → Ended (Outcome.StateLimit m count)
    listing_stopped m count ends many =
        let number : count ≡ r.limit + 1 = rw (← limit) many in
        rw number (EndsAsOwed.owed (owes _ _ ends.ends) ends.appended)

    listing_cut : HasBegun a r.page taken taken_now → Rose writes writes_now → Ended Outcome.WriteFault
    listing_cut begun rose = EndsAsOwed.write_fault begun.bytes rose front begun.appended
      where
        front : IsFrontOfOwed words files begun.bytes
        front more o bytes owed = let l = only more o bytes owed in rw l.is (begun.front l.ending l.given l.ends)

    listing_sizes : ListedSizes a r.page taken taken_now → Ended Outcome.OutOfMemory
    listing_sizes sizes = EndsAsOwed.out_of_memory (lines sizes.front) form front whole sizes.appended
      where
        front : IsFrontOfOwed words files (lines sizes.front)
        front more o bytes owed =
            let l = only more o bytes owed in
            rw l.is (front_of_lines sizes.front l.given (sizes.begins l.ending l.given l.ends))

        whole : HasWholeSizes words files (lines sizes.front)
        whole q also writes more o bytes owed given are is =
            let l = only more o bytes owed in
            sizes_of_listing texts a sizes.below sizes.front sizes.all r o bytes l (sizes.begins l.ending l.given l.ends) given are is

    pub ends_listed : (e : ListingEnd) → EndsAs a r.page taken taken_now e → HasCauseOf writes writes_now e → Ended (outcome_from e)
    ends_listed end.Full ends cause = EndsAsOwed.owed (owes _ _ ends.ends) ends.appended
    ends_listed (end.Stopped m count) ends cause = listing_stopped m count ends.0 ends.1
    ends_listed end.Whole ends cause = EndsAsOwed.owed (owes _ _ ends.ends) ends.appended
    ends_listed end.WriteFault begun cause = listing_cut begun cause
    ends_listed end.OutOfMemory sizes cause = listing_sizes sizes

  -- a command that writes no texts
  module _ (once : AskOnce) (silent : WritesTexts r.command → ⊥) where
    no_sizes : (written : List ℕ) → HasWholeSizes words files written
    no_sizes written q also writes more o bytes owed given are is = absurd (silent (rw (once words q r also form) at writes))

    -- numbers of states
    module _ (a : Asked) (limit : a.limit ≡ r.limit) (needed : List Text)
        (owes : (e : Ending) (counts bytes : List ℕ) → bytes ≡ state_lines 1 counts → EndsCounting a e counts → OwesFor words files needed (outcome_of r.limit e) bytes)
        (only : OwesOnly words files (IsCounted r a)) where
      counts_front : (begun : HasBegunCounting a taken taken_now) → IsFrontOfOwed words files begun.bytes
      counts_front begun more o bytes owed =
          let l = only more o bytes owed in
          rw (l.is ∙ sym (same_lines 1 l.counts)) (begun.front l.ending l.counts l.ends)

      counting_stopped : (m count : ℕ) → HasCounted a (Ending.stopped m) taken taken_now → count ≡ a.limit + 1 → Ended (Outcome.StateLimit m count)
      counting_stopped m count ends many =
          let number : count ≡ r.limit + 1 = rw (← limit) many in
          rw number (EndsAsOwed.owed (owes _ _ _ (same_lines 1 ends.counts) ends.ends) ends.appended)

      pub ends_counted : (e : ListingEnd) → CountsAs a taken taken_now e → HasCauseOf writes writes_now e → Ended (outcome_from e)
      ends_counted end.Full ends cause = absurd ends
      ends_counted (end.Stopped m count) ends cause = counting_stopped m count ends.0 ends.1
      ends_counted end.Whole ends cause = EndsAsOwed.owed (owes _ _ _ (same_lines 1 ends.counts) ends.ends) ends.appended
      ends_counted end.WriteFault begun cause = EndsAsOwed.write_fault begun.bytes cause (counts_front begun) begun.appended
      ends_counted end.OutOfMemory begun cause = EndsAsOwed.out_of_memory begun.bytes form (counts_front begun) (no_sizes begun.bytes) begun.appended

    -- the summary of what is asked for
    module _ (a : Asked) (limit : a.limit ≡ r.limit) (needed : List Text)
        (owes : (e : Ending) (given : List Skeleton) (bytes : List ℕ) → bytes ≡ summed Refuses Accepts made summary e given → Ends a r.page e given →
        OwesFor words files needed (outcome_of r.limit e) bytes) where
      summing_stopped : (m count : ℕ) (totals : Totals) → HasSummed a r.page (Ending.stopped m) totals → count ≡ a.limit + 1 → Appends taken taken_now [] →
          Ended (Outcome.StateLimit m count)
      summing_stopped m count totals ends many grown =
          let number : count ≡ r.limit + 1 = rw (← limit) many in
          rw number (EndsAsOwed.owed (owes _ _ _ refl ends.ends) grown)

      -- a listing that ended so is summed up, and its summary was written
      pub ends_summed : (e : ListingEnd) (totals : Totals) → SumsAs a r.page totals e → IsSummedUp e →
          ((queue : List Skeleton) → IsTallyOf totals queue → Appends taken taken_now (summary queue)) → Ended (outcome_from e)
      ends_summed end.Full totals ends up grown = EndsAsOwed.owed (owes _ _ _ refl ends.ends) (grown ends.queue ends.tally)
      ends_summed (end.Stopped m count) totals ends up grown = absurd up
      ends_summed end.Whole totals ends up grown = EndsAsOwed.owed (owes _ _ _ refl ends.ends) (grown ends.queue ends.tally)
      ends_summed end.WriteFault totals ends up grown = absurd ends
      ends_summed end.OutOfMemory totals ends up grown = absurd up

      -- or it isn't, and nothing was written
      pub ends_unsummed : (e : ListingEnd) (totals : Totals) → SumsAs a r.page totals e → (IsSummedUp e → ⊥) → Appends taken taken_now [] →
          Ended (outcome_from e)
      ends_unsummed end.Full totals ends not grown = absurd (not tt)
      ends_unsummed (end.Stopped m count) totals ends not grown = summing_stopped m count totals ends.0 ends.1 grown
      ends_unsummed end.Whole totals ends not grown = absurd (not tt)
      ends_unsummed end.WriteFault totals ends not grown = absurd ends
      ends_unsummed end.OutOfMemory totals ends not grown = EndsAsOwed.out_of_memory [] form (nothing_of_owed words files) (no_size_of_owed words files) grown

      -- a front of it was written
      pub summary_cut : (e : ListingEnd) (totals : Totals) → SumsAs a r.page totals e → IsSummedUp e → Rose writes writes_now → OneIsOwed →
          ((queue : List Skeleton) → IsTallyOf totals queue → AppendsFront taken taken_now (summary queue)) → Ended Outcome.WriteFault
      summary_cut end.Full totals ends up rose one grown =
          ends_cut words files taken taken_now reads reads_now writes writes_now (summary ends.queue) (summary ends.queue) (owes _ _ _ refl ends.ends) refl one rose
          (grown ends.queue ends.tally)
      summary_cut (end.Stopped m count) totals ends up rose one grown = absurd up
      summary_cut end.Whole totals ends up rose one grown =
          ends_cut words files taken taken_now reads reads_now writes writes_now (summary ends.queue) (summary ends.queue) (owes _ _ _ refl ends.ends) refl one rose
          (grown ends.queue ends.tally)
      summary_cut end.WriteFault totals ends up rose one grown = absurd ends
      summary_cut end.OutOfMemory totals ends up rose one grown = absurd up
