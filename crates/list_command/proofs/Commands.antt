-- How a command over a table ends.
use Rattle.std.proofs.Common.{◌≡◌, ◌⊎◌, inl, inr, ℕ, ◌<◌, ◌≤◌, List, [], ◌∷◌, Bool, true, false, refl, sym, ◌∙◌, arith}
use Rattle.std.specs.Prelude.{Option, None, Some, IsTrue}
use Rattle.rng_model.specs.Texts.{Text}
use Rattle.rng_model.specs.Patterns.{Schema}
use Rattle.rng_model.specs.Hedges.{Skeleton, size}
use Rattle.rng_model.specs.Listing.{IsListed}
use Rattle.rng_model.specs.States.{ReachesMore}
use Rattle.std.specs.Io.KnownBytes.{Appends}
use Rattle.outside.specs.Counts.{Rose}
use Rattle.outside.specs.Devices.{Shelved, AppendsFront}
use Rattle.listing_laws.specs.Pending.{Ending, Ends}
use Rattle.listing_laws.specs.StateCounts.{EndsCounting}
use Rattle.feasibility.specs.Tables.{Table, Keeps, lists}
use Rattle.listing.specs.declared.listing_end.ListingEnd.{ListingEnd}
use Rattle.listing.specs.Progress.{asked_of}
use Rattle.listing.specs.Endings.{EndsAs, HasCauseOf}
use Rattle.listing.specs.Counting.{CountsAs}
use Rattle.listing.specs.Summing.{SumsAs}
use Rattle.summary.specs.Totals.{Totals, IsTallyOf}
use Rattle.summary.specs.Summary.{summary}
use Rattle.seeded_schema.specs.Made.{made}
use Rattle.command_words.specs.Words.{Command, Request, HasForm}
use Rattle.list_command.specs.declared.outcome.Outcome.{Outcome}
use Rattle.list_command.specs.declared.outcome.SchemaFault.{SchemaFault}
use Rattle.list_command.specs.Texts.{lines}
use Rattle.list_command.specs.Owed.{Owes, OwesAccepted, OwesResumed, OwesAfter, OwesMade, asked, outcome_of, state_lines, summed}
use Rattle.list_command.specs.Accepting.{Refuses, Accepts}
use Rattle.list_command.specs.Meanings.{IsListing, IsCounted, OwesOnly}
use Rattle.list_command.specs.Asking.{IsTableOf, IsCursor, IsPlaced, IsSummedUp, outcome_from}
use Rattle.list_command.specs.Runs.{OwesFor, EndsAsOwed, IsRead, WritesTexts}
use Rattle.list_command.proofs.Owing.{AskOnce}
use Rattle.list_command.proofs.Exits.{OneIsOwed, appends_nothing, ends_unwritten}
use Rattle.list_command.proofs.Rows.{AreTextLaws}
use Rattle.list_command.proofs.Listings.{owes_accepted}
use Rattle.list_command.proofs.Ends.{same_asked_of, ends_listed, ends_counted, ends_summed, ends_unsummed, summary_cut}

-- a table that keeps what it was is one of the same schema
pub kept_table : (old new : Table) (g : Schema) (r : Request) → Keeps old new → IsTableOf old g r → IsTableOf new g r
kept_table old new g r k is = record { schema = k.schema ∙ is.schema; lists = rw (k.universe, k.atoms) is.lists; limit = k.limit ∙ is.limit }

pub placed_few : (t : Table) (g : Schema) (r : Request) (n : ℕ) (c : Skeleton) → IsTableOf t g r → IsPlaced t n c → ReachesMore g (lists t) (size c) r.limit → ⊥
placed_few t g r n c is placed more = placed.few (rw (is.schema, is.limit) more)

pub placed_listed : (t : Table) (g : Schema) (r : Request) (n : ℕ) (c : Skeleton) → IsTableOf t g r → IsPlaced t n c → IsListed g (lists t) n c
placed_listed t g r n c is placed = let listed = placed.listed in rw is.schema at listed

module _ (words : List Text) (files : Shelved) (r : Request) (form : HasForm words r) (file : Text) (g : Schema) (read : IsRead file files g)
    (t : Table) (is : IsTableOf t g r) (taken taken_now : Option (List ℕ)) (reads reads_now writes writes_now : ℕ) (n : ℕ) where
  abbrev Ended : Outcome → Type 0
  Ended = EndsAsOwed words files taken taken_now reads reads_now writes writes_now

  pub list_ends : r.command ≡ Command.list n file → AreTextLaws → OwesOnly words files (IsListing r (asked g (lists t) n None r)) →
      (e : ListingEnd) → EndsAs (asked_of t n None) r.page taken taken_now e → HasCauseOf writes writes_now e → Ended (outcome_from e)
  list_ends asks texts only e ends cause =
      ends_listed words files r form taken taken_now reads reads_now writes writes_now texts (asked g (lists t) n None r) refl (file ∷ []) owes only e
      (rw (same_asked_of t g r n None is) at ends) cause
    where
      owes : (e : Ending) (given : List Skeleton) → Ends (asked g (lists t) n None r) r.page e given → OwesFor words files (file ∷ []) (outcome_of r.limit e) (lines given)
      owes e given ends = owes_accepted words files r file g (Command.list n file) form asks refl read (OwesAccepted.list is.lists ends refl refl)

  pub counting_ends : r.command ≡ Command.states n file → AskOnce → OwesOnly words files (IsCounted r (asked g (lists t) n None r)) →
      (e : ListingEnd) → CountsAs (asked_of t n None) taken taken_now e → HasCauseOf writes writes_now e → Ended (outcome_from e)
  counting_ends asks once only e ends cause =
      ends_counted words files r form taken taken_now reads reads_now writes writes_now once (λ h. rw asks at h) (asked g (lists t) n None r) refl (file ∷ []) owes only e
      (rw (same_asked_of t g r n None is) at ends) cause
    where
      owes : (e : Ending) (counts bytes : List ℕ) → bytes ≡ state_lines 1 counts → EndsCounting (asked g (lists t) n None r) e counts →
          OwesFor words files (file ∷ []) (outcome_of r.limit e) bytes
      owes e counts bytes same ends = owes_accepted words files r file g (Command.states n file) form asks refl read (OwesAccepted.states is.lists ends refl same)

  pub after_ends : (name : Text) (c : Skeleton) → r.command ≡ Command.resume n file name → IsCursor name files c → IsPlaced t n c → AreTextLaws →
      OwesOnly words files (IsListing r (asked g (lists t) n (Some c) r)) →
      (e : ListingEnd) → EndsAs (asked_of t n (Some c)) r.page taken taken_now e → HasCauseOf writes writes_now e → Ended (outcome_from e)
  after_ends name c asks cursor placed texts only e ends cause =
      ends_listed words files r form taken taken_now reads reads_now writes writes_now texts (asked g (lists t) n (Some c) r) refl (file ∷ name ∷ []) owes only e
      (rw (same_asked_of t g r n (Some c) is) at ends) cause
    where
      owes : (e : Ending) (given : List Skeleton) → Ends (asked g (lists t) n (Some c) r) r.page e given →
          OwesFor words files (file ∷ name ∷ []) (outcome_of r.limit e) (lines given)
      owes e given ends =
          owes_accepted words files r file g (Command.resume n file name) form asks refl read
          (OwesAccepted.resume is.lists cursor.held (OwesResumed.text cursor.short cursor.skeleton refl
          (OwesAfter.listing (placed_listed t g r n c is placed) (placed_few t g r n c is placed) ends refl refl)))

-- a test that failed says that there are more bytes
pub not_short : (n : ℕ) (b : Bool) → (n ≤ 1048576 → IsTrue b) → b ≡ false → 1048576 < n
not_short n b short failed = more (λ few. never (sym (short few) ∙ failed))
  where
    never : true ≡ false → ⊥
    never same = cc

    more : (n ≤ 1048576 → ⊥) → 1048576 < n
    more not = omega (arith, not)

-- a schema that is made for a number and refused
pub made_refused : (words : List Text) (files : Shelved) (r : Request) (z n : ℕ) (taken : Option (List ℕ)) (reads writes : ℕ) (fault : SchemaFault) (outcome : Outcome) →
    HasForm words r → r.command ≡ Command.seeded z n → Refuses (made z) fault → (outcome ≡ Outcome.SchemaRefused fault []) ⊎ (outcome ≡ Outcome.OutOfMemory) →
    EndsAsOwed words files taken taken reads reads writes writes outcome
made_refused words files r z n taken reads writes fault outcome form asks refuses (inl is) =
    rw is (EndsAsOwed.owed (Owes.seeded form asks (OwesMade.refused refuses)) (appends_nothing taken))
made_refused words files r z n taken reads writes fault outcome form asks refuses (inr is) = rw is (ends_unwritten words files taken reads reads writes r form)

-- The summary over a table of a schema that is made for a number.
module _ (words : List Text) (files : Shelved) (r : Request) (form : HasForm words r) (z : ℕ) (g : Schema) (accepts : Accepts (made z) g)
    (t : Table) (is : IsTableOf t g r) (taken taken_now : Option (List ℕ)) (reads writes writes_now n : ℕ) (once : AskOnce) (asks : r.command ≡ Command.seeded z n) where
  made_owes : (e : Ending) (given : List Skeleton) (bytes : List ℕ) → bytes ≡ summed Refuses Accepts made summary e given → Ends (asked g (lists t) n None r) r.page e given →
      OwesFor words files [] (outcome_of r.limit e) bytes
  made_owes e given bytes same ends = Owes.seeded form asks (OwesMade.listing accepts is.lists ends refl same)

  no_texts : WritesTexts r.command → ⊥
  no_texts h = rw asks at h

  abbrev Summed : Outcome → Type 0
  Summed = EndsAsOwed words files taken taken_now reads reads writes writes_now

  pub summary_ends : (e : ListingEnd) (totals : Totals) → SumsAs (asked_of t n None) r.page totals e → IsSummedUp e →
      ((queue : List Skeleton) → IsTallyOf totals queue → Appends taken taken_now (summary queue)) → Summed (outcome_from e)
  summary_ends e totals sums up grown =
      ends_summed words files r form taken taken_now reads reads writes writes_now once no_texts (asked g (lists t) n None r) refl [] made_owes e totals
      (rw (same_asked_of t g r n None is) at sums) up grown

  pub no_summary_ends : (e : ListingEnd) (totals : Totals) → SumsAs (asked_of t n None) r.page totals e → (IsSummedUp e → ⊥) → Appends taken taken_now [] → Summed (outcome_from e)
  no_summary_ends e totals sums never grown =
      ends_unsummed words files r form taken taken_now reads reads writes writes_now once no_texts (asked g (lists t) n None r) refl [] made_owes e totals
      (rw (same_asked_of t g r n None is) at sums) never grown

  pub summary_is_cut : (e : ListingEnd) (totals : Totals) → SumsAs (asked_of t n None) r.page totals e → IsSummedUp e → Rose writes writes_now → OneIsOwed →
      ((queue : List Skeleton) → IsTallyOf totals queue → AppendsFront taken taken_now (summary queue)) → Summed Outcome.WriteFault
  summary_is_cut e totals sums up rose one grown =
      summary_cut words files r form taken taken_now reads reads writes writes_now once no_texts (asked g (lists t) n None r) refl [] made_owes e totals
      (rw (same_asked_of t g r n None is) at sums) up rose one grown
