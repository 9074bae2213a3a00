-- A run over words and files of which all can be listed ends with Done or for want of memory.
use Rattle.std.proofs.Common.{◌≡◌, inl, inr, ℕ, ◌≤◌, List, length, refl, ap, sym, ◌∙◌, arith}
use Rattle.std.specs.Prelude.{Option, None, Some}
use Rattle.rng_model.specs.Texts.{Text}
use Rattle.rng_model.specs.Patterns.{Schema}
use Rattle.rng_model.specs.Hedges.{Skeleton}
use Rattle.rng_model.specs.Lines.{skeleton_text}
use Rattle.rng_model.specs.Universe.{Lists, AreLists}
use Rattle.rng_model.specs.Listing.{IsListed}
use Rattle.rng_model.specs.States.{ReachesMore}
use Rattle.outside.specs.Devices.{Shelved}
use Rattle.seeded_schema.specs.Made.{made}
use Rattle.summary.specs.Summary.{summary}
use Rattle.list_command.specs.declared.outcome.Outcome.{Outcome}
use Rattle.list_command.specs.Accepting.{Refuses, Accepts}
use Rattle.command_words.specs.Words.{Request, Command}
use Rattle.listing_laws.specs.Pending.{Ending, Ends}
use Rattle.list_command.specs.Cursors.{cursor_limit}
use Rattle.list_command.specs.Laws.{AreDecided, AreListLaws}
use Rattle.list_command.specs.Owed.{asked, outcome_of, OwesAfter, OwesResumed, OwesMade, OwesAccepted}
use Rattle.list_command.specs.Runs.{EndsAsOwed, IsSchemaOf}
use Rattle.list_command.specs.Whole.{FitsWhole, CanList, EndsWhole}
use Rattle.list_command.proofs.OneUniverse.{one_universe}
use Rattle.list_command.proofs.Owing.{one_file, AskOnce, IsOwed, owed_meaning}
use Rattle.list_command.proofs.OneOwed.{some_not_none, same_some, not_stray, not_refused, no_file, same_asked}

-- more nodes reach no fewer states
abbrev pub ReachGrows : Type 0
ReachGrows = (g : Schema) (u : Lists) (m n limit : ℕ) → m ≤ n → ReachesMore g u m limit → ReachesMore g u n limit

-- what fits ends whole
fitting : ReachGrows → (g : Schema) (u : Lists) (n : ℕ) (after : Option Skeleton) (r : Request) {e : Ending} {given : List Skeleton} →
    FitsWhole g u n after r → Ends (asked g u n after r) r.page e given → e ≡ Ending.whole
fitting grows g u n after r fits (Ends.full is first) = absurd (fits.not_full _ _ is first)
fitting grows g u n after r fits (Ends.stopped {m = m} stops all short) = absurd (fits.few (grows g u m n r.limit stops.to stops.more))
fitting grows g u n after r fits (Ends.whole none all short) = refl

module _ (grows : ReachGrows) (laws : AreListLaws) (decided : AreDecided Refuses Accepts) (files : Shelved) (g : Schema) (u : Lists) (r : Request) where
  after_listed : (n : ℕ) (c : Skeleton) {o : Outcome} {bytes : List ℕ} → IsListed g u n c → FitsWhole g u n (Some c) r → OwesAfter g u n c r o bytes → o ≡ Outcome.Done
  after_listed n c listed fits (OwesAfter.too_large large) = let small = listed.small in absurd (omega arith)
  after_listed n c listed fits (OwesAfter.stopped {m = m} is small more count) = absurd (fits.few (grows g u m n r.limit small more))
  after_listed n c listed fits (OwesAfter.stray small few at) = absurd (not_stray laws g u n r c _ listed at)
  after_listed n c listed fits (OwesAfter.listing again few ends outcome is) =
      outcome ∙ ap (outcome_of r.limit) (fitting grows g u n (Some c) r fits ends)

  resumed : (n : ℕ) (c : Skeleton) (text : List ℕ) {o : Outcome} {bytes : List ℕ} → text ≡ skeleton_text c → length (skeleton_text c) ≤ cursor_limit →
      IsListed g u n c → FitsWhole g u n (Some c) r → OwesResumed g u n text r o bytes → o ≡ Outcome.Done
  resumed n c text is short listed fits (OwesResumed.too_long long) = let l = ap length is in absurd (omega arith)
  resumed n c text is short listed fits (OwesResumed.no_text few refused) = absurd (not_refused laws g u n r c listed.skeleton is refused)
  resumed n c text is short listed fits (OwesResumed.text {c = d} few skeleton also owes) =
      let cursor : d ≡ c = laws.text_once d c skeleton listed.skeleton (sym also ∙ is) in
      after_listed n c listed fits (rw cursor at owes)

module _ (grows : ReachGrows) (laws : AreListLaws) (decided : AreDecided Refuses Accepts) (files : Shelved) (r : Request) where
  accepted : (command : Command) (g : Schema) (u : Lists) {further : List Text} {o : Outcome} {bytes : List ℕ} →
      AreLists g r.fresh r.texts u → CanList files g u r command →
      OwesAccepted Refuses Accepts files g r command further o bytes → o ≡ Outcome.Done
  accepted (Command.list n file) g u are can (OwesAccepted.list {u = v} also ends outcome is) =
      let lists : v ≡ u = one_universe g r.fresh r.texts v u also are in
      outcome ∙ ap (outcome_of r.limit) (fitting grows g u n None r can (rw lists at ends))
  accepted (Command.resume n file cursor) g u are can (OwesAccepted.no_cursor none) = absurd (some_not_none none can.held)
  accepted (Command.resume n file cursor) g u are can (OwesAccepted.resume {u = v} {text = text} also held owes) =
      let lists : v ≡ u = one_universe g r.fresh r.texts v u also are in
      resumed grows laws decided files g u r n can.skeleton text (same_some held can.held) can.short can.listed can.fits (rw lists at owes)
  accepted (Command.universe file) g u are can owes = absurd can
  accepted (Command.states n file) g u are can owes = absurd can
  accepted (Command.seeded z n) g u are can owes = elim owes [ ]

  fits_made : (g : Schema) (u : Lists) (command : Command) {z n : ℕ} → command ≡ Command.seeded z n → CanList files g u r command → FitsWhole g u n None r
  fits_made g u command asks can = rw asks at can

  whole_made : (z n : ℕ) (g : Schema) (u : Lists) {o : Outcome} {bytes : List ℕ} → Accepts (made z) g → AreLists g r.fresh r.texts u → FitsWhole g u n None r →
      OwesMade Refuses Accepts made summary z n r o bytes → o ≡ Outcome.Done
  whole_made z n g u accepts are fits (OwesMade.refused f) = absurd (decided.not_both f accepts)
  whole_made z n g u accepts are fits (OwesMade.listing {g = h} {u = v} again also ends outcome is) =
      let schema : h ≡ g = decided.one_schema again accepts in
      let lists : v ≡ u = one_universe g r.fresh r.texts v u (rw schema at also) are in
      outcome ∙ ap (outcome_of r.limit) (fitting grows g u n None r fits (rw (schema, lists) at ends))

  whole_owed : (g : Schema) (u : Lists) {needed : List Text} {o : Outcome} {bytes : List ℕ} → IsSchemaOf files g r.command → AreLists g r.fresh r.texts u →
      CanList files g u r r.command → IsOwed Refuses Accepts made summary r files needed o bytes → o ≡ Outcome.Done
  whole_owed g u (IsSchemaOf.in_file file has held accepts) are can (IsOwed.missing also none) = absurd (some_not_none none (rw (one_file r.command _ _ has also) at held))
  whole_owed g u (IsSchemaOf.in_file file has held accepts) are can (IsOwed.refused also again f) =
      let bytes = same_some again (rw (one_file r.command _ _ has also) at held) in
      absurd (decided.not_both (rw bytes at f) accepts)
  whole_owed g u (IsSchemaOf.in_file file has held accepts) are can (IsOwed.seeded asks owes) = absurd (no_file Refuses Accepts made summary laws decided r files _ asks has)
  whole_owed g u (IsSchemaOf.in_file file has held accepts) are can (IsOwed.accepted {g = h} also again other owes all) =
      let bytes = same_some again (rw (one_file r.command _ _ has also) at held) in
      let schema : h ≡ g = decided.one_schema (rw bytes at other) accepts in
      accepted r.command g u are can (rw schema at owes)
  whole_owed g u (IsSchemaOf.for_number asks accepts) are can (IsOwed.missing has none) = absurd (no_file Refuses Accepts made summary laws decided r files _ asks has)
  whole_owed g u (IsSchemaOf.for_number asks accepts) are can (IsOwed.refused has held f) = absurd (no_file Refuses Accepts made summary laws decided r files _ asks has)
  whole_owed g u (IsSchemaOf.for_number {z = z} {n = n} asks accepts) are can (IsOwed.seeded also owes) =
      let asked = same_asked Refuses Accepts made summary laws decided r files asks also in
      whole_made z n g u accepts are (fits_made g u r.command asks can) (rw (asked.0, asked.1) at owes)
  whole_owed g u (IsSchemaOf.for_number asks accepts) are can (IsOwed.accepted has held other owes all) =
      absurd (no_file Refuses Accepts made summary laws decided r files _ asks has)

pub ends_whole : ReachGrows → AreListLaws → AreDecided Refuses Accepts → AskOnce → (words : List Text) (files : Shelved) (taken taken_now : Option (List ℕ))
    (reads reads_now writes writes_now : ℕ) (outcome : Outcome) → EndsAsOwed words files taken taken_now reads reads_now writes writes_now outcome →
    EndsWhole words files reads reads_now writes writes_now outcome
ends_whole grows laws decided once words files taken taken_now reads reads_now writes writes_now outcome (EndsAsOwed.owed owes grown) can no_read no_write =
    inl (whole_owed grows laws decided files can.request can.schema can.lists can.accepted can.are_lists can.can
    (owed_meaning Refuses Accepts made summary once can.request can.form owes))
ends_whole grows laws decided once words files taken taken_now reads reads_now writes writes_now outcome (EndsAsOwed.read_fault rose keeps) can no_read no_write =
    absurd (no_read rose)
ends_whole grows laws decided once words files taken taken_now reads reads_now writes writes_now outcome (EndsAsOwed.write_fault written rose front grown) can no_read no_write =
    absurd (no_write rose)
ends_whole grows laws decided once words files taken taken_now reads reads_now writes writes_now outcome (EndsAsOwed.out_of_memory written form front whole grown) can no_read no_write =
    inr refl
