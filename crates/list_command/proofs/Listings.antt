-- What is owed for what was asked, and what then follows of it.
use Rattle.std.proofs.Common.{◌≡◌, ℕ, ◌≤◌, List, [], ◌∷◌, length, refl, ap, sym, ◌∙◌, arith}
use Rattle.std.specs.Prelude.{None, Some}
use Rattle.rng_model.specs.Texts.{Text}
use Rattle.rng_model.specs.Patterns.{Schema}
use Rattle.rng_model.specs.Hedges.{Skeleton, IsSkeleton, size}
use Rattle.rng_model.specs.Lines.{skeleton_text}
use Rattle.rng_model.specs.Universe.{Lists, AreLists}
use Rattle.rng_model.specs.Listing.{IsListed}
use Rattle.rng_model.specs.States.{ReachesMore}
use Rattle.outside.specs.Devices.{Shelved, bytes_of}
use Rattle.listing_laws.specs.Pending.{Asked, Ending, Ends}
use Rattle.seeded_schema.specs.Made.{made}
use Rattle.summary.specs.Summary.{summary}
use Rattle.list_command.specs.declared.outcome.Outcome.{Outcome}
use Rattle.list_command.specs.Accepting.{Refuses, Accepts}
use Rattle.command_words.specs.Words.{Request, Command, HasForm, HasFile}
use Rattle.list_command.specs.Cursors.{cursor_limit}
use Rattle.list_command.specs.Texts.{lines}
use Rattle.list_command.specs.Laws.{AreDecided, AreListLaws}
use Rattle.list_command.specs.Owed.{Owes, OwesAccepted, OwesAfter, OwesResumed, OwesMade, asked, outcome_of, summed}
use Rattle.list_command.specs.Reading.{Reads}
use Rattle.list_command.specs.Runs.{OwesFor, IsRead}
use Rattle.list_command.specs.Meanings.{IsListing, IsSummed, IsCounted}
use Rattle.list_command.proofs.OneUniverse.{one_universe}
use Rattle.list_command.proofs.Owing.{one_file, file_of, AskOnce, IsOwed, owed_meaning}
use Rattle.list_command.proofs.OneOwed.{some_not_none, same_some, not_stray, not_refused, no_file, same_asked}

-- the same for another way to write the command
as_command : (files : Shelved) (g : Schema) (r : Request) (c d : Command) {further : List Text} {o : Outcome} {b : List ℕ} → c ≡ d →
    OwesAccepted Refuses Accepts files g r c further o b → OwesAccepted Refuses Accepts files g r d further o b
as_command files g r c d e owes = rw (← e) owes

-- what is owed, where a file's schema is accepted
pub owes_accepted : (words : List Text) (files : Shelved) (r : Request) (file : Text) (g : Schema) (command : Command) {further : List Text} {o : Outcome} {b : List ℕ} →
    HasForm words r → r.command ≡ command → HasFile command file → IsRead file files g → OwesAccepted Refuses Accepts files g r command further o b →
    OwesFor words files (file ∷ further) o b
owes_accepted words files r file g command form asks has read owes =
    Owes.accepted form (file_of r.command command file asks has) (Reads.accepted read.1 read.2) (as_command files g r command r.command (sym asks) owes) refl

module _ (laws : AreListLaws) (decided : AreDecided Refuses Accepts) (once : AskOnce)
    (words : List Text) (files : Shelved) (r : Request) (form : HasForm words r) where
  pub owed_for : {needed : List Text} {o : Outcome} {b : List ℕ} → OwesFor words files needed o b → IsOwed Refuses Accepts made summary r files needed o b
  owed_for owes = owed_meaning Refuses Accepts made summary once r form owes

  -- what is owed with an accepted schema
  pub record OwedWith (g : Schema) (file : Text) (command : Command) (needed : List Text) (o : Outcome) (b : List ℕ) : Type 0 where
    pub further : List Text
    pub all : needed ≡ file ∷ further
    pub owes : OwesAccepted Refuses Accepts files g r command further o b

  owed_with : (file : Text) (g : Schema) (command : Command) {needed : List Text} {o : Outcome} {b : List ℕ} → r.command ≡ command → HasFile r.command file → IsRead file files g →
      IsOwed Refuses Accepts made summary r files needed o b → OwedWith g file command needed o b
  owed_with file g command asks has read (IsOwed.missing also none) = absurd (some_not_none none (rw (one_file r.command _ _ has also) at read.1))
  owed_with file g command asks has read (IsOwed.refused also again f) =
      let bytes = same_some again (rw (one_file r.command _ _ has also) at read.1) in
      absurd (decided.not_both (rw bytes at f) read.2)
  owed_with file g command asks has read (IsOwed.seeded said owes) = absurd (no_file Refuses Accepts made summary laws decided r files _ said has)
  owed_with file g command asks has read (IsOwed.accepted {g = h} also again other owes all) =
      let named = one_file r.command _ _ also has in
      let bytes = same_some again (rw (sym named) at read.1) in
      let schema : h ≡ g = decided.one_schema (rw bytes at other) read.2 in
      record { further = _; all = rw named at all; owes = as_command files g r r.command command asks (rw schema at owes) }

  pub owed_by : (file : Text) (g : Schema) (command : Command) {needed : List Text} {o : Outcome} {b : List ℕ} → r.command ≡ command → HasFile command file → IsRead file files g →
      OwesFor words files needed o b → OwedWith g file command needed o b
  owed_by file g command asks has read owes = owed_with file g command asks (file_of r.command command file asks has) read (owed_for owes)

  -- for a listing from the beginning
  pub list_meaning : (n : ℕ) (file : Text) (g : Schema) (u : Lists) {needed : List Text} {o : Outcome} {b : List ℕ} → r.command ≡ Command.list n file →
      IsRead file files g → AreLists g r.fresh r.texts u → OwesFor words files needed o b → IsListing r (asked g u n None r) o b
  list_meaning n file g u asks read are owes = go (owed_by file g (Command.list n file) asks refl read owes)
    where
      of : {further : List Text} {o : Outcome} {b : List ℕ} → OwesAccepted Refuses Accepts files g r (Command.list n file) further o b → IsListing r (asked g u n None r) o b
      of (OwesAccepted.list {u = v} also ends result is) =
          let lists : v ≡ u = one_universe g r.fresh r.texts v u also are in
          record { ending = _; given = _; ends = rw lists at ends; result = result; is = is }

      go : {needed : List Text} {o : Outcome} {b : List ℕ} → OwedWith g file (Command.list n file) needed o b → IsListing r (asked g u n None r) o b
      go w = of w.owes

  -- for numbers of states
  pub states_meaning : (n : ℕ) (file : Text) (g : Schema) (u : Lists) {needed : List Text} {o : Outcome} {b : List ℕ} → r.command ≡ Command.states n file →
      IsRead file files g → AreLists g r.fresh r.texts u → OwesFor words files needed o b → IsCounted r (asked g u n None r) o b
  states_meaning n file g u asks read are owes = go (owed_by file g (Command.states n file) asks refl read owes)
    where
      of : {further : List Text} {o : Outcome} {b : List ℕ} → OwesAccepted Refuses Accepts files g r (Command.states n file) further o b → IsCounted r (asked g u n None r) o b
      of (OwesAccepted.states {u = v} also ends result is) =
          let lists : v ≡ u = one_universe g r.fresh r.texts v u also are in
          record { ending = _; counts = _; ends = rw lists at ends; result = result; is = is }

      go : {needed : List Text} {o : Outcome} {b : List ℕ} → OwedWith g file (Command.states n file) needed o b → IsCounted r (asked g u n None r) o b
      go w = of w.owes

  -- which files a resumed listing needs
  pub resume_needs : (n : ℕ) (file cursor : Text) (g : Schema) {needed : List Text} {o : Outcome} {b : List ℕ} → r.command ≡ Command.resume n file cursor →
      IsRead file files g → OwesFor words files needed o b → needed ≡ file ∷ cursor ∷ []
  resume_needs n file cursor g asks read owes = go (owed_by file g (Command.resume n file cursor) asks refl read owes)
    where
      of : {further : List Text} {o : Outcome} {b : List ℕ} → OwesAccepted Refuses Accepts files g r (Command.resume n file cursor) further o b → further ≡ cursor ∷ []
      of (OwesAccepted.no_cursor none) = refl
      of (OwesAccepted.resume also again resumed) = refl

      go : {needed : List Text} {o : Outcome} {b : List ℕ} → OwedWith g file (Command.resume n file cursor) needed o b → needed ≡ file ∷ cursor ∷ []
      go w = w.all ∙ ap (λ xs. file ∷ xs) (of w.owes)

  -- for one that goes on after a cursor
  pub resume_meaning : (n : ℕ) (file cursor : Text) (text : List ℕ) (g : Schema) (u : Lists) {needed : List Text} {o : Outcome} {b : List ℕ} →
      r.command ≡ Command.resume n file cursor → IsRead file files g → AreLists g r.fresh r.texts u → bytes_of files cursor ≡ Some text →
      OwesFor words files needed o b → OwesResumed g u n text r o b
  resume_meaning n file cursor text g u asks read are held owes = go (owed_by file g (Command.resume n file cursor) asks refl read owes)
    where
      of : {further : List Text} {o : Outcome} {b : List ℕ} → OwesAccepted Refuses Accepts files g r (Command.resume n file cursor) further o b → OwesResumed g u n text r o b
      of (OwesAccepted.no_cursor none) = absurd (some_not_none none held)
      of (OwesAccepted.resume {u = v} {text = t} also again resumed) =
          let lists : v ≡ u = one_universe g r.fresh r.texts v u also are in
          let bytes : t ≡ text = same_some again held in
          rw (lists, bytes) at resumed

      go : {needed : List Text} {o : Outcome} {b : List ℕ} → OwedWith g file (Command.resume n file cursor) needed o b → OwesResumed g u n text r o b
      go w = of w.owes

  -- after the text of a skeleton
  pub after_meaning : (n : ℕ) (c : Skeleton) (text : List ℕ) (g : Schema) (u : Lists) {o : Outcome} {b : List ℕ} → length text ≤ cursor_limit → IsSkeleton c →
      text ≡ skeleton_text c → OwesResumed g u n text r o b → OwesAfter g u n c r o b
  after_meaning n c text g u short skeleton is (OwesResumed.too_long long) = absurd (omega arith)
  after_meaning n c text g u short skeleton is (OwesResumed.no_text few refused) = absurd (not_refused laws g u n r c skeleton is refused)
  after_meaning n c text g u short skeleton is (OwesResumed.text {c = d} few also same owes) =
      let cursor : d ≡ c = laws.text_once d c also skeleton (sym same ∙ is) in
      rw cursor at owes

  -- after a listed skeleton
  pub listed_meaning : (n : ℕ) (c : Skeleton) (g : Schema) (u : Lists) {o : Outcome} {b : List ℕ} → IsListed g u n c → (ReachesMore g u (size c) r.limit → ⊥) →
      OwesAfter g u n c r o b → IsListing r (asked g u n (Some c) r) o b
  listed_meaning n c g u listed few (OwesAfter.too_large large) = let small = listed.small in absurd (omega arith)
  listed_meaning n c g u listed few (OwesAfter.stopped is small more count) = absurd (few (rw is at more))
  listed_meaning n c g u listed few (OwesAfter.stray small also at) = absurd (not_stray laws g u n r c _ listed at)
  listed_meaning n c g u listed few (OwesAfter.listing again also ends result is) = record { ending = _; given = _; ends = ends; result = result; is = is }

  -- for a schema that is made for a number
  pub made_meaning : (z n : ℕ) (g : Schema) (u : Lists) {needed : List Text} {o : Outcome} {b : List ℕ} → r.command ≡ Command.seeded z n → Accepts (made z) g →
      AreLists g r.fresh r.texts u → OwesFor words files needed o b → IsSummed r (asked g u n None r) o b
  made_meaning z n g u asks accepts are owes = go (owed_for owes)
    where
      of : {o : Outcome} {b : List ℕ} → OwesMade Refuses Accepts made summary z n r o b → IsSummed r (asked g u n None r) o b
      of (OwesMade.refused f) = absurd (decided.not_both f accepts)
      of (OwesMade.listing {g = h} {u = v} again also ends result is) =
          let schema : h ≡ g = decided.one_schema again accepts in
          let lists : v ≡ u = one_universe g r.fresh r.texts v u (rw schema at also) are in
          record { ending = _; given = _; ends = rw (schema, lists) at ends; result = result; is = is }

      go : {needed : List Text} {o : Outcome} {b : List ℕ} → IsOwed Refuses Accepts made summary r files needed o b → IsSummed r (asked g u n None r) o b
      go (IsOwed.missing has none) = absurd (no_file Refuses Accepts made summary laws decided r files _ asks has)
      go (IsOwed.refused has held f) = absurd (no_file Refuses Accepts made summary laws decided r files _ asks has)
      go (IsOwed.seeded {z = y} {n = m} said made_owes) =
          let same = same_asked Refuses Accepts made summary laws decided r files asks said in
          of (rw (same.0, same.1) at made_owes)
      go (IsOwed.accepted has held other owes all) = absurd (no_file Refuses Accepts made summary laws decided r files _ asks has)
