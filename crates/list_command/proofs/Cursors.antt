-- How a run ends at its cursor.
use Rattle.std.proofs.Common.{◌≡◌, ◌⊎◌, inl, inr, ℕ, ◌+◌, ◌<◌, ◌≤◌, List, [], ◌∷◌, length, refl, sym, arith}
use Rattle.std.specs.Prelude.{Option, None, Some}
use Rattle.rng_model.specs.Texts.{Text}
use Rattle.rng_model.specs.Patterns.{Schema}
use Rattle.rng_model.specs.Hedges.{Skeleton, size}
use Rattle.rng_model.specs.Lines.{skeleton_text}
use Rattle.rng_model.specs.Universe.{Lists, AreLists}
use Rattle.rng_model.specs.Listing.{IsListed}
use Rattle.rng_model.specs.States.{ReachesMore}
use Rattle.outside.specs.Devices.{Shelved, bytes_of, IsLonger}
use Rattle.line_laws.specs.LineRefusals as law
use Rattle.line_reader.specs.Faults.{IsRefused}
use Rattle.line_reader.specs.declared.reading.LineFault.{LineFault}
use Rattle.line_reader.specs.declared.reading.LineFault.TheVariants as line
use Rattle.feasibility.specs.Tables.{Table, lists}
use Rattle.command_words.specs.Words.{Command, Request, HasForm}
use Rattle.list_command.specs.declared.outcome.Outcome.{Outcome}
use Rattle.list_command.specs.declared.outcome.Outcome.TheVariants as outcome
use Rattle.list_command.specs.declared.outcome.CursorRefusal.{CursorRefusal}
use Rattle.list_command.specs.declared.outcome.CursorRefusal.TheVariants as refusal
use Rattle.list_command.specs.Cursors.{cursor_limit, IsStrayAt}
use Rattle.list_command.specs.Owed.{OwesAccepted, OwesResumed, OwesAfter}
use Rattle.list_command.specs.Asking.{IsTableOf, IsCursor, IsTextRefused, HasNoCursor, IsNotPlaced, line_outcome}
use Rattle.list_command.specs.Runs.{OwesFor, EndsAsOwed, IsRead}
use Rattle.list_command.proofs.Listings.{owes_accepted}
use Rattle.list_command.proofs.Exits.{appends_nothing, keeps_taken, ends_unwritten}

text_owes : {g : Schema} {u : Lists} {n : ℕ} {r : Request} {text : List ℕ} {x : CursorRefusal} → IsTextRefused text x → OwesResumed g u n text r (Outcome.CursorRefused x) []
text_owes (IsTextRefused.too_long long) = OwesResumed.too_long long
text_owes (IsTextRefused.no_text short refused) = OwesResumed.no_text short refused

module _ (words : List Text) (files : Shelved) (r : Request) (form : HasForm words r) (n : ℕ) (file name : Text) (g : Schema)
    (asks : r.command ≡ Command.resume n file name) (read : IsRead file files g) (taken : Option (List ℕ)) (reads reads_now writes : ℕ) where
  abbrev Ended : Outcome → Type 0
  Ended = EndsAsOwed words files taken taken reads reads_now writes writes

  -- its file has no text of a document
  pub ends_at_file : (u : Lists) → AreLists g r.fresh r.texts u → (o : Outcome) → HasNoCursor name files reads reads_now o → Ended o
  ends_at_file u are outcome.Done h = absurd h
  ends_at_file u are outcome.Words h = absurd h
  ends_at_file u are (outcome.SchemaRefused fault opened) h = absurd h
  ends_at_file u are (outcome.CursorRefused x) (text, held, refused) =
      EndsAsOwed.owed (owes_accepted words files r file g (Command.resume n file name) form asks refl read (OwesAccepted.resume are held (text_owes refused))) (appends_nothing taken)
  ends_at_file u are (outcome.StateLimit m count) h = absurd h
  ends_at_file u are outcome.ReadFault (inl rose) = EndsAsOwed.read_fault rose (keeps_taken taken)
  ends_at_file u are outcome.ReadFault (inr none) =
      EndsAsOwed.owed (owes_accepted words files r file g (Command.resume n file name) form asks refl read (OwesAccepted.no_cursor none)) (appends_nothing taken)
  ends_at_file u are outcome.WriteFault h = absurd h
  ends_at_file u are outcome.OutOfMemory h = ends_unwritten words files taken reads reads_now writes r form
  ends_at_file u are outcome.Page h = absurd h

  -- it has the text of one
  module _ (t : Table) (is : IsTableOf t g r) (c : Skeleton) (cursor : IsCursor name files c) where
    ends_after : {o : Outcome} → OwesAfter g (lists t) n c r o [] → Ended o
    ends_after owes =
        EndsAsOwed.owed (owes_accepted words files r file g (Command.resume n file name) form asks refl read
        (OwesAccepted.resume is.lists cursor.held (OwesResumed.text cursor.short cursor.skeleton refl owes))) (appends_nothing taken)

    pub ends_too_large : n < size c → Ended (Outcome.CursorRefused CursorRefusal.CursorTooLarge)
    ends_too_large large = ends_after (OwesAfter.too_large large)

    few_of : (ReachesMore t.schema (lists t) (size c) t.limit → ⊥) → ReachesMore g (lists t) (size c) r.limit → ⊥
    few_of few more = few (rw (is.schema, is.limit) more)

    pub ends_not_placed : size c ≤ n → (o : Outcome) → IsNotPlaced t c o → Ended o
    ends_not_placed small outcome.Done h = absurd h
    ends_not_placed small outcome.Words h = absurd h
    ends_not_placed small (outcome.SchemaRefused fault opened) h = absurd h
    ends_not_placed small (outcome.CursorRefused refusal.TooLong) h = absurd h
    ends_not_placed small (outcome.CursorRefused (refusal.BadLine k)) h = absurd h
    ends_not_placed small (outcome.CursorRefused refusal.Unfinished) h = absurd h
    ends_not_placed small (outcome.CursorRefused (refusal.Trailing k)) h = absurd h
    ends_not_placed small (outcome.CursorRefused (refusal.NotOrdered k)) h = absurd h
    ends_not_placed small (outcome.CursorRefused refusal.CursorTooLarge) h = absurd h
    ends_not_placed small (outcome.CursorRefused (refusal.CursorStray k)) (few, stray) =
        ends_after (OwesAfter.stray small (few_of few) (rw is.schema at stray))
    ends_not_placed small (outcome.StateLimit m count) (same, more, number) =
        ends_after (OwesAfter.stopped same (rw same small) (rw (is.schema, is.limit) at more) (rw is.limit at number))
    ends_not_placed small outcome.ReadFault h = absurd h
    ends_not_placed small outcome.WriteFault h = absurd h
    ends_not_placed small outcome.OutOfMemory h = ends_unwritten words files taken reads reads_now writes r form
    ends_not_placed small outcome.Page h = absurd h

-- what is told of a cursor's file that is too long
pub long_cursor : (told : Option Shelved) (files : Shelved) (file : Text) → told ≡ Some files → IsLonger told file 2097152 →
    (text : List ℕ) × (bytes_of files file ≡ Some text) × IsTextRefused text CursorRefusal.TooLong
long_cursor told files file is long = let h : IsLonger (Some files) file 2097152 = rw is at long in (h.0, h.1, IsTextRefused.too_long h.2)

-- its lines have a fault
pub lines_end : (name : Text) (files : Shelved) (reads reads_now : ℕ) (text : List ℕ) → bytes_of files name ≡ Some text → length text ≤ cursor_limit →
    (f : LineFault) → IsRefused text f → HasNoCursor name files reads reads_now (line_outcome f)
lines_end name files reads reads_now text held short (line.BadLine k) refused = (text, held, IsTextRefused.no_text short (law.BadLine k, refused, refl))
lines_end name files reads reads_now text held short line.Unfinished refused = (text, held, IsTextRefused.no_text short (law.Unfinished, refused, refl))
lines_end name files reads reads_now text held short (line.Trailing k) refused = (text, held, IsTextRefused.no_text short (law.Trailing k, refused, refl))
lines_end name files reads reads_now text held short (line.NotOrdered k) refused = (text, held, IsTextRefused.no_text short (law.NotOrdered k, refused, refl))
lines_end name files reads reads_now text held short line.OutOfMemory refused = tt
