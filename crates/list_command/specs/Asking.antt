-- What the parts of a run have to do with what is asked for: this project's own.
use Rattle.std.specs.Prelude.{◌≡◌, ℕ, ◌+◌, ◌⊎◌, ◌<◌, ◌≤◌, ⊤, List, length, Option, Some, None}
use Rattle.rng_model.specs.Texts.{Text}
use Rattle.rng_model.specs.Patterns.{Schema}
use Rattle.rng_model.specs.Hedges.{Skeleton, IsSkeleton, size}
use Rattle.rng_model.specs.Lines.{skeleton_text}
use Rattle.rng_model.specs.Universe.{AreLists}
use Rattle.rng_model.specs.Listing.{IsListed}
use Rattle.rng_model.specs.States.{ReachesMore}
use Rattle.line_reader.specs.declared.reading.LineFault.{LineFault}
use Rattle.line_reader.specs.declared.reading.LineFault.TheVariants as line
use Rattle.outside.specs.Counts.{Rose}
use Rattle.outside.specs.Devices.{Shelved, bytes_of, length_of, IsMissing}
use Rattle.feasibility.specs.Tables.{Table, lists}
use Rattle.listing.specs.declared.listing_end.ListingEnd.{ListingEnd}
use Rattle.listing.specs.declared.listing_end.ListingEnd.TheVariants as end
use Rattle.seeded_schema.specs.Made.{made}
use Rattle.command_words.specs.Words.{Request, Command, HasForm}
use Rattle.list_command.specs.declared.outcome.Outcome.{Outcome}
use Rattle.list_command.specs.declared.outcome.CursorRefusal.{CursorRefusal}
use Rattle.list_command.specs.Cursors.{cursor_limit, LinesRefused, IsStrayAt}
use Rattle.list_command.specs.Accepting.{Accepts}
use Rattle.list_command.specs.Runs.{EndsAsOwed, IsRead}

-- the table of the schema over the names and texts that are asked for
pub record IsTableOf (t : Table) (g : Schema) (r : Request) : Type 0 where
  pub schema : t.schema ≡ g
  pub lists : AreLists g r.fresh r.texts (lists t)
  pub limit : t.limit ≡ r.limit

-- how a run ends whose listing ends so
abbrev pub outcome_from : ListingEnd → Outcome
outcome_from end.Full = Outcome.Page
outcome_from (end.Stopped m count) = Outcome.StateLimit m count
outcome_from end.Whole = Outcome.Done
outcome_from end.WriteFault = Outcome.WriteFault
outcome_from end.OutOfMemory = Outcome.OutOfMemory

-- a listing that ended so is summed up: it is whole, or its page is full
abbrev pub IsSummedUp : ListingEnd → Type 0
IsSummedUp end.Full = ⊤
IsSummedUp end.Whole = ⊤
IsSummedUp _ = ⊥

-- how a run ends whose cursor's lines have this fault
abbrev pub line_outcome : LineFault → Outcome
line_outcome (line.BadLine k) = Outcome.CursorRefused (CursorRefusal.BadLine k)
line_outcome line.Unfinished = Outcome.CursorRefused CursorRefusal.Unfinished
line_outcome (line.Trailing k) = Outcome.CursorRefused (CursorRefusal.Trailing k)
line_outcome (line.NotOrdered k) = Outcome.CursorRefused (CursorRefusal.NotOrdered k)
line_outcome line.OutOfMemory = Outcome.OutOfMemory

-- the file has the text of the document, within the limit
pub record IsCursor (name : Text) (files : Shelved) (c : Skeleton) : Type 0 where
  pub skeleton : IsSkeleton c
  pub held : bytes_of files name ≡ Some (skeleton_text c)
  pub short : length (skeleton_text c) ≤ cursor_limit

-- the bytes are refused as a cursor
pub data IsTextRefused (text : List ℕ) : CursorRefusal → Type 0 where
  too_long : cursor_limit < length text → IsTextRefused text CursorRefusal.TooLong
  no_text : {refusal : CursorRefusal} → length text ≤ cursor_limit → LinesRefused text refusal → IsTextRefused text refusal

-- why a run ends at its cursor's file
abbrev pub HasNoCursor : Text → Shelved → ℕ → ℕ → Outcome → Type 0
HasNoCursor name files reads reads_now Outcome.ReadFault = Rose reads reads_now ⊎ (bytes_of files name ≡ None)
HasNoCursor name files reads reads_now (Outcome.CursorRefused refusal) =
    (text : List ℕ) × (bytes_of files name ≡ Some text) × IsTextRefused text refusal
HasNoCursor name files reads reads_now Outcome.OutOfMemory = ⊤
HasNoCursor name files reads reads_now _ = ⊥

-- the cursor is listed, and the table tells what follows it
pub record IsPlaced (t : Table) (n : ℕ) (c : Skeleton) : Type 0 where
  pub listed : IsListed t.schema (lists t) n c
  pub few : ReachesMore t.schema (lists t) (size c) t.limit → ⊥
  pub grown : size c ≤ t.grown

-- why a run ends at its cursor: too many states are reached with its size, or it isn't listed
abbrev pub IsNotPlaced : Table → Skeleton → Outcome → Type 0
IsNotPlaced t c (Outcome.StateLimit m count) = (m ≡ size c) × ReachesMore t.schema (lists t) m t.limit × (count ≡ t.limit + 1)
IsNotPlaced t c (Outcome.CursorRefused (CursorRefusal.CursorStray line)) =
    (ReachesMore t.schema (lists t) (size c) t.limit → ⊥) × IsStrayAt t.schema (lists t) c line
IsNotPlaced t c Outcome.OutOfMemory = ⊤
IsNotPlaced t c _ = ⊥

-- the command's cursor
abbrev pub HasCursor : Command → Text → Type 0
HasCursor (Command.resume n file cursor) name = cursor ≡ name
HasCursor _ name = ⊥

-- a cursor that is needed isn't held
abbrev pub MissesCursor : Request → Option Shelved → Type 0
MissesCursor r told = (name : Text) × HasCursor r.command name × IsMissing told name

-- the calls for a cursor
abbrev pub cursor_calls : Shelved → Command → ℕ
cursor_calls files (Command.resume n file cursor) = length_of files cursor + 2
cursor_calls files _ = 0

module _ (r : Request) (taken taken_now : Option (List ℕ)) where
  -- A run over the schema of this file, for all words that ask for it.
  abbrev pub EndsOver : Schema → Text → Shelved → ℕ → ℕ → ℕ → ℕ → Outcome → Type 0
  EndsOver g file files reads reads_now writes writes_now outcome =
      (words : List Text) → HasForm words r → IsRead file files g → EndsAsOwed words files taken taken_now reads reads_now writes writes_now outcome

  -- the same with this cursor
  abbrev pub EndsAfter : Schema → Text → Text → Skeleton → ℕ → ℕ → Outcome → Type 0
  EndsAfter g file name c writes writes_now outcome =
      (files : Shelved) → IsCursor name files c → (reads : ℕ) → EndsOver g file files reads reads writes writes_now outcome

  -- a run over a schema that is made for a number
  abbrev pub EndsMade : ℕ → ℕ → Outcome → Type 0
  EndsMade writes writes_now outcome =
      (words : List Text) (files : Shelved) → HasForm words r → (reads : ℕ) → EndsAsOwed words files taken taken_now reads reads writes writes_now outcome

  -- where this schema is made
  abbrev pub EndsSummed : Schema → ℕ → ℕ → ℕ → Outcome → Type 0
  EndsSummed g z writes writes_now outcome = Accepts (made z) g → EndsMade writes writes_now outcome
