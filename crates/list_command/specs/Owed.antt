-- What a run owes: an outcome, and bytes for standard output. This project's own.
use Rattle.std.specs.Prelude.{◌≡◌, ℕ, ◌+◌, ◌<◌, ◌≤◌, List, [], ◌∷◌, ◌++◌, length, Option, Some, None, codes, decimal}
use Rattle.rng_model.specs.Texts.{Text}
use Rattle.rng_model.specs.Patterns.{Schema}
use Rattle.rng_model.specs.Hedges.{Skeleton, IsSkeleton, size}
use Rattle.rng_model.specs.Lines.{skeleton_text}
use Rattle.rng_model.specs.Universe.{Lists, AreLists}
use Rattle.rng_model.specs.Listing.{IsListed}
use Rattle.rng_model.specs.States.{ReachesMore}
use Rattle.outside.specs.Devices.{Shelved, bytes_of}
use Rattle.event_lines.specs.Parts.{universe_text}
use Rattle.listing_laws.specs.Pending.{Asked, Ending, Ends}
use Rattle.listing_laws.specs.StateCounts.{EndsCounting}
use Rattle.list_command.specs.declared.outcome.Outcome.{Outcome}
use Rattle.list_command.specs.declared.outcome.SchemaFault.{SchemaFault}
use Rattle.list_command.specs.declared.outcome.CursorRefusal.{CursorRefusal}
use Rattle.command_words.specs.Words.{Request, Command, HasForm, HasNoForm, HasFile}
use Rattle.list_command.specs.Reading.{Reading, Reads}
use Rattle.list_command.specs.Texts.{lines}
use Rattle.list_command.specs.Cursors.{cursor_limit, LinesRefused, IsStrayAt}

-- what a request lists of a schema over its names and texts: up to a size, after a cursor if there is one
abbrev pub asked : Schema → Lists → ℕ → Option Skeleton → Request → Asked
asked g u n after r = record { schema = g; lists = u; size = n; after = after; limit = r.limit }

-- the outcome of a listing that ends so, with the limit of states
abbrev pub outcome_of : ℕ → Ending → Outcome
outcome_of limit Ending.full = Outcome.Page
outcome_of limit (Ending.stopped m) = Outcome.StateLimit m (limit + 1)
outcome_of limit Ending.whole = Outcome.Done

-- a listing after the cursor, from its size on
pub data OwesAfter (g : Schema) (u : Lists) (n : ℕ) (c : Skeleton) (r : Request) : Outcome → List ℕ → Type 0 where
  too_large : n < size c → OwesAfter g u n c r (Outcome.CursorRefused CursorRefusal.CursorTooLarge) []
  stopped : {m count : ℕ} →
      m ≡ size c → m ≤ n → ReachesMore g u m r.limit → count ≡ r.limit + 1 → OwesAfter g u n c r (Outcome.StateLimit m count) []
  stray : {line : ℕ} →
      size c ≤ n → (ReachesMore g u (size c) r.limit → ⊥) → IsStrayAt g u c line →
      OwesAfter g u n c r (Outcome.CursorRefused (CursorRefusal.CursorStray line)) []
  listing : {ending : Ending} {given : List Skeleton} {outcome : Outcome} {bytes : List ℕ} →
      IsListed g u n c → (ReachesMore g u (size c) r.limit → ⊥) → Ends (asked g u n (Some c) r) r.page ending given →
      outcome ≡ outcome_of r.limit ending → bytes ≡ lines given → OwesAfter g u n c r outcome bytes

-- a listing after the skeleton whose text a file's bytes are
pub data OwesResumed (g : Schema) (u : Lists) (n : ℕ) (text : List ℕ) (r : Request) : Outcome → List ℕ → Type 0 where
  too_long : cursor_limit < length text → OwesResumed g u n text r (Outcome.CursorRefused CursorRefusal.TooLong) []
  no_text : {refusal : CursorRefusal} →
      length text ≤ cursor_limit → LinesRefused text refusal → OwesResumed g u n text r (Outcome.CursorRefused refusal) []
  text : {c : Skeleton} {outcome : Outcome} {bytes : List ℕ} →
      length text ≤ cursor_limit → IsSkeleton c → text ≡ skeleton_text c → OwesAfter g u n c r outcome bytes → OwesResumed g u n text r outcome bytes

-- a line with a size and its number of states for each size from the first on
abbrev pub state_lines : ℕ → List ℕ → List ℕ
state_lines from [] = []
state_lines from (count ∷ counts) = decimal from ++ codes " " ++ decimal count ++ codes "\n" ++ state_lines (from + 1) counts

-- a schema's bytes have this fault; their simple form is this schema
module _ (Refuses : List ℕ → SchemaFault → Type 0) (Accepts : List ℕ → Schema → Type 0) where
  -- With an accepted schema: the further files that are needed, the outcome and the bytes.
  pub data OwesAccepted (files : Shelved) (g : Schema) (r : Request) : Command → List Text → Outcome → List ℕ → Type 0 where
    list : {n : ℕ} {file : Text} {u : Lists} {ending : Ending} {given : List Skeleton} {outcome : Outcome} {bytes : List ℕ} →
        AreLists g r.fresh r.texts u → Ends (asked g u n None r) r.page ending given → outcome ≡ outcome_of r.limit ending → bytes ≡ lines given →
        OwesAccepted files g r (Command.list n file) [] outcome bytes
    no_cursor : {n : ℕ} {file cursor : Text} →
        bytes_of files cursor ≡ None → OwesAccepted files g r (Command.resume n file cursor) (cursor ∷ []) Outcome.ReadFault []
    resume : {n : ℕ} {file cursor : Text} {u : Lists} {text : List ℕ} {outcome : Outcome} {bytes : List ℕ} →
        AreLists g r.fresh r.texts u → bytes_of files cursor ≡ Some text → OwesResumed g u n text r outcome bytes →
        OwesAccepted files g r (Command.resume n file cursor) (cursor ∷ []) outcome bytes
    universe : {file : Text} {u : Lists} {bytes : List ℕ} →
        AreLists g r.fresh r.texts u → bytes ≡ universe_text u → OwesAccepted files g r (Command.universe file) [] Outcome.Done bytes
    states : {n : ℕ} {file : Text} {u : Lists} {ending : Ending} {counts : List ℕ} {outcome : Outcome} {bytes : List ℕ} →
        AreLists g r.fresh r.texts u → EndsCounting (asked g u n None r) ending counts → outcome ≡ outcome_of r.limit ending →
        bytes ≡ state_lines 1 counts → OwesAccepted files g r (Command.states n file) [] outcome bytes

  -- the schema that is made for a number; the summary of skeletons
  module _ (made : ℕ → List ℕ) (summary : List Skeleton → List ℕ) where
    -- the bytes for what is listed of a schema that is made for a number: none where there are too many states
    abbrev pub summed : Ending → List Skeleton → List ℕ
    summed Ending.full given = summary given
    summed (Ending.stopped m) given = []
    summed Ending.whole given = summary given

    -- what such a schema owes; its refusals have the empty name
    pub data OwesMade (z n : ℕ) (r : Request) : Outcome → List ℕ → Type 0 where
      refused : {fault : SchemaFault} → Refuses (made z) fault → OwesMade z n r (Outcome.SchemaRefused fault []) []
      listing : {g : Schema} {u : Lists} {ending : Ending} {given : List Skeleton} {outcome : Outcome} {bytes : List ℕ} →
          Accepts (made z) g → AreLists g r.fresh r.texts u → Ends (asked g u n None r) r.page ending given → outcome ≡ outcome_of r.limit ending →
          bytes ≡ summed ending given → OwesMade z n r outcome bytes

    -- The files that are needed in reading order, the outcome and the bytes for standard output.
    pub data Owes (words : List Text) (files : Shelved) : List Text → Outcome → List ℕ → Type 0 where
      words : HasNoForm words → Owes words files [] Outcome.Words []
      missing : {r : Request} {file : Text} {needed : List Text} →
          HasForm words r → HasFile r.command file → Reads Refuses Accepts files file needed Reading.missing → Owes words files needed Outcome.ReadFault []
      refused : {r : Request} {file opened : Text} {needed : List Text} {fault : SchemaFault} →
          HasForm words r → HasFile r.command file → Reads Refuses Accepts files file needed (Reading.refused fault opened) →
          Owes words files needed (Outcome.SchemaRefused fault opened) []
      seeded : {r : Request} {z n : ℕ} {outcome : Outcome} {bytes : List ℕ} →
          HasForm words r → r.command ≡ Command.seeded z n → OwesMade z n r outcome bytes → Owes words files [] outcome bytes
      accepted : {r : Request} {file : Text} {needed further all : List Text} {g : Schema} {outcome : Outcome} {bytes : List ℕ} →
          HasForm words r → HasFile r.command file → Reads Refuses Accepts files file needed (Reading.accepted g) →
          OwesAccepted files g r r.command further outcome bytes → all ≡ needed ++ further → Owes words files all outcome bytes
