-- What a run may do: this project's own.
use Rattle.std.specs.Prelude.{◌≡◌, ℕ, ◌⊎◌, ⊤, List, [], Option, Some, None}
use Rattle.std.specs.List.{AllByRecursion}
use Rattle.std.specs.Io.KnownBytes.{Keeps, Appends}
use Rattle.rng_model.specs.Texts.{Text}
use Rattle.rng_model.specs.Patterns.{Schema}
use Rattle.rng_model.specs.Hedges.{Skeleton, IsSkeleton}
use Rattle.outside.specs.Counts.{Rose, RisesAtMost}
use Rattle.outside.specs.Devices.{Shelved, bytes_of, IsFrontOf, AppendsFront}
use Rattle.seeded_schema.specs.Made.{made}
use Rattle.summary.specs.Summary.{summary}
use Rattle.list_command.specs.declared.outcome.Outcome.{Outcome}
use Rattle.command_words.specs.Words.{Request, Command, HasForm, HasFile}
use Rattle.list_command.specs.Reading.{calls_for}
use Rattle.list_command.specs.Texts.{lines, AreWholeSizes}
use Rattle.list_command.specs.Owed.{Owes}
use Rattle.list_command.specs.Accepting.{Refuses, Accepts}
use Rattle.list_command.specs.Status.{fault_line}

-- what these words owe over these files
abbrev pub OwesFor : List Text → Shelved → List Text → Outcome → List ℕ → Type 0
OwesFor = Owes Refuses Accepts made summary

-- a front of the bytes that are owed
abbrev pub IsFrontOfOwed : List Text → Shelved → List ℕ → Type 0
IsFrontOfOwed words files written =
    (needed : List Text) (outcome : Outcome) (bytes : List ℕ) → OwesFor words files needed outcome bytes → IsFrontOf written bytes

-- the commands that write the texts of what they list
abbrev pub WritesTexts : Command → Type 0
WritesTexts (Command.list n file) = ⊤
WritesTexts (Command.resume n file cursor) = ⊤
WritesTexts _ = ⊥

-- of the skeletons whose texts are owed, each size was written whole or not at all
abbrev pub HasWholeSizes : List Text → Shelved → List ℕ → Type 0
HasWholeSizes words files written =
    (r : Request) → HasForm words r → WritesTexts r.command →
    (needed : List Text) (outcome : Outcome) (bytes : List ℕ) → OwesFor words files needed outcome bytes →
    (given : List Skeleton) → AllByRecursion IsSkeleton given → bytes ≡ lines given → AreWholeSizes written given

-- Over told files the outcome is the one that is owed, or a run ends earlier with its cause. Where the output's bytes are told, they have
-- grown by the bytes that are owed, by nothing after a failed read, and else by a front of what is owed; where memory ran out, by whole sizes.
pub data EndsAsOwed (words : List Text) (files : Shelved) (taken taken_now : Option (List ℕ)) (reads reads_now writes writes_now : ℕ) : Outcome → Type 0 where
  owed : {needed : List Text} {outcome : Outcome} {bytes : List ℕ} →
      OwesFor words files needed outcome bytes → Appends taken taken_now bytes → EndsAsOwed words files taken taken_now reads reads_now writes writes_now outcome
  read_fault : Rose reads reads_now → Keeps taken taken_now → EndsAsOwed words files taken taken_now reads reads_now writes writes_now Outcome.ReadFault
  write_fault : (written : List ℕ) →
      Rose writes writes_now → IsFrontOfOwed words files written → Appends taken taken_now written →
      EndsAsOwed words files taken taken_now reads reads_now writes writes_now Outcome.WriteFault
  out_of_memory : {request : Request} (written : List ℕ) →
      HasForm words request → IsFrontOfOwed words files written → HasWholeSizes words files written → Appends taken taken_now written →
      EndsAsOwed words files taken taken_now reads reads_now writes writes_now Outcome.OutOfMemory

-- the files are told, and a file that is needed isn't held
abbrev pub IsReadFaultOwed : List Text → Option Shelved → Type 0
IsReadFaultOwed words None = ⊥
IsReadFaultOwed words (Some files) = (needed : List Text) × OwesFor words files needed Outcome.ReadFault []

-- a read or a write failed
abbrev pub IsFault : Outcome → Type 0
IsFault Outcome.ReadFault = ⊤
IsFault Outcome.WriteFault = ⊤
IsFault _ = ⊥

-- where the files are told, the calls are at most those for the files that are needed
abbrev pub CallsAsNeeded : List Text → Option Shelved → Option ℕ → Option ℕ → Type 0
CallsAsNeeded words None calls calls_now = ⊤
CallsAsNeeded words (Some files) calls calls_now =
    (needed : List Text) (outcome : Outcome) (bytes : List ℕ) → OwesFor words files needed outcome bytes → RisesAtMost (calls_for files needed) calls calls_now

-- the fault line was taken, or a front of it where the count rose; nothing where there is no line
abbrev pub WritesLine : Option (List ℕ) → Option (List ℕ) → Option (List ℕ) → ℕ → ℕ → Type 0
WritesLine None taken taken_now faults faults_now = Keeps taken taken_now × (faults_now ≡ faults)
WritesLine (Some line) taken taken_now faults faults_now =
    (Appends taken taken_now line × (faults_now ≡ faults)) ⊎ (AppendsFront taken taken_now line × Rose faults faults_now)

-- the fault line of the outcome
abbrev pub WritesFaultLine : Outcome → Option (List ℕ) → Option (List ℕ) → ℕ → ℕ → Type 0
WritesFaultLine outcome taken taken_now faults faults_now = WritesLine (fault_line outcome) taken taken_now faults faults_now

-- the command's schema is accepted as this one
pub data IsSchemaOf (files : Shelved) (g : Schema) (command : Command) : Type 0 where
  in_file : (file : Text) {bytes : List ℕ} → HasFile command file → bytes_of files file ≡ Some bytes → Accepts bytes g → IsSchemaOf files g command
  for_number : {z n : ℕ} → command ≡ Command.seeded z n → Accepts (made z) g → IsSchemaOf files g command

-- A run whose reading ended with this outcome, for all words that ask for this file: nothing is written.
abbrev pub EndsUnread : Text → Shelved → ℕ → ℕ → Outcome → Type 0
EndsUnread file files reads reads_now outcome =
    (words : List Text) (request : Request) → HasForm words request → HasFile request.command file →
    (taken : Option (List ℕ)) (writes : ℕ) → EndsAsOwed words files taken taken reads reads_now writes writes outcome

-- the schema's bytes in the files, and the schema
abbrev pub IsRead : Text → Shelved → Schema → Type 0
IsRead file files g = (bytes : List ℕ) × (bytes_of files file ≡ Some bytes) × Accepts bytes g

-- the same for all words that ask for this
module _ (asked : Request) where
  abbrev pub AnswersAsOwed : Shelved → Option (List ℕ) → Option (List ℕ) → ℕ → ℕ → ℕ → ℕ → Outcome → Type 0
  AnswersAsOwed files taken taken_now reads reads_now writes writes_now outcome =
      (words : List Text) → HasForm words asked → EndsAsOwed words files taken taken_now reads reads_now writes writes_now outcome

  abbrev pub MissesAsOwed : Option Shelved → Type 0
  MissesAsOwed files = (words : List Text) → HasForm words asked → IsReadFaultOwed words files

  abbrev pub CallsAsAsked : Option Shelved → Option ℕ → Option ℕ → Type 0
  CallsAsAsked files calls calls_now = (words : List Text) → HasForm words asked → CallsAsNeeded words files calls calls_now
