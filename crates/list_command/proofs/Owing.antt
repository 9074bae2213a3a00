-- What is owed for a request.
use Rattle.std.proofs.Common.{◌≡◌, ℕ, List, [], ◌∷◌, sym, ◌∙◌}
use Rattle.std.specs.Prelude.{None, Some}
use Rattle.rng_model.specs.Texts.{Text}
use Rattle.rng_model.specs.Patterns.{Schema}
use Rattle.rng_model.specs.Hedges.{Skeleton}
use Rattle.outside.specs.Devices.{Shelved, bytes_of}
use Rattle.list_command.specs.declared.outcome.Outcome.{Outcome}
use Rattle.list_command.specs.declared.outcome.SchemaFault.{SchemaFault}
use Rattle.command_words.specs.Words.{Command, Request, HasForm, HasFile}
use Rattle.list_command.specs.Reading.{Reads}
use Rattle.list_command.specs.Owed.{Owes, OwesAccepted, OwesMade}

-- a command has one file
pub one_file : (c : Command) (a b : Text) → HasFile c a → HasFile c b → a ≡ b
one_file (Command.list n file) a b p q = sym p ∙ q
one_file (Command.resume n file cursor) a b p q = sym p ∙ q
one_file (Command.universe file) a b p q = sym p ∙ q
one_file (Command.states n file) a b p q = sym p ∙ q
one_file (Command.seeded z n) a b p q = absurd p

pub file_of : (c d : Command) (name : Text) → c ≡ d → HasFile d name → HasFile c name
file_of c d name e has = rw e has

-- words ask for one thing
abbrev pub AskOnce : Type 0
AskOnce = (words : List Text) (q r : Request) → HasForm words q → HasForm words r → q ≡ r

module _ (Refuses : List ℕ → SchemaFault → Type 0) (Accepts : List ℕ → Schema → Type 0) (made : ℕ → List ℕ) (summary : List Skeleton → List ℕ) where
  -- what is owed for the request
  pub data IsOwed (r : Request) (files : Shelved) : List Text → Outcome → List ℕ → Type 0 where
    missing : {file : Text} → HasFile r.command file → bytes_of files file ≡ None → IsOwed r files (file ∷ []) Outcome.ReadFault []
    refused : {file : Text} {bytes : List ℕ} {fault : SchemaFault} →
        HasFile r.command file → bytes_of files file ≡ Some bytes → Refuses bytes fault → IsOwed r files (file ∷ []) (Outcome.SchemaRefused fault file) []
    seeded : {z n : ℕ} {outcome : Outcome} {out : List ℕ} →
        r.command ≡ Command.seeded z n → OwesMade Refuses Accepts made summary z n r outcome out → IsOwed r files [] outcome out
    accepted : {file : Text} {further all : List Text} {bytes : List ℕ} {g : Schema} {outcome : Outcome} {out : List ℕ} →
        HasFile r.command file → bytes_of files file ≡ Some bytes → Accepts bytes g → OwesAccepted Refuses Accepts files g r r.command further outcome out →
        all ≡ file ∷ further → IsOwed r files all outcome out

  pub owed_meaning : AskOnce → {words : List Text} {files : Shelved} {needed : List Text} {outcome : Outcome} {bytes : List ℕ} (r : Request) →
      HasForm words r → Owes Refuses Accepts made summary words files needed outcome bytes → IsOwed r files needed outcome bytes
  owed_meaning once r h (Owes.words none) = absurd (none r h)
  owed_meaning once {words = words} r h (Owes.missing {r = q} f has (Reads.missing none)) = IsOwed.missing (rw (once words q r f h) at has) none
  owed_meaning once {words = words} r h (Owes.refused {r = q} f has (Reads.refused held fault)) = IsOwed.refused (rw (once words q r f h) at has) held fault
  owed_meaning once {words = words} r h (Owes.seeded {r = q} f asks owes) =
      let same = once words q r f h in
      IsOwed.seeded (rw same at asks) (rw same at owes)
  owed_meaning once {words = words} r h (Owes.accepted {r = q} f has (Reads.accepted held accepts) owes all) =
      let same = once words q r f h in
      IsOwed.accepted (rw same at has) held accepts (rw same at owes) all
