-- What is owed for a listing, read back from what words owe: this project's own.
use Rattle.std.specs.Prelude.{◌≡◌, ℕ, List, Some, None}
use Rattle.rng_model.specs.Texts.{Text}
use Rattle.rng_model.specs.Hedges.{Skeleton}
use Rattle.outside.specs.Devices.{Shelved}
use Rattle.seeded_schema.specs.Made.{made}
use Rattle.summary.specs.Summary.{summary}
use Rattle.listing_laws.specs.Pending.{Asked, Ending, Ends}
use Rattle.listing_laws.specs.StateCounts.{EndsCounting}
use Rattle.command_words.specs.Words.{Request}
use Rattle.list_command.specs.declared.outcome.Outcome.{Outcome}
use Rattle.list_command.specs.Texts.{lines}
use Rattle.list_command.specs.Accepting.{Refuses, Accepts}
use Rattle.list_command.specs.Owed.{outcome_of, state_lines, summed}
use Rattle.list_command.specs.Runs.{OwesFor}

-- the texts of a listing are owed
pub record IsListing (r : Request) (a : Asked) (outcome : Outcome) (bytes : List ℕ) : Type 0 where
  pub ending : Ending
  pub given : List Skeleton
  pub ends : Ends a r.page ending given
  pub result : outcome ≡ outcome_of r.limit ending
  pub is : bytes ≡ lines given

-- its summary is owed
pub record IsSummed (r : Request) (a : Asked) (outcome : Outcome) (bytes : List ℕ) : Type 0 where
  pub ending : Ending
  pub given : List Skeleton
  pub ends : Ends a r.page ending given
  pub result : outcome ≡ outcome_of r.limit ending
  pub is : bytes ≡ summed Refuses Accepts made summary ending given

-- the numbers of its states are owed
pub record IsCounted (r : Request) (a : Asked) (outcome : Outcome) (bytes : List ℕ) : Type 0 where
  pub ending : Ending
  pub counts : List ℕ
  pub ends : EndsCounting a ending counts
  pub result : outcome ≡ outcome_of r.limit ending
  pub is : bytes ≡ state_lines 1 counts

-- whatever the words owe is so
abbrev pub OwesOnly : List Text → Shelved → (Outcome → List ℕ → Type 0) → Type 0
OwesOnly words files P = (needed : List Text) (outcome : Outcome) (bytes : List ℕ) → OwesFor words files needed outcome bytes → P outcome bytes
