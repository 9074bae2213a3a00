-- Where everything that is asked for can be listed: this project's own.
use Rattle.std.specs.Prelude.{◌≡◌, ℕ, ◌⊎◌, ◌≤◌, List, length, Option, Some, None}
use Rattle.rng_model.specs.Texts.{Text}
use Rattle.rng_model.specs.Patterns.{Schema}
use Rattle.rng_model.specs.Hedges.{Skeleton}
use Rattle.rng_model.specs.Lines.{skeleton_text}
use Rattle.rng_model.specs.Universe.{Lists, AreLists}
use Rattle.rng_model.specs.Listing.{IsListed}
use Rattle.rng_model.specs.States.{ReachesMore}
use Rattle.outside.specs.Counts.{Rose}
use Rattle.outside.specs.Devices.{Shelved, bytes_of}
use Rattle.list_command.specs.declared.outcome.Outcome.{Outcome}
use Rattle.command_words.specs.Words.{Request, Command, HasForm}
use Rattle.listing_laws.specs.Pending.{AreFirst}
use Rattle.list_command.specs.Cursors.{cursor_limit}
use Rattle.list_command.specs.Owed.{asked}
use Rattle.list_command.specs.Runs.{IsSchemaOf}

-- No size has more states than the limit, and of what follows the cursor, if there is one, there isn't as much as the page takes.
pub record FitsWhole (g : Schema) (u : Lists) (n : ℕ) (after : Option Skeleton) (r : Request) : Type 0 where
  pub few : ReachesMore g u n r.limit → ⊥
  pub not_full : (k : ℕ) (front : List Skeleton) → r.page ≡ Some k → AreFirst (asked g u n after r) k front → ⊥

-- the file has the text of a listed skeleton, and what follows it fits
pub record FollowsListed (files : Shelved) (g : Schema) (u : Lists) (n : ℕ) (cursor : Text) (r : Request) : Type 0 where
  pub skeleton : Skeleton
  pub held : bytes_of files cursor ≡ Some (skeleton_text skeleton)
  pub short : length (skeleton_text skeleton) ≤ cursor_limit
  pub listed : IsListed g u n skeleton
  pub fits : FitsWhole g u n (Some skeleton) r

-- by the command
abbrev pub CanList : Shelved → Schema → Lists → Request → Command → Type 0
CanList files g u r (Command.list n file) = FitsWhole g u n None r
CanList files g u r (Command.resume n file cursor) = FollowsListed files g u n cursor r
CanList files g u r (Command.universe file) = ⊥
CanList files g u r (Command.states n file) = ⊥
CanList files g u r (Command.seeded z n) = FitsWhole g u n None r

-- words of a listing, and an accepted schema of which all that is asked for can be listed
pub record CanListAll (words : List Text) (files : Shelved) : Type 0 where
  pub request : Request
  pub form : HasForm words request
  pub schema : Schema
  pub accepted : IsSchemaOf files schema request.command
  pub lists : Lists
  pub are_lists : AreLists schema request.fresh request.texts lists
  pub can : CanList files schema lists request request.command

-- Where that is so and no count of faults rose, the run ends with Done or for want of memory.
abbrev pub EndsWhole : List Text → Shelved → ℕ → ℕ → ℕ → ℕ → Outcome → Type 0
EndsWhole words files reads reads_now writes writes_now outcome =
    CanListAll words files → (Rose reads reads_now → ⊥) → (Rose writes writes_now → ⊥) → (outcome ≡ Outcome.Done) ⊎ (outcome ≡ Outcome.OutOfMemory)
