-- How many steps a listing may count: this project's own.
use Rattle.std.specs.Prelude.{◌≡◌, ℕ, ◌+◌, ◌*◌, ◌≤◌, ◌⊎◌, List, ◌++◌, length, Option, Some, None}
use Rattle.rng_model.specs.Patterns.{Schema}
use Rattle.rng_model.specs.Hedges.{Skeleton}
use Rattle.rng_model.specs.Atoms.{Literals}
use Rattle.rng_model.specs.Universe.{Lists, AreLists, AreLiterals, event_count}
use Rattle.rng_model.specs.Alike.{Groups, AreAlikeGroups, alike_count}
use Rattle.outside.specs.Devices.{Shelved}
use Rattle.seeded_schema.specs.Made.{made}
use Rattle.command_words.specs.Words.{Request, Command}
use Rattle.listing_laws.specs.Pending.{Ending, Ends}
use Rattle.listing_laws.specs.StateCounts.{ReachesExactly}
use Rattle.list_command.specs.declared.outcome.Outcome.{Outcome}
use Rattle.list_command.specs.Accepting.{Accepts}
use Rattle.list_command.specs.Owed.{asked}
use Rattle.list_command.specs.Texts.{HasTexts}
use Rattle.list_command.specs.Runs.{IsSchemaOf}

-- The most steps: each state of the table takes one for each group of alike events, a cursor takes a few for each node, and each
-- skeleton, and the end of each size, some for each event.
abbrev pub most_steps : ℕ → ℕ → ℕ → ℕ → ℕ → ℕ
most_steps groups events states n count = groups * states + 9 * n + 12 * n * events * (count + n)

-- the command writes the texts of skeletons up to this size
abbrev pub ListsUpTo : Command → ℕ → Type 0
ListsUpTo (Command.list n file) m = n ≡ m
ListsUpTo (Command.resume n file cursor) m = n ≡ m
ListsUpTo _ m = ⊥

-- the count of steps before and after
module _ (ticks ticks_now : ℕ) where
  -- A listing of so many skeletons counts no more; the states are those of the limit and one more, or where all is done those that its size
  -- reaches.
  pub record IsWithin (g : Schema) (u : Lists) (r : Request) (n count : ℕ) (outcome : Outcome) : Type 0 where
    pub any : (l : Literals) (x : Groups) → AreLiterals g l → AreAlikeGroups g l u x →
        ticks_now ≤ ticks + most_steps (alike_count u x) (event_count u) (r.limit + 1) n count
    pub done : (l : Literals) (x : Groups) → AreLiterals g l → AreAlikeGroups g l u x → outcome ≡ Outcome.Done →
        (states : ℕ) → ReachesExactly g u n states → ticks_now ≤ ticks + most_steps (alike_count u x) (event_count u) states n count

  -- where the output's bytes are told, by how many texts they have grown, whole ones
  abbrev pub WritesWithin : Schema → Request → ℕ → Option (List ℕ) → Option (List ℕ) → Outcome → Type 0
  WritesWithin g r n taken taken_now outcome =
      (u : Lists) (before written : List ℕ) (count : ℕ) → AreLists g r.fresh r.texts u →
      taken ≡ Some before → taken_now ≡ Some (before ++ written) → HasTexts written count → IsWithin g u r n count outcome

  -- by how many are to be summed
  abbrev pub SumsWithin : Schema → Request → ℕ → Outcome → Type 0
  SumsWithin g r n outcome =
      (u : Lists) (ending : Ending) (given : List Skeleton) → AreLists g r.fresh r.texts u →
      Ends (asked g u n None r) r.page ending given → IsWithin g u r n (length given) outcome

  -- for a schema that is accepted: a listing of texts
  abbrev pub ListsWithin : Request → Shelved → Option (List ℕ) → Option (List ℕ) → Outcome → Type 0
  ListsWithin r files taken taken_now outcome =
      (n : ℕ) (g : Schema) → ListsUpTo r.command n → IsSchemaOf files g r.command → WritesWithin g r n taken taken_now outcome

  -- a summary
  abbrev pub MadeWithin : Request → Outcome → Type 0
  MadeWithin r outcome = (z n : ℕ) (g : Schema) → r.command ≡ Command.seeded z n → Accepts (made z) g → SumsWithin g r n outcome

  -- steps are counted only where the schema is accepted
  abbrev pub CountsAccepted : Request → Shelved → Type 0
  CountsAccepted r files = (ticks_now ≡ ticks) ⊎ ((g : Schema) × IsSchemaOf files g r.command)
