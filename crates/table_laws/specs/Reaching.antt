-- The states that lists of codes reach, level by level: this project's own.
use Rattle.std.specs.Prelude.{◌≡◌, ◌≢◌, ℕ, ◌+◌, ◌≤◌, max, List, Contains}
use Rattle.rng_model.specs.Patterns.{Pattern, Schema, choice, group, interleave, one_or_more, after, not_allowed}
use Rattle.rng_model.specs.Universe.{Lists}
use Rattle.rng_model.specs.States.{Place, Tag, Fresh, AfterText, AfterElement, State, step, Reach}
use Rattle.rng_model.specs.Codes.{Code, Opening, Attr, Body, Chars, Closing, IsInRange}

-- the nodes of a code
abbrev pub weight : Code → ℕ
weight (Opening i) = 1
weight (Attr j s) = 1
weight Body = 0
weight (Chars s) = 1
weight Closing = 0

-- the one code without a node that may be allowed at a place
abbrev pub free_code : Place → Code
free_code (Tag k) = Body
free_code Fresh = Closing
free_code AfterText = Closing
free_code AfterElement = Closing

-- the most afters of which each stands in the rest of the one before
unfoldable pub afters : Pattern → ℕ
afters (choice p q) = max (afters p) (afters q)
afters (group p q) = max (afters p) (afters q)
afters (interleave p q) = max (afters p) (afters q)
afters (one_or_more p) = afters p
afters (after p q) = max (afters p) (afters q + 1)
afters _ = 0

-- the codes without a node that may follow in a row: one for a tag, one for each open element
abbrev pub free_codes_left : State → ℕ
free_codes_left s = at_place s.place (afters s.pattern)
  where
    at_place : Place → ℕ → ℕ
    at_place (Tag k) n = n + 1
    at_place Fresh n = n
    at_place AfterText n = n
    at_place AfterElement n = n

abbrev pub state_at : Place → Pattern → State
state_at place p = record { place = place; pattern = p }

abbrev pub start_state : Schema → State
start_state g = state_at Fresh g.start

module _ (g : Schema) (u : Lists) where
  -- the code is in range and leads from the state to one whose pattern isn't notAllowed
  pub record Leads (s : State) (c : Code) : Type 0 where
    pub in_range : IsInRange u c
    pub allowed : (step g u s c).pattern ≢ not_allowed

  -- each of the codes with w nodes that leads somewhere from s leads into S
  abbrev pub GoesInto : ℕ → State → (State → Type 0) → Type 0
  GoesInto w s S = (c : Code) → weight c ≡ w → Leads s c → S (step g u s c)

  -- what at most m nodes reach stands in the list
  abbrev pub HasReach : ℕ → List State → Type 0
  HasReach m states = (s : State) → Reach g u m s → Contains states s

  -- m is the least number of nodes that reach the state
  pub record IsLeastCount (m : ℕ) (s : State) : Type 0 where
    pub reached : Reach g u m s
    pub least : (k : ℕ) → Reach g u k s → m ≤ k
