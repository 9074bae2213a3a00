-- Where a step leads.
use Rattle.std.specs.Prelude.{◌≡◌, ◌≢◌, ◌<◌, ◌↔◌, List, Bool, IsTrue}
use Rattle.rng_model.specs.Patterns.{not_allowed}
use Rattle.rng_model.specs.Hedges.{Skeleton, IsSkeleton}
use Rattle.rng_model.specs.Events.{events}
use Rattle.rng_model.specs.Matching.{MatchesDocument}
use Rattle.rng_model.specs.Restrictions.{BreaksNoRule}
use Rattle.rng_model.specs.Codes.{Code, AreCodes}
use Rattle.rng_model.specs.States as states
use Rattle.rng_model.specs.States.{step, after_codes}
use Rattle.pattern_intern.specs.Stored.{Extends, count}
use Rattle.derivatives.specs.Views.{Machine, lists, state_of}
use Rattle.derivatives.specs.declared.states.State.{State}

-- the state after the code, by the table of states
abbrev pub state_after : Machine → State → Code → states.State
state_after d s c = step d.numbered.schema (lists d) (state_of d.numbered.pool s) c

-- the code leads from the state to this one
pub record IsNext (old new : Machine) (s : State) (c : Code) (t : State) : Type 0 where
  pub within : t.pattern.0 < count new.numbered.pool
  pub state : state_of new.numbered.pool t ≡ state_after old s c

-- each number keeps its pattern, and the rest is as before
pub record Keeps (old new : Machine) : Type 0 where
  pub pool : Extends old.numbered.pool new.numbered.pool
  pub schema : new.numbered.schema ≡ old.numbered.schema
  pub universe : new.universe ≡ old.universe
  pub atoms : new.atoms ≡ old.atoms

-- the code leads from the state to this one, whose pattern isn't notAllowed
pub record LeadsTo (old new : Machine) (s : State) (c : Code) (t : State) : Type 0 where
  pub within : t.pattern.0 < count new.numbered.pool
  pub state : state_of new.numbered.pool t ≡ state_after old s c
  pub allowed : (state_after old s c).pattern ≢ not_allowed

-- the code leads nowhere
abbrev pub LeadsNowhere : Machine → State → Code → Type 0
LeadsNowhere d s c = (state_after d s c).pattern ≡ not_allowed

-- Where the schema breaks no rule, a document over the lists whose codes lead to the state is matched exactly where the answer is true.
abbrev pub Decides : Machine → State → Bool → Type 0
Decides d s answer = BreaksNoRule d.numbered.schema → (t : Skeleton) → IsSkeleton t → (codes : List Code) →
    AreCodes (lists d) (events t) codes → after_codes d.numbered.schema (lists d) codes ≡ state_of d.numbered.pool s →
    MatchesDocument d.numbered.schema t ↔ IsTrue answer
