-- The codes by which a state goes on.
use Rattle.std.specs.Prelude.{◌≡◌, ℕ, ◌+◌, ◌<◌, Bool, List, Option, Some, length, slice_get}
use Rattle.std.specs.declared.cmp.Ordering.TheVariants.{Less}
use Rattle.rng_model.specs.Codes.{Code, code_cmp}
use Rattle.rng_model.specs.Patterns.{not_allowed}
use Rattle.rng_model.specs.States.{step}
use Rattle.table_laws.specs.Finishing.{CanTake}
use Rattle.table_laws.specs.Reaching.{weight}
use Rattle.transitions.specs.declared.arc.Arc.{Arc}
use Rattle.transitions.specs.declared.state_id.StateId.{StateId}
use Rattle.transitions.specs.Arcs.{IsRow}
use Rattle.transitions.specs.Bounds.{IsPast}
use Rattle.transitions.specs.Marked.{HasMarks}
use Rattle.feasibility.specs.declared.explorer.Explorer.{Explorer}
use Rattle.feasibility.specs.Exploring.{IsAfter, IsExploring, IsFreeAt, at, found, names, schema}
use Rattle.feasibility.specs.Marking.{AreRight}

-- what follows the state of the number is known: by the code without a node, and by the others if the code has one
pub record IsKnownFor (e : Explorer) (frees : List (Option StateId)) (rows : List (List Arc)) (id : ℕ) (c : Code) : Type 0 where
  pub held : id < length (found e)
  pub all_frees : length frees ≡ length (found e)
  pub is_free : (next : Option StateId) → slice_get frees id ≡ Some next → IsFreeAt e id next
  pub node : weight c ≡ 1 → (row : List Arc) × (slice_get rows id ≡ Some row) × IsRow (schema e) (names e) (found e) (at e id) row

-- nothing is allowed after the code
abbrev pub IsDeadEnd : Explorer → ℕ → Code → Type 0
IsDeadEnd e id c = (step (schema e) (names e) (at e id) c).pattern ≡ not_allowed

-- the state of the number can go on with the code so that it can finish with exactly so many nodes in all
abbrev pub CanGoOn : Explorer → ℕ → ℕ → Code → Type 0
CanGoOn e id rest c = CanTake (schema e) (names e) rest (at e id) c

-- of the codes with w nodes past the bound the least with which the state can go on, and the state after it
pub record IsLeastTaken (e : Explorer) (id : ℕ) (bound : Option Code) (rest w : ℕ) (c : Code) (next : ℕ) : Type 0 where
  pub weighs : weight c ≡ w
  pub past : IsPast bound c
  pub takes : CanGoOn e id rest c
  pub leads : IsAfter e id c next
  pub first : (d : Code) → weight d ≡ w → IsPast bound d → code_cmp d c ≡ Less → CanGoOn e id rest d → ⊥

-- the state can go on with no code with w nodes past the bound
abbrev pub NoneTaken : Explorer → ℕ → Option Code → ℕ → ℕ → Type 0
NoneTaken e id bound rest w = (d : Code) → weight d ≡ w → IsPast bound d → CanGoOn e id rest d → ⊥

-- where the code without a node leads is known, and the state there has the mark of so many nodes
pub record IsFreeKnown (e : Explorer) (frees : List (Option StateId)) (marks : List (List Bool)) (id rest : ℕ) : Type 0 where
  pub exploring : IsExploring e
  pub held : id < length (found e)
  pub all_frees : length frees ≡ length (found e)
  pub is_free : (next : Option StateId) → slice_get frees id ≡ Some next → IsFreeAt e id next
  pub right : AreRight e marks
  pub marked : (next : StateId) → slice_get frees id ≡ Some (Some next) → HasMarks marks rest (next.0 + 1)
