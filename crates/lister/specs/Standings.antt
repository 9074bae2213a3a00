-- What is open along a path, as the path keeps it: this project's own.
use Rattle.std.specs.Prelude.{◌≡◌, ℕ, ◌≤◌, List, map, length, take, slice_get, Some}
use Rattle.skeleton.specs.declared.code.Code as coded
use Rattle.skeleton.specs.Views.{code_of}
use Rattle.lister.specs.declared.path.Step.{Step}
use Rattle.lister.specs.declared.standing.Standing.{Standing}
use Rattle.lister.specs.OpenElements.{open_of, open_at}

-- what is open after the codes, and before each of them before which a step stands
pub record AreStandings (codes : List coded.Code) (steps : List Step) (standing : Standing) : Type 0 where
  pub within : length steps ≤ length codes
  pub after : open_of standing ≡ open_at (map code_of codes)
  pub each : (k : ℕ) (s : Step) → slice_get steps k ≡ Some s → open_of s.standing ≡ open_at (map code_of (take k codes))
