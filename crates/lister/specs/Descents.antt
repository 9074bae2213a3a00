-- The walk to the least codes behind a beginning, and back to the last code above which there is another: this project's own.
use Rattle.std.specs.Prelude.{◌≡◌, ◌≢◌, ℕ, ◌+◌, ◌≤◌, List, [], ◌∷◌, ◌++◌, length}
use Rattle.std.specs.List.{AllByRecursion}
use Rattle.rng_model.specs.Codes.{Code, nodes, IsInRange}
use Rattle.rng_model.specs.States.{after_codes}
use Rattle.table_laws.specs.Finishing.{Finish}
use Rattle.table_laws.specs.Walking.{AreListedCodes, IsLeastRest, IsNextList}
use Rattle.feasibility.specs.Tables.{Table, lists, state_of}
use Rattle.feasibility.specs.Following.{IsHeld}
use Rattle.lister.specs.Walks.{AreStates}
use Rattle.lister.specs.Paths.{Path, IsKept}

-- the codes of the listed documents of a size
abbrev pub listed_codes : Table → ℕ → List Code → Type 0
listed_codes t n = AreListedCodes t.schema (lists t) n

-- The path goes from the start to a state of the table that can finish with exactly so many nodes, and a state stands before each code.
pub record LeadsUpTo (t : Table) (p : Path) (id rest : ℕ) : Type 0 where
  pub held : IsHeld t id
  pub state : state_of t id ≡ after_codes t.schema (lists t) p.codes
  pub in_range : AllByRecursion (IsInRange (lists t)) p.codes
  pub finishes : Finish t.schema (lists t) rest (after_codes t.schema (lists t) p.codes)
  pub grown : nodes p.codes + rest ≤ t.grown
  pub room : nodes p.codes + rest ≤ p.room
  pub level : length p.states ≡ length p.codes
  pub states : AreStates t p.codes p.states

-- the path is that of a listed document, and the table has grown to its size
pub record IsDocument (t : Table) (p : Path) : Type 0 where
  pub listed : listed_codes t (nodes p.codes) p.codes
  pub states : AreStates t p.codes p.states
  pub kept : IsKept p
  pub grown : nodes p.codes ≤ t.grown
  pub room : nodes p.codes ≤ p.room
  pub most : p.room ≤ 64

-- the least codes with which a document of size n goes on from the old path begin with those that the new one has more
pub record Descends (t : Table) (n : ℕ) (old new : Path) : Type 0 where
  pub room : new.room ≡ old.room
  pub more : List Code
  pub codes : new.codes ≡ old.codes ++ more
  pub least : (rest : List Code) → IsLeastRest (listed_codes t n) new.codes rest → IsLeastRest (listed_codes t n) old.codes (more ++ rest)

-- the new path is that of the least document of size n that begins with the old one
pub record Completes (t : Table) (n : ℕ) (old new : Path) : Type 0 where
  pub room : new.room ≡ old.room
  pub more : List Code
  pub codes : new.codes ≡ old.codes ++ more
  pub least : IsLeastRest (listed_codes t n) old.codes more
  pub states : AreStates t new.codes new.states
  pub kept : IsKept new

-- the new codes are a front of the old ones, and one code more, which is another one than in the old ones
pub record TurnsLast (old new : List Code) : Type 0 where
  pub front : List Code
  pub last : Code
  pub new_is : new ≡ front ++ (last ∷ [])
  pub was : Code
  pub behind : List Code
  pub old_is : old ≡ front ++ (was ∷ behind)
  pub other : last ≢ was

-- the next document of size n after the old path's begins with the new path, whose last code is another one than there, and goes on with the
-- least codes
pub record GoesBack (t : Table) (n : ℕ) (old new : Path) : Type 0 where
  pub room : new.room ≡ old.room
  pub turns : TurnsLast old.codes new.codes
  pub next : (more : List Code) → IsLeastRest (listed_codes t n) new.codes more → IsNextList (listed_codes t n) old.codes (new.codes ++ more)
