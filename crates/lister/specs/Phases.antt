-- Where a walk stands, as the lister keeps it: this project's own.
use Rattle.std.specs.Prelude.{◌≡◌, ◌≢◌, ℕ, ◌≤◌, ⊤, Option, Some, None, List, [], take, slice_get}
use Rattle.rng_model.specs.Codes.{Code, nodes}
use Rattle.table_laws.specs.Walking.{IsLeastRest, IsNextList, NothingAbove}
use Rattle.feasibility.specs.Tables.{Table}
use Rattle.lister.specs.Walks.{Stage, nowhere, before, at, past, AreStates, KeepsFront, ChangesAt}
use Rattle.lister.specs.Paths.{Path, IsKept}
use Rattle.lister.specs.Descents.{listed_codes}
use Rattle.lister.specs.declared.next.Phase.{Phase}
use Rattle.lister.specs.declared.next.Phase.TheVariants.{Nowhere, Before, At, Past}

abbrev pub stage_of : Phase → Path → Stage
stage_of Nowhere p = nowhere
stage_of Before p = before
stage_of At p = at p.codes p.states
stage_of Past p = past

-- once a size was set, there is room for it; at a document, what is kept of its path
abbrev pub IsSound : Phase → ℕ → Path → Type 0
IsSound Nowhere n p = p.room ≤ 64
IsSound Before n p = (1 ≤ n) × (n ≤ p.room) × (p.room ≤ 64)
IsSound At n p = (1 ≤ n) × (n ≤ p.room) × (p.room ≤ 64) × IsKept p
IsSound Past n p = (1 ≤ n) × (n ≤ p.room) × (p.room ≤ 64)

-- the stage once a document was found, of which so many codes are unchanged, or none
abbrev pub found_stage : Option ℕ → Path → Stage
found_stage (Some k) p = at p.codes p.states
found_stage None p = past

-- the first k codes of both lists are the same, and the next ones aren't
abbrev pub IsForkOf : List Code → List Code → ℕ → Type 0
IsForkOf old new k = (take k new ≡ take k old) × (slice_get new k ≢ slice_get old k)

-- the path is that of the first document of the size, none of whose codes stands as before, or there is none
abbrev pub IsFoundFirst : Table → ℕ → Option ℕ → Path → Type 0
IsFoundFirst t n (Some k) p = IsLeastRest (listed_codes t n) [] p.codes × (k ≡ 0)
IsFoundFirst t n None p = (codes : List Code) → listed_codes t n codes → ⊥

-- the new path is that of the next document after the old one's, with so many codes unchanged, or none follows
abbrev pub IsFoundNext : Table → Path → Option ℕ → Path → Type 0
IsFoundNext t old (Some k) new = IsNextList (listed_codes t (nodes old.codes)) old.codes new.codes × IsForkOf old.codes new.codes k
IsFoundNext t old None new = NothingAbove (listed_codes t (nodes old.codes)) [] old.codes

-- what holds of the path of a document that was found
abbrev pub StandsAtFound : Table → ℕ → Option ℕ → Path → Type 0
StandsAtFound t n (Some k) p = listed_codes t n p.codes × AreStates t p.codes p.states × IsKept p
StandsAtFound t n None p = ⊤

-- where a document was found, so many codes stand as in the one before it, and no more
abbrev pub IsUnchanged : Stage → Option ℕ → Stage → Type 0
IsUnchanged old (Some k) new = KeepsFront old k new × ChangesAt old k new
IsUnchanged old None new = ⊤
