-- Rows that lie one behind the other in one list of arcs.
use Rattle.std.specs.Prelude.{◌≡◌, ℕ, ◌-◌, ◌≤◌, List, [], ◌∷◌, drop, length, take, zero, suc}
use Rattle.transitions.specs.declared.arc.Arc.{Arc}

-- the arcs from a start up to an end
abbrev pub arcs_in : List Arc → ℕ → ℕ → List Arc
arcs_in arcs start end = take (end - start) (drop start arcs)

-- the rows by where each ends: the first begins at the start, each other one at the end of the one before
abbrev pub rows_from : List Arc → ℕ → List ℕ → List (List Arc)
rows_from arcs start [] = []
rows_from arcs start (end ∷ ends) = arcs_in arcs start end ∷ rows_from arcs end ends

-- where the row of a number begins
abbrev pub start_at : ℕ → List ℕ → ℕ → ℕ
start_at start ends zero = start
start_at start [] (suc id) = start
start_at start (end ∷ ends) (suc id) = start_at end ends id

-- no row ends before it begins, and the last one ends with the arcs
abbrev pub AreEnds : List Arc → ℕ → List ℕ → Type 0
AreEnds arcs start [] = start ≡ length arcs
AreEnds arcs start (end ∷ ends) = (start ≤ end) × AreEnds arcs end ends
