-- What a row says of codes, and the search of it.
use Rattle.std.specs.Prelude.{◌≡◌, ◌≢◌, ℕ, ◌<◌, ◌≤◌, Bool, true, List, Option, Some, length, slice_get}
use Rattle.std.specs.declared.cmp.Ordering.TheVariants.{Less, Greater}
use Rattle.rng_model.specs.Codes.{Code, code_cmp}
use Rattle.skeleton.specs.Views.{code_of}
use Rattle.transitions.specs.declared.arc.Arc.{Arc}
use Rattle.transitions.specs.Arcs.{Covers, IsLess}
use Rattle.transitions.specs.Bounds.{IsPast}
use Rattle.transitions.specs.Marked.{IsWithin}

-- each arc covers its first code, and the codes of an arc are less than those of the following ones
pub record IsInOrder (row : List Arc) : Type 0 where
  pub some : (i : ℕ) (a : Arc) → slice_get row i ≡ Some a → Covers a (code_of a.first)
  pub ascending : (i j : ℕ) (a b : Arc) (c d : Code) → i < j → slice_get row i ≡ Some a → slice_get row j ≡ Some b → Covers a c → Covers b d → IsLess c d

-- the first codes of the arcs below the place aren't greater than the code, and those of the others are
pub record IsUpTo (row : List Arc) (c : Code) (place : ℕ) : Type 0 where
  pub most : place ≤ length row
  pub before : (i : ℕ) (a : Arc) → i < place → slice_get row i ≡ Some a → code_cmp (code_of a.first) c ≢ Greater
  pub after : (i : ℕ) (a : Arc) → place ≤ i → slice_get row i ≡ Some a → code_cmp (code_of a.first) c ≡ Greater

-- an arc covers the code and leads to the state of the number
pub record GoesTo (row : List Arc) (c : Code) (next : ℕ) : Type 0 where
  pub place : ℕ
  pub arc : Arc
  pub is : slice_get row place ≡ Some arc
  pub covers : Covers arc c
  pub to : arc.next.0 ≡ next

-- no arc covers the code
abbrev pub GoesNowhere : List Arc → Code → Type 0
GoesNowhere row c = (next : ℕ) → GoesTo row c next → ⊥

-- the least code of the arc past the bound
pub record IsLeastPast (a : Arc) (bound : Option Code) (c : Code) : Type 0 where
  pub covers : Covers a c
  pub past : IsPast bound c
  pub first : (d : Code) → Covers a d → IsPast bound d → code_cmp d c ≡ Less → ⊥

-- the arc has no code past the bound
abbrev pub NonePast : Arc → Option Code → Type 0
NonePast a bound = (d : Code) → Covers a d → IsPast bound d → ⊥

-- the list of so many nodes has marks of all states to which the row leads
pub record AreListed (row : List Arc) (marks : List (List Bool)) (left : ℕ) : Type 0 where
  pub list : List Bool
  pub is : slice_get marks left ≡ Some list
  pub within : IsWithin row (length list)

-- the state of the number has the mark of so many nodes
abbrev pub IsMarked : List (List Bool) → ℕ → ℕ → Type 0
IsMarked marks left next = (list : List Bool) × (slice_get marks left ≡ Some list) × (slice_get list next ≡ Some true)

-- the row leads by the code to the state of the number, and that has the mark of so many nodes
pub record GoesToMarked (row : List Arc) (marks : List (List Bool)) (left : ℕ) (c : Code) (next : ℕ) : Type 0 where
  pub goes : GoesTo row c next
  pub marked : IsMarked marks left next

-- the arc leads to a marked state, and this is its least code past the bound
pub record IsProbed (a : Arc) (marks : List (List Bool)) (left : ℕ) (bound : Option Code) (c : Code) (next : ℕ) : Type 0 where
  pub least : IsLeastPast a bound c
  pub to : a.next.0 ≡ next
  pub marked : IsMarked marks left next

-- the arc has no code past the bound, or leads to a state without a mark
abbrev pub NoneProbed : Arc → List (List Bool) → ℕ → Option Code → Type 0
NoneProbed a marks left bound = (d : Code) → Covers a d → IsPast bound d → IsMarked marks left a.next.0 → ⊥

-- the least code past the bound by which the row leads to a marked state
pub record IsLeastMarked (row : List Arc) (marks : List (List Bool)) (left : ℕ) (bound : Option Code) (c : Code) (next : ℕ) : Type 0 where
  pub past : IsPast bound c
  pub marked : GoesToMarked row marks left c next
  pub first : (d : Code) (other : ℕ) → IsPast bound d → code_cmp d c ≡ Less → GoesToMarked row marks left d other → ⊥

-- by no code past the bound does the row lead to a marked state
abbrev pub NoneMarked : List Arc → List (List Bool) → ℕ → Option Code → Type 0
NoneMarked row marks left bound = (d : Code) (other : ℕ) → IsPast bound d → GoesToMarked row marks left d other → ⊥

-- nor do the arcs below the place
pub record NoneBefore (row : List Arc) (marks : List (List Bool)) (left : ℕ) (bound : Option Code) (place : ℕ) : Type 0 where
  pub none : (d : Code) (other : ℕ) (g : GoesToMarked row marks left d other) → g.goes.place < place → IsPast bound d → ⊥

-- the first codes of the arcs below the one place aren't greater than the code, and those from the other on are
pub record IsBetween (row : List Arc) (c : Code) (low high : ℕ) : Type 0 where
  pub order : low ≤ high
  pub most : high ≤ length row
  pub before : (i : ℕ) (a : Arc) → i < low → slice_get row i ≡ Some a → code_cmp (code_of a.first) c ≢ Greater
  pub after : (i : ℕ) (a : Arc) → high ≤ i → slice_get row i ≡ Some a → code_cmp (code_of a.first) c ≡ Greater

-- the arcs below the place have no code past the bound
pub record AreSkipped (row : List Arc) (bound : Option Code) (place : ℕ) : Type 0 where
  pub none : (i : ℕ) (a : Arc) → i < place → slice_get row i ≡ Some a → NonePast a bound
