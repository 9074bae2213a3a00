-- What leads from a state to others: runs of codes that lead to one state.
use Rattle.std.specs.Prelude.{◌≡◌, ℕ, ◌<◌, ◌≤◌, ◌⊎◌, List, Option, Some, None, ⊤, length, slice_get, slice_index_or}
use Rattle.rng_model.specs.Codes.{Code, Opening, Attr, Chars, IsInRange}
use Rattle.rng_model.specs.Patterns.{Schema, not_allowed}
use Rattle.rng_model.specs.Universe.{Lists}
use Rattle.rng_model.specs.States.{State, Fresh, step}
use Rattle.table_laws.specs.Reaching.{Leads, free_code, state_at, weight}
use Rattle.skeleton.specs.Views.{code_of}
use Rattle.transitions.specs.declared.arc.Arc.{Arc}
use Rattle.transitions.specs.declared.state_id.StateId.{StateId}

-- the code is one from the first through the position of the last
abbrev pub IsFrom : Code → ℕ → Code → Type 0
IsFrom (Opening i) last (Opening p) = (i ≤ p) × (p ≤ last)
IsFrom (Attr n i) last (Attr m p) = (n ≡ m) × (i ≤ p) × (p ≤ last)
IsFrom (Chars i) last (Chars p) = (i ≤ p) × (p ≤ last)
IsFrom _ last _ = ⊥

abbrev pub Covers : Arc → Code → Type 0
Covers a c = IsFrom (code_of a.first) a.last c

-- the order of codes with a node
abbrev pub IsLess : Code → Code → Type 0
IsLess (Chars p) (Chars q) = p < q
IsLess (Chars p) (Attr m q) = ⊤
IsLess (Chars p) (Opening q) = ⊤
IsLess (Attr n p) (Attr m q) = (n < m) ⊎ ((n ≡ m) × (p < q))
IsLess (Attr n p) (Opening q) = ⊤
IsLess (Opening p) (Opening q) = p < q
IsLess _ _ = ⊥

-- the state of a number
abbrev pub state_in : List State → ℕ → State
state_in states id = slice_index_or states id (state_at Fresh not_allowed)

module _ (g : Schema) (u : Lists) (states : List State) (s : State) where
  -- the code leads to the state of the number
  pub record LeadsTo (c : Code) (next : ℕ) : Type 0 where
    pub held : next < length states
    pub in_range : IsInRange u c
    pub state : state_in states next ≡ step g u s c

  -- What leads from the state by codes before the bound: each leads where it says, the one before the next, and none is missing.
  pub record IsRowTo (bound : Code) (arcs : List Arc) : Type 0 where
    pub some : (i : ℕ) (a : Arc) → slice_get arcs i ≡ Some a → Covers a (code_of a.first)
    pub right : (i : ℕ) (a : Arc) (c : Code) → slice_get arcs i ≡ Some a → Covers a c → LeadsTo c a.next.0
    pub before : (i : ℕ) (a : Arc) (c : Code) → slice_get arcs i ≡ Some a → Covers a c → IsLess c bound
    pub ascending : (i j : ℕ) (a b : Arc) (c d : Code) → i < j → slice_get arcs i ≡ Some a → slice_get arcs j ≡ Some b → Covers a c → Covers b d → IsLess c d
    pub all : (c : Code) → IsLess c bound → Leads g u s c → (i : ℕ) × (a : Arc) × (slice_get arcs i ≡ Some a) × Covers a c

  -- what leads from the state by codes with a node
  pub record IsRow (arcs : List Arc) : Type 0 where
    pub some : (i : ℕ) (a : Arc) → slice_get arcs i ≡ Some a → Covers a (code_of a.first)
    pub right : (i : ℕ) (a : Arc) (c : Code) → slice_get arcs i ≡ Some a → Covers a c → LeadsTo c a.next.0
    pub ascending : (i j : ℕ) (a b : Arc) (c d : Code) → i < j → slice_get arcs i ≡ Some a → slice_get arcs j ≡ Some b → Covers a c → Covers b d → IsLess c d
    pub all : (c : Code) → weight c ≡ 1 → Leads g u s c → (i : ℕ) × (a : Arc) × (slice_get arcs i ≡ Some a) × Covers a c

  -- where the one code without a node leads
  abbrev pub IsFree : Option StateId → Type 0
  IsFree (Some next) = LeadsTo (free_code s.place) next.0
  IsFree None = (step g u s (free_code s.place)).pattern ≡ not_allowed
