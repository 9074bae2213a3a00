-- How a row grows at its end.
use Rattle.std.specs.Prelude.{◌≡◌, ℕ, ◌+◌, ◌⊎◌, List, [], ◌∷◌, ◌++◌, Some, length, slice_get, slice_set}
use Rattle.rng_model.specs.Codes.{Code, Opening, Attr, Chars}
use Rattle.skeleton.specs.Views.{code_of}
use Rattle.transitions.specs.declared.arc.Arc.{Arc}

-- the code is the one of its kind, and of its name where it is an attribute, behind the last position
abbrev pub IsNext : Code → ℕ → Code → Type 0
IsNext (Opening i) last (Opening p) = p ≡ last + 1
IsNext (Attr n i) last (Attr m p) = (n ≡ m) × (p ≡ last + 1)
IsNext (Chars i) last (Chars p) = p ≡ last + 1
IsNext _ last _ = ⊥

-- a run goes on to that of a further code
pub record GoesOn (run next : Arc) : Type 0 where
  pub state : run.next ≡ next.next
  pub code : IsNext (code_of run.first) run.last (code_of next.first)

-- the last run is longer by that of a further code
pub record IsLonger (old : List Arc) (next : Arc) (new : List Arc) : Type 0 where
  pub place : ℕ
  pub run : Arc
  pub last : length old ≡ place + 1
  pub is : slice_get old place ≡ Some run
  pub on : GoesOn run next
  pub longer : new ≡ slice_set old place (record { first = run.first; last = next.last; next = run.next })

-- no run goes on to a further code, which has a run of its own
pub record IsApart (old : List Arc) (next : Arc) (new : List Arc) : Type 0 where
  pub none : (place : ℕ) (run : Arc) → length old ≡ place + 1 → slice_get old place ≡ Some run → GoesOn run next → ⊥
  pub longer : new ≡ old ++ next ∷ []

-- a further code is added to the last run where that goes on to it, or else in a run of its own
abbrev pub IsAdded : List Arc → Arc → List Arc → Type 0
IsAdded old next new = IsApart old next new ⊎ IsLonger old next new
