-- Codes of events, by positions in the lists of a universe: this project's own.
use Rattle.std.specs.Prelude.{◌≡◌, ℕ, ◌+◌, ◌<◌, List, [], ◌∷◌, ⊤, length, slice_get, Some}
use Rattle.std.specs.declared.cmp.Ordering.{Ordering}
use Rattle.std.specs.Ordering.{nat_cmp, on}
use Rattle.std.specs.Cmp.Lexicographic.{slice_cmp}
use Rattle.rng_model.specs.Events.{Event}
use Rattle.rng_model.specs.Events as event
use Rattle.rng_model.specs.Universe.{Lists}

-- an event; a name is its position among the element or attribute names, a text its position among the atoms
pub data Code : Type 0 where
  Opening : ℕ → Code
  Attr : ℕ → ℕ → Code
  Body : Code
  Chars : ℕ → Code
  Closing : Code

-- the positions are in range
abbrev pub IsInRange : Lists → Code → Type 0
IsInRange u (Opening i) = i < length u.elements
IsInRange u (Attr j s) = (j < length u.attributes) × (s < length u.atoms)
IsInRange u Body = ⊤
IsInRange u (Chars s) = s < length u.atoms
IsInRange u Closing = ⊤

-- the nodes of a list of codes
abbrev pub nodes : List Code → ℕ
nodes [] = 0
nodes (Opening i ∷ cs) = nodes cs + 1
nodes (Attr j s ∷ cs) = nodes cs + 1
nodes (Body ∷ cs) = nodes cs
nodes (Chars s ∷ cs) = nodes cs + 1
nodes (Closing ∷ cs) = nodes cs

-- the code stands for the event
abbrev pub IsCode : Lists → Event → Code → Type 0
IsCode u (event.Opening n) (Opening i) = slice_get u.elements i ≡ Some n
IsCode u (event.Attr n t) (Attr j s) = (slice_get u.attributes j ≡ Some n) × (slice_get u.atoms s ≡ Some t)
IsCode u event.Body Body = ⊤
IsCode u (event.Chars t) (Chars s) = slice_get u.atoms s ≡ Some t
IsCode u event.Closing Closing = ⊤
IsCode u _ _ = ⊥

abbrev pub AreCodes : Lists → List Event → List Code → Type 0
AreCodes u [] [] = ⊤
AreCodes u (e ∷ es) (c ∷ cs) = IsCode u e c × AreCodes u es cs
AreCodes u _ _ = ⊥

-- The order of codes is that of these lists: the kinds as for events, then the positions.
abbrev pub code_key : Code → List ℕ
code_key Body = 1 ∷ []
code_key Closing = 2 ∷ []
code_key (Chars s) = 3 ∷ s ∷ []
code_key (Attr j s) = 4 ∷ j ∷ s ∷ []
code_key (Opening i) = 5 ∷ i ∷ []

abbrev pub code_cmp : Code → Code → Ordering
code_cmp = on code_key (slice_cmp nat_cmp)
