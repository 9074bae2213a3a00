-- Which faults bytes have: this project's own.
use Rattle.std.specs.Prelude.{ℕ, zero, suc, ⊤, Bool, true, false, ◌&&◌, if◌then◌else◌, List, [], ◌∷◌, Option, Some, None}
use Rattle.rng_model.specs.Texts.{Text}
use Rattle.rng_model.specs.Events.{Event, Opening, Attr, Body, Chars, Closing}
use Rattle.line_laws.specs.LineRefusals as law
use Rattle.line_laws.specs.LineRefusals.{LineRefusal}
use Rattle.line_reader.specs.declared.reading.LineFault.{LineFault}
use Rattle.line_reader.specs.declared.reading.LineFault.TheVariants.{BadLine, Unfinished, Trailing, NotOrdered, OutOfMemory}

-- want of memory is free
abbrev pub IsRefused : Text → LineFault → Type 0
IsRefused bytes (BadLine line) = LineRefusal bytes (law.BadLine line)
IsRefused bytes Unfinished = LineRefusal bytes law.Unfinished
IsRefused bytes (Trailing line) = LineRefusal bytes (law.Trailing line)
IsRefused bytes (NotOrdered line) = LineRefusal bytes (law.NotOrdered line)
IsRefused bytes OutOfMemory = ⊤

abbrev pub refusal_of : LineFault → Option law.LineFault
refusal_of (BadLine line) = Some (law.BadLine line)
refusal_of Unfinished = Some law.Unfinished
refusal_of (Trailing line) = Some (law.Trailing line)
refusal_of (NotOrdered line) = Some (law.NotOrdered line)
refusal_of OutOfMemory = None

abbrev pub is_attribute : Event → Bool
is_attribute (Opening n) = false
is_attribute (Attr n t) = true
is_attribute Body = false
is_attribute (Chars t) = false
is_attribute Closing = false

abbrev pub attribute_fault : Bool → ℕ → law.LineFault
attribute_fault behind k = if behind then law.NotOrdered k else law.BadLine k

-- The fault of the event at a position, where the first one stands on the line k. The test says whether an attribute stands
-- before the first.
abbrev pub stray_fault : Bool → List Event → ℕ → ℕ → law.LineFault
stray_fault b [] j k = law.BadLine k
stray_fault b (e ∷ es) zero k = attribute_fault (b && is_attribute e) k
stray_fault b (e ∷ es) (suc j) k = stray_fault (is_attribute e) es j (suc k)
