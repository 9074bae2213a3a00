-- Lines, part by part: this project's own.
use Rattle.std.specs.Prelude.{ℕ, List, [], ◌∷◌, ◌++◌, flat_map, codes}
use Rattle.rng_model.specs.Texts.{Text}
use Rattle.rng_model.specs.Names.{Name}
use Rattle.rng_model.specs.Lines.{text_escape, name_spelling, event_line}
use Rattle.rng_model.specs.Universe.{Lists}
use Rattle.skeleton.specs.declared.event.Event.{Event}
use Rattle.skeleton.specs.Views.{event_of}

-- a byte and a name
abbrev pub name_line : ℕ → Name → Text
name_line first n = (first ∷ []) ++ name_spelling n ++ codes "\n"

-- a byte and a text
abbrev pub text_line : ℕ → Text → Text
text_line first t = (first ∷ []) ++ flat_map text_escape t ++ codes "\n"

-- what stands before the text in an attribute's line
abbrev pub attribute_front : Name → Text
attribute_front n = codes "A" ++ name_spelling n ++ codes " "

-- an attribute's name and text
abbrev pub attribute_line : Name → Text → Text
attribute_line n t = (codes "A" ++ name_spelling n) ++ text_line 32 t

-- the lines of events, and an empty line
abbrev pub lines_of : List Event → Text
lines_of es = flat_map (λ e. event_line (event_of e)) es ++ codes "\n"

-- the lines of a universe and its atoms: `E` and an element name, `A` and an attribute name, `T` and a text, in their order
abbrev pub universe_text : Lists → Text
universe_text u = (flat_map (name_line 69) u.elements ++ flat_map (name_line 65) u.attributes) ++ flat_map (text_line 84) u.atoms
