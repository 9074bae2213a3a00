-- Lines, and parts of lines, that are spelled once for many documents: this project's own.
use Rattle.std.specs.Prelude.{◌≡◌, ◌<◌, ⊤, List, [], ◌++◌, codes, drop, flat_map, get_or, length, map}
use Rattle.rng_model.specs.Texts.{Text}
use Rattle.rng_model.specs.Universe.{Lists}
use Rattle.rng_model.specs.Codes.{Code, Opening, Attr, Body, Chars, Closing}
use Rattle.skeleton.specs.declared.code.Code as coded
use Rattle.skeleton.specs.Views.{code_of}
use Rattle.event_lines.specs.Parts.{name_line, text_line, attribute_front}
use Rattle.event_lines.specs.Coded.{AreInRange}
use Rattle.event_lines.specs.declared.spellings.Spellings.{Spellings}

-- the spellings are those of the lists: the line of each element name's opening, the front of each attribute name's line, and the line of each text
pub record AreSpellings (u : Lists) (s : Spellings) : Type 0 where
  pub openings : s.openings ≡ map (name_line 40) u.elements
  pub fronts : s.fronts ≡ map attribute_front u.attributes
  pub texts : s.texts ≡ map (text_line 45) u.atoms

-- the codes are in range of lists whose spellings these are
pub record AreSpelled (s : Spellings) (cs : List coded.Code) : Type 0 where
  pub lists : Lists
  pub spelled : AreSpellings lists s
  pub in_range : AreInRange lists cs

-- each of a code's positions has its spelling
abbrev pub HasSpelling : Spellings → Code → Type 0
HasSpelling s (Opening i) = i < length s.openings
HasSpelling s (Attr j t) = (j < length s.fronts) × (t < length s.texts)
HasSpelling s Body = ⊤
HasSpelling s (Chars t) = t < length s.texts
HasSpelling s Closing = ⊤

-- the line of a code; an attribute's text is spelled as the line of a text behind its first byte
abbrev pub line_at : Spellings → Code → Text
line_at s (Opening i) = get_or s.openings i []
line_at s (Attr j t) = get_or s.fronts j [] ++ drop 1 (get_or s.texts t [])
line_at s Body = codes ">\n"
line_at s (Chars t) = get_or s.texts t []
line_at s Closing = codes ")\n"

abbrev pub spelled_line : Spellings → coded.Code → Text
spelled_line s c = line_at s (code_of c)

-- the lines of codes, and an empty line
abbrev pub spelled_lines : Spellings → List coded.Code → Text
spelled_lines s cs = flat_map (spelled_line s) cs ++ codes "\n"
