-- How bytes begin: this project's own.
use Rattle.std.specs.Prelude.{◌≡◌, ℕ, false, ◌==◌, [], ◌∷◌, ◌++◌, flat_map}
use Rattle.std.specs.List.{AllByRecursion}
use Rattle.rng_model.specs.Texts as texts
use Rattle.rng_model.specs.Names.{Name}
use Rattle.rng_model.specs.Events.{Event, Opening, Attr, Body, Chars, Closing}
use Rattle.rng_model.specs.Lines.{text_escape, namespace_escape, name_spelling, event_line}
use Rattle.line_laws.specs.EventLists.{IsEvent}
use Rattle.line_reader.specs.declared.escapes.Escapes.{Escapes}
use Rattle.line_reader.specs.declared.escapes.Escapes.TheVariants.{Text, Namespace}

abbrev pub IsOther : ℕ → ℕ → Type 0
IsOther end c = (c == end) ≡ false

-- the byte stands nowhere
abbrev pub HasNo : ℕ → texts.Text → Type 0
HasNo end bytes = AllByRecursion (IsOther end) bytes

abbrev pub spelling : Escapes → ℕ → texts.Text
spelling Text c = text_escape c
spelling Namespace c = namespace_escape c

-- the bytes begin with the spelling of no byte
abbrev pub StopsAt : Escapes → texts.Text → Type 0
StopsAt escapes bytes = (c : ℕ) (x : texts.Text) → spelling escapes c ++ x ≡ bytes → ⊥

-- a name and a text
abbrev pub attribute_body : Name → texts.Text → texts.Text
attribute_body n t = name_spelling n ++ 32 ∷ flat_map text_escape t

-- the line of an event without its line feed
abbrev pub event_body : Event → texts.Text
event_body (Opening n) = 40 ∷ name_spelling n
event_body (Attr n t) = 65 ∷ attribute_body n t
event_body Body = 62 ∷ []
event_body (Chars t) = 45 ∷ flat_map text_escape t
event_body Closing = 41 ∷ []

-- the bytes begin with the line of no event
abbrev pub BeginsNoLine : texts.Text → Type 0
BeginsNoLine bytes = (e : Event) (x : texts.Text) → IsEvent e → event_line e ++ x ≡ bytes → ⊥
