use Rattle.std.proofs.Common.{◌≡◌, ℕ, List, flat_map}
use Rattle.std.specs.Prelude.{IsUtf8}
use Rattle.rng_model.specs.Names.{Name, IsName}
use Rattle.rng_model.specs.Lines.{name_spelling, text_escape}
use Rattle.line_reader.proofs.Options.{at_none}
use Rattle.line_reader.proofs.Bodies.{no_attribute, attribute_parts}
use Rattle.line_reader.proofs.events.read_attribute.Goals as goal

pub returns-in_default : goal.returns-in_default
returns-in_default c = no_attribute c.args.bytes.now c.in_default.ensures

pub returns-in_default-2 : goal.returns-in_default-2
returns-in_default-2 c =
    let none = at_none c.in_ok-name.field-0 ((n : Name) → IsName n → name_spelling n ≡ c.in-Some.name.now → ⊥) (λ n. name_spelling n ≡ c.in-Some.name.now) c.in_ok-name.ensures c.in_default-2.is in
    attribute_parts c.args.bytes.now c.in-Some.name.now c.in-Some.text.now c.in-Some.ensures.0 c.in-Some.ensures.1 (λ n t is utf8 e f. none n is e)

pub returns-in-None : goal.returns-in-None
returns-in-None c =
    let none = at_none c.in_ok-text.field-0 ((t : List ℕ) → IsUtf8 t → flat_map text_escape t ≡ c.in-Some.text.now → ⊥) (λ t. flat_map text_escape t ≡ c.in-Some.text.now) c.in_ok-text.ensures c.in-None.is in
    attribute_parts c.args.bytes.now c.in-Some.name.now c.in-Some.text.now c.in-Some.ensures.0 c.in-Some.ensures.1 (λ n t is utf8 e f. none t utf8 f)
