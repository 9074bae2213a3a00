use Rattle.std.proofs.Common.{subst}
use Rattle.event_lines.specs.Coded.{Counts, lists_of}
use Rattle.event_lines.proofs.Coding.{chars_line, attr_line}
use Rattle.event_lines.proofs.counted.Measure.add_code.Goals as goal

pub returns-in-Attr : goal.returns-in-Attr
returns-in-Attr c =
    subst (λ z. Counts c.args.self.now c.add_attribute_line.new.self z)
    (attr_line (lists_of c.args.universe.now c.args.atoms.now) c.attributes.result.now c.args.code c.in-Attr.name c.in-Attr.text c.get-in-Attr.result.now c.get-in-Attr-2.result.now c.in-Attr.is c.attributes.ensures.list c.get-in-Attr.ensures c.get-in-Attr-2.ensures)
    c.add_attribute_line.ensures

pub returns-in-Chars : goal.returns-in-Chars
returns-in-Chars c =
    subst (λ z. Counts c.args.self.now c.add_text_line.new.self z)
    (chars_line (lists_of c.args.universe.now c.args.atoms.now) c.args.code c.in-Chars.text c.get-in-Chars.result.now c.in-Chars.is c.get-in-Chars.ensures)
    c.add_text_line.ensures
