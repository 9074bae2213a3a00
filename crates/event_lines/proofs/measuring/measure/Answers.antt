use Rattle.std.proofs.Common.{refl}
use Rattle.event_lines.specs.Coded.{lists_of, lines_of_codes}
use Rattle.event_lines.proofs.Coding.{codes_are}
use Rattle.event_lines.proofs.Counting.{measured}
use Rattle.event_lines.proofs.measuring.measure.Goals as goal

pub returns : goal.returns
returns c = λ es are.
    measured _ c.add_codes.new.self (lines_of_codes (lists_of c.args.universe.now c.args.atoms.now) c.args.codes.now) _ refl refl
    (codes_are (lists_of c.args.universe.now c.args.atoms.now) es c.args.codes.now are) c.add_codes.ensures
