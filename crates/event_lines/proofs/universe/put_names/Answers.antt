use Rattle.std.proofs.Common.{arith}
use Rattle.event_lines.specs.Parts.{name_line}
use Rattle.event_lines.proofs.Sending.{on_err}
use Rattle.event_lines.proofs.Listing.{fails_within}
use Rattle.event_lines.proofs.universe.put_names.Goals as goal

pub returns-in_err-put_name_line-clause-err : goal.returns-in_err-put_name_line-clause-err
returns-in_err-put_name_line-clause-err g c =
    on_err c.from_residual.result (fails_within (name_line c.args.first) c.loop-name.name-index c.args.names.now c.name-item.result (omega arith) c.name-item.is c.loop-name.invariant.0 c.in_err-put_name_line.ensures.err)
