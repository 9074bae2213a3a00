use Rattle.std.specs.Prelude.{codes}
use Rattle.std.proofs.Common.{ap, ◌∙◌}
use Rattle.summary.specs.Summary.{number_line}
use Rattle.summary.proofs.Parts.{on_err}
use Rattle.summary.proofs.Sizes.{fails_sizes, fails_bytes, fails_sum, sends_lines}
use Rattle.summary.proofs.tally.Tally.send_lines.Goals as goal

pub returns-in_err-send_sizes-clause-err : goal.returns-in_err-send_sizes-clause-err
returns-in_err-send_sizes-clause-err g c = on_err c.from_residual.result (fails_sizes c.args.self.now c.in_err-send_sizes.ensures.err)

pub returns-in_err-send-clause-err : goal.returns-in_err-send-clause-err
returns-in_err-send-clause-err g c =
    on_err c.from_residual-in_err-send.result
    (fails_bytes c.args.self.now _ c.numbered.result.bytes c.self.view_is c.numbered.ensures c.in_ok-send_sizes.ensures.ok c.in_err-send.ensures.err)

pub returns-in_err-send-2-clause-err : goal.returns-in_err-send-2-clause-err
returns-in_err-send-2-clause-err g c =
    on_err c.from_residual-in_err-send-2.result
    (fails_sum c.args.self.now _ c.numbered.result.bytes c.numbered-2.result.bytes c.self.view_is c.numbered.ensures
    (c.numbered-2.ensures ∙ ap (λ z. number_line (codes "sum ") z) c.from.ensures) c.in_ok-send_sizes.ensures.ok c.in_ok-send.ensures.ok c.in_err-send-2.ensures.err)

pub returns-clause-ok : goal.returns-clause-ok
returns-clause-ok g c =
    sends_lines c.args.self.now _ c.numbered.result.bytes c.numbered-2.result.bytes c.self.view_is c.numbered.ensures
    (c.numbered-2.ensures ∙ ap (λ z. number_line (codes "sum ") z) c.from.ensures) c.in_ok-send_sizes.ensures.ok c.in_ok-send.ensures.ok c.in_ok-send-2.ensures.ok
