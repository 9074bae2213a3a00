use Rattle.std.specs.Prelude.{codes}
use Rattle.rng_model.specs.Lines.{name_spelling}
use Rattle.event_lines.proofs.Sending.{on_err, fails_first, fails_second, ok_third, err_third}
use Rattle.event_lines.proofs.lines.put_attribute_front.Goals as goal

pub returns-in_err-put-clause-err : goal.returns-in_err-put-clause-err
returns-in_err-put-clause-err g c =
    on_err c.from_residual.result (fails_first (codes "A") (name_spelling c.args.name.now) (codes " ") c.in_err-put.ensures.err)

pub returns-in_err-put_name-clause-err : goal.returns-in_err-put_name-clause-err
returns-in_err-put_name-clause-err g c =
    on_err c.from_residual-in_err-put_name.result (fails_second (codes "A") (name_spelling c.args.name.now) (codes " ") c.in_ok-put.ensures.ok c.in_err-put_name.ensures.err)

pub returns-clause-ok : goal.returns-clause-ok
returns-clause-ok g c = ok_third _ c.put_line.result (codes "A") (name_spelling c.args.name.now) (codes " ") c.in_ok-put.ensures.ok c.in_ok-put_name.ensures.ok c.put_line.ensures.ok

pub returns-clause-err : goal.returns-clause-err
returns-clause-err g c = err_third _ c.put_line.result (codes "A") (name_spelling c.args.name.now) (codes " ") c.in_ok-put.ensures.ok c.in_ok-put_name.ensures.ok c.put_line.ensures.err
