use Rattle.feasibility.proofs.Adding.{ok_from_err}
use Rattle.feasibility.proofs.Keeping.{right_none}
use Rattle.feasibility.proofs.table.begin.Goals as goal

pub begin-requires : goal.begin-requires
begin-requires c = c.requires.states

pub mark-requires-clause-grown : goal.mark-requires-clause-grown
mark-requires-clause-grown c = c.in_ok-begin.ensures.grown

pub mark-requires-clause-right : goal.mark-requires-clause-right
mark-requires-clause-right c = right_none c.begin.new.self.explorer c.args.marks.now c.requires.marks

pub returns-clause-filled : goal.returns-clause-filled
returns-clause-filled c = c.in_ok-mark.ensures.filled

pub returns-clause-begun : goal.returns-clause-begun
returns-clause-begun c = c.in_ok-begin.ensures.begun

pub returns-in_err-begin-clause-filled : goal.returns-in_err-begin-clause-filled
returns-in_err-begin-clause-filled c = ok_from_err c.from_residual.result _ c.from_residual.ensures.0

pub returns-in_err-begin-clause-begun : goal.returns-in_err-begin-clause-begun
returns-in_err-begin-clause-begun c = ok_from_err c.from_residual.result _ c.from_residual.ensures.0

pub returns-in_err-mark-clause-filled : goal.returns-in_err-mark-clause-filled
returns-in_err-mark-clause-filled c = ok_from_err c.from_residual-in_err-mark.result _ c.from_residual-in_err-mark.ensures.0

pub returns-in_err-mark-clause-begun : goal.returns-in_err-mark-clause-begun
returns-in_err-mark-clause-begun c = ok_from_err c.from_residual-in_err-mark.result _ c.from_residual-in_err-mark.ensures.0
