use Rattle.std.proofs.Common.{sym, subst}
use Rattle.lister.specs.Phases.{IsFoundFirst}
use Rattle.lister.proofs.Starting.{start_grown, no_start}
use Rattle.lister.proofs.next.find_first.Goals as goal

pub returns-in_err-start-clause-first : goal.returns-in_err-start-clause-first
returns-in_err-start-clause-first g c =
    subst (λ found. IsFoundFirst c.args.table.now c.args.size found c.clear.new.self) (sym c.from_residual.ensures) (no_start c.args.table.now c.in_err-start.ensures.none c.args.size)

pub can_finish-requires-clause-grown : goal.can_finish-requires-clause-grown
can_finish-requires-clause-grown g c =
    start_grown c.args.table.now c.holds.ensures c.in_ok-start.start.0 c.args.size c.in_ok-start.ensures.some.0 c.in_ok-start.ensures.some.1 c.requires.grown
