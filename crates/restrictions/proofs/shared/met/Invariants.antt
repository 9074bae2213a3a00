-- The contents before the next.
use Rattle.restrictions.specs.Shared.{AreMet}
use Rattle.restrictions.proofs.shared.met.Given as goal

abbrev pub invariant-loop-element : goal.invariant-loop-element
invariant-loop-element l = AreMet l.schema.schema l.sought l.names l.element l.met
