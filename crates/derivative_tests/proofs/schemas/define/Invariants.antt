-- The definitions so far are in the pool.
use Rattle.pattern_intern.specs.Schemas.{AreWithin}
use Rattle.derivative_tests.proofs.schemas.define.Given as goal

abbrev pub invariant-loop-name : goal.invariant-loop-name
invariant-loop-name l = AreWithin l.pool l.definitions
