-- The definitions so far are in the pool.
use Rattle.pattern_intern.specs.Schemas.{AreWithin}
use Rattle.test_schemas.proofs.define.Given as goal

abbrev pub invariant-loop-name : goal.invariant-loop-name
invariant-loop-name l = AreWithin l.pool l.definitions
