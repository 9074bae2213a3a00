-- The patterns before the next may stand in the schema.
use Rattle.std.proofs.Common.{ℕ, ◌<◌}
use Rattle.test_schemas.proofs.Simple.{IsSimple}
use Rattle.test_schemas.proofs.are_simple.Given as goal

abbrev pub invariant-loop-id : goal.invariant-loop-id
invariant-loop-id l = (i : ℕ) → i < l.id → IsSimple l.elements l.pool i
