-- Each attribute's class is found, or stands below the numbers that are left.
use Rattle.std.proofs.Common.{◌≤◌}
use Rattle.pattern_intern.specs.Attributes.{IsClassSearch}
use Rattle.pattern_intern.specs.Schemas.{schema_of}
use Rattle.pattern_intern.specs.Stored.{count}
use Rattle.pattern_intern.proofs.schema.Schema.attribute_classes.Given as goal

abbrev pub invariant-loop-next : goal.invariant-loop-next
invariant-loop-next l =
    let s = l.self-inside in
    IsClassSearch (schema_of s.pool s.start.0 s.elements) s.pool l.reached.items l.classes.items l.next × (l.next ≤ count s.pool)

abbrev pub decreases-loop-next : goal.decreases-loop-next
decreases-loop-next l = l.next
