use Rattle.std.proofs.Common.{◌≡◌}
use Rattle.std.specs.Prelude.{replicate}
use Rattle.name_classes.specs.declared.part.Part.TheVariants.{Choice}
use Rattle.name_classes.proofs.class.choices_alone.Given as goal

-- the choices so far
abbrev pub invariant-loop : goal.invariant-loop
invariant-loop l = l.parts.items ≡ replicate l.counter Choice
