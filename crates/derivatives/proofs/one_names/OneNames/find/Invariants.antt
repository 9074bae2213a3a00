-- Those of the first definitions are found.
use Rattle.std.proofs.Common.{◌≡◌, length}
use Rattle.derivatives.specs.OneNames.{AreOne}
use Rattle.derivatives.proofs.one_names.OneNames.find.Given as goal

abbrev pub invariant-loop-definition : goal.invariant-loop-definition
invariant-loop-definition l = record {
  count : length l.self-inside.positions.items ≡ l.definition;
  right : AreOne l.schema l.universe.elements.names l.self-inside.positions.items;
}
