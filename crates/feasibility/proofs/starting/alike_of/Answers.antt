use Rattle.feasibility.proofs.starting.alike_of.Goals as goal

pub returns : goal.returns
returns c = record {
  literals = c.in_ok-literals.literals;
  are_literals = c.in_ok-literals.ensures;
  elements = c.in_ok-elements.ensures;
  attributes = c.in_ok-attributes.ensures;
  atoms = c.in_ok-texts.ensures;
}
