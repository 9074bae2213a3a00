use Rattle.feasibility.specs.Tables.{lists_of}
use Rattle.feasibility.proofs.starting.are_listable.Goals as goal

pub returns : goal.returns
returns c = record {
  unbroken = c.requires.sound;
  simple = c.holds.ensures.form;
  ascend = c.codes_compare_as_events.ensures.universe _ c.requires.own.0 c.requires.own.1 (lists_of c.args.universe.now c.args.atoms.now) c.requires.own.2;
  alphabet = record {
    elements = c.elements-elements.ensures.are_names;
    attributes = c.attributes-attributes.ensures.are_names;
    ascending = c.attributes-attributes.ensures.ascending;
    atoms = c.are_texts.ensures;
  };
}
