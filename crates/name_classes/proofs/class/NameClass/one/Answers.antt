use Rattle.rng_model.specs.Classes.{one}
use Rattle.name_classes.proofs.class.NameClass.one.Goals as goal

pub returns : goal.returns
returns c = c.of_parts.ensures (one c.args.name) c.in_ok-vec.ensures.items
