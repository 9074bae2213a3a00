use Rattle.rng_model.specs.Classes.{namespace}
use Rattle.name_classes.proofs.class.NameClass.namespace.Goals as goal

pub returns : goal.returns
returns c = c.of_parts.ensures (namespace c.args.ns) c.in_ok-vec.ensures.items
