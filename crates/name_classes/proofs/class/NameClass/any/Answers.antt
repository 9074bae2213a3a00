use Rattle.rng_model.specs.Classes.{any}
use Rattle.name_classes.proofs.class.NameClass.any.Goals as goal

pub returns : goal.returns
returns c = c.of_parts.ensures any c.in_ok-vec.ensures.items
