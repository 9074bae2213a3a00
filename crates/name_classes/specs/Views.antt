-- What a name class stands for.
use Rattle.rng_model.specs.Classes.{Class}
use Rattle.name_classes.specs.declared.class.NameClass.{NameClass}

abbrev pub class_of : NameClass → Class
class_of c = c.parts
