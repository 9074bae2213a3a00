use Rattle.std.proofs.Common.{[], sym, ◌∙◌, append-nil}
use Rattle.name_classes.specs.Parts.{parts_of}
use Rattle.name_classes.specs.Views.{class_of}
use Rattle.name_classes.proofs.class.NameClass.takes.Goals as goal

pub returns : goal.returns
returns c = (c.take_class.ensures.first (class_of c.args.self.now) [] (c.parts.ensures ∙ sym (append-nil (parts_of (class_of c.args.self.now))))).0
