use Rattle.std.proofs.Common.{[], sym, ◌∙◌, append-nil}
use Rattle.name_classes.specs.Parts.{parts_of}
use Rattle.name_classes.specs.Views.{class_of}
use Rattle.restrictions.proofs.Windows.{set_by_parts}
use Rattle.restrictions.proofs.class_set.class_set.Goals as goal

pub returns : goal.returns
returns c =
    set_by_parts c.args.names.now (class_of c.args.class.now) _
    (c.take_class.ensures.first (class_of c.args.class.now) [] (c.parts.ensures ∙ sym (append-nil (parts_of (class_of c.args.class.now))))).0
