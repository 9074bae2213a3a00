use Rattle.name_classes.specs.Views.{class_of}
use Rattle.kept_elements.proofs.Levels.{whole}
use Rattle.kept_elements.proofs.depth.is_deeper.Goals as goal

pub returns-clause-deeper : goal.returns-clause-deeper
returns-clause-deeper c = (whole c.args.levels (class_of c.args.class.now) c.parts.result.now c.behind_class.result c.is_none.result c.parts.ensures c.behind_class.ensures c.is_none.ensures).0

pub returns-clause-others : goal.returns-clause-others
returns-clause-others c = (whole c.args.levels (class_of c.args.class.now) c.parts.result.now c.behind_class.result c.is_none.result c.parts.ensures c.behind_class.ensures c.is_none.ensures).1
