use Rattle.pattern_intern.proofs.Classes.{within_noted, class_noted}
use Rattle.pattern_intern.proofs.attributes.note_class.Goals as goal

pub returns-in_ok-push-clause-within : goal.returns-in_ok-push-clause-within
returns-in_ok-push-clause-within c = within_noted c.args.pool.now c.args.classes.now.items c.push.new.self.items c.in-Attribute.class c.in_ok-push.ensures.items (rw c.in-Attribute.is at c.requires).0

pub returns-in_ok-push-clause-each : goal.returns-in_ok-push-clause-each
returns-in_ok-push-clause-each c = class_noted c.args.pool.now c.args.classes.now.items c.push.new.self.items c.in-Attribute.class c.in-Attribute.field-1 c.args.node c.in-Attribute.is c.in_ok-push.ensures.items
