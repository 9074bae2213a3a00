-- The groups stay numbered, and the count is that of the groups.
use Rattle.std.proofs.Common.{arith}
use Rattle.text_atoms.proofs.Numbering.{count_bound, push_same, push_next}
use Rattle.text_atoms.proofs.groups.Groups.push.Goals as goal

pub overflow_add-self : goal.overflow_add-self
overflow_add-self c = omega (arith, count_bound 0 _ c.self.invariant.0, c.self.invariant.1)

pub invariant_of-self-then-group-self : goal.invariant_of-self-then-group-self
invariant_of-self-then-group-self c =
    push_next _ _ _ c.args.group c.in_ok-push.ensures.items c.self.invariant.0 c.self.invariant.1 (rw (← c.self.view_is) at c.requires) c.if-group-self.true

pub invariant_of-self-else-group-self : goal.invariant_of-self-else-group-self
invariant_of-self-else-group-self c =
    push_same _ _ _ c.args.group c.in_ok-push.ensures.items c.self.invariant.0 c.self.invariant.1 (rw (← c.self.view_is) at c.requires) c.if-group-self.false
