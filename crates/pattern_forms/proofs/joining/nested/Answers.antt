use Rattle.std.proofs.Common.{arith}
use Rattle.pattern_forms.proofs.Nesting.{made_at, nested_more, some_length}
use Rattle.pattern_forms.specs.Making.{connective_of}
use Rattle.pattern_forms.proofs.joining.nested.Goals as goal

pub form-made-requires-clause-made : goal.form-made-requires-clause-made
form-made-requires-clause-made c = made_at c.args.forms.now c.args.members.now 0 0 c.requires.made (some_length c.args.members.now c.requires.many)

pub loop-k-preserved : goal.loop-k-preserved
loop-k-preserved c =
    nested_more (connective_of c.args.joint) c.args.forms.now c.args.members.now (some_length c.args.members.now c.requires.many) c.requires.made
    c.loop-k.k c.args.pool.now c.loop-k.pool c.join.new.pool c.loop-k.made.0 c.form-next.result.0 c.in_ok-made.made.0
    (omega arith) (omega arith) c.requires.within c.loop-k.invariant c.form-next.ensures.tree c.in_ok-made.ensures.within c.in_ok-made.ensures.made
    c.in_ok-made.ensures.kept c.in_ok-made.ensures.refs
