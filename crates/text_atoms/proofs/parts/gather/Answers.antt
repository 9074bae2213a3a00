-- Each literal adds its part.
use Rattle.text_atoms.proofs.Sets.{part_more, part_all}
use Rattle.text_atoms.proofs.parts.gather.Goals as goal

pub loop-member-preserved : goal.loop-member-preserved
loop-member-preserved c =
    part_more c.args.part c.args.members.now c.loop-member.member-index c.member-item.result c.loop-member-test.true c.member-item.is _ _ _ c.loop-member.invariant c.in_ok-add_part.ensures

pub returns : goal.returns
returns c = part_all c.args.part c.args.members.now c.loop-member.member-index c.loop-member-test.false _ _ c.loop-member.invariant
