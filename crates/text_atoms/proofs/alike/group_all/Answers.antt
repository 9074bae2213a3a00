-- The next text is in the group of its signature.
use Rattle.std.proofs.Common.{arith}
use Rattle.text_atoms.specs.Origins.{texts_of}
use Rattle.text_atoms.proofs.Finding.{length-texts}
use Rattle.text_atoms.proofs.Grouping.{nothing_seen, group_known, one_more, all_grouped}
use Rattle.text_atoms.proofs.alike.group_all.Goals as goal

pub loop-position-init : goal.loop-position-init
loop-position-init c = λ l are. nothing_seen l c.args.all.now _ _ c.requires.ungrouped c.requires.unseen

pub push-requires : goal.push-requires
push-requires c =
    let (l, are) = c.requires.values in
    group_known l c.args.all.now are (texts_of c.args.atoms.now) c.loop-position.position c.loop-position.groups c.loop-position.seen.keys _ c.in_ok-group.group _ c.get.ensures
    (c.loop-position.invariant l are) (rw c.as_str-text.ensures at c.in_ok-group.ensures)

pub loop-position-preserved : goal.loop-position-preserved
loop-position-preserved c = λ l are.
    one_more l c.args.all.now are (texts_of c.args.atoms.now) c.loop-position.position c.loop-position.groups c.loop-position.seen.keys _ c.in_ok-group.group _ c.get.ensures
    (c.loop-position.invariant l are) (rw c.as_str-text.ensures at c.in_ok-group.ensures) _ c.in_ok-push.ensures.ok

pub returns : goal.returns
returns c = λ l are.
    all_grouped l (texts_of c.args.atoms.now) c.loop-position.position c.loop-position.groups
    (omega (arith, length-texts c.args.atoms.now, c.len-position-end.ensures, c.loop-position-test.false)) (c.loop-position.invariant l are).groups
