-- Of one more than are taken, one is free.
use Rattle.std.proofs.Common.{subst, arith, below_more, Contains}
use Rattle.text_atoms.proofs.Sets.{held, not_held}
use Rattle.text_atoms.proofs.FreshTexts.{found_free, some_free}
use Rattle.text_atoms.proofs.fresh.first_free.Goals as goal

pub returns-then-not-contains : goal.returns-then-not-contains
returns-then-not-contains c =
    found_free c.args.taken.now.keys c.in_ok-text.text c.loop-number.number c.in_ok-text.ensures (not_held c.args.taken.now c.in_ok-text.text c.if-not-contains.ensures) c.loop-number.invariant

pub loop-number-preserved : goal.loop-number-preserved
loop-number-preserved c =
    below_more _ _ c.loop-number.invariant (subst (Contains c.args.taken.now.keys) c.in_ok-text.ensures (held c.args.taken.now c.in_ok-text.text c.if-not-contains.ensures))

pub unreachable-requires : goal.unreachable-requires
unreachable-requires c =
    some_free _ c.args.taken.now.keys c.loop-number.number (omega (arith, c.len-number-end.ensures.small, c.loop-number.auto.number-end)) (omega (arith, c.len-number-end.ensures.len, c.loop-number-test.false)) c.loop-number.invariant
