-- One space more makes a longer text, and none that is taken is longer than the longest.
use Rattle.text_atoms.proofs.Sets.{held, not_held}
use Rattle.text_atoms.proofs.Spaces.{shorter, one_space, least}
use Rattle.text_atoms.proofs.parts.spaced.Goals as goal

pub spaces-smaller : goal.spaces-smaller
spaces-smaller c = shorter c.args.taken.now.keys c.spaces.text c.in_ok-text-2.text (held c.args.taken.now c.spaces.text c.spaces-test.ensures) c.in_ok-text-2.ensures

pub spaces-preserved : goal.spaces-preserved
spaces-preserved c =
    one_space c.args.taken.now.keys c.args.form.now c.spaces.text c.in_ok-text-2.text (held c.args.taken.now c.spaces.text c.spaces-test.ensures) c.in_ok-text-2.ensures c.spaces.invariant

pub returns : goal.returns
returns c = least c.args.taken.now.keys c.args.form.now c.spaces.text (not_held c.args.taken.now c.spaces.text c.spaces-test.ensures) c.spaces.invariant
