use Rattle.std.proofs.Common.{rules}
use Rattle.text_atoms.proofs.Words.{joined-cons}
use Rattle.text_atoms.proofs.white_space.normal.Goals as goal

pub loop-word-init : goal.loop-word-init
loop-word-init c = (search rules, rw (c.in-Some.ensures, c.in_ok-push_str.ensures.bytes, c.in_ok-form.ensures.bytes) (joined-cons c.in-Some.word.now _))
