use Rattle.pattern_intern.proofs.Comparing.{same_yes, same_no}
use Rattle.pattern_intern.proofs.pool.Pool.same.Goals as goal

pub returns-clause-yes : goal.returns-clause-yes
returns-clause-yes c = same_yes c.args.self.now c.len-apart.ensures.apart c.args.a.0 c.args.b.0 c.requires.left c.requires.right

pub returns-clause-no : goal.returns-clause-no
returns-clause-no c = same_no c.args.self.now c.len-apart.ensures.apart c.args.a.0 c.args.b.0 c.requires.left c.requires.right
