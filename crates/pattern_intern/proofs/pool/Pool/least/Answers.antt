use Rattle.std.proofs.Common.{sym}
use Rattle.pattern_intern.proofs.Least.{least_less, least_equal, least_greater}
use Rattle.pattern_intern.proofs.pool.Pool.least.Goals as goal

pub returns-in-Less-clause-least : goal.returns-in-Less-clause-least
returns-in-Less-clause-least c = let s = c.in-Some-Some in least_less _ _ _ _ _ _ _ s.ensures.ordered s.ensures'.ordered s.ensures.rest s.ensures'.rest s.ensures.list s.ensures'.list c.requires.left c.requires.right s.ensures.first s.ensures.others s.ensures'.first s.ensures'.others (sym c.in-Less.ensures)

pub returns-in-Equal-clause-least : goal.returns-in-Equal-clause-least
returns-in-Equal-clause-least c = let s = c.in-Some-Some in least_equal _ _ _ _ _ _ _ s.ensures.ordered s.ensures'.ordered s.ensures.rest s.ensures'.rest s.ensures.list s.ensures'.list c.requires.left c.requires.right s.ensures.first s.ensures.others s.ensures'.first s.ensures'.others (sym c.in-Equal.ensures)

pub returns-in-Greater-clause-least : goal.returns-in-Greater-clause-least
returns-in-Greater-clause-least c = let s = c.in-Some-Some in least_greater _ _ _ _ _ _ _ s.ensures.ordered s.ensures'.ordered s.ensures.rest s.ensures'.rest s.ensures.list s.ensures'.list c.requires.left c.requires.right s.ensures.first s.ensures.others s.ensures'.first s.ensures'.others (sym c.in-Greater.ensures)
