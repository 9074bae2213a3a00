use Rattle.line_laws.proofs.OrderLaw.{lesser_size, lesser_event}
use Rattle.line_laws.proofs.skeletons_are_ordered.Goals as goal

pub returns-clause-by_size : goal.returns-clause-by_size
returns-clause-by_size c = lesser_size

pub returns-clause-by_event : goal.returns-clause-by_event
returns-clause-by_event c = lesser_event
