use Rattle.tree_faults.proofs.LaterFaults.{loop_first, depth_first, value_first, no_fault}
use Rattle.tree_faults.proofs.laws.later_faults.Goals as goal

pub returns-clause-loops : goal.returns-clause-loops
returns-clause-loops c = loop_first

pub returns-clause-depth : goal.returns-clause-depth
returns-clause-depth c = depth_first

pub returns-clause-value : goal.returns-clause-value
returns-clause-value c = value_first

pub returns-clause-none : goal.returns-clause-none
returns-clause-none c = no_fault
