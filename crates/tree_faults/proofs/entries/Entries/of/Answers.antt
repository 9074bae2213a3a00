use Rattle.std.proofs.Common.{[]}
use Rattle.tree_faults.proofs.entries.Entries.of.Goals as goal

pub returns : goal.returns
returns c = c.in_ok-add_items.ensures [] c.new-made.ensures
