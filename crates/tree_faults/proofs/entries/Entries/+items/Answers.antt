use Rattle.std.proofs.Common.{arith}
use Rattle.schema_tree.specs.Trees.{item_of}
use Rattle.tree_faults.proofs.EntryLists.{item_read}
use Rattle.tree_faults.proofs.entries.Entries.+items.Goals as goal

pub add_items-loop-item-preserved : goal.add_items-loop-item-preserved
add_items-loop-item-preserved t c =
    item_read item_of c.args.items.now c.loop-item.item-index c.item-item.result (omega arith) c.item-item.is c.args.self.now c.loop-item.self c.add_item.new.self c.loop-item.invariant c.in_ok-add_item.ensures
