use Rattle.tree_faults.proofs.EntryLists.{has_holds_left}
use Rattle.tree_faults.proofs.entries.Entries.has.Goals as goal

pub returns : goal.returns
returns c = λ es h. has_holds_left c.args.self.now _ c.has_method.result c.has_method-2.result c.has_method-3.result c.has_method.ensures c.has_method-2.ensures c.has_method-3.ensures es h
