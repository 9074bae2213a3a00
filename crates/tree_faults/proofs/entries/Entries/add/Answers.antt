use Rattle.tree_faults.proofs.EntryLists.{holds_more}
use Rattle.tree_faults.proofs.entries.Entries.add.Goals as goal

pub returns : goal.returns
returns c = λ es p h.
    holds_more c.args.self.now c.note.new.self _ _ c.args.at c.is_mixed-is_mixed.result c.is_twice-is_twice.result c.place_if.result c.place_if-2.result c.lesser-self.result c.lesser-self-2.result
    c.is_mixed-is_mixed.ensures c.is_twice-is_twice.ensures c.in_ok-note.ensures.keys c.in_ok-note.ensures.mixed c.in_ok-note.ensures.twice c.place_if.ensures c.place_if-2.ensures c.lesser-self.ensures c.lesser-self-2.ensures es p h
