use Rattle.std.proofs.Common.{◌-◌, false, get_or, refl, arith}
use Rattle.std.proofs.lemmas.List.{get_or_default}
use Rattle.tree_graph.specs.declared.entry.Entry.{Entry}
use Rattle.tree_graph.proofs.Gathered.{gathered}
use Rattle.tree_graph.proofs.combining.grouped.Goals as goal

pub loop-entry-preserved : goal.loop-entry-preserved
loop-entry-preserved c =
    let none : Entry = record { definition = 0; interleaves = false; node = 0 } in
    let e : Entry = get_or c.args.entries.now c.loop-entry.entry-index none in
    gathered c.args.first c.args.count c.loop-entry.entry-index (e.definition - c.args.first) c.args.entries.now c.loop-entry.groups.items e c.index_mut.result.now c.add.new.self (omega arith)
    (get_or_default c.args.entries.now c.loop-entry.entry-index none e (omega arith)) refl c.loop-entry.invariant.0 c.requires c.index_mut.ensures.value c.in_ok-add.ensures c.loop-entry.invariant.1
