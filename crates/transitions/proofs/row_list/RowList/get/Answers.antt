use Rattle.std.proofs.Common.{sym, ap, ◌∙◌, arith, Some}
use Rattle.std.proofs.lemmas.List.{get_or_read}
use Rattle.transitions.specs.RowLists.{arcs_in, start_at}
use Rattle.transitions.proofs.Ending.{below_ends, end_within, in_turn, row_is}
use Rattle.transitions.proofs.row_list.RowList.get.Goals as goal

pub start_of-start-requires : goal.start_of-start-requires
start_of-start-requires c =
    let below = below_ends c.self.inside.arcs.items 0 c.self.inside.ends.items c.args.id c.args.self.now c.self.view_is c.requires in
    omega (arith, below, c.deref.ensures.len, c.self.inside.ends.ok.0)

pub index-requires : goal.index-requires
index-requires c =
    let below = below_ends c.self.inside.arcs.items 0 c.self.inside.ends.items c.args.id c.args.self.now c.self.view_is c.requires in
    omega (arith, below, c.self.inside.ends.ok.0)

pub part-requires-clause-turn : goal.part-requires-clause-turn
part-requires-clause-turn c =
    let below = below_ends c.self.inside.arcs.items 0 c.self.inside.ends.items c.args.id c.args.self.now c.self.view_is c.requires in
    let turn = in_turn c.self.inside.arcs.items 0 c.self.inside.ends.items c.args.id c.self.invariant below in
    let start = c.start_of-start.ensures ∙ ap (λ ends. start_at 0 ends c.args.id) c.deref.ensures.value in
    let end = get_or_read c.self.inside.ends.items c.args.id c.index.result.now below c.index.ensures 0 in
    omega (arith, turn, start, end)

pub part-requires-clause-within : goal.part-requires-clause-within
part-requires-clause-within c =
    let below = below_ends c.self.inside.arcs.items 0 c.self.inside.ends.items c.args.id c.args.self.now c.self.view_is c.requires in
    let within = end_within c.self.inside.arcs.items 0 c.self.inside.ends.items c.args.id c.self.invariant below in
    let end = get_or_read c.self.inside.ends.items c.args.id c.index.result.now below c.index.ensures 0 in
    omega (arith, within, end, c.deref-2.ensures.len, c.self.inside.arcs.ok.0)

pub returns : goal.returns
returns c =
    let below = below_ends c.self.inside.arcs.items 0 c.self.inside.ends.items c.args.id c.args.self.now c.self.view_is c.requires in
    let start = c.start_of-start.ensures ∙ ap (λ ends. start_at 0 ends c.args.id) c.deref.ensures.value in
    let end = get_or_read c.self.inside.ends.items c.args.id c.index.result.now below c.index.ensures 0 in
    rw (← c.self.view_is, c.part.ensures, c.deref-2.ensures.value, start)
    (row_is c.self.inside.arcs.items 0 c.self.inside.ends.items c.args.id below
    ∙ ap (λ n. Some (arcs_in c.self.inside.arcs.items (start_at 0 c.self.inside.ends.items c.args.id) n)) (sym end))
