use Rattle.std.proofs.Common.{rules, ◌<◌, ◌∙◌, length, get_or, arith, length-set}
use Rattle.tree_graph.proofs.Ranking.{position_within, numbers_more, all_numbers}
use Rattle.tree_graph.proofs.tokens.numbered.Goals as goal

pub index_mut-requires : goal.index_mut-requires
index_mut-requires c =
    let within : (get_or c.args.ranks.now c.loop-number.number (0, 0)).1 < length c.loop-number.numbers.items = position_within c.args.places.now c.args.ranks.now c.requires c.loop-number.number (length c.loop-number.numbers.items) c.loop-number.invariant.0 (omega arith) in
    search (rules, within)

pub loop-number-preserved : goal.loop-number-preserved
loop-number-preserved c = (
  length-set _ _ _ ∙ c.loop-number.invariant.0,
  numbers_more c.args.places.now c.args.ranks.now c.requires c.loop-number.number (_) c.loop-number.numbers.items (omega arith) (omega arith) c.loop-number.invariant.0 c.loop-number.invariant.1,
)

pub returns : goal.returns
returns c = all_numbers c.args.places.now c.args.ranks.now c.requires c.loop-number.numbers.items c.loop-number.number (omega arith) c.loop-number.invariant.0 c.loop-number.invariant.1
