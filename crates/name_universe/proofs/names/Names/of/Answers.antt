-- The map's entries are the names and their origins.
use Rattle.std.proofs.Common.{List, sym, subst}
use Rattle.rng_model.specs.Names.{Name}
use Rattle.rng_model.specs.Universe.{IsElementClass, IsAttributeClass}
use Rattle.name_universe.specs.declared.origin.Origin.{Origin}
use Rattle.name_universe.specs.Tables.{NameTable, IsTable, IsTableOf}
use Rattle.name_universe.proofs.Tables.{is_table, is_table_of, filled, empty_map, with_parts}
use Rattle.name_universe.proofs.names.Names.of.Goals as goal

pub invariant_of-result : goal.invariant_of-result
invariant_of-result c =
    let put = filled c.args.fresh c.args.mentioned.keys c.args.spaces.keys c.in_ok-space.space _ _ _ _ (empty_map c.new-map.result c.new-map.ensures.empty) c.in_ok-put_fresh.ensures c.in_ok-firsts.ensures.puts c.in_ok-put_mentioned.ensures in
    with_parts IsTable _ _ _ _ _ _ c.in_ok-names.ensures.names c.in_ok-names.ensures.origins
    (is_table c.args.fresh c.requires.some c.args.mentioned.keys c.args.spaces.keys c.in_ok-space.space c.put_mentioned.new.names c.in_ok-names.ensures.ordered put c.in_ok-firsts.firsts.items c.in_ok-firsts.ensures.spaces
    c.in_ok-firsts.ensures.firsts c.in_ok-foreign.foreign c.in_ok-foreign.ensures.space c.in_ok-foreign.ensures.first c.in_ok-firsts.ensures.ordered)

pub returns-clause-elements : goal.returns-clause-elements
returns-clause-elements c g are =
    let put = filled c.args.fresh c.args.mentioned.keys c.args.spaces.keys c.in_ok-space.space _ _ _ _ (empty_map c.new-map.result c.new-map.ensures.empty) c.in_ok-put_fresh.ensures c.in_ok-firsts.ensures.puts c.in_ok-put_mentioned.ensures in
    with_parts (IsTableOf (IsElementClass g) c.args.fresh) _ _ _ _ _ _ c.in_ok-names.ensures.names c.in_ok-names.ensures.origins
    (is_table_of c.args.fresh c.requires.some c.args.mentioned.keys c.args.spaces.keys c.in_ok-space.space c.put_mentioned.new.names c.in_ok-names.ensures.ordered put c.in_ok-firsts.firsts.items c.in_ok-firsts.ensures.spaces
    c.in_ok-firsts.ensures.firsts c.in_ok-foreign.foreign c.in_ok-foreign.ensures.space c.in_ok-foreign.ensures.first (IsElementClass g) are c.in_ok-space.ensures)

pub returns-clause-attributes : goal.returns-clause-attributes
returns-clause-attributes c g are =
    let put = filled c.args.fresh c.args.mentioned.keys c.args.spaces.keys c.in_ok-space.space _ _ _ _ (empty_map c.new-map.result c.new-map.ensures.empty) c.in_ok-put_fresh.ensures c.in_ok-firsts.ensures.puts c.in_ok-put_mentioned.ensures in
    with_parts (IsTableOf (IsAttributeClass g) c.args.fresh) _ _ _ _ _ _ c.in_ok-names.ensures.names c.in_ok-names.ensures.origins
    (is_table_of c.args.fresh c.requires.some c.args.mentioned.keys c.args.spaces.keys c.in_ok-space.space c.put_mentioned.new.names c.in_ok-names.ensures.ordered put c.in_ok-firsts.firsts.items c.in_ok-firsts.ensures.spaces
    c.in_ok-firsts.ensures.firsts c.in_ok-foreign.foreign c.in_ok-foreign.ensures.space c.in_ok-foreign.ensures.first (IsAttributeClass g) are c.in_ok-space.ensures)
