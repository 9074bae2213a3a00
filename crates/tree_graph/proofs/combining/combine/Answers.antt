use Rattle.std.proofs.Common.{◌≡◌, ◌+◌, ◌∙◌, suc, ◌∷◌, [], length, ap, arith, length-append}
use Rattle.tree_graph.specs.Combined.{combined, entries_at}
use Rattle.tree_graph.proofs.Lists.{begins_length}
use Rattle.tree_graph.proofs.Gathered.{groups_rest, group_last, node_of_group, combined_within, none_defined, one_defined}
use Rattle.tree_graph.proofs.combining.combine.Goals as goal

pub push-requires : goal.push-requires
push-requires c =
    let rest = c.pop.new.self.items in
    let longer : length c.loop-group.groups.items ≡ length rest + 1 = ap length c.in-Some.ensures.items ∙ length-append rest (c.in-Some.group ∷ []) in
    let few = c.loop-group.invariant.few in
    let is : c.into_node.result ≡ combined (entries_at (c.base-first.result + length rest) c.args.entries.now) =
    c.into_node.ensures ∙ node_of_group _ c.in-Some.group (group_last c.base-first.result c.args.entries.now c.loop-group.groups.items rest c.in-Some.group c.in-Some.ensures.items c.loop-group.invariant.groups) in
    let more = begins_length c.args.parts.now.nodes c.loop-group.parts.nodes c.loop-group.invariant.defined.nodes in
    let entries = rw (← c.base-first.ensures.number) at c.requires.entries in
    rw is (combined_within c.base-first.result (suc (length c.args.table.now.names)) (length c.args.parts.now.nodes) (length c.loop-group.parts.nodes) (length rest) (length c.loop-group.parts.definitions) c.loop-group.parts.tokens
    c.args.entries.now entries (omega (arith, longer, few)) more)

pub loop-group-init : goal.loop-group-init
loop-group-init c =
    let counted = c.in_ok-groups.ensures.counted in let many = c.len.ensures.count in
    record {
      few = omega (arith, counted, many);
      groups = c.in_ok-groups.ensures.groups;
      defined = none_defined (length c.in_ok-groups.groups.items) c.base-first.result (suc (length c.args.table.now.names)) c.args.entries.now c.args.parts.now (omega (arith, counted, many));
    }

pub loop-group-preserved : goal.loop-group-preserved
loop-group-preserved c =
    let rest = c.pop.new.self.items in
    let longer : length c.loop-group.groups.items ≡ length rest + 1 = ap length c.in-Some.ensures.items ∙ length-append rest (c.in-Some.group ∷ []) in
    let few = c.loop-group.invariant.few in
    let is : c.into_node.result ≡ combined (entries_at (c.base-first.result + length rest) c.args.entries.now) =
    c.into_node.ensures ∙ node_of_group _ c.in-Some.group (group_last c.base-first.result c.args.entries.now c.loop-group.groups.items rest c.in-Some.group c.in-Some.ensures.items c.loop-group.invariant.groups) in
    record {
      few = omega (arith, longer, few);
      groups = groups_rest c.base-first.result c.args.entries.now c.loop-group.groups.items rest c.in-Some.group c.in-Some.ensures.items c.loop-group.invariant.groups;
      defined =
          let base = c.base-first.ensures.number in let enough = c.requires.definitions in let counted = c.loop-group.invariant.defined.counted in
          let d = one_defined (length c.loop-group.groups.items) (length rest) c.base-first.result (suc (length c.args.table.now.names)) c.args.entries.now c.args.parts.now c.loop-group.parts c.into_node.result
          (omega (arith, longer)) (omega (arith, longer, few)) (omega (arith, longer, few, base, enough, counted)) is c.loop-group.invariant.defined in
          let same : c.len-in-Some.result ≡ length rest = c.len-in-Some.ensures ∙ c.pop.new.self.ok.0 in
          rw (c.set_definition.ensures, c.in_ok-node.ensures.added, c.in_ok-node.ensures.number, same) d;
    }
