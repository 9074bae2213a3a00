use Rattle.std.proofs.Common.{rules}
use Rattle.pattern_intern.proofs.Absent.{new_node, taken_out}
use Rattle.pattern_intern.proofs.intern.intern_node.Goals as goal

pub returns-in-Ok-clause-made : goal.returns-in-Ok-clause-made
returns-in-Ok-clause-made c =
    new_node _ _ _ _ c.args.node c.args.fact c.in_ok-id.field-0.0 (search rules)
    c.in_ok-id.ensures.keys c.in_ok-id.ensures.index (search rules)

pub returns-in-Err-clause-nodes_kept : goal.returns-in-Err-clause-nodes_kept
returns-in-Err-clause-nodes_kept c =
    taken_out _ _ _ c.args.node c.in_ok-id.field-0.0 (search rules)
    c.in_ok-id.ensures.keys c.in_ok-id.ensures.index c.truncate.ensures.keys
