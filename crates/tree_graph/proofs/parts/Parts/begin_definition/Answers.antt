use Rattle.std.proofs.Common.{◌≡◌, ◌+◌, [], ◌∷◌, length, ap, ◌∙◌, arith, length-append}
use Rattle.tree_graph.proofs.Within.{definitions_more}
use Rattle.tree_graph.proofs.parts.Parts.begin_definition.Goals as goal

pub invariant_of-self-2 : goal.invariant_of-self-2
invariant_of-self-2 c =
    let longer : length c.push.new.self.items ≡ length c.self.inside.definitions.items + 1 = ap length c.in_ok-push.ensures.items ∙ length-append c.self.inside.definitions.items (0 ∷ []) in
    definitions_more c.self.inside.nodes.items (length c.self.inside.definitions.items) (length c.push.new.self.items) c.self.inside.tokens (omega (arith, longer)) c.self.invariant

pub invariant_of-self : goal.invariant_of-self
invariant_of-self c = rw c.in_err-push.ensures.items c.self.invariant
