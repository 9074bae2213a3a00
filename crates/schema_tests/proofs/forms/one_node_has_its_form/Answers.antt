use Rattle.std.proofs.Common.{refl}
use Rattle.schema_graph.specs.declared.node.Node.{Node}
use Rattle.schema_tests.proofs.Examples.{closed, members}
use Rattle.schema_tests.proofs.forms.one_node_has_its_form.Goals as goal

pub is_empty-requires-clause-closed : goal.is_empty-requires-clause-closed
is_empty-requires-clause-closed g c =
    closed _ Node.Empty c.in_ok-vec.ensures.items c.in_ok-vec-2.ensures.items c.new.ensures.items refl refl (λ d e. absurd (cc)) (λ k j d e. cc)

pub is_empty-requires-clause-members : goal.is_empty-requires-clause-members
is_empty-requires-clause-members g c = members _ Node.Empty c.in_ok-vec.ensures.items tt
