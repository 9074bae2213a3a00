use Rattle.std.proofs.Common.{refl, sym}
use Rattle.schema_graph.specs.declared.node.Node.{Node}
use Rattle.schema_tests.proofs.Examples.{closed, members}
use Rattle.std.proofs.lemmas.Option.{same_Some}
use Rattle.schema_tests.proofs.forms.a_reference_to_itself_is_a_loop.Goals as goal

pub fault_of-requires-clause-closed : goal.fault_of-requires-clause-closed
fault_of-requires-clause-closed g c =
    closed _ (Node.Reference 8 0) c.in_ok-vec.ensures.items c.in_ok-vec-2.ensures.items c.new.ensures.items refl refl (λ d e. sym (same_Some 0 d e)) (λ k j d e. cc)

pub fault_of-requires-clause-members : goal.fault_of-requires-clause-members
fault_of-requires-clause-members g c = members _ (Node.Reference 8 0) c.in_ok-vec.ensures.items tt
