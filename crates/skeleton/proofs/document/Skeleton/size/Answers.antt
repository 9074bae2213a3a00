use Rattle.std.proofs.Common.{ap, sym, ◌∙◌}
use Rattle.rng_model.specs.Hedges.{size}
use Rattle.rng_model.specs.CodedSkeletons.{skeleton_of}
use Rattle.line_laws.specs.Nodes.{node_count}
use Rattle.skeleton.proofs.Counting.{nodes_counted}
use Rattle.skeleton.proofs.Stored.{events_of_stored}
use Rattle.skeleton.proofs.document.Skeleton.size.Goals as goal

pub returns : goal.returns
returns c =
    c.count_nodes.ensures
    ∙ nodes_counted c.as_slice.result.now
    ∙ ap node_count (c.as_slice.ensures.events ∙ sym (events_of_stored _ c.self.invariant))
    ∙ c.size_is_counted.ensures (skeleton_of c.self.inside.events)
    ∙ ap size c.self.view_is
