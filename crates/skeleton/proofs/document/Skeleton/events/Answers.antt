use Rattle.std.proofs.Common.{ap, sym, subst, ◌∙◌}
use Rattle.rng_model.specs.Hedges.{IsSkeleton}
use Rattle.rng_model.specs.Events.{events}
use Rattle.skeleton.proofs.Stored.{events_of_stored, stored_is_skeleton}
use Rattle.skeleton.proofs.document.Skeleton.events.Goals as goal

pub returns-clause-events : goal.returns-clause-events
returns-clause-events c = c.as_slice.ensures.events ∙ sym (events_of_stored _ c.self.invariant) ∙ ap events c.self.view_is

pub returns-clause-is_skeleton : goal.returns-clause-is_skeleton
returns-clause-is_skeleton c = subst IsSkeleton c.self.view_is (stored_is_skeleton _ c.self.invariant)
