-- A skeleton that is stored as its events.
use Rattle.std.proofs.Common.{◌≡◌, List, ap, sym, subst, ◌∙◌}
use Rattle.rng_model.specs.Hedges.{IsSkeleton}
use Rattle.rng_model.specs.Events.{Event, events}
use Rattle.rng_model.specs.CodedSkeletons.{skeleton_of, skeleton_of-events}
use Rattle.line_laws.specs.EventLists.{AreEvents}

pub events_of_stored : (es : List Event) → AreEvents es → events (skeleton_of es) ≡ es
events_of_stored es are = ap (λ xs. events (skeleton_of xs)) (sym are.2) ∙ ap events (skeleton_of-events are.0) ∙ are.2

pub stored_is_skeleton : (es : List Event) → AreEvents es → IsSkeleton (skeleton_of es)
stored_is_skeleton es are = subst IsSkeleton (sym (ap skeleton_of (sym are.2) ∙ skeleton_of-events are.0)) are.1
