use Rattle.std.proofs.Common.{ap, ◌∙◌}
use Rattle.std.specs.Ordering.{nat_cmp, ordering_then}
use Rattle.std.specs.Cmp.Lexicographic.{slice_cmp}
use Rattle.rng_model.specs.Events.{event_cmp, events}
use Rattle.skeleton.proofs.Comparing.{by_events}
use Rattle.skeleton.proofs.document.Skeleton.compare.Goals as goal

pub returns-in-Equal : goal.returns-in-Equal
returns-in-Equal c =
    c.cmp-in-Equal.ensures
    ∙ by_events c.events.result.now c.events-in-Equal.result.now
    ∙ (λ i. slice_cmp event_cmp (c.events.ensures.events i) (c.events-in-Equal.ensures.events i))
    ∙ ap (λ o. ordering_then o (slice_cmp event_cmp (events c.args.self.now) (events c.args.other.now))) (c.in-Equal.ensures ∙ (λ i. nat_cmp (c.size.ensures i) (c.size-2.ensures i)))
