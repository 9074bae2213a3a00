use Rattle.std.proofs.Common.{◌≡◌, ap, Err}
use Rattle.skeleton.specs.declared.document.SkeletonFault.TheVariants.{NotSkeleton}
use Rattle.skeleton.proofs.document.Skeleton.from_events.Goals as goal

pub returns-in-Ok-clause-not_skeleton : goal.returns-in-Ok-clause-not_skeleton
returns-in-Ok-clause-not_skeleton c = λ event. (λ e. absurd (cc), λ no. absurd ((c.in-Ok.ensures.refused event).1 no))

pub returns-in-Err-clause-not_skeleton : goal.returns-in-Err-clause-not_skeleton
returns-in-Err-clause-not_skeleton c = λ event. (
  λ e. let same : c.in-Err.refused.event ≡ event = cc in (c.in-Err.ensures.refused event).0 same,
  λ no. ap (λ k. Err (NotSkeleton k)) ((c.in-Err.ensures.refused event).1 no),
)
