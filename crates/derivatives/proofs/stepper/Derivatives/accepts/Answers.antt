use Rattle.std.proofs.Common.{◌∙◌, ap, subst}
use Rattle.std.specs.List.Sorted.{IsStrictlySortedBy}
use Rattle.rng_model.specs.Names.{name_cmp}
use Rattle.rng_model.specs.Matching.{nullable}
use Rattle.pattern_intern.specs.Stored.{Stored, tree_at}
use Rattle.derivatives.specs.Views.{Machine, lists}
use Rattle.derivatives.proofs.Accepting.{decides}
use Rattle.derivatives.proofs.stepper.Derivatives.accepts.Goals as goal

pub returns-clause-law : goal.returns-clause-law
returns-clause-law c =
    decides c.acceptance_is_matching.ensures.lists c.args.self.now c.args.state c.nullable.result
    (subst (λ (d : Machine). IsStrictlySortedBy name_cmp (lists d).attributes) c.self.view_is c.attributes-names.ensures.ascending)
    (c.nullable.ensures ∙ ap (λ (p : Stored). nullable (tree_at p c.args.state.pattern.0)) c.pool.ensures ∙ ap (λ (d : Machine). nullable (tree_at d.numbered.pool c.args.state.pattern.0)) c.self.view_is)
