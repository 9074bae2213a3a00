use Rattle.std.proofs.Common.{arith}
use Rattle.std.proofs.lemmas.Option.{slice_get-get_or}
use Rattle.pattern_intern.specs.Schemas.{definition_at}
use Rattle.restrictions.specs.NameSets.{IsSetOf}
use Rattle.restrictions.specs.Shared.{shared}
use Rattle.restrictions.specs.Truths.{within}
use Rattle.restrictions.proofs.Gathering.{met_more}
use Rattle.std.proofs.Common.{subst}
use Rattle.restrictions.proofs.shared.met.Goals as goal

pub loop-element-preserved : goal.loop-element-preserved
loop-element-preserved c =
    let l = c.loop-element-test.true in
    let k = c.element_count-element-end.ensures in
    met_more c.args.schema.now.schema c.args.sought c.args.names.now c.loop-element.element (definition_at c.args.schema.now c.loop-element.element) c.loop-element.met _ _
    (slice_get-get_or c.args.schema.now.schema.elements c.loop-element.element _ (omega (arith, l, k)))
    (subst (λ p. IsSetOf c.args.names.now (λ n. within (shared c.args.schema.now.schema c.args.sought n) p) c.met_at.result) c.element_content-content.ensures.tree c.met_at.ensures)
    c.union-met.ensures c.loop-element.invariant
