use Rattle.std.proofs.Common.{◌≡◌, true, false, arith}
use Rattle.std.proofs.lemmas.Option.{slice_get_within}
use Rattle.kept_elements.specs.Depths.{IsDeepAt}
use Rattle.kept_elements.proofs.TooDeep.{none_more, not_deep_at}
use Rattle.kept_elements.proofs.depth.elements_are_deep.Goals as goal

pub loop-k-preserved : goal.loop-k-preserved
loop-k-preserved c =
    none_more (IsDeepAt c.args.graph.now c.args.forms.now.pool c.args.forms.now.forms.items c.args.kept.now) c.loop-k.k c.loop-k.invariant
    (not_deep_at c.args.graph.now c.args.forms.now.pool c.args.forms.now.forms.items c.args.kept.now c.loop-k.k _ (λ d. let q : false ≡ true = c.if-element_is_deep.ensures.others d in cc))

pub returns-clause-others : goal.returns-clause-others
returns-clause-others c = λ k n e d. absurd (c.loop-k.invariant.none k (let l = slice_get_within c.args.kept.now k n e in omega (arith, c.loop-k-test.false)) (n, e, d))
