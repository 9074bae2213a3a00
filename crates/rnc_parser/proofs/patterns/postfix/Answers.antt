use Rattle.std.proofs.Common.{refl, ◌∙◌}
use Rattle.schema_tree.specs.Trees.{pattern_of}
use Rattle.rnc_parser.proofs.Steps.{begin, past, at_last}
use Rattle.rnc_parser.proofs.Shapes as shape
use Rattle.rnc_parser.proofs.Chains as chain
use Rattle.rnc_parser.proofs.Chains.{moved}
use Rattle.rnc_parser.proofs.patterns.postfix.Goals as goal

pub returns-then-eat-clause-parsed : goal.returns-then-eat-clause-parsed
returns-then-eat-clause-parsed c =
    moved refl (at_last (past begin c.if-eat.ensures.1 refl) (λ v r. shape.behind_sign c.if-eat.ensures r) c.optional.ensures.parsed)

pub returns-then-eat-2-clause-parsed : goal.returns-then-eat-2-clause-parsed
returns-then-eat-2-clause-parsed c =
    moved c.if-eat.ensures.0 (at_last (past begin c.if-eat-2.ensures.1 refl) (λ v r. shape.behind_sign c.if-eat-2.ensures r) c.zero_or_more.ensures.parsed)

pub returns-then-eat-3-clause-parsed : goal.returns-then-eat-3-clause-parsed
returns-then-eat-3-clause-parsed c =
    moved (c.if-eat-2.ensures.0 ∙ c.if-eat.ensures.0) (at_last (past begin c.if-eat-3.ensures.1 refl) (λ v r. shape.behind_sign c.if-eat-3.ensures r) c.one_or_more.ensures.parsed)

pub returns-clause-parsed : goal.returns-clause-parsed
returns-clause-parsed c =
    chain.no_repetition pattern_of c.if-eat.ensures c.if-eat-2.ensures c.if-eat-3.ensures
