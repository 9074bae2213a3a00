use Rattle.std.proofs.Common.{ap, ◌∙◌}
use Rattle.grammar_laws.specs.Grammar.{ReadsBare, ReadsBareClass, ReadsClass, ReadsPattern, ReadsParticle, ReadsPrimary, ReadsItem, ReadsItems, ReadsInner, ReadsUri, ReadsParameters, ReadsBraces, ReadsInherit}
use Rattle.grammar_laws.specs.Grammar as by
use Rattle.schema_tree.specs.Trees.{pattern_of}
use Rattle.rnc_parser.specs.Reading.{parsed, no_memory}
use Rattle.rnc_parser.proofs.Steps.{begin, read, inside, passed_on, made}
use Rattle.rnc_parser.proofs.Shapes as shape
use Rattle.schema_tree.proofs.Folds as fold
use Rattle.grammar_laws.specs.Grammar.{ReadsLiteral}
use Rattle.schema_tree.specs.declared.tree.Item.TheViews as view
use Rattle.rnc_parser.proofs.patterns.optional.Goals as goal

pub returns-in_err-follow-clause-parsed : goal.returns-in_err-follow-clause-parsed
returns-in_err-follow-clause-parsed c =
    passed_on c.from_residual-in_err-follow.result c.from_residual-in_err-follow.ensures.1 (inside begin c.in_err-follow.ensures.parsed)

pub returns-in_err-inner-clause-parsed : goal.returns-in_err-inner-clause-parsed
returns-in_err-inner-clause-parsed c =
    passed_on c.from_residual.result c.from_residual.ensures.1 no_memory

pub returns-clause-parsed : goal.returns-clause-parsed
returns-clause-parsed c =
    parsed
    (shape.postfix_read by.IsPostfix.optional (made c.in_ok-follow.ensures.parsed) (ap (λ z. pattern_of (view.Optional z)) c.in_ok-inner.ensures ∙ fold.pattern_optional c.args.first))
    (read begin c.in_ok-follow.ensures.parsed)
