use Rattle.std.proofs.Common.{None, sym, subst}
use Rattle.grammar_laws.specs.Grammar.{ReadsBare, ReadsBareClass, ReadsClass, ReadsPattern, ReadsParticle, ReadsPrimary, ReadsItem, ReadsItems, ReadsInner, ReadsUri, ReadsParameters, ReadsBraces, ReadsInherit}
use Rattle.grammar_laws.specs.Grammar as by
use Rattle.rnc_parser.specs.Reading.{parsed}
use Rattle.rnc_parser.proofs.Steps.{begin, read, inside, passed_on, made}
use Rattle.schema_tree.proofs.Folds as fold
use Rattle.grammar_laws.specs.Grammar.{ReadsLiteral}
use Rattle.rnc_parser.proofs.patterns.value.Goals as goal

pub returns-in_err-literal-clause-parsed : goal.returns-in_err-literal-clause-parsed
returns-in_err-literal-clause-parsed c =
    passed_on c.from_residual.result c.from_residual.ensures.1 (inside begin c.in_err-literal.ensures.parsed)

pub returns-clause-parsed : goal.returns-clause-parsed
returns-clause-parsed c =
    parsed
    (subst (ReadsBare c.args.tokens.now c.literal.new.tokens) (sym (fold.pattern_value None c.in_ok-literal.literal)) (by.ReadsBare.literal (made c.in_ok-literal.ensures.parsed)))
    (read begin c.in_ok-literal.ensures.parsed)
