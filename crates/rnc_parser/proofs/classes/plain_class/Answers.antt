use Rattle.std.proofs.Common.{sym, subst}
use Rattle.grammar_laws.specs.Grammar.{ReadsBareClass}
use Rattle.rnc_parser.specs.Reading.{parsed}
use Rattle.rnc_parser.proofs.Steps.{begin, took, missing, passed_on}
use Rattle.rnc_parser.proofs.Shapes as shape
use Rattle.schema_tree.proofs.Folds as fold
use Rattle.rnc_parser.proofs.classes.plain_class.Goals as goal

pub returns-in_err-local-clause-parsed : goal.returns-in_err-local-clause-parsed
returns-in_err-local-clause-parsed c =
    passed_on c.from_residual.result c.from_residual.ensures.1 (missing _ begin c.in_err-local.ensures)

pub returns-clause-parsed : goal.returns-clause-parsed
returns-clause-parsed c =
    parsed
    (subst (ReadsBareClass c.args.tokens.now c.name.new.self) (sym (fold.class_plain c.in_ok-local.local c.in_ok-local.at)) (shape.plain_class_read c.in_ok-local.ensures))
    (took begin c.in_ok-local.ensures)
