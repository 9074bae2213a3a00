-- The table is that of the samples.
use Rattle.std.proofs.Common.{refl}
use Rattle.text_atoms.proofs.RuleTexts.{samples_from}
use Rattle.text_atoms.proofs.rules.samples.Goals as goal

pub returns : goal.returns
returns c = samples_from c.args.literals.now _ _ c.in_ok-texts.ensures refl
