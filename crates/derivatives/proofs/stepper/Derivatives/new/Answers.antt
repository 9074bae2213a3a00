use Rattle.derivatives.proofs.Keeping.{none_bare, none_right}
use Rattle.derivatives.proofs.OneNames.{none_one}
use Rattle.derivatives.proofs.stepper.Derivatives.new.Goals as goal

pub invariant_of-result : goal.invariant_of-result
invariant_of-result c = (none_right _ _ _ c.new-3.ensures, c.new-2.ensures _, c.new-4.ensures _, none_bare _ _ _ c.new-6.ensures, none_one _ _ _ c.new-5.ensures)
