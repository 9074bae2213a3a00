use Rattle.kept_elements.specs.Numbering.{AreReferred}
use Rattle.kept_elements.proofs.kept.referred.Given as goal

abbrev pub invariant-loop-id : goal.invariant-loop-id
invariant-loop-id l = AreReferred l.graph l.forms.pool l.forms.forms.items l.marks l.id l.elements.items
