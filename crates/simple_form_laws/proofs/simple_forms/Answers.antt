use Rattle.simple_form_laws.proofs.FormExamples.{combined-simple, parent-simple}
use Rattle.simple_form_laws.proofs.SimpleExample.{accepted}
use Rattle.simple_form_laws.proofs.simple_forms.Goals as goal

pub returns-clause-mixed : goal.returns-clause-mixed
returns-clause-mixed c = accepted

pub returns-clause-combined : goal.returns-clause-combined
returns-clause-combined c = combined-simple

pub returns-clause-parent : goal.returns-clause-parent
returns-clause-parent c = parent-simple
