use Rattle.simple_form_laws.proofs.Wellformed.{start_no_after, content_no_after, start_defined, content_defined}
use Rattle.simple_form_laws.proofs.Normality.{start_normal, content_normal}
use Rattle.simple_form_laws.proofs.what_a_form_has.Goals as goal

pub returns-clause-simple_form : goal.returns-clause-simple_form
returns-clause-simple_form c = λ f g h. record { start = start_no_after f g h; contents = content_no_after f g h }

pub returns-clause-start_refs : goal.returns-clause-start_refs
returns-clause-start_refs c = start_defined

pub returns-clause-content_refs : goal.returns-clause-content_refs
returns-clause-content_refs c = content_defined

pub returns-clause-start_choices : goal.returns-clause-start_choices
returns-clause-start_choices c = start_normal

pub returns-clause-content_choices : goal.returns-clause-content_choices
returns-clause-content_choices c = content_normal
