use Rattle.simple_form_laws.proofs.OneForm.{refusal-same}
use Rattle.simple_form_laws.proofs.one_refusal.Goals as goal

pub returns : goal.returns
returns c = refusal-same
