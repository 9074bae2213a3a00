use Rattle.simple_form_laws.proofs.OneForm.{schema-same}
use Rattle.simple_form_laws.proofs.one_schema.Goals as goal

pub returns : goal.returns
returns c = schema-same
