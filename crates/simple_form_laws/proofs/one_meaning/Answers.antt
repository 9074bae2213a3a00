use Rattle.simple_form_laws.proofs.OneMeaning.{means-same}
use Rattle.simple_form_laws.proofs.one_meaning.Goals as goal

pub returns : goal.returns
returns c fs s p q r = means-same fs
