use Rattle.kept_elements.proofs.Assembled.{forms_ready}
use Rattle.kept_elements.proofs.are_ready.Goals as goal

pub returns : goal.returns
returns c = forms_ready c.args.graph.now c.args.forms.now.pool c.args.forms.now.forms.items c.requires
