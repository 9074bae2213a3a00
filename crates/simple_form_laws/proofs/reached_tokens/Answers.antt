use Rattle.simple_form_laws.proofs.Tokens.{reached_token}
use Rattle.simple_form_laws.proofs.reached_tokens.Goals as goal

pub returns : goal.returns
returns c = reached_token
