use Rattle.token_laws.proofs.Examples.{tokens_of_element}
use Rattle.token_laws.proofs.tokens_of_an_element.Goals as goal

pub returns : goal.returns
returns c = tokens_of_element
