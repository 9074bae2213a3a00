use Rattle.grammar_laws.specs.Faults.{syntax_error, too_deep}
use Rattle.list_command.proofs.Refusing.{refuses_tree}
use Rattle.list_command.proofs.schema_faults.no_tree.Goals as goal

pub returns-in-Syntax : goal.returns-in-Syntax
returns-in-Syntax c = λ bytes tokens short lexed refusal. refuses_tree syntax_error c.in-Syntax.at bytes tokens short lexed (rw c.in-Syntax.is at refusal)

pub returns-in-TooDeep : goal.returns-in-TooDeep
returns-in-TooDeep c = λ bytes tokens short lexed refusal. refuses_tree too_deep c.in-TooDeep.at bytes tokens short lexed (rw c.in-TooDeep.is at refusal)
