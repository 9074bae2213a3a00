use Rattle.token_laws.specs.Lexing.{bad_utf8, bad_character, open_literal, bad_escape, escape_refused, literal_too_long, name_too_long}
use Rattle.list_command.proofs.Refusing.{refuses_at}
use Rattle.list_command.proofs.schema_faults.no_tokens.Goals as goal

pub returns-in-BadUtf8 : goal.returns-in-BadUtf8
returns-in-BadUtf8 c = λ bytes short refusal. refuses_at bad_utf8 c.in-BadUtf8.at bytes short (rw c.in-BadUtf8.is at refusal)

pub returns-in-BadCharacter : goal.returns-in-BadCharacter
returns-in-BadCharacter c = λ bytes short refusal. refuses_at bad_character c.in-BadCharacter.at bytes short (rw c.in-BadCharacter.is at refusal)

pub returns-in-OpenLiteral : goal.returns-in-OpenLiteral
returns-in-OpenLiteral c = λ bytes short refusal. refuses_at open_literal c.in-OpenLiteral.at bytes short (rw c.in-OpenLiteral.is at refusal)

pub returns-in-BadEscape : goal.returns-in-BadEscape
returns-in-BadEscape c = λ bytes short refusal. refuses_at bad_escape c.in-BadEscape.at bytes short (rw c.in-BadEscape.is at refusal)

pub returns-in-EscapeRefused : goal.returns-in-EscapeRefused
returns-in-EscapeRefused c = λ bytes short refusal. refuses_at escape_refused c.in-EscapeRefused.at bytes short (rw c.in-EscapeRefused.is at refusal)

pub returns-in-LiteralTooLong : goal.returns-in-LiteralTooLong
returns-in-LiteralTooLong c = λ bytes short refusal. refuses_at literal_too_long c.in-LiteralTooLong.at bytes short (rw c.in-LiteralTooLong.is at refusal)

pub returns-in-NameTooLong : goal.returns-in-NameTooLong
returns-in-NameTooLong c = λ bytes short refusal. refuses_at name_too_long c.in-NameTooLong.at bytes short (rw c.in-NameTooLong.is at refusal)
