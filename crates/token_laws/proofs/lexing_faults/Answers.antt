use Rattle.token_laws.proofs.Examples.{ill_formed_byte, stray_character, unclosed_literal, escape_beyond, quote_escape, escape_outside}
use Rattle.token_laws.proofs.lexing_faults.Goals as goal

pub returns-clause-byte : goal.returns-clause-byte
returns-clause-byte c = ill_formed_byte

pub returns-clause-character : goal.returns-clause-character
returns-clause-character c = stray_character

pub returns-clause-unclosed : goal.returns-clause-unclosed
returns-clause-unclosed c = unclosed_literal

pub returns-clause-beyond : goal.returns-clause-beyond
returns-clause-beyond c = escape_beyond

pub returns-clause-quote : goal.returns-clause-quote
returns-clause-quote c = quote_escape

pub returns-clause-outside : goal.returns-clause-outside
returns-clause-outside c = escape_outside
