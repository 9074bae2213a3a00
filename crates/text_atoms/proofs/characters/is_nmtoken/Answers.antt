use Rattle.std.proofs.Common.{arith}
use Rattle.std.proofs.lemmas.Bool.Decides.{nat_tests}
use Rattle.text_atoms.proofs.CharacterLemmas.{token_chars, no_token_chars}
use Rattle.text_atoms.proofs.characters.is_nmtoken.Goals as goal

pub returns-then-not-is_empty : goal.returns-then-not-is_empty
returns-then-not-is_empty c = rw c.are_token_chars.ensures (token_chars c.args.text.now c.utf8.text (grind (arith, nat_tests)))

pub returns-else-not-is_empty : goal.returns-else-not-is_empty
returns-else-not-is_empty c = rw c.if-not-is_empty.false (no_token_chars c.args.text.now (grind (arith, nat_tests)))
