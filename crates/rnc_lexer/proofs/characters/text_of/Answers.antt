use Rattle.std.proofs.Common.{sym, subst, IsUtf8}
use Rattle.std.specs.Str.{IsValidUpTo}
use Rattle.token_laws.specs.Lexing.{LexRefusal, bad_character}
use Rattle.token_laws.specs.Lexing as by
use Rattle.rnc_lexer.proofs.characters.text_of.Goals as goal

pub returns-in-Err-clause-refused : goal.returns-in-Err-clause-refused
returns-in-Err-clause-refused c = by.LexRefusal.utf8 (subst (IsValidUpTo c.args.bytes.now) (sym c.valid_up_to.ensures) c.in-Err.ensures.cases.1)

pub returns-in-Some-clause-refused : goal.returns-in-Some-clause-refused
returns-in-Some-clause-refused c =
    let r = c.in-Some.ensures in
    let u = c.in-Ok.ensures.cases.1 in
    subst (λ z. LexRefusal z bad_character c.in-Some.at) c.in-Ok.ensures.cases.0 (by.LexRefusal.character (subst (λ z. IsUtf8 z) (sym c.in-Ok.ensures.cases.0) u) r.3 r.4)
