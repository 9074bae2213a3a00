use Rattle.std.proofs.Common.{IsUtf8, List, map, length, ap, rules}
use Rattle.token_laws.specs.Tokens.{Placed}
use Rattle.token_laws.specs.Lexing.{LexRefusal, Tokens, apart, fault}
use Rattle.rnc_lexer.specs.Steps.{ReadsRest}
use Rattle.rnc_lexer.proofs.Refusals.{passed_as}
use Rattle.rnc_lexer.proofs.Leads.{text_fault}
use Rattle.rnc_lexer.proofs.SoundTokens.{within_end, sound_all}
use Rattle.rnc_lexer.specs.Views.{placed_of}
use Rattle.rnc_lexer.proofs.lexer.lex.Goals as goal

pub returns-in_err-lexed-clause-refused : goal.returns-in_err-lexed-clause-refused
returns-in_err-lexed-clause-refused c =
    let u : IsUtf8 c.in_ok-text.text.now = search rules in
    passed_as c.from_residual-in_err-lexed.result c.in_err-lexed.field-0.0 (λ f p. (ts : List Placed) × ReadsRest c.new.result.end apart c.new.result.rest.now ts (fault f p)) (LexRefusal c.args.bytes.now)
    (λ f p h. text_fault c.args.bytes.now c.in_ok-text.text.now c.new.result.rest.now c.new.result.end f p c.in_ok-text.ensures.text u c.in_ok-text.ensures.allowed c.new.ensures.end c.new.ensures.rest h)
    c.from_residual-in_err-lexed.ensures.1 c.in_err-lexed.ensures.refused

pub new-requires-2-clause-sound : goal.new-requires-2-clause-sound
new-requires-2-clause-sound c =
    let lexed : Tokens c.args.bytes.now (map placed_of c.in_ok-lexed.lexed.items) = search rules in
    sound_all (length c.args.bytes.now) (map placed_of c.in_ok-lexed.lexed.items) (within_end (map placed_of c.in_ok-lexed.lexed.items) c.new.ensures.end (ap length c.in_ok-text.ensures.text) c.in_ok-lexed.ensures.within)
    (λ t a name has names. c.names_are_ncnames.ensures c.args.bytes.now (map placed_of c.in_ok-lexed.lexed.items) t a name lexed has names)
