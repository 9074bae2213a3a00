use Rattle.std.proofs.Common.{◌<◌, ◌≤◌, ◌∙◌, sym, ap, subst, chars, string_bytes, length}
use Rattle.token_laws.specs.Tokens.{segment}
use Rattle.token_laws.specs.Lexing.{ReadsSegment, closed, literal_too_long}
use Rattle.rnc_lexer.specs.Views.{joined_of}
use Rattle.rnc_lexer.specs.Steps.{place, FailsSegment, StopsAt, LeadsToken, size_with}
use Rattle.rnc_lexer.proofs.Refusals.{passed_as, faulty_token, long_token, literal_token, size_same}
use Rattle.rnc_lexer.proofs.lexer.Lexer.literal.Goals as goal

pub returns-in_err-text-clause-refused : goal.returns-in_err-text-clause-refused
returns-in_err-text-clause-refused c =
    passed_as c.from_residual.result c.in_err-text.field-0.0 (FailsSegment c.args.self.now.end c.args.self.now.rest.now) (StopsAt c.args.self.now.end (joined_of c.args.joined) c.args.self.now.rest.now)
    (faulty_token c.args.self.now.end (joined_of c.args.joined) c.args.self.now.rest.now c.requires.starts) c.from_residual.ensures.1 c.in_err-text.ensures.refused

pub returns-then-size_with-gt-LITERAL_LIMIT-clause-refused :
    goal.returns-then-size_with-gt-LITERAL_LIMIT-clause-refused
returns-then-size_with-gt-LITERAL_LIMIT-clause-refused c =
    let end = c.args.self.now.end in
    let before = c.args.self.now.rest.now in
    let after = c.segment.new.self.rest.now in
    let j = joined_of c.args.joined in
    let s = string_bytes c.in_ok-text.text in
    let r = subst (λ z. ReadsSegment (place end before) (chars before) s (closed (place z after) (chars after))) c.in_ok-text.ensures.end c.in_ok-text.ensures.text in
    let l : 4096 < size_with j (length s) = subst (λ z. 4096 < z) (c.size_with.ensures ∙ ap (λ t. size_with j (length t)) c.as_str.ensures.value) c.if-size_with-gt-LITERAL_LIMIT.true in
    subst (λ z. StopsAt end j before literal_too_long z) (sym c.place-at.ensures) (long_token end j before after s c.requires.starts r (subst (λ z. 4096 < z) (size_same j s) l))

pub returns-clause-leads : goal.returns-clause-leads
returns-clause-leads c =
    let end = c.args.self.now.end in
    let before = c.args.self.now.rest.now in
    let after = c.segment.new.self.rest.now in
    let j = joined_of c.args.joined in
    let s = string_bytes c.in_ok-text.text in
    let r = subst (λ z. ReadsSegment (place end before) (chars before) s (closed (place z after) (chars after))) c.in_ok-text.ensures.end c.in_ok-text.ensures.text in
    let l : size_with j (length s) ≤ 4096 = subst (λ z. z ≤ 4096) (c.size_with.ensures ∙ ap (λ t. size_with j (length t)) c.as_str.ensures.value) c.if-size_with-gt-LITERAL_LIMIT.false in
    subst (λ z. LeadsToken end j before (segment z) after) (sym c.from_string.ensures) (literal_token end j before after s c.requires.starts r (subst (λ z. z ≤ 4096) (size_same j s) l))
