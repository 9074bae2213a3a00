use Rattle.std.proofs.Common.{◌≡◌, ◌∙◌, ◌++◌, true, false, sym, ap, subst, subst₂, length, chars, encode_utf8, IsUtf8, rules}
use Rattle.token_laws.specs.Lexing.{opens_escape}
use Rattle.rnc_lexer.specs.Steps.{FailsEscape, FailsInside, TakesEscape}
use Rattle.rnc_lexer.proofs.Refusals.{passed_as}
use Rattle.rnc_lexer.proofs.Quotes.{bad_inside, over_escape, open_end, over_character, open_line, over_line_end, line_small}
use Rattle.rnc_lexer.proofs.lexer.Lexer.inside.Goals as goal

pub returns-in_err-escape-clause-refused : goal.returns-in_err-escape-clause-refused
returns-in_err-escape-clause-refused c =
    let s = c.if-close.ensures.closes in
    let o = subst (λ z. opens_escape (chars z) ≡ true) s.0 (sym c.if-opens_escape.ensures) in
    passed_as c.from_residual.result c.in_err-escape.field-0.0 (FailsEscape c.close.new.self.end c.close.new.self.rest.now) (FailsInside c.args.self.now.end c.args.mark c.args.long c.args.start c.args.self.now.rest.now)
    (λ f p h. bad_inside c.args.self.now.end c.args.mark c.args.long c.args.self.now.rest.now s.1 f p c.args.start o (subst₂ (λ x y. FailsEscape x y f p) c.if-close.ensures.end s.0 h))
    c.from_residual.ensures.1 c.in_err-escape.ensures.refused

pub returns-then-opens_escape-clause-takes : goal.returns-then-opens_escape-clause-takes
returns-then-opens_escape-clause-takes c =
    let s = c.if-close.ensures.closes in
    let o = subst (λ z. opens_escape (chars z) ≡ true) s.0 (sym c.if-opens_escape.ensures) in
    over_escape c.args.self.now.end c.args.mark c.args.long c.args.self.now.rest.now s.1 c.in_ok-escape.field-0 c.escape.new.self.rest.now o c.args.self.now.within
    (subst₂ (λ x y. TakesEscape x y c.in_ok-escape.field-0 c.escape.new.self.rest.now) c.if-close.ensures.end s.0 c.in_ok-escape.ensures.takes) c.in_ok-escape.ensures.no_quote

pub returns-in_default-clause-refused : goal.returns-in_default-clause-refused
returns-in_default-clause-refused c =
    let s = c.if-close.ensures.closes in
    open_end c.args.self.now.end c.args.mark c.args.long c.args.self.now.rest.now s.1 c.args.start (ap length (sym s.0 ∙ sym c.chars-chars.ensures.rest) ∙ c.in_default.ensures.steps.0.0)

pub returns-then-not-is_line_end-clause-takes : goal.returns-then-not-is_line_end-clause-takes
returns-then-not-is_line_end-clause-takes c =
    let s = c.if-close.ensures.closes in
    let n = subst (λ z. opens_escape (chars z) ≡ false) s.0 (sym c.if-opens_escape.ensures) in
    let u : IsUtf8 c.args.self.now.rest.now = search rules in
    let b = (sym s.0 ∙ (sym c.chars-chars.ensures.rest ∙ c.in-Some.ensures.steps.0)) ∙ ap (λ z. encode_utf8 c.in-Some.c ++ z) (sym c.as_str-self.ensures) in
    over_character c.args.self.now.end c.args.mark c.args.long c.args.self.now.rest.now s.1 n c.in-Some.c c.as_str-self.result.now u b c.args.self.now.within (sym c.if-not-is_line_end.ensures)

pub returns-then-not-long-clause-refused : goal.returns-then-not-long-clause-refused
returns-then-not-long-clause-refused c =
    let s = c.if-close.ensures.closes in
    let n = subst (λ z. opens_escape (chars z) ≡ false) s.0 (sym c.if-opens_escape.ensures) in
    let u : IsUtf8 c.args.self.now.rest.now = search rules in
    let b = (sym s.0 ∙ (sym c.chars-chars.ensures.rest ∙ c.in-Some.ensures.steps.0)) ∙ ap (λ z. encode_utf8 c.in-Some.c ++ z) (sym c.as_str-self.ensures) in
    open_line c.args.self.now.end c.args.mark c.args.long c.args.self.now.rest.now s.1 n c.in-Some.c c.as_str-self.result.now u b c.args.self.now.within c.args.start (sym c.if-not-is_line_end.ensures) c.if-not-long.true

pub returns-clause-takes : goal.returns-clause-takes
returns-clause-takes c =
    let s = c.if-close.ensures.closes in
    let n = subst (λ z. opens_escape (chars z) ≡ false) s.0 (sym c.if-opens_escape.ensures) in
    let u : IsUtf8 c.args.self.now.rest.now = search rules in
    let b = (sym s.0 ∙ (sym c.chars-chars.ensures.rest ∙ c.in-Some.ensures.steps.0)) ∙ ap (λ z. encode_utf8 c.in-Some.c ++ z) (sym c.as_str-self.ensures) in
    over_line_end c.args.self.now.end c.args.mark c.args.long c.args.self.now.rest.now s.1 n c.in-Some.c c.as_str-self.result.now u b c.args.self.now.within c.skip_feed.new.self.rest.now (sym c.if-not-is_line_end.ensures)
    (line_small c.in-Some.c (sym c.if-not-is_line_end.ensures)) c.if-not-long.false c.skip_feed.ensures.skips
