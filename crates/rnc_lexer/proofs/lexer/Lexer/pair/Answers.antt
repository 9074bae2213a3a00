use Rattle.std.proofs.Common.{◌∙◌, ◌++◌, ◌∷◌, sym, ap, refl, length, encode_utf8, IsUtf8, rules}
use Rattle.std.proofs.lemmas.Str.{chars_past_char}
use Rattle.rnc_lexer.specs.Views.{symbol_of}
use Rattle.rnc_lexer.proofs.SymbolForms.{pair_at_end, no_pair, pair_word}
use Rattle.rnc_lexer.proofs.lexer.Lexer.pair.Goals as goal

pub returns-in_default-next-clause-pair : goal.returns-in_default-next-clause-pair
returns-in_default-next-clause-pair c =
    let u : IsUtf8 c.args.self.now.rest.now = search rules in
    let b = (sym c.chars-chars.ensures.rest ∙ c.in-Some.ensures.steps.0) ∙ ap (λ z. encode_utf8 c.in-Some.c ++ z) (sym c.as_str-behind.ensures) in
    let s = chars_past_char c.args.self.now.rest.now c.as_str-behind.result.now c.in-Some.c u b in
    (refl, pair_at_end c.args.self.now.rest.now c.as_str-behind.result.now c.in-Some.c s (ap length (sym c.chars-more.ensures.rest) ∙ c.in_default-next.ensures.steps.0.0))

pub returns-in_default-pair_of-clause-pair : goal.returns-in_default-pair_of-clause-pair
returns-in_default-pair_of-clause-pair c =
    let u : IsUtf8 c.args.self.now.rest.now = search rules in
    let b = (sym c.chars-chars.ensures.rest ∙ c.in-Some.ensures.steps.0) ∙ ap (λ z. encode_utf8 c.in-Some.c ++ z) (sym c.as_str-behind.ensures) in
    let s = chars_past_char c.args.self.now.rest.now c.as_str-behind.result.now c.in-Some.c u b in
    let d = sym c.chars-more.ensures.rest ∙ c.in-Some-next.ensures.steps.0 in
    let t = chars_past_char c.as_str-behind.result.now c.next-2.new.self.rest.now c.in-Some-next.d c.as_str-behind.utf8 d in
    (refl, no_pair c.args.self.now.rest.now c.as_str-behind.result.now c.next-2.new.self.rest.now c.in-Some.c c.in-Some-next.d s t c.in_default-pair_of.ensures)

pub returns-clause-pair : goal.returns-clause-pair
returns-clause-pair c =
    let u : IsUtf8 c.args.self.now.rest.now = search rules in
    let b = (sym c.chars-chars.ensures.rest ∙ c.in-Some.ensures.steps.0) ∙ ap (λ z. encode_utf8 c.in-Some.c ++ z) (sym c.as_str-behind.ensures) in
    let s = chars_past_char c.args.self.now.rest.now c.as_str-behind.result.now c.in-Some.c u b in
    let d = (sym c.chars-more.ensures.rest ∙ c.in-Some-next.ensures.steps.0) ∙ ap (λ z. encode_utf8 c.in-Some-next.d ++ z) (sym c.as_str-self.ensures) in
    let t = chars_past_char c.as_str-behind.result.now c.as_str-self.result.now c.in-Some-next.d c.as_str-behind.utf8 d in
    pair_word c.args.self.now.rest.now c.as_str-behind.result.now c.as_str-self.result.now c.in-Some.c c.in-Some-next.d (symbol_of c.in-Some-pair_of.s) c.requires.name c.requires.backslash
    b d (s ∙ ap (λ z. c.in-Some.c ∷ z) t) c.in-Some-pair_of.ensures
