use Rattle.std.proofs.Common.{◌≡◌, sym, subst, true, false, chars}
use Rattle.rnc_lexer.specs.Steps.{TakesWord, Takes}
use Rattle.token_laws.specs.Beginnings.{begins_name}
use Rattle.rnc_lexer.specs.Views.{word_of}
use Rattle.rnc_lexer.proofs.NameForms.{ns_name_word, cname_word, plain_token, no_colon, colon_alone}
use Rattle.rnc_lexer.proofs.lexer.Lexer.name.Goals as goal

pub returns-then-take-clause-word : goal.returns-then-take-clause-word
returns-then-take-clause-word c = ns_name_word c.name_run-first.ensures.run c.if-not-take.ensures.takes c.if-take.ensures.takes c.requires.starts

pub returns-then-at_name-clause-word : goal.returns-then-at_name-clause-word
returns-then-at_name-clause-word c =
    let colon = subst (λ z. Takes 58 c.name_run-first.new.self.rest.now true z) (sym c.if-take.ensures.takes.0) c.if-not-take.ensures.takes in
    cname_word c.name_run-first.ensures.run colon c.name_run.ensures.run c.requires.starts (sym c.if-at_name.ensures)

pub returns-then-not-take-clause-word : goal.returns-then-not-take-clause-word
returns-then-not-take-clause-word c =
    let t = c.if-not-take.ensures.takes in
    subst (λ z. TakesWord c.args.self.now.rest.now (word_of c.plain.result) z) (sym t.0)
    (plain_token c.name_run-first.ensures.run (word_of c.plain.result) c.requires.starts (no_colon (chars c.name_run-first.new.self.rest.now) t.1) c.plain.ensures)

pub returns-clause-word : goal.returns-clause-word
returns-clause-word c =
    let t = c.if-take.ensures.takes in
    let n = subst (λ z. begins_name (chars z) ≡ false) t.0 (sym c.if-at_name.ensures) in
    plain_token c.name_run-first.ensures.run (word_of c.plain-2.result) c.requires.starts
    (colon_alone (chars c.name_run-first.new.self.rest.now) (chars c.take.new.self.rest.now) c.if-not-take.ensures.takes.1 t.1 n) c.plain-2.ensures
