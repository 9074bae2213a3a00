use Rattle.std.proofs.Common.{◌∙◌, sym, IsUtf8, rules}
use Rattle.rnc_lexer.specs.Views.{symbol_of}
use Rattle.rnc_lexer.proofs.SymbolForms.{none_single, single_here}
use Rattle.rnc_lexer.proofs.lexer.Lexer.symbol.Goals as goal

pub returns-in_default-single_of-clause-symbol : goal.returns-in_default-single_of-clause-symbol
returns-in_default-single_of-clause-symbol c =
    let p = c.in_default.ensures.pair in
    let u : IsUtf8 c.pair.new.self.rest.now = search rules in
    none_single c.args.self.now.rest.now c.pair.new.self.rest.now c.next.new.self.rest.now c.in-Some-next.c p.0 u (sym c.chars-chars.ensures.rest ∙ c.in-Some-next.ensures.steps.0)
    c.in_default-single_of.ensures c.requires.name c.requires.backslash p.1

pub returns-clause-symbol : goal.returns-clause-symbol
returns-clause-symbol c =
    let p = c.in_default.ensures.pair in
    let u : IsUtf8 c.pair.new.self.rest.now = search rules in
    single_here c.args.self.now.rest.now c.pair.new.self.rest.now c.next.new.self.rest.now c.as_str-self.result.now c.in-Some-next.c (symbol_of c.in-Some-single_of.s) p.0 u
    (sym c.chars-chars.ensures.rest ∙ c.in-Some-next.ensures.steps.0) c.as_str-self.ensures c.in-Some-single_of.ensures c.requires.name c.requires.backslash p.1
