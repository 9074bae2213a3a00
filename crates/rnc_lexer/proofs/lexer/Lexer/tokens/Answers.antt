use Rattle.std.proofs.Common.{◌∙◌, ap, sym, map, arith, rules}
use Rattle.token_laws.specs.Lexing.{apart}
use Rattle.rnc_lexer.specs.declared.tokens.Lexed.{Lexed}
use Rattle.rnc_lexer.specs.Steps.{place}
use Rattle.rnc_lexer.specs.Views.{placed_of, joined_of}
use Rattle.rnc_lexer.proofs.Leads.{reads_all, leads_pushed}
use Rattle.rnc_lexer.proofs.SoundTokens.{within_pushed}
use Rattle.rnc_lexer.proofs.lexer.Lexer.tokens.Goals as goal

pub returns-clause-reads : goal.returns-clause-reads
returns-clause-reads c =
    reads_all c.args.self.now.end apart (joined_of c.loop-first.joined) c.args.self.now.rest.now c.loop-first.self.rest.now (map placed_of c.loop-first.lexed.items) c.loop-first.invariant.1
    (sym c.front.ensures ∙ c.in_default.is)

pub loop-first-preserved : goal.loop-first-preserved
loop-first-preserved c =
    let pushed : Lexed = record { token = c.in_ok-token.token; place = c.place-place.result } in
    let here = c.place-place.ensures ∙ ap (λ n. place n c.loop-first.self.rest.now) c.loop-first.invariant.0 in
    let led = leads_pushed c.args.self.now.end c.loop-first.self.end c.token.new.self.end apart _ _ c.args.self.now.rest.now c.loop-first.self.rest.now c.token.new.self.rest.now c.skip-in-Some.new.self.rest.now c.loop-first.lexed.items pushed
    c.loop-first.invariant.0 c.in_ok-token.ensures.end c.in_ok-push.ensures.items c.loop-first.invariant.1 here c.in_ok-token.ensures.leads c.after-joined.ensures c.skip-in-Some.ensures.skips in
    (search rules, led, search rules, search rules, within_pushed c.args.self.now.end c.loop-first.lexed.items pushed c.in_ok-push.ensures.items c.loop-first.invariant.4 (omega (arith, here)))
