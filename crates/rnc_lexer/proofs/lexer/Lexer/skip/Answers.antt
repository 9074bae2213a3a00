use Rattle.std.proofs.Common.{◌∙◌, sym, ap, arith, nat_eq, Some}
use Rattle.std.specs.Option.{option_eq}
use Rattle.rnc_lexer.proofs.Gaps.{over_blanks, over_turn, run_shrinks, turn_shrinks}
use Rattle.rnc_lexer.proofs.lexer.Lexer.skip.Goals as goal

pub loop-self-init : goal.loop-self-init
loop-self-init c = (c.skip_blanks.ensures.end, over_blanks c.skip_blanks.ensures.run.1 c.args.self.now.within, c.skip_blanks.ensures.run.1.run.ends, run_shrinks c.skip_blanks.ensures.run.1)

pub loop-self-preserved : goal.loop-self-preserved
loop-self-preserved c =
    let i = c.loop-self.invariant in
    let w = c.loop-self.self.within in
    let e = ap (λ o. option_eq nat_eq o (Some 35)) (sym c.front.ensures) ∙ sym c.loop-self-test.ensures in
    let l = turn_shrinks e c.skip_line.ensures.run.1 c.skip_blanks-in-loop-self.ensures.run.1 in (
      c.skip_blanks-in-loop-self.ensures.end ∙ (c.skip_line.ensures.end ∙ i.0),
      over_turn _ i.1 e (omega arith) c.skip_line.ensures.run.1 c.skip_blanks-in-loop-self.ensures.run.1,
      c.skip_blanks-in-loop-self.ensures.run.1.run.ends,
      omega (arith, l, i.3),
    )
