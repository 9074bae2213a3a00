use Rattle.std.proofs.Common.{◌≤◌, IfOk, length, sym, subst, arith}
use Rattle.transitions.specs.Automata.{Automaton}
use Rattle.transitions.specs.Marked.{IsBlock}
use Rattle.feasibility.proofs.explorer.Explorer.block.Goals as goal

pub accepting-requires-clause-most : goal.accepting-requires-clause-most
accepting-requires-clause-most g c = subst (λ (e : Automaton). c.args.count ≤ length e.states) c.requires.0 c.requires.1.1.1.1.1

pub block-requires : goal.block-requires
block-requires g c =
    let h = c.if-rest-eq0.false in
    let s = c.requires.1.1.1.1.0 in
    let m = c.requires.1.1.1.1.1 in
    (c.requires.1.1.0, (omega (arith, h), (c.requires.1.1.1.0, (s, omega (arith, s, m)))))

pub returns-then-rest-eq0-clause-block : goal.returns-then-rest-eq0-clause-block
returns-then-rest-eq0-clause-block g c = subst (λ (e : Automaton). IfOk c.accepting.result (IsBlock e)) (sym c.requires.0) c.accepting.ensures.block
