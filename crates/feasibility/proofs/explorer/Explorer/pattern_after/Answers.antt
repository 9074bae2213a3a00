use Rattle.std.proofs.Common.{List, Option, ◌+◌, length, sym, ap, subst, arith}
use Rattle.pattern_intern.specs.declared.id.PatternId.{PatternId}
use Rattle.feasibility.specs.Exploring.{IsKnown}
use Rattle.feasibility.proofs.Costing.{cost_kept, cost_made, cost_pushed}
use Rattle.feasibility.proofs.Knowing.{at_get, known_before, known_made}
use Rattle.feasibility.proofs.explorer.Explorer.pattern_after.Goals as goal

pub returns-then-group-len-clause-pattern : goal.returns-then-group-len-clause-pattern
returns-then-group-len-clause-pattern g c =
    c.requires.known.each c.args.position c.group-group.result c.index.result.now c.group-group.ensures.group
    (at_get c.args.known.now.items c.group-group.result _ c.index.result.now (omega (arith, c.if-group-len.true, c.len.ensures)) c.index.ensures)

pub returns-then-group-len-clause-known : goal.returns-then-group-len-clause-known
returns-then-group-len-clause-known g c =
    known_before c.args.self.now c.args.from.0 c.args.family c.args.position c.group-group.result c.args.known.now.items c.requires.known c.group-group.ensures.group
    (omega (arith, c.if-group-len.true, c.len.ensures))

pub returns-then-group-len-clause-ticks : goal.returns-then-group-len-clause-ticks
returns-then-group-len-clause-ticks g c =
    omega (
      arith,
      cost_kept c.args.self.now c.requires.exploring c.args.from.0 c.args.family c.args.position c.group-group.result c.args.known.now.items c.requires.known
          c.group-group.ensures.group (omega (arith, c.if-group-len.true, c.len.ensures)),
    )

pub returns-in_err-made-clause-most : goal.returns-in_err-made-clause-most
returns-in_err-made-clause-most g c =
    omega (
      arith,
      c.made.ensures.ticks,
      cost_made c.args.self.now c.requires.exploring c.args.from.0 c.args.family c.args.position c.group-group.result c.args.known.now.items c.requires.known
          c.group-group.ensures.group c.group-group.ensures.below (λ q. absurd (omega (arith, c.if-group-len.false, c.len.ensures, q))),
    )

pub returns-in_err-push-clause-most : goal.returns-in_err-push-clause-most
returns-in_err-push-clause-most g c =
    omega (
      arith,
      c.made.ensures.ticks,
      cost_made c.args.self.now c.requires.exploring c.args.from.0 c.args.family c.args.position c.group-group.result c.args.known.now.items c.requires.known
          c.group-group.ensures.group c.group-group.ensures.below (λ q. absurd (omega (arith, c.if-group-len.false, c.len.ensures, q))),
    )

pub returns-in_ok-push-clause-most : goal.returns-in_ok-push-clause-most
returns-in_ok-push-clause-most g c =
    omega (
      arith,
      c.made.ensures.ticks,
      cost_made c.args.self.now c.requires.exploring c.args.from.0 c.args.family c.args.position c.group-group.result c.args.known.now.items c.requires.known
          c.group-group.ensures.group c.group-group.ensures.below (λ q. absurd (omega (arith, c.if-group-len.false, c.len.ensures, q))),
    )

pub returns-in_ok-push-clause-ticks : goal.returns-in_ok-push-clause-ticks
returns-in_ok-push-clause-ticks g c =
    let longer = ap (λ (ks : List (Option PatternId)). length ks) c.in_ok-push.ensures.items in
    rw longer (omega (
      arith,
      c.made.ensures.ticks,
      cost_pushed c.args.self.now c.requires.exploring c.args.from.0 c.args.family c.args.position c.group-group.result c.args.known.now.items
          c.requires.known c.group-group.ensures.group c.group-group.ensures.below (λ q. absurd (omega (arith, c.if-group-len.false, c.len.ensures, q))) c.in_ok-made.made,
    ))

pub returns-in_ok-push-clause-known : goal.returns-in_ok-push-clause-known
returns-in_ok-push-clause-known g c =
    subst (λ (known : List (Option PatternId)). IsKnown c.made.new.self c.args.from.0 c.args.family (c.args.position + 1) known) (sym c.in_ok-push.ensures.items)
    (known_made c.args.self.now c.made.new.self c.args.from.0 c.args.family c.args.position c.group-group.result c.args.known.now.items c.in_ok-made.made c.made.ensures.finds
    c.made.ensures.exploring c.requires.from c.requires.name c.requires.allowed c.requires.known c.group-group.ensures.group c.group-group.ensures.below
    (λ q. absurd (omega (arith, c.if-group-len.false, c.len.ensures, q))) c.in_ok-made.ensures.pattern)
