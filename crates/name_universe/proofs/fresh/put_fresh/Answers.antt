-- Number by number: one that makes a mentioned name is left out, and another is put.
use Rattle.std.proofs.Common.{sym, subst, arith, codes, length, Contains, ◌≡◌, ◌≤◌, ◌+◌}
use Rattle.rng_model.specs.Fresh.{HasFree}
use Rattle.rng_model.specs.Fresh as fresh
use Rattle.rng_model.proofs.Orders.{name_order, name_cmp-same}
use Rattle.name_universe.specs.Sets.{IsTakenIn, Puts, origin_in}
use Rattle.name_universe.proofs.NameSets.{held, not_held}
use Rattle.name_universe.proofs.Counting.{few_taken, count_taken, count_free}
use Rattle.name_universe.proofs.Putting.{put_none, put_taken, put_free, put_all}
use Rattle.name_universe.proofs.fresh.put_fresh.Goals as goal
use Rattle.name_universe.proofs.fresh.put_fresh.Goals.{then-not-contains+in_ok-put, else-not-contains}

pub loop-number-init : goal.loop-number-init
loop-number-init c = (omega arith, fresh.HasFree.none, put_none _ _ _ _)

pub returns-then-found-fresh : goal.returns-then-found-fresh
returns-then-found-fresh c =
    put_all c.args.taken.now.keys c.args.ns.now _ _ _ c.loop-number.number c.args.fresh (rw c.if-found-fresh.true at c.loop-number.invariant.1) c.loop-number.invariant.2

pub loop-number-preserved : goal.loop-number-preserved
loop-number-preserved c = elim c.if-not-contains.branch [
  | then-not-contains+in_ok-put w ↦
      let free = not_held name_order name_cmp-same c.args.taken.now c.in_ok-name.name w.if-not-contains.ensures in
      rw (w.names-is, w.found-is) (
        omega (arith, c.loop-number.invariant.0, c.if-found-fresh.false),
        count_free _ _ c.loop-number.number c.loop-number.found c.loop-number.invariant.1 (λ t. free (subst (Contains c.args.taken.now.keys) (sym c.in_ok-name.ensures) t)),
        put_free c.args.taken.now.keys c.args.ns.now _ _ _ _ c.loop-number.number c.in_ok-name.name c.in_ok-name.ensures free c.loop-number.invariant.2 w.in_ok-put.ensures,
      )
  | else-not-contains w ↦
      let taken = subst (Contains c.args.taken.now.keys) c.in_ok-name.ensures (held name_order name_cmp-same c.args.taken.now c.in_ok-name.name w.if-not-contains.ensures) in
      rw (w.names-is, w.found-is) (
        c.loop-number.invariant.0,
        count_taken _ _ c.loop-number.number c.loop-number.found c.loop-number.invariant.1 taken,
        put_taken c.args.taken.now.keys c.args.ns.now _ _ _ c.loop-number.number taken c.loop-number.invariant.2,
      )
]

pub unreachable-requires : goal.unreachable-requires
unreachable-requires c =
    let few = few_taken _ c.args.ns.now c.args.taken.now.keys c.loop-number.number c.loop-number.found c.loop-number.invariant.1 (omega (arith, c.len.ensures.small, c.requires, c.loop-number.auto.number-end)) (λ j l t. t) in
    omega (arith, c.len.ensures.len, c.loop-number.invariant.0, c.loop-number-test.false)
