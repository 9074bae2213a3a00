-- Of one more than are mentioned, one isn't.
use Rattle.std.proofs.Common.{subst, arith, below_more, Contains, codes, ap}
use Rattle.rng_model.specs.Names.{Name}
use Rattle.rng_model.proofs.Orders.{name_order, name_cmp-same}
use Rattle.name_universe.proofs.NameSets.{held, not_held}
use Rattle.name_universe.proofs.Counting.{some_name_free, found_free}
use Rattle.name_universe.proofs.fresh.first_fresh.Goals as goal

pub returns-then-not-contains-clause-first : goal.returns-then-not-contains-clause-first
returns-then-not-contains-clause-first c =
    found_free c.args.ns.now c.args.taken.now.keys c.in_ok-name.name c.loop-number.number c.in_ok-name.ensures
    (not_held name_order name_cmp-same c.args.taken.now c.in_ok-name.name c.if-not-contains.ensures) c.loop-number.invariant

pub loop-number-preserved : goal.loop-number-preserved
loop-number-preserved c =
    below_more _ _ c.loop-number.invariant (subst (Contains c.args.taken.now.keys) c.in_ok-name.ensures (held name_order name_cmp-same c.args.taken.now c.in_ok-name.name c.if-not-contains.ensures))

pub unreachable-requires : goal.unreachable-requires
unreachable-requires c =
    some_name_free _ c.args.taken.now.keys c.loop-number.number (omega (arith, c.len-number-end.ensures.small, c.loop-number.auto.number-end)) (omega (arith, c.len-number-end.ensures.len, c.loop-number-test.false)) c.loop-number.invariant
