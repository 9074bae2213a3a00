-- The entry of the namespace.
use Rattle.std.proofs.Common.{inl}
use Rattle.name_universe.proofs.Standing.{entry_stands}
use Rattle.name_universe.proofs.names.Names.stand_in.Goals as goal

pub returns-in-Some-clause-listed : goal.returns-in-Some-clause-listed
returns-in-Some-clause-listed c =
    rw (← c.self.view_is) (
    (entry_stands _ c.self.invariant c.as_slice.result.now c.as_slice.ensures.value c.in-Some.position c.args.name.now.ns c.ns.result.now c.ns.ensures.value c.index.result.now c.in-Some.ensures.found c.index.ensures).0)

pub returns-in-Some-clause-stands : goal.returns-in-Some-clause-stands
returns-in-Some-clause-stands c =
    rw (← c.self.view_is) (
    inl ((entry_stands _ c.self.invariant c.as_slice.result.now c.as_slice.ensures.value c.in-Some.position c.args.name.now.ns c.ns.result.now c.ns.ensures.value c.index.result.now c.in-Some.ensures.found c.index.ensures).1))
