use Rattle.std.proofs.Common.{arith}
use Rattle.std.specs.Prelude.{Result, Ok, Err, OnErr}
use Rattle.derivatives.proofs.RemainderSets.{inside_put, set_put, sets_longer}
use Rattle.derivatives.proofs.remainder_sets.RemainderSets.put.Goals as goal

at_fault : {T E P : Type 0} (r : Result T E) → P → OnErr r P
at_fault (Ok x) p = tt
at_fault (Err e) p = p

pub returns-in_err-insert-clause-unchanged : goal.returns-in_err-insert-clause-unchanged
returns-in_err-insert-clause-unchanged c =
    rw (← c.self.view_is) (at_fault _ (sets_longer _ _ _ c.self.invariant c.in_ok-extend_from_slice.ensures.items c.in_err-insert.ensures.err))

pub invariant_of-self-2 : goal.invariant_of-self-2
invariant_of-self-2 c =
    let l = c.in_ok-extend_from_slice.ensures.len in
    inside_put _ _ _ c.self.invariant c.in_ok-extend_from_slice.ensures.items _ _ (omega arith) (omega (arith, l)) c.in_ok-insert.ensures.updates.0

pub returns-clause-kept : goal.returns-clause-kept
returns-clause-kept c =
    let l = c.in_ok-extend_from_slice.ensures.len in
    rw (← c.self.view_is)
    (set_put _ _ _ c.self.invariant c.in_ok-extend_from_slice.ensures.items _ _ (omega arith) (omega (arith, l)) c.in_ok-insert.ensures.updates.0)
