use Rattle.std.proofs.Common.{◌≡◌, List, Option, length, sym, subst, arith}
use Rattle.transitions.specs.declared.state_id.StateId.{StateId}
use Rattle.feasibility.specs.Exploring.{IsFreeAt}
use Rattle.feasibility.specs.Growing.{AddsFrees}
use Rattle.feasibility.proofs.Adding.{frees_found, frees_one, reached_now}
use Rattle.feasibility.proofs.growing.add_free.Goals as goal

pub free-requires-clause-reached : goal.free-requires-clause-reached
free-requires-clause-reached g c = reached_now c.args.explorer.now c.requires.exploring c.len.result (omega (arith, c.len.ensures, c.requires.left))

pub returns-in_err-next-clause-adds : goal.returns-in_err-next-clause-adds
returns-in_err-next-clause-adds g c =
    frees_found c.args.explorer.now c.free.new.self c.args.frees.now.items c.free.ensures.finds c.free.ensures.exploring c.requires.frees

pub returns-in_err-note-clause-adds : goal.returns-in_err-note-clause-adds
returns-in_err-note-clause-adds g c =
    subst (λ (xs : List (Option StateId)). AddsFrees c.args.explorer.now c.free.new.self c.args.frees.now.items xs) (sym c.in_err-note.ensures.err)
    (frees_found c.args.explorer.now c.free.new.self c.args.frees.now.items c.free.ensures.finds c.free.ensures.exploring c.requires.frees)

pub returns-clause-adds : goal.returns-clause-adds
returns-clause-adds g c =
    let e : c.len.result ≡ length c.args.frees.now.items = omega (arith, c.len.ensures) in
    subst (λ (xs : List (Option StateId)). AddsFrees c.args.explorer.now c.free.new.self c.args.frees.now.items xs) (sym c.in_ok-note.ensures.ok)
    (frees_one c.args.explorer.now c.free.new.self c.args.frees.now.items c.in_ok-next.next c.free.ensures.finds c.free.ensures.exploring c.requires.frees c.requires.left
    (subst (λ n. IsFreeAt c.free.new.self n c.in_ok-next.next) e c.in_ok-next.ensures.free))
