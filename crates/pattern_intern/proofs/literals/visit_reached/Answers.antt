use Rattle.std.proofs.Common.{◌≡◌, ◌∙◌, sym, arith, true, false, get_or}
use Rattle.std.proofs.lemmas.List.{get_or_read}
use Rattle.pattern_intern.proofs.Searching.{reached_unmarked, reached_marked, ok_all}
use Rattle.pattern_intern.proofs.literals.visit_reached.Goals as goal

pub returns-then-not-index : goal.returns-then-not-index
returns-then-not-index c =
    let e : get_or c.args.reached.now.items c.args.id.0 false ≡ false = sym (get_or_read c.args.reached.now.items c.args.id.0 _ (let n = c.requires.reached in let w = c.requires.within in omega (arith, n, w)) c.index.ensures false) ∙ c.if-not-index.true in
    λ g k. reached_unmarked g _ _ _ _ _ k e

pub returns : goal.returns
returns c =
    let e : get_or c.args.reached.now.items c.args.id.0 false ≡ true = sym (get_or_read c.args.reached.now.items c.args.id.0 _ (let n = c.requires.reached in let w = c.requires.within in omega (arith, n, w)) c.index.ensures false) ∙ c.if-not-index.false in
    ok_all c.note.result c.note.ensures.members c.note.ensures.kinds c.note.ensures.has_empty
    (λ members kinds same. λ g k. reached_marked g _ _ _ _ _ k _ c.requires.node c.requires.within e _ _ c.mark_parts.ensures c.mark_content.ensures _ members kinds same)
