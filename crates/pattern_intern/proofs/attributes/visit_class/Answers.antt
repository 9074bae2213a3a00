use Rattle.std.proofs.Common.{◌≡◌, ◌∙◌, sym, arith, true, false, get_or}
use Rattle.std.proofs.lemmas.List.{get_or_read}
use Rattle.pattern_intern.proofs.Classes.{class_unmarked, class_marked, ok_both}
use Rattle.pattern_intern.proofs.attributes.visit_class.Goals as goal

pub returns-then-not-index : goal.returns-then-not-index
returns-then-not-index c =
    let e : get_or c.args.reached.now.items c.args.id.0 false ≡ false = sym (get_or_read c.args.reached.now.items c.args.id.0 _ (let n = c.requires.reached in let w = c.requires.within in omega (arith, n, w)) c.index.ensures false) ∙ c.if-not-index.true in
    λ g k. class_unmarked g _ _ _ _ k e

pub returns : goal.returns
returns c =
    let e : get_or c.args.reached.now.items c.args.id.0 false ≡ true = sym (get_or_read c.args.reached.now.items c.args.id.0 _ (let n = c.requires.reached in let w = c.requires.within in omega (arith, n, w)) c.index.ensures false) ∙ c.if-not-index.false in
    ok_both c.note_class.result c.note_class.ensures.within c.note_class.ensures.each
    (λ within each. λ g k. class_marked g _ _ _ _ k _ c.node-node.ensures c.requires.within e _ c.mark_parts.ensures _ within each)
