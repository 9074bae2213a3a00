use Rattle.std.proofs.Common.{◌≡◌, ◌∙◌, sym, arith, true, false, get_or}
use Rattle.pattern_intern.specs.Marks.{parts_of}
use Rattle.pattern_intern.proofs.Marking.{length-marks}
use Rattle.std.proofs.lemmas.List.{get_or_read}
use Rattle.pattern_intern.proofs.Searching.{inside_empty, inside_other}
use Rattle.pattern_intern.proofs.literals.visit_inside.Goals as goal

pub returns-in-Empty-clause-search : goal.returns-in-Empty-clause-search
returns-in-Empty-clause-search c =
    let e : get_or c.args.inside.now.items c.args.id.0 false ≡ true = sym (get_or_read c.args.inside.now.items c.args.id.0 _ (let n = c.requires.length in let w = c.requires.within in omega (arith, n, w)) c.index.ensures false) ∙ c.if-not-index.false in
    λ g r n k. rw c.mark_empty.ensures (inside_empty g _ r _ _ n _ k _ c.requires.node c.requires.within e c.in-Empty.is)

pub returns-in-DataType-default-Some-clause-length : goal.returns-in-DataType-default-Some-clause-length
returns-in-DataType-default-Some-clause-length c = rw c.mark_parts-in-DataType-default-Some.ensures (length-marks c.args.inside.now.items (parts_of c.args.node) ∙ c.requires.length)

pub returns-in-DataType-default-Some-clause-search : goal.returns-in-DataType-default-Some-clause-search
returns-in-DataType-default-Some-clause-search c =
    let e : get_or c.args.inside.now.items c.args.id.0 false ≡ true = sym (get_or_read c.args.inside.now.items c.args.id.0 _ (let n = c.requires.length in let w = c.requires.within in omega (arith, n, w)) c.index.ensures false) ∙ c.if-not-index.false in
    λ g r n k. inside_other g _ r _ _ n _ k _ c.requires.node c.requires.within e (λ f. let h = sym c.in-DataType-default-Some.is ∙ f in absurd (cc)) _ c.mark_parts-in-DataType-default-Some.ensures

pub returns-in_default-clause-length : goal.returns-in_default-clause-length
returns-in_default-clause-length c = rw c.mark_parts-in_default.ensures (length-marks c.args.inside.now.items (parts_of c.args.node) ∙ c.requires.length)

pub returns-in_default-clause-search : goal.returns-in_default-clause-search
returns-in_default-clause-search c =
    let e : get_or c.args.inside.now.items c.args.id.0 false ≡ true = sym (get_or_read c.args.inside.now.items c.args.id.0 _ (let n = c.requires.length in let w = c.requires.within in omega (arith, n, w)) c.index.ensures false) ∙ c.if-not-index.false in
    λ g r n k. inside_other g _ r _ _ n _ k _ c.requires.node c.requires.within e c.in_default.not-Empty _ c.mark_parts-in_default.ensures
