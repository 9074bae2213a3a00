use Rattle.std.proofs.Common.{◌≡◌, true, false, refl, sym, subst}
use Rattle.std.proofs.lemmas.Result.{err_from_is_err_and}
use Rattle.pattern_intern.specs.Schemas.{AreRefsBelow, schema_of}
use Rattle.kept_elements.specs.Outcomes.{IsSchemaOf}
use Rattle.kept_elements.proofs.Assembled.{closed_under, root_marked, entries_within, start_remade, schema_built, simple_form, schema_of_graph, too_deep}
use Rattle.kept_elements.proofs.Remaking.{listed_within}
use Rattle.kept_elements.proofs.schema.Goals as goal

pub remake_all-requires-clause-closed : goal.remake_all-requires-clause-closed
remake_all-requires-clause-closed c = rw (c.deref-4.ensures.value, c.deref-5.ensures.value) (closed_under c.args.graph.now c.args.forms.pool c.args.forms.forms.items c.in_ok-marks.marks.items c.in_ok-kept.kept.items c.are_ready.ensures c.in_ok-kept.ensures c.in_ok-marks.ensures)

pub made_at-start-requires : goal.made_at-start-requires
made_at-start-requires c =
    let m = rw (c.deref-4.ensures.value, c.deref-5.ensures.value) at c.in_ok-remade.ensures in
    let f = rw c.deref-9.ensures.value at c.form_at.ensures in
    rw c.deref-8.ensures.value (listed_within c.args.forms.pool c.in_ok-remade.remade.pool c.in_ok-kept.kept.items c.in_ok-remade.remade.made.items c.form_at.result.0 (m.each c.form_at.result.0 (root_marked c.args.graph.now c.args.forms.pool c.args.forms.forms.items c.in_ok-marks.marks.items c.form_at.result c.are_ready.ensures c.in_ok-marks.ensures f)))

pub new-requires-clause-start : goal.new-requires-clause-start
new-requires-clause-start c =
    let m = rw (c.deref-4.ensures.value, c.deref-5.ensures.value) at c.in_ok-remade.ensures in
    let f = rw c.deref-9.ensures.value at c.form_at.ensures in
    let s = rw c.deref-8.ensures.value at c.made_at-start.ensures in
    (start_remade c.args.graph.now c.args.forms.pool c.args.forms.forms.items c.in_ok-remade.remade.pool c.in_ok-kept.kept.items c.in_ok-marks.marks.items c.in_ok-remade.remade.made.items c.form_at.result c.made_at-start.result c.are_ready.ensures c.in_ok-marks.ensures m f s).within

pub new-requires-clause-contents : goal.new-requires-clause-contents
new-requires-clause-contents c =
    let a = rw c.deref-6.ensures.value at c.in_ok-definitions.ensures in
    entries_within c.args.graph.now c.args.forms.pool c.args.forms.forms.items c.in_ok-remade.remade.pool c.in_ok-kept.kept.items c.in_ok-definitions.definitions a

pub new-requires-clause-form : goal.new-requires-clause-form
new-requires-clause-form c =
    let m = rw (c.deref-4.ensures.value, c.deref-5.ensures.value) at c.in_ok-remade.ensures in
    let a = rw c.deref-6.ensures.value at c.in_ok-definitions.ensures in
    let f = rw c.deref-9.ensures.value at c.form_at.ensures in
    let s = rw c.deref-8.ensures.value at c.made_at-start.ensures in
    let x = start_remade c.args.graph.now c.args.forms.pool c.args.forms.forms.items c.in_ok-remade.remade.pool c.in_ok-kept.kept.items c.in_ok-marks.marks.items c.in_ok-remade.remade.made.items c.form_at.result c.made_at-start.result c.are_ready.ensures c.in_ok-marks.ensures m f s in
    let b = schema_built c.args.graph.now c.args.forms.pool c.args.forms.forms.items c.in_ok-remade.remade.pool c.in_ok-kept.kept.items c.form_at.result c.made_at-start.result c.in_ok-definitions.definitions f x a in
    simple_form c.args.graph.now c.args.forms.pool c.args.forms.forms.items c.requires c.in_ok-kept.kept.items c.in_ok-kept.ensures (schema_of c.in_ok-remade.remade.pool c.made_at-start.result.0 c.in_ok-definitions.definitions) b

pub new-requires-clause-refs : goal.new-requires-clause-refs
new-requires-clause-refs c =
    let m = rw (c.deref-4.ensures.value, c.deref-5.ensures.value) at c.in_ok-remade.ensures in
    let a = rw c.deref-6.ensures.value at c.in_ok-definitions.ensures in
    subst (λ n. AreRefsBelow n c.in_ok-remade.remade.pool) (sym a.each) m.refs

pub returns-then-is_too_deep-clause-err : goal.returns-then-is_too_deep-clause-err
returns-then-is_too_deep-clause-err c = too_deep c.args.graph.now c.args.forms.pool c.args.forms.forms.items c.requires c.in_ok-kept.kept.items c.in_ok-kept.ensures (c.if-is_too_deep.ensures.deep refl)

pub returns-clause-ok : goal.returns-clause-ok
returns-clause-ok c =
    let m = rw (c.deref-4.ensures.value, c.deref-5.ensures.value) at c.in_ok-remade.ensures in
    let a = rw c.deref-6.ensures.value at c.in_ok-definitions.ensures in
    let f = rw c.deref-9.ensures.value at c.form_at.ensures in
    let s = rw c.deref-8.ensures.value at c.made_at-start.ensures in
    let x = start_remade c.args.graph.now c.args.forms.pool c.args.forms.forms.items c.in_ok-remade.remade.pool c.in_ok-kept.kept.items c.in_ok-marks.marks.items c.in_ok-remade.remade.made.items c.form_at.result c.made_at-start.result c.are_ready.ensures c.in_ok-marks.ensures m f s in
    let b = schema_built c.args.graph.now c.args.forms.pool c.args.forms.forms.items c.in_ok-remade.remade.pool c.in_ok-kept.kept.items c.form_at.result c.made_at-start.result c.in_ok-definitions.definitions f x a in
    subst (λ n. IsSchemaOf c.args.graph.now n.schema) (sym c.new.ensures)
    (schema_of_graph c.args.graph.now c.args.forms.pool c.args.forms.forms.items c.requires c.in_ok-kept.kept.items c.in_ok-kept.ensures (schema_of c.in_ok-remade.remade.pool c.made_at-start.result.0 c.in_ok-definitions.definitions) b (λ d. let q : false ≡ true = c.if-is_too_deep.ensures.others d in cc))

pub returns-in_err-definitions-clause-err : goal.returns-in_err-definitions-clause-err
returns-in_err-definitions-clause-err c =
    let p = err_from_is_err_and c.from_residual-in_err-definitions.result c.from_residual-in_err-definitions.ensures.1 in rw (p.1, p.2) tt
