use Rattle.std.proofs.Common.{◌≡◌, ◌∙◌, ap, sym, refl, subst, slice_get, Some}
use Rattle.pattern_forms.specs.Making.{first_of, form_at}
use Rattle.pattern_forms.proofs.Nesting.{definition_read}
use Rattle.pattern_forms.proofs.making.definition_form.Goals as goal

pub form-requires-clause-made : goal.form-requires-clause-made
form-requires-clause-made c =
    let e = definition_read c.args.graph.now c.args.definition c.index.result.now c.requires.definition c.index.ensures in
    c.requires.made.each 0 c.index.result.now (subst (λ xs. slice_get xs 0 ≡ Some c.index.result.now) (sym e) refl)

pub returns-clause-tree : goal.returns-clause-tree
returns-clause-tree c =
    let e = definition_read c.args.graph.now c.args.definition c.index.result.now c.requires.definition c.index.ensures in
    c.form.ensures.tree ∙ ap (first_of (form_at c.args.pool.now c.args.forms.now)) (sym e)
