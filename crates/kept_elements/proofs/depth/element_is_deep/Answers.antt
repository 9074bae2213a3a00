use Rattle.std.proofs.Common.{◌≤◌, subst}
use Rattle.name_classes.specs.Views.{class_of}
use Rattle.kept_elements.proofs.TooDeep.{deep_class, class_is_deep}
use Rattle.kept_elements.proofs.depth.element_is_deep.Goals as goal

pub returns-else-depth-gt-MAX_DEPTH-clause-deep : goal.returns-else-depth-gt-MAX_DEPTH-clause-deep
returns-else-depth-gt-MAX_DEPTH-clause-deep c =
    let h = rw c.deref.ensures.value at c.content_form.ensures in
    let k = rw c.deref-else-depth-gt-MAX_DEPTH.ensures.value at c.element_class.ensures in
    λ t. deep_class c.args.graph.now c.args.forms.now.pool c.args.forms.now.forms.items c.args.number h.0 c.content_form.result h.1 (class_of c.element_class.result.now) (k h.0 c.content_form.result h.1) (c.is_deeper.ensures.deeper t)

pub returns-else-depth-gt-MAX_DEPTH-clause-others : goal.returns-else-depth-gt-MAX_DEPTH-clause-others
returns-else-depth-gt-MAX_DEPTH-clause-others c =
    let h = rw c.deref.ensures.value at c.content_form.ensures in
    let k = rw c.deref-else-depth-gt-MAX_DEPTH.ensures.value at c.element_class.ensures in
    λ x. c.is_deeper.ensures.others (class_is_deep c.args.graph.now c.args.forms.now.pool c.args.forms.now.forms.items c.args.number h.0 c.content_form.result h.1 (class_of c.element_class.result.now) (k h.0 c.content_form.result h.1)
    (subst (λ n. n ≤ 1024) c.depth.ensures c.if-depth-gt-MAX_DEPTH.false) x)
