use Rattle.std.proofs.Common.{List, [], ◌∷◌, ◌++◌, ◌∙◌, ap}
use Rattle.name_classes.specs.Views.{class_of}
use Rattle.rng_model.specs.Patterns.{HasNoAfter}
use Rattle.pattern_intern.specs.Schemas.{Entry}
use Rattle.pattern_intern.specs.Stored.{tree_at}
use Rattle.pattern_tests.proofs.Schemas.{one_form}
use Rattle.pattern_tests.proofs.tests.one_element.Goals as goal

pub new-requires-2-clause-form : goal.new-requires-2-clause-form
new-requires-2-clause-form c =
    let content = c.in_ok-content.content.0 in
    let x : Entry = (class_of c.in_ok-class.class, content) in
    let h : HasNoAfter (tree_at c.reference.new.self c.in_ok-start.start.0) = rw c.in_ok-start.ensures.made tt in
    let k : HasNoAfter (tree_at c.reference.new.self content) = rw (c.reference.ensures.kept.kept content c.in_ok-content.ensures.within) c.in_ok-content.ensures.form in
    one_form c.reference.new.self c.in_ok-start.start.0 _ x (c.in_ok-push.ensures.ok ∙ ap (λ (l : List Entry). l ++ x ∷ []) c.new-elements.ensures.none) h k
