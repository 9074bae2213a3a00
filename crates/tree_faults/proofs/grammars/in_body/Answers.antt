use Rattle.std.proofs.Common.{[], map, None, refl, ap, sym, ◌∙◌}
use Rattle.std.proofs.lemmas.Result.{IfOk-weaker}
use Rattle.grammar_laws.specs.Files.{body_pattern}
use Rattle.grammar_laws.specs.Trees.{grammar, items_of}
use Rattle.schema_tree.specs.declared.tree.Body.{Body}
use Rattle.schema_tree.specs.Trees.{body_of, item_of}
use Rattle.simple_form_laws.specs.Parts.{parts_of}
use Rattle.tree_faults.specs.Grammars.{grammar_faults, joined}
use Rattle.tree_faults.proofs.grammars.in_body.Goals as goal

pub returns-in-Items : goal.returns-in-Items
returns-in-Items c =
    IfOk-weaker c.in_grammar.result _ _
    (λ r h. h None [] (refl, refl)
    ∙ (λ i. joined (c.none-in-Items.ensures i) (grammar_faults (parts_of [] (grammar (items_of (map item_of (c.as_slice.ensures i)))))))
    ∙ ap (λ (b : Body). grammar_faults (parts_of [] (body_pattern (body_of b)))) (sym c.in-Items.is))
    c.in_grammar.ensures
