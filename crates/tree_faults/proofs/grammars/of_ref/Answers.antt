use Rattle.std.proofs.Common.{ℕ, List, Some, ap, ◌∙◌}
use Rattle.std.specs.Prelude.{not, filter}
use Rattle.simple_form_laws.specs.Parts.{Entry, same_key}
use Rattle.simple_form_laws.specs.Faults.{is_empty_list}
use Rattle.tree_faults.proofs.GrammarJoins.{ref_inside}
use Rattle.tree_faults.proofs.grammars.of_ref.Goals as goal

pub returns-in-Some : goal.returns-in-Some
returns-in-Some c = λ outer s f.
    (λ i. record (c.none.ensures i) { undefined = c.place_if.ensures i })
    ∙ ref_inside c.in-Some.entries.now outer s c.args.name.now c.args.at c.has.result
    (λ es h. c.has.ensures es h ∙ ap (λ (n : List ℕ). not (is_empty_list (filter (λ (x : Entry). same_key (Some n) x.name) es))) c.as_str.ensures) (rw c.in-Some.is at f)
