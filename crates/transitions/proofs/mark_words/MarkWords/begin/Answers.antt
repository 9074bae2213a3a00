use Rattle.std.proofs.Common.{◌<◌, ◌++◌, ◌∷◌, [], Bool, List, length, sym, ◌∙◌, ap, subst}
use Rattle.transitions.proofs.Columns.{are_begun, columns_begin}
use Rattle.transitions.proofs.mark_words.MarkWords.begin.Goals as goal

pub invariant_of-self-2 : goal.invariant_of-self-2
invariant_of-self-2 c =
    rw c.in_ok-push.ensures.items
    (are_begun c.self.inside.words.items c.self.inside.lens.items c.self.invariant (subst (λ (ms : List (List Bool)). length ms < 64) (sym c.self.view_is) c.requires))

pub returns-clause-ok : goal.returns-clause-ok
returns-clause-ok c =
    rw c.in_ok-push.ensures.items
    (columns_begin 0 c.self.inside.words.items c.self.inside.lens.items ∙ ap (λ (ms : List (List Bool)). ms ++ [] ∷ []) c.self.view_is)
