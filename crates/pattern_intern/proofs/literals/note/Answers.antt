use Rattle.std.proofs.Common.{◌∙◌, ap, refl}
use Rattle.rng_model.specs.Atoms.{Literals}
use Rattle.pattern_intern.proofs.Searching.{member_noted, kinds_noted, data_noted}
use Rattle.pattern_intern.proofs.literals.note.Goals as goal

pub returns-in_ok-push-in-Value-clause-members : goal.returns-in_ok-push-in-Value-clause-members
returns-in_ok-push-in-Value-clause-members c =
    member_noted _ _ _ _ _ (c.mark_kind.ensures.members ∙ ap (λ (l : Literals). l.members) c.in_ok-push-in-Value.ensures.ok) (rw (c.in-Value.is, c.in_ok-copy-in-Value.ensures, c.literal.ensures) refl)

pub returns-in_ok-push-in-Value-clause-kinds : goal.returns-in_ok-push-in-Value-clause-kinds
returns-in_ok-push-in-Value-clause-kinds c =
    kinds_noted _ _ _ c.in-Value.is _ _ _ (ap (λ (l : Literals). l.kinds) c.in_ok-push-in-Value.ensures.ok) c.mark_kind.ensures.marked

pub returns-in-DataType-default-None-clause-kinds : goal.returns-in-DataType-default-None-clause-kinds
returns-in-DataType-default-None-clause-kinds c = data_noted _ _ _ _ c.in-DataType-default-None.is _ _ c.mark_kind-in-DataType-default-None.ensures.marked

pub returns-in-DataType-default-Some-clause-kinds : goal.returns-in-DataType-default-Some-clause-kinds
returns-in-DataType-default-Some-clause-kinds c = data_noted _ _ _ _ c.in-DataType-default-Some.is _ _ c.mark_kind-in-DataType-default-Some.ensures.marked
