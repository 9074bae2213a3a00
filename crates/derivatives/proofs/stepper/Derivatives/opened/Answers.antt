use Rattle.std.proofs.Common.{◌≡◌, List, Some, slice_get, subst}
use Rattle.rng_model.specs.Names.{Name}
use Rattle.derivatives.specs.Views.{machine}
use Rattle.derivatives.proofs.Keeping.{bare_extends, right_extends}
use Rattle.derivatives.proofs.KeepingTexts.{sets_extend}
use Rattle.derivatives.proofs.OneNames.{one_extends, one_tells}
use Rattle.derivatives.proofs.Seen.{keeps_seen, opened_seen}
use Rattle.derivatives.proofs.stepper.Derivatives.opened.Goals as goal

pub opening-requires-clause-tell : goal.opening-requires-clause-tell
opening-requires-clause-tell c =
    one_tells _ _ _ _ _ c.find.ensures (subst (λ (ns : List Name). slice_get ns c.args.name ≡ Some c.get-name.result.now) c.elements.ensures.list c.get-name.ensures)

pub invariant_of-self-2 : goal.invariant_of-self-2
invariant_of-self-2 c =
    let e = c.opening.ensures.kept in let s = c.opening.ensures.schema in (
      right_extends _ _ _ _ c.self.invariant.0 e,
      sets_extend _ _ _ c.self.invariant.1 e,
      c.opening.ensures.sets,
      bare_extends _ _ _ _ c.self.invariant.3 e,
      one_extends _ _ _ _ c.find.ensures s,
    )

pub returns-clause-made : goal.returns-clause-made
returns-clause-made c =
    let d = machine c.self.inside.schema c.self.inside.universe c.self.inside.atoms in
    opened_seen _ c.opening.new.schema.pool d _ _ c.args.name _ c.args.pattern.0 c.self.view_is c.elements.ensures.list c.get-name.ensures c.opening.ensures.made

pub returns-clause-keeps : goal.returns-clause-keeps
returns-clause-keeps c = keeps_seen _ _ _ c.self.view_is c.opening.ensures.kept c.opening.ensures.schema
