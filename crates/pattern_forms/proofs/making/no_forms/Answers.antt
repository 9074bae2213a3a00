use Rattle.std.proofs.Common.{arith, sym, subst, ap, length, length-append, [], ◌∷◌, None}
use Rattle.pattern_forms.specs.Making.{IsUnmade}
use Rattle.pattern_forms.proofs.Starting.{unmade_push, unmade_none}
use Rattle.pattern_forms.proofs.making.no_forms.Goals as goal

pub loop-node-init : goal.loop-node-init
loop-node-init c = (omega (arith, ap length c.new-forms.ensures.items), subst IsUnmade (sym c.new-forms.ensures.items) unmade_none)

pub loop-node-preserved : goal.loop-node-preserved
loop-node-preserved c = (
  omega (arith, ap length c.in_ok-push.ensures.items, length-append c.loop-node.forms.items (None ∷ []), c.loop-node.invariant.0),
  subst IsUnmade (sym c.in_ok-push.ensures.items) (unmade_push c.loop-node.forms.items c.loop-node.invariant.1),
)
