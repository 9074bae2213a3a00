use Rattle.std.proofs.Common.{◌≡◌, ◌+◌, ◌-◌, ◌↔◌, arith, subst}
use Rattle.rng_model.specs.Classes.{Class}
use Rattle.rng_model.specs.Universe.{IsAttributeClass}
use Rattle.pattern_intern.specs.Attributes.{AreClasses, HasClass}
use Rattle.pattern_intern.specs.Schemas.{Numbered}
use Rattle.pattern_intern.proofs.Classes.{class_started, class_at_next, class_ended}
use Rattle.pattern_intern.proofs.schema.Schema.attribute_classes.Goals as goal

pub loop-next-init : goal.loop-next-init
loop-next-init c = class_started _ _ _ _ c.len-len.ensures.count c.self.invariant.within c.self.invariant.contents _ c.in_ok-reached.ensures _ c.new-classes.ensures.items

pub loop-next-preserved : goal.loop-next-preserved
loop-next-preserved c =
    let t = c.loop-next-test.true in
    let k = c.loop-next.invariant.1 in
    let e : c.loop-next.next ≡ c.loop-next.next - 1 + 1 = omega (arith, t) in (
      c.in_ok-visit_class.ensures _ (class_at_next _ _ _ _ _ _ e c.loop-next.invariant.0),
      omega (arith, k),
    )

pub returns-clause-within : goal.returns-clause-within
returns-clause-within c = subst (λ (v : Numbered). AreClasses v.pool c.loop-next.classes.items) c.self.view_is c.loop-next.invariant.0.within

pub returns-clause-each : goal.returns-clause-each
returns-clause-each c =
    subst (λ (v : Numbered). (x : Class) → HasClass v.pool c.loop-next.classes.items x ↔ IsAttributeClass v.schema x) c.self.view_is
    (class_ended _ _ _ _ _ (let f = c.loop-next-test.false in omega (arith, f)) c.loop-next.invariant.0)
