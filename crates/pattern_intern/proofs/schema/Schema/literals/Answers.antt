use Rattle.std.proofs.Common.{◌≡◌, ◌+◌, ◌-◌, arith, subst}
use Rattle.rng_model.specs.Universe.{AreLiterals}
use Rattle.pattern_intern.specs.Schemas.{Numbered}
use Rattle.pattern_intern.proofs.Searching.{started_at, search_at, ended}
use Rattle.pattern_intern.proofs.schema.Schema.literals.Goals as goal

pub loop-next-init : goal.loop-next-init
loop-next-init c =
    started_at _ _ _ _ c.len-len.ensures.count c.self.invariant.within c.self.invariant.contents _ _ c.in_ok-reached.ensures c.in_ok-inside.ensures _ c.new-literals.ensures

pub loop-next-preserved : goal.loop-next-preserved
loop-next-preserved c =
    let t = c.loop-next-test.true in
    let k = c.loop-next.invariant.1 in
    let e : c.loop-next.next ≡ c.loop-next.next - 1 + 1 = omega (arith, t) in (
      c.in_ok-visit.ensures _ (search_at _ _ _ _ _ _ _ e c.loop-next.invariant.0),
      omega (arith, k),
    )

pub returns : goal.returns
returns c =
    subst (λ (v : Numbered). AreLiterals v.schema c.loop-next.literals) c.self.view_is (ended _ _ _ _ _ _ (let f = c.loop-next-test.false in omega (arith, f)) c.loop-next.invariant.0)
