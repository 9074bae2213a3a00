use Rattle.std.proofs.Common.{◌≡◌, arith, rules}
use Rattle.rng_model.specs.States.{ReachesMore}
use Rattle.feasibility.specs.declared.fault.Refusal.TheVariants.{Full}
use Rattle.feasibility.specs.Exploring.{names, schema}
use Rattle.feasibility.proofs.Adding.{on_err}
use Rattle.feasibility.specs.Growing.{parts_of}
use Rattle.feasibility.proofs.Cutting.{cost_then, cost_refused, goes_itself, goes_then, more_later}
use Rattle.feasibility.proofs.states.States.grow_levels.Goals as goal

pub loop-self-init : goal.loop-self-init
loop-self-init g c = record {
  grown = c.requires.grown;
  small = c.requires.up;
  on = goes_itself (parts_of c.args.self.now);
  ticks = omega arith;
}

pub loop-self-preserved : goal.loop-self-preserved
loop-self-preserved g c = record {
  grown = c.in_ok-grow_level.ensures.grown;
  small = omega (arith, c.grow_level.ensures.level, c.loop-self-test.true);
  on =
      goes_then (parts_of c.args.self.now)
      (parts_of c.loop-self.self)
      (parts_of c.grow_level.new.self) c.loop-self.invariant.on c.grow_level.ensures.on;
  ticks =
      cost_then (parts_of c.args.self.now)
      (parts_of c.loop-self.self) c.loop-self.invariant.on _ _ _ _ _ c.loop-self.invariant.ticks
      c.in_ok-grow_level.ensures.ticks;
}

pub loop-self-smaller : goal.loop-self-smaller
loop-self-smaller g c = omega (arith, c.grow_level.ensures.level, c.loop-self-test.true)

pub returns-in_err-grow_level-clause-on : goal.returns-in_err-grow_level-clause-on
returns-in_err-grow_level-clause-on g c =
    goes_then (parts_of c.args.self.now)
    (parts_of c.loop-self.self)
    (parts_of c.grow_level.new.self) c.loop-self.invariant.on c.grow_level.ensures.on

pub returns-in_err-grow_level-clause-full : goal.returns-in_err-grow_level-clause-full
returns-in_err-grow_level-clause-full g c =
    let h : c.in_err-grow_level.field-0.0 ≡ Full → ReachesMore (schema c.args.self.now.explorer) (names c.args.self.now.explorer) c.args.size c.args.self.now.explorer.limit = λ q.
    more_later (parts_of c.args.self.now)
    (parts_of c.loop-self.self) c.loop-self.invariant.on c.args.size
    (omega (arith, c.loop-self-test.true)) (c.in_err-grow_level.ensures.full q) in
    search rules

pub returns-in_err-grow_level-clause-tick : goal.returns-in_err-grow_level-clause-tick
returns-in_err-grow_level-clause-tick g c =
    on_err c.from_residual.result (cost_refused (parts_of c.args.self.now)
    (parts_of c.loop-self.self) c.loop-self.invariant.on _ _ _ c.loop-self.invariant.ticks
    c.in_err-grow_level.ensures.tick)

pub returns-clause-level : goal.returns-clause-level
returns-clause-level g c = let a = c.loop-self.invariant.small in omega (arith, a, c.loop-self-test.false)
