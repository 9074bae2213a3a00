use Rattle.std.proofs.Common.{◌∙◌, map, sym, arith}
use Rattle.skeleton.specs.Views.{event_of}
use Rattle.skeleton.proofs.Reading.{cut, goes_on, stops}
use Rattle.skeleton.proofs.walk.first_fault.Goals as goal

pub returns-in-None : goal.returns-in-None
returns-in-None c =
    let here = cut event_of c.args.events.now c.loop-number.number c.index-events-number.result (omega arith) c.index-events-number.is in
    sym (c.loop-number.invariant.fault ∙ stops _ _ _ _ here (sym c.in-None.ensures.place))

pub loop-number-preserved : goal.loop-number-preserved
loop-number-preserved c =
    let here = cut event_of c.args.events.now c.loop-number.number c.index-events-number.result (omega arith) c.index-events-number.is in
    record {
      fault = c.loop-number.invariant.fault ∙ goes_on (map event_of c.args.events.now) c.loop-number.number _ _ _ here (sym c.in-Some.ensures.place);
      shallow = omega (arith, c.in-Some.ensures.depth);
    }
