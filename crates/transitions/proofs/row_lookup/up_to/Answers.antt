use Rattle.std.proofs.Common.{◌+◌, ◌-◌, ◌/◌, arith, sym, ◌∙◌}
use Rattle.skeleton.specs.Views.{code_of}
use Rattle.transitions.proofs.Lists.{get_here}
use Rattle.transitions.proofs.Ordered.{greater_from, gt_is, gt_isnt, not_greater_to}
use Rattle.transitions.proofs.row_lookup.up_to.Goals as goal

pub halving-preserved-then-is_gt : goal.halving-preserved-then-is_gt
halving-preserved-then-is_gt c = record {
  order = (let t = c.halving-test.true in omega (arith, t));
  most = (let t = c.halving-test.true in let m = c.halving.invariant.most in omega (arith, t, m));
  before = c.halving.invariant.before;
  after = greater_from c.args.row.now c.requires (code_of c.args.code) (c.halving.low + (c.halving.high - c.halving.low) / 2) _
      (get_here c.args.row.now (c.halving.low + (c.halving.high - c.halving.low) / 2) _ (let t = c.halving-test.true in let m = c.halving.invariant.most in omega (arith, t, m)))
      (sym c.compare.ensures ∙ gt_is c.compare.result (sym c.is_gt.ensures ∙ c.if-is_gt.true));
}

pub halving-preserved : goal.halving-preserved
halving-preserved c = record {
  order = (let t = c.halving-test.true in omega (arith, t));
  most = c.halving.invariant.most;
  before = not_greater_to c.args.row.now c.requires (code_of c.args.code) (c.halving.low + (c.halving.high - c.halving.low) / 2) _
      (get_here c.args.row.now (c.halving.low + (c.halving.high - c.halving.low) / 2) _ (let t = c.halving-test.true in let m = c.halving.invariant.most in omega (arith, t, m)))
      (λ g. gt_isnt c.compare.result (sym c.is_gt.ensures ∙ c.if-is_gt.false) (c.compare.ensures ∙ g));
  after = c.halving.invariant.after;
}
