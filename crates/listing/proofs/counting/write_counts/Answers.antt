use Rattle.std.proofs.Common.{◌≡◌, ◌+◌, ◌∙◌, None, arith, refl, subst}
use Rattle.listing.specs.Progress.{asked_of}
use Rattle.listing.specs.Counting.{IsCountedBelow}
use Rattle.listing.proofs.FromSizeToSize.{keeps_itself, keeps_on}
use Rattle.listing.proofs.StateLines.{counting_starts, counting_whole, at_next, at_last, spent_small}
use Rattle.listing.proofs.counting.write_counts.Goals as goal

pub loop-m-init : goal.loop-m-init
loop-m-init g c = record {
  some = omega arith;
  most = let one = c.requires.some in omega (arith, one);
  next = let fresh = c.requires.fresh in omega (arith, fresh);
  kept = keeps_itself c.args.table.now;
  counted = counting_starts c.args.table.now c.args.size (g.O.Sink.taken c.args.out.now);
  told = refl;
  faults = refl;
  spent = omega arith;
}

pub loop-m-preserved : goal.loop-m-preserved
loop-m-preserved g c =
    let l = c.loop-m in
    let t = c.args.table.now in
    let old = g.O.Sink.taken c.args.out.now in
    record {
      some = omega arith;
      most = let test = c.loop-m-test.true in omega (arith, test);
      next = let grown = c.in_default.ensures.grown in omega (arith, grown);
      kept = keeps_on t l.table c.write_count.new.table l.invariant.kept c.write_count.ensures.kept;
      counted = at_next t l.table c.args.size (l.m + 1) old (g.O.Sink.taken c.write_count.new.out) l.invariant.kept
          (c.in_default.ensures.counts_on c.args.size old c.loop-m-test.true
          (at_last t l.table c.args.size l.m old (g.O.Sink.taken l.out) l.invariant.kept l.invariant.counted));
      told = c.write_count.ensures.told ∙ l.invariant.told;
      faults = c.in_default.ensures.cause ∙ l.invariant.faults;
      spent = let one = l.invariant.spent in let more = c.in_default.ensures.spent in omega (arith, one, more);
    }

pub returns-clause-ends : goal.returns-clause-ends
returns-clause-ends g c =
    let l = c.loop-m in
    let t = c.args.table.now in
    let old = g.O.Sink.taken c.args.out.now in
    let over : l.m ≡ c.args.size + 1 = let test = c.loop-m-test.false in let most = l.invariant.most in omega (arith, test, most) in
    counting_whole t c.args.size old (g.O.Sink.taken l.out)
    (subst (λ m. IsCountedBelow (asked_of t c.args.size None) m old (g.O.Sink.taken l.out)) over l.invariant.counted)

pub returns-clause-ticks : goal.returns-clause-ticks
returns-clause-ticks g c =
    let l = c.loop-m in
    let one = l.invariant.spent in
    let small = spent_small c.args.table.now l.table l.invariant.kept c.holds.ensures in
    omega (arith, one, small)
