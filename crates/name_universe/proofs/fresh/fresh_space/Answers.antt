-- Of one more than are mentioned, one isn't.
use Rattle.std.proofs.Common.{subst, arith, below_more, Contains, codes}
use Rattle.std.specs.Cmp.Lexicographic.{nat_list_cmp_total}
use Rattle.std.proofs.lemmas.Map.Lookups.{exact_bytes}
use Rattle.rng_model.specs.Fresh.{IsFirstFree}
use Rattle.text_atoms.proofs.FreshTexts.{some_free}
use Rattle.name_universe.proofs.NameSets.{held, not_held}
use Rattle.name_universe.proofs.fresh.fresh_space.Goals as goal

pub returns-then-not-contains : goal.returns-then-not-contains
returns-then-not-contains c = record {
  number = c.loop-number.number;
  is = c.in_ok-text.ensures;
  free = not_held nat_list_cmp_total exact_bytes c.args.spaces.now c.in_ok-text.text c.if-not-contains.ensures;
  first = c.loop-number.invariant;
}

pub loop-number-preserved : goal.loop-number-preserved
loop-number-preserved c =
    below_more _ _ c.loop-number.invariant (subst (Contains c.args.spaces.now.keys) c.in_ok-text.ensures (held nat_list_cmp_total exact_bytes c.args.spaces.now c.in_ok-text.text c.if-not-contains.ensures))

pub unreachable-requires : goal.unreachable-requires
unreachable-requires c =
    some_free _ c.args.spaces.now.keys c.loop-number.number (omega (arith, c.len-number-end.ensures.small, c.loop-number.auto.number-end)) (omega (arith, c.len-number-end.ensures.len, c.loop-number-test.false)) c.loop-number.invariant
