use Rattle.std.proofs.Common.{sym, ◌∙◌, subst}
use Rattle.std.specs.List.Sorted.{IsStrictlySortedBy}
use Rattle.rng_model.specs.Names.{name_cmp}
use Rattle.restrictions.specs.Shared.{IsShared}
use Rattle.restrictions.proofs.Gathering.{NoneIs, window_of, sorted_split, none_of_both, in_two}
use Rattle.restrictions.proofs.shared.some_name_meets.Goals as goal

pub window_meets-requires : goal.window_meets-requires
window_meets-requires c =
    window_of c.loop-rest.rest.now c.split_at.result.0.now _ (sym c.is_empty.ensures ∙ c.loop-rest-test.true) c.min.ensures c.split_at.ensures.front c.split_at.ensures.front_len c.loop-rest.invariant.0

pub loop-rest-preserved : goal.loop-rest-preserved
loop-rest-preserved c =
    let s = in_two c.loop-rest.rest.now c.split_at.result.0.now c.split_at.result.1.now _ c.split_at.ensures.front c.split_at.ensures.back in (
      (sorted_split name_cmp c.split_at.result.0.now c.split_at.result.1.now (subst (IsStrictlySortedBy name_cmp) (sym s) c.loop-rest.invariant.0)).1,
      λ none. c.loop-rest.invariant.1
          (subst (NoneIs (IsShared c.args.schema.now.schema c.args.sought)) s
          (none_of_both (IsShared c.args.schema.now.schema c.args.sought) c.split_at.result.0.now c.split_at.result.1.now (c.in_ok-window_meets.ensures.no c.if-branch.false) none)),
    )
