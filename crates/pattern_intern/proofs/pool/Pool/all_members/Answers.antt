use Rattle.std.proofs.Common.{◌∙◌, ap, filter}
use Rattle.pattern_intern.specs.Gathered.{is_member}
use Rattle.pattern_intern.specs.Stored.{tree_at}
use Rattle.pattern_intern.specs.declared.id.PatternId.{PatternId}
use Rattle.pattern_intern.proofs.Collected.{all_taken}
use Rattle.pattern_intern.proofs.pool.Pool.all_members.Goals as goal

pub returns : goal.returns
returns c =
    all_taken c.args.self.now _ c.in_ok-found.found.keys _ _ c.len-apart.ensures.apart c.all_ordered.ensures c.requires c.in_ok-found.ensures
    (c.in_ok-taken.ensures ∙ ap (filter (λ (id : PatternId). is_member (tree_at c.args.self.now id.0))) c.as_slice.ensures.keys) c.in_ok-sort.ensures.same c.in_ok-sort.ensures.sorted
