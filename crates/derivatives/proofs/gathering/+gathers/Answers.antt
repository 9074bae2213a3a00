use Rattle.std.proofs.Common.{◌≡◌, ◌∙◌, true, sym, subst, arith}
use Rattle.indexmap.proofs.MapLemmas.{OnOk-map}
use Rattle.rng_model.specs.Matching.{nullable}
use Rattle.table_laws.specs.Remainders.{if_nullable, remainders}
use Rattle.pattern_intern.specs.Stored.{Stored, tree_at}
use Rattle.derivatives.specs.Remainders.{AreSets, Gathers, IsSetOf}
use Rattle.derivatives.proofs.Extending.{extends_trans}
use Rattle.derivatives.proofs.Gathered.{gathers_after, gathers_group, gathers_grown, gathers_interleave, gathers_part, gathers_repeated, members_begin, members_more, members_end, set_made}
use Rattle.derivatives.proofs.Nodes.{ref_node, repeated_node, choice_node, group_node, interleave_node, after_node}
use Rattle.derivatives.proofs.RemainderSets.{remainder_sets_extend, sets_put, sets_same}
use Rattle.derivatives.proofs.gathering.+gathers.Goals as goal

pub gather-returns-in_err-again-in-OneOrMore-clause-sets : goal.gather-returns-in_err-again-in-OneOrMore-clause-sets
gather-returns-in_err-again-in-OneOrMore-clause-sets t c = remainder_sets_extend _ _ _ c.requires.sets c.more.ensures.kept c.more.ensures.schema

pub gather-gather_grown-requires : goal.gather-gather_grown-requires
gather-gather_grown-requires t c =
    let below = (repeated_node _ _ _ _ c.pool.ensures c.node.ensures _ c.in-OneOrMore.is).0 in
    let inside = c.requires.inside in let d = c.decreases in let longer = c.more.ensures.kept.longer in (
      omega (arith, d, below),
      (omega (arith, below, inside, longer), (c.in_ok-again-in-OneOrMore.ensures.within, remainder_sets_extend _ _ _ c.requires.sets c.more.ensures.kept c.more.ensures.schema)),
    )

pub gather-returns-in-Ref-clause-gathers : goal.gather-returns-in-Ref-clause-gathers
gather-returns-in-Ref-clause-gathers t c =
    OnOk-map _ _ _ (subst (λ p. Gathers c.args.schema.now c.args.schema.now c.args.made.now (remainders p) c.add_opened.new.made)
    (sym (ref_node _ _ _ _ c.pool.ensures c.node.ensures _ c.in-Ref.is))) c.add_opened.ensures

pub gather-returns-in_ok-again-in-OneOrMore-clause-gathers : goal.gather-returns-in_ok-again-in-OneOrMore-clause-gathers
gather-returns-in_ok-again-in-OneOrMore-clause-gathers t c =
    let n = repeated_node _ _ _ _ c.pool.ensures c.node.ensures _ c.in-OneOrMore.is in
    let below = n.0 in let inside = c.requires.inside in
    OnOk-map _ _ _ (gathers_repeated _ _ _ _ _ _ _ _ n.1 (omega (arith, below, inside)) c.more.ensures.kept c.more.ensures.schema c.in_ok-again-in-OneOrMore.ensures.made)
    c.gather_grown.ensures.gathers

pub gather-returns-in_ok-gather_grown-in-Group-clause-gathers : goal.gather-returns-in_ok-gather_grown-in-Group-clause-gathers
gather-returns-in_ok-gather_grown-in-Group-clause-gathers t c =
    let n = group_node _ _ _ _ c.pool.ensures c.node.ensures _ _ c.in-Group.is in
    let a = n.0 in let b = n.1 in let inside = c.requires.inside in
    OnOk-map _ _ _ (gathers_group _ _ _ _ _ _ _ _ _ n.2 (omega (arith, a, inside)) (omega (arith, b, inside)) c.gather_grown-in-Group.ensures.kept
    c.in_ok-gather_grown-in-Group.ensures.gathers) c.gather_passed.ensures.gathers

pub gather-returns-in_ok-gather_grown-in-Interleave-clause-gathers : goal.gather-returns-in_ok-gather_grown-in-Interleave-clause-gathers
gather-returns-in_ok-gather_grown-in-Interleave-clause-gathers t c =
    let n = interleave_node _ _ _ _ c.pool.ensures c.node.ensures _ _ c.in-Interleave.is in
    let a = n.0 in let b = n.1 in let inside = c.requires.inside in
    OnOk-map _ _ _ (gathers_interleave _ _ _ _ _ _ _ _ _ n.2 (omega (arith, a, inside)) (omega (arith, b, inside)) c.gather_grown-in-Interleave.ensures.kept
    c.in_ok-gather_grown-in-Interleave.ensures.gathers) c.gather_grown-in-Interleave-2.ensures.gathers

pub gather-returns-in-After-clause-gathers : goal.gather-returns-in-After-clause-gathers
gather-returns-in-After-clause-gathers t c =
    OnOk-map _ _ _ (gathers_after _ _ _ _ _ _ _ (after_node _ _ _ _ c.pool.ensures c.node.ensures _ _ c.in-After.is).2) c.gather_grown-in-After.ensures.gathers

pub gather_grown-returns-clause-gathers : goal.gather_grown-returns-clause-gathers
gather_grown-returns-clause-gathers t c =
    OnOk-map _ _ _ (gathers_grown _ _ _ _ _ _ _ _ (c.in_ok-make_set.ensures.sets.each _ _ c.get.ensures) c.requires.inside
    c.in_ok-make_set.ensures.kept c.in_ok-make_set.ensures.schema c.requires.part) c.grow_all.ensures.gathers

pub gather_grown-returns-clause-sets : goal.gather_grown-returns-clause-sets
gather_grown-returns-clause-sets t c = remainder_sets_extend _ _ _ c.in_ok-make_set.ensures.sets c.grow_all.ensures.kept c.grow_all.ensures.schema

pub gather_members-loop-member-init : goal.gather_members-loop-member-init
gather_members-loop-member-init t c = record {
  begun = members_begin _ _ _ _ _ _ _ c.requires.others c.requires.tree c.in_ok-gather_part.ensures.kept c.in_ok-gather_part.ensures.schema c.in_ok-gather_part.ensures.gathers;
  sets = c.in_ok-gather_part.ensures.sets;
}

pub gather_members-loop-member-preserved : goal.gather_members-loop-member-preserved
gather_members-loop-member-preserved t c =
    let n = choice_node _ _ _ _ c.pool.ensures c.node.ensures _ _ c.in-Choice.is in
    record {
      begun = members_more _ _ _ _ _ _ _ _ _ _ c.requires.inside c.loop-member.invariant.begun n.1 n.0 n.2
          c.in_ok-gather_part-2.ensures.kept c.in_ok-gather_part-2.ensures.schema c.in_ok-gather_part-2.ensures.gathers;
      sets = c.in_ok-gather_part-2.ensures.sets;
    }

pub gather_passed-returns-then-nullable-clause-gathers : goal.gather_passed-returns-then-nullable-clause-gathers
gather_passed-returns-then-nullable-clause-gathers t c =
    OnOk-map _ _ _ (subst (λ b. Gathers c.args.schema.now c.gather_part.new.schema c.args.made.now (if_nullable b (remainders (tree_at c.args.schema.now.pool c.args.second.0))) c.gather_part.new.made)
    (subst (λ (s : Stored). true ≡ nullable (tree_at s c.args.first.0)) c.pool.ensures (sym c.if-nullable.true ∙ c.nullable.ensures))) c.gather_part.ensures.gathers

pub gather_members-returns : goal.gather_members-returns
gather_members-returns t c =
    let begun = c.loop-member.invariant.begun in
    record {
      gathers = OnOk-map _ _ _ (members_end _ _ _ _ _ _ _ _ c.requires.inside begun) c.gather_part-2.ensures.gathers;
      kept = extends_trans _ _ _ begun.kept c.gather_part-2.ensures.kept;
      sets = c.gather_part-2.ensures.sets;
      schema = c.gather_part-2.ensures.schema ∙ begun.schema;
    }

pub gather_part-returns-in_ok-make_set-in-OneOrMore-clause-gathers : goal.gather_part-returns-in_ok-make_set-in-OneOrMore-clause-gathers
gather_part-returns-in_ok-make_set-in-OneOrMore-clause-gathers t c =
    OnOk-map _ _ _ (gathers_part _ _ _ _ _ _ (c.in_ok-make_set-in-OneOrMore.ensures.sets.each _ _ c.get.ensures) c.requires.inside
    c.in_ok-make_set-in-OneOrMore.ensures.kept c.in_ok-make_set-in-OneOrMore.ensures.schema) c.add_all.ensures

pub make_set-returns-in_err-put-clause-sets : goal.make_set-returns-in_err-put-clause-sets
make_set-returns-in_err-put-clause-sets t c = sets_same _ _ _ c.in_ok-gather.ensures.sets c.in_err-put.ensures.unchanged

pub make_set-returns-clause-sets : goal.make_set-returns-clause-sets
make_set-returns-clause-sets t c =
    subst (AreSets c.gather.new.schema) (sym c.give_back.ensures)
    (sets_put _ _ _ _ _ c.in_ok-gather.ensures.sets c.in_ok-put.ensures.kept (subst (IsSetOf c.gather.new.schema c.args.id) (sym c.as_slice.ensures)
    (set_made _ _ _ _ _ c.spare-made.ensures.none c.requires.inside c.gather.ensures.kept c.gather.ensures.schema c.in_ok-gather.ensures.gathers)))
