-- The class of each number in turn.
use Rattle.std.proofs.Common.{arith, List, ℕ, sym, ◌∙◌, ap, subst, length, take, get_or, ◌<◌}
use Rattle.rng_model.specs.Names.{Name}
use Rattle.rng_model.specs.Alike.{AreAlikeNames, AreGroups}
use Rattle.rng_model.specs.Universe.{IsAttributeClass}
use Rattle.name_classes.specs.Views.{class_of}
use Rattle.pattern_intern.specs.declared.id.ClassId.{ClassId}
use Rattle.pattern_intern.specs.Attributes.{HasClass}
use Rattle.pattern_intern.specs.Stored.{Stored, class_at}
use Rattle.name_universe.specs.Tables.{NameTable}
use Rattle.name_universe.proofs.Gathering.{next_number, number_in, no_number, all_numbers}
use Rattle.name_universe.proofs.Parting.{one_block, partition_more, partition_as}
use Rattle.name_universe.proofs.alike.alike_attributes.Goals as goal

pub loop-number-init : goal.loop-number-init
loop-number-init c =
    one_block (HasClass c.args.schema.now.pool (take 0 c.in_ok-classes.classes.items)) (no_number c.args.schema.now.pool c.in_ok-classes.classes.items) c.attribute_names-names.result.now.names c.len-count.result _ _
    (c.len-count.ensures.length ∙ ap (λ (ns : List Name). length ns) c.list.ensures.list) c.in_ok-partition.ensures.blocks c.in_ok-partition.ensures.splits

pub class-class-requires : goal.class-class-requires
class-class-requires c =
    rw c.pool.ensures (
    subst (λ (id : ClassId). id.0 < length c.args.schema.now.pool.classes) (sym c.index.ensures)
    (c.in_ok-classes.ensures.within.each _ (number_in c.in_ok-classes.classes.items c.loop-number.number c.index.result.now (omega (arith, c.loop-number-test.true, c.len-number-end.ensures)))))

pub split-requires : goal.split-requires
split-requires c = sym c.loop-number.invariant.same_length

pub loop-number-preserved : goal.loop-number-preserved
loop-number-preserved c =
    partition_more (HasClass c.args.schema.now.pool (take c.loop-number.number c.in_ok-classes.classes.items)) _ c.attribute_names-names.result.now.names c.loop-number.number (class_of c.class-class.result.now)
    (next_number c.args.schema.now.pool c.in_ok-classes.classes.items c.loop-number.number c.index.result.now (omega (arith, c.loop-number-test.true, c.len-number-end.ensures)) _
    (c.class-class.ensures ∙ ap (λ (s : Stored). class_at s c.index.result.now.0) c.pool.ensures ∙ ap (λ (id : ClassId). class_at c.args.schema.now.pool id.0) c.index.ensures))
    _ _ _ _ c.loop-number.invariant c.in_ok-split.ensures

pub returns : goal.returns
returns c =
    subst (λ (t : NameTable). AreGroups Name (AreAlikeNames (IsAttributeClass c.args.schema.now.schema)) t.names c.in_ok-groups.groups) c.attribute_names-names.ensures
    (partition_as (HasClass c.args.schema.now.pool (take c.loop-number.number c.in_ok-classes.classes.items)) (IsAttributeClass c.args.schema.now.schema)
    (all_numbers c.args.schema.now.pool c.in_ok-classes.classes.items c.loop-number.number (omega (arith, c.loop-number-test.false, c.len-number-end.ensures)) (IsAttributeClass c.args.schema.now.schema)
    c.in_ok-classes.ensures.each) c.attribute_names-names.result.now.names c.loop-number.number _ _
    c.in_ok-groups.groups c.loop-number.invariant c.in_ok-groups.ensures)
