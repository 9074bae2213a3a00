-- The class of each definition in turn.
use Rattle.std.proofs.Common.{arith, List, ℕ, sym, ◌∙◌, ap, subst, length}
use Rattle.rng_model.specs.Names.{Name}
use Rattle.rng_model.specs.Alike.{AreAlikeNames, AreGroups}
use Rattle.rng_model.specs.Universe.{IsElementClass}
use Rattle.name_classes.specs.Views.{class_of}
use Rattle.name_universe.specs.Tables.{NameTable}
use Rattle.name_universe.proofs.Gathering.{IsClassBelow, next_class, all_classes, no_class}
use Rattle.name_universe.proofs.Parting.{one_block, partition_more, partition_as}
use Rattle.name_universe.proofs.alike.alike_elements.Goals as goal

pub loop-element-init : goal.loop-element-init
loop-element-init c =
    one_block (IsClassBelow c.args.schema.now.schema.elements 0) (no_class c.args.schema.now.schema.elements) c.element_names-names.result.now.names c.len-count.result _ _
    (c.len-count.ensures.length ∙ ap (λ (ns : List Name). length ns) c.list.ensures.list) c.in_ok-partition.ensures.blocks c.in_ok-partition.ensures.splits

pub split-requires : goal.split-requires
split-requires c = sym c.loop-element.invariant.same_length

pub loop-element-preserved : goal.loop-element-preserved
loop-element-preserved c =
    partition_more (IsClassBelow c.args.schema.now.schema.elements c.loop-element.element) _ c.element_names-names.result.now.names c.loop-element.element (class_of c.element_class-class.result.now)
    (next_class c.args.schema.now.schema.elements c.loop-element.element _ (omega (arith, c.loop-element-test.true, c.element_count-element-end.ensures)) c.element_class-class.ensures) _ _ _ _ c.loop-element.invariant
    c.in_ok-split.ensures

pub returns : goal.returns
returns c =
    subst (λ (t : NameTable). AreGroups Name (AreAlikeNames (IsElementClass c.args.schema.now.schema)) t.names c.in_ok-groups.groups) c.element_names-names.ensures
    (partition_as (IsClassBelow c.args.schema.now.schema.elements c.loop-element.element) (IsElementClass c.args.schema.now.schema)
    (all_classes c.args.schema.now.schema c.loop-element.element (omega (arith, c.loop-element-test.false, c.element_count-element-end.ensures))) c.element_names-names.result.now.names c.loop-element.element _ _
    c.in_ok-groups.groups c.loop-element.invariant c.in_ok-groups.ensures)
