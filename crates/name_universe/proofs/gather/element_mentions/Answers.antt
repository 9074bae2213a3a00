-- The class of each definition in turn.
use Rattle.std.proofs.Common.{arith}
use Rattle.rng_model.specs.Universe.{IsElementClass}
use Rattle.name_classes.specs.Views.{class_of}
use Rattle.name_universe.proofs.Gathering.{IsClassBelow, more_mentions, next_class, mentions_as, all_classes}
use Rattle.name_universe.proofs.gather.element_mentions.Goals as goal

pub loop-element-preserved : goal.loop-element-preserved
loop-element-preserved c =
    more_mentions (IsClassBelow c.args.schema.now.schema.elements c.loop-element.element) _ (class_of c.element_class-class.result.now)
    (next_class c.args.schema.now.schema.elements c.loop-element.element _ (omega (arith, c.loop-element-test.true, c.element_count-element-end.ensures)) c.element_class-class.ensures) _ _ _ _ c.loop-element.invariant
    c.in_ok-add_names.ensures c.in_ok-add_spaces.ensures

pub returns : goal.returns
returns c =
    mentions_as (IsClassBelow c.args.schema.now.schema.elements c.loop-element.element) (IsElementClass c.args.schema.now.schema)
    (all_classes c.args.schema.now.schema c.loop-element.element (omega (arith, c.loop-element-test.false, c.element_count-element-end.ensures))) _ _ c.loop-element.invariant
