-- The class of each number in turn.
use Rattle.std.proofs.Common.{take, ◌+◌, ◌∙◌, ap, get_or}
use Rattle.name_classes.specs.Views.{class_of}
use Rattle.pattern_intern.specs.Attributes.{HasClass}
use Rattle.pattern_intern.specs.Stored.{Stored, class_at}
use Rattle.name_universe.proofs.Gathering.{more_mentions, next_number, number_in}
use Rattle.name_universe.proofs.gather.mentions_of.Goals as goal

pub class-class-requires : goal.class-class-requires
class-class-requires c = rw c.pool.ensures (c.requires.each _ (number_in c.args.classes.now c.loop-id.id-index (record { 0 = 0 }) c.loop-id-test.true))

pub loop-id-preserved : goal.loop-id-preserved
loop-id-preserved c =
    more_mentions (HasClass c.args.schema.now.pool (take c.loop-id.id-index c.args.classes.now)) _ (class_of c.class-class.result.now)
    (next_number c.args.schema.now.pool c.args.classes.now c.loop-id.id-index (record { 0 = 0 }) c.loop-id-test.true _
    (c.class-class.ensures ∙ ap (λ (s : Stored). class_at s (get_or c.args.classes.now c.loop-id.id-index (record { 0 = 0 })).0) c.pool.ensures)) _ _ _ _ c.loop-id.invariant
    c.in_ok-add_names.ensures c.in_ok-add_spaces.ensures
