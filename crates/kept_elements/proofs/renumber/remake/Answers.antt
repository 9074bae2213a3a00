use Rattle.std.proofs.Common.{inl, inr, refl}
use Rattle.rng_model.specs.Patterns as pattern
use Rattle.text_atoms.specs.Kinds.{kind_of}
use Rattle.pattern_intern.specs.Stored.{tree_at, class_at}
use Rattle.kept_elements.proofs.Remaking.{listed_within, listed_below, its_part, except_remade, attribute_remade, more_remade, choice_remade, group_remade, interleave_remade}
use Rattle.kept_elements.proofs.renumber.remake.Goals as goal

pub made_at-requires : goal.made_at-requires
made_at-requires c = listed_within c.args.old.now c.args.pool.now c.args.kept.now c.args.made.now c.in-DataType-default-Some.except.0 (c.requires.parts c.in-DataType-default-Some.except.0 (rw c.in-DataType-default-Some.field-1-is at c.in-DataType-default-Some.ensures.below) (its_part c.args.old.now c.args.id.0 c.in-DataType-default-Some.except.0 (pattern.data_except (kind_of c.in-DataType-default-Some.kind) (tree_at c.args.old.now c.in-DataType-default-Some.except.0)) (rw c.in-DataType-default-Some.field-1-is at c.in-DataType-default-Some.ensures.tree) refl))

pub data_type-requires-in-DataType-default-Some : goal.data_type-requires-in-DataType-default-Some
data_type-requires-in-DataType-default-Some c = listed_below c.args.old.now c.args.pool.now c.args.kept.now c.args.made.now c.in-DataType-default-Some.except.0 c.made_at.result (c.requires.parts c.in-DataType-default-Some.except.0 (rw c.in-DataType-default-Some.field-1-is at c.in-DataType-default-Some.ensures.below) (its_part c.args.old.now c.args.id.0 c.in-DataType-default-Some.except.0 (pattern.data_except (kind_of c.in-DataType-default-Some.kind) (tree_at c.args.old.now c.in-DataType-default-Some.except.0)) (rw c.in-DataType-default-Some.field-1-is at c.in-DataType-default-Some.ensures.tree) refl)) c.made_at.ensures

pub returns-in_ok-data_type-in-DataType-default-Some-clause-made : goal.returns-in_ok-data_type-in-DataType-default-Some-clause-made
returns-in_ok-data_type-in-DataType-default-Some-clause-made c =
    except_remade c.args.old.now c.args.pool.now c.args.kept.now c.args.made.now c.data_type-in-DataType-default-Some.new.self c.args.id.0 c.in_ok-data_type-in-DataType-default-Some.field-0 c.in_ok-data_type-in-DataType-default-Some.ensures.within (kind_of c.in-DataType-default-Some.kind) c.in-DataType-default-Some.except.0 c.made_at.result (rw c.in-DataType-default-Some.field-1-is at c.in-DataType-default-Some.ensures.tree) c.requires.whole
    (c.requires.parts c.in-DataType-default-Some.except.0 (rw c.in-DataType-default-Some.field-1-is at c.in-DataType-default-Some.ensures.below) (its_part c.args.old.now c.args.id.0 c.in-DataType-default-Some.except.0 (pattern.data_except (kind_of c.in-DataType-default-Some.kind) (tree_at c.args.old.now c.in-DataType-default-Some.except.0)) (rw c.in-DataType-default-Some.field-1-is at c.in-DataType-default-Some.ensures.tree) refl)) c.made_at.ensures c.in_ok-data_type-in-DataType-default-Some.ensures.made

pub made_at-requires-in-Attribute : goal.made_at-requires-in-Attribute
made_at-requires-in-Attribute c = listed_within c.args.old.now c.args.pool.now c.args.kept.now c.args.made.now c.in-Attribute.content.0 (c.requires.parts c.in-Attribute.content.0 c.in-Attribute.ensures.below.1 (its_part c.args.old.now c.args.id.0 c.in-Attribute.content.0 (pattern.attribute (class_at c.args.old.now c.in-Attribute.class.0) (tree_at c.args.old.now c.in-Attribute.content.0)) c.in-Attribute.ensures.tree refl))

pub attribute-requires : goal.attribute-requires
attribute-requires c = listed_below c.args.old.now c.args.pool.now c.args.kept.now c.args.made.now c.in-Attribute.content.0 c.made_at-in-Attribute.result (c.requires.parts c.in-Attribute.content.0 c.in-Attribute.ensures.below.1 (its_part c.args.old.now c.args.id.0 c.in-Attribute.content.0 (pattern.attribute (class_at c.args.old.now c.in-Attribute.class.0) (tree_at c.args.old.now c.in-Attribute.content.0)) c.in-Attribute.ensures.tree refl)) c.made_at-in-Attribute.ensures

pub returns-in_ok-attribute-in-Attribute-clause-made : goal.returns-in_ok-attribute-in-Attribute-clause-made
returns-in_ok-attribute-in-Attribute-clause-made c =
    attribute_remade c.args.old.now c.args.pool.now c.args.kept.now c.args.made.now c.attribute.new.self c.args.id.0 c.in_ok-attribute-in-Attribute.field-0 c.in_ok-attribute-in-Attribute.ensures.within (class_at c.args.old.now c.in-Attribute.class.0) c.in-Attribute.content.0 c.made_at-in-Attribute.result c.in-Attribute.ensures.tree c.requires.whole
    (c.requires.parts c.in-Attribute.content.0 c.in-Attribute.ensures.below.1 (its_part c.args.old.now c.args.id.0 c.in-Attribute.content.0 (pattern.attribute (class_at c.args.old.now c.in-Attribute.class.0) (tree_at c.args.old.now c.in-Attribute.content.0)) c.in-Attribute.ensures.tree refl)) c.made_at-in-Attribute.ensures (rw c.class.ensures at c.in_ok-attribute-in-Attribute.ensures.made)

pub made_at-requires-in-OneOrMore : goal.made_at-requires-in-OneOrMore
made_at-requires-in-OneOrMore c = listed_within c.args.old.now c.args.pool.now c.args.kept.now c.args.made.now c.in-OneOrMore.part.0 (c.requires.parts c.in-OneOrMore.part.0 c.in-OneOrMore.ensures.below (its_part c.args.old.now c.args.id.0 c.in-OneOrMore.part.0 (pattern.one_or_more (tree_at c.args.old.now c.in-OneOrMore.part.0)) c.in-OneOrMore.ensures.tree refl))

pub one_or_more-requires : goal.one_or_more-requires
one_or_more-requires c = listed_below c.args.old.now c.args.pool.now c.args.kept.now c.args.made.now c.in-OneOrMore.part.0 c.made_at-in-OneOrMore.result (c.requires.parts c.in-OneOrMore.part.0 c.in-OneOrMore.ensures.below (its_part c.args.old.now c.args.id.0 c.in-OneOrMore.part.0 (pattern.one_or_more (tree_at c.args.old.now c.in-OneOrMore.part.0)) c.in-OneOrMore.ensures.tree refl)) c.made_at-in-OneOrMore.ensures

pub returns-in_ok-one_or_more-in-OneOrMore-clause-made : goal.returns-in_ok-one_or_more-in-OneOrMore-clause-made
returns-in_ok-one_or_more-in-OneOrMore-clause-made c =
    more_remade c.args.old.now c.args.pool.now c.args.kept.now c.args.made.now c.one_or_more.new.self c.args.id.0 c.in_ok-one_or_more-in-OneOrMore.field-0 c.in_ok-one_or_more-in-OneOrMore.ensures.within c.in-OneOrMore.part.0 c.made_at-in-OneOrMore.result c.in-OneOrMore.ensures.tree c.requires.whole
    (c.requires.parts c.in-OneOrMore.part.0 c.in-OneOrMore.ensures.below (its_part c.args.old.now c.args.id.0 c.in-OneOrMore.part.0 (pattern.one_or_more (tree_at c.args.old.now c.in-OneOrMore.part.0)) c.in-OneOrMore.ensures.tree refl)) c.made_at-in-OneOrMore.ensures c.in_ok-one_or_more-in-OneOrMore.ensures.made

pub made_at-requires-in-Choice : goal.made_at-requires-in-Choice
made_at-requires-in-Choice c = listed_within c.args.old.now c.args.pool.now c.args.kept.now c.args.made.now c.in-Choice.left.0 (c.requires.parts c.in-Choice.left.0 c.in-Choice.ensures.below.0 (its_part c.args.old.now c.args.id.0 c.in-Choice.left.0 (pattern.choice (tree_at c.args.old.now c.in-Choice.left.0) (tree_at c.args.old.now c.in-Choice.right.0)) c.in-Choice.ensures.tree (inl refl)))

pub made_at-requires-in-Choice-2 : goal.made_at-requires-in-Choice-2
made_at-requires-in-Choice-2 c = listed_within c.args.old.now c.args.pool.now c.args.kept.now c.args.made.now c.in-Choice.right.0 (c.requires.parts c.in-Choice.right.0 c.in-Choice.ensures.below.1 (its_part c.args.old.now c.args.id.0 c.in-Choice.right.0 (pattern.choice (tree_at c.args.old.now c.in-Choice.left.0) (tree_at c.args.old.now c.in-Choice.right.0)) c.in-Choice.ensures.tree (inr refl)))

pub choice-requires-clause-left : goal.choice-requires-clause-left
choice-requires-clause-left c = listed_below c.args.old.now c.args.pool.now c.args.kept.now c.args.made.now c.in-Choice.left.0 c.made_at-in-Choice.result (c.requires.parts c.in-Choice.left.0 c.in-Choice.ensures.below.0 (its_part c.args.old.now c.args.id.0 c.in-Choice.left.0 (pattern.choice (tree_at c.args.old.now c.in-Choice.left.0) (tree_at c.args.old.now c.in-Choice.right.0)) c.in-Choice.ensures.tree (inl refl))) c.made_at-in-Choice.ensures

pub choice-requires-clause-right : goal.choice-requires-clause-right
choice-requires-clause-right c = listed_below c.args.old.now c.args.pool.now c.args.kept.now c.args.made.now c.in-Choice.right.0 c.made_at-in-Choice-2.result (c.requires.parts c.in-Choice.right.0 c.in-Choice.ensures.below.1 (its_part c.args.old.now c.args.id.0 c.in-Choice.right.0 (pattern.choice (tree_at c.args.old.now c.in-Choice.left.0) (tree_at c.args.old.now c.in-Choice.right.0)) c.in-Choice.ensures.tree (inr refl))) c.made_at-in-Choice-2.ensures

pub returns-in_ok-choice-in-Choice-clause-made : goal.returns-in_ok-choice-in-Choice-clause-made
returns-in_ok-choice-in-Choice-clause-made c =
    choice_remade c.args.old.now c.args.pool.now c.args.kept.now c.args.made.now c.choice.new.self c.args.id.0 c.in_ok-choice-in-Choice.field-0 c.in_ok-choice-in-Choice.ensures.within c.requires.refs c.in-Choice.left.0 c.in-Choice.right.0 c.made_at-in-Choice.result c.made_at-in-Choice-2.result c.in-Choice.ensures.tree c.requires.whole
    (c.requires.parts c.in-Choice.left.0 c.in-Choice.ensures.below.0 (its_part c.args.old.now c.args.id.0 c.in-Choice.left.0 (pattern.choice (tree_at c.args.old.now c.in-Choice.left.0) (tree_at c.args.old.now c.in-Choice.right.0)) c.in-Choice.ensures.tree (inl refl))) (c.requires.parts c.in-Choice.right.0 c.in-Choice.ensures.below.1 (its_part c.args.old.now c.args.id.0 c.in-Choice.right.0 (pattern.choice (tree_at c.args.old.now c.in-Choice.left.0) (tree_at c.args.old.now c.in-Choice.right.0)) c.in-Choice.ensures.tree (inr refl))) c.made_at-in-Choice.ensures c.made_at-in-Choice-2.ensures c.in_ok-choice-in-Choice.ensures.made

pub made_at-requires-in-Group : goal.made_at-requires-in-Group
made_at-requires-in-Group c = listed_within c.args.old.now c.args.pool.now c.args.kept.now c.args.made.now c.in-Group.left.0 (c.requires.parts c.in-Group.left.0 c.in-Group.ensures.below.0 (its_part c.args.old.now c.args.id.0 c.in-Group.left.0 (pattern.group (tree_at c.args.old.now c.in-Group.left.0) (tree_at c.args.old.now c.in-Group.right.0)) c.in-Group.ensures.tree (inl refl)))

pub made_at-requires-in-Group-2 : goal.made_at-requires-in-Group-2
made_at-requires-in-Group-2 c = listed_within c.args.old.now c.args.pool.now c.args.kept.now c.args.made.now c.in-Group.right.0 (c.requires.parts c.in-Group.right.0 c.in-Group.ensures.below.1 (its_part c.args.old.now c.args.id.0 c.in-Group.right.0 (pattern.group (tree_at c.args.old.now c.in-Group.left.0) (tree_at c.args.old.now c.in-Group.right.0)) c.in-Group.ensures.tree (inr refl)))

pub group-requires-clause-left : goal.group-requires-clause-left
group-requires-clause-left c = listed_below c.args.old.now c.args.pool.now c.args.kept.now c.args.made.now c.in-Group.left.0 c.made_at-in-Group.result (c.requires.parts c.in-Group.left.0 c.in-Group.ensures.below.0 (its_part c.args.old.now c.args.id.0 c.in-Group.left.0 (pattern.group (tree_at c.args.old.now c.in-Group.left.0) (tree_at c.args.old.now c.in-Group.right.0)) c.in-Group.ensures.tree (inl refl))) c.made_at-in-Group.ensures

pub group-requires-clause-right : goal.group-requires-clause-right
group-requires-clause-right c = listed_below c.args.old.now c.args.pool.now c.args.kept.now c.args.made.now c.in-Group.right.0 c.made_at-in-Group-2.result (c.requires.parts c.in-Group.right.0 c.in-Group.ensures.below.1 (its_part c.args.old.now c.args.id.0 c.in-Group.right.0 (pattern.group (tree_at c.args.old.now c.in-Group.left.0) (tree_at c.args.old.now c.in-Group.right.0)) c.in-Group.ensures.tree (inr refl))) c.made_at-in-Group-2.ensures

pub returns-in_ok-group-in-Group-clause-made : goal.returns-in_ok-group-in-Group-clause-made
returns-in_ok-group-in-Group-clause-made c =
    group_remade c.args.old.now c.args.pool.now c.args.kept.now c.args.made.now c.group.new.self c.args.id.0 c.in_ok-group-in-Group.field-0 c.in_ok-group-in-Group.ensures.within c.in-Group.left.0 c.in-Group.right.0 c.made_at-in-Group.result c.made_at-in-Group-2.result c.in-Group.ensures.tree c.requires.whole
    (c.requires.parts c.in-Group.left.0 c.in-Group.ensures.below.0 (its_part c.args.old.now c.args.id.0 c.in-Group.left.0 (pattern.group (tree_at c.args.old.now c.in-Group.left.0) (tree_at c.args.old.now c.in-Group.right.0)) c.in-Group.ensures.tree (inl refl))) (c.requires.parts c.in-Group.right.0 c.in-Group.ensures.below.1 (its_part c.args.old.now c.args.id.0 c.in-Group.right.0 (pattern.group (tree_at c.args.old.now c.in-Group.left.0) (tree_at c.args.old.now c.in-Group.right.0)) c.in-Group.ensures.tree (inr refl))) c.made_at-in-Group.ensures c.made_at-in-Group-2.ensures c.in_ok-group-in-Group.ensures.made

pub made_at-requires-in-Interleave : goal.made_at-requires-in-Interleave
made_at-requires-in-Interleave c = listed_within c.args.old.now c.args.pool.now c.args.kept.now c.args.made.now c.in-Interleave.left.0 (c.requires.parts c.in-Interleave.left.0 c.in-Interleave.ensures.below.0 (its_part c.args.old.now c.args.id.0 c.in-Interleave.left.0 (pattern.interleave (tree_at c.args.old.now c.in-Interleave.left.0) (tree_at c.args.old.now c.in-Interleave.right.0)) c.in-Interleave.ensures.tree (inl refl)))

pub made_at-requires-in-Interleave-2 : goal.made_at-requires-in-Interleave-2
made_at-requires-in-Interleave-2 c = listed_within c.args.old.now c.args.pool.now c.args.kept.now c.args.made.now c.in-Interleave.right.0 (c.requires.parts c.in-Interleave.right.0 c.in-Interleave.ensures.below.1 (its_part c.args.old.now c.args.id.0 c.in-Interleave.right.0 (pattern.interleave (tree_at c.args.old.now c.in-Interleave.left.0) (tree_at c.args.old.now c.in-Interleave.right.0)) c.in-Interleave.ensures.tree (inr refl)))

pub interleave-requires-clause-left : goal.interleave-requires-clause-left
interleave-requires-clause-left c = listed_below c.args.old.now c.args.pool.now c.args.kept.now c.args.made.now c.in-Interleave.left.0 c.made_at-in-Interleave.result (c.requires.parts c.in-Interleave.left.0 c.in-Interleave.ensures.below.0 (its_part c.args.old.now c.args.id.0 c.in-Interleave.left.0 (pattern.interleave (tree_at c.args.old.now c.in-Interleave.left.0) (tree_at c.args.old.now c.in-Interleave.right.0)) c.in-Interleave.ensures.tree (inl refl))) c.made_at-in-Interleave.ensures

pub interleave-requires-clause-right : goal.interleave-requires-clause-right
interleave-requires-clause-right c = listed_below c.args.old.now c.args.pool.now c.args.kept.now c.args.made.now c.in-Interleave.right.0 c.made_at-in-Interleave-2.result (c.requires.parts c.in-Interleave.right.0 c.in-Interleave.ensures.below.1 (its_part c.args.old.now c.args.id.0 c.in-Interleave.right.0 (pattern.interleave (tree_at c.args.old.now c.in-Interleave.left.0) (tree_at c.args.old.now c.in-Interleave.right.0)) c.in-Interleave.ensures.tree (inr refl))) c.made_at-in-Interleave-2.ensures

pub returns-in_ok-interleave-in-Interleave-clause-made : goal.returns-in_ok-interleave-in-Interleave-clause-made
returns-in_ok-interleave-in-Interleave-clause-made c =
    interleave_remade c.args.old.now c.args.pool.now c.args.kept.now c.args.made.now c.interleave.new.self c.args.id.0 c.in_ok-interleave-in-Interleave.field-0 c.in_ok-interleave-in-Interleave.ensures.within c.in-Interleave.left.0 c.in-Interleave.right.0 c.made_at-in-Interleave.result c.made_at-in-Interleave-2.result c.in-Interleave.ensures.tree c.requires.whole
    (c.requires.parts c.in-Interleave.left.0 c.in-Interleave.ensures.below.0 (its_part c.args.old.now c.args.id.0 c.in-Interleave.left.0 (pattern.interleave (tree_at c.args.old.now c.in-Interleave.left.0) (tree_at c.args.old.now c.in-Interleave.right.0)) c.in-Interleave.ensures.tree (inl refl))) (c.requires.parts c.in-Interleave.right.0 c.in-Interleave.ensures.below.1 (its_part c.args.old.now c.args.id.0 c.in-Interleave.right.0 (pattern.interleave (tree_at c.args.old.now c.in-Interleave.left.0) (tree_at c.args.old.now c.in-Interleave.right.0)) c.in-Interleave.ensures.tree (inr refl))) c.made_at-in-Interleave.ensures c.made_at-in-Interleave-2.ensures c.in_ok-interleave-in-Interleave.ensures.made
