use Rattle.text_atoms.specs.Kinds.{kind_of}
use Rattle.restrictions.proofs.paths.paths_of.Goals as goal

pub returns-in-DataType-default-Some : goal.returns-in-DataType-default-Some
returns-in-DataType-default-Some c =
    rw (c.node.ensures.tree, c.in-DataType-default-Some.is, c.in-DataType-default-Some.field-1-is)
    (c.in_except.ensures (kind_of c.in-DataType-default-Some.field-0) _ c.known_at.ensures.paths)

pub returns-in-Attribute : goal.returns-in-Attribute
returns-in-Attribute c = rw (c.node.ensures.tree, c.in-Attribute.is) (c.in_attribute.ensures _ _ c.known_at-in-Attribute.ensures.paths)

pub returns-in-Group : goal.returns-in-Group
returns-in-Group c =
    rw (c.node.ensures.tree, c.in-Group.is)
    (c.in_group.ensures _ _ (c.either.ensures.choice _ _ c.known_at-in-Group.ensures.paths c.known_at-in-Group-2.ensures.paths))

pub returns-in-Interleave : goal.returns-in-Interleave
returns-in-Interleave c =
    rw (c.node.ensures.tree, c.in-Interleave.is)
    (c.in_interleave.ensures _ _ (c.either-in-Interleave.ensures.choice _ _ c.known_at-in-Interleave.ensures.paths c.known_at-in-Interleave-2.ensures.paths))
