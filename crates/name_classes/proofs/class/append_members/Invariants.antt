use Rattle.std.proofs.Common.{◌≡◌, map, ◌++◌}
use Rattle.std.specs.Prelude.{flat_map}
use Rattle.name_classes.specs.Parts.{parts_of}
use Rattle.name_classes.specs.Views.{class_of}
use Rattle.name_classes.proofs.class.append_members.Given as goal

-- the parts of the members so far
abbrev pub invariant-loop-member : goal.invariant-loop-member
invariant-loop-member l = l.parts.items ≡ l.fn.parts.items ++ flat_map parts_of (map class_of l.yielded)
