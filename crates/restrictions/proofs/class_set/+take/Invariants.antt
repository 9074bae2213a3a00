use Rattle.std.proofs.Common.{◌≡◌, ◌≤◌, ◌+◌, ◌*◌, ◌++◌, List, length}
use Rattle.rng_model.specs.Classes.{Class}
use Rattle.name_classes.specs.declared.part.Part.{Part}
use Rattle.name_classes.specs.Parts.{parts_of}
use Rattle.restrictions.proofs.Windows.{AreLeft}
use Rattle.restrictions.proofs.class_set.+take.Given as goal

abbrev pub decreases-take_class : goal.decreases-take_class
decreases-take_class l = 2 * length l.parts.now

abbrev pub decreases-take_part : goal.decreases-take_part
decreases-take_part l = 2 * length l.behind.now + 1

-- what is left of the class with which the list begins
abbrev pub invariant-take_class-loop-left : goal.invariant-take_class-loop-left
invariant-take_class-loop-left l =
    ((c : Class) (more : List Part) → l.fn.parts ≡ parts_of c ++ more → AreLeft l.names c more l.left l.taken l.rest)
    × (l.left + length l.rest ≤ 1 + length l.fn.parts) × (length l.rest ≤ length l.fn.parts)

abbrev pub decreases-take_class-loop-left : goal.decreases-take_class-loop-left
decreases-take_class-loop-left l = length l.rest
