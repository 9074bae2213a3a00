use Rattle.std.proofs.Common.{◌≡◌, take}
use Rattle.name_classes.proofs.class.NameClass.copy.Given as goal

-- the copies so far
abbrev pub invariant-loop-part : goal.invariant-loop-part
invariant-loop-part l = l.parts.items ≡ take l.part-index l.part-items
