use Rattle.std.proofs.Common.{◌≡◌, ◌≤◌, take, length}
use Rattle.name_resolution.proofs.namespaces.Namespaces.of.Given as goal

abbrev pub invariant-loop-file : goal.invariant-loop-file
invariant-loop-file l = (l.names ≡ take l.file l.full.files) × (l.file ≤ length l.full.files)
