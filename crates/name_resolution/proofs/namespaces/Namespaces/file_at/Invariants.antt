use Rattle.std.proofs.Common.{◌≡◌, drop}
use Rattle.simple_form_laws.specs.Prefixes.{file_at}
use Rattle.name_resolution.proofs.namespaces.Namespaces.file_at.Given as goal

abbrev pub invariant-loop-file : goal.invariant-loop-file
invariant-loop-file l = file_at (drop l.file-index l.file-items) l.left ≡ file_at l.self l.at
