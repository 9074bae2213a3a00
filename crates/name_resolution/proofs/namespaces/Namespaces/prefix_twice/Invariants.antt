use Rattle.std.proofs.Common.{◌≡◌, ◌+◌, drop}
use Rattle.simple_form_laws.specs.Faults.{in_files}
use Rattle.name_resolution.specs.Least.{least, lesser}
use Rattle.name_resolution.specs.Places.{places_of, later_bindings}
use Rattle.name_resolution.proofs.namespaces.Namespaces.prefix_twice.Given as goal

-- the faults of the files so far and of the rest, and where the rest begins
abbrev pub invariant-loop-file : goal.invariant-loop-file
invariant-loop-file l =
    (lesser l.found (least (in_files (λ g ds. later_bindings ds) l.base (drop l.file-index l.file-items))) ≡ least (in_files (λ g ds. later_bindings ds) 0 l.self))
    × (l.base + places_of (drop l.file-index l.file-items) ≡ places_of l.self)
