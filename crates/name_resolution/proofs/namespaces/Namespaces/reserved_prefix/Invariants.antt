use Rattle.std.proofs.Common.{◌≡◌, ◌+◌, drop}
use Rattle.simple_form_laws.specs.Faults.{in_files}
use Rattle.name_resolution.specs.Least.{least, lesser}
use Rattle.name_resolution.specs.Places.{places_of, reserved_places}
use Rattle.name_resolution.proofs.namespaces.Namespaces.reserved_prefix.Given as goal

-- the faults of the files so far and of the rest, and where the rest begins
abbrev pub invariant-loop-file : goal.invariant-loop-file
invariant-loop-file l =
    (lesser l.found (least (in_files (λ g ds. reserved_places g.inherited ds) l.base (drop l.file-index l.file-items))) ≡ least (in_files (λ g ds. reserved_places g.inherited ds) 0 l.self))
    × (l.base + places_of (drop l.file-index l.file-items) ≡ places_of l.self)
