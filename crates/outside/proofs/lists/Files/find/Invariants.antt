use Rattle.std.proofs.Common.{◌≡◌, map, drop, string_bytes}
use Rattle.outside.specs.Devices.{bytes_of}
use Rattle.outside.proofs.lists.Files.find.Given as goal

abbrev pub invariant-loop-place : goal.invariant-loop-place
invariant-loop-place l =
    bytes_of (map (λ file. (string_bytes file.0, file.1.items)) (drop l.place l.self-inside.items.items)) l.name ≡ bytes_of l.self l.name
