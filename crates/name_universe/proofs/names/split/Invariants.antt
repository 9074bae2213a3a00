use Rattle.std.proofs.Common.{◌≡◌, ◌++◌, map, length}
use Rattle.name_universe.proofs.names.split.Given as goal

-- what isn't left is moved
abbrev pub invariant-entries : goal.invariant-entries
invariant-entries l =
    (map (λ e. e.0) l.initial.table.entries ≡ l.names ++ map (λ e. e.0) l.table.entries) × (map (λ e. e.1) l.initial.table.entries ≡ l.origins.items ++ map (λ e. e.1) l.table.entries)

abbrev pub decreases-entries : goal.decreases-entries
decreases-entries l = length l.table.entries
