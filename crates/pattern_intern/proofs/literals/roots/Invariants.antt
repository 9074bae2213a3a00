-- The contents so far are marked.
use Rattle.std.proofs.Common.{◌≡◌, ◌∷◌, false, map, take, replicate}
use Rattle.pattern_intern.specs.Marks.{with_marks}
use Rattle.pattern_intern.proofs.literals.roots.Given as goal

abbrev pub invariant-loop-k : goal.invariant-loop-k
invariant-loop-k l = l.marks.items ≡ with_marks (replicate l.fn.len false) (l.fn.start.0 ∷ take l.k (map (λ x. x.1) l.elements))
