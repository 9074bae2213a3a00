-- The least loop is the cause of the fault.
use Rattle.std.proofs.Common.{◌≡◌, ℕ, ◌≤◌, Option, Some, sym, ap, subst, arith}
use Rattle.std.specs.Option.{unwrap_or}
use Rattle.grammar_laws.specs.Files.{Full}
use Rattle.simple_form_laws.specs.Faults.{IsLoop}
use Rattle.schema_graph.specs.Shown.{IsGraph, IsClosed}
use Rattle.schema_graph.specs.declared.graph.Graph.{Graph}
use Rattle.pattern_forms.specs.Searching.{IsLoopAt, IsLeast, HasCycle}
use Rattle.pattern_forms.specs.Outcomes.{IsLeastLoop}
use Rattle.pattern_forms.proofs.Looping.{loop_in_graph, loop_in_tree}
use Rattle.pattern_forms.proofs.Descending.{has_loop}

pub least_fault : (g : Graph) (r : Option ℕ) → IsClosed g → HasCycle g → IsLeast g r → IsLeastLoop g (unwrap_or r 0)
least_fault g r c k l = record { loops = λ f h. there f h (has_loop f g h k); least = λ f h b q. low (l.covers b (loop_in_graph f g h b q)) }
  where
    low : {b : ℕ} → (m : ℕ) × (r ≡ Some m) × (m ≤ b) → unwrap_or r 0 ≤ b
    low (m, e, u) = let a : unwrap_or r 0 ≡ m = ap (λ o. unwrap_or o 0) e in omega arith

    there : (f : Full) → IsGraph f g → (at : ℕ) × IsLoopAt g at → IsLoop f (unwrap_or r 0)
    there f h (at, q) = on (l.covers at q)
      where
        on : (m : ℕ) × (r ≡ Some m) × (m ≤ at) → IsLoop f (unwrap_or r 0)
        on (m, e, u) = let a : unwrap_or r 0 ≡ m = ap (λ o. unwrap_or o 0) e in subst (λ x. IsLoop f x) (sym a) (loop_in_tree f g h c m (l.loops m e))
