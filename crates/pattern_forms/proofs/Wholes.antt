-- All nodes that can be reached have their forms.
use Rattle.std.proofs.Common.{◌≡◌, ℕ, ◌+◌, ◌<◌, ◌≤◌, ◌⊎◌, inl, inr, true, [], length, sym, subst, arith}
use Rattle.schema_graph.specs.Shown.{IsClosed}
use Rattle.schema_graph.specs.declared.graph.Graph.{Graph}
use Rattle.pattern_forms.specs.Reaching.{Reaches}
use Rattle.pattern_forms.specs.Outcomes.{IsMade}
use Rattle.pattern_forms.specs.Making.{IsMaking, IsPath, Grows, IsMadeSo, AllMade}
use Rattle.pattern_forms.specs.declared.making.Making.{Making}
use Rattle.pattern_forms.proofs.Lists.{same_or_not}
use Rattle.pattern_forms.proofs.Leading.{reached_within}

module _ (g : Graph) where
  pub so_none : (m : Making) → IsMaking g m → IsPath g m [] → IsMadeSo g 0 m
  so_none m h p = record { making = h; settled = p; made = λ i l r. absurd (omega arith) }

  low : (i k : ℕ) → i < k + 1 → (i ≡ k → ⊥) → i < k
  low i k l n = omega arith

  pub so_more : (k : ℕ) (old new : Making) → IsMadeSo g k old → IsMaking g new → IsPath g new [] → Grows old new → IsMade new.forms.items k → IsMadeSo g (k + 1) new
  so_more k old new h m p w made = record { making = m; settled = p; made = λ i l r. which i l r (same_or_not i k) }
    where
      which : (i : ℕ) → i < k + 1 → Reaches g true g.root i → (i ≡ k) ⊎ (i ≡ k → ⊥) → IsMade new.forms.items i
      which i l r (inl e) = subst (λ x. IsMade new.forms.items x) (sym e) made
      which i l r (inr n) = w.made i (h.made i (low i k l n) r)

  pub so_skip : (k : ℕ) (m : Making) → IsMadeSo g k m → (Reaches g true g.root k → ⊥) → IsMadeSo g (k + 1) m
  so_skip k m h f = record { making = h.making; settled = h.settled; made = λ i l r. which i l r (same_or_not i k) }
    where
      which : (i : ℕ) → i < k + 1 → Reaches g true g.root i → (i ≡ k) ⊎ (i ≡ k → ⊥) → IsMade m.forms.items i
      which i l r (inl e) = absurd (f (subst (λ x. Reaches g true g.root x) e r))
      which i l r (inr n) = h.made i (low i k l n) r

  pub so_all : (k : ℕ) (m : Making) → IsClosed g → length g.nodes.items ≤ k → IsMadeSo g k m → AllMade g m
  so_all k m c l h = record { making = h.making; made = λ i r. h.made i (let w = reached_within g c c.root r in omega arith) r }
