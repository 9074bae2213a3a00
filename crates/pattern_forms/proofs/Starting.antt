-- Nothing is made, and nothing entered.
use Rattle.std.proofs.Common.{◌≡◌, ℕ, zero, suc, ◌<◌, ◌⊎◌, inl, inr, false, List, [], ◌∷◌, ◌++◌, length, Option, Some, None, slice_get, sym, subst, arith}
use Rattle.std.proofs.Math.ListN.{replicate}
use Rattle.rng_model.specs.Patterns as pattern
use Rattle.schema_graph.specs.declared.graph.Graph.{Graph}
use Rattle.pattern_intern.specs.Stored.{stored, tree_at}
use Rattle.pattern_intern.specs.Schemas.{AreRefsBelow, HasRefsBelow}
use Rattle.pattern_intern.specs.declared.id.PatternId.{PatternId}
use Rattle.pattern_forms.specs.Making.{IsMaking, IsPath, IsUnmade}
use Rattle.pattern_forms.specs.Outcomes.{HasForm}
use Rattle.pattern_forms.specs.declared.making.Making.{Making}
use Rattle.pattern_forms.proofs.Lists.{get_push, none_marked}

first_refs : (n : ℕ) → AreRefsBelow n (stored (pattern.not_allowed ∷ pattern.empty ∷ pattern.text ∷ []) [] [])
first_refs n = record { each = each }
  where
    each : (id : ℕ) → id < 3 → HasRefsBelow n (tree_at (stored (pattern.not_allowed ∷ pattern.empty ∷ pattern.text ∷ []) [] []) id)
    each zero l = tt
    each (suc zero) l = tt
    each (suc (suc zero)) l = tt
    each (suc (suc (suc k))) l = absurd (omega arith)

pub unmade_push : (forms : List (Option PatternId)) → IsUnmade forms → IsUnmade (forms ++ None ∷ [])
unmade_push forms h = record { each = λ i id e. go i id (get_push forms None i (Some id) e) }
  where
    go : (i : ℕ) (id : PatternId) → (slice_get forms i ≡ Some (Some id)) ⊎ ((i ≡ length forms) × (Some id ≡ None)) → ⊥
    go i id (inl e) = h.each i id e
    go i id (inr e) = let f = e.1 in absurd (cc)

pub unmade_none : IsUnmade []
unmade_none = record { each = λ i id e. absurd (cc) }

module _ (g : Graph) (m : Making) (un : IsUnmade m.forms.items) where
  no_form : (i : ℕ) (id : PatternId) → HasForm m.forms.items i id → ⊥
  no_form i id e = un.each i id e

  pub starts : length m.forms.items ≡ length g.nodes.items → length m.entered.items ≡ length g.nodes.items → m.pool ≡ stored (pattern.not_allowed ∷ pattern.empty ∷ pattern.text ∷ []) [] [] → IsMaking g m
  starts a b p = record {
    each = a;
    entries = b;
    within = record { each = λ i id e. absurd (no_form i id e) };
    formed = λ i id e. absurd (no_form i id e);
    closed = λ i q. absurd (no_form i q.0 q.1);
    reached = λ i q. absurd (no_form i q.0 q.1);
    refs = subst (λ s. AreRefsBelow (length g.elements.items) s) (sym p) (first_refs (length g.elements.items));
  }

pub no_path : (g : Graph) (m : Making) (n : ℕ) → m.entered.items ≡ replicate n false → IsPath g m []
no_path g m n e = record {
  reached = λ k x f. absurd (cc);
  leads = λ k x y f h. absurd (cc);
  passed = λ k l j x f h u. absurd (cc);
  open_ones = λ i t. absurd (none_marked m.entered.items n i e t);
}
