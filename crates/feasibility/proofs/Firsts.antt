-- The start is found.
use Rattle.std.specs.Prelude.{IsTrue, ◌↔◌}
use Rattle.std.proofs.Common.{◌≡◌, Bool, true, inl, inr, List, [], ◌∷◌, ◌++◌, length, sym, ◌∙◌, ap, subst, arith}
use Rattle.rng_model.specs.Patterns.{not_allowed}
use Rattle.rng_model.specs.States.{State}
use Rattle.table_laws.specs.Reaching.{start_state}
use Rattle.pattern_intern.specs.Stored.{Stored, tree_at}
use Rattle.derivatives.specs.declared.states.State.{State as Key}
use Rattle.derivatives.specs.Views.{Machine, state_of}
use Rattle.transitions.specs.Arcs.{state_in}
use Rattle.feasibility.specs.declared.explorer.Explorer.{Explorer}
use Rattle.feasibility.specs.Exploring.{at, found, pool, schema, states_of}
use Rattle.feasibility.specs.Grown.{IsStarted}
use Rattle.feasibility.proofs.Apart.{length_states}

pub none_found : (e : Explorer) → e.states.keys ≡ [] → length (found e) ≡ 0
none_found e none = length_states (pool e) e.states.keys ∙ ap (λ (ks : List Key). length ks) none

pub started_dead : (e : Explorer) (k : Key) → e.states.keys ≡ [] → state_of (pool e) k ≡ start_state (schema e) → tree_at (pool e) k.pattern.0 ≡ not_allowed → IsStarted e
started_dead e k none start dead = inl (none_found e none, sym (ap (λ (s : State). s.pattern) start) ∙ dead)

module _ (e f : Explorer) (d : f.derivatives ≡ e.derivatives) (k : Key) (none : e.states.keys ≡ []) (keys : f.states.keys ≡ e.states.keys ++ k ∷ [])
    (start : state_of (pool e) k ≡ start_state (schema e)) where
  schema_is : schema f ≡ schema e
  schema_is = ap (λ (m : Machine). m.numbered.schema) d

  found_one : found f ≡ start_state (schema e) ∷ []
  found_one =
      ap (λ (m : Machine). states_of m.numbered.pool f.states.keys) d ∙ ap (states_of (pool e)) (keys ∙ ap (λ (ks : List Key). ks ++ k ∷ []) none)
      ∙ ap (λ (s : State). s ∷ []) start

  one_found : length (found f) ≡ 1
  one_found = ap (λ (xs : List State). length xs) found_one

  first_is : at f 0 ≡ start_state (schema e)
  first_is = ap (λ (xs : List State). state_in xs 0) found_one

  pub first_started : IsStarted f
  first_started = inr (omega (arith, one_found), first_is ∙ ap start_state (sym schema_is))

-- what the test on a pattern tells
pub told : (b : Bool) (e : Explorer) (k : Key) (s : Stored) → s ≡ pool e → (IsTrue b ↔ (tree_at s k.pattern.0 ≡ not_allowed)) → b ≡ true → tree_at (pool e) k.pattern.0 ≡ not_allowed
told b e k s p h q = subst (λ z. tree_at z k.pattern.0 ≡ not_allowed) p (h.0 q)
