-- Where codes lead while states are found.
use Rattle.std.proofs.Common.{◌≡◌, ℕ, ◌+◌, ◌<◌, List, length, refl, sym, ◌∙◌, subst}
use Rattle.rng_model.specs.Codes.{Code}
use Rattle.rng_model.specs.States.{Reach, step}
use Rattle.table_laws.specs.Reaching.{weight}
use Rattle.table_laws.specs.Places.{place_after}
use Rattle.table_laws.proofs.Levels.{reach_step, reach_more}
use Rattle.table_laws.proofs.AlikeLaw.{place_is}
use Rattle.skeleton.specs.declared.code.Code.{Code as RustCode}
use Rattle.skeleton.specs.Views.{code_of}
use Rattle.pattern_intern.specs.declared.id.PatternId.{PatternId}
use Rattle.derivatives.specs.declared.states.Place.{Place}
use Rattle.derivatives.specs.Views.{place_of, state_of}
use Rattle.transitions.specs.declared.arc.Arc.{Arc}
use Rattle.transitions.specs.declared.state_id.StateId.{StateId}
use Rattle.transitions.specs.Runs.{IsAdded}
use Rattle.feasibility.specs.declared.explorer.Explorer.{Explorer}
use Rattle.feasibility.specs.declared.family.Family.{Family}
use Rattle.feasibility.specs.Exploring.{IsAfter, IsFound, IsLeading, IsReachedBefore, IsRowAt, Finds, found, at, pool, schema, names}
use Rattle.feasibility.specs.Families.{family_code}
use Rattle.feasibility.proofs.Finding.{finds_names}
use Rattle.feasibility.proofs.Merging.{row_grows}
use Rattle.feasibility.proofs.Rowing.{row_stays}

module _ (e : Explorer) (id : ℕ) (c : Code) (place : Place) (pattern : PatternId) (pl : place_of place ≡ place_after c) (l : IsLeading e id c pattern) where
  -- the state of the place and the pattern is the one after the code
  pub leads_there : state_of (pool e) (record { place = place; pattern = pattern }) ≡ step (schema e) (names e) (at e id) c
  leads_there =
      let p = pl ∙ sym (place_is (schema e) (names e) (at e id) c l.allowed) in
      let q = l.is in
      (λ i. record { place = p i; pattern = q i })

  pub leads_within : IsReachedBefore e id (weight c) → Reach (schema e) (names e) e.level (state_of (pool e) (record { place = place; pattern = pattern }))
  leads_within r =
      subst (Reach (schema e) (names e) e.level) (sym leads_there)
      (reach_more (schema e) (names e) (r.0 + weight c) e.level (step (schema e) (names e) (at e id) c) r.1
      (reach_step (schema e) (names e) r.0 (at e id) c r.2 (record { in_range = l.in_range; allowed = l.alive })))

  pub after_found : (f : Explorer) → Finds e f → id < length (found e) → (next : ℕ) → IsFound f (state_of (pool e) (record { place = place; pattern = pattern })) next → IsAfter f id c next
  after_found f x w next h =
      rw (x.schema, finds_names e f x, x.states id w) (record { held = h.within; in_range = l.in_range; state = h.is ∙ leads_there })

-- the row with the arc of a further position
pub row_leads : (e f : Explorer) (id : ℕ) (family : Family) (p : ℕ) (first : RustCode) (next : StateId) (arcs new : List Arc) → Finds e f → id < length (found e) →
    code_of first ≡ family_code family p → IsAfter f id (code_of first) next.0 → IsAdded arcs (record { first = first; last = p; next = next }) new → IsRowAt e id family p arcs →
    IsRowAt f id family (p + 1) new
row_leads e f id family p first next arcs new x w same after added h =
    row_grows (schema f) (names f) (found f) (at f id) family p arcs new (record { first = first; last = p; next = next }) same refl
    (rw (x.schema, finds_names e f x, x.states id w) (row_stays (schema e) (names e) (found e) (found f) (at e id) (family_code family p) arcs x.longer x.states h))
    (subst (λ c. IsAfter f id c next.0) same after) added

pub reached_before : (e f : Explorer) (id w : ℕ) → Finds e f → id < length (found e) → IsReachedBefore e id w → IsReachedBefore f id w
reached_before e f id w x l r = rw (x.schema, finds_names e f x, x.level, x.states id l) r
