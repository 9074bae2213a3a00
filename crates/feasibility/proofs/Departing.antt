-- Where codes lead from states.
use Rattle.std.proofs.Common.{◌≡◌, ◌≢◌, ℕ, ◌+◌, ◌<◌, ◌≤◌, List, Option, Some, None, length, refl, sym, subst, arith, IfSome, IfNone}
use Rattle.rng_model.specs.Codes.{Code, IsInRange}
use Rattle.rng_model.specs.Patterns as pattern
use Rattle.rng_model.specs.Patterns.{Pattern, Schema, not_allowed}
use Rattle.rng_model.specs.States.{State, Place, Tag, Fresh, AfterText, AfterElement, Reach, step}
use Rattle.rng_model.specs.Universe.{Lists}
use Rattle.table_laws.specs.Reaching.{free_code, weight}
use Rattle.transitions.specs.declared.arc.Arc.{Arc}
use Rattle.transitions.specs.declared.state_id.StateId.{StateId}
use Rattle.transitions.specs.Arcs.{IsRow}
use Rattle.transitions.specs.Searches.{GoesNowhere, GoesTo, IsInOrder}
use Rattle.transitions.proofs.Lists.{get_of}
use Rattle.feasibility.specs.declared.explorer.Explorer.{Explorer}
use Rattle.feasibility.specs.Exploring.{IsAfter, IsFreeAt, at, found, names, schema}
use Rattle.feasibility.specs.Grown.{IsGrown}
use Rattle.feasibility.specs.Taking.{IsDeadEnd, IsKnownFor}

pub is_dead : (p : Pattern) → (p ≢ not_allowed → ⊥) → p ≡ not_allowed
is_dead not_allowed h = refl
is_dead pattern.empty h = absurd (h (λ e. absurd (cc)))
is_dead pattern.text h = absurd (h (λ e. absurd (cc)))
is_dead p h = absurd (h (λ e. absurd (cc)))

-- the other code without a node isn't allowed
pub other_free : (g : Schema) (u : Lists) (s : State) (c : Code) → weight c ≡ 0 → c ≢ free_code s.place → (step g u s c).pattern ≡ not_allowed
other_free g u s c w n = go s.place c w n
  where
    go : (pl : Place) (c : Code) → weight c ≡ 0 → c ≢ free_code pl → (step g u (record { place = pl; pattern = s.pattern }) c).pattern ≡ not_allowed
    go (Tag k) Code.Body w n = absurd (n refl)
    go (Tag k) Code.Closing w n = refl
    go Fresh Code.Closing w n = absurd (n refl)
    go AfterText Code.Closing w n = absurd (n refl)
    go AfterElement Code.Closing w n = absurd (n refl)
    go Fresh Code.Body w n = refl
    go AfterText Code.Body w n = refl
    go AfterElement Code.Body w n = refl
    go pl (Code.Opening i) w n = absurd (cc)
    go pl (Code.Attr j s) w n = absurd (cc)
    go pl (Code.Chars s) w n = absurd (cc)

pub light : (c : Code) → (weight c ≡ 1 → ⊥) → weight c ≡ 0
light (Code.Opening i) h = absurd (h refl)
light (Code.Attr n i) h = absurd (h refl)
light (Code.Chars i) h = absurd (h refl)
light Code.Body h = refl
light Code.Closing h = refl

module _ (e : Explorer) (id : ℕ) (row : List Arc) (r : IsRow (schema e) (names e) (found e) (at e id) row) where
  pub in_order : IsInOrder row
  in_order = record { some = r.some; ascending = r.ascending }

  pub led_to : (c : Code) (next : ℕ) → GoesTo row c next → IsAfter e id c next
  led_to c next g = subst (IsAfter e id c) g.to (r.right g.place g.arc c g.is g.covers)

  pub led_nowhere : (c : Code) → weight c ≡ 1 → IsInRange (names e) c → GoesNowhere row c → IsDeadEnd e id c
  led_nowhere c w i n =
      is_dead (step (schema e) (names e) (at e id) c).pattern
      (λ alive. let t = r.all c w (record { in_range = i; allowed = alive }) in n t.1.next.0 (record { place = t.0; arc = t.1; is = t.2; covers = t.3; to = refl }))

-- what follows a state that fewer nodes reach is known
pub known_for : (e : Explorer) (frees : List (Option StateId)) (rows : List (List Arc)) (levels : List ℕ) (id : ℕ) (c : Code) → IsGrown e frees rows levels → id < length (found e) →
    (k : ℕ) × Reach (schema e) (names e) k (at e id) × (k + weight c ≤ e.level) → IsKnownFor e frees rows id c
known_for e frees rows levels id c h l r = record {
  held = l;
  all_frees = h.all_frees;
  is_free = h.rows.free id;
  node = λ w.
      let m = r.2 in
      let a = h.all_levels in
      let n = get_of levels r.0 (omega (arith, a, m)) in
      let b = ((h.level r.0 n.0 n.1).each id l).1 r.1 in
      let s = h.stepped r.0 n.0 n.1 (omega (arith, w, m)) in
      let t = get_of rows id (omega (arith, b, s)) in
      (t.0, t.1, h.rows.row id t.0 t.1);
}

pub none_so : {X : Type 0} {P Q : Type 0} (x : Option X) → (P → Q) → IfNone x P → IfNone x Q
none_so None f h = f h
none_so (Some x) f h = h

module _ (e : Explorer) (id : ℕ) (c : Code) (is : c ≡ free_code (at e id).place) where
  pub free_some : (x : Option StateId) → IsFreeAt e id x → IfSome x (λ next. IsAfter e id c next.0)
  free_some None h = _
  free_some (Some next) h = subst (λ (d : Code). IsAfter e id d next.0) (sym is) h

  pub free_none : (x : Option StateId) → IsFreeAt e id x → IfNone x (IsDeadEnd e id c)
  free_none None h = subst (λ (d : Code). IsDeadEnd e id d) (sym is) h
  free_none (Some next) h = _
