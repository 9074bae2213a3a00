-- Which states of a table are marked.
use Rattle.std.proofs.Common.{◌≡◌, ℕ, zero, suc, ◌+◌, ◌-◌, ◌<◌, ◌≤◌, ◌↔◌, ◌⊎◌, inl, inr, Bool, IsTrue, Option, Some, List, slice_get, length, refl, sym, ◌∙◌, ap, subst, arith}
use Rattle.std.proofs.lemmas.Option.{slice_get_within}
use Rattle.rng_model.specs.Codes.{Code}
use Rattle.rng_model.specs.States.{State, Reach, step}
use Rattle.table_laws.specs.Reaching.{Leads, free_code, weight}
use Rattle.table_laws.proofs.Levels.{reach_more, reach_step}
use Rattle.table_laws.proofs.Marks.{free_weight}
use Rattle.skeleton.specs.Views.{code_of}
use Rattle.transitions.specs.declared.arc.Arc.{Arc}
use Rattle.transitions.specs.declared.state_id.StateId.{StateId}
use Rattle.transitions.specs.Arcs.{LeadsTo}
use Rattle.transitions.specs.Automata.{AreAlive}
use Rattle.transitions.specs.Marked.{HasMarks, Stay}
use Rattle.transitions.proofs.Finishing as finishing
use Rattle.transitions.proofs.Finishing.{heavy}
use Rattle.transitions.proofs.Lists.{get_of}
use Rattle.feasibility.specs.declared.explorer.Explorer.{Explorer}
use Rattle.feasibility.specs.Exploring.{IsExploring, at, automaton, found, names, schema}
use Rattle.feasibility.specs.Grown.{IsGrown, IsLevel}
use Rattle.feasibility.specs.Marking.{AreMarked, AreReady, AreRight, Finishes, IsFilled, IsClosed, IsReadyNode}

-- a state that is reached allows something
pub are_alive : (e : Explorer) → IsExploring e → AreAlive (automaton e)
are_alive e x = record { alive = λ id l. (x.reached id l).allowed }

pub leads_alive : (e : Explorer) → IsExploring e → (id next : ℕ) (c : Code) → LeadsTo (schema e) (names e) (found e) (at e id) c next → Leads (schema e) (names e) (at e id) c
leads_alive e x id next c l = finishing.leads_alive (automaton e) (are_alive e x) id next c l

less_or_same : (q p : ℕ) → q < p + 1 → (q < p) ⊎ (p ≡ q)
less_or_same zero zero l = inr refl
less_or_same zero (suc p) l = inl (omega arith)
less_or_same (suc q) zero l = absurd (omega arith)
less_or_same (suc q) (suc p) l = go (less_or_same q p (omega arith))
  where
    go : (q < p) ⊎ (p ≡ q) → (suc q < suc p) ⊎ (suc p ≡ suc q)
    go (inl h) = inl (omega arith)
    go (inr e) = inr (ap suc e)

-- one list more is long enough
pub marked_more : (e : Explorer) (levels : List ℕ) (rest k n : ℕ) (old new : List (List Bool)) → AreMarked e levels rest old → Stay rest old new → HasMarks new rest n →
    slice_get levels k ≡ Some n → k + rest ≡ e.level → AreMarked e levels (rest + 1) new
marked_more e levels rest k n old new below stay has is sum = record {
  many = (let w = slice_get_within new rest has.0 has.1 in omega (arith, w));
  all = λ r j m l s g. go r j m s g (less_or_same r rest l);
}
  where
    go : (r j m : ℕ) → j + r ≡ e.level → slice_get levels j ≡ Some m → (r < rest) ⊎ (rest ≡ r) → HasMarks new r m
    go r j m s g (inl l) = let q = below.all r j m l s g in (q.0, stay.same r l ∙ q.1, q.2)
    go r j m s g (inr e) =
        let f : j ≡ k = omega (arith, s, sum, e) in
        let h : slice_get levels k ≡ Some m = subst (λ z. slice_get levels z ≡ Some m) f g in
        let p : n ≡ m = cc in
        subst (λ z. HasMarks new z m) e (subst (λ z. HasMarks new rest z) p has)

-- the list of marks grows by the states that are below the number
module _ (e : Explorer) (frees : List (Option StateId)) (rows : List (List Arc)) (levels : List ℕ) (h : IsGrown e frees rows levels) (k rest n : ℕ) (sum : k + rest ≡ e.level)
    (is : slice_get levels k ≡ Some n) where
  level : IsLevel e k n
  level = h.level k n is

  reached : (id : ℕ) → id < n → Reach (schema e) (names e) k (at e id)
  reached id l = ((level.each id (let m = level.most in omega (arith, l, m))).0 l)

  -- where a code leads from a state of the level
  led : (m id next w : ℕ) (c : Code) (j : ℕ) → slice_get levels j ≡ Some m → weight c ≡ w → k + w ≤ j → id < n → LeadsTo (schema e) (names e) (found e) (at e id) c next → next < m
  led m id next w c j g v l i t =
      let a = leads_alive e h.exploring id next c t in
      let r = reach_step (schema e) (names e) k (at e id) c (reached id i) a in
      let q = reach_more (schema e) (names e) (k + weight c) j (step (schema e) (names e) (at e id) c) (omega (arith, v, l)) r in
      ((h.level j m g).each next t.held).1 (subst (Reach (schema e) (names e) j) (sym t.state) q)

  pub closed_at : IsClosed e frees n
  closed_at = record {
    most = (let m = level.most in let a = h.all_frees in omega (arith, m, a));
    free = h.rows.free;
    stays = λ id next l g. led n id next.0 0 (free_code (at e id).place) k is (free_weight (schema e) (names e) (at e id)) (omega arith) l (h.rows.free id (Some next) g);
  }

  module _ (marks : List (List Bool)) (right : AreRight e marks) (below : AreMarked e levels rest marks) where
    node_at : (id left : ℕ) → id < n → rest ≡ left + 1 → IsReadyNode e rows left id marks
    node_at id left l p =
        let d = h.stepped k n is (omega (arith, sum, p)) in
        let r = get_of rows id (omega (arith, d, l)) in
        let a = h.all_levels in
        let m = get_of levels (k + 1) (omega (arith, sum, p, a)) in
        let q = below.all left (k + 1) m.0 (omega (arith, p)) (omega (arith, sum, p)) m.1 in
        let row = h.rows.row id r.0 r.1 in
        record {
          row = r.0;
          is_row = r.1;
          leads = row;
          list = q.0;
          is_list = q.1;
          right = right.right left q.0 q.1;
          within = record {
            each = λ i a g.
                let c = code_of a.first in
                let s = row.some i a g in
                let b = led m.0 id a.next.0 1 c (k + 1) m.1 (heavy c a.last c s) (omega arith) l (row.right i a c g s) in
                let z = q.2 in
                omega (arith, b, z);
          };
        }

    pub ready_at : AreReady e rows rest n marks
    ready_at = record { each = λ id l. record { held = (let m = level.most in omega (arith, l, m)); node = λ left p. node_at id left l p } }

-- a state that so many nodes less than the size reach is marked
module _ (e : Explorer) (frees : List (Option StateId)) (rows : List (List Arc)) (levels : List ℕ) (marks : List (List Bool)) (h : IsFilled e frees rows levels marks)
    (id rest : ℕ) (l : id < length (found e)) (r : (k : ℕ) × Reach (schema e) (names e) k (at e id) × (k + rest ≤ e.level)) where
  pub marked_in : HasMarks marks rest (id + 1)
  marked_in =
      let m = r.2 in
      let k = e.level - rest in
      let a = h.grown.all_levels in
      let n = get_of levels k (omega (arith, a)) in
      let q = h.marked.all rest k n.0 (omega (arith, m)) (omega (arith, m)) n.1 in
      let w = ((h.grown.level k n.0 n.1).each id l).1 (reach_more (schema e) (names e) r.0 k (at e id) (omega (arith, m)) r.1) in
      let z = q.2 in
      (q.0, q.1, omega (arith, w, z))

  pub finish_in : (b : Bool) → ((list : List Bool) → slice_get marks rest ≡ Some list → slice_get list id ≡ Some b) → IsTrue b ↔ Finishes e rest id
  finish_in b g = (h.right.right rest marked_in.0 marked_in.1).each id b (g marked_in.0 marked_in.1)
