-- The codes that a state can take, by its row and the marks.
use Rattle.std.proofs.Common.{◌≡◌, ℕ, ◌+◌, ◌-◌, ◌<◌, ◌≤◌, ◌↔◌, Bool, true, false, true≢false, IsTrue, IfSome, List, Option, Some, None, length, slice_get, get_or, refl, sym, ◌∙◌, ap, subst, arith}
use Rattle.std.specs.declared.cmp.Ordering.TheVariants.{Less}
use Rattle.std.proofs.lemmas.Option.{slice_get_within}
use Rattle.rng_model.specs.Codes.{Code, code_cmp}
use Rattle.rng_model.specs.Patterns.{not_allowed}
use Rattle.rng_model.specs.States.{Reach, step}
use Rattle.table_laws.specs.Finishing.{Finish}
use Rattle.table_laws.specs.Reaching.{free_code, weight}
use Rattle.table_laws.proofs.Free.{one_free}
use Rattle.table_laws.proofs.Levels.{reach_more, reach_step}
use Rattle.table_laws.proofs.Marks.{free_weight}
use Rattle.skeleton.specs.Views.{code_of}
use Rattle.transitions.specs.declared.arc.Arc.{Arc}
use Rattle.transitions.specs.declared.state_id.StateId.{StateId}
use Rattle.transitions.specs.Bounds.{IsPast}
use Rattle.transitions.specs.Searches.{GoesToMarked, IsLeastMarked, NoneMarked}
use Rattle.transitions.proofs.Lists.{get_here, get_of}
use Rattle.transitions.proofs.Finishing.{heavy}
use Rattle.transitions.proofs.Ordered.{less_isnt, turned}
use Rattle.feasibility.specs.declared.explorer.Explorer.{Explorer}
use Rattle.feasibility.specs.Exploring.{IsAfter, IsExploring, IsFreeAt, at, found, names, schema}
use Rattle.feasibility.specs.Marking.{AreMarked, Finishes, IsFilled, IsReady, IsReadyNode}
use Rattle.feasibility.specs.Taking.{CanGoOn, IsFreeKnown, IsLeastTaken, NoneTaken}
use Rattle.feasibility.proofs.Departing.{led_to}
use Rattle.feasibility.proofs.Marking.{leads_alive, marked_in, ready_at}

-- no code is less than itself
not_less : (c : Code) → code_cmp c c ≡ Less → ⊥
not_less c l = less_isnt c c l (turned c c Less l)

-- by the code without a node
module _ (e : Explorer) (frees : List (Option StateId)) (marks : List (List Bool)) (id rest : ℕ) (bound : Option Code) (h : IsFreeKnown e frees marks id rest) where
  -- the one code without a node that may be allowed
  abbrev pub free : Code
  free = free_code (at e id).place

  pub free_within : (next : Option StateId) → get_or frees id None ≡ next → slice_get frees id ≡ Some next
  free_within next s = get_here frees id None (let a = h.all_frees in let l = h.held in omega (arith, a, l)) ∙ ap Some s

  only_free : (d : Code) → weight d ≡ 0 → CanGoOn e id rest d → d ≡ free
  only_free d w t = one_free (schema e) (names e) (at e id) d w t.leads.allowed

  -- where it leads, the state there is marked
  goes_free : (d : Code) (next : StateId) → weight d ≡ 0 → IsFreeAt e id (Some next) → CanGoOn e id rest d → Finishes e rest next.0
  goes_free d next w f t =
      let c = only_free d w t in
      let n : t.left ≡ rest = (let i = t.is in omega (arith, i, w)) in
      let g = subst (λ (c : Code). Finish (schema e) (names e) t.left (step (schema e) (names e) (at e id) c)) c t.finishes in
      subst (λ k. Finishes e k next.0) n (subst (Finish (schema e) (names e) t.left) (sym f.state) g)

  pub none_follows : slice_get frees id ≡ Some None → NoneTaken e id bound rest 0
  none_follows s d w p t = t.leads.allowed (subst (λ (c : Code). (step (schema e) (names e) (at e id) c).pattern ≡ not_allowed) (sym (only_free d w t)) (h.is_free None s))

  module _ (c : Code) (same : c ≡ free) where
    pub none_past : (IsPast bound c → ⊥) → NoneTaken e id bound rest 0
    none_past off d w p t = off (subst (λ (b : Code). IsPast bound b) (only_free d w t ∙ sym same) p)

    module _ (next : StateId) (is : slice_get frees id ≡ Some (Some next)) (mark : Bool) (m : (list : List Bool) → slice_get marks rest ≡ Some list → slice_get list next.0 ≡ Some mark) where
      exact : IsTrue mark ↔ Finishes e rest next.0
      exact = let g = h.marked next is in (h.right.right rest g.0 g.1).each next.0 mark (m g.0 g.1)

      pub none_marked : mark ≡ false → NoneTaken e id bound rest 0
      none_marked off d w p t = true≢false (sym (exact.1 (goes_free d next w (h.is_free (Some next) is) t)) ∙ off)

      pub free_is : mark ≡ true → IsPast bound c → IsLeastTaken e id bound rest 0 c next.0
      free_is on p =
          let f = h.is_free (Some next) is in
          let w = subst (λ (d : Code). weight d ≡ 0) (sym same) (free_weight (schema e) (names e) (at e id)) in
          let a = subst (λ (d : Code). IsAfter e id d next.0) (sym same) f in
          record {
            weighs = w;
            past = p;
            takes = record {
              leads = leads_alive e h.exploring id next.0 c a;
              left = rest;
              is = (omega (arith, w));
              finishes = subst (Finish (schema e) (names e) rest) a.state (exact.0 on);
            };
            leads = a;
            first = λ d v q l t. not_less c (subst (λ (b : Code). code_cmp b c ≡ Less) (only_free d v t ∙ sym same) l);
          }

-- by the others
module _ (e : Explorer) (x : IsExploring e) (rows : List (List Arc)) (marks : List (List Bool)) (id rest left : ℕ) (bound : Option Code) (is : rest ≡ left + 1)
    (r : IsReadyNode e rows left id marks) where
  -- the row leads to a marked state
  goes_marked : (d : Code) → weight d ≡ 1 → CanGoOn e id rest d → (other : ℕ) × GoesToMarked r.row marks left d other
  goes_marked d w t =
      let s = r.leads.all d w t.leads in
      let l = r.leads.right s.0 s.1 d s.2 s.3 in
      let b = get_of r.list s.1.next.0 (r.within.each s.0 s.1 s.2) in
      let n : t.left ≡ left = (let i = t.is in omega (arith, i, w, is)) in
      let f = subst (λ k. Finishes e k s.1.next.0) n (subst (Finish (schema e) (names e) t.left) (sym l.state) t.finishes) in
      let on : b.0 ≡ true = (r.right.each s.1.next.0 b.0 b.1).1 f in
      (s.1.next.0, record { goes = record { place = s.0; arc = s.1; is = s.2; covers = s.3; to = refl }; marked = (r.list, r.is_list, b.1 ∙ ap Some on) })

  pub none_goes : NoneMarked r.row marks left bound → NoneTaken e id bound rest 1
  none_goes h d w p t = let g = goes_marked d w t in h d g.0 p g.1

  pub node_is : (c : Code) (next : ℕ) → IsLeastMarked r.row marks left bound c next → IsLeastTaken e id bound rest 1 c next
  node_is c next h =
      let g = h.marked.goes in
      let w = heavy (code_of g.arc.first) g.arc.last c g.covers in
      let a = led_to e id r.row r.leads c next g in
      let k = h.marked.marked in
      let same : k.0 ≡ r.list = (let p = k.1 in let q = r.is_list in cc) in
      let m = subst (λ (l : List Bool). slice_get l next ≡ Some true) same k.2 in
      record {
        weighs = w;
        past = h.past;
        takes = record {
          leads = leads_alive e x id next c a;
          left = left;
          is = (omega (arith, w, is));
          finishes = subst (Finish (schema e) (names e) left) a.state ((r.right.each next true m).0 refl);
        };
        leads = a;
        first = λ d v p l t. let k = goes_marked d v t in h.first d k.0 p l k.1;
      }

pub some_so : {X : Type 0} {P Q : X → Type 0} (x : Option X) → ((y : X) → P y → Q y) → IfSome x P → IfSome x Q
some_so None f h = h
some_so (Some y) f h = f y h

-- with no node left no code with a node is taken
pub none_left : (e : Explorer) (id : ℕ) (bound : Option Code) (rest : ℕ) → rest ≡ 0 → NoneTaken e id bound rest 1
none_left e id bound rest z d w p t = let i = t.is in absurd (omega (arith, i, w, z))

-- what a table knows of a state that so many nodes less than its size reach
module _ (e : Explorer) (frees : List (Option StateId)) (rows : List (List Arc)) (levels : List ℕ) (marks : List (List Bool)) (h : IsFilled e frees rows levels marks)
    (id rest : ℕ) (l : id < length (found e)) (r : (k : ℕ) × Reach (schema e) (names e) k (at e id) × (k + rest ≤ e.level)) where
  pub free_known : IsFreeKnown e frees marks id rest
  free_known = record {
    exploring = h.grown.exploring;
    held = l;
    all_frees = h.grown.all_frees;
    is_free = h.grown.rows.free id;
    right = h.right;
    marked = λ next s.
        let f = h.grown.rows.free id (Some next) s in
        let c = free_code (at e id).place in
        let w = free_weight (schema e) (names e) (at e id) in
        let n = r.2 in
        let q = reach_step (schema e) (names e) r.0 (at e id) c r.1 (leads_alive e h.grown.exploring id next.0 c f) in
        marked_in e frees rows levels marks h next.0 rest f.held (r.0 + weight c, subst (Reach (schema e) (names e) (r.0 + weight c)) (sym f.state) q, omega (arith, w, n));
  }

  pub node_known : IsReady e rows rest id marks
  node_known =
      let m = r.2 in
      let k = e.level - rest in
      let a = h.grown.all_levels in
      let n = get_of levels k (omega (arith, a)) in
      let w = ((h.grown.level k n.0 n.1).each id l).1 (reach_more (schema e) (names e) r.0 k (at e id) (omega (arith, m)) r.1) in
      let sum : k + rest ≡ e.level = omega (arith, m) in
      let below : AreMarked e levels rest marks = record {
        many = (let b = h.marked.many in omega (arith, b, m));
        all = λ i j o b s g. h.marked.all i j o (omega (arith, b, m)) s g;
      } in
      (ready_at e frees rows levels h.grown k rest n.0 sum n.1 marks h.right below).each id w

-- with a node left the state has a row
pub row_within : (e : Explorer) (rows : List (List Arc)) (marks : List (List Bool)) (id rest : ℕ) → 0 < rest → IsReady e rows rest id marks → id < length rows
row_within e rows marks id rest l r = let n = r.node (rest - 1) (omega (arith, l)) in slice_get_within rows id n.row n.is_row
