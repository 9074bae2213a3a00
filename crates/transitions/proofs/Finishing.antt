-- Which states can finish, from those that follow.
use Rattle.std.proofs.Common.{◌≡◌, ◌≢◌, ℕ, ◌+◌, ◌-◌, ◌<◌, ◌≤◌, ◌↔◌, ◌⊎◌, inl, inr, Bool, true, false, IsTrue, Some, None, List, [], ◌∷◌, ◌++◌, length, length-append, slice_get, set, refl, sym, ◌∙◌, ap, subst, arith, true≢false}
use Rattle.std.proofs.lemmas.Option.{slice_get_within}
use Rattle.rng_model.specs.Codes as code
use Rattle.rng_model.specs.Codes.{Code}
use Rattle.rng_model.specs.Matching.{nullable}
use Rattle.rng_model.specs.Patterns.{not_allowed}
use Rattle.rng_model.specs.States.{State, step}
use Rattle.table_laws.specs.Finishing.{Finish, Marked}
use Rattle.table_laws.specs.Reaching.{Leads, free_code, free_codes_left, weight}
use Rattle.table_laws.proofs.Free.{free_falls}
use Rattle.table_laws.proofs.Marks.{finish_from, finish_to}
use Rattle.skeleton.specs.Views.{code_of}
use Rattle.transitions.specs.declared.arc.Arc.{Arc}
use Rattle.transitions.specs.declared.block.Block.{Block}
use Rattle.transitions.specs.declared.state_id.StateId.{StateId}
use Rattle.transitions.specs.Arcs.{IsFrom, IsFree, LeadsTo}
use Rattle.transitions.specs.Automata.{AreAlive, Automaton, at}
use Rattle.transitions.specs.Marked.{AreMarks, AreReady, AreRight, Finishes, FinishesFirst, IsBlock, IsReadyNode, LeadsOn, Stay, end_of}
use Rattle.transitions.proofs.Lists.{get_of, slice_get-push, slice_get-set}

-- an arc's codes have a node
pub heavy : (c : Code) (last : ℕ) (d : Code) → IsFrom c last d → weight d ≡ 1
heavy (code.Opening i) last (code.Opening p) h = refl
heavy (code.Attr n i) last (code.Attr m p) h = refl
heavy (code.Chars i) last (code.Chars p) h = refl
heavy code.Body last d h = absurd h
heavy code.Closing last d h = absurd h
heavy (code.Opening i) last (code.Attr m p) h = absurd h
heavy (code.Opening i) last (code.Chars p) h = absurd h
heavy (code.Opening i) last code.Body h = absurd h
heavy (code.Opening i) last code.Closing h = absurd h
heavy (code.Attr n i) last (code.Opening p) h = absurd h
heavy (code.Attr n i) last (code.Chars p) h = absurd h
heavy (code.Attr n i) last code.Body h = absurd h
heavy (code.Attr n i) last code.Closing h = absurd h
heavy (code.Chars i) last (code.Opening p) h = absurd h
heavy (code.Chars i) last (code.Attr m p) h = absurd h
heavy (code.Chars i) last code.Body h = absurd h
heavy (code.Chars i) last code.Closing h = absurd h

module _ (e : Automaton) where
  pub first_finishes : (rest id : ℕ) → FinishesFirst e rest id → Finishes e rest id
  first_finishes rest id (inl h) = finish_from e.schema e.lists rest (at e id) (inl h)
  first_finishes rest id (inr m) = finish_from e.schema e.lists rest (at e id) (inr (inr m))

  -- where none follows by a code without a node, nothing else finishes
  pub dead_end : (rest id : ℕ) → IsFree e.schema e.lists e.states (at e id) None → Finishes e rest id → FinishesFirst e rest id
  dead_end rest id n f = go (finish_to e.schema e.lists rest (at e id) f)
    where
      go : Marked e.schema e.lists (Finish e.schema e.lists) rest (at e id) → FinishesFirst e rest id
      go (inl h) = inl h
      go (inr (inl (l, f))) = absurd (l.allowed n)
      go (inr (inr m)) = inr m

  module _ (x : AreAlive e) where
    pub leads_alive : (id next : ℕ) (c : Code) → LeadsTo e.schema e.lists e.states (at e id) c next → Leads e.schema e.lists (at e id) c
    leads_alive id next c l = record {
      in_range = l.in_range;
      allowed = subst (λ (s : State). s.pattern ≢ not_allowed) l.state (x.alive next l.held);
    }

    -- otherwise the state that follows finishes as this one does
    pub free_to : (rest id : ℕ) (next : StateId) → IsFree e.schema e.lists e.states (at e id) (Some next) → Finishes e rest id → FinishesFirst e rest id ⊎ Finishes e rest next.0
    free_to rest id next l f = go (finish_to e.schema e.lists rest (at e id) f)
      where
        go : Marked e.schema e.lists (Finish e.schema e.lists) rest (at e id) → FinishesFirst e rest id ⊎ Finishes e rest next.0
        go (inl h) = inl (inl h)
        go (inr (inl (k, f))) = inr (subst (Finish e.schema e.lists rest) (sym l.state) f)
        go (inr (inr m)) = inl (inr m)

    pub free_from : (rest id : ℕ) (next : StateId) → IsFree e.schema e.lists e.states (at e id) (Some next) → Finishes e rest next.0 → Finishes e rest id
    free_from rest id next l f =
        finish_from e.schema e.lists rest (at e id)
        (inr (inl (leads_alive id next.0 (free_code (at e id).place) l, subst (Finish e.schema e.lists rest) l.state f)))

    pub free_less : (id : ℕ) (next : StateId) → IsFree e.schema e.lists e.states (at e id) (Some next) → free_codes_left (at e next.0) < free_codes_left (at e id)
    free_less id next l =
        subst (λ (s : State). free_codes_left s < free_codes_left (at e id)) (sym l.state)
        (free_falls e.schema e.lists (at e id) (leads_alive id next.0 (free_code (at e id).place) l).allowed)

    -- the two ways of the search, by the mark of the state in its block
    pub passes : (rest from id : ℕ) (next : StateId) (mark : Bool) → IsFree e.schema e.lists e.states (at e id) (Some next) → IsTrue mark ↔ FinishesFirst e rest id → mark ≡ false →
        (Finishes e rest from ↔ Finishes e rest id) → (Finishes e rest from ↔ Finishes e rest next.0)
    passes rest from id next mark l m off both = (λ f. pick (free_to rest id next l (both.0 f)), λ f. both.1 (free_from rest id next l f))
      where
        pick : FinishesFirst e rest id ⊎ Finishes e rest next.0 → Finishes e rest next.0
        pick (inl h) = absurd (true≢false (sym (m.1 h) ∙ off))
        pick (inr f) = f

    module _ (rest id left : ℕ) (is : rest ≡ left + 1) (rows : List (List Arc)) (marks : List (List Bool)) (r : IsReadyNode e rows left id marks) where
      node_to : LeadsOn r.row r.list → FinishesFirst e rest id
      node_to h =
          let c = code_of h.arc.first in
          let k = r.leads.some h.place h.arc h.is in
          let l = r.leads.right h.place h.arc c h.is k in
          inr (record {
            code = c;
            heavy = heavy c h.arc.last c k;
            left = left;
            is = (omega (arith, is));
            leads = leads_alive id h.arc.next.0 c l;
            marked = subst (Finish e.schema e.lists left) l.state ((r.right.each h.arc.next.0 true h.marked).0 refl);
          })

      marked_at : (list : List Bool) (n : ℕ) (b : Bool) → slice_get list n ≡ Some b → IsTrue b → slice_get list n ≡ Some true
      marked_at list n b h t = h ∙ ap Some t

      node_from : FinishesFirst e rest id → LeadsOn r.row r.list
      node_from (inl h) = let z = h.0 in absurd (omega (arith, z, is))
      node_from (inr m) =
          let t = r.leads.all m.code m.heavy m.leads in
          let l = r.leads.right t.0 t.1 m.code t.2 t.3 in
          let w = r.within.each t.0 t.1 t.2 in
          let b = get_of r.list t.1.next.0 w in
          let same : m.left ≡ left = (let i = m.is in omega (arith, i, is)) in
          let f = subst (Finish e.schema e.lists left) (sym l.state) (subst (λ k. Finish e.schema e.lists k (step e.schema e.lists (at e id) m.code)) same m.marked) in
          record {
            place = t.0;
            arc = t.1;
            is = t.2;
            marked = marked_at r.list t.1.next.0 b.0 b.1 ((r.right.each t.1.next.0 b.0 b.1).1 f);
          }

      pub node_first : (b : Bool) → IsTrue b ↔ LeadsOn r.row r.list → IsTrue b ↔ FinishesFirst e rest id
      node_first b h = (λ t. node_to (h.0 t), λ f. h.1 (node_from f))

  pub zero_first : (rest id : ℕ) (b : Bool) → rest ≡ 0 → b ≡ nullable (at e id).pattern → IsTrue b ↔ FinishesFirst e rest id
  zero_first rest id b z h = (λ t. inl (z, sym h ∙ t), λ f. go f)
    where
      go : FinishesFirst e rest id → IsTrue b
      go (inl k) = h ∙ k.1
      go (inr m) = let i = m.is in absurd (omega (arith, z, i))

  pub marks_push : (rest : ℕ) (list : List Bool) (b : Bool) → AreMarks e rest list → length list < length e.states → IsTrue b ↔ Finishes e rest (length list) → AreMarks e rest (list ++ b ∷ [])
  marks_push rest list b h l m = record {
    few = (let n = length-append list (b ∷ []) in omega (arith, n, l));
    each = λ id mark s. go id mark (slice_get-push list b mark id s);
  }
    where
      go : (id : ℕ) (mark : Bool) → (slice_get list id ≡ Some mark) ⊎ ((id ≡ length list) × (b ≡ mark)) → IsTrue mark ↔ Finishes e rest id
      go id mark (inl k) = h.each id mark k
      go id mark (inr k) = subst (λ n. IsTrue mark ↔ Finishes e rest n) (sym k.0) (subst (λ (a : Bool). IsTrue a ↔ Finishes e rest (length list)) k.1 m)

  pub block_push : (old new : Block) (b : Bool) → new.rest ≡ old.rest → new.start ≡ old.start → new.marks.items ≡ old.marks.items ++ b ∷ [] → IsBlock e old →
      end_of old < length e.states → IsTrue b ↔ FinishesFirst e old.rest (end_of old) → IsBlock e new
  block_push old new b r s p h l m = record {
    few = (let n = length-append old.marks.items (b ∷ []) in let q : length new.marks.items ≡ length (old.marks.items ++ b ∷ []) = ap (λ (xs : List Bool). length xs) p in omega (arith, n, l, s, q));
    each = λ i mark g. go i mark (slice_get-push old.marks.items b mark i (subst (λ (xs : List Bool). slice_get xs i ≡ Some mark) p g));
  }
    where
      at_new : (i : ℕ) (mark : Bool) → IsTrue mark ↔ FinishesFirst e old.rest (old.start + i) → IsTrue mark ↔ FinishesFirst e new.rest (new.start + i)
      at_new i mark q = subst (λ n. IsTrue mark ↔ FinishesFirst e n (new.start + i)) (sym r) (subst (λ n. IsTrue mark ↔ FinishesFirst e old.rest (n + i)) (sym s) q)

      go : (i : ℕ) (mark : Bool) → (slice_get old.marks.items i ≡ Some mark) ⊎ ((i ≡ length old.marks.items) × (b ≡ mark)) → IsTrue mark ↔ FinishesFirst e new.rest (new.start + i)
      go i mark (inl k) = at_new i mark (h.each i mark k)
      go i mark (inr k) =
          at_new i mark
          (subst (λ n. IsTrue mark ↔ FinishesFirst e old.rest (old.start + n)) (sym k.0) (subst (λ (a : Bool). IsTrue a ↔ FinishesFirst e old.rest (end_of old)) k.1 m))

  pub no_block : (b : Block) → b.marks.items ≡ [] → b.start ≤ length e.states → IsBlock e b
  no_block b p l = record {
    few = (let q : length b.marks.items ≡ 0 = ap (λ (xs : List Bool). length xs) p in omega (arith, l, q));
    each = λ i mark g. absurd (let w = slice_get_within b.marks.items i mark g in let q : length b.marks.items ≡ 0 = ap (λ (xs : List Bool). length xs) p in omega (arith, w, q));
  }

  pub block_end : (old new : Block) (b : Bool) → new.start ≡ old.start → new.marks.items ≡ old.marks.items ++ b ∷ [] → end_of new ≡ end_of old + 1
  block_end old new b s p = (let n = length-append old.marks.items (b ∷ []) in let q : length new.marks.items ≡ length (old.marks.items ++ b ∷ []) = ap (λ (xs : List Bool). length xs) p in omega (arith, n, s, q))

  -- one list is written
  pub right_set : (marks : List (List Bool)) (rest : ℕ) (list : List Bool) → AreRight e marks → AreMarks e rest list → AreRight e (set marks rest list)
  right_set marks rest list h m = record { right = λ k other s. go k other (slice_get-set marks rest k list other s) }
    where
      go : (k : ℕ) (other : List Bool) → (slice_get marks k ≡ Some other) ⊎ ((k ≡ rest) × (list ≡ other)) → AreMarks e k other
      go k other (inl g) = h.right k other g
      go k other (inr g) = subst (λ n. AreMarks e n other) (sym g.0) (subst (λ (l : List Bool). AreMarks e rest l) g.1 m)

  -- a longer list of lists has what the other needs
  pub ready_stays : (rows : List (List Arc)) (rest n : ℕ) (old new : List (List Bool)) → Stay rest old new → AreReady e rows rest n old → AreReady e rows rest n new
  ready_stays rows rest n old new s h = record {
    each = λ id l. record {
      held = (h.each id l).held;
      node = λ left p.
          let r = (h.each id l).node left p in
          record { row = r.row; is_row = r.is_row; leads = r.leads; list = r.list; is_list = s.same left (omega (arith, p)) ∙ r.is_list; right = r.right; within = r.within };
    };
  }

  -- the mark of a state in a block
  pub mark_of : (b : Block) (id n : ℕ) (mark : Bool) → IsBlock e b → b.start ≤ n → n ≤ id → ((i : ℕ) → b.start + i ≡ id → slice_get b.marks.items i ≡ Some mark) →
      IsTrue mark ↔ FinishesFirst e b.rest id
  mark_of b id n mark k l m h =
      let same : b.start + (id - b.start) ≡ id = omega (arith, l, m) in
      subst (λ z. IsTrue mark ↔ FinishesFirst e b.rest z) same (k.each (id - b.start) mark (h (id - b.start) same))
