-- The marks of the states, from those of the states that follow.
use Rattle.std.proofs.Common.{◌≡◌, ◌≢◌, ℕ, zero, suc, ◌+◌, ◌≤◌, ◌⊎◌, ◌↔◌, inl, inr, List, [], ◌∷◌, refl, sym, subst, arith, IsTrue}
use Rattle.std.specs.List.{AllByRecursion}
use Rattle.rng_model.specs.Patterns.{Schema, not_allowed}
use Rattle.rng_model.specs.Universe.{Lists}
use Rattle.rng_model.specs.Matching.{nullable}
use Rattle.rng_model.specs.States as States
use Rattle.rng_model.specs.States.{State, step, steps, Reach}
use Rattle.rng_model.specs.Codes.{Code, nodes, IsInRange}
use Rattle.table_laws.specs.Reaching.{weight, free_code, free_codes_left, Leads, IsLeastCount}
use Rattle.table_laws.specs.Finishing.{Finish, Marked, IsExact}
use Rattle.table_laws.proofs.Rows.{nodes-cons, alive, nullable-alive}
use Rattle.table_laws.proofs.Levels.{light_or_not, reach_more, reach_step, least_step}
use Rattle.table_laws.proofs.Free.{one_free, free_falls}

module _ (g : Schema) (u : Lists) where
  pub in_free_range : (s : State) → IsInRange u (free_code s.place)
  in_free_range s = go s.place
    where
      go : (pl : States.Place) → IsInRange u (free_code pl)
      go (States.Tag k) = tt
      go States.Fresh = tt
      go States.AfterText = tt
      go States.AfterElement = tt

  by_code : (rest : ℕ) (s : State) (c : Code) (cs : List Code) → AllByRecursion (IsInRange u) (c ∷ cs) → nodes (c ∷ cs) ≡ rest → IsTrue (nullable (steps g u s (c ∷ cs)).pattern) →
      (weight c ≡ 0) ⊎ (weight c ≡ 1) → Marked g u (Finish g u) rest s
  by_code rest s c cs a e h (inl w) =
      let n : (step g u s c).pattern ≢ not_allowed = alive g u cs (step g u s c) (nullable-alive (steps g u (step g u s c) cs).pattern h) in
      let f : c ≡ free_code s.place = one_free g u s c w n in
      let leads : Leads g u s c = record { in_range = a.0; allowed = n } in
      let goes : Finish g u rest (step g u s c) = record { codes = cs; in_range = a.1; exact = (let q = nodes-cons c cs in omega arith); accepts = h } in
      inr (inl (subst (λ x. Leads g u s x × Finish g u rest (step g u s x)) f (leads, goes)))
  by_code rest s c cs a e h (inr w) =
      let n : (step g u s c).pattern ≢ not_allowed = alive g u cs (step g u s c) (nullable-alive (steps g u (step g u s c) cs).pattern h) in
      inr (inr (record {
        code = c;
        heavy = w;
        left = nodes cs;
        is = let q = nodes-cons c cs in omega arith;
        leads = record { in_range = a.0; allowed = n };
        marked = record { codes = cs; in_range = a.1; exact = refl; accepts = h };
      }))

  pub finish_to : (rest : ℕ) (s : State) → Finish g u rest s → Marked g u (Finish g u) rest s
  finish_to rest s f = go f.codes f.in_range f.exact f.accepts
    where
      go : (cs : List Code) → AllByRecursion (IsInRange u) cs → nodes cs ≡ rest → IsTrue (nullable (steps g u s cs).pattern) → Marked g u (Finish g u) rest s
      go [] a e h = inl (sym e, h)
      go (c ∷ cs) a e h = by_code rest s c cs a e h (light_or_not c)

  pub free_weight : (s : State) → weight (free_code s.place) ≡ 0
  free_weight s = go s.place
    where
      go : (pl : States.Place) → weight (free_code pl) ≡ 0
      go (States.Tag k) = refl
      go States.Fresh = refl
      go States.AfterText = refl
      go States.AfterElement = refl

  pub finish_from : (rest : ℕ) (s : State) → Marked g u (Finish g u) rest s → Finish g u rest s
  finish_from rest s (inl (e, h)) = record { codes = []; in_range = tt; exact = sym e; accepts = h }
  finish_from rest s (inr (inl (l, f))) = record {
    codes = free_code s.place ∷ f.codes;
    in_range = (l.in_range, f.in_range);
    exact = let q = nodes-cons (free_code s.place) f.codes in let w = free_weight s in let e = f.exact in omega arith;
    accepts = f.accepts;
  }
  finish_from rest s (inr (inr m)) = record {
    codes = m.code ∷ m.marked.codes;
    in_range = (m.leads.in_range, m.marked.in_range);
    exact = let q = nodes-cons m.code m.marked.codes in let w = m.heavy in let e = m.marked.exact in let i = m.is in omega arith;
    accepts = m.marked.accepts;
  }

  -- marks of the states that follow
  pub record Follow (M N : ℕ → State → Type 0) (rest : ℕ) (s : State) : Type 0 where
    pub free : Leads g u s (free_code s.place) → M rest (step g u s (free_code s.place)) → N rest (step g u s (free_code s.place))
    pub node : (c : Code) (r : ℕ) → weight c ≡ 1 → rest ≡ suc r → Leads g u s c → M r (step g u s c) → N r (step g u s c)

  pub marked_map : (M N : ℕ → State → Type 0) (rest : ℕ) (s : State) → Follow M N rest s → Marked g u M rest s → Marked g u N rest s
  marked_map M N rest s f (inl h) = inl h
  marked_map M N rest s f (inr (inl (l, h))) = inr (inl (l, f.free l h))
  marked_map M N rest s f (inr (inr m)) =
      inr (inr (record { code = m.code; heavy = m.heavy; left = m.left; is = m.is; leads = m.leads; marked = f.node m.code m.left m.heavy m.is m.leads m.marked }))

  -- a mark is exact where those of the states that follow are
  pub mark_next : (mark : ℕ → State → Type 0) (rest : ℕ) (s : State) →
      (Leads g u s (free_code s.place) → IsExact g u mark rest (step g u s (free_code s.place))) →
      ((c : Code) (r : ℕ) → weight c ≡ 1 → rest ≡ suc r → Leads g u s c → IsExact g u mark r (step g u s c)) →
      Marked g u mark rest s ↔ Finish g u rest s
  mark_next mark rest s free node = (
    λ h. finish_from rest s (marked_map mark (Finish g u) rest s (record { free = λ l. (free l).0; node = λ c r w e l. (node c r w e l).0 }) h),
    λ h. marked_map (Finish g u) mark rest s (record { free = λ l. (free l).1; node = λ c r w e l. (node c r w e l).1 }) (finish_to rest s h),
  )

  -- marks that agree with those of the states that follow are exact
  module _ (m : ℕ) (mark : ℕ → State → Type 0) (agree : (k rest : ℕ) (s : State) → Reach g u k s → k + rest ≤ m → mark rest s ↔ Marked g u mark rest s) where
    abbrev Exact : ℕ → Type 0
    Exact rest = (k : ℕ) (s : State) → Reach g u k s → k + rest ≤ m → IsExact g u mark rest s

    joined : (k rest : ℕ) (s : State) → Reach g u k s → k + rest ≤ m → Marked g u mark rest s ↔ Finish g u rest s → IsExact g u mark rest s
    joined k rest s r l h = (λ x. h.0 ((agree k rest s r l).0 x), λ y. (agree k rest s r l).1 (h.1 y))

    node : (rest : ℕ) → ((r : ℕ) → rest ≡ suc r → Exact r) → (k : ℕ) (s : State) → Reach g u k s → k + rest ≤ m →
        (c : Code) (t : ℕ) → weight c ≡ 1 → rest ≡ suc t → Leads g u s c → IsExact g u mark t (step g u s c)
    node rest below k s r l c t w e a = below t e (k + weight c) (step g u s c) (reach_step g u k s c r a) (omega arith)

    free_reach : (k : ℕ) (s : State) → Reach g u k s → Leads g u s (free_code s.place) → Reach g u k (step g u s (free_code s.place))
    free_reach k s r a = let w = free_weight s in reach_more g u (k + weight (free_code s.place)) k (step g u s (free_code s.place)) (omega arith) (reach_step g u k s (free_code s.place) r a)

    by_left : (rest : ℕ) → ((r : ℕ) → rest ≡ suc r → Exact r) → (n k : ℕ) (s : State) → Reach g u k s → k + rest ≤ m → free_codes_left s ≤ n → IsExact g u mark rest s
    by_left rest below zero k s r l f = joined k rest s r l (mark_next mark rest s (λ a. absurd (let q = free_falls g u s a.allowed in omega arith)) (node rest below k s r l))
    by_left rest below (suc n) k s r l f =
        joined k rest s r l (mark_next mark rest s
        (λ a. by_left rest below n k (step g u s (free_code s.place)) (free_reach k s r a) l (let q = free_falls g u s a.allowed in omega arith))
        (node rest below k s r l))

    pub marks_are_exact : (rest : ℕ) → Exact rest
    marks_are_exact zero k s r l = by_left zero (λ t e. absurd (omega arith)) (free_codes_left s) k s r l (omega arith)
    marks_are_exact (suc t) k s r l = by_left (suc t) (λ q e. let p : t ≡ q = omega arith in subst Exact p (marks_are_exact t)) (free_codes_left s) k s r l (omega arith)

  -- from one size to the next, a state gets one mark
  pub one_new : (k m rest j : ℕ) (s : State) → IsLeastCount g u k s → Reach g u j s → j + rest ≤ m + 1 → (k + rest ≤ m) ⊎ (k + rest ≡ m + 1)
  one_new k m rest j s a r l = let q = a.least j r in split (k + rest) m (omega arith)
    where
      split : (x y : ℕ) → x ≤ y + 1 → (x ≤ y) ⊎ (x ≡ y + 1)
      split zero y l = inl (omega arith)
      split (suc x) zero l = inr (omega arith)
      split (suc x) (suc y) l = next (split x y (omega arith))
        where
          next : (x ≤ y) ⊎ (x ≡ y + 1) → (suc x ≤ suc y) ⊎ (suc x ≡ suc y + 1)
          next (inl l) = inl (omega arith)
          next (inr l) = inr (omega arith)

  -- it needs marks of the size before, new ones of states with one node more, or of states with as many nodes and fewer codes without a node
  pub new_from : (k m rest left j : ℕ) (s : State) (c : Code) → IsLeastCount g u k s → k + rest ≡ m + 1 → Leads g u s c → rest ≡ weight c + left → IsLeastCount g u j (step g u s c) →
      (j + left ≤ m) ⊎ ((j + left ≡ m + 1) × (j ≡ k + weight c))
  new_from k m rest left j s c a e l w b =
      let q = least_step g u k j s c a l b in
      apply (one_new j m left (k + weight c) (step g u s c) b (reach_step g u k s c a.reached l) (omega arith)) q
    where
      apply : (j + left ≤ m) ⊎ (j + left ≡ m + 1) → j ≤ k + weight c → (j + left ≤ m) ⊎ ((j + left ≡ m + 1) × (j ≡ k + weight c))
      apply (inl h) q = inl h
      apply (inr h) q = inr (h, omega arith)
