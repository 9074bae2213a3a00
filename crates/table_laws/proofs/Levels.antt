-- Reach by levels.
use Rattle.std.proofs.Common.{◌≡◌, ◌≢◌, ℕ, zero, suc, ◌+◌, ◌<◌, ◌≤◌, ◌⊎◌, inl, inr, List, [], ◌∷◌, ◌++◌, refl, sym, ◌∙◌, ap, subst, arith}
use Rattle.std.specs.List.{AllByRecursion}
use Rattle.rng_model.specs.Patterns.{Schema, not_allowed}
use Rattle.rng_model.specs.Universe.{Lists}
use Rattle.rng_model.specs.States.{State, step, steps, Reach}
use Rattle.rng_model.specs.Codes.{Code, nodes, IsInRange}
use Rattle.derivative_laws.proofs.Members.{all-append}
use Rattle.table_laws.specs.Reaching.{weight, start_state, Leads, GoesInto, IsLeastCount}
use Rattle.table_laws.proofs.Rows.{nodes-cons, nodes-append, steps-append, alive}

-- a code has one node or none
pub light_or_not : (c : Code) → (weight c ≡ 0) ⊎ (weight c ≡ 1)
light_or_not (Code.Opening i) = inr refl
light_or_not (Code.Attr j s) = inr refl
light_or_not Code.Body = inl refl
light_or_not (Code.Chars s) = inr refl
light_or_not Code.Closing = inl refl

module _ (g : Schema) (u : Lists) where
  pub reach_start : (m : ℕ) → g.start ≢ not_allowed → Reach g u m (start_state g)
  reach_start m h = record { codes = []; in_range = tt; small = omega arith; leads = refl; allowed = h }

  pub reach_more : (m n : ℕ) (s : State) → m ≤ n → Reach g u m s → Reach g u n s
  reach_more m n s l r = let k = r.small in record { codes = r.codes; in_range = r.in_range; small = omega arith; leads = r.leads; allowed = r.allowed }

  pub reach_step : (m : ℕ) (s : State) (c : Code) → Reach g u m s → Leads g u s c → Reach g u (m + weight c) (step g u s c)
  reach_step m s c r l = record {
    codes = r.codes ++ (c ∷ []);
    in_range = all-append (IsInRange u) r.codes (c ∷ []) r.in_range (l.in_range, tt);
    small = let k = r.small in omega (arith, nodes-append r.codes (c ∷ []), nodes-cons c []);
    leads = steps-append g u (start_state g) r.codes (c ∷ []) ∙ ap (λ x. step g u x c) r.leads;
    allowed = l.allowed;
  }

  -- a state that m nodes reach goes on to where the codes lead, as long as S keeps all that they pass
  module _ (m : ℕ) (S : State → Type 0) (each : (s : State) (c : Code) (k : ℕ) → Reach g u k s → S s → k + weight c ≤ m → Leads g u s c → S (step g u s c)) where
    along : (cs : List Code) (k : ℕ) (s : State) → Reach g u k s → S s → AllByRecursion (IsInRange u) cs → k + nodes cs ≤ m → (steps g u s cs).pattern ≢ not_allowed → S (steps g u s cs)
    along [] k s r h a l n = h
    along (c ∷ cs) k s r h a l n =
        let e = nodes-cons c cs in
        let leads : Leads g u s c = record { in_range = a.0; allowed = alive g u cs (step g u s c) n } in
        along cs (k + weight c) (step g u s c) (reach_step k s c r leads) (each s c k r h (omega arith) leads) a.1 (omega arith) n

    pub reach_along : (g.start ≢ not_allowed → S (start_state g)) → (s : State) → Reach g u m s → S s
    reach_along start s r =
        let n : (steps g u (start_state g) r.codes).pattern ≢ not_allowed = subst (λ x. x.pattern ≢ not_allowed) (sym r.leads) r.allowed in
        let a : g.start ≢ not_allowed = alive g u r.codes (start_state g) n in
        let l = r.small in
        subst S r.leads (along r.codes 0 (start_state g) (reach_start 0 a) (start a) r.in_range (omega arith) n)

  pub reach_zero : (S : State → Type 0) → (g.start ≢ not_allowed → S (start_state g)) → ((s : State) → S s → GoesInto g u 0 s S) → (s : State) → Reach g u 0 s → S s
  reach_zero S start closed s r = reach_along 0 S (λ s c k r h l leads. closed s h c (omega arith) leads) start s r

  pub reach_level : (m : ℕ) (S : State → Type 0) → ((s : State) → Reach g u m s → S s) →
      ((s : State) → S s → Reach g u m s ⊎ GoesInto g u 0 s S) →
      ((s : State) → Reach g u m s → ((k : ℕ) × (k < m) × Reach g u k s) ⊎ GoesInto g u 1 s S) →
      (s : State) → Reach g u (m + 1) s → S s
  reach_level m S before closed goes s r = reach_along (m + 1) S each (λ a. before (start_state g) (reach_start m a)) s r
    where
      free : (s : State) (c : Code) → weight c ≡ 0 → Leads g u s c → Reach g u m s ⊎ GoesInto g u 0 s S → S (step g u s c)
      free s c w leads (inl q) = before (step g u s c) (reach_more (m + weight c) m (step g u s c) (omega arith) (reach_step m s c q leads))
      free s c w leads (inr f) = f c w leads

      heavy : (s : State) (c : Code) → weight c ≡ 1 → Leads g u s c → ((k : ℕ) × (k < m) × Reach g u k s) ⊎ GoesInto g u 1 s S → S (step g u s c)
      heavy s c w leads (inl q) = let l = q.1 in before (step g u s c) (reach_more (q.0 + weight c) m (step g u s c) (omega arith) (reach_step q.0 s c q.2 leads))
      heavy s c w leads (inr f) = f c w leads

      by_weight : (s : State) (c : Code) (k : ℕ) → Reach g u k s → S s → k + weight c ≤ m + 1 → Leads g u s c → (weight c ≡ 0) ⊎ (weight c ≡ 1) → S (step g u s c)
      by_weight s c k r h l leads (inl w) = free s c w leads (closed s h)
      by_weight s c k r h l leads (inr w) = heavy s c w leads (goes s (reach_more k m s (omega arith) r))

      each : (s : State) (c : Code) (k : ℕ) → Reach g u k s → S s → k + weight c ≤ m + 1 → Leads g u s c → S (step g u s c)
      each s c k r h l leads = by_weight s c k r h l leads (light_or_not c)

  -- least counts
  pub least_zero : (s : State) → Reach g u 0 s → IsLeastCount g u 0 s
  least_zero s r = record { reached = r; least = λ k q. omega arith }

  pub least_new : (m : ℕ) (s : State) → Reach g u (m + 1) s → (Reach g u m s → ⊥) → IsLeastCount g u (m + 1) s
  least_new m s r n = record { reached = r; least = λ k q. go k q (below m k) }
    where
      below : (m k : ℕ) → (k ≤ m) ⊎ (m + 1 ≤ k)
      below m zero = inl (omega arith)
      below zero (suc k) = inr (omega arith)
      below (suc m) (suc k) = next (below m k)
        where
          next : (k ≤ m) ⊎ (m + 1 ≤ k) → (suc k ≤ suc m) ⊎ (suc m + 1 ≤ suc k)
          next (inl l) = inl (omega arith)
          next (inr l) = inr (omega arith)

      go : (k : ℕ) → Reach g u k s → (k ≤ m) ⊎ (m + 1 ≤ k) → m + 1 ≤ k
      go k q (inl l) = absurd (n (reach_more k m s l q))
      go k q (inr l) = l

  pub least_once : (m n : ℕ) (s : State) → IsLeastCount g u m s → IsLeastCount g u n s → m ≡ n
  least_once m n s a b = let l = a.least n b.reached in let k = b.least m a.reached in omega arith

  pub least_step : (m n : ℕ) (s : State) (c : Code) → IsLeastCount g u m s → Leads g u s c → IsLeastCount g u n (step g u s c) → n ≤ m + weight c
  least_step m n s c a l b = b.least (m + weight c) (reach_step m s c a.reached l)
