-- Growing by one size.
use Rattle.std.proofs.Common.{◌≡◌, ℕ, zero, suc, ◌+◌, ◌<◌, ◌≤◌, ◌⊎◌, inl, inr, Option, Some, None, List, [], ◌∷◌, ◌++◌, length, length-append, slice_get, Contains, refl, sym, ◌∙◌, ap, subst, arith}
use Rattle.std.proofs.lemmas.Option.{slice_get_within}
use Rattle.rng_model.specs.Patterns.{Schema, not_allowed}
use Rattle.rng_model.specs.Universe.{Lists}
use Rattle.rng_model.specs.States.{State, AreDistinct, Reach, step}
use Rattle.derivative_laws.proofs.Members.{IsIn, is_in, contained}
use Rattle.table_laws.specs.Premises.{AreListable}
use Rattle.table_laws.specs.Reaching.{GoesInto, start_state}
use Rattle.table_laws.proofs.Free.{one_free}
use Rattle.table_laws.proofs.Levels.{reach_level, reach_more}
use Rattle.transitions.specs.declared.arc.Arc.{Arc}
use Rattle.transitions.specs.declared.state_id.StateId.{StateId}
use Rattle.transitions.specs.Arcs.{IsFree, IsRow, state_in}
use Rattle.transitions.proofs.Lists.{slice_get-push}
use Rattle.feasibility.specs.declared.explorer.Explorer.{Explorer}
use Rattle.feasibility.specs.Exploring.{Finds, IsExploring, IsReachedBefore, at, found, names, schema}
use Rattle.feasibility.specs.Grown.{IsGrown, IsLevel, IsStarted}
use Rattle.feasibility.specs.Growing.{AreFrees, AreRowsOf, at_level}
use Rattle.feasibility.proofs.Finding.{finds_names}

pub some_at : {X : Type 0} (xs : List X) (i : ℕ) → i < length xs → (x : X) × (slice_get xs i ≡ Some x)
some_at [] i l = absurd (omega arith)
some_at (x ∷ xs) zero l = (x, refl)
some_at (x ∷ xs) (suc i) l = some_at xs i (omega arith)

below_or : (m n : ℕ) → (m < n) ⊎ (n ≤ m)
below_or m zero = inr (omega arith)
below_or zero (suc n) = inl (omega arith)
below_or (suc m) (suc n) = go (below_or m n)
  where
    go : (m < n) ⊎ (n ≤ m) → (suc m < suc n) ⊎ (suc n ≤ suc m)
    go (inl l) = inl (omega arith)
    go (inr l) = inr (omega arith)

-- what stands in a list has a number
pub in_at : (xs : List State) (id : ℕ) → id < length xs → IsIn (state_in xs id) xs
in_at [] id l = absurd (omega arith)
in_at (x ∷ xs) zero l = inl refl
in_at (x ∷ xs) (suc id) l = inr (in_at xs id (omega arith))

pub at_in : (xs : List State) (s : State) → IsIn s xs → (id : ℕ) × (id < length xs) × (state_in xs id ≡ s)
at_in [] s h = absurd h
at_in (x ∷ xs) s (inl e) = (0, omega arith, sym e)
at_in (x ∷ xs) s (inr h) = let t = at_in xs s h in let l = t.1 in (suc t.0, omega (arith, l), t.2)

pub number_of : (xs : List State) (s : State) → Contains xs s → (id : ℕ) × (id < length xs) × (state_in xs id ≡ s)
number_of xs s h = at_in xs s (is_in s xs h)

pub holds_at : (xs : List State) (id : ℕ) (s : State) → id < length xs → state_in xs id ≡ s → Contains xs s
holds_at xs id s l e = subst (Contains xs) e (contained (state_in xs id) xs (in_at xs id l))

one_number : (xs : List State) → AreDistinct xs → (i j : ℕ) → i < length xs → j < length xs → state_in xs i ≡ state_in xs j → i ≡ j
one_number [] d i j l m e = absurd (omega arith)
one_number (x ∷ xs) d zero zero l m e = refl
one_number (x ∷ xs) d zero (suc j) l m e = absurd (d.0 (holds_at xs j x (omega arith) (sym e)))
one_number (x ∷ xs) d (suc i) zero l m e = absurd (d.0 (holds_at xs i x (omega arith) e))
one_number (x ∷ xs) d (suc i) (suc j) l m e = ap suc (one_number xs d.1 i j (omega arith) (omega arith) e)

-- where frees and rows lead, all stands in the list
module _ (g : Schema) (u : Lists) (states : List State) (s : State) where
  free_goes : (next : Option StateId) → IsFree g u states s next → GoesInto g u 0 s (Contains states)
  free_goes None h c w leads =
      let one = one_free g u s c w leads.allowed in
      absurd (leads.allowed (subst (λ d. (step g u s d).pattern ≡ not_allowed) (sym one) h))
  free_goes (Some n) h c w leads =
      let one = one_free g u s c w leads.allowed in
      holds_at states n.0 (step g u s c) h.held (h.state ∙ ap (step g u s) (sym one))

  row_goes : (arcs : List Arc) → IsRow g u states s arcs → GoesInto g u 1 s (Contains states)
  row_goes arcs h c w leads =
      let a = h.all c w leads in
      let t = h.right a.0 a.1 c a.2 a.3 in
      holds_at states a.1.next.0 (step g u s c) t.held t.state

module _ (e f : Explorer) (frees more_frees : List (Option StateId)) (rows more_rows : List (List Arc)) (levels : List ℕ) (h : IsGrown e frees rows levels) (x : Finds (at_level (e.level + 1) e) f)
    (y : IsExploring f) (once : AreDistinct (found f)) (none : length (found e) ≡ 0 → length (found f) ≡ 0) (fr : AreFrees f more_frees) (all : length more_frees ≡ length (found f))
    (ro : AreRowsOf f more_rows) (most : length (found e) ≤ length more_rows) where
  same_names : names f ≡ names e
  same_names = finds_names (at_level (e.level + 1) e) f x

  to : (k : ℕ) (s : State) → Reach (schema e) (names e) k s → Reach (schema f) (names f) k s
  to k s r = subst (λ u. Reach (schema f) u k s) (sym same_names) (subst (λ g. Reach g (names e) k s) (sym x.schema) r)

  back : (k : ℕ) (s : State) → Reach (schema f) (names f) k s → Reach (schema e) (names e) k s
  back k s r = subst (λ g. Reach g (names e) k s) x.schema (subst (λ u. Reach (schema f) u k s) same_names r)

  -- a state that the smaller size reaches has an old number
  old_number : (s : State) → Reach (schema f) (names f) e.level s → (id : ℕ) × (id < length (found e)) × (at f id ≡ s)
  old_number s r =
      let t = number_of (found e) s ((h.each s).1 (back e.level s r)) in
      (t.0, t.1, x.states t.0 t.1 ∙ t.2)

  before : (s : State) → Reach (schema f) (names f) e.level s → Contains (found f) s
  before s r = let t = old_number s r in let l = t.1 in let m = x.longer in holds_at (found f) t.0 s (omega (arith, l, m)) t.2

  closed : (s : State) → Contains (found f) s → Reach (schema f) (names f) e.level s ⊎ GoesInto (schema f) (names f) 0 s (Contains (found f))
  closed s c =
      let t = number_of (found f) s c in
      let k = t.1 in
      let n = some_at more_frees t.0 (omega (arith, k, all)) in
      inr (free_goes (schema f) (names f) (found f) s n.0 (subst (λ z. IsFree (schema f) (names f) (found f) z n.0) t.2 (fr.each t.0 n.0 n.1)))

  goes : (s : State) → Reach (schema f) (names f) e.level s → ((k : ℕ) × (k < e.level) × Reach (schema f) (names f) k s) ⊎ GoesInto (schema f) (names f) 1 s (Contains (found f))
  goes s r =
      let t = old_number s r in
      let k = t.1 in
      let n = some_at more_rows t.0 (omega (arith, k, most)) in
      inr (row_goes (schema f) (names f) (found f) s n.0 (subst (λ z. IsRow (schema f) (names f) (found f) z n.0) t.2 (ro.each t.0 n.0 n.1)))

  new_reached : (s : State) → Reach (schema f) (names f) (e.level + 1) s → Contains (found f) s
  new_reached = reach_level (schema f) (names f) e.level (Contains (found f)) before closed goes

  reached_here : (id : ℕ) → id < length (found f) → Reach (schema f) (names f) (e.level + 1) (at f id)
  reached_here id l = subst (λ k. Reach (schema f) (names f) k (at f id)) x.level (y.reached id l)

  is_started : IsStarted e → IsStarted f
  is_started (inl s) = inl (none s.0, ap (λ (g : Schema). g.start) x.schema ∙ s.1)
  is_started (inr s) =
      let l = s.0 in
      let m = x.longer in
      inr (omega (arith, l, m), x.states 0 l ∙ s.1 ∙ ap start_state (sym x.schema))

  old_level : (k n : ℕ) → k ≤ e.level → IsLevel e k n → IsLevel f k n
  old_level k n small v = record {
    most = let a = v.most in let b = x.longer in omega (arith, a, b);
    each = λ id l. (λ a. forth id a, λ r. from id l r (below_or id (length (found e))));
  }
    where
      forth : (id : ℕ) → id < n → Reach (schema f) (names f) k (at f id)
      forth id a =
          let b = v.most in
          let w : id < length (found e) = omega (arith, a, b) in
          to k (at f id) (subst (Reach (schema e) (names e) k) (sym (x.states id w)) ((v.each id w).0 a))

      from : (id : ℕ) → id < length (found f) → Reach (schema f) (names f) k (at f id) → (id < length (found e)) ⊎ (length (found e) ≤ id) → id < n
      from id l r (inl w) = (v.each id w).1 (subst (Reach (schema e) (names e) k) (x.states id w) (back k (at f id) r))
      from id l r (inr w) =
          let t = old_number (at f id) (reach_more (schema f) (names f) k e.level (at f id) small r) in
          let p = t.1 in
          let m = x.longer in
          let q = one_number (found f) once t.0 id (omega (arith, p, m)) l t.2 in
          absurd (omega (arith, p, q, w))

  new_level : IsLevel f (e.level + 1) (length (found f))
  new_level = record { most = omega arith; each = λ id l. (λ a. reached_here id l, λ r. l) }

  a_level : (k n : ℕ) → (slice_get levels k ≡ Some n) ⊎ ((k ≡ length levels) × (length (found f) ≡ n)) → IsLevel f k n
  a_level k n (inl i) =
      let w = slice_get_within levels k n i in
      let m = h.all_levels in
      old_level k n (omega (arith, w, m)) (h.level k n i)
  a_level k n (inr i) = subst (λ j. IsLevel f j n) (sym (i.0 ∙ h.all_levels)) (subst (IsLevel f (e.level + 1)) i.1 new_level)

  is_stepped : (k n : ℕ) → k < f.level → (slice_get levels k ≡ Some n) ⊎ ((k ≡ length levels) × (length (found f) ≡ n)) → n ≤ length more_rows
  is_stepped k n l (inl i) = let a = (h.level k n i).most in omega (arith, a, most)
  is_stepped k n l (inr i) = let a = i.0 in let b = h.all_levels in let c = x.level in absurd (omega (arith, a, b, c, l))

  pub grown_next : IsGrown f more_frees more_rows (levels ++ length (found f) ∷ [])
  grown_next = record {
    listable = subst (λ u. AreListable (schema f) u) (sym same_names) (subst (λ g. AreListable g (names e)) (sym x.schema) h.listable);
    small = subst (λ n. n ≤ 1000000) (sym x.limit) h.small;
    exploring = y;
    start = is_started h.start;
    once = once;
    each = λ s. (λ c. let t = number_of (found f) s c in subst (Reach (schema f) (names f) f.level) t.2 (y.reached t.0 t.1), λ r. new_reached s (subst (λ k. Reach (schema f) (names f) k s) x.level r));
    all_frees = all;
    some_rows = ro.within;
    rows = record { free = fr.each; row = ro.each };
    all_levels = let a = length-append levels (length (found f) ∷ []) in let b = h.all_levels in let c = x.level in omega (arith, a, b, c);
    level = λ k n i. a_level k n (slice_get-push levels (length (found f)) n k i);
    stepped = λ k n i l. is_stepped k n l (slice_get-push levels (length (found f)) n k i);
  }

-- of the states that the smaller size reaches, each is reached before
pub reached_one : (e : Explorer) (id : ℕ) → IsExploring e → id < length (found e) → IsReachedBefore (at_level (e.level + 1) e) id 1
reached_one e id x l = (e.level, omega arith, x.reached id l)

-- a greater size reaches them too
pub explores_next : (e : Explorer) → IsExploring e → IsExploring (at_level (e.level + 1) e)
explores_next e x = record {
  literals = x.literals;
  are_literals = x.are_literals;
  alike = x.alike;
  within = x.within;
  reached = λ id l. reach_more (schema e) (names e) e.level (e.level + 1) (at e id) (omega arith) (x.reached id l);
  few = x.few;
}
