-- How many states are reached.
use Rattle.std.proofs.Common.{◌≡◌, ℕ, ◌+◌, ◌≤◌, ◌⊎◌, inl, inr, List, [], ◌∷◌, length, refl, sym, ◌∙◌, subst, arith, Contains}
use Rattle.rng_model.specs.Patterns.{Schema}
use Rattle.rng_model.specs.Universe.{Lists}
use Rattle.rng_model.specs.States.{State, Reach, AreDistinct, ReachesMore}
use Rattle.derivative_laws.proofs.Members.{IsIn, is_in, contained}
use Rattle.table_laws.proofs.Levels.{reach_more}

-- a list without one of its members
record Without (x : State) (ys : List State) : Type 0 where
  rest : List State
  shorter : length ys ≡ length rest + 1
  keeps : (z : State) → IsIn z ys → (z ≡ x) ⊎ IsIn z rest

without : (x : State) (ys : List State) → IsIn x ys → Without x ys
without x [] h = absurd h
without x (y ∷ ys) (inl e) = record { rest = ys; shorter = omega arith; keeps = λ z h. go z h }
  where
    go : (z : State) → IsIn z (y ∷ ys) → (z ≡ x) ⊎ IsIn z ys
    go z (inl q) = inl (q ∙ sym e)
    go z (inr h) = inr h
without x (y ∷ ys) (inr h) = next (without x ys h)
  where
    next : Without x ys → Without x (y ∷ ys)
    next t = record { rest = y ∷ t.rest; shorter = (let l = t.shorter in omega arith); keeps = λ z q. go z q }
      where
        under : (z : State) → (z ≡ x) ⊎ IsIn z t.rest → (z ≡ x) ⊎ IsIn z (y ∷ t.rest)
        under z (inl q) = inl q
        under z (inr q) = inr (inr q)

        go : (z : State) → IsIn z (y ∷ ys) → (z ≡ x) ⊎ IsIn z (y ∷ t.rest)
        go z (inl q) = inr (inl q)
        go z (inr q) = under z (t.keeps z q)

-- distinct members of a list are no more than it has
no_more_than : (xs ys : List State) → AreDistinct xs → ((z : State) → IsIn z xs → IsIn z ys) → length xs ≤ length ys
no_more_than [] ys d f = omega arith
no_more_than (x ∷ xs) ys d f =
    let t = without x ys (f x (inl refl)) in
    let again = no_more_than xs t.rest d.1 (λ z h. go t z h (t.keeps z (f z (inr h)))) in
    let l = t.shorter in
    omega arith
  where
    go : (t : Without x ys) (z : State) → IsIn z xs → (z ≡ x) ⊎ IsIn z t.rest → IsIn z t.rest
    go t z h (inl e) = absurd (d.0 (contained x xs (subst (λ w. IsIn w xs) e h)))
    go t z h (inr q) = q

module _ (g : Schema) (u : Lists) where
  pub no_more : (m limit : ℕ) (table : List State) → ((s : State) → Reach g u m s → Contains table s) → length table ≤ limit → ReachesMore g u m limit → ⊥
  no_more m limit table all few r =
      let l = no_more_than r.states table r.distinct (λ z h. is_in z table (all z (r.reached z (contained z r.states h)))) in
      let k = r.many in
      absurd (omega arith)

  pub one_more : (m limit : ℕ) (table : List State) (s : State) → AreDistinct table → ((t : State) → Contains table t → Reach g u m t) → length table ≡ limit →
      (Contains table s → ⊥) → Reach g u m s → ReachesMore g u m limit
  one_more m limit table s d all full new r = record {
    states = s ∷ table;
    many = omega arith;
    distinct = (new, d);
    reached = λ t h. go t (is_in t (s ∷ table) h);
  }
    where
      go : (t : State) → IsIn t (s ∷ table) → Reach g u m t
      go t (inl e) = subst (Reach g u m) (sym e) r
      go t (inr h) = all t (contained t table h)

  pub more_grows : (m n limit : ℕ) → m ≤ n → ReachesMore g u m limit → ReachesMore g u n limit
  more_grows m n limit l r = record { states = r.states; many = r.many; distinct = r.distinct; reached = λ s h. reach_more g u m n s l (r.reached s h) }
