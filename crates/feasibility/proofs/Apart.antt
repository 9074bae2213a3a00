-- States of different numbers differ.
use Rattle.std.proofs.Common.{◌≡◌, ℕ, zero, suc, ◌<◌, inl, inr, Bool, true, false, ◌&&◌, ◌||◌, List, [], ◌∷◌, length, nat_eq, get_or, refl, sym, ◌∙◌, ap, subst, arith, true≢false, Some}
use Rattle.std.specs.List.{AllByRecursion, IsDistinct, list_any, position}
use Rattle.std.proofs.lemmas.List.Quantifiers.{position-Some}
use Rattle.rng_model.specs.States.{State, AreDistinct, Reach, ReachesMore}
use Rattle.derivative_laws.proofs.Members.{IsIn, is_in}
use Rattle.table_laws.proofs.Counts.{one_more}
use Rattle.pattern_intern.specs.Stored.{Stored, AreApart, count}
use Rattle.derivatives.specs.declared.states.Place.{Place}
use Rattle.derivatives.specs.declared.states.Place.TheVariants.{Tag, Fresh, AfterText, AfterElement}
use Rattle.derivatives.specs.declared.states.State.{State as Key}
use Rattle.derivatives.specs.contracts.states.PlacePartialEq.TheImpl as place_eq
use Rattle.derivatives.specs.contracts.states.StatePartialEq.TheImpl as key_eq
use Rattle.derivatives.specs.Views.{place_of, state_of}
use Rattle.transitions.specs.Arcs.{state_in}
use Rattle.feasibility.specs.declared.explorer.Explorer.{Explorer}
use Rattle.feasibility.specs.Exploring.{IsExploring, IsFound, AreWithin, states_of, found, pool, schema, names}

both_true : (a b : Bool) → (a && b) ≡ true → (a ≡ true) × (b ≡ true)
both_true true b h = (refl, h)
both_true false b h = absurd (true≢false (sym h))

both_false : (a b : Bool) → (a || b) ≡ false → (a ≡ false) × (b ≡ false)
both_false true b h = absurd (true≢false h)
both_false false b h = (refl, h)

nat_tells : (m n : ℕ) → nat_eq m n ≡ true → m ≡ n
nat_tells m n h = grind (arith, h)

place_tells : (a b : Place) → place_eq.eq-value.it a b ≡ true → a ≡ b
place_tells (Tag i) (Tag j) h = ap Tag (nat_tells i j h)
place_tells (Tag i) b h = absurd (true≢false (sym h))
place_tells Fresh Fresh h = refl
place_tells Fresh b h = absurd (true≢false (sym h))
place_tells AfterText AfterText h = refl
place_tells AfterText b h = absurd (true≢false (sym h))
place_tells AfterElement AfterElement h = refl
place_tells AfterElement b h = absurd (true≢false (sym h))

place_self : (a : Place) → place_eq.eq-value.it a a ≡ true
place_self (Tag i) = grind arith
place_self Fresh = refl
place_self AfterText = refl
place_self AfterElement = refl

key_tells : (x y : Key) → key_eq.eq-value.it x y ≡ true → x ≡ y
key_tells x y h =
    let t = both_true (place_eq.eq-value.it x.place y.place) (nat_eq x.pattern.0 y.pattern.0) h in
    let p = place_tells x.place y.place t.0 in
    let q = nat_tells x.pattern.0 y.pattern.0 t.1 in
    (λ i. record { place = p i; pattern = record { 0 = q i } })

key_self : (x : Key) → key_eq.eq-value.it x x ≡ true
key_self x = let e = place_self x.place in grind (arith, e)

place_one : (a b : Place) → place_of a ≡ place_of b → a ≡ b
place_one (Tag i) (Tag j) e = (let h : i ≡ j = cc in ap Tag h)
place_one Fresh Fresh e = refl
place_one AfterText AfterText e = refl
place_one AfterElement AfterElement e = refl
place_one (Tag i) Fresh e = absurd (cc)
place_one (Tag i) AfterText e = absurd (cc)
place_one (Tag i) AfterElement e = absurd (cc)
place_one Fresh (Tag j) e = absurd (cc)
place_one Fresh AfterText e = absurd (cc)
place_one Fresh AfterElement e = absurd (cc)
place_one AfterText (Tag j) e = absurd (cc)
place_one AfterText Fresh e = absurd (cc)
place_one AfterText AfterElement e = absurd (cc)
place_one AfterElement (Tag j) e = absurd (cc)
place_one AfterElement Fresh e = absurd (cc)
place_one AfterElement AfterText e = absurd (cc)

pub length_states : (s : Stored) (keys : List Key) → length (states_of s keys) ≡ length keys
length_states s [] = refl
length_states s (k ∷ ks) = ap suc (length_states s ks)

pub at_key : (s : Stored) (keys : List Key) (id : ℕ) (d : Key) → id < length keys → state_in (states_of s keys) id ≡ state_of s (get_or keys id d)
at_key s [] id d l = absurd (omega arith)
at_key s (k ∷ ks) zero d l = refl
at_key s (k ∷ ks) (suc id) d l = at_key s ks id d (omega arith)

module _ (s : Stored) (apart : AreApart s) where
  same_key : (k q : Key) → k.pattern.0 < count s → q.pattern.0 < count s → state_of s k ≡ state_of s q → k ≡ q
  same_key k q l m e =
      let p = place_one k.place q.place (ap (λ (x : State). x.place) e) in
      let t = apart.trees k.pattern.0 q.pattern.0 l m (ap (λ (x : State). x.pattern) e) in
      (λ i. record { place = p i; pattern = record { 0 = t i } })

  absent : (k : Key) (ks : List Key) → k.pattern.0 < count s → AreWithin s ks → AllByRecursion (λ q. key_eq.eq-value.it k q ≡ false) ks → IsIn (state_of s k) (states_of s ks) → ⊥
  absent k [] l w n h = h
  absent k (q ∷ ks) l w n (inl e) = true≢false (sym (subst (λ z. key_eq.eq-value.it k z ≡ true) (same_key k q l w.0 e) (key_self k)) ∙ n.0)
  absent k (q ∷ ks) l w n (inr h) = absent k ks l w.1 n.1 h

  pub distinct_states : (keys : List Key) → AreWithin s keys → IsDistinct key_eq.eq-value.it keys → AreDistinct (states_of s keys)
  unfolding IsDistinct
  distinct_states [] w d = tt
  distinct_states (k ∷ ks) w d = (λ h. absent k ks w.0 w.1 d.0 (is_in (state_of s k) (states_of s ks) h), distinct_states ks w.1 d.1)

none_all : (p : Key → Bool) (ks : List Key) → list_any p ks ≡ false → AllByRecursion (λ q. p q ≡ false) ks
none_all p [] h = tt
none_all p (k ∷ ks) h = let t = both_false (p k) (list_any p ks) h in (t.0, none_all p ks t.1)

each_in : (P : State → Type 0) (states : List State) → ((id : ℕ) → id < length states → P (state_in states id)) → (z : State) → IsIn z states → P z
each_in P [] f z h = absurd h
each_in P (x ∷ xs) f z (inl e) = subst P (sym e) (f 0 (omega arith))
each_in P (x ∷ xs) f z (inr h) = each_in P xs (λ id l. f (suc id) (omega arith)) z h

module _ (e : Explorer) (x : IsExploring e) (k : Key) (w : k.pattern.0 < count (pool e)) where
  -- the state is there
  pub found_at : (id : ℕ) → position (key_eq.eq-value.it k) e.states.keys ≡ Some id → IsFound e (state_of (pool e) k) id
  found_at id h =
      let t = position-Some (key_eq.eq-value.it k) e.states.keys id k h in
      let l = t.0 in
      record {
        within = (let n = length_states (pool e) e.states.keys in omega (arith, n, l));
        is = at_key (pool e) e.states.keys id k l ∙ ap (state_of (pool e)) (sym (key_tells k (get_or e.states.keys id k) t.1));
      }

  -- or a further one is reached
  pub full_at : AreApart (pool e) → IsDistinct key_eq.eq-value.it e.states.keys → list_any (key_eq.eq-value.it k) e.states.keys ≡ false → length e.states.keys ≡ e.limit →
      Reach (schema e) (names e) e.level (state_of (pool e) k) → ReachesMore (schema e) (names e) e.level e.limit
  full_at apart once none full r =
      one_more (schema e) (names e) e.level e.limit (found e) (state_of (pool e) k) (distinct_states (pool e) apart e.states.keys x.within once)
      (λ z h. each_in (Reach (schema e) (names e) e.level) (found e) x.reached z (is_in z (found e) h)) (length_states (pool e) e.states.keys ∙ full)
      (λ h. absent (pool e) apart k e.states.keys w x.within (none_all (key_eq.eq-value.it k) e.states.keys none) (is_in (state_of (pool e) k) (found e) h)) r
