-- Whether a state is reached with so many nodes is decided by a list of all that are, so each has a least count.
use Rattle.std.proofs.Common.{◌≡◌, ◌≢◌, ℕ, zero, suc, ◌+◌, ◌<◌, ◌≤◌, ◌⊎◌, inl, inr, List, [], ◌∷◌, ◌++◌, length, refl, sym, ◌∙◌, ap, subst, arith}
use Rattle.std.specs.declared.cmp.Ordering.{Ordering}
use Rattle.std.specs.declared.cmp.Ordering.TheVariants.{Less, Equal, Greater}
use Rattle.std.proofs.lemmas.Cmp.{tied_itself}
use Rattle.std.proofs.lemmas.Bool.{cases_order}
use Rattle.rng_model.specs.Patterns.{Pattern, Schema, not_allowed, pattern_cmp, pattern_keys}
use Rattle.rng_model.specs.Universe.{Lists}
use Rattle.rng_model.specs.States.{Place, Tag, Fresh, AfterText, AfterElement, State, step, Reach}
use Rattle.rng_model.specs.Codes.{Code, IsInRange}
use Rattle.rng_model.proofs.Orders.{pattern_order}
use Rattle.rng_model.proofs.Keys.{key-same, same_list}
use Rattle.derivative_laws.proofs.Members.{IsIn, in_left, in_right, in_append}
use Rattle.table_laws.specs.Reaching.{weight, free_code, free_codes_left, start_state, GoesInto, IsLeastCount}
use Rattle.table_laws.proofs.Rows.{nothing_step}
use Rattle.table_laws.proofs.Levels.{reach_start, reach_more, reach_step, reach_zero, reach_level, least_zero, least_new}
use Rattle.table_laws.proofs.Free.{one_free, free_falls}
use Rattle.table_laws.proofs.Marks.{in_free_range, free_weight}

abbrev Decided : Type 0 → Type 0
Decided A = A ⊎ (A → ⊥)

same_number : (i j : ℕ) → Decided (i ≡ j)
same_number i j = go (cases_order i j)
  where
    go : (i ≡ j) ⊎ ((i < j) ⊎ (j < i)) → Decided (i ≡ j)
    go (inl e) = inl e
    go (inr (inl l)) = inr (λ e. absurd (omega arith))
    go (inr (inr l)) = inr (λ e. absurd (omega arith))

same_pattern : (p q : Pattern) → Decided (p ≡ q)
same_pattern p q = go (pattern_cmp p q) refl
  where
    differ : (o : Ordering) → pattern_cmp p q ≡ o → o ≢ Equal → p ≡ q → ⊥
    differ o e n f = n (sym e ∙ ap (λ x. pattern_cmp x q) f ∙ tied_itself pattern_order q)

    go : (o : Ordering) → pattern_cmp p q ≡ o → Decided (p ≡ q)
    go Equal e = inl (key-same p q (same_list (pattern_keys p).0 (pattern_keys q).0 e))
    go Less e = inr (differ Less e (λ f. absurd (cc)))
    go Greater e = inr (differ Greater e (λ f. absurd (cc)))

same_place : (a b : Place) → Decided (a ≡ b)
same_place (Tag j) (Tag k) = go (same_number j k)
  where
    go : Decided (j ≡ k) → Decided (Tag j ≡ Tag k)
    go (inl e) = inl (ap Tag e)
    go (inr n) = inr (λ e. n (cc))
same_place Fresh Fresh = inl refl
same_place AfterText AfterText = inl refl
same_place AfterElement AfterElement = inl refl
same_place a b = inr (λ e. absurd (cc))

same_state : (s t : State) → Decided (s ≡ t)
same_state s t = go (same_place s.place t.place) (same_pattern s.pattern t.pattern)
  where
    go : Decided (s.place ≡ t.place) → Decided (s.pattern ≡ t.pattern) → Decided (s ≡ t)
    go (inl e) (inl f) = inl (λ i. record { place = e i; pattern = f i })
    go (inr n) f = inr (λ e. n (ap (λ x. x.place) e))
    go (inl e) (inr n) = inr (λ e. n (ap (λ x. x.pattern) e))

decide_in : (s : State) (xs : List State) → Decided (IsIn s xs)
decide_in s [] = inr (λ h. h)
decide_in s (x ∷ xs) = go (same_state s x) (decide_in s xs)
  where
    go : Decided (s ≡ x) → Decided (IsIn s xs) → Decided (IsIn s (x ∷ xs))
    go (inl e) h = inl (inl e)
    go (inr n) (inl h) = inl (inr h)
    go (inr n) (inr k) = inr (λ h. neither h)
      where
        neither : (s ≡ x) ⊎ IsIn s xs → ⊥
        neither (inl e) = n e
        neither (inr h) = k h

-- the lists that the members give, end to end
spread : {X Y : Type 0} → (X → List Y) → List X → List Y
spread f [] = []
spread f (x ∷ xs) = f x ++ spread f xs

in_spread : {X Y : Type 0} (f : X → List Y) (xs : List X) (x : X) (y : Y) → IsIn x xs → IsIn y (f x) → IsIn y (spread f xs)
unfolding spread
in_spread f [] x y h k = absurd h
in_spread f (z ∷ xs) x y (inl e) k = in_left y (f z) (spread f xs) (subst (λ w. IsIn y (f w)) e k)
in_spread f (z ∷ xs) x y (inr h) k = in_right y (f z) (spread f xs) (in_spread f xs x y h k)

record Spread {X Y : Type 0} (f : X → List Y) (xs : List X) (y : Y) : Type 0 where
  member : X
  in_list : IsIn member xs
  given : IsIn y (f member)

from_spread : {X Y : Type 0} (f : X → List Y) (xs : List X) (y : Y) → IsIn y (spread f xs) → Spread f xs y
unfolding spread
from_spread f [] y h = absurd h
from_spread f (x ∷ xs) y h = go (in_append y (f x) (spread f xs) h) (λ k. from_spread f xs y k)
  where
    go : IsIn y (f x) ⊎ IsIn y (spread f xs) → (IsIn y (spread f xs) → Spread f xs y) → Spread f (x ∷ xs) y
    go (inl k) again = record { member = x; in_list = inl refl; given = k }
    go (inr k) again = let t = again k in record { member = t.member; in_list = inr t.in_list; given = t.given }

-- the numbers below n
numbers : ℕ → List ℕ
numbers zero = []
numbers (suc n) = n ∷ numbers n

in_numbers : (n i : ℕ) → i < n → IsIn i (numbers n)
unfolding numbers
in_numbers zero i l = absurd (omega arith)
in_numbers (suc n) i l = go (same_number i n) (λ k. in_numbers n i k)
  where
    go : Decided (i ≡ n) → (i < n → IsIn i (numbers n)) → (i ≡ n) ⊎ IsIn i (numbers n)
    go (inl e) again = inl e
    go (inr d) again = inr (again (below d (cases_order i n)))
      where
        below : (i ≡ n → ⊥) → (i ≡ n) ⊎ ((i < n) ⊎ (n < i)) → i < n
        below d (inl e) = absurd (d e)
        below d (inr (inl l)) = l
        below d (inr (inr k)) = absurd (omega arith)

below_numbers : (n i : ℕ) → IsIn i (numbers n) → i < n
unfolding numbers
below_numbers zero i h = absurd h
below_numbers (suc n) i (inl e) = omega arith
below_numbers (suc n) i (inr h) = let l = below_numbers n i h in omega arith

module _ (g : Schema) (u : Lists) where
  attributes_row : ℕ → List Code
  attributes_row j = spread (λ s. Code.Attr j s ∷ []) (numbers (length u.atoms))

  -- the codes with a node
  heavy_codes : List Code
  heavy_codes =
      spread (λ i. Code.Opening i ∷ []) (numbers (length u.elements))
      ++ (spread (λ s. Code.Chars s ∷ []) (numbers (length u.atoms)) ++ spread attributes_row (numbers (length u.attributes)))

  in_heavy : (c : Code) → weight c ≡ 1 → IsInRange u c → IsIn c heavy_codes
  unfolding heavy_codes attributes_row
  in_heavy (Code.Opening i) w r =
      in_left (Code.Opening i) (spread (λ i. Code.Opening i ∷ []) (numbers (length u.elements)))
      (spread (λ s. Code.Chars s ∷ []) (numbers (length u.atoms)) ++ spread attributes_row (numbers (length u.attributes)))
      (in_spread (λ i. Code.Opening i ∷ []) (numbers (length u.elements)) i (Code.Opening i) (in_numbers (length u.elements) i r) (inl refl))
  in_heavy (Code.Chars s) w r =
      in_right (Code.Chars s) (spread (λ i. Code.Opening i ∷ []) (numbers (length u.elements)))
      (spread (λ s. Code.Chars s ∷ []) (numbers (length u.atoms)) ++ spread attributes_row (numbers (length u.attributes)))
      (in_left (Code.Chars s) (spread (λ s. Code.Chars s ∷ []) (numbers (length u.atoms))) (spread attributes_row (numbers (length u.attributes)))
      (in_spread (λ s. Code.Chars s ∷ []) (numbers (length u.atoms)) s (Code.Chars s) (in_numbers (length u.atoms) s r) (inl refl)))
  in_heavy (Code.Attr j s) w r =
      in_right (Code.Attr j s) (spread (λ i. Code.Opening i ∷ []) (numbers (length u.elements)))
      (spread (λ s. Code.Chars s ∷ []) (numbers (length u.atoms)) ++ spread attributes_row (numbers (length u.attributes)))
      (in_right (Code.Attr j s) (spread (λ s. Code.Chars s ∷ []) (numbers (length u.atoms))) (spread attributes_row (numbers (length u.attributes)))
      (in_spread attributes_row (numbers (length u.attributes)) j (Code.Attr j s) (in_numbers (length u.attributes) j r.0)
      (in_spread (λ s. Code.Attr j s ∷ []) (numbers (length u.atoms)) s (Code.Attr j s) (in_numbers (length u.atoms) s r.1) (inl refl))))
  in_heavy Code.Body w r = absurd (omega arith)
  in_heavy Code.Closing w r = absurd (omega arith)

  -- the state and those that codes without a node lead to
  chain : ℕ → State → List State
  chain zero s = s ∷ []
  chain (suc n) s = s ∷ chain n (step g u s (free_code s.place))

  row : State → List State
  row s = chain (free_codes_left s) s

  row_of : State → Code → List State
  row_of s c = row (step g u s c)

  rows_of : State → List State
  rows_of s = spread (row_of s) heavy_codes

  level : ℕ → List State
  level zero = row (start_state g)
  level (suc m) = level m ++ spread rows_of (level m)

  abbrev IsAlive : State → Type 0
  IsAlive s = s.pattern ≢ not_allowed

  abbrev IsReached : ℕ → State → Type 0
  IsReached m s = IsAlive s → Reach g u m s

  was_alive : (s : State) (c : Code) → IsAlive (step g u s c) → IsAlive s
  was_alive s c a e = a (nothing_step g u s c e)

  reach_free : (m : ℕ) (s : State) → Reach g u m s → IsAlive (step g u s (free_code s.place)) → Reach g u m (step g u s (free_code s.place))
  reach_free m s r a =
      let w = free_weight g u s in
      reach_more g u (m + weight (free_code s.place)) m (step g u s (free_code s.place)) (omega arith) (reach_step g u m s (free_code s.place) r (record { in_range = in_free_range g u s; allowed = a }))

  -- each state of a level that isn't dead is reached
  chain_reached : (m n : ℕ) (s : State) → IsReached m s → (t : State) → IsIn t (chain n s) → IsReached m t
  unfolding chain
  chain_reached m zero s h t (inl e) = subst (IsReached m) (sym e) h
  chain_reached m zero s h t (inr q) = absurd q
  chain_reached m (suc n) s h t (inl e) = subst (IsReached m) (sym e) h
  chain_reached m (suc n) s h t (inr q) =
      chain_reached m n (step g u s (free_code s.place)) (λ a. reach_free m s (h (was_alive s (free_code s.place) a)) a) t q

  record IsHeavy (c : Code) : Type 0 where
    heavy : weight c ≡ 1
    in_range : IsInRange u c

  single : (c d : Code) → IsIn c (d ∷ []) → IsHeavy d → IsHeavy c
  single c d (inl e) h = subst IsHeavy (sym e) h
  single c d (inr q) h = absurd q

  heavy_range : (c : Code) → IsIn c heavy_codes → IsHeavy c
  unfolding heavy_codes attributes_row
  heavy_range c h =
      first (in_append c (spread (λ i. Code.Opening i ∷ []) (numbers (length u.elements)))
      (spread (λ s. Code.Chars s ∷ []) (numbers (length u.atoms)) ++ spread attributes_row (numbers (length u.attributes))) h)
    where
      opening : Spread (λ i. Code.Opening i ∷ []) (numbers (length u.elements)) c → IsHeavy c
      opening t = single c (Code.Opening t.member) t.given (record { heavy = refl; in_range = below_numbers (length u.elements) t.member t.in_list })

      chars : Spread (λ s. Code.Chars s ∷ []) (numbers (length u.atoms)) c → IsHeavy c
      chars t = single c (Code.Chars t.member) t.given (record { heavy = refl; in_range = below_numbers (length u.atoms) t.member t.in_list })

      attribute : (j : ℕ) → j < length u.attributes → Spread (λ s. Code.Attr j s ∷ []) (numbers (length u.atoms)) c → IsHeavy c
      attribute j l t = single c (Code.Attr j t.member) t.given (record { heavy = refl; in_range = (l, below_numbers (length u.atoms) t.member t.in_list) })

      attributes : Spread attributes_row (numbers (length u.attributes)) c → IsHeavy c
      attributes t =
          attribute t.member (below_numbers (length u.attributes) t.member t.in_list)
          (from_spread (λ s. Code.Attr t.member s ∷ []) (numbers (length u.atoms)) c t.given)

      second : IsIn c (spread (λ s. Code.Chars s ∷ []) (numbers (length u.atoms))) ⊎ IsIn c (spread attributes_row (numbers (length u.attributes))) → IsHeavy c
      second (inl q) = chars (from_spread (λ s. Code.Chars s ∷ []) (numbers (length u.atoms)) c q)
      second (inr q) = attributes (from_spread attributes_row (numbers (length u.attributes)) c q)

      first : IsIn c (spread (λ i. Code.Opening i ∷ []) (numbers (length u.elements)))
          ⊎ IsIn c (spread (λ s. Code.Chars s ∷ []) (numbers (length u.atoms)) ++ spread attributes_row (numbers (length u.attributes))) → IsHeavy c
      first (inl q) = opening (from_spread (λ i. Code.Opening i ∷ []) (numbers (length u.elements)) c q)
      first (inr q) = second (in_append c (spread (λ s. Code.Chars s ∷ []) (numbers (length u.atoms))) (spread attributes_row (numbers (length u.attributes))) q)

  row_reached : (m : ℕ) (s t : State) → IsReached m s → IsIn t (rows_of s) → IsReached (suc m) t
  unfolding rows_of row_of row
  row_reached m s t h q = go (from_spread (row_of s) heavy_codes t q)
    where
      next : (c : Code) → IsHeavy c → IsReached (suc m) (step g u s c)
      next c k a =
          let w = k.heavy in
          reach_more g u (m + weight c) (suc m) (step g u s c) (omega arith) (reach_step g u m s c (h (was_alive s c a)) (record { in_range = k.in_range; allowed = a }))

      go : Spread (row_of s) heavy_codes t → IsReached (suc m) t
      go x = chain_reached (suc m) (free_codes_left (step g u s x.member)) (step g u s x.member) (next x.member (heavy_range x.member x.in_list)) t x.given

  level_reached : (m : ℕ) (s : State) → IsIn s (level m) → IsReached m s
  unfolding level row
  level_reached zero s h = chain_reached 0 (free_codes_left (start_state g)) (start_state g) (λ a. reach_start g u 0 a) s h
  level_reached (suc m) s h = go (λ t q. level_reached m t q) (in_append s (level m) (spread rows_of (level m)) h)
    where
      go : ((t : State) → IsIn t (level m) → IsReached m t) → IsIn s (level m) ⊎ IsIn s (spread rows_of (level m)) → IsReached (suc m) s
      go again (inl q) = λ a. reach_more g u m (suc m) s (omega arith) (again s q a)
      go again (inr q) = let t = from_spread rows_of (level m) s q in row_reached m t.member s (again t.member t.in_list) t.given

  -- each state that is reached is in the level
  chain_first : (n : ℕ) (s : State) → IsIn s (chain n s)
  unfolding chain
  chain_first zero s = inl refl
  chain_first (suc n) s = inl refl

  chain_alive : (n : ℕ) (s t : State) → IsAlive t → IsIn t (chain n s) → IsAlive s
  unfolding chain
  chain_alive zero s t a (inl e) = subst IsAlive e a
  chain_alive zero s t a (inr q) = absurd q
  chain_alive (suc n) s t a (inl e) = subst IsAlive e a
  chain_alive (suc n) s t a (inr q) = was_alive s (free_code s.place) (chain_alive n (step g u s (free_code s.place)) t a q)

  abbrev FreeIn : List State → State → Type 0
  FreeIn states t = IsAlive (step g u t (free_code t.place)) → IsIn (step g u t (free_code t.place)) states

  chain_closed : (n : ℕ) (s : State) → free_codes_left s ≤ n → (t : State) → IsIn t (chain n s) → FreeIn (chain n s) t
  unfolding chain
  chain_closed zero s l t (inl e) = subst (FreeIn (chain 0 s)) (sym e) (λ a. let f = free_falls g u s a in absurd (omega arith))
  chain_closed zero s l t (inr q) = absurd q
  chain_closed (suc n) s l t (inl e) = subst (FreeIn (chain (suc n) s)) (sym e) (λ a. inr (chain_first n (step g u s (free_code s.place))))
  chain_closed (suc n) s l t (inr q) = λ a.
      let f = free_falls g u s (chain_alive n (step g u s (free_code s.place)) t (was_alive t (free_code t.place) a) q) in
      inr (chain_closed n (step g u s (free_code s.place)) (omega arith) t q a)

  by_free : (states : List State) (s : State) → FreeIn states s → GoesInto g u 0 s (λ t. IsIn t states)
  by_free states s f c w leads =
      let e : c ≡ free_code s.place = one_free g u s c w leads.allowed in
      subst (λ x. IsIn (step g u s x) states) (sym e) (f (subst (λ x. IsAlive (step g u s x)) e leads.allowed))

  from_rows : (x t : State) → IsIn t (rows_of x) → Spread (row_of x) heavy_codes t
  unfolding rows_of
  from_rows x t h = from_spread (row_of x) heavy_codes t h

  to_rows : (x : State) (c : Code) (t : State) → IsIn c heavy_codes → IsIn t (row_of x c) → IsIn t (rows_of x)
  unfolding rows_of
  to_rows x c t h k = in_spread (row_of x) heavy_codes c t h k

  row_closed : (s : State) (c : Code) (t : State) → IsIn t (row_of s c) → FreeIn (row_of s c) t
  unfolding row_of row
  row_closed s c t h = chain_closed (free_codes_left (step g u s c)) (step g u s c) (omega arith) t h

  row_first : (s : State) (c : Code) → IsIn (step g u s c) (row_of s c)
  unfolding row_of row
  row_first s c = chain_first (free_codes_left (step g u s c)) (step g u s c)

  abbrev Complete : ℕ → Type 0
  Complete m = (s : State) → Reach g u m s → IsIn s (level m)

  next_closed : (m : ℕ) → Complete m → (t : State) → IsIn t (level m) ⊎ IsIn t (spread rows_of (level m)) → FreeIn (level (suc m)) t
  unfolding level
  next_closed m again t (inl q) = λ a.
      in_left (step g u t (free_code t.place)) (level m) (spread rows_of (level m))
      (again (step g u t (free_code t.place)) (reach_free m t (level_reached m t q (was_alive t (free_code t.place) a)) a))
  next_closed m again t (inr q) = λ a.
      let x = from_spread rows_of (level m) t q in
      let y = from_rows x.member t x.given in
      in_right (step g u t (free_code t.place)) (level m) (spread rows_of (level m))
      (in_spread rows_of (level m) x.member (step g u t (free_code t.place)) x.in_list
      (to_rows x.member y.member (step g u t (free_code t.place)) y.in_list (row_closed x.member y.member t y.given a)))

  next_goes : (m : ℕ) → Complete m → (t : State) → Reach g u m t → GoesInto g u 1 t (λ x. IsIn x (level (suc m)))
  unfolding level
  next_goes m again t r c w leads =
      in_right (step g u t c) (level m) (spread rows_of (level m))
      (in_spread rows_of (level m) t (step g u t c) (again t r) (to_rows t c (step g u t c) (in_heavy c w leads.in_range) (row_first t c)))

  in_level : (m : ℕ) → Complete m
  unfolding level row
  in_level zero s r =
      reach_zero g u (λ t. IsIn t (level 0)) (λ a. chain_first (free_codes_left (start_state g)) (start_state g))
      (λ t q. by_free (level 0) t (chain_closed (free_codes_left (start_state g)) (start_state g) (omega arith) t q)) s r
  in_level (suc m) s r =
      reach_level g u m (λ t. IsIn t (level (suc m))) (λ t q. in_left t (level m) (spread rows_of (level m)) (in_level m t q))
      (λ t q. inr (by_free (level (suc m)) t (next_closed m (in_level m) t (in_append t (level m) (spread rows_of (level m)) q))))
      (λ t q. inr (next_goes m (in_level m) t q))
      s (reach_more g u (suc m) (m + 1) s (omega arith) r)

  -- so it is decided
  pub reach_decided : (m : ℕ) (s : State) → Reach g u m s ⊎ (Reach g u m s → ⊥)
  reach_decided m s = go (decide_in s (level m)) (same_pattern s.pattern not_allowed)
    where
      go : Decided (IsIn s (level m)) → Decided (s.pattern ≡ not_allowed) → Reach g u m s ⊎ (Reach g u m s → ⊥)
      go (inl h) (inl e) = inr (λ r. r.allowed e)
      go (inl h) (inr a) = inl (level_reached m s h a)
      go (inr n) d = inr (λ r. n (in_level m s r))

  pub least_exists : (m : ℕ) (s : State) → Reach g u m s → (k : ℕ) × (k ≤ m) × IsLeastCount g u k s
  least_exists zero s r = (0, omega arith, least_zero g u s r)
  least_exists (suc m) s r = go (λ q. least_exists m s q) (reach_decided m s)
    where
      go : (Reach g u m s → (k : ℕ) × (k ≤ m) × IsLeastCount g u k s) → Reach g u m s ⊎ (Reach g u m s → ⊥) → (k : ℕ) × (k ≤ suc m) × IsLeastCount g u k s
      go again (inl q) = let t = again q in let l = t.1 in (t.0, omega arith, t.2)
      go again (inr n) = (m + 1, omega arith, least_new g u m s (reach_more g u (suc m) (m + 1) s (omega arith) r) n)
