-- Of more than are taken, some are free; and the free ones below a number, counted.
use Rattle.std.proofs.Common.{◌≡◌, ℕ, zero, suc, ◌+◌, ◌<◌, ◌≤◌, ◌^◌, ◌⊎◌, inl, inr, List, [], ◌∷◌, length, refl, sym, ◌∙◌, ap, subst, arith, codes, Contains}
use Rattle.rng_model.specs.Texts.{Text}
use Rattle.rng_model.specs.Names.{Name, name_cmp}
use Rattle.rng_model.specs.Fresh.{numbered, IsFirstFree, IsAmongFree, HasFree}
use Rattle.rng_model.specs.Fresh as fresh
use Rattle.text_atoms.proofs.Members.{member_first, member_later, member_cases, member_none}
use Rattle.text_atoms.proofs.FreshTexts.{numbered-differ}
use Rattle.name_universe.specs.Sets.{IsTakenIn}

-- the names of one namespace by their numbers
abbrev pub name_of : Text → ℕ → Name
name_of u k = record { ns = u; local = numbered (codes "x") k }

pub name_of-differ : (u : Text) (j k : ℕ) → j < k → k < 2 ^ 64 → name_of u j ≡ name_of u k → ⊥
name_of-differ u j k l m e = numbered-differ (codes "x") j k l m (λ i. (e i).local)

-- a list without one of its members
record Without (z : Name) (xs : List Name) : Type 0 where
  rest : List Name
  shorter : length xs ≡ suc (length rest)
  keeps : (x : Name) → Contains xs x → (x ≡ z) ⊎ Contains rest x

without : (z : Name) (xs : List Name) → Contains xs z → Without z xs
without z [] h = absurd (member_none z h)
without z (y ∷ xs) (zero, below, is) = record { rest = xs; shorter = omega arith; keeps = λ x h. go x (member_cases y x xs h) }
  where
    go : (x : Name) → (y ≡ x) ⊎ Contains xs x → (x ≡ z) ⊎ Contains xs x
    go x (inl e) = let same : y ≡ z = is in inl (sym e ∙ same)
    go x (inr h) = inr h
without z (y ∷ xs) (suc k, below, is) = let t = without z xs (k, omega arith, is) in record { rest = y ∷ t.rest; shorter = (let s = t.shorter in omega arith); keeps = λ x h. go t x (member_cases y x xs h) }
  where
    go : (t : Without z xs) (x : Name) → (y ≡ x) ⊎ Contains xs x → (x ≡ z) ⊎ Contains (y ∷ t.rest) x
    go t x (inl e) = inr (zero, omega arith, e)
    go t x (inr h) = elim (t.keeps x h) [ inl f ↦ inl f | inr i ↦ inr (member_later y x t.rest i) ]

-- those that are taken are members, so they are as many at most
pub few_taken : (taken : Text → Type 0) (u : Text) (xs : List Name) (k m : ℕ) → HasFree taken (codes "x") k m → k < 2 ^ 64 →
    ((j : ℕ) → j < k → taken (numbered (codes "x") j) → Contains xs (name_of u j)) → k ≤ length xs + m
few_taken taken u xs zero zero fresh.none l f = omega arith
few_taken taken u xs zero (suc m) h l f = elim h [ ]
few_taken taken u xs (suc k) m (fresh.past_taken h t) l f =
    let r = without (name_of u k) xs (f k (omega arith) t) in
    let fewer : k ≤ length r.rest + m = few_taken taken u r.rest k m h (omega arith) (λ j below s. other r j below (r.keeps (name_of u j) (f j (omega arith) s))) in
    let s = r.shorter in
    omega arith
  where
    other : (r : Without (name_of u k) xs) (j : ℕ) → j < k → (name_of u j ≡ name_of u k) ⊎ Contains r.rest (name_of u j) → Contains r.rest (name_of u j)
    other r j below (inl e) = absurd (name_of-differ u j k below (omega arith) e)
    other r j below (inr h) = h
few_taken taken u xs (suc k) (suc m) (fresh.past_free h free) l f =
    let fewer : k ≤ length xs + m = few_taken taken u xs k m h (omega arith) (λ j below s. f j (omega arith) s) in
    omega arith

-- of one more than are taken, one is free
pub some_name_free : (u : Text) (xs : List Name) (n : ℕ) → n < 2 ^ 64 → length xs < n → ((j : ℕ) → j < n → Contains xs (name_of u j)) → ⊥
some_name_free u xs n m l all =
    let few : n ≤ length xs = many_names n m xs all in
    omega arith
  where
    many_names : (n : ℕ) → n < 2 ^ 64 → (xs : List Name) → ((j : ℕ) → j < n → Contains xs (name_of u j)) → n ≤ length xs
    many_names zero m xs all = omega arith
    many_names (suc n) m xs all =
        let r = without (name_of u n) xs (all n (omega arith)) in
        let fewer : n ≤ length r.rest = many_names n (omega arith) r.rest (λ j l. other r j l (r.keeps (name_of u j) (all j (omega arith)))) in
        let s = r.shorter in
        omega arith
      where
        other : (r : Without (name_of u n) xs) (j : ℕ) → j < n → (name_of u j ≡ name_of u n) ⊎ Contains r.rest (name_of u j) → Contains r.rest (name_of u j)
        other r j l (inl e) = absurd (name_of-differ u j n l (omega arith) e)
        other r j l (inr h) = h

module _ (taken : Text → Type 0) (stem : Text) where
  -- a number has one count
  one_count : (k m n : ℕ) → HasFree taken stem k m → HasFree taken stem k n → m ≡ n
  one_count zero zero zero fresh.none fresh.none = refl
  one_count zero zero (suc n) h i = elim i [ ]
  one_count zero (suc m) n h i = elim h [ ]
  one_count (suc k) m n (fresh.past_taken h t) (fresh.past_taken i s) = one_count k m n h i
  one_count (suc k) m (suc n) (fresh.past_taken h t) (fresh.past_free i free) = absurd (free t)
  one_count (suc k) (suc m) n (fresh.past_free h free) (fresh.past_taken i s) = absurd (free s)
  one_count (suc k) (suc m) (suc n) (fresh.past_free h f) (fresh.past_free i g) = ap suc (one_count k m n h i)

  pub record Earlier (j m : ℕ) : Type 0 where
    pub count : ℕ
    pub before : HasFree taken stem j count
    pub few : count ≤ m

  at_or_below : (j k : ℕ) → j ≤ suc k → (j ≤ k) ⊎ (j ≡ suc k)
  at_or_below zero k l = inl (omega arith)
  at_or_below (suc zero) zero l = inr refl
  at_or_below (suc (suc j)) zero l = absurd (omega arith)
  at_or_below (suc j) (suc k) l = elim (at_or_below j k (omega arith)) [ inl m ↦ inl (omega arith) | inr e ↦ inr (ap suc e) ]

  -- the count of an earlier number
  pub count_at : (j k m : ℕ) → j ≤ k → HasFree taken stem k m → Earlier j m
  count_at zero zero (suc m) l h = elim h [ ]
  count_at (suc j) zero (suc m) l h = elim h [ ]
  count_at zero zero zero l fresh.none = record { count = zero; before = fresh.none; few = omega arith }
  count_at (suc j) zero zero l fresh.none = absurd (omega arith)
  count_at j (suc k) m l (fresh.past_taken h t) = elim (at_or_below j k l) [
    | inl below ↦ count_at j k m below h
    | inr e ↦ record { count = m; before = subst (λ (i : ℕ). HasFree taken stem i m) (sym e) (fresh.past_taken h t); few = omega arith }
  ]
  count_at j (suc k) (suc m) l (fresh.past_free h free) = elim (at_or_below j k l) [
    | inl below ↦ let r = count_at j k m below h in record { count = r.count; before = r.before; few = (let f = r.few in omega arith) }
    | inr e ↦ record { count = suc m; before = subst (λ (i : ℕ). HasFree taken stem i (suc m)) (sym e) (fresh.past_free h free); few = omega arith }
  ]

  -- a free one below a number has a lower count
  pub count_below : (j k m : ℕ) → j < k → (taken (numbered stem j) → ⊥) → HasFree taken stem k m → (n : ℕ) × HasFree taken stem j n × (n < m)
  count_below j k m l free h =
      let r = count_at j k m (omega arith) h in
      let s = count_at (suc j) k m (omega arith) h in
      let e : s.count ≡ suc r.count = one_count (suc j) s.count (suc r.count) s.before (fresh.past_free r.before free) in
      (r.count, r.before, (let f = s.few in omega arith))

  -- the free ones below the number are the first, as many as are counted
  pub record IsFreeBelow (k : ℕ) (x : Text) : Type 0 where
    pub number : ℕ
    pub below : number < k
    pub is : x ≡ numbered stem number
    pub free : taken x → ⊥

  pub among_from : (k count : ℕ) (x : Text) → HasFree taken stem k count → IsFreeBelow k x → IsAmongFree taken count stem x
  among_from k count x h f =
      let (n, before, few) = count_below f.number k count f.below (λ t. f.free (subst taken (sym f.is) t)) h in
      record { number = f.number; earlier = n; is = f.is; free = f.free; before = before; few = few }

  before_or_not : (j k : ℕ) → (j < k) ⊎ (k ≤ j)
  before_or_not j zero = inr (omega arith)
  before_or_not zero (suc k) = inl (omega arith)
  before_or_not (suc j) (suc k) = elim (before_or_not j k) [ inl l ↦ inl (omega arith) | inr l ↦ inr (omega arith) ]

  pub among_to : (k count : ℕ) (x : Text) → HasFree taken stem k count → IsAmongFree taken count stem x → IsFreeBelow k x
  among_to k count x h a = elim (before_or_not a.number k) [
    | inl l ↦ record { number = a.number; below = l; is = a.is; free = a.free }
    | inr l ↦
        let r = count_at k a.number a.earlier l a.before in
        let e : r.count ≡ count = one_count k r.count count r.before h in
        absurd (let f = r.few in let g = a.few in omega arith)
  ]

  -- one number more
  pub below_taken : (k : ℕ) (x : Text) → taken (numbered stem k) → IsFreeBelow (k + 1) x → IsFreeBelow k x
  below_taken k x t f = elim (before_or_not f.number k) [
    | inl b ↦ record { number = f.number; below = b; is = f.is; free = f.free }
    | inr b ↦ absurd (f.free (subst taken (sym (f.is ∙ ap (numbered stem) (let c = f.below in let s : f.number ≡ k = omega arith in s))) t))
  ]

  pub below_free : (k : ℕ) (x : Text) → IsFreeBelow (k + 1) x → IsFreeBelow k x ⊎ (x ≡ numbered stem k)
  below_free k x f = elim (before_or_not f.number k) [
    | inl b ↦ inl (record { number = f.number; below = b; is = f.is; free = f.free })
    | inr b ↦ inr (f.is ∙ ap (numbered stem) (let c = f.below in let s : f.number ≡ k = omega arith in s))
  ]

  pub count_taken : (k m : ℕ) → HasFree taken stem k m → taken (numbered stem k) → HasFree taken stem (k + 1) m
  count_taken k m h t = let e : k + 1 ≡ suc k = omega arith in rw e (fresh.past_taken h t)

  pub count_free : (k m : ℕ) → HasFree taken stem k m → (taken (numbered stem k) → ⊥) → HasFree taken stem (k + 1) (m + 1)
  count_free k m h free = let e : k + 1 ≡ suc k = omega arith in let f : m + 1 ≡ suc m = omega arith in rw (e, f) (fresh.past_free h free)

  pub below_later : (k : ℕ) (x : Text) → IsFreeBelow k x → IsFreeBelow (k + 1) x
  below_later k x f = record { number = f.number; below = (let b = f.below in omega arith); is = f.is; free = f.free }

  pub below_this : (k : ℕ) (x : Text) → x ≡ numbered stem k → (taken (numbered stem k) → ⊥) → IsFreeBelow (k + 1) x
  below_this k x e free = record { number = k; below = omega arith; is = e; free = λ t. free (subst taken e t) }

pub found_free : (u : Text) (taken : List Name) (n : Name) (k : ℕ) → n ≡ name_of u k → (Contains taken n → ⊥) → ((j : ℕ) → j < k → Contains taken (name_of u j)) →
    IsFirstFree (IsTakenIn taken u) (codes "x") n.local
found_free u taken n k is free first = record {
  number = k;
  is = λ i. (is i).local;
  free = λ h. free (subst (Contains taken) (λ i. record { ns = (sym is i).ns; local = n.local }) h);
  first = first;
}
