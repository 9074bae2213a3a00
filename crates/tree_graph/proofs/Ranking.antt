-- Where pairs of a place and a position stand once they are sorted.
use Rattle.std.proofs.Common.{◌≡◌, ℕ, zero, suc, ◌+◌, ◌<◌, ◌≤◌, Bool, true, false, cond, not, nat_lt, nat_le, List, [], ◌∷◌, ◌++◌, length, map, take, drop, get_or, Some, refl, sym, ap, ◌∙◌, subst, arith}
use Rattle.std.specs.Prelude.{◌≢◌, ◌==◌, slice_get, slice_set, slice_index, option_map, filter, All, Contains}
use Rattle.std.specs.declared.cmp.Ordering.TheVariants.{Less, Equal, Greater}
use Rattle.std.specs.Ordering.{is_lt, nat_cmp, ordering_then}
use Rattle.std.specs.List.Sorted.{IsPermutation, IsSorted}
use Rattle.std.specs.Cmp.{IsStrictWeakOrder}
use Rattle.std.proofs.lemmas.Bool.{ltb-true, ltb-false, lt-ltb, le-ltb, le-leb, lt-leb, eqb-true, eqb-false}
use Rattle.std.proofs.lemmas.Cmp.{nat_cmp_total, then_total, on_total}
use Rattle.std.proofs.lemmas.List.Sorted.{ranks_by, sorted_far, sum_by-IsPermutation, length_permutation, All-permutation, Contains-permutation}
use Rattle.std.proofs.lemmas.List.Sums.{length-filter}
use Rattle.std.proofs.lemmas.Option.{slice_get_within, slice_get-get_or, get_or_from_slice_get, slice_get-map, same_Some}
use Rattle.std.proofs.lemmas.List.{get_or_default, take_more, length-take-le, length-map, map-append}
use Rattle.tree_graph.specs.Numbers.{number_at}
use Rattle.tree_graph.specs.Ranks.{AreNumbers, AreRanks, IsByNumber, paired}
use Rattle.tree_graph.proofs.Writes.{get_set, get_other}

-- a lesser place, or the same and a lesser position
abbrev pub is_before : ℕ × ℕ → ℕ × ℕ → Bool
is_before x y = is_lt (ordering_then (nat_cmp x.0 y.0) (nat_cmp x.1 y.1))

abbrev is_no_later : ℕ × ℕ → ℕ × ℕ → Bool
is_no_later x y = not (is_before y x)

-- by places where the position is behind, or before
before_behind : (x j at k : ℕ) → k ≤ j → is_before (x, j) (at, k) ≡ nat_lt x at
before_behind x j at k h = step (nat_lt x at) (x == at)
  where
    none : is_lt (nat_cmp j k) ≡ false
    none = rw (le-ltb j k h) (last (j == k))
      where
        last : (b : Bool) → is_lt (cond b Equal Greater) ≡ false
        last true = refl
        last false = refl

    step : (a b : Bool) → is_lt (ordering_then (cond a Less (cond b Equal Greater)) (nat_cmp j k)) ≡ a
    step true b = refl
    step false true = none
    step false false = refl

before_first : (x j at k : ℕ) → j < k → is_before (x, j) (at, k) ≡ nat_le x at
before_first x j at k h =
    elim (nat_lt x at) as (λ a. nat_lt x at ≡ a → is_lt (ordering_then (cond a Less (cond (x == at) Equal Greater)) (nat_cmp j k)) ≡ nat_le x at) [
      | true ↦ λ a. let l = ltb-true x at a in sym (le-leb x at (omega (arith, l)))
      | false ↦ λ a. elim (x == at) as (λ b. (x == at) ≡ b → is_lt (ordering_then (cond b Equal Greater) (nat_cmp j k)) ≡ nat_le x at) [
        | true ↦ λ b. let e : x ≡ at = eqb-true x at b in rw (lt-ltb j k h) (sym (le-leb x at (omega (arith, e))))
        | false ↦ λ b. let l = ltb-false x at a in let d = eqb-false x at b in sym (lt-leb x at (omega (arith, l, d)))
      ] refl
    ] refl

not_before_behind : (x j at k : ℕ) → k < j → is_no_later (x, j) (at, k) ≡ nat_lt x at
not_before_behind x j at k h = rw (before_first at k x j h) (turned (nat_lt x at) refl)
  where
    turned : (b : Bool) → nat_lt x at ≡ b → not (nat_le at x) ≡ b
    turned true e = let l = ltb-true x at e in rw (lt-leb at x l) refl
    turned false e = let l = ltb-false x at e in rw (le-leb at x l) refl

not_before_first : (x j at k : ℕ) → j ≤ k → is_no_later (x, j) (at, k) ≡ nat_le x at
not_before_first x j at k h = rw (before_behind at k x j h) (turned (nat_lt at x) refl)
  where
    turned : (b : Bool) → nat_lt at x ≡ b → not b ≡ nat_le x at
    turned true e = let l = ltb-true at x e in sym (lt-leb x at l)
    turned false e = let l = ltb-false at x e in sym (le-leb x at l)

-- how many pass
abbrev many : {X : Type 0} → (X → Bool) → List X → ℕ
many test xs = length (filter test xs)

-- how many of a list's elements pass, one by one
many_more : {X : Type 0} (test : X → Bool) (x : X) (xs : List X) (b : Bool) → test x ≡ b → many test (x ∷ xs) ≡ cond b (suc (many test xs)) (many test xs)
many_more test x xs b e = elim b as (λ c. test x ≡ c → many test (x ∷ xs) ≡ cond c (suc (many test xs)) (many test xs)) [ true ↦ λ f. rw f refl | false ↦ λ f. rw f refl ] e

-- two lists' heads pass alike
many_alike : {X Y : Type 0} (test : X → Bool) (other : Y → Bool) (x : X) (y : Y) (xs : List X) (n m : ℕ) (ys : List Y) → test x ≡ other y → many test xs ≡ n + many other ys → m ≡ n
    → many test (x ∷ xs) ≡ m + many other (y ∷ ys)
many_alike test other x y xs n m ys e h same = by (other y) refl
  where
    by : (b : Bool) → other y ≡ b → many test (x ∷ xs) ≡ m + many other (y ∷ ys)
    by true f = let a = many_more test x xs true (e ∙ f) in let c = many_more other y ys true f in omega (arith, a, c, h, same)
    by false f = let a = many_more test x xs false (e ∙ f) in let c = many_more other y ys false f in omega (arith, a, c, h, same)

sum : {a b : ℕ} → a ≡ b → a ≡ 0 + b
sum e = omega (arith, e)

plain : {a b : ℕ} → a ≡ 0 + b → a ≡ b
plain e = omega (arith, e)

-- the pairs from n on that come before the one of place at and position k, none of them with a lesser position
before_from : (n at k : ℕ) (xs : List ℕ) → k ≤ n → many (λ e. is_before e (at, k)) (paired n xs) ≡ many (λ (x : ℕ). nat_lt x at) xs
before_from n at k [] h = refl
before_from n at k (x ∷ xs) h = plain (many_alike (λ e. is_before e (at, k)) (λ y. nat_lt y at) (x, n) x (paired (suc n) xs) 0 0 xs (before_behind x n at k h) (sum (before_from (suc n) at k xs (omega (arith, h)))) refl)

no_later_from : (n at k : ℕ) (xs : List ℕ) → k < n → many (λ e. is_no_later e (at, k)) (paired n xs) ≡ many (λ (x : ℕ). nat_lt x at) xs
no_later_from n at k [] h = refl
no_later_from n at k (x ∷ xs) h = plain (many_alike (λ e. is_no_later e (at, k)) (λ y. nat_lt y at) (x, n) x (paired (suc n) xs) 0 0 xs (not_before_behind x n at k h) (sum (no_later_from (suc n) at k xs (omega (arith, h)))) refl)

-- the same where m of them have a lesser position
before_number : (n m at k : ℕ) (xs : List ℕ) → k ≡ n + m →
    many (λ e. is_before e (at, k)) (paired n xs) ≡ many (λ (x : ℕ). nat_lt x at) (drop m xs) + many (λ (x : ℕ). nat_le x at) (take m xs)
before_number n zero at k xs h = before_from n at k xs (omega (arith, h)) ∙ omega arith
before_number n (suc m) at k [] h = refl
before_number n (suc m) at k (x ∷ xs) h =
    many_alike (λ e. is_before e (at, k)) (λ y. nat_le y at) (x, n) x (paired (suc n) xs) (many (λ y. nat_lt y at) (drop m xs)) (many (λ y. nat_lt y at) (drop m xs)) (take m xs)
    (before_first x n at k (omega (arith, h))) (before_number (suc n) m at k xs (omega (arith, h))) refl

-- and one more that is no later: the pair itself
no_later_number : (n m at k : ℕ) (xs : List ℕ) → k ≡ n + m → slice_get xs m ≡ Some at →
    many (λ e. is_no_later e (at, k)) (paired n xs) ≡ suc (many (λ (x : ℕ). nat_lt x at) (drop m xs)) + many (λ (x : ℕ). nat_le x at) (take m xs)
no_later_number n zero at k [] h g = absurd (cc)
no_later_number n zero at k (x ∷ xs) h g =
    let e : x ≡ at = same_Some x at g in
    let a = many_more (λ e. is_no_later e (at, k)) (x, n) (paired (suc n) xs) true (not_before_first x n at k (omega (arith, h)) ∙ le-leb x at (omega (arith, e))) in
    let b = many_more (λ y. nat_lt y at) x xs false (le-ltb x at (omega (arith, e))) in
    let c = no_later_from (suc n) at k xs (omega (arith, h)) in
    omega (arith, a, b, c)
no_later_number n (suc m) at k [] h g = absurd (cc)
no_later_number n (suc m) at k (x ∷ xs) h g =
    many_alike (λ e. is_no_later e (at, k)) (λ y. nat_le y at) (x, n) x (paired (suc n) xs) (suc (many (λ y. nat_lt y at) (drop m xs))) (suc (many (λ y. nat_lt y at) (drop m xs))) (take m xs)
    (not_before_first x n at k (omega (arith, h))) (no_later_number (suc n) m at k xs (omega (arith, h)) g) refl

-- a permutation has as many
many_permuted : {X : Type 0} (test : X → Bool) (xs ys : List X) → IsPermutation xs ys → many test ys ≡ many test xs
many_permuted test xs ys p = length-filter test ys ∙ sum_by-IsPermutation (λ x. cond (test x) 1 0) xs ys p ∙ sym (length-filter test xs)

-- where none passes from the r-th on, at most r do; where the first r pass, at least r do
at_most : {X : Type 0} (test : X → Bool) (r : ℕ) (xs : List X) → ((i : ℕ) (x : X) → r ≤ i → slice_get xs i ≡ Some x → test x ≡ false) → many test xs ≤ r
at_most test r [] h = omega arith
at_most test zero (x ∷ xs) h = let a = many_more test x xs false (h 0 x (omega arith) refl) in let b = at_most test 0 xs (λ i y l g. h (suc i) y (omega arith) g) in omega (arith, a, b)
at_most test (suc r) (x ∷ xs) h = by (at_most test r xs (λ i y l g. h (suc i) y (omega (arith, l)) g)) (test x) refl
  where
    by : many test xs ≤ r → (b : Bool) → test x ≡ b → many test (x ∷ xs) ≤ suc r
    by rest true e = let a = many_more test x xs true e in omega (arith, a, rest)
    by rest false e = let a = many_more test x xs false e in omega (arith, a, rest)

at_least : {X : Type 0} (test : X → Bool) (r : ℕ) (xs : List X) → r ≤ length xs → ((i : ℕ) (x : X) → i < r → slice_get xs i ≡ Some x → test x ≡ true) → r ≤ many test xs
at_least test zero xs l h = omega arith
at_least test (suc r) [] l h = absurd (omega (arith, l))
at_least test (suc r) (x ∷ xs) l h =
    let a = many_more test x xs true (h 0 x (omega arith) refl) in let b = at_least test r xs (omega (arith, l)) (λ i y m g. h (suc i) y (omega (arith, m)) g) in omega (arith, a, b)

order : IsStrictWeakOrder is_before
order = ranks_by (then_total (on_total (λ (x : ℕ × ℕ). x.0) nat_cmp_total) (on_total (λ (x : ℕ × ℕ). x.1) nat_cmp_total)) (λ (x : ℕ × ℕ). x)

-- what the pairs are
paired_get : (n i : ℕ) (xs : List ℕ) (x : ℕ) → slice_get xs i ≡ Some x → slice_get (paired n xs) i ≡ Some (x, n + i)
paired_get n i [] x h = absurd (cc)
paired_get n zero (y ∷ xs) x h = let e : y ≡ x = same_Some y x h in let m : n + 0 ≡ n = omega arith in rw (e, m) refl
paired_get n (suc i) (y ∷ xs) x h = let m : suc n + i ≡ n + suc i = omega arith in rw (← m) (paired_get (suc n) i xs x h)

paired_all : (n : ℕ) (xs : List ℕ) (i : ℕ) (e : ℕ × ℕ) → slice_get (paired n xs) i ≡ Some e → (i < length xs) × ((e.1 ≡ n + i) × (e.0 ≡ slice_index xs i))
paired_all n [] i e h = absurd (cc)
paired_all n (x ∷ xs) zero e h = (omega arith, ((let f : e ≡ (x, n) = sym (same_Some (x, n) e h) in let g = ap (λ p. p.1) f in omega (arith, g)), ap (λ p. p.0) (sym (same_Some (x, n) e h))))
paired_all n (x ∷ xs) (suc i) e h = let a = paired_all (suc n) xs i e h in (let b = a.0 in omega (arith, b), ((let c = a.1.0 in omega (arith, c)), a.1.1))

pub paired_length : (n : ℕ) (xs : List ℕ) → length (paired n xs) ≡ length xs
paired_length n [] = refl
paired_length n (x ∷ xs) = ap (λ m. suc m) (paired_length (suc n) xs)

module _ (places : List ℕ) (ranks : List (ℕ × ℕ)) (permuted : IsPermutation (paired 0 places) ranks) (sorted : IsSorted (λ (x y : ℕ × ℕ). ordering_then (nat_cmp x.0 y.0) (nat_cmp x.1 y.1)) ranks) where
  each : length ranks ≡ length places
  each = length_permutation (paired 0 places) ranks permuted ∙ paired_length 0 places

  far : (i j : ℕ) (x y : ℕ × ℕ) → i ≤ j → slice_get ranks i ≡ Some x → slice_get ranks j ≡ Some y → is_before y x ≡ false
  far i j x y l g h =
      let a : get_or ranks i x ≡ x = get_or_from_slice_get ranks i x x g in
      let b : get_or ranks j x ≡ y = get_or_from_slice_get ranks j y x h in
      rw (a, b) at (sorted_far is_before order ranks sorted i j x l (slice_get_within ranks j y h))

  -- the position is the number of those before it
  apart_at : (r k at : ℕ) → slice_get places k ≡ Some at → slice_get ranks r ≡ Some (at, k) → r ≡ many (λ (x : ℕ). nat_lt x at) (drop k places) + many (λ (x : ℕ). nat_le x at) (take k places)
  apart_at r k at p g =
      let a = at_most (λ e. is_before e (at, k)) r ranks (λ i x l h. far r i (at, k) x l g h) in
      let w = slice_get_within ranks r (at, k) g in
      let b = at_least (λ e. is_no_later e (at, k)) (suc r) ranks (omega (arith, w)) (λ i x l h. ap not (far i r x (at, k) (omega (arith, l)) h g)) in
      let c = many_permuted (λ e. is_before e (at, k)) (paired 0 places) ranks permuted in
      let d = many_permuted (λ e. is_no_later e (at, k)) (paired 0 places) ranks permuted in
      let e = before_number 0 k at k places (omega arith) in
      let f = no_later_number 0 k at k places (omega arith) p in
      omega (arith, a, b, c, d, e, f)

  within_ranks : (r : ℕ) (e : ℕ × ℕ) → slice_get ranks r ≡ Some e → (e.1 < length places) × (e.0 ≡ slice_index places e.1)
  within_ranks r e g =
      let all : All (λ x. (x.1 < length places) × (x.0 ≡ slice_index places x.1)) ranks = All-permutation (λ (x : ℕ × ℕ). (x.1 < length places) × (x.0 ≡ slice_index places x.1)) (paired 0 places) ranks permuted (λ i d l. from i (get_or (paired 0 places) i d) (slice_get-get_or (paired 0 places) i d l)) in
      let a = all r e (slice_get_within ranks r e g) in
      rw (get_or_from_slice_get ranks r e e g) at a
    where
      from : (i : ℕ) (x : ℕ × ℕ) → slice_get (paired 0 places) i ≡ Some x → (x.1 < length places) × (x.0 ≡ slice_index places x.1)
      from i x h = let a = paired_all 0 places i x h in let b = a.1.0 in let e : x.1 ≡ i = omega (arith, b) in rw e (a.0, a.1.1)

  pub sorted_are_ranks : AreRanks places ranks
  sorted_are_ranks = record { each = each; within = within_ranks; there = there; apart = apart }
    where
      apart : (r k : ℕ) → slice_get ranks r ≡ Some (slice_index places k, k) → r ≡ number_at places k
      apart r k g = let l = (within_ranks r (slice_index places k, k) g).0 in
          let a = apart_at r k (slice_index places k) (slice_get-get_or places k 0 l) g in omega (arith, a)

      there : (k : ℕ) → k < length places → slice_get ranks (number_at places k) ≡ Some (slice_index places k, k)
      there k l =
          let z : 0 + k ≡ k = omega arith in
          let g : slice_get (paired 0 places) k ≡ Some (slice_index places k, k) = rw z at (paired_get 0 k places (slice_index places k) (slice_get-get_or places k 0 l)) in
          let m = paired_length 0 places in
          let c : Contains ranks (slice_index places k, k) = Contains-permutation (paired 0 places) ranks (slice_index places k, k) permuted (k, omega (arith, l, m), get_or_from_slice_get (paired 0 places) k (slice_index places k, k) (slice_index places k, k) g) in
          let h : slice_get ranks c.0 ≡ Some (slice_index places k, k) = slice_get-get_or ranks c.0 (slice_index places k, k) c.1 ∙ ap Some c.2 in
          rw (← apart c.0 k h) h

-- one place more
paired_push : (n : ℕ) (xs : List ℕ) (x : ℕ) → paired n (xs ++ x ∷ []) ≡ paired n xs ++ (x, n + length xs) ∷ []
paired_push n [] x = let e : n + 0 ≡ n = omega arith in rw e refl
paired_push n (y ∷ xs) x = let e : suc n + length xs ≡ n + suc (length xs) = omega arith in ap (λ l. (y, n) ∷ l) (rw (← e) (paired_push (suc n) xs x))

pub pairs_more : (xs : List ℕ) (i : ℕ) (now next : List (ℕ × ℕ)) → i < length xs → now ≡ paired 0 (take i xs) → next ≡ now ++ (slice_index xs i, i) ∷ [] → next ≡ paired 0 (take (i + 1) xs)
pairs_more xs i now next h e n =
    let t : take (i + 1) xs ≡ take i xs ++ slice_index xs i ∷ [] = take_more xs i 0 h in
    let l : 0 + length (take i xs) ≡ i = (let m : length (take i xs) ≡ i = length-take-le i xs (omega (arith, h)) in omega (arith, m)) in
    n ∙ ap (λ l. l ++ (slice_index xs i, i) ∷ []) e ∙ sym (ap (paired 0) t ∙ paired_push 0 (take i xs) (slice_index xs i) ∙ ap (λ k. paired 0 (take i xs) ++ (slice_index xs i, k) ∷ []) l)

-- what is read at a number
module _ (places : List ℕ) (ranks : List (ℕ × ℕ)) (r : AreRanks places ranks) where
  pub rank_at : (n : ℕ) → n < length ranks → slice_get ranks n ≡ Some (get_or ranks n (0, 0))
  rank_at n l = slice_get-get_or ranks n (0, 0) l

  pub position_within : (n m : ℕ) → m ≡ length places → n < length ranks → (get_or ranks n (0, 0)).1 < m
  position_within n m e l = let a = (r.within n (get_or ranks n (0, 0)) (rank_at n l)).0 in omega (arith, a, e)

  number_is : (n : ℕ) → n < length ranks → n ≡ number_at places (get_or ranks n (0, 0)).1
  number_is n l =
      let a = (r.within n (get_or ranks n (0, 0)) (rank_at n l)).1 in
      r.apart n (get_or ranks n (0, 0)).1 (rank_at n l ∙ ap (λ x. Some (x, (get_or ranks n (0, 0)).1)) a)

  -- one number more is written
  pub numbers_more : (n m : ℕ) (numbers : List ℕ) → n < length ranks → m ≡ n + 1 → length numbers ≡ length places → ((k : ℕ) → k < length places → number_at places k < n → slice_get numbers k ≡ Some (number_at places k))
      → (k : ℕ) → k < length places → number_at places k < m → slice_get (slice_set numbers (get_or ranks n (0, 0)).1 n) k ≡ Some (number_at places k)
  numbers_more n m numbers l e long so k h less =
      elim (k == (get_or ranks n (0, 0)).1) as (λ b. (k == (get_or ranks n (0, 0)).1) ≡ b → slice_get (slice_set numbers (get_or ranks n (0, 0)).1 n) k ≡ Some (number_at places k)) [
        | true ↦ λ b. let f : k ≡ (get_or ranks n (0, 0)).1 = eqb-true k (get_or ranks n (0, 0)).1 b in
            let g : n ≡ number_at places k = number_is n l ∙ ap (number_at places) (sym f) in
            rw (← f, ← g) (get_set numbers k n (omega (arith, h, long)))
        | false ↦ λ b. let f = eqb-false k (get_or ranks n (0, 0)).1 b in
            get_other numbers (get_or ranks n (0, 0)).1 k n f ∙ so k h (earlier f)
      ] refl
    where
      earlier : ((k ≡ (get_or ranks n (0, 0)).1) → ⊥) → number_at places k < n
      earlier other =
          let a : number_at places k ≢ n = λ f. other (same f) in
          omega (arith, a, less, e)
        where
          same : number_at places k ≡ n → k ≡ (get_or ranks n (0, 0)).1
          same f =
              let there : slice_get ranks n ≡ Some (slice_index places k, k) = subst (λ i. slice_get ranks i ≡ Some (slice_index places k, k)) f (r.there k h) in
              ap (λ x. x.1) (sym (get_or_from_slice_get ranks n (slice_index places k, k) (0, 0) there))

  pub all_numbers : (numbers : List ℕ) (n : ℕ) → length ranks ≤ n → length numbers ≡ length places → ((k : ℕ) → k < length places → number_at places k < n → slice_get numbers k ≡ Some (number_at places k)) → AreNumbers places numbers
  all_numbers numbers n l long so = record {
    each = long;
    at = λ k h. let a = slice_get_within ranks (number_at places k) (slice_index places k, k) (r.there k h) in so k h (omega (arith, a, l));
  }

  -- what is known by positions, read number by number
  pub read_by_number : (elements : List ℕ) → length elements ≡ length places → IsByNumber places elements (map (λ (e : ℕ × ℕ). slice_index elements e.1) ranks)
  read_by_number elements long = record {
    each = length-map ranks (λ (e : ℕ × ℕ). slice_index elements e.1) ∙ r.each;
    at = λ k h. slice_get-map (λ (e : ℕ × ℕ). slice_index elements e.1) ranks (number_at places k) ∙ ap (option_map (λ (e : ℕ × ℕ). slice_index elements e.1)) (r.there k h)
        ∙ sym (slice_get-get_or elements k 0 (omega (arith, h, long)));
    from = λ n h. let l : n < length ranks = (let a = r.each in omega (arith, h, a)) in
        ((get_or ranks n (0, 0)).1, (r.within n (get_or ranks n (0, 0)) (rank_at n l)).0, sym (number_is n l));
  }

-- one number more is read
pub read_more : (elements : List ℕ) (xs : List (ℕ × ℕ)) (i : ℕ) (now next : List ℕ) (x : ℕ) → i < length xs → (get_or xs i (0, 0)).1 < length elements → now ≡ map (λ (e : ℕ × ℕ). slice_index elements e.1) (take i xs) →
    next ≡ now ++ x ∷ [] → x ≡ get_or elements (get_or xs i (0, 0)).1 x → next ≡ map (λ (e : ℕ × ℕ). slice_index elements e.1) (take (i + 1) xs)
read_more elements xs i now next x h l e n is =
    let t : take (i + 1) xs ≡ take i xs ++ get_or xs i (0, 0) ∷ [] = take_more xs i (0, 0) h in
    let f : x ≡ slice_index elements (get_or xs i (0, 0)).1 = is ∙ get_or_default elements (get_or xs i (0, 0)).1 x 0 l in
    n ∙ ap (λ l. l ++ x ∷ []) e ∙ ap (λ y. map (λ (p : ℕ × ℕ). slice_index elements p.1) (take i xs) ++ y ∷ []) f
    ∙ sym (ap (map (λ (p : ℕ × ℕ). slice_index elements p.1)) t ∙ map-append (λ (p : ℕ × ℕ). slice_index elements p.1) (take i xs) (get_or xs i (0, 0) ∷ []))
