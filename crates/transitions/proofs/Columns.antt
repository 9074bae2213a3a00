-- Lists of marks in the bits of words.
use Rattle.std.proofs.Common.{Result, Ok, Err, OnErr, ◌≡◌, ◌≢◌, ℕ, zero, suc, ◌+◌, ◌<◌, ◌≤◌, ◌⊎◌, inl, inr, min, Bool, Some, List, [], ◌∷◌, ◌++◌, length, map, take, get_or, set, slice_get, refl, sym, ◌∙◌, ap, subst, arith}
use Rattle.std.proofs.lemmas.List.{length-take}
use Rattle.transitions.specs.Bits.{AreColumns, AreCut, column, columns, has_bit, list_of}

pub length_columns : (r : ℕ) (words lens : List ℕ) → length (columns r words lens) ≡ length lens
length_columns r words [] = refl
length_columns r words (n ∷ lens) = ap suc (length_columns (suc r) words lens)

pub length_column : (r : ℕ) (words : List ℕ) (n : ℕ) → n ≤ length words → length (column r words n) ≡ n
length_column r words zero l = refl
length_column r [] (suc n) l = absurd (omega (arith, l))
length_column r (w ∷ words) (suc n) l = ap suc (length_column r words n (omega (arith, l)))

-- what stands in a column
pub column_get : (r : ℕ) (words : List ℕ) (n id : ℕ) → id < n → n ≤ length words → slice_get (column r words n) id ≡ Some (has_bit r (get_or words id 0))
column_get r words zero id l m = absurd (omega (arith, l))
column_get r [] (suc n) id l m = absurd (omega (arith, m))
column_get r (w ∷ words) (suc n) zero l m = refl
column_get r (w ∷ words) (suc n) (suc id) l m = column_get r words n id (omega (arith, l)) (omega (arith, m))

columns_list : (r : ℕ) (words lens : List ℕ) (i : ℕ) → i < length lens → get_or (columns r words lens) i [] ≡ column (r + i) words (get_or lens i 0)
columns_list r words [] i l = absurd (omega (arith, l))
columns_list r words (n ∷ lens) zero l = let p : r ≡ r + 0 = omega arith in ap (λ k. column k words n) p
columns_list r words (n ∷ lens) (suc i) l = let p : suc r + i ≡ r + suc i = omega arith in columns_list (suc r) words lens i (omega (arith, l)) ∙ ap (λ k. column k words (get_or lens i 0)) p

-- the list of so many nodes is a column
pub is_column : (words lens : List ℕ) (i : ℕ) → i < length lens → list_of (columns 0 words lens) i ≡ column i words (get_or lens i 0)
is_column words lens i l = let p : 0 + i ≡ i = omega arith in columns_list 0 words lens i l ∙ ap (λ k. column k words (get_or lens i 0)) p

pub list_length : (words lens : List ℕ) (i : ℕ) → AreColumns words lens → i < length (columns 0 words lens) → length (list_of (columns 0 words lens) i) ≡ get_or lens i 0
list_length words lens i h l =
    let s = length_columns 0 words lens in
    ap (λ (bs : List Bool). length bs) (is_column words lens i (omega (arith, l, s))) ∙ length_column i words (get_or lens i 0) (h.each i)

pub list_get : (words lens : List ℕ) (i id : ℕ) → AreColumns words lens → i < length (columns 0 words lens) → id < length (list_of (columns 0 words lens) i) →
    slice_get (list_of (columns 0 words lens) i) id ≡ Some (has_bit i (get_or words id 0))
list_get words lens i id h l m =
    let s = length_columns 0 words lens in
    let n = list_length words lens i h l in
    ap (λ (bs : List Bool). slice_get bs id) (is_column words lens i (omega (arith, l, s)))
    ∙ column_get i words (get_or lens i 0) id (omega (arith, m, n)) (h.each i)

-- a list more
pub columns_begin : (r : ℕ) (words lens : List ℕ) → columns r words (lens ++ 0 ∷ []) ≡ columns r words lens ++ [] ∷ []
columns_begin r words [] = refl
columns_begin r words (n ∷ lens) = ap (λ (xs : List (List Bool)). column r words n ∷ xs) (columns_begin (suc r) words lens)

get_begin : (lens : List ℕ) (i : ℕ) → get_or (lens ++ 0 ∷ []) i 0 ≡ get_or lens i 0
get_begin [] zero = refl
get_begin [] (suc i) = refl
get_begin (n ∷ lens) zero = refl
get_begin (n ∷ lens) (suc i) = get_begin lens i

length_begin : (lens : List ℕ) → length (lens ++ 0 ∷ []) ≡ suc (length lens)
length_begin [] = refl
length_begin (n ∷ lens) = ap suc (length_begin lens)

pub are_begun : (words lens : List ℕ) → AreColumns words lens → length (columns 0 words lens) < 64 → AreColumns words (lens ++ 0 ∷ [])
are_begun words lens h l = record {
  few = (let s = length_columns 0 words lens in let n = length_begin lens in omega (arith, l, s, n));
  each = λ i. (let g = get_begin lens i in let e = h.each i in omega (arith, g, e));
}

-- a word is written
column_same : (r : ℕ) (words : List ℕ) (id w n : ℕ) → has_bit r w ≡ has_bit r (get_or words id 0) → column r (set words id w) n ≡ column r words n
column_same r [] id w n e = refl
column_same r (x ∷ words) id w zero e = refl
column_same r (x ∷ words) zero w (suc n) e = ap (λ b. b ∷ column r words n) e
column_same r (x ∷ words) (suc id) w (suc n) e = ap (λ (bs : List Bool). has_bit r x ∷ bs) (column_same r words id w n e)

column_next : (r : ℕ) (words : List ℕ) (id w : ℕ) → id < length words → column r (set words id w) (suc id) ≡ column r words id ++ has_bit r w ∷ []
column_next r [] id w l = absurd (omega (arith, l))
column_next r (x ∷ words) zero w l = refl
column_next r (x ∷ words) (suc id) w l = ap (λ (bs : List Bool). has_bit r x ∷ bs) (column_next r words id w (omega (arith, l)))

-- words behind the marked ones, and one bit of one word
module _ (old words : List ℕ) (id w : ℕ) (stay : (n : ℕ) → n ≤ length old → take n words ≡ take n old) (held : id < length words) where
  abbrev pub Same : ℕ → Type 0
  Same r = has_bit r w ≡ has_bit r (get_or words id 0)

  column_stays : (r n : ℕ) → n ≤ length old → Same r → column r (set words id w) n ≡ column r old n
  column_stays r n l e = column_same r words id w n e ∙ ap (λ (ws : List ℕ). map (has_bit r) ws) (stay n l)

  column_grows : (r : ℕ) → id ≤ length old → column r (set words id w) (suc id) ≡ column r old id ++ has_bit r w ∷ []
  column_grows r l = column_next r words id w held ∙ ap (λ (ws : List ℕ). map (has_bit r) ws ++ has_bit r w ∷ []) (stay id l)

  columns_stay : (r : ℕ) (lens : List ℕ) → ((i : ℕ) → get_or lens i 0 ≤ length old) → ((k : ℕ) → r ≤ k → k < r + length lens → Same k) →
      columns r (set words id w) lens ≡ columns r old lens
  columns_stay r [] each same = refl
  columns_stay r (n ∷ lens) each same =
      let e = column_stays r n (each 0) (same r (omega arith) (omega arith)) in
      let f = columns_stay (suc r) lens (λ i. each (suc i)) (λ k l m. same k (omega (arith, l)) (omega (arith, m))) in
      ap (λ (bs : List Bool). bs ∷ columns (suc r) (set words id w) lens) e ∙ ap (λ (xs : List (List Bool)). column r old n ∷ xs) f

  columns_grow : (r : ℕ) (lens : List ℕ) (i : ℕ) → ((k : ℕ) → get_or lens k 0 ≤ length old) → i < length lens → id ≡ get_or lens i 0 →
      ((k : ℕ) → r ≤ k → k < r + length lens → k ≢ r + i → Same k) →
      columns r (set words id w) (set lens i (suc id)) ≡ set (columns r old lens) i (get_or (columns r old lens) i [] ++ has_bit (r + i) w ∷ [])
  columns_grow r [] i each l is same = absurd (omega (arith, l))
  columns_grow r (n ∷ lens) zero each l is same =
      let g = each 0 in
      let e = column_grows r (omega (arith, g, is)) in
      let p : r ≡ r + 0 = omega arith in
      let f = columns_stay (suc r) lens (λ k. each (suc k)) (λ k a b. same k (omega (arith, a)) (omega (arith, b)) (λ q. absurd (omega (arith, a, q)))) in
      ap (λ (bs : List Bool). bs ∷ columns (suc r) (set words id w) lens) (e ∙ ap (λ m. column r old m ++ has_bit r w ∷ []) is ∙ ap (λ k. column r old n ++ has_bit k w ∷ []) p)
      ∙ ap (λ (xs : List (List Bool)). (column r old n ++ has_bit (r + 0) w ∷ []) ∷ xs) f
  columns_grow r (n ∷ lens) (suc i) each l is same =
      let e = column_stays r n (each 0) (same r (omega arith) (omega arith) (λ q. absurd (omega (arith, q)))) in
      let p : suc r + i ≡ r + suc i = omega arith in
      let f = columns_grow (suc r) lens i (λ k. each (suc k)) (omega (arith, l)) is (λ k a b m. same k (omega (arith, a)) (omega (arith, b)) (λ q. m (omega (arith, q)))) in
      ap (λ (bs : List Bool). bs ∷ columns (suc r) (set words id w) (set lens i (suc id))) e ∙ ap (λ (xs : List (List Bool)). column r old n ∷ xs) f
      ∙ ap (λ k. column r old n ∷ set (columns (suc r) old lens) i (get_or (columns (suc r) old lens) i [] ++ has_bit k w ∷ [])) p

  -- the list of so many nodes has a mark more
  pub list_grows : (lens : List ℕ) (i : ℕ) (mark : Bool) → AreColumns old lens → i < length lens → id ≡ get_or lens i 0 → has_bit i w ≡ mark →
      ((k : ℕ) → k < 64 → k ≢ i → Same k) →
      columns 0 (set words id w) (set lens i (id + 1)) ≡ set (columns 0 old lens) i (list_of (columns 0 old lens) i ++ mark ∷ [])
  list_grows lens i mark h l is itself others =
      let few = h.few in
      let p : id + 1 ≡ suc id = omega arith in
      let q : 0 + i ≡ i = omega arith in
      ap (λ n. columns 0 (set words id w) (set lens i n)) p
      ∙ columns_grow 0 lens i h.each l is (λ k a b m. others k (omega (arith, b, few)) (λ e. m (omega (arith, e))))
      ∙ ap (λ b. set (columns 0 old lens) i (list_of (columns 0 old lens) i ++ b ∷ [])) (ap (λ k. has_bit k w) q ∙ itself)

length-written : (xs : List ℕ) (i x : ℕ) → length (set xs i x) ≡ length xs
length-written [] i x = refl
length-written (y ∷ xs) zero x = refl
length-written (y ∷ xs) (suc i) x = ap suc (length-written xs i x)

get_written : (lens : List ℕ) (i x k n : ℕ) → ((j : ℕ) → get_or lens j 0 ≤ n) → x ≤ n → get_or (set lens i x) k 0 ≤ n
get_written [] i x k n each l = each k
get_written (y ∷ lens) zero x zero n each l = l
get_written (y ∷ lens) zero x (suc k) n each l = each (suc k)
get_written (y ∷ lens) (suc i) x zero n each l = each 0
get_written (y ∷ lens) (suc i) x (suc k) n each l = get_written lens i x k n (λ j. each (suc j)) l

pub are_grown : (old words lens : List ℕ) (i id w : ℕ) → AreColumns old lens → length old ≤ length words → id < length words → AreColumns (set words id w) (set lens i (id + 1))
are_grown old words lens i id w h l m = record {
  few = (let s = length-written lens i (id + 1) in let f = h.few in omega (arith, s, f));
  each = λ k.
      get_written lens i (id + 1) k (length (set words id w)) (λ j. (let e = h.each j in let s = length-written words id w in omega (arith, e, s, l)))
      (let s = length-written words id w in omega (arith, s, m));
}

-- words behind the marked ones change nothing
pub columns_held : (old words : List ℕ) (r : ℕ) (lens : List ℕ) → ((n : ℕ) → n ≤ length old → take n words ≡ take n old) → ((i : ℕ) → get_or lens i 0 ≤ length old) →
    columns r words lens ≡ columns r old lens
columns_held old words r [] stay each = refl
columns_held old words r (n ∷ lens) stay each =
    ap (λ (ws : List ℕ). map (has_bit r) ws ∷ columns (suc r) words lens) (stay n (each 0))
    ∙ ap (λ (xs : List (List Bool)). column r old n ∷ xs) (columns_held old words (suc r) lens stay (λ i. each (suc i)))

pub are_held : (old words lens : List ℕ) → AreColumns old lens → length old ≤ length words → AreColumns words lens
are_held old words lens h l = record { few = h.few; each = λ i. (let e = h.each i in omega (arith, e, l)) }

take_more : (xs : List ℕ) (x n : ℕ) → n ≤ length xs → take n (xs ++ x ∷ []) ≡ take n xs
take_more xs x zero l = refl
take_more [] x (suc n) l = absurd (omega (arith, l))
take_more (y ∷ xs) x (suc n) l = ap (λ (ws : List ℕ). y ∷ ws) (take_more xs x n (omega (arith, l)))

pub take_pushed : (old new : List ℕ) (x : ℕ) → new ≡ old ++ x ∷ [] → (n : ℕ) → n ≤ length old → take n new ≡ take n old
take_pushed old new x e n l = ap (λ (ws : List ℕ). take n ws) e ∙ take_more old x n l

-- each list is cut
column_cut : (r : ℕ) (words : List ℕ) (n count : ℕ) → column r (take count words) (min n count) ≡ take count (column r words n)
column_cut r words zero count = let p : min 0 count ≡ 0 = omega arith in ap (λ k. column r (take count words) k) p ∙ sym (none_taken count)
  where
    none_taken : (c : ℕ) → take c (column r words 0) ≡ []
    none_taken zero = refl
    none_taken (suc c) = refl
column_cut r words (suc n) zero = let p : min (suc n) 0 ≡ 0 = omega arith in ap (λ k. column r (take 0 words) k) p
column_cut r [] (suc n) (suc c) = let p : min (suc n) (suc c) ≡ suc (min n c) = omega arith in ap (λ k. column r [] k) p
column_cut r (w ∷ words) (suc n) (suc c) =
    let p : min (suc n) (suc c) ≡ suc (min n c) = omega arith in
    ap (λ k. column r (w ∷ take c words) k) p ∙ ap (λ (bs : List Bool). has_bit r w ∷ bs) (column_cut r words n c)

pub columns_cut : (r : ℕ) (words lens cut : List ℕ) (count : ℕ) → length cut ≡ length lens → ((i : ℕ) → i < length lens → get_or cut i 0 ≡ min (get_or lens i 0) count) →
    columns r (take count words) cut ≡ map (take count) (columns r words lens)
columns_cut r words [] [] count s each = refl
columns_cut r words [] (m ∷ cut) count s each = absurd (omega (arith, s))
columns_cut r words (n ∷ lens) [] count s each = absurd (omega (arith, s))
columns_cut r words (n ∷ lens) (m ∷ cut) count s each =
    ap (λ k. column r (take count words) k ∷ columns (suc r) (take count words) cut) (each 0 (omega arith))
    ∙ ap (λ (bs : List Bool). bs ∷ columns (suc r) (take count words) cut) (column_cut r words n count)
    ∙ ap (λ (xs : List (List Bool)). take count (column r words n) ∷ xs) (columns_cut (suc r) words lens cut count (omega (arith, s)) (λ i l. each (suc i) (omega (arith, l))))

get_any : (xs : List ℕ) (i d e : ℕ) → i < length xs → get_or xs i d ≡ get_or xs i e
get_any [] i d e l = absurd (omega (arith, l))
get_any (x ∷ xs) zero d e l = refl
get_any (x ∷ xs) (suc i) d e l = get_any xs i d e (omega (arith, l))

-- what is read of the lists, by their value
module _ (words lens : List ℕ) (marks : List (List Bool)) (v : columns 0 words lens ≡ marks) where
  pub count_is : length lens ≡ length marks
  count_is = sym (length_columns 0 words lens) ∙ ap (λ (ms : List (List Bool)). length ms) v

  pub has_len : (i : ℕ) → i < length marks → i < length lens
  has_len i l = let s = count_is in omega (arith, l, s)

  pub len_read : (i n : ℕ) → i < length marks → n ≡ get_or lens i n → n ≡ get_or lens i 0
  len_read i n l e = e ∙ get_any lens i n 0 (has_len i l)

  module _ (h : AreColumns words lens) where
    pub has_place : (i : ℕ) → i < length marks → i < 64
    has_place i l = let s = count_is in let f = h.few in omega (arith, l, s, f)

    pub len_is : (i : ℕ) → i < length marks → length (list_of marks i) ≡ get_or lens i 0
    len_is i l =
        subst (λ (ms : List (List Bool)). length (list_of ms i) ≡ get_or lens i 0) v
        (list_length words lens i h (subst (λ (ms : List (List Bool)). i < length ms) (sym v) l))

    pub has_word : (i id : ℕ) → i < length marks → id < length (list_of marks i) → id < length words
    has_word i id l m = let n = len_is i l in let e = h.each i in omega (arith, m, n, e)

    pub mark_is : (i id w : ℕ) → i < length marks → id < length (list_of marks i) → w ≡ get_or words id w → slice_get (list_of marks i) id ≡ Some (has_bit i w)
    mark_is i id w l m e =
        subst (λ (ms : List (List Bool)). slice_get (list_of ms i) id ≡ Some (has_bit i (get_or words id 0))) v
        (list_get words lens i id h (subst (λ (ms : List (List Bool)). i < length ms) (sym v) l) (subst (λ (ms : List (List Bool)). id < length (list_of ms i)) (sym v) m))
        ∙ ap (λ n. Some (has_bit i n)) (sym (e ∙ get_any words id w 0 (has_word i id l m)))

pub on_err : {X Y : Type 0} (r : Result X Y) (P : Type 0) → P → OnErr r P
on_err (Ok x) P p = tt
on_err (Err y) P p = p

get_same : (xs : List ℕ) (i x : ℕ) → i < length xs → get_or (set xs i x) i 0 ≡ x
get_same [] i x l = absurd (omega (arith, l))
get_same (y ∷ xs) zero x l = refl
get_same (y ∷ xs) (suc i) x l = get_same xs i x (omega (arith, l))

get_other : (xs : List ℕ) (i x k : ℕ) → k ≢ i → get_or (set xs i x) k 0 ≡ get_or xs k 0
get_other [] i x k n = refl
get_other (y ∷ xs) zero x zero n = absurd (n refl)
get_other (y ∷ xs) zero x (suc k) n = refl
get_other (y ∷ xs) (suc i) x zero n = refl
get_other (y ∷ xs) (suc i) x (suc k) n = get_other xs i x k (λ e. n (ap suc e))

pub cut_begins : (xs : List ℕ) (count : ℕ) → AreCut xs xs count 0
cut_begins xs count = record { all = refl; below = λ i l. absurd (omega (arith, l)); others = λ i l. refl }

below_or_at : (i p : ℕ) → i < p + 1 → (i < p) ⊎ (i ≡ p)
below_or_at zero zero l = inr refl
below_or_at zero (suc p) l = inl (omega arith)
below_or_at (suc i) zero l = absurd (omega (arith, l))
below_or_at (suc i) (suc p) l = go (below_or_at i p (omega (arith, l)))
  where
    go : (i < p) ⊎ (i ≡ p) → (suc i < suc p) ⊎ (suc i ≡ suc p)
    go (inl h) = inl (omega (arith, h))
    go (inr e) = inr (ap suc e)

pub cut_next : (old new : List ℕ) (count place n x : ℕ) → AreCut old new count place → place < length new → n ≡ get_or new place n → x ≡ min n count →
    AreCut old (set new place x) count (place + 1)
cut_next old new count place n x h l e f = record {
  all = length-written new place x ∙ h.all;
  below = λ i m. go i (below_or_at i place m);
  others = λ i m. get_other new place x i (λ q. absurd (omega (arith, m, q))) ∙ h.others i (omega (arith, m));
}
  where
    here : x ≡ min (get_or old place 0) count
    here = f ∙ ap (λ k. min k count) (e ∙ get_any new place n 0 l ∙ h.others place (omega arith))

    go : (i : ℕ) → (i < place) ⊎ (i ≡ place) → get_or (set new place x) i 0 ≡ min (get_or old i 0) count
    go i (inl m) = get_other new place x i (λ q. absurd (omega (arith, m, q))) ∙ h.below i m
    go i (inr q) = subst (λ k. get_or (set new place x) k 0 ≡ min (get_or old k 0) count) (sym q) (get_same new place x l ∙ here)

get_past : (xs : List ℕ) (i : ℕ) → length xs ≤ i → get_or xs i 0 ≡ 0
get_past [] i l = refl
get_past (x ∷ xs) zero l = absurd (omega (arith, l))
get_past (x ∷ xs) (suc i) l = get_past xs i (omega (arith, l))

min_both : (a b n : ℕ) → a ≤ n → min a b ≤ min b n
min_both zero b n l = omega arith
min_both (suc a) zero n l = omega arith
min_both (suc a) (suc b) zero l = absurd (omega (arith, l))
min_both (suc a) (suc b) (suc n) l = let h = min_both a b n (omega (arith, l)) in omega (arith, h)

-- the cut lists
module _ (words lens cut : List ℕ) (count place : ℕ) (c : AreCut lens cut count place) (last : length lens ≤ place) where
  pub columns_are_cut : columns 0 (take count words) cut ≡ map (take count) (columns 0 words lens)
  columns_are_cut = columns_cut 0 words lens cut count c.all (λ i l. c.below i (omega (arith, l, last)))

  pub are_cut : AreColumns words lens → AreColumns (take count words) cut
  are_cut h = record {
    few = (let a = c.all in let f = h.few in omega (arith, a, f));
    each = λ i. pick i (below_or_past i (length lens));
  }
    where
      below_or_past : (i n : ℕ) → (i < n) ⊎ (n ≤ i)
      below_or_past i zero = inr (omega arith)
      below_or_past zero (suc n) = inl (omega arith)
      below_or_past (suc i) (suc n) = next (below_or_past i n)
        where
          next : (i < n) ⊎ (n ≤ i) → (suc i < suc n) ⊎ (suc n ≤ suc i)
          next (inl l) = inl (omega (arith, l))
          next (inr l) = inr (omega (arith, l))

      pick : (i : ℕ) → (i < length lens) ⊎ (length lens ≤ i) → get_or cut i 0 ≤ length (take count words)
      pick i (inl l) =
          let b = c.below i (omega (arith, l, last)) in
          let m = min_both (get_or lens i 0) count (length words) (h.each i) in
          let t = length-take count words in
          omega (arith, b, m, t)
      pick i (inr l) = let a = c.all in let p = get_past cut i (omega (arith, a, l)) in omega (arith, p)

pub word_read : (words : List ℕ) (id w k : ℕ) → id < length words → w ≡ get_or words id w → has_bit k w ≡ has_bit k (get_or words id 0)
word_read words id w k l e = ap (λ n. has_bit k n) (e ∙ get_any words id w 0 l)
