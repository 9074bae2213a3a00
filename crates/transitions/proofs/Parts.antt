-- Lists of marks in words, and those beyond.
use Rattle.std.proofs.Common.{◌≡◌, ℕ, zero, suc, ◌+◌, ◌-◌, ◌<◌, ◌≤◌, Bool, List, [], ◌∷◌, ◌++◌, length, length-append, map, take, get_or, set, refl, sym, ◌∙◌, ap, arith}
use Rattle.transitions.specs.Bits.{AreParts, list_of}

get_low : (ws ls : List (List Bool)) (i : ℕ) → i < length ws → get_or (ws ++ ls) i [] ≡ get_or ws i []
get_low [] ls i l = absurd (omega (arith, l))
get_low (w ∷ ws) ls zero l = refl
get_low (w ∷ ws) ls (suc i) l = get_low ws ls i (omega (arith, l))

get_high : (ws ls : List (List Bool)) (i n : ℕ) → n ≡ length ws → n ≤ i → get_or (ws ++ ls) i [] ≡ get_or ls (i - n) []
get_high [] ls i n e l = let p : i ≡ i - n = omega (arith, e) in ap (λ k. get_or ls k []) p
get_high (w ∷ ws) ls zero n e l = absurd (omega (arith, e, l))
get_high (w ∷ ws) ls (suc i) n e l =
    let p : i - (n - 1) ≡ suc i - n = omega (arith, e, l) in
    get_high ws ls i (n - 1) (omega (arith, e)) (omega (arith, l, e)) ∙ ap (λ k. get_or ls k []) p

set_low : (ws ls : List (List Bool)) (i : ℕ) (x : List Bool) → i < length ws → set ws i x ++ ls ≡ set (ws ++ ls) i x
set_low [] ls i x l = absurd (omega (arith, l))
set_low (w ∷ ws) ls zero x l = refl
set_low (w ∷ ws) ls (suc i) x l = ap (λ (zs : List (List Bool)). w ∷ zs) (set_low ws ls i x (omega (arith, l)))

set_high : (ws ls : List (List Bool)) (i n : ℕ) (x : List Bool) → n ≡ length ws → n ≤ i → ws ++ set ls (i - n) x ≡ set (ws ++ ls) i x
set_high [] ls i n x e l = let p : i - n ≡ i = omega (arith, e) in ap (λ k. set ls k x) p
set_high (w ∷ ws) ls zero n x e l = absurd (omega (arith, e, l))
set_high (w ∷ ws) ls (suc i) n x e l =
    let p : suc i - n ≡ i - (n - 1) = omega (arith, e, l) in
    ap (λ k. w ∷ (ws ++ set ls k x)) p ∙ ap (λ (zs : List (List Bool)). w ∷ zs) (set_high ws ls i (n - 1) x (omega (arith, e)) (omega (arith, l, e)))

pub map_both : (n : ℕ) (ws ls : List (List Bool)) → map (take n) ws ++ map (take n) ls ≡ map (take n) (ws ++ ls)
map_both n [] ls = refl
map_both n (w ∷ ws) ls = ap (λ (zs : List (List Bool)). take n w ∷ zs) (map_both n ws ls)

pub length_map : (n : ℕ) (ws : List (List Bool)) → length (map (take n) ws) ≡ length ws
length_map n [] = refl
length_map n (w ∷ ws) = ap suc (length_map n ws)

pub parts_same : (ws ls us ms : List (List Bool)) → length us ≡ length ws → length ms ≡ length ls → AreParts ws ls → AreParts us ms
parts_same ws ls us ms a b h = record { few = (let f = h.few in omega (arith, f, a)); full = λ l. a ∙ h.full (omega (arith, l, b)) }

add_both : (ws ls : List (List Bool)) (x : List Bool) → ws ++ (ls ++ x ∷ []) ≡ (ws ++ ls) ++ x ∷ []
add_both [] ls x = refl
add_both (w ∷ ws) ls x = ap (λ (zs : List (List Bool)). w ∷ zs) (add_both ws ls x)

add_low : (ws ls : List (List Bool)) (x : List Bool) → length ls ≡ 0 → (ws ++ x ∷ []) ++ ls ≡ (ws ++ ls) ++ x ∷ []
add_low [] [] x e = refl
add_low (w ∷ ws) [] x e = ap (λ (zs : List (List Bool)). w ∷ zs) (add_low ws [] x e)
add_low ws (l ∷ ls) x e = absurd (omega (arith, e))

none_further : (ws ls : List (List Bool)) → AreParts ws ls → length ws < 64 → length ls ≡ 0
none_further ws [] h l = refl
none_further ws (x ∷ ls) h l = let f = h.full (omega arith) in absurd (omega (arith, f, l))

module _ (words lists marks : List (List Bool)) (v : words ++ lists ≡ marks) (h : AreParts words lists) where
  sum : length marks ≡ length words + length lists
  sum = sym (ap (λ (ms : List (List Bool)). length ms) v) ∙ length-append words lists

  pub count_parts : length words + length lists ≡ length marks
  count_parts = sym sum

  none_low : (ls : List (List Bool)) → AreParts words ls → (i n : ℕ) → n ≡ length words + length ls → i < n → i < 64 → i < length words
  none_low [] k i n e l m = omega (arith, e, l)
  none_low (x ∷ ls) k i n e l m = let f = k.full (omega arith) in omega (arith, f, m)

  pub in_words : (i : ℕ) → i < length marks → i < 64 → i < length words
  in_words i l m = none_low lists h i (length marks) sum l m

  none_high : (ls : List (List Bool)) → AreParts words ls → (i n : ℕ) → n ≡ length words + length ls → i < n → 64 ≤ i → 64 ≡ length words
  none_high [] k i n e l m = let f = k.few in absurd (omega (arith, e, l, m, f))
  none_high (x ∷ ls) k i n e l m = sym (k.full (omega arith))

  pub all_words : (i : ℕ) → i < length marks → 64 ≤ i → 64 ≡ length words
  all_words i l m = none_high lists h i (length marks) sum l m

  pub in_lists : (i : ℕ) → i < length marks → 64 ≤ i → i - 64 < length lists
  in_lists i l m = let a = all_words i l m in let s = sum in omega (arith, a, s, l, m)

  pub of_words : (i : ℕ) → i < length marks → i < 64 → list_of marks i ≡ list_of words i
  of_words i l m = ap (λ (ms : List (List Bool)). list_of ms i) (sym v) ∙ get_low words lists i (in_words i l m)

  pub of_lists : (i : ℕ) → i < length marks → 64 ≤ i → list_of marks i ≡ list_of lists (i - 64)
  of_lists i l m = ap (λ (ms : List (List Bool)). list_of ms i) (sym v) ∙ get_high words lists i 64 (all_words i l m) m

  pub write_words : (i : ℕ) (x : List Bool) → i < length marks → i < 64 → set words i x ++ lists ≡ set marks i x
  write_words i x l m = set_low words lists i x (in_words i l m) ∙ ap (λ (ms : List (List Bool)). set ms i x) v

  pub write_lists : (i : ℕ) (x : List Bool) → i < length marks → 64 ≤ i → words ++ set lists (i - 64) x ≡ set marks i x
  write_lists i x l m = set_high words lists i 64 x (all_words i l m) m ∙ ap (λ (ms : List (List Bool)). set ms i x) v

  pub add_words : (x : List Bool) → length words < 64 → (words ++ x ∷ []) ++ lists ≡ marks ++ x ∷ []
  add_words x l = add_low words lists x (none_further words lists h l) ∙ ap (λ (ms : List (List Bool)). ms ++ x ∷ []) v

  pub add_lists : (x : List Bool) → words ++ (lists ++ x ∷ []) ≡ marks ++ x ∷ []
  add_lists x = add_both words lists x ∙ ap (λ (ms : List (List Bool)). ms ++ x ∷ []) v

  pub parts_words : (x : List Bool) → length words < 64 → AreParts (words ++ x ∷ []) lists
  parts_words x l = record {
    few = (let n = length-append words (x ∷ []) in omega (arith, n, l));
    full = λ m. absurd (let z = none_further words lists h l in omega (arith, m, z));
  }

  pub parts_lists : (x : List Bool) → 64 ≤ length words → AreParts words (lists ++ x ∷ [])
  parts_lists x l = record { few = h.few; full = λ m. (let f = h.few in omega (arith, f, l)) }

-- what is read at a place is the list there
pub list_read : (lists : List (List Bool)) (i : ℕ) (x : List Bool) → i < length lists → x ≡ get_or lists i x → x ≡ list_of lists i
list_read [] i x l e = absurd (omega (arith, l))
list_read (y ∷ lists) zero x l e = e
list_read (y ∷ lists) (suc i) x l e = list_read lists i x (omega (arith, l)) e
