-- Normal forms compared word by word.
use Rattle.std.proofs.Common.{◌≡◌, ℕ, ◌<◌, Bool, true, false, not, List, [], ◌∷◌, ◌++◌, length, take, refl, sym, ◌∙◌, arith, true≢false, ◌==◌, ◌&&◌}
use Rattle.std.specs.List.{list_all, prefix_len, position_or_len}
use Rattle.std.specs.Str.{bytes_eq}
use Rattle.std.proofs.lemmas.Bool.Decides.{Decides-eqb}
use Rattle.std.proofs.lemmas.Slice.Eq.{bytes_eq-Decides}
use Rattle.rng_model.specs.Texts.{is_space, is_white, words, joined}
use Rattle.text_atoms.proofs.Words.{by_test, not_false, spaced, joined-cons, words-cons, white_words, words_white, take_more}

abbrev pub is_letter : ℕ → Bool
is_letter c = not (is_space c)

-- a word has a character, and no white space
pub record IsWord (w : List ℕ) : Type 0 where
  pub some : 0 < length w
  pub letters : list_all is_letter w ≡ true

run_passes : (p : ℕ → Bool) (t : List ℕ) → list_all p (take (prefix_len p t) t) ≡ true
run_passes p [] = refl
run_passes p (c ∷ t) = by_test (p c) (λ e. rw (e, take_more) (rw e (run_passes p t))) (λ e. rw e refl)

pub first_is_word : (t w : List ℕ) (ws : List (List ℕ)) → words t ≡ w ∷ ws → IsWord w
first_is_word [] w ws e = absurd (cc)
first_is_word (c ∷ t) w ws e = by_test (is_space c)
    (λ f. first_is_word t w ws (rw f at e))
    (λ f. let h = words-cons c t f in
    let g : w ≡ c ∷ take (position_or_len is_space t) t = cc in
    rw g (record { some = omega arith; letters = rw f (run_passes is_letter t) }))

rest_passes : (a b : Bool) → (a && b) ≡ true → b ≡ true
rest_passes true b e = e
rest_passes false b e = absurd (true≢false (sym e))

-- a word ends where the next one's space begins
cut : (w v : List ℕ) (ws vs : List (List ℕ)) → list_all is_letter w ≡ true → list_all is_letter v ≡ true → w ++ spaced ws ≡ v ++ spaced vs → (w ≡ v) × (spaced ws ≡ spaced vs)
cut [] [] ws vs p q e = (refl, e)
cut [] (d ∷ v) [] vs p q e = absurd (cc)
cut [] (d ∷ v) (u ∷ us) vs p q e =
    let h : d ≡ 32 = cc in
    let k : false ≡ true = rw h at q in
    absurd (cc)
cut (c ∷ w) [] ws [] p q e = absurd (cc)
cut (c ∷ w) [] ws (u ∷ us) p q e =
    let h : c ≡ 32 = cc in
    let k : false ≡ true = rw h at p in
    absurd (cc)
cut (c ∷ w) (d ∷ v) ws vs p q e =
    let r = cut w v ws vs (rest_passes (is_letter c) (list_all is_letter w) p) (rest_passes (is_letter d) (list_all is_letter v) q) (cc) in
    let h : c ≡ d = cc in
    let k = r.0 in
    (cc, r.1)

-- the first of these, if there is one, is a word
abbrev BeginsWithWord : List (List ℕ) → Type 0
BeginsWithWord ws = (w : List ℕ) (us : List (List ℕ)) → ws ≡ w ∷ us → IsWord w

alike : (ws vs : List (List ℕ)) → BeginsWithWord ws → BeginsWithWord vs → bytes_eq (joined ws) (joined vs) ≡ bytes_eq (spaced ws) (spaced vs)
alike [] [] f g = refl
alike [] ([] ∷ vs) f g = absurd (let h = g [] vs refl in let l = h.some in omega arith)
alike [] ((d ∷ v) ∷ vs) f g = rw (joined-cons (d ∷ v) vs) refl
alike ([] ∷ ws) [] f g = absurd (let h = f [] ws refl in let l = h.some in omega arith)
alike ((c ∷ w) ∷ ws) [] f g = rw (joined-cons (c ∷ w) ws) refl
alike (w ∷ ws) (v ∷ vs) f g = rw (joined-cons w ws, joined-cons v vs) refl

pub joined_spaced : (a b : List ℕ) → bytes_eq (joined (words a)) (joined (words b)) ≡ bytes_eq (spaced (words a)) (spaced (words b))
joined_spaced a b = alike (words a) (words b) (first_is_word a) (first_is_word b)

same_front : (w x y : List ℕ) → bytes_eq (w ++ x) (w ++ y) ≡ bytes_eq x y
same_front [] x y = refl
same_front (c ∷ w) x y = let e : (c == c) ≡ true = (Decides-eqb c c).1 refl in rw e (same_front w x y)

pub same_word : (w v : List ℕ) (ws vs : List (List ℕ)) → false ≡ not (bytes_eq w v) → bytes_eq (spaced (w ∷ ws)) (spaced (v ∷ vs)) ≡ bytes_eq (spaced ws) (spaced vs)
same_word w v ws vs e =
    let h : w ≡ v = (bytes_eq-Decides w v).0 (not_false (bytes_eq w v) (sym e)) in
    rw h (same_front v (spaced ws) (spaced vs))

not_true : (b : Bool) → true ≡ not b → b ≡ false
not_true true e = absurd (true≢false e)
not_true false e = refl

pub other_word : (w v : List ℕ) (ws vs : List (List ℕ)) → IsWord w → IsWord v → true ≡ not (bytes_eq w v) → bytes_eq (spaced (w ∷ ws)) (spaced (v ∷ vs)) ≡ false
other_word w v ws vs p q e = by_test (bytes_eq (w ++ spaced ws) (v ++ spaced vs))
    (λ f. let r = cut w v ws vs p.letters q.letters ((bytes_eq-Decides (w ++ spaced ws) (v ++ spaced vs)).0 f) in
    let g = (bytes_eq-Decides w v).1 r.0 in
    absurd (true≢false (sym g ∙ not_true (bytes_eq w v) e)))
    (λ f. f)

pub no_word : (w : List ℕ) (ws : List (List ℕ)) → bytes_eq (spaced (w ∷ ws)) (spaced []) ≡ false
no_word w ws = refl

pub no_words : (t : List ℕ) → bytes_eq (spaced []) (spaced (words t)) ≡ is_white t
no_words t = among (words t) refl
  where
    among : (ws : List (List ℕ)) → words t ≡ ws → bytes_eq [] (spaced ws) ≡ is_white t
    among [] e = sym (words_white t e)
    among (w ∷ ws) e = by_test (is_white t) (λ f. let h = white_words t f in absurd (cc)) (λ f. sym f)
