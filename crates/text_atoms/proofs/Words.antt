-- The words of a text, from its front.
use Rattle.std.proofs.Common.{◌≡◌, ℕ, zero, suc, ◌+◌, ◌<◌, ◌≤◌, inl, inr, Bool, true, false, not, List, [], ◌∷◌, ◌++◌, length, take, drop, refl, sym, ap, ◌∙◌, arith, append_assoc, append-nil, IsUtf8}
use Rattle.std.specs.List.{prefix_len, position_or_len}
use Rattle.std.specs.Str.{IsCharBoundary}
use Rattle.std.proofs.lemmas.Bool.{cases_lt}
use Rattle.std.proofs.lemmas.Bool.Decides.{nat_tests}
use Rattle.std.proofs.lemmas.Str.{IsCharBoundary-start, IsCharBoundary-end, IsCharBoundary-before_ascii, IsCharBoundary-after_ascii}
use Rattle.std.proofs.lemmas.List.Sums.{prefix_len-le-length, prefix_len_passes, prefix_len_stops}
use Rattle.rng_model.specs.Texts.{is_space, is_white, words, before_words, joined}

pub not_false : (b : Bool) → not b ≡ false → b ≡ true
not_false true e = refl
not_false false e = sym e

pub by_test : {P : Type 0} (b : Bool) → (b ≡ true → P) → (b ≡ false → P) → P
by_test true if_true if_false = if_true refl
by_test false if_true if_false = if_false refl

pub drop_more : (n c : ℕ) (t : List ℕ) → drop (1 + n) (c ∷ t) ≡ drop n t
drop_more n c t = let e : 1 + n ≡ suc n = omega arith in rw e refl

pub take_more : (n c : ℕ) (t : List ℕ) → take (1 + n) (c ∷ t) ≡ c ∷ take n t
take_more n c t = let e : 1 + n ≡ suc n = omega arith in rw e refl

-- white space at the front makes no word
pub words-after_spaces : (t : List ℕ) → words (drop (prefix_len is_space t) t) ≡ words t
words-after_spaces [] = refl
words-after_spaces (c ∷ t) = by_test (is_space c) (λ e. rw (e, drop_more) (words-after_spaces t)) (λ e. rw e (rw e refl))

-- a word of one character, and a longer one
before_space_words : (c d : ℕ) (t : List ℕ) (ws : List (List ℕ)) → is_space d ≡ true → before_words c (d ∷ t) ws ≡ (c ∷ []) ∷ ws
before_space_words c d t [] e = refl
before_space_words c d t (w ∷ ws) e = rw e refl

-- a text that begins with no white space begins with its first word
pub words-cons : (c : ℕ) (t : List ℕ) → is_space c ≡ false → words (c ∷ t) ≡ (c ∷ take (position_or_len is_space t) t) ∷ words (drop (position_or_len is_space t) t)
words-cons c [] e = rw e refl
words-cons c (d ∷ t) e = by_test (is_space d)
    (λ f. simp (e, f) (before_space_words c d t (words t) f))
    (λ f. rw e (ap (before_words c (d ∷ t)) (words-cons d t f) ∙ simp (f, drop_more, take_more)))

stops : (t s : List ℕ) (c : ℕ) → drop (prefix_len is_space t) t ≡ c ∷ s → is_space c ≡ false
stops [] s c e = absurd (cc)
stops (d ∷ t) s c e = by_test (is_space d)
    (λ f. stops t s c (rw (f, drop_more) at e))
    (λ f. let g : d ∷ t ≡ c ∷ s = rw f at e in let h : d ≡ c = cc in rw (← h) f)

-- the same of a text that stands behind its white space
pub words-behind_spaces : (t s : List ℕ) → s ≡ drop (prefix_len is_space t) t → 0 < length s → words t ≡ take (position_or_len is_space s) s ∷ words (drop (position_or_len is_space s) s)
words-behind_spaces t [] e l = absurd (omega arith)
words-behind_spaces t (c ∷ s) e l =
    let f = stops t s c (sym e) in
    let g : words t ≡ words (c ∷ s) = sym (words-after_spaces t) ∙ ap words (sym e) in
    g ∙ words-cons c s f ∙ simp (f, drop_more, take_more)

pub none_left : (t s : List ℕ) → s ≡ drop (prefix_len is_space t) t → length s ≡ 0 → words t ≡ []
none_left t [] e l = sym (words-after_spaces t) ∙ ap words (sym e)
none_left t (c ∷ s) e l = absurd (omega arith)

ascii_space : (b : ℕ) → is_space b ≡ true → b < 128
ascii_space b e = grind (arith, nat_tests)

-- a text may be cut after bytes of ASCII at its front
pub after_prefix : (p : ℕ → Bool) → ((b : ℕ) → p b ≡ true → b < 128) → (t : List ℕ) → IsUtf8 t → IsCharBoundary t (prefix_len p t)
after_prefix p ascii t u = at (prefix_len p t) refl
  where
    at : (n : ℕ) → n ≡ prefix_len p t → IsCharBoundary t n
    at zero e = IsCharBoundary-start t u
    at (suc n) e =
        let passes = prefix_len_passes p t n 0 (omega arith) in
        let h : n + 1 ≡ suc n = omega arith in
        rw h at (IsCharBoundary-after_ascii t n u (omega (arith, prefix_len-le-length p t)) (ascii _ passes))

-- so after the white space at its front; and before the first white space
pub after_spaces : (t : List ℕ) → IsUtf8 t → IsCharBoundary t (prefix_len is_space t)
after_spaces t u = after_prefix is_space ascii_space t u

pub before_space : (t : List ℕ) → IsUtf8 t → IsCharBoundary t (position_or_len is_space t)
before_space t u = elim (cases_lt (position_or_len is_space t) (length t)) [ inl l ↦ inside l | inr g ↦ at_end g ]
  where
    inside : position_or_len is_space t < length t → IsCharBoundary t (position_or_len is_space t)
    inside l = IsCharBoundary-before_ascii t (position_or_len is_space t) l (ascii_space _ (not_false _ (prefix_len_stops (λ c. not (is_space c)) t 0 l)))

    at_end : length t ≤ position_or_len is_space t → IsCharBoundary t (position_or_len is_space t)
    at_end g =
        let same : length t ≡ position_or_len is_space t = omega (arith, prefix_len-le-length (λ c. not (is_space c)) t) in
        rw (← same) (IsCharBoundary-end t)

-- what follows the first word in the normal form
abbrev pub spaced : List (List ℕ) → List ℕ
spaced [] = []
spaced (w ∷ ws) = 32 ∷ w ++ spaced ws

pub joined-cons : (w : List ℕ) (ws : List (List ℕ)) → joined (w ∷ ws) ≡ w ++ spaced ws
joined-cons w [] = sym (append-nil w)
joined-cons w (v ∷ ws) = ap (λ z. w ++ 32 ∷ z) (joined-cons v ws)

pub spaced-cons : (form w : List ℕ) (ws : List (List ℕ)) → form ++ spaced (w ∷ ws) ≡ ((form ++ 32 ∷ []) ++ w) ++ spaced ws
spaced-cons form w ws = simp append_assoc

pub white_words : (t : List ℕ) → is_white t ≡ true → words t ≡ []
white_words [] e = refl
white_words (c ∷ t) e = by_test (is_space c)
    (λ f. rw f (white_words t (rw f at e)))
    (λ f. let h : false ≡ true = rw f at e in absurd (cc))

pub words_white : (t : List ℕ) → words t ≡ [] → is_white t ≡ true
words_white [] e = refl
words_white (c ∷ t) e = by_test (is_space c)
    (λ f. rw f (words_white t (rw f at e)))
    (λ f. let h = words-cons c t f in absurd (cc))

pub no_more : (w : List ℕ) (ws : List (List ℕ)) → length (w ∷ ws) ≡ 1 → ws ≡ []
no_more w [] e = refl
no_more w (v ∷ ws) e = absurd (omega arith)
