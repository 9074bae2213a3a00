-- The normal form: it is its own, and spaces behind a text don't change it.
use Rattle.std.proofs.Common.{◌≡◌, ℕ, zero, suc, List, [], ◌∷◌, ◌++◌, refl, sym, ◌∙◌, ap, Bool, true, false}
use Rattle.std.specs.List.{AllByRecursion}
use Rattle.rng_model.specs.Texts.{Text, is_space, before_words, words, joined, normal}
use Rattle.rng_model.specs.Atoms.{spaced}

data Which (b : Bool) : Type 0 where
  yes : b ≡ true → Which b
  no : b ≡ false → Which b

which : (b : Bool) → Which b
which true = yes refl
which false = no refl

-- a word: one character that isn't white space, or more
abbrev pub IsInk : Text → Type 0
IsInk = AllByRecursion (λ c. is_space c ≡ false)

abbrev pub IsWord : Text → Type 0
IsWord [] = ⊥
IsWord (c ∷ t) = (is_space c ≡ false) × IsInk t

words-space : (c : ℕ) (t : Text) → is_space c ≡ true → words (c ∷ t) ≡ words t
words-space c t e = rw e refl

words-ink : (c : ℕ) (t : Text) → is_space c ≡ false → words (c ∷ t) ≡ before_words c t (words t)
words-ink c t e = rw e refl

before-space : (c d : ℕ) (t : Text) (ws : List Text) → is_space d ≡ true → before_words c (d ∷ t) ws ≡ (c ∷ []) ∷ ws
before-space c d t [] e = refl
before-space c d t (w ∷ ws) e = rw e refl

before-ink : (c d : ℕ) (t w : Text) (ws : List Text) → is_space d ≡ false → before_words c (d ∷ t) (w ∷ ws) ≡ (c ∷ w) ∷ ws
before-ink c d t w ws e = rw e refl

-- a word and a space
word_first : (c : ℕ) (w t : Text) → is_space c ≡ false → IsInk w → words (c ∷ (w ++ 32 ∷ t)) ≡ (c ∷ w) ∷ words t
word_first c [] t e i = words-ink c (32 ∷ t) e ∙ before-space c 32 t (words t) refl
word_first c (d ∷ w) t e i =
    let h = word_first d w t i.0 i.1 in
    words-ink c (d ∷ (w ++ 32 ∷ t)) e ∙ ap (before_words c (d ∷ (w ++ 32 ∷ t))) h ∙ before-ink c d (w ++ 32 ∷ t) (d ∷ w) (words t) i.0

-- a word alone
word_alone : (c : ℕ) (w : Text) → is_space c ≡ false → IsInk w → words (c ∷ w) ≡ (c ∷ w) ∷ []
word_alone c [] e i = words-ink c [] e
word_alone c (d ∷ w) e i =
    let h = word_alone d w i.0 i.1 in
    words-ink c (d ∷ w) e ∙ ap (before_words c (d ∷ w)) h ∙ before-ink c d w (d ∷ w) [] i.0

words-joined : (ws : List Text) → AllByRecursion IsWord ws → words (joined ws) ≡ ws
words-joined [] h = refl
words-joined ([] ∷ ws) h = absurd h.0
words-joined ((c ∷ w) ∷ []) h = word_alone c w h.0.0 h.0.1
words-joined ((c ∷ w) ∷ v ∷ ws) h =
    word_first c w (joined (v ∷ ws)) h.0.0 h.0.1 ∙ ap (λ x. (c ∷ w) ∷ x) (words-joined (v ∷ ws) h.1)

before_are_words : (c : ℕ) (t : Text) (ws : List Text) → is_space c ≡ false → AllByRecursion IsWord ws → AllByRecursion IsWord (before_words c t ws)
before_are_words c [] ws e h = ((e, tt), h)
before_are_words c (d ∷ t) [] e h = ((e, tt), tt)
before_are_words c (d ∷ t) ([] ∷ ws) e h = absurd h.0
before_are_words c (d ∷ t) ((b ∷ w) ∷ ws) e h = go (which (is_space d))
  where
    go : Which (is_space d) → AllByRecursion IsWord (before_words c (d ∷ t) ((b ∷ w) ∷ ws))
    go (yes f) = rw f ((e, tt), h)
    go (no f) = rw f ((e, h.0), h.1)

are_words : (t : Text) → AllByRecursion IsWord (words t)
are_words [] = tt
are_words (c ∷ t) = go (which (is_space c)) (are_words t)
  where
    go : Which (is_space c) → AllByRecursion IsWord (words t) → AllByRecursion IsWord (words (c ∷ t))
    go (yes e) h = rw (words-space c t e) h
    go (no e) h = rw (words-ink c t e) (before_are_words c t (words t) e h)

words-behind : (t : Text) → words (t ++ 32 ∷ []) ≡ words t
words-behind [] = refl
words-behind (c ∷ t) = go (which (is_space c)) t (words-behind t)
  where
    before : (t : Text) (ws : List Text) → before_words c (t ++ 32 ∷ []) ws ≡ before_words c t ws
    before [] [] = refl
    before [] (w ∷ ws) = refl
    before (d ∷ t) [] = refl
    before (d ∷ t) (w ∷ ws) = refl

    go : Which (is_space c) → (t : Text) → words (t ++ 32 ∷ []) ≡ words t → words (c ∷ (t ++ 32 ∷ [])) ≡ words (c ∷ t)
    go (yes e) t h = words-space c (t ++ 32 ∷ []) e ∙ h ∙ sym (words-space c t e)
    go (no e) t h = words-ink c (t ++ 32 ∷ []) e ∙ ap (before_words c (t ++ 32 ∷ [])) h ∙ before t (words t) ∙ sym (words-ink c t e)

pub normal-normal : (t : Text) → normal (normal t) ≡ normal t
unfolding normal
normal-normal t = ap joined (words-joined (words t) (are_words t))

pub normal-spaced : (t : Text) (k : ℕ) → normal (spaced (normal t) k) ≡ normal t
unfolding normal
normal-spaced t zero = normal-normal t
normal-spaced t (suc k) = ap joined (words-behind (spaced (normal t) k)) ∙ normal-spaced t k

pub normal-spaces : (k : ℕ) → normal (spaced [] k) ≡ []
unfolding normal
normal-spaces k = normal-spaced [] k
