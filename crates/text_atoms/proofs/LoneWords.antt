-- Kinds whose values are one word: a text of no word, or of several, is refused.
use Rattle.std.proofs.Common.{◌≡◌, ◌≢◌, ℕ, Bool, true, false, List, [], ◌∷◌, ◌++◌, length, take, drop, refl, sym, ap, ◌∙◌, arith, true≢false, ◌==◌, ◌&&◌, ◌||◌, IsUtf8, codes}
use Rattle.std.specs.List.{list_all, prefix_len, position_or_len}
use Rattle.std.specs.Str.{bytes_eq, chars}
use Rattle.std.proofs.lemmas.Slice.Eq.{bytes_eq-Decides}
use Rattle.std.proofs.lemmas.Str.{chars-nil, chars-append, IsUtf8-take, IsUtf8-drop}
use Rattle.rng_model.specs.Texts.{is_space, words, joined, normal}
use Rattle.rng_model.specs.Names.{is_name_start, is_name_char, are_name_chars, is_ncname}
use Rattle.rng_model.specs.Kinds.{is_yes, is_no, is_digit, are_digits, is_integer, are_token_chars, allows_normal, allows, equal}
use Rattle.text_atoms.specs.declared.kind.Kind.{Kind}
use Rattle.text_atoms.specs.declared.kind.Kind.TheVariants.{Str, Token, Boolean, Integer, NonNegative, Positive, NcName, Nmtoken}
use Rattle.text_atoms.specs.Kinds.{kind_of, same_normal}
use Rattle.text_atoms.proofs.Words.{by_test, words-behind_spaces, none_left, after_spaces, before_space}
use Rattle.text_atoms.proofs.Equal.{is_letter}

-- a list with a 32 among its elements, which doesn't pass
fails : (p : ℕ → Bool) → p 32 ≡ false → (w r : List ℕ) → list_all p (w ++ 32 ∷ r) ≡ false
fails p e [] r = rw e refl
fails p e (c ∷ w) r = by_test (p c) (λ f. rw f (fails p e w r)) (λ f. rw f refl)

other_text : (m : List ℕ) → list_all is_letter m ≡ true → (w r : List ℕ) → bytes_eq (w ++ 32 ∷ r) m ≡ false
other_text m e w r = by_test (bytes_eq (w ++ 32 ∷ r) m)
    (λ f. let h : w ++ 32 ∷ r ≡ m = (bytes_eq-Decides (w ++ 32 ∷ r) m).0 f in
    let g : list_all is_letter m ≡ false = rw h at (fails is_letter refl w r) in
    absurd (true≢false (sym e ∙ g)))
    (λ f. f)

no_yes : (w r : List ℕ) → is_yes (w ++ 32 ∷ r) ≡ false
no_yes w r = rw (other_text (codes "true") refl w r, other_text (codes "1") refl w r) refl

no_no : (w r : List ℕ) → is_no (w ++ 32 ∷ r) ≡ false
no_no w r = rw (other_text (codes "false") refl w r, other_text (codes "0") refl w r) refl

no_digits : (w r : List ℕ) → are_digits (w ++ 32 ∷ r) ≡ false
no_digits [] r = refl
no_digits (c ∷ w) r = fails is_digit refl (c ∷ w) r

no_integer : (w r : List ℕ) → is_integer (w ++ 32 ∷ r) ≡ false
no_integer [] r = refl
no_integer (c ∷ w) r = by_test (c == 43 || c == 45) (λ f. rw f (no_digits w r)) (λ f. rw f (no_digits (c ∷ w) r))

space_first : (r : List ℕ) → chars (32 ∷ r) ≡ 32 ∷ chars r
unfolding chars
space_first [] = refl
space_first (c ∷ r) = refl

spelled : (w r : List ℕ) → IsUtf8 w → chars (w ++ 32 ∷ r) ≡ chars w ++ 32 ∷ chars r
spelled w r u = chars-append w (32 ∷ r) u ∙ ap (λ z. chars w ++ z) (space_first r)

no_name_chars : (w r : List ℕ) → are_name_chars (w ++ 32 ∷ r) ≡ false
unfolding is_name_start is_name_char
no_name_chars [] r = refl
no_name_chars (c ∷ w) r = by_test (is_name_start c) (λ f. rw f (fails is_name_char refl w r)) (λ f. rw f refl)

no_ncname : (w r : List ℕ) → IsUtf8 w → is_ncname (w ++ 32 ∷ r) ≡ false
unfolding is_ncname
no_ncname w r u = rw (spelled w r u) (no_name_chars (chars w) (chars r))

no_token_chars : (w r : List ℕ) → are_token_chars (w ++ 32 ∷ r) ≡ false
unfolding is_name_start is_name_char
no_token_chars [] r = refl
no_token_chars (c ∷ w) r = fails (λ d. is_name_char d || d == 58) refl (c ∷ w) r

no_nmtoken : (w r : List ℕ) → IsUtf8 w → are_token_chars (chars (w ++ 32 ∷ r)) ≡ false
no_nmtoken w r u = rw (spelled w r u) (no_token_chars (chars w) (chars r))

spaced_refused : (k : Kind) (w r : List ℕ) → (k ≡ Str → ⊥) → (k ≡ Token → ⊥) → IsUtf8 w → allows_normal (kind_of k) (w ++ 32 ∷ r) ≡ false
spaced_refused Str w r f g u = absurd (f refl)
spaced_refused Token w r f g u = absurd (g refl)
spaced_refused Boolean w r f g u = rw (no_yes w r, no_no w r) refl
spaced_refused Integer w r f g u = no_integer w r
spaced_refused NonNegative w r f g u = rw (no_integer w r) refl
spaced_refused Positive w r f g u = rw (no_integer w r) refl
spaced_refused NcName w r f g u = no_ncname w r u
spaced_refused Nmtoken w r f g u = no_nmtoken w r u

empty_refused : (k : Kind) → (k ≡ Str → ⊥) → (k ≡ Token → ⊥) → allows_normal (kind_of k) [] ≡ false
unfolding is_ncname
empty_refused Str f g = absurd (f refl)
empty_refused Token f g = absurd (g refl)
empty_refused Boolean f g = refl
empty_refused Integer f g = refl
empty_refused NonNegative f g = refl
empty_refused Positive f g = refl
empty_refused NcName f g = rw chars-nil refl
empty_refused Nmtoken f g = rw chars-nil refl

-- a word of a text can be cut out of it
word_is_utf8 : (t w : List ℕ) (ws : List (List ℕ)) → IsUtf8 t → words t ≡ w ∷ ws → IsUtf8 w
word_is_utf8 t w ws u e = behind (drop (prefix_len is_space t) t) refl
  where
    behind : (s : List ℕ) → s ≡ drop (prefix_len is_space t) t → IsUtf8 w
    behind [] f = absurd (let h = none_left t [] f refl in cc)
    behind (c ∷ s) f =
        let h = words-behind_spaces t (c ∷ s) f (omega arith) in
        let g : w ≡ take (position_or_len is_space (c ∷ s)) (c ∷ s) = cc in
        let v : IsUtf8 (c ∷ s) = rw f (IsUtf8-drop t (prefix_len is_space t) u (after_spaces t u)) in
        rw g (IsUtf8-take (c ∷ s) (position_or_len is_space (c ∷ s)) v (before_space (c ∷ s) v))

-- a kind that wants one word refuses a text of another number of words
pub refused : (k : Kind) (t : List ℕ) → (k ≡ Str → ⊥) → (k ≡ Token → ⊥) → IsUtf8 t → (length (words t) ≢ 1) → allows (kind_of k) t ≡ false
unfolding normal allows
refused k t f g u several = by_words (words t) refl
  where
    by_words : (ws : List (List ℕ)) → words t ≡ ws → allows (kind_of k) t ≡ false
    by_words [] e = rw e (empty_refused k f g)
    by_words (w ∷ []) e = absurd (several (ap length e))
    by_words (w ∷ v ∷ vs) e = rw e (spaced_refused k w (joined (v ∷ vs)) f g (word_is_utf8 t w (v ∷ vs) u e))

-- a text of one word has the word as its normal form
pub allows_lone : (k : Kind) (t w : List ℕ) → words t ≡ w ∷ [] → allows (kind_of k) t ≡ allows_normal (kind_of k) w
unfolding normal allows
allows_lone k t w e = rw e refl

pub equal_lone : (k : Kind) (a b w v : List ℕ) → (k ≡ Str → ⊥) → words a ≡ w ∷ [] → words b ≡ v ∷ [] → equal (kind_of k) a b ≡ (allows_normal (kind_of k) w && allows_normal (kind_of k) v && same_normal (kind_of k) w v)
unfolding normal allows equal
equal_lone Str a b w v f d e = absurd (f refl)
equal_lone Token a b w v f d e = rw (d, e) refl
equal_lone Boolean a b w v f d e = rw (d, e) refl
equal_lone Integer a b w v f d e = rw (d, e) refl
equal_lone NonNegative a b w v f d e = rw (d, e) refl
equal_lone Positive a b w v f d e = rw (d, e) refl
equal_lone NcName a b w v f d e = rw (d, e) refl
equal_lone Nmtoken a b w v f d e = rw (d, e) refl

pub unequal_first : (k : Kind) (a b : List ℕ) → allows (kind_of k) a ≡ false → false ≡ equal (kind_of k) a b
unfolding equal
unequal_first k a b e = rw e refl

pub unequal_second : (k : Kind) (a b : List ℕ) → allows (kind_of k) b ≡ false → false ≡ equal (kind_of k) a b
unfolding equal
unequal_second k a b e = by_test (allows (kind_of k) a) (λ f. rw (f, e) refl) (λ f. rw f refl)
