-- Words with fronts, and what an option's word says.
use Rattle.std.proofs.Common.{◌≡◌, ◌≢◌, ℕ, ◌<◌, ◌^◌, List, [], ◌∷◌, ◌++◌, refl, sym, ap, ◌∙◌, arith, codes}
use Rattle.std.specs.Prelude.{Option, Some, None, Result, Ok, Err}
use Rattle.std.proofs.lemmas.List.{append_cancel_left}
use Rattle.rng_model.specs.Texts.{Text}
use Rattle.command_words.specs.declared.unread.BadNumber.{BadNumber}
use Rattle.command_words.specs.Words.{IsNumber, AreTexts}
use Rattle.command_words.specs.Reading.{HasFront, PassesOption, IsOption}
use Rattle.command_words.proofs.Numbers.{IsNumber-one}

-- no word with the front is the first
abbrev pub HasNoFront : Text → List Text → Type 0
HasNoFront front ws = (v : Text) → HasFront front ws v → ⊥

-- no text begins with both
abbrev pub AreApart : Text → Text → Type 0
AreApart f g = (v u : Text) → f ++ v ≡ g ++ u → ⊥

pub apart : (c d : ℕ) (f g : Text) → c ≢ d → AreApart (c ∷ f) (d ∷ g)
apart c d f g ne v u e = let same : c ≡ d = cc in ne same

pub first_front : (front w v : Text) (ws vs : List Text) → ws ≡ w ∷ vs → w ≡ front ++ v → HasFront front ws v
first_front front w v ws vs e f = rw e f

pub option_no_front : (f g : Text) (low high : ℕ) (ws vs : List Text) (k : Option ℕ) → AreApart f g → IsOption g low high ws k → HasNoFront f vs → HasNoFront f (ws ++ vs)
option_no_front f g low high _ vs _ apart IsOption.none none = none
option_no_front f g low high _ vs _ apart (IsOption.some {v = u} i e) none = λ v h. apart v u (sym h ∙ e)

pub texts_no_front : (f : Text) (ws ts : List Text) → AreApart f (codes "text=") → AreTexts ws ts → HasNoFront f ws
texts_no_front f _ _ apart AreTexts.none = λ v h. h
texts_no_front f _ _ apart (AreTexts.next {t = t} i e more) = λ v h. apart v t (sym h ∙ e)

module _ (f : Text) (low high : ℕ) where
  -- what is passed is an option
  pub as_option : (words : List Text) (r : Option ℕ) (rest : List Text) → PassesOption f low high words (Ok r) rest → (ws : List Text) × (words ≡ ws ++ rest) × IsOption f low high ws r
  as_option words None rest (same, absent) = ([], sym same, IsOption.none)
  as_option words (Some n) rest (v, is, i) = ((f ++ v) ∷ [], is, IsOption.some i refl)

  -- an option is passed
  pub passes : (ws vs : List Text) (k : Option ℕ) → IsOption f low high ws k → HasNoFront f vs → PassesOption f low high (ws ++ vs) (Ok k) vs
  passes _ vs _ IsOption.none none = (refl, none)
  passes _ vs _ (IsOption.some {v = v} i e) none = (v, ap (λ w. w ∷ vs) e, i)

  -- it is the only one
  pub taken : (words : List Text) (r : Option ℕ) (rest : List Text) → high < 2 ^ 64 → PassesOption f low high words (Ok r) rest →
      (ws vs : List Text) (k : Option ℕ) → words ≡ ws ++ vs → IsOption f low high ws k → HasNoFront f vs → (k ≡ r) × (vs ≡ rest)
  taken words None rest h (same, absent) ws vs k is o none = go ws k is o
    where
      go : (ws : List Text) (k : Option ℕ) → words ≡ ws ++ vs → IsOption f low high ws k → (k ≡ None) × (vs ≡ rest)
      go _ _ is IsOption.none = (refl, sym is ∙ sym same)
      go _ _ is (IsOption.some {v = v} {w = w} i e) = absurd (absent v (first_front f w v words vs is e))
  taken words (Some n) rest h (v, passed, number) ws vs k is o none = go ws k is o
    where
      go : (ws : List Text) (k : Option ℕ) → words ≡ ws ++ vs → IsOption f low high ws k → (k ≡ Some n) × (vs ≡ rest)
      go _ _ is IsOption.none = absurd (none v (first_front f (f ++ v) v vs rest (sym is ∙ passed) refl))
      go _ _ is (IsOption.some {v = u} {w = w} {n = m} i e) =
          let both : w ∷ vs ≡ (f ++ v) ∷ rest = sym is ∙ passed in
          let first : w ≡ f ++ v = cc in
          let same : u ≡ v = append_cancel_left f u v (sym e ∙ first) in
          let number : m ≡ n = IsNumber-one low high m n v h (rw same at i) number in
          (ap Some number, cc)

  -- a front without a number is no option
  pub refused : (words rest : List Text) (b : BadNumber) → PassesOption f low high words (Err b) rest →
      (ws vs : List Text) (k : Option ℕ) → words ≡ ws ++ vs → IsOption f low high ws k → HasNoFront f vs → ⊥
  refused words rest b (v, front, bad) ws vs k is o none = go ws k is o
    where
      go : (ws : List Text) (k : Option ℕ) → words ≡ ws ++ vs → IsOption f low high ws k → ⊥
      go _ _ is IsOption.none = none v (rw is at front)
      go _ _ is (IsOption.some {v = u} {w = w} {n = m} i e) =
          let begins : w ≡ f ++ v = rw is at front in
          let same : u ≡ v = append_cancel_left f u v (sym e ∙ begins) in
          bad m (rw same at i)
