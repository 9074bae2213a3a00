-- Options, one behind the other.
use Rattle.std.proofs.Common.{◌≡◌, ℕ, ◌≤◌, ◌<◌, ◌^◌, List, [], ◌∷◌, ◌++◌, length, subst, refl, sym, ap, ◌∙◌, arith, codes}
use Rattle.std.specs.Prelude.{Option, Some, None, Result, Ok, Err}
use Rattle.rng_model.specs.Texts.{Text}
use Rattle.command_words.specs.declared.unread.BadNumber.{BadNumber}
use Rattle.command_words.specs.Words.{AreTexts}
use Rattle.command_words.specs.Extra.{AreNoTexts}
use Rattle.command_words.specs.Reading.{PassesOption, IsOption, AreOptions, AreNoOptions}
use Rattle.command_words.proofs.Fronts.{HasNoFront, AreApart, apart, option_no_front, texts_no_front, as_option, passes, taken, refused}
use Rattle.command_words.proofs.ExtraWords.{texts_one}

max_states : AreApart (codes "max=") (codes "states=")
max_states = apart 109 115 (codes "ax=") (codes "tates=") (λ e. omega (arith, e))

max_fresh : AreApart (codes "max=") (codes "fresh=")
max_fresh = apart 109 102 (codes "ax=") (codes "resh=") (λ e. omega (arith, e))

max_text : AreApart (codes "max=") (codes "text=")
max_text = apart 109 116 (codes "ax=") (codes "ext=") (λ e. omega (arith, e))

states_fresh : AreApart (codes "states=") (codes "fresh=")
states_fresh = apart 115 102 (codes "tates=") (codes "resh=") (λ e. omega (arith, e))

states_text : AreApart (codes "states=") (codes "text=")
states_text = apart 115 116 (codes "tates=") (codes "ext=") (λ e. omega (arith, e))

fresh_text : AreApart (codes "fresh=") (codes "text=")
fresh_text = apart 102 116 (codes "resh=") (codes "ext=") (λ e. omega (arith, e))

-- an option that is passed, or a word that is none
abbrev pub Page : List Text → Result (Option ℕ) BadNumber → List Text → Type 0
Page = PassesOption (codes "max=") 1 1000000000

abbrev pub Limit : List Text → Result (Option ℕ) BadNumber → List Text → Type 0
Limit = PassesOption (codes "states=") 1 1000000

abbrev pub Fresh : List Text → Result (Option ℕ) BadNumber → List Text → Type 0
Fresh = PassesOption (codes "fresh=") 1 3

-- what stands behind an option has other fronts
module _ {words : List Text} {page limit fresh : Option ℕ} {extra : List Text} (o : AreOptions words page limit fresh extra) where
  behind_fresh : HasNoFront (codes "fresh=") o.texts
  behind_fresh = texts_no_front (codes "fresh=") o.texts extra fresh_text o.has_texts

  behind_limit : HasNoFront (codes "states=") (o.freshes ++ o.texts)
  behind_limit = option_no_front (codes "states=") (codes "fresh=") 1 3 o.freshes o.texts fresh states_fresh o.has_fresh (texts_no_front (codes "states=") o.texts extra states_text o.has_texts)

  behind_page : HasNoFront (codes "max=") (o.limits ++ (o.freshes ++ o.texts))
  behind_page =
      option_no_front (codes "max=") (codes "states=") 1 1000000 o.limits (o.freshes ++ o.texts) limit max_states o.has_limit
      (option_no_front (codes "max=") (codes "fresh=") 1 3 o.freshes o.texts fresh max_fresh o.has_fresh (texts_no_front (codes "max=") o.texts extra max_text o.has_texts))

  -- what is read is what they are
  page_read : (p : Option ℕ) (rest : List Text) → Page words (Ok p) rest → (page ≡ p) × (o.limits ++ (o.freshes ++ o.texts) ≡ rest)
  page_read p rest read = taken (codes "max=") 1 1000000000 words p rest (omega arith) read o.pages _ page o.is o.has_page behind_page

  limit_read : (p l : Option ℕ) (ws rest : List Text) → Page words (Ok p) ws → Limit ws (Ok l) rest → (limit ≡ l) × (o.freshes ++ o.texts ≡ rest)
  limit_read p l ws rest before read =
      taken (codes "states=") 1 1000000 ws l rest (omega arith) read o.limits _ limit (sym (page_read p ws before).1) o.has_limit behind_limit

  fresh_read : (p l f : Option ℕ) (ws vs rest : List Text) → Page words (Ok p) ws → Limit ws (Ok l) vs → Fresh vs (Ok f) rest → (fresh ≡ f) × (o.texts ≡ rest)
  fresh_read p l f ws vs rest first second read =
      taken (codes "fresh=") 1 3 vs f rest (omega arith) read o.freshes _ fresh (sym (limit_read p l ws vs first second).1) o.has_fresh behind_fresh

pub no_page : (words rest : List Text) (b : BadNumber) → Page words (Err b) rest → AreNoOptions words
no_page words rest b bad = λ p l f x o. refused (codes "max=") 1 1000000000 words rest b bad o.pages _ p o.is o.has_page (behind_page o)

pub no_limit : (words ws rest : List Text) (p : Option ℕ) (b : BadNumber) → Page words (Ok p) ws → Limit ws (Err b) rest → AreNoOptions words
no_limit words ws rest p b first bad = λ q l f x o.
    refused (codes "states=") 1 1000000 ws rest b bad o.limits _ l (sym (page_read o p ws first).1) o.has_limit (behind_limit o)

pub no_fresh : (words ws vs rest : List Text) (p l : Option ℕ) (b : BadNumber) → Page words (Ok p) ws → Limit ws (Ok l) vs → Fresh vs (Err b) rest → AreNoOptions words
no_fresh words ws vs rest p l b first second bad = λ q m f x o.
    refused (codes "fresh=") 1 3 vs rest b bad o.freshes _ f (sym (limit_read o p l ws vs first second).1) o.has_fresh (behind_fresh o)

module _ (words ws vs us : List Text) (p l f : Option ℕ) (first : Page words (Ok p) ws) (second : Limit ws (Ok l) vs) (third : Fresh vs (Ok f) us) where
  pub no_texts : AreNoTexts us → AreNoOptions words
  no_texts none = λ q m g x o. none x (rw (fresh_read o p l f ws vs us first second third).1 at o.has_texts) o.few

  pub are_options : (x : List Text) → AreTexts us x → length x ≤ 8 → AreOptions words p l f x
  are_options x texts few =
      let page = as_option (codes "max=") 1 1000000000 words p ws first in
      let limit = as_option (codes "states=") 1 1000000 ws l vs second in
      let fresh = as_option (codes "fresh=") 1 3 vs f us third in
      record {
        pages = page.0;
        limits = limit.0;
        freshes = fresh.0;
        texts = us;
        is = page.1 ∙ ap (λ r. page.0 ++ r) (limit.1 ∙ ap (λ r. limit.0 ++ r) fresh.1);
        has_page = page.2;
        has_limit = limit.2;
        has_fresh = fresh.2;
        has_texts = texts;
        few = few;
      }

  -- they are the only ones
  read_once : (q m g : Option ℕ) (x y : List Text) → AreTexts us x → AreOptions words q m g y → (q ≡ p) × (m ≡ l) × (g ≡ f) × (y ≡ x)
  read_once q m g x y texts o =
      let last = fresh_read o p l f ws vs us first second third in
      ((page_read o p ws first).0, (limit_read o p l ws vs first second).0, last.0, texts_one us y x (rw last.1 at o.has_texts) texts)

-- words are one list of options
pub one_list_of_options : (words : List Text) (p l f q m g : Option ℕ) (x y : List Text) → AreOptions words p l f x → AreOptions words q m g y → (q ≡ p) × (m ≡ l) × (g ≡ f) × (y ≡ x)
one_list_of_options words p l f q m g x y o other =
    read_once words (o.limits ++ (o.freshes ++ o.texts)) (o.freshes ++ o.texts) o.texts p l f
    (subst (λ z. Page z (Ok p) (o.limits ++ (o.freshes ++ o.texts))) (sym o.is) (passes (codes "max=") 1 1000000000 o.pages _ p o.has_page (behind_page o)))
    (passes (codes "states=") 1 1000000 o.limits _ l o.has_limit (behind_limit o))
    (passes (codes "fresh=") 1 3 o.freshes _ f o.has_fresh (behind_fresh o))
    q m g x y o.has_texts other
