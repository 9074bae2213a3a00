-- Words `text=T`.
use Rattle.std.specs.Prelude.{◌≡◌, List, ◌++◌, drop, length, map, ◌≤◌, codes}
use Rattle.rng_model.specs.Texts.{Text}
use Rattle.command_words.specs.Words.{IsExtraText, AreTexts}

-- the word is `text=` and a text that may stand there
abbrev pub IsTextWord : Text → Type 0
IsTextWord w = (t : Text) × (w ≡ codes "text=" ++ t) × IsExtraText t

-- what stands behind `text=`
abbrev pub text_in : Text → Text
text_in w = drop 5 w

-- the texts of the words `text=T`
abbrev pub texts_in : List Text → List Text
texts_in words = map text_in words

-- at most eight words `text=T`
pub record AreFewTexts (words : List Text) : Type 0 where
  pub are : AreTexts words (texts_in words)
  pub few : length words ≤ 8

-- the words are no texts, or too many
abbrev pub AreNoTexts : List Text → Type 0
AreNoTexts words = (texts : List Text) → AreTexts words texts → length texts ≤ 8 → ⊥
