use Rattle.std.proofs.Common.{◌≡◌, ◌∷◌, length, sym, ap, ◌∙◌, arith, true≢false}
use Rattle.rng_model.specs.Texts.{words}
use Rattle.text_atoms.proofs.Words.{white_words, words_white, no_more}
use Rattle.text_atoms.proofs.white_space.lone_word.Goals as goal
use Rattle.text_atoms.proofs.white_space.lone_word.Goals.{in_default-via-in-Some+else-is_white, in_default-via-in_default}

pub returns-in-Some : goal.returns-in-Some
returns-in-Some c = c.in-Some.ensures ∙ ap (λ z. c.in-Some.word.now ∷ z) (white_words c.in-Some.rest.now (sym c.if-is_white.ensures))

pub returns-in_default : goal.returns-in_default
returns-in_default c = λ one. elim c.in_default.branch [
  | in_default-via-in-Some+else-is_white w ↦
      let none = no_more w.in-Some.word.now (words w.in-Some.rest.now) (rw w.in-Some.ensures at one) in
      true≢false (sym (words_white w.in-Some.rest.now none) ∙ sym w.if-is_white.ensures)
  | in_default-via-in_default w ↦ let none : length (words c.args.text.now) ≡ 0 = ap length w.in_default.ensures in absurd (omega arith)
]
