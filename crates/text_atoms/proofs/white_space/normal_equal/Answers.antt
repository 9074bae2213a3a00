use Rattle.std.proofs.Common.{rules, ◌≡◌, sym, ◌∙◌, false}
use Rattle.std.specs.Str.{bytes_eq}
use Rattle.rng_model.specs.Texts.{normal, words, is_white}
use Rattle.text_atoms.proofs.Words.{spaced}
use Rattle.text_atoms.proofs.Equal.{joined_spaced, same_word, other_word, first_is_word, no_word, no_words}
use Rattle.text_atoms.proofs.white_space.normal_equal.Goals as goal

pub loop-word-init : goal.loop-word-init
loop-word-init c = (search rules, search rules, sym (joined_spaced c.args.a.now c.args.b.now))

pub returns-in_default-first_word : goal.returns-in_default-first_word
unfolding normal
returns-in_default-first_word c =
    let e : bytes_eq (spaced (words c.loop-word.left.now)) (spaced (words c.loop-word.right.now)) ≡ false =
    rw (c.in-Some.ensures, c.in_default-first_word.ensures) (no_word c.in-Some.word.now (words c.in-Some.after.now)) in
    sym e ∙ c.loop-word.invariant.2

pub returns-then-ne : goal.returns-then-ne
unfolding normal
returns-then-ne c =
    let e : bytes_eq (spaced (words c.loop-word.left.now)) (spaced (words c.loop-word.right.now)) ≡ false =
    rw (c.in-Some.ensures, c.in-Some-first_word.ensures)
    (other_word c.in-Some.word.now c.in-Some-first_word.other.now _ _
    (first_is_word c.loop-word.left.now _ _ c.in-Some.ensures)
    (first_is_word c.loop-word.right.now _ _ c.in-Some-first_word.ensures) c.if-ne.ensures) in
    sym e ∙ c.loop-word.invariant.2

pub loop-word-preserved : goal.loop-word-preserved
loop-word-preserved c =
    let e : bytes_eq (spaced (words c.loop-word.left.now)) (spaced (words c.loop-word.right.now)) ≡ bytes_eq (spaced (words c.in-Some.after.now)) (spaced (words c.in-Some-first_word.rest.now)) =
    rw (c.in-Some.ensures, c.in-Some-first_word.ensures) (same_word c.in-Some.word.now c.in-Some-first_word.other.now _ _ c.if-ne.ensures) in
    (search rules, search rules, sym e ∙ c.loop-word.invariant.2)

pub returns : goal.returns
unfolding normal
returns c =
    let e : bytes_eq (spaced (words c.loop-word.left.now)) (spaced (words c.loop-word.right.now)) ≡ is_white c.loop-word.right.now =
    rw c.in_default.ensures (no_words c.loop-word.right.now) in
    rw c.is_white.ensures (sym e ∙ c.loop-word.invariant.2)
