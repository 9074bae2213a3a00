use Rattle.std.proofs.Common.{◌≡◌, drop, arith}
use Rattle.std.specs.List.{prefix_len}
use Rattle.std.proofs.lemmas.Bool.Decides.{nat_tests}
use Rattle.rng_model.specs.Texts.{is_space}
use Rattle.text_atoms.proofs.Words.{words-behind_spaces, none_left, after_spaces, before_space}
use Rattle.text_atoms.proofs.white_space.first_word.Goals as goal

pub range_from-text-requires : goal.range_from-text-requires
range_from-text-requires c = λ _. rw c.space_count.ensures (after_spaces c.args.text.now c.utf8.text)

pub returns-then-is_empty : goal.returns-then-is_empty
returns-then-is_empty c =
    let s : c.range_from-text.result.now ≡ drop (prefix_len is_space c.args.text.now) c.args.text.now = rw c.space_count.ensures at c.range_from-text.ensures.value in
    none_left c.args.text.now c.range_from-text.result.now s (grind (arith, nat_tests))

pub split_at-requires : goal.split_at-requires
split_at-requires c = rw c.word_len.ensures (before_space c.range_from-text.result.now c.range_from-text.utf8)

pub returns : goal.returns
returns c =
    let s : c.range_from-text.result.now ≡ drop (prefix_len is_space c.args.text.now) c.args.text.now = rw c.space_count.ensures at c.range_from-text.ensures.value in
    rw (c.split_at.ensures.front, c.split_at.ensures.back, c.word_len.ensures) (words-behind_spaces c.args.text.now c.range_from-text.result.now s (grind (arith, nat_tests)))
