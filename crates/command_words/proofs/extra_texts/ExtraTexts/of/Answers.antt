use Rattle.std.proofs.Common.{map, string_bytes, arith, length, ◌≤◌, ◌<◌}
use Rattle.std.proofs.lemmas.List.{length-map}
use Rattle.command_words.proofs.ExtraWords.{too_many, few_texts, texts_by_all, all_by_texts}
use Rattle.command_words.proofs.extra_texts.ExtraTexts.of.Goals as goal

pub returns-then-words-gt-MOST_TEXTS-clause-none : goal.returns-then-words-gt-MOST_TEXTS-clause-none
returns-then-words-gt-MOST_TEXTS-clause-none c = too_many (map string_bytes c.args.words.now) (simp length-map c.if-words-gt-MOST_TEXTS.true)

pub invariant_of-result : goal.invariant_of-result
invariant_of-result c = few_texts (map string_bytes c.args.words.now) (λ many. let most : length c.args.words.now ≤ 8 = c.if-words-gt-MOST_TEXTS.false in let more : 8 < length c.args.words.now = simp length-map at many in omega (arith, most, more)) (c.are_text_words.ensures.0 c.if-are_text_words.true)

pub returns-then-are_text_words-clause-texts : goal.returns-then-are_text_words-clause-texts
returns-then-are_text_words-clause-texts c = texts_by_all (map string_bytes c.args.words.now) (c.are_text_words.ensures.0 c.if-are_text_words.true)

pub returns-else-are_text_words-clause-none : goal.returns-else-are_text_words-clause-none
returns-else-are_text_words-clause-none c = λ texts are few.
    let e = c.are_text_words.ensures.1 (all_by_texts (map string_bytes c.args.words.now) texts are) in cc
