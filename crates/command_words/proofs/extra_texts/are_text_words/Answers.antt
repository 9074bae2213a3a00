use Rattle.std.proofs.Common.{map, string_bytes, rules, tests, IsTrue, true, false}
use Rattle.std.proofs.lemmas.Iterator.{cases_from_all, YieldsList-from_slice}
use Rattle.command_words.specs.Extra.{IsTextWord}
use Rattle.command_words.proofs.ExtraWords.{all_or_not}
use Rattle.command_words.proofs.extra_texts.are_text_words.Goals as goal

pub returns : goal.returns
returns c =
    all_or_not string_bytes c.args.words.now c.all.result
    (cases_from_all _ _ _ (λ s. IsTextWord (string_bytes s)) (λ s. IsTextWord (string_bytes s) → ⊥) c.all.ensures.ran (YieldsList-from_slice c.args.words.now cc)
    (λ x q k. search (rules, tests)) (λ x q k. search (rules, tests)))
