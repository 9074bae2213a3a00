use Rattle.command_words.proofs.Numbers.{decimal-parses, same_text}
use Rattle.command_words.proofs.Texts.{differ}
use Rattle.command_words.proofs.number.spelled.Goals as goal

pub returns-in_default-clause-none : goal.returns-in_default-clause-none
returns-in_default-clause-none c = λ n h e. let r = decimal-parses n c.args.word.now c.parse.result c.parse.ensures.value.0 h e in cc

pub returns-else-eq-clause-none : goal.returns-else-eq-clause-none
returns-else-eq-clause-none c = λ n h e.
    let r = decimal-parses n c.args.word.now c.parse.result c.parse.ensures.value.0 h e in
    let same = same_text c.parse.result c.in-Ok.number n c.args.word.now c.format.result.now c.in-Ok.is r c.format.ensures.text e in
    differ c.eq.result c.format.result.now c.args.word.now c.eq.ensures c.if-eq.false same
