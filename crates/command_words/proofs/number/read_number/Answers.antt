use Rattle.std.proofs.Common.{◌^◌, ◌<◌, arith}
use Rattle.command_words.proofs.Numbers.{IsNumber-same}
use Rattle.command_words.proofs.number.read_number.Goals as goal

pub returns-then-number-low-clause-none : goal.returns-then-number-low-clause-none
returns-then-number-low-clause-none c = λ n i.
    let high : c.args.high < 2 ^ 64 = omega arith in
    let number : c.in-Some.number < 2 ^ 64 = omega arith in
    let e = IsNumber-same c.args.low c.args.high n c.in-Some.number c.args.word.now high number i (c.in-Some.ensures.number) in
    let least = i.least in omega arith

pub returns-then-high-number-clause-none : goal.returns-then-high-number-clause-none
returns-then-high-number-clause-none c = λ n i.
    let high : c.args.high < 2 ^ 64 = omega arith in
    let number : c.in-Some.number < 2 ^ 64 = omega arith in
    let e = IsNumber-same c.args.low c.args.high n c.in-Some.number c.args.word.now high number i (c.in-Some.ensures.number) in
    let most = i.most in omega arith
