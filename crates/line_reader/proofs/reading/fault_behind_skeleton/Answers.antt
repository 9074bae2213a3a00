use Rattle.std.proofs.Common.{◌≡◌, ◌∙◌, ap, suc, ◌+◌, arith, Some}
use Rattle.line_laws.specs.Walks.{After}
use Rattle.line_laws.specs.LineRefusals.{Trailing}
use Rattle.line_reader.proofs.Lines.{ended, not_ended, trailing, reads_none, is_none, not_none}
use Rattle.line_reader.proofs.reading.fault_behind_skeleton.Goals as goal

pub returns-in_default : goal.returns-in_default
returns-in_default c = ended reads_none c.args.line After c.args.rest.now c.in_default.ensures

pub returns-then-not-is_empty : goal.returns-then-not-is_empty
returns-then-not-is_empty c =
    not_ended c.args.line c.args.rest.now c.in-Some.body.now c.in-Some.more.now c.in-Some.ensures.0 c.in-Some.ensures.1
    (not_none c.in-Some.body.now c.if-not-is_empty.ensures)

pub returns : goal.returns
returns c =
    trailing c.args.line c.args.rest.now c.in-Some.body.now c.in-Some.more.now c.in-Some.ensures.0 c.in-Some.ensures.1
    (is_none c.in-Some.body.now c.if-not-is_empty.ensures) (not_none c.in-Some.more.now c.if-is_empty.ensures)
    ∙ ap (λ n. Some (Trailing n)) (let e : suc c.args.line ≡ c.args.line + 1 = omega arith in e)
