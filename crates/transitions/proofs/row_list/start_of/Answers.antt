use Rattle.std.proofs.Common.{◌≡◌, suc, ◌-◌, ◌∙◌, ap, sym, refl, arith}
use Rattle.transitions.specs.RowLists.{start_at}
use Rattle.transitions.proofs.Ending.{starts_behind}
use Rattle.transitions.proofs.row_list.start_of.Goals as goal

pub returns-then-id-eq0 : goal.returns-then-id-eq0
returns-then-id-eq0 c = rw c.if-id-eq0.true refl

pub returns-else-id-eq0 : goal.returns-else-id-eq0
returns-else-id-eq0 c =
    let more : suc (c.args.id - 1) ≡ c.args.id = omega (arith, c.if-id-eq0.false) in
    sym (starts_behind 0 c.args.ends.now (c.args.id - 1) (omega (arith, c.if-id-eq0.false, c.requires))) ∙ ap (start_at 0 c.args.ends.now) more
