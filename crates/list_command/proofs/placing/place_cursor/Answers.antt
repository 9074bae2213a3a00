use Rattle.std.proofs.Common.{arith}
use Rattle.list_command.proofs.Within.{few_spent}
use Rattle.list_command.proofs.placing.place_cursor.Goals as goal

pub returns-in-Err-CursorStray-clause-stopped : goal.returns-in-Err-CursorStray-clause-stopped
returns-in-Err-CursorStray-clause-stopped g c =
    let most = few_spent c.args.table.now c.grow_to.new.self c.grow_to.ensures.kept c.holds.ensures in
    let spent = c.in-Ok.ensures.spent in
    let ticks = c.place.ensures.ticks in
    omega (arith, most, spent, ticks)
