use Rattle.std.proofs.Common.{◌≤◌, length, ap, arith}
use Rattle.line_reader.specs.Faults.{IsRefused}
use Rattle.list_command.proofs.Exits.{held_bytes}
use Rattle.list_command.proofs.Cursors.{long_cursor, lines_end}
use Rattle.list_command.proofs.cursor_file.read_cursor.Goals as goal

pub returns-in-Err-TooLong-clause-owed : goal.returns-in-Err-TooLong-clause-owed
returns-in-Err-TooLong-clause-owed g c = λ files told.
    long_cursor (g.F.Shelf.files c.args.shelf.now) files c.args.file.now told (c.in-Err-TooLong.ensures.too_long (rw c.in-Err-TooLong.field-0-is))

pub returns-clause-owed : goal.returns-clause-owed
returns-clause-owed g c = λ files told.
    let held = held_bytes (g.F.Shelf.files c.args.shelf.now) files c.args.file.now c.in-Ok.bytes.items told c.in-Ok.ensures.bytes in
    let refused : IsRefused c.in-Ok.bytes.items c.in-Err.fault = rw c.as_slice.ensures.value at c.in-Err.ensures.refused in
    let same = ap length c.as_slice.ensures.value in
    let many = c.as_slice.ensures.len in
    let few = c.in-Ok.ensures.short in
    let short : length c.in-Ok.bytes.items ≤ 2097152 = omega (arith, same, many, few) in
    rw c.no_skeleton.ensures (lines_end c.args.file.now files _ _ c.in-Ok.bytes.items held short c.in-Err.fault refused)
