use Rattle.std.proofs.Common.{◌<◌, length, arith}
use Rattle.event_lines.specs.Escapes.{spelling}
use Rattle.event_lines.proofs.Sending.{on_err}
use Rattle.event_lines.proofs.Escaping.{fails_plain, fails_byte, sends_byte}
use Rattle.event_lines.proofs.pieces.put_front.Goals as goal

pub returns-in_err-put-clause-err : goal.returns-in_err-put-clause-err
returns-in_err-put-clause-err g c =
    on_err c.from_residual.result (fails_plain (spelling c.args.escapes) c.plain_len-plain.result c.args.bytes.now c.plain_len-plain.ensures.plain c.in_err-put.ensures.err)

pub returns-in_err-put_byte-clause-err : goal.returns-in_err-put_byte-clause-err
returns-in_err-put_byte-clause-err g c =
    let below : c.plain_len-plain.result < length c.args.bytes.now = omega arith in
    on_err c.from_residual-in_err-put_byte.result (fails_byte (spelling c.args.escapes) c.plain_len-plain.result c.args.bytes.now c.plain_len-plain.ensures.plain below c.in_ok-put.ensures.ok c.in_err-put_byte.ensures.err)

pub returns-clause-ok : goal.returns-clause-ok
returns-clause-ok g c =
    let below : c.plain_len-plain.result < length c.args.bytes.now = omega arith in
    sends_byte (spelling c.args.escapes) c.plain_len-plain.result c.args.bytes.now c.plain_len-plain.ensures.plain below c.in_ok-put.ensures.ok c.in_ok-put_byte.ensures.ok
