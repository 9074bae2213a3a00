use Rattle.std.proofs.Common.{◌+◌, ◌*◌, ap, arith}
use Rattle.std.proofs.Math.Nat.{mul-le-mul_left}
use Rattle.rng_model.specs.Codes.{nodes as node_count}
use Rattle.rng_model.specs.Universe.{event_count}
use Rattle.feasibility.specs.Tables.{lists}
use Rattle.lister.proofs.Completing.{room_to_close, codes_few, completes}
use Rattle.lister.proofs.descent.complete.Goals as goal

pub close_all-requires : goal.close_all-requires
close_all-requires g c = record { room = room_to_close c.args.table.now c.holds.ensures.listable c.descend.new.path c.descend.ensures.leads.0 c.descend.ensures.leads.1 }

pub returns-clause-codes : goal.returns-clause-codes
returns-clause-codes g c =
    completes c.args.table.now c.holds.ensures.listable (node_count c.args.path.now.codes + c.args.left) c.args.path.now c.descend.new.path c.close_all.new.path c.descend.ensures.leads.0 c.descend.ensures.size
    c.descend.ensures.codes c.descend.ensures.leads.1 c.close_all.ensures.codes c.close_all.ensures.states c.close_all.ensures.room

pub returns-clause-ticks : goal.returns-clause-ticks
returns-clause-ticks g c =
    let f = codes_few c.args.table.now c.holds.ensures.listable c.descend.new.path c.descend.ensures.leads.0 c.descend.ensures.leads.1 in
    let m = mul-le-mul_left (2 * event_count (lists c.args.table.now)) f in
    let e = ap (λ k. 2 * event_count (lists c.args.table.now) * (3 * k)) c.descend.ensures.codes.room in
    let t = c.descend.ensures.ticks in
    omega arith
