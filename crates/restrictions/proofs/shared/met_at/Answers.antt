use Rattle.std.proofs.Common.{arith}
use Rattle.std.proofs.lemmas.Option.{slice_get-get_or}
use Rattle.restrictions.proofs.shared.met_at.Goals as goal

pub returns : goal.returns
returns c =
    let l = c.requires.known.same_length in
    let p = c.requires.within in
    (c.requires.known.each c.args.id.0 _ (slice_get-get_or c.args.known.now c.args.id.0 _ (omega (arith, l, p)))).meets
