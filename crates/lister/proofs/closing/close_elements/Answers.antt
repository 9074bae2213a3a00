use Rattle.std.proofs.Common.{◌+◌, ◌-◌, ◌∷◌, [], ◌++◌, length, length-append, append_assoc, ap, sym, ◌∙◌, arith}
use Rattle.rng_model.specs.Codes.{Closing}
use Rattle.lister.specs.OpenElements.{closings}
use Rattle.lister.proofs.Completing.{closings_length, closings_less}
use Rattle.lister.proofs.closing.close_elements.Goals as goal

pub push-requires : goal.push-requires
push-requires c =
    let i = c.loop.invariant in
    let e = ap length i.codes in
    let a = length-append c.loop.path.codes (closings (c.args.depth - c.loop.counter)) in
    let b = length-append c.args.path.now.codes (closings c.args.depth) in
    let l = closings_length (c.args.depth - c.loop.counter) in
    let r = c.requires in
    let m = i.room in
    omega arith

pub loop-preserved : goal.loop-preserved
loop-preserved c =
    let i = c.loop.invariant in
    let s = closings_less c.args.depth c.loop.counter (omega arith) in
    let k = append_assoc c.loop.path.codes (Closing ∷ []) (closings (c.args.depth - (c.loop.counter + 1))) in
    rw c.push.ensures (record {
      codes = k ∙ ap (λ x. c.loop.path.codes ++ x) (sym s) ∙ i.codes;
      states = i.states;
      room = i.room;
    })
