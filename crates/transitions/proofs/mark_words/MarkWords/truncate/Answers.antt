use Rattle.std.proofs.Common.{Bool, ℕ, Vec, Global, List, map, take, ◌∙◌, ap, arith}
use Rattle.transitions.specs.Bits.{columns}
use Rattle.transitions.proofs.Columns.{columns_are_cut}
use Rattle.transitions.proofs.mark_words.MarkWords.truncate.Goals as goal

pub returns : goal.returns
returns c =
    let v = c.loop-rest.invariant in
    let k = c.self.inside.lens.ok.0 in
    let e = c.len-rest-end.ensures in
    let t = c.loop-rest-test.false in
    ap (λ (ws : List ℕ). columns 0 ws c.loop-rest.self-inside.lens.items) (c.truncate.ensures.items ∙ ap (λ (ws : List ℕ). take c.args.count ws) (ap (λ (w : Vec ℕ Global). w.items) v.0))
    ∙ columns_are_cut c.self.inside.words.items c.self.inside.lens.items c.loop-rest.self-inside.lens.items c.args.count c.loop-rest.rest v.1 (omega (arith, k, e, t))
    ∙ ap (λ (ms : List (List Bool)). map (take c.args.count) ms) c.self.view_is
