use Rattle.std.proofs.Common.{◌∙◌, sym, arith}
use Rattle.transitions.proofs.Columns.{has_len, len_is, len_read}
use Rattle.transitions.proofs.mark_words.MarkWords.len.Goals as goal

pub index-requires : goal.index-requires
index-requires c =
    let k = c.self.inside.lens.ok.0 in
    let l = has_len c.self.inside.words.items c.self.inside.lens.items c.args.self.now c.self.view_is c.args.rest c.requires in
    omega (arith, k, l)

pub returns : goal.returns
returns c =
    len_read c.self.inside.words.items c.self.inside.lens.items c.args.self.now c.self.view_is c.args.rest c.index.result.now c.requires c.index.ensures
    ∙ sym (len_is c.self.inside.words.items c.self.inside.lens.items c.args.self.now c.self.view_is c.self.invariant c.args.rest c.requires)
