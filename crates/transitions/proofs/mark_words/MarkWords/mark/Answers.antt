use Rattle.std.proofs.Common.{◌∙◌, Some, sym, ap, arith}
use Rattle.transitions.proofs.Columns.{has_place, has_word, mark_is}
use Rattle.transitions.proofs.mark_words.MarkWords.mark.Goals as goal

pub index-requires : goal.index-requires
index-requires c =
    let k = c.self.inside.words.ok.0 in
    let l = has_word c.self.inside.words.items c.self.inside.lens.items c.args.self.now c.self.view_is c.self.invariant c.args.rest c.args.id c.requires.listed c.requires.marked in
    omega (arith, k, l)

pub has_bit-requires : goal.has_bit-requires
has_bit-requires c = has_place c.self.inside.words.items c.self.inside.lens.items c.args.self.now c.self.view_is c.self.invariant c.args.rest c.requires.listed

pub returns : goal.returns
returns c =
    mark_is c.self.inside.words.items c.self.inside.lens.items c.args.self.now c.self.view_is c.self.invariant c.args.rest c.args.id c.index.result.now c.requires.listed c.requires.marked
    c.index.ensures
    ∙ ap Some (sym c.has_bit.ensures)
