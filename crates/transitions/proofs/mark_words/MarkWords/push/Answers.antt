use Rattle.std.proofs.Common.{◌≡◌, ◌∷◌, [], ◌++◌, Bool, List, set, ◌∙◌, ap, arith}
use Rattle.transitions.specs.Bits.{columns, list_of}
use Rattle.transitions.proofs.Columns.{columns_held, has_len, has_place, len_read, list_grows, on_err, word_read}
use Rattle.transitions.proofs.mark_words.MarkWords.push.Goals as goal

pub index-id-requires : goal.index-id-requires
index-id-requires c =
    let k = c.self.inside.lens.ok.0 in
    let l = has_len c.self.inside.words.items c.self.inside.lens.items c.args.self.now c.self.view_is c.args.rest c.requires in
    omega (arith, k, l)

pub hold-requires : goal.hold-requires
hold-requires c =
    let e = len_read c.self.inside.words.items c.self.inside.lens.items c.args.self.now c.self.view_is c.args.rest c.index-id.result.now c.requires c.index-id.ensures in
    let h = c.self.invariant.each c.args.rest in
    omega (arith, e, h)

pub returns-in_err-hold-clause-err : goal.returns-in_err-hold-clause-err
returns-in_err-hold-clause-err c =
    on_err c.from_residual.result (columns 0 c.hold.new.words.items c.self.inside.lens.items ≡ c.args.self.now)
    (columns_held c.self.inside.words.items c.hold.new.words.items 0 c.self.inside.lens.items c.hold.ensures.stay c.self.invariant.each ∙ c.self.view_is)

pub with_bit-requires : goal.with_bit-requires
with_bit-requires c = has_place c.self.inside.words.items c.self.inside.lens.items c.args.self.now c.self.view_is c.self.invariant c.args.rest c.requires

pub index_mut-requires-2 : goal.index_mut-requires-2
index_mut-requires-2 c =
    let k = c.self.inside.lens.ok.0 in
    let l = has_len c.self.inside.words.items c.self.inside.lens.items c.args.self.now c.self.view_is c.args.rest c.requires in
    omega (arith, k, l)

pub returns-clause-ok : goal.returns-clause-ok
returns-clause-ok c =
    let e = len_read c.self.inside.words.items c.self.inside.lens.items c.args.self.now c.self.view_is c.args.rest c.index-id.result.now c.requires c.index-id.ensures in
    list_grows c.self.inside.words.items c.hold.new.words.items c.index-id.result.now c.with_bit.result c.hold.ensures.stay c.in_ok-hold.ensures.held c.self.inside.lens.items c.args.rest c.args.mark
    c.self.invariant (has_len c.self.inside.words.items c.self.inside.lens.items c.args.self.now c.self.view_is c.args.rest c.requires) e c.with_bit.ensures.itself
    (λ k l n. c.with_bit.ensures.others k l n ∙ word_read c.hold.new.words.items c.index-id.result.now c.index.result.now k c.in_ok-hold.ensures.held c.index.ensures)
    ∙ ap (λ (ms : List (List Bool)). set ms c.args.rest (list_of ms c.args.rest ++ c.args.mark ∷ [])) c.self.view_is
