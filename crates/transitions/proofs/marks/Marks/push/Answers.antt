use Rattle.std.proofs.Common.{◌≡◌, ◌≤◌, ◌-◌, ◌∷◌, [], ◌++◌, List, Bool, set, sym, ◌∙◌, ap, arith}
use Rattle.transitions.specs.Bits.{list_of}
use Rattle.transitions.proofs.Lists.{on_ok_map}
use Rattle.transitions.proofs.Parts.{in_lists, list_read, of_lists, of_words, write_lists, write_words}
use Rattle.transitions.proofs.marks.Marks.push.Goals as goal

pub returns-then-rest-lt-BITS-clause-ok : goal.returns-then-rest-lt-BITS-clause-ok
returns-then-rest-lt-BITS-clause-ok c =
    let l = c.if-rest-lt-BITS.true in
    let o = of_words c.self.inside.words c.self.inside.lists.items c.args.self.now c.self.view_is c.self.invariant c.args.rest c.requires l in
    on_ok_map c.push.result (c.push.new.self ≡ set c.self.inside.words c.args.rest (list_of c.self.inside.words c.args.rest ++ c.args.mark ∷ []))
    (c.push.new.self ++ c.self.inside.lists.items ≡ set c.args.self.now c.args.rest (list_of c.args.self.now c.args.rest ++ c.args.mark ∷ []))
    (λ e. ap (λ (ws : List (List Bool)). ws ++ c.self.inside.lists.items) (e ∙ ap (λ (bs : List Bool). set c.self.inside.words c.args.rest (bs ++ c.args.mark ∷ [])) (sym o))
    ∙ write_words c.self.inside.words c.self.inside.lists.items c.args.self.now c.self.view_is c.self.invariant c.args.rest (list_of c.args.self.now c.args.rest ++ c.args.mark ∷ []) c.requires l)
    c.push.ensures.ok

pub returns-else-rest-lt-BITS-clause-ok : goal.returns-else-rest-lt-BITS-clause-ok
returns-else-rest-lt-BITS-clause-ok c =
    let f = c.if-rest-lt-BITS.false in
    let m : 64 ≤ c.args.rest = omega (arith, f) in
    let i = in_lists c.self.inside.words c.self.inside.lists.items c.args.self.now c.self.view_is c.self.invariant c.args.rest c.requires m in
    let o = of_lists c.self.inside.words c.self.inside.lists.items c.args.self.now c.self.view_is c.self.invariant c.args.rest c.requires m in
    let r = list_read c.self.inside.lists.items (c.args.rest - 64) c.index_mut.result.now i c.index_mut.ensures.value in
    on_ok_map c.push-else-rest-lt-BITS.result (c.push-else-rest-lt-BITS.new.self ≡ c.index_mut.result.now ++ c.args.mark ∷ [])
    (c.self.inside.words ++ set c.self.inside.lists.items (c.args.rest - 64) c.push-else-rest-lt-BITS.new.self ≡ set c.args.self.now c.args.rest (list_of c.args.self.now c.args.rest ++ c.args.mark ∷ []))
    (λ e. ap (λ (bs : List Bool). c.self.inside.words ++ set c.self.inside.lists.items (c.args.rest - 64) bs) (e ∙ ap (λ (bs : List Bool). bs ++ c.args.mark ∷ []) (r ∙ sym o))
    ∙ write_lists c.self.inside.words c.self.inside.lists.items c.args.self.now c.self.view_is c.self.invariant c.args.rest (list_of c.args.self.now c.args.rest ++ c.args.mark ∷ []) c.requires m)
    c.push-else-rest-lt-BITS.ensures.ok
