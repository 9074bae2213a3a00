use Rattle.std.proofs.Common.{◌∙◌, length, map, ap, sym, subst, arith, ℕ, List}
use Rattle.std.specs.Prelude.{slice_index}
use Rattle.std.proofs.lemmas.List.{take_all}
use Rattle.tree_graph.specs.Ranks.{AreRanks, IsByNumber}
use Rattle.tree_graph.proofs.Ranking.{position_within, read_by_number, read_more}
use Rattle.tree_graph.proofs.tokens.Tokens.by_number.Goals as goal

pub index-requires : goal.index-requires
index-requires c =
    let ranks : AreRanks c.self.inside.places.items c.deref-position-items.result.now = rw c.deref-position-items.ensures.value c.self.invariant.0 in
    let r = rw (← c.self.view_is) at c.requires in
    position_within c.self.inside.places.items c.deref-position-items.result.now ranks c.loop-position.position-index c.args.elements.len (c.args.elements.ok.0 ∙ r) (omega arith)

pub returns : goal.returns
returns c =
    let ranks : AreRanks c.self.inside.places.items c.deref-position-items.result.now = rw c.deref-position-items.ensures.value c.self.invariant.0 in
    let r = rw (← c.self.view_is) at c.requires in
    rw (← c.self.view_is) (subst (λ (l : List ℕ). IsByNumber c.self.inside.places.items c.args.elements.items l)
    (sym (c.loop-position.invariant ∙ ap (map (λ (e : ℕ × ℕ). slice_index c.args.elements.items e.1)) (take_all c.loop-position.position-index c.deref-position-items.result.now (omega arith))))
    (read_by_number c.self.inside.places.items c.deref-position-items.result.now ranks c.args.elements.items r))

pub loop-position-preserved : goal.loop-position-preserved
loop-position-preserved c =
    let ranks : AreRanks c.self.inside.places.items c.deref-position-items.result.now = rw c.deref-position-items.ensures.value c.self.invariant.0 in
    let r = rw (← c.self.view_is) at c.requires in
    read_more c.args.elements.items c.deref-position-items.result.now c.loop-position.position-index c.loop-position.ordered.items c.push.new.self.items c.index.result.now (omega arith)
    (position_within c.self.inside.places.items c.deref-position-items.result.now ranks c.loop-position.position-index (length c.args.elements.items) r (omega arith))
    c.loop-position.invariant c.in_ok-push.ensures.items c.index.ensures
