use Rattle.std.proofs.Common.{◌≡◌, refl, sym, subst, false}
use Rattle.pattern_forms.specs.Making.{AreMade, IsReady, made_of, form_at}
use Rattle.pattern_intern.specs.Stored.{tree_at}
use Rattle.pattern_forms.specs.Reaching.{steps_of}
use Rattle.pattern_forms.proofs.Leading.{node_read, at_node}
use Rattle.pattern_forms.proofs.Forming.{in_graph, ready, leaving}
use Rattle.pattern_forms.proofs.making.Making.leave.Goals as goal

pub make-requires-clause-node : goal.make-requires-clause-node
make-requires-clause-node c =
    let g = c.args.graph.now in
    in_graph g c.requires.closed c.args.node c.index.result.now (node_read g c.args.node c.index.result.now c.requires.node c.index.ensures)

pub make-requires-clause-many : goal.make-requires-clause-many
make-requires-clause-many c =
    let g = c.args.graph.now in
    c.requires.members.each c.args.node c.index.result.now (node_read g c.args.node c.index.result.now c.requires.node c.index.ensures)

pub make-requires-clause-ready : goal.make-requires-clause-ready
make-requires-clause-ready c =
    let g = c.args.graph.now in
    let e = at_node g c.args.node c.index.result.now (node_read g c.args.node c.index.result.now c.requires.node c.index.ensures) in
    subst (λ fs. IsReady g fs c.index.result.now) (sym c.as_slice.ensures.value)
    (ready g c.args.self.now.forms.items c.index.result.now (subst (λ x. AreMade c.args.self.now.forms.items (steps_of g false x)) e c.requires.ready))

pub returns : goal.returns
returns c =
    let g = c.args.graph.now in
    leaving g c.args.self.now _ c.args.node c.index.result.now c.in_ok-id.id c.requires.closed c.requires.members c.requires.making c.requires.ready
    c.requires.reached (node_read g c.args.node c.index.result.now c.requires.node c.index.ensures) refl refl c.in_ok-id.ensures.within
    (subst (λ fs. tree_at c.make.new.pool c.in_ok-id.id.0 ≡ made_of g (form_at c.args.self.now.pool fs) c.index.result.now) c.as_slice.ensures.value c.in_ok-id.ensures.made) c.in_ok-id.ensures.kept
    (c.in_ok-id.ensures.refs c.requires.making.refs)
