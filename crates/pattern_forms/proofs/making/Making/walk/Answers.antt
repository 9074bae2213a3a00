use Rattle.std.proofs.Common.{arith, true, false, refl, ◌∙◌, ap, ◌++◌, ◌∷◌, []}
use Rattle.pattern_forms.specs.Making.{frame}
use Rattle.pattern_forms.proofs.Paths.{begins, settled}
use Rattle.pattern_forms.proofs.Leading.{reached_within}
use Rattle.pattern_forms.proofs.Lists.{read_at}
use Rattle.pattern_forms.proofs.making.Making.walk.Goals as goal

pub index-requires : goal.index-requires
index-requires c = omega (arith, reached_within c.args.graph.now c.requires.closed c.requires.closed.root c.requires.reached, c.requires.making.entries)

pub index_mut-requires : goal.index_mut-requires
index_mut-requires c = omega (arith, reached_within c.args.graph.now c.requires.closed c.requires.closed.root c.requires.reached, c.requires.making.entries)

pub returns-then-index-clause-made : goal.returns-then-index-clause-made
returns-then-index-clause-made c = λ e.
    settled c.args.graph.now c.args.self.now c.args.start c.requires.settled
    (read_at c.args.self.now.entered.items c.args.start c.index.result.now true
    (omega (arith, reached_within c.args.graph.now c.requires.closed c.requires.closed.root c.requires.reached, c.requires.making.entries)) c.index.ensures c.if-index.true)

pub loop-frame-init : goal.loop-frame-init
loop-frame-init c =
    begins c.args.graph.now c.args.self.now _ c.push.new.self.items c.args.start c.requires.making c.requires.settled c.requires.reached
    (read_at c.args.self.now.entered.items c.args.start c.index.result.now false
    (omega (arith, reached_within c.args.graph.now c.requires.closed c.requires.closed.root c.requires.reached, c.requires.making.entries)) c.index.ensures c.if-index.false)
    refl refl refl (c.in_ok-push.ensures.items ∙ ap (λ xs. xs ++ frame c.args.start 0 ∷ []) c.new-path.ensures.items)
