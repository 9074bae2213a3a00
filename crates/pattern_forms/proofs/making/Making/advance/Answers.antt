use Rattle.std.proofs.Common.{subst, length, arith, true, false, refl, ap, ◌∙◌, ◌++◌, ◌∷◌, []}
use Rattle.pattern_forms.specs.Making.{AreMadeFrom, IsFirstUnmade, frame}
use Rattle.pattern_forms.specs.Reaching.{leads_at}
use Rattle.pattern_forms.proofs.Lists.{read_at}
use Rattle.pattern_forms.proofs.Paths.{left, enters, closes, top_ready, top_reached, top_within}
use Rattle.pattern_forms.proofs.making.Making.advance.Goals as goal

pub first_unmade-requires-clause-node : goal.first_unmade-requires-clause-node
first_unmade-requires-clause-node c = top_within c.args.graph.now c.args.self.now c.args.path.now.items c.args.frame c.requires.closed c.requires.way

pub leave-requires-clause-node : goal.leave-requires-clause-node
leave-requires-clause-node c = top_within c.args.graph.now c.args.self.now c.args.path.now.items c.args.frame c.requires.closed c.requires.way

pub leave-requires-clause-ready : goal.leave-requires-clause-ready
leave-requires-clause-ready c =
    top_ready c.args.graph.now c.args.self.now c.args.path.now.items c.args.frame c.requires.way
    (subst (λ fs. AreMadeFrom c.args.graph.now fs c.args.frame.node c.args.frame.next (length (leads_at c.args.graph.now c.args.frame.node))) c.as_slice.ensures.value c.in_default.ensures.none)

pub leave-requires-clause-reached : goal.leave-requires-clause-reached
leave-requires-clause-reached c = top_reached c.args.graph.now c.args.self.now c.args.path.now.items c.args.frame c.requires.way

pub returns-in_default-clause-goes : goal.returns-in_default-clause-goes
returns-in_default-clause-goes c = λ e. left c.args.graph.now c.args.self.now c.leave.new.self c.args.path.now.items c.args.frame c.requires.way c.in_ok-leave.ensures

pub returns-then-index-clause-cycle : goal.returns-then-index-clause-cycle
returns-then-index-clause-cycle c = λ e.
    closes c.args.graph.now c.args.self.now c.args.path.now.items c.args.frame c.in-Some.k c.step-part.result c.requires.way c.step-part.ensures.step
    (read_at c.args.self.now.entered.items c.step-part.result c.index.result.now true (omega (arith, c.step-part.ensures.within, c.requires.making.entries)) c.index.ensures c.if-index.true)
    (λ m. (subst (λ fs. IsFirstUnmade c.args.graph.now fs c.args.frame.node c.args.frame.next c.in-Some.k) c.as_slice.ensures.value c.in-Some.ensures.some).unmade c.step-part.result c.step-part.ensures.step m)

pub returns-clause-goes : goal.returns-clause-goes
returns-clause-goes c = λ e.
    enters c.args.graph.now c.args.self.now _ c.args.path.now.items _ c.args.frame c.in-Some.k c.step-part.result c.requires.making c.requires.way
    (subst (λ fs. IsFirstUnmade c.args.graph.now fs c.args.frame.node c.args.frame.next c.in-Some.k) c.as_slice.ensures.value c.in-Some.ensures.some) c.step-part.ensures.step
    (read_at c.args.self.now.entered.items c.step-part.result c.index.result.now false (omega (arith, c.step-part.ensures.within, c.requires.making.entries)) c.index.ensures c.if-index.false)
    refl refl refl (c.in_ok-push-2.ensures.items ∙ ap (λ xs. xs ++ frame c.step-part.result 0 ∷ []) c.in_ok-push.ensures.items)
