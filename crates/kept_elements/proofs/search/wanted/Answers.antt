use Rattle.std.proofs.Common.{refl, arith}
use Rattle.kept_elements.proofs.Searched.{searched, search_begins, search_ends, popped}
use Rattle.kept_elements.proofs.search.wanted.Goals as goal

pub loop-id-init : goal.loop-id-init
loop-id-init c =
    search_begins c.args.graph.now c.args.forms.now.pool c.args.forms.now.forms.items c.in_ok-search.search c.visit.new.self c.form_at.result (rw c.deref.ensures.value at c.form_at.ensures)
    (rw c.len.ensures.count at c.in_ok-search.ensures) c.in_ok-visit.ensures.grown c.in_ok-visit.ensures.marked

pub spread-requires-clause-within : goal.spread-requires-clause-within
spread-requires-clause-within c =
    (popped c.args.graph.now c.args.forms.now.pool c.args.forms.now.forms.items c.loop-id.search c.pop.new.self.items c.in-Some.id c.loop-id.invariant c.in-Some.ensures.items).0

pub spread-requires-clause-wanted : goal.spread-requires-clause-wanted
spread-requires-clause-wanted c =
    (popped c.args.graph.now c.args.forms.now.pool c.args.forms.now.forms.items c.loop-id.search c.pop.new.self.items c.in-Some.id c.loop-id.invariant c.in-Some.ensures.items).1

pub loop-id-preserved : goal.loop-id-preserved
loop-id-preserved c =
    searched c.args.graph.now c.args.forms.now.pool c.args.forms.now.forms.items c.loop-id.search _ c.spread.new.self c.in-Some.id c.loop-id.invariant refl c.in-Some.ensures.items
    c.in_ok-spread.ensures

pub returns : goal.returns
returns c =
    search_ends c.args.graph.now c.args.forms.now.pool c.args.forms.now.forms.items c.loop-id.search c.len.ensures.apart c.loop-id.invariant (omega (arith, c.in_default.ensures.cases.0))
