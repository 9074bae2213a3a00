use Rattle.std.proofs.Common.{◌+◌, arith, sym, ◌∙◌, subst}
use Rattle.name_classes.specs.Views.{class_of}
use Rattle.kept_elements.specs.Outcomes.{AreSomeEntries}
use Rattle.kept_elements.proofs.Assembled.{no_entries, kept_wanted, kept_content, entry_at_place, all_entries, content_marked}
use Rattle.kept_elements.proofs.Remaking.{listed_within}
use Rattle.kept_elements.proofs.definitions.Goals as goal

pub loop-k-init : goal.loop-k-init
loop-k-init c = subst (AreSomeEntries c.args.graph.now c.args.forms.now.pool c.args.remade.now.pool c.args.forms.now.forms.items c.args.kept.now 0) (sym c.new-definitions.ensures.none) (no_entries c.args.graph.now c.args.forms.now.pool c.args.forms.now.forms.items c.args.remade.now.pool c.args.kept.now)

pub element_class-requires : goal.element_class-requires
element_class-requires c = rw c.deref.ensures.value (kept_content c.args.graph.now c.args.forms.now.pool c.args.forms.now.forms.items c.args.kept.now c.loop-k.k 0 c.requires.ready c.requires.kept c.loop-k-test.true)

pub content_form-content-requires : goal.content_form-content-requires
content_form-content-requires c = rw c.deref-in-loop-k.ensures.value (kept_content c.args.graph.now c.args.forms.now.pool c.args.forms.now.forms.items c.args.kept.now c.loop-k.k 0 c.requires.ready c.requires.kept c.loop-k-test.true)

pub made_at-requires : goal.made_at-requires
made_at-requires c =
    let h = rw c.deref-in-loop-k.ensures.value at c.content_form-content.ensures in
    let m = content_marked c.args.graph.now c.args.forms.now.pool c.args.forms.now.forms.items c.args.marks.now _ h.0 c.content_form-content.result c.requires.ready c.requires.wanted (kept_wanted c.args.graph.now c.args.forms.now.pool c.args.forms.now.forms.items c.args.kept.now c.loop-k.k 0 c.requires.kept c.loop-k-test.true) h.1 in
    rw c.deref-in-loop-k-2.ensures.value
    (listed_within c.args.forms.now.pool c.args.remade.now.pool c.args.kept.now c.args.remade.now.made.items c.content_form-content.result.0 (c.requires.remade.each c.content_form-content.result.0 m))

pub loop-k-preserved : goal.loop-k-preserved
loop-k-preserved c =
    let h = rw c.deref-in-loop-k.ensures.value at c.content_form-content.ensures in
    let k = rw c.deref.ensures.value at c.element_class.ensures in
    let e = rw c.deref-in-loop-k-2.ensures.value at c.made_at.ensures in
    subst (AreSomeEntries c.args.graph.now c.args.forms.now.pool c.args.remade.now.pool c.args.forms.now.forms.items c.args.kept.now (c.loop-k.k + 1)) (sym c.in_ok-push.ensures.ok)
    (entry_at_place c.args.graph.now c.args.forms.now.pool c.args.forms.now.forms.items c.args.remade.now.pool c.args.kept.now c.args.marks.now c.args.remade.now.made.items c.loop-k.k 0 c.loop-k.definitions h.0 c.content_form-content.result c.made_at.result (class_of c.in_ok-class.class)
    c.requires.ready c.requires.wanted c.requires.remade c.requires.kept c.loop-k.invariant c.loop-k-test.true h.1 e (c.in_ok-class.ensures ∙ k h.0 c.content_form-content.result h.1))

pub returns : goal.returns
returns c = all_entries c.args.graph.now c.args.forms.now.pool c.args.forms.now.forms.items c.args.remade.now.pool c.args.kept.now c.loop-k.k c.loop-k.definitions (omega (arith, c.loop-k-test.false)) c.loop-k.invariant
