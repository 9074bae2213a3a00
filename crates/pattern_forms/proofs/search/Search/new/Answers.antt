use Rattle.std.proofs.Common.{arith}
use Rattle.pattern_forms.proofs.Searched.{search_begins}
use Rattle.pattern_forms.proofs.Lists.{none_marked}
use Rattle.pattern_forms.proofs.search.Search.new.Goals as goal

pub visit-requires : goal.visit-requires
visit-requires c = omega (arith, c.in_ok-vec.ensures.len, c.len.ensures, c.requires.start)

pub returns : goal.returns
returns c =
    search_begins c.args.graph.now c.args.contents c.args.start (record { marks = c.in_ok-vec.field-0; stack = c.new.result }) c.visit.new.self (omega (arith, c.in_ok-vec.ensures.len, c.len.ensures))
    (λ i h. none_marked c.in_ok-vec.field-0.items c.len.result i (c.in_ok-vec.ensures.items_if_clones_equal (λ y e. e)) h) c.new.ensures.items
    c.in_ok-visit.ensures.grown c.in_ok-visit.ensures.marked
