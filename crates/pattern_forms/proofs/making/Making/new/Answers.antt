use Rattle.std.proofs.Common.{arith}
use Rattle.pattern_forms.proofs.Starting.{starts, no_path}
use Rattle.pattern_forms.proofs.making.Making.new.Goals as goal

pub returns-clause-making : goal.returns-clause-making
returns-clause-making c =
    starts c.args.graph.now _ c.in_ok-no_forms.ensures.none (omega (arith, c.in_ok-no_forms.ensures.each, c.len.ensures)) (omega (arith, c.in_ok-vec.ensures.len, c.len-2.ensures)) c.in_ok-new.ensures.three

pub returns-clause-settled : goal.returns-clause-settled
returns-clause-settled c = no_path c.args.graph.now _ c.len-2.result (c.in_ok-vec.ensures.items_if_clones_equal (λ y e. e))
