use Rattle.std.proofs.Common.{◌∙◌, ap, take}
use Rattle.pattern_intern.specs.Stored.{stored}
use Rattle.pattern_intern.proofs.Cutting.{take_extended}
use Rattle.pattern_intern.proofs.pool.Pool.choice.Goals as goal

pub returns-in-Err-clause-unchanged : goal.returns-in-Err-clause-unchanged
returns-in-Err-clause-unchanged c =
    c.cut.ensures
    ∙ ap (λ n. stored (take n c.merge.new.self.trees) c.merge.new.self.classes c.merge.new.self.literals) c.len-before.ensures.count
    ∙ take_extended c.args.self.now c.merge.new.self c.merge.ensures.kept c.merge.ensures.same.0 c.merge.ensures.same.1
