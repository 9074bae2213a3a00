use Rattle.std.proofs.Common.{◌∙◌, ap, take}
use Rattle.pattern_intern.specs.Stored.{stored}
use Rattle.pattern_intern.proofs.Cutting.{take_extended}
use Rattle.pattern_intern.proofs.pool.Pool.choice_of_all.Goals as goal

pub returns-in-Err-clause-unchanged : goal.returns-in-Err-clause-unchanged
returns-in-Err-clause-unchanged c =
    c.cut.ensures
    ∙ ap (λ n. stored (take n c.merge_all.new.self.trees) c.merge_all.new.self.classes c.merge_all.new.self.literals) c.len-before.ensures.count
    ∙ take_extended c.args.self.now c.merge_all.new.self c.merge_all.ensures.kept c.merge_all.ensures.same.0 c.merge_all.ensures.same.1
