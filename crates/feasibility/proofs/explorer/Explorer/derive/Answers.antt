use Rattle.feasibility.proofs.Finding.{pool_finds, pool_explores, stepped}
use Rattle.feasibility.proofs.explorer.Explorer.derive.Goals as goal

pub returns-in_err-made-clause-finds : goal.returns-in_err-made-clause-finds
returns-in_err-made-clause-finds g c =
    pool_finds c.args.self.now _ c.requires.exploring (stepped c.args.self.now c.step.new.self c.step.ensures.same.0 c.step.ensures.same.1 c.step.ensures.same.2 c.step.ensures.kept)

pub returns-in_err-made-clause-exploring : goal.returns-in_err-made-clause-exploring
returns-in_err-made-clause-exploring g c =
    pool_explores c.args.self.now _ c.requires.exploring (stepped c.args.self.now c.step.new.self c.step.ensures.same.0 c.step.ensures.same.1 c.step.ensures.same.2 c.step.ensures.kept)

pub returns-clause-finds : goal.returns-clause-finds
returns-clause-finds g c =
    pool_finds c.args.self.now _ c.requires.exploring (stepped c.args.self.now c.step.new.self c.step.ensures.same.0 c.step.ensures.same.1 c.step.ensures.same.2 c.step.ensures.kept)

pub returns-clause-exploring : goal.returns-clause-exploring
returns-clause-exploring g c =
    pool_explores c.args.self.now _ c.requires.exploring (stepped c.args.self.now c.step.new.self c.step.ensures.same.0 c.step.ensures.same.1 c.step.ensures.same.2 c.step.ensures.kept)
