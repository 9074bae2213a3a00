use Rattle.skeleton.specs.Views.{code_of}
use Rattle.feasibility.proofs.Leading.{leads_within}
use Rattle.feasibility.proofs.explorer.Explorer.reach.Goals as goal

pub number-requires-clause-reached : goal.number-requires-clause-reached
number-requires-clause-reached c =
    leads_within c.args.self.now c.args.from.0 (code_of c.args.code) c.args.place c.args.pattern c.requires.place c.requires.leading c.requires.reached
