use Rattle.std.proofs.Common.{sym, subst}
use Rattle.rng_model.specs.Codes.{IsInRange}
use Rattle.feasibility.specs.Exploring.{names}
use Rattle.feasibility.proofs.Knowing.{code_in_range, position_within}
use Rattle.feasibility.proofs.explorer.Explorer.made.Goals as goal

pub is_blank-requires : goal.is_blank-requires
is_blank-requires g c = position_within c.args.self.now c.requires.exploring c.args.family c.args.position c.requires.within

pub derive-requires-clause-in_range : goal.derive-requires-clause-in_range
derive-requires-clause-in_range g c =
    subst (IsInRange (names c.args.self.now)) (sym c.code.ensures)
    (code_in_range c.args.self.now c.requires.exploring c.args.family c.args.position c.requires.name c.requires.within)
