use Rattle.std.proofs.Common.{List, Option, sym, subst}
use Rattle.pattern_intern.specs.declared.id.PatternId.{PatternId}
use Rattle.feasibility.specs.Exploring.{AreKnown}
use Rattle.feasibility.proofs.Naming.{all_unknown}
use Rattle.feasibility.proofs.explorer.Explorer.fill_attributes.Goals as goal

pub fill_names-requires-clause-known : goal.fill_names-requires-clause-known
fill_names-requires-clause-known g c =
    subst (λ (known : List (List (Option PatternId))). AreKnown c.args.self.now c.args.from.0 known) (sym c.in_ok-known.ensures)
    (all_unknown c.args.self.now c.args.from.0 c.count.result c.requires.exploring)
