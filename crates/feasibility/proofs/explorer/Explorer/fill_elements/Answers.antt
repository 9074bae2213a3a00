use Rattle.std.proofs.Common.{Option, List, length, sym, subst}
use Rattle.pattern_intern.specs.declared.id.PatternId.{PatternId}
use Rattle.feasibility.specs.declared.family.Family.TheVariants.{Openings}
use Rattle.feasibility.specs.Exploring.{IsKnown, at, found, groups_of, names, schema}
use Rattle.feasibility.proofs.Moving.{on_ok_map}
use Rattle.feasibility.proofs.Passing.{openings_end}
use Rattle.feasibility.proofs.Sharing.{all_elements, nothing_known}
use Rattle.feasibility.proofs.explorer.Explorer.fill_elements.Goals as goal

pub fill-requires-clause-known : goal.fill-requires-clause-known
fill-requires-clause-known g c =
    subst (λ (known : List (Option PatternId)). IsKnown c.args.self.now c.args.from.0 Openings 0 known) (sym c.in_ok-known.ensures.items)
    (nothing_known c.args.self.now c.requires.exploring c.args.from.0 Openings)

pub returns-clause-row : goal.returns-clause-row
returns-clause-row g c =
    on_ok_map c.fill.result
    (openings_end (schema c.fill.new.self) (names c.fill.new.self) (found c.fill.new.self) (at c.fill.new.self c.args.from.0) (length (groups_of c.args.self.now).elements) c.fill.new.row
    (all_elements c.args.self.now c.fill.new.self c.requires.exploring c.fill.ensures.finds)) c.fill.ensures.row
