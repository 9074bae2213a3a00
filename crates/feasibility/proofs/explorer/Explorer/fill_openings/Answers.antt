use Rattle.feasibility.specs.declared.family.Family.TheVariants.{Openings}
use Rattle.feasibility.specs.Exploring.{at, found, names, schema}
use Rattle.feasibility.proofs.Adding.{row_on}
use Rattle.feasibility.proofs.Moving.{finds_on, row_on as row_so_far}
use Rattle.feasibility.proofs.Passing.{openings_skipped}
use Rattle.feasibility.proofs.explorer.Explorer.fill_openings.Goals as goal

pub fill_elements-requires-clause-row : goal.fill_elements-requires-clause-row
fill_elements-requires-clause-row g c =
    row_so_far c.args.self.now c.takes_element.new.self c.args.from.0 Openings 0 c.args.row.now c.takes_element.ensures.finds c.requires.from c.requires.row

pub returns-then-branch-clause-finds : goal.returns-then-branch-clause-finds
returns-then-branch-clause-finds g c =
    finds_on c.args.self.now c.takes_element.new.self c.fill_elements.new.self c.takes_element.ensures.finds c.fill_elements.ensures.finds

pub returns-else-branch-clause-row : goal.returns-else-branch-clause-row
returns-else-branch-clause-row g c =
    row_on c.args.self.now c.takes_element.new.self c.takes_element.ensures.finds c.args.from.0 c.args.row.now c.requires.from
    (openings_skipped (schema c.args.self.now) (names c.args.self.now) (found c.args.self.now) (at c.args.self.now c.args.from.0) c.args.row.now
    (c.in_ok-takes_element.ensures.nowhere c.if-branch.false) c.requires.row)
