use Rattle.std.proofs.Common.{◌+◌, sym, ◌∙◌, subst}
use Rattle.feasibility.specs.declared.explorer.Explorer.{Explorer}
use Rattle.feasibility.specs.declared.family.Family.TheVariants.{Attribute}
use Rattle.feasibility.specs.Exploring.{AreKnown, IsRowAt, at, found, names, schema}
use Rattle.feasibility.proofs.Passing.{name_skipped}
use Rattle.feasibility.proofs.explorer.Explorer.attribute.Goals as goal

pub fill_name-requires-clause-known : goal.fill_name-requires-clause-known
fill_name-requires-clause-known g c = subst (λ (e : Explorer). AreKnown e c.args.from.0 c.args.known.now) (sym c.takes_name.ensures.same) c.requires.known

pub returns-else-branch-clause-known : goal.returns-else-branch-clause-known
returns-else-branch-clause-known g c = subst (λ (e : Explorer). AreKnown e c.args.from.0 c.args.known.now) (sym c.takes_name.ensures.same) c.requires.known

pub returns-else-branch-clause-row : goal.returns-else-branch-clause-row
returns-else-branch-clause-row g c =
    subst (λ (e : Explorer). IsRowAt e c.args.from.0 (Attribute (c.args.name + 1)) 0 c.args.row.now) (sym c.takes_name.ensures.same)
    (name_skipped (schema c.args.self.now) (names c.args.self.now) (found c.args.self.now) (at c.args.self.now c.args.from.0) c.args.name c.args.row.now
    (sym c.in_ok-takes_name.ensures.takes ∙ c.if-branch.false) c.requires.row)
