use Rattle.std.proofs.Common.{Option, ◌+◌, subst}
use Rattle.pattern_intern.specs.declared.id.PatternId.{PatternId}
use Rattle.feasibility.specs.Exploring.{IsPattern, pattern_at, pool}
use Rattle.feasibility.proofs.Knowing.{known_finds}
use Rattle.feasibility.proofs.Moving.{finds_on, found_on, leading_on, on_ok, row_on, row_past}
use Rattle.feasibility.proofs.explorer.Explorer.one.Goals as goal

pub lead-requires-clause-leading : goal.lead-requires-clause-leading
lead-requires-clause-leading g c =
    leading_on c.args.self.now c.pattern_after.new.self c.args.from.0 c.args.family c.args.position c.in-Some.pattern c.pattern_after.ensures.finds c.requires.exploring c.requires.from
    c.requires.name c.requires.within c.requires.allowed
    (subst (λ (r : Option PatternId). IsPattern (pool c.pattern_after.new.self) (pattern_at c.args.self.now c.args.from.0 c.args.family c.args.position) r) c.in-Some.is
    c.in_ok-pattern.ensures.pattern)

pub lead-requires-clause-row : goal.lead-requires-clause-row
lead-requires-clause-row g c =
    row_on c.args.self.now c.pattern_after.new.self c.args.from.0 c.args.family c.args.position c.args.row.now c.pattern_after.ensures.finds c.requires.from c.requires.row

pub returns-in-Some-clause-known : goal.returns-in-Some-clause-known
returns-in-Some-clause-known g c =
    on_ok c.lead.result
    (known_finds c.pattern_after.new.self c.lead.new.self c.args.from.0 c.args.family (c.args.position + 1) c.pattern_after.new.known.items c.lead.ensures.finds
    (found_on c.args.self.now c.pattern_after.new.self c.args.from.0 c.pattern_after.ensures.finds c.requires.from) c.in_ok-pattern.ensures.known)

pub returns-in-Some-clause-finds : goal.returns-in-Some-clause-finds
returns-in-Some-clause-finds g c = finds_on c.args.self.now c.pattern_after.new.self c.lead.new.self c.pattern_after.ensures.finds c.lead.ensures.finds

pub returns-in-None-clause-row : goal.returns-in-None-clause-row
returns-in-None-clause-row g c =
    row_past c.args.self.now c.pattern_after.new.self c.args.from.0 c.args.family c.args.position c.args.row.now c.pattern_after.ensures.finds c.requires.from c.requires.row
    (subst (λ (r : Option PatternId). IsPattern (pool c.pattern_after.new.self) (pattern_at c.args.self.now c.args.from.0 c.args.family c.args.position) r) c.in-None.is
    c.in_ok-pattern.ensures.pattern)
