use Rattle.std.proofs.Common.{ap, length, ◌∙◌, arith}
use Rattle.rng_model.specs.Alike.{Groups}
use Rattle.rng_model.specs.States.{State}
use Rattle.feasibility.specs.Exploring.{at, found, names, schema}
use Rattle.feasibility.proofs.Moving.{finds_on}
use Rattle.feasibility.proofs.Naming.{all_names, names_found, naming_on}
use Rattle.feasibility.proofs.Passing.{names_end}
use Rattle.feasibility.proofs.explorer.Explorer.fill_names.Goals as goal

pub loop-name-preserved : goal.loop-name-preserved
loop-name-preserved g c =
    naming_on c.args.self.now c.loop-name.self c.attribute.new.self c.args.from.0 c.loop-name.name c.args.known.now c.loop-name.known c.attribute.new.known c.loop-name.row c.attribute.new.row
    c.args.steps.now c.loop-name.steps c.attribute.new.steps c.loop-name.invariant c.attribute.ensures.finds c.attribute.ensures.exploring c.in_ok-attribute.ensures.all
    c.in_ok-attribute.ensures.known c.in_ok-attribute.ensures.row c.in_ok-attribute.ensures.ticks

pub attribute-requires-clause-name : goal.attribute-requires-clause-name
attribute-requires-clause-name g c =
    let same = all_names c.loop-name.self c.loop-name.invariant.exploring in
    let groups = ap (λ (x : Groups). length x.attributes) c.loop-name.invariant.finds.groups in
    omega (arith, same, groups, c.loop-name-test.true, c.len-name-end.ensures)

pub returns-in_err-attribute-clause-finds : goal.returns-in_err-attribute-clause-finds
returns-in_err-attribute-clause-finds g c =
    finds_on c.args.self.now c.loop-name.self c.attribute.new.self c.loop-name.invariant.finds c.attribute.ensures.finds

pub returns-in_err-attribute-clause-most : goal.returns-in_err-attribute-clause-most
returns-in_err-attribute-clause-most g c =
    let same = names_found c.args.self.now c.loop-name.self c.loop-name.known c.loop-name.invariant.finds in
    omega (arith, same, c.loop-name.invariant.ticks, c.attribute.ensures.most)

pub returns-clause-row : goal.returns-clause-row
returns-clause-row g c =
    let same = all_names c.loop-name.self c.loop-name.invariant.exploring in
    let groups = ap (λ (x : Groups). length x.attributes) c.loop-name.invariant.finds.groups in
    names_end (schema c.loop-name.self) (names c.loop-name.self) (found c.loop-name.self) (at c.loop-name.self c.args.from.0) c.args.first c.loop-name.name c.loop-name.row
    (ap (λ (s : State). s.place) (c.loop-name.invariant.finds.states c.args.from.0 c.requires.from) ∙ c.requires.place)
    (omega (arith, same, groups, c.loop-name-test.false, c.len-name-end.ensures)) c.loop-name.invariant.row
