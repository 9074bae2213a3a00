-- The map's entries are the atoms.
use Rattle.std.proofs.Common.{subst, sym, List}
use Rattle.rng_model.specs.Texts.{Text}
use Rattle.rng_model.specs.Atoms.{AreAtoms}
use Rattle.text_atoms.specs.declared.origin.Origin.{Origin}
use Rattle.text_atoms.specs.Origins.{texts_of, HaveFirstRules}
use Rattle.text_atoms.proofs.Finding.{are_atoms, first_rules, fresh_listed}
use Rattle.text_atoms.proofs.atoms.Atoms.of.Goals as goal

pub fresh_position-fresh-requires : goal.fresh_position-fresh-requires
fresh_position-fresh-requires c =
    rw (c.as_slice.ensures.value, c.in_ok-atoms.ensures.entries) (fresh_listed c.args.literals.now c.args.extra.now c.in_ok-map.map c.in_ok-atoms.ensures.ordered c.in_ok-map.ensures.rules c.in_ok-map.ensures.fresh)

pub returns-clause-atoms : goal.returns-clause-atoms
returns-clause-atoms c =
    subst (λ (atoms : List (Text × Origin)). AreAtoms c.args.literals.now c.args.extra.now (texts_of atoms)) (sym c.in_ok-atoms.ensures.entries)
    (are_atoms c.args.literals.now c.args.extra.now c.in_ok-map.map c.in_ok-atoms.ensures.ordered c.in_ok-map.ensures.rules)

pub returns-clause-origins : goal.returns-clause-origins
returns-clause-origins c =
    subst (HaveFirstRules c.args.literals.now c.args.extra.now) (sym c.in_ok-atoms.ensures.entries)
    (first_rules c.args.literals.now c.args.extra.now c.in_ok-map.map c.in_ok-atoms.ensures.ordered c.in_ok-map.ensures.rules)
