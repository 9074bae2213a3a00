-- The one fresh text.
use Rattle.std.proofs.Common.{◌≡◌, ◌∙◌, ap, refl, arith, Some}
use Rattle.std.proofs.lemmas.Option.{slice_get_within}
use Rattle.text_atoms.specs.declared.origin.Origin.{Origin}
use Rattle.text_atoms.specs.declared.origin.Origin.TheVariants.{Fresh}
use Rattle.text_atoms.proofs.FirstPlaces.{read_at, none_more}
use Rattle.text_atoms.proofs.Members.{place_of_member}
use Rattle.text_atoms.proofs.atoms.fresh_position.Goals as goal

pub returns-in-Fresh : goal.returns-in-Fresh
returns-in-Fresh c = (
  c.index-atoms-position.result.0,
  read_at c.args.atoms.now c.loop-position.position c.index-atoms-position.result c.loop-position-test.true c.index-atoms-position.is
      ∙ ap (λ (o : Origin). Some (c.index-atoms-position.result.0, o)) c.in-Fresh.is,
)

pub loop-position-preserved : goal.loop-position-preserved
loop-position-preserved c =
    none_more c.args.atoms.now (λ a. a.1 ≡ Fresh) c.loop-position.position c.index-atoms-position.result c.loop-position-test.true c.index-atoms-position.is c.in_default.not-Fresh c.loop-position.invariant

pub unreachable-requires : goal.unreachable-requires
unreachable-requires c =
    let (x, member) = c.requires in
    let (k, at) = place_of_member c.args.atoms.now (x, Fresh) member in
    c.loop-position.invariant k (x, Fresh) (let below = slice_get_within c.args.atoms.now k (x, Fresh) at in omega arith) at refl
