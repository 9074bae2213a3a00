-- The first atom of the form.
use Rattle.std.proofs.Common.{◌≡◌, true, false, refl, arith}
use Rattle.text_atoms.specs.Standing.{IsFormAtom}
use Rattle.text_atoms.proofs.FirstPlaces.{read_at, none_more}
use Rattle.text_atoms.proofs.atoms.form_position.Goals as goal

pub returns-then-is_form : goal.returns-then-is_form
returns-then-is_form c = record {
  found = (c.index-atoms-position.result, read_at c.args.atoms.now c.loop-position.position c.index-atoms-position.result c.loop-position-test.true c.index-atoms-position.is, c.if-is_form.ensures.0 refl);
  absent = tt;
}

pub loop-position-preserved : goal.loop-position-preserved
loop-position-preserved c =
    none_more c.args.atoms.now (λ a. IsFormAtom a c.args.text.now) c.loop-position.position c.index-atoms-position.result c.loop-position-test.true c.index-atoms-position.is
    (λ is. (let e : false ≡ true = c.if-is_form.ensures.1 is in cc)) c.loop-position.invariant

pub returns : goal.returns
returns c = record { found = tt; absent = λ k a below. c.loop-position.invariant k a (omega arith) }
