use Rattle.std.proofs.Common.{arith, IsUtf8, subst}
use Rattle.std.proofs.lemmas.Option.{slice_get_within}
use Rattle.std.proofs.lemmas.List.{length-map}
use Rattle.text_atoms.specs.Origins.{texts_of}
use Rattle.feasibility.proofs.Beginning.{all_at, texts_more}
use Rattle.feasibility.proofs.starting.are_texts.Goals as goal

pub loop-position-preserved : goal.loop-position-preserved
loop-position-preserved c =
    texts_more (texts_of c.args.atoms.now) c.loop-position.position c.get.result.now c.get.ensures (subst IsUtf8 c.as_str-text.ensures c.as_str-text.utf8) c.loop-position.invariant

pub returns : goal.returns
returns c =
    all_at IsUtf8 (texts_of c.args.atoms.now)
    (λ i x e. c.loop-position.invariant i x (let w = slice_get_within (texts_of c.args.atoms.now) i x e in omega (arith, w, c.len-position-end.ensures, length-map c.args.atoms.now (λ a. a.0))) e)
