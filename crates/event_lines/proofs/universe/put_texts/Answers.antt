use Rattle.std.proofs.lemmas.Option.{slice_get_within}
use Rattle.text_atoms.specs.Origins.{texts_of}
use Rattle.event_lines.specs.Parts.{text_line}
use Rattle.event_lines.proofs.Sending.{on_err}
use Rattle.event_lines.proofs.Listing.{fails_within, got_item, sends_item}
use Rattle.event_lines.proofs.universe.put_texts.Goals as goal

pub returns-in_err-put_text_line-clause-err : goal.returns-in_err-put_text_line-clause-err
returns-in_err-put_text_line-clause-err g c =
    on_err c.from_residual.result (fails_within (text_line 84) c.loop-position.position (texts_of c.args.atoms.now) c.get.result.now (slice_get_within (texts_of c.args.atoms.now) c.loop-position.position c.get.result.now c.get.ensures) (got_item (texts_of c.args.atoms.now) c.loop-position.position c.get.result.now c.get.ensures) c.loop-position.invariant.0 c.in_err-put_text_line.ensures.err)

pub loop-position-preserved : goal.loop-position-preserved
loop-position-preserved g c =
    (sends_item (text_line 84) c.loop-position.position (texts_of c.args.atoms.now) c.get.result.now (slice_get_within (texts_of c.args.atoms.now) c.loop-position.position c.get.result.now c.get.ensures) (got_item (texts_of c.args.atoms.now) c.loop-position.position c.get.result.now c.get.ensures) c.loop-position.invariant.0 c.in_ok-put_text_line.ensures.ok, c.in_ok-put_text_line.ensures.empty)
