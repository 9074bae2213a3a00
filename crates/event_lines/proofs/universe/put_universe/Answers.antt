use Rattle.std.proofs.Common.{flat_map}
use Rattle.text_atoms.specs.Origins.{texts_of}
use Rattle.event_lines.specs.Parts.{name_line, text_line}
use Rattle.event_lines.proofs.Sending.{on_err, err_third, fails_second}
use Rattle.event_lines.proofs.universe.put_universe.Goals as goal

pub returns-in_err-put_names-2-clause-err : goal.returns-in_err-put_names-2-clause-err
returns-in_err-put_names-2-clause-err g c =
    on_err c.from_residual-in_err-put_names-2.result
    (fails_second (flat_map (name_line 69) c.args.universe.now.elements.names) (flat_map (name_line 65) c.args.universe.now.attributes.names) (flat_map (text_line 84) (texts_of c.args.atoms.now))
    (rw (c.as_slice.ensures, c.elements.ensures.list) at c.in_ok-put_names.ensures.ok) (rw (c.as_slice-2.ensures, c.attributes.ensures.list) at c.in_err-put_names-2.ensures.err))

pub returns-clause-err : goal.returns-clause-err
returns-clause-err g c =
    err_third _ c.put_texts.result (flat_map (name_line 69) c.args.universe.now.elements.names) (flat_map (name_line 65) c.args.universe.now.attributes.names) (flat_map (text_line 84) (texts_of c.args.atoms.now))
    (rw (c.as_slice.ensures, c.elements.ensures.list) at c.in_ok-put_names.ensures.ok) (rw (c.as_slice-2.ensures, c.attributes.ensures.list) at c.in_ok-put_names-2.ensures.ok) c.put_texts.ensures.err
