use Rattle.std.specs.Prelude.{codes}
use Rattle.std.proofs.Common.{◌++◌, flat_map}
use Rattle.rng_model.specs.Lines.{namespace_escape}
use Rattle.event_lines.proofs.Sending.{on_err, ok_then, err_then, sends_then, fails_then, fails_early}
use Rattle.event_lines.proofs.pieces.put_qualified.Goals as goal

pub returns-in_err-put-clause-err : goal.returns-in_err-put-clause-err
returns-in_err-put-clause-err g c =
    let ns = flat_map namespace_escape c.args.ns.now in
    on_err c.from_residual.result
    (fails_early ((codes "{" ++ ns) ++ codes "}") c.args.local.now (fails_early (codes "{" ++ ns) (codes "}") (fails_early (codes "{") ns c.in_err-put.ensures.err)))

pub returns-in_err-put_namespace-clause-err : goal.returns-in_err-put_namespace-clause-err
returns-in_err-put_namespace-clause-err g c =
    let ns = flat_map namespace_escape c.args.ns.now in
    on_err c.from_residual-in_err-put_namespace.result
    (fails_early ((codes "{" ++ ns) ++ codes "}") c.args.local.now (fails_early (codes "{" ++ ns) (codes "}") (fails_then (codes "{") ns c.in_ok-put.ensures.ok c.in_err-put_namespace.ensures.err)))

pub returns-in_err-put-2-clause-err : goal.returns-in_err-put-2-clause-err
returns-in_err-put-2-clause-err g c =
    let ns = flat_map namespace_escape c.args.ns.now in
    on_err c.from_residual-in_err-put-2.result
    (fails_early ((codes "{" ++ ns) ++ codes "}") c.args.local.now (fails_then (codes "{" ++ ns) (codes "}") (sends_then (codes "{") ns c.in_ok-put.ensures.ok c.in_ok-put_namespace.ensures.ok) c.in_err-put-2.ensures.err))

pub returns-clause-ok : goal.returns-clause-ok
returns-clause-ok g c =
    let ns = flat_map namespace_escape c.args.ns.now in
    ok_then _ c.put_plain.result ((codes "{" ++ ns) ++ codes "}") c.args.local.now
    (sends_then (codes "{" ++ ns) (codes "}") (sends_then (codes "{") ns c.in_ok-put.ensures.ok c.in_ok-put_namespace.ensures.ok) c.in_ok-put-2.ensures.ok) c.put_plain.ensures.ok

pub returns-clause-err : goal.returns-clause-err
returns-clause-err g c =
    let ns = flat_map namespace_escape c.args.ns.now in
    err_then _ c.put_plain.result ((codes "{" ++ ns) ++ codes "}") c.args.local.now
    (sends_then (codes "{" ++ ns) (codes "}") (sends_then (codes "{") ns c.in_ok-put.ensures.ok c.in_ok-put_namespace.ensures.ok) c.in_ok-put-2.ensures.ok) c.put_plain.ensures.err
