use Rattle.std.proofs.Common.{◌+◌, ◌-◌, length, ap, sym, ◌∙◌}
use Rattle.std.proofs.lemmas.List.{length-map}
use Rattle.rng_model.specs.Codes.{nodes as node_count}
use Rattle.skeleton.specs.Views.{code_of}
use Rattle.lister.proofs.Starting.{found_next}
use Rattle.lister.proofs.next.find_next.Goals as goal

pub returns-clause-next : goal.returns-clause-next
returns-clause-next g c =
    let p = c.go_back.new.path in
    let many = ap (λ k. k - 1) (sym (length-map c.codes.result.now code_of) ∙ ap length c.codes.ensures) in
    found_next c.args.table.now (node_count p.codes + c.in_ok-id.left) (length c.codes.result.now - 1) c.args.path.now p c.complete.new.path c.in_ok-id.ensures.size many c.in_ok-id.ensures.next
    c.complete.ensures.codes
