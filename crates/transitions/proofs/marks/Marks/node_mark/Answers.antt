use Rattle.std.proofs.Common.{◌+◌, ◌↔◌, IsTrue, List, Bool, length, refl, sym, subst}
use Rattle.transitions.specs.declared.arc.Arc.{Arc}
use Rattle.transitions.specs.Bits.{list_of}
use Rattle.transitions.specs.Marked.{IsWithin, LeadsOn}
use Rattle.transitions.proofs.Finishing.{node_first}
use Rattle.transitions.proofs.Lists.{same_row}
use Rattle.transitions.proofs.Settling.{list_is}
use Rattle.transitions.proofs.marks.Marks.node_mark.Goals as goal

pub leads_on-requires-clause-within : goal.leads_on-requires-clause-within
leads_on-requires-clause-within g c =
    let r = c.requires.1.1.1 in
    let e = same_row c.args.rows.now c.args.id r.row c.get.result.now r.is_row c.get.ensures in
    let l = list_is c.args.self.now c.args.left r.list r.is_list in
    subst (λ (xs : List Arc). IsWithin xs (length (list_of c.args.self.now c.args.left))) (sym e) (subst (λ (ys : List Bool). IsWithin r.row (length ys)) (sym l) r.within)

pub returns : goal.returns
returns g c =
    let r = c.requires.1.1.1 in
    let e = same_row c.args.rows.now c.args.id r.row c.get.result.now r.is_row c.get.ensures in
    let l = list_is c.args.self.now c.args.left r.list r.is_list in
    node_first g.of c.requires.0 (c.args.left + 1) c.args.id c.args.left refl c.args.rows.now c.args.self.now r c.leads_on.result
    (subst (λ (xs : List Arc). IsTrue c.leads_on.result ↔ LeadsOn xs r.list) e (subst (λ (ys : List Bool). IsTrue c.leads_on.result ↔ LeadsOn c.get.result.now ys) l c.leads_on.ensures))
