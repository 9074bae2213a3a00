use Rattle.feasibility.proofs.Leading.{row_leads}
use Rattle.feasibility.proofs.explorer.Explorer.lead.Goals as goal

pub returns-clause-row : goal.returns-clause-row
returns-clause-row c =
    row_leads c.args.self.now c.reach.new.self c.args.from.0 c.args.family c.args.position c.code-first.result c.in_ok-next.next c.args.row.now c.push.new.self c.reach.ensures.finds
    c.requires.from c.code-first.ensures c.in_ok-next.ensures.leads c.in_ok-push.ensures.ok c.requires.row
