use Rattle.derivatives.proofs.results.Results.put.Goals as goal

pub returns-clause-kept : goal.returns-clause-kept
returns-clause-kept c = rw (← c.self.view_is) c.in_ok-insert.ensures.updates.0
