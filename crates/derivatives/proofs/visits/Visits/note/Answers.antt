use Rattle.derivatives.proofs.visits.Visits.note.Goals as goal

pub returns-clause-noted : goal.returns-clause-noted
returns-clause-noted c = rw (← c.self.view_is) c.in_ok-insert.ensures.updates.0
