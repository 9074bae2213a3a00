use Rattle.transitions.specs.Bits.{list_of}
use Rattle.transitions.specs.Marked.{NoneLeads}
use Rattle.transitions.proofs.marks.leads_on.Given as goal

abbrev pub invariant-loop-place : goal.invariant-loop-place
invariant-loop-place l = NoneLeads l.row (list_of l.marks l.rest) l.place
