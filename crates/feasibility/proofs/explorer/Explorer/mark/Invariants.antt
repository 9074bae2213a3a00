use Rattle.transitions.specs.Marked.{KeepsMarks}
use Rattle.feasibility.specs.Exploring.{automaton}
use Rattle.feasibility.specs.Marking.{AreMarked, AreRight}
use Rattle.feasibility.proofs.explorer.Explorer.mark.Given as goal

abbrev pub ghost-mark_list : goal.ghost-mark_list
ghost-mark_list a = automaton a.self.now

abbrev pub invariant-loop-rest : goal.invariant-loop-rest
invariant-loop-rest l = AreRight l.self l.marks × AreMarked l.self l.levels l.rest l.marks × KeepsMarks l.fn.marks l.marks
