use Rattle.std.proofs.Common.{sym}
use Rattle.value_sets.proofs.Numbering.{sets_put, sets_same, told, untold}
use Rattle.value_sets.proofs.by_number.ValueSets.takes.Goals as goal

pub returns-in-Some-clause-taken : goal.returns-in-Some-clause-taken
returns-in-Some-clause-taken c = told _ _ _ _ _ (c.requires.sets.each _ _ (sym c.in-Some.ensures.value)) c.asked.ensures.some c.asked.ensures.same

pub returns-in-Some-clause-none : goal.returns-in-Some-clause-none
returns-in-Some-clause-none c = untold _ _ _ _ (c.requires.sets.each _ _ (sym c.in-Some.ensures.value)) c.asked.ensures.same

pub returns-in_err-keep-clause-sets : goal.returns-in_err-keep-clause-sets
returns-in_err-keep-clause-sets c = sets_same _ c.args.self.now c.keep.new.self c.requires.sets c.in_err-keep.ensures.unchanged

pub returns-clause-sets : goal.returns-clause-sets
returns-clause-sets c =
    sets_put _ c.args.self.now c.keep.new.self _ _ c.requires.sets c.in_ok-keep.ensures.kept
    (record { number = c.requires.inside; takes = c.in_ok-set.ensures.takes; none = c.in_ok-set.ensures.none })
