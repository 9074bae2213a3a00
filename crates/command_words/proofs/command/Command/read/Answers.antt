use Rattle.std.proofs.Common.{codes}
use Rattle.command_words.proofs.Beginnings.{none_by_word}
use Rattle.command_words.proofs.command.Command.read.Goals as goal

pub returns-in-list-clause-none : goal.returns-in-list-clause-none
returns-in-list-clause-none c = none_by_word c.args.words.now c.word.new.self c.in_ok-word.field-0.now (codes "list") c.read_list.result c.in_ok-word.ensures c.in-list.is c.read_list.ensures.none

pub returns-in-resume-clause-none : goal.returns-in-resume-clause-none
returns-in-resume-clause-none c = none_by_word c.args.words.now c.word.new.self c.in_ok-word.field-0.now (codes "resume") c.read_resume.result c.in_ok-word.ensures c.in-resume.is c.read_resume.ensures.none

pub returns-in-universe-clause-none : goal.returns-in-universe-clause-none
returns-in-universe-clause-none c = none_by_word c.args.words.now c.word.new.self c.in_ok-word.field-0.now (codes "universe") c.read_universe.result c.in_ok-word.ensures c.in-universe.is c.read_universe.ensures.none

pub returns-in-states-clause-none : goal.returns-in-states-clause-none
returns-in-states-clause-none c = none_by_word c.args.words.now c.word.new.self c.in_ok-word.field-0.now (codes "states") c.read_states.result c.in_ok-word.ensures c.in-states.is c.read_states.ensures.none

pub returns-in-seeded-clause-none : goal.returns-in-seeded-clause-none
returns-in-seeded-clause-none c = none_by_word c.args.words.now c.word.new.self c.in_ok-word.field-0.now (codes "seeded") c.read_seeded.result c.in_ok-word.ensures c.in-seeded.is c.read_seeded.ensures.none
