use Rattle.std.proofs.Common.{inr, refl, subst}
use Rattle.command_words.specs.Requests.{request_of}
use Rattle.list_command.specs.Owed.{Owes}
use Rattle.list_command.specs.Runs.{EndsAsOwed}
use Rattle.list_command.proofs.Exits.{appends_nothing}
use Rattle.list_command.proofs.Calls.{no_calls}
use Rattle.list_command.proofs.Causes.{causes_for, missed_for, no_words}
use Rattle.list_command.specs.Ticks.{ListsWithin, MadeWithin}
use Rattle.list_command.proofs.Accepted.{unrefused}
use Rattle.list_command.proofs.whole_run.obey.Goals as goal

pub returns-in_default-clause-owed : goal.returns-in_default-clause-owed
returns-in_default-clause-owed g c = λ files told. EndsAsOwed.owed (Owes.words c.in_default.ensures.none) (appends_nothing _)

pub returns-in_default-clause-calls : goal.returns-in_default-clause-calls
returns-in_default-clause-calls g c = no_calls _ _ _

pub returns-clause-owed : goal.returns-clause-owed
returns-clause-owed g c = λ files told. c.answer.ensures.owed files told _ c.in-Some.ensures.form

pub returns-clause-words : goal.returns-clause-words
returns-clause-words g c =
    (λ e. absurd (no_words _ _ _ _ _ c.answer.result c.answer.ensures.cause e), λ none. absurd (none (request_of c.in-Some.asked) c.in-Some.ensures.form))

pub returns-clause-cause : goal.returns-clause-cause
returns-clause-cause g c = inr (causes_for _ _ _ _ _ _ _ c.answer.result refl (λ missed. missed _ c.in-Some.ensures.form) c.answer.ensures.cause)

pub returns-clause-kept : goal.returns-clause-kept
returns-clause-kept g c = λ e. absurd (no_words _ _ _ _ _ c.answer.result c.answer.ensures.cause e)

pub returns-clause-misses : goal.returns-clause-misses
returns-clause-misses g c = missed_for _ _ _ (λ missed. missed _ c.in-Some.ensures.form) c.answer.ensures.misses

pub returns-clause-calls : goal.returns-clause-calls
returns-clause-calls g c = c.answer.ensures.calls _ c.in-Some.ensures.form

pub returns-in_default-clause-lists : goal.returns-in_default-clause-lists
returns-in_default-clause-lists g c = λ files request told form. absurd (c.in_default.ensures.none request form)

pub returns-in_default-clause-sums : goal.returns-in_default-clause-sums
returns-in_default-clause-sums g c = λ request form. absurd (c.in_default.ensures.none request form)

pub returns-clause-lists : goal.returns-clause-lists
returns-clause-lists g c = λ files request told form.
    subst (λ q. ListsWithin c.args.steps.now c.answer.new.steps q files (g.O.Sink.taken c.args.out.now) (g.O.Sink.taken c.answer.new.out) c.answer.result)
    (c.owed_is_asked.ensures.form _ _ _ c.in-Some.ensures.form form) (c.answer.ensures.lists files told)

pub returns-clause-sums : goal.returns-clause-sums
returns-clause-sums g c = λ request form.
    subst (λ q. MadeWithin c.args.steps.now c.answer.new.steps q c.answer.result) (c.owed_is_asked.ensures.form _ _ _ c.in-Some.ensures.form form) c.answer.ensures.sums

pub returns-clause-formless : goal.returns-clause-formless
returns-clause-formless g c = λ none. absurd (none (request_of c.in-Some.asked) c.in-Some.ensures.form)

pub returns-clause-refused : goal.returns-clause-refused
returns-clause-refused g c = λ files needed fault name told owes.
    unrefused c.schemas_are_decided.ensures c.owed_is_asked.ensures.form _ files (request_of c.in-Some.asked) c.in-Some.ensures.form c.args.steps.now c.answer.new.steps
    (c.answer.ensures.accepted files told) needed fault name owes
