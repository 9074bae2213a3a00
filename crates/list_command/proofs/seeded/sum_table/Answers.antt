use Rattle.std.proofs.Common.{◌≡◌, refl, arith}
use Rattle.command_words.specs.Requests.{request_of}
use Rattle.list_command.proofs.Ends.{sum_cause, not_summed_up}
use Rattle.list_command.proofs.Exits.{appends_nothing}
use Rattle.list_command.proofs.Commands.{summary_ends, no_summary_ends, summary_is_cut}
use Rattle.list_command.specs.declared.outcome.Outcome.{Outcome}
use Rattle.list_command.specs.Asking.{outcome_from}
use Rattle.list_command.proofs.Within.{summing_within, done_is_whole}
use Rattle.list_command.proofs.seeded.sum_table.Goals as goal

pub returns-then-not-is_summed_up-clause-owed : goal.returns-then-not-is_summed_up-clause-owed
returns-then-not-is_summed_up-clause-owed g c = λ h z is asks accepts words files form reads.
    rw c.outcome_of.ensures
    (no_summary_ends words files (request_of c.args.asked.now) form z h accepts c.args.table.now is _ _ reads _ _ c.args.size.nodes c.owed_is_asked.ensures.form asks
    c.sum_listing-end.result.0 c.sum_listing-end.result.1 c.sum_listing-end.ensures.ends
    (not_summed_up c.is_summed_up.result c.sum_listing-end.result.0 c.is_summed_up.ensures.1 c.if-not-is_summed_up.true) (appends_nothing _))

pub returns-then-not-is_summed_up-clause-cause : goal.returns-then-not-is_summed_up-clause-cause
returns-then-not-is_summed_up-clause-cause g c =
    rw c.outcome_of.ensures (sum_cause _ _ _ _ c.sum_listing-end.result.1 c.sum_listing-end.result.0 c.sum_listing-end.ensures.ends refl)

pub returns-in-Ok-clause-owed : goal.returns-in-Ok-clause-owed
returns-in-Ok-clause-owed g c = λ h z is asks accepts words files form reads.
    rw c.outcome_of-in-Ok.ensures
    (summary_ends words files (request_of c.args.asked.now) form z h accepts c.args.table.now is _ _ reads _ _ c.args.size.nodes c.owed_is_asked.ensures.form asks
    c.sum_listing-end.result.0 c.sum_listing-end.result.1 c.sum_listing-end.ensures.ends (c.is_summed_up.ensures.0 c.if-not-is_summed_up.false) c.in-Ok.ensures.ok)

pub returns-in-Ok-clause-cause : goal.returns-in-Ok-clause-cause
returns-in-Ok-clause-cause g c =
    rw c.outcome_of-in-Ok.ensures (sum_cause _ _ _ _ c.sum_listing-end.result.1 c.sum_listing-end.result.0 c.sum_listing-end.ensures.ends c.in-Ok.ensures.cause.kept)

pub returns-in-Err-clause-owed : goal.returns-in-Err-clause-owed
returns-in-Err-clause-owed g c = λ h z is asks accepts words files form reads.
    summary_is_cut words files (request_of c.args.asked.now) form z h accepts c.args.table.now is _ _ reads _ _ c.args.size.nodes c.owed_is_asked.ensures.form asks
    c.sum_listing-end.result.0 c.sum_listing-end.result.1 c.sum_listing-end.ensures.ends (c.is_summed_up.ensures.0 c.if-not-is_summed_up.false)
    c.in-Err.ensures.cause.failed c.one_is_owed.ensures c.in-Err.ensures.err

pub returns-in-Err-clause-cause : goal.returns-in-Err-clause-cause
returns-in-Err-clause-cause g c = c.in-Err.ensures.cause.failed

pub returns-then-not-is_summed_up-clause-within : goal.returns-then-not-is_summed_up-clause-within
returns-then-not-is_summed_up-clause-within g c = λ h is empty unspent.
    let end = c.sum_listing-end in
    rw c.outcome_of.ensures
    (summing_within c.args.table.now end.new.table end.ensures.kept h (request_of c.args.asked.now) is c.holds.ensures c.args.size.nodes c.args.steps.now end.new.steps (outcome_from end.result.0) end.ensures.ticks
    (λ done. let whole = done_is_whole end.result.0 done in (end.ensures.grown (omega (arith, empty)) whole, λ e queue ends. end.ensures.whole e queue ends whole)) unspent)

pub returns-in-Ok-clause-within : goal.returns-in-Ok-clause-within
returns-in-Ok-clause-within g c = λ h is empty unspent.
    let end = c.sum_listing-end in
    rw c.outcome_of-in-Ok.ensures
    (summing_within c.args.table.now end.new.table end.ensures.kept h (request_of c.args.asked.now) is c.holds.ensures c.args.size.nodes c.args.steps.now end.new.steps (outcome_from end.result.0) end.ensures.ticks
    (λ done. let whole = done_is_whole end.result.0 done in (end.ensures.grown (omega (arith, empty)) whole, λ e queue ends. end.ensures.whole e queue ends whole)) unspent)

pub returns-in-Err-clause-within : goal.returns-in-Err-clause-within
returns-in-Err-clause-within g c = λ h is empty unspent.
    let end = c.sum_listing-end in
    (summing_within c.args.table.now end.new.table end.ensures.kept h (request_of c.args.asked.now) is c.holds.ensures c.args.size.nodes c.args.steps.now end.new.steps Outcome.WriteFault end.ensures.ticks
    (λ done. let clash : Outcome.WriteFault ≡ Outcome.Done = done in absurd (cc)) unspent)
