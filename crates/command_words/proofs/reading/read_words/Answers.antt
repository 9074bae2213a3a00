use Rattle.std.proofs.Common.{map, string_bytes, codes, false}
use Rattle.std.specs.Prelude.{unwrap_or}
use Rattle.command_words.proofs.Whole.{no_command, no_options, not_taken, has_form, some_page, most_page, some_limit, most_limit, some_fresh, few_fresh}
use Rattle.command_words.proofs.reading.read_words.Goals as goal

pub returns-in_default-clause-none : goal.returns-in_default-clause-none
returns-in_default-clause-none c = rw c.new-rest.ensures at (no_command _ c.in_default.ensures.none)

pub returns-in_default-read_options-clause-none : goal.returns-in_default-read_options-clause-none
returns-in_default-read_options-clause-none c = rw c.new-rest.ensures at (no_options _ _ _ c.in-Some.ensures.some c.in_default-read_options.ensures.none)

pub returns-then-not-are_taken_by-clause-none : goal.returns-then-not-are_taken_by-clause-none
returns-then-not-are_taken_by-clause-none c =
    rw c.new-rest.ensures at (not_taken _ _ _ c.in-Some.ensures.some _ _ _ _ c.in-Some-read_options.ensures.some
    (λ taken. let holds = c.are_taken_by.ensures.1 taken in cc))

pub invariant_of-result-clause-some_page : goal.invariant_of-result-clause-some_page
invariant_of-result-clause-some_page c = some_page _ _ _ _ _ c.in-Some-read_options.ensures.some

pub invariant_of-result-clause-most_page : goal.invariant_of-result-clause-most_page
invariant_of-result-clause-most_page c = most_page _ _ _ _ _ c.in-Some-read_options.ensures.some

pub invariant_of-result-clause-some_limit : goal.invariant_of-result-clause-some_limit
invariant_of-result-clause-some_limit c = rw c.unwrap_or.ensures (some_limit _ _ _ _ _ c.in-Some-read_options.ensures.some)

pub invariant_of-result-clause-most_limit : goal.invariant_of-result-clause-most_limit
invariant_of-result-clause-most_limit c = rw c.unwrap_or.ensures (most_limit _ _ _ _ _ c.in-Some-read_options.ensures.some)

pub invariant_of-result-clause-some_fresh : goal.invariant_of-result-clause-some_fresh
invariant_of-result-clause-some_fresh c = rw c.unwrap_or-2.ensures (some_fresh _ _ _ _ _ c.in-Some-read_options.ensures.some)

pub invariant_of-result-clause-few_fresh : goal.invariant_of-result-clause-few_fresh
invariant_of-result-clause-few_fresh c = rw c.unwrap_or-2.ensures (few_fresh _ _ _ _ _ c.in-Some-read_options.ensures.some)

pub returns-clause-form : goal.returns-clause-form
returns-clause-form c =
    let taken = c.are_taken_by.ensures.0 c.if-not-are_taken_by.false in
    rw (c.unwrap_or.ensures, c.unwrap_or-2.ensures) (rw c.new-rest.ensures at (has_form _ _ _ _ _ _ _ c.in-Some.ensures.some c.in-Some-read_options.ensures.some taken.0 taken.1))
