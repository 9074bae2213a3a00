use Rattle.std.proofs.Common.{sym, ◌∙◌}
use Rattle.restrictions.proofs.Flags.{start_breaks, content_breaks, flags_hold}
use Rattle.restrictions.proofs.Outcomes.{on_true, on_false}
use Rattle.restrictions.proofs.rules.is_broken_by_flags.Goals as goal

pub returns-then-start_breaks-clause-yes : goal.returns-then-start_breaks-clause-yes
returns-then-start_breaks-clause-yes c =
    rw (c.if-start_breaks.true)
    (start_breaks c.args.schema.now.schema c.args.rule c.requires.rule (sym c.start_breaks.ensures ∙ c.if-start_breaks.true))

pub returns-else-start_breaks-clause-yes : goal.returns-else-start_breaks-clause-yes
returns-else-start_breaks-clause-yes c =
    on_true c.contents_break.result c.contents_break.ensures.yes
    (λ f. content_breaks c.args.schema.now.schema c.args.rule c.requires.rule f)

pub returns-else-start_breaks-clause-no : goal.returns-else-start_breaks-clause-no
returns-else-start_breaks-clause-no c =
    on_false c.contents_break.result c.contents_break.ensures.no
    (λ f. flags_hold c.args.schema.now.schema c.args.rule c.requires.rule (sym c.start_breaks.ensures ∙ c.if-start_breaks.false) f)
