-- No content before the next breaks the rule.
use Rattle.std.proofs.Common.{◌≡◌, ℕ, ◌<◌, true}
use Rattle.rng_model.specs.Patterns.{Definition, Defines}
use Rattle.restrictions.specs.Flags.{flag_in_content}
use Rattle.restrictions.proofs.rules.contents_break.Given as goal

abbrev pub invariant-loop-element : goal.invariant-loop-element
invariant-loop-element l = (d : ℕ) (e : Definition) → d < l.element → Defines l.schema.schema d e → flag_in_content l.fn.rule e.content ≡ true → ⊥
