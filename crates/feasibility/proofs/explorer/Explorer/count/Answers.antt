use Rattle.std.proofs.Common.{ap, sym, ◌∙◌, subst}
use Rattle.pattern_intern.specs.Schemas.{Numbered}
use Rattle.pattern_intern.specs.Stored.{Stored, AreApart}
use Rattle.feasibility.specs.Exploring.{pool}
use Rattle.feasibility.proofs.Apart.{distinct_states, length_states}
use Rattle.feasibility.proofs.explorer.Explorer.count.Goals as goal

pub returns-clause-count : goal.returns-clause-count
returns-clause-count c = c.len.ensures.len ∙ sym (length_states (pool c.args.self.now) c.args.self.now.states.keys)

pub returns-clause-once : goal.returns-clause-once
returns-clause-once c =
    distinct_states (pool c.args.self.now)
    (subst (λ (s : Stored). AreApart s) (c.pool.ensures ∙ ap (λ (n : Numbered). n.pool) c.schema.ensures) c.len-pool.ensures.apart) c.args.self.now.states.keys c.requires.within c.len.ensures.unique
