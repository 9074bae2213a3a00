use Rattle.std.proofs.Common.{refl}
use Rattle.pattern_intern.proofs.Taking.{pool_after, within_after, made_after, kept_after, refs_after, after_refusal, value_made}
use Rattle.pattern_intern.proofs.pool.Pool.make_value.Goals as goal

pub invariant_of-self : goal.invariant_of-self
invariant_of-self c = pool_after _ _ _ _ _ c.intern_value.result (value_made _ _ _ _ _ _ _ c.args.kind c.args.literal c.args.fact c.self.invariant c.requires.facts c.intern_value.result c.intern_value.ensures.made) (after_refusal c.intern_value.result c.intern_value.ensures.literals_kept c.intern_value.ensures.nodes_kept c.intern_value.ensures.facts_kept (λ k n f. rw (k, n, f) c.self.invariant))

pub returns-clause-within : goal.returns-clause-within
returns-clause-within c = within_after _ _ _ _ _ c.intern_value.result (value_made _ _ _ _ _ _ _ c.args.kind c.args.literal c.args.fact c.self.invariant c.requires.facts c.intern_value.result c.intern_value.ensures.made)

pub returns-clause-made : goal.returns-clause-made
returns-clause-made c = (made_after _ _ _ _ _ c.intern_value.result (value_made _ _ _ _ _ _ _ c.args.kind c.args.literal c.args.fact c.self.invariant c.requires.facts c.intern_value.result c.intern_value.ensures.made))

pub returns-clause-kept : goal.returns-clause-kept
returns-clause-kept c = rw (← c.self.view_is) (kept_after _ _ _ _ _ c.intern_value.result (value_made _ _ _ _ _ _ _ c.args.kind c.args.literal c.args.fact c.self.invariant c.requires.facts c.intern_value.result c.intern_value.ensures.made) (after_refusal c.intern_value.result c.intern_value.ensures.literals_kept c.intern_value.ensures.nodes_kept c.intern_value.ensures.facts_kept (λ k n f. rw (k, n) refl)))

pub returns-clause-refs : goal.returns-clause-refs
returns-clause-refs c = rw (← c.self.view_is) (λ n a. refs_after _ _ _ _ _ c.intern_value.result (value_made _ _ _ _ _ _ _ c.args.kind c.args.literal c.args.fact c.self.invariant c.requires.facts c.intern_value.result c.intern_value.ensures.made) (after_refusal c.intern_value.result c.intern_value.ensures.literals_kept c.intern_value.ensures.nodes_kept c.intern_value.ensures.facts_kept (λ k n f. rw (k, n) refl)) n tt a)
