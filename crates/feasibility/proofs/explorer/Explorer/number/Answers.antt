use Rattle.std.proofs.Common.{sym, ap, ◌∙◌, subst}
use Rattle.pattern_intern.specs.Schemas.{Numbered}
use Rattle.pattern_intern.specs.Stored.{Stored, AreApart}
use Rattle.feasibility.proofs.Apart.{found_at, full_at}
use Rattle.feasibility.proofs.explorer.Explorer.number.Goals as goal

pub returns-in-Some-clause-found : goal.returns-in-Some-clause-found
returns-in-Some-clause-found c = found_at c.args.self.now c.requires.exploring c.args.state c.requires.within c.in-Some.id (sym c.in-Some.ensures.index)

pub returns-then-len-self-clause-full : goal.returns-then-len-self-clause-full
returns-then-len-self-clause-full c =
    λ _. full_at c.args.self.now c.requires.exploring c.args.state c.requires.within
    (subst (λ (s : Stored). AreApart s) (c.pool.ensures ∙ ap (λ (n : Numbered). n.pool) c.schema.ensures) c.len-pool.ensures.apart) c.len.ensures.unique (sym c.in-None.ensures.found)
    (sym c.len.ensures.len ∙ c.if-len-self.true) c.requires.reached
