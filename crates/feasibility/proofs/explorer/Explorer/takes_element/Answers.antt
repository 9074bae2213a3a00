use Rattle.std.proofs.Common.{◌≡◌, false, IfOk, subst}
use Rattle.rng_model.specs.Derivatives.{opening}
use Rattle.rng_model.specs.Names.{Name}
use Rattle.rng_model.specs.Patterns.{Pattern, not_allowed}
use Rattle.feasibility.specs.Exploring.{schema}
use Rattle.feasibility.proofs.Finding.{pool_finds, pool_explores, stepped}
use Rattle.feasibility.proofs.explorer.Explorer.takes_element.Goals as goal

pub returns-clause-nowhere : goal.returns-clause-nowhere
returns-clause-nowhere c =
    subst (λ (p : Pattern). IfOk c.takes_element.result (λ b. b ≡ false → (name : Name) → opening (schema c.args.self.now) name p ≡ not_allowed)) c.pattern-pattern.ensures.is
    c.takes_element.ensures.nowhere

pub returns-clause-finds : goal.returns-clause-finds
returns-clause-finds c =
    pool_finds c.args.self.now _ c.requires.exploring
    (stepped c.args.self.now c.takes_element.new.self c.takes_element.ensures.same.0 c.takes_element.ensures.same.1 c.takes_element.ensures.same.2 c.takes_element.ensures.kept)

pub returns-clause-exploring : goal.returns-clause-exploring
returns-clause-exploring c =
    pool_explores c.args.self.now _ c.requires.exploring
    (stepped c.args.self.now c.takes_element.new.self c.takes_element.ensures.same.0 c.takes_element.ensures.same.1 c.takes_element.ensures.same.2 c.takes_element.ensures.kept)
