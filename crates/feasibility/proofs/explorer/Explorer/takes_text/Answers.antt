use Rattle.std.proofs.Common.{◌≡◌, false, IfOk, ap, subst}
use Rattle.rng_model.specs.Derivatives.{text_step}
use Rattle.rng_model.specs.Patterns.{Pattern, not_allowed}
use Rattle.rng_model.specs.Texts.{Text}
use Rattle.feasibility.proofs.Finding.{with_machine}
use Rattle.feasibility.proofs.explorer.Explorer.takes_text.Goals as goal

pub returns-clause-nowhere : goal.returns-clause-nowhere
returns-clause-nowhere c =
    subst (λ (p : Pattern). IfOk c.takes_text.result (λ b. b ≡ false → (s : Text) → text_step s p ≡ not_allowed)) c.pattern-pattern.ensures.is c.takes_text.ensures.nowhere

pub returns-clause-same : goal.returns-clause-same
returns-clause-same c = ap (with_machine c.args.self.now) c.takes_text.ensures.same
