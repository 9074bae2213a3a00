use Rattle.std.proofs.Common.{◌≡◌, Bool, false, sym, ◌∙◌}
use Rattle.std.specs.Prelude.{Result, IfOk, Ok, Err}
use Rattle.rng_model.specs.Texts.{Text}
use Rattle.rng_model.specs.Patterns.{Pattern, not_allowed}
use Rattle.rng_model.specs.Derivatives.{text_step}
use Rattle.derivatives.specs.Takes.{has_text}
use Rattle.derivatives.proofs.Untaken.{text_untaken}
use Rattle.derivatives.proofs.text_taken.takes_text.Goals as goal

nowhere : {E : Type 0} (p : Pattern) (r : Result Bool E) → IfOk r (λ b. b ≡ has_text p) → IfOk r (λ b. b ≡ false → (s : Text) → text_step s p ≡ not_allowed)
nowhere p (Ok b) h = λ f s. text_untaken s p (sym h ∙ f)
nowhere p (Err e) h = tt

pub returns-clause-nowhere : goal.returns-clause-nowhere
returns-clause-nowhere c = nowhere _ _ c.text_in.ensures.taken
