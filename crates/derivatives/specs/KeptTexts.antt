-- Results of the step of one text, and what choices take, that are kept by number.
use Rattle.rng_model.specs.Texts.{Text}
use Rattle.rng_model.specs.Derivatives.{text_step}
use Rattle.pattern_intern.specs.Stored.{Stored}
use Rattle.value_sets.specs.Numbers.{AreSets}
use Rattle.derivatives.specs.Kept.{AreRight}
use Rattle.derivatives.specs.declared.text_results.TextResults.{TextResults}

-- each result is that of the text, and each set is that of its number
pub record AreTextResults (t : Text) (s : Stored) (kept : TextResults) : Type 0 where
  pub results : AreRight (text_step t) s kept.results
  pub sets : AreSets s kept.choices
