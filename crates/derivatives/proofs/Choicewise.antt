-- Functions that map a choice to the choice of its members' results.
use Rattle.std.proofs.Common.{refl}
use Rattle.rng_model.specs.Texts.{Text}
use Rattle.rng_model.specs.Names.{Name}
use Rattle.rng_model.specs.Derivatives.{text_step, attribute_step, close, ending}
use Rattle.derivatives.specs.Spines.{IsChoicewise}

pub text_choices : (s : Text) → IsChoicewise (text_step s)
unfolding text_step
text_choices s = record { choices = λ p q. refl }

pub attribute_choices : (n : Name) (s : Text) → IsChoicewise (attribute_step n s)
unfolding attribute_step
attribute_choices n s = record { choices = λ p q. refl }

pub close_choices : IsChoicewise close
unfolding close
close_choices = record { choices = λ p q. refl }

pub ending_choices : IsChoicewise ending
unfolding ending
ending_choices = record { choices = λ p q. refl }
