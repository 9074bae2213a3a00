use Rattle.std.proofs.Common.{◌≡◌, ◌||◌, refl, subst}
use Rattle.std.specs.Str.{bytes_eq}
use Rattle.rng_model.specs.Texts.{Text}
use Rattle.value_sets.specs.Taken.{has}
use Rattle.value_sets.proofs.Joining.{string_added}
use Rattle.value_sets.proofs.value_set.ValueSet.add_string.Goals as goal

pub returns : goal.returns
returns c =
    string_added _ _ c.args.literal.now
    (subst (λ v. (t : Text) → has c.add.new.self t ≡ (has c.args.self.now.strings t || bytes_eq t v)) c.in_ok-literal.ensures c.in_ok-add.ensures) refl refl
