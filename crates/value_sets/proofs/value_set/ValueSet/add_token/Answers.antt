use Rattle.std.proofs.Common.{◌≡◌, ◌||◌, refl, ◌∙◌, ap, subst}
use Rattle.std.specs.Str.{bytes_eq}
use Rattle.rng_model.specs.Texts.{Text, normal}
use Rattle.value_sets.specs.Taken.{has}
use Rattle.value_sets.proofs.Joining.{token_added}
use Rattle.value_sets.proofs.value_set.ValueSet.add_token.Goals as goal

pub returns : goal.returns
returns c =
    token_added _ _ c.args.literal.now
    (subst (λ v. (t : Text) → has c.add.new.self t ≡ (has c.args.self.now.tokens t || bytes_eq t v)) (c.in_ok-form.ensures ∙ ap normal c.as_str.ensures) c.in_ok-add.ensures) refl refl
