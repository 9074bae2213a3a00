-- A string literal, a token form, or another text.
use Rattle.std.proofs.Common.{subst, ◌∙◌, ◌≡◌, List, Some, IfSome, IfNone, length, slice_get}
use Rattle.rng_model.specs.Texts.{Text}
use Rattle.text_atoms.specs.declared.origin.Origin.{Origin}
use Rattle.text_atoms.specs.declared.origin.Origin.TheVariants.{Fresh}
use Rattle.text_atoms.specs.Standing.{SomeAt, NoneBefore, IsStringAtom, IsFormAtom}
use Rattle.text_atoms.proofs.StandingTexts.{string_stands, other_stands, in_range, other_in_range}
use Rattle.text_atoms.proofs.atoms.Atoms.stands_for_text.Goals as goal

pub returns-in-Some-clause-within : goal.returns-in-Some-clause-within
returns-in-Some-clause-within c =
    in_range c.args.self.now c.in-Some.position (λ a. IsStringAtom a c.args.text.now)
    (subst (λ (ys : List (Text × Origin)). SomeAt ys c.in-Some.position (λ a. IsStringAtom a c.args.text.now)) (c.as_slice.ensures.value ∙ c.self.view_is) c.in-Some.ensures.found)

pub returns-in-Some-clause-stands : goal.returns-in-Some-clause-stands
returns-in-Some-clause-stands c = λ l extra are rules.
    string_stands l extra c.args.self.now are rules c.args.text.now c.in-Some.position
    (subst (λ (ys : List (Text × Origin)). SomeAt ys c.in-Some.position (λ a. IsStringAtom a c.args.text.now)) (c.as_slice.ensures.value ∙ c.self.view_is) c.in-Some.ensures.found)

pub returns-in-None-clause-within : goal.returns-in-None-clause-within
returns-in-None-clause-within c =
    rw c.unwrap_or.ensures (other_in_range c.args.self.now c.form_position.result c.self.inside.fresh (λ a. IsFormAtom a c.args.text.now)
    (subst (λ (ys : List (Text × Origin)). IfSome c.form_position.result (λ i. SomeAt ys i (λ a. IsFormAtom a c.args.text.now))) (c.as_slice-in-None.ensures.value ∙ c.self.view_is) c.form_position.ensures.found)
    (subst (λ (ys : List (Text × Origin)). (x : Text) × (slice_get ys c.self.inside.fresh ≡ Some (x, Fresh))) c.self.view_is c.self.invariant.fresh))

pub returns-in-None-clause-stands : goal.returns-in-None-clause-stands
returns-in-None-clause-stands c = λ l extra are rules.
    rw c.unwrap_or.ensures (other_stands l extra c.args.self.now are rules c.args.text.now c.form_position.result c.self.inside.fresh
    (subst (λ (ys : List (Text × Origin)). NoneBefore ys (length ys) (λ a. IsStringAtom a c.args.text.now)) (c.as_slice.ensures.value ∙ c.self.view_is) c.in-None.ensures.absent)
    (subst (λ (ys : List (Text × Origin)). IfSome c.form_position.result (λ i. SomeAt ys i (λ a. IsFormAtom a c.args.text.now))) (c.as_slice-in-None.ensures.value ∙ c.self.view_is) c.form_position.ensures.found)
    (subst (λ (ys : List (Text × Origin)). IfNone c.form_position.result (NoneBefore ys (length ys) (λ a. IsFormAtom a c.args.text.now))) (c.as_slice-in-None.ensures.value ∙ c.self.view_is) c.form_position.ensures.absent)
    (subst (λ (ys : List (Text × Origin)). (x : Text) × (slice_get ys c.self.inside.fresh ≡ Some (x, Fresh))) c.self.view_is c.self.invariant.fresh))
