-- Worked examples of the definitions.
use Rattle.std.proofs.Common.{◌≡◌, zero, suc, [], ◌∷◌, refl, sym, ◌∙◌, ap, false, true, codes, arith}
use Rattle.std.specs.declared.cmp.Ordering.TheVariants.{Less}
use Rattle.std.specs.Prelude.{Some}
use Rattle.rng_model.specs.Texts.{normal}
use Rattle.rng_model.specs.Kinds.{Token, allows, equal}
use Rattle.rng_model.specs.Classes.{Class, one, in_class}
use Rattle.rng_model.specs.Patterns.{Definition, text, empty, after, choice, value}
use Rattle.rng_model.specs.Universe.{IsElementClass}
use Rattle.rng_model.specs.Constructors.{choice_of}
use Rattle.rng_model.specs.Matching.{nullable}
use Rattle.rng_model.specs.States.{Tag}
use Rattle.rng_model.specs.Codes.{Code, code_cmp}
use Rattle.rng_model.specs.Derivatives.{text_step, opening, map_after, close, ending}
use Rattle.rng_model.specs.Examples.{defined, one_text, small_lists, a_name, b_name, c_name}
use Rattle.rng_model.specs.Alike.{AreAlikeNames}
use Rattle.table_laws.specs.Reaching.{afters, free_codes_left, start_state}
use Rattle.table_laws.specs.Finishing.{Finish}

pub two_nodes : Finish one_text small_lists 2 (start_state one_text)
unfolding choice_of nullable text_step opening map_after close ending normal allows equal
two_nodes = record {
  codes = Code.Opening 0 ∷ Code.Body ∷ Code.Chars 1 ∷ Code.Closing ∷ [];
  in_range = (omega arith, (tt, (omega arith, (tt, tt))));
  exact = refl;
  accepts = refl;
}

pub three_left : free_codes_left (record { place = Tag 3; pattern = after text (after text empty) }) ≡ 3
unfolding afters
three_left = refl

a_definition : Definition
a_definition = defined a_name (choice (value Token (codes "x")) (value Token (codes "y")))

the_class : (c : Class) → IsElementClass one_text c → c ≡ one a_name
unfolding a_definition
the_class c (zero, e, i, h) = let f : a_definition ≡ e = same_some a_definition e i in h ∙ ap (λ x. x.class) (sym f)
  where
    same_some : (x y : Definition) → Some x ≡ Some y → x ≡ y
    same_some x y e = cc
the_class c (suc d, e, i, h) = absurd (cc)

pub alike_names : AreAlikeNames (IsElementClass one_text) b_name c_name
alike_names c h = let e = the_class c h in ap (in_class b_name) e ∙ sym (ap (in_class c_name) e)

pub other_names : AreAlikeNames (IsElementClass one_text) a_name b_name → ⊥
unfolding a_definition
other_names f = differ (f (one a_name) (0, a_definition, refl, refl))
  where
    differ : true ≡ false → ⊥
    differ e = absurd (cc)

pub order : (code_cmp Code.Body (Code.Opening 0) ≡ Less) × (code_cmp (Code.Attr 0 1) (Code.Attr 1 0) ≡ Less)
order = (refl, refl)
