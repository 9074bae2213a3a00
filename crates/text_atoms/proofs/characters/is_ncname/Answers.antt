use Rattle.std.proofs.Common.{◌≡◌, ℕ, List, ◌∷◌, true, ◌&&◌, sym, ◌∙◌, ap}
use Rattle.std.proofs.lemmas.Str.{chars_past_char}
use Rattle.std.specs.List.{list_all}
use Rattle.std.specs.Str.{chars}
use Rattle.rng_model.specs.Names.{is_name_start, is_name_char, is_ncname, are_name_chars}
use Rattle.text_atoms.proofs.characters.is_ncname.Goals as goal

first_fits : (text rest : List ℕ) (c : ℕ) → chars text ≡ c ∷ chars rest → true ≡ is_name_start c → list_all is_name_char (chars rest) ≡ is_ncname text
unfolding is_ncname
first_fits text rest c e s = ap (λ b. b && list_all is_name_char (chars rest)) s ∙ ap are_name_chars (sym e)

pub returns-then-is_name_start : goal.returns-then-is_name_start
returns-then-is_name_start c =
    let e = chars_past_char _ _ _ c.utf8.text (sym c.chars-chars.ensures.rest ∙ c.in-Some.ensures.steps.0) in
    c.are_name_chars.ensures
    ∙ ap (λ x. list_all is_name_char (chars x)) c.as_str.ensures
    ∙ first_fits _ _ _ e (sym c.if-is_name_start.true ∙ c.is_name_start.ensures)
