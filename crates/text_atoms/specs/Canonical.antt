-- One form for the equal texts of a kind.
use Rattle.std.specs.Prelude.{not, ◌&&◌, ◌∷◌, Option, Some, None, if◌then◌else◌, codes}
use Rattle.rng_model.specs.Texts.{Text, normal}
use Rattle.rng_model.specs.Kinds.{Kind, Str, Boolean, Integer, NonNegative, Positive, allows, is_yes, has_minus, is_zero, magnitude}

-- of a text in normal form: `true` or `false`
abbrev pub boolean_form : Text → Text
boolean_form n = if is_yes n then codes "true" else codes "false"

-- of a text in normal form: the sign, which is `+` for zero, and the digits without leading zeros
abbrev pub integer_form : Text → Text
integer_form n = (if has_minus n && not (is_zero n) then 45 else 43) ∷ magnitude n

-- of a text that the kind allows
abbrev pub form_of : Kind → Text → Text
form_of Str t = t
form_of Boolean t = boolean_form (normal t)
form_of Integer t = integer_form (normal t)
form_of NonNegative t = integer_form (normal t)
form_of Positive t = integer_form (normal t)
form_of _ t = normal t

-- equal texts, and no others, have one canonical form; a text that the kind refuses has none
unfoldable pub canonical : Kind → Text → Option Text
canonical k t = if allows k t then Some (form_of k t) else None
