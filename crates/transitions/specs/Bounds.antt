-- Codes past a bound.
use Rattle.std.specs.Prelude.{◌≡◌, ⊤, Option, Some, None}
use Rattle.std.specs.declared.cmp.Ordering.TheVariants.{Less}
use Rattle.rng_model.specs.Codes.{Code, code_cmp}

-- the code is greater than the bound, if there is one
abbrev pub IsPast : Option Code → Code → Type 0
IsPast None c = ⊤
IsPast (Some b) c = code_cmp b c ≡ Less
