-- What can be a member of a choice: this project's own.
use Rattle.std.specs.Prelude.{⊤}
use Rattle.rng_model.specs.Patterns.{Pattern, not_allowed, choice}

-- neither notAllowed nor a choice
abbrev pub IsMember : Pattern → Type 0
IsMember not_allowed = ⊥
IsMember (choice p q) = ⊥
IsMember p = ⊤
