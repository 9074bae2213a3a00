-- What stands in a class, part by part.
use Rattle.std.specs.Prelude.{⊤, IsUtf8}
use Rattle.rng_model.specs.Names.{IsName}
use Rattle.rng_model.specs.Classes.{Class, any, any_except, namespace, namespace_except, one, either}

-- what stands in each part are names and texts
abbrev pub IsNamed : Class → Type 0
IsNamed any = ⊤
IsNamed (any_except c) = IsNamed c
IsNamed (namespace u) = IsUtf8 u
IsNamed (namespace_except u c) = IsUtf8 u × IsNamed c
IsNamed (one n) = IsName n
IsNamed (either a b) = IsNamed a × IsNamed b
