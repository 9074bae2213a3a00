-- Which names are defined.
use Rattle.std.specs.Prelude.{Bool, Option, Some, None}
use Rattle.std.specs.List.{list_any}
use Rattle.std.specs.Str.{bytes_eq}
use Rattle.rng_model.specs.Texts.{Text}
use Rattle.tree_faults.specs.declared.keys.Keys.{Keys}

-- the name is there; with none, a start
abbrev pub has_key : Keys → Option Text → Bool
has_key ks None = ks.has_start
has_key ks (Some name) = list_any (λ n. bytes_eq name n.now) ks.names.keys
