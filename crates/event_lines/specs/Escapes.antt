-- Which bytes are escaped.
use Rattle.std.specs.Prelude.{ℕ, ◌++◌, flat_map, codes}
use Rattle.rng_model.specs.Texts as texts
use Rattle.rng_model.specs.Lines.{text_escape, namespace_escape}
use Rattle.event_lines.specs.declared.escapes.Escapes.{Escapes}
use Rattle.event_lines.specs.declared.escapes.Escapes.TheVariants.{Text, Namespace}

abbrev pub spelling : Escapes → ℕ → texts.Text
spelling Text c = text_escape c
spelling Namespace c = namespace_escape c

-- a namespace in braces, and a local name
abbrev pub qualified : texts.Text → texts.Text → texts.Text
qualified ns local = codes "{" ++ flat_map namespace_escape ns ++ codes "}" ++ local
