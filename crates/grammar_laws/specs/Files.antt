-- The tree of a whole schema: its files, and the body of the first with what the others hold put in.
use Rattle.std.specs.Prelude.{ℕ, List, [], ◌∷◌}
use Rattle.rng_model.specs.Texts.{Text}
use Rattle.grammar_laws.specs.Trees.{File, Pattern, grammar, Declaration, Body, pattern, items}

-- a file as often as it is named: its name, its length in bytes, its inherited namespace and its declarations
pub record SchemaFile : Type 0 where
  pub name : Text
  pub length : ℕ
  pub inherited : Text
  pub declarations : List Declaration

-- a place in the body is counted through all files, each with one place more than it has bytes; a declaration's is counted in its file
pub record Full : Type 0 where
  pub files : List SchemaFile
  pub body : Body

-- the tree of a schema in one file of so many bytes
abbrev pub of_one : ℕ → File → Full
of_one n f = record { files = record { name = []; length = n; inherited = []; declarations = f.declarations } ∷ []; body = f.body }

-- the body as a pattern: items are a grammar
abbrev pub body_pattern : Body → Pattern
body_pattern (pattern p) = p
body_pattern (items is) = grammar is
