-- A file's declarations as a file of the definitions, with the tables that are made of them.
use Rattle.std.specs.Prelude.{◌≡◌, map}
use Rattle.rng_model.specs.Texts.{Text}
use Rattle.grammar_laws.specs.Files.{SchemaFile}
use Rattle.schema_tree.specs.Trees.{declaration_of}
use Rattle.simple_form_laws.specs.Prefixes.{look_up, namespace_table, library_table, default_of}
use Rattle.name_resolution.specs.Places.{IsWithin}
use Rattle.name_resolution.specs.declared.file.FileNames.TheInside.{Inside}

abbrev pub file_of : Inside → SchemaFile
file_of f = record { name = f.name.now; length = f.length; inherited = f.inherited.now; declarations = map declaration_of f.declarations.now }

pub record HasTables (f : Inside) : Type 0 where
  pub namespaces : (p : Text) → look_up f.namespaces p ≡ look_up (namespace_table (file_of f)) p
  pub libraries : (p : Text) → look_up f.libraries p ≡ look_up (library_table (file_of f)) p
  pub default : f.default.now ≡ default_of (file_of f)
  pub within : IsWithin (file_of f)
