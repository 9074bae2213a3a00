-- The files of a schema, and the places of each.
use Rattle.std.specs.Prelude.{◌≡◌, ℕ, zero, suc, ◌+◌, ◌-◌, ◌≤◌, ◌<◌, ◌^◌, ⊤, if◌then◌else◌, nat_le, List, [], ◌∷◌, Some, slice_get, map}
use Rattle.grammar_laws.specs.Files.{SchemaFile}
use Rattle.grammar_laws.specs.Files as schema
use Rattle.grammar_laws.specs.Trees as tree
use Rattle.schema_tree.specs.declared.files.Entry.{Entry}
use Rattle.schema_tree.specs.declared.tree.Body.{Body}
use Rattle.schema_tree.specs.Trees.{declaration_of, body_of}

-- a place for each byte of each file, and one for its end
abbrev pub places_of : List SchemaFile → ℕ
places_of [] = 0
places_of (f ∷ fs) = suc f.length + places_of fs

abbrev pub last_place : List SchemaFile → ℕ
last_place fs = places_of fs - 1

-- the number of the file in which a place stands
abbrev pub number_at : List SchemaFile → ℕ → ℕ
number_at [] at = 0
number_at (f ∷ fs) at = if nat_le at f.length then 0 else suc (number_at fs (at - suc f.length))

-- where the places of the file with the number k begin
abbrev pub base_of : List SchemaFile → ℕ → ℕ
base_of [] k = 0
base_of (f ∷ fs) zero = 0
base_of (f ∷ fs) (suc k) = suc f.length + base_of fs k

-- the file with the number k has the property
abbrev pub AtFile : List SchemaFile → ℕ → (SchemaFile → Type 0) → Type 0
AtFile fs k P = (f : SchemaFile) × (slice_get fs k ≡ Some f) × P f

abbrev pub file_of : Entry → SchemaFile
file_of e = record { name = e.name; length = e.length; inherited = e.inherited; declarations = map declaration_of e.declarations }

abbrev pub IsUriWithin : ℕ → tree.Uri → Type 0
IsUriWithin n (tree.literal l) = ⊤
IsUriWithin n (tree.inherit a) = a ≤ n

abbrev pub IsWithin : ℕ → tree.Declaration → Type 0
IsWithin n (tree.namespace_prefix p u a) = (a ≤ n) × IsUriWithin n u
IsWithin n (tree.default_namespace p u a) = (a ≤ n) × IsUriWithin n u
IsWithin n (tree.datatypes p l a) = a ≤ n

-- each place in the declarations is at most n
abbrev pub AreWithin : ℕ → List tree.Declaration → Type 0
AreWithin n [] = ⊤
AreWithin n (d ∷ ds) = IsWithin n d × AreWithin n ds

-- in each file
abbrev pub AreFilesWithin : List SchemaFile → Type 0
AreFilesWithin [] = ⊤
AreFilesWithin (f ∷ fs) = AreWithin f.length f.declarations × AreFilesWithin fs

-- the entries' bases, from n on up to m, with the places of their declarations in them
abbrev pub AreBased : ℕ → ℕ → List Entry → Type 0
AreBased n m [] = m ≡ n
AreBased n m (e ∷ es) = ((e.base ≡ n) × AreWithin e.length (map declaration_of e.declarations)) × AreBased (n + suc e.length) m es

-- the same from 0 on, up to a number of the machine
abbrev pub AreFitting : List Entry → Type 0
AreFitting es = (m : ℕ) × (m < 2 ^ 64) × AreBased 0 m es

-- the files of a schema and its body
pub record Whole : Type 0 where
  pub files : List SchemaFile
  pub body : Body

abbrev pub full_of : Whole → schema.Full
full_of w = record { files = w.files; body = body_of w.body }
