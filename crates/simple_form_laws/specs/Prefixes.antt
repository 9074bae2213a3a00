-- Prefixes and types: Annex C (declarations) and section Simplification (ns attribute, datatypeLibrary attribute), with two tables for each file.
use Rattle.std.specs.Prelude.{ℕ, suc, ◌-◌, if◌then◌else◌, List, [], ◌∷◌, Option, Some, None, option_and_then, flat_map, codes, nat_le}
use Rattle.std.specs.Str.{bytes_eq}
use Rattle.rng_model.specs.Texts.{Text}
use Rattle.rng_model.specs.Kinds.{Kind, Str, Token, Boolean, Integer, NonNegative, Positive, NcName, Nmtoken}
use Rattle.grammar_laws.specs.Trees.{TypeName, built_string, built_token, prefixed_type, Uri, literal, inherit, Declaration, namespace_prefix, default_namespace, datatypes}
use Rattle.grammar_laws.specs.Files.{SchemaFile}

abbrev pub xml_uri : Text
xml_uri = codes "http://www.w3.org/XML/1998/namespace"

abbrev pub xmlns_uri : Text
xmlns_uri = codes "http://www.w3.org/2000/xmlns"

abbrev pub xsd_uri : Text
xsd_uri = codes "http://www.w3.org/2001/XMLSchema-datatypes"

-- a table of texts by names, the first with a name counting
abbrev pub Table : Type 0
Table = List (Text × Text)

abbrev pub look_up : Table → Text → Option Text
look_up [] name = None
look_up ((n, t) ∷ table) name = if bytes_eq n name then Some t else look_up table name

-- a URI as it is bound, where u is the inherited namespace
abbrev pub bound_uri : Text → Uri → Text
bound_uri u (literal t) = t
bound_uri u (inherit at) = u

-- the namespace prefixes that a declaration binds
abbrev pub prefixes : Text → Declaration → Table
prefixes u (namespace_prefix p uri at) = (p, bound_uri u uri) ∷ []
prefixes u (default_namespace (Some p) uri at) = (p, bound_uri u uri) ∷ []
prefixes u _ = []

-- the default namespace that a declaration binds
abbrev pub defaults : Text → Declaration → List Text
defaults u (default_namespace p uri at) = bound_uri u uri ∷ []
defaults u _ = []

-- the datatype prefix that a declaration binds
abbrev pub libraries : Declaration → Table
libraries (datatypes p t at) = (p, t) ∷ []
libraries _ = []

abbrev pub namespace_table : SchemaFile → Table
namespace_table f = (codes "xml", xml_uri) ∷ flat_map (prefixes f.inherited) f.declarations

abbrev pub library_table : SchemaFile → Table
library_table f = (codes "xsd", xsd_uri) ∷ flat_map libraries f.declarations

abbrev pub first_or : Text → List Text → Text
first_or u [] = u
first_or u (t ∷ ts) = t

-- the default namespace: the first that is declared, or the inherited one
abbrev pub default_of : SchemaFile → Text
default_of f = first_or f.inherited (flat_map (defaults f.inherited) f.declarations)

abbrev pub no_file : SchemaFile
no_file = record { name = []; length = 0; inherited = []; declarations = [] }

-- the file in which a place stands: each takes its length and one more
abbrev pub file_at : List SchemaFile → ℕ → SchemaFile
file_at [] at = no_file
file_at (f ∷ fs) at = if nat_le at f.length then f else file_at fs (at - suc f.length)

-- the namespace of a prefix that stands at a place
abbrev pub namespace_of : List SchemaFile → Text → ℕ → Option Text
namespace_of fs p at = look_up (namespace_table (file_at fs at)) p

abbrev pub built_in_kind : Text → Option Kind
built_in_kind name = if bytes_eq name (codes "string") then Some Str else if bytes_eq name (codes "token") then Some Token else None

-- six of its own, and the two of the built-in library
abbrev pub second_kind : Text → Option Kind
second_kind name =
    if bytes_eq name (codes "boolean") then Some Boolean else
    if bytes_eq name (codes "integer") then Some Integer else
    if bytes_eq name (codes "nonNegativeInteger") then Some NonNegative else
    if bytes_eq name (codes "positiveInteger") then Some Positive else
    if bytes_eq name (codes "NCName") then Some NcName else
    if bytes_eq name (codes "NMTOKEN") then Some Nmtoken else built_in_kind name

-- the kind of a library's type; the empty text names the built-in library
abbrev pub library_kind : Text → Text → Option Kind
library_kind name library = if bytes_eq library xsd_uri then second_kind name else if bytes_eq library [] then built_in_kind name else None

-- the kind that a type names
abbrev pub kind_of : List SchemaFile → TypeName → Option Kind
kind_of fs (built_string at) = Some Str
kind_of fs (built_token at) = Some Token
kind_of fs (prefixed_type p name at) = option_and_then (library_kind name) (look_up (library_table (file_at fs at)) p)
