-- What isn't taken in a schema, and where it stands.
use Rattle.std.specs.Prelude.{◌≡◌, ℕ, suc, ◌+◌, ◌-◌, ◌⊎◌, Bool, true, false, not, ◌&&◌, ◌||◌, if◌then◌else◌, nat_le, List, [], ◌∷◌, Option, Some, None, codes, ⊤}
use Rattle.std.specs.Str.{bytes_eq}
use Rattle.rng_model.specs.Texts.{Text}
use Rattle.grammar_laws.specs.Trees.{Uri, literal, inherit, Declaration, namespace_prefix, default_namespace, datatypes, TypeName, built_string, built_token, prefixed_type, Parameter, Passed, Method, Pattern, Patterns, no_pattern, more_patterns, Item, start, define, div, include, Items, no_item, more_items, Body, pattern, items}
use Rattle.grammar_laws.specs.Trees as full
use Rattle.grammar_laws.specs.Files.{SchemaFile, Full}
use Rattle.schema_tree.specs.declared.features.Feature.{Feature}

-- the declarations of the file in which a place stands
abbrev pub declarations_at : List SchemaFile → ℕ → List Declaration
declarations_at [] at = []
declarations_at (f ∷ fs) at = if nat_le at f.length then f.declarations else declarations_at fs (at - suc f.length)

abbrev pub xsd_uri : Text
xsd_uri = codes "http://www.w3.org/2001/XMLSchema-datatypes"

abbrev pub is_built_in : Text → Bool
is_built_in n = bytes_eq n (codes "string") || bytes_eq n (codes "token")

-- the eight of XML Schema datatypes that are taken
abbrev pub is_xsd : Text → Bool
is_xsd n =
    bytes_eq n (codes "boolean") || bytes_eq n (codes "integer") || bytes_eq n (codes "nonNegativeInteger") || bytes_eq n (codes "positiveInteger")
    || bytes_eq n (codes "NCName") || bytes_eq n (codes "NMTOKEN") || is_built_in n

-- the type of the name in the library isn't taken; the empty text names the built-in library
abbrev pub is_foreign : Text → Text → Bool
is_foreign library n = if bytes_eq library xsd_uri then not (is_xsd n) else if bytes_eq library [] then not (is_built_in n) else true

-- one of the declarations binds the datatype prefix to the library
abbrev pub Binds : List Declaration → Text → Text → Type 0
Binds [] p l = ⊥
Binds (datatypes q m a ∷ ds) p l = ((q ≡ p) × (m ≡ l)) ⊎ Binds ds p l
Binds (d ∷ ds) p l = Binds ds p l

-- the declaration binds the prefix to a library whose type of the name isn't taken
abbrev pub binds_foreign : Declaration → Text → Text → Bool
binds_foreign (datatypes q l a) p n = bytes_eq q p && is_foreign l n
binds_foreign d p n = false

-- the prefix stands for a library whose type of the name isn't taken
abbrev pub IsForeign : List Declaration → Text → Text → Type 0
IsForeign ds p n = ((p ≡ codes "xsd") × (is_foreign xsd_uri n ≡ true)) ⊎ ((l : Text) × Binds ds p l × (is_foreign l n ≡ true))

abbrev pub Is : Feature → ℕ → Feature → ℕ → Type 0
Is g b f a = (f ≡ g) × (a ≡ b)

abbrev pub InPassed : Option Passed → Feature → ℕ → Type 0
InPassed None f a = ⊥
InPassed (Some h) f a = Is Feature.Inherit h.place f a

abbrev pub InParameters : List Parameter → Feature → ℕ → Type 0
InParameters [] f a = ⊥
InParameters (p ∷ ps) f a = Is Feature.Parameter p.place f a

module _ (fs : List SchemaFile) where
  -- a type that isn't taken, at its place
  abbrev pub InType : TypeName → Feature → ℕ → Type 0
  InType (prefixed_type p n b) f a = Is Feature.ForeignType b f a × IsForeign (declarations_at fs b) p n
  InType k f a = ⊥

  -- the feature f stands at the place a in the pattern
  abbrev mutual
    pub InPattern : Pattern → Feature → ℕ → Type 0
    InPattern (full.element c p b) f a = InPattern p f a
    InPattern (full.attribute c p b) f a = InPattern p f a
    InPattern (full.group ps) f a = InPatterns ps f a
    InPattern (full.choice ps) f a = InPatterns ps f a
    InPattern (full.interleave ps) f a = InPatterns ps f a
    InPattern (full.optional p) f a = InPattern p f a
    InPattern (full.zero_or_more p) f a = InPattern p f a
    InPattern (full.one_or_more p) f a = InPattern p f a
    InPattern (full.list p b) f a = Is Feature.List b f a ⊎ InPattern p f a
    InPattern (full.mixed p) f a = InPattern p f a
    InPattern (full.ref n b) f a = ⊥
    InPattern (full.parent n b) f a = ⊥
    InPattern full.empty f a = ⊥
    InPattern full.any_text f a = ⊥
    InPattern full.not_allowed f a = ⊥
    InPattern (full.value None l) f a = ⊥
    InPattern (full.value (Some k) l) f a = InType k f a
    InPattern (full.data_type k ps) f a = InType k f a ⊎ InParameters ps f a
    InPattern (full.data_except k ps p) f a = (InType k f a ⊎ InParameters ps f a) ⊎ InPattern p f a
    InPattern (full.external l h b) f a = Is Feature.External b f a ⊎ InPassed h f a
    InPattern (full.grammar is) f a = InItems is f a

    pub InPatterns : Patterns → Feature → ℕ → Type 0
    InPatterns no_pattern f a = ⊥
    InPatterns (more_patterns p ps) f a = InPattern p f a ⊎ InPatterns ps f a

    pub InItems : Items → Feature → ℕ → Type 0
    InItems no_item f a = ⊥
    InItems (more_items i is) f a = InItem i f a ⊎ InItems is f a

    pub InItem : Item → Feature → ℕ → Type 0
    InItem (start m p b) f a = InPattern p f a
    InItem (define n m p b) f a = InPattern p f a
    InItem (div is) f a = InItems is f a
    InItem (include l h is b) f a = (Is Feature.Include b f a ⊎ InPassed h f a) ⊎ InItems is f a

  abbrev pub InBody : Body → Feature → ℕ → Type 0
  InBody (pattern p) f a = InPattern p f a
  InBody (items is) f a = InItems is f a

-- where the places of the file begin with n
abbrev pub InUri : ℕ → Uri → Feature → ℕ → Type 0
InUri n (literal l) f a = ⊥
InUri n (inherit b) f a = Is Feature.Inherit (n + b) f a

abbrev pub InDeclaration : ℕ → Declaration → Feature → ℕ → Type 0
InDeclaration n (namespace_prefix p u b) f a = InUri n u f a
InDeclaration n (default_namespace p u b) f a = InUri n u f a
InDeclaration n (datatypes p l b) f a = ⊥

abbrev pub InDeclarations : ℕ → List Declaration → Feature → ℕ → Type 0
InDeclarations n [] f a = ⊥
InDeclarations n (d ∷ ds) f a = InDeclaration n d f a ⊎ InDeclarations n ds f a

abbrev pub InFiles : ℕ → List SchemaFile → Feature → ℕ → Type 0
InFiles n [] f a = ⊥
InFiles n (x ∷ xs) f a = InDeclarations n x.declarations f a ⊎ InFiles (n + suc x.length) xs f a

-- the feature f stands at the place a in the schema
abbrev pub HasFeature : Full → Feature → ℕ → Type 0
HasFeature t f a = InFiles 0 t.files f a ⊎ InBody t.files t.body f a

-- a reference to another file
abbrev pub IsReference : Feature → Type 0
IsReference Feature.External = ⊤
IsReference Feature.Include = ⊤
IsReference _ = ⊥

abbrev pub HasReference : Full → ℕ → Type 0
HasReference t a = (f : Feature) × IsReference f × HasFeature t f a
