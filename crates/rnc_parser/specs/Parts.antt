-- Parts of the grammar that the parser reads by functions of their own, beside the nonterminals.
use Rattle.std.specs.Prelude.{◌≡◌, ℕ, Bool, true, false, List, [], ◌∷◌, ◌++◌, map, Option, Some, None, ⊤}
use Rattle.std.specs.Prelude.{◌⊎◌}
use Rattle.rng_model.specs.Texts.{Text}
use Rattle.token_laws.specs.Tokens.{Symbol, Token, ident, symbol, Placed, ◌at◌, minus, equals, open_brace, close_brace}
use Rattle.grammar_laws.specs.Trees as tree
use Rattle.grammar_laws.specs.Trees.{TypeName, patterns_of, items_of}
use Rattle.grammar_laws.specs.Grammar.{IsAnyId, IsItemName, IsType, ReadsBlock, ReadsBlocks, ReadsLiteral, ReadsBareClass, ReadsClassExcept, ReadsBraces, ReadsBare, ReadsPrimary, ReadsParticle, ReadsMembers, ReadsPattern, ReadsItem, ReadsItems, HasNoInclude, IsInner, DerivesBody, Derives}
use Rattle.schema_tree.specs.declared.tree.Class.{Class}
use Rattle.schema_tree.specs.declared.tree.Pattern.{Pattern}
use Rattle.schema_tree.specs.declared.tree.Item.{Item}
use Rattle.schema_tree.specs.declared.tree.Body.{Body}
use Rattle.schema_tree.specs.declared.full.Parts.{Parts}
use Rattle.schema_tree.specs.Trees.{class_of, pattern_of, item_of, body_of, declaration_of}

-- a prefix, or none
abbrev pub ReadsPrefix : List Placed → List Placed → Option Text → Type 0
ReadsPrefix ts us None = us ≡ ts
ReadsPrefix ts us (Some p) = (t : Token) × (a : ℕ) × (ts ≡ t at a ∷ us) × IsAnyId t p

-- param = block* anyid "=" lit
abbrev pub ReadsParameter : List Placed → List Placed → tree.Parameter → Type 0
ReadsParameter ts us p = (t : Token) × (b : ℕ) × (vs : List Placed) × ReadsBlocks ts (t at p.place ∷ symbol equals at b ∷ vs) × IsAnyId t p.name × ReadsLiteral vs us p.literal

-- a bare name class, and where it may stand one with an except
abbrev pub ReadsOpenClass : Bool → List Placed → List Placed → tree.Class → Type 0
ReadsOpenClass false ts us c = ReadsBareClass ts us c
ReadsOpenClass true ts us c = ReadsBareClass ts us c ⊎ ReadsClassExcept ts us c

-- the operand of a name class's except, or none
abbrev pub ReadsClassOperand : Bool → List Placed → List Placed → Option Class → Type 0
ReadsClassOperand e ts us None = us ≡ ts
ReadsClassOperand false ts us (Some c) = ⊥
ReadsClassOperand true ts us (Some c) = (a : ℕ) × (vs : List Placed) × (ws : List Placed) × (ts ≡ symbol minus at a ∷ vs) × ReadsBlocks vs ws × ReadsBareClass ws us (class_of c)

-- a pattern in braces
abbrev pub ReadsBraced : List Placed → List Placed → tree.Pattern → Type 0
ReadsBraced ts us p = (a : ℕ) × (vs : List Placed) × (b : ℕ) × (ts ≡ symbol open_brace at a ∷ vs) × ReadsPattern vs (symbol close_brace at b ∷ us) p

-- a datatype with an except
pub record ReadsExcept (ts us : List Placed) (p : tree.Pattern) : Type 0 where
  pub of : TypeName
  pub parameters : List tree.Parameter
  pub operand : tree.Pattern
  pub token : Token
  pub place : ℕ
  pub sign : ℕ
  pub behind : List Placed
  pub braces : List Placed
  pub blocks : List Placed
  pub begins : ts ≡ token at place ∷ behind
  pub type : IsType token place of
  pub given : ReadsBraces behind (symbol minus at sign ∷ braces) parameters
  pub annotated : ReadsBlocks braces blocks
  pub bare : ReadsBare blocks us operand
  pub made : p ≡ tree.Pattern.data_except of parameters operand

-- a bare pattern, and where it may stand a datatype with an except
abbrev pub ReadsOpen : Bool → List Placed → List Placed → tree.Pattern → Type 0
ReadsOpen false ts us p = ReadsBare ts us p
ReadsOpen true ts us p = ReadsBare ts us p ⊎ ReadsExcept ts us p

-- the operand of a datatype's except, or none
abbrev pub ReadsOperand : Bool → List Placed → List Placed → Option Pattern → Type 0
ReadsOperand e ts us None = us ≡ ts
ReadsOperand false ts us (Some p) = ⊥
ReadsOperand true ts us (Some p) = (a : ℕ) × (vs : List Placed) × (ws : List Placed) × (ts ≡ symbol minus at a ∷ vs) × ReadsBlocks vs ws × ReadsBare ws us (pattern_of p)

-- what stands behind a type
abbrev pub BehindType : Bool → TypeName → List Placed → List Placed → tree.Pattern → Type 0
BehindType e of ts us p = (t : Token) (a : ℕ) → IsType t a of → ReadsOpen e (t at a ∷ ts) us p

-- what stands behind a primary pattern makes a particle of it
abbrev pub BehindPrimary : tree.Pattern → List Placed → List Placed → tree.Pattern → Type 0
BehindPrimary p ts us q = (start : List Placed) → ReadsPrimary start ts p → ReadsParticle start us q

-- what stands behind a particle makes a pattern of it
abbrev pub BehindParticle : tree.Pattern → List Placed → List Placed → tree.Pattern → Type 0
BehindParticle p ts us q = (start : List Placed) → ReadsParticle start ts p → ReadsPattern start us q

-- what stands behind the sign s makes a particle of the primary pattern before it
abbrev pub BehindPostfix : Symbol → tree.Pattern → List Placed → List Placed → tree.Pattern → Type 0
BehindPostfix s p ts us q = (start : List Placed) (a : ℕ) → ReadsPrimary start (symbol s at a ∷ ts) p → ReadsParticle start us q

-- what stands behind the sign s makes a pattern of the particle before it
abbrev pub BehindConnector : Symbol → tree.Pattern → List Placed → List Placed → tree.Pattern → Type 0
BehindConnector s p ts us q = (start : List Placed) (a : ℕ) → ReadsParticle start (symbol s at a ∷ ts) p → ReadsPattern start us q

-- what stands behind a bare pattern makes a pattern of it
abbrev pub BehindBare : tree.Pattern → List Placed → List Placed → tree.Pattern → Type 0
BehindBare p ts us q = (start vs : List Placed) → ReadsBlocks start vs → ReadsOpen true vs ts p → ReadsPattern start us q

-- the members behind a sign, with the first before them
abbrev pub ReadsMore : Symbol → tree.Pattern → List Placed → List Placed → List tree.Pattern → Type 0
ReadsMore s p ts us ps = (qs : List tree.Pattern) × (ps ≡ p ∷ qs) × ReadsMembers s ts us (patterns_of qs)

-- in an include's braces there is no include
abbrev pub AreInner : Bool → tree.Items → Type 0
AreInner false is = ⊤
AreInner true is = HasNoInclude is

abbrev pub IsInnerItem : Bool → tree.Item → Type 0
IsInnerItem false i = ⊤
IsInnerItem true i = IsInner i

-- an item without annotations before it
abbrev pub ReadsOneItem : Bool → List Placed → List Placed → tree.Item → Type 0
ReadsOneItem inner ts us i = ReadsItem ts us i × IsInnerItem inner i

-- an item, or an annotation in its place
abbrev pub ReadsNext : Bool → List Placed → List Placed → Option Item → Type 0
ReadsNext inner ts us (Some i) = ((vs : List Placed) × ReadsBlocks ts vs × ReadsItem vs us (item_of i)) × IsInnerItem inner (item_of i)
ReadsNext inner ts us None = (t : Token) × (a : ℕ) × (vs : List Placed) × (ts ≡ t at a ∷ vs) × IsItemName t × ReadsBlock vs us

-- items behind others
abbrev pub ReadsMoreItems : Bool → List tree.Item → List Placed → List Placed → List tree.Item → Type 0
ReadsMoreItems inner is ts us js = (ks : List tree.Item) × (js ≡ is ++ ks) × ReadsItems ts us (items_of ks) × AreInner inner (items_of ks)

-- a body, where nothing is left behind it
abbrev pub ReadsBody : List Placed → List Placed → Body → Type 0
ReadsBody ts us b = us ≡ [] → DerivesBody ts (body_of b)

-- what stands behind the name before a body's first assignment sign, and before it annotations
abbrev pub BehindName : Text → ℕ → List Placed → List Placed → Body → Type 0
BehindName n a ts us b = (start : List Placed) → ReadsBlocks start (ident n at a ∷ ts) → us ≡ [] → DerivesBody start (body_of b)

abbrev pub tree_of_file : Parts → tree.File
tree_of_file f = record { declarations = map declaration_of f.declarations; body = body_of f.body }

-- the whole of a file
abbrev pub DerivesFile : List Placed → List Placed → Parts → Type 0
DerivesFile ts us f = Derives ts (tree_of_file f)

-- what stands behind the annotations before a body
abbrev pub BehindBlocks : List Placed → List Placed → Body → Type 0
BehindBlocks ts us b = (start : List Placed) → ReadsBlocks start ts → us ≡ [] → DerivesBody start (body_of b)
