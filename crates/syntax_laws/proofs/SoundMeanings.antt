-- What each part that the reader expects stands for: the tokens of ts before us, by the grammar's own relations.
use Rattle.std.specs.Prelude.{ℕ, Bool, true, false, List, [], ◌∷◌, Option, Some, None, ⊤}
use Rattle.rng_model.specs.Texts.{Text}
use Rattle.token_laws.specs.Tokens.{Keyword, Symbol, Token, keyword, ident, cname, ns_name, segment, symbol, Placed, ◌at◌, star, equals}
use Rattle.grammar_laws.specs.Trees.{Uri, Declaration, TypeName, Parameter, Passed, Method, Class, Pattern, Patterns, Item, Items}
use Rattle.grammar_laws.specs.Grammar.{IsAnyId, IsAnnotationName, IsAssign, IsType, ReadsLiteral, ReadsFilling, ReadsBlock, ReadsBlocks, ReadsFollow, ReadsUri, ReadsDeclaration, ReadsDeclarations, ReadsClass, ReadsSimple, ReadsBareClass, ReadsParameters, ReadsBraces, ReadsInherit, ReadsPattern, ReadsMembers, ReadsParticle, ReadsPrimary, ReadsBare, ReadsItems, ReadsItem, ReadsInner, HasNoInclude, IsInner}
use Rattle.syntax_laws.specs.Expecting.{Part, Move, pass, become, refuse}
use Rattle.syntax_laws.specs.Expecting as part

-- one token, or none
pub data ReadsSign (s : Symbol) : List Placed → List Placed → Type 0 where
  sign : {a : ℕ} {ts : List Placed} → ReadsSign s (symbol s at a ∷ ts) ts

pub data ReadsWord (k : Keyword) : List Placed → List Placed → Type 0 where
  word : {a : ℕ} {ts : List Placed} → ReadsWord k (keyword k at a ∷ ts) ts

pub data ReadsName : List Placed → List Placed → Type 0 where
  name : {t : Token} {a : ℕ} {ts : List Placed} (n : Text) → IsAnyId t n → ReadsName (t at a ∷ ts) ts

pub data ReadsPlainName : List Placed → List Placed → Type 0 where
  plain_name : {n : Text} {a : ℕ} {ts : List Placed} → ReadsPlainName (ident n at a ∷ ts) ts

pub data ReadsPrefixedName : List Placed → List Placed → Type 0 where
  prefixed_name : {p n : Text} {a : ℕ} {ts : List Placed} → ReadsPrefixedName (cname p n at a ∷ ts) ts

pub data ReadsNamespaceName : List Placed → List Placed → Type 0 where
  namespace_name : {p : Text} {a : ℕ} {ts : List Placed} → ReadsNamespaceName (ns_name p at a ∷ ts) ts

pub data ReadsAnnotationName : List Placed → List Placed → Type 0 where
  annotation_name : {t : Token} {a : ℕ} {ts : List Placed} → IsAnnotationName t → ReadsAnnotationName (t at a ∷ ts) ts

pub data ReadsSegment : List Placed → List Placed → Type 0 where
  one_segment : {s : Text} {a : ℕ} {ts : List Placed} → ReadsSegment (segment s at a ∷ ts) ts

pub data ReadsTypeName : List Placed → List Placed → Type 0 where
  type_name : {t : Token} {a : ℕ} {of : TypeName} {ts : List Placed} → IsType t a of → ReadsTypeName (t at a ∷ ts) ts

pub data ReadsAssign : List Placed → List Placed → Type 0 where
  assign : {s : Symbol} {m : Method} {a : ℕ} {ts : List Placed} → IsAssign s m → ReadsAssign (symbol s at a ∷ ts) ts

pub data ReadsNothing : List Placed → List Placed → Type 0 where
  nothing : {ts : List Placed} → ReadsNothing ts ts

-- a name or none
pub data ReadsDefaultPrefix : List Placed → List Placed → Type 0 where
  no_prefix : {ts : List Placed} → ReadsDefaultPrefix ts ts
  a_prefix : {t : Token} {a : ℕ} {ts : List Placed} (n : Text) → IsAnyId t n → ReadsDefaultPrefix (t at a ∷ ts) ts

-- `{ pattern }`
pub data ReadsBraced : List Placed → List Placed → Type 0 where
  braced : {a b : ℕ} {ts us : List Placed} {p : Pattern} →
      ReadsPattern ts (symbol Symbol.close_brace at b ∷ us) p → ReadsBraced (symbol Symbol.open_brace at a ∷ ts) us

pub data ReadsParameter : List Placed → List Placed → Type 0 where
  parameter : {t : Token} {l : Text} {a b : ℕ} {ts us vs : List Placed} (n : Text) →
      ReadsBlocks ts (t at a ∷ symbol equals at b ∷ us) → IsAnyId t n → ReadsLiteral us vs l → ReadsParameter ts vs

-- what stands behind a segment
abbrev pub BehindSegment : List Placed → List Placed → Type 0
BehindSegment ts us = (s : Text) (a : ℕ) → (l : Text) × ReadsLiteral (segment s at a ∷ ts) us l

-- what stands behind a simple name class
abbrev pub BehindSimple : List Placed → List Placed → Type 0
BehindSimple ts us = (start : List Placed) (c : Class) → ReadsSimple start ts c → (d : Class) × ReadsClass start us d

-- a name class between blocks and what follows it, or as an operand
abbrev pub IsBareClass : Bool → List Placed → List Placed → Type 0
IsBareClass false ts us = (c : Class) × ReadsBareClass ts us c
IsBareClass true ts us = (start ws : List Placed) → ReadsBlocks start ts → ReadsFollow us ws → (c : Class) × ReadsSimple start ws c

-- what stands behind `*` and behind `p:*`
abbrev pub BehindAny : Bool → List Placed → List Placed → Type 0
BehindAny e ts us = ((a : ℕ) → IsBareClass e (symbol star at a ∷ ts) us) × ((p : Text) (a : ℕ) → IsBareClass e (ns_name p at a ∷ ts) us)

-- what stands behind a particle
abbrev pub BehindParticle : List Placed → List Placed → Type 0
BehindParticle ts us = (start : List Placed) (p : Pattern) → ReadsParticle start ts p → (q : Pattern) × ReadsPattern start us q

-- what stands behind a particle between the signs s
abbrev pub BehindMember : Symbol → List Placed → List Placed → Type 0
BehindMember s ts us = (start : List Placed) (p : Pattern) → ReadsParticle start ts p → (ps : Patterns) × ReadsMembers s start us ps

-- what stands behind a primary pattern
abbrev pub BehindPrimary : List Placed → List Placed → Type 0
BehindPrimary ts us = (start : List Placed) (p : Pattern) → ReadsPrimary start ts p → (q : Pattern) × ReadsParticle start us q

-- a bare pattern between blocks and what follows it, or as an operand
abbrev pub IsBare : Bool → List Placed → List Placed → Type 0
IsBare false ts us = (p : Pattern) × ReadsBare ts us p
IsBare true ts us = (start ws : List Placed) → ReadsBlocks start ts → ReadsFollow us ws → (p : Pattern) × ReadsPrimary start ws p

-- what stands behind the name of a type
abbrev pub BehindType : Bool → List Placed → List Placed → Type 0
BehindType e ts us = (t : Token) (a : ℕ) (of : TypeName) → IsType t a of → IsBare e (t at a ∷ ts) us

-- what stands behind the parameters of a type
abbrev pub BehindBraces : Bool → List Placed → List Placed → Type 0
BehindBraces e ts us = (t : Token) (a : ℕ) (of : TypeName) (start : List Placed) (ps : List Parameter) → IsType t a of → ReadsBraces start ts ps → IsBare e (t at a ∷ start) us

-- in an include's braces there is no include
abbrev pub AreInner : Bool → Items → Type 0
AreInner false is = ⊤
AreInner true is = HasNoInclude is

abbrev pub IsInnerItem : Bool → Item → Type 0
IsInnerItem false i = ⊤
IsInnerItem true i = IsInner i

abbrev pub AreItems : Bool → List Placed → List Placed → Type 0
AreItems i ts us = (is : Items) × ReadsItems ts us is × AreInner i is

-- an item, or an annotation in its place, before others
abbrev pub IsNextItem : Bool → List Placed → List Placed → Type 0
IsNextItem i ts us = (ws : List Placed) → AreItems i us ws → AreItems i ts ws

-- what stands behind the name of an item
abbrev pub BehindItemName : List Placed → List Placed → Type 0
BehindItemName ts us = (n : Text) (a : ℕ) (i : Bool) → IsNextItem i (ident n at a ∷ ts) us

pub data ReadsBody : List Placed → List Placed → Type 0 where
  a_pattern : {ts us : List Placed} {p : Pattern} → ReadsPattern ts us p → ReadsBody ts us
  some_items : {ts us : List Placed} {is : Items} → ReadsItems ts us is → ReadsBody ts us

-- what stands behind the name that a body begins with, and with blocks before it
abbrev pub BehindFirstName : List Placed → List Placed → Type 0
BehindFirstName ts us = (n : Text) (a : ℕ) → ReadsBody (ident n at a ∷ ts) us

abbrev pub BehindFirstType : List Placed → List Placed → Type 0
BehindFirstType ts us = (p n : Text) (a : ℕ) → ReadsBody (cname p n at a ∷ ts) us

abbrev pub BehindFirstBlocks : List Placed → List Placed → Type 0
BehindFirstBlocks ts us = (start : List Placed) → ReadsBlocks start ts → ReadsBody start us

abbrev pub BehindAnnotatedName : List Placed → List Placed → Type 0
BehindAnnotatedName ts us = (start : List Placed) (n : Text) (a : ℕ) → ReadsBlocks start (ident n at a ∷ ts) → ReadsBody start us

-- the tokens of ts before us are the part
abbrev pub Means : Part → List Placed → List Placed → Type 0
Means (part.sign s) ts us = ReadsSign s ts us
Means (part.word k) ts us = ReadsWord k ts us
Means part.name ts us = ReadsName ts us
Means part.plain_name ts us = ReadsPlainName ts us
Means part.prefixed_name ts us = ReadsPrefixedName ts us
Means part.namespace_name ts us = ReadsNamespaceName ts us
Means part.annotation_name ts us = ReadsAnnotationName ts us
Means part.one_segment ts us = ReadsSegment ts us
Means part.type_name ts us = ReadsTypeName ts us
Means part.assign ts us = ReadsAssign ts us
Means part.end ts us = ReadsNothing ts us
Means part.literal ts us = (l : Text) × ReadsLiteral ts us l
Means part.more_literal ts us = BehindSegment ts us
Means part.filling ts us = ReadsFilling ts us
Means part.block ts us = ReadsBlock ts us
Means part.blocks ts us = ReadsBlocks ts us
Means part.follow ts us = ReadsFollow ts us
Means part.uri ts us = (u : Uri) × ReadsUri ts us u
Means part.default_prefix ts us = ReadsDefaultPrefix ts us
Means part.declaration ts us = (d : Declaration) × ReadsDeclaration ts us d
Means part.declarations ts us = (ds : List Declaration) × ReadsDeclarations ts us ds
Means part.class ts us = (c : Class) × ReadsClass ts us c
Means part.more_classes ts us = BehindSimple ts us
Means part.simple ts us = (c : Class) × ReadsSimple ts us c
Means (part.bare_class e) ts us = IsBareClass e ts us
Means (part.class_except e) ts us = BehindAny e ts us
Means part.parameter ts us = ReadsParameter ts us
Means part.parameters ts us = (ps : List Parameter) × ReadsParameters ts us ps
Means part.braces ts us = (ps : List Parameter) × ReadsBraces ts us ps
Means part.passed ts us = (h : Option Passed) × ReadsInherit ts us h
Means part.pattern ts us = (p : Pattern) × ReadsPattern ts us p
Means part.more_patterns ts us = BehindParticle ts us
Means (part.members s) ts us = (ps : Patterns) × ReadsMembers s ts us ps
Means (part.more_members s) ts us = BehindMember s ts us
Means part.particle ts us = (p : Pattern) × ReadsParticle ts us p
Means part.postfix ts us = BehindPrimary ts us
Means part.primary ts us = (p : Pattern) × ReadsPrimary ts us p
Means (part.bare e) ts us = IsBare e ts us
Means (part.typed e) ts us = BehindType e ts us
Means (part.except e) ts us = BehindBraces e ts us
Means part.braced ts us = ReadsBraced ts us
Means (part.item i) ts us = (it : Item) × ReadsItem ts us it × IsInnerItem i it
Means part.named_item ts us = (i : Bool) → IsNextItem i ts us
Means part.behind_name ts us = BehindItemName ts us
Means (part.next_item i) ts us = IsNextItem i ts us
Means (part.items i) ts us = AreItems i ts us
Means part.inner ts us = (is : Items) × ReadsInner ts us is
Means part.body ts us = ReadsBody ts us
Means part.named_body ts us = BehindFirstName ts us
Means part.typed_body ts us = BehindFirstType ts us
Means part.annotated_body ts us = BehindFirstBlocks ts us
Means part.annotated_name ts us = BehindAnnotatedName ts us

-- the tokens of ts before us are the parts, one behind the other
pub data AllMean : List Part → List Placed → List Placed → Type 0 where
  done : {ts : List Placed} → AllMean [] ts ts
  also : {x : Part} {xs : List Part} {ts us vs : List Placed} → Means x ts us → AllMean xs us vs → AllMean (x ∷ xs) ts vs

-- what the move makes of the part x, where o is next, is the part
abbrev pub IsSound : Part → Move → Option Token → Type 0
IsSound x (pass xs) (Some t) = (a : ℕ) (ts us : List Placed) → AllMean xs ts us → Means x (t at a ∷ ts) us
IsSound x (pass xs) None = ⊤
IsSound x (become xs) o = (ts us : List Placed) → AllMean xs ts us → Means x ts us
IsSound x refuse o = ⊤
