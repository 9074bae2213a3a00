-- The grammar of the compact syntax: Annex C of RELAX NG, in this project's profile. `ReadsX ts us x`: the tokens of ts
-- before us derive the part x of the tree. Each constructor is one form of the production that stands above its relation.
use Rattle.std.specs.Prelude.{◌≡◌, ℕ, List, [], ◌∷◌, ◌++◌, Option, Some, None, ⊤}
use Rattle.rng_model.specs.Texts.{Text}
use Rattle.token_laws.specs.Tokens.{Keyword, Symbol, Token, keyword, ident, cname, ns_name, segment, symbol, Placed, ◌at◌, open_brace, close_brace, open_paren, close_paren, open_bracket, close_bracket, equals, bar_equals, ampersand_equals, comma, ampersand, bar, question, star, plus, minus, tilde, follows}
use Rattle.token_laws.specs.Tokens as word
use Rattle.token_laws.specs.Spellings.{keyword_text}
use Rattle.grammar_laws.specs.Trees.{Uri, Declaration, TypeName, built_string, built_token, Parameter, Passed, Method, Class, Classes, Pattern, Patterns, no_pattern, more_patterns, Item, Items, no_item, more_items, Body, File}

-- lit = Segment ( "~" Segment )*
pub data ReadsLiteral : List Placed → List Placed → Text → Type 0 where
  one : {s : Text} {a : ℕ} {ts : List Placed} → ReadsLiteral (segment s at a ∷ ts) ts s
  joined : {s l w : Text} {a b : ℕ} {ts us : List Placed} → ReadsLiteral ts us l → w ≡ s ++ l → ReadsLiteral (segment s at a ∷ symbol tilde at b ∷ ts) us w

-- anyid = Ident | Keyword
abbrev pub IsAnyId : Token → Text → Type 0
IsAnyId (keyword k) n = n ≡ keyword_text k
IsAnyId (ident m) n = n ≡ m
IsAnyId _ n = ⊥

-- what stands before an annotation's block: anyid | CName
abbrev pub IsAnnotationName : Token → Type 0
IsAnnotationName (keyword k) = ⊤
IsAnnotationName (ident n) = ⊤
IsAnnotationName (cname p n) = ⊤
IsAnnotationName _ = ⊥

-- what stands before an item's block: Ident | CName
abbrev pub IsItemName : Token → Type 0
IsItemName (ident n) = ⊤
IsItemName (cname p n) = ⊤
IsItemName _ = ⊥

abbrev pub IsNoBracket : Token → Type 0
IsNoBracket (symbol open_bracket) = ⊥
IsNoBracket (symbol close_bracket) = ⊥
IsNoBracket _ = ⊤

-- tokens and blocks, up to the closing bracket and with it
pub data ReadsFilling : List Placed → List Placed → Type 0 where
  closed : {a : ℕ} {ts : List Placed} → ReadsFilling (symbol close_bracket at a ∷ ts) ts
  passed : {t : Token} {a : ℕ} {ts us : List Placed} → IsNoBracket t → ReadsFilling ts us → ReadsFilling (t at a ∷ ts) us
  nested : {a : ℕ} {ts us vs : List Placed} → ReadsFilling ts us → ReadsFilling us vs → ReadsFilling (symbol open_bracket at a ∷ ts) vs

-- block = "[" tokens and blocks "]"
pub data ReadsBlock : List Placed → List Placed → Type 0 where
  block : {a : ℕ} {ts us : List Placed} → ReadsFilling ts us → ReadsBlock (symbol open_bracket at a ∷ ts) us

-- block*
pub data ReadsBlocks : List Placed → List Placed → Type 0 where
  none : {ts : List Placed} → ReadsBlocks ts ts
  more : {ts us vs : List Placed} → ReadsBlock ts us → ReadsBlocks us vs → ReadsBlocks ts vs

-- follow = ( ">>" ( anyid | CName ) block )*
pub data ReadsFollow : List Placed → List Placed → Type 0 where
  none : {ts : List Placed} → ReadsFollow ts ts
  more : {t : Token} {a b : ℕ} {ts us vs : List Placed} → IsAnnotationName t → ReadsBlock ts us → ReadsFollow us vs → ReadsFollow (symbol follows at a ∷ t at b ∷ ts) vs

-- uri = lit | "inherit"
pub data ReadsUri : List Placed → List Placed → Uri → Type 0 where
  literal : {ts us : List Placed} {l : Text} → ReadsLiteral ts us l → ReadsUri ts us (Uri.literal l)
  inherit : {a : ℕ} {ts : List Placed} → ReadsUri (keyword word.inherit at a ∷ ts) ts (Uri.inherit a)

-- decl = "namespace" anyid "=" uri | "default" "namespace" [ anyid ] "=" uri | "datatypes" anyid "=" lit
pub data ReadsDeclaration : List Placed → List Placed → Declaration → Type 0 where
  namespace : {t : Token} {p : Text} {u : Uri} {a b c : ℕ} {ts us : List Placed} →
      IsAnyId t p → ReadsUri ts us u →
      ReadsDeclaration (keyword word.namespace at a ∷ t at b ∷ symbol equals at c ∷ ts) us (Declaration.namespace_prefix p u a)
  default : {u : Uri} {a b c : ℕ} {ts us : List Placed} →
      ReadsUri ts us u →
      ReadsDeclaration (keyword word.default at a ∷ keyword word.namespace at b ∷ symbol equals at c ∷ ts) us (Declaration.default_namespace None u a)
  default_prefix : {t : Token} {p : Text} {u : Uri} {a b c d : ℕ} {ts us : List Placed} →
      IsAnyId t p → ReadsUri ts us u →
      ReadsDeclaration (keyword word.default at a ∷ keyword word.namespace at b ∷ t at c ∷ symbol equals at d ∷ ts) us (Declaration.default_namespace (Some p) u a)
  datatypes : {t : Token} {p l : Text} {a b c : ℕ} {ts us : List Placed} →
      IsAnyId t p → ReadsLiteral ts us l →
      ReadsDeclaration (keyword word.datatypes at a ∷ t at b ∷ symbol equals at c ∷ ts) us (Declaration.datatypes p l a)

-- decl*
pub data ReadsDeclarations : List Placed → List Placed → List Declaration → Type 0 where
  none : {ts : List Placed} → ReadsDeclarations ts ts []
  more : {ts us vs : List Placed} {d : Declaration} {ds : List Declaration} →
      ReadsDeclaration ts us d → ReadsDeclarations us vs ds → ReadsDeclarations ts vs (d ∷ ds)

-- the name classes
mutual
  -- nc = simple ( "|" simple )*
  pub data ReadsClass : List Placed → List Placed → Class → Type 0 where
    single : {ts us : List Placed} {c : Class} → ReadsSimple ts us c → ReadsClass ts us c
    choice : {a : ℕ} {ts us vs : List Placed} {c : Class} {cs : Classes} →
        ReadsSimple ts (symbol bar at a ∷ us) c → ReadsAlternatives us vs cs → ReadsClass ts vs (Class.choice_class (Classes.more_classes c cs))

  -- simple ( "|" simple )*, as a list
  pub data ReadsAlternatives : List Placed → List Placed → Classes → Type 0 where
    last : {ts us : List Placed} {c : Class} → ReadsSimple ts us c → ReadsAlternatives ts us (Classes.more_classes c Classes.no_classes)
    more : {a : ℕ} {ts us vs : List Placed} {c : Class} {cs : Classes} →
        ReadsSimple ts (symbol bar at a ∷ us) c → ReadsAlternatives us vs cs → ReadsAlternatives ts vs (Classes.more_classes c cs)

  -- simple = block* barenc follow
  pub data ReadsSimple : List Placed → List Placed → Class → Type 0 where
    simple : {ts us vs ws : List Placed} {c : Class} →
        ReadsBlocks ts us → ReadsBareClass us vs c → ReadsFollow vs ws → ReadsSimple ts ws c
    except : {ts us vs ws : List Placed} {c : Class} →
        ReadsBlocks ts us → ReadsClassExcept us vs c → ReadsFollow vs ws → ReadsSimple ts ws c

  -- barenc without an except = anyid | CName | "(" nc ")" | "*" | NsName
  pub data ReadsBareClass : List Placed → List Placed → Class → Type 0 where
    plain : {t : Token} {n : Text} {a : ℕ} {ts : List Placed} → IsAnyId t n → ReadsBareClass (t at a ∷ ts) ts (Class.plain n a)
    prefixed : {p n : Text} {a : ℕ} {ts : List Placed} → ReadsBareClass (cname p n at a ∷ ts) ts (Class.prefixed p n a)
    parentheses : {a b : ℕ} {ts us : List Placed} {c : Class} →
        ReadsClass ts (symbol close_paren at b ∷ us) c → ReadsBareClass (symbol open_paren at a ∷ ts) us c
    any : {a : ℕ} {ts : List Placed} → ReadsBareClass (symbol star at a ∷ ts) ts (Class.any a)
    namespace : {p : Text} {a : ℕ} {ts : List Placed} → ReadsBareClass (ns_name p at a ∷ ts) ts (Class.namespace p a)

  -- barenc with an except = "*" "-" block* barenc | NsName "-" block* barenc, where the last has no except of its own
  pub data ReadsClassExcept : List Placed → List Placed → Class → Type 0 where
    any_except : {a b : ℕ} {ts us vs : List Placed} {c : Class} →
        ReadsBlocks ts us → ReadsBareClass us vs c → ReadsClassExcept (symbol star at a ∷ symbol minus at b ∷ ts) vs (Class.any_except c a)
    namespace_except : {p : Text} {a b : ℕ} {ts us vs : List Placed} {c : Class} →
        ReadsBlocks ts us → ReadsBareClass us vs c → ReadsClassExcept (ns_name p at a ∷ symbol minus at b ∷ ts) vs (Class.namespace_except p c a)

-- type = CName | "string" | "token"
pub data IsType : Token → ℕ → TypeName → Type 0 where
  prefixed : {p n : Text} {a : ℕ} → IsType (cname p n) a (TypeName.prefixed_type p n a)
  string : {a : ℕ} → IsType (keyword word.string) a (built_string a)
  token : {a : ℕ} → IsType (keyword word.token) a (built_token a)

-- param*, where param = block* anyid "=" lit
pub data ReadsParameters : List Placed → List Placed → List Parameter → Type 0 where
  none : {ts : List Placed} → ReadsParameters ts ts []
  more : {t : Token} {n l : Text} {a b : ℕ} {ts us vs ws : List Placed} {ps : List Parameter} →
      ReadsBlocks ts (t at a ∷ symbol equals at b ∷ us) → IsAnyId t n → ReadsLiteral us vs l → ReadsParameters vs ws ps →
      ReadsParameters ts ws (record { name = n; literal = l; place = a } ∷ ps)

-- [ "{" param* "}" ]
pub data ReadsBraces : List Placed → List Placed → List Parameter → Type 0 where
  none : {ts : List Placed} → ReadsBraces ts ts []
  braces : {a b : ℕ} {ts us : List Placed} {ps : List Parameter} →
      ReadsParameters ts (symbol close_brace at b ∷ us) ps → ReadsBraces (symbol open_brace at a ∷ ts) us ps

-- [ inh ], where inh = "inherit" "=" anyid
pub data ReadsInherit : List Placed → List Placed → Option Passed → Type 0 where
  none : {ts : List Placed} → ReadsInherit ts ts None
  passed : {t : Token} {p : Text} {a b c : ℕ} {ts : List Placed} →
      IsAnyId t p → ReadsInherit (keyword word.inherit at a ∷ symbol equals at b ∷ t at c ∷ ts) ts (Some (record { prefix = p; place = a }))

-- the sign between the members of a pattern, and what it makes of them
pub data IsConnector : Symbol → (Patterns → Pattern) → Type 0 where
  group : IsConnector Symbol.comma Pattern.group
  choice : IsConnector Symbol.bar Pattern.choice
  interleave : IsConnector Symbol.ampersand Pattern.interleave

-- "?" | "*" | "+", and what it makes of the pattern before it
pub data IsPostfix : Symbol → (Pattern → Pattern) → Type 0 where
  optional : IsPostfix Symbol.question Pattern.optional
  zero_or_more : IsPostfix Symbol.star Pattern.zero_or_more
  one_or_more : IsPostfix Symbol.plus Pattern.one_or_more

-- assign = "=" | "|=" | "&="
pub data IsAssign : Symbol → Method → Type 0 where
  plain : IsAssign equals Method.Plain
  choice : IsAssign bar_equals Method.Choice
  interleave : IsAssign ampersand_equals Method.Interleave

-- no item, also in a div, is an include
abbrev mutual
  pub HasNoInclude : Items → Type 0
  HasNoInclude no_item = ⊤
  HasNoInclude (more_items i is) = IsInner i × HasNoInclude is

  pub IsInner : Item → Type 0
  IsInner (Item.start m p a) = ⊤
  IsInner (Item.define n m p a) = ⊤
  IsInner (Item.div is) = HasNoInclude is
  IsInner (Item.include l h is a) = ⊥

-- the patterns and items
mutual
  -- pattern = particle | particle ( "," particle )+ | particle ( "|" particle )+ | particle ( "&" particle )+
  pub data ReadsPattern : List Placed → List Placed → Pattern → Type 0 where
    single : {ts us : List Placed} {p : Pattern} → ReadsParticle ts us p → ReadsPattern ts us p
    chain : {s : Symbol} {join : Patterns → Pattern} {a : ℕ} {ts us vs : List Placed} {p q : Pattern} {ps : Patterns} →
        IsConnector s join → ReadsParticle ts (symbol s at a ∷ us) p → ReadsMembers s us vs ps → q ≡ join (more_patterns p ps) → ReadsPattern ts vs q

  -- particle ( s particle )*, as a list
  pub data ReadsMembers : Symbol → List Placed → List Placed → Patterns → Type 0 where
    last : {s : Symbol} {ts us : List Placed} {p : Pattern} → ReadsParticle ts us p → ReadsMembers s ts us (more_patterns p no_pattern)
    more : {s : Symbol} {a : ℕ} {ts us vs : List Placed} {p : Pattern} {ps : Patterns} →
        ReadsParticle ts (symbol s at a ∷ us) p → ReadsMembers s us vs ps → ReadsMembers s ts vs (more_patterns p ps)

  -- particle = primary [ ( "?" | "*" | "+" ) follow ]
  pub data ReadsParticle : List Placed → List Placed → Pattern → Type 0 where
    once : {ts us : List Placed} {p : Pattern} → ReadsPrimary ts us p → ReadsParticle ts us p
    postfix : {s : Symbol} {repeat : Pattern → Pattern} {a : ℕ} {ts us vs : List Placed} {p q : Pattern} →
        IsPostfix s repeat → ReadsPrimary ts (symbol s at a ∷ us) p → ReadsFollow us vs → q ≡ repeat p → ReadsParticle ts vs q

  -- primary = block* bare follow
  pub data ReadsPrimary : List Placed → List Placed → Pattern → Type 0 where
    primary : {ts us vs ws : List Placed} {p : Pattern} →
        ReadsBlocks ts us → ReadsBare us vs p → ReadsFollow vs ws → ReadsPrimary ts ws p
    except : {t : Token} {of : TypeName} {a b : ℕ} {ps : List Parameter} {ts us vs ws xs ys : List Placed} {p : Pattern} →
        ReadsBlocks ts (t at a ∷ us) → IsType t a of → ReadsBraces us (symbol minus at b ∷ vs) ps → ReadsBlocks vs ws → ReadsBare ws xs p → ReadsFollow xs ys →
        ReadsPrimary ts ys (Pattern.data_except of ps p)

  -- bare without an except
  pub data ReadsBare : List Placed → List Placed → Pattern → Type 0 where
    element : {a b c : ℕ} {ts us vs : List Placed} {n : Class} {p : Pattern} →
        ReadsClass ts (symbol open_brace at b ∷ us) n → ReadsPattern us (symbol close_brace at c ∷ vs) p →
        ReadsBare (keyword word.element at a ∷ ts) vs (Pattern.element n p a)
    attribute : {a b c : ℕ} {ts us vs : List Placed} {n : Class} {p : Pattern} →
        ReadsClass ts (symbol open_brace at b ∷ us) n → ReadsPattern us (symbol close_brace at c ∷ vs) p →
        ReadsBare (keyword word.attribute at a ∷ ts) vs (Pattern.attribute n p a)
    list : {a b c : ℕ} {ts us : List Placed} {p : Pattern} →
        ReadsPattern ts (symbol close_brace at c ∷ us) p →
        ReadsBare (keyword word.list at a ∷ symbol open_brace at b ∷ ts) us (Pattern.list p a)
    mixed : {a b c : ℕ} {ts us : List Placed} {p : Pattern} →
        ReadsPattern ts (symbol close_brace at c ∷ us) p →
        ReadsBare (keyword word.mixed at a ∷ symbol open_brace at b ∷ ts) us (Pattern.mixed p)
    ref : {n : Text} {a : ℕ} {ts : List Placed} → ReadsBare (ident n at a ∷ ts) ts (Pattern.ref n a)
    parent : {n : Text} {a b : ℕ} {ts : List Placed} → ReadsBare (keyword word.parent at a ∷ ident n at b ∷ ts) ts (Pattern.parent n a)
    empty : {a : ℕ} {ts : List Placed} → ReadsBare (keyword word.empty at a ∷ ts) ts Pattern.empty
    text : {a : ℕ} {ts : List Placed} → ReadsBare (keyword word.text at a ∷ ts) ts Pattern.any_text
    not_allowed : {a : ℕ} {ts : List Placed} → ReadsBare (keyword word.not_allowed at a ∷ ts) ts Pattern.not_allowed
    literal : {ts us : List Placed} {l : Text} → ReadsLiteral ts us l → ReadsBare ts us (Pattern.value None l)
    value : {t : Token} {a : ℕ} {of : TypeName} {ts us : List Placed} {l : Text} →
        IsType t a of → ReadsLiteral ts us l → ReadsBare (t at a ∷ ts) us (Pattern.value (Some of) l)
    data_type : {t : Token} {a : ℕ} {of : TypeName} {ts us : List Placed} {ps : List Parameter} →
        IsType t a of → ReadsBraces ts us ps → ReadsBare (t at a ∷ ts) us (Pattern.data_type of ps)
    external : {a : ℕ} {ts us vs : List Placed} {l : Text} {h : Option Passed} →
        ReadsLiteral ts us l → ReadsInherit us vs h → ReadsBare (keyword word.external at a ∷ ts) vs (Pattern.external l h a)
    grammar : {a b c : ℕ} {ts us : List Placed} {is : Items} →
        ReadsItems ts (symbol close_brace at c ∷ us) is → ReadsBare (keyword word.grammar at a ∷ symbol open_brace at b ∷ ts) us (Pattern.grammar is)
    parentheses : {a b : ℕ} {ts us : List Placed} {p : Pattern} →
        ReadsPattern ts (symbol close_paren at b ∷ us) p → ReadsBare (symbol open_paren at a ∷ ts) us p

  -- item*, where an item may also be ( Ident | CName ) block, which leaves no trace
  pub data ReadsItems : List Placed → List Placed → Items → Type 0 where
    no_items : {ts : List Placed} → ReadsItems ts ts no_item
    item : {ts us vs ws : List Placed} {i : Item} {is : Items} →
        ReadsBlocks ts us → ReadsItem us vs i → ReadsItems vs ws is → ReadsItems ts ws (more_items i is)
    annotation : {t : Token} {a : ℕ} {ts us vs : List Placed} {is : Items} →
        IsItemName t → ReadsBlock ts us → ReadsItems us vs is → ReadsItems (t at a ∷ ts) vs is

  -- the other forms of an item, after its blocks
  pub data ReadsItem : List Placed → List Placed → Item → Type 0 where
    start : {s : Symbol} {m : Method} {a b : ℕ} {ts us : List Placed} {p : Pattern} →
        IsAssign s m → ReadsPattern ts us p → ReadsItem (keyword word.start at a ∷ symbol s at b ∷ ts) us (Item.start m p a)
    define : {n : Text} {s : Symbol} {m : Method} {a b : ℕ} {ts us : List Placed} {p : Pattern} →
        IsAssign s m → ReadsPattern ts us p → ReadsItem (ident n at a ∷ symbol s at b ∷ ts) us (Item.define n m p a)
    div : {a b c : ℕ} {ts us : List Placed} {is : Items} →
        ReadsItems ts (symbol close_brace at c ∷ us) is → ReadsItem (keyword word.div at a ∷ symbol open_brace at b ∷ ts) us (Item.div is)
    include : {a : ℕ} {ts us vs ws : List Placed} {l : Text} {h : Option Passed} {is : Items} →
        ReadsLiteral ts us l → ReadsInherit us vs h → ReadsInner vs ws is → ReadsItem (keyword word.include at a ∷ ts) ws (Item.include l h is a)

  -- [ "{" inner* "}" ]
  pub data ReadsInner : List Placed → List Placed → Items → Type 0 where
    no_inner : {ts : List Placed} → ReadsInner ts ts no_item
    inner : {a b : ℕ} {ts us : List Placed} {is : Items} →
        ReadsItems ts (symbol close_brace at b ∷ us) is → HasNoInclude is → ReadsInner (symbol open_brace at a ∷ ts) us is

-- pattern | item*, up to the end
pub data DerivesBody : List Placed → Body → Type 0 where
  pattern : {ts : List Placed} {p : Pattern} → ReadsPattern ts [] p → DerivesBody ts (Body.pattern p)
  items : {ts : List Placed} {is : Items} → ReadsItems ts [] is → DerivesBody ts (Body.items is)

-- top = decl* ( pattern | item* )
pub data Derives : List Placed → File → Type 0 where
  top : {ts us : List Placed} {ds : List Declaration} {b : Body} →
      ReadsDeclarations ts us ds → DerivesBody us b → Derives ts (record { declarations = ds; body = b })

-- some tokens can be added at the end so that the whole derives a tree
abbrev pub Begins : List Placed → Type 0
Begins ts = (us : List Placed) × (f : File) × Derives (ts ++ us) f
