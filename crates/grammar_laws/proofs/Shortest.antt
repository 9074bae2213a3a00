-- For each part of the grammar a short token list that derives it: what is read so far can be completed by these.
use Rattle.std.proofs.Common.{List, [], ◌∷◌, None}
use Rattle.rng_model.specs.Texts.{Text}
use Rattle.token_laws.specs.Tokens.{Token, keyword, ident, cname, segment, symbol, Placed, ◌at◌, open_brace, close_brace, open_bracket, close_bracket, equals, follows}
use Rattle.token_laws.specs.Tokens as word
use Rattle.grammar_laws.specs.Trees.{Uri, Declaration, Class, Pattern, Item, no_item, Body}
use Rattle.grammar_laws.specs.Grammar.{IsAnnotationName, ReadsLiteral, ReadsFilling, ReadsBlock, ReadsBlocks, ReadsFollow, ReadsUri, ReadsDeclaration, ReadsDeclarations, ReadsClass, ReadsSimple, ReadsBareClass, ReadsParameters, ReadsBraces, ReadsInherit, ReadsPattern, ReadsParticle, ReadsPrimary, ReadsBare, ReadsItems, ReadsItem, ReadsInner, DerivesBody}
use Rattle.grammar_laws.specs.Grammar as by

-- `""`
pub short_literal : (ts : List Placed) → ReadsLiteral (segment [] at 0 ∷ ts) ts []
short_literal ts = by.one

-- `]`, and `[ ]`
pub short_filling : (ts : List Placed) → ReadsFilling (symbol close_bracket at 0 ∷ ts) ts
short_filling ts = by.closed

pub short_block : (ts : List Placed) → ReadsBlock (symbol open_bracket at 0 ∷ symbol close_bracket at 0 ∷ ts) ts
short_block ts = by.block by.closed

pub short_follow : (n : Text) (ts : List Placed) → ReadsFollow (symbol follows at 0 ∷ ident n at 0 ∷ symbol open_bracket at 0 ∷ symbol close_bracket at 0 ∷ ts) ts
short_follow n ts = by.ReadsFollow.more tt (short_block ts) by.ReadsFollow.none

-- `inherit`
pub short_uri : (ts : List Placed) → ReadsUri (keyword word.inherit at 0 ∷ ts) ts (Uri.inherit 0)
short_uri ts = by.inherit

-- `default namespace = inherit`
pub short_declaration : (ts : List Placed) →
    ReadsDeclaration (keyword word.default at 0 ∷ keyword word.namespace at 0 ∷ symbol equals at 0 ∷ keyword word.inherit at 0 ∷ ts) ts (Declaration.default_namespace None (Uri.inherit 0) 0)
short_declaration ts = by.default by.inherit

-- `*`
pub short_bare_class : (ts : List Placed) → ReadsBareClass (symbol word.star at 0 ∷ ts) ts (Class.any 0)
short_bare_class ts = by.any

pub short_simple : (ts : List Placed) → ReadsSimple (symbol word.star at 0 ∷ ts) ts (Class.any 0)
short_simple ts = by.simple by.ReadsBlocks.none by.any by.ReadsFollow.none

pub short_class : (ts : List Placed) → ReadsClass (symbol word.star at 0 ∷ ts) ts (Class.any 0)
short_class ts = by.ReadsClass.single (short_simple ts)

-- `empty`
pub short_bare : (ts : List Placed) → ReadsBare (keyword word.empty at 0 ∷ ts) ts Pattern.empty
short_bare ts = by.empty

pub short_primary : (ts : List Placed) → ReadsPrimary (keyword word.empty at 0 ∷ ts) ts Pattern.empty
short_primary ts = by.primary by.ReadsBlocks.none by.empty by.ReadsFollow.none

pub short_particle : (ts : List Placed) → ReadsParticle (keyword word.empty at 0 ∷ ts) ts Pattern.empty
short_particle ts = by.once (short_primary ts)

pub short_pattern : (ts : List Placed) → ReadsPattern (keyword word.empty at 0 ∷ ts) ts Pattern.empty
short_pattern ts = by.ReadsPattern.single (short_particle ts)

-- nothing
pub short_declarations : (ts : List Placed) → ReadsDeclarations ts ts []
short_declarations ts = by.ReadsDeclarations.none

pub short_parameters : (ts : List Placed) → ReadsParameters ts ts []
short_parameters ts = by.ReadsParameters.none

pub short_braces : (ts : List Placed) → ReadsBraces ts ts []
short_braces ts = by.ReadsBraces.none

pub short_inherit : (ts : List Placed) → ReadsInherit ts ts None
short_inherit ts = by.ReadsInherit.none

pub short_items : (ts : List Placed) → ReadsItems ts ts no_item
short_items ts = by.no_items

pub short_inner : (ts : List Placed) → ReadsInner ts ts no_item
short_inner ts = by.no_inner

-- `div { }`
pub short_item : (ts : List Placed) → ReadsItem (keyword word.div at 0 ∷ symbol open_brace at 0 ∷ symbol close_brace at 0 ∷ ts) ts (Item.div no_item)
short_item ts = by.div by.no_items

-- no token at all is a body
pub short_body : DerivesBody [] (Body.items no_item)
short_body = by.DerivesBody.items by.no_items
