-- A token list derives at most one tree.
use Rattle.std.proofs.Common.{◌≡◌, ℕ, zero-le, le_refl, ◌≤◌, ◌⊎◌, inl, inr, List, [], ◌∷◌, Option, refl, sym, ap, ◌∙◌, subst, arith}
use Rattle.std.specs.Prelude.{⊤}
use Rattle.rng_model.specs.Texts.{Text}
use Rattle.token_laws.specs.Tokens.{Keyword, Symbol, Token, keyword, ident, cname, ns_name, segment, symbol, Placed, ◌at◌, open_brace, close_brace, open_paren, close_paren, open_bracket, close_bracket, equals, bar_equals, ampersand_equals, comma, ampersand, bar, question, star, plus, minus, tilde, follows}
use Rattle.token_laws.specs.Tokens as word
use Rattle.grammar_laws.specs.Trees.{TypeName, Parameter, Passed, Method, Class, Pattern, Patterns, Item, Items, Body, File}
use Rattle.grammar_laws.specs.Grammar.{ReadsLiteral, IsAnyId, IsAnnotationName, IsNoBracket, ReadsFilling, ReadsBlock, ReadsBlocks, ReadsFollow, ReadsUri, ReadsDeclaration, ReadsDeclarations, ReadsParameters, ReadsBraces, ReadsInherit, ReadsClass, IsItemName, IsType, IsConnector, IsPostfix, IsAssign, ReadsPattern, ReadsMembers, ReadsParticle, ReadsPrimary, ReadsBare, ReadsItems, ReadsItem, ReadsInner, DerivesBody, Derives, Begins}
use Rattle.grammar_laws.specs.Grammar as by
use Rattle.grammar_laws.proofs.Ends.{Stops, rank, brace_rank, Only, up, class_rank, no_tilde, no_brace, rest_same}
use Rattle.grammar_laws.proofs.Leaves.{unique_blocks, block_meaning, unique_literal}
use Rattle.grammar_laws.proofs.Declarations.{token_same, declaration_rank, unique_declarations}
use Rattle.grammar_laws.proofs.Parameters.{IsClosed, blocks_not_closed}
use Rattle.grammar_laws.proofs.Classes.{unique_class}
use Rattle.grammar_laws.proofs.Patterns.{End, bare_no_bracket, element_only, braced_only, grammar_only, literal_only, value_only, data_only, external_only, ref_only, parent_only, empty_only, text_only, not_allowed_only, parentheses_only, inner_end, one_primary, one_except, bare_meaning, type_no_bracket, BareMeaning, TypeMeaning}
use Rattle.grammar_laws.proofs.Items.{postfix_end, connector_end, once_only, postfix_only, single_only, chain_only, last_only, more_only, no_items_only, item_only, annotation_only, assign_only, div_only, include_only, no_inner_only, inner_only, before_items, item_meaning, end_4, item_no_bracket}

define_only : {n : Text} {s : Symbol} {m : Method} {a b : ℕ} {ts us : List Placed} {p : Pattern} → IsAssign s m → Only ReadsPattern (End 0) ts us p →
    Only ReadsItem (End 0) (ident n at a ∷ symbol s at b ∷ ts) us (Item.define n m p a)
define_only {n = n} {a = a} i only us' i' d e' = assign_only (λ m p. Item.define n m p a) i only us' i' (item_meaning d) e'

start_only : {s : Symbol} {m : Method} {a b : ℕ} {ts us : List Placed} {p : Pattern} → IsAssign s m → Only ReadsPattern (End 0) ts us p →
    Only ReadsItem (End 0) (keyword word.start at a ∷ symbol s at b ∷ ts) us (Item.start m p a)
start_only {a = a} i only us' i' d e' = assign_only (λ m p. Item.start m p a) i only us' i' (item_meaning d) e'

div_item : {a b c : ℕ} {ts us : List Placed} {is : Items} → Only ReadsItems IsClosed ts (symbol close_brace at c ∷ us) is →
    Only ReadsItem (End 0) (keyword word.div at a ∷ symbol open_brace at b ∷ ts) us (Item.div is)
div_item only us' i' d e' = div_only only us' i' (item_meaning d)

include_item : {a : ℕ} {ts us vs ws : List Placed} {l : Text} {h : Option Passed} {is : Items} → ReadsLiteral ts us l → ReadsInherit us vs h → ReadsInner vs ws is → Only ReadsInner (Stops brace_rank 0) vs ws is → End 0 ws →
    Only ReadsItem (End 0) (keyword word.include at a ∷ ts) ws (Item.include l h is a)
include_item lit inh inn only e us' i' d e' = include_only lit inh inn only e us' i' (item_meaning d) e'

element_item : {a b c : ℕ} {ts us vs : List Placed} {n : Class} {p : Pattern} →
    Only ReadsClass (Stops class_rank 0) ts (symbol open_brace at b ∷ us) n → Only ReadsPattern (End 0) us (symbol close_brace at c ∷ vs) p →
    Only ReadsBare (End 3) (keyword word.element at a ∷ ts) vs (Pattern.element n p a)
element_item one two us' p' d e' = element_only Pattern.element one two us' p' (bare_meaning d)

attribute_item : {a b c : ℕ} {ts us vs : List Placed} {n : Class} {p : Pattern} →
    Only ReadsClass (Stops class_rank 0) ts (symbol open_brace at b ∷ us) n → Only ReadsPattern (End 0) us (symbol close_brace at c ∷ vs) p →
    Only ReadsBare (End 3) (keyword word.attribute at a ∷ ts) vs (Pattern.attribute n p a)
attribute_item one two us' p' d e' = element_only Pattern.attribute one two us' p' (bare_meaning d)

list_item : {a b c : ℕ} {ts us : List Placed} {p : Pattern} → Only ReadsPattern (End 0) ts (symbol close_brace at c ∷ us) p →
    Only ReadsBare (End 3) (keyword word.list at a ∷ symbol open_brace at b ∷ ts) us (Pattern.list p a)
list_item {a = a} only us' p' d e' = braced_only (λ q. Pattern.list q a) only us' p' (bare_meaning d)

mixed_item : {a b c : ℕ} {ts us : List Placed} {p : Pattern} → Only ReadsPattern (End 0) ts (symbol close_brace at c ∷ us) p →
    Only ReadsBare (End 3) (keyword word.mixed at a ∷ symbol open_brace at b ∷ ts) us (Pattern.mixed p)
mixed_item only us' p' d e' = braced_only Pattern.mixed only us' p' (bare_meaning d)

grammar_item : {a b c : ℕ} {ts us : List Placed} {is : Items} → Only ReadsItems IsClosed ts (symbol close_brace at c ∷ us) is →
    Only ReadsBare (End 3) (keyword word.grammar at a ∷ symbol open_brace at b ∷ ts) us (Pattern.grammar is)
grammar_item only us' p' d e' = grammar_only only us' p' (bare_meaning d)

mutual
  pub unique_pattern : {ts us : List Placed} {p : Pattern} → ReadsPattern ts us p → End 0 us → Only ReadsPattern (End 0) ts us p
  unique_pattern (by.ReadsPattern.single {us = us} r) e = single_only (unique_particle r (up rank 0 us e)) e
  unique_pattern (by.chain {a = a} {us = us} i r rs made) e = chain_only i (unique_particle r (connector_end a us i)) (unique_members rs i e) made

  pub unique_members : {s : Symbol} {join : Patterns → Pattern} {ts us : List Placed} {ps : Patterns} → ReadsMembers s ts us ps → IsConnector s join → End 0 us → Only (ReadsMembers s) (End 0) ts us ps
  unique_members (by.ReadsMembers.last {us = us} r) i e = last_only i (unique_particle r (up rank 0 us e)) e
  unique_members (by.ReadsMembers.more {a = a} {us = us} r rs) i e = more_only i (unique_particle r (connector_end a us i)) (unique_members rs i e)

  pub unique_particle : {ts us : List Placed} {p : Pattern} → ReadsParticle ts us p → End 1 us → Only ReadsParticle (End 1) ts us p
  unique_particle (by.once {us = us} r) e = once_only (unique_primary r (up rank 1 us e)) e
  unique_particle (by.postfix {a = a} {us = us} i r f made) e = postfix_only i (unique_primary r (postfix_end a us i)) f made e

  pub unique_primary : {ts us : List Placed} {p : Pattern} → ReadsPrimary ts us p → End 2 us → Only ReadsPrimary (End 2) ts us p
  unique_primary (by.primary b r f) e = one_primary b r (unique_bare r (inner_end f e)) f e
  unique_primary (by.ReadsPrimary.except b i br bl r f) e = one_except b i br bl r (unique_bare r (inner_end f e)) f e

  pub unique_bare : {ts us : List Placed} {p : Pattern} → ReadsBare ts us p → End 3 us → Only ReadsBare (End 3) ts us p
  unique_bare (by.element c q) e = element_item (unique_class c zero-le) (unique_pattern q zero-le)
  unique_bare (by.attribute c q) e = attribute_item (unique_class c zero-le) (unique_pattern q zero-le)
  unique_bare (by.list q) e = list_item (unique_pattern q zero-le)
  unique_bare (by.mixed q) e = mixed_item (unique_pattern q zero-le)
  unique_bare by.ref e = ref_only
  unique_bare by.parent e = parent_only
  unique_bare by.empty e = empty_only
  unique_bare by.text e = text_only
  unique_bare by.not_allowed e = not_allowed_only
  unique_bare (by.ReadsBare.literal {us = us} l) e = literal_only l (unique_literal l (no_tilde us e))
  unique_bare (by.value {us = us} i l) e = value_only i l (unique_literal l (no_tilde us e))
  unique_bare (by.data_type i b) e = data_only i b e
  unique_bare (by.external l h) e = external_only l h e
  unique_bare (by.grammar is) e = grammar_item (unique_items is tt)
  unique_bare (by.ReadsBare.parentheses q) e = parentheses_only (unique_pattern q zero-le)

  pub unique_items : {ts us : List Placed} {is : Items} → ReadsItems ts us is → IsClosed us → Only ReadsItems IsClosed ts us is
  unique_items by.no_items e = no_items_only e
  unique_items (by.item b i is) e = item_only b i (unique_item i (before_items is e)) (unique_items is e)
  unique_items (by.annotation n b is) e = annotation_only n b (unique_items is e)

  pub unique_item : {ts us : List Placed} {i : Item} → ReadsItem ts us i → End 0 us → Only ReadsItem (End 0) ts us i
  unique_item (by.ReadsItem.start i p) e = start_only i (unique_pattern p e)
  unique_item (by.define i p) e = define_only i (unique_pattern p e)
  unique_item (by.div is) e = div_item (unique_items is tt)
  unique_item (by.include {ws = ws} l h is) e = include_item l h is (unique_inner is (no_brace ws (end_4 ws e))) e

  pub unique_inner : {ts us : List Placed} {is : Items} → ReadsInner ts us is → Stops brace_rank 0 us → Only ReadsInner (Stops brace_rank 0) ts us is
  unique_inner by.no_inner e = no_inner_only e
  unique_inner (by.inner is h) e = inner_only (unique_items is tt)

-- the end of the tokens, or what goes on with a pattern
abbrev GoesOn : List Placed → Type 0
GoesOn [] = ⊤
GoesOn (t at a ∷ ts) = 1 ≤ rank t

follow_goes_on : {ts us : List Placed} → ReadsFollow ts us → GoesOn us → GoesOn ts
follow_goes_on by.ReadsFollow.none g = g
follow_goes_on (by.ReadsFollow.more n b f) g = omega arith

connector_goes_on : {s : Symbol} {join : Patterns → Pattern} (a : ℕ) (ts : List Placed) → IsConnector s join → GoesOn (symbol s at a ∷ ts)
connector_goes_on a ts by.IsConnector.group = le_refl 1
connector_goes_on a ts by.IsConnector.choice = le_refl 1
connector_goes_on a ts by.IsConnector.interleave = le_refl 1

postfix_goes_on : {s : Symbol} {repeat : Pattern → Pattern} (a : ℕ) (ts : List Placed) → IsPostfix s repeat → GoesOn (symbol s at a ∷ ts)
postfix_goes_on a ts by.IsPostfix.optional = omega arith
postfix_goes_on a ts by.IsPostfix.zero_or_more = omega arith
postfix_goes_on a ts by.IsPostfix.one_or_more = omega arith

-- the primary pattern with which a pattern begins
abbrev FirstPrimary : List Placed → Type 0
FirstPrimary ts = (us : List Placed) × (q : Pattern) × ReadsPrimary ts us q × GoesOn us

particle_primary : {ts us : List Placed} {p : Pattern} → ReadsParticle ts us p → GoesOn us → FirstPrimary ts
particle_primary (by.once r) g = (_, _, r, g)
particle_primary (by.postfix {a = a} {us = us} i r f made) g = (_, _, r, postfix_goes_on a us i)

first_primary : {ts us : List Placed} {p : Pattern} → ReadsPattern ts us p → GoesOn us → FirstPrimary ts
first_primary (by.ReadsPattern.single r) g = particle_primary r g
first_primary (by.chain {a = a} {us = us} i r rs made) g = particle_primary r (connector_goes_on a us i)

-- no bare pattern begins where an item does
bare_or_item : {ts us vs : List Placed} {p : Pattern} {i : Item} → ReadsItem ts vs i → ReadsBare ts us p → GoesOn us → ⊥
bare_or_item (by.ReadsItem.start i q) r g = bare_meaning r
bare_or_item {us = us} (by.define {n = n} {a = a} {b = b} {ts = ts} i q) r g = signed i (subst GoesOn (bare_meaning r).0 g)
  where
    signed : {s : Symbol} {m : Method} → IsAssign s m → GoesOn (symbol s at b ∷ ts) → ⊥
    signed by.IsAssign.plain g = omega arith
    signed by.IsAssign.choice g = omega arith
    signed by.IsAssign.interleave g = omega arith
bare_or_item (by.div is) r g = bare_meaning r
bare_or_item (by.include l h is) r g = bare_meaning r

type_or_item : {t : Token} {a : ℕ} {of : TypeName} {ts vs : List Placed} {i : Item} → IsType t a of → ReadsItem (t at a ∷ ts) vs i → ⊥
type_or_item by.IsType.prefixed i = item_meaning i
type_or_item by.IsType.string i = item_meaning i
type_or_item by.IsType.token i = item_meaning i

-- nor where an annotation stands for an item
block_or_literal : {ts us vs : List Placed} {l : Text} → ReadsBlock ts us → ReadsLiteral ts vs l → ⊥
block_or_literal b by.one = block_meaning b
block_or_literal b (by.joined r made) = block_meaning b

block_or_braces : {ts us vs : List Placed} {ps : List Parameter} → ReadsBlock ts us → ReadsBraces ts vs ps → GoesOn vs → ⊥
block_or_braces (by.block f) by.ReadsBraces.none g = omega arith
block_or_braces b (by.ReadsBraces.braces r) g = block_meaning b

bare_or_annotation : (t : Token) (a : ℕ) (xs us : List Placed) (q : Pattern) {ws : List Placed} → IsItemName t → ReadsBlock xs ws → BareMeaning (t at a ∷ xs) us q → GoesOn us → ⊥
bare_or_annotation (keyword k) a xs us q n b m g = elim n [ ]
bare_or_annotation (ident w) a xs us q n (by.block f) m g =
    let h = subst GoesOn m.0 g in
    omega arith
bare_or_annotation (cname p w) a xs us q n b m g = go m
  where
    go : TypeMeaning (TypeName.prefixed_type p w a) xs us q → ⊥
    go (inl (l, lit, made)) = block_or_literal b lit
    go (inr (ps, br, made)) = block_or_braces b br g
bare_or_annotation (ns_name p) a xs us q n b m g = elim n [ ]
bare_or_annotation (segment s) a xs us q n b m g = elim n [ ]
bare_or_annotation (symbol s) a xs us q n b m g = elim n [ ]

-- a block is no name
block_or_name : {ts us : List Placed} {t : Token} {a : ℕ} {xs : List Placed} → ReadsBlock ts us → ts ≡ t at a ∷ xs → IsItemName t → ⊥
block_or_name (by.block f) same n = let h : IsItemName (symbol open_bracket) = subst IsItemName (sym (token_same same)) n in elim h [ ]

plain_or_annotation : {ts vs us ws xs : List Placed} {p : Pattern} {t : Token} {a : ℕ} → ReadsBlocks ts vs → ReadsBare vs us p → GoesOn us → ts ≡ t at a ∷ xs → IsItemName t → ReadsBlock xs ws → ⊥
plain_or_annotation {us = us} {xs = xs} {p = p} {t = t} {a = a} by.ReadsBlocks.none r g same n b =
    bare_or_annotation t a xs us p n b (bare_meaning (subst (λ z. ReadsBare z us p) same r)) g
plain_or_annotation (by.ReadsBlocks.more c cs) r g same n b = block_or_name c same n

except_or_annotation : {ts us ws xs ys zs : List Placed} {ps : List Parameter} {t : Token} {a c : ℕ} → ReadsBlocks ts zs → (t' : Token) (a' : ℕ) → zs ≡ t' at a' ∷ us → ReadsBraces us (symbol minus at c ∷ ys) ps → ts ≡ t at a ∷ xs → IsItemName t → ReadsBlock xs ws → ⊥
except_or_annotation {ws = ws} by.ReadsBlocks.none t' a' begins br same n b =
    block_or_braces (subst (λ z. ReadsBlock z ws) (rest_same (sym same ∙ begins)) b) br four
  where
    four : 1 ≤ 4
    four = omega arith
except_or_annotation (by.ReadsBlocks.more d ds) t' a' begins br same n b = block_or_name d same n

-- no pattern begins where a block or a name is closed
type_not_closed : {t : Token} {a : ℕ} {of : TypeName} (ts : List Placed) → IsType t a of → IsClosed (t at a ∷ ts) → ⊥
type_not_closed ts by.IsType.prefixed e = e
type_not_closed ts by.IsType.string e = e
type_not_closed ts by.IsType.token e = e

bare_not_closed : {ts us : List Placed} {p : Pattern} → ReadsBare ts us p → IsClosed ts → ⊥
bare_not_closed (by.element c q) e = e
bare_not_closed (by.attribute c q) e = e
bare_not_closed (by.list q) e = e
bare_not_closed (by.mixed q) e = e
bare_not_closed by.ref e = e
bare_not_closed by.parent e = e
bare_not_closed by.empty e = e
bare_not_closed by.text e = e
bare_not_closed by.not_allowed e = e
bare_not_closed (by.ReadsBare.literal by.one) e = e
bare_not_closed (by.ReadsBare.literal (by.joined r same)) e = e
bare_not_closed (by.value {ts = ts} i l) e = type_not_closed ts i e
bare_not_closed (by.data_type {ts = ts} i b) e = type_not_closed ts i e
bare_not_closed (by.external l h) e = e
bare_not_closed (by.grammar is) e = e
bare_not_closed (by.ReadsBare.parentheses q) e = e

primary_not_closed : {ts us : List Placed} {p : Pattern} → ReadsPrimary ts us p → IsClosed ts → ⊥
primary_not_closed (by.primary b r f) e = blocks_not_closed b (bare_not_closed r) e
primary_not_closed (by.ReadsPrimary.except {us = us} b i br bl r f) e = blocks_not_closed b (type_not_closed us i) e

-- a pattern or items
primary_or_item : {ts us ws xs : List Placed} {q : Pattern} {i : Item} → ReadsPrimary ts us q → GoesOn us → ReadsBlocks ts ws → ReadsItem ws xs i → ⊥
primary_or_item {ws = ws} (by.primary {vs = vs} {p = p} b r f) g b' i =
    let same = unique_blocks b (bare_no_bracket r) ws b' (item_no_bracket i) in
    bare_or_item i (subst (λ z. ReadsBare z vs p) same r) (follow_goes_on f g)
primary_or_item {ws = ws} {xs = xs} {i = item} (by.ReadsPrimary.except {t = t} {a = a} {us = us} b i br bl r f) g b' j =
    let same = unique_blocks b (type_no_bracket us i) ws b' (item_no_bracket j) in
    type_or_item i (subst (λ z. ReadsItem z xs item) (sym same) j)

primary_or_annotation : {ts us ws xs : List Placed} {q : Pattern} {t : Token} {a : ℕ} → ReadsPrimary ts us q → GoesOn us → ts ≡ t at a ∷ xs → IsItemName t → ReadsBlock xs ws → ⊥
primary_or_annotation (by.primary b r f) g same n c = plain_or_annotation b r (follow_goes_on f g) same n c
primary_or_annotation (by.ReadsPrimary.except {t = t} {a = a} b i br bl r f) g same n c = except_or_annotation b t a refl br same n c

pattern_or_items : {ts us vs : List Placed} {q : Pattern} {is : Items} → ReadsPrimary ts us q → GoesOn us → ReadsItems ts vs is → IsClosed vs → ⊥
pattern_or_items r g by.no_items e = primary_not_closed r e
pattern_or_items r g (by.item b i is) e = primary_or_item r g b i
pattern_or_items r g (by.annotation n b is) e = primary_or_annotation r g refl n b

abbrev BodyMeaning : List Placed → Body → Type 0
BodyMeaning ts b = ((p : Pattern) × ReadsPattern ts [] p × (b ≡ Body.pattern p)) ⊎ ((is : Items) × ReadsItems ts [] is × (b ≡ Body.items is))

body_meaning : {ts : List Placed} {b : Body} → DerivesBody ts b → BodyMeaning ts b
body_meaning (by.DerivesBody.pattern r) = inl (_, r, refl)
body_meaning (by.DerivesBody.items r) = inr (_, r, refl)

unique_body : {ts : List Placed} {b : Body} → DerivesBody ts b → (b' : Body) → DerivesBody ts b' → b ≡ b'
unique_body {ts = ts} (by.DerivesBody.pattern {p = p} r) b' d = go (body_meaning d)
  where
    go : BodyMeaning ts b' → Body.pattern p ≡ b'
    go (inl (q, s, made)) = ap Body.pattern (unique_pattern r tt [] q s tt).1 ∙ sym made
    go (inr (is, s, made)) = let f = first_primary r tt in absurd (pattern_or_items f.2 f.3 s tt)
unique_body {ts = ts} (by.DerivesBody.items {is = is} r) b' d = go (body_meaning d)
  where
    go : BodyMeaning ts b' → Body.items is ≡ b'
    go (inl (q, s, made)) = let f = first_primary s tt in absurd (pattern_or_items f.2 f.3 r tt)
    go (inr (js, s, made)) = ap Body.items (unique_items r tt [] js s tt).1 ∙ sym made

-- no declaration begins where a body does
type_first : {t : Token} {a : ℕ} {of : TypeName} (ts : List Placed) → IsType t a of → Stops declaration_rank 0 (t at a ∷ ts)
type_first ts by.IsType.prefixed = zero-le
type_first ts by.IsType.string = zero-le
type_first ts by.IsType.token = zero-le

bare_first : {ts us : List Placed} {p : Pattern} → ReadsBare ts us p → Stops declaration_rank 0 ts
bare_first (by.element c q) = zero-le
bare_first (by.attribute c q) = zero-le
bare_first (by.list q) = zero-le
bare_first (by.mixed q) = zero-le
bare_first by.ref = zero-le
bare_first by.parent = zero-le
bare_first by.empty = zero-le
bare_first by.text = zero-le
bare_first by.not_allowed = zero-le
bare_first (by.ReadsBare.literal by.one) = zero-le
bare_first (by.ReadsBare.literal (by.joined r same)) = zero-le
bare_first (by.value {ts = ts} i l) = type_first ts i
bare_first (by.data_type {ts = ts} i b) = type_first ts i
bare_first (by.external l h) = zero-le
bare_first (by.grammar is) = zero-le
bare_first (by.ReadsBare.parentheses q) = zero-le

block_begins : {ts us : List Placed} → ReadsBlock ts us → Stops declaration_rank 0 ts
block_begins (by.block f) = zero-le

blocks_begin : {ts us : List Placed} → ReadsBlocks ts us → Stops declaration_rank 0 us → Stops declaration_rank 0 ts
blocks_begin by.ReadsBlocks.none e = e
blocks_begin (by.ReadsBlocks.more b bs) e = block_begins b

primary_begins : {ts us : List Placed} {p : Pattern} → ReadsPrimary ts us p → Stops declaration_rank 0 ts
primary_begins (by.primary b r f) = blocks_begin b (bare_first r)
primary_begins (by.ReadsPrimary.except {us = us} b i br bl r f) = blocks_begin b (type_first us i)

item_begins : {ts us : List Placed} {i : Item} → ReadsItem ts us i → Stops declaration_rank 0 ts
item_begins (by.ReadsItem.start i p) = zero-le
item_begins (by.define i p) = zero-le
item_begins (by.div is) = zero-le
item_begins (by.include l h is) = zero-le

name_begins : (t : Token) (a : ℕ) (ts : List Placed) → IsItemName t → Stops declaration_rank 0 (t at a ∷ ts)
name_begins (keyword k) a ts n = elim n [ ]
name_begins (ident m) a ts n = zero-le
name_begins (cname p m) a ts n = zero-le
name_begins (ns_name p) a ts n = elim n [ ]
name_begins (segment s) a ts n = elim n [ ]
name_begins (symbol s) a ts n = elim n [ ]

items_begin : {ts : List Placed} {is : Items} (us : List Placed) → us ≡ [] → ReadsItems ts us is → Stops declaration_rank 0 ts
items_begin us e by.no_items = subst (Stops declaration_rank 0) (sym e) tt
items_begin us e (by.item b i is) = blocks_begin b (item_begins i)
items_begin us e (by.annotation {t = t} {a = a} {ts = ts} n b is) = name_begins t a ts n

pub body_begins : {ts : List Placed} {b : Body} → DerivesBody ts b → Stops declaration_rank 0 ts
body_begins (by.DerivesBody.pattern r) = primary_begins (first_primary r tt).2
body_begins (by.DerivesBody.items r) = items_begin [] refl r

abbrev pub DerivesMeaning : List Placed → File → Type 0
DerivesMeaning ts f = (us : List Placed) × by.ReadsDeclarations ts us f.declarations × DerivesBody us f.body

pub derives_meaning : {ts : List Placed} {f : File} → Derives ts f → DerivesMeaning ts f
derives_meaning (by.top ds b) = (_, ds, b)

-- a token list derives at most one tree
pub unique_tree : (ts : List Placed) (f g : File) → Derives ts f → Derives ts g → f ≡ g
unique_tree ts f g d e =
    let m = derives_meaning d in
    let n = derives_meaning e in
    let same = unique_declarations m.1 (body_begins m.2) n.0 g.declarations n.1 (body_begins n.2) in
    let body = unique_body m.2 g.body (subst (λ z. DerivesBody z g.body) (sym same.0) n.2) in
    λ i. record { declarations = same.1 i; body = body i }
