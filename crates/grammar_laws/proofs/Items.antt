-- Chains and items are read in one way.
use Rattle.std.proofs.Common.{◌≡◌, ℕ, zero-le, le_refl, ◌≤◌, ◌⊎◌, inl, inr, List, [], ◌∷◌, Option, refl, sym, ap, ap₂, ◌∙◌, subst, subst₂, arith}
use Rattle.rng_model.specs.Texts.{Text}
use Rattle.token_laws.specs.Tokens.{Keyword, Symbol, Token, keyword, ident, cname, ns_name, segment, symbol, Placed, ◌at◌, open_brace, close_brace, open_paren, close_paren, open_bracket, close_bracket, equals, bar_equals, ampersand_equals, comma, ampersand, bar, question, star, plus, minus, tilde, follows}
use Rattle.token_laws.specs.Tokens as word
use Rattle.grammar_laws.specs.Trees.{Passed, Method, Pattern, Patterns, no_pattern, more_patterns, Item, Items, no_item, more_items}
use Rattle.grammar_laws.specs.Grammar.{ReadsLiteral, IsAnyId, IsAnnotationName, IsNoBracket, ReadsFilling, ReadsBlock, ReadsBlocks, ReadsFollow, ReadsUri, ReadsDeclaration, ReadsDeclarations, ReadsParameters, ReadsBraces, ReadsInherit, ReadsClass, IsItemName, IsType, IsConnector, IsPostfix, IsAssign, ReadsPattern, ReadsMembers, ReadsParticle, ReadsPrimary, ReadsBare, ReadsItems, ReadsItem, ReadsInner}
use Rattle.grammar_laws.specs.Grammar as by
use Rattle.grammar_laws.proofs.Ends.{Stops, rank, tilde_rank, bracket_rank, brace_rank, inherit_rank, Only, up, no_tilde, no_brace, no_inherit, no_follows, rest_same}
use Rattle.grammar_laws.proofs.Leaves.{unique_blocks, unique_block, block_meaning, unique_follow, unique_literal}
use Rattle.grammar_laws.proofs.Declarations.{token_same}
use Rattle.grammar_laws.proofs.Parameters.{unique_inherit, IsClosed, blocks_not_closed}
use Rattle.grammar_laws.proofs.Patterns.{End, method_of, join_of, repeat_of, method_is, join_is, repeat_is, symbol_same, inherit_no_tilde}

-- a primary pattern, and a postfix
abbrev pub PostfixMeaning : List Placed → List Placed → Pattern → Type 0
PostfixMeaning ts us p =
    (s : Symbol) × (repeat : (Pattern → Pattern)) × (a : ℕ) × (vs : List Placed) × (q : Pattern) × IsPostfix s repeat × ReadsPrimary ts (symbol s at a ∷ vs) q × ReadsFollow vs us × (p ≡ repeat q)

pub particle_meaning : {ts us : List Placed} {p : Pattern} → ReadsParticle ts us p → ReadsPrimary ts us p ⊎ PostfixMeaning ts us p
particle_meaning (by.once r) = inl r
particle_meaning (by.postfix i r f same) = inr (_, _, _, _, _, i, r, f, same)

pub postfix_end : {s : Symbol} {repeat : Pattern → Pattern} (a : ℕ) (ts : List Placed) → IsPostfix s repeat → End 2 (symbol s at a ∷ ts)
postfix_end a ts by.IsPostfix.optional = omega arith
postfix_end a ts by.IsPostfix.zero_or_more = omega arith
postfix_end a ts by.IsPostfix.one_or_more = omega arith

pub not_postfix : {s : Symbol} {repeat : Pattern → Pattern} (a : ℕ) (ts : List Placed) → IsPostfix s repeat → End 1 (symbol s at a ∷ ts) → ⊥
not_postfix a ts by.IsPostfix.optional e = omega arith
not_postfix a ts by.IsPostfix.zero_or_more e = omega arith
not_postfix a ts by.IsPostfix.one_or_more e = omega arith

pub once_only : {ts us : List Placed} {p : Pattern} → Only ReadsPrimary (End 2) ts us p → End 1 us → Only ReadsParticle (End 1) ts us p
once_only {ts = ts} {us = us} {p = p} only e us' p' d e' = go (particle_meaning d)
  where
    go : ReadsPrimary ts us' p' ⊎ PostfixMeaning ts us' p' → (us ≡ us') × (p ≡ p')
    go (inl r) = only us' p' r (up rank 1 us' e')
    go (inr (s, repeat, a, vs, q, i, r, f, made)) =
        absurd (not_postfix a vs i (subst (End 1) (only (symbol s at a ∷ vs) q r (postfix_end a vs i)).0 e))

pub postfix_only : {s : Symbol} {repeat : Pattern → Pattern} {a : ℕ} {ts us vs : List Placed} {p q : Pattern} → IsPostfix s repeat → Only ReadsPrimary (End 2) ts (symbol s at a ∷ us) p → ReadsFollow us vs → q ≡ repeat p → End 1 vs →
    Only ReadsParticle (End 1) ts vs q
postfix_only {s = s} {repeat = repeat} {a = a} {ts = ts} {us = us} {vs = vs} {p = p} {q = q} i only f made e us' p' d e' = go (particle_meaning d)
  where
    go : ReadsPrimary ts us' p' ⊎ PostfixMeaning ts us' p' → (vs ≡ us') × (q ≡ p')
    go (inl r) = absurd (not_postfix a us i (subst (End 1) (sym (only us' p' r (up rank 1 us' e')).0) e'))
    go (inr (s', repeat', a', ws, q', i', r, f', made')) =
        let g = only (symbol s' at a' ∷ ws) q' r (postfix_end a' ws i') in
        let sign : s ≡ s' = symbol_same g.0 in
        let same : repeat ≡ repeat' = repeat_is i ∙ ap repeat_of sign ∙ sym (repeat_is i') in (
          unique_follow f (no_follows vs (up rank 1 vs e)) us' (subst (λ z. ReadsFollow z us') (sym (rest_same g.0)) f') (no_follows us' (up rank 1 us' e')),
          made ∙ (ap₂ (λ x y. x y) same g.1 ∙ sym made'),
        )

-- chains
abbrev pub ChainMeaning : List Placed → List Placed → Pattern → Type 0
ChainMeaning ts us p =
    (s : Symbol) × (join : (Patterns → Pattern)) × (a : ℕ) × (vs : List Placed) × (q : Pattern) × (qs : Patterns) × IsConnector s join × ReadsParticle ts (symbol s at a ∷ vs) q × ReadsMembers s vs us qs × (p ≡ join (more_patterns q qs))

pub pattern_meaning : {ts us : List Placed} {p : Pattern} → ReadsPattern ts us p → ReadsParticle ts us p ⊎ ChainMeaning ts us p
pattern_meaning (by.ReadsPattern.single r) = inl r
pattern_meaning (by.chain i r rs made) = inr (_, _, _, _, _, _, i, r, rs, made)

abbrev pub MembersMeaning : Symbol → List Placed → List Placed → Patterns → Type 0
MembersMeaning s ts us ps =
    ((q : Pattern) × ReadsParticle ts us q × (ps ≡ more_patterns q no_pattern)) ⊎ ((a : ℕ) × (vs : List Placed) × (q : Pattern) × (qs : Patterns) × ReadsParticle ts (symbol s at a ∷ vs) q × ReadsMembers s vs us qs × (ps ≡ more_patterns q qs))

pub members_meaning : {s : Symbol} {ts us : List Placed} {ps : Patterns} → ReadsMembers s ts us ps → MembersMeaning s ts us ps
members_meaning (by.ReadsMembers.last r) = inl (_, r, refl)
members_meaning (by.ReadsMembers.more r rs) = inr (_, _, _, _, r, rs, refl)

pub connector_end : {s : Symbol} {join : Patterns → Pattern} (a : ℕ) (ts : List Placed) → IsConnector s join → End 1 (symbol s at a ∷ ts)
connector_end a ts by.IsConnector.group = le_refl 1
connector_end a ts by.IsConnector.choice = le_refl 1
connector_end a ts by.IsConnector.interleave = le_refl 1

pub not_connector : {s : Symbol} {join : Patterns → Pattern} (a : ℕ) (ts : List Placed) → IsConnector s join → End 0 (symbol s at a ∷ ts) → ⊥
not_connector a ts by.IsConnector.group e = omega arith
not_connector a ts by.IsConnector.choice e = omega arith
not_connector a ts by.IsConnector.interleave e = omega arith

pub single_only : {ts us : List Placed} {p : Pattern} → Only ReadsParticle (End 1) ts us p → End 0 us → Only ReadsPattern (End 0) ts us p
single_only {ts = ts} {us = us} {p = p} only e us' p' d e' = go (pattern_meaning d)
  where
    go : ReadsParticle ts us' p' ⊎ ChainMeaning ts us' p' → (us ≡ us') × (p ≡ p')
    go (inl r) = only us' p' r (up rank 0 us' e')
    go (inr (s, join, a, vs, q, qs, i, r, rs, made)) =
        absurd (not_connector a vs i (subst (End 0) (only (symbol s at a ∷ vs) q r (connector_end a vs i)).0 e))

pub chain_only : {s : Symbol} {join : Patterns → Pattern} {a : ℕ} {ts us vs : List Placed} {p q : Pattern} {ps : Patterns} → IsConnector s join → Only ReadsParticle (End 1) ts (symbol s at a ∷ us) p →
    Only (ReadsMembers s) (End 0) us vs ps → q ≡ join (more_patterns p ps) → Only ReadsPattern (End 0) ts vs q
chain_only {s = s} {join = join} {a = a} {ts = ts} {us = us} {vs = vs} {p = p} {q = q} {ps = ps} i one only made us' p' d e' = go (pattern_meaning d)
  where
    go : ReadsParticle ts us' p' ⊎ ChainMeaning ts us' p' → (vs ≡ us') × (q ≡ p')
    go (inl r) = absurd (not_connector a us i (subst (End 0) (sym (one us' p' r (up rank 0 us' e')).0) e'))
    go (inr (s', join', a', ws, q', qs, i', r, rs, made')) =
        let f = one (symbol s' at a' ∷ ws) q' r (connector_end a' ws i') in
        let sign : s ≡ s' = symbol_same f.0 in
        let same : join ≡ join' = join_is i ∙ ap join_of sign ∙ sym (join_is i') in
        let rs' : ReadsMembers s us us' qs = subst₂ (λ y z. ReadsMembers y z us' qs) (sym sign) (sym (rest_same f.0)) rs in
        let g = only us' qs rs' e' in
        (g.0, made ∙ (ap₂ (λ x y. x y) same (ap₂ more_patterns f.1 g.1) ∙ sym made'))

pub last_only : {s : Symbol} {join : Patterns → Pattern} {ts us : List Placed} {p : Pattern} → IsConnector s join → Only ReadsParticle (End 1) ts us p → End 0 us → Only (ReadsMembers s) (End 0) ts us (more_patterns p no_pattern)
last_only {s = s} {ts = ts} {us = us} {p = p} i only e us' ps' d e' = go (members_meaning d)
  where
    go : MembersMeaning s ts us' ps' → (us ≡ us') × (more_patterns p no_pattern ≡ ps')
    go (inl (q, r, made)) = let f = only us' q r (up rank 0 us' e') in (f.0, ap (λ z. more_patterns z no_pattern) f.1 ∙ sym made)
    go (inr (a, vs, q, qs, r, rs, made)) =
        absurd (not_connector a vs i (subst (End 0) (only (symbol s at a ∷ vs) q r (connector_end a vs i)).0 e))

pub more_only : {s : Symbol} {join : Patterns → Pattern} {a : ℕ} {ts us vs : List Placed} {p : Pattern} {ps : Patterns} → IsConnector s join → Only ReadsParticle (End 1) ts (symbol s at a ∷ us) p →
    Only (ReadsMembers s) (End 0) us vs ps → Only (ReadsMembers s) (End 0) ts vs (more_patterns p ps)
more_only {s = s} {a = a} {ts = ts} {us = us} {vs = vs} {p = p} {ps = ps} i one only us' ps' d e' = go (members_meaning d)
  where
    go : MembersMeaning s ts us' ps' → (vs ≡ us') × (more_patterns p ps ≡ ps')
    go (inl (q, r, made)) = absurd (not_connector a us i (subst (End 0) (sym (one us' q r (up rank 0 us' e')).0) e'))
    go (inr (b, ws, q, qs, r, rs, made)) =
        let f = one (symbol s at b ∷ ws) q r (connector_end b ws i) in
        let g = only us' qs (subst (λ z. ReadsMembers s z us' qs) (sym (rest_same f.0)) rs) e' in
        (g.0, ap₂ more_patterns f.1 g.1 ∙ sym made)

-- items
abbrev pub NextMeaning : List Placed → List Placed → Items → Type 0
NextMeaning ts us is =
    (vs : List Placed) × (ws : List Placed) × (i : Item) × (js : Items) × ReadsBlocks ts vs × ReadsItem vs ws i × ReadsItems ws us js × (is ≡ more_items i js)

abbrev pub AnnotationMeaning : List Placed → List Placed → Items → Type 0
AnnotationMeaning ts us is =
    (t : Token) × (a : ℕ) × (vs : List Placed) × (ws : List Placed) × (ts ≡ t at a ∷ vs) × IsItemName t × ReadsBlock vs ws × ReadsItems ws us is

abbrev pub ItemsMeaning : List Placed → List Placed → Items → Type 0
ItemsMeaning ts us is = ((us ≡ ts) × (is ≡ no_item)) ⊎ (NextMeaning ts us is ⊎ AnnotationMeaning ts us is)

pub items_meaning : {ts us : List Placed} {is : Items} → ReadsItems ts us is → ItemsMeaning ts us is
items_meaning by.no_items = inl (refl, refl)
items_meaning (by.item b i is) = inr (inl (_, _, _, _, b, i, is, refl))
items_meaning (by.annotation n b is) = inr (inr (_, _, _, _, refl, n, b, is))

abbrev pub AssignMeaning : (Method → Pattern → Item) → List Placed → List Placed → Item → Type 0
AssignMeaning make ts us i =
    (s : Symbol) × (m : Method) × (b : ℕ) × (vs : List Placed) × (p : Pattern) × (ts ≡ symbol s at b ∷ vs) × IsAssign s m × ReadsPattern vs us p × (i ≡ make m p)

abbrev pub DivMeaning : List Placed → List Placed → Item → Type 0
DivMeaning ts us i =
    (b : ℕ) × (c : ℕ) × (vs : List Placed) × (is : Items) × (ts ≡ symbol open_brace at b ∷ vs) × ReadsItems vs (symbol close_brace at c ∷ us) is × (i ≡ Item.div is)

abbrev pub IncludeMeaning : ℕ → List Placed → List Placed → Item → Type 0
IncludeMeaning a ts us i =
    (vs : List Placed) × (ws : List Placed) × (l : Text) × (h : Option Passed) × (is : Items) × ReadsLiteral ts vs l × ReadsInherit vs ws h × ReadsInner ws us is × (i ≡ Item.include l h is a)

abbrev pub ItemMeaning : List Placed → List Placed → Item → Type 0
ItemMeaning (keyword word.start at a ∷ ts) us i = AssignMeaning (λ m p. Item.start m p a) ts us i
ItemMeaning (ident n at a ∷ ts) us i = AssignMeaning (λ m p. Item.define n m p a) ts us i
ItemMeaning (keyword word.div at a ∷ ts) us i = DivMeaning ts us i
ItemMeaning (keyword word.include at a ∷ ts) us i = IncludeMeaning a ts us i
ItemMeaning _ us i = ⊥

pub item_meaning : {ts us : List Placed} {i : Item} → ReadsItem ts us i → ItemMeaning ts us i
item_meaning (by.ReadsItem.start i p) = (_, _, _, _, _, refl, i, p, refl)
item_meaning (by.define i p) = (_, _, _, _, _, refl, i, p, refl)
item_meaning (by.div is) = (_, _, _, _, refl, is, refl)
item_meaning (by.include l h is) = (_, _, _, _, _, l, h, is, refl)

pub item_no_bracket : {ts us : List Placed} {i : Item} → ReadsItem ts us i → Stops bracket_rank 0 ts
item_no_bracket (by.ReadsItem.start i p) = zero-le
item_no_bracket (by.define i p) = zero-le
item_no_bracket (by.div is) = zero-le
item_no_bracket (by.include l h is) = zero-le

pub item_not_closed : {ts us : List Placed} {i : Item} → ReadsItem ts us i → IsClosed ts → ⊥
item_not_closed (by.ReadsItem.start i p) e = e
item_not_closed (by.define i p) e = e
item_not_closed (by.div is) e = e
item_not_closed (by.include l h is) e = e

pub closed_end : (ts : List Placed) → IsClosed ts → End 0 ts
closed_end [] e = tt
closed_end (symbol close_brace at a ∷ ts) e = zero-le
closed_end (t at a ∷ ts) e = elim e [ ]

pub item_first : {ts us : List Placed} {i : Item} → ReadsItem ts us i → End 0 ts
item_first (by.ReadsItem.start i p) = zero-le
item_first (by.define i p) = zero-le
item_first (by.div is) = zero-le
item_first (by.include l h is) = zero-le

pub block_first : {ts us : List Placed} → ReadsBlock ts us → End 0 ts
block_first (by.block f) = zero-le

pub blocks_first : {ts us : List Placed} → ReadsBlocks ts us → End 0 us → End 0 ts
blocks_first by.ReadsBlocks.none e = e
blocks_first (by.ReadsBlocks.more b bs) e = block_first b

pub name_first : (t : Token) (a : ℕ) (ts : List Placed) → IsItemName t → End 0 (t at a ∷ ts)
name_first (keyword k) a ts n = elim n [ ]
name_first (ident m) a ts n = zero-le
name_first (cname p m) a ts n = zero-le
name_first (ns_name p) a ts n = elim n [ ]
name_first (segment s) a ts n = elim n [ ]
name_first (symbol s) a ts n = elim n [ ]

pub name_not_closed : (t : Token) (a : ℕ) (ts : List Placed) → IsItemName t → IsClosed (t at a ∷ ts) → ⊥
name_not_closed (keyword k) a ts n e = n
name_not_closed (ident m) a ts n e = e
name_not_closed (cname p m) a ts n e = e
name_not_closed (ns_name p) a ts n e = n
name_not_closed (segment s) a ts n e = n
name_not_closed (symbol s) a ts n e = n

-- what stands before items ends there
pub before_items : {ts us : List Placed} {is : Items} → ReadsItems ts us is → IsClosed us → End 0 ts
before_items (by.no_items {ts = ts}) e = closed_end ts e
before_items (by.item b i is) e = blocks_first b (item_first i)
before_items (by.annotation {t = t} {a = a} {ts = ts} n b is) e = name_first t a ts n

-- an item's block stands behind its name, an item's sign too
pub named : {ts us : List Placed} {i : Item} {t : Token} {a : ℕ} {xs ws : List Placed} → ReadsItem ts us i → ts ≡ t at a ∷ xs → IsItemName t → ReadsBlock xs ws → ⊥
named (by.ReadsItem.start i p) same n b = let f : IsItemName (keyword word.start) = subst IsItemName (sym (token_same same)) n in elim f [ ]
named {ws = ws} (by.define {a = a} {b = c} {ts = ts} i p) same n b = signed i (subst (λ z. ReadsBlock z ws) (sym (rest_same same)) b)
  where
    signed : {s : Symbol} {m : Method} → IsAssign s m → ReadsBlock (symbol s at c ∷ ts) ws → ⊥
    signed by.IsAssign.plain b = block_meaning b
    signed by.IsAssign.choice b = block_meaning b
    signed by.IsAssign.interleave b = block_meaning b
named (by.div is) same n b = let f : IsItemName (keyword word.div) = subst IsItemName (sym (token_same same)) n in elim f [ ]
named (by.include l h is) same n b = let f : IsItemName (keyword word.include) = subst IsItemName (sym (token_same same)) n in elim f [ ]

pub block_named : {ts us : List Placed} {t : Token} {a : ℕ} {xs : List Placed} → ReadsBlock ts us → ts ≡ t at a ∷ xs → IsItemName t → ⊥
block_named (by.block f) same n = let h : IsItemName (symbol open_bracket) = subst IsItemName (sym (token_same same)) n in elim h [ ]

pub item_or_annotation : {ts vs us : List Placed} {i : Item} {t : Token} {a : ℕ} {xs ws : List Placed} → ReadsBlocks ts vs → ReadsItem vs us i → ts ≡ t at a ∷ xs → IsItemName t → ReadsBlock xs ws → ⊥
item_or_annotation by.ReadsBlocks.none i same n b = named i same n b
item_or_annotation (by.ReadsBlocks.more c cs) i same n b = block_named c same n

pub no_items_only : {ts : List Placed} → IsClosed ts → Only ReadsItems IsClosed ts ts no_item
no_items_only {ts = ts} e us' is' d e' = go (items_meaning d)
  where
    go : ItemsMeaning ts us' is' → (ts ≡ us') × (no_item ≡ is')
    go (inl (x, y)) = (sym x, sym y)
    go (inr (inl (vs, ws, i, js, b, r, rs, made))) = absurd (blocks_not_closed b (item_not_closed r) e)
    go (inr (inr (t, a, vs, ws, begins, n, b, rs))) = absurd (name_not_closed t a vs n (subst IsClosed begins e))

pub item_only : {ts us vs ws : List Placed} {i : Item} {is : Items} → ReadsBlocks ts us → ReadsItem us vs i → Only ReadsItem (End 0) us vs i → Only ReadsItems IsClosed vs ws is →
    Only ReadsItems IsClosed ts ws (more_items i is)
item_only {ts = ts} {us = us} {vs = vs} {ws = ws} {i = i} {is = is} b r one only us' is' d e' = go (items_meaning d)
  where
    go : ItemsMeaning ts us' is' → (ws ≡ us') × (more_items i is ≡ is')
    go (inl (x, y)) = absurd (blocks_not_closed b (item_not_closed r) (subst IsClosed x e'))
    go (inr (inl (xs, ys, j, js, b', r', rs, made))) =
        let same = unique_blocks b (item_no_bracket r) xs b' (item_no_bracket r') in
        let f = one ys j (subst (λ z. ReadsItem z ys j) (sym same) r') (before_items rs e') in
        let g = only us' js (subst (λ z. ReadsItems z us' js) (sym f.0) rs) e' in
        (g.0, ap₂ more_items f.1 g.1 ∙ sym made)
    go (inr (inr (t, a, xs, ys, begins, n, b', rs))) = absurd (item_or_annotation b r begins n b')

pub annotation_only : {t : Token} {a : ℕ} {ts us vs : List Placed} {is : Items} → IsItemName t → ReadsBlock ts us → Only ReadsItems IsClosed us vs is →
    Only ReadsItems IsClosed (t at a ∷ ts) vs is
annotation_only {t = t} {a = a} {ts = ts} {us = us} {vs = vs} {is = is} n b only us' is' d e' = go (items_meaning d)
  where
    go : ItemsMeaning (t at a ∷ ts) us' is' → (vs ≡ us') × (is ≡ is')
    go (inl (x, y)) = absurd (name_not_closed t a ts n (subst IsClosed x e'))
    go (inr (inl (xs, ys, j, js, b', r', rs, made))) = absurd (item_or_annotation b' r' refl n b)
    go (inr (inr (t', a', xs, ys, begins, n', b', rs))) =
        let same = unique_block b ys (subst (λ z. ReadsBlock z ys) (sym (rest_same begins)) b') in
        only us' is' (subst (λ z. ReadsItems z us' is') (sym same) rs) e'

pub assign_only : (make : Method → Pattern → Item) {s : Symbol} {m : Method} {b : ℕ} {ts us : List Placed} {p : Pattern} → IsAssign s m → Only ReadsPattern (End 0) ts us p →
    (us' : List Placed) (i' : Item) → AssignMeaning make (symbol s at b ∷ ts) us' i' → End 0 us' → (us ≡ us') × (make m p ≡ i')
assign_only make {s = s} {m = m} i only us' i' (s', m', b', vs, q, begins, j, r, made) e' =
    let sign : s ≡ s' = symbol_same begins in
    let method : m ≡ m' = method_is i ∙ ap method_of sign ∙ sym (method_is j) in
    let f = only us' q (subst (λ z. ReadsPattern z us' q) (sym (rest_same begins)) r) e' in
    (f.0, ap₂ make method f.1 ∙ sym made)

pub div_only : {b c : ℕ} {ts us : List Placed} {is : Items} → Only ReadsItems IsClosed ts (symbol close_brace at c ∷ us) is →
    (us' : List Placed) (i' : Item) → DivMeaning (symbol open_brace at b ∷ ts) us' i' → (us ≡ us') × (Item.div is ≡ i')
div_only only us' i' (b', c', vs, js, begins, r, made) =
    let f = only (symbol close_brace at c' ∷ us') js (subst (λ z. ReadsItems z (symbol close_brace at c' ∷ us') js) (sym (rest_same begins)) r) tt in
    (rest_same f.0, ap Item.div f.1 ∙ sym made)

-- what an include may hold
abbrev pub InnerMeaning : List Placed → List Placed → Items → Type 0
InnerMeaning ts us is =
    ((us ≡ ts) × (is ≡ no_item)) ⊎ ((a : ℕ) × (b : ℕ) × (vs : List Placed) × (ts ≡ symbol open_brace at a ∷ vs) × ReadsItems vs (symbol close_brace at b ∷ us) is)

pub inner_meaning : {ts us : List Placed} {is : Items} → ReadsInner ts us is → InnerMeaning ts us is
inner_meaning by.no_inner = inl (refl, refl)
inner_meaning (by.inner is h) = inr (_, _, _, refl, is)

pub no_inner_only : {ts : List Placed} → Stops brace_rank 0 ts → Only ReadsInner (Stops brace_rank 0) ts ts no_item
no_inner_only {ts = ts} e us' is' d e' = go (inner_meaning d)
  where
    go : InnerMeaning ts us' is' → (ts ≡ us') × (no_item ≡ is')
    go (inl (x, y)) = (sym x, sym y)
    go (inr (a, b, vs, begins, _)) =
        let h : 1 ≤ 0 = subst (Stops brace_rank 0) begins e in
        absurd (omega arith)

pub inner_only : {a b : ℕ} {ts us : List Placed} {is : Items} → Only ReadsItems IsClosed ts (symbol close_brace at b ∷ us) is →
    Only ReadsInner (Stops brace_rank 0) (symbol open_brace at a ∷ ts) us is
inner_only {a = a} {b = b} {ts = ts} {us = us} {is = is} only us' is' d e' = go (inner_meaning d)
  where
    go : InnerMeaning (symbol open_brace at a ∷ ts) us' is' → (us ≡ us') × (is ≡ is')
    go (inl (x, y)) =
        let h : 1 ≤ 0 = subst (Stops brace_rank 0) x e' in
        absurd (omega arith)
    go (inr (a', b', vs, begins, r)) =
        let f = only (symbol close_brace at b' ∷ us') is' (subst (λ z. ReadsItems z (symbol close_brace at b' ∷ us') is') (sym (rest_same begins)) r) tt in
        (rest_same f.0, f.1)

pub end_3 : (ts : List Placed) → End 0 ts → End 3 ts
end_3 ts e = up rank 2 ts (up rank 1 ts (up rank 0 ts e))

pub end_4 : (ts : List Placed) → End 0 ts → End 4 ts
end_4 ts e = up rank 3 ts (end_3 ts e)

pub inner_no_tilde : {ts us : List Placed} {is : Items} → ReadsInner ts us is → End 0 us → Stops tilde_rank 0 ts
inner_no_tilde (by.no_inner {ts = ts}) e = no_tilde ts (end_3 ts e)
inner_no_tilde (by.inner is h) e = zero-le

pub inner_no_inherit : {ts us : List Placed} {is : Items} → ReadsInner ts us is → End 0 us → Stops inherit_rank 0 ts
inner_no_inherit (by.no_inner {ts = ts}) e = no_inherit ts (end_3 ts e)
inner_no_inherit (by.inner is h) e = zero-le

pub include_only : {a : ℕ} {ts us vs ws : List Placed} {l : Text} {h : Option Passed} {is : Items} → ReadsLiteral ts us l → ReadsInherit us vs h → ReadsInner vs ws is → Only ReadsInner (Stops brace_rank 0) vs ws is → End 0 ws →
    (us' : List Placed) (i' : Item) → IncludeMeaning a ts us' i' → End 0 us' → (ws ≡ us') × (Item.include l h is a ≡ i')
include_only {ws = ws} lit inh inn only e us' i' (xs, ys, l', h', js, lit', inh', inn', made) e' =
    let f = unique_literal lit (inherit_no_tilde inh (inner_no_tilde inn e)) xs l' lit' (inherit_no_tilde inh' (inner_no_tilde inn' e')) in
    let g = unique_inherit inh (inner_no_inherit inn e) ys h' (subst (λ z. ReadsInherit z ys h') (sym f.0) inh') (inner_no_inherit inn' e') in
    let k = only us' js (subst (λ z. ReadsInner z us' js) (sym g.0) inn') (no_brace us' (end_4 us' e')) in
    (k.0, rw (f.1, g.1, k.1) (sym made))
