-- Blocks, literals, declarations and parameters are read in one way.
use Rattle.std.proofs.Common.{◌≡◌, ℕ, ◌≤◌, ◌⊎◌, inl, inr, List, [], ◌∷◌, ◌++◌, refl, sym, ap, ◌∙◌, subst, arith}
use Rattle.rng_model.specs.Texts.{Text}
use Rattle.token_laws.specs.Tokens.{Keyword, Symbol, Token, keyword, ident, cname, ns_name, segment, symbol, Placed, ◌at◌, open_brace, close_brace, open_paren, close_paren, open_bracket, close_bracket, equals, bar_equals, ampersand_equals, comma, ampersand, bar, question, star, plus, minus, tilde, follows}
use Rattle.token_laws.specs.Tokens as word
use Rattle.grammar_laws.specs.Trees.{Uri}
use Rattle.grammar_laws.specs.Grammar.{ReadsLiteral, IsAnyId, IsAnnotationName, IsNoBracket, ReadsFilling, ReadsBlock, ReadsBlocks, ReadsFollow, ReadsUri, ReadsDeclaration, ReadsDeclarations, ReadsParameters, ReadsBraces, ReadsInherit}
use Rattle.grammar_laws.specs.Grammar as by
use Rattle.grammar_laws.proofs.Ends.{Stops, tilde_rank, bracket_rank, follows_rank, Only, OnlyTo, rest_same}

-- what stands in brackets
abbrev FillingMeaning : List Placed → List Placed → Type 0
FillingMeaning [] us = ⊥
FillingMeaning (symbol close_bracket at a ∷ ts) us = us ≡ ts
FillingMeaning (symbol open_bracket at a ∷ ts) us = (vs : List Placed) × ReadsFilling ts vs × ReadsFilling vs us
FillingMeaning (t at a ∷ ts) us = ReadsFilling ts us

past : (t : Token) (a : ℕ) (ts us : List Placed) → IsNoBracket t → ReadsFilling ts us → FillingMeaning (t at a ∷ ts) us
past (symbol open_bracket) a ts us h r = elim h [ ]
past (symbol close_bracket) a ts us h r = elim h [ ]
past t a ts us h r = r

unpast : (t : Token) (a : ℕ) (ts us : List Placed) → IsNoBracket t → FillingMeaning (t at a ∷ ts) us → ReadsFilling ts us
unpast (symbol open_bracket) a ts us h r = elim h [ ]
unpast (symbol close_bracket) a ts us h r = elim h [ ]
unpast t a ts us h r = r

filling_meaning : {ts us : List Placed} → ReadsFilling ts us → FillingMeaning ts us
filling_meaning by.closed = refl
filling_meaning (by.passed {t = t} h r) = past t _ _ _ h r
filling_meaning (by.nested f g) = (_, f, g)

pub unique_filling : {ts us : List Placed} → ReadsFilling ts us → (us' : List Placed) → ReadsFilling ts us' → us ≡ us'
unique_filling by.closed us' d = sym (filling_meaning d)
unique_filling (by.passed {t = t} h r) us' d = unique_filling r us' (unpast t _ _ _ h (filling_meaning d))
unique_filling (by.nested f g) us' d =
    let m = filling_meaning d in
    unique_filling g us' (subst (λ z. ReadsFilling z us') (sym (unique_filling f m.0 m.1)) m.2)

abbrev BlockMeaning : List Placed → List Placed → Type 0
BlockMeaning (symbol open_bracket at a ∷ ts) us = ReadsFilling ts us
BlockMeaning _ us = ⊥

pub block_meaning : {ts us : List Placed} → ReadsBlock ts us → BlockMeaning ts us
block_meaning (by.block f) = f

pub unique_block : {ts us : List Placed} → ReadsBlock ts us → (us' : List Placed) → ReadsBlock ts us' → us ≡ us'
unique_block (by.block f) us' d = unique_filling f us' (block_meaning d)

-- blocks end where no bracket opens
no_more : (ts us vs : List Placed) → Stops bracket_rank 0 ts → ReadsBlock ts us → ⊥
no_more ts us vs e b = go ts e (block_meaning b)
  where
    go : (ts : List Placed) → Stops bracket_rank 0 ts → BlockMeaning ts us → ⊥
    go [] e m = m
    go (symbol open_bracket at a ∷ ts) e m = omega arith
    go (t at a ∷ ts) e m = m

abbrev BlocksMeaning : List Placed → List Placed → Type 0
BlocksMeaning ts us = (us ≡ ts) ⊎ ((vs : List Placed) × ReadsBlock ts vs × ReadsBlocks vs us)

pub blocks_meaning : {ts us : List Placed} → ReadsBlocks ts us → BlocksMeaning ts us
blocks_meaning by.ReadsBlocks.none = inl refl
blocks_meaning (by.ReadsBlocks.more b r) = inr (_, b, r)

no_blocks : {ts : List Placed} → Stops bracket_rank 0 ts → OnlyTo ReadsBlocks (Stops bracket_rank 0) ts ts
no_blocks {ts = ts} e us' d e' = go (blocks_meaning d)
  where
    go : BlocksMeaning ts us' → ts ≡ us'
    go (inl same) = sym same
    go (inr (vs, b, r)) = absurd (no_more ts vs us' e b)

more_blocks : {ts us vs : List Placed} → ReadsBlock ts us → OnlyTo ReadsBlocks (Stops bracket_rank 0) us vs → OnlyTo ReadsBlocks (Stops bracket_rank 0) ts vs
more_blocks {ts = ts} {us = us} {vs = vs} b only us' d e' = go (blocks_meaning d)
  where
    go : BlocksMeaning ts us' → vs ≡ us'
    go (inl same) = absurd (no_more ts us vs (subst (Stops bracket_rank 0) same e') b)
    go (inr (ws, c, r)) = only us' (subst (λ z. ReadsBlocks z us') (sym (unique_block b ws c)) r) e'

pub unique_blocks : {ts us : List Placed} → ReadsBlocks ts us → Stops bracket_rank 0 us → OnlyTo ReadsBlocks (Stops bracket_rank 0) ts us
unique_blocks by.ReadsBlocks.none e = no_blocks e
unique_blocks (by.ReadsBlocks.more b r) e = more_blocks b (unique_blocks r e)

-- what follows a bare pattern or name class
abbrev FollowMeaning : List Placed → List Placed → Type 0
FollowMeaning ts us =
    (us ≡ ts) ⊎ ((t : Token) × (a : ℕ) × (b : ℕ) × (vs : List Placed) × (ws : List Placed) × (ts ≡ symbol follows at a ∷ t at b ∷ vs) × ReadsBlock vs ws × ReadsFollow ws us)

pub follow_meaning : {ts us : List Placed} → ReadsFollow ts us → FollowMeaning ts us
follow_meaning by.ReadsFollow.none = inl refl
follow_meaning (by.ReadsFollow.more n b r) = inr (_, _, _, _, _, refl, b, r)

no_follow : {ts : List Placed} → Stops follows_rank 0 ts → OnlyTo ReadsFollow (Stops follows_rank 0) ts ts
no_follow {ts = ts} e us' d e' = go (follow_meaning d)
  where
    go : FollowMeaning ts us' → ts ≡ us'
    go (inl same) = sym same
    go (inr (t, a, b, vs, ws, begins, _, _)) =
        let h : 1 ≤ 0 = subst (Stops follows_rank 0) begins e in
        absurd (omega arith)

more_follow : {t : Token} {a b : ℕ} {ts us vs : List Placed} → ReadsBlock ts us → OnlyTo ReadsFollow (Stops follows_rank 0) us vs → OnlyTo ReadsFollow (Stops follows_rank 0) (symbol follows at a ∷ t at b ∷ ts) vs
more_follow {t = t} {a = a} {b = b} {ts = ts} {us = us} {vs = vs} bl only us' d e' = go (follow_meaning d)
  where
    go : FollowMeaning (symbol follows at a ∷ t at b ∷ ts) us' → vs ≡ us'
    go (inl same) =
        let h : 1 ≤ 0 = subst (Stops follows_rank 0) same e' in
        absurd (omega arith)
    go (inr (t', a', b', ws, xs, begins, c, r)) =
        let c' : ReadsBlock ts xs = subst (λ z. ReadsBlock z xs) (sym (rest_same (rest_same begins))) c in
        only us' (subst (λ z. ReadsFollow z us') (sym (unique_block bl xs c')) r) e'

pub unique_follow : {ts us : List Placed} → ReadsFollow ts us → Stops follows_rank 0 us → OnlyTo ReadsFollow (Stops follows_rank 0) ts us
unique_follow by.ReadsFollow.none e = no_follow e
unique_follow (by.ReadsFollow.more n b r) e = more_follow b (unique_follow r e)

-- what stands before a follow part stops at rank 3 where what stands behind it stops at 2
pub before_follow : (g : Token → ℕ) → g (symbol follows) ≤ 3 → {ts us : List Placed} → ReadsFollow ts us → Stops g 3 us → Stops g 3 ts
before_follow g f by.ReadsFollow.none e = e
before_follow g f (by.ReadsFollow.more n b r) e = f

-- literals
abbrev LiteralMeaning : List Placed → List Placed → Text → Type 0
LiteralMeaning ts us l =
    (s : Text) × (a : ℕ) × (vs : List Placed) × (ts ≡ segment s at a ∷ vs) ×
    (((us ≡ vs) × (l ≡ s)) ⊎ ((b : ℕ) × (ws : List Placed) × (m : Text) × (vs ≡ symbol tilde at b ∷ ws) × ReadsLiteral ws us m × (l ≡ s ++ m)))

pub literal_meaning : {ts us : List Placed} {l : Text} → ReadsLiteral ts us l → LiteralMeaning ts us l
literal_meaning by.one = (_, _, _, refl, inl (refl, refl))
literal_meaning (by.joined r same) = (_, _, _, refl, inr (_, _, _, refl, r, same))

segment_same : {s t : Text} {a b : ℕ} {us vs : List Placed} → segment s at a ∷ us ≡ segment t at b ∷ vs → s ≡ t
segment_same e = cc

one_segment : {s : Text} {a : ℕ} {ts : List Placed} → Stops tilde_rank 0 ts → Only ReadsLiteral (Stops tilde_rank 0) (segment s at a ∷ ts) ts s
one_segment {s = s} {a = a} {ts = ts} e us' l' d e' = go (literal_meaning d)
  where
    go : LiteralMeaning (segment s at a ∷ ts) us' l' → (ts ≡ us') × (s ≡ l')
    go (t, b, vs, begins, inl (x, y)) = (rest_same begins ∙ sym x, segment_same begins ∙ sym y)
    go (t, b, vs, begins, inr (c, ws, m, next, _, _)) =
        let h : 1 ≤ 0 = subst (Stops tilde_rank 0) (rest_same begins ∙ next) e in
        absurd (omega arith)

more_segments : {s l w : Text} {a b : ℕ} {ts us : List Placed} → Only ReadsLiteral (Stops tilde_rank 0) ts us l → w ≡ s ++ l → Only ReadsLiteral (Stops tilde_rank 0) (segment s at a ∷ symbol tilde at b ∷ ts) us w
more_segments {s = s} {l = l} {w = w} {a = a} {b = b} {ts = ts} {us = us} only made us' l' d e' = go (literal_meaning d)
  where
    go : LiteralMeaning (segment s at a ∷ symbol tilde at b ∷ ts) us' l' → (us ≡ us') × (w ≡ l')
    go (t, c, vs, begins, inl (x, y)) =
        let h : 1 ≤ 0 = subst (Stops tilde_rank 0) (x ∙ sym (rest_same begins)) e' in
        absurd (omega arith)
    go (t, c, vs, begins, inr (c', ws, m, next, r, made')) =
        let f = only us' m (subst (λ z. ReadsLiteral z us' m) (sym (rest_same (rest_same begins ∙ next))) r) e' in
        let same : s ≡ t = segment_same begins in
        let rest : l ≡ m = f.1 in
        (f.0, cc)

pub unique_literal : {ts us : List Placed} {l : Text} → ReadsLiteral ts us l → Stops tilde_rank 0 us → Only ReadsLiteral (Stops tilde_rank 0) ts us l
unique_literal by.one e = one_segment e
unique_literal (by.joined r made) e = more_segments (unique_literal r e) made

-- a name before a sign
pub any_id_same : (t : Token) (m n : Text) → IsAnyId t m → IsAnyId t n → m ≡ n
any_id_same (keyword k) m n e f = e ∙ sym f
any_id_same (ident k) m n e f = e ∙ sym f
any_id_same (cname p k) m n e f = elim e [ ]
any_id_same (ns_name p) m n e f = elim e [ ]
any_id_same (segment s) m n e f = elim e [ ]
any_id_same (symbol s) m n e f = elim e [ ]

-- the URI of a declaration
abbrev UriMeaning : List Placed → List Placed → Uri → Type 0
UriMeaning (keyword word.inherit at a ∷ ts) us u = (us ≡ ts) × (u ≡ Uri.inherit a)
UriMeaning (segment s at a ∷ ts) us u = (l : Text) × ReadsLiteral (segment s at a ∷ ts) us l × (u ≡ Uri.literal l)
UriMeaning _ us u = ⊥

uri_meaning : {ts us : List Placed} {u : Uri} → ReadsUri ts us u → UriMeaning ts us u
uri_meaning (by.literal by.one) = (_, by.one, refl)
uri_meaning (by.literal (by.joined r same)) = (_, by.joined r same, refl)
uri_meaning by.inherit = (refl, refl)

literal_uri : {ts us : List Placed} {l : Text} → ReadsLiteral ts us l → Only ReadsLiteral (Stops tilde_rank 0) ts us l → Only ReadsUri (Stops tilde_rank 0) ts us (Uri.literal l)
literal_uri by.one only us' u' d e' =
    let m = uri_meaning d in
    let f = only us' m.0 m.1 e' in
    (f.0, ap Uri.literal f.1 ∙ sym m.2)
literal_uri (by.joined r same) only us' u' d e' =
    let m = uri_meaning d in
    let f = only us' m.0 m.1 e' in
    (f.0, ap Uri.literal f.1 ∙ sym m.2)

inherit_uri : {a : ℕ} {ts : List Placed} → Only ReadsUri (Stops tilde_rank 0) (keyword word.inherit at a ∷ ts) ts (Uri.inherit a)
inherit_uri us' u' d e' = let m = uri_meaning d in (sym m.0, sym m.1)

pub unique_uri : {ts us : List Placed} {u : Uri} → ReadsUri ts us u → Stops tilde_rank 0 us → Only ReadsUri (Stops tilde_rank 0) ts us u
unique_uri (by.literal r) e = literal_uri r (unique_literal r e)
unique_uri by.inherit e = inherit_uri
