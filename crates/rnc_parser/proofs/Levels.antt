-- The walk over tokens that finds the first brace or parenthesis that is too deep.
use Rattle.std.proofs.Common.{◌≡◌, ℕ, suc, ◌+◌, ◌≤◌, ◌<◌, ◌⊎◌, inl, inr, Bool, true, false, ◌==◌, ◌&&◌, List, [], ◌∷◌, ◌++◌, length, map, refl, sym, ap, ap₂, ◌∙◌, subst, arith, append_assoc, append-nil, length-append}
use Rattle.std.specs.Prelude.{if◌then◌else◌}
use Rattle.std.proofs.lemmas.Bool.{eqb-true, eq-eqb, and_parts, and_from, true≢false}
use Rattle.token_laws.specs.Tokens.{Token, Placed, ◌at◌}
use Rattle.grammar_laws.specs.Nesting.{opens, closes, opens_block, closes_block, count, counting, HasLevel, TooDeep}
use Rattle.rnc_lexer.specs.declared.tokens.Lexed.{Lexed}
use Rattle.rnc_lexer.specs.Views.{token_of, placed_of}
use Rattle.rnc_parser.specs.declared.nesting.Counts.{Counts}
use Rattle.rnc_parser.specs.Depth.{AreCounts, counts_here, behind, is_too_deep}

-- one more token at the end
count_more : (p : Token → Bool) (ts : List Placed) (t : Token) (a : ℕ) → count p (ts ++ t at a ∷ []) ≡ (if p t then suc (count p ts) else count p ts)
count_more p [] t a = refl
count_more p (u at b ∷ ts) t a = go (p u) (p t) (count_more p ts t a)
  where
    go : (x y : Bool) → count p (ts ++ t at a ∷ []) ≡ (if y then suc (count p ts) else count p ts) →
        (if x then suc (count p (ts ++ t at a ∷ [])) else count p (ts ++ t at a ∷ [])) ≡ (if y then suc (if x then suc (count p ts) else count p ts) else (if x then suc (count p ts) else count p ts))
    go true true e = ap (λ n. suc n) e
    go true false e = ap (λ n. suc n) e
    go false true e = e
    go false false e = e

count_two : (p : Token → Bool) (xs ys : List Placed) → count p (xs ++ ys) ≡ count p xs + count p ys
count_two p [] ys = omega arith
count_two p (u at b ∷ xs) ys = go (p u) (count_two p xs ys)
  where
    go : (x : Bool) → count p (xs ++ ys) ≡ count p xs + count p ys → (if x then suc (count p (xs ++ ys)) else count p (xs ++ ys)) ≡ (if x then suc (count p xs) else count p xs) + count p ys
    go true e = omega (arith, e)
    go false e = e

count_one : (p : Token → Bool) (t : Token) (a : ℕ) → count p (t at a ∷ []) ≡ (if p t then 1 else 0)
count_one p t a = refl

-- what the last token adds to those that count
abbrev pub last : Bool → Token → ℕ → List Placed
last b t a = if b then t at a ∷ [] else []

counting_more : (o c : ℕ) (ts : List Placed) (t : Token) (a : ℕ) → counting o c (ts ++ t at a ∷ []) ≡ counting o c ts ++ last (o + count opens_block ts == c + count closes_block ts) t a
counting_more o c [] t a = go (o == c) (o + 0 == c + 0) (ap₂ (λ m n. m == n) (omega arith) (omega arith))
  where
    go : (x y : Bool) → x ≡ y → (if x then t at a ∷ [] else []) ≡ last y t a
    go x y e = ap (λ b. last b t a) e
counting_more o c (u at b ∷ ts) t a = go (o == c) (counting_more o' c' ts t a)
  where
    o' : ℕ
    o' = if opens_block u then suc o else o

    c' : ℕ
    c' = if closes_block u then suc c else c

    added : (x : Bool) (n m : ℕ) → (if x then suc n else n) + m ≡ n + (if x then suc m else m)
    added true n m = omega arith
    added false n m = refl

    same : (o' + count opens_block ts == c' + count closes_block ts) ≡ (o + count opens_block (u at b ∷ ts) == c + count closes_block (u at b ∷ ts))
    same = ap₂ (λ m n. m == n) (added (opens_block u) o (count opens_block ts)) (added (closes_block u) c (count closes_block ts))

    go : (x : Bool) → counting o' c' (ts ++ t at a ∷ []) ≡ counting o' c' ts ++ last (o' + count opens_block ts == c' + count closes_block ts) t a →
        (if x then u at b ∷ counting o' c' (ts ++ t at a ∷ []) else counting o' c' (ts ++ t at a ∷ [])) ≡
        (if x then u at b ∷ counting o' c' ts else counting o' c' ts) ++ last (o + count opens_block (u at b ∷ ts) == c + count closes_block (u at b ∷ ts)) t a
    go true e = ap (λ z. u at b ∷ z) (e ∙ ap (λ w. counting o' c' ts ++ last w t a) same)
    go false e = e ∙ ap (λ w. counting o' c' ts ++ last w t a) same

level_more : (p : Token → Bool) (ts : List Placed) (t : Token) (a : ℕ) (b : Bool) → b ≡ (count opens_block ts == count closes_block ts) →
    count p (counting 0 0 (ts ++ t at a ∷ [])) ≡ (if b && p t then suc (count p (counting 0 0 ts)) else count p (counting 0 0 ts))
level_more p ts t a b e =
    ap (count p) (counting_more 0 0 ts t a ∙ ap (λ w. counting 0 0 ts ++ last w t a) same)
    ∙ count_two p (counting 0 0 ts) (last b t a) ∙ go b (p t) refl
  where
    same : (0 + count opens_block ts == 0 + count closes_block ts) ≡ b
    same = ap₂ (λ m n. m == n) (omega arith) (omega arith) ∙ sym e

    go : (x y : Bool) → p t ≡ y → count p (counting 0 0 ts) + count p (last x t a) ≡ (if x && y then suc (count p (counting 0 0 ts)) else count p (counting 0 0 ts))
    go true true f = ap (λ z. count p (counting 0 0 ts) + (if z then 1 else 0)) f ∙ omega arith
    go true false f = ap (λ z. count p (counting 0 0 ts) + (if z then 1 else 0)) f ∙ omega arith
    go false y f = omega arith

pub no_counts : {c : Counts} → c.blocks_opened ≡ 0 → c.blocks_closed ≡ 0 → c.opened ≡ 0 → c.closed ≡ 0 → AreCounts [] c
no_counts e f g h = record { blocks_opened = e; blocks_closed = f; opened = g; closed = h }

-- the counts behind one more token are its counts
more_counts : {ts : List Placed} {c : Counts} (t : Token) (a : ℕ) → AreCounts ts c → AreCounts (ts ++ t at a ∷ []) (behind c t)
more_counts {ts = ts} {c = c} t a h = record {
  blocks_opened = ap (λ n. if opens_block t then suc n else n) h.blocks_opened ∙ sym (count_more opens_block ts t a);
  blocks_closed = ap (λ n. if closes_block t then suc n else n) h.blocks_closed ∙ sym (count_more closes_block ts t a);
  opened = ap (λ n. if counts_here c && opens t then suc n else n) h.opened ∙ sym (level_more opens ts t a (counts_here c) here);
  closed = ap (λ n. if counts_here c && closes t then suc n else n) h.closed ∙ sym (level_more closes ts t a (counts_here c) here);
}
  where
    here : counts_here c ≡ (count opens_block ts == count closes_block ts)
    here = ap₂ (λ m n. m == n) h.blocks_opened h.blocks_closed

-- counts are no more than tokens
count_fits : (p : Token → Bool) (ts : List Placed) → count p ts ≤ length ts
count_fits p [] = omega arith
count_fits p (u at b ∷ ts) = go (p u) (count_fits p ts)
  where
    go : (x : Bool) → count p ts ≤ length ts → (if x then suc (count p ts) else count p ts) ≤ suc (length ts)
    go true h = omega (arith, h)
    go false h = omega (arith, h)

counting_fits : (o c : ℕ) (ts : List Placed) → length (counting o c ts) ≤ length ts
counting_fits o c [] = omega arith
counting_fits o c (u at b ∷ ts) = go (o == c) (counting_fits (if opens_block u then suc o else o) (if closes_block u then suc c else c) ts)
  where
    rest : List Placed
    rest = counting (if opens_block u then suc o else o) (if closes_block u then suc c else c) ts

    go : (x : Bool) → length rest ≤ length ts → length (if x then u at b ∷ rest else rest) ≤ suc (length ts)
    go true h = omega (arith, h)
    go false h = omega (arith, h)

-- no token before has the level 129
abbrev pub NoneAt : List Placed → Type 0
NoneAt before = (xs ys : List Placed) (u : Token) (b : ℕ) → before ≡ xs ++ u at b ∷ ys → HasLevel 129 xs u → ⊥

-- the last token of a list, and those before it
abbrev Splits : List Placed → Placed → List Placed → Placed → Type 0
Splits before x xs y = ((before ≡ xs) × (x ≡ y)) ⊎ ((zs : List Placed) × (before ≡ xs ++ y ∷ zs))

last_split : (before xs ys : List Placed) (x y : Placed) → before ++ x ∷ [] ≡ xs ++ y ∷ ys → Splits before x xs y
last_split [] [] ys x y e = inl (refl, cc)
last_split [] (z ∷ []) ys x y e = absurd cc
last_split [] (z ∷ w ∷ xs) ys x y e = absurd cc
last_split (z ∷ before) [] ys x y e = let s : z ≡ y = cc in inr (before, ap (λ w. w ∷ before) s)
last_split (z ∷ before) (w ∷ xs) ys x y e = go (last_split before xs ys x y cc)
  where
    go : Splits before x xs y → Splits (z ∷ before) x (w ∷ xs) y
    go (inl (f, g)) = let s : z ≡ w = cc in inl (ap₂ (λ u v. u ∷ v) s f, g)
    go (inr (zs, f)) = let s : z ≡ w = cc in inr (zs, ap₂ (λ u v. u ∷ v) s f)

-- the test of a token's level
level_here : {ts : List Placed} {c : Counts} (t : Token) → AreCounts ts c → is_too_deep c t ≡ true → HasLevel 129 ts t
level_here {ts = ts} {c = c} t h e =
    let p = and_parts (opens t) (counts_here c && (c.opened == 128 + c.closed)) e in
    let q = and_parts (counts_here c) (c.opened == 128 + c.closed) p.1 in
    let level = eqb-true c.opened (128 + c.closed) q.1 in
    record { opening = p.0; counts = sym h.blocks_opened ∙ eqb-true c.blocks_opened c.blocks_closed q.0 ∙ h.blocks_closed; level = omega (arith, level, h.opened, h.closed) }

no_level_here : {ts : List Placed} {c : Counts} (t : Token) → AreCounts ts c → is_too_deep c t ≡ false → HasLevel 129 ts t → ⊥
no_level_here {ts = ts} {c = c} t h e l =
    let same : c.blocks_opened ≡ c.blocks_closed = h.blocks_opened ∙ l.counts ∙ sym h.blocks_closed in
    let level : c.opened ≡ 128 + c.closed = omega (arith, l.level, h.opened, h.closed) in
    true≢false (sym (and_from (opens t) (counts_here c && (c.opened == 128 + c.closed)) l.opening (and_from (counts_here c) (c.opened == 128 + c.closed) (eq-eqb c.blocks_opened c.blocks_closed same) (eq-eqb c.opened (128 + c.closed) level))) ∙ e)

none_more : {before : List Placed} (t : Token) (a : ℕ) → NoneAt before → (HasLevel 129 before t → ⊥) → NoneAt (before ++ t at a ∷ [])
none_more {before = before} t a none deny xs ys u b e l = go (last_split before xs ys (t at a) (u at b) e)
  where
    token_same : {t u : Token} {a b : ℕ} → t at a ≡ u at b → u ≡ t
    token_same e = cc

    go : Splits before (t at a) xs (u at b) → ⊥
    go (inl (f, g)) = deny (subst (λ z. HasLevel 129 z t) (sym f) (subst (HasLevel 129 xs) (token_same g) l))
    go (inr (zs, f)) = none xs zs u b f l

-- The walk: the tokens before those that are left are counted, and none of them is too deep.
pub record Walked (all : List Placed) (c : Counts) (left : List Placed) : Type 0 where
  pub before : List Placed
  pub spelled : all ≡ before ++ left
  pub counts : AreCounts before c
  pub none : NoneAt before

pub start : {c : Counts} {ts : List Placed} → AreCounts [] c → Walked ts c ts
start h = record { before = []; spelled = refl; counts = h; none = λ xs ys u b e l. absurd (no xs ys (u at b) e) }
  where
    no : (xs ys : List Placed) (x : Placed) → [] ≡ xs ++ x ∷ ys → ⊥
    no [] ys x e = cc
    no (z ∷ xs) ys x e = cc

pub step : {all us : List Placed} {c : Counts} {t : Token} {a : ℕ} → Walked all c (t at a ∷ us) → is_too_deep c t ≡ false → Walked all (behind c t) us
step {us = us} {t = t} {a = a} w e = record {
  before = w.before ++ t at a ∷ [];
  spelled = w.spelled ∙ sym (append_assoc w.before (t at a ∷ []) us);
  counts = more_counts t a w.counts;
  none = none_more t a w.none (no_level_here t w.counts e);
}

pub found : {all us : List Placed} {c : Counts} {t : Token} {a : ℕ} → Walked all c (t at a ∷ us) → is_too_deep c t ≡ true → TooDeep all a
found {us = us} {t = t} w e = (w.before, t, us, record { spelled = w.spelled; deep = level_here t w.counts e; first = w.none })

pub ended : {all : List Placed} {c : Counts} → Walked all c [] → (a : ℕ) → TooDeep all a → ⊥
ended w a (before, t, after, d) = w.none before after t a (sym (append-nil w.before) ∙ sym w.spelled ∙ d.spelled) d.deep

-- no count passes the number of the tokens
pub fits : {all us : List Placed} {c : Counts} {x : Placed} → Walked all c (x ∷ us) →
    (c.blocks_opened < length all) × (c.blocks_closed < length all) × (c.opened < length all) × (c.closed < length all)
fits {all = all} {us = us} {x = x} w =
    let n : length all ≡ length w.before + suc (length us) = ap length w.spelled ∙ length-append w.before (x ∷ us) in
    let counted = counting_fits 0 0 w.before in
    let a = count_fits opens_block w.before in
    let b = count_fits closes_block w.before in
    let c = count_fits opens (counting 0 0 w.before) in
    let d = count_fits closes (counting 0 0 w.before) in
    (omega (arith, n, a, w.counts.blocks_opened), omega (arith, n, b, w.counts.blocks_closed), omega (arith, n, counted, c, w.counts.opened), omega (arith, n, counted, d, w.counts.closed))

-- the same for the tokens of src/
pub walk_on : {all : List Placed} {c d : Counts} {rest others : List Lexed} (first : Lexed) → Walked all c (map placed_of rest) → rest ≡ first ∷ others →
    is_too_deep c (token_of first.token) ≡ false → d ≡ behind c (token_of first.token) → Walked all d (map placed_of others)
walk_on {all = all} {c = c} {others = others} first w e h same =
    subst (λ z. Walked all z (map placed_of others)) (sym same) (step (subst (λ z. Walked all c (map placed_of z)) e w) h)

pub walk_found : {all : List Placed} {c : Counts} {rest others : List Lexed} (first : Lexed) → Walked all c (map placed_of rest) → rest ≡ first ∷ others →
    is_too_deep c (token_of first.token) ≡ true → TooDeep all first.place
walk_found {all = all} {c = c} first w e h = found (subst (λ z. Walked all c (map placed_of z)) e w) h

pub walk_ended : {all : List Placed} {c : Counts} {rest : List Lexed} → Walked all c (map placed_of rest) → rest ≡ [] → (a : ℕ) → TooDeep all a → ⊥
walk_ended {all = all} {c = c} w e = ended (subst (λ z. Walked all c (map placed_of z)) e w)

pub walk_fits : {all : List Placed} {c : Counts} {rest others : List Lexed} (first : Lexed) → Walked all c (map placed_of rest) → rest ≡ first ∷ others →
    (c.blocks_opened < length all) × (c.blocks_closed < length all) × (c.opened < length all) × (c.closed < length all)
walk_fits {all = all} {c = c} first w e = fits (subst (λ z. Walked all c (map placed_of z)) e w)
