-- The worked examples of the grammar and of nesting.
use Rattle.std.proofs.Common.{◌≡◌, ℕ, suc, zero-le, ◌≤◌, ◌+◌, Bool, true, false, List, [], ◌∷◌, ◌++◌, length, refl, sym, ap, ◌∙◌, subst, arith, if◌then◌else◌, ◌==◌, length-append, true≢false}
use Rattle.token_laws.specs.Tokens.{Token, keyword, ident, symbol, Placed, ◌at◌, open_paren, close_paren, comma}
use Rattle.token_laws.specs.Tokens as word
use Rattle.grammar_laws.specs.Grammar.{Derives}
use Rattle.grammar_laws.specs.Grammar as by
use Rattle.grammar_laws.specs.Nesting.{opens, opens_block, closes_block, count, counting, HasLevel, TooDeep}
use Rattle.grammar_laws.specs.Examples.{repeated, nested, comma_nested, one_element, element_tree, chains, chains_tree, annotated, annotated_tree}

pub derives_element : Derives one_element element_tree
derives_element =
    by.top by.ReadsDeclarations.none (by.DerivesBody.pattern (by.ReadsPattern.single (by.once (by.primary by.ReadsBlocks.none
    (by.element (by.ReadsClass.single (by.simple by.ReadsBlocks.none (by.plain refl) by.ReadsFollow.none))
    (by.ReadsPattern.single (by.once (by.primary by.ReadsBlocks.none by.empty by.ReadsFollow.none))))
    by.ReadsFollow.none))))

pub derives_chains : Derives chains chains_tree
derives_chains =
    by.top by.ReadsDeclarations.none (by.DerivesBody.pattern (by.chain by.IsConnector.group
    (by.once (by.primary by.ReadsBlocks.none by.ref by.ReadsFollow.none))
    (by.ReadsMembers.last (by.postfix by.IsPostfix.one_or_more
    (by.primary by.ReadsBlocks.none (by.ReadsBare.parentheses (by.chain by.IsConnector.choice
    (by.once (by.primary by.ReadsBlocks.none by.ref by.ReadsFollow.none))
    (by.ReadsMembers.last (by.once (by.primary by.ReadsBlocks.none by.ref by.ReadsFollow.none))) refl)) by.ReadsFollow.none)
    by.ReadsFollow.none refl)) refl))

pub derives_annotated : Derives annotated annotated_tree
derives_annotated =
    by.top by.ReadsDeclarations.none (by.DerivesBody.items (by.annotation tt (by.block by.closed)
    (by.item by.ReadsBlocks.none (by.ReadsItem.start by.IsAssign.plain (by.ReadsPattern.single (by.once (by.primary by.ReadsBlocks.none by.empty by.ReadsFollow.none)))) by.no_items)))

-- no more tokens count than there are
one_more : (p : Token → Bool) (b : Bool) (t : Token) (a n : ℕ) (rest : List Placed) → count p rest ≤ n → count p (if b then t at a ∷ rest else rest) ≤ suc n
one_more p true t a n rest h = go (p t)
  where
    go : (d : Bool) → (if d then suc (count p rest) else count p rest) ≤ suc n
    go true = omega arith
    go false = omega arith
one_more p false t a n rest h = omega arith

count_le : (p : Token → Bool) (o c : ℕ) (ts : List Placed) → count p (counting o c ts) ≤ length ts
count_le p o c [] = zero-le
count_le p o c (t at a ∷ ts) =
    let opened = if opens_block t then suc o else o in
    let closed = if closes_block t then suc c else c in
    one_more p (o == c) t a (length ts) (counting opened closed ts) (count_le p opened closed ts)

-- among 128 tokens none has level 129
none_deep : (ts xs ys : List Placed) (u : Token) (b : ℕ) → length ts ≤ 128 → ts ≡ xs ++ u at b ∷ ys → HasLevel 129 xs u → ⊥
none_deep ts xs ys u b few same h =
    let split : length ts ≡ length xs + length (u at b ∷ ys) = ap length same ∙ length-append xs (u at b ∷ ys) in
    let counted : count opens (counting 0 0 xs) ≤ length xs = count_le opens 0 0 xs in
    let level = h.level in
    omega arith

pub too_deep_nested : TooDeep nested 128
too_deep_nested = (
  repeated (symbol open_paren) 0 128,
  symbol open_paren,
  keyword word.empty at 129 ∷ repeated (symbol close_paren) 134 129,
  record {
    spelled = refl;
    deep = record { opening = refl; counts = refl; level = refl };
    first = λ xs ys u b. none_deep (repeated (symbol open_paren) 0 128) xs ys u b (omega arith);
  },
)

comma_same : {u : Token} {b : ℕ} {ts ys : List Placed} → symbol comma at 0 ∷ ts ≡ u at b ∷ ys → symbol comma ≡ u
comma_same e = cc

first_same : {x y : Placed} {ts ys : List Placed} → x ∷ ts ≡ y ∷ ys → x ≡ y
first_same e = cc

rest_same : {x y : Placed} {ts ys : List Placed} → x ∷ ts ≡ y ∷ ys → ts ≡ ys
rest_same e = cc

after_comma : (ts xs ys : List Placed) (u : Token) (b : ℕ) → length ts ≤ 128 → symbol comma at 0 ∷ ts ≡ xs ++ u at b ∷ ys → HasLevel 129 xs u → ⊥
after_comma ts [] ys u b few same h =
    let opening : opens (symbol comma) ≡ true = subst (λ z. opens z ≡ true) (sym (comma_same same)) h.opening in
    true≢false (sym opening)
after_comma ts (x ∷ xs) ys u b few same h =
    let h' : HasLevel 129 (symbol comma at 0 ∷ xs) u = subst (λ z. HasLevel 129 (z ∷ xs) u) (sym (first_same same)) h in
    let split : length ts ≡ length xs + length (u at b ∷ ys) = ap length (rest_same same) ∙ length-append xs (u at b ∷ ys) in
    let counted : count opens (counting 0 0 xs) ≤ length xs = count_le opens 0 0 xs in
    let level = h'.level in
    omega arith

pub too_deep_comma : TooDeep comma_nested 129
too_deep_comma = (
  symbol comma at 0 ∷ repeated (symbol open_paren) 1 128,
  symbol open_paren,
  [],
  record {
    spelled = refl;
    deep = record { opening = refl; counts = refl; level = refl };
    first = λ xs ys u b. after_comma (repeated (symbol open_paren) 1 128) xs ys u b (omega arith);
  },
)
