-- Numbers in a row, one more at the end.
use Rattle.std.proofs.Common.{◌≡◌, ℕ, ◌+◌, ◌-◌, ◌≤◌, List, [], ◌∷◌, ◌++◌, zero, suc, flat_map, ap, ◌∙◌, arith}
use Rattle.std.specs.List.{join_by, range_with_len}
use Rattle.std.proofs.lemmas.Grind.{flat_map-append}
use Rattle.std.proofs.lemmas.List.{append-nil}
use Rattle.seeded_schema.proofs.Pieces.{behind}
use Rattle.seeded_schema.specs.Made.{items, item_line, start_line, made}

pub range-more : (a n : ℕ) → range_with_len a (n + 1) ≡ range_with_len a n ++ (a + n) ∷ []
range-more a zero = grind arith
range-more a (suc n) = let e = range-more (a + 1) n in grind arith

pub flat_map-more : {X : Type 0} (f : ℕ → List X) (a n m : ℕ) → a + n ≡ m → flat_map f (range_with_len a (n + 1)) ≡ flat_map f (range_with_len a n) ++ f m
flat_map-more f a n m e =
    ap (flat_map f) (range-more a n) ∙ flat_map-append f (range_with_len a n) ((a + n) ∷ [])
    ∙ ap (λ z. flat_map f (range_with_len a n) ++ z) (append-nil (f (a + n)) ∙ ap f e)

-- the first, and then each other behind a separator
pub parts : (ℕ → List ℕ) → List ℕ → ℕ → List ℕ
parts f sep n = f 0 ++ flat_map (λ y. sep ++ f y) (range_with_len 1 n)

pub parts_first : (f : ℕ → List ℕ) (sep : List ℕ) → parts f sep 0 ≡ f 0
unfolding parts
parts_first f sep = append-nil (f 0)

pub parts_more : (f : ℕ → List ℕ) (sep : List ℕ) (n : ℕ) → 1 ≤ n → parts f sep (n + 1 - 1) ≡ parts f sep (n - 1) ++ sep ++ f n
unfolding parts
parts_more f sep n h =
    let before : n + 1 - 1 ≡ (n - 1) + 1 = omega arith in
    let place : 1 + (n - 1) ≡ n = omega arith in
    ap (λ z. f 0 ++ flat_map (λ y. sep ++ f y) (range_with_len 1 z)) before
    ∙ ap (λ z. f 0 ++ z) (flat_map-more (λ y. sep ++ f y) 1 (n - 1) n place)
    ∙ behind (f 0) (flat_map (λ y. sep ++ f y) (range_with_len 1 (n - 1))) sep (f n)

pub all_parts : (f : ℕ → List ℕ) (sep : List ℕ) (n : ℕ) → n ≡ 23 → parts f sep n ≡ join_by f sep items
unfolding items parts
all_parts f sep n e = ap (parts f sep) e

-- all items
pub whole : (number : ℕ) (text : List ℕ) (n : ℕ) → n ≡ 24 → text ≡ start_line ++ flat_map (item_line number) (range_with_len 0 n) → text ≡ made number
unfolding made items
whole number text n e h = h ∙ ap (λ z. start_line ++ flat_map (item_line number) (range_with_len 0 z)) e
