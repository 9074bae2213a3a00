-- Where a part of the grammar ends: at a token that doesn't go on with it.
use Rattle.std.proofs.Common.{◌≡◌, ℕ, suc, ◌≤◌, List, [], ◌∷◌, arith}
use Rattle.std.specs.Prelude.{⊤}
use Rattle.token_laws.specs.Tokens.{Keyword, Symbol, Token, keyword, ident, cname, ns_name, segment, symbol, Placed, ◌at◌, open_brace, close_brace, open_paren, close_paren, open_bracket, close_bracket, equals, bar_equals, ampersand_equals, comma, ampersand, bar, question, star, plus, minus, tilde, follows}
use Rattle.token_laws.specs.Tokens as word

-- the first token's rank is at most k
abbrev pub Stops : (Token → ℕ) → ℕ → List Placed → Type 0
Stops rank k [] = ⊤
Stops rank k (t at a ∷ ts) = rank t ≤ k

-- what goes on with a pattern: 1 with a chain, 2 with a particle, 3 with a primary, 4 and 5 with a bare pattern
abbrev pub rank : Token → ℕ
rank (symbol comma) = 1
rank (symbol bar) = 1
rank (symbol ampersand) = 1
rank (symbol question) = 2
rank (symbol star) = 2
rank (symbol plus) = 2
rank (symbol follows) = 3
rank (symbol minus) = 4
rank (symbol open_brace) = 5
rank (symbol tilde) = 5
rank (segment s) = 5
rank (keyword word.inherit) = 5
rank _ = 0

-- what goes on with a name class
abbrev pub class_rank : Token → ℕ
class_rank (symbol bar) = 1
class_rank (symbol follows) = 3
class_rank (symbol minus) = 4
class_rank _ = 0

abbrev pub tilde_rank : Token → ℕ
tilde_rank (symbol tilde) = 1
tilde_rank _ = 0

abbrev pub bracket_rank : Token → ℕ
bracket_rank (symbol open_bracket) = 1
bracket_rank _ = 0

abbrev pub brace_rank : Token → ℕ
brace_rank (symbol open_brace) = 1
brace_rank _ = 0

abbrev pub inherit_rank : Token → ℕ
inherit_rank (keyword word.inherit) = 1
inherit_rank _ = 0

abbrev pub follows_rank : Token → ℕ
follows_rank (symbol follows) = 1
follows_rank _ = 0

pub up : (g : Token → ℕ) (k : ℕ) (ts : List Placed) → Stops g k ts → Stops g (suc k) ts
up g k [] h = tt
up g k (t at a ∷ ts) h = omega arith

pub no_tilde : (ts : List Placed) → Stops rank 3 ts → Stops tilde_rank 0 ts
no_tilde [] h = tt
no_tilde (symbol tilde at a ∷ ts) h = omega arith
no_tilde (t at a ∷ ts) h = zero_le
  where
    zero_le : 0 ≤ 0
    zero_le = omega arith

pub no_brace : (ts : List Placed) → Stops rank 4 ts → Stops brace_rank 0 ts
no_brace [] h = tt
no_brace (symbol open_brace at a ∷ ts) h = omega arith
no_brace (t at a ∷ ts) h = zero_le
  where
    zero_le : 0 ≤ 0
    zero_le = omega arith

pub no_inherit : (ts : List Placed) → Stops rank 3 ts → Stops inherit_rank 0 ts
no_inherit [] h = tt
no_inherit (keyword word.inherit at a ∷ ts) h = omega arith
no_inherit (t at a ∷ ts) h = zero_le
  where
    zero_le : 0 ≤ 0
    zero_le = omega arith

pub no_follows : (ts : List Placed) → Stops rank 2 ts → Stops follows_rank 0 ts
no_follows [] h = tt
no_follows (symbol follows at a ∷ ts) h = omega arith
no_follows (t at a ∷ ts) h = zero_le
  where
    zero_le : 0 ≤ 0
    zero_le = omega arith

pub no_class_follows : (ts : List Placed) → Stops class_rank 2 ts → Stops follows_rank 0 ts
no_class_follows [] h = tt
no_class_follows (symbol follows at a ∷ ts) h = omega arith
no_class_follows (t at a ∷ ts) h = zero_le
  where
    zero_le : 0 ≤ 0
    zero_le = omega arith

-- from these tokens on only x is read, up to us, where what follows it passes End
abbrev pub Only : {A : Type 0} → (List Placed → List Placed → A → Type 0) → (List Placed → Type 0) → List Placed → List Placed → A → Type 0
Only Reads End ts us x = (us' : List Placed) (x' : _) → Reads ts us' x' → End us' → (us ≡ us') × (x ≡ x')

-- the same where nothing is read but tokens
abbrev pub OnlyTo : (List Placed → List Placed → Type 0) → (List Placed → Type 0) → List Placed → List Placed → Type 0
OnlyTo Reads End ts us = (us' : List Placed) → Reads ts us' → End us' → us ≡ us'

pub rest_same : {x y : Placed} {us vs : List Placed} → x ∷ us ≡ y ∷ vs → us ≡ vs
rest_same e = cc
