-- A token list is too deep at one place.
use Rattle.std.proofs.Common.{◌≡◌, ℕ, ◌⊎◌, inl, inr, List, [], ◌∷◌, ◌++◌, sym, ap, ap₂, ◌∙◌}
use Rattle.token_laws.specs.Tokens.{Token, Placed, ◌at◌}
use Rattle.grammar_laws.specs.Nesting.{TooDeep}

head_same : {x y : Placed} {xs ys : List Placed} → x ∷ xs ≡ y ∷ ys → x ≡ y
head_same e = cc

tail_same : {x y : Placed} {xs ys : List Placed} → x ∷ xs ≡ y ∷ ys → xs ≡ ys
tail_same e = cc

pub place_same : {t u : Token} {a b : ℕ} → t at a ≡ u at b → a ≡ b
place_same e = cc

-- two splits of a list: the same, or one stands before the other
abbrev pub Splits : List Placed → Placed → List Placed → Placed → Type 0
Splits xs x ys y = (x ≡ y) ⊎ (((zs : List Placed) × (ys ≡ xs ++ x ∷ zs)) ⊎ ((zs : List Placed) × (xs ≡ ys ++ y ∷ zs)))

pub splits : (xs : List Placed) (x : Placed) (us ys : List Placed) (y : Placed) (vs : List Placed) → xs ++ x ∷ us ≡ ys ++ y ∷ vs → Splits xs x ys y
splits [] x us [] y vs e = inl (head_same e)
splits [] x us (z ∷ ys) y vs e = inr (inl (ys, ap (λ w. w ∷ ys) (sym (head_same e))))
splits (z ∷ xs) x us [] y vs e = inr (inr (xs, ap (λ w. w ∷ xs) (head_same e)))
splits (z ∷ xs) x us (w ∷ ys) y vs e = go (splits xs x us ys y vs (tail_same e))
  where
    go : Splits xs x ys y → Splits (z ∷ xs) x (w ∷ ys) y
    go (inl same) = inl same
    go (inr (inl (zs, same))) = inr (inl (zs, ap₂ (λ u v. u ∷ v) (sym (head_same e)) same))
    go (inr (inr (zs, same))) = inr (inr (zs, ap₂ (λ u v. u ∷ v) (head_same e) same))

pub one_depth : (ts : List Placed) (a b : ℕ) → TooDeep ts a → TooDeep ts b → a ≡ b
one_depth ts a b (xs, t, us, d) (ys, u, vs, e) = go (splits xs (t at a) us ys (u at b) vs (sym d.spelled ∙ e.spelled))
  where
    go : Splits xs (t at a) ys (u at b) → a ≡ b
    go (inl same) = place_same same
    go (inr (inl (zs, same))) = absurd (e.first xs zs t a same d.deep)
    go (inr (inr (zs, same))) = absurd (d.first ys zs u b same e.deep)
