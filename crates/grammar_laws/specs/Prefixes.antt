-- Where reading a part fails: what a parsing function says of an error at its token k, counted from where it began.
use Rattle.std.specs.Prelude.{◌≡◌, ℕ, zero, suc, List, [], ◌∷◌, ◌++◌, take}
use Rattle.token_laws.specs.Tokens.{Placed, ◌at◌}

-- the first k + 1 tokens are the same, where the end of the text counts as a token
abbrev pub AgreeThrough : ℕ → List Placed → List Placed → Type 0
AgreeThrough k ts us = take (suc k) us ≡ take (suc k) ts

-- whatever stands behind the token k, no part is read whose rest passes End
abbrev pub FailsAt : {A : Type 0} → (List Placed → List Placed → A → Type 0) → (List Placed → Type 0) → ℕ → List Placed → Type 0
FailsAt {A = A} Reads End k ts = (ts' us : List Placed) (x : A) → AgreeThrough k ts ts' → Reads ts' us x → End us → ⊥

-- some tokens behind the first k make a part of them, whatever stands behind those
abbrev pub CanFinish : {A : Type 0} → (List Placed → List Placed → A → Type 0) → ℕ → List Placed → Type 0
CanFinish {A = A} Reads k ts = (zs : List Placed) × (x : A) × ((us : List Placed) → Reads (take k ts ++ (zs ++ us)) us x)

-- the place of the token k, or of the end
abbrev pub place_at : List Placed → ℕ → ℕ → ℕ
place_at [] end k = end
place_at (t at a ∷ ts) end zero = a
place_at (t at a ∷ ts) end (suc k) = place_at ts end k
