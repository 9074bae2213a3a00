-- Spaces behind a text.
use Rattle.std.proofs.Common.{◌≡◌, ℕ, zero, suc, ◌+◌, ◌-◌, ◌<◌, ◌≤◌, ◌⊎◌, inl, inr, List, [], ◌∷◌, ◌++◌, length, max, refl, sym, ◌∙◌, ap, arith, Contains, length-append}
use Rattle.rng_model.specs.Texts.{Text}
use Rattle.rng_model.specs.Atoms.{spaced}
use Rattle.std.proofs.Common.{subst}
use Rattle.text_atoms.specs.Parts.{IsLeastSpaced}
use Rattle.text_atoms.proofs.Members.{member_none}

-- the greatest length
abbrev pub longest : List Text → ℕ
longest [] = 0
longest (x ∷ xs) = max (length x) (longest xs)

pub longest_bound : (xs : List Text) (x : Text) → Contains xs x → length x ≤ longest xs
longest_bound [] x h = absurd (member_none x h)
longest_bound (y ∷ xs) x (zero, below, is) = let same : y ≡ x = is in let e = ap length same in omega arith
longest_bound (y ∷ xs) x (suc k, below, is) = let again = longest_bound xs x (k, omega arith, is) in omega arith

pub length-spaced : (n : Text) (k : ℕ) → length (spaced n k) ≡ length n + k
length-spaced n zero = omega arith
length-spaced n (suc k) = let again = length-spaced n k in omega (arith, length-append {A = ℕ} (spaced n k) (32 ∷ []))

-- the form with some spaces behind it, where fewer make a text that is taken
abbrev pub IsSpaced : List Text → Text → Text → Type 0
IsSpaced taken form text = (k : ℕ) × (text ≡ spaced form k) × ((j : ℕ) → j < k → Contains taken (spaced form j))

pub shorter : (taken : List Text) (old new : Text) → Contains taken old → new ≡ old ++ 32 ∷ [] → longest taken + 1 - length new < longest taken + 1 - length old
shorter taken old new h e =
    let bound : length old ≤ longest taken = longest_bound taken old h in
    let long : length new ≡ length old + 1 = ap length e ∙ length-append old (32 ∷ []) in
    omega arith

earlier_or_this : (j k : ℕ) → j < suc k → (j < k) ⊎ (j ≡ k)
earlier_or_this zero zero h = inr refl
earlier_or_this zero (suc k) h = inl (omega arith)
earlier_or_this (suc j) zero h = absurd (omega arith)
earlier_or_this (suc j) (suc k) h = elim (earlier_or_this j k (omega arith)) [ inl m ↦ inl (omega arith) | inr e ↦ inr (ap suc e) ]

pub one_space : (taken : List Text) (form old new : Text) → Contains taken old → new ≡ old ++ 32 ∷ [] → IsSpaced taken form old → IsSpaced taken form new
one_space taken form old new h e (k, is, first) = (suc k, e ∙ ap (λ (t : Text). t ++ 32 ∷ []) is, more)
  where
    this : (j : ℕ) → (j < k) ⊎ (j ≡ k) → Contains taken (spaced form j)
    this j (inl l) = first j l
    this j (inr same) = subst (Contains taken) (is ∙ ap (spaced form) (sym same)) h

    more : (j : ℕ) → j < suc k → Contains taken (spaced form j)
    more j l = this j (earlier_or_this j k l)

pub least : (taken : List Text) (form text : Text) → (Contains taken text → ⊥) → IsSpaced taken form text → IsLeastSpaced (Contains taken) form text
least taken form text free (k, is, first) = record { spaces = k; is = is; free = free; first = first }

earlier : (j k : ℕ) → (j < k) ⊎ (k < j) ⊎ (j ≡ k)
earlier zero zero = inr (inr refl)
earlier zero (suc k) = inl (omega arith)
earlier (suc j) zero = inr (inl (omega arith))
earlier (suc j) (suc k) = elim (earlier j k) [ inl h ↦ inl (omega arith) | inr (inl h) ↦ inr (inl (omega arith)) | inr (inr h) ↦ inr (inr (ap suc h)) ]

-- there is one such text
pub least-same : (taken : Text → Type 0) (n x y : Text) → IsLeastSpaced taken n x → IsLeastSpaced taken n y → x ≡ y
least-same taken n x y a b = elim (earlier a.spaces b.spaces) [
  | inl h ↦ absurd (a.free (subst taken (sym a.is) (b.first a.spaces h)))
  | inr (inl h) ↦ absurd (b.free (subst taken (sym b.is) (a.first b.spaces h)))
  | inr (inr h) ↦ a.is ∙ ap (spaced n) h ∙ sym b.is
]
