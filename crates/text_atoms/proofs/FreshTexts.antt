-- Numbered texts differ, so that of one more than are taken one is free.
use Rattle.std.proofs.Common.{◌≡◌, ◌≢◌, ℕ, zero, suc, ◌+◌, ◌<◌, ◌≤◌, ◌^◌, ◌⊎◌, inl, inr, List, [], ◌∷◌, ◌++◌, length, refl, sym, ◌∙◌, ap, subst, arith, decimal, codes, Contains, length-append}
use Rattle.std.proofs.lemmas.Fmt.{decimal_injective, decimal_nonempty}
use Rattle.rng_model.specs.Texts.{Text}
use Rattle.rng_model.specs.Fresh.{numbered, IsFirstFree}
use Rattle.text_atoms.proofs.Members.{member_later, member_cases, member_none}

-- a list without one of its members
record Without (z : Text) (xs : List Text) : Type 0 where
  rest : List Text
  shorter : length xs ≡ suc (length rest)
  keeps : (x : Text) → Contains xs x → (x ≡ z) ⊎ Contains rest x

without : (z : Text) (xs : List Text) → Contains xs z → Without z xs
without z [] h = absurd (member_none z h)
without z (y ∷ xs) (zero, below, is) = record { rest = xs; shorter = omega arith; keeps = λ x h. go x (member_cases y x xs h) }
  where
    go : (x : Text) → (y ≡ x) ⊎ Contains xs x → (x ≡ z) ⊎ Contains xs x
    go x (inl e) = let same : y ≡ z = is in inl (sym e ∙ same)
    go x (inr h) = inr h
without z (y ∷ xs) (suc k, below, is) = let t = without z xs (k, omega arith, is) in record { rest = y ∷ t.rest; shorter = (let s = t.shorter in omega arith); keeps = λ x h. go t x (member_cases y x xs h) }
  where
    go : (t : Without z xs) (x : Text) → (y ≡ x) ⊎ Contains xs x → (x ≡ z) ⊎ Contains (y ∷ t.rest) x
    go t x (inl e) = inr (zero, omega arith, e)
    go t x (inr h) = elim (t.keeps x h) [ inl f ↦ inl f | inr i ↦ inr (member_later y x t.rest i) ]

-- n different members
pub many_members : (f : ℕ → Text) (n : ℕ) → ((j k : ℕ) → j < k → k < n → f j ≡ f k → ⊥) → (xs : List Text) → ((j : ℕ) → j < n → Contains xs (f j)) → n ≤ length xs
many_members f zero differ xs all = omega arith
many_members f (suc n) differ xs all =
    let t = without (f n) xs (all n (omega arith)) in
    let fewer : n ≤ length t.rest = many_members f n (λ j k l m e. differ j k l (omega arith) e) t.rest (λ j l. other t j l (t.keeps (f j) (all j (omega arith)))) in
    let s = t.shorter in
    omega arith
  where
    other : (t : Without (f n) xs) (j : ℕ) → j < n → (f j ≡ f n) ⊎ Contains t.rest (f j) → Contains t.rest (f j)
    other t j l (inl e) = absurd (differ j n l (omega arith) e)
    other t j l (inr h) = h

cancel : (s a b : Text) → s ++ a ≡ s ++ b → a ≡ b
cancel [] a b e = e
cancel (c ∷ s) a b e = let h : s ++ a ≡ s ++ b = cc in cancel s a b h

pub numbered-differ : (stem : Text) (j k : ℕ) → j < k → k < 2 ^ 64 → numbered stem j ≡ numbered stem k → ⊥
numbered-differ stem j zero l m e = omega arith
numbered-differ stem zero (suc k) l m e =
    let some : 0 < length (decimal (suc k)) = decimal_nonempty (suc k) m in
    let long : length stem ≡ length stem + length (decimal (suc k)) = ap length e ∙ length-append stem (decimal (suc k)) in
    omega arith
numbered-differ stem (suc j) (suc k) l m e =
    let same : suc j ≡ suc k = decimal_injective (suc j) (suc k) (omega arith) m (cancel stem (decimal (suc j)) (decimal (suc k)) e) in
    omega arith

pub some_free : (stem : Text) (taken : List Text) (n : ℕ) → n < 2 ^ 64 → length taken < n → ((j : ℕ) → j < n → Contains taken (numbered stem j)) → ⊥
some_free stem taken n m l all =
    let few : n ≤ length taken = many_members (numbered stem) n (λ j k p q e. numbered-differ stem j k p (omega arith) e) taken all in
    omega arith

pub numbered-above : (stem : Text) (n : ℕ) → n ≢ 0 → numbered stem n ≡ stem ++ decimal n
numbered-above stem zero h = absurd (h refl)
numbered-above stem (suc n) h = refl

pub found_free : (taken : List Text) (x : Text) (n : ℕ) → x ≡ numbered (codes "t") n → (Contains taken x → ⊥) → ((j : ℕ) → j < n → Contains taken (numbered (codes "t") j)) →
    IsFirstFree (Contains taken) (codes "t") x
found_free taken x n is free first = record { number = n; is = is; free = free; first = first }

earlier : (j k : ℕ) → (j < k) ⊎ (k < j) ⊎ (j ≡ k)
earlier zero zero = inr (inr refl)
earlier zero (suc k) = inl (omega arith)
earlier (suc j) zero = inr (inl (omega arith))
earlier (suc j) (suc k) = elim (earlier j k) [ inl h ↦ inl (omega arith) | inr (inl h) ↦ inr (inl (omega arith)) | inr (inr h) ↦ inr (inr (ap suc h)) ]

-- there is one first
pub first-same : (taken : Text → Type 0) (stem x y : Text) → IsFirstFree taken stem x → IsFirstFree taken stem y → x ≡ y
first-same taken stem x y a b = elim (earlier a.number b.number) [
  | inl h ↦ absurd (a.free (subst taken (sym a.is) (b.first a.number h)))
  | inr (inl h) ↦ absurd (b.free (subst taken (sym b.is) (a.first b.number h)))
  | inr (inr h) ↦ a.is ∙ ap (numbered stem) h ∙ sym b.is
]

-- of what is taken alike
pub first_as : (taken others : Text → Type 0) (stem x : Text) → ((y : Text) → taken y → others y) → ((y : Text) → others y → taken y) → IsFirstFree taken stem x → IsFirstFree others stem x
first_as taken others stem x to from a = record { number = a.number; is = a.is; free = λ h. a.free (from x h); first = λ k l. to (numbered stem k) (a.first k l) }
