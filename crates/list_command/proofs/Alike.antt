-- Names and texts are grouped in one way.
use Rattle.std.proofs.Common.{◌≡◌, ◌⊎◌, inl, inr, ℕ, zero, suc, ◌+◌, ◌<◌, List, [], ◌∷◌, ◌++◌, length, refl, sym, ◌∙◌, ap, ap₂, subst, arith, append_assoc}
use Rattle.std.specs.Prelude.{Some, slice_get}
use Rattle.std.proofs.lemmas.Option.{slice_get_within}
use Rattle.rng_model.specs.Patterns.{Schema}
use Rattle.rng_model.specs.Atoms.{Literals}
use Rattle.rng_model.specs.Universe.{Lists}
use Rattle.rng_model.specs.Alike.{Groups, AreGroups, AreNumbered, AreAlikeGroups}

below_or_at : (m n : ℕ) → m < n + 1 → (m < n) ⊎ (m ≡ n)
below_or_at zero zero l = inr refl
below_or_at zero (suc n) l = inl (omega arith)
below_or_at (suc m) zero l = absurd (omega (arith, l))
below_or_at (suc m) (suc n) l = go (below_or_at m n (omega (arith, l)))
  where
    go : (m < n) ⊎ (m ≡ n) → (suc m < suc n) ⊎ (suc m ≡ suc n)
    go (inl a) = inl (omega (arith, a))
    go (inr e) = inr (ap suc e)

in_front : (xs ys : List ℕ) (i x : ℕ) → slice_get xs i ≡ Some x → slice_get (xs ++ ys) i ≡ Some x
in_front [] ys i x e = absurd (cc)
in_front (y ∷ xs) ys zero x e = e
in_front (y ∷ xs) ys (suc i) x e = in_front xs ys i x e

behind : (xs ys : List ℕ) (x : ℕ) → slice_get (xs ++ (x ∷ ys)) (length xs) ≡ Some x
behind [] ys x = refl
behind (y ∷ xs) ys x = behind xs ys x

-- members with one number in the first list have one in the second
abbrev AreSameIn : List ℕ → List ℕ → Type 0
AreSameIn ks js =
    (p q k a b : ℕ) → slice_get ks p ≡ Some k → slice_get ks q ≡ Some k → slice_get js p ≡ Some a → slice_get js q ≡ Some b → a ≡ b

-- the numbers below the next new one were given
abbrev AreGiven : List ℕ → ℕ → Type 0
AreGiven given next = (m : ℕ) → m < next → (i : ℕ) × (slice_get given i ≡ Some m)

module _ (given : List ℕ) (next : ℕ) (known : AreGiven given next) where
  -- a number that was given stands in both lists
  same_old : (k j : ℕ) (ks js : List ℕ) → AreSameIn (given ++ (k ∷ ks)) (given ++ (j ∷ js)) → k < next → k ≡ j
  same_old k j ks js same l =
      let t = known k l in
      same t.0 (length given) k k j (in_front given (k ∷ ks) t.0 k t.1) (behind given ks k) (in_front given (j ∷ js) t.0 k t.1) (behind given js j)

  still_given : (k : ℕ) → AreGiven (given ++ (k ∷ [])) next
  still_given k m l = let t = known m l in (t.0, in_front given (k ∷ []) t.0 m t.1)

  one_given : (k : ℕ) → k ≡ next → AreGiven (given ++ (k ∷ [])) (next + 1)
  one_given k is m l = go (below_or_at m next l)
    where
      go : (m < next) ⊎ (m ≡ next) → (i : ℕ) × (slice_get (given ++ (k ∷ [])) i ≡ Some m)
      go (inl a) = still_given k m a
      go (inr e) = (length given, behind given [] k ∙ ap Some (is ∙ sym e))

shifted : (given : List ℕ) (k j : ℕ) (ks js : List ℕ) → k ≡ j → AreSameIn (given ++ (k ∷ ks)) (given ++ (j ∷ js)) →
    AreSameIn ((given ++ (k ∷ [])) ++ ks) ((given ++ (k ∷ [])) ++ js)
shifted given k j ks js e same =
    subst (λ xs. AreSameIn xs ((given ++ (k ∷ [])) ++ js)) (sym (append_assoc given (k ∷ []) ks))
    (subst (λ xs. AreSameIn (given ++ (k ∷ ks)) xs) (sym (append_assoc given (k ∷ []) js)) (subst (λ i. AreSameIn (given ++ (k ∷ ks)) (given ++ (i ∷ js))) (sym e) same))

shifted_back : (given : List ℕ) (k j : ℕ) (ks js : List ℕ) → k ≡ j → AreSameIn (given ++ (j ∷ js)) (given ++ (k ∷ ks)) →
    AreSameIn ((given ++ (k ∷ [])) ++ js) ((given ++ (k ∷ [])) ++ ks)
shifted_back given k j ks js e same =
    subst (λ xs. AreSameIn xs ((given ++ (k ∷ [])) ++ ks)) (sym (append_assoc given (k ∷ []) js))
    (subst (λ xs. AreSameIn (given ++ (k ∷ js)) xs) (sym (append_assoc given (k ∷ []) ks)) (subst (λ i. AreSameIn (given ++ (i ∷ js)) (given ++ (k ∷ ks))) (sym e) same))

-- lists that number by first members, and tell the same members apart
one_numbering : (given ks js : List ℕ) (next : ℕ) → length ks ≡ length js → AreSameIn (given ++ ks) (given ++ js) → AreSameIn (given ++ js) (given ++ ks) →
    AreGiven given next → AreNumbered next ks → AreNumbered next js → ks ≡ js
one_numbering given [] [] next l s t known p q = refl
one_numbering given [] (j ∷ js) next l s t known p q = absurd (omega (arith, l))
one_numbering given (k ∷ ks) [] next l s t known p q = absurd (omega (arith, l))
one_numbering given (k ∷ ks) (j ∷ js) next l s t known (inl p) (inl q) =
    let is = same_old given next known k j ks js s p.0 in
    ap₂ (λ x xs. x ∷ xs) is
    (one_numbering (given ++ (k ∷ [])) ks js next (omega (arith, l)) (shifted given k j ks js is s) (shifted_back given k j ks js is t) (still_given given next known k) p.1 q.1)
one_numbering given (k ∷ ks) (j ∷ js) next l s t known (inl p) (inr q) =
    let is = same_old given next known k j ks js s p.0 in
    let less = p.0 in
    let new = q.0 in
    absurd (omega (arith, is, less, new))
one_numbering given (k ∷ ks) (j ∷ js) next l s t known (inr p) (inl q) =
    let is = same_old given next known j k js ks t q.0 in
    let less = q.0 in
    let new = p.0 in
    absurd (omega (arith, is, less, new))
one_numbering given (k ∷ ks) (j ∷ js) next l s t known (inr p) (inr q) =
    let is : k ≡ j = p.0 ∙ sym q.0 in
    ap₂ (λ x xs. x ∷ xs) is
    (one_numbering (given ++ (k ∷ [])) ks js (next + 1) (omega (arith, l)) (shifted given k j ks js is s) (shifted_back given k j ks js is t) (one_given given next known k p.0) p.1 q.1)

module _ {X : Type 0} (alike : X → X → Type 0) (xs : List X) where
  same_in : (ks js : List ℕ) → AreGroups X alike xs ks → AreGroups X alike xs js → AreSameIn ks js
  same_in ks js c d p q k a b at also first second = go (member p k at) (member q k also)
    where
      member : (i n : ℕ) → slice_get ks i ≡ Some n → (x : X) × (slice_get xs i ≡ Some x)
      member i n is = found xs i (let l = slice_get_within ks i n is in let many = c.same_length in omega (arith, l, many))
        where
          found : (ys : List X) (i : ℕ) → i < length ys → (x : X) × (slice_get ys i ≡ Some x)
          found [] i l = absurd (omega (arith, l))
          found (y ∷ ys) zero l = (y, refl)
          found (y ∷ ys) (suc i) l = found ys i (omega (arith, l))

      some : {m n : ℕ} → Some m ≡ Some n → m ≡ n
      some e = cc

      go : (x : X) × (slice_get xs p ≡ Some x) → (y : X) × (slice_get xs q ≡ Some y) → a ≡ b
      go (x, here) (y, there) =
          let one = (c.each p q x y here there).0 (at ∙ sym also) in
          some (sym first ∙ (d.each p q x y here there).1 one ∙ second)

  one_groups : (ks js : List ℕ) → AreGroups X alike xs ks → AreGroups X alike xs js → ks ≡ js
  one_groups ks js c d =
      one_numbering [] ks js 0 (c.same_length ∙ sym d.same_length) (same_in ks js c d) (same_in js ks d c) (λ m l. absurd (omega (arith, l))) c.numbered d.numbered

pub one_grouping : (g : Schema) (l : Literals) (u : Lists) (x y : Groups) → AreAlikeGroups g l u x → AreAlikeGroups g l u y → x ≡ y
one_grouping g l u x y a b =
    let elements = one_groups _ u.elements x.elements y.elements a.elements b.elements in
    let attributes = one_groups _ u.attributes x.attributes y.attributes a.attributes b.attributes in
    let atoms = one_groups _ u.atoms x.atoms y.atoms a.atoms b.atoms in
    (λ i. record { elements = elements i; attributes = attributes i; atoms = atoms i })
