-- The new numbers of the kept definitions: they ascend, and are the places in the list.
use Rattle.std.proofs.Common.{◌≡◌, ℕ, ◌<◌, inl, inr, Bool, true, false, cond, List, [], ◌∷◌, filter, length, refl, sym, ◌∙◌, ap, subst, arith, nat_lt, Contains}
use Rattle.std.specs.Prelude.{Some, slice_get}
use Rattle.std.specs.List.{AllByRecursion}
use Rattle.std.specs.List.Sorted.{IsStrictlySortedBy}
use Rattle.std.specs.declared.cmp.Ordering.TheVariants.{Less}
use Rattle.std.specs.Ordering.{nat_cmp, MatchOrdering}
use Rattle.std.proofs.lemmas.Cmp.{ranked}
use Rattle.rng_model.specs.Patterns.{Pattern}
use Rattle.rng_model.specs.Constructors.{choice_of}
use Rattle.derivative_laws.proofs.Members.{IsIn, is_in}
use Rattle.simple_form_laws.specs.Forms.{how_many, new_number, renumbered, RefsIn}
use Rattle.simple_form_laws.proofs.Numbers.{many-more, many-take, many-skip, lt_true, lt_false, lt_from}
use Rattle.simple_form_laws.proofs.Renumbering.{choice-renumbered}

less : (m n : ℕ) → m < n → (xs : List ℕ) → IsIn m xs → how_many (λ x. nat_lt x m) xs < how_many (λ x. nat_lt x n) xs
less m n l [] i = absurd i
less m n l (x ∷ xs) (inl e) =
    let a = many-skip (λ y. nat_lt y m) x xs (lt_false x m (omega arith)) in
    let b = many-take (λ y. nat_lt y n) x xs (lt_true x n (omega arith)) in
    let c = many-more (λ y. nat_lt y m) (λ y. nat_lt y n) (λ y f. lt_true y n (let g = lt_from y m f in omega arith)) xs in
    omega arith
less m n l (x ∷ xs) (inr i) = go (nat_lt x m) (nat_lt x n) (λ f. lt_true x n (let g = lt_from x m f in omega arith)) (filter (λ y. nat_lt y m) xs) (filter (λ y. nat_lt y n) xs) (less m n l xs i)
  where
    go : (a b : Bool) → (a ≡ true → b ≡ true) → (v w : List ℕ) → length v < length w → length (cond a (x ∷ v) v) < length (cond b (x ∷ w) w)
    go true true g v w h = omega arith
    go true false g v w h = let e : false ≡ true = g refl in absurd (cc)
    go false true g v w h = omega arith
    go false false g v w h = h

pub ascends : (kept : List ℕ) (m n : ℕ) → Contains kept m → Contains kept n → m < n → new_number kept m < new_number kept n
ascends kept m n a b l = less m n l kept (is_in m kept a)

-- the first n counts that are less stand before n
pub in_its_place : (kept : List ℕ) (n : ℕ) → IsStrictlySortedBy nat_cmp kept → Contains kept n → slice_get kept (new_number kept n) ≡ Some n
unfolding IsStrictlySortedBy
in_its_place kept n s c = go kept s (is_in n kept c)
  where
    less_from : (x y : ℕ) → nat_cmp x y ≡ Less → x < y
    less_from x y e = subst (λ o. MatchOrdering o (x < y) (x ≡ y) (y < x)) e (ranked x y (nat_cmp x y) refl)

    none_less : (x : ℕ) (ys : List ℕ) → AllByRecursion (λ y. nat_cmp x y ≡ Less) ys → how_many (λ y. nat_lt y x) ys ≡ 0
    none_less x [] a = refl
    none_less x (y ∷ ys) a = many-skip (λ z. nat_lt z x) y ys (lt_false y x (let l = less_from x y a.0 in omega arith)) ∙ none_less x ys a.1

    among : (x : ℕ) (ys : List ℕ) → AllByRecursion (λ y. nat_cmp x y ≡ Less) ys → IsIn n ys → nat_cmp x n ≡ Less
    among x [] a i = absurd i
    among x (y ∷ ys) a (inl e) = rw e a.0
    among x (y ∷ ys) a (inr i) = among x ys a.1 i

    go : (ks : List ℕ) → IsStrictlySortedBy nat_cmp ks → IsIn n ks → slice_get ks (how_many (λ m. nat_lt m n) ks) ≡ Some n
    go [] s i = absurd i
    go (k ∷ ks) s (inl e) =
        let a = many-skip (λ m. nat_lt m n) k ks (lt_false k n (omega arith)) in
        let b = none_less k ks s.0 in
        let c : how_many (λ m. nat_lt m n) ks ≡ 0 = rw e b in
        subst (λ z. slice_get (k ∷ ks) z ≡ Some n) (sym (a ∙ c)) (ap Some (sym e))
    go (k ∷ ks) s (inr i) =
        let a = many-take (λ m. nat_lt m n) k ks (lt_true k n (less_from k n (among k ks s.0 i))) in
        subst (λ z. slice_get (k ∷ ks) z ≡ Some n) (sym a) (go ks s.1 i)

-- what the constructors make of simple forms with references to kept tokens, they make with the new numbers too
pub choice-kept : (kept : List ℕ) (p q : Pattern) → RefsIn (Contains kept) p → RefsIn (Contains kept) q →
    renumbered (new_number kept) (choice_of p q) ≡ choice_of (renumbered (new_number kept) p) (renumbered (new_number kept) q)
choice-kept kept p q s t = choice-renumbered (Contains kept) (new_number kept) (ascends kept) p q s t
