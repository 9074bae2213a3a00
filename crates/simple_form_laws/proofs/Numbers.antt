-- Each `element` token has a number of its own.
use Rattle.std.proofs.Common.{◌≡◌, ℕ, suc, ◌+◌, ◌<◌, ◌≤◌, inl, inr, Bool, true, false, cond, List, [], ◌∷◌, ◌++◌, map, length, filter, refl, sym, ◌∙◌, ap, subst, arith, append_assoc, nat_le, nat_lt}
use Rattle.std.proofs.lemmas.List.{length-append, map-append}
use Rattle.std.proofs.lemmas.List.Elements.{filter-append, filter_map-append}
use Rattle.std.proofs.Math.Seq.{take-append_seam, drop-append_seam}
use Rattle.std.proofs.lemmas.Bool.Decides.{nat_tests}
use Rattle.std.proofs.lemmas.Bool.{eq-eqb, ne_eqb}
use Rattle.std.specs.Prelude.{⊤, Some, find, ◌==◌, Contains}
use Rattle.derivative_laws.proofs.Members.{IsIn, is_in}
use Rattle.grammar_laws.specs.Trees.{Pattern, Patterns, no_pattern, more_patterns, Item, start, define, div, include, Items, no_item, more_items}
use Rattle.grammar_laws.specs.Files.{Full, body_pattern}
use Rattle.grammar_laws.specs.Trees as full
use Rattle.simple_form_laws.specs.Parts.{Scope, Part, parts_of, parts_of_list, parts_of_items, parts_of_item}
use Rattle.simple_form_laws.specs.Forms.{how_many, token_number, element_places, places_in_list, places_in_items, places_in_item, numbered, numbered_list, numbered_items, numbered_item, ElementToken, tokens_of, tokens, token_of}

-- whether a number is at most another, or less
le_true : (a b : ℕ) → a ≤ b → nat_le a b ≡ true
le_true a b h = grind (arith, nat_tests)

pub lt_true : (a b : ℕ) → a < b → nat_lt a b ≡ true
lt_true a b h = grind (arith, nat_tests)

pub lt_false : (a b : ℕ) → b ≤ a → nat_lt a b ≡ false
lt_false a b h = grind (arith, nat_tests)

le_false : (a b : ℕ) → b < a → nat_le a b ≡ false
le_false a b h = grind (arith, nat_tests)

le_from : (a b : ℕ) → nat_le a b ≡ true → a ≤ b
le_from a b h = grind (arith, nat_tests)

pub lt_from : (a b : ℕ) → nat_lt a b ≡ true → a < b
lt_from a b h = grind (arith, nat_tests)

pub many-append : (t : ℕ → Bool) (xs ys : List ℕ) → how_many t (xs ++ ys) ≡ how_many t xs + how_many t ys
many-append t xs ys = ap length (filter-append t xs ys) ∙ length-append (filter t xs) (filter t ys)

pub many-take : (t : ℕ → Bool) (x : ℕ) (xs : List ℕ) → t x ≡ true → how_many t (x ∷ xs) ≡ suc (how_many t xs)
many-take t x xs e = ap (λ b. length (cond b (x ∷ filter t xs) (filter t xs))) e

pub many-skip : (t : ℕ → Bool) (x : ℕ) (xs : List ℕ) → t x ≡ false → how_many t (x ∷ xs) ≡ how_many t xs
many-skip t x xs e = ap (λ b. length (cond b (x ∷ filter t xs) (filter t xs))) e

pub many-more : (t u : ℕ → Bool) → ((x : ℕ) → t x ≡ true → u x ≡ true) → (xs : List ℕ) → how_many t xs ≤ how_many u xs
many-more t u f [] = omega arith
many-more t u f (x ∷ xs) = go (t x) (u x) (f x) (filter t xs) (filter u xs) (many-more t u f xs)
  where
    go : (a b : Bool) → (a ≡ true → b ≡ true) → (v w : List ℕ) → length v ≤ length w → length (cond a (x ∷ v) v) ≤ length (cond b (x ∷ w) w)
    go true true g v w h = omega arith
    go true false g v w h = let e : false ≡ true = g refl in absurd (cc)
    go false true g v w h = omega arith
    go false false g v w h = h

abbrev up_to : ℕ → ℕ → Bool
up_to a x = nat_le x a

abbrev below : ℕ → ℕ → Bool
below a x = nat_lt x a

-- the number of a token, where xs are the places before it and ys those behind it
number-seam : (xs : List ℕ) (a : ℕ) (ys : List ℕ) → token_number (xs ++ a ∷ ys) (length xs) a ≡ how_many (up_to a) xs + how_many (below a) ys
number-seam xs a ys =
    (λ i. how_many (up_to a) (take-append_seam xs (a ∷ ys) i) + how_many (below a) (drop-append_seam xs (a ∷ ys) i))
    ∙ ap (λ z. how_many (up_to a) xs + z) (many-skip (below a) a ys (lt_false a a (omega arith)))

-- two tokens have two numbers
two_numbers : (xs : List ℕ) (a : ℕ) (ys : List ℕ) (b : ℕ) (zs : List ℕ) →
    token_number (xs ++ a ∷ (ys ++ b ∷ zs)) (length xs) a ≡ token_number ((xs ++ a ∷ ys) ++ b ∷ zs) (length (xs ++ a ∷ ys)) b → ⊥
two_numbers xs a ys b zs e = go (nat_le a b) refl
  where
    first : token_number (xs ++ a ∷ (ys ++ b ∷ zs)) (length xs) a ≡ how_many (up_to a) xs + (how_many (below a) ys + how_many (below a) (b ∷ zs))
    first = number-seam xs a (ys ++ b ∷ zs) ∙ ap (λ z. how_many (up_to a) xs + z) (many-append (below a) ys (b ∷ zs))

    second : token_number ((xs ++ a ∷ ys) ++ b ∷ zs) (length (xs ++ a ∷ ys)) b ≡ (how_many (up_to b) xs + how_many (up_to b) (a ∷ ys)) + how_many (below b) zs
    second = number-seam (xs ++ a ∷ ys) b zs ∙ ap (λ z. z + how_many (below b) zs) (many-append (up_to b) xs (a ∷ ys))

    go : (t : Bool) → nat_le a b ≡ t → ⊥
    go true f =
        let l = le_from a b f in
        let f1 = first in
        let f2 = second in
        let h1 = many-skip (below a) b zs (lt_false b a l) in
        let h2 = many-take (up_to b) a ys (le_true a b l) in
        let h3 = many-more (up_to a) (up_to b) (λ x g. le_true x b (let m = le_from x a g in omega arith)) xs in
        let h4 = many-more (below a) (up_to b) (λ x g. le_true x b (let m = lt_from x a g in omega arith)) ys in
        let h5 = many-more (below a) (below b) (λ x g. lt_true x b (let m = lt_from x a g in omega arith)) zs in
        omega arith
    go false f =
        let l : b < a = grind (arith, nat_tests) in
        let f1 = first in
        let f2 = second in
        let h1 = many-take (below a) b zs (lt_true b a l) in
        let h2 = many-skip (up_to b) a ys (le_false a b l) in
        let h3 = many-more (up_to b) (up_to a) (λ x g. le_true x a (let m = le_from x b g in omega arith)) xs in
        let h4 = many-more (up_to b) (below a) (λ x g. lt_true x a (let m = le_from x b g in omega arith)) ys in
        let h5 = many-more (below b) (below a) (λ x g. lt_true x a (let m = lt_from x b g in omega arith)) zs in
        omega arith

-- the numbers of the tokens that stand at the places, where n precede them
module _ (all : List ℕ) where
  abbrev numbers_from : ℕ → List ℕ → List ℕ
  numbers_from n [] = []
  numbers_from n (at ∷ ats) = token_number all n at ∷ numbers_from (suc n) ats

  numbers-append : (n : ℕ) (xs ys : List ℕ) → numbers_from n (xs ++ ys) ≡ numbers_from n xs ++ numbers_from (n + length xs) ys
  numbers-append n [] ys = let e : n ≡ n + 0 = omega arith in ap (λ m. numbers_from m ys) e
  numbers-append n (x ∷ xs) ys =
      let e : suc n + length xs ≡ n + suc (length xs) = omega arith in
      ap (λ z. token_number all n x ∷ z) (numbers-append (suc n) xs ys ∙ ap (λ m. numbers_from (suc n) xs ++ numbers_from m ys) e)

  abbrev number_list : List Part → List ℕ
  number_list xs = map (λ t. t.number) (tokens_of xs)

  number_list-append : (xs ys : List Part) → number_list (xs ++ ys) ≡ number_list xs ++ number_list ys
  number_list-append xs ys =
      ap (map (λ t. t.number)) (filter_map-append _ xs ys) ∙ map-append (λ t. t.number) (tokens_of xs) (tokens_of ys)

  joined : (n : ℕ) (xs ys : List Part) (us vs : List ℕ) → number_list xs ≡ numbers_from n us → number_list ys ≡ numbers_from (n + length us) vs → number_list (xs ++ ys) ≡ numbers_from n (us ++ vs)
  joined n xs ys us vs e f = number_list-append xs ys ∙ (λ i. e i ++ f i) ∙ sym (numbers-append n us vs)

  mutual
    numbers_of : (s : Scope) (n : ℕ) (p : Pattern) → number_list (parts_of s (numbered all n p)) ≡ numbers_from n (element_places p)
    numbers_of s n (full.element c p at) = ap (λ z. token_number all n at ∷ z) (numbers_of s (suc n) p)
    numbers_of s n (full.attribute c p at) = numbers_of s n p
    numbers_of s n (full.group ps) = numbers_of_list s n ps
    numbers_of s n (full.choice ps) = numbers_of_list s n ps
    numbers_of s n (full.interleave ps) = numbers_of_list s n ps
    numbers_of s n (full.optional p) = numbers_of s n p
    numbers_of s n (full.zero_or_more p) = numbers_of s n p
    numbers_of s n (full.one_or_more p) = numbers_of s n p
    numbers_of s n (full.list p at) = numbers_of s n p
    numbers_of s n (full.mixed p) = numbers_of s n p
    numbers_of s n (full.ref name at) = refl
    numbers_of s n (full.parent name at) = refl
    numbers_of s n full.empty = refl
    numbers_of s n full.any_text = refl
    numbers_of s n full.not_allowed = refl
    numbers_of s n (full.value k t) = refl
    numbers_of s n (full.data_type k xs) = refl
    numbers_of s n (full.external t passed at) = refl
    numbers_of s n (full.data_except k xs p) = numbers_of s n p
    numbers_of s n (full.grammar is) = numbers_of_items (numbered_items all n is ∷ s) n is

    numbers_of_list : (s : Scope) (n : ℕ) (ps : Patterns) → number_list (parts_of_list s (numbered_list all n ps)) ≡ numbers_from n (places_in_list ps)
    numbers_of_list s n no_pattern = refl
    numbers_of_list s n (more_patterns p ps) =
        joined n (parts_of s (numbered all n p)) (parts_of_list s (numbered_list all (n + length (element_places p)) ps)) (element_places p) (places_in_list ps)
        (numbers_of s n p) (numbers_of_list s (n + length (element_places p)) ps)

    numbers_of_items : (s : Scope) (n : ℕ) (is : Items) → number_list (parts_of_items s (numbered_items all n is)) ≡ numbers_from n (places_in_items is)
    numbers_of_items s n no_item = refl
    numbers_of_items s n (more_items i rest) =
        joined n (parts_of_item s (numbered_item all n i)) (parts_of_items s (numbered_items all (n + length (places_in_item i)) rest)) (places_in_item i) (places_in_items rest)
        (numbers_of_item s n i) (numbers_of_items s (n + length (places_in_item i)) rest)

    numbers_of_item : (s : Scope) (n : ℕ) (i : Item) → number_list (parts_of_item s (numbered_item all n i)) ≡ numbers_from n (places_in_item i)
    numbers_of_item s n (start m p at) = numbers_of s n p
    numbers_of_item s n (define name m p at) = numbers_of s n p
    numbers_of_item s n (div inner) = numbers_of_items s n inner
    numbers_of_item s n (include t passed inner at) = refl

-- no number stands twice
abbrev AreDistinct : List ℕ → Type 0
AreDistinct [] = ⊤
AreDistinct (n ∷ ns) = (IsIn n ns → ⊥) × AreDistinct ns

-- no token behind the one that xs precede has its number
not_later : (all xs : List ℕ) (a : ℕ) (us vs : List ℕ) → all ≡ xs ++ a ∷ (us ++ vs) → IsIn (token_number all (length xs) a) (numbers_from all (length (xs ++ a ∷ us)) vs) → ⊥
not_later all xs a us [] e h = absurd h
not_later all xs a us (b ∷ vs) e (inl f) =
    two_numbers xs a us b vs
    (ap (λ z. token_number z (length xs) a) (sym e) ∙ f ∙ ap (λ z. token_number z (length (xs ++ a ∷ us)) b) (e ∙ sym (append_assoc xs (a ∷ us) (b ∷ vs))))
not_later all xs a us (b ∷ vs) e (inr h) =
    not_later all xs a (us ++ b ∷ []) vs (e ∙ ap (λ z. xs ++ a ∷ z) (sym (append_assoc us (b ∷ []) vs)))
    (subst (λ n. IsIn (token_number all (length xs) a) (numbers_from all n vs)) longer h)
  where
    longer : suc (length (xs ++ a ∷ us)) ≡ length (xs ++ a ∷ (us ++ b ∷ []))
    longer =
        let f = length-append (xs ++ a ∷ us) (b ∷ []) in
        let g = ap length (append_assoc xs (a ∷ us) (b ∷ [])) in
        omega arith

distinct_from : (all xs ys : List ℕ) → all ≡ xs ++ ys → AreDistinct (numbers_from all (length xs) ys)
distinct_from all xs [] e = tt
distinct_from all xs (a ∷ ys) e = (
  (λ h. not_later all xs a [] ys e (subst (λ n. IsIn (token_number all (length xs) a) (numbers_from all n ys)) longer h)),
  subst (λ n. AreDistinct (numbers_from all n ys)) (sym longer) (distinct_from all (xs ++ a ∷ []) ys (e ∙ sym (append_assoc xs (a ∷ []) ys))),
)
  where
    longer : suc (length xs) ≡ length (xs ++ a ∷ [])
    longer = let f = length-append xs (a ∷ []) in omega arith

find_own : (ts : List ElementToken) (t : ElementToken) → IsIn t ts → AreDistinct (map (λ u. u.number) ts) → find (λ u. u.number == t.number) ts ≡ Some t
find_own [] t h d = absurd h
find_own (u ∷ us) t (inl e) d =
    let f : (u.number == t.number) ≡ true = eq-eqb u.number t.number (ap (λ v. v.number) (sym e)) in
    ap (λ b. cond b (Some u) (find (λ v. v.number == t.number) us)) f ∙ ap Some (sym e)
find_own (u ∷ us) t (inr h) d =
    let f : (u.number == t.number) ≡ false = ne_eqb u.number t.number (λ e. d.0 (subst (λ n. IsIn n (map (λ v. v.number) us)) (sym e) (number_in us h))) in
    ap (λ b. cond b (Some u) (find (λ v. v.number == t.number) us)) f ∙ find_own us t h d.1
  where
    number_in : (vs : List ElementToken) → IsIn t vs → IsIn t.number (map (λ v. v.number) vs)
    number_in [] i = absurd i
    number_in (v ∷ vs) (inl e) = inl (ap (λ w. w.number) e)
    number_in (v ∷ vs) (inr i) = inr (number_in vs i)

-- each token is the one of its number
pub own_number : (f : Full) (t : ElementToken) → Contains (tokens f) t → token_of f t.number ≡ Some t
own_number f t h =
    let p = body_pattern f.body in
    let e = numbers_of (element_places p) [] 0 p in
    find_own (tokens f) t (is_in t (tokens f) h) (subst AreDistinct (sym e) (distinct_from (element_places p) [] (element_places p) refl))
