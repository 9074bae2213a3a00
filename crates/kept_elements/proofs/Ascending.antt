-- Ascending numbers: their places, and how they are found.
use Rattle.std.proofs.Common.{◌≡◌, ℕ, zero, suc, ◌+◌, ◌<◌, ◌≤◌, ◌⊎◌, inl, inr, Bool, true, false, get_or, List, [], ◌∷◌, ◌++◌, Option, Some, None, length, slice_get, refl, sym, ◌∙◌, subst, arith}
use Rattle.std.specs.Prelude.{Result, Ok, Err, Contains, ◌↔◌}
use Rattle.std.proofs.Math.ListN.{set, length-set}
use Rattle.std.specs.List.{AllByRecursion}
use Rattle.std.specs.List.Sorted.{IsStrictlySortedBy, IsBinarySearchResult}
use Rattle.std.specs.Ordering.{nat_cmp, MatchOrdering}
use Rattle.std.specs.Cmp.{nat_cmp_is}
use Rattle.std.specs.Result.{MatchResult}
use Rattle.std.specs.declared.cmp.Ordering.TheVariants.{Less}
use Rattle.std.proofs.lemmas.Cmp.{ranked}
use Rattle.std.proofs.lemmas.List.Sorted.{searched}
use Rattle.std.proofs.lemmas.Option.{slice_get_within, get_or_from_slice_get}
use Rattle.derivative_laws.proofs.Members.{IsIn, is_in, contained, in_left, in_right, in_append}
use Rattle.rng_model.specs.Patterns.{ref}
use Rattle.simple_form_laws.specs.Forms.{new_number}
use Rattle.simple_form_laws.proofs.Kept.{in_its_place}
use Rattle.schema_graph.specs.declared.graph.Graph.{Graph}
use Rattle.pattern_intern.specs.Stored.{Stored, tree_at}
use Rattle.pattern_intern.specs.declared.id.PatternId.{PatternId}
use Rattle.pattern_intern.specs.declared.node.Node.{Node}
use Rattle.pattern_intern.specs.Trees.{IsNode, node_tree}
use Rattle.kept_elements.specs.Wanted.{IsWanted, IsReady}
use Rattle.kept_elements.specs.Marking.{IsMarked, HasMark, AreWanted}
use Rattle.kept_elements.specs.Numbering.{AreNumbers, AreReferred}
use Rattle.kept_elements.proofs.Lists.{get_set, get_set_other, same_or_not}

side : (i j : ℕ) → (i < j) ⊎ (j ≤ i)
side zero zero = inr (omega arith)
side zero (suc j) = inl (omega arith)
side (suc i) zero = inr (omega arith)
side (suc i) (suc j) = more (side i j)
  where
    more : (i < j) ⊎ (j ≤ i) → (suc i < suc j) ⊎ (suc j ≤ suc i)
    more (inl l) = inl (omega arith)
    more (inr l) = inr (omega arith)

less_from : (x y : ℕ) → nat_cmp x y ≡ Less → x < y
less_from x y e = subst (λ o. MatchOrdering o (x < y) (x ≡ y) (y < x)) e (ranked x y (nat_cmp x y) refl)

above_at : (x : ℕ) (xs : List ℕ) (j : ℕ) → AllByRecursion (λ y. nat_cmp x y ≡ Less) xs → j < length xs → x < get_or xs j 0
above_at x [] j a l = absurd (omega arith)
above_at x (y ∷ ys) zero a l = less_from x y a.0
above_at x (y ∷ ys) (suc j) a l = above_at x ys j a.1 (omega arith)

rises : (xs : List ℕ) → IsStrictlySortedBy nat_cmp xs → (i j : ℕ) → i < j → j < length xs → get_or xs i 0 < get_or xs j 0
unfolding IsStrictlySortedBy
rises [] s i j l m = absurd (omega arith)
rises (x ∷ xs) s i zero l m = absurd (omega arith)
rises (x ∷ xs) s zero (suc j) l m = above_at x xs j s.0 (omega arith)
rises (x ∷ xs) s (suc i) (suc j) l m = rises xs s.1 i j (omega arith) (omega arith)

no_less : (xs : List ℕ) → IsStrictlySortedBy nat_cmp xs → (i j : ℕ) → i ≤ j → j < length xs → get_or xs i 0 ≤ get_or xs j 0
no_less xs s i j l m = go (same_or_not i j)
  where
    go : (i ≡ j) ⊎ (i ≡ j → ⊥) → get_or xs i 0 ≤ get_or xs j 0
    go (inl e) = subst (λ k. get_or xs i 0 ≤ get_or xs k 0) e (omega arith)
    go (inr n) = let h = rises xs s i j (apart n) m in omega arith
      where
        apart : (i ≡ j → ⊥) → i < j
        apart n = omega arith

once : (xs : List ℕ) → IsStrictlySortedBy nat_cmp xs → (i j x : ℕ) → i < length xs → get_or xs i 0 ≡ x → j < length xs → get_or xs j 0 ≡ x → i ≡ j
once xs s i j x l e m f = go (same_or_not i j)
  where
    go : (i ≡ j) ⊎ (i ≡ j → ⊥) → i ≡ j
    go (inl q) = q
    go (inr n) = absurd (which (side i j))
      where
        less : j ≤ i → j < i
        less q = omega arith

        which : (i < j) ⊎ (j ≤ i) → ⊥
        which (inl q) = let h = rises xs s i j q m in omega arith
        which (inr q) = let h = rises xs s j i (less q) l in omega arith

-- a kept number has its place
record Place (kept : List ℕ) (n i : ℕ) : Type 0 where
  within : i < length kept
  is : get_or kept i 0 ≡ n

the_place : (kept : List ℕ) (n : ℕ) → IsStrictlySortedBy nat_cmp kept → Contains kept n → Place kept n (new_number kept n)
the_place kept n s c =
    let e = in_its_place kept n s c in
    record { within = slice_get_within kept (new_number kept n) n e; is = get_or_from_slice_get kept (new_number kept n) n 0 e }

module _ (kept : List ℕ) (n : ℕ) (s : IsStrictlySortedBy nat_cmp kept) (c : Contains kept n) where
  abbrev Answer : Result ℕ ℕ → Type 0
  Answer r = MatchResult r (λ i. (i < length kept) × (get_or kept i 0 ≡ n)) (λ i. (i ≤ length kept) × ((k : ℕ) → k < i → get_or kept k 0 < n) × ((k : ℕ) → i ≤ k → k < length kept → n < get_or kept k 0))

  answer : (r : Result ℕ ℕ) → IsBinarySearchResult (λ y. nat_cmp y n) kept r → Answer r
  answer r h = searched kept n r h (no_less kept s)

  pub found_place : (r : Result ℕ ℕ) (i : ℕ) → IsBinarySearchResult (λ y. nat_cmp y n) kept r → r ≡ Ok i → (i ≡ new_number kept n) × (i < length kept)
  found_place r i h e =
      let a : Answer (Ok i) = subst Answer e (answer r h) in
      let p = the_place kept n s c in
      (once kept s i (new_number kept n) n a.0 a.1 p.within p.is, a.0)

  pub always_found : (r : Result ℕ ℕ) (i : ℕ) → IsBinarySearchResult (λ y. nat_cmp y n) kept r → r ≡ Err i → ⊥
  always_found r i h e =
      let a : Answer (Err i) = subst Answer e (answer r h) in
      let p = the_place kept n s c in
      which a p (side (new_number kept n) i)
    where
      which : Answer (Err i) → Place kept n (new_number kept n) → (new_number kept n < i) ⊎ (i ≤ new_number kept n) → ⊥
      which a p (inl l) = let x = a.1 (new_number kept n) l in let y = p.is in omega arith
      which a p (inr l) = let x = a.2 (new_number kept n) l p.within in let y = p.is in omega arith

-- the next number is put behind the others
sorted_push : (xs : List ℕ) (n : ℕ) → IsStrictlySortedBy nat_cmp xs → AllByRecursion (λ y. y < n) xs → IsStrictlySortedBy nat_cmp (xs ++ n ∷ [])
unfolding IsStrictlySortedBy
sorted_push [] n s a = (tt, tt)
sorted_push (x ∷ xs) n s a = (above xs s.0 a.0, sorted_push xs n s.1 a.1)
  where
    above : (ys : List ℕ) → AllByRecursion (λ y. nat_cmp x y ≡ Less) ys → x < n → AllByRecursion (λ y. nat_cmp x y ≡ Less) (ys ++ n ∷ [])
    above [] b l = (sym (nat_cmp_is x n Less l), tt)
    above (y ∷ ys) b l = (b.0, above ys b.1 l)

all_more : (xs : List ℕ) (i : ℕ) → AllByRecursion (λ y. y < i) xs → AllByRecursion (λ y. y < i + 1) xs
all_more [] i a = tt
all_more (x ∷ xs) i a = (let l = a.0 in omega arith, all_more xs i a.1)

all_push : (xs : List ℕ) (i : ℕ) → AllByRecursion (λ y. y < i) xs → AllByRecursion (λ y. y < i + 1) (xs ++ i ∷ [])
all_push [] i a = (omega arith, tt)
all_push (x ∷ xs) i a = (let l = a.0 in omega arith, all_push xs i a.1)

sorted_none : IsStrictlySortedBy nat_cmp []
unfolding IsStrictlySortedBy
sorted_none = tt

pub no_numbers : (marks : List Bool) → AreNumbers marks 0 []
no_numbers marks = record { ascending = sorted_none; below = tt; sound = λ n i. absurd i; complete = λ n l m. absurd (omega arith) }

pub numbers_skip : (marks : List Bool) (i : ℕ) (xs : List ℕ) → AreNumbers marks i xs → slice_get marks i ≡ Some false → AreNumbers marks (i + 1) xs
numbers_skip marks i xs h f = record { ascending = h.ascending; below = all_more xs i h.below; sound = h.sound; complete = λ n l m. go n l m (same_or_not n i) }
  where
    go : (n : ℕ) → n < i + 1 → IsMarked marks n → (n ≡ i) ⊎ (n ≡ i → ⊥) → IsIn n xs
    go n l m (inl e) = absurd (let q : Some false ≡ Some true = sym f ∙ subst (IsMarked marks) e m in cc)
    go n l m (inr k) = h.complete n (less k) m
      where
        less : (n ≡ i → ⊥) → n < i
        less k = omega arith

pub numbers_take : (marks : List Bool) (i : ℕ) (xs : List ℕ) → AreNumbers marks i xs → IsMarked marks i → AreNumbers marks (i + 1) (xs ++ i ∷ [])
numbers_take marks i xs h f = record {
  ascending = sorted_push xs i h.ascending h.below;
  below = all_push xs i h.below;
  sound = λ n k. from n (in_append n xs (i ∷ []) k);
  complete = λ n l m. go n l m (same_or_not n i);
}
  where
    from : (n : ℕ) → IsIn n xs ⊎ IsIn n (i ∷ []) → IsMarked marks n
    from n (inl k) = h.sound n k
    from n (inr (inl e)) = subst (IsMarked marks) (sym e) f
    from n (inr (inr k)) = absurd k

    go : (n : ℕ) → n < i + 1 → IsMarked marks n → (n ≡ i) ⊎ (n ≡ i → ⊥) → IsIn n (xs ++ i ∷ [])
    go n l m (inl e) = in_right n xs (i ∷ []) (inl e)
    go n l m (inr k) = in_left n xs (i ∷ []) (h.complete n (less k) m)
      where
        less : (n ≡ i → ⊥) → n < i
        less k = omega arith

pub all_numbers : (marks : List Bool) (i : ℕ) (xs : List ℕ) → length marks ≤ i → AreNumbers marks i xs → (n : ℕ) → Contains xs n ↔ IsMarked marks n
all_numbers marks i xs l h n = ((λ c. h.sound n (is_in n xs c)), (λ m. contained n xs (h.complete n (within m) m)))
  where
    within : IsMarked marks n → n < i
    within m = let k = slice_get_within marks n true m in omega arith

module _ (g : Graph) (pool : Stored) (forms : List (Option PatternId)) (marks : List Bool) where
  pub referred_none : (elements : List Bool) → length elements ≡ length g.elements.items → ((n : ℕ) → IsMarked elements n → ⊥) → AreReferred g pool forms marks 0 elements
  referred_none elements l f = record { each = l; sound = λ n m. absurd (f n m); complete = λ k n l m e. absurd (omega arith) }

  -- the next is no reference, or isn't marked
  pub referred_skip : (i : ℕ) (elements : List Bool) → AreReferred g pool forms marks i elements → ((n : ℕ) → IsMarked marks i → tree_at pool i ≡ ref n → ⊥) → AreReferred g pool forms marks (i + 1) elements
  referred_skip i elements h f = record { each = h.each; sound = h.sound; complete = λ k n l m e. go k n l m e (same_or_not k i) }
    where
      go : (k n : ℕ) → k < i + 1 → IsMarked marks k → tree_at pool k ≡ ref n → (k ≡ i) ⊎ (k ≡ i → ⊥) → IsMarked elements n
      go k n l m e (inl q) = absurd (f n (subst (IsMarked marks) q m) (subst (λ j. tree_at pool j ≡ ref n) q e))
      go k n l m e (inr q) = h.complete k n (less q) m e
        where
          less : (k ≡ i → ⊥) → k < i
          less q = omega arith

  pub referred_take : (i n : ℕ) (elements : List Bool) → AreReferred g pool forms marks i elements → n < length elements → IsWanted g pool forms (ref n) → tree_at pool i ≡ ref n → AreReferred g pool forms marks (i + 1) (set elements n true)
  referred_take i n elements h l w e = record {
    each = length-set elements n true ∙ h.each;
    sound = λ m k. from m k (same_or_not n m);
    complete = λ k m a b c. go k m a b c (same_or_not k i);
  }
    where
      from : (m : ℕ) → IsMarked (set elements n true) m → (n ≡ m) ⊎ (n ≡ m → ⊥) → IsWanted g pool forms (ref m)
      from m k (inl q) = subst (λ x. IsWanted g pool forms (ref x)) q w
      from m k (inr q) = h.sound m (sym (get_set_other elements n m true q) ∙ k)

      put : (m : ℕ) → (n ≡ m) ⊎ (n ≡ m → ⊥) → (IsMarked elements m) ⊎ (n ≡ m) → IsMarked (set elements n true) m
      put m (inl q) k = subst (IsMarked (set elements n true)) q (get_set elements n true l)
      put m (inr q) (inl k) = get_set_other elements n m true q ∙ k
      put m (inr q) (inr k) = absurd (q k)

      number : (m : ℕ) → ref n ≡ ref m → n ≡ m
      number m q = cc

      go : (k m : ℕ) → k < i + 1 → IsMarked marks k → tree_at pool k ≡ ref m → (k ≡ i) ⊎ (k ≡ i → ⊥) → IsMarked (set elements n true) m
      go k m a b c (inl q) = put m (same_or_not n m) (inr (number m (sym e ∙ subst (λ j. tree_at pool j ≡ ref m) q c)))
      go k m a b c (inr q) = put m (same_or_not n m) (inl (h.complete k m (less q) b c))
        where
          less : (k ≡ i → ⊥) → k < i
          less q = omega arith

  pub referred_all : (i : ℕ) (elements : List Bool) → AreWanted g pool forms marks → length marks ≤ i → AreReferred g pool forms marks i elements → (n : ℕ) → IsMarked elements n ↔ IsWanted g pool forms (ref n)
  referred_all i elements a l h n = (h.sound n, (λ w. go (a.complete (ref n) w)))
    where
      go : HasMark pool marks (ref n) → IsMarked elements n
      go (k, m, e) = h.complete k n (let q = slice_get_within marks k true m in omega arith) m e

  not_ref : (x : Node) (n : ℕ) → ((d : ℕ) → x ≡ Node.Ref d → ⊥) → node_tree pool x ≡ ref n → ⊥
  not_ref Node.NotAllowed n f e = cc
  not_ref Node.Empty n f e = cc
  not_ref Node.AnyText n f e = cc
  not_ref (Node.Ref d) n f e = f d refl
  not_ref (Node.Value k l) n f e = cc
  not_ref (Node.DataType k None) n f e = cc
  not_ref (Node.DataType k (Some x)) n f e = cc
  not_ref (Node.Attribute c a) n f e = cc
  not_ref (Node.OneOrMore a) n f e = cc
  not_ref (Node.Choice a b) n f e = cc
  not_ref (Node.Group a b) n f e = cc
  not_ref (Node.Interleave a b) n f e = cc
  not_ref (Node.After a b) n f e = cc

  pub referred_ref : (i n : ℕ) (elements : List Bool) → IsReady g pool forms → AreWanted g pool forms marks → AreReferred g pool forms marks i elements → IsMarked marks i → tree_at pool i ≡ ref n →
      AreReferred g pool forms marks (i + 1) (set elements n true)
  referred_ref i n elements r a h m e =
      let w = subst (IsWanted g pool forms) e (a.sound i m) in
      let c = (r.contents n w).2 in
      let l = slice_get_within g.elements.items n c.node c.at in
      referred_take i n elements h (let q = h.each in omega arith) w e

  pub referred_other : (i : ℕ) (elements : List Bool) (x : Node) → AreReferred g pool forms marks i elements → IsNode pool i x → ((d : ℕ) → x ≡ Node.Ref d → ⊥) → AreReferred g pool forms marks (i + 1) elements
  referred_other i elements x h n f = referred_skip i elements h (λ k m e. not_ref x k f (sym n.tree ∙ e))

  pub referred_unmarked : (i : ℕ) (elements : List Bool) → AreReferred g pool forms marks i elements → slice_get marks i ≡ Some false → AreReferred g pool forms marks (i + 1) elements
  referred_unmarked i elements h f = referred_skip i elements h (λ n m e. let q : Some false ≡ Some true = sym f ∙ m in cc)
