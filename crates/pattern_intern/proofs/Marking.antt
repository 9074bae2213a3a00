-- Marked patterns, and what stands in them.
use Rattle.std.proofs.Common.{◌≡◌, ◌≢◌, ℕ, zero, suc, ◌<◌, ◌≤◌, ◌⊎◌, inl, inr, ◌↔◌, Bool, true, false, get_or, None, Some, List, [], ◌∷◌, length, refl, sym, ◌∙◌, ap, subst, arith}
use Rattle.std.specs.List.{AllByRecursion}
use Rattle.std.proofs.lemmas.List.{get_or-set_same, get_or-set_other}
use Rattle.std.proofs.Math.ListN.{length-set}
use Rattle.rng_model.specs.Texts.{Text}
use Rattle.rng_model.specs.Kinds.{Kind}
use Rattle.rng_model.specs.Patterns.{Pattern, Schema, Definition, Defines}
use Rattle.rng_model.specs.Patterns as pattern
use Rattle.rng_model.specs.Inside.{Within, InAttribute}
use Rattle.rng_model.specs.Universe.{IsOfKind}
use Rattle.pattern_intern.specs.Marks.{parts_of, content_of, with_mark, with_marks, InMarked, IsEmpty, IsValue}
use Rattle.pattern_intern.specs.Stored.{Stored, tree_at}
use Rattle.pattern_intern.specs.Trees.{node_tree, PartsBelow, IsNode}
use Rattle.pattern_intern.specs.declared.node.Node.{Node}
use Rattle.pattern_intern.specs.declared.node.Node.TheVariants.{NotAllowed, Empty, AnyText, Ref, Value, DataType, Attribute, OneOrMore, Choice, Group, Interleave, After}

same_or : (i j : ℕ) → (i ≡ j) ⊎ (i ≢ j)
same_or zero zero = inl refl
same_or zero (suc j) = inr (λ e. cc)
same_or (suc i) zero = inr (λ e. cc)
same_or (suc i) (suc j) = go (same_or i j)
  where
    go : (i ≡ j) ⊎ (i ≢ j) → (suc i ≡ suc j) ⊎ (suc i ≢ suc j)
    go (inl e) = inl (ap suc e)
    go (inr n) = inr (λ e. n (cc))

-- K holds of something in a pattern of one of the numbers
abbrev pub InSome : (Pattern → Type 0) → Stored → List ℕ → Type 0
InSome K s [] = ⊥
InSome K s (i ∷ ids) = Within K (tree_at s i) ⊎ InSome K s ids

pub nothing_in : {A B : Type 0} → (B → ⊥) → A ↔ (A ⊎ B)
nothing_in {A} {B} n = (inl, go)
  where
    go : A ⊎ B → A
    go (inl a) = a
    go (inr b) = absurd (n b)

one_in : {A W : Type 0} → (A ⊎ W) ↔ (A ⊎ W ⊎ ⊥)
one_in {A} {W} = (there, back)
  where
    there : A ⊎ W → A ⊎ W ⊎ ⊥
    there (inl a) = inl a
    there (inr w) = inr (inl w)

    back : A ⊎ W ⊎ ⊥ → A ⊎ W
    back (inl a) = inl a
    back (inr (inl w)) = inr w
    back (inr (inr n)) = absurd n

two_in : {A W V : Type 0} → (A ⊎ W ⊎ V) ↔ (A ⊎ W ⊎ V ⊎ ⊥)
two_in {A} {W} {V} = (there, back)
  where
    there : A ⊎ W ⊎ V → A ⊎ W ⊎ V ⊎ ⊥
    there (inl a) = inl a
    there (inr (inl w)) = inr (inl w)
    there (inr (inr v)) = inr (inr (inl v))

    back : A ⊎ W ⊎ V ⊎ ⊥ → A ⊎ W ⊎ V
    back (inl a) = inl a
    back (inr (inl w)) = inr (inl w)
    back (inr (inr (inl v))) = inr (inr v)
    back (inr (inr (inr n))) = absurd n

members_in : {A W V : Type 0} → (A → ⊥) → (W ⊎ V) ↔ (A ⊎ W ⊎ V ⊎ ⊥)
members_in {A} {W} {V} never = (there, back)
  where
    there : W ⊎ V → A ⊎ W ⊎ V ⊎ ⊥
    there (inl w) = inr (inl w)
    there (inr v) = inr (inr (inl v))

    back : A ⊎ W ⊎ V ⊎ ⊥ → W ⊎ V
    back (inl a) = absurd (never a)
    back (inr (inl w)) = inl w
    back (inr (inr (inl v))) = inr v
    back (inr (inr (inr n))) = absurd n

module _ (K : Pattern → Type 0) (never : (p q : Pattern) → K (pattern.choice p q) → ⊥) (s : Stored) where
  in_node : (node : Node) → Within K (node_tree s node) ↔ (K (node_tree s node) ⊎ InSome K s (parts_of node))
  in_node NotAllowed = nothing_in (λ n. n)
  in_node Empty = nothing_in (λ n. n)
  in_node AnyText = nothing_in (λ n. n)
  in_node (Ref d) = nothing_in (λ n. n)
  in_node (Value k l) = nothing_in (λ n. n)
  in_node (DataType k None) = nothing_in (λ n. n)
  in_node (DataType k (Some e)) = one_in
  in_node (Attribute c a) = one_in
  in_node (OneOrMore a) = one_in
  in_node (Choice a b) = members_in (never (tree_at s a.0) (tree_at s b.0))
  in_node (Group a b) = two_in
  in_node (Interleave a b) = two_in
  in_node (After a b) = two_in

module _ (K : Pattern → Type 0) (s : Stored) where
  -- a number that isn't marked
  pub unmarked : (marks : List Bool) (n : ℕ) → get_or marks n false ≡ false → InMarked K s marks (suc n) ↔ InMarked K s marks n
  unmarked marks n e = (there, λ x. (x.0, (let l = x.1 in omega (arith, l)), x.2, x.3))
    where
      go : (x : InMarked K s marks (suc n)) → (x.0 ≡ n) ⊎ (x.0 ≢ n) → InMarked K s marks n
      go x (inl f) = let t = sym x.2 ∙ ap (λ i. get_or marks i false) f ∙ e in absurd (cc)
      go x (inr f) = (x.0, (let l = x.1 in omega (arith, l, f)), x.2, x.3)

      there : InMarked K s marks (suc n) → InMarked K s marks n
      there x = go x (same_or x.0 n)

  -- a number that is
  marked : (marks : List Bool) (n : ℕ) → get_or marks n false ≡ true → InMarked K s marks (suc n) ↔ (Within K (tree_at s n) ⊎ InMarked K s marks n)
  marked marks n e = (there, back)
    where
      go : (x : InMarked K s marks (suc n)) → (x.0 ≡ n) ⊎ (x.0 ≢ n) → Within K (tree_at s n) ⊎ InMarked K s marks n
      go x (inl f) = inl (subst (λ i. Within K (tree_at s i)) f x.3)
      go x (inr f) = inr (x.0, (let l = x.1 in omega (arith, l, f)), x.2, x.3)

      there : InMarked K s marks (suc n) → Within K (tree_at s n) ⊎ InMarked K s marks n
      there x = go x (same_or x.0 n)

      back : Within K (tree_at s n) ⊎ InMarked K s marks n → InMarked K s marks (suc n)
      back (inl w) = (n, omega arith, e, w)
      back (inr x) = (x.0, (let l = x.1 in omega (arith, l)), x.2, x.3)

  -- one more mark
  one_mark : (marks : List Bool) (j n : ℕ) → j < n → j < length marks → InMarked K s (with_mark marks j) n ↔ (InMarked K s marks n ⊎ Within K (tree_at s j))
  one_mark marks j n l m = (there, back)
    where
      go : (x : InMarked K s (with_mark marks j) n) → (x.0 ≡ j) ⊎ (x.0 ≢ j) → InMarked K s marks n ⊎ Within K (tree_at s j)
      go x (inl f) = inr (subst (λ i. Within K (tree_at s i)) f x.3)
      go x (inr f) = inl (x.0, x.1, sym (get_or-set_other marks j x.0 true false f) ∙ x.2, x.3)

      there : InMarked K s (with_mark marks j) n → InMarked K s marks n ⊎ Within K (tree_at s j)
      there x = go x (same_or x.0 j)

      still : (x : InMarked K s marks n) → (x.0 ≡ j) ⊎ (x.0 ≢ j) → InMarked K s (with_mark marks j) n
      still x (inl f) = (x.0, x.1, rw f (get_or-set_same marks j true false m), x.3)
      still x (inr f) = (x.0, x.1, get_or-set_other marks j x.0 true false f ∙ x.2, x.3)

      back : InMarked K s marks n ⊎ Within K (tree_at s j) → InMarked K s (with_mark marks j) n
      back (inl x) = still x (same_or x.0 j)
      back (inr w) = (j, l, get_or-set_same marks j true false m, w)

  pub more_marks : (marks : List Bool) (ids : List ℕ) (n : ℕ) → AllByRecursion (λ id. id < n) ids → n ≤ length marks → InMarked K s (with_marks marks ids) n ↔ (InMarked K s marks n ⊎ InSome K s ids)
  more_marks marks [] n h l = nothing_in (λ x. x)
  more_marks marks (j ∷ ids) n h l =
      let w = h.0 in
      let e = length-set marks j true in
      let first = one_mark marks j n h.0 (omega (arith, w, l)) in
      let rest = more_marks (with_mark marks j) ids n h.1 (omega (arith, e, l)) in
      (λ x. there first rest (rest.0 x), back first rest)
    where
      there : InMarked K s (with_mark marks j) n ↔ (InMarked K s marks n ⊎ Within K (tree_at s j)) → InMarked K s (with_marks marks (j ∷ ids)) n ↔ (InMarked K s (with_mark marks j) n ⊎ InSome K s ids) →
          InMarked K s (with_mark marks j) n ⊎ InSome K s ids → InMarked K s marks n ⊎ InSome K s (j ∷ ids)
      there f r (inl x) = go (f.0 x)
        where
          go : InMarked K s marks n ⊎ Within K (tree_at s j) → InMarked K s marks n ⊎ InSome K s (j ∷ ids)
          go (inl y) = inl y
          go (inr y) = inr (inl y)
      there f r (inr x) = inr (inr x)

      back : InMarked K s (with_mark marks j) n ↔ (InMarked K s marks n ⊎ Within K (tree_at s j)) → InMarked K s (with_marks marks (j ∷ ids)) n ↔ (InMarked K s (with_mark marks j) n ⊎ InSome K s ids) →
          InMarked K s marks n ⊎ InSome K s (j ∷ ids) → InMarked K s (with_marks marks (j ∷ ids)) n
      back f r (inl x) = r.1 (inl (f.1 (inl x)))
      back f r (inr (inl x)) = r.1 (inl (f.1 (inr x)))
      back f r (inr (inr x)) = r.1 (inr x)

pub length-marks : (marks : List Bool) (ids : List ℕ) → length (with_marks marks ids) ≡ length marks
length-marks marks [] = refl
length-marks marks (j ∷ ids) = length-marks (with_mark marks j) ids ∙ length-set marks j true

-- the parts of a number's node are smaller
pub parts_small : (n : ℕ) (s : Stored) (node : Node) → PartsBelow n s node → AllByRecursion (λ id. id < n) (parts_of node)
parts_small n s NotAllowed h = tt
parts_small n s Empty h = tt
parts_small n s AnyText h = tt
parts_small n s (Ref d) h = tt
parts_small n s (Value k l) h = tt
parts_small n s (DataType k None) h = tt
parts_small n s (DataType k (Some e)) h = (h, tt)
parts_small n s (Attribute c a) h = (h.1, tt)
parts_small n s (OneOrMore a) h = (h, tt)
parts_small n s (Choice a b) h = (h.0, (h.1, tt))
parts_small n s (Group a b) h = (h.0, (h.1, tt))
parts_small n s (Interleave a b) h = (h.0, (h.1, tt))
parts_small n s (After a b) h = (h.0, (h.1, tt))

pub content_small : (n : ℕ) (s : Stored) (node : Node) → PartsBelow n s node → AllByRecursion (λ id. id < n) (content_of node)
content_small n s NotAllowed h = tt
content_small n s Empty h = tt
content_small n s AnyText h = tt
content_small n s (Ref d) h = tt
content_small n s (Value k l) h = tt
content_small n s (DataType k e) h = tt
content_small n s (Attribute c a) h = (h.1, tt)
content_small n s (OneOrMore a) h = tt
content_small n s (Choice a b) h = tt
content_small n s (Group a b) h = tt
content_small n s (Interleave a b) h = tt
content_small n s (After a b) h = tt

more_small : (n m : ℕ) → n ≤ m → (ids : List ℕ) → AllByRecursion (λ id. id < n) ids → AllByRecursion (λ id. id < m) ids
more_small n m l [] h = tt
more_small n m l (i ∷ ids) h = ((let k = h.0 in omega (arith, k, l)), more_small n m l ids h.1)

pub parts_in : (n m : ℕ) (s : Stored) (node : Node) → n ≤ m → PartsBelow n s node → AllByRecursion (λ id. id < m) (parts_of node)
parts_in n m s node l h = more_small n m l (parts_of node) (parts_small n s node h)

-- the visit of a marked pattern
module _ (K : Pattern → Type 0) (never : (p q : Pattern) → K (pattern.choice p q) → ⊥) (s : Stored) (marks : List Bool) (n : ℕ) (node : Node) (h : IsNode s n node) (l : n ≤ length marks) (e : get_or marks n false ≡ true) where
  pub visited : InMarked K s marks (suc n) ↔ (K (node_tree s node) ⊎ InMarked K s (with_marks marks (parts_of node)) n)
  visited = (λ x. there ((marked K s marks n e).0 x), back)
    where
      more : InMarked K s (with_marks marks (parts_of node)) n ↔ (InMarked K s marks n ⊎ InSome K s (parts_of node))
      more = more_marks K s marks (parts_of node) n (parts_small n s node h.below) l

      here : K (node_tree s node) ⊎ InSome K s (parts_of node) → K (node_tree s node) ⊎ InMarked K s (with_marks marks (parts_of node)) n
      here (inl k) = inl k
      here (inr x) = inr (more.1 (inr x))

      there : Within K (tree_at s n) ⊎ InMarked K s marks n → K (node_tree s node) ⊎ InMarked K s (with_marks marks (parts_of node)) n
      there (inl w) = here ((in_node K never s node).0 (subst (λ p. Within K p) h.tree w))
      there (inr x) = inr (more.1 (inl x))

      again : InMarked K s marks n ⊎ InSome K s (parts_of node) → InMarked K s marks (suc n)
      again (inl x) = (marked K s marks n e).1 (inr x)
      again (inr x) = (marked K s marks n e).1 (inl (subst (λ p. Within K p) (sym h.tree) ((in_node K never s node).1 (inr x))))

      back : K (node_tree s node) ⊎ InMarked K s (with_marks marks (parts_of node)) n → InMarked K s marks (suc n)
      back (inl k) = (marked K s marks n e).1 (inl (subst (λ p. Within K p) (sym h.tree) ((in_node K never s node).1 (inl k))))
      back (inr x) = again (more.0 x)

pub value_no : (x : Kind × Text) (p q : Pattern) → IsValue x (pattern.choice p q) → ⊥
value_no x p q e = cc

pub kind_no : (k : Kind) (p q : Pattern) → IsOfKind k (pattern.choice p q) → ⊥
kind_no k p q n = n

pub empty_no : (p q : Pattern) → IsEmpty (pattern.choice p q) → ⊥
empty_no p q e = cc

pub attribute_no : (p q : Pattern) → InAttribute IsEmpty (pattern.choice p q) → ⊥
attribute_no p q n = n
