-- A pool of three patterns.
use Rattle.std.proofs.Common.{◌≡◌, ℕ, zero, suc, ◌<◌, ◌≤◌, inl, inr, Bool, true, false, Option, None, Some, List, [], ◌∷◌, ◌++◌, slice_get, refl, subst, ◌∙◌, ap, arith}
use Rattle.std.proofs.lemmas.Option.{slice_get_within}
use Rattle.rng_model.specs.Texts.{Text}
use Rattle.rng_model.specs.Classes.{Class}
use Rattle.rng_model.specs.Matching.{nullable}
use Rattle.pattern_intern.specs.declared.facts.ContentType.{ContentType}
use Rattle.pattern_intern.specs.declared.facts.ContentType.TheVariants as type
use Rattle.pattern_intern.specs.declared.facts.Facts.{Facts}
use Rattle.pattern_intern.specs.declared.node.Node.{Node}
use Rattle.pattern_intern.specs.declared.node.Node.TheVariants.{NotAllowed, Empty, AnyText}
use Rattle.pattern_intern.specs.Ordered.{IsOrdered}
use Rattle.rng_model.specs.Depths.{depth}
use Rattle.pattern_intern.specs.Interned.{IsInterned}
use Rattle.pattern_intern.specs.Stored.{Stored, count, tree_at}
use Rattle.pattern_intern.specs.Facts.{IsFacts}
use Rattle.pattern_intern.specs.Trees.{node_tree, stored_of, IsNode, IsPool}
use Rattle.pattern_intern.proofs.Growing.{other}

abbrev pub three : List Node
three = NotAllowed ∷ Empty ∷ AnyText ∷ []

abbrev pub fact : Bool → Option ContentType → Facts
fact b t = record { nullable = b; depth = 1; content_type = t }

abbrev pub three_facts : List Facts
three_facts = fact false None ∷ fact true (Some type.Empty) ∷ fact true (Some type.Complex) ∷ []

abbrev pub start : Stored
start = stored_of three [] []

some-same : {X : Type 0} {x y : X} → Some x ≡ Some y → x ≡ y
some-same e = cc

is_node : (id : ℕ) (node : Node) → slice_get three id ≡ Some node → IsNode start id node
is_node zero node e = rw (← some-same e) record { below = tt; tree = refl }
is_node (suc zero) node e = rw (← some-same e) record { below = tt; tree = refl }
is_node (suc (suc zero)) node e = rw (← some-same e) record { below = tt; tree = refl }
is_node (suc (suc (suc k))) node e = absurd (cc)

trees_apart : (i j : ℕ) → i < count start → j < count start → tree_at start i ≡ tree_at start j → i ≡ j
trees_apart zero zero k l e = refl
trees_apart zero (suc zero) k l e = absurd (other e refl)
trees_apart zero (suc (suc zero)) k l e = absurd (other e refl)
trees_apart zero (suc (suc (suc j))) k l e = absurd (omega (arith, l))
trees_apart (suc zero) zero k l e = absurd (other e refl)
trees_apart (suc zero) (suc zero) k l e = refl
trees_apart (suc zero) (suc (suc zero)) k l e = absurd (other e refl)
trees_apart (suc zero) (suc (suc (suc j))) k l e = absurd (omega (arith, l))
trees_apart (suc (suc zero)) zero k l e = absurd (other e refl)
trees_apart (suc (suc zero)) (suc zero) k l e = absurd (other e refl)
trees_apart (suc (suc zero)) (suc (suc zero)) k l e = refl
trees_apart (suc (suc zero)) (suc (suc (suc j))) k l e = absurd (omega (arith, l))
trees_apart (suc (suc (suc i))) j k l e = absurd (omega (arith, k))

is_described : (id : ℕ) (f : Facts) → slice_get three_facts id ≡ Some f → IsFacts (tree_at start id) f
unfolding nullable
is_described zero f e = rw (← some-same e) record { nullable = refl; depth = refl; content_type = refl }
is_described (suc zero) f e = rw (← some-same e) record { nullable = refl; depth = refl; content_type = refl }
is_described (suc (suc zero)) f e = rw (← some-same e) record { nullable = refl; depth = refl; content_type = refl }
is_described (suc (suc (suc k))) f e = absurd (cc)

is_ordered : (i : ℕ) → i < count start → IsOrdered (tree_at start i)
is_ordered zero l = record { whole = refl; ascending = tt; each = tt }
is_ordered (suc zero) l = record { whole = refl; ascending = (tt, tt); each = (tt, tt) }
is_ordered (suc (suc zero)) l = record { whole = refl; ascending = (tt, tt); each = (tt, tt) }
is_ordered (suc (suc (suc i))) l = absurd (omega (arith, l))

is_shallow : (i : ℕ) → i < count start → depth (tree_at start i) ≤ suc i
is_shallow zero l = omega arith
is_shallow (suc zero) l = omega arith
is_shallow (suc (suc zero)) l = omega arith
is_shallow (suc (suc (suc i))) l = absurd (omega (arith, l))

first_pool : IsPool three three_facts start
first_pool = record {
  first = refl;
  second = refl;
  third = refl;
  each = is_node;
  apart = record { trees = trees_apart; classes = λ i j l k e. absurd (omega (arith, l)); literals = λ i j l k e. absurd (omega (arith, l)) };
  described = is_described;
  same_length = refl;
  same_facts = refl;
  ordered = is_ordered;
  shallow = is_shallow;
}

-- a node that can't have been there
last : {old new : List Node} {was now : List Facts} {node : Node} {f : Facts} {id : ℕ} → ((k : ℕ) → slice_get old k ≡ Some node → ⊥) → IsInterned old was node f id new now → (new ≡ old ++ node ∷ []) × (now ≡ was ++ f ∷ [])
last {id = id} never (inl k) = absurd (never id k.there)
last never (inr k) = (k.nodes, k.facts)

no_start : (k : ℕ) → slice_get [] k ≡ Some NotAllowed → ⊥
no_start k e = cc

no_empty : (k : ℕ) → slice_get (NotAllowed ∷ []) k ≡ Some Empty → ⊥
no_empty zero e = cc
no_empty (suc k) e = cc

no_text : (k : ℕ) → slice_get (NotAllowed ∷ Empty ∷ []) k ≡ Some AnyText → ⊥
no_text zero e = cc
no_text (suc zero) e = cc
no_text (suc (suc k)) e = cc

-- the nodes after the three calls
pub started : (n0 n1 n2 n3 : List Node) (m0 m1 m2 m3 : List Facts) (i j k : ℕ) → n0 ≡ [] → m0 ≡ [] → IsInterned n0 m0 NotAllowed (fact false None) i n1 m1 →
    IsInterned n1 m1 Empty (fact true (Some type.Empty)) j n2 m2 → IsInterned n2 m2 AnyText (fact true (Some type.Complex)) k n3 m3 → (n3 ≡ three) × (m3 ≡ three_facts)
started n0 n1 n2 n3 m0 m1 m2 m3 i j k en em h h' h'' =
    let a = last (λ k e. no_start k (subst (λ l. slice_get l k ≡ Some NotAllowed) en e)) h in
    let n : n1 ≡ NotAllowed ∷ [] = a.0 ∙ ap (λ l. l ++ NotAllowed ∷ []) en in
    let m : m1 ≡ fact false None ∷ [] = a.1 ∙ ap (λ l. l ++ fact false None ∷ []) em in
    let b = last (λ k e. no_empty k (subst (λ l. slice_get l k ≡ Some Empty) n e)) h' in
    let n' : n2 ≡ NotAllowed ∷ Empty ∷ [] = b.0 ∙ ap (λ l. l ++ Empty ∷ []) n in
    let m' : m2 ≡ fact false None ∷ fact true (Some type.Empty) ∷ [] = b.1 ∙ ap (λ l. l ++ fact true (Some type.Empty) ∷ []) m in
    let c = last (λ k e. no_text k (subst (λ l. slice_get l k ≡ Some AnyText) n' e)) h'' in
    (c.0 ∙ ap (λ l. l ++ AnyText ∷ []) n', c.1 ∙ ap (λ l. l ++ fact true (Some type.Complex) ∷ []) m')

pub pool_of : (nodes : List Node) (facts : List Facts) (cs : List Class) (ls : List Text) → (nodes ≡ three) × (facts ≡ three_facts) → cs ≡ [] → ls ≡ [] → IsPool nodes facts (stored_of nodes cs ls)
pool_of nodes facts cs ls h k l = rw (h.0, h.1, k, l) first_pool

pub start_of : (nodes : List Node) (cs : List Class) (ls : List Text) → nodes ≡ three → cs ≡ [] → ls ≡ [] → stored_of nodes cs ls ≡ start
start_of nodes cs ls h k l = rw (h, k, l) refl

-- a node and its tree
pub first_of : (nodes : List Node) (facts : List Facts) (s : Stored) → IsPool nodes facts s → (id : ℕ) (node : Node) → slice_get nodes id ≡ Some node → (id < count s) × (tree_at s id ≡ node_tree s node)
first_of nodes facts s h id node e = let w = slice_get_within nodes id node e in let l = h.same_length in (omega (arith, w, l), (h.each id node e).tree)
