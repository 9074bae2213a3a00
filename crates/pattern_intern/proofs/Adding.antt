-- What adding a node, a class or a literal does to a pool.
use Rattle.std.proofs.Common.{◌≡◌, ℕ, ◌<◌, inl, inr, List, [], ◌∷◌, ◌++◌, Result, Ok, Err, IfOk, OnErr, ap, arith, length-append}
use Rattle.std.proofs.lemmas.Option.{slice_get_within}
use Rattle.std.specs.declared.alloc.AllocError.{AllocError}
use Rattle.rng_model.specs.Texts.{Text}
use Rattle.rng_model.specs.Classes.{Class}
use Rattle.rng_model.specs.Patterns.{Pattern}
use Rattle.rng_model.specs.Patterns as pattern
use Rattle.pattern_intern.specs.declared.facts.Facts.{Facts}
use Rattle.pattern_intern.specs.declared.id.PatternId.{PatternId}
use Rattle.pattern_intern.specs.declared.node.Node.{Node}
use Rattle.pattern_intern.specs.Ordered.{IsOrdered}
use Rattle.pattern_intern.specs.Schemas.{AreRefsBelow, HasRefsBelow}
use Rattle.pattern_intern.specs.Stored.{stored, count, tree_at, Extends}
use Rattle.pattern_intern.specs.Facts.{IsFacts}
use Rattle.pattern_intern.specs.Trees.{node_tree, trees, stored_of, PartsBelow, IsPool}
use Rattle.pattern_intern.specs.Interned.{IsInterned}
use Rattle.pattern_intern.proofs.Growing.{trees-push, at_new, extends-refl, extends-push, refs-push, with_tree, pool-push}

-- what adding a node does
module _ (nodes new : List Node) (facts now : List Facts) (cs : List Class) (ls : List Text) (node : Node) (fact : Facts) (h : IsPool nodes facts (stored_of nodes cs ls)) (below : PartsBelow (count (stored_of nodes cs ls)) (stored_of nodes cs ls) node) (described : IsFacts (node_tree (stored_of nodes cs ls) node) fact) (o : IsOrdered (node_tree (stored_of nodes cs ls) node)) where
  pushed : stored_of (nodes ++ node ∷ []) cs ls ≡ with_tree (stored_of nodes cs ls) (node_tree (stored_of nodes cs ls) node)
  pushed = ap (λ t. stored t cs ls) (trees-push cs ls nodes node)

  pub grown_by : (id : ℕ) → IsInterned nodes facts node fact id new now → IsPool new now (stored_of new cs ls)
  grown_by id (inl k) = rw (k.nodes, k.facts) h
  grown_by id (inr k) = rw (k.nodes, k.facts, pushed) (pool-push nodes facts (stored_of nodes cs ls) h node below k.absent fact described o)

  pub within_by : (id : ℕ) → IsInterned nodes facts node fact id new now → id < count (stored_of new cs ls)
  within_by id (inl k) = rw (k.nodes, h.same_length) (slice_get_within nodes id node k.there)
  within_by id (inr k) = rw (k.nodes, trees-push cs ls nodes node, k.last, ← h.same_length) (let e = length-append (trees cs ls nodes) (node_tree (stored_of nodes cs ls) node ∷ []) in omega (arith, e))

  pub made_by : (id : ℕ) → IsInterned nodes facts node fact id new now → tree_at (stored_of new cs ls) id ≡ node_tree (stored_of nodes cs ls) node
  made_by id (inl k) = rw k.nodes ((h.each id node k.there).tree)
  made_by id (inr k) = rw (k.nodes, trees-push cs ls nodes node, k.last, ← h.same_length) (at_new (trees cs ls nodes) (node_tree (stored_of nodes cs ls) node) pattern.not_allowed)

  pub kept_by : (id : ℕ) → IsInterned nodes facts node fact id new now → Extends (stored_of nodes cs ls) (stored_of new cs ls)
  kept_by id (inl k) = rw k.nodes (extends-refl (stored_of nodes cs ls))
  kept_by id (inr k) = rw (k.nodes, pushed) (extends-push (stored_of nodes cs ls) (node_tree (stored_of nodes cs ls) node))

  pub refs_by : (id : ℕ) → IsInterned nodes facts node fact id new now → (n : ℕ) → AreRefsBelow n (stored_of nodes cs ls) → HasRefsBelow n (node_tree (stored_of nodes cs ls) node) → AreRefsBelow n (stored_of new cs ls)
  refs_by id (inl k) n a b = rw k.nodes a
  refs_by id (inr k) n a b = rw (k.nodes, pushed) (refs-push (stored_of nodes cs ls) (node_tree (stored_of nodes cs ls) node) n a b)

  module _ (r : Result PatternId AllocError) (made : IfOk r (λ id. IsInterned nodes facts node fact id.0 new now)) (same : OnErr r (new ≡ nodes)) (same_facts : OnErr r (now ≡ facts)) where
    pub grown : IsPool new now (stored_of new cs ls)
    grown = go r made same same_facts
      where
        go : (r : Result PatternId AllocError) → IfOk r (λ id. IsInterned nodes facts node fact id.0 new now) → OnErr r (new ≡ nodes) → OnErr r (now ≡ facts) → IsPool new now (stored_of new cs ls)
        go (Ok id) m s t = grown_by id.0 m
        go (Err e) m s t = rw (s, t) h

    pub within : IfOk r (λ id. id.0 < count (stored_of new cs ls))
    within = go r made
      where
        go : (r : Result PatternId AllocError) → IfOk r (λ id. IsInterned nodes facts node fact id.0 new now) → IfOk r (λ id. id.0 < count (stored_of new cs ls))
        go (Ok id) m = within_by id.0 m
        go (Err e) m = tt

    pub made_tree : IfOk r (λ id. tree_at (stored_of new cs ls) id.0 ≡ node_tree (stored_of nodes cs ls) node)
    made_tree = go r made
      where
        go : (r : Result PatternId AllocError) → IfOk r (λ id. IsInterned nodes facts node fact id.0 new now) → IfOk r (λ id. tree_at (stored_of new cs ls) id.0 ≡ node_tree (stored_of nodes cs ls) node)
        go (Ok id) m = made_by id.0 m
        go (Err e) m = tt

    pub kept : Extends (stored_of nodes cs ls) (stored_of new cs ls)
    kept = go r made same
      where
        go : (r : Result PatternId AllocError) → IfOk r (λ id. IsInterned nodes facts node fact id.0 new now) → OnErr r (new ≡ nodes) → Extends (stored_of nodes cs ls) (stored_of new cs ls)
        go (Ok id) m s = kept_by id.0 m
        go (Err e) m s = rw s (extends-refl (stored_of nodes cs ls))
