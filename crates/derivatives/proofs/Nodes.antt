-- The parts of nodes, and a choice with notAllowed.
use Rattle.std.proofs.Common.{◌≡◌, ℕ, ◌<◌, List, [], ◌∷◌, refl, ◌∙◌, ap, subst}
use Rattle.rng_model.specs.Patterns.{Pattern, not_allowed, ref, one_or_more, choice, group, interleave, after}
use Rattle.rng_model.specs.Constructors.{members, of_members, ascending, with_member, choice_of}
use Rattle.pattern_intern.specs.Ordered.{IsOrdered, IsBelow, Ascends}
use Rattle.pattern_intern.specs.Stored.{Stored, tree_at}
use Rattle.pattern_intern.specs.Trees.{IsNode}
use Rattle.pattern_intern.specs.declared.id.PatternId.{PatternId}
use Rattle.pattern_intern.specs.declared.node.Node.{Node}
use Rattle.pattern_intern.specs.declared.node.Node.TheVariants.{Ref, OneOrMore, Choice, Group, Interleave, After}

-- of a pool that is seen through a reference
module _ (s t : Stored) (id : ℕ) (node : Node) (same : s ≡ t) (h : IsNode s id node) where
  pub ref_node : (d : ℕ) → node ≡ Ref d → tree_at t id ≡ ref d
  ref_node d e = subst (λ (u : Stored). tree_at u id ≡ ref d) same (subst (IsNode s id) e h).tree

  pub repeated_node : (a : PatternId) → node ≡ OneOrMore a → (a.0 < id) × (tree_at t id ≡ one_or_more (tree_at t a.0))
  repeated_node a e = let n = subst (IsNode s id) e h in (n.below, subst (λ (u : Stored). tree_at u id ≡ one_or_more (tree_at u a.0)) same n.tree)

  pub choice_node : (a b : PatternId) → node ≡ Choice a b → (a.0 < id) × (b.0 < id) × (tree_at t id ≡ choice (tree_at t a.0) (tree_at t b.0))
  choice_node a b e =
      let n = subst (IsNode s id) e h in
      (n.below.0, n.below.1, subst (λ (u : Stored). tree_at u id ≡ choice (tree_at u a.0) (tree_at u b.0)) same n.tree)

  pub group_node : (a b : PatternId) → node ≡ Group a b → (a.0 < id) × (b.0 < id) × (tree_at t id ≡ group (tree_at t a.0) (tree_at t b.0))
  group_node a b e =
      let n = subst (IsNode s id) e h in
      (n.below.0, n.below.1, subst (λ (u : Stored). tree_at u id ≡ group (tree_at u a.0) (tree_at u b.0)) same n.tree)

  pub interleave_node : (a b : PatternId) → node ≡ Interleave a b → (a.0 < id) × (b.0 < id) × (tree_at t id ≡ interleave (tree_at t a.0) (tree_at t b.0))
  interleave_node a b e =
      let n = subst (IsNode s id) e h in
      (n.below.0, n.below.1, subst (λ (u : Stored). tree_at u id ≡ interleave (tree_at u a.0) (tree_at u b.0)) same n.tree)

  pub after_node : (a b : PatternId) → node ≡ After a b → (a.0 < id) × (b.0 < id) × (tree_at t id ≡ after (tree_at t a.0) (tree_at t b.0))
  after_node a b e =
      let n = subst (IsNode s id) e h in
      (n.below.0, n.below.1, subst (λ (u : Stored). tree_at u id ≡ after (tree_at u a.0) (tree_at u b.0)) same n.tree)

first_least : (p : Pattern) (ps : List Pattern) → IsBelow p ps → with_member p ps ≡ p ∷ ps
first_least p [] h = refl
first_least p (q ∷ qs) h = rw h.0 refl

ascending_is : (ps : List Pattern) → Ascends ps → ascending ps ≡ ps
ascending_is [] h = refl
ascending_is (p ∷ ps) h = ap (with_member p) (ascending_is ps h.1) ∙ first_least p ps h.0

-- a choice with notAllowed is the pattern itself
pub joins_nothing : (p : Pattern) → IsOrdered p → choice_of not_allowed p ≡ p
unfolding choice_of
joins_nothing p h = ap of_members (ascending_is (members p) h.ascending) ∙ h.whole
