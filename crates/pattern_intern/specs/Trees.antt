-- The trees that numbered nodes stand for.
use Rattle.std.specs.Prelude.{◌≡◌, ℕ, suc, ◌<◌, ◌≤◌, List, [], ◌∷◌, ◌++◌, fold, length, slice_get, Option, None, Some, ⊤}
use Rattle.rng_model.specs.Texts.{Text}
use Rattle.rng_model.specs.Classes.{Class}
use Rattle.rng_model.specs.Patterns.{Pattern}
use Rattle.rng_model.specs.Patterns as pattern
use Rattle.text_atoms.specs.Kinds.{kind_of}
use Rattle.pattern_intern.specs.Ordered.{IsOrdered}
use Rattle.rng_model.specs.Depths.{depth}
use Rattle.pattern_intern.specs.Stored.{Stored, stored, count, tree_at, class_at, literal_at, AreApart}
use Rattle.pattern_intern.specs.Facts.{IsFacts}
use Rattle.pattern_intern.specs.declared.facts.Facts.{Facts}
use Rattle.pattern_intern.specs.declared.id.PatternId.{PatternId}
use Rattle.pattern_intern.specs.declared.node.Node.{Node}
use Rattle.pattern_intern.specs.declared.node.Node.TheVariants.{NotAllowed, Empty, AnyText, Ref, Value, DataType, Attribute, OneOrMore, Choice, Group, Interleave, After}

-- the tree of a node whose parts are in the pool
abbrev pub node_tree : Stored → Node → Pattern
node_tree s NotAllowed = pattern.not_allowed
node_tree s Empty = pattern.empty
node_tree s AnyText = pattern.text
node_tree s (Ref d) = pattern.ref d
node_tree s (Value k l) = pattern.value (kind_of k) (literal_at s l.0)
node_tree s (DataType k None) = pattern.data_type (kind_of k)
node_tree s (DataType k (Some e)) = pattern.data_except (kind_of k) (tree_at s e.0)
node_tree s (Attribute c a) = pattern.attribute (class_at s c.0) (tree_at s a.0)
node_tree s (OneOrMore a) = pattern.one_or_more (tree_at s a.0)
node_tree s (Choice a b) = pattern.choice (tree_at s a.0) (tree_at s b.0)
node_tree s (Group a b) = pattern.group (tree_at s a.0) (tree_at s b.0)
node_tree s (Interleave a b) = pattern.interleave (tree_at s a.0) (tree_at s b.0)
node_tree s (After a b) = pattern.after (tree_at s a.0) (tree_at s b.0)

-- the except of a datatype, notAllowed for none
abbrev pub except_tree : Stored → Option PatternId → Pattern
except_tree s None = pattern.not_allowed
except_tree s (Some e) = tree_at s e.0

-- the parts are numbers below n, and the class or literal is the pool's
abbrev pub PartsBelow : ℕ → Stored → Node → Type 0
PartsBelow n s (Value k l) = l.0 < length s.literals
PartsBelow n s (DataType k (Some e)) = e.0 < n
PartsBelow n s (Attribute c a) = (c.0 < length s.classes) × (a.0 < n)
PartsBelow n s (OneOrMore a) = a.0 < n
PartsBelow n s (Choice a b) = (a.0 < n) × (b.0 < n)
PartsBelow n s (Group a b) = (a.0 < n) × (b.0 < n)
PartsBelow n s (Interleave a b) = (a.0 < n) × (b.0 < n)
PartsBelow n s (After a b) = (a.0 < n) × (b.0 < n)
PartsBelow n s _ = ⊤

-- the node of a number: its parts are smaller numbers, and the tree is its tree
pub record IsNode (s : Stored) (id : ℕ) (node : Node) : Type 0 where
  pub below : PartsBelow id s node
  pub tree : tree_at s id ≡ node_tree s node

-- the trees of nodes, in order, over the classes and literals
abbrev pub with_node : List Class → List Text → List Pattern → Node → List Pattern
with_node cs ls ps node = ps ++ node_tree (stored ps cs ls) node ∷ []

abbrev pub trees : List Class → List Text → List Node → List Pattern
trees cs ls nodes = fold (with_node cs ls) [] nodes

abbrev pub stored_of : List Node → List Class → List Text → Stored
stored_of nodes cs ls = stored (trees cs ls nodes) cs ls

-- the nodes and facts of a pool, and what they stand for
pub record IsPool (nodes : List Node) (facts : List Facts) (s : Stored) : Type 0 where
  pub first : slice_get nodes 0 ≡ Some NotAllowed
  pub second : slice_get nodes 1 ≡ Some Empty
  pub third : slice_get nodes 2 ≡ Some AnyText
  pub each : (id : ℕ) (node : Node) → slice_get nodes id ≡ Some node → IsNode s id node
  pub apart : AreApart s
  pub described : (id : ℕ) (f : Facts) → slice_get facts id ≡ Some f → IsFacts (tree_at s id) f
  pub same_length : count s ≡ length nodes
  pub same_facts : count s ≡ length facts
  pub ordered : (id : ℕ) → id < count s → IsOrdered (tree_at s id)
  pub shallow : (id : ℕ) → id < count s → depth (tree_at s id) ≤ suc id

-- the place of a node's kind in the order
abbrev pub node_rank : Node → ℕ
node_rank NotAllowed = 1
node_rank Empty = 2
node_rank AnyText = 3
node_rank (Ref d) = 4
node_rank (Value k l) = 5
node_rank (DataType k e) = 6
node_rank (Attribute c a) = 7
node_rank (OneOrMore a) = 8
node_rank (Choice a b) = 9
node_rank (Group a b) = 10
node_rank (Interleave a b) = 11
node_rank (After a b) = 12
