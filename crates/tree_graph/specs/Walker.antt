-- What a walk asks of a part of the tree, and what it makes of it, between two tables.
use Rattle.std.specs.Prelude.{◌≡◌, ℕ, false, List, Option, Some, None, map, ⊤}
use Rattle.rng_model.specs.Kinds as kinds
use Rattle.grammar_laws.specs.Trees.{TypeName, Pattern, patterns_of, items_of}
use Rattle.grammar_laws.specs.Files.{SchemaFile}
use Rattle.schema_tree.specs.declared.tree.Pattern.{Pattern as Tree}
use Rattle.schema_tree.specs.declared.tree.Item.{Item}
use Rattle.schema_tree.specs.Trees.{pattern_of, item_of}
use Rattle.simple_form_laws.specs.Prefixes.{kind_of}
use Rattle.simple_form_laws.specs.Parts.{entries_of}
use Rattle.simple_form_laws.specs.Faults.{is_empty_list}
use Rattle.schema_graph.specs.declared.node.Node.{Node}
use Rattle.tree_graph.specs.declared.entry.Entry.{Entry}
use Rattle.tree_graph.specs.States.{State}
use Rattle.tree_graph.specs.Tables.{Table}
use Rattle.tree_graph.specs.Walks.{IsPatternReady, IsPatternWalked, IsMade, AreMembersReady, AreMembersWalked, AreItemsReady, AreItemsWalked, IsItemReady, IsItemWalked, IsGrammarReady, IsGrammarWalked, items_at_hand}

-- the type of a value, if it has one, names a kind
abbrev pub HasKind : List SchemaFile → Option TypeName → Type 0
HasKind fs None = ⊤
HasKind fs (Some of) = (k : kinds.Kind) × (kind_of fs of ≡ Some k)

-- by records, which the search for proofs takes as they stand
module _ (fs : List SchemaFile) (places : List ℕ) (inner outer : Table) where
  -- the pattern can be walked
  pub record CanWalk (old : State) (p : Pattern) : Type 0 where
    pub ready : IsPatternReady fs places inner outer old p

  -- it was walked, and the node is its own
  pub record Walks (old new : State) (p : Pattern) (i : ℕ) : Type 0 where
    pub walked : IsPatternWalked fs places inner outer old new p i

  -- it was walked once this node is added
  pub record Makes (old new : State) (p : Pattern) (x : Node) : Type 0 where
    pub made : IsMade fs places inner outer old new p x

  -- members
  pub record CanWalkEach (old : State) (ps : List Tree) : Type 0 where
    pub ready : AreMembersReady fs places inner outer old (patterns_of (map pattern_of ps))

  pub record WalksEach (old new : State) (ps : List Tree) (is : List ℕ) : Type 0 where
    pub walked : AreMembersWalked fs places inner outer old new (patterns_of (map pattern_of ps)) is

  -- items of the innermost grammar, before and after which these entries were walked
  pub record CanWalkItems (old : State) (is : List Item) : Type 0 where
    pub ready : AreItemsReady fs places inner outer old (items_of (map item_of is))

  pub record WalksItems (old new : State) (is : List Item) (before after : List Entry) : Type 0 where
    pub walked : AreItemsWalked fs places inner outer old new (items_of (map item_of is)) before after

  -- one of them
  pub record CanWalkItem (old : State) (i : Item) : Type 0 where
    pub ready : IsItemReady fs places inner outer old (item_of i)

  pub record WalksItem (old new : State) (i : Item) (before after : List Entry) : Type 0 where
    pub walked : IsItemWalked fs places inner outer old new (item_of i) before after

-- a grammar of these items, which has a start
module _ (fs : List SchemaFile) (places : List ℕ) (inner : Table) where
  pub record CanWalkGrammar (old : State) (is : List Item) : Type 0 where
    pub ready : IsGrammarReady fs places inner old (items_of (map item_of is))
    pub start : is_empty_list (entries_of None (items_at_hand places old (items_of (map item_of is)))) ≡ false

  pub record WalksGrammar (old new : State) (is : List Item) (d : ℕ) : Type 0 where
    pub walked : IsGrammarWalked fs places inner old new (items_of (map item_of is)) d
