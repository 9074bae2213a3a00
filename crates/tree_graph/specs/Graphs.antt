-- The whole tree, without a grammar around it.
use Rattle.std.specs.Prelude.{ℕ, List, []}
use Rattle.grammar_laws.specs.Trees.{Pattern}
use Rattle.grammar_laws.specs.Files.{SchemaFile}
use Rattle.simple_form_laws.specs.Parts.{parts_of}
use Rattle.simple_form_laws.specs.Forms.{element_places}
use Rattle.schema_graph.specs.Shown.{Key, Shows}
use Rattle.tree_graph.specs.States.{State}
use Rattle.tree_graph.specs.Tables.{Table}
use Rattle.tree_graph.specs.Walks.{IsReady, IsWalked, at_hand}

-- no grammar
abbrev pub no_table : Table
no_table = record { base = 0; names = [] }

-- nothing is made yet, of a tree of so many tokens
abbrev pub start : ℕ → State
start n = record { nodes = []; definitions = []; elements = []; tokens = n }

module _ (fs : List SchemaFile) (places : List ℕ) where
  abbrev pub IsRootReady : State → Pattern → Type 0
  IsRootReady old p = IsReady fs places [] no_table no_table old [] (element_places p) (parts_of [] (at_hand places old p))

  abbrev pub IsRoot : State → State → Pattern → ℕ → Type 0
  IsRoot old new p i =
      (keys : List Key) × (IsWalked fs places [] keys old new (element_places p) (parts_of [] (at_hand places old p)) × Shows fs new.nodes keys i [] (at_hand places old p))
