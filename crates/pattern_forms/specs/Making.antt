-- Forms in the making: those that are made, and the path to the node that is looked at.
use Rattle.std.specs.Prelude.{◌≡◌, ℕ, suc, ◌+◌, ◌*◌, ◌<◌, ◌≤◌, ◌⊎◌, true, List, [], ◌∷◌, map, Option, Some, None, length, slice_get, take, ⊤}
use Rattle.rng_model.specs.Patterns as simple
use Rattle.rng_model.specs.Constructors.{or_empty, interleave_of, one_or_more_of, attribute_of, data_of}
use Rattle.text_atoms.specs.Kinds.{kind_of}
use Rattle.name_classes.specs.Views.{class_of}
use Rattle.simple_form_laws.specs.Meaning.{Connective, Group, Choice, Interleave}
use Rattle.schema_graph.specs.declared.node.Node.{Node}
use Rattle.schema_graph.specs.declared.graph.Graph.{Graph}
use Rattle.pattern_intern.specs.Members.{AreIn, trees_at}
use Rattle.pattern_intern.specs.Stored.{Stored, count, tree_at, Extends}
use Rattle.pattern_intern.specs.Schemas.{AreRefsBelow}
use Rattle.pattern_intern.specs.declared.id.PatternId.{PatternId}
use Rattle.pattern_forms.specs.Reaching.{definition_at, leads_at, Reaches}
use Rattle.pattern_forms.specs.Formed.{joined, Formed}
use Rattle.pattern_forms.specs.Searching.{IsMarked, unmarked}
use Rattle.pattern_forms.specs.Outcomes.{HasForm, IsMade}
use Rattle.pattern_forms.specs.declared.making.Making.{Making}
use Rattle.pattern_forms.specs.declared.joining.Joint.{Joint}
use Rattle.pattern_forms.specs.declared.walk.Frame.{Frame}

-- the pattern of a node's form, notAllowed where it has none
abbrev pub form_of : Stored → Option (Option PatternId) → simple.Pattern
form_of pool (Some (Some id)) = tree_at pool id.0
form_of pool _ = simple.not_allowed

abbrev pub form_at : Stored → List (Option PatternId) → ℕ → simple.Pattern
form_at pool forms i = form_of pool (slice_get forms i)

abbrev pub all_joined : Connective → List simple.Pattern → simple.Pattern
all_joined c [] = simple.not_allowed
all_joined c (p ∷ ps) = joined c p ps

abbrev pub first_of : (ℕ → simple.Pattern) → List ℕ → simple.Pattern
first_of at [] = simple.not_allowed
first_of at (i ∷ is) = at i

-- what a node's form is, where those of the nodes that it leads to are given
abbrev pub made_of : Graph → (ℕ → simple.Pattern) → Node → simple.Pattern
made_of g at (Node.Element n d j) = simple.ref n
made_of g at (Node.Attribute d j) = attribute_of (class_of d) (at j)
made_of g at (Node.Group js) = all_joined Group (map at js)
made_of g at (Node.Choice js) = all_joined Choice (map at js)
made_of g at (Node.Interleave js) = all_joined Interleave (map at js)
made_of g at (Node.Optional j) = or_empty (at j)
made_of g at (Node.ZeroOrMore j) = or_empty (one_or_more_of (at j))
made_of g at (Node.OneOrMore j) = one_or_more_of (at j)
made_of g at (Node.Mixed j) = interleave_of (at j) simple.text
made_of g at (Node.Reference place d) = first_of at (definition_at g d)
made_of g at (Node.Grammar d) = first_of at (definition_at g d)
made_of g at Node.Empty = simple.empty
made_of g at Node.AnyText = simple.text
made_of g at Node.NotAllowed = simple.not_allowed
made_of g at (Node.Value k t) = simple.value (kind_of k) t
made_of g at (Node.DataType k None) = simple.data_type (kind_of k)
made_of g at (Node.DataType k (Some j)) = data_of (kind_of k) (at j)

abbrev pub connective_of : Joint → Connective
connective_of Joint.Group = Group
connective_of Joint.Interleave = Interleave

-- the node's numbers are the graph's
abbrev pub IsInGraph : Graph → Node → Type 0
IsInGraph g (Node.Element n d j) = n < length g.elements.items
IsInGraph g (Node.Reference at d) = d < length g.definitions.items
IsInGraph g (Node.Grammar d) = d < length g.definitions.items
IsInGraph g n = ⊤

-- each of the nodes has a form
pub record AreMade (forms : List (Option PatternId)) (nodes : List ℕ) : Type 0 where
  pub each : (k j : ℕ) → slice_get nodes k ≡ Some j → IsMade forms j

-- each node that the node leads to has a form
abbrev pub IsReady : Graph → List (Option PatternId) → Node → Type 0
IsReady g forms (Node.Attribute d j) = IsMade forms j
IsReady g forms (Node.Group js) = AreMade forms js
IsReady g forms (Node.Choice js) = AreMade forms js
IsReady g forms (Node.Interleave js) = AreMade forms js
IsReady g forms (Node.Optional j) = IsMade forms j
IsReady g forms (Node.ZeroOrMore j) = IsMade forms j
IsReady g forms (Node.OneOrMore j) = IsMade forms j
IsReady g forms (Node.Mixed j) = IsMade forms j
IsReady g forms (Node.Reference place d) = AreMade forms (definition_at g d)
IsReady g forms (Node.Grammar d) = AreMade forms (definition_at g d)
IsReady g forms (Node.DataType k (Some j)) = IsMade forms j
IsReady g forms n = ⊤

-- the forms are numbers of the pool
pub record AreWithin (pool : Stored) (forms : List (Option PatternId)) : Type 0 where
  pub each : (i : ℕ) (id : PatternId) → HasForm forms i id → id.0 < count pool

-- the forms that are made so far, of nodes that can be reached
pub record IsMaking (g : Graph) (m : Making) : Type 0 where
  pub each : length m.forms.items ≡ length g.nodes.items
  pub entries : length m.entered.items ≡ length g.nodes.items
  pub within : AreWithin m.pool m.forms.items
  pub formed : (i : ℕ) (id : PatternId) → HasForm m.forms.items i id → Formed g i (tree_at m.pool id.0)
  pub closed : (i : ℕ) → IsMade m.forms.items i → AreMade m.forms.items (leads_at g i)
  pub reached : (i : ℕ) → IsMade m.forms.items i → Reaches g true g.root i
  pub refs : AreRefsBelow (length g.elements.items) m.pool

abbrev pub IsOnPath : List Frame → ℕ → Type 0
IsOnPath path i = (k : ℕ) × (next : ℕ) × (slice_get path k ≡ Some (record { node = i; next = next }))

-- on the path each node leads to the one behind it, and what it leads to before that has a form
pub record IsPath (g : Graph) (m : Making) (path : List Frame) : Type 0 where
  pub reached : (k : ℕ) (x : Frame) → slice_get path k ≡ Some x → Reaches g true g.root x.node
  pub leads : (k : ℕ) (x y : Frame) → slice_get path k ≡ Some x → slice_get path (suc k) ≡ Some y → slice_get (leads_at g x.node) x.next ≡ Some y.node
  pub passed : (k l j : ℕ) (x : Frame) → slice_get path k ≡ Some x → l < x.next → slice_get (leads_at g x.node) l ≡ Some j → IsMade m.forms.items j
  pub open_ones : (i : ℕ) → IsMarked m.entered.items i → IsMade m.forms.items i ⊎ IsOnPath path i

-- what is entered and what is made stays so
pub record Grows (old new : Making) : Type 0 where
  pub entered : (i : ℕ) → IsMarked old.entered.items i → IsMarked new.entered.items i
  pub made : (i : ℕ) → IsMade old.forms.items i → IsMade new.forms.items i

-- the nodes to be entered and left
abbrev pub work : Making → List Frame → ℕ
work m path = 2 * unmarked m.entered.items + length path

-- the first k members are joined
pub record IsNested (c : Connective) (forms : List (Option PatternId)) (members : List ℕ) (k : ℕ) (old new : Stored) (id : ℕ) : Type 0 where
  pub within : id < count new
  pub made : tree_at new id ≡ all_joined c (map (form_at old forms) (take k members))
  pub kept : Extends old new
  pub refs : (n : ℕ) → AreRefsBelow n old → AreRefsBelow n new
  pub others : AreWithin new forms

-- the forms of the first k members
pub record AreForms (pool : Stored) (forms : List (Option PatternId)) (members : List ℕ) (k : ℕ) (parts : List PatternId) : Type 0 where
  pub within : AreIn pool parts
  pub trees : trees_at pool parts ≡ map (form_at pool forms) (take k members)

-- in the midst of the walk from a node
pub record IsWalk (g : Graph) (start : ℕ) (old new : Making) (path : List Frame) : Type 0 where
  pub making : IsMaking g new
  pub way : IsPath g new path
  pub begin : IsMarked new.entered.items start
  pub grows : Grows old new

-- one step of the walk: a node is entered or left
pub record Advances (g : Graph) (old new : Making) (before after : List Frame) : Type 0 where
  pub making : IsMaking g new
  pub way : IsPath g new after
  pub grows : Grows old new
  pub less : work new after < work old before

-- the form of a node is made
pub record Leaves (g : Graph) (node : ℕ) (old new : Making) : Type 0 where
  pub making : IsMaking g new
  pub made : IsMade new.forms.items node
  pub kept : (i : ℕ) → IsMade old.forms.items i → IsMade new.forms.items i
  pub entered : new.entered.items ≡ old.entered.items

-- the first of the nodes that are led to, from one on, that has no form
pub record IsFirstUnmade (g : Graph) (forms : List (Option PatternId)) (node from k : ℕ) : Type 0 where
  pub within : k < length (leads_at g node)
  pub before : (l j : ℕ) → from ≤ l → l < k → slice_get (leads_at g node) l ≡ Some j → IsMade forms j
  pub unmade : (j : ℕ) → slice_get (leads_at g node) k ≡ Some j → IsMade forms j → ⊥

pub record AreMadeFrom (g : Graph) (forms : List (Option PatternId)) (node from k : ℕ) : Type 0 where
  pub each : (l j : ℕ) → from ≤ l → l < k → slice_get (leads_at g node) l ≡ Some j → IsMade forms j

abbrev pub at_node : Frame → ℕ → Frame
at_node x k = record { node = x.node; next = k }

abbrev pub frame : ℕ → ℕ → Frame
frame i k = record { node = i; next = k }

-- the first nodes that can be reached have their forms, and all that they lead to
pub record IsMadeSo (g : Graph) (k : ℕ) (m : Making) : Type 0 where
  pub making : IsMaking g m
  pub settled : IsPath g m []
  pub made : (i : ℕ) → i < k → Reaches g true g.root i → IsMade m.forms.items i

-- all nodes that can be reached have their forms, and no others
pub record AllMade (g : Graph) (m : Making) : Type 0 where
  pub making : IsMaking g m
  pub made : (i : ℕ) → Reaches g true g.root i → IsMade m.forms.items i

-- no node has a form
pub record IsUnmade (forms : List (Option PatternId)) : Type 0 where
  pub each : (i : ℕ) (id : PatternId) → HasForm forms i id → ⊥
