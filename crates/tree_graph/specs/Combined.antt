-- Starts and definitions that are combined: section Simplification (combine attribute).
use Rattle.std.specs.Prelude.{◌≡◌, ◌≢◌, ℕ, ◌+◌, ◌<◌, ◌≤◌, ◌⊎◌, ◌==◌, if◌then◌else◌, List, [], length, map, filter, filter_map, Some, slice_get}
use Rattle.std.specs.List.{list_any}
use Rattle.name_classes.specs.declared.class.NameClass.{NameClass}
use Rattle.schema_graph.specs.declared.node.Node.{Node}
use Rattle.tree_graph.specs.declared.entry.Entry.{Entry}
use Rattle.tree_graph.specs.declared.combining.Group.{Group}
use Rattle.tree_graph.specs.States.{State, Begins, place_of_node}

-- those of the definition
abbrev pub entries_at : ℕ → List Entry → List Entry
entries_at d es = filter (λ e. e.definition == d) es

-- by interleave where one of them has `&=`, else by choice
abbrev pub combined : List Entry → Node
combined es = if list_any (λ e. e.interleaves) es then Node.Interleave (map (λ e. e.node) es) else Node.Choice (map (λ e. e.node) es)

-- each is of one of so many definitions from the first on
abbrev pub AreOf : ℕ → ℕ → List Entry → Type 0
AreOf first count es = (i : ℕ) (e : Entry) → slice_get es i ≡ Some e → (first ≤ e.definition) × (e.definition < first + count)

-- Entries of so many definitions from the first on, whose nodes are there; each definition has one.
pub record AreEntries (first count nodes : ℕ) (es : List Entry) : Type 0 where
  pub definitions : AreOf first count es
  pub there : (i : ℕ) (e : Entry) → slice_get es i ≡ Some e → e.node < nodes
  pub some : (k : ℕ) → k < count → entries_at (first + k) es ≢ []

-- what is gathered of each definition from the first on
abbrev pub AreGroups : ℕ → List Entry → List Group → Type 0
AreGroups first es groups = (k : ℕ) (g : Group) → slice_get groups k ≡ Some g →
    (g.members ≡ map (λ e. e.node) (entries_at (first + k) es)) × (g.interleaves ≡ list_any (λ e. e.interleaves) (entries_at (first + k) es))

-- Of so many definitions from the first on, those from the n-th on have nodes for what is combined of the entries. All others stay.
pub record AreDefinedFrom (n first count : ℕ) (es : List Entry) (old new : State) : Type 0 where
  pub nodes : Begins old.nodes new.nodes
  pub references : filter_map place_of_node new.nodes ≡ filter_map place_of_node old.nodes
  -- no node of a token is added
  pub others : (a m j : ℕ) (d : NameClass) → length old.nodes ≤ a → slice_get new.nodes a ≡ Some (Node.Element m d j) → ⊥
  pub counted : length new.definitions ≡ length old.definitions
  pub kept : (d : ℕ) → (d < first + n) ⊎ (first + count ≤ d) → slice_get new.definitions d ≡ slice_get old.definitions d
  pub each : (k : ℕ) → n ≤ k → k < count → (i : ℕ) × (slice_get new.definitions (first + k) ≡ Some i) × (slice_get new.nodes i ≡ Some (combined (entries_at (first + k) es)))
  pub elements : new.elements ≡ old.elements
  pub tokens : new.tokens ≡ old.tokens

abbrev pub AreDefined : ℕ → ℕ → List Entry → State → State → Type 0
AreDefined = AreDefinedFrom 0
