-- What a walk through a tree makes of it.
use Rattle.std.specs.Prelude.{◌≡◌, ℕ, suc, ◌+◌, ◌≤◌, false, List, [], ◌∷◌, ◌++◌, length, Option, Some, None, slice_get, filter_map, ⊤}
use Rattle.std.specs.List.{AllByRecursion}
use Rattle.rng_model.specs.Classes as simple
use Rattle.rng_model.specs.Kinds as kinds
use Rattle.text_atoms.specs.declared.kind.Kind.{Kind}
use Rattle.name_classes.specs.declared.class.NameClass.{NameClass}
use Rattle.rng_model.specs.Texts.{Text}
use Rattle.grammar_laws.specs.Trees.{TypeName, Pattern, Patterns, Items, Item}
use Rattle.grammar_laws.specs.Trees as full
use Rattle.grammar_laws.specs.Files.{SchemaFile}
use Rattle.simple_form_laws.specs.Prefixes.{kind_of}
use Rattle.simple_form_laws.specs.ClassForms.{OfElement, OfAttribute, class_of}
use Rattle.simple_form_laws.specs.Parts.{Scope, Part, Entry, entries, entries_in, entries_of, defined, is_interleave, parts_of, parts_of_list, parts_of_items, parts_of_item}
use Rattle.simple_form_laws.specs.Forms.{element_places, places_in_list, places_in_items, places_in_item, numbered, numbered_list, numbered_items, numbered_item, ElementToken, tokens_of}
use Rattle.simple_form_laws.specs.Faults.{IsMany, is_empty_list}
use Rattle.name_resolution.specs.NcNames.{HasNcNames}
use Rattle.schema_graph.specs.declared.node.Node.{Node}
use Rattle.schema_graph.specs.Shown.{Key, key, Shows, ShowEach, IsKind}
use Rattle.tree_graph.specs.declared.entry.Entry.{Entry as Walked_Entry}
use Rattle.tree_graph.specs.States.{State, Begins, IsNodeIn, place_of_node}
use Rattle.tree_graph.specs.Numbers.{number_at, Follows}
use Rattle.tree_graph.specs.Tables.{Table, number_of, AreNamed, Fits}

-- the innermost grammar has a definition of the name
abbrev pub IsDefined : Scope → Text → Type 0
IsDefined [] name = ⊥
IsDefined (is ∷ s) name = is_empty_list (entries_of (Some name) is) ≡ false

-- so has the next one outwards
abbrev pub IsDefinedOutside : Scope → Text → Type 0
IsDefinedOutside [] name = ⊥
IsDefinedOutside (is ∷ s) name = IsDefined s name

-- The pattern by itself is taken and has no fault: its names and types resolve, what it refers to is there, and its lists have members.
abbrev pub IsSound : List SchemaFile → Scope → Pattern → Type 0
IsSound fs s (full.element c p at) = HasNcNames c × ((d : simple.Class) × (class_of fs OfElement c ≡ Some d))
IsSound fs s (full.attribute c p at) = HasNcNames c × ((d : simple.Class) × (class_of fs OfAttribute c ≡ Some d))
IsSound fs s (full.group ps) = IsMany ps
IsSound fs s (full.choice ps) = IsMany ps
IsSound fs s (full.interleave ps) = IsMany ps
IsSound fs s (full.list p at) = ⊥
IsSound fs s (full.external t passed at) = ⊥
IsSound fs s (full.ref name at) = IsDefined s name
IsSound fs s (full.parent name at) = IsDefinedOutside s name
IsSound fs s (full.value (Some of) t) = (k : kinds.Kind) × (kind_of fs of ≡ Some k)
IsSound fs s (full.data_type of xs) = (xs ≡ []) × ((k : kinds.Kind) × (kind_of fs of ≡ Some k))
IsSound fs s (full.data_except of xs p) = (xs ≡ []) × ((k : kinds.Kind) × (kind_of fs of ≡ Some k))
IsSound fs s (full.grammar is) = is_empty_list (entries_of None is) ≡ false
IsSound fs s p = ⊤

abbrev pub AreSound : List SchemaFile → List Part → Type 0
AreSound fs = AllByRecursion (λ x. IsSound fs x.scope x.pattern)

-- the place of a reference
abbrev pub place_of_pattern : Pattern → Option ℕ
place_of_pattern (full.ref name at) = Some at
place_of_pattern (full.parent name at) = Some at
place_of_pattern _ = None

abbrev pub place_of_part : Part → Option ℕ
place_of_part x = place_of_pattern x.pattern

-- the pattern, with the number of each token, where the tokens so far precede it
abbrev pub at_hand : List ℕ → State → Pattern → Pattern
at_hand places old p = numbered places (length old.elements) p

abbrev pub list_at_hand : List ℕ → State → Patterns → Patterns
list_at_hand places old ps = numbered_list places (length old.elements) ps

abbrev pub items_at_hand : List ℕ → State → Items → Items
items_at_hand places old is = numbered_items places (length old.elements) is

-- over the files and the places of all tokens
module _ (fs : List SchemaFile) (places : List ℕ) where
  -- What is known where parts of the tree, with tokens at these places, are to be walked.
  pub record IsReady (keys : List Key) (inner outer : Table) (old : State) (s : Scope) (ats : List ℕ) (xs : List Part) : Type 0 where
    pub fits : Fits keys inner outer s
    pub keyed : length keys ≡ length old.definitions
    pub sound : AreSound fs xs
    pub follows : Follows places (length old.elements) ats
    pub tokens : old.tokens ≡ length places

  -- the nodes of tokens, from the token that n others precede
  abbrev pub ShowTokens : List Node → List Key → ℕ → List ℕ → List ElementToken → Type 0
  ShowTokens nodes keys n [] [] = ⊤
  ShowTokens nodes keys n (i ∷ is) (t ∷ ts) =
      Shows fs nodes keys i t.scope (full.element t.class t.content t.number) × (t.number ≡ number_at places n) × ShowTokens nodes keys (suc n) is ts
  ShowTokens nodes keys n _ _ = ⊥

  -- the definitions of the keys from n on are combined
  abbrev pub AreCombinedFrom : ℕ → List Node → List Key → List ℕ → Type 0
  AreCombinedFrom n nodes keys definitions =
      (d : ℕ) (k : Key) → n ≤ d → slice_get keys d ≡ Some k → (i : ℕ) × (slice_get definitions d ≡ Some i) × Shows fs nodes keys i (k.items ∷ k.scope) (defined k.name k.items)

  -- each token's node from the i-th node on is that of a token from the n-th on, whose number it has
  abbrev pub AreOwnedFrom : ℕ → ℕ → List Node → List ℕ → Type 0
  AreOwnedFrom i n nodes elements =
      (a m j : ℕ) (d : NameClass) → i ≤ a → slice_get nodes a ≡ Some (Node.Element m d j) → (k : ℕ) × (n ≤ k) × (slice_get elements k ≡ Some a) × (m ≡ number_at places k)

  -- Parts of the tree were walked, with tokens at these places.
  pub record IsWalked (keys more : List Key) (old new : State) (ats : List ℕ) (xs : List Part) : Type 0 where
    pub begun : Begins keys more
    pub nodes : Begins old.nodes new.nodes
    pub definitions : Begins old.definitions new.definitions
    pub keyed : length more ≡ length new.definitions
    pub combined : AreCombinedFrom (length keys) new.nodes more new.definitions
    pub elements : (is : List ℕ) × (new.elements ≡ old.elements ++ is) × ShowTokens new.nodes more (length old.elements) is (tokens_of xs)
    pub counted : length new.elements ≡ length old.elements + length ats
    pub owned : AreOwnedFrom (length old.nodes) (length old.elements) new.nodes new.elements
    pub references : filter_map place_of_node new.nodes ≡ filter_map place_of_node old.nodes ++ filter_map place_of_part xs
    pub tokens : new.tokens ≡ old.tokens

  -- in some scope the pattern can be walked
  abbrev pub IsPatternReady : Table → Table → State → Pattern → Type 0
  IsPatternReady inner outer old p = (s : Scope) × ((keys : List Key) × IsReady keys inner outer old s (element_places p) (parts_of s (at_hand places old p)))

  -- in every scope in which it can be walked, it was walked, and the node shows it
  abbrev pub IsPatternWalked : Table → Table → State → State → Pattern → ℕ → Type 0
  IsPatternWalked inner outer old new p i =
      (s : Scope) (keys : List Key) → IsReady keys inner outer old s (element_places p) (parts_of s (at_hand places old p)) →
      (more : List Key) × (IsWalked keys more old new (element_places p) (parts_of s (at_hand places old p)) × Shows fs new.nodes more i s (at_hand places old p))

  -- so it is once the node is added, and what the node names is there
  abbrev pub IsMade : Table → Table → State → State → Pattern → Node → Type 0
  IsMade inner outer old new p x =
      IsNodeIn (length new.nodes) (length new.definitions) new.tokens x
      × IsPatternWalked inner outer old (record new { nodes = new.nodes ++ x ∷ [] }) p (length new.nodes)

  abbrev pub AreMembersReady : Table → Table → State → Patterns → Type 0
  AreMembersReady inner outer old ps = (s : Scope) × ((keys : List Key) × IsReady keys inner outer old s (places_in_list ps) (parts_of_list s (list_at_hand places old ps)))

  abbrev pub AreMembersWalked : Table → Table → State → State → Patterns → List ℕ → Type 0
  AreMembersWalked inner outer old new ps is =
      (s : Scope) (keys : List Key) → IsReady keys inner outer old s (places_in_list ps) (parts_of_list s (list_at_hand places old ps)) →
      (more : List Key) × (IsWalked keys more old new (places_in_list ps) (parts_of_list s (list_at_hand places old ps)) × ShowEach fs new.nodes more is s (list_at_hand places old ps))

  -- the combined start's number, or that of a name
  abbrev pub definition_number : Table → Option Text → Option ℕ
  definition_number t None = Some t.base
  definition_number t (Some name) = number_of t name

  -- the nodes of starts and definitions, with the numbers of what they are combined to
  abbrev pub ShowEntries : List Node → List Key → Table → Scope → List Walked_Entry → List Entry → Type 0
  ShowEntries nodes keys t s [] [] = ⊤
  ShowEntries nodes keys t s (w ∷ ws) (e ∷ es) =
      (definition_number t e.name ≡ Some w.definition) × (w.interleaves ≡ is_interleave e.method) × Shows fs nodes keys w.node s e.pattern × ShowEntries nodes keys t s ws es
  ShowEntries nodes keys t s _ _ = ⊥

  -- in some scope the items can be walked, and each of their names is in the table
  abbrev pub AreItemsReady : Table → Table → State → Items → Type 0
  AreItemsReady inner outer old is =
      AreNamed inner (entries is) × ((s : Scope) × ((keys : List Key) × IsReady keys inner outer old s (places_in_items is) (parts_of_items s (items_at_hand places old is))))

  -- the items' starts and definitions were walked
  abbrev pub AreItemsWalked : Table → Table → State → State → Items → List Walked_Entry → List Walked_Entry → Type 0
  AreItemsWalked inner outer old new is before after =
      (s : Scope) (keys : List Key) → IsReady keys inner outer old s (places_in_items is) (parts_of_items s (items_at_hand places old is)) →
      (more : List Key) × (IsWalked keys more old new (places_in_items is) (parts_of_items s (items_at_hand places old is))
      × ((ws : List Walked_Entry) × ((after ≡ before ++ ws) × ShowEntries new.nodes more inner s ws (entries (items_at_hand places old is)))))

  -- the same of one item
  abbrev pub IsItemReady : Table → Table → State → Item → Type 0
  IsItemReady inner outer old i =
      AreNamed inner (entries_in i)
      × ((s : Scope) × ((keys : List Key) × IsReady keys inner outer old s (places_in_item i) (parts_of_item s (numbered_item places (length old.elements) i))))

  abbrev pub IsItemWalked : Table → Table → State → State → Item → List Walked_Entry → List Walked_Entry → Type 0
  IsItemWalked inner outer old new i before after =
      (s : Scope) (keys : List Key) → IsReady keys inner outer old s (places_in_item i) (parts_of_item s (numbered_item places (length old.elements) i)) →
      (more : List Key) × (IsWalked keys more old new (places_in_item i) (parts_of_item s (numbered_item places (length old.elements) i))
      × ((ws : List Walked_Entry) × ((after ≡ before ++ ws) × ShowEntries new.nodes more inner s ws (entries_in (numbered_item places (length old.elements) i)))))

  abbrev pub IsGrammarReady : Table → State → Items → Type 0
  IsGrammarReady inner old is =
      (outer : Table) × ((s : Scope) × ((keys : List Key) × IsReady keys inner outer old s (places_in_items is) (parts_of_items (items_at_hand places old is ∷ s) (items_at_hand places old is))))

  -- a grammar was walked, whose combined start has the number
  abbrev pub IsGrammarWalked : Table → State → State → Items → ℕ → Type 0
  IsGrammarWalked inner old new is d =
      (outer : Table) (s : Scope) (keys : List Key) → IsReady keys inner outer old s (places_in_items is) (parts_of_items (items_at_hand places old is ∷ s) (items_at_hand places old is)) →
      (more : List Key) × (IsWalked keys more old new (places_in_items is) (parts_of_items (items_at_hand places old is ∷ s) (items_at_hand places old is))
      × (slice_get more d ≡ Some (key s (items_at_hand places old is) None)))
