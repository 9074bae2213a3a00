-- The steps of the walk, over the trees of src/.
use Rattle.std.proofs.Common.{◌≡◌, ℕ, suc, ◌+◌, ◌<◌, List, [], ◌∷◌, ◌++◌, length, map, Option, Some, None, refl, sym, ap, ◌∙◌, subst}
use Rattle.std.specs.Prelude.{slice_set, option_map, IfOk, Ok, Err}
use Rattle.std.specs.declared.result.Result.{Result}
use Rattle.rng_model.specs.Classes as simple
use Rattle.rng_model.specs.Kinds as simple_kinds
use Rattle.rng_model.specs.Texts.{Text}
use Rattle.text_atoms.specs.declared.kind.Kind.{Kind}
use Rattle.text_atoms.specs.Kinds.{kind_of}
use Rattle.grammar_laws.specs.Trees as full
use Rattle.grammar_laws.specs.Trees.{patterns_of, items_of}
use Rattle.grammar_laws.specs.Files.{SchemaFile, body_pattern}
use Rattle.schema_tree.specs.declared.tree.Body.{Body}
use Rattle.schema_tree.specs.declared.tree.TypeName.{TypeName}
use Rattle.schema_tree.specs.declared.tree.Parameter.{Parameter}
use Rattle.schema_tree.specs.declared.tree.Class.{Class}
use Rattle.schema_tree.specs.declared.tree.Passed.{Passed}
use Rattle.schema_tree.specs.declared.tree.Pattern.{Pattern, Ref, Parent, Empty, AnyText, NotAllowed, Value, External}
use Rattle.schema_tree.specs.declared.tree.Method.{Method}
use Rattle.schema_tree.specs.declared.tree.Item.{Item, Start, Define}
use Rattle.schema_tree.specs.declared.tree.Item.TheViews as view
use Rattle.schema_tree.specs.Trees.{body_of, pattern_of, item_of, method_of, passed_of, type_of, parameter_of, class_of as tree_class}
use Rattle.schema_tree.proofs.Folds as fold
use Rattle.simple_form_laws.specs.Prefixes as kinds
use Rattle.simple_form_laws.specs.ClassForms.{OfElement, OfAttribute}
use Rattle.simple_form_laws.specs.ClassForms as classes
use Rattle.simple_form_laws.specs.Parts.{entries, is_interleave}
use Rattle.name_resolution.specs.NcNames.{HasNcNames}
use Rattle.name_classes.specs.declared.class.NameClass.{NameClass}
use Rattle.name_classes.specs.Views.{class_of}
use Rattle.schema_graph.specs.declared.node.Node.{Node}
use Rattle.schema_graph.specs.Shown.{IsKind}
use Rattle.tree_graph.specs.declared.entry.Entry.{Entry}
use Rattle.tree_graph.specs.States.{State, IsBegun, IsNodeIn, Reserved}
use Rattle.tree_graph.specs.Numbers.{number_at}
use Rattle.tree_graph.specs.Tables.{Table, number_of, with_entries, IsNamed}
use Rattle.tree_graph.specs.Combined.{AreEntries, AreDefined}
use Rattle.tree_graph.specs.Walks.{IsPatternReady, IsPatternWalked, IsMade, AreItemsReady, AreItemsWalked, IsItemReady, IsItemWalked, IsGrammarWalked}
use Rattle.tree_graph.specs.Walker.{HasKind, CanWalk, Walks, Makes, CanWalkEach, WalksEach, CanWalkGrammar, WalksGrammar, CanWalkItem, WalksItem, CanWalkItems, WalksItems}
use Rattle.tree_graph.proofs.Made as one
use Rattle.tree_graph.proofs.Nodes as node
use Rattle.tree_graph.proofs.ItemLists as item
use Rattle.tree_graph.proofs.Grammars as grammar

module _ {fs : List SchemaFile} {places : List ℕ} {inner outer : Table} {old : State} where
  ready_as : (p : Pattern) {q : full.Pattern} → pattern_of p ≡ q → CanWalk fs places inner outer old (pattern_of p) → IsPatternReady fs places inner outer old q
  ready_as p e r = subst (λ z. IsPatternReady fs places inner outer old z) e r.ready

  pub can_optional : (p q : Pattern) → p ≡ view.Optional q → CanWalk fs places inner outer old (pattern_of p) → CanWalk fs places inner outer old (pattern_of q)
  can_optional p q e r = record { ready = one.ready_optional fs places inner outer old (pattern_of p) (pattern_of q) (ap pattern_of e ∙ fold.pattern_optional q) r.ready }

  pub can_zero_or_more : (p q : Pattern) → p ≡ view.ZeroOrMore q → CanWalk fs places inner outer old (pattern_of p) → CanWalk fs places inner outer old (pattern_of q)
  can_zero_or_more p q e r = record { ready = one.ready_zero_or_more fs places inner outer old (pattern_of p) (pattern_of q) (ap pattern_of e ∙ fold.pattern_zero_or_more q) r.ready }

  pub can_one_or_more : (p q : Pattern) → p ≡ view.OneOrMore q → CanWalk fs places inner outer old (pattern_of p) → CanWalk fs places inner outer old (pattern_of q)
  can_one_or_more p q e r = record { ready = one.ready_one_or_more fs places inner outer old (pattern_of p) (pattern_of q) (ap pattern_of e ∙ fold.pattern_one_or_more q) r.ready }

  pub can_mixed : (p q : Pattern) → p ≡ view.Mixed q → CanWalk fs places inner outer old (pattern_of p) → CanWalk fs places inner outer old (pattern_of q)
  can_mixed p q e r = record { ready = one.ready_mixed fs places inner outer old (pattern_of p) (pattern_of q) (ap pattern_of e ∙ fold.pattern_mixed q) r.ready }

  pub can_attribute : (p q : Pattern) (c : Class) (at : ℕ) → p ≡ view.Attribute c q at → CanWalk fs places inner outer old (pattern_of p) → CanWalk fs places inner outer old (pattern_of q)
  can_attribute p q c at e r = record { ready = node.ready_inner fs places inner outer old (full.attribute (tree_class c) (pattern_of q) at) (pattern_of q) refl (λ s. refl) (ready_as _ (ap pattern_of e ∙ fold.pattern_attribute c q at) r) }

  pub can_data_except : (p q : Pattern) (ty : TypeName) (xs : List Parameter) → p ≡ view.DataType ty xs (Some q) → CanWalk fs places inner outer old (pattern_of p) → CanWalk fs places inner outer old (pattern_of q)
  can_data_except p q ty xs e r = record { ready = node.ready_inner fs places inner outer old (full.data_except (type_of ty) (map parameter_of xs) (pattern_of q)) (pattern_of q) refl (λ s. refl) (ready_as _ (ap pattern_of e ∙ fold.pattern_data_except ty xs q) r) }

  pub can_element : (p q : Pattern) (c : Class) (at : ℕ) (next : State) → p ≡ view.Element c q at → IsBegun old next → CanWalk fs places inner outer old (pattern_of p) → CanWalk fs places inner outer next (pattern_of q)
  can_element p q c at next e n r = record { ready = subst (λ z. IsPatternReady fs places inner outer z (pattern_of q)) (sym n.is) (node.ready_element fs places inner outer old (tree_class c) (pattern_of q) at (ready_as _ (ap pattern_of e ∙ fold.pattern_element c q at) r)) }

  pub can_group : (p : Pattern) (qs : List Pattern) → p ≡ view.Group qs → CanWalk fs places inner outer old (pattern_of p) → CanWalkEach fs places inner outer old qs
  can_group p qs e r = record { ready = node.ready_members fs places inner outer old (full.group (patterns_of (map pattern_of qs))) (patterns_of (map pattern_of qs)) refl (λ s. refl) (ready_as _ (ap pattern_of e ∙ fold.pattern_group qs) r) }

  pub can_choice : (p : Pattern) (qs : List Pattern) → p ≡ view.Choice qs → CanWalk fs places inner outer old (pattern_of p) → CanWalkEach fs places inner outer old qs
  can_choice p qs e r = record { ready = node.ready_members fs places inner outer old (full.choice (patterns_of (map pattern_of qs))) (patterns_of (map pattern_of qs)) refl (λ s. refl) (ready_as _ (ap pattern_of e ∙ fold.pattern_choice qs) r) }

  pub can_interleave : (p : Pattern) (qs : List Pattern) → p ≡ view.Interleave qs → CanWalk fs places inner outer old (pattern_of p) → CanWalkEach fs places inner outer old qs
  can_interleave p qs e r = record { ready = node.ready_members fs places inner outer old (full.interleave (patterns_of (map pattern_of qs))) (patterns_of (map pattern_of qs)) refl (λ s. refl) (ready_as _ (ap pattern_of e ∙ fold.pattern_interleave qs) r) }

  pub can_same : (r q : Pattern) → r ≡ q → CanWalk fs places inner outer old (pattern_of q) → CanWalk fs places inner outer old (pattern_of r)
  can_same r q e w = subst (λ z. CanWalk fs places inner outer old (pattern_of z)) (sym e) w

  pub can_each_same : (rs qs : List Pattern) → rs ≡ qs → CanWalkEach fs places inner outer old qs → CanWalkEach fs places inner outer old rs
  can_each_same rs qs e w = subst (λ z. CanWalkEach fs places inner outer old z) (sym e) w

  -- what is known of a pattern by itself
  pub element_class : (p q : Pattern) (c : Class) (at : ℕ) → p ≡ view.Element c q at → CanWalk fs places inner outer old (pattern_of p) → HasNcNames (tree_class c) × ((d : simple.Class) × (classes.class_of fs OfElement (tree_class c) ≡ Some d))
  element_class p q c at e r = (ready_as _ (ap pattern_of e ∙ fold.pattern_element c q at) r).1.1.sound.0

  pub attribute_class : (p q : Pattern) (c : Class) (at : ℕ) → p ≡ view.Attribute c q at → CanWalk fs places inner outer old (pattern_of p) → HasNcNames (tree_class c) × ((d : simple.Class) × (classes.class_of fs OfAttribute (tree_class c) ≡ Some d))
  attribute_class p q c at e r = (ready_as _ (ap pattern_of e ∙ fold.pattern_attribute c q at) r).1.1.sound.0

  pub value_kind : (p : Pattern) (ty : Option TypeName) (t : Text) → p ≡ Value ty t → CanWalk fs places inner outer old (pattern_of p) → HasKind fs (option_map type_of ty)
  value_kind p None t e r = tt
  value_kind p (Some ty) t e r = (ready_as _ (ap pattern_of e ∙ fold.pattern_value (Some ty) t) r).1.1.sound.0

  pub data_kind : (p : Pattern) (ty : TypeName) (xs : List Parameter) → p ≡ view.DataType ty xs None → CanWalk fs places inner outer old (pattern_of p) → (k : simple_kinds.Kind) × (kinds.kind_of fs (type_of ty) ≡ Some k)
  data_kind p ty xs e r = (ready_as _ (ap pattern_of e ∙ fold.pattern_data_type ty xs) r).1.1.sound.0.1

  pub except_kind : (p q : Pattern) (ty : TypeName) (xs : List Parameter) → p ≡ view.DataType ty xs (Some q) → CanWalk fs places inner outer old (pattern_of p) → (k : simple_kinds.Kind) × (kinds.kind_of fs (type_of ty) ≡ Some k)
  except_kind p q ty xs e r = (ready_as _ (ap pattern_of e ∙ fold.pattern_data_except ty xs q) r).1.1.sound.0.1

  pub type_kind : (p : Pattern) (ty : TypeName) (xs : List Parameter) (except : Option Pattern) → p ≡ view.DataType ty xs except → CanWalk fs places inner outer old (pattern_of p) → (k : simple_kinds.Kind) × (kinds.kind_of fs (type_of ty) ≡ Some k)
  type_kind p ty xs None e r = data_kind p ty xs e r
  type_kind p ty xs (Some q) e r = except_kind p q ty xs e r

  pub ref_name : (p : Pattern) (name : Text) (at : ℕ) → p ≡ Ref name at → CanWalk fs places inner outer old (pattern_of p) → IsNamed inner (Some name)
  ref_name p name at e r = let x = node.ref_named fs places inner outer old name at (ready_as _ (ap pattern_of e ∙ fold.pattern_ref name at) r) in (x.0, x.1)

  pub parent_name : (p : Pattern) (name : Text) (at : ℕ) → p ≡ Parent name at → CanWalk fs places inner outer old (pattern_of p) → IsNamed outer (Some name)
  parent_name p name at e r = let x = node.parent_named fs places inner outer old name at (ready_as _ (ap pattern_of e ∙ fold.pattern_parent name at) r) in (x.0, x.1)

  pub no_list : (p q : Pattern) (at : ℕ) → p ≡ view.List q at → CanWalk fs places inner outer old (pattern_of p) → ⊥
  no_list p q at e r = (ready_as _ (ap pattern_of e ∙ fold.pattern_list q at) r).1.1.sound.0

  pub no_external : (p : Pattern) (t : Text) (passed : Option Passed) (at : ℕ) → p ≡ External t passed at → CanWalk fs places inner outer old (pattern_of p) → ⊥
  no_external p t passed at e r = (ready_as _ (ap pattern_of e ∙ fold.pattern_external t passed at) r).1.1.sound.0

  -- a token's place and node
  pub position_there : (p q : Pattern) (c : Class) (at : ℕ) → p ≡ view.Element c q at → CanWalk fs places inner outer old (pattern_of p) → length old.elements < length places
  position_there p q c at e r = node.place_there fs places inner outer old (tree_class c) (pattern_of q) at (ready_as _ (ap pattern_of e ∙ fold.pattern_element c q at) r)

  pub node_there : (p q : Pattern) (c : Class) (at j : ℕ) (next new : State) → p ≡ view.Element c q at → IsBegun old next → CanWalk fs places inner outer old (pattern_of p) → Walks fs places inner outer next new (pattern_of q) j →
      length old.elements < length new.elements
  node_there p q c at j next new e n r w =
      node.element_there fs places inner outer old (tree_class c) (pattern_of q) at j new (ready_as _ (ap pattern_of e ∙ fold.pattern_element c q at) r) (subst (λ z. IsPatternWalked fs places inner outer z new (pattern_of q) j) n.is w.walked)

-- what is made
module _ {fs : List SchemaFile} {places : List ℕ} {inner outer : Table} {old new : State} where
  made_as : (p : Pattern) {q : full.Pattern} (x : Node) → pattern_of p ≡ q → IsMade fs places inner outer old new q x → Makes fs places inner outer old new (pattern_of p) x
  made_as p x e m = record { made = subst (λ z. IsMade fs places inner outer old new z x) (sym e) m }

  pub makes_optional : (p q : Pattern) (j : ℕ) → p ≡ view.Optional q → CanWalk fs places inner outer old (pattern_of p) → Walks fs places inner outer old new (pattern_of q) j → Makes fs places inner outer old new (pattern_of p) (Node.Optional j)
  makes_optional p q j e r w = record { made = one.made_optional fs places inner outer old new (pattern_of p) (pattern_of q) j (ap pattern_of e ∙ fold.pattern_optional q) r.ready w.walked }

  pub makes_zero_or_more : (p q : Pattern) (j : ℕ) → p ≡ view.ZeroOrMore q → CanWalk fs places inner outer old (pattern_of p) → Walks fs places inner outer old new (pattern_of q) j → Makes fs places inner outer old new (pattern_of p) (Node.ZeroOrMore j)
  makes_zero_or_more p q j e r w = record { made = one.made_zero_or_more fs places inner outer old new (pattern_of p) (pattern_of q) j (ap pattern_of e ∙ fold.pattern_zero_or_more q) r.ready w.walked }

  pub makes_one_or_more : (p q : Pattern) (j : ℕ) → p ≡ view.OneOrMore q → CanWalk fs places inner outer old (pattern_of p) → Walks fs places inner outer old new (pattern_of q) j → Makes fs places inner outer old new (pattern_of p) (Node.OneOrMore j)
  makes_one_or_more p q j e r w = record { made = one.made_one_or_more fs places inner outer old new (pattern_of p) (pattern_of q) j (ap pattern_of e ∙ fold.pattern_one_or_more q) r.ready w.walked }

  pub makes_mixed : (p q : Pattern) (j : ℕ) → p ≡ view.Mixed q → CanWalk fs places inner outer old (pattern_of p) → Walks fs places inner outer old new (pattern_of q) j → Makes fs places inner outer old new (pattern_of p) (Node.Mixed j)
  makes_mixed p q j e r w = record { made = one.made_mixed fs places inner outer old new (pattern_of p) (pattern_of q) j (ap pattern_of e ∙ fold.pattern_mixed q) r.ready w.walked }

  pub makes_attribute : (p q : Pattern) (c : Class) (at j : ℕ) (d : NameClass) → p ≡ view.Attribute c q at → classes.class_of fs OfAttribute (tree_class c) ≡ Some (class_of d) → CanWalk fs places inner outer old (pattern_of p) → Walks fs places inner outer old new (pattern_of q) j →
      Makes fs places inner outer old new (pattern_of p) (Node.Attribute d j)
  makes_attribute p q c at j d e named r w = record { made = one.made_attribute fs places inner outer old new (pattern_of p) (pattern_of q) (tree_class c) at d j (ap pattern_of e ∙ fold.pattern_attribute c q at) named r.ready w.walked }

  pub makes_data_except : (p q : Pattern) (ty : TypeName) (xs : List Parameter) (k : Kind) (j : ℕ) → p ≡ view.DataType ty xs (Some q) → kinds.kind_of fs (type_of ty) ≡ Some (kind_of k) → CanWalk fs places inner outer old (pattern_of p) → Walks fs places inner outer old new (pattern_of q) j →
      Makes fs places inner outer old new (pattern_of p) (Node.DataType k (Some j))
  makes_data_except p q ty xs k j e kind r w = let f = ap pattern_of e ∙ fold.pattern_data_except ty xs q in made_as _ _ f (node.made_data_except fs places inner outer old new (type_of ty) (map parameter_of xs) (pattern_of q) k j kind (ready_as _ f r) w.walked)

  pub makes_group : (p : Pattern) (qs : List Pattern) (js : List ℕ) → p ≡ view.Group qs → CanWalk fs places inner outer old (pattern_of p) → WalksEach fs places inner outer old new qs js → Makes fs places inner outer old new (pattern_of p) (Node.Group js)
  makes_group p qs js e r w = let f = ap pattern_of e ∙ fold.pattern_group qs in made_as _ _ f (node.made_group fs places inner outer old new (patterns_of (map pattern_of qs)) js (ready_as _ f r) w.walked)

  pub makes_choice : (p : Pattern) (qs : List Pattern) (js : List ℕ) → p ≡ view.Choice qs → CanWalk fs places inner outer old (pattern_of p) → WalksEach fs places inner outer old new qs js → Makes fs places inner outer old new (pattern_of p) (Node.Choice js)
  makes_choice p qs js e r w = let f = ap pattern_of e ∙ fold.pattern_choice qs in made_as _ _ f (node.made_choice fs places inner outer old new (patterns_of (map pattern_of qs)) js (ready_as _ f r) w.walked)

  pub makes_interleave : (p : Pattern) (qs : List Pattern) (js : List ℕ) → p ≡ view.Interleave qs → CanWalk fs places inner outer old (pattern_of p) → WalksEach fs places inner outer old new qs js → Makes fs places inner outer old new (pattern_of p) (Node.Interleave js)
  makes_interleave p qs js e r w = let f = ap pattern_of e ∙ fold.pattern_interleave qs in made_as _ _ f (node.made_interleave fs places inner outer old new (patterns_of (map pattern_of qs)) js (ready_as _ f r) w.walked)

  -- a token: begun, its content walked, and its node set to the next one
  pub makes_element : (p q : Pattern) (c : Class) (at k n j : ℕ) (d : NameClass) (begun walked : State) → p ≡ view.Element c q at → IsBegun old begun → k ≡ length old.elements →
      new ≡ record walked { elements = slice_set walked.elements k (length walked.nodes) } → n ≡ number_at places k → n < length places → classes.class_of fs OfElement (tree_class c) ≡ Some (class_of d) →
      CanWalk fs places inner outer old (pattern_of p) → Walks fs places inner outer begun walked (pattern_of q) j → Makes fs places inner outer old new (pattern_of p) (Node.Element n d j)
  makes_element p q c at k n j d begun walked e b position set number less named r w =
      let f = ap pattern_of e ∙ fold.pattern_element c q at in
      let m = node.made_element fs places inner outer old (tree_class c) (pattern_of q) at n j d walked (subst (λ i. n ≡ number_at places i) position number) less named (ready_as _ f r) (subst (λ z. IsPatternWalked fs places inner outer z walked (pattern_of q) j) b.is w.walked) in
      let set_there : new ≡ record walked { elements = slice_set walked.elements (length old.elements) (length walked.nodes) } = subst (λ i. new ≡ record walked { elements = slice_set walked.elements i (length walked.nodes) }) position set in
      made_as _ _ f (subst (λ z. IsMade fs places inner outer old z (full.element (tree_class c) (pattern_of q) at) (Node.Element n d j)) (sym set_there) m)

  pub makes_within : (p : full.Pattern) (x : Node) → Makes fs places inner outer old new p x → IsNodeIn (length new.nodes) (length new.definitions) new.tokens x
  makes_within p x m = m.made.0

  pub walks_same : (r q : Pattern) (j : ℕ) → r ≡ q → Walks fs places inner outer old new (pattern_of r) j → Walks fs places inner outer old new (pattern_of q) j
  walks_same r q j e w = subst (λ z. Walks fs places inner outer old new (pattern_of z) j) e w

  pub each_same : (rs qs : List Pattern) (js : List ℕ) → rs ≡ qs → WalksEach fs places inner outer old new rs js → WalksEach fs places inner outer old new qs js
  each_same rs qs js e w = subst (λ z. WalksEach fs places inner outer old new z js) e w

  -- the node is added
  pub walks_pushed : (mid : State) (p : full.Pattern) (x : Node) (i : ℕ) → i ≡ length mid.nodes → new ≡ record mid { nodes = mid.nodes ++ x ∷ [] } → Makes fs places inner outer old mid p x → Walks fs places inner outer old new p i
  walks_pushed mid p x i e f m = record { walked = node.pushed fs places inner outer old new mid p x i e f m.made }

module _ {fs : List SchemaFile} {places : List ℕ} {inner outer : Table} {old : State} where
  pub makes_empty : (p : Pattern) → p ≡ Empty → CanWalk fs places inner outer old (pattern_of p) → Makes fs places inner outer old old (pattern_of p) Node.Empty
  makes_empty p e r = let f = ap pattern_of e ∙ fold.pattern_empty in made_as _ _ f (node.made_empty fs places inner outer old (ready_as _ f r))

  pub makes_any_text : (p : Pattern) → p ≡ AnyText → CanWalk fs places inner outer old (pattern_of p) → Makes fs places inner outer old old (pattern_of p) Node.AnyText
  makes_any_text p e r = let f = ap pattern_of e ∙ fold.pattern_any_text in made_as _ _ f (node.made_any_text fs places inner outer old (ready_as _ f r))

  pub makes_not_allowed : (p : Pattern) → p ≡ NotAllowed → CanWalk fs places inner outer old (pattern_of p) → Makes fs places inner outer old old (pattern_of p) Node.NotAllowed
  makes_not_allowed p e r = let f = ap pattern_of e ∙ fold.pattern_not_allowed in made_as _ _ f (node.made_not_allowed fs places inner outer old (ready_as _ f r))

  pub makes_value : (p : Pattern) (ty : Option TypeName) (t u : Text) (k : Kind) → p ≡ Value ty t → u ≡ t → IsKind fs [] [] (option_map type_of ty) k → CanWalk fs places inner outer old (pattern_of p) → Makes fs places inner outer old old (pattern_of p) (Node.Value k u)
  makes_value p ty t u k e same kind r = let f = ap pattern_of e ∙ fold.pattern_value ty t in subst (λ v. Makes fs places inner outer old old (pattern_of p) (Node.Value k v)) (sym same) (made_as _ _ f (node.made_value fs places inner outer old (option_map type_of ty) t k kind (ready_as _ f r)))

  pub makes_data_type : (p : Pattern) (ty : TypeName) (xs : List Parameter) (k : Kind) → p ≡ view.DataType ty xs None → kinds.kind_of fs (type_of ty) ≡ Some (kind_of k) → CanWalk fs places inner outer old (pattern_of p) → Makes fs places inner outer old old (pattern_of p) (Node.DataType k None)
  makes_data_type p ty xs k e kind r = let f = ap pattern_of e ∙ fold.pattern_data_type ty xs in made_as _ _ f (node.made_data_type fs places inner outer old (type_of ty) (map parameter_of xs) k kind (ready_as _ f r))

  pub makes_ref : (p : Pattern) (name : Text) (at : ℕ) (x : Node) → p ≡ Ref name at → (d : ℕ) × (number_of inner name ≡ Some d) × (x ≡ Node.Reference at d) → CanWalk fs places inner outer old (pattern_of p) → Makes fs places inner outer old old (pattern_of p) x
  makes_ref p name at x e (d, number, is) r = let f = ap pattern_of e ∙ fold.pattern_ref name at in subst (λ y. Makes fs places inner outer old old (pattern_of p) y) (sym is) (made_as _ _ f (node.made_ref fs places inner outer old name at d number (ready_as _ f r)))

  pub makes_parent : (p : Pattern) (name : Text) (at : ℕ) (x : Node) → p ≡ Parent name at → (d : ℕ) × (number_of outer name ≡ Some d) × (x ≡ Node.Reference at d) → CanWalk fs places inner outer old (pattern_of p) → Makes fs places inner outer old old (pattern_of p) x
  makes_parent p name at x e (d, number, is) r = let f = ap pattern_of e ∙ fold.pattern_parent name at in subst (λ y. Makes fs places inner outer old old (pattern_of p) y) (sym is) (made_as _ _ f (node.made_parent fs places inner outer old name at d number (ready_as _ f r)))

-- items
module _ {fs : List SchemaFile} {places : List ℕ} {inner outer : Table} {old : State} where
  item_as : (i : Item) {j : full.Item} → item_of i ≡ j → CanWalkItem fs places inner outer old i → IsItemReady fs places inner outer old j
  item_as i e r = subst (λ z. IsItemReady fs places inner outer old z) e r.ready

  pub define_named : (i : Item) (name : Text) (m : Method) (p : Pattern) (at : ℕ) → i ≡ Define name m p at → CanWalkItem fs places inner outer old i → IsNamed inner (Some name)
  define_named i name m p at e r = (item_as _ (ap item_of e ∙ fold.item_define name m p at) r).0.0

module _ {fs : List SchemaFile} {places : List ℕ} {inner outer : Table} {old new : State} where
  walked_as : (i : Item) {j : full.Item} (before after : List Entry) → item_of i ≡ j → IsItemWalked fs places inner outer old new j before after → WalksItem fs places inner outer old new i before after
  walked_as i before after e w = record { walked = subst (λ z. IsItemWalked fs places inner outer old new z before after) (sym e) w }

module _ {fs : List SchemaFile} {places : List ℕ} {inner outer : Table} {old : State} where
  pub walks_include : (i : Item) (t : Text) (passed : Option Passed) (is : List Item) (at : ℕ) (before : List Entry) → i ≡ view.Include t passed is at → WalksItem fs places inner outer old old i before before
  walks_include i t passed is at before e = walked_as i before before (ap item_of e ∙ fold.item_include t passed is at) (item.walked_include fs places inner outer old t (option_map passed_of passed) (items_of (map item_of is)) at before)

-- grammars
module _ {fs : List SchemaFile} {places : List ℕ} {inner outer : Table} {old : State} where
  pub can_grammar : (p : Pattern) (is js : List Item) → p ≡ view.Grammar is → js ≡ is → CanWalk fs places inner outer old (pattern_of p) → CanWalkGrammar fs places inner old js
  can_grammar p is js e same r =
      let q = ready_as _ (ap pattern_of e ∙ fold.pattern_grammar is) r in
      subst (λ l. CanWalkGrammar fs places inner old l) (sym same) (record { ready = grammar.ready_grammar fs places inner old (items_of (map item_of is)) outer q; start = q.1.1.sound.0 })

module _ {fs : List SchemaFile} {places : List ℕ} {inner outer : Table} {old new : State} where
  pub makes_grammar : (p : Pattern) (is js : List Item) (d : ℕ) → p ≡ view.Grammar is → js ≡ is → CanWalk fs places inner outer old (pattern_of p) → WalksGrammar fs places inner old new js d → Makes fs places inner outer old new (pattern_of p) (Node.Grammar d)
  makes_grammar p is js d e same r w =
      let f = ap pattern_of e ∙ fold.pattern_grammar is in
      made_as _ _ f (grammar.made_grammar fs places inner old (items_of (map item_of is)) outer new d (ready_as _ f r) (subst (λ l. IsGrammarWalked fs places inner old new (items_of (map item_of l)) d) same w.walked))

-- entries that begin with none
begun_empty : (fs : List SchemaFile) (places : List ℕ) (inner : Table) (mid last : State) (is : List Item) (t : Table) (before ws : List Entry) → before ≡ [] → WalksItems fs places t inner mid last is before ws →
    AreItemsWalked fs places t inner mid last (items_of (map item_of is)) [] ws
begun_empty fs places inner mid last is t before ws none w = subst (λ l. AreItemsWalked fs places t inner mid last (items_of (map item_of is)) l ws) none w.walked

-- where numbers were reserved for a grammar's definitions
module _ {fs : List SchemaFile} {places : List ℕ} {inner : Table} {old mid : State} where
  pub grammar_can_items : (is : List Item) (t : Table) → t ≡ record { base = length old.definitions; names = with_entries [] (entries (items_of (map item_of is))) } → length mid.definitions ≡ suc t.base + length t.names → Reserved old mid →
      CanWalkGrammar fs places inner old is → CanWalkItems fs places t inner mid is
  grammar_can_items is t table counted reserved r = record { ready = grammar.grammar_items fs places inner old mid (items_of (map item_of is)) t table counted reserved r.ready }

  -- its entries were walked
  module _ {last : State} where
    pub grammar_has_entries : (is : List Item) (t : Table) (before ws es : List Entry) → t ≡ record { base = length old.definitions; names = with_entries [] (entries (items_of (map item_of is))) } → length mid.definitions ≡ suc t.base + length t.names → Reserved old mid →
        before ≡ [] → es ≡ ws → CanWalkGrammar fs places inner old is → WalksItems fs places t inner mid last is before ws → AreEntries t.base (suc (length t.names)) (length last.nodes) es
    grammar_has_entries is t before ws es table counted reserved none same r w =
        subst (λ l. AreEntries t.base (suc (length t.names)) (length last.nodes) l) (sym same)
        (grammar.grammar_entries fs places inner old mid (items_of (map item_of is)) t table counted reserved last ws r.start (begun_empty fs places inner mid last is t before ws none w) r.ready)

    pub grammar_has_definitions : (is : List Item) (t : Table) (before ws : List Entry) → t ≡ record { base = length old.definitions; names = with_entries [] (entries (items_of (map item_of is))) } → length mid.definitions ≡ suc t.base + length t.names → Reserved old mid →
        before ≡ [] → CanWalkGrammar fs places inner old is → WalksItems fs places t inner mid last is before ws → t.base + length t.names < length last.definitions
    grammar_has_definitions is t before ws table counted reserved none r w = grammar.grammar_definitions fs places inner old mid (items_of (map item_of is)) t table counted reserved last ws r.start (begun_empty fs places inner mid last is t before ws none w) r.ready

    pub grammar_walks : (new : State) (is : List Item) (t : Table) (before ws es : List Entry) (d : ℕ) → t ≡ record { base = length old.definitions; names = with_entries [] (entries (items_of (map item_of is))) } → length mid.definitions ≡ suc t.base + length t.names →
        Reserved old mid → before ≡ [] → es ≡ ws → d ≡ t.base → CanWalkGrammar fs places inner old is → WalksItems fs places t inner mid last is before ws → AreDefined t.base (suc (length t.names)) es last new → WalksGrammar fs places inner old new is d
    grammar_walks new is t before ws es d table counted reserved none same at r w a = record {
      walked = subst (λ n. IsGrammarWalked fs places inner old new (items_of (map item_of is)) n) (sym at)
          (grammar.grammar_walked fs places inner old mid (items_of (map item_of is)) t table counted reserved last new ws r.start (begun_empty fs places inner mid last is t before ws none w) (subst (λ l. AreDefined t.base (suc (length t.names)) l last new) same a));
    }

-- the whole of a schema
module _ {fs : List SchemaFile} {places : List ℕ} {inner outer : Table} {old : State} where
  pub can_body : (b : Body) (p : Pattern) → b ≡ Body.Pattern p → CanWalk fs places inner outer old (body_pattern (body_of b)) → CanWalk fs places inner outer old (pattern_of p)
  can_body b p e r = subst (λ z. CanWalk fs places inner outer old (body_pattern (body_of z))) e r

  pub can_body_items : (b : Body) (is js : List Item) → b ≡ Body.Items is → js ≡ is → CanWalk fs places inner outer old (body_pattern (body_of b)) → CanWalkGrammar fs places inner old js
  can_body_items b is js e same r =
      let q : IsPatternReady fs places inner outer old (full.grammar (items_of (map item_of is))) = (subst (λ z. CanWalk fs places inner outer old (body_pattern (body_of z))) e r).ready in
      subst (λ l. CanWalkGrammar fs places inner old l) (sym same) (record { ready = grammar.ready_grammar fs places inner old (items_of (map item_of is)) outer q; start = q.1.1.sound.0 })

module _ {fs : List SchemaFile} {places : List ℕ} {inner outer : Table} {old new : State} where
  pub walks_body : (b : Body) (p : Pattern) (i : ℕ) → b ≡ Body.Pattern p → Walks fs places inner outer old new (pattern_of p) i → Walks fs places inner outer old new (body_pattern (body_of b)) i
  walks_body b p i e w = subst (λ z. Walks fs places inner outer old new (body_pattern (body_of z)) i) (sym e) w

  pub makes_body_items : (b : Body) (is js : List Item) (d : ℕ) → b ≡ Body.Items is → js ≡ is → CanWalk fs places inner outer old (body_pattern (body_of b)) → WalksGrammar fs places inner old new js d → Makes fs places inner outer old new (body_pattern (body_of b)) (Node.Grammar d)
  makes_body_items b is js d e same r w =
      let q : IsPatternReady fs places inner outer old (full.grammar (items_of (map item_of is))) = (subst (λ z. CanWalk fs places inner outer old (body_pattern (body_of z))) e r).ready in
      subst (λ z. Makes fs places inner outer old new (body_pattern (body_of z)) (Node.Grammar d)) (sym e)
      (record { made = grammar.made_grammar fs places inner old (items_of (map item_of is)) outer new d q (subst (λ l. IsGrammarWalked fs places inner old new (items_of (map item_of l)) d) same w.walked) })

module _ (fs : List SchemaFile) (places : List ℕ) (inner outer : Table) (old new : State) where
  pub if_walks_body : {E : Type 0} (b : Body) (p : Pattern) (q : Result ℕ E) → b ≡ Body.Pattern p → IfOk q (λ i. Walks fs places inner outer old new (pattern_of p) i) → IfOk q (λ i. Walks fs places inner outer old new (body_pattern (body_of b)) i)
  if_walks_body b p (Ok i) e w = walks_body b p i e w
  if_walks_body b p (Err x) e w = tt
