-- Graphs of one node.
use Rattle.std.proofs.Common.{◌≡◌, ℕ, zero, suc, ◌<◌, List, [], ◌∷◌, length, Option, Some, None, slice_get, refl, sym, ◌∙◌, ap, subst, arith, Contains}
use Rattle.std.proofs.lemmas.Option.{same_Some, slice_get_within}
use Rattle.name_classes.specs.declared.class.NameClass.{NameClass}
use Rattle.schema_graph.specs.Shown.{HasMembers, IsClosed, IsMany, parts_of_node, definition_of}
use Rattle.schema_graph.specs.declared.node.Node.{Node}
use Rattle.schema_graph.specs.declared.graph.Graph.{Graph}

only : (n m : Node) (i : ℕ) → slice_get (n ∷ []) i ≡ Some m → n ≡ m
only n m zero e = same_Some n m e
only n m (suc i) e = absurd (cc)

only_zero : (i d : ℕ) → slice_get (0 ∷ []) d ≡ Some i → i ≡ 0
only_zero i zero e = sym (same_Some 0 i e)
only_zero i (suc d) e = absurd (cc)

module _ (g : Graph) (n : Node) (nodes : g.nodes.items ≡ n ∷ []) where
  is_it : (i : ℕ) (m : Node) → slice_get g.nodes.items i ≡ Some m → n ≡ m
  is_it i m e = only n m i (subst (λ xs. slice_get xs i ≡ Some m) nodes e)

  one : (i : ℕ) → i ≡ 0 → i < length g.nodes.items
  one i e = let a = ap length nodes in omega arith

  pub closed : g.definitions.items ≡ 0 ∷ [] → g.elements.items ≡ [] → g.root ≡ 0 → parts_of_node n ≡ [] → ((d : ℕ) → definition_of n ≡ Some d → d ≡ 0) →
      ((k j : ℕ) (d : NameClass) → n ≡ Node.Element k d j → ⊥) → IsClosed g
  closed definitions elements root parts lead apart = record {
    root = one g.root root;
    parts = λ i j m e c. absurd (let z = ap length (sym (ap parts_of_node (is_it i m e)) ∙ parts) in let l = c.1 in omega arith);
    contents = λ i j k d e. absurd (apart k j d (is_it i (Node.Element k d j) e));
    leads = λ i d m e f. (let z = lead d (subst (λ x. definition_of x ≡ Some d) (sym (is_it i m e)) f) in let a = ap length definitions in omega arith);
    definitions = λ d i e. one i (only_zero i d (subst (λ xs. slice_get xs d ≡ Some i) definitions e));
    elements = λ k i e. absurd (let l = slice_get_within g.elements.items k i e in let a = ap length elements in omega arith);
  }

  pub members : IsMany n → HasMembers g
  members h = record { each = λ i m e. subst IsMany (is_it i m e) h }
