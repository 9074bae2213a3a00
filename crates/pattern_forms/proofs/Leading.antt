-- What nodes lead to, within the graph.
use Rattle.std.proofs.Common.{◌≡◌, ℕ, zero, suc, ◌<◌, Bool, true, false, List, [], ◌∷◌, Option, Some, None, length, slice_get, get_or, refl, ◌∙◌, subst, Contains}
use Rattle.std.proofs.lemmas.Option.{same_Some, slice_get_within, slice_get_read, slice_get-get_or, get_or_from_slice_get}
use Rattle.schema_graph.specs.Shown.{IsClosed, parts_of_node}
use Rattle.schema_graph.specs.declared.node.Node.{Node}
use Rattle.schema_graph.specs.declared.graph.Graph.{Graph}
use Rattle.pattern_forms.specs.Reaching.{definition_at, steps_of, node_at, Step, step, Reaches, here, next}

pub contains_at : {X : Type 0} (xs : List X) (k : ℕ) (x : X) → slice_get xs k ≡ Some x → Contains xs x
contains_at xs k x e = (k, slice_get_within xs k x e, get_or_from_slice_get xs k x x e)

module _ (g : Graph) where
  pub node_is : (i : ℕ) → i < length g.nodes.items → slice_get g.nodes.items i ≡ Some (node_at g i)
  node_is i l = slice_get-get_or g.nodes.items i Node.Empty l

  pub at_node : (i : ℕ) (n : Node) → slice_get g.nodes.items i ≡ Some n → node_at g i ≡ n
  at_node i n e = get_or_from_slice_get g.nodes.items i n Node.Empty e

  -- a node that is read
  pub node_read : (i : ℕ) (n : Node) → i < length g.nodes.items → n ≡ get_or g.nodes.items i n → slice_get g.nodes.items i ≡ Some n
  node_read i n l e = slice_get_read g.nodes.items (length g.nodes.items) i n refl l e

  module _ (c : IsClosed g) where
    definition_within : (d k j : ℕ) → slice_get (definition_at g d) k ≡ Some j → j < length g.nodes.items
    definition_within d k j e = go (slice_get g.definitions.items d) refl k e
      where
        go : (o : Option ℕ) → slice_get g.definitions.items d ≡ o → (k : ℕ) → slice_get (elim o as (λ o. List ℕ) [ None ↦ [] | Some i ↦ i ∷ [] ]) k ≡ Some j → j < length g.nodes.items
        go None f k h = absurd (cc)
        go (Some i) f zero h = c.definitions d j (f ∙ h)
        go (Some i) f (suc k) h = absurd (cc)

    part_within : (i : ℕ) (n : Node) (k j : ℕ) → slice_get g.nodes.items i ≡ Some n → slice_get (parts_of_node n) k ≡ Some j → j < length g.nodes.items
    part_within i n k j e h = c.parts i j n e (contains_at (parts_of_node n) k j h)

    pub steps_within : (contents : Bool) (i : ℕ) (n : Node) (k j : ℕ) → slice_get g.nodes.items i ≡ Some n → slice_get (steps_of g contents n) k ≡ Some j → j < length g.nodes.items
    steps_within true i (Node.Element n d j) zero m e h = subst (λ x. x < length g.nodes.items) (same_Some j m h) (c.contents i j n d e).0
    steps_within true i (Node.Element n d j) (suc k) m e h = absurd (cc)
    steps_within false i (Node.Element n d j) k m e h = absurd (cc)
    steps_within contents i (Node.Reference at d) k j e h = definition_within d k j h
    steps_within contents i (Node.Grammar d) k j e h = definition_within d k j h
    steps_within contents i n k j e h = part_within i n k j e h

    pub step_within : {contents : Bool} {i j : ℕ} → i < length g.nodes.items → Step g contents i j → j < length g.nodes.items
    step_within {contents = b} {i = i} {j = j} l (step k h) = steps_within b i (node_at g i) k j (node_is i l) h

    pub reached_within : {contents : Bool} {i j : ℕ} → i < length g.nodes.items → Reaches g contents i j → j < length g.nodes.items
    reached_within l here = l
    reached_within l (next r s) = step_within (reached_within l r) s
