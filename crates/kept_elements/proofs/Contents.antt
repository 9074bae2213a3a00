-- An element has one class, and one form of its content.
use Rattle.std.proofs.Common.{◌≡◌, ℕ, List, Option, Some, slice_get, sym, ◌∙◌, subst}
use Rattle.name_classes.specs.declared.class.NameClass.{NameClass}
use Rattle.schema_graph.specs.declared.node.Node.{Node}
use Rattle.schema_graph.specs.declared.graph.Graph.{Graph}
use Rattle.pattern_intern.specs.declared.id.PatternId.{PatternId}
use Rattle.kept_elements.specs.Wanted.{HasContent}

pub same_content : (g : Graph) (forms : List (Option PatternId)) (n : ℕ) (d e : NameClass) (a b : PatternId) → HasContent g forms n d a → HasContent g forms n e b → (d ≡ e) × (a ≡ b)
same_content g forms n d e a b h k = (class nodes, form nodes)
  where
    places : h.node ≡ k.node
    places = let f : Some h.node ≡ Some k.node = sym h.at ∙ k.at in cc

    nodes : Node.Element h.number d h.content ≡ Node.Element k.number e k.content
    nodes = let f : Some (Node.Element h.number d h.content) ≡ Some (Node.Element k.number e k.content) = sym h.is ∙ subst (λ x. slice_get g.nodes.items x ≡ Some (Node.Element k.number e k.content)) (sym places) k.is in cc

    class : Node.Element h.number d h.content ≡ Node.Element k.number e k.content → d ≡ e
    class f = cc

    contents : Node.Element h.number d h.content ≡ Node.Element k.number e k.content → h.content ≡ k.content
    contents f = cc

    form : Node.Element h.number d h.content ≡ Node.Element k.number e k.content → a ≡ b
    form f = let q : Some (Some a) ≡ Some (Some b) = sym h.form ∙ subst (λ x. slice_get forms x ≡ Some (Some b)) (sym (contents f)) k.form in cc
