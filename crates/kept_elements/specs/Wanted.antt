-- What a schema keeps: the form of the whole, the forms of the contents of elements that stand in what is kept, and all parts of these.
use Rattle.std.specs.Prelude.{◌≡◌, ℕ, ◌<◌, ◌⊎◌, List, Option, Some, slice_get, ⊤}
use Rattle.rng_model.specs.Patterns.{Pattern, ref, data_except, attribute, one_or_more, choice, group, interleave, after}
use Rattle.rng_model.specs.Constructors.{choice_of, group_of, interleave_of, one_or_more_of, attribute_of, data_of}
use Rattle.name_classes.specs.declared.class.NameClass.{NameClass}
use Rattle.schema_graph.specs.declared.node.Node.{Node}
use Rattle.schema_graph.specs.declared.graph.Graph.{Graph}
use Rattle.pattern_intern.specs.Stored.{Stored, count, tree_at}
use Rattle.pattern_intern.specs.declared.id.PatternId.{PatternId}
use Rattle.pattern_forms.specs.Outcomes.{HasForm, IsMade}

-- one pattern is a part of another
abbrev pub IsPartOf : Pattern → Pattern → Type 0
IsPartOf p (data_except k e) = p ≡ e
IsPartOf p (attribute c q) = p ≡ q
IsPartOf p (one_or_more q) = p ≡ q
IsPartOf p (choice q r) = (p ≡ q) ⊎ (p ≡ r)
IsPartOf p (group q r) = (p ≡ q) ⊎ (p ≡ r)
IsPartOf p (interleave q r) = (p ≡ q) ⊎ (p ≡ r)
IsPartOf p (after q r) = (p ≡ q) ⊎ (p ≡ r)
IsPartOf p q = ⊥

-- each part of the pattern is what the constructors make of its own parts, and no After stands in it
abbrev pub IsWhole : Pattern → Type 0
IsWhole (data_except k e) = IsWhole e × (data_of k e ≡ data_except k e)
IsWhole (attribute c p) = IsWhole p × (attribute_of c p ≡ attribute c p)
IsWhole (one_or_more p) = IsWhole p × (one_or_more_of p ≡ one_or_more p)
IsWhole (choice p q) = IsWhole p × IsWhole q × (choice_of p q ≡ choice p q)
IsWhole (group p q) = IsWhole p × IsWhole q × (group_of p q ≡ group p q)
IsWhole (interleave p q) = IsWhole p × IsWhole q × (interleave_of p q ≡ interleave p q)
IsWhole (after p q) = ⊥
IsWhole p = ⊤

-- the element of number n has this class, and its content this form
pub record HasContent (g : Graph) (forms : List (Option PatternId)) (n : ℕ) (d : NameClass) (id : PatternId) : Type 0 where
  pub node : ℕ
  pub number : ℕ
  pub content : ℕ
  pub at : slice_get g.elements.items n ≡ Some node
  pub is : slice_get g.nodes.items node ≡ Some (Node.Element number d content)
  pub form : HasForm forms content id

pub data IsWanted (g : Graph) (pool : Stored) (forms : List (Option PatternId)) : Pattern → Type 0 where
  from_root : {id : PatternId} {p : Pattern} → HasForm forms g.root id → p ≡ tree_at pool id.0 → IsWanted g pool forms p
  from_part : {p q : Pattern} → IsWanted g pool forms q → IsPartOf p q → IsWanted g pool forms p
  from_content : {n : ℕ} {d : NameClass} {id : PatternId} {p : Pattern} →
      IsWanted g pool forms (ref n) → HasContent g forms n d id → p ≡ tree_at pool id.0 → IsWanted g pool forms p

-- all that is wanted is there
pub record IsReady (g : Graph) (pool : Stored) (forms : List (Option PatternId)) : Type 0 where
  pub root : IsMade forms g.root
  pub contents : (n : ℕ) → IsWanted g pool forms (ref n) → (d : NameClass) × (id : PatternId) × HasContent g forms n d id
  pub whole : (p : Pattern) → IsWanted g pool forms p → IsWhole p
  pub within : (i : ℕ) (id : PatternId) → HasForm forms i id → id.0 < count pool
