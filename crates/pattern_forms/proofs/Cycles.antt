-- Ways through the graph, and round it.
use Rattle.std.proofs.Common.{◌≡◌, ℕ, zero, suc, ◌<◌, ◌⊎◌, inl, inr, Bool, true, false, List, [], ◌∷◌, Option, Some, None, length, slice_get, get_or, refl, sym, ◌∙◌, ap, ◌↔◌, subst, arith}
use Rattle.std.proofs.lemmas.Option.{same_Some, slice_get-get_or}
use Rattle.schema_graph.specs.declared.node.Node.{Node}
use Rattle.schema_graph.specs.declared.graph.Graph.{Graph}
use Rattle.pattern_forms.specs.Reaching.{steps_of, steps_at, node_at, Step, step, Reaches, here, next, IsCycle}
use Rattle.pattern_forms.specs.Searching.{AreReachedMarked}
use Rattle.pattern_forms.proofs.Leading.{at_node}
use Rattle.schema_graph.specs.Shown.{IsClosed}

module _ (g : Graph) where
  pub then_reach : {b : Bool} {i j k : ℕ} → Reaches g b i j → Reaches g b j k → Reaches g b i k
  then_reach r here = r
  then_reach r (next s p) = next (then_reach r s) p

  pub from_step : {b : Bool} {i j k : ℕ} → Step g b i j → Reaches g b j k → Reaches g b i k
  from_step p r = then_reach (next here p) r

  definition_step : (n : Node) (i j : ℕ) → node_at g i ≡ n → (k : ℕ) → slice_get (steps_of g false n) k ≡ Some j → slice_get (steps_of g true n) k ≡ Some j
  definition_step (Node.Element n d c) i j e k h = absurd (cc)
  definition_step (Node.Attribute d c) i j e k h = h
  definition_step (Node.Group js) i j e k h = h
  definition_step (Node.Choice js) i j e k h = h
  definition_step (Node.Interleave js) i j e k h = h
  definition_step (Node.Optional c) i j e k h = h
  definition_step (Node.ZeroOrMore c) i j e k h = h
  definition_step (Node.OneOrMore c) i j e k h = h
  definition_step (Node.Mixed c) i j e k h = h
  definition_step (Node.Reference at d) i j e k h = h
  definition_step (Node.Grammar d) i j e k h = h
  definition_step Node.Empty i j e k h = h
  definition_step Node.AnyText i j e k h = h
  definition_step Node.NotAllowed i j e k h = h
  definition_step (Node.Value c t) i j e k h = h
  definition_step (Node.DataType c None) i j e k h = h
  definition_step (Node.DataType c (Some x)) i j e k h = h

  -- what is led to is reached
  pub step_deep : {i j : ℕ} → Step g false i j → Step g true i j
  step_deep {i = i} {j = j} (step k h) = step k (definition_step (node_at g i) i j refl k h)

  pub reaches_deep : {i j : ℕ} → Reaches g false i j → Reaches g true i j
  reaches_deep here = here
  reaches_deep (next r p) = next (reaches_deep r) (step_deep p)

  -- a node whose only step leads to one that leads back
  pub cycle_by : (i e : ℕ) → Step g false i e → Reaches g false e i → IsCycle g i
  cycle_by i e p here = record { last = e; there = here; back = p }
  cycle_by i e p (next {j = j} r q) = record { last = j; there = from_step p r; back = q }

  module _ (i e : ℕ) (only : (k j : ℕ) → slice_get (steps_at g false i) k ≡ Some j → j ≡ e) where
    same_step : {j : ℕ} → Step g false i j → j ≡ e
    same_step {j = j} (step k h) = only k j h

    away : {j : ℕ} → Reaches g false i j → (i ≡ j) ⊎ Reaches g false e j
    away here = inl refl
    away (next {j = m} {k = n} r p) = go (away r)
      where
        go : (i ≡ m) ⊎ Reaches g false e m → (i ≡ n) ⊎ Reaches g false e n
        go (inl f) = inr (subst (λ x. Reaches g false e x) (sym (same_step (subst (λ x. Step g false x n) (sym f) p))) here)
        go (inr s) = inr (next s p)

    pub round : IsCycle g i → Reaches g false e i
    round c = go (away c.there)
      where
        go : (i ≡ c.last) ⊎ Reaches g false e c.last → Reaches g false e i
        go (inl f) = subst (λ x. Reaches g false e x) (sym (same_step (subst (λ x. Step g false x i) (sym f) c.back))) here
        go (inr s) = next s c.back

  -- a reference has one step
  one_definition : (o : Option ℕ) (k l i j : ℕ) → slice_get (elim o as (λ o. List ℕ) [ None ↦ [] | Some i ↦ i ∷ [] ]) k ≡ Some i → slice_get (elim o as (λ o. List ℕ) [ None ↦ [] | Some i ↦ i ∷ [] ]) l ≡ Some j → i ≡ j
  one_definition None k l i j e f = absurd (cc)
  one_definition (Some x) zero zero i j e f = same_Some i j (sym e ∙ f)
  one_definition (Some x) zero (suc l) i j e f = absurd (cc)
  one_definition (Some x) (suc k) l i j e f = absurd (cc)

  pub one_step : (i at d : ℕ) → slice_get g.nodes.items i ≡ Some (Node.Reference at d) → (k l j e : ℕ) → slice_get (steps_at g false i) k ≡ Some j → slice_get (steps_at g false i) l ≡ Some e → j ≡ e
  one_step i at d n k l j e h f =
      one_definition (slice_get g.definitions.items d) k l j e (subst (λ x. slice_get (steps_of g false x) k ≡ Some j) (at_node g i (Node.Reference at d) n) h)
      (subst (λ x. slice_get (steps_of g false x) l ≡ Some e) (at_node g i (Node.Reference at d) n) f)

  pub steps_reference : (i at d e : ℕ) → slice_get g.nodes.items i ≡ Some (Node.Reference at d) → slice_get g.definitions.items d ≡ Some e → steps_at g false i ≡ e ∷ []
  steps_reference i at d e n f =
      subst (λ x. steps_of g false x ≡ e ∷ []) (sym (at_node g i (Node.Reference at d) n)) (ap (λ o. elim o as (λ o. List ℕ) [ None ↦ [] | Some i ↦ i ∷ [] ]) f)

  module _ (c : IsClosed g) where
    pub its_definition : (i at d : ℕ) → slice_get g.nodes.items i ≡ Some (Node.Reference at d) → (e : ℕ) × (slice_get g.definitions.items d ≡ Some e)
    its_definition i at d n = (get_or g.definitions.items d 0, slice_get-get_or g.definitions.items d 0 (c.leads i d (Node.Reference at d) n refl))

    pub has_step : (i : ℕ) → (at : ℕ) × (d : ℕ) × (slice_get g.nodes.items i ≡ Some (Node.Reference at d)) → 0 < length (steps_at g false i)
    has_step i (at, d, n) = let e = its_definition i at d n in subst (λ xs. 0 < length xs) (sym (steps_reference i at d e.0 n e.1)) (omega arith)

    -- what a search from the definition of a reference says
    pub finds_cycle : (i e k : ℕ) (marks : List Bool) → (at : ℕ) × (d : ℕ) × (slice_get g.nodes.items i ≡ Some (Node.Reference at d)) → slice_get (steps_at g false i) k ≡ Some e → AreReachedMarked g false e marks → (slice_get marks i ≡ Some true) ↔ IsCycle g i
    finds_cycle i e k marks (at, d, n) h m = ((λ t. cycle_by i e (step k h) (m.sound i t)), (λ t. m.complete i (round i e (λ l j f. one_step i at d n l k j e f h) t)))
