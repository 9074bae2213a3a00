-- The form of one more node.
use Rattle.std.proofs.Common.{◌≡◌, ◌≢◌, ℕ, suc, ◌<◌, ◌⊎◌, inl, inr, true, false, List, [], ◌∷◌, map, length, Option, Some, None, slice_get, refl, sym, ◌∙◌, ap, subst, arith}
use Rattle.std.proofs.Math.ListN.{set, length-set}
use Rattle.std.proofs.lemmas.Option.{same_Some, slice_get_within, slice_get-get_or}
use Rattle.rng_model.specs.Patterns as simple
use Rattle.simple_form_laws.specs.Meaning.{Group, Choice, Interleave}
use Rattle.schema_graph.specs.Shown.{HasMembers, IsClosed, IsMany}
use Rattle.schema_graph.specs.declared.node.Node.{Node}
use Rattle.schema_graph.specs.declared.graph.Graph.{Graph}
use Rattle.pattern_intern.specs.Stored.{tree_at, count, Extends}
use Rattle.pattern_intern.specs.Schemas.{AreRefsBelow}
use Rattle.pattern_intern.specs.declared.id.PatternId.{PatternId}
use Rattle.pattern_forms.specs.Reaching.{definition_at, steps_of, leads_at, Reaches}
use Rattle.pattern_forms.specs.Formed.{Formed, AreFormed, none, more}
use Rattle.pattern_forms.specs.Formed as by
use Rattle.pattern_forms.specs.Outcomes.{HasForm, IsMade}
use Rattle.pattern_forms.specs.Making.{form_of, form_at, all_joined, made_of, first_of, IsInGraph, IsReady, AreMade, IsMaking, Leaves}
use Rattle.pattern_forms.specs.declared.making.Making.{Making}
use Rattle.pattern_forms.proofs.Lists.{get_set, get_set_other, same_or_not}
use Rattle.pattern_forms.proofs.Leading.{at_node}

module _ (g : Graph) where
  pub in_graph : IsClosed g → (i : ℕ) (n : Node) → slice_get g.nodes.items i ≡ Some n → IsInGraph g n
  in_graph c i (Node.Element n d j) e = (c.contents i j n d e).1
  in_graph c i (Node.Reference at d) e = c.leads i d (Node.Reference at d) e refl
  in_graph c i (Node.Grammar d) e = c.leads i d (Node.Grammar d) e refl
  in_graph c i n e = tt

  pub ready : (forms : List (Option PatternId)) (n : Node) → AreMade forms (steps_of g false n) → IsReady g forms n
  ready forms (Node.Attribute d j) h = h.each 0 j refl
  ready forms (Node.Group js) h = h
  ready forms (Node.Choice js) h = h
  ready forms (Node.Interleave js) h = h
  ready forms (Node.Optional j) h = h.each 0 j refl
  ready forms (Node.ZeroOrMore j) h = h.each 0 j refl
  ready forms (Node.OneOrMore j) h = h.each 0 j refl
  ready forms (Node.Mixed j) h = h.each 0 j refl
  ready forms (Node.Reference place d) h = h
  ready forms (Node.Grammar d) h = h
  ready forms (Node.DataType k (Some j)) h = h.each 0 j refl
  ready forms n h = tt

  module _ (forms : List (Option PatternId)) (at : ℕ → simple.Pattern) (known : (j : ℕ) → IsMade forms j → Formed g j (at j)) where
    are_formed : (js : List ℕ) → AreMade forms js → AreFormed g js (map at js)
    are_formed [] h = none
    are_formed (j ∷ js) h = more (known j (h.each 0 j refl)) (are_formed js (record { each = λ k i e. h.each (suc k) i e }))

    through_group : (i : ℕ) (js : List ℕ) → slice_get g.nodes.items i ≡ Some (Node.Group js) → js ≢ [] → AreMade forms js → Formed g i (all_joined Group (map at js))
    through_group i [] e m h = absurd (m refl)
    through_group i (j ∷ js) e m h = by.group e (are_formed (j ∷ js) h) refl

    through_choice : (i : ℕ) (js : List ℕ) → slice_get g.nodes.items i ≡ Some (Node.Choice js) → js ≢ [] → AreMade forms js → Formed g i (all_joined Choice (map at js))
    through_choice i [] e m h = absurd (m refl)
    through_choice i (j ∷ js) e m h = by.choice e (are_formed (j ∷ js) h) refl

    through_interleave : (i : ℕ) (js : List ℕ) → slice_get g.nodes.items i ≡ Some (Node.Interleave js) → js ≢ [] → AreMade forms js → Formed g i (all_joined Interleave (map at js))
    through_interleave i [] e m h = absurd (m refl)
    through_interleave i (j ∷ js) e m h = by.interleave e (are_formed (j ∷ js) h) refl

    through_definition : (i d : ℕ) → d < length g.definitions.items → ((j : ℕ) (r : simple.Pattern) → slice_get g.definitions.items d ≡ Some j → Formed g j r → Formed g i r) → AreMade forms (definition_at g d) → Formed g i (first_of at (definition_at g d))
    through_definition i d l f h = go (slice_get g.definitions.items d) refl h
      where
        go : (o : Option ℕ) → slice_get g.definitions.items d ≡ o → AreMade forms (elim o as (λ o. List ℕ) [ None ↦ [] | Some i ↦ i ∷ [] ]) → Formed g i (first_of at (elim o as (λ o. List ℕ) [ None ↦ [] | Some i ↦ i ∷ [] ]))
        go None e k = absurd (let n = slice_get-get_or g.definitions.items d 0 l in cc)
        go (Some j) e k = f j (at j) e (known j (k.each 0 j refl))

    pub forming : (i : ℕ) (n : Node) → slice_get g.nodes.items i ≡ Some n → IsInGraph g n → IsMany n → IsReady g forms n → Formed g i (made_of g at n)
    forming i (Node.Element n d j) e c m h = by.element e
    forming i (Node.Attribute d j) e c m h = by.attribute e (known j h) refl
    forming i (Node.Group js) e c m h = through_group i js e m h
    forming i (Node.Choice js) e c m h = through_choice i js e m h
    forming i (Node.Interleave js) e c m h = through_interleave i js e m h
    forming i (Node.Optional j) e c m h = by.optional e (known j h) refl
    forming i (Node.ZeroOrMore j) e c m h = by.zero_or_more e (known j h) refl
    forming i (Node.OneOrMore j) e c m h = by.one_or_more e (known j h) refl
    forming i (Node.Mixed j) e c m h = by.mixed e (known j h) refl
    forming i (Node.Reference place d) e c m h = through_definition i d c (λ j r f k. by.reference e f k) h
    forming i (Node.Grammar d) e c m h = through_definition i d c (λ j r f k. by.grammar e f k) h
    forming i Node.Empty e c m h = by.empty e
    forming i Node.AnyText e c m h = by.any_text e
    forming i Node.NotAllowed e c m h = by.not_allowed e
    forming i (Node.Value k t) e c m h = by.value e
    forming i (Node.DataType k None) e c m h = by.data_type e
    forming i (Node.DataType k (Some j)) e c m h = by.data_except e (known j h) refl

  known_form : (m : Making) → IsMaking g m → (j : ℕ) → IsMade m.forms.items j → Formed g j (form_at m.pool m.forms.items j)
  known_form m h j (id, e) = subst (λ p. Formed g j p) (sym (ap (form_of m.pool) e)) (h.formed j id e)

  pub leaving : (old new : Making) (i : ℕ) (n : Node) (id : PatternId) → IsClosed g → HasMembers g → IsMaking g old → AreMade old.forms.items (leads_at g i) → Reaches g true g.root i → slice_get g.nodes.items i ≡ Some n →
      new.forms.items ≡ set old.forms.items i (Some id) → new.entered.items ≡ old.entered.items → id.0 < count new.pool → tree_at new.pool id.0 ≡ made_of g (form_at old.pool old.forms.items) n → Extends old.pool new.pool →
      AreRefsBelow (length g.elements.items) new.pool → Leaves g i old new
  leaving old new i n id c w h r reach at forms entered within made kept refs = record {
    making = record {
      each = ap length forms ∙ length-set old.forms.items i (Some id) ∙ h.each;
      entries = ap length entered ∙ h.entries;
      within = record { each = λ j q e. below j q (look j q e) };
      formed = λ j q e. form j q (look j q e);
      closed = λ j q. close j (was j q);
      reached = λ j q. reached j (was j q);
      refs = refs;
    };
    made = here_made i refl;
    kept = keep;
    entered = entered;
  }
    where
      range : i < length old.forms.items
      range = let l = slice_get_within g.nodes.items i n at in let e = h.each in omega arith

      new_at : HasForm new.forms.items i id
      new_at = subst (λ xs. slice_get xs i ≡ Some (Some id)) (sym forms) (get_set old.forms.items i (Some id) range)

      here_made : (j : ℕ) → i ≡ j → IsMade new.forms.items j
      here_made j e = subst (λ x. IsMade new.forms.items x) e (id, new_at)

      other : (j : ℕ) → (i ≡ j → ⊥) → slice_get new.forms.items j ≡ slice_get old.forms.items j
      other j m = ap (λ xs. slice_get xs j) forms ∙ get_set_other old.forms.items i j (Some id) m

      keep : (j : ℕ) → IsMade old.forms.items j → IsMade new.forms.items j
      keep j q = go (same_or_not i j)
        where
          go : (i ≡ j) ⊎ (i ≡ j → ⊥) → IsMade new.forms.items j
          go (inl e) = here_made j e
          go (inr m) = (q.0, other j m ∙ q.1)

      look : (j : ℕ) (q : PatternId) → HasForm new.forms.items j q → ((i ≡ j) × (id ≡ q)) ⊎ HasForm old.forms.items j q
      look j q e = go (same_or_not i j)
        where
          go : (i ≡ j) ⊎ (i ≡ j → ⊥) → ((i ≡ j) × (id ≡ q)) ⊎ HasForm old.forms.items j q
          go (inl f) = inl (f, same_Some id q (same_Some (Some id) (Some q) (sym new_at ∙ subst (λ x. slice_get new.forms.items x ≡ Some (Some q)) (sym f) e)))
          go (inr m) = inr (sym (other j m) ∙ e)

      was : (j : ℕ) → IsMade new.forms.items j → (i ≡ j) ⊎ IsMade old.forms.items j
      was j (q, e) = go (look j q e)
        where
          go : ((i ≡ j) × (id ≡ q)) ⊎ HasForm old.forms.items j q → (i ≡ j) ⊎ IsMade old.forms.items j
          go (inl f) = inl f.0
          go (inr f) = inr (q, f)

      below : (j : ℕ) (q : PatternId) → ((i ≡ j) × (id ≡ q)) ⊎ HasForm old.forms.items j q → q.0 < count new.pool
      below j q (inl f) = subst (λ x. x.0 < count new.pool) f.1 within
      below j q (inr f) = let l = h.within.each j q f in let k = kept.longer in omega arith

      its_form : Formed g i (tree_at new.pool id.0)
      its_form = subst (λ p. Formed g i p) (sym made) (forming old.forms.items (form_at old.pool old.forms.items) (known_form old h) i n at (in_graph c i n at) (w.each i n at) (ready old.forms.items n (subst (λ x. AreMade old.forms.items (steps_of g false x)) (at_node g i n at) r)))

      form : (j : ℕ) (q : PatternId) → ((i ≡ j) × (id ≡ q)) ⊎ HasForm old.forms.items j q → Formed g j (tree_at new.pool q.0)
      form j q (inl f) = subst (λ x. Formed g x (tree_at new.pool q.0)) f.0 (subst (λ x. Formed g i (tree_at new.pool x.0)) f.1 its_form)
      form j q (inr f) = subst (λ p. Formed g j p) (sym (kept.kept q.0 (h.within.each j q f))) (h.formed j q f)

      all_kept : (js : List ℕ) → AreMade old.forms.items js → AreMade new.forms.items js
      all_kept js f = record { each = λ k j e. keep j (f.each k j e) }

      close : (j : ℕ) → (i ≡ j) ⊎ IsMade old.forms.items j → AreMade new.forms.items (leads_at g j)
      close j (inl e) = subst (λ x. AreMade new.forms.items (leads_at g x)) e (all_kept (leads_at g i) r)
      close j (inr q) = all_kept (leads_at g j) (h.closed j q)

      reached : (j : ℕ) → (i ≡ j) ⊎ IsMade old.forms.items j → Reaches g true g.root j
      reached j (inl e) = subst (λ x. Reaches g true g.root x) e reach
      reached j (inr q) = h.reached j q
