-- What holds once all forms are made.
use Rattle.std.proofs.Common.{◌≡◌, ℕ, true, List, [], ◌∷◌, length, Option, Some, None, slice_get, refl, sym, subst}
use Rattle.std.proofs.lemmas.Option.{slice_get_read}
use Rattle.rng_model.specs.Patterns as simple
use Rattle.rng_model.specs.Patterns.{HasNoAfter}
use Rattle.rng_model.specs.Constructors.{one_or_more_of}
use Rattle.derivative_laws.proofs.ChoiceLaw.{choice_of-all}
use Rattle.simple_form_laws.specs.Meaning.{Connective, Group, Choice, Interleave, connect}
use Rattle.simple_form_laws.proofs.Wellformed.{after_all, no_after_interleave, no_after_more, no_after_attribute, no_after_data, no_after_joined}
use Rattle.name_classes.specs.Views.{class_of}
use Rattle.text_atoms.specs.Kinds.{kind_of}
use Rattle.schema_graph.specs.Shown.{parts_of_node, definition_of}
use Rattle.schema_graph.specs.declared.node.Node.{Node}
use Rattle.schema_graph.specs.declared.graph.Graph.{Graph}
use Rattle.pattern_forms.specs.Reaching.{steps_of, steps_at, here, next, step}
use Rattle.pattern_forms.specs.Formed.{Formed, AreFormed, none, more, joined}
use Rattle.pattern_forms.specs.Formed as by
use Rattle.pattern_forms.specs.Outcomes.{AreForms, AreReached}
use Rattle.pattern_forms.specs.Making.{AllMade}
use Rattle.pattern_forms.specs.declared.making.Making.{Making}
use Rattle.pattern_forms.proofs.Leading.{at_node}
use Rattle.pattern_forms.proofs.Meanings.{form_means}

module _ (g : Graph) where
  mutual
    no_after : {i : ℕ} {r : simple.Pattern} → Formed g i r → HasNoAfter r
    no_after (by.element e) = tt
    no_after (by.attribute {d = d} {q = q} e h f) = subst HasNoAfter (sym f) (no_after_attribute (class_of d) q (no_after h))
    no_after (by.group {q = q} {qs = qs} e (more h hs) f) = subst HasNoAfter (sym f) (no_after_all Group q (no_after h) hs)
    no_after (by.choice {q = q} {qs = qs} e (more h hs) f) = subst HasNoAfter (sym f) (no_after_all Choice q (no_after h) hs)
    no_after (by.interleave {q = q} {qs = qs} e (more h hs) f) = subst HasNoAfter (sym f) (no_after_all Interleave q (no_after h) hs)
    no_after (by.optional {q = q} e h f) = subst HasNoAfter (sym f) (choice_of-all HasNoAfter after_all q simple.empty (no_after h) tt)
    no_after (by.zero_or_more {q = q} e h f) =
        subst HasNoAfter (sym f) (choice_of-all HasNoAfter after_all (one_or_more_of q) simple.empty (no_after_more q (no_after h)) tt)
    no_after (by.one_or_more {q = q} e h f) = subst HasNoAfter (sym f) (no_after_more q (no_after h))
    no_after (by.mixed {q = q} e h f) = subst HasNoAfter (sym f) (no_after_interleave q simple.text (no_after h) tt)
    no_after (by.reference e f h) = no_after h
    no_after (by.grammar e f h) = no_after h
    no_after (by.empty e) = tt
    no_after (by.any_text e) = tt
    no_after (by.not_allowed e) = tt
    no_after (by.value e) = tt
    no_after (by.data_type e) = tt
    no_after (by.data_except {k = k} {q = q} e h f) = subst HasNoAfter (sym f) (no_after_data (kind_of k) q (no_after h))

    no_after_all : (c : Connective) (b : simple.Pattern) {js : List ℕ} {qs : List simple.Pattern} → HasNoAfter b → AreFormed g js qs → HasNoAfter (joined c b qs)
    no_after_all c b n none = n
    no_after_all c b n (more {q = q} h hs) = no_after_all c (connect c b q) (no_after_joined c b q n (no_after h)) hs

  pub are_forms : (m : Making) → AllMade g m → AreForms g m.pool m.forms.items
  are_forms m a = record {
    within = a.making.within.each;
    means = λ f h i id e s p w. form_means f.files g h.keys h.combined (a.making.formed i id e) s p w;
    no_after = λ i id e. no_after (a.making.formed i id e);
  }

  part_step : (n : Node) (k j : ℕ) → slice_get (parts_of_node n) k ≡ Some j → slice_get (steps_of g true n) k ≡ Some j
  part_step (Node.Element n d c) k j e = absurd (cc)
  part_step (Node.Attribute d c) k j e = e
  part_step (Node.Group js) k j e = e
  part_step (Node.Choice js) k j e = e
  part_step (Node.Interleave js) k j e = e
  part_step (Node.Optional c) k j e = e
  part_step (Node.ZeroOrMore c) k j e = e
  part_step (Node.OneOrMore c) k j e = e
  part_step (Node.Mixed c) k j e = e
  part_step (Node.Reference at d) k j e = absurd (cc)
  part_step (Node.Grammar d) k j e = absurd (cc)
  part_step Node.Empty k j e = absurd (cc)
  part_step Node.AnyText k j e = absurd (cc)
  part_step Node.NotAllowed k j e = absurd (cc)
  part_step (Node.Value c t) k j e = absurd (cc)
  part_step (Node.DataType c None) k j e = absurd (cc)
  part_step (Node.DataType c (Some x)) k j e = e

  in_list : (o : Option ℕ) (j : ℕ) → o ≡ Some j → slice_get (elim o as (λ o. List ℕ) [ None ↦ [] | Some i ↦ i ∷ [] ]) 0 ≡ Some j
  in_list None j e = absurd (cc)
  in_list (Some i) j e = e

  definition_step : (n : Node) (d j : ℕ) → definition_of n ≡ Some d → slice_get g.definitions.items d ≡ Some j → slice_get (steps_of g true n) 0 ≡ Some j
  definition_step (Node.Element n c x) d j e f = absurd (cc)
  definition_step (Node.Attribute c x) d j e f = absurd (cc)
  definition_step (Node.Group js) d j e f = absurd (cc)
  definition_step (Node.Choice js) d j e f = absurd (cc)
  definition_step (Node.Interleave js) d j e f = absurd (cc)
  definition_step (Node.Optional c) d j e f = absurd (cc)
  definition_step (Node.ZeroOrMore c) d j e f = absurd (cc)
  definition_step (Node.OneOrMore c) d j e f = absurd (cc)
  definition_step (Node.Mixed c) d j e f = absurd (cc)
  definition_step (Node.Reference at c) d j e f = let same : c ≡ d = (cc) in in_list (slice_get g.definitions.items c) j (subst (λ x. slice_get g.definitions.items x ≡ Some j) (sym same) f)
  definition_step (Node.Grammar c) d j e f = let same : c ≡ d = (cc) in in_list (slice_get g.definitions.items c) j (subst (λ x. slice_get g.definitions.items x ≡ Some j) (sym same) f)
  definition_step Node.Empty d j e f = absurd (cc)
  definition_step Node.AnyText d j e f = absurd (cc)
  definition_step Node.NotAllowed d j e f = absurd (cc)
  definition_step (Node.Value c t) d j e f = absurd (cc)
  definition_step (Node.DataType c None) d j e f = absurd (cc)
  definition_step (Node.DataType c (Some x)) d j e f = absurd (cc)

  at_its_step : (i : ℕ) (n : Node) (k j : ℕ) → slice_get g.nodes.items i ≡ Some n → slice_get (steps_of g true n) k ≡ Some j → slice_get (steps_at g true i) k ≡ Some j
  at_its_step i n k j e f = subst (λ x. slice_get (steps_of g true x) k ≡ Some j) (sym (at_node g i n e)) f

  pub are_reached : (m : Making) → AllMade g m → AreReached g m.forms.items
  are_reached m a = record {
    root = a.made g.root here;
    parts = λ i j n q e c. a.made j (next (a.making.reached i q) (step c.0 (at_its_step i n c.0 j e (part_step n c.0 j (slice_get_read (parts_of_node n) (length (parts_of_node n)) c.0 j refl c.1 (sym c.2))))));
    definitions = λ i d j n q e f h. a.made j (next (a.making.reached i q) (step 0 (at_its_step i n 0 j e (definition_step n d j f h))));
    contents = λ i j n d q e. a.made j (next (a.making.reached i q) (step 0 (at_its_step i (Node.Element n d j) 0 j e refl)));
  }
