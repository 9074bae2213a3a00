-- What a node shows has the node's form as its simple form.
use Rattle.std.proofs.Common.{◌≡◌, ℕ, ◌⊎◌, inl, inr, List, [], ◌∷◌, Option, Some, None, slice_get, refl, sym, ◌∙◌, subst}
use Rattle.std.proofs.lemmas.Option.{same_Some}
use Rattle.rng_model.specs.Texts.{Text}
use Rattle.rng_model.specs.Patterns as simple
use Rattle.grammar_laws.specs.Trees.{Class, TypeName, Pattern, Patterns, no_pattern, more_patterns, Items}
use Rattle.grammar_laws.specs.Trees as full
use Rattle.grammar_laws.specs.Files.{SchemaFile}
use Rattle.text_atoms.specs.Kinds.{kind_of}
use Rattle.name_classes.specs.Views.{class_of}
use Rattle.simple_form_laws.specs.Prefixes as kinds
use Rattle.simple_form_laws.specs.ClassForms.{OfElement, OfAttribute}
use Rattle.simple_form_laws.specs.ClassForms as classes
use Rattle.simple_form_laws.specs.Parts.{Scope, defined}
use Rattle.simple_form_laws.specs.Meaning.{Means, Connected, Behind, Connective, Group, Choice, Interleave, connect, first, ends, next}
use Rattle.simple_form_laws.specs.Meaning as means
use Rattle.schema_graph.specs.Shown.{Key, key, IsKind, untyped, typed, Shows, ShowEach, none, more, AreCombined}
use Rattle.schema_graph.specs.Shown as by
use Rattle.schema_graph.specs.declared.node.Node.{Node}
use Rattle.schema_graph.specs.declared.graph.Graph.{Graph}
use Rattle.text_atoms.specs.declared.kind.Kind.{Kind}
use Rattle.pattern_forms.specs.Formed.{Formed, AreFormed, joined}
use Rattle.pattern_forms.specs.Formed as form

module _ (fs : List SchemaFile) (nodes : List Node) (keys : List Key) where
  -- what a node shows, by what it is
  abbrev pub Showing : Node → Scope → Pattern → Type 0
  Showing (Node.Element n d j) s p = (c : Class) × (q : Pattern) × (classes.class_of fs OfElement c ≡ Some (class_of d)) × Shows fs nodes keys j s q × (p ≡ full.element c q n)
  Showing (Node.Attribute d j) s p =
      (c : Class) × (q : Pattern) × (at : ℕ) × (classes.class_of fs OfAttribute c ≡ Some (class_of d)) × Shows fs nodes keys j s q × (p ≡ full.attribute c q at)
  Showing (Node.Group js) s p = (ps : Patterns) × ShowEach fs nodes keys js s ps × (p ≡ full.group ps)
  Showing (Node.Choice js) s p = (ps : Patterns) × ShowEach fs nodes keys js s ps × (p ≡ full.choice ps)
  Showing (Node.Interleave js) s p = (ps : Patterns) × ShowEach fs nodes keys js s ps × (p ≡ full.interleave ps)
  Showing (Node.Optional j) s p = (q : Pattern) × Shows fs nodes keys j s q × (p ≡ full.optional q)
  Showing (Node.ZeroOrMore j) s p = (q : Pattern) × Shows fs nodes keys j s q × (p ≡ full.zero_or_more q)
  Showing (Node.OneOrMore j) s p = (q : Pattern) × Shows fs nodes keys j s q × (p ≡ full.one_or_more q)
  Showing (Node.Mixed j) s p = (q : Pattern) × Shows fs nodes keys j s q × (p ≡ full.mixed q)
  Showing (Node.Reference at d) s p =
      (t : Scope) × (is : Items) × (name : Text) × (slice_get keys d ≡ Some (key t is (Some name)))
      × (((s ≡ is ∷ t) × (p ≡ full.ref name at)) ⊎ ((inner : Items) × (s ≡ inner ∷ is ∷ t) × (p ≡ full.parent name at)))
  Showing (Node.Grammar d) s p = (is : Items) × (slice_get keys d ≡ Some (key s is None)) × (p ≡ full.grammar is)
  Showing Node.Empty s p = p ≡ full.empty
  Showing Node.AnyText s p = p ≡ full.any_text
  Showing Node.NotAllowed s p = p ≡ full.not_allowed
  Showing (Node.Value k t) s p = (of : Option TypeName) × IsKind fs nodes keys of k × (p ≡ full.value of t)
  Showing (Node.DataType k None) s p = (of : TypeName) × (kinds.kind_of fs of ≡ Some (kind_of k)) × (p ≡ full.data_type of [])
  Showing (Node.DataType k (Some j)) s p = (of : TypeName) × (q : Pattern) × (kinds.kind_of fs of ≡ Some (kind_of k)) × Shows fs nodes keys j s q × (p ≡ full.data_except of [] q)

  is_it : (i : ℕ) (s : Scope) (p : Pattern) (m n : Node) → slice_get nodes i ≡ Some m → slice_get nodes i ≡ Some n → Showing m s p → Showing n s p
  is_it i s p m n e f h = subst (λ x. Showing x s p) (same_Some m n (sym e ∙ f)) h

  pub showing : {i : ℕ} {s : Scope} {p : Pattern} (n : Node) → slice_get nodes i ≡ Some n → Shows fs nodes keys i s p → Showing n s p
  showing {s = s} {p = p} n f (by.element e c h) = is_it _ s p _ n e f (_, _, c, h, refl)
  showing {s = s} {p = p} n f (by.attribute e c h) = is_it _ s p _ n e f (_, _, _, c, h, refl)
  showing {s = s} {p = p} n f (by.group e h) = is_it _ s p _ n e f (_, h, refl)
  showing {s = s} {p = p} n f (by.choice e h) = is_it _ s p _ n e f (_, h, refl)
  showing {s = s} {p = p} n f (by.interleave e h) = is_it _ s p _ n e f (_, h, refl)
  showing {s = s} {p = p} n f (by.optional e h) = is_it _ s p _ n e f (_, h, refl)
  showing {s = s} {p = p} n f (by.zero_or_more e h) = is_it _ s p _ n e f (_, h, refl)
  showing {s = s} {p = p} n f (by.one_or_more e h) = is_it _ s p _ n e f (_, h, refl)
  showing {s = s} {p = p} n f (by.mixed e h) = is_it _ s p _ n e f (_, h, refl)
  showing {p = p} n f (by.ref {s = t} {is = is} {name = name} e k) = is_it _ (is ∷ t) p _ n e f (t, is, name, k, inl (refl, refl))
  showing {p = p} n f (by.parent {s = t} {inner = inner} {is = is} {name = name} e k) = is_it _ (inner ∷ is ∷ t) p _ n e f (t, is, name, k, inr (inner, refl, refl))
  showing {s = s} {p = p} n f (by.grammar e k) = is_it _ s p _ n e f (_, k, refl)
  showing {s = s} {p = p} n f (by.empty e) = is_it _ s p _ n e f refl
  showing {s = s} {p = p} n f (by.any_text e) = is_it _ s p _ n e f refl
  showing {s = s} {p = p} n f (by.not_allowed e) = is_it _ s p _ n e f refl
  showing {s = s} {p = p} n f (by.value e k) = is_it _ s p _ n e f (_, k, refl)
  showing {s = s} {p = p} n f (by.data_type e k) = is_it _ s p _ n e f (_, k, refl)
  showing {s = s} {p = p} n f (by.data_except e k h) = is_it _ s p _ n e f (_, _, k, h, refl)

  abbrev pub EachShown : List ℕ → Scope → Patterns → Type 0
  EachShown [] s ps = ps ≡ no_pattern
  EachShown (j ∷ js) s ps = (p : Pattern) × (qs : Patterns) × Shows fs nodes keys j s p × ShowEach fs nodes keys js s qs × (ps ≡ more_patterns p qs)

  pub each_shown : {js : List ℕ} {s : Scope} {ps : Patterns} → ShowEach fs nodes keys js s ps → EachShown js s ps
  each_shown none = refl
  each_shown (more h hs) = (_, _, h, hs, refl)

module _ (fs : List SchemaFile) (g : Graph) (keys : List Key) (combined : AreCombined fs g.nodes.items keys g.definitions.items) where
  value_means : {s : Scope} (of : Option TypeName) (k : Kind) (t : Text) → IsKind fs g.nodes.items keys of k → Means fs s (full.value of t) (simple.value (kind_of k) t)
  value_means of k t untyped = means.value
  value_means of k t (typed e) = means.typed_value e

  -- the combined definition of a key
  its_node : (d j : ℕ) (k : Key) → slice_get keys d ≡ Some k → slice_get g.definitions.items d ≡ Some j → Shows fs g.nodes.items keys j (k.items ∷ k.scope) (defined k.name k.items)
  its_node d j k e f =
      let c = combined d k e in subst (λ i. Shows fs g.nodes.items keys i (k.items ∷ k.scope) (defined k.name k.items)) (same_Some c.0 j (sym c.1 ∙ f)) c.2

  referred : {r : simple.Pattern} (at : ℕ) (t : Scope) (is : Items) (name : Text) (s : Scope) (p : Pattern) → Means fs (is ∷ t) (defined (Some name) is) r →
      ((s ≡ is ∷ t) × (p ≡ full.ref name at)) ⊎ ((inner : Items) × (s ≡ inner ∷ is ∷ t) × (p ≡ full.parent name at)) → Means fs s p r
  referred {r} at t is name s p m (inl (e, f)) = subst (λ z. Means fs z p r) (sym e) (subst (λ z. Means fs (is ∷ t) z r) (sym f) (means.ref m))
  referred {r} at t is name s p m (inr (inner, e, f)) = subst (λ z. Means fs z p r) (sym e) (subst (λ z. Means fs (inner ∷ is ∷ t) z r) (sym f) (means.parent m))

  mutual
    pub form_means : {i : ℕ} {r : simple.Pattern} → Formed g i r → (s : Scope) (p : Pattern) → Shows fs g.nodes.items keys i s p → Means fs s p r
    form_means {r = r} (form.element {j = j} {n = n} {d = d} e) s p h =
        let w = showing fs g.nodes.items keys (Node.Element n d j) e h in subst (λ z. Means fs s z r) (sym w.4) (means.element)
    form_means {r = r} (form.attribute {j = j} {d = d} e q f) s p h =
        let w = showing fs g.nodes.items keys (Node.Attribute d j) e h in subst (λ z. Means fs s z r) (sym w.5) (means.attribute w.3 (form_means q s w.1 w.4) f)
    form_means {r = r} (form.group {j = j} {js = js} {q = q} {qs = qs} e a f) s p h =
        let w = showing fs g.nodes.items keys (Node.Group (j ∷ js)) e h in
        subst (λ z. Means fs s p z) (sym f) (subst (λ z. Means fs s z (joined Group q qs)) (sym w.2) (means.group (connected Group a s w.0 (each_shown fs g.nodes.items keys w.1))))
    form_means {r = r} (form.choice {j = j} {js = js} {q = q} {qs = qs} e a f) s p h =
        let w = showing fs g.nodes.items keys (Node.Choice (j ∷ js)) e h in
        subst (λ z. Means fs s p z) (sym f) (subst (λ z. Means fs s z (joined Choice q qs)) (sym w.2) (means.choice (connected Choice a s w.0 (each_shown fs g.nodes.items keys w.1))))
    form_means {r = r} (form.interleave {j = j} {js = js} {q = q} {qs = qs} e a f) s p h =
        let w = showing fs g.nodes.items keys (Node.Interleave (j ∷ js)) e h in
        subst (λ z. Means fs s p z) (sym f) (subst (λ z. Means fs s z (joined Interleave q qs)) (sym w.2) (means.interleave (connected Interleave a s w.0 (each_shown fs g.nodes.items keys w.1))))
    form_means {r = r} (form.optional {j = j} e q f) s p h =
        let w = showing fs g.nodes.items keys (Node.Optional j) e h in subst (λ z. Means fs s z r) (sym w.2) (means.optional (form_means q s w.0 w.1) f)
    form_means {r = r} (form.zero_or_more {j = j} e q f) s p h =
        let w = showing fs g.nodes.items keys (Node.ZeroOrMore j) e h in subst (λ z. Means fs s z r) (sym w.2) (means.zero_or_more (form_means q s w.0 w.1) f)
    form_means {r = r} (form.one_or_more {j = j} e q f) s p h =
        let w = showing fs g.nodes.items keys (Node.OneOrMore j) e h in subst (λ z. Means fs s z r) (sym w.2) (means.one_or_more (form_means q s w.0 w.1) f)
    form_means {r = r} (form.mixed {j = j} e q f) s p h =
        let w = showing fs g.nodes.items keys (Node.Mixed j) e h in subst (λ z. Means fs s z r) (sym w.2) (means.mixed (form_means q s w.0 w.1) f)
    form_means {r = r} (form.reference {j = j} {at = at} {d = d} e f q) s p h =
        let w = showing fs g.nodes.items keys (Node.Reference at d) e h in
        referred at w.0 w.1 w.2 s p (form_means q (w.1 ∷ w.0) (defined (Some w.2) w.1) (its_node d j (key w.0 w.1 (Some w.2)) w.3 f)) w.4
    form_means {r = r} (form.grammar {j = j} {d = d} e f q) s p h =
        let w = showing fs g.nodes.items keys (Node.Grammar d) e h in
        subst (λ z. Means fs s z r) (sym w.2) (means.grammar (form_means q (w.0 ∷ s) (defined None w.0) (its_node d j (key s w.0 None) w.1 f)))
    form_means {r = r} (form.empty e) s p h = subst (λ z. Means fs s z r) (sym (showing fs g.nodes.items keys Node.Empty e h)) means.empty
    form_means {r = r} (form.any_text e) s p h = subst (λ z. Means fs s z r) (sym (showing fs g.nodes.items keys Node.AnyText e h)) means.any_text
    form_means {r = r} (form.not_allowed e) s p h = subst (λ z. Means fs s z r) (sym (showing fs g.nodes.items keys Node.NotAllowed e h)) means.not_allowed
    form_means {r = r} (form.value {k = k} {t = t} e) s p h =
        let w = showing fs g.nodes.items keys (Node.Value k t) e h in subst (λ z. Means fs s z r) (sym w.2) (value_means w.0 k t w.1)
    form_means {r = r} (form.data_type {k = k} e) s p h =
        let w = showing fs g.nodes.items keys (Node.DataType k None) e h in subst (λ z. Means fs s z r) (sym w.2) (means.data_type w.1)
    form_means {r = r} (form.data_except {j = j} {k = k} e q f) s p h =
        let w = showing fs g.nodes.items keys (Node.DataType k (Some j)) e h in subst (λ z. Means fs s z r) (sym w.4) (means.data_except w.2 (form_means q s w.1 w.3) f)

    connected : (c : Connective) {j : ℕ} {js : List ℕ} {q : simple.Pattern} {qs : List simple.Pattern} → AreFormed g (j ∷ js) (q ∷ qs) → (s : Scope) (ps : Patterns) → EachShown fs g.nodes.items keys (j ∷ js) s ps → Connected fs c s ps (joined c q qs)
    connected c {q = q} {qs = qs} (form.more h hs) s ps w =
        subst (λ z. Connected fs c s z (joined c q qs)) (sym w.4) (first (form_means h s w.0 w.2) (behind c q hs s w.1 (each_shown fs g.nodes.items keys w.3)))

    behind : (c : Connective) (b : simple.Pattern) {js : List ℕ} {qs : List simple.Pattern} → AreFormed g js qs → (s : Scope) (ps : Patterns) → EachShown fs g.nodes.items keys js s ps → Behind fs c s b ps (joined c b qs)
    behind c b form.none s ps w = subst (λ z. Behind fs c s b z b) (sym w) ends
    behind c b (form.more {q = q} {qs = qs} h hs) s ps w =
        subst (λ z. Behind fs c s b z (joined c (connect c b q) qs)) (sym w.4) (next (form_means h s w.0 w.2) (behind c (connect c b q) hs s w.1 (each_shown fs g.nodes.items keys w.3)))
