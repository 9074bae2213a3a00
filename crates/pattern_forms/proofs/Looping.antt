-- Loops of the tree are loops of the graph.
use Rattle.std.proofs.Common.{◌≡◌, ℕ, zero, suc, ◌⊎◌, inl, inr, true, false, Bool, List, [], ◌∷◌, Option, Some, None, slice_get, refl, sym, ◌∙◌, subst}
use Rattle.std.proofs.lemmas.Option.{same_Some}
use Rattle.derivative_laws.proofs.Members.{IsIn, is_in, contained}
use Rattle.rng_model.specs.Texts.{Text}
use Rattle.grammar_laws.specs.Trees.{Class, Pattern, Patterns, no_pattern, more_patterns, Items}
use Rattle.grammar_laws.specs.Trees as full
use Rattle.grammar_laws.specs.Files.{SchemaFile, Full}
use Rattle.simple_form_laws.specs.Parts.{Scope, Part, part, defined}
use Rattle.simple_form_laws.specs.Forms.{tree}
use Rattle.simple_form_laws.specs.Faults.{leads, inside, each_part, IsVisited, whole, lead, content, LeadsTo, once, more, IsReferenceAt, IsLoop}
use Rattle.simple_form_laws.proofs.NoLoop.{then_to}
use Rattle.schema_graph.specs.Shown.{Key, key, Shows, ShowEach, none, AreCombined, IsGraph, IsClosed}
use Rattle.schema_graph.specs.Shown as by
use Rattle.schema_graph.specs.declared.node.Node.{Node}
use Rattle.schema_graph.specs.declared.graph.Graph.{Graph}
use Rattle.pattern_forms.specs.Reaching.{definition_at, steps_of, Step, step, Reaches, here, next}
use Rattle.pattern_forms.specs.Searching.{IsLoopAt}
use Rattle.pattern_forms.proofs.Leading.{at_node}
use Rattle.pattern_forms.proofs.Cycles.{from_step, round, one_step, steps_reference}
use Rattle.pattern_forms.proofs.Meanings.{Showing, showing}
use Rattle.pattern_forms.proofs.Visiting.{lead_shown, visited_shown}

module _ (fs : List SchemaFile) (g : Graph) (keys : List Key) (combined : AreCombined fs g.nodes.items keys g.definitions.items) where
  abbrev pub Part_of : Scope → Pattern → ℕ → Type 0
  Part_of s p k = (y : Part) × (IsIn y (leads s p) ⊎ IsIn y (inside s p)) × Shows fs g.nodes.items keys k y.scope y.pattern

  its_step : (b : Bool) (i k : ℕ) (n : Node) → slice_get g.nodes.items i ≡ Some n → Step g b i k → (l : ℕ) × (slice_get (steps_of g b n) l ≡ Some k)
  its_step b i k n e (step l f) = (l, subst (λ x. slice_get (steps_of g b x) l ≡ Some k) (at_node g i n e) f)

  alone : (j l k : ℕ) → slice_get (j ∷ []) l ≡ Some k → j ≡ k
  alone j zero k e = same_Some j k e
  alone j (suc l) k e = absurd (cc)

  none_there : (l k : ℕ) → slice_get [] l ≡ Some k → ⊥
  none_there l k e = cc

  in_definitions : (o : Option ℕ) (l k : ℕ) → slice_get (elim o as (λ o. List ℕ) [ None ↦ [] | Some i ↦ i ∷ [] ]) l ≡ Some k → o ≡ Some k
  in_definitions None l k e = absurd (cc)
  in_definitions (Some i) zero k e = e
  in_definitions (Some i) (suc l) k e = absurd (cc)

  one_part : (s : Scope) (p : Pattern) (j k : ℕ) → Shows fs g.nodes.items keys j s p → j ≡ k → (y : Part) × IsIn y (part s p ∷ []) × Shows fs g.nodes.items keys k y.scope y.pattern
  one_part s p j k h e = (part s p, inl refl, subst (λ i. Shows fs g.nodes.items keys i s p) e h)

  member_of : {js : List ℕ} {s : Scope} {ps : Patterns} (l k : ℕ) → ShowEach fs g.nodes.items keys js s ps → slice_get js l ≡ Some k → (y : Part) × IsIn y (each_part s ps) × Shows fs g.nodes.items keys k y.scope y.pattern
  member_of l k none e = absurd (cc)
  member_of {s = s} zero k (by.more {j = j} {p = p} h hs) e = (part s p, inl refl, subst (λ i. Shows fs g.nodes.items keys i s p) (same_Some j k e) h)
  member_of (suc l) k (by.more h hs) e = let w = member_of l k hs e in (w.0, inr w.1, w.2)

  keyed : (d l k : ℕ) (x : Key) → slice_get keys d ≡ Some x → slice_get (definition_at g d) l ≡ Some k → Shows fs g.nodes.items keys k (x.items ∷ x.scope) (defined x.name x.items)
  keyed d l k x e f =
      let c = combined d x e in
      subst (λ i. Shows fs g.nodes.items keys i (x.items ∷ x.scope) (defined x.name x.items)) (same_Some c.0 k (sym c.1 ∙ in_definitions (slice_get g.definitions.items d) l k f)) c.2

  pub step_shown : (b : Bool) {i : ℕ} {s : Scope} {p : Pattern} (k : ℕ) → Shows fs g.nodes.items keys i s p → Step g b i k → Part_of s p k
  step_shown true {i = i} {s = s} k (by.element {j = j} {n = n} {d = d} {p = p} e c h) t =
      let w = its_step true i k (Node.Element n d j) e t in let o = one_part s p j k h (alone j w.0 k w.1) in (o.0, inr o.1, o.2)
  step_shown false {i = i} k (by.element {j = j} {n = n} {d = d} e c h) t = let w = its_step false i k (Node.Element n d j) e t in absurd (none_there w.0 k w.1)
  step_shown true {i = i} {s = s} k (by.attribute {j = j} {d = d} {p = p} e c h) t =
      let w = its_step true i k (Node.Attribute d j) e t in let o = one_part s p j k h (alone j w.0 k w.1) in (o.0, inl o.1, o.2)
  step_shown false {i = i} {s = s} k (by.attribute {j = j} {d = d} {p = p} e c h) t =
      let w = its_step false i k (Node.Attribute d j) e t in let o = one_part s p j k h (alone j w.0 k w.1) in (o.0, inl o.1, o.2)
  step_shown true {i = i} k (by.group {js = js} e h) t = let w = its_step true i k (Node.Group js) e t in let o = member_of w.0 k h w.1 in (o.0, inl o.1, o.2)
  step_shown false {i = i} k (by.group {js = js} e h) t = let w = its_step false i k (Node.Group js) e t in let o = member_of w.0 k h w.1 in (o.0, inl o.1, o.2)
  step_shown true {i = i} k (by.choice {js = js} e h) t = let w = its_step true i k (Node.Choice js) e t in let o = member_of w.0 k h w.1 in (o.0, inl o.1, o.2)
  step_shown false {i = i} k (by.choice {js = js} e h) t = let w = its_step false i k (Node.Choice js) e t in let o = member_of w.0 k h w.1 in (o.0, inl o.1, o.2)
  step_shown true {i = i} k (by.interleave {js = js} e h) t = let w = its_step true i k (Node.Interleave js) e t in let o = member_of w.0 k h w.1 in (o.0, inl o.1, o.2)
  step_shown false {i = i} k (by.interleave {js = js} e h) t = let w = its_step false i k (Node.Interleave js) e t in let o = member_of w.0 k h w.1 in (o.0, inl o.1, o.2)
  step_shown true {i = i} {s = s} k (by.optional {j = j} {p = p} e h) t =
      let w = its_step true i k (Node.Optional j) e t in let o = one_part s p j k h (alone j w.0 k w.1) in (o.0, inl o.1, o.2)
  step_shown false {i = i} {s = s} k (by.optional {j = j} {p = p} e h) t =
      let w = its_step false i k (Node.Optional j) e t in let o = one_part s p j k h (alone j w.0 k w.1) in (o.0, inl o.1, o.2)
  step_shown true {i = i} {s = s} k (by.zero_or_more {j = j} {p = p} e h) t =
      let w = its_step true i k (Node.ZeroOrMore j) e t in let o = one_part s p j k h (alone j w.0 k w.1) in (o.0, inl o.1, o.2)
  step_shown false {i = i} {s = s} k (by.zero_or_more {j = j} {p = p} e h) t =
      let w = its_step false i k (Node.ZeroOrMore j) e t in let o = one_part s p j k h (alone j w.0 k w.1) in (o.0, inl o.1, o.2)
  step_shown true {i = i} {s = s} k (by.one_or_more {j = j} {p = p} e h) t =
      let w = its_step true i k (Node.OneOrMore j) e t in let o = one_part s p j k h (alone j w.0 k w.1) in (o.0, inl o.1, o.2)
  step_shown false {i = i} {s = s} k (by.one_or_more {j = j} {p = p} e h) t =
      let w = its_step false i k (Node.OneOrMore j) e t in let o = one_part s p j k h (alone j w.0 k w.1) in (o.0, inl o.1, o.2)
  step_shown true {i = i} {s = s} k (by.mixed {j = j} {p = p} e h) t =
      let w = its_step true i k (Node.Mixed j) e t in let o = one_part s p j k h (alone j w.0 k w.1) in (o.0, inl o.1, o.2)
  step_shown false {i = i} {s = s} k (by.mixed {j = j} {p = p} e h) t =
      let w = its_step false i k (Node.Mixed j) e t in let o = one_part s p j k h (alone j w.0 k w.1) in (o.0, inl o.1, o.2)
  step_shown true {i = i} k (by.ref {at = at} {d = d} {s = s} {is = is} {name = name} e q) t =
      let w = its_step true i k (Node.Reference at d) e t in (part (is ∷ s) (defined (Some name) is), inl (inl refl), keyed d w.0 k (key s is (Some name)) q w.1)
  step_shown false {i = i} k (by.ref {at = at} {d = d} {s = s} {is = is} {name = name} e q) t =
      let w = its_step false i k (Node.Reference at d) e t in (part (is ∷ s) (defined (Some name) is), inl (inl refl), keyed d w.0 k (key s is (Some name)) q w.1)
  step_shown true {i = i} k (by.parent {at = at} {d = d} {s = s} {is = is} {name = name} e q) t =
      let w = its_step true i k (Node.Reference at d) e t in (part (is ∷ s) (defined (Some name) is), inl (inl refl), keyed d w.0 k (key s is (Some name)) q w.1)
  step_shown false {i = i} k (by.parent {at = at} {d = d} {s = s} {is = is} {name = name} e q) t =
      let w = its_step false i k (Node.Reference at d) e t in (part (is ∷ s) (defined (Some name) is), inl (inl refl), keyed d w.0 k (key s is (Some name)) q w.1)
  step_shown true {i = i} k (by.grammar {d = d} {s = s} {is = is} e q) t =
      let w = its_step true i k (Node.Grammar d) e t in (part (is ∷ s) (defined None is), inl (inl refl), keyed d w.0 k (key s is None) q w.1)
  step_shown false {i = i} k (by.grammar {d = d} {s = s} {is = is} e q) t =
      let w = its_step false i k (Node.Grammar d) e t in (part (is ∷ s) (defined None is), inl (inl refl), keyed d w.0 k (key s is None) q w.1)
  step_shown true {i = i} k (by.empty e) t = let w = its_step true i k Node.Empty e t in absurd (none_there w.0 k w.1)
  step_shown false {i = i} k (by.empty e) t = let w = its_step false i k Node.Empty e t in absurd (none_there w.0 k w.1)
  step_shown true {i = i} k (by.any_text e) t = let w = its_step true i k Node.AnyText e t in absurd (none_there w.0 k w.1)
  step_shown false {i = i} k (by.any_text e) t = let w = its_step false i k Node.AnyText e t in absurd (none_there w.0 k w.1)
  step_shown true {i = i} k (by.not_allowed e) t = let w = its_step true i k Node.NotAllowed e t in absurd (none_there w.0 k w.1)
  step_shown false {i = i} k (by.not_allowed e) t = let w = its_step false i k Node.NotAllowed e t in absurd (none_there w.0 k w.1)
  step_shown true {i = i} k (by.value {k = v} {t = u} e q) t = let w = its_step true i k (Node.Value v u) e t in absurd (none_there w.0 k w.1)
  step_shown false {i = i} k (by.value {k = v} {t = u} e q) t = let w = its_step false i k (Node.Value v u) e t in absurd (none_there w.0 k w.1)
  step_shown true {i = i} k (by.data_type {k = v} e q) t = let w = its_step true i k (Node.DataType v None) e t in absurd (none_there w.0 k w.1)
  step_shown false {i = i} k (by.data_type {k = v} e q) t = let w = its_step false i k (Node.DataType v None) e t in absurd (none_there w.0 k w.1)
  step_shown true {i = i} {s = s} k (by.data_except {j = j} {k = v} {p = p} e q h) t =
      let w = its_step true i k (Node.DataType v (Some j)) e t in let o = one_part s p j k h (alone j w.0 k w.1) in (o.0, inl o.1, o.2)
  step_shown false {i = i} {s = s} k (by.data_except {j = j} {k = v} {p = p} e q h) t =
      let w = its_step false i k (Node.DataType v (Some j)) e t in let o = one_part s p j k h (alone j w.0 k w.1) in (o.0, inl o.1, o.2)

  pub no_content : {m k : ℕ} (s : Scope) (x : Part) {p : Pattern} → Shows fs g.nodes.items keys m s p → Step g false m k → IsIn x (inside s p) → ⊥
  no_content {m = m} {k = k} s x (by.element {j = j} {n = n} {d = d} e c q) t i = let w = its_step false m k (Node.Element n d j) e t in none_there w.0 k w.1
  no_content s x (by.attribute e c q) t i = i
  no_content s x (by.group e q) t i = i
  no_content s x (by.choice e q) t i = i
  no_content s x (by.interleave e q) t i = i
  no_content s x (by.optional e q) t i = i
  no_content s x (by.zero_or_more e q) t i = i
  no_content s x (by.one_or_more e q) t i = i
  no_content s x (by.mixed e q) t i = i
  no_content s x (by.ref e q) t i = i
  no_content s x (by.parent e q) t i = i
  no_content s x (by.grammar e q) t i = i
  no_content s x (by.empty e) t i = i
  no_content s x (by.any_text e) t i = i
  no_content s x (by.not_allowed e) t i = i
  no_content s x (by.value e q) t i = i
  no_content s x (by.data_type e q) t i = i
  no_content s x (by.data_except e l q) t i = i

  pub reference_node : {i at : ℕ} {s : Scope} {p : Pattern} → Shows fs g.nodes.items keys i s p → IsReferenceAt at p → (d : ℕ) × (slice_get g.nodes.items i ≡ Some (Node.Reference at d))
  reference_node (by.element e c h) (name, inl r) = absurd (cc)
  reference_node (by.element e c h) (name, inr r) = absurd (cc)
  reference_node (by.attribute e c h) (name, inl r) = absurd (cc)
  reference_node (by.attribute e c h) (name, inr r) = absurd (cc)
  reference_node (by.group e h) (name, inl r) = absurd (cc)
  reference_node (by.group e h) (name, inr r) = absurd (cc)
  reference_node (by.choice e h) (name, inl r) = absurd (cc)
  reference_node (by.choice e h) (name, inr r) = absurd (cc)
  reference_node (by.interleave e h) (name, inl r) = absurd (cc)
  reference_node (by.interleave e h) (name, inr r) = absurd (cc)
  reference_node (by.optional e h) (name, inl r) = absurd (cc)
  reference_node (by.optional e h) (name, inr r) = absurd (cc)
  reference_node (by.zero_or_more e h) (name, inl r) = absurd (cc)
  reference_node (by.zero_or_more e h) (name, inr r) = absurd (cc)
  reference_node (by.one_or_more e h) (name, inl r) = absurd (cc)
  reference_node (by.one_or_more e h) (name, inr r) = absurd (cc)
  reference_node (by.mixed e h) (name, inl r) = absurd (cc)
  reference_node (by.mixed e h) (name, inr r) = absurd (cc)
  reference_node {i = i} {at = at} (by.ref {at = b} {d = d} e k) (name, inl r) = let same : b ≡ at = (cc) in (d, subst (λ x. slice_get g.nodes.items i ≡ Some (Node.Reference x d)) same e)
  reference_node (by.ref e k) (name, inr r) = absurd (cc)
  reference_node (by.parent e k) (name, inl r) = absurd (cc)
  reference_node {i = i} {at = at} (by.parent {at = b} {d = d} e k) (name, inr r) = let same : b ≡ at = (cc) in (d, subst (λ x. slice_get g.nodes.items i ≡ Some (Node.Reference x d)) same e)
  reference_node (by.grammar e k) (name, inl r) = absurd (cc)
  reference_node (by.grammar e k) (name, inr r) = absurd (cc)
  reference_node (by.empty e) (name, inl r) = absurd (cc)
  reference_node (by.empty e) (name, inr r) = absurd (cc)
  reference_node (by.any_text e) (name, inl r) = absurd (cc)
  reference_node (by.any_text e) (name, inr r) = absurd (cc)
  reference_node (by.not_allowed e) (name, inl r) = absurd (cc)
  reference_node (by.not_allowed e) (name, inr r) = absurd (cc)
  reference_node (by.value e k) (name, inl r) = absurd (cc)
  reference_node (by.value e k) (name, inr r) = absurd (cc)
  reference_node (by.data_type e k) (name, inl r) = absurd (cc)
  reference_node (by.data_type e k) (name, inr r) = absurd (cc)
  reference_node (by.data_except e k h) (name, inl r) = absurd (cc)
  reference_node (by.data_except e k h) (name, inr r) = absurd (cc)

  -- a way through the tree is a way through the graph
  leads_path : {x y : Part} {i : ℕ} → LeadsTo x y → Shows fs g.nodes.items keys i x.scope x.pattern → (m : ℕ) × (j : ℕ) × Reaches g false i m × Step g false m j × Shows fs g.nodes.items keys j y.scope y.pattern
  leads_path {x = x} {y = y} {i = i} (once c) h = let w = lead_shown fs g keys combined h y (is_in y (leads x.scope x.pattern) c) in (i, w.0, here, w.1, w.2)
  leads_path {x = x} {i = i} (more {y = z} c k) h =
      let w = lead_shown fs g keys combined h z (is_in z (leads x.scope x.pattern) c) in
      let v = leads_path k w.2 in
      (v.0, v.1, from_step g w.1 v.2, v.3, v.4)

module _ (f : Full) (g : Graph) (h : IsGraph f g) where
  -- a loop of the tree is one of the graph
  pub loop_in_graph : (at : ℕ) → IsLoop f at → IsLoopAt g at
  loop_in_graph at l =
      let w = visited_shown f g h l.visited in
      let n = reference_node f.files g h.keys h.combined w.2 l.reference in
      let v = leads_path f.files g h.keys h.combined l.back w.2 in
      let m = reference_node f.files g h.keys h.combined v.4 l.reference in
      let same : v.1 ≡ w.0 = h.apart v.1 w.0 at m.0 n.0 m.1 n.1 in
      (w.0, n.0, w.1, n.1, record { last = v.0; there = v.2; back = subst (λ x. Step g false v.0 x) same v.3 })

  pub reached_visited : {i : ℕ} → Reaches g true g.root i → (x : Part) × IsVisited (tree f) x × Shows f.files g.nodes.items h.keys i x.scope x.pattern
  reached_visited here = (part [] (tree f), whole, h.root)
  reached_visited (next {j = j} {k = k} r t) = go (reached_visited r)
    where
      go : (x : Part) × IsVisited (tree f) x × Shows f.files g.nodes.items h.keys j x.scope x.pattern → (y : Part) × IsVisited (tree f) y × Shows f.files g.nodes.items h.keys k y.scope y.pattern
      go (x, v, s) = on (step_shown f.files g h.keys h.combined true k s t)
        where
          on : (y : Part) × (IsIn y (leads x.scope x.pattern) ⊎ IsIn y (inside x.scope x.pattern)) × Shows f.files g.nodes.items h.keys k y.scope y.pattern → (y : Part) × IsVisited (tree f) y × Shows f.files g.nodes.items h.keys k y.scope y.pattern
          on (y, inl i, u) = (y, lead v (contained y (leads x.scope x.pattern) i), u)
          on (y, inr i, u) = (y, content v (contained y (inside x.scope x.pattern) i), u)

  reference_in : (at : ℕ) (t : Scope) (is : Items) (name : Text) (s : Scope) (p : Pattern) → ((s ≡ is ∷ t) × (p ≡ full.ref name at)) ⊎ ((inner : Items) × (s ≡ inner ∷ is ∷ t) × (p ≡ full.parent name at)) →
      IsIn (part (is ∷ t) (defined (Some name) is)) (leads s p)
  reference_in at t is name s p (inl (e, u)) =
      subst (λ z. IsIn (part (is ∷ t) (defined (Some name) is)) (leads z p)) (sym e) (subst (λ z. IsIn (part (is ∷ t) (defined (Some name) is)) (leads (is ∷ t) z)) (sym u) (inl refl))
  reference_in at t is name s p (inr (inner, e, u)) =
      subst (λ z. IsIn (part (is ∷ t) (defined (Some name) is)) (leads z p)) (sym e) (subst (λ z. IsIn (part (is ∷ t) (defined (Some name) is)) (leads (inner ∷ is ∷ t) z)) (sym u) (inl refl))

  is_reference : (at : ℕ) (t : Scope) (is : Items) (name : Text) (s : Scope) (p : Pattern) → ((s ≡ is ∷ t) × (p ≡ full.ref name at)) ⊎ ((inner : Items) × (s ≡ inner ∷ is ∷ t) × (p ≡ full.parent name at)) → IsReferenceAt at p
  is_reference at t is name s p (inl (e, u)) = (name, inl u)
  is_reference at t is name s p (inr (inner, e, u)) = (name, inr u)

  -- where a way leads from a part
  abbrev Ahead : Part → ℕ → Type 0
  Ahead z j = (y : Part) × ((z ≡ y) ⊎ LeadsTo z y) × IsVisited (tree f) y × Shows f.files g.nodes.items h.keys j y.scope y.pattern

  ahead : {e j : ℕ} (z : Part) → IsVisited (tree f) z → Shows f.files g.nodes.items h.keys e z.scope z.pattern → Reaches g false e j → Ahead z j
  ahead z v s here = (z, inl refl, v, s)
  ahead {e = e} z v s (next {j = m} {k = k} r t) = go (ahead z v s r)
    where
      go : (y : Part) × ((z ≡ y) ⊎ LeadsTo z y) × IsVisited (tree f) y × Shows f.files g.nodes.items h.keys m y.scope y.pattern →
          (y : Part) × ((z ≡ y) ⊎ LeadsTo z y) × IsVisited (tree f) y × Shows f.files g.nodes.items h.keys k y.scope y.pattern
      go (y, w, vy, sy) = on (step_shown f.files g h.keys h.combined false k sy t)
        where
          from : (x : Part) → IsIn x (leads y.scope y.pattern) → (z ≡ y) ⊎ LeadsTo z y → LeadsTo z x
          from x i (inl u) = subst (λ a. LeadsTo a x) (sym u) (once (contained x (leads y.scope y.pattern) i))
          from x i (inr u) = then_to u (once (contained x (leads y.scope y.pattern) i))

          on : (x : Part) × (IsIn x (leads y.scope y.pattern) ⊎ IsIn x (inside y.scope y.pattern)) × Shows f.files g.nodes.items h.keys k x.scope x.pattern →
              (x : Part) × ((z ≡ x) ⊎ LeadsTo z x) × IsVisited (tree f) x × Shows f.files g.nodes.items h.keys k x.scope x.pattern
          on (x, inl i, u) = (x, inr (from x i w), lead vy (contained x (leads y.scope y.pattern) i), u)
          on (x, inr i, u) = absurd (no_content f.files g h.keys h.combined y.scope x sy t i)

  -- a loop of the graph is one of the tree
  pub loop_in_tree : IsClosed g → (at : ℕ) → IsLoopAt g at → IsLoop f at
  loop_in_tree closed at (i, d, r, n, c) = first (reached_visited r)
    where
      first : (x : Part) × IsVisited (tree f) x × Shows f.files g.nodes.items h.keys i x.scope x.pattern → IsLoop f at
      first (x, v, s) = second (showing f.files g.nodes.items h.keys (Node.Reference at d) n s)
        where
          second : Showing f.files g.nodes.items h.keys (Node.Reference at d) x.scope x.pattern → IsLoop f at
          second (t, is, name, k, a) = third (ahead z (lead v (contained z (leads x.scope x.pattern) (reference_in at t is name x.scope x.pattern a))) e.2 way)
            where
              z : Part
              z = part (is ∷ t) (defined (Some name) is)

              e : (j : ℕ) × (slice_get g.definitions.items d ≡ Some j) × Shows f.files g.nodes.items h.keys j (is ∷ t) (defined (Some name) is)
              e = h.combined d (key t is (Some name)) k

              way : Reaches g false e.0 i
              way = round g i e.0 (λ l j q. one_step g i at d n l 0 j e.0 q (subst (λ xs. slice_get xs 0 ≡ Some e.0) (sym (steps_reference g i at d e.0 n e.1)) refl)) c

              third : (y : Part) × ((z ≡ y) ⊎ LeadsTo z y) × IsVisited (tree f) y × Shows f.files g.nodes.items h.keys i y.scope y.pattern → IsLoop f at
              third (y, w, vy, sy) = fourth (showing f.files g.nodes.items h.keys (Node.Reference at d) n sy)
                where
                  fourth : Showing f.files g.nodes.items h.keys (Node.Reference at d) y.scope y.pattern → IsLoop f at
                  fourth (t2, is2, name2, k2, a2) = record {
                    place = y;
                    reference = is_reference at t2 is2 name2 y.scope y.pattern a2;
                    visited = vy;
                    back = back w;
                  }
                    where
                      same : key t2 is2 (Some name2) ≡ key t is (Some name)
                      same = same_Some (key t2 is2 (Some name2)) (key t is (Some name)) (sym k2 ∙ k)

                      to_z : IsIn z (leads y.scope y.pattern)
                      to_z = subst (λ q. IsIn (part (q.items ∷ q.scope) (defined q.name q.items)) (leads y.scope y.pattern)) same (reference_in at t2 is2 name2 y.scope y.pattern a2)

                      back : (z ≡ y) ⊎ LeadsTo z y → LeadsTo y y
                      back (inl u) = once (contained y (leads y.scope y.pattern) (subst (λ q. IsIn q (leads y.scope y.pattern)) u to_z))
                      back (inr u) = more (contained z (leads y.scope y.pattern) to_z) u
