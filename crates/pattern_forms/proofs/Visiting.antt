-- What can be visited in the tree is shown by nodes that can be reached.
use Rattle.std.proofs.Common.{◌≡◌, ℕ, suc, inl, inr, true, false, Bool, List, [], ◌∷◌, Option, Some, None, slice_get, refl, sym, subst}
use Rattle.derivative_laws.proofs.Members.{IsIn, is_in}
use Rattle.grammar_laws.specs.Trees.{Pattern, Patterns}
use Rattle.grammar_laws.specs.Files.{SchemaFile, Full}
use Rattle.simple_form_laws.specs.Parts.{Scope, Part, part, defined}
use Rattle.simple_form_laws.specs.Forms.{tree}
use Rattle.simple_form_laws.specs.Faults.{leads, inside, each_part, IsVisited, whole, lead, content, IsLoop}
use Rattle.simple_form_laws.proofs.NoLoop.{no_loop}
use Rattle.schema_graph.specs.Shown.{Key, key, Shows, ShowEach, none, AreCombined, IsGraph}
use Rattle.schema_graph.specs.Shown as by
use Rattle.schema_graph.specs.declared.node.Node.{Node}
use Rattle.schema_graph.specs.declared.graph.Graph.{Graph}
use Rattle.pattern_forms.specs.Reaching.{definition_at, steps_of, Step, step, Reaches, here, next}
use Rattle.pattern_forms.specs.Making.{AllMade}
use Rattle.pattern_forms.specs.declared.making.Making.{Making}
use Rattle.pattern_forms.proofs.Leading.{at_node}
use Rattle.pattern_forms.proofs.Cycles.{step_deep}
use Rattle.pattern_forms.proofs.Meanings.{form_means}

module _ (fs : List SchemaFile) (g : Graph) (keys : List Key) (combined : AreCombined fs g.nodes.items keys g.definitions.items) where
  -- a node that the node steps to shows the part
  abbrev pub Shown : Bool → ℕ → Part → Type 0
  Shown b i y = (j : ℕ) × Step g b i j × Shows fs g.nodes.items keys j y.scope y.pattern

  to_node : (b : Bool) (i : ℕ) (n : Node) (k j : ℕ) → slice_get g.nodes.items i ≡ Some n → slice_get (steps_of g b n) k ≡ Some j → Step g b i j
  to_node b i n k j e f = step k (subst (λ x. slice_get (steps_of g b x) k ≡ Some j) (sym (at_node g i n e)) f)

  only_part : (b : Bool) (i : ℕ) (n : Node) (j : ℕ) (s : Scope) (p : Pattern) (y : Part) → slice_get g.nodes.items i ≡ Some n → slice_get (steps_of g b n) 0 ≡ Some j → Shows fs g.nodes.items keys j s p → IsIn y (part s p ∷ []) → Shown b i y
  only_part b i n j s p y e f h (inl u) = (j, to_node b i n 0 j e f, subst (λ z. Shows fs g.nodes.items keys j z.scope z.pattern) (sym u) h)
  only_part b i n j s p y e f h (inr u) = absurd u

  member : (js : List ℕ) (s : Scope) (ps : Patterns) (y : Part) → ShowEach fs g.nodes.items keys js s ps → IsIn y (each_part s ps) → (k : ℕ) × (j : ℕ) × (slice_get js k ≡ Some j) × Shows fs g.nodes.items keys j y.scope y.pattern
  member js s ps y none u = absurd u
  member js s ps y (by.more {j = j} h hs) (inl u) = (0, j, refl, subst (λ z. Shows fs g.nodes.items keys j z.scope z.pattern) (sym u) h)
  member js s ps y (by.more {js = is} {ps = qs} h hs) (inr u) = let w = member is s qs y hs u in (suc w.0, w.1, w.2, w.3)

  one_of : (i : ℕ) (n : Node) (js : List ℕ) (s : Scope) (ps : Patterns) (y : Part) → slice_get g.nodes.items i ≡ Some n → steps_of g false n ≡ js → ShowEach fs g.nodes.items keys js s ps → IsIn y (each_part s ps) → Shown false i y
  one_of i n js s ps y e f h u = let w = member js s ps y h u in (w.1, to_node false i n w.0 w.1 e (subst (λ xs. slice_get xs w.0 ≡ Some w.1) (sym f) w.2), w.3)

  in_list : (o : Option ℕ) (j : ℕ) → o ≡ Some j → slice_get (elim o as (λ o. List ℕ) [ None ↦ [] | Some i ↦ i ∷ [] ]) 0 ≡ Some j
  in_list None j e = absurd (cc)
  in_list (Some i) j e = e

  of_key : (i : ℕ) (n : Node) (d : ℕ) (k : Key) (y : Part) → slice_get g.nodes.items i ≡ Some n → steps_of g false n ≡ definition_at g d → slice_get keys d ≡ Some k →
      IsIn y (part (k.items ∷ k.scope) (defined k.name k.items) ∷ []) → Shown false i y
  of_key i n d k y e f h u =
      let c = combined d k h in
      only_part false i n c.0 (k.items ∷ k.scope) (defined k.name k.items) y e (subst (λ xs. slice_get xs 0 ≡ Some c.0) (sym f) (in_list (slice_get g.definitions.items d) c.0 c.1)) c.2 u

  pub lead_shown : {i : ℕ} {s : Scope} {p : Pattern} → Shows fs g.nodes.items keys i s p → (y : Part) → IsIn y (leads s p) → Shown false i y
  lead_shown (by.element e c h) y u = absurd u
  lead_shown {i = i} {s = s} (by.attribute {j = j} {d = d} {p = p} e c h) y u = only_part false i (Node.Attribute d j) j s p y e refl h u
  lead_shown {i = i} {s = s} (by.group {js = js} {ps = ps} e h) y u = one_of i (Node.Group js) js s ps y e refl h u
  lead_shown {i = i} {s = s} (by.choice {js = js} {ps = ps} e h) y u = one_of i (Node.Choice js) js s ps y e refl h u
  lead_shown {i = i} {s = s} (by.interleave {js = js} {ps = ps} e h) y u = one_of i (Node.Interleave js) js s ps y e refl h u
  lead_shown {i = i} {s = s} (by.optional {j = j} {p = p} e h) y u = only_part false i (Node.Optional j) j s p y e refl h u
  lead_shown {i = i} {s = s} (by.zero_or_more {j = j} {p = p} e h) y u = only_part false i (Node.ZeroOrMore j) j s p y e refl h u
  lead_shown {i = i} {s = s} (by.one_or_more {j = j} {p = p} e h) y u = only_part false i (Node.OneOrMore j) j s p y e refl h u
  lead_shown {i = i} {s = s} (by.mixed {j = j} {p = p} e h) y u = only_part false i (Node.Mixed j) j s p y e refl h u
  lead_shown {i = i} (by.ref {at = at} {d = d} {s = s} {is = is} {name = name} e k) y u = of_key i (Node.Reference at d) d (key s is (Some name)) y e refl k u
  lead_shown {i = i} (by.parent {at = at} {d = d} {s = s} {is = is} {name = name} e k) y u = of_key i (Node.Reference at d) d (key s is (Some name)) y e refl k u
  lead_shown {i = i} (by.grammar {d = d} {s = s} {is = is} e k) y u = of_key i (Node.Grammar d) d (key s is None) y e refl k u
  lead_shown (by.empty e) y u = absurd u
  lead_shown (by.any_text e) y u = absurd u
  lead_shown (by.not_allowed e) y u = absurd u
  lead_shown (by.value e k) y u = absurd u
  lead_shown (by.data_type e k) y u = absurd u
  lead_shown {i = i} {s = s} (by.data_except {j = j} {k = k} {p = p} e l h) y u = only_part false i (Node.DataType k (Some j)) j s p y e refl h u

  pub inside_shown : {i : ℕ} {s : Scope} {p : Pattern} → Shows fs g.nodes.items keys i s p → (y : Part) → IsIn y (inside s p) → Shown true i y
  inside_shown {i = i} {s = s} (by.element {j = j} {n = n} {d = d} {p = p} e c h) y u = only_part true i (Node.Element n d j) j s p y e refl h u
  inside_shown (by.attribute e c h) y u = absurd u
  inside_shown (by.group e h) y u = absurd u
  inside_shown (by.choice e h) y u = absurd u
  inside_shown (by.interleave e h) y u = absurd u
  inside_shown (by.optional e h) y u = absurd u
  inside_shown (by.zero_or_more e h) y u = absurd u
  inside_shown (by.one_or_more e h) y u = absurd u
  inside_shown (by.mixed e h) y u = absurd u
  inside_shown (by.ref e k) y u = absurd u
  inside_shown (by.parent e k) y u = absurd u
  inside_shown (by.grammar e k) y u = absurd u
  inside_shown (by.empty e) y u = absurd u
  inside_shown (by.any_text e) y u = absurd u
  inside_shown (by.not_allowed e) y u = absurd u
  inside_shown (by.value e k) y u = absurd u
  inside_shown (by.data_type e k) y u = absurd u
  inside_shown (by.data_except e l h) y u = absurd u

module _ (f : Full) (g : Graph) (h : IsGraph f g) where
  pub visited_shown : {x : Part} → IsVisited (tree f) x → (i : ℕ) × Reaches g true g.root i × Shows f.files g.nodes.items h.keys i x.scope x.pattern
  visited_shown whole = (g.root, here, h.root)
  visited_shown (lead {x = x} {y = y} v c) =
      let w = visited_shown v in
      let n = lead_shown f.files g h.keys h.combined w.2 y (is_in y (leads x.scope x.pattern) c) in
      (n.0, next w.1 (step_deep g n.1), n.2)
  visited_shown (content {x = x} {y = y} v c) =
      let w = visited_shown v in
      let n = inside_shown f.files g h.keys h.combined w.2 y (is_in y (inside x.scope x.pattern) c) in
      (n.0, next w.1 n.1, n.2)

  pub no_loop_here : (m : Making) → AllMade g m → (at : ℕ) → IsLoop f at → ⊥
  no_loop_here m a at l =
      let w = visited_shown l.visited in
      let q = a.made w.0 w.1 in
      no_loop f.files l.place.scope l.place.pattern _ (form_means f.files g h.keys h.combined (a.making.formed w.0 q.0 q.1) l.place.scope l.place.pattern w.2) l.back
