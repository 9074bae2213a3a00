-- What can be reached in the tree is shown by a node that has a form.
use Rattle.std.proofs.Common.{◌≡◌, ℕ, inl, inr, List, [], ◌∷◌, Option, Some, None, slice_get, refl, sym, subst}
use Rattle.derivative_laws.proofs.Members.{IsIn, is_in, contained}
use Rattle.grammar_laws.specs.Trees.{Class, Pattern, Patterns, no_pattern, more_patterns, Items}
use Rattle.grammar_laws.specs.Trees as full
use Rattle.grammar_laws.specs.Files.{Full}
use Rattle.simple_form_laws.specs.ClassForms.{OfElement}
use Rattle.simple_form_laws.specs.ClassForms as classes
use Rattle.simple_form_laws.specs.Parts.{Scope, Part, part, defined}
use Rattle.simple_form_laws.specs.Forms.{tree}
use Rattle.simple_form_laws.specs.Faults.{leads, each_part, inside, IsVisited, whole, lead, content}
use Rattle.name_classes.specs.Views.{class_of}
use Rattle.name_classes.specs.declared.class.NameClass.{NameClass}
use Rattle.schema_graph.specs.Shown.{Key, key, Shows, ShowEach, IsGraph, parts_of_node, definition_of}
use Rattle.schema_graph.specs.Shown as by
use Rattle.schema_graph.specs.declared.node.Node.{Node}
use Rattle.schema_graph.specs.declared.graph.Graph.{Graph}
use Rattle.pattern_intern.specs.declared.id.PatternId.{PatternId}
use Rattle.pattern_forms.specs.Outcomes.{IsMade, AreReached}

module _ (f : Full) (g : Graph) (h : IsGraph f g) (forms : List (Option PatternId)) (reached : AreReached g forms) where
  abbrev pub IsShown : Part → Type 0
  IsShown x = (i : ℕ) × IsMade forms i × Shows f.files g.nodes.items h.keys i x.scope x.pattern

  one_part : (i j : ℕ) (n : Node) (s : Scope) (p : Pattern) (y : Part) → IsMade forms i → slice_get g.nodes.items i ≡ Some n → IsIn j (parts_of_node n) → Shows f.files g.nodes.items h.keys j s p → IsIn y (part s p ∷ []) → IsShown y
  one_part i j n s p y m e c k (inl q) = subst IsShown (sym q) (j, reached.parts i j n m e (contained j (parts_of_node n) c), k)
  one_part i j n s p y m e c k (inr q) = absurd q

  each : {js : List ℕ} {s : Scope} {ps : Patterns} → ShowEach f.files g.nodes.items h.keys js s ps → ((j : ℕ) → IsIn j js → IsMade forms j) → (y : Part) → IsIn y (each_part s ps) → IsShown y
  each by.none m y q = absurd q
  each (by.more {j = j} k ks) m y (inl q) = subst IsShown (sym q) (j, m j (inl refl), k)
  each (by.more k ks) m y (inr q) = each ks (λ j i. m j (inr i)) y q

  members : (i : ℕ) (n : Node) (js : List ℕ) (s : Scope) (ps : Patterns) → IsMade forms i → slice_get g.nodes.items i ≡ Some n → parts_of_node n ≡ js → ShowEach f.files g.nodes.items h.keys js s ps → (y : Part) → IsIn y (each_part s ps) → IsShown y
  members i n js s ps m e c k y q = each k (λ j l. reached.parts i j n m e (contained j (parts_of_node n) (subst (IsIn j) (sym c) l))) y q

  led : (i d : ℕ) (n : Node) (x : Key) (y : Part) → IsMade forms i → slice_get g.nodes.items i ≡ Some n → definition_of n ≡ Some d → slice_get h.keys d ≡ Some x → IsIn y (part (x.items ∷ x.scope) (defined x.name x.items) ∷ []) → IsShown y
  led i d n x y m e l k (inl q) =
      let t = h.combined d x k in
      subst IsShown (sym q) (t.0, reached.definitions i d t.0 n m e l t.1, t.2)
  led i d n x y m e l k (inr q) = absurd q

  lead_shown : {i : ℕ} {s : Scope} {p : Pattern} → Shows f.files g.nodes.items h.keys i s p → IsMade forms i → (y : Part) → IsIn y (leads s p) → IsShown y
  lead_shown (by.element e c k) m y q = absurd q
  lead_shown {i} {s} (by.attribute {j = j} {d = d} {p = p} e c k) m y q = one_part i j (Node.Attribute d j) s p y m e (inl refl) k q
  lead_shown {i} {s} (by.group {js = js} {ps = ps} e k) m y q = members i (Node.Group js) js s ps m e refl k y q
  lead_shown {i} {s} (by.choice {js = js} {ps = ps} e k) m y q = members i (Node.Choice js) js s ps m e refl k y q
  lead_shown {i} {s} (by.interleave {js = js} {ps = ps} e k) m y q = members i (Node.Interleave js) js s ps m e refl k y q
  lead_shown {i} {s} (by.optional {j = j} {p = p} e k) m y q = one_part i j (Node.Optional j) s p y m e (inl refl) k q
  lead_shown {i} {s} (by.zero_or_more {j = j} {p = p} e k) m y q = one_part i j (Node.ZeroOrMore j) s p y m e (inl refl) k q
  lead_shown {i} {s} (by.one_or_more {j = j} {p = p} e k) m y q = one_part i j (Node.OneOrMore j) s p y m e (inl refl) k q
  lead_shown {i} {s} (by.mixed {j = j} {p = p} e k) m y q = one_part i j (Node.Mixed j) s p y m e (inl refl) k q
  lead_shown {i} (by.ref {at = at} {d = d} {s = s} {is = is} {name = name} e k) m y q = led i d (Node.Reference at d) (key s is (Some name)) y m e refl k q
  lead_shown {i} (by.parent {at = at} {d = d} {s = s} {inner = inner} {is = is} {name = name} e k) m y q = led i d (Node.Reference at d) (key s is (Some name)) y m e refl k q
  lead_shown {i} (by.grammar {d = d} {s = s} {is = is} e k) m y q = led i d (Node.Grammar d) (key s is None) y m e refl k q
  lead_shown (by.empty e) m y q = absurd q
  lead_shown (by.any_text e) m y q = absurd q
  lead_shown (by.not_allowed e) m y q = absurd q
  lead_shown (by.value e k) m y q = absurd q
  lead_shown (by.data_type e k) m y q = absurd q
  lead_shown {i} {s} (by.data_except {j = j} {k = t} {p = p} e l k) m y q = one_part i j (Node.DataType t (Some j)) s p y m e (inl refl) k q

  -- what a node that shows an element is
  pub record Element (i : ℕ) (s : Scope) (c : Class) (p : Pattern) (n : ℕ) : Type 0 where
    pub class : NameClass
    pub content : ℕ
    pub is : slice_get g.nodes.items i ≡ Some (Node.Element n class content)
    pub same : classes.class_of f.files OfElement c ≡ Some (class_of class)
    pub shows : Shows f.files g.nodes.items h.keys content s p

  pub element_shown : {i n : ℕ} {s : Scope} {c : Class} {p : Pattern} → Shows f.files g.nodes.items h.keys i s (full.element c p n) → Element i s c p n
  element_shown (by.element {j = j} {d = d} e c k) = record { class = d; content = j; is = e; same = c; shows = k }

  content_shown : {i : ℕ} {s : Scope} {p : Pattern} → Shows f.files g.nodes.items h.keys i s p → IsMade forms i → (y : Part) → IsIn y (inside s p) → IsShown y
  content_shown {i} {s} (by.element {j = j} {n = n} {d = d} {p = p} e c k) m y (inl q) = subst IsShown (sym q) (j, reached.contents i j n d m e, k)
  content_shown (by.element e c k) m y (inr q) = absurd q
  content_shown (by.attribute e c k) m y q = absurd q
  content_shown (by.group e k) m y q = absurd q
  content_shown (by.choice e k) m y q = absurd q
  content_shown (by.interleave e k) m y q = absurd q
  content_shown (by.optional e k) m y q = absurd q
  content_shown (by.zero_or_more e k) m y q = absurd q
  content_shown (by.one_or_more e k) m y q = absurd q
  content_shown (by.mixed e k) m y q = absurd q
  content_shown (by.ref e k) m y q = absurd q
  content_shown (by.parent e k) m y q = absurd q
  content_shown (by.grammar e k) m y q = absurd q
  content_shown (by.empty e) m y q = absurd q
  content_shown (by.any_text e) m y q = absurd q
  content_shown (by.not_allowed e) m y q = absurd q
  content_shown (by.value e k) m y q = absurd q
  content_shown (by.data_type e k) m y q = absurd q
  content_shown (by.data_except e l k) m y q = absurd q

  pub visited_shown : {x : Part} → IsVisited (tree f) x → IsShown x
  visited_shown whole = (g.root, reached.root, h.root)
  visited_shown {x = y} (lead {x = x} v c) = let t = visited_shown v in lead_shown t.2 t.1 y (is_in y (leads x.scope x.pattern) c)
  visited_shown {x = y} (content {x = x} v c) = let t = visited_shown v in content_shown t.2 t.1 y (is_in y (inside x.scope x.pattern) c)
