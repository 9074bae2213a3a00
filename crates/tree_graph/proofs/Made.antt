-- Each kind of node is made as the pattern says.
use Rattle.std.proofs.Common.{◌≡◌, ℕ, ◌<◌, inl, inr, List, [], ◌∷◌, ◌++◌, length, Some, None, refl, sym, subst, arith}
use Rattle.std.specs.Prelude.{slice_get}
use Rattle.derivative_laws.proofs.Members.{IsIn, is_in}
use Rattle.grammar_laws.specs.Trees.{Class, TypeName, Pattern, Patterns, Items}
use Rattle.grammar_laws.specs.Trees as full
use Rattle.grammar_laws.specs.Files.{SchemaFile}
use Rattle.simple_form_laws.specs.ClassForms.{OfElement, OfAttribute}
use Rattle.simple_form_laws.specs.ClassForms as classes
use Rattle.simple_form_laws.specs.Parts.{Scope, Part, part, parts_of}
use Rattle.simple_form_laws.specs.Forms.{element_places, token_at}
use Rattle.name_classes.specs.declared.class.NameClass.{NameClass}
use Rattle.name_classes.specs.Views.{class_of}
use Rattle.schema_graph.specs.declared.node.Node.{Node}
use Rattle.schema_graph.specs.Shown.{Key, key, Shows, ShowEach, IsKind, IsMany, parts_of_node, definition_of}
use Rattle.schema_graph.specs.Shown as by
use Rattle.tree_graph.specs.States.{State, Begins, IsNodeIn, place_of_node}
use Rattle.tree_graph.specs.Tables.{Table}
use Rattle.tree_graph.specs.Walks.{IsReady, IsWalked, IsPatternReady, IsPatternWalked, IsMade, at_hand, place_of_part}
use Rattle.tree_graph.proofs.Lists.{begins_same, begins_more, get_last}
use Rattle.tree_graph.proofs.Growth.{shows_grows, shown_within}
use Rattle.tree_graph.proofs.Steps.{ready_inside, walked_node}

-- a node with a part isn't a list without members
many_of_one : (x : Node) (i : ℕ) → parts_of_node x ≡ i ∷ [] → IsMany x
many_of_one (Node.Element n c j) i e = tt
many_of_one (Node.Attribute c j) i e = tt
many_of_one (Node.Group js) i e = λ none. absurd (cc)
many_of_one (Node.Choice js) i e = λ none. absurd (cc)
many_of_one (Node.Interleave js) i e = λ none. absurd (cc)
many_of_one (Node.Optional j) i e = tt
many_of_one (Node.ZeroOrMore j) i e = tt
many_of_one (Node.OneOrMore j) i e = tt
many_of_one (Node.Mixed j) i e = tt
many_of_one (Node.Reference at d) i e = tt
many_of_one (Node.Grammar d) i e = tt
many_of_one Node.Empty i e = tt
many_of_one Node.AnyText i e = tt
many_of_one Node.NotAllowed i e = tt
many_of_one (Node.Value k t) i e = tt
many_of_one (Node.DataType k j) i e = tt

-- a node that names no node, no definition and no token
pub within_none : (n d t : ℕ) (x : Node) → IsMany x → parts_of_node x ≡ [] → definition_of x ≡ None → ((m j : ℕ) (c : NameClass) → x ≡ Node.Element m c j → ⊥) → IsNodeIn n d t x
within_none n d t x many parts leads content = record {
  parts = λ j h. absurd (subst (λ l. IsIn j l) parts (is_in j (parts_of_node x) h));
  content = λ m j c e. absurd (content m j c e);
  leads = λ e h. absurd (cc);
  many = many;
}

-- a node that names other nodes only
pub within_nodes : (n d t : ℕ) (x : Node) (js : List ℕ) → IsMany x → parts_of_node x ≡ js → definition_of x ≡ None → ((m j : ℕ) (c : NameClass) → x ≡ Node.Element m c j → ⊥) → ((j : ℕ) → IsIn j js → j < n) → IsNodeIn n d t x
within_nodes n d t x js many parts leads content less = record {
  parts = λ j h. less j (subst (λ l. IsIn j l) parts (is_in j (parts_of_node x) h));
  content = λ m j c e. absurd (content m j c e);
  leads = λ e h. absurd (cc);
  many = many;
}

pub within_one : (n d t : ℕ) (x : Node) (i : ℕ) → parts_of_node x ≡ i ∷ [] → definition_of x ≡ None → ((m j : ℕ) (c : NameClass) → x ≡ Node.Element m c j → ⊥) → i < n → IsNodeIn n d t x
within_one n d t x i parts leads content less = within_nodes n d t x (i ∷ []) (many_of_one x i parts) parts leads content at
  where
    at : (j : ℕ) → IsIn j (i ∷ []) → j < n
    at j (inl e) = omega (arith, e, less)
    at j (inr h) = absurd h

-- a node that leads to a definition
pub within_definition : (n d t : ℕ) (x : Node) (i : ℕ) → IsMany x → parts_of_node x ≡ [] → definition_of x ≡ Some i → ((m j : ℕ) (c : NameClass) → x ≡ Node.Element m c j → ⊥) → i < d → IsNodeIn n d t x
within_definition n d t x i many parts leads content less = record {
  parts = λ j h. absurd (subst (λ l. IsIn j l) parts (is_in j (parts_of_node x) h));
  content = λ m j c e. absurd (content m j c e);
  leads = λ e h. let k : e ≡ i = cc in omega (arith, k, less);
  many = many;
}

module _ (fs : List SchemaFile) (places : List ℕ) (inner outer : Table) (old new : State) where
  abbrev hand : Pattern → Pattern
  hand = at_hand places old

  -- where the parts in the pattern were walked to what Q says of them
  pub made : (p : Pattern) (x : Node) (xs : Scope → List Part) (Q : List Node → List Key → Scope → Type 0) →
      ((nodes further : List Node) (keys : List Key) (s : Scope) → Begins nodes further → Q nodes keys s → Q further keys s) →
      ((s : Scope) → parts_of s (hand p) ≡ part s (hand p) ∷ xs s) → ((s : Scope) → token_at s (hand p) ≡ None) → place_of_node x ≡ None → ((s : Scope) → place_of_part (part s (hand p)) ≡ None) → ((m j : ℕ) (c : NameClass) → x ≡ Node.Element m c j → ⊥) →
      ((nodes : List Node) (keys : List Key) (i : ℕ) (s : Scope) → slice_get nodes i ≡ Some x → Q nodes keys s → Shows fs nodes keys i s (hand p)) →
      ((keys : List Key) (s : Scope) → length keys ≡ length new.definitions → Q new.nodes keys s → IsNodeIn (length new.nodes) (length new.definitions) new.tokens x) →
      IsPatternReady fs places inner outer old p →
      ((s : Scope) (keys : List Key) → IsReady fs places keys inner outer old s (element_places p) (xs s) → (more : List Key) × (IsWalked fs places keys more old new (element_places p) (xs s) × Q new.nodes more s)) →
      IsMade fs places inner outer old new p x
  made p x xs Q grow parts none m n other show within ready walk = (
    (let s = ready.0 in
        let r : IsReady fs places ready.1.0 inner outer old s (element_places p) (xs s) = inside s ready.1.0 ready.1.1 in
        let w = walk s ready.1.0 r in
        within w.0 s w.1.0.keyed w.1.1),
    (λ s keys r.
        let w = walk s keys (inside s keys r) in (
          w.0,
          (
            subst (λ l. IsWalked fs places keys w.0 old (record new { nodes = new.nodes ++ x ∷ [] }) (element_places p) l) (sym (parts s))
                (walked_node fs places keys w.0 old new (element_places p) (xs s) (part s (hand p)) x (none s) m (n s) other w.1.0),
            show (new.nodes ++ x ∷ []) w.0 (length new.nodes) s (get_last new.nodes x) (grow new.nodes (new.nodes ++ x ∷ []) w.0 s (begins_more new.nodes (x ∷ [])) w.1.1),
          ),
        )),
  )
    where
      inside : (s : Scope) (keys : List Key) → IsReady fs places keys inner outer old s (element_places p) (parts_of s (hand p)) → IsReady fs places keys inner outer old s (element_places p) (xs s)
      inside s keys r = ready_inside fs places keys inner outer old s (element_places p) (part s (hand p)) (xs s) (subst (λ l. IsReady fs places keys inner outer old s (element_places p) l) (parts s) r)

  -- of a pattern in it
  pub made_of_one : (p q : Pattern) (x : Node) (j : ℕ) → element_places p ≡ element_places q →
      ((s : Scope) → parts_of s (hand p) ≡ part s (hand p) ∷ parts_of s (hand q)) → ((s : Scope) → token_at s (hand p) ≡ None) → place_of_node x ≡ None → ((s : Scope) → place_of_part (part s (hand p)) ≡ None) →
      ((nodes : List Node) (keys : List Key) (i : ℕ) (s : Scope) → slice_get nodes i ≡ Some x → Shows fs nodes keys j s (hand q) → Shows fs nodes keys i s (hand p)) →
      parts_of_node x ≡ j ∷ [] → definition_of x ≡ None → ((m i : ℕ) (c : NameClass) → x ≡ Node.Element m c i → ⊥) →
      IsPatternReady fs places inner outer old p → IsPatternWalked fs places inner outer old new q j → IsMade fs places inner outer old new p x
  made_of_one p q x j ats parts none m n show own leads content ready walked =
      made p x (λ s. parts_of s (hand q)) (λ nodes keys s. Shows fs nodes keys j s (hand q)) (λ nodes further keys s g w. shows_grows fs nodes further keys keys g (begins_same keys) w) parts none m n content show
      (λ keys s e w. within_one _ _ _ x j own leads content (shown_within fs new.nodes keys w)) ready
      (λ s keys r. subst (λ l. IsReady fs places keys inner outer old s l (parts_of s (hand q)) → (more : List Key) × (IsWalked fs places keys more old new l (parts_of s (hand q)) × Shows fs new.nodes more j s (hand q))) (sym ats) (walked s keys) r)

  pub made_optional : (p q : Pattern) (j : ℕ) → p ≡ full.optional q → IsPatternReady fs places inner outer old p → IsPatternWalked fs places inner outer old new q j → IsMade fs places inner outer old new p (Node.Optional j)
  made_optional p q j e ready walked = subst (λ z. IsPatternReady fs places inner outer old z → IsMade fs places inner outer old new z (Node.Optional j)) (sym e)
      (λ r. made_of_one (full.optional q) q (Node.Optional j) j refl (λ s. refl) (λ s. refl) refl (λ s. refl) (λ nodes keys i s h w. by.optional h w) refl refl (λ m i c f. cc) r walked) ready

  pub made_zero_or_more : (p q : Pattern) (j : ℕ) → p ≡ full.zero_or_more q → IsPatternReady fs places inner outer old p → IsPatternWalked fs places inner outer old new q j → IsMade fs places inner outer old new p (Node.ZeroOrMore j)
  made_zero_or_more p q j e ready walked = subst (λ z. IsPatternReady fs places inner outer old z → IsMade fs places inner outer old new z (Node.ZeroOrMore j)) (sym e)
      (λ r. made_of_one (full.zero_or_more q) q (Node.ZeroOrMore j) j refl (λ s. refl) (λ s. refl) refl (λ s. refl) (λ nodes keys i s h w. by.zero_or_more h w) refl refl (λ m i c f. cc) r walked) ready

  pub made_one_or_more : (p q : Pattern) (j : ℕ) → p ≡ full.one_or_more q → IsPatternReady fs places inner outer old p → IsPatternWalked fs places inner outer old new q j → IsMade fs places inner outer old new p (Node.OneOrMore j)
  made_one_or_more p q j e ready walked = subst (λ z. IsPatternReady fs places inner outer old z → IsMade fs places inner outer old new z (Node.OneOrMore j)) (sym e)
      (λ r. made_of_one (full.one_or_more q) q (Node.OneOrMore j) j refl (λ s. refl) (λ s. refl) refl (λ s. refl) (λ nodes keys i s h w. by.one_or_more h w) refl refl (λ m i c f. cc) r walked) ready

  pub made_mixed : (p q : Pattern) (j : ℕ) → p ≡ full.mixed q → IsPatternReady fs places inner outer old p → IsPatternWalked fs places inner outer old new q j → IsMade fs places inner outer old new p (Node.Mixed j)
  made_mixed p q j e ready walked = subst (λ z. IsPatternReady fs places inner outer old z → IsMade fs places inner outer old new z (Node.Mixed j)) (sym e)
      (λ r. made_of_one (full.mixed q) q (Node.Mixed j) j refl (λ s. refl) (λ s. refl) refl (λ s. refl) (λ nodes keys i s h w. by.mixed h w) refl refl (λ m i c f. cc) r walked) ready

  pub made_attribute : (p q : Pattern) (c : Class) (at : ℕ) (d : NameClass) (j : ℕ) → p ≡ full.attribute c q at → classes.class_of fs OfAttribute c ≡ Some (class_of d) →
      IsPatternReady fs places inner outer old p → IsPatternWalked fs places inner outer old new q j → IsMade fs places inner outer old new p (Node.Attribute d j)
  made_attribute p q c at d j e named ready walked = subst (λ z. IsPatternReady fs places inner outer old z → IsMade fs places inner outer old new z (Node.Attribute d j)) (sym e)
      (λ r. made_of_one (full.attribute c q at) q (Node.Attribute d j) j refl (λ s. refl) (λ s. refl) refl (λ s. refl) (λ nodes keys i s h w. by.attribute h named w) refl refl (λ m i c f. cc) r walked) ready

module _ (fs : List SchemaFile) (places : List ℕ) (inner outer : Table) (old : State) where
  pub ready_optional : (p q : Pattern) → p ≡ full.optional q → IsPatternReady fs places inner outer old p → IsPatternReady fs places inner outer old q
  ready_optional p q e ready = subst (λ z. IsPatternReady fs places inner outer old z → IsPatternReady fs places inner outer old q) (sym e)
      (λ r. (r.0, (r.1.0, ready_inside fs places r.1.0 inner outer old r.0 (element_places q) (part r.0 (at_hand places old (full.optional q))) (parts_of r.0 (at_hand places old q)) r.1.1))) ready

  pub ready_zero_or_more : (p q : Pattern) → p ≡ full.zero_or_more q → IsPatternReady fs places inner outer old p → IsPatternReady fs places inner outer old q
  ready_zero_or_more p q e ready = subst (λ z. IsPatternReady fs places inner outer old z → IsPatternReady fs places inner outer old q) (sym e)
      (λ r. (r.0, (r.1.0, ready_inside fs places r.1.0 inner outer old r.0 (element_places q) (part r.0 (at_hand places old (full.zero_or_more q))) (parts_of r.0 (at_hand places old q)) r.1.1))) ready

  pub ready_one_or_more : (p q : Pattern) → p ≡ full.one_or_more q → IsPatternReady fs places inner outer old p → IsPatternReady fs places inner outer old q
  ready_one_or_more p q e ready = subst (λ z. IsPatternReady fs places inner outer old z → IsPatternReady fs places inner outer old q) (sym e)
      (λ r. (r.0, (r.1.0, ready_inside fs places r.1.0 inner outer old r.0 (element_places q) (part r.0 (at_hand places old (full.one_or_more q))) (parts_of r.0 (at_hand places old q)) r.1.1))) ready

  pub ready_mixed : (p q : Pattern) → p ≡ full.mixed q → IsPatternReady fs places inner outer old p → IsPatternReady fs places inner outer old q
  ready_mixed p q e ready = subst (λ z. IsPatternReady fs places inner outer old z → IsPatternReady fs places inner outer old q) (sym e)
      (λ r. (r.0, (r.1.0, ready_inside fs places r.1.0 inner outer old r.0 (element_places q) (part r.0 (at_hand places old (full.mixed q))) (parts_of r.0 (at_hand places old q)) r.1.1))) ready
