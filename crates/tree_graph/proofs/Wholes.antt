-- What is made of the whole tree is its graph.
use Rattle.std.proofs.Common.{◌≡◌, ℕ, zero, suc, ◌+◌, ◌<◌, Bool, true, false, cond, List, [], ◌∷◌, length, Some, None, refl, sym, ap, ◌∙◌, subst, arith, append-nil}
use Rattle.std.specs.Prelude.{◌==◌, slice_get, find, filter_map}
use Rattle.std.proofs.lemmas.Bool.{eqb-true}
use Rattle.std.proofs.lemmas.Option.{slice_get_within, slice_get-get_or, same_Some}
use Rattle.grammar_laws.specs.Trees.{Pattern}
use Rattle.grammar_laws.specs.Trees as full
use Rattle.grammar_laws.specs.Files.{SchemaFile, Full, body_pattern}
use Rattle.tree_laws.specs.WholeBodies.{AreDistinct, references_of_body}
use Rattle.simple_form_laws.specs.Forms.{element_places, tree, tokens, token_of, tokens_of, ElementToken}
use Rattle.simple_form_laws.specs.Faults.{parts}
use Rattle.name_classes.specs.declared.class.NameClass.{NameClass}
use Rattle.schema_graph.specs.declared.node.Node.{Node}
use Rattle.schema_graph.specs.declared.graph.Graph.{Graph}
use Rattle.schema_graph.specs.Shown.{Key, Shows, AreCombined, HasMembers, IsClosed, IsGraph}
use Rattle.tree_graph.specs.States.{State, AreNodesIn, place_of_node}
use Rattle.tree_graph.specs.Numbers.{number_at}
use Rattle.tree_graph.specs.Ranks.{IsByNumber}
use Rattle.tree_graph.specs.Walks.{AreSound, IsWalked, ShowTokens}
use Rattle.tree_graph.specs.Graphs.{IsRoot, IsRootReady, start}
use Rattle.tree_graph.proofs.Growth.{shown_within}
use Rattle.tree_graph.proofs.References.{AreApart, places_apart, one_of_number}

-- what is found passes, and stands in the list
found_at : {X : Type 0} (test : X → Bool) (xs : List X) (x : X) → find test xs ≡ Some x → (k : ℕ) × ((slice_get xs k ≡ Some x) × (test x ≡ true))
found_at test [] x h = absurd (cc)
found_at test (y ∷ xs) x h = by (test y) refl h (found_at test xs x)
  where
    by : (b : Bool) → test y ≡ b → cond b (Some y) (find test xs) ≡ Some x → (find test xs ≡ Some x → (k : ℕ) × ((slice_get xs k ≡ Some x) × (test x ≡ true))) → (k : ℕ) × ((slice_get (y ∷ xs) k ≡ Some x) × (test x ≡ true))
    by true e g next = let f : y ≡ x = same_Some y x g in (0, (ap Some f, ap test (sym f) ∙ e))
    by false e g next = let n = next g in (suc n.0, n.1)

module _ (fs : List SchemaFile) (places : List ℕ) where
  shown_token : (nodes : List Node) (keys : List Key) (n k : ℕ) (is : List ℕ) (ts : List ElementToken) (t : ElementToken) → ShowTokens fs places nodes keys n is ts → slice_get ts k ≡ Some t →
      (i : ℕ) × ((slice_get is k ≡ Some i) × (Shows fs nodes keys i t.scope (full.element t.class t.content t.number) × (t.number ≡ number_at places (n + k))))
  shown_token nodes keys n k [] [] t w h = absurd (cc)
  shown_token nodes keys n k [] (u ∷ ts) t w h = absurd w
  shown_token nodes keys n k (i ∷ is) [] t w h = absurd w
  shown_token nodes keys n zero (i ∷ is) (u ∷ ts) t w h =
      let e : u ≡ t = same_Some u t h in
      let z : n + 0 ≡ n = omega arith in
      rw (← e, z) (i, (refl, (w.0, w.1)))
  shown_token nodes keys n (suc k) (i ∷ is) (u ∷ ts) t w h =
      let r = shown_token nodes keys (suc n) k is ts t w.2 h in
      let z : suc n + k ≡ n + suc k = omega arith in
      (r.0, (r.1.0, (r.1.1.0, r.1.1.1 ∙ ap (number_at places) z)))

  tokens_shown : (nodes : List Node) (keys : List Key) (n k i : ℕ) (is : List ℕ) (ts : List ElementToken) → ShowTokens fs places nodes keys n is ts → slice_get is k ≡ Some i → i < length nodes
  tokens_shown nodes keys n k i [] [] w h = absurd (cc)
  tokens_shown nodes keys n k i [] (u ∷ ts) w h = absurd w
  tokens_shown nodes keys n k i (j ∷ is) [] w h = absurd w
  tokens_shown nodes keys n zero i (j ∷ is) (u ∷ ts) w h = let e : j ≡ i = same_Some j i h in rw (← e) (shown_within fs nodes keys w.0)
  tokens_shown nodes keys n (suc k) i (j ∷ is) (u ∷ ts) w h = tokens_shown nodes keys (suc n) k i is ts w.2 h

module _ (f : Full) where
  -- the places of the tree's tokens
  abbrev pub places : List ℕ
  places = element_places (body_pattern f.body)

  pub root_ready : AreSound f.files (parts f) → IsRootReady f.files places (start (length places)) (body_pattern f.body)
  root_ready sound = record { fits = tt; keyed = refl; sound = sound; follows = ([], sym (append-nil places)); tokens = refl }

  pub all_elements : (new : State) (i : ℕ) → IsRoot f.files places (start (length places)) new (body_pattern f.body) i → length new.elements ≡ length places
  all_elements new i root = let c = root.1.0.counted in omega (arith, c)

-- a graph of the nodes that were made
module _ (f : Full) (g : Graph) (new : State) (nodes : g.nodes.items ≡ new.nodes) (definitions : g.definitions.items ≡ new.definitions) (ordered : IsByNumber (places f) new.elements g.elements.items)
    (root : IsRoot f.files (places f) (start (length (places f))) new (body_pattern f.body) g.root) where
  abbrev keys : List Key
  keys = root.0

  walked : IsWalked f.files (places f) [] keys (start (length (places f))) new (places f) (parts f)
  walked = root.1.0

  abbrev AreWithin : Type 0
  AreWithin = AreNodesIn new.nodes (length new.definitions) new.tokens

  nodes_within : AreWithin → AreNodesIn g.nodes.items (length g.definitions.items) (length (places f))
  nodes_within w =
      subst (λ l. AreNodesIn l (length g.definitions.items) (length (places f))) (sym nodes)
      (subst (λ l. AreNodesIn new.nodes (length l) (length (places f))) (sym definitions)
      (subst (λ n. AreNodesIn new.nodes (length new.definitions) n) walked.tokens w))

  element_at : (n i : ℕ) → slice_get g.elements.items n ≡ Some i → (k : ℕ) × (slice_get new.elements k ≡ Some i)
  element_at n i h =
      let l = slice_get_within g.elements.items n i h in let e = ordered.each in
      let k = ordered.from n (omega (arith, l, e)) in
      (k.0, sym (ordered.at k.0 k.1) ∙ ap (slice_get g.elements.items) k.2 ∙ h)

  pub closed : AreWithin → IsClosed g
  closed w = let within = nodes_within w in record {
    root = rw nodes (shown_within f.files new.nodes keys root.1.1);
    parts = λ i j n h c. (within i n h).parts j c;
    contents = λ i j n d h. let c = (within i (Node.Element n d j) h).content n j d refl in let e = ordered.each in let l = c.1 in (c.0, omega (arith, l, e));
    leads = λ i d n h c. (within i n h).leads d c;
    definitions = definition;
    elements = element;
  }
    where
      definition : (d i : ℕ) → slice_get g.definitions.items d ≡ Some i → i < length g.nodes.items
      definition d i h =
          let k = rw definitions at h in
          let l = slice_get_within new.definitions d i k in let e = walked.keyed in
          let none : Key = record { scope = []; items = full.no_item; name = None } in
          let there = slice_get-get_or keys d none (omega (arith, l, e)) in
          let c = walked.combined d _ (omega arith) there in
          let same : c.0 ≡ i = same_Some c.0 i (sym c.1 ∙ k) in
          rw (nodes, ← same) (shown_within f.files new.nodes keys c.2)

      element : (n i : ℕ) → slice_get g.elements.items n ≡ Some i → i < length g.nodes.items
      element n i h =
          let k = element_at n i h in
          let there : slice_get walked.elements.0 k.0 ≡ Some i = sym (ap (λ l. slice_get l k.0) walked.elements.1) ∙ k.1 in
          rw nodes (tokens_shown f.files (places f) new.nodes keys 0 k.0 i walked.elements.0 (tokens_of (parts f)) walked.elements.2 there)

  pub members : AreWithin → HasMembers g
  members w = record { each = λ i n h. (nodes_within w i n h).many }

  pub is_graph : AreDistinct (references_of_body f.body) → IsGraph f g
  is_graph distinct = record {
    keys = keys;
    each = walked.keyed ∙ ap length (sym definitions);
    combined = combined;
    root = subst (λ l. Shows f.files l keys g.root [] (tree f)) (sym nodes) root.1.1;
    tokens = token;
    apart = apart;
    one = one;
  }
    where
      combined : AreCombined f.files g.nodes.items keys g.definitions.items
      combined = subst (λ l. AreCombined f.files l keys g.definitions.items) (sym nodes)
          (subst (λ l. AreCombined f.files new.nodes keys l) (sym definitions) (λ d k h. walked.combined d k (omega arith) h))

      token : (n : ℕ) (t : ElementToken) → token_of f n ≡ Some t → (i : ℕ) × (slice_get g.elements.items n ≡ Some i) × Shows f.files g.nodes.items keys i t.scope (full.element t.class t.content n)
      token n t h =
          let k = found_at (λ (u : ElementToken). u.number == n) (tokens f) t h in
          let e : t.number ≡ n = eqb-true t.number n k.1.1 in
          let s = shown_token f.files (places f) new.nodes keys 0 k.0 walked.elements.0 (tokens f) t walked.elements.2 k.1.0 in
          let there : slice_get new.elements k.0 ≡ Some s.0 = ap (λ l. slice_get l k.0) walked.elements.1 ∙ s.1.0 in
          let l = slice_get_within new.elements k.0 s.0 there in let c = all_elements f new g.root root in
          let z : 0 + k.0 ≡ k.0 = omega arith in
          let number : number_at (places f) k.0 ≡ n = ap (number_at (places f)) (sym z) ∙ sym s.1.1.1 ∙ e in
          let got : slice_get g.elements.items n ≡ Some s.0 = ap (slice_get g.elements.items) (sym number) ∙ ordered.at k.0 (omega (arith, l, c)) ∙ there in
          let shown : Shows f.files new.nodes keys s.0 t.scope (full.element t.class t.content n) = subst (λ m. Shows f.files new.nodes keys s.0 t.scope (full.element t.class t.content m)) e s.1.1.0 in
          (s.0, got, subst (λ l. Shows f.files l keys s.0 t.scope (full.element t.class t.content n)) (sym nodes) shown)

      places_are_apart : AreApart (filter_map place_of_node new.nodes)
      places_are_apart = rw walked.references (places_apart (places f) 0 [] f.body distinct)

      apart : (i j at d e : ℕ) → slice_get g.nodes.items i ≡ Some (Node.Reference at d) → slice_get g.nodes.items j ≡ Some (Node.Reference at e) → i ≡ j
      apart i j at d e h k = one_of_number place_of_node new.nodes places_are_apart i j (Node.Reference at d) (Node.Reference at e) at (rw nodes at h) (rw nodes at k) refl refl

      one : (i j n : ℕ) (d : NameClass) → slice_get g.nodes.items i ≡ Some (Node.Element n d j) → slice_get g.elements.items n ≡ Some i
      one i j n d h =
          let o = walked.owned i n j d (omega arith) (rw nodes at h) in
          let l = slice_get_within new.elements o.0 i o.2 in let c = all_elements f new g.root root in
          ap (slice_get g.elements.items) o.3 ∙ ordered.at o.0 (omega (arith, l, c)) ∙ o.2
