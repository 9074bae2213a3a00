-- Each kind of node is made as the pattern says: leaves, lists, references, tokens.
use Rattle.std.proofs.Common.{◌≡◌, ℕ, zero, suc, ◌<◌, List, [], ◌∷◌, ◌++◌, length, drop, Option, Some, None, refl, sym, ap, ◌∙◌, subst, arith, length-append}
use Rattle.std.specs.Prelude.{Contains, slice_get, slice_set, slice_index, ⊤, ◌≢◌}
use Rattle.derivative_laws.proofs.Members.{is_in}
use Rattle.std.proofs.lemmas.Option.{same_Some, slice_get_within}
use Rattle.rng_model.specs.Texts.{Text}
use Rattle.text_atoms.specs.declared.kind.Kind.{Kind}
use Rattle.text_atoms.specs.Kinds.{kind_of}
use Rattle.grammar_laws.specs.Trees.{Class, TypeName, Parameter, Pattern, Patterns, Items, no_pattern, more_patterns}
use Rattle.grammar_laws.specs.Trees as full
use Rattle.grammar_laws.specs.Files.{SchemaFile}
use Rattle.simple_form_laws.specs.Prefixes as kinds
use Rattle.simple_form_laws.specs.ClassForms.{OfElement, OfAttribute}
use Rattle.simple_form_laws.specs.ClassForms as classes
use Rattle.simple_form_laws.specs.Parts.{Scope, Part, part, parts_of, parts_of_list}
use Rattle.simple_form_laws.specs.Forms.{element_places, places_in_list, numbered, token_number, token_at}
use Rattle.simple_form_laws.specs.Faults as asked
use Rattle.name_classes.specs.declared.class.NameClass.{NameClass}
use Rattle.name_classes.specs.Views.{class_of}
use Rattle.schema_graph.specs.declared.node.Node.{Node}
use Rattle.schema_graph.specs.Shown.{Key, key, Shows, ShowEach, IsKind, IsMany, parts_of_node, definition_of}
use Rattle.schema_graph.specs.Shown as by
use Rattle.tree_graph.specs.States.{State, place_of_node}
use Rattle.tree_graph.specs.Numbers.{number_at}
use Rattle.tree_graph.specs.Tables.{Table, number_of, Fits}
use Rattle.tree_graph.specs.Walks.{IsReady, IsWalked, IsPatternReady, IsPatternWalked, IsMade, AreMembersReady, AreMembersWalked, IsSound, AreSound, IsDefined, IsDefinedOutside, at_hand, list_at_hand, place_of_part}
use Rattle.tree_graph.proofs.Lists.{begins_same, begins_more, get_last}
use Rattle.tree_graph.proofs.Growth.{kind_grows, each_grows, each_within, shows_grows, shown_within}
use Rattle.tree_graph.proofs.Made.{within_none, within_nodes, within_definition, made, made_of_one}
use Rattle.tree_graph.proofs.Steps.{ready_inside, walked_none, walked_reference, walked_element}

drop_one : (n : ℕ) (xs ys : List ℕ) (x : ℕ) → drop n xs ≡ x ∷ ys → drop (suc n) xs ≡ ys
drop_one zero [] ys x e = absurd (cc)
drop_one zero (z ∷ xs) ys x e = cc
drop_one (suc n) [] ys x e = absurd (cc)
drop_one (suc n) (z ∷ xs) ys x e = drop_one n xs ys x e

index_at : (n : ℕ) (xs ys : List ℕ) (x : ℕ) → drop n xs ≡ x ∷ ys → slice_index xs n ≡ x
index_at zero [] ys x e = absurd (cc)
index_at zero (z ∷ xs) ys x e = cc
index_at (suc n) [] ys x e = absurd (cc)
index_at (suc n) (z ∷ xs) ys x e = index_at n xs ys x e

less_at : (n : ℕ) (xs ys : List ℕ) (x : ℕ) → drop n xs ≡ x ∷ ys → n < length xs
less_at zero [] ys x e = absurd (cc)
less_at zero (z ∷ xs) ys x e = omega arith
less_at (suc n) [] ys x e = absurd (cc)
less_at (suc n) (z ∷ xs) ys x e = let l = less_at n xs ys x e in omega (arith, l)

one_more : (xs : List ℕ) → length (xs ++ 0 ∷ []) ≡ suc (length xs)
one_more xs = let e = length-append xs (0 ∷ []) in omega (arith, e)

-- members are shown by as many nodes
some_nodes : {fs : List SchemaFile} {nodes : List Node} {keys : List Key} {js : List ℕ} {s : Scope} {ps : Patterns} → ShowEach fs nodes keys js s ps → asked.IsMany ps → js ≢ []
some_nodes by.none many = absurd many
some_nodes (by.more w ws) many = λ none. absurd (cc)

module _ (fs : List SchemaFile) (places : List ℕ) (inner outer : Table) (old : State) where
  abbrev hand : Pattern → Pattern
  hand = at_hand places old

  -- where the pattern has one other pattern in it
  pub ready_inner : (p q : Pattern) → element_places p ≡ element_places q → ((s : Scope) → parts_of s (hand p) ≡ part s (hand p) ∷ parts_of s (hand q)) → IsPatternReady fs places inner outer old p → IsPatternReady fs places inner outer old q
  ready_inner p q ats parts r =
      let s = r.0 in
      let keys = r.1.0 in (
        s,
        (
          keys,
          subst (λ l. IsReady fs places keys inner outer old s l (parts_of s (hand q))) ats
              (ready_inside fs places keys inner outer old s (element_places p) (part s (hand p)) (parts_of s (hand q)) (subst (λ l. IsReady fs places keys inner outer old s (element_places p) l) (parts s) r.1.1)),
        ),
      )

  -- where it has members
  pub ready_members : (p : Pattern) (ps : Patterns) → element_places p ≡ places_in_list ps → ((s : Scope) → parts_of s (hand p) ≡ part s (hand p) ∷ parts_of_list s (list_at_hand places old ps)) →
      IsPatternReady fs places inner outer old p → AreMembersReady fs places inner outer old ps
  ready_members p ps ats parts r =
      let s = r.0 in
      let keys = r.1.0 in (
        s,
        (
          keys,
          subst (λ l. IsReady fs places keys inner outer old s l (parts_of_list s (list_at_hand places old ps))) ats
              (ready_inside fs places keys inner outer old s (element_places p) (part s (hand p)) (parts_of_list s (list_at_hand places old ps))
              (subst (λ l. IsReady fs places keys inner outer old s (element_places p) l) (parts s) r.1.1)),
        ),
      )

  -- what is known of the pattern by itself
  pub sound_here : (p : Pattern) (xs : Scope → List Part) → ((s : Scope) → parts_of s (hand p) ≡ part s (hand p) ∷ xs s) → (r : IsPatternReady fs places inner outer old p) → IsSound fs r.0 (hand p)
  sound_here p xs parts r = (subst (λ l. AreSound fs l) (parts r.0) r.1.1.sound).0

  -- a pattern without another in it
  pub made_leaf : (p : Pattern) (x : Node) → element_places p ≡ [] → ((s : Scope) → parts_of s (hand p) ≡ part s (hand p) ∷ []) → ((s : Scope) → token_at s (hand p) ≡ None) → place_of_node x ≡ None → ((s : Scope) → place_of_part (part s (hand p)) ≡ None) →
      ((m j : ℕ) (c : NameClass) → x ≡ Node.Element m c j → ⊥) → ((nodes : List Node) (keys : List Key) (i : ℕ) (s : Scope) → slice_get nodes i ≡ Some x → Shows fs nodes keys i s (hand p)) →
      IsMany x → parts_of_node x ≡ [] → definition_of x ≡ None → IsPatternReady fs places inner outer old p → IsMade fs places inner outer old old p x
  made_leaf p x ats parts none m n other show many own leads ready =
      made fs places inner outer old old p x (λ s. []) (λ nodes keys s. ⊤) (λ nodes further keys s g w. tt) parts none m n other (λ nodes keys i s h w. show nodes keys i s h)
      (λ keys s e w. within_none (length old.nodes) (length old.definitions) old.tokens x many own leads other) ready
      (λ s keys r. (keys, (subst (λ l. IsWalked fs places keys keys old old l []) (sym ats) (walked_none fs places keys old r.keyed), tt)))

  pub made_empty : IsPatternReady fs places inner outer old full.empty → IsMade fs places inner outer old old full.empty Node.Empty
  made_empty = made_leaf full.empty Node.Empty refl (λ s. refl) (λ s. refl) refl (λ s. refl) (λ m j c e. cc) (λ nodes keys i s h. by.empty h) tt refl refl

  pub made_any_text : IsPatternReady fs places inner outer old full.any_text → IsMade fs places inner outer old old full.any_text Node.AnyText
  made_any_text = made_leaf full.any_text Node.AnyText refl (λ s. refl) (λ s. refl) refl (λ s. refl) (λ m j c e. cc) (λ nodes keys i s h. by.any_text h) tt refl refl

  pub made_not_allowed : IsPatternReady fs places inner outer old full.not_allowed → IsMade fs places inner outer old old full.not_allowed Node.NotAllowed
  made_not_allowed = made_leaf full.not_allowed Node.NotAllowed refl (λ s. refl) (λ s. refl) refl (λ s. refl) (λ m j c e. cc) (λ nodes keys i s h. by.not_allowed h) tt refl refl

  pub made_value : (of : Option TypeName) (t : Text) (k : Kind) → IsKind fs [] [] of k → IsPatternReady fs places inner outer old (full.value of t) → IsMade fs places inner outer old old (full.value of t) (Node.Value k t)
  made_value of t k kind = made_leaf (full.value of t) (Node.Value k t) refl (λ s. refl) (λ s. refl) refl (λ s. refl) (λ m j c e. cc)
      (λ nodes keys i s h. by.value h (kind_grows fs [] nodes [] keys (nodes, refl) (keys, refl) kind)) tt refl refl

  pub made_data_type : (of : TypeName) (xs : List Parameter) (k : Kind) → kinds.kind_of fs of ≡ Some (kind_of k) → IsPatternReady fs places inner outer old (full.data_type of xs) → IsMade fs places inner outer old old (full.data_type of xs) (Node.DataType k None)
  made_data_type of xs k kind ready =
      let sound = sound_here (full.data_type of xs) (λ s. []) (λ s. refl) ready in
      subst (λ l. IsPatternReady fs places inner outer old (full.data_type of l) → IsMade fs places inner outer old old (full.data_type of l) (Node.DataType k None)) (sym sound.0)
      (made_leaf (full.data_type of []) (Node.DataType k None) refl (λ s. refl) (λ s. refl) refl (λ s. refl) (λ m j c e. cc) (λ nodes keys i s h. by.data_type h kind) tt refl refl) ready

  -- references: of the innermost grammar, and of the next one outwards
  shows_ref : (s : Scope) (keys : List Key) (nodes : List Node) (i at d : ℕ) (name : Text) → Fits keys inner outer s → IsDefined s name → number_of inner name ≡ Some d → slice_get nodes i ≡ Some (Node.Reference at d) → Shows fs nodes keys i s (full.ref name at)
  shows_ref [] keys nodes i at d name fits there number get = absurd there
  shows_ref (is ∷ []) keys nodes i at d name fits there number get =
      let x = fits name there in
      let e : x.0 ≡ d = same_Some _ _ (sym x.1 ∙ number) in
      by.ref get (subst (λ k. slice_get keys k ≡ Some (key [] is (Some name))) e x.2)
  shows_ref (is ∷ js ∷ s) keys nodes i at d name fits there number get =
      let x = fits.0 name there in
      let e : x.0 ≡ d = same_Some _ _ (sym x.1 ∙ number) in
      by.ref get (subst (λ k. slice_get keys k ≡ Some (key (js ∷ s) is (Some name))) e x.2)

  named_ref : (s : Scope) (keys : List Key) (name : Text) → Fits keys inner outer s → IsDefined s name → (d : ℕ) × (number_of inner name ≡ Some d) × (d < length keys)
  named_ref [] keys name fits there = absurd there
  named_ref (is ∷ []) keys name fits there = let x = fits name there in (x.0, x.1, slice_get_within keys _ _ x.2)
  named_ref (is ∷ js ∷ s) keys name fits there = let x = fits.0 name there in (x.0, x.1, slice_get_within keys _ _ x.2)

  shows_parent : (s : Scope) (keys : List Key) (nodes : List Node) (i at d : ℕ) (name : Text) → Fits keys inner outer s → IsDefinedOutside s name → number_of outer name ≡ Some d → slice_get nodes i ≡ Some (Node.Reference at d) → Shows fs nodes keys i s (full.parent name at)
  shows_parent [] keys nodes i at d name fits there number get = absurd there
  shows_parent (is ∷ []) keys nodes i at d name fits there number get = absurd there
  shows_parent (is ∷ js ∷ s) keys nodes i at d name fits there number get =
      let x = fits.1 name there in
      let e : x.0 ≡ d = same_Some _ _ (sym x.1 ∙ number) in
      by.parent get (subst (λ k. slice_get keys k ≡ Some (key s js (Some name))) e x.2)

  named_parent : (s : Scope) (keys : List Key) (name : Text) → Fits keys inner outer s → IsDefinedOutside s name → (d : ℕ) × (number_of outer name ≡ Some d) × (d < length keys)
  named_parent [] keys name fits there = absurd there
  named_parent (is ∷ []) keys name fits there = absurd there
  named_parent (is ∷ js ∷ s) keys name fits there = let x = fits.1 name there in (x.0, x.1, slice_get_within keys _ _ x.2)

  pub ref_named : (name : Text) (at : ℕ) → IsPatternReady fs places inner outer old (full.ref name at) → (d : ℕ) × (number_of inner name ≡ Some d) × (d < length old.definitions)
  ref_named name at r = let x = named_ref r.0 r.1.0 name r.1.1.fits r.1.1.sound.0 in let e = r.1.1.keyed in let l = x.2 in (x.0, x.1, omega (arith, e, l))

  pub parent_named : (name : Text) (at : ℕ) → IsPatternReady fs places inner outer old (full.parent name at) → (d : ℕ) × (number_of outer name ≡ Some d) × (d < length old.definitions)
  parent_named name at r = let x = named_parent r.0 r.1.0 name r.1.1.fits r.1.1.sound.0 in let e = r.1.1.keyed in let l = x.2 in (x.0, x.1, omega (arith, e, l))

  pub made_ref : (name : Text) (at d : ℕ) → number_of inner name ≡ Some d → IsPatternReady fs places inner outer old (full.ref name at) → IsMade fs places inner outer old old (full.ref name at) (Node.Reference at d)
  made_ref name at d number ready = (
    (let x = ref_named name at ready in
        let e : x.0 ≡ d = same_Some _ _ (sym x.1 ∙ number) in
        let l = x.2 in
        within_definition (length old.nodes) (length old.definitions) old.tokens (Node.Reference at d) d tt refl refl (λ m j c f. cc) (omega (arith, e, l))),
    (λ s keys r. (
      keys,
      (
        walked_reference fs places keys old (part s (full.ref name at)) (Node.Reference at d) r.keyed refl refl (λ m j c f. cc),
        shows_ref s keys (old.nodes ++ Node.Reference at d ∷ []) (length old.nodes) at d name r.fits r.sound.0 number (get_last old.nodes (Node.Reference at d)),
      ),
    )),
  )

  pub made_parent : (name : Text) (at d : ℕ) → number_of outer name ≡ Some d → IsPatternReady fs places inner outer old (full.parent name at) → IsMade fs places inner outer old old (full.parent name at) (Node.Reference at d)
  made_parent name at d number ready = (
    (let x = parent_named name at ready in
        let e : x.0 ≡ d = same_Some _ _ (sym x.1 ∙ number) in
        let l = x.2 in
        within_definition (length old.nodes) (length old.definitions) old.tokens (Node.Reference at d) d tt refl refl (λ m j c f. cc) (omega (arith, e, l))),
    (λ s keys r. (
      keys,
      (
        walked_reference fs places keys old (part s (full.parent name at)) (Node.Reference at d) r.keyed refl refl (λ m j c f. cc),
        shows_parent s keys (old.nodes ++ Node.Reference at d ∷ []) (length old.nodes) at d name r.fits r.sound.0 number (get_last old.nodes (Node.Reference at d)),
      ),
    )),
  )

  -- the content of a token, which was begun
  abbrev pub begun_element : State
  begun_element = record old { elements = old.elements ++ 0 ∷ [] }

  pub inside_element : (s : Scope) (keys : List Key) (c : Class) (p : Pattern) (at : ℕ) → IsReady fs places keys inner outer old s (at ∷ element_places p) (parts_of s (hand (full.element c p at))) →
      IsReady fs places keys inner outer begun_element s (element_places p) (parts_of s (at_hand places begun_element p))
  inside_element s keys c p at r =
      let e : suc (length old.elements) ≡ length (old.elements ++ 0 ∷ []) = sym (one_more old.elements) in
      subst (λ k. IsReady fs places keys inner outer begun_element s (element_places p) (parts_of s (numbered places k p))) e (record {
        fits = r.fits;
        keyed = r.keyed;
        sound = r.sound.1;
        follows = (r.follows.0, subst (λ k. drop k places ≡ element_places p ++ r.follows.0) e (drop_one (length old.elements) places (element_places p ++ r.follows.0) at r.follows.1));
        tokens = r.tokens;
      })

  pub ready_element : (c : Class) (p : Pattern) (at : ℕ) → IsPatternReady fs places inner outer old (full.element c p at) → IsPatternReady fs places inner outer begun_element p
  ready_element c p at r = (r.0, (r.1.0, inside_element r.0 r.1.0 c p at r.1.1))

  pub place_there : (c : Class) (p : Pattern) (at : ℕ) → IsPatternReady fs places inner outer old (full.element c p at) → length old.elements < length places
  place_there c p at r = less_at (length old.elements) places (element_places p ++ r.1.1.follows.0) at r.1.1.follows.1

  pub element_there : (c : Class) (p : Pattern) (at j : ℕ) (new : State) → IsPatternReady fs places inner outer old (full.element c p at) → IsPatternWalked fs places inner outer begun_element new p j → length old.elements < length new.elements
  element_there c p at j new r walked =
      let w = walked r.0 r.1.0 (inside_element r.0 r.1.0 c p at r.1.1) in
      let n = w.1.0.counted in
      let e = one_more old.elements in
      omega (arith, n, e)

  pub made_element : (c : Class) (p : Pattern) (at n j : ℕ) (d : NameClass) (new : State) → n ≡ number_at places (length old.elements) → n < length places → classes.class_of fs OfElement c ≡ Some (class_of d) →
      IsPatternReady fs places inner outer old (full.element c p at) → IsPatternWalked fs places inner outer begun_element new p j →
      IsMade fs places inner outer old (record new { elements = slice_set new.elements (length old.elements) (length new.nodes) }) (full.element c p at) (Node.Element n d j)
  made_element c p at n j d new number less named ready walked = (
    (let w = walked ready.0 ready.1.0 (inside_element ready.0 ready.1.0 c p at ready.1.1) in
        let t : new.tokens ≡ length places = w.1.0.tokens ∙ ready.1.1.tokens in
        record {
          parts = λ i h. absurd (no_part i h);
          content = λ a i k e. let f : n ≡ a = cc in let g : j ≡ i = cc in let there = shown_within fs new.nodes w.0 w.1.1 in (omega (arith, g, there), omega (arith, f, less, t));
          leads = λ i e. absurd (cc);
          many = tt;
        }),
    (λ s keys r.
        let w = walked s keys (inside_element s keys c p at r) in
        let same : n ≡ token_number places (length old.elements) at = number ∙ ap (λ k. token_number places (length old.elements) k) (index_at (length old.elements) places (element_places p ++ r.follows.0) at r.follows.1) in
        let e : length (old.elements ++ 0 ∷ []) ≡ suc (length old.elements) = one_more old.elements in
        let shown : Shows fs (new.nodes ++ Node.Element n d j ∷ []) w.0 (length new.nodes) s (full.element c (numbered places (length (old.elements ++ 0 ∷ [])) p) n) =
        by.element (get_last new.nodes (Node.Element n d j)) named (shows_grows fs new.nodes (new.nodes ++ Node.Element n d j ∷ []) w.0 w.0 (begins_more new.nodes (Node.Element n d j ∷ [])) (begins_same w.0) w.1.1) in
        let all = walked_element fs places keys w.0 old new (element_places p) (parts_of s (numbered places (length (old.elements ++ 0 ∷ [])) p)) s c (numbered places (length (old.elements ++ 0 ∷ [])) p) at n j d number w.1.0 shown in
        subst
        (λ k.
        (more : List Key) × (IsWalked fs places keys more old (record new { nodes = new.nodes ++ Node.Element n d j ∷ []; elements = slice_set new.elements (length old.elements) (length new.nodes) }) (at ∷ element_places p) (part s (full.element c (numbered places k p) (token_number places (length old.elements) at)) ∷ parts_of s (numbered places k p))
        × Shows fs (new.nodes ++ Node.Element n d j ∷ []) more (length new.nodes) s (full.element c (numbered places k p) (token_number places (length old.elements) at))))
        e
        (subst
        (λ m.
        (more : List Key) × (IsWalked fs places keys more old (record new { nodes = new.nodes ++ Node.Element n d j ∷ []; elements = slice_set new.elements (length old.elements) (length new.nodes) }) (at ∷ element_places p) (part s (full.element c (numbered places (length (old.elements ++ 0 ∷ [])) p) m) ∷ parts_of s (numbered places (length (old.elements ++ 0 ∷ [])) p))
        × Shows fs (new.nodes ++ Node.Element n d j ∷ []) more (length new.nodes) s (full.element c (numbered places (length (old.elements ++ 0 ∷ [])) p) m)))
        same (w.0, (all, shown)))),
  )
    where
      no_part : (i : ℕ) → Contains [] i → ⊥
      no_part i h = is_in i [] h

module _ (fs : List SchemaFile) (places : List ℕ) (inner outer : Table) (old new : State) where
  -- of members
  made_of_members : (p : Pattern) (ps : Patterns) (x : Node) (js : List ℕ) → element_places p ≡ places_in_list ps →
      ((s : Scope) → parts_of s (at_hand places old p) ≡ part s (at_hand places old p) ∷ parts_of_list s (list_at_hand places old ps)) → ((s : Scope) → token_at s (at_hand places old p) ≡ None) → place_of_node x ≡ None →
      ((s : Scope) → place_of_part (part s (at_hand places old p)) ≡ None) → ((m i : ℕ) (c : NameClass) → x ≡ Node.Element m c i → ⊥) →
      ((nodes : List Node) (keys : List Key) (i : ℕ) (s : Scope) → slice_get nodes i ≡ Some x → ShowEach fs nodes keys js s (list_at_hand places old ps) → Shows fs nodes keys i s (at_hand places old p)) →
      parts_of_node x ≡ js → definition_of x ≡ None → (js ≢ [] → IsMany x) → asked.IsMany (list_at_hand places old ps) →
      IsPatternReady fs places inner outer old p → AreMembersWalked fs places inner outer old new ps js → IsMade fs places inner outer old new p x
  made_of_members p ps x js ats parts none m n other show own leads many some ready walked =
      made fs places inner outer old new p x (λ s. parts_of_list s (list_at_hand places old ps)) (λ nodes keys s. ShowEach fs nodes keys js s (list_at_hand places old ps))
      (λ nodes further keys s g w. each_grows fs nodes further keys keys g (begins_same keys) w) parts none m n other show
      (λ keys s e w. within_nodes (length new.nodes) (length new.definitions) new.tokens x js (many (some_nodes w some)) own leads other (λ j h. each_within fs new.nodes keys w j h)) ready
      (λ s keys r.
      subst (λ l. IsReady fs places keys inner outer old s l (parts_of_list s (list_at_hand places old ps)) →
      (more : List Key) × (IsWalked fs places keys more old new l (parts_of_list s (list_at_hand places old ps)) × ShowEach fs new.nodes more js s (list_at_hand places old ps))) (sym ats) (walked s keys) r)

  pub made_group : (ps : Patterns) (js : List ℕ) → IsPatternReady fs places inner outer old (full.group ps) → AreMembersWalked fs places inner outer old new ps js → IsMade fs places inner outer old new (full.group ps) (Node.Group js)
  made_group ps js ready = made_of_members (full.group ps) ps (Node.Group js) js refl (λ s. refl) (λ s. refl) refl (λ s. refl) (λ m i c e. cc) (λ nodes keys i s h w. by.group h w) refl refl (λ many. many) ready.1.1.sound.0 ready

  pub made_choice : (ps : Patterns) (js : List ℕ) → IsPatternReady fs places inner outer old (full.choice ps) → AreMembersWalked fs places inner outer old new ps js → IsMade fs places inner outer old new (full.choice ps) (Node.Choice js)
  made_choice ps js ready = made_of_members (full.choice ps) ps (Node.Choice js) js refl (λ s. refl) (λ s. refl) refl (λ s. refl) (λ m i c e. cc) (λ nodes keys i s h w. by.choice h w) refl refl (λ many. many) ready.1.1.sound.0 ready

  pub made_interleave : (ps : Patterns) (js : List ℕ) → IsPatternReady fs places inner outer old (full.interleave ps) → AreMembersWalked fs places inner outer old new ps js → IsMade fs places inner outer old new (full.interleave ps) (Node.Interleave js)
  made_interleave ps js ready = made_of_members (full.interleave ps) ps (Node.Interleave js) js refl (λ s. refl) (λ s. refl) refl (λ s. refl) (λ m i c e. cc) (λ nodes keys i s h w. by.interleave h w) refl refl (λ many. many) ready.1.1.sound.0 ready

  pub made_data_except : (of : TypeName) (xs : List Parameter) (q : Pattern) (k : Kind) (j : ℕ) → kinds.kind_of fs of ≡ Some (kind_of k) → IsPatternReady fs places inner outer old (full.data_except of xs q) →
      IsPatternWalked fs places inner outer old new q j → IsMade fs places inner outer old new (full.data_except of xs q) (Node.DataType k (Some j))
  made_data_except of xs q k j kind ready walked =
      let sound = sound_here fs places inner outer old (full.data_except of xs q) (λ s. parts_of s (at_hand places old q)) (λ s. refl) ready in
      subst (λ l. IsPatternReady fs places inner outer old (full.data_except of l q) → IsMade fs places inner outer old new (full.data_except of l q) (Node.DataType k (Some j))) (sym sound.0)
      (λ r.
      made_of_one fs places inner outer old new (full.data_except of [] q) q (Node.DataType k (Some j)) j refl (λ s. refl) (λ s. refl) refl (λ s. refl) (λ nodes keys i s h w. by.data_except h kind w) refl refl (λ m i c f. cc) r walked)
      ready

  -- the node is added
  pub pushed : (mid : State) (p : Pattern) (x : Node) (i : ℕ) → i ≡ length mid.nodes → new ≡ record mid { nodes = mid.nodes ++ x ∷ [] } → IsMade fs places inner outer old mid p x → IsPatternWalked fs places inner outer old new p i
  pushed mid p x i e f m = subst (λ k. IsPatternWalked fs places inner outer old new p k) (sym e) (subst (λ z. IsPatternWalked fs places inner outer old z p (length mid.nodes)) (sym f) m.1)
