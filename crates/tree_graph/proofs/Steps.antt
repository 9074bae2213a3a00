-- Steps of a walk.
use Rattle.std.proofs.Common.{◌≡◌, ℕ, zero, suc, ◌+◌, ◌<◌, ◌≤◌, List, [], ◌∷◌, ◌++◌, length, drop, Some, None, refl, sym, ap, ◌∙◌, subst, arith, append_assoc, append-nil, length-append, length-set, true, false, nat_lt}
use Rattle.std.specs.Prelude.{slice_get, slice_set, filter_map}
use Rattle.std.specs.List.{AllByRecursion, cons_option}
use Rattle.std.proofs.Math.Seq.{drop-append_seam, set-append_seam}
use Rattle.std.proofs.lemmas.List.Elements.{filter_map-append}
use Rattle.std.proofs.lemmas.Option.{slice_get_within}
use Rattle.std.proofs.lemmas.Bool.{ltb-true, ltb-false}
use Rattle.grammar_laws.specs.Trees.{Class, Pattern, Patterns, Items}
use Rattle.grammar_laws.specs.Trees as full
use Rattle.grammar_laws.specs.Files.{SchemaFile}
use Rattle.simple_form_laws.specs.Parts.{Scope, Part, part, defined}
use Rattle.simple_form_laws.specs.Forms.{ElementToken, token_at, tokens_of}
use Rattle.name_classes.specs.declared.class.NameClass.{NameClass}
use Rattle.schema_graph.specs.declared.node.Node.{Node}
use Rattle.schema_graph.specs.Shown.{Key, Shows}
use Rattle.tree_graph.specs.States.{State, Begins, place_of_node}
use Rattle.tree_graph.specs.Numbers.{number_at}
use Rattle.tree_graph.specs.Tables.{Table, HasNames, Fits}
use Rattle.tree_graph.specs.Walks.{IsReady, ShowTokens, AreCombinedFrom, AreOwnedFrom, IsWalked, place_of_part}
use Rattle.tree_graph.proofs.Lists.{begins_same, begins_more, begins_then, begins_length, get_begins, get_before, get_in_front, get_last}
use Rattle.tree_graph.proofs.Growth.{shows_grows}

-- the first part of each of two lists, and the second
pub all_front : {X : Type 0} (P : X → Type 0) (xs ys : List X) → AllByRecursion P (xs ++ ys) → AllByRecursion P xs
all_front P [] ys h = tt
all_front P (x ∷ xs) ys (h, hs) = (h, all_front P xs ys hs)

pub all_back : {X : Type 0} (P : X → Type 0) (xs ys : List X) → AllByRecursion P (xs ++ ys) → AllByRecursion P ys
all_back P [] ys h = h
all_back P (x ∷ xs) ys (h, hs) = all_back P xs ys hs

-- what is written elsewhere stays
get_unset : {X : Type 0} (xs : List X) (i k : ℕ) (x y : X) → i < k → slice_get xs k ≡ Some y → slice_get (slice_set xs i x) k ≡ Some y
get_unset [] i k x y l h = absurd (cc)
get_unset (z ∷ xs) zero zero x y l h = absurd (omega (arith, l))
get_unset (z ∷ xs) zero (suc k) x y l h = h
get_unset (z ∷ xs) (suc i) zero x y l h = absurd (omega (arith, l))
get_unset (z ∷ xs) (suc i) (suc k) x y l h = get_unset xs i k x y (omega (arith, l)) h

get_seam : {X : Type 0} (xs : List X) (x : X) (ys : List X) → slice_get (xs ++ x ∷ ys) (length xs) ≡ Some x
get_seam [] x ys = refl
get_seam (z ∷ xs) x ys = get_seam xs x ys

drop_front : {X : Type 0} (n m : ℕ) (xs ys zs : List X) → m ≡ n + length ys → drop n xs ≡ ys ++ zs → drop m xs ≡ zs
drop_front zero m xs ys zs l e = let f : m ≡ length ys = omega (arith, l) in rw f (rw e (drop-append_seam ys zs))
drop_front (suc n) zero xs ys zs l e = absurd (omega (arith, l))
drop_front (suc n) (suc m) [] [] zs l e = e
drop_front (suc n) (suc m) [] (y ∷ ys) zs l e = absurd (cc)
drop_front (suc n) (suc m) (x ∷ xs) ys zs l e = drop_front n m xs ys zs (omega (arith, l)) e

names_grow : (keys more : List Key) (t : Table) (s : Scope) (is : Items) → Begins keys more → HasNames keys t s is → HasNames more t s is
names_grow keys more t s is g h name there = let d = h name there in (d.0, d.1, get_begins keys more _ _ g d.2)

pub fits_grows : (keys more : List Key) (inner outer : Table) (s : Scope) → Begins keys more → Fits keys inner outer s → Fits more inner outer s
fits_grows keys more inner outer [] g h = tt
fits_grows keys more inner outer (is ∷ []) g h = names_grow keys more inner [] is g h
fits_grows keys more inner outer (is ∷ js ∷ s) g h = (names_grow keys more inner (js ∷ s) is g h.0, names_grow keys more outer s js g h.1)

module _ (fs : List SchemaFile) (places : List ℕ) where
  abbrev Ready : List Key → Table → Table → State → Scope → List ℕ → List Part → Type 0
  Ready = IsReady fs places

  abbrev Walked : List Key → List Key → State → State → List ℕ → List Part → Type 0
  Walked = IsWalked fs places

  -- the parts in a part
  pub ready_inside : (keys : List Key) (inner outer : Table) (old : State) (s : Scope) (ats : List ℕ) (x : Part) (xs : List Part) → Ready keys inner outer old s ats (x ∷ xs) → Ready keys inner outer old s ats xs
  ready_inside keys inner outer old s ats x xs r = record { fits = r.fits; keyed = r.keyed; sound = r.sound.1; follows = r.follows; tokens = r.tokens }

  -- the first of several
  pub ready_first : (keys : List Key) (inner outer : Table) (old : State) (s : Scope) (ats bts : List ℕ) (xs ys : List Part) → Ready keys inner outer old s (ats ++ bts) (xs ++ ys) → Ready keys inner outer old s ats xs
  ready_first keys inner outer old s ats bts xs ys r = record {
    fits = r.fits;
    keyed = r.keyed;
    sound = all_front _ xs ys r.sound;
    follows = (bts ++ r.follows.0, r.follows.1 ∙ append_assoc ats bts r.follows.0);
    tokens = r.tokens;
  }

  -- those behind it, once it is walked
  pub ready_next : (keys more : List Key) (inner outer : Table) (old new : State) (s : Scope) (ats bts : List ℕ) (xs ys : List Part) →
      Ready keys inner outer old s (ats ++ bts) (xs ++ ys) → Walked keys more old new ats xs → Ready more inner outer new s bts ys
  ready_next keys more inner outer old new s ats bts xs ys r w = record {
    fits = fits_grows keys more inner outer s w.begun r.fits;
    keyed = w.keyed;
    sound = all_back _ xs ys r.sound;
    follows = (r.follows.0, drop_front (length old.elements) (length new.elements) places ats (bts ++ r.follows.0) w.counted (r.follows.1 ∙ append_assoc ats bts r.follows.0));
    tokens = w.tokens ∙ r.tokens;
  }

  pub tokens_grow : (nodes further : List Node) (keys more : List Key) → Begins nodes further → Begins keys more → (n : ℕ) (is : List ℕ) (ts : List ElementToken) →
      ShowTokens fs places nodes keys n is ts → ShowTokens fs places further more n is ts
  tokens_grow nodes further keys more g h n [] [] w = tt
  tokens_grow nodes further keys more g h n [] (t ∷ ts) w = absurd w
  tokens_grow nodes further keys more g h n (i ∷ is) [] w = absurd w
  tokens_grow nodes further keys more g h n (i ∷ is) (t ∷ ts) w = (shows_grows fs nodes further keys more g h w.0, w.1, tokens_grow nodes further keys more g h (suc n) is ts w.2)

  tokens_then : (nodes : List Node) (keys : List Key) (n m : ℕ) (is js : List ℕ) (ts us : List ElementToken) → m ≡ n + length is →
      ShowTokens fs places nodes keys n is ts → ShowTokens fs places nodes keys m js us → ShowTokens fs places nodes keys n (is ++ js) (ts ++ us)
  tokens_then nodes keys n m [] js [] us e w v = let f : m ≡ n = omega (arith, e) in subst (λ k. ShowTokens fs places nodes keys k js us) f v
  tokens_then nodes keys n m [] js (t ∷ ts) us e w v = absurd w
  tokens_then nodes keys n m (i ∷ is) js [] us e w v = absurd w
  tokens_then nodes keys n m (i ∷ is) js (t ∷ ts) us e w v = (w.0, w.1, tokens_then nodes keys (suc n) m is js ts us (omega (arith, e)) w.2 v)

  -- nothing is walked
  pub walked_none : (keys : List Key) (old : State) → length keys ≡ length old.definitions → Walked keys keys old old [] []
  walked_none keys old e = record {
    begun = begins_same keys;
    nodes = begins_same old.nodes;
    definitions = begins_same old.definitions;
    keyed = e;
    combined = λ d k l h. absurd (let m = slice_get_within keys d k h in omega (arith, l, m));
    elements = ([], sym (append-nil old.elements), tt);
    counted = omega arith;
    owned = λ a m j d l h. absurd (let b = slice_get_within old.nodes a _ h in omega (arith, l, b));
    references = sym (append-nil (filter_map place_of_node old.nodes));
    tokens = refl;
  }

  combined_then : (a b c : List Key) (n m : ℕ) (mid new : State) → n ≡ length a → m ≡ length b → Begins b c → Begins mid.nodes new.nodes → Begins mid.definitions new.definitions →
      AreCombinedFrom fs places n mid.nodes b mid.definitions → AreCombinedFrom fs places m new.nodes c new.definitions → AreCombinedFrom fs places n new.nodes c new.definitions
  combined_then a b c n m mid new e f g nodes definitions w v d k l h =
      elim (nat_lt d m) as (λ r. nat_lt d m ≡ r → (i : ℕ) × (slice_get new.definitions d ≡ Some i) × Shows fs new.nodes c i (k.items ∷ k.scope) (defined k.name k.items)) [
        | true ↦ λ r. before (ltb-true d m r)
        | false ↦ λ r. v d k (ltb-false d m r) h
      ] refl
    where
      before : d < m → (i : ℕ) × (slice_get new.definitions d ≡ Some i) × Shows fs new.nodes c i (k.items ∷ k.scope) (defined k.name k.items)
      before less =
          let there : slice_get b d ≡ Some k = get_before b c d k g h (omega (arith, less, f)) in
          let x = w d k l there in
          (x.0, get_begins mid.definitions new.definitions d x.0 definitions x.1, shows_grows fs mid.nodes new.nodes b c nodes g x.2)

  owned_then : (i b n m : ℕ) (mid new : State) → b ≡ length mid.nodes → n ≤ m → Begins mid.nodes new.nodes → Begins mid.elements new.elements →
      AreOwnedFrom fs places i n mid.nodes mid.elements → AreOwnedFrom fs places b m new.nodes new.elements → AreOwnedFrom fs places i n new.nodes new.elements
  owned_then i b n m mid new e less nodes elements w v a k j d l h =
      elim (nat_lt a b) as (λ r. nat_lt a b ≡ r → (c : ℕ) × (n ≤ c) × (slice_get new.elements c ≡ Some a) × (k ≡ number_at places c)) [
        | true ↦ λ r. let lt = ltb-true a b r in
            let x = w a k j d l (get_before mid.nodes new.nodes a _ nodes h (omega (arith, lt, e))) in (x.0, x.1, get_begins mid.elements new.elements x.0 a elements x.2, x.3)
        | false ↦ λ r. let x = v a k j d (ltb-false a b r) h in let y = x.1 in (x.0, omega (arith, y, less), x.2, x.3)
      ] refl

  -- a node more that is no token's
  owned_other : (i n : ℕ) (nodes : List Node) (elements : List ℕ) (node : Node) → ((m j : ℕ) (c : NameClass) → node ≡ Node.Element m c j → ⊥) →
      AreOwnedFrom fs places i n nodes elements → AreOwnedFrom fs places i n (nodes ++ node ∷ []) elements
  owned_other i n nodes elements node other w a m j d l h =
      elim (nat_lt a (length nodes)) as (λ r. nat_lt a (length nodes) ≡ r → (c : ℕ) × (n ≤ c) × (slice_get elements c ≡ Some a) × (m ≡ number_at places c)) [
        | true ↦ λ r. w a m j d l (get_in_front nodes (node ∷ []) a _ h (ltb-true a (length nodes) r))
        | false ↦ λ r. absurd (other m j d (last (ltb-false a (length nodes) r)))
      ] refl
    where
      last : length nodes ≤ a → node ≡ Node.Element m d j
      last k =
          let b = slice_get_within (nodes ++ node ∷ []) a _ h in let c : length (nodes ++ node ∷ []) ≡ length nodes + 1 = length-append nodes (node ∷ []) in
          let e : a ≡ length nodes = omega (arith, k, b, c) in
          let f = rw e at h in
          let g : Some node ≡ Some (Node.Element m d j) = sym (get_last nodes node) ∙ f in cc

  -- one behind the other
  pub walked_then : (a b c : List Key) (old mid new : State) (ats bts : List ℕ) (xs ys : List Part) → Walked a b old mid ats xs → Walked b c mid new bts ys → Walked a c old new (ats ++ bts) (xs ++ ys)
  walked_then a b c old mid new ats bts xs ys w v = record {
    begun = begins_then a b c w.begun v.begun;
    nodes = begins_then old.nodes mid.nodes new.nodes w.nodes v.nodes;
    definitions = begins_then old.definitions mid.definitions new.definitions w.definitions v.definitions;
    keyed = v.keyed;
    combined = combined_then a b c (length a) (length b) mid new refl refl v.begun v.nodes v.definitions w.combined v.combined;
    elements = (
      w.elements.0 ++ v.elements.0,
      v.elements.1 ∙ ap (λ l. l ++ v.elements.0) w.elements.1 ∙ append_assoc old.elements w.elements.0 v.elements.0,
      (let e : tokens_of (xs ++ ys) ≡ tokens_of xs ++ tokens_of ys = filter_map-append (λ x. token_at x.scope x.pattern) xs ys in
          let n : length mid.elements ≡ length old.elements + length w.elements.0 = ap length w.elements.1 ∙ length-append old.elements w.elements.0 in
          rw e (tokens_then new.nodes c (length old.elements) (length mid.elements) w.elements.0 v.elements.0 (tokens_of xs) (tokens_of ys) n
          (tokens_grow mid.nodes new.nodes b c v.nodes v.begun (length old.elements) w.elements.0 (tokens_of xs) w.elements.2) v.elements.2)),
    );
    counted = let e = length-append ats bts in omega (arith, w.counted, v.counted, e);
    owned = owned_then (length old.nodes) (length mid.nodes) (length old.elements) (length mid.elements) mid new refl (begins_length old.elements mid.elements (w.elements.0, w.elements.1)) v.nodes (v.elements.0, v.elements.1) w.owned v.owned;
    references = v.references ∙ ap (λ l. l ++ filter_map place_of_part ys) w.references ∙ append_assoc (filter_map place_of_node old.nodes) (filter_map place_of_part xs) (filter_map place_of_part ys) ∙ ap (λ l. filter_map place_of_node old.nodes ++ l) (sym (filter_map-append place_of_part xs ys));
    tokens = v.tokens ∙ w.tokens;
  }

  -- a node is added for a part that is no token and no reference
  pub walked_node : (keys more : List Key) (old new : State) (ats : List ℕ) (xs : List Part) (x : Part) (node : Node) →
      token_at x.scope x.pattern ≡ None → place_of_node node ≡ None → place_of_part x ≡ None → ((m j : ℕ) (c : NameClass) → node ≡ Node.Element m c j → ⊥) →
      Walked keys more old new ats xs → Walked keys more old (record new { nodes = new.nodes ++ node ∷ [] }) ats (x ∷ xs)
  walked_node keys more old new ats xs x node none m n other w = record {
    begun = w.begun;
    nodes = begins_then old.nodes new.nodes (new.nodes ++ node ∷ []) w.nodes further;
    definitions = w.definitions;
    keyed = w.keyed;
    combined = λ d k l h. let c = w.combined d k l h in (c.0, c.1, shows_grows fs new.nodes (new.nodes ++ node ∷ []) more more further same c.2);
    elements = (
      w.elements.0,
      w.elements.1,
      (let e : tokens_of (x ∷ xs) ≡ tokens_of xs = ap (λ o. cons_option o (tokens_of xs)) none in
          rw e (tokens_grow new.nodes (new.nodes ++ node ∷ []) more more further same (length old.elements) w.elements.0 (tokens_of xs) w.elements.2)),
    );
    counted = w.counted;
    owned = owned_other (length old.nodes) (length old.elements) new.nodes new.elements node other w.owned;
    references = filter_map-append place_of_node new.nodes (node ∷ []) ∙ ap (λ o. filter_map place_of_node new.nodes ++ cons_option o []) m ∙ append-nil (filter_map place_of_node new.nodes) ∙ w.references
        ∙ ap (λ o. filter_map place_of_node old.nodes ++ cons_option o (filter_map place_of_part xs)) (sym n);
    tokens = w.tokens;
  }
    where
      further : Begins new.nodes (new.nodes ++ node ∷ [])
      further = begins_more new.nodes (node ∷ [])

      same : Begins more more
      same = begins_same more

  -- the node of a reference is added
  pub walked_reference : (keys : List Key) (old : State) (x : Part) (node : Node) → length keys ≡ length old.definitions →
      token_at x.scope x.pattern ≡ None → place_of_node node ≡ place_of_part x → ((m j : ℕ) (c : NameClass) → node ≡ Node.Element m c j → ⊥) →
      Walked keys keys old (record old { nodes = old.nodes ++ node ∷ [] }) [] (x ∷ [])
  walked_reference keys old x node e none m other = record {
    begun = begins_same keys;
    nodes = begins_more old.nodes (node ∷ []);
    definitions = begins_same old.definitions;
    keyed = e;
    combined = λ d k l h. absurd (let b = slice_get_within keys d k h in omega (arith, l, b));
    elements = ([], sym (append-nil old.elements), (let e : tokens_of (x ∷ []) ≡ [] = ap (λ o. cons_option o []) none in rw e tt));
    counted = omega arith;
    owned = owned_other (length old.nodes) (length old.elements) old.nodes old.elements node other (λ a k j d l h. absurd (let b = slice_get_within old.nodes a _ h in omega (arith, l, b)));
    references = filter_map-append place_of_node old.nodes (node ∷ []) ∙ ap (λ o. filter_map place_of_node old.nodes ++ cons_option o []) m;
    tokens = refl;
  }

  -- the node of a token is added
  pub walked_element : (keys more : List Key) (old new : State) (ats : List ℕ) (xs : List Part) (s : Scope) (c : Class) (p : Pattern) (at n j : ℕ) (d : NameClass) →
      n ≡ number_at places (length old.elements) →
      Walked keys more (record old { elements = old.elements ++ 0 ∷ [] }) new ats xs →
      Shows fs (new.nodes ++ Node.Element n d j ∷ []) more (length new.nodes) s (full.element c p n) →
      Walked keys more old (record new { nodes = new.nodes ++ Node.Element n d j ∷ []; elements = slice_set new.elements (length old.elements) (length new.nodes) }) (at ∷ ats) (part s (full.element c p n) ∷ xs)
  walked_element keys more old new ats xs s c p at n j d number w shown = record {
    begun = w.begun;
    nodes = begins_then old.nodes new.nodes (new.nodes ++ node ∷ []) w.nodes further;
    definitions = w.definitions;
    keyed = w.keyed;
    combined = λ d k l h. let c = w.combined d k l h in (c.0, c.1, shows_grows fs new.nodes (new.nodes ++ node ∷ []) more more further same c.2);
    elements = (
      length new.nodes ∷ w.elements.0,
      written,
      (
        shown,
        number,
        (let f : length (old.elements ++ 0 ∷ []) ≡ suc (length old.elements) = one in
            subst (λ k. ShowTokens fs places (new.nodes ++ node ∷ []) more k w.elements.0 (tokens_of xs)) f
            (tokens_grow new.nodes (new.nodes ++ node ∷ []) more more further same (length (old.elements ++ 0 ∷ [])) w.elements.0 (tokens_of xs) w.elements.2)),
      ),
    );
    counted = let f : length (slice_set new.elements (length old.elements) (length new.nodes)) ≡ length new.elements = length-set new.elements (length old.elements) (length new.nodes) in
        let g : length new.elements ≡ length (old.elements ++ 0 ∷ []) + length ats = w.counted in let h = one in omega (arith, f, g, h);
    owned = owned;
    references = filter_map-append place_of_node new.nodes (node ∷ []) ∙ append-nil (filter_map place_of_node new.nodes) ∙ w.references;
    tokens = w.tokens;
  }
    where
      node : Node
      node = Node.Element n d j

      further : Begins new.nodes (new.nodes ++ node ∷ [])
      further = begins_more new.nodes (node ∷ [])

      same : Begins more more
      same = begins_same more

      one : length (old.elements ++ 0 ∷ []) ≡ suc (length old.elements)
      one = let e = length-append old.elements (0 ∷ []) in omega (arith, e)

      written : slice_set new.elements (length old.elements) (length new.nodes) ≡ old.elements ++ (length new.nodes ∷ w.elements.0)
      written = ap (λ l. slice_set l (length old.elements) (length new.nodes)) (w.elements.1 ∙ append_assoc old.elements (0 ∷ []) w.elements.0) ∙ set-append_seam old.elements 0 w.elements.0 (length new.nodes)

      owned : AreOwnedFrom fs places (length old.nodes) (length old.elements) (new.nodes ++ node ∷ []) (slice_set new.elements (length old.elements) (length new.nodes))
      owned a m i e l h =
          elim (nat_lt a (length new.nodes)) as (λ r. nat_lt a (length new.nodes) ≡ r → (k : ℕ) × (length old.elements ≤ k) × (slice_get (slice_set new.elements (length old.elements) (length new.nodes)) k ≡ Some a) × (m ≡ number_at places k)) [
            | true ↦ λ r. before (ltb-true a (length new.nodes) r)
            | false ↦ λ r. last (ltb-false a (length new.nodes) r)
          ] refl
        where
          before : a < length new.nodes → (k : ℕ) × (length old.elements ≤ k) × (slice_get (slice_set new.elements (length old.elements) (length new.nodes)) k ≡ Some a) × (m ≡ number_at places k)
          before less =
              let x = w.owned a m i e l (get_in_front new.nodes (node ∷ []) a _ h less) in
              let b = x.1 in let c = one in
              (x.0, omega (arith, b, c), get_unset new.elements (length old.elements) x.0 (length new.nodes) a (omega (arith, b, c)) x.2, x.3)

          last : length new.nodes ≤ a → (k : ℕ) × (length old.elements ≤ k) × (slice_get (slice_set new.elements (length old.elements) (length new.nodes)) k ≡ Some a) × (m ≡ number_at places k)
          last k =
              let b = slice_get_within (new.nodes ++ node ∷ []) a _ h in let c : length (new.nodes ++ node ∷ []) ≡ length new.nodes + 1 = length-append new.nodes (node ∷ []) in
              let f : a ≡ length new.nodes = omega (arith, k, b, c) in
              let g = rw f at h in
              let same : Some node ≡ Some (Node.Element m e i) = sym (get_last new.nodes node) ∙ g in
              let number_is : n ≡ m = cc in
              (length old.elements, omega arith, rw (written, f) (get_seam old.elements (length new.nodes) w.elements.0), sym number_is ∙ number)
