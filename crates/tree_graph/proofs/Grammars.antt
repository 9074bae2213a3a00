-- A walk through a grammar: numbers for its definitions, its items, and what is combined of them.
use Rattle.std.proofs.Common.{◌≡◌, ℕ, suc, ◌+◌, ◌<◌, ◌≤◌, true, false, nat_lt, inl, inr, List, [], ◌∷◌, ◌++◌, length, map, Some, None, refl, sym, ap, ◌∙◌, subst, arith, length-append}
use Rattle.std.specs.Prelude.{slice_get}
use Rattle.std.proofs.lemmas.Bool.{ltb-true, ltb-false}
use Rattle.std.proofs.lemmas.Option.{same_Some, slice_get_within}
use Rattle.grammar_laws.specs.Trees.{Pattern, Items}
use Rattle.grammar_laws.specs.Trees as full
use Rattle.grammar_laws.specs.Files.{SchemaFile}
use Rattle.simple_form_laws.specs.Parts.{Scope, part, entries, entries_of, defined, parts_of_items}
use Rattle.simple_form_laws.specs.Forms.{places_in_items, tokens_of}
use Rattle.simple_form_laws.specs.Faults.{is_empty_list}
use Rattle.schema_graph.specs.declared.node.Node.{Node}
use Rattle.schema_graph.specs.Shown.{Key, key, Shows}
use Rattle.schema_graph.specs.Shown as by
use Rattle.tree_graph.specs.declared.entry.Entry.{Entry}
use Rattle.tree_graph.specs.States.{State, Begins, Reserved}
use Rattle.tree_graph.specs.Numbers.{number_at}
use Rattle.tree_graph.specs.Tables.{Table, HasNames, Fits, keys_of, with_entries}
use Rattle.tree_graph.specs.Combined.{AreEntries, AreDefined}
use Rattle.tree_graph.specs.Walks.{IsReady, IsPatternReady, IsMade, AreItemsReady, AreItemsWalked, IsGrammarReady, IsGrammarWalked, ShowEntries, items_at_hand}
use Rattle.tree_graph.proofs.Lists.{begins_same, begins_more, begins_then, begins_length, get_begins, get_before}
use Rattle.tree_graph.proofs.Growth.{shows_grows}
use Rattle.tree_graph.proofs.Steps.{fits_grows, ready_inside, tokens_grow}
use Rattle.tree_graph.proofs.Made.{made, within_definition}
use Rattle.tree_graph.proofs.Keys.{numbered_names, names_fit, names_there, entries_ready, own_combined}

-- a list that has the same at the front
begins_kept : (xs more zs : List ℕ) → ((d : ℕ) → d < length xs → slice_get zs d ≡ slice_get (xs ++ more) d) → Begins xs zs
begins_kept [] more zs h = (zs, refl)
begins_kept (x ∷ xs) more [] h = absurd (let e = h 0 (omega arith) in cc)
begins_kept (x ∷ xs) more (z ∷ zs) h =
    let e : z ≡ x = same_Some z x (h 0 (omega arith)) in
    let r = begins_kept xs more zs (λ d l. h (suc d) (omega (arith, l))) in
    (r.0, ap (λ y. y ∷ zs) e ∙ ap (λ l. x ∷ l) r.1)

as_many : {X Y : Type 0} (f : X → Y) (xs : List X) → length (map f xs) ≡ length xs
as_many f [] = refl
as_many f (x ∷ xs) = ap suc (as_many f xs)

-- what is reserved changes the definitions alone
reserved_is : (old mid : State) → Reserved old mid → mid ≡ record old { definitions = mid.definitions }
reserved_is old mid r =
    ap (λ n. record mid { nodes = n }) r.nodes ∙ ap (λ e. record mid { nodes = old.nodes; elements = e }) r.elements ∙ ap (λ t. record mid { nodes = old.nodes; elements = old.elements; tokens = t }) r.tokens

module _ (fs : List SchemaFile) (places : List ℕ) (inner : Table) (old : State) (is : Items) where
  abbrev hand : Items
  hand = items_at_hand places old is

  fits_inside : (outer t : Table) (keys : List Key) (s : Scope) → Fits keys inner outer s → HasNames keys t s hand → Fits keys t inner (hand ∷ s)
  fits_inside outer t keys [] f n = n
  fits_inside outer t keys (js ∷ []) f n = (n, f)
  fits_inside outer t keys (js ∷ ks ∷ s) f n = (n, f.0)

  module _ (t : Table) (definitions : List ℕ) (base : t.base ≡ length old.definitions) (named : t.names ≡ with_entries [] (entries is)) (counted : length definitions ≡ suc t.base + length t.names) (begins : Begins old.definitions definitions) where
    abbrev mid : State
    mid = record old { definitions = definitions }

    names_at_hand : t.names ≡ with_entries [] (entries hand)
    names_at_hand = named ∙ sym (numbered_names places (length old.elements) is)

    ready_within : (outer : Table) (s : Scope) (keys : List Key) → IsReady fs places keys inner outer old s (places_in_items is) (parts_of_items (hand ∷ s) hand) →
        IsReady fs places (keys ++ keys_of s hand t.names) t inner mid (hand ∷ s) (places_in_items is) (parts_of_items (hand ∷ s) hand)
    ready_within outer s keys r = record {
      fits = fits_inside outer t (keys ++ keys_of s hand t.names) s (fits_grows keys (keys ++ keys_of s hand t.names) inner outer s (begins_more keys (keys_of s hand t.names)) r.fits) (names_fit keys s hand t (base ∙ sym r.keyed) names_at_hand);
      keyed = let e = length-append keys (keys_of s hand t.names) in let f = as_many (λ name. key s hand (Some name)) t.names in let k = r.keyed in omega (arith, e, f, k, base, counted);
      sound = r.sound;
      follows = r.follows;
      tokens = r.tokens;
    }

    within_ready : IsGrammarReady fs places inner old is → AreItemsReady fs places t inner mid is
    within_ready ready = (names_there is t named, (hand ∷ ready.1.0, (ready.1.1.0 ++ keys_of ready.1.0 hand t.names, ready_within ready.0 ready.1.0 ready.1.1.0 ready.1.1.1)))

    module _ (last new : State) (ws : List Entry) (start : is_empty_list (entries_of None hand) ≡ false) (walked : AreItemsWalked fs places t inner mid last is [] ws) where
      within_entries : IsGrammarReady fs places inner old is → AreEntries t.base (suc (length t.names)) (length last.nodes) ws
      within_entries ready =
          let w = walked (hand ∷ ready.1.0) (ready.1.1.0 ++ keys_of ready.1.0 hand t.names) (ready_within ready.0 ready.1.0 ready.1.1.0 ready.1.1.1) in
          let shown = subst (λ l. ShowEntries fs places last.nodes w.0 t (hand ∷ ready.1.0) l (entries hand)) (sym w.1.1.1.0) w.1.1.1.1 in
          entries_ready fs places last.nodes w.0 t (hand ∷ ready.1.0) hand ws names_at_hand start shown

      within_definitions : IsGrammarReady fs places inner old is → t.base + length t.names < length last.definitions
      within_definitions ready =
          let w = walked (hand ∷ ready.1.0) (ready.1.1.0 ++ keys_of ready.1.0 hand t.names) (ready_within ready.0 ready.1.0 ready.1.1.0 ready.1.1.1) in
          let l = begins_length definitions last.definitions w.1.0.definitions in
          omega (arith, l, counted)

      within_walked : AreDefined t.base (suc (length t.names)) ws last new → IsGrammarWalked fs places inner old new is t.base
      within_walked d outer s keys r =
          let keys_here = keys ++ keys_of s hand t.names in
          let w = walked (hand ∷ s) keys_here (ready_within outer s keys r) in
          let v = w.1.0 in
          let shown = subst (λ l. ShowEntries fs places last.nodes w.0 t (hand ∷ s) l (entries hand)) (sym w.1.1.1.0) w.1.1.1.1 in
          let same : t.base ≡ length keys = base ∙ sym r.keyed in
          let many : length keys_here ≡ length keys + suc (length t.names) = (let e = length-append keys (keys_of s hand t.names) in let f = as_many (λ name. key s hand (Some name)) t.names in omega (arith, e, f)) in (
            w.0,
            (
              record {
                begun = begins_then keys keys_here w.0 (begins_more keys (keys_of s hand t.names)) v.begun;
                nodes = begins_then old.nodes last.nodes new.nodes v.nodes d.nodes;
                definitions = stays v.definitions d;
                keyed = v.keyed ∙ sym d.counted;
                combined = λ n k l h.
                    elim (nat_lt n (length keys + suc (length t.names))) as (λ q. nat_lt n (length keys + suc (length t.names)) ≡ q → (i : ℕ) × (slice_get new.definitions n ≡ Some i) × Shows fs new.nodes w.0 i (k.items ∷ k.scope) (defined k.name k.items)) [
                      | true ↦ λ q. own_combined fs places last new keys w.0 t s hand ws same names_at_hand start v.begun shown d n k l (ltb-true n (length keys + suc (length t.names)) q) h
                      | false ↦ λ q.
                          let high = ltb-false n (length keys + suc (length t.names)) q in
                          let c = v.combined n k (omega (arith, high, many)) h in
                          (c.0, d.kept n (inr (omega (arith, high, same))) ∙ c.1, shows_grows fs last.nodes new.nodes w.0 w.0 d.nodes (begins_same w.0) c.2)
                    ] refl;
                elements = (
                  v.elements.0,
                  d.elements ∙ v.elements.1,
                  tokens_grow fs places last.nodes new.nodes w.0 w.0 d.nodes (begins_same w.0) (length old.elements) v.elements.0 (tokens_of (parts_of_items (hand ∷ s) hand)) v.elements.2,
                );
                counted = ap length d.elements ∙ v.counted;
                owned = λ a m j c l h.
                    elim (nat_lt a (length last.nodes)) as (λ q. nat_lt a (length last.nodes) ≡ q → (k : ℕ) × (length old.elements ≤ k) × (slice_get new.elements k ≡ Some a) × (m ≡ number_at places k)) [
                      | true ↦ λ q.
                          let x = v.owned a m j c l (get_before last.nodes new.nodes a (Node.Element m c j) d.nodes h (ltb-true a (length last.nodes) q)) in
                          (x.0, x.1, ap (λ es. slice_get es x.0) d.elements ∙ x.2, x.3)
                      | false ↦ λ q. absurd (d.others a m j c (ltb-false a (length last.nodes) q) h)
                    ] refl;
                references = d.references ∙ v.references;
                tokens = d.tokens ∙ v.tokens;
              },
              get_begins keys_here w.0 t.base (key s hand None) v.begun (start_key s keys same),
            ),
          )
        where
          stays : Begins definitions last.definitions → AreDefined t.base (suc (length t.names)) ws last new → Begins old.definitions new.definitions
          stays g e =
              let f = begins_then old.definitions definitions last.definitions begins g in
              begins_kept old.definitions f.0 new.definitions (λ n l. e.kept n (inl (omega (arith, l, base))) ∙ ap (λ ds. slice_get ds n) f.1)

          start_key : (s : Scope) (keys : List Key) → t.base ≡ length keys → slice_get (keys ++ keys_of s hand t.names) t.base ≡ Some (key s hand None)
          start_key s keys same = subst (λ n. slice_get (keys ++ keys_of s hand t.names) n ≡ Some (key s hand None)) (sym same) (seam keys (key s hand None) (map (λ name. key s hand (Some name)) t.names))
            where
              seam : (xs : List Key) (x : Key) (ys : List Key) → slice_get (xs ++ x ∷ ys) (length xs) ≡ Some x
              seam [] x ys = refl
              seam (z ∷ xs) x ys = seam xs x ys

  -- the node of a grammar
  pub made_grammar : (outer : Table) (new : State) (d : ℕ) → IsPatternReady fs places inner outer old (full.grammar is) → IsGrammarWalked fs places inner old new is d → IsMade fs places inner outer old new (full.grammar is) (Node.Grammar d)
  made_grammar outer new d ready walked =
      made fs places inner outer old new (full.grammar is) (Node.Grammar d) (λ s. parts_of_items (hand ∷ s) hand) (λ nodes keys s. slice_get keys d ≡ Some (key s hand None)) (λ nodes further keys s g w. w) (λ s. refl) (λ s. refl) refl (λ s. refl) (λ m j c e. cc)
      (λ nodes keys i s h w. by.grammar h w)
      (λ keys s e w. within_definition (length new.nodes) (length new.definitions) new.tokens (Node.Grammar d) d tt refl refl (λ m j c f. cc) (let l = slice_get_within keys d (key s hand None) w in omega (arith, l, e))) ready
      (λ s keys r. walked outer s keys r)

  pub ready_grammar : (outer : Table) → IsPatternReady fs places inner outer old (full.grammar is) → IsGrammarReady fs places inner old is
  ready_grammar outer r = (outer, (r.0, (r.1.0, ready_inside fs places r.1.0 inner outer old r.0 (places_in_items is) (part r.0 (full.grammar hand)) (parts_of_items (hand ∷ r.0) hand) r.1.1)))

-- the same where numbers were reserved
module _ (fs : List SchemaFile) (places : List ℕ) (inner : Table) (old mid : State) (is : Items) (t : Table) (table : t ≡ record { base = length old.definitions; names = with_entries [] (entries is) }) (counted : length mid.definitions ≡ suc t.base + length t.names) (r : Reserved old mid) where
  pub grammar_items : IsGrammarReady fs places inner old is → AreItemsReady fs places t inner mid is
  grammar_items ready =
      subst (λ z. AreItemsReady fs places t inner z is) (sym (reserved_is old mid r))
      (within_ready fs places inner old is t mid.definitions (ap (λ x. x.base) table) (ap (λ x. x.names) table) counted r.definitions ready)

  pub grammar_entries : (last : State) (ws : List Entry) → is_empty_list (entries_of None (items_at_hand places old is)) ≡ false → AreItemsWalked fs places t inner mid last is [] ws → IsGrammarReady fs places inner old is →
      AreEntries t.base (suc (length t.names)) (length last.nodes) ws
  grammar_entries last ws start walked =
      within_entries fs places inner old is t mid.definitions (ap (λ x. x.base) table) (ap (λ x. x.names) table) counted r.definitions last last ws start
      (subst (λ z. AreItemsWalked fs places t inner z last is [] ws) (reserved_is old mid r) walked)

  pub grammar_definitions : (last : State) (ws : List Entry) → is_empty_list (entries_of None (items_at_hand places old is)) ≡ false → AreItemsWalked fs places t inner mid last is [] ws → IsGrammarReady fs places inner old is →
      t.base + length t.names < length last.definitions
  grammar_definitions last ws start walked =
      within_definitions fs places inner old is t mid.definitions (ap (λ x. x.base) table) (ap (λ x. x.names) table) counted r.definitions last last ws start
      (subst (λ z. AreItemsWalked fs places t inner z last is [] ws) (reserved_is old mid r) walked)

  pub grammar_walked : (last new : State) (ws : List Entry) → is_empty_list (entries_of None (items_at_hand places old is)) ≡ false → AreItemsWalked fs places t inner mid last is [] ws → AreDefined t.base (suc (length t.names)) ws last new →
      IsGrammarWalked fs places inner old new is t.base
  grammar_walked last new ws start walked =
      within_walked fs places inner old is t mid.definitions (ap (λ x. x.base) table) (ap (λ x. x.names) table) counted r.definitions last new ws start
      (subst (λ z. AreItemsWalked fs places t inner z last is [] ws) (reserved_is old mid r) walked)
