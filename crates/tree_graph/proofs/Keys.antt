-- The combined definitions of a grammar, by their keys.
use Rattle.std.proofs.Common.{◌≡◌, ℕ, zero, suc, ◌+◌, ◌-◌, ◌<◌, ◌≤◌, Bool, true, false, cond, if◌then◌else◌, List, [], ◌∷◌, ◌++◌, length, map, get_or, Option, Some, None, refl, sym, ap, ◌∙◌, subst, arith}
use Rattle.std.specs.Prelude.{◌≢◌, ◌==◌, ◌||◌, option_map, slice_get, filter}
use Rattle.std.specs.List.{list_any}
use Rattle.std.specs.Str.{bytes_eq}
use Rattle.std.proofs.lemmas.Bool.{eq-eqb, ne_eqb}
use Rattle.std.proofs.lemmas.List.{map-append}
use Rattle.std.proofs.lemmas.List.Folds.{list_any-append}
use Rattle.std.proofs.lemmas.Option.{slice_get-map, slice_get_within, slice_get-get_or, same_Some}
use Rattle.rng_model.specs.Texts.{Text}
use Rattle.grammar_laws.specs.Trees.{Pattern, Patterns, Items, no_item, more_items, Item, start, define, div, include}
use Rattle.grammar_laws.specs.Trees as full
use Rattle.grammar_laws.specs.Files.{SchemaFile}
use Rattle.simple_form_laws.specs.Parts.{Scope, Entry, entries, entries_in, entries_of, same_key, patterns_of_entries, is_interleave, defined}
use Rattle.simple_form_laws.specs.Forms.{numbered_items, numbered_item, places_in_item}
use Rattle.simple_form_laws.specs.Faults.{is_empty_list}
use Rattle.schema_graph.specs.declared.node.Node.{Node}
use Rattle.schema_graph.specs.Shown.{Key, key, Shows, ShowEach}
use Rattle.schema_graph.specs.Shown as by
use Rattle.tree_graph.specs.declared.entry.Entry.{Entry as Walked}
use Rattle.tree_graph.specs.States.{State, Begins}
use Rattle.tree_graph.specs.Tables.{Table, number_of, with_name, with_entry, with_entries, HasNames, keys_of, AreNamed, AreDistinctNames}
use Rattle.tree_graph.specs.Combined.{entries_at, combined, AreEntries, AreDefined}
use Rattle.tree_graph.specs.Walks.{ShowEntries, definition_number}
use Rattle.tree_graph.proofs.Lists.{begins_same, get_begins}
use Rattle.tree_graph.proofs.Growth.{each_grows, shown_within}
use Rattle.tree_graph.proofs.Found.{same_text, equal_text, has, has_at, name_at, position_of, number_parts, one_number, entry_there, distinct_entries, none_distinct, all_named}

-- the names of numbered items are those of the items
with_by_names : (names : List Text) (es fs : List Entry) → map (λ (e : Entry). e.name) es ≡ map (λ (e : Entry). e.name) fs → with_entries names es ≡ with_entries names fs
with_by_names names [] [] h = refl
with_by_names names [] (f ∷ fs) h = absurd (cc)
with_by_names names (e ∷ es) [] h = absurd (cc)
with_by_names names (e ∷ es) (f ∷ fs) h =
    let n : e.name ≡ f.name = cc in let r : map (λ (x : Entry). x.name) es ≡ map (λ (x : Entry). x.name) fs = cc in
    ap (λ o. with_entries (with_entry names o) es) n ∙ with_by_names (with_entry names f.name) es fs r

module _ (places : List ℕ) where
  mutual
    items_names : (n : ℕ) (is : Items) → map (λ (e : Entry). e.name) (entries (numbered_items places n is)) ≡ map (λ (e : Entry). e.name) (entries is)
    items_names n no_item = refl
    items_names n (more_items i is) =
        map-append (λ (e : Entry). e.name) (entries_in (numbered_item places n i)) (entries (numbered_items places (n + length (places_in_item i)) is))
        ∙ ap (λ l. l ++ map (λ (e : Entry). e.name) (entries (numbered_items places (n + length (places_in_item i)) is))) (item_names n i)
        ∙ ap (λ l. map (λ (e : Entry). e.name) (entries_in i) ++ l) (items_names (n + length (places_in_item i)) is)
        ∙ sym (map-append (λ (e : Entry). e.name) (entries_in i) (entries is))

    item_names : (n : ℕ) (i : Item) → map (λ (e : Entry). e.name) (entries_in (numbered_item places n i)) ≡ map (λ (e : Entry). e.name) (entries_in i)
    item_names n (start m p at) = refl
    item_names n (define name m p at) = refl
    item_names n (div inner) = items_names n inner
    item_names n (include l passed inner at) = refl

  pub numbered_names : (n : ℕ) (is : Items) → with_entries [] (entries (numbered_items places n is)) ≡ with_entries [] (entries is)
  numbered_names n is = with_by_names [] (entries (numbered_items places n is)) (entries is) (items_names n is)

-- a name that is defined is found
some_defined : (name : Text) (es : List Entry) (names : List Text) → is_empty_list (filter (λ e. same_key (Some name) e.name) es) ≡ false → has name (with_entries names es) ≡ true
some_defined name [] names h = absurd (cc)
some_defined name (e ∷ es) names h = go (e.name) refl (some_defined name es (with_entry names e.name))
  where
    go : (o : Option Text) → e.name ≡ o → (is_empty_list (filter (λ x. same_key (Some name) x.name) es) ≡ false → has name (with_entries (with_entry names e.name) es) ≡ true) → has name (with_entries (with_entry names e.name) es) ≡ true
    go None f next = next (subst (λ o. is_empty_list (cond (same_key (Some name) o) (e ∷ filter (λ x. same_key (Some name) x.name) es) (filter (λ x. same_key (Some name) x.name) es)) ≡ false) f h)
    go (Some m) f next = here (bytes_eq name m) refl (subst (λ o. is_empty_list (cond (same_key (Some name) o) (e ∷ filter (λ x. same_key (Some name) x.name) es) (filter (λ x. same_key (Some name) x.name) es)) ≡ false) f h)
      where
        here : (b : Bool) → bytes_eq name m ≡ b → is_empty_list (cond b (e ∷ filter (λ x. same_key (Some name) x.name) es) (filter (λ x. same_key (Some name) x.name) es)) ≡ false → has name (with_entries (with_entry names e.name) es) ≡ true
        here true g k = let same : name ≡ m = same_text name m g in entry_there name e es names (f ∙ ap Some (sym same))
        here false g k = next k

not_added : (name added : Text) (names : List Text) → bytes_eq name added ≡ false → has name names ≡ false → has name (with_name names added) ≡ false
not_added name added names g h = by (has added names)
  where
    by : (b : Bool) → has name (if b then names else names ++ added ∷ []) ≡ false
    by true = h
    by false = list_any-append (bytes_eq name) names (added ∷ []) ∙ (rw (h, g) refl)

-- behind the keys that were there
get_behind : {X : Type 0} (xs ys : List X) (k d : ℕ) → d ≡ length xs + k → slice_get (xs ++ ys) d ≡ slice_get ys k
get_behind [] ys k d e = let f : d ≡ k = omega (arith, e) in ap (slice_get ys) f
get_behind (x ∷ xs) ys k zero e = absurd (omega (arith, e))
get_behind (x ∷ xs) ys k (suc d) e = get_behind xs ys k d (omega (arith, e))

named_key : (keys : List Key) (s : Scope) (is : Items) (t : Table) (i d : ℕ) (name : Text) → t.base ≡ length keys → d ≡ suc t.base + i → slice_get t.names i ≡ Some name → slice_get (keys ++ keys_of s is t.names) d ≡ Some (key s is (Some name))
named_key keys s is t i d name e f g =
    get_behind keys (keys_of s is t.names) (suc i) d (omega (arith, e, f)) ∙ slice_get-map (λ n. key s is (Some n)) t.names i ∙ ap (option_map (λ n. key s is (Some n))) g

start_key : (keys : List Key) (s : Scope) (is : Items) (t : Table) → t.base ≡ length keys → slice_get (keys ++ keys_of s is t.names) t.base ≡ Some (key s is None)
start_key keys s is t e = get_behind keys (keys_of s is t.names) 0 t.base (omega (arith, e))

pub names_fit : (keys : List Key) (s : Scope) (is : Items) (t : Table) → t.base ≡ length keys → t.names ≡ with_entries [] (entries is) → HasNames (keys ++ keys_of s is t.names) t s is
names_fit keys s is t e f name h =
    let p = position_of name t.names (rw f (some_defined name (entries is) [] h)) in
    (suc t.base + p.0, ap (option_map (λ i. suc t.base + i)) p.1.0, named_key keys s is t p.0 (suc t.base + p.0) name e refl p.1.1)

pub names_there : (is : Items) (t : Table) → t.names ≡ with_entries [] (entries is) → AreNamed t (entries is)
names_there is t f = all_named t [] (entries is) f

module _ (fs : List SchemaFile) (places : List ℕ) where
  -- the number of a name, or of the start
  abbrev IsNumber : Table → Option Text → ℕ → Type 0
  IsNumber t o d = definition_number fs places t o ≡ Some d

  -- two have one number if they are one
  alike_numbers : (t : Table) (name o : Option Text) (d w : ℕ) → IsNumber t name d → IsNumber t o w → (w == d) ≡ same_key name o
  alike_numbers t None None d w h k = let e : w ≡ d = cc in eq-eqb w d e
  alike_numbers t None (Some m) d w h k = let p = number_parts t m w k in let q = p.1.1 in let e : t.base ≡ d = same_Some t.base d h in ne_eqb w d (λ f. omega (arith, f, q, e))
  alike_numbers t (Some n) None d w h k = let p = number_parts t n d h in let q = p.1.1 in let e : t.base ≡ w = same_Some t.base w k in ne_eqb w d (λ f. omega (arith, f, q, e))
  alike_numbers t (Some n) (Some m) d w h k = go (bytes_eq n m) refl
    where
      go : (b : Bool) → bytes_eq n m ≡ b → (w == d) ≡ b
      go true e = let f : n ≡ m = same_text n m e in let g : Some d ≡ Some w = sym h ∙ ap (number_of t) f ∙ k in eq-eqb w d (same_Some w d (sym g))
      go false e = ne_eqb w d (λ f. other (one_number t n m d h (k ∙ ap Some f)))
        where
          other : n ≡ m → ⊥
          other f = let g : bytes_eq n m ≡ true = rw (← f) (equal_text n) in absurd (cc)

  within_table : (t : Table) (o : Option Text) (d : ℕ) → IsNumber t o d → (t.base ≤ d) × (d < t.base + suc (length t.names))
  within_table t None d h = let e : t.base ≡ d = same_Some t.base d h in (omega (arith, e), omega (arith, e))
  within_table t (Some n) d h =
      let p = number_parts t n d h in let q = p.1.1 in
      let l = slice_get_within t.names p.0 n (name_at n t.names p.0 p.1.0) in (omega (arith, q), omega (arith, q, l))

  module _ (nodes : List Node) (more : List Key) (t : Table) (s : Scope) where
    shown_definitions : (ws : List Walked) (es : List Entry) → ShowEntries fs places nodes more t s ws es → (i : ℕ) (w : Walked) → slice_get ws i ≡ Some w →
        ((t.base ≤ w.definition) × (w.definition < t.base + suc (length t.names))) × (w.node < length nodes)
    shown_definitions [] es h i w g = absurd (cc)
    shown_definitions (v ∷ ws) [] h i w g = absurd h
    shown_definitions (v ∷ ws) (e ∷ es) h zero w g =
        let same : v ≡ w = same_Some v w g in
        rw (← same) (within_table t e.name v.definition h.0, shown_within fs nodes more h.2)
    shown_definitions (v ∷ ws) (e ∷ es) h (suc i) w g = shown_definitions ws es h.3 i w g

    -- those of a definition are those of its name
    some_shown : (name : Option Text) (d : ℕ) → IsNumber t name d → (ws : List Walked) (es : List Entry) → ShowEntries fs places nodes more t s ws es →
        is_empty_list (filter (λ e. same_key name e.name) es) ≡ false → entries_at d ws ≢ []
    some_shown name d n [] [] h k = absurd (cc)
    some_shown name d n [] (e ∷ es) h k = absurd h
    some_shown name d n (w ∷ ws) [] h k = absurd h
    some_shown name d n (w ∷ ws) (e ∷ es) h k =
        go (same_key name e.name) (alike_numbers t name e.name d w.definition n h.0) k (some_shown name d n ws es h.3)
      where
        go : (b : Bool) → (w.definition == d) ≡ b → is_empty_list (cond b (e ∷ filter (λ x. same_key name x.name) es) (filter (λ x. same_key name x.name) es)) ≡ false →
            (is_empty_list (filter (λ x. same_key name x.name) es) ≡ false → entries_at d ws ≢ []) → entries_at d (w ∷ ws) ≢ []
        go true f k next = subst (λ c. cond c (w ∷ entries_at d ws) (entries_at d ws) ≢ []) (sym f) (λ g. absurd (cc))
        go false f k next = subst (λ c. cond c (w ∷ entries_at d ws) (entries_at d ws) ≢ []) (sym f) (next k)

    -- what a definition is combined of is what its key is combined of
    shown_alike : (name : Option Text) (d : ℕ) → IsNumber t name d → (ws : List Walked) (es : List Entry) → ShowEntries fs places nodes more t s ws es →
        (list_any (λ (w : Walked). w.interleaves) (entries_at d ws) ≡ list_any (λ e. is_interleave e.method) (filter (λ e. same_key name e.name) es))
        × ShowEach fs nodes more (map (λ (w : Walked). w.node) (entries_at d ws)) s (patterns_of_entries (filter (λ e. same_key name e.name) es))
    shown_alike name d n [] [] h = (refl, by.none)
    shown_alike name d n [] (e ∷ es) h = absurd h
    shown_alike name d n (w ∷ ws) [] h = absurd h
    shown_alike name d n (w ∷ ws) (e ∷ es) h =
        subst (λ c. (list_any (λ (x : Walked). x.interleaves) (cond c (w ∷ entries_at d ws) (entries_at d ws)) ≡ list_any (λ x. is_interleave x.method) (filter (λ x. same_key name x.name) (e ∷ es)))
        × ShowEach fs nodes more (map (λ (x : Walked). x.node) (cond c (w ∷ entries_at d ws) (entries_at d ws))) s (patterns_of_entries (filter (λ x. same_key name x.name) (e ∷ es))))
        (sym (alike_numbers t name e.name d w.definition n h.0)) (go (same_key name e.name) (shown_alike name d n ws es h.3))
      where
        kept : List Entry
        kept = filter (λ x. same_key name x.name) es

        go : (b : Bool) → (list_any (λ (x : Walked). x.interleaves) (entries_at d ws) ≡ list_any (λ x. is_interleave x.method) kept)
            × ShowEach fs nodes more (map (λ (x : Walked). x.node) (entries_at d ws)) s (patterns_of_entries kept) →
            (list_any (λ (x : Walked). x.interleaves) (cond b (w ∷ entries_at d ws) (entries_at d ws)) ≡ list_any (λ x. is_interleave x.method) (cond b (e ∷ kept) kept))
            × ShowEach fs nodes more (map (λ (x : Walked). x.node) (cond b (w ∷ entries_at d ws) (entries_at d ws))) s (patterns_of_entries (cond b (e ∷ kept) kept))
        go true r = (ap (λ b. b || list_any (λ (x : Walked). x.interleaves) (entries_at d ws)) h.1 ∙ ap (λ b. is_interleave e.method || b) r.0, by.more h.2 r.1)
        go false r = r

  -- each name of the table is an entry's
  origin : (t : Table) (i : ℕ) (name : Text) (es : List Entry) → t.names ≡ with_entries [] es → slice_get t.names i ≡ Some name → is_empty_list (filter (λ e. same_key (Some name) e.name) es) ≡ false
  origin t i name es f g = from [] es (rw f at (has_at name t.names i g)) refl
    where
      from : (names : List Text) (es : List Entry) → has name (with_entries names es) ≡ true → has name names ≡ false → is_empty_list (filter (λ e. same_key (Some name) e.name) es) ≡ false
      from names [] h k = absurd (cc)
      from names (e ∷ es) h k = go e.name refl (λ b l. from (with_entry names e.name) es b l)
        where
          go : (o : Option Text) → e.name ≡ o →
              (has name (with_entries (with_entry names e.name) es) ≡ true → has name (with_entry names e.name) ≡ false → is_empty_list (filter (λ x. same_key (Some name) x.name) es) ≡ false) →
              is_empty_list (cond (same_key (Some name) e.name) (e ∷ filter (λ x. same_key (Some name) x.name) es) (filter (λ x. same_key (Some name) x.name) es)) ≡ false
          go None q next = subst (λ o. is_empty_list (cond (same_key (Some name) o) (e ∷ filter (λ x. same_key (Some name) x.name) es) (filter (λ x. same_key (Some name) x.name) es)) ≡ false) (sym q) (next h (rw q k))
          go (Some m) q next = subst (λ o. is_empty_list (cond (same_key (Some name) o) (e ∷ filter (λ x. same_key (Some name) x.name) es) (filter (λ x. same_key (Some name) x.name) es)) ≡ false) (sym q) (here (bytes_eq name m) refl)
            where
              here : (b : Bool) → bytes_eq name m ≡ b → is_empty_list (cond b (e ∷ filter (λ x. same_key (Some name) x.name) es) (filter (λ x. same_key (Some name) x.name) es)) ≡ false
              here true g = refl
              here false g = next h (rw q (not_added name m names g k))

  number_at_position : (t : Table) (is : Items) (i : ℕ) → t.names ≡ with_entries [] (entries is) → i < length t.names → (name : Text) × ((slice_get t.names i ≡ Some name) × IsNumber t (Some name) (t.base + suc i))
  number_at_position t is i f l =
      let g : slice_get t.names i ≡ Some (get_or t.names i []) = slice_get-get_or t.names i [] l in
      let d : AreDistinctNames t.names = rw f (distinct_entries [] (entries is) none_distinct) in
      let e : suc t.base + i ≡ t.base + suc i = omega arith in
      (get_or t.names i [], (g, ap (option_map (λ j. suc t.base + j)) (d i (get_or t.names i []) g) ∙ ap Some e))

  pub entries_ready : (nodes : List Node) (more : List Key) (t : Table) (s : Scope) (is : Items) (ws : List Walked) → t.names ≡ with_entries [] (entries is) → is_empty_list (entries_of None is) ≡ false →
      ShowEntries fs places nodes more t s ws (entries is) → AreEntries t.base (suc (length t.names)) (length nodes) ws
  entries_ready nodes more t s is ws f begun h = record {
    definitions = λ i w g. (shown_definitions nodes more t s ws (entries is) h i w g).0;
    there = λ i w g. (shown_definitions nodes more t s ws (entries is) h i w g).1;
    some = some;
  }
    where
      some : (k : ℕ) → k < suc (length t.names) → entries_at (t.base + k) ws ≢ []
      some zero l = some_shown nodes more t s None (t.base + 0) (let e : t.base ≡ t.base + 0 = omega arith in ap Some e) ws (entries is) h begun
      some (suc i) l =
          let n = number_at_position t is i f (omega (arith, l)) in
          some_shown nodes more t s (Some n.0) (t.base + suc i) n.1.1 ws (entries is) h (origin t i n.0 (entries is) f n.1.0)

  -- the definitions of the grammar's own keys are what their keys stand for
  pub own_combined : (mid new : State) (keys more : List Key) (t : Table) (s : Scope) (is : Items) (ws : List Walked) → t.base ≡ length keys → t.names ≡ with_entries [] (entries is) → is_empty_list (entries_of None is) ≡ false →
      Begins (keys ++ keys_of s is t.names) more → ShowEntries fs places mid.nodes more t (is ∷ s) ws (entries is) → AreDefined t.base (suc (length t.names)) ws mid new →
      (d : ℕ) (k : Key) → length keys ≤ d → d < length keys + suc (length t.names) → slice_get more d ≡ Some k →
      (i : ℕ) × (slice_get new.definitions d ≡ Some i) × Shows fs new.nodes more i (k.items ∷ k.scope) (defined k.name k.items)
  own_combined mid new keys more t s is ws e f begun begins h w d k low high got = from (d - t.base) (omega (arith, low, e))
    where
      own : (name : Option Text) (m : ℕ) → d ≡ t.base + m → m < suc (length t.names) → IsNumber t name d → key s is name ≡ k →
          (i : ℕ) × (slice_get new.definitions d ≡ Some i) × Shows fs new.nodes more i (k.items ∷ k.scope) (defined k.name k.items)
      own name m at l n same =
          let c = w.each m (omega arith) l in
          let a = shown_alike mid.nodes more t (is ∷ s) name d n ws (entries is) h in
          let g : ShowEach fs new.nodes more (map (λ (x : Walked). x.node) (entries_at d ws)) (is ∷ s) (patterns_of_entries (entries_of name is)) = each_grows fs mid.nodes new.nodes more more w.nodes (begins_same more) a.1 in
          let shown : slice_get new.nodes c.0 ≡ Some (combined (entries_at d ws)) = subst (λ j. slice_get new.nodes c.0 ≡ Some (combined (entries_at j ws))) (sym at) c.2 in
          rw (← same) (c.0, ap (slice_get new.definitions) at ∙ c.1, one c.0 (list_any (λ (x : Walked). x.interleaves) (entries_at d ws)) (list_any (λ x. is_interleave x.method) (entries_of name is)) a.0 shown g)
        where
          one : (i : ℕ) (b c : Bool) → b ≡ c → slice_get new.nodes i ≡ Some (if b then Node.Interleave (map (λ (x : Walked). x.node) (entries_at d ws)) else Node.Choice (map (λ (x : Walked). x.node) (entries_at d ws))) →
              ShowEach fs new.nodes more (map (λ (x : Walked). x.node) (entries_at d ws)) (is ∷ s) (patterns_of_entries (entries_of name is)) →
              Shows fs new.nodes more i (is ∷ s) (if c then full.interleave (patterns_of_entries (entries_of name is)) else full.choice (patterns_of_entries (entries_of name is)))
          one i true true q there each = by.interleave there each
          one i true false q there each = absurd (cc)
          one i false true q there each = absurd (cc)
          one i false false q there each = by.choice there each

      from : (m : ℕ) → d ≡ t.base + m → (i : ℕ) × (slice_get new.definitions d ≡ Some i) × Shows fs new.nodes more i (k.items ∷ k.scope) (defined k.name k.items)
      from zero at =
          let q : t.base ≡ d = omega (arith, at) in
          let there : slice_get more d ≡ Some (key s is None) = subst (λ j. slice_get more j ≡ Some (key s is None)) q (get_begins (keys ++ keys_of s is t.names) more t.base (key s is None) begins (start_key keys s is t e)) in
          own None 0 at (omega arith) (ap Some q) (same_Some (key s is None) k (sym there ∙ got))
      from (suc i) at =
          let n = number_at_position t is i f (omega (arith, at, high, e)) in
          let there : slice_get more d ≡ Some (key s is (Some n.0)) = get_begins (keys ++ keys_of s is t.names) more d (key s is (Some n.0)) begins (named_key keys s is t i d n.0 e (omega (arith, at)) n.1.0) in
          own (Some n.0) (suc i) at (omega (arith, at, high, e)) (n.1.1 ∙ ap Some (sym at)) (same_Some (key s is (Some n.0)) k (sym there ∙ got))
