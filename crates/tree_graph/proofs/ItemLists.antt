-- A walk through the items of a grammar: what is left, and what was added.
use Rattle.std.proofs.Common.{◌≡◌, ℕ, suc, ◌+◌, ◌<◌, ◌≤◌, List, [], ◌∷◌, ◌++◌, length, map, drop, get_or, Option, Some, sym, ap, ◌∙◌, subst, arith, append_assoc, append-nil, drop-cons}
use Rattle.rng_model.specs.Texts.{Text}
use Rattle.grammar_laws.specs.Trees.{Passed, Pattern, Items, Item, no_item, more_items, items_of}
use Rattle.grammar_laws.specs.Trees as full
use Rattle.grammar_laws.specs.Files.{SchemaFile}
use Rattle.simple_form_laws.specs.Parts.{Scope, Entry, entries, entries_in, is_interleave, parts_of_items, parts_of_item}
use Rattle.simple_form_laws.specs.Forms.{places_in_items, places_in_item, numbered_items, numbered_item}
use Rattle.schema_graph.specs.declared.node.Node.{Node}
use Rattle.schema_graph.specs.Shown.{Key, Shows}
use Rattle.tree_graph.specs.declared.entry.Entry.{Entry as Walked_Entry}
use Rattle.tree_graph.specs.States.{State, Begins}
use Rattle.tree_graph.specs.Tables.{Table, number_of, AreNamed}
use Rattle.tree_graph.specs.Walks.{IsReady, IsWalked, IsPatternReady, IsPatternWalked, AreItemsReady, AreItemsWalked, IsItemReady, IsItemWalked, ShowEntries, at_hand, items_at_hand}
use Rattle.tree_graph.proofs.Growth.{shows_grows}
use Rattle.tree_graph.proofs.Steps.{all_front, all_back, ready_first, ready_next, walked_none, walked_then}
use Rattle.tree_graph.proofs.Members.{drop_all}

module _ (fs : List SchemaFile) (places : List ℕ) where
  entries_grow : (nodes further : List Node) (keys more : List Key) (t : Table) (s : Scope) → Begins nodes further → Begins keys more → (ws : List Walked_Entry) (es : List Entry) →
      ShowEntries fs places nodes keys t s ws es → ShowEntries fs places further more t s ws es
  entries_grow nodes further keys more t s g h [] [] w = tt
  entries_grow nodes further keys more t s g h [] (e ∷ es) w = absurd w
  entries_grow nodes further keys more t s g h (x ∷ ws) [] w = absurd w
  entries_grow nodes further keys more t s g h (x ∷ ws) (e ∷ es) w = (w.0, w.1, shows_grows fs nodes further keys more g h w.2, entries_grow nodes further keys more t s g h ws es w.3)

  entries_then : (nodes : List Node) (keys : List Key) (t : Table) (s : Scope) (ws vs : List Walked_Entry) (es ds : List Entry) →
      ShowEntries fs places nodes keys t s ws es → ShowEntries fs places nodes keys t s vs ds → ShowEntries fs places nodes keys t s (ws ++ vs) (es ++ ds)
  entries_then nodes keys t s [] vs [] ds w v = v
  entries_then nodes keys t s [] vs (e ∷ es) ds w v = absurd w
  entries_then nodes keys t s (x ∷ ws) vs [] ds w v = absurd w
  entries_then nodes keys t s (x ∷ ws) vs (e ∷ es) ds w v = (w.0, w.1, w.2, entries_then nodes keys t s ws vs es ds w.3 v)

module _ (fs : List SchemaFile) (places : List ℕ) (inner outer : Table) (initial : State) (all : Items) (before : List Walked_Entry) where
  -- The items of which these are left can be walked on, and once they are, all were walked.
  abbrev pub AreItemsLeft : State → List Walked_Entry → Items → Type 0
  AreItemsLeft now after rest =
      AreNamed inner (entries rest) × ((s : Scope) (keys : List Key) → IsReady fs places keys inner outer initial s (places_in_items all) (parts_of_items s (items_at_hand places initial all)) →
      (more : List Key) × (IsReady fs places more inner outer now s (places_in_items rest) (parts_of_items s (items_at_hand places now rest))
      × ((es : List Walked_Entry) × ((after ≡ before ++ es)
      × ((new : State) (ws : List Walked_Entry) (last : List Key) → IsWalked fs places more last now new (places_in_items rest) (parts_of_items s (items_at_hand places now rest)) →
      ShowEntries fs places new.nodes last inner s ws (entries (items_at_hand places now rest)) →
      IsWalked fs places keys last initial new (places_in_items all) (parts_of_items s (items_at_hand places initial all)) × ShowEntries fs places new.nodes last inner s (es ++ ws) (entries (items_at_hand places initial all)))))))

  pub items_first : AreItemsReady fs places inner outer initial all → AreItemsLeft initial before all
  items_first ready = (ready.0, (λ s keys r. (keys, (r, ([], (sym (append-nil before), (λ new ws last w v. (w, v))))))))

  pub item_ready : (now : State) (after : List Walked_Entry) (i : Item) (rest : Items) → AreItemsReady fs places inner outer initial all → AreItemsLeft now after (more_items i rest) → IsItemReady fs places inner outer now i
  item_ready now after i rest ready left =
      let s = ready.1.0 in
      let a = left.1 s ready.1.1.0 ready.1.1.1 in (
        all_front _ (entries_in i) (entries rest) left.0,
        (
          s,
          (
            a.0,
            ready_first fs places a.0 inner outer now s (places_in_item i) (places_in_items rest) (parts_of_item s (numbered_item places (length now.elements) i))
                (parts_of_items s (numbered_items places (length now.elements + length (places_in_item i)) rest)) a.1.0,
          ),
        ),
      )

  pub items_next : (now next : State) (after then : List Walked_Entry) (i : Item) (rest : Items) → AreItemsLeft now after (more_items i rest) → IsItemWalked fs places inner outer now next i after then → AreItemsLeft next then rest
  items_next now next after then i rest left walked = (
    all_back _ (entries_in i) (entries rest) left.0,
    (λ s keys r.
        let a = left.1 s keys r in
        let here = numbered_item places (length now.elements) i in
        let qs = parts_of_items s (numbered_items places (length now.elements + length (places_in_item i)) rest) in
        let w = walked s a.0 (ready_first fs places a.0 inner outer now s (places_in_item i) (places_in_items rest) (parts_of_item s here) qs a.1.0) in
        let e : numbered_items places (length now.elements + length (places_in_item i)) rest ≡ items_at_hand places next rest = ap (λ k. numbered_items places k rest) (sym w.1.0.counted) in
        let es = a.1.1.0 in
        let vs = w.1.1.0 in (
          w.0,
          (
            subst (λ l. IsReady fs places w.0 inner outer next s (places_in_items rest) (parts_of_items s l)) e
                (ready_next fs places a.0 w.0 inner outer now next s (places_in_item i) (places_in_items rest) (parts_of_item s here) qs a.1.0 w.1.0),
            (
              es ++ vs,
              (
                w.1.1.1.0 ∙ ap (λ l. l ++ vs) a.1.1.1.0 ∙ append_assoc before es vs,
                (λ new ws last v shown.
                    let f = a.1.1.1.1 new (vs ++ ws) last
                    (walked_then fs places a.0 w.0 last now next new (places_in_item i) (places_in_items rest) (parts_of_item s here) qs w.1.0
                    (subst (λ l. IsWalked fs places w.0 last next new (places_in_items rest) (parts_of_items s l)) (sym e) v))
                    (entries_then fs places new.nodes last inner s vs ws (entries_in here) (entries (numbered_items places (length now.elements + length (places_in_item i)) rest))
                    (entries_grow fs places next.nodes new.nodes w.0 last inner s v.nodes v.begun vs (entries_in here) w.1.1.1.1)
                    (subst (λ l. ShowEntries fs places new.nodes last inner s ws (entries l)) (sym e) shown)) in
                    (f.0, subst (λ l. ShowEntries fs places new.nodes last inner s l (entries (items_at_hand places initial all))) (sym (append_assoc es vs ws)) f.1)),
              ),
            ),
          ),
        )),
  )

  pub items_none : (now : State) (after : List Walked_Entry) → AreItemsLeft now after no_item → AreItemsWalked fs places inner outer initial now all before after
  items_none now after left s keys r =
      let a = left.1 s keys r in
      let es = a.1.1.0 in
      let f = a.1.1.1.1 now [] a.0 (walked_none fs places a.0 now a.1.0.keyed) tt in
      (a.0, (f.0, (es, (a.1.1.1.0, subst (λ l. ShowEntries fs places now.nodes a.0 inner s l (entries (items_at_hand places initial all))) (append-nil es) f.1))))

  -- the same by indices
  pub item_at : {X : Type 0} (f : X → Item) (now : State) (after : List Walked_Entry) (xs : List X) (i : ℕ) (x : X) → i < length xs → x ≡ get_or xs i x →
      AreItemsReady fs places inner outer initial all → AreItemsLeft now after (items_of (map f (drop i xs))) → IsItemReady fs places inner outer now (f x)
  item_at f now after xs i x h is ready left =
      let d : drop i xs ≡ x ∷ drop (suc i) xs = drop-cons xs i x h ∙ ap (λ y. y ∷ drop (suc i) xs) (sym is) in
      item_ready now after (f x) (items_of (map f (drop (suc i) xs))) ready (subst (λ ys. AreItemsLeft now after (items_of (map f ys))) d left)

  pub items_step : {X : Type 0} (f : X → Item) (now next : State) (after then : List Walked_Entry) (xs : List X) (i : ℕ) (x : X) → i < length xs → x ≡ get_or xs i x →
      AreItemsLeft now after (items_of (map f (drop i xs))) → IsItemWalked fs places inner outer now next (f x) after then → AreItemsLeft next then (items_of (map f (drop (i + 1) xs)))
  items_step f now next after then xs i x h is left walked =
      let d : drop i xs ≡ x ∷ drop (suc i) xs = drop-cons xs i x h ∙ ap (λ y. y ∷ drop (suc i) xs) (sym is) in
      let n : suc i ≡ i + 1 = omega arith in
      subst (λ k. AreItemsLeft next then (items_of (map f (drop k xs)))) n
      (items_next now next after then (f x) (items_of (map f (drop (suc i) xs))) (subst (λ ys. AreItemsLeft now after (items_of (map f ys))) d left) walked)

  pub items_end : {X : Type 0} (f : X → Item) (now : State) (after : List Walked_Entry) (xs : List X) (i : ℕ) → length xs ≤ i → AreItemsLeft now after (items_of (map f (drop i xs))) → AreItemsWalked fs places inner outer initial now all before after
  items_end f now after xs i h left = items_none now after (subst (λ ys. AreItemsLeft now after (items_of (map f ys))) (drop_all xs i h) left)

-- one item
module _ (fs : List SchemaFile) (places : List ℕ) (inner outer : Table) (old : State) where
  pub walked_include : (t : Text) (passed : Option Passed) (is : Items) (at : ℕ) (before : List Walked_Entry) → IsItemWalked fs places inner outer old old (full.include t passed is at) before before
  walked_include t passed is at before s keys r = (keys, (walked_none fs places keys old r.keyed, ([], (sym (append-nil before), tt))))
