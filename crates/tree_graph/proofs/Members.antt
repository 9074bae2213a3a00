-- A walk through the members of a list: what is left.
use Rattle.std.proofs.Common.{◌≡◌, ℕ, zero, suc, ◌+◌, ◌<◌, ◌≤◌, List, [], ◌∷◌, ◌++◌, length, map, drop, get_or, refl, sym, ap, ◌∙◌, subst, arith, append_assoc, append-nil, drop-cons}
use Rattle.grammar_laws.specs.Trees.{Pattern, Patterns, no_pattern, more_patterns, patterns_of}
use Rattle.grammar_laws.specs.Files.{SchemaFile}
use Rattle.simple_form_laws.specs.Parts.{Scope, parts_of, parts_of_list}
use Rattle.simple_form_laws.specs.Forms.{element_places, places_in_list, numbered_list}
use Rattle.schema_graph.specs.Shown.{Key, Shows, ShowEach}
use Rattle.schema_graph.specs.Shown as by
use Rattle.tree_graph.specs.States.{State}
use Rattle.tree_graph.specs.Tables.{Table}
use Rattle.tree_graph.specs.Walks.{IsReady, IsWalked, IsPatternReady, IsPatternWalked, AreMembersReady, AreMembersWalked, at_hand, list_at_hand}
use Rattle.tree_graph.proofs.Growth.{shows_grows}
use Rattle.tree_graph.proofs.Steps.{ready_first, ready_next, walked_none, walked_then}

pub drop_all : {X : Type 0} (xs : List X) (i : ℕ) → length xs ≤ i → drop i xs ≡ []
drop_all [] zero h = refl
drop_all [] (suc i) h = refl
drop_all (x ∷ xs) zero h = absurd (omega (arith, h))
drop_all (x ∷ xs) (suc i) h = drop_all xs i (omega (arith, h))

module _ (fs : List SchemaFile) (places : List ℕ) (inner outer : Table) (initial : State) (all : Patterns) where
  -- The members of which these are left can be walked on, and once they are, all were walked.
  abbrev pub AreLeft : State → List ℕ → Patterns → Type 0
  AreLeft now js rest =
      (s : Scope) (keys : List Key) → IsReady fs places keys inner outer initial s (places_in_list all) (parts_of_list s (list_at_hand places initial all)) →
      (more : List Key) × (IsReady fs places more inner outer now s (places_in_list rest) (parts_of_list s (list_at_hand places now rest))
      × ((new : State) (is : List ℕ) (last : List Key) → IsWalked fs places more last now new (places_in_list rest) (parts_of_list s (list_at_hand places now rest)) →
      ShowEach fs new.nodes last is s (list_at_hand places now rest) →
      IsWalked fs places keys last initial new (places_in_list all) (parts_of_list s (list_at_hand places initial all)) × ShowEach fs new.nodes last (js ++ is) s (list_at_hand places initial all)))

  pub left_first : AreLeft initial [] all
  left_first s keys r = (keys, (r, (λ new is last w v. (w, v))))

  pub left_ready : (now : State) (js : List ℕ) (p : Pattern) (rest : Patterns) → AreMembersReady fs places inner outer initial all → AreLeft now js (more_patterns p rest) → IsPatternReady fs places inner outer now p
  left_ready now js p rest ready left =
      let s = ready.0 in
      let a = left s ready.1.0 ready.1.1 in (
        s,
        (
          a.0,
          ready_first fs places a.0 inner outer now s (element_places p) (places_in_list rest) (parts_of s (at_hand places now p))
              (parts_of_list s (numbered_list places (length now.elements + length (element_places p)) rest)) a.1.0,
        ),
      )

  pub left_next : (now next : State) (js : List ℕ) (p : Pattern) (rest : Patterns) (j : ℕ) → AreLeft now js (more_patterns p rest) → IsPatternWalked fs places inner outer now next p j → AreLeft next (js ++ j ∷ []) rest
  left_next now next js p rest j left walked s keys r =
      let a = left s keys r in
      let qs = parts_of_list s (numbered_list places (length now.elements + length (element_places p)) rest) in
      let w = walked s a.0 (ready_first fs places a.0 inner outer now s (element_places p) (places_in_list rest) (parts_of s (at_hand places now p)) qs a.1.0) in
      let e : numbered_list places (length now.elements + length (element_places p)) rest ≡ list_at_hand places next rest = ap (λ k. numbered_list places k rest) (sym w.1.0.counted) in (
        w.0,
        (
          subst (λ l. IsReady fs places w.0 inner outer next s (places_in_list rest) (parts_of_list s l)) e
              (ready_next fs places a.0 w.0 inner outer now next s (element_places p) (places_in_list rest) (parts_of s (at_hand places now p)) qs a.1.0 w.1.0),
          (λ new is last v shown.
              let f = a.1.1 new (j ∷ is) last
              (walked_then fs places a.0 w.0 last now next new (element_places p) (places_in_list rest) (parts_of s (at_hand places now p)) qs w.1.0
              (subst (λ l. IsWalked fs places w.0 last next new (places_in_list rest) (parts_of_list s l)) (sym e) v))
              (by.more (shows_grows fs next.nodes new.nodes w.0 last v.nodes v.begun w.1.1) (subst (λ l. ShowEach fs new.nodes last is s l) (sym e) shown)) in
              (f.0, subst (λ l. ShowEach fs new.nodes last l s (list_at_hand places initial all)) (sym (append_assoc js (j ∷ []) is)) f.1)),
        ),
      )

  pub left_none : (now : State) (js : List ℕ) → AreLeft now js no_pattern → AreMembersWalked fs places inner outer initial now all js
  left_none now js left s keys r =
      let a = left s keys r in
      let f = a.1.1 now [] a.0 (walked_none fs places a.0 now a.1.0.keyed) by.none in
      (a.0, (f.0, subst (λ l. ShowEach fs now.nodes a.0 l s (list_at_hand places initial all)) (append-nil js) f.1))

  -- the same by indices
  pub left_at : {X : Type 0} (f : X → Pattern) (now : State) (js : List ℕ) (xs : List X) (i : ℕ) (x : X) → i < length xs → x ≡ get_or xs i x →
      AreMembersReady fs places inner outer initial all → AreLeft now js (patterns_of (map f (drop i xs))) → IsPatternReady fs places inner outer now (f x)
  left_at f now js xs i x h is ready left =
      let d : drop i xs ≡ x ∷ drop (suc i) xs = drop-cons xs i x h ∙ ap (λ y. y ∷ drop (suc i) xs) (sym is) in
      left_ready now js (f x) (patterns_of (map f (drop (suc i) xs))) ready (subst (λ ys. AreLeft now js (patterns_of (map f ys))) d left)

  pub left_step : {X : Type 0} (f : X → Pattern) (now next : State) (js ks : List ℕ) (xs : List X) (i : ℕ) (x : X) (j : ℕ) → i < length xs → x ≡ get_or xs i x → ks ≡ js ++ j ∷ [] →
      AreLeft now js (patterns_of (map f (drop i xs))) → IsPatternWalked fs places inner outer now next (f x) j → AreLeft next ks (patterns_of (map f (drop (i + 1) xs)))
  left_step f now next js ks xs i x j h is e left walked =
      let d : drop i xs ≡ x ∷ drop (suc i) xs = drop-cons xs i x h ∙ ap (λ y. y ∷ drop (suc i) xs) (sym is) in
      let n : suc i ≡ i + 1 = omega arith in
      subst (λ k. AreLeft next ks (patterns_of (map f (drop k xs)))) n
      (subst (λ l. AreLeft next l (patterns_of (map f (drop (suc i) xs)))) (sym e)
      (left_next now next js (f x) (patterns_of (map f (drop (suc i) xs))) j (subst (λ ys. AreLeft now js (patterns_of (map f ys))) d left) walked))

  pub left_end : {X : Type 0} (f : X → Pattern) (now : State) (js : List ℕ) (xs : List X) (i : ℕ) → length xs ≤ i → AreLeft now js (patterns_of (map f (drop i xs))) → AreMembersWalked fs places inner outer initial now all js
  left_end f now js xs i h left = left_none now js (subst (λ ys. AreLeft now js (patterns_of (map f ys))) (drop_all xs i h) left)
