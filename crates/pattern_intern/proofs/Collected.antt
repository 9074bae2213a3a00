-- The members of many patterns are gathered and sorted.
use Rattle.std.proofs.Common.{◌≡◌, ℕ, zero, suc, ◌+◌, ◌<◌, ◌≤◌, ◌⊎◌, inl, inr, Bool, true, false, ◌||◌, List, [], ◌∷◌, map, length, get_or, slice_get, Some, refl, sym, ◌∙◌, ap, subst, arith, true≢false, nat_eq, is_lt}
use Rattle.std.specs.List.{AllByRecursion, IsDistinct, list_any, filter}
use Rattle.std.specs.List.Sorted.{IsPermutation, IsSorted}
use Rattle.std.specs.declared.cmp.Ordering.{Ordering}
use Rattle.std.specs.declared.cmp.Ordering.TheVariants.{Less, Equal, Greater}
use Rattle.std.proofs.lemmas.List.Sorted.{IsPermutation-sym, sorted_far}
use Rattle.std.proofs.lemmas.List.MinMax.{ranks_by}
use Rattle.std.proofs.lemmas.Map.Keys.{IsDistinct-IsPermutation}
use Rattle.std.proofs.lemmas.Map.Steps.{length-le_from_distinct_below}
use Rattle.std.proofs.lemmas.Option.{slice_get-get_or}
use Rattle.indexmap.specs.IndexSet.{insert_key}
use Rattle.rng_model.specs.Patterns.{Pattern, not_allowed, choice, pattern_cmp}
use Rattle.rng_model.specs.Constructors.{members}
use Rattle.rng_model.proofs.Orders.{pattern_order, pattern_cmp-same}
use Rattle.pattern_intern.specs.declared.id.PatternId.{PatternId}
use Rattle.pattern_intern.specs.Ordered.{IsMember, IsBelow, Ascends, IsOrdered, IsSplit}
use Rattle.pattern_intern.specs.Stored.{Stored, count, tree_at, AreApart}
use Rattle.pattern_intern.specs.Members.{AreIn, trees_at}
use Rattle.pattern_intern.specs.Gathered.{Has, HasMember, is_member, same_number, IsSpread, IsGathering, IsGathered, IsBegun, AreAllMembers}
use Rattle.pattern_intern.proofs.Lists.{has_some, has_place, got_has, has_got, has_permuted, all_has, has_all, filtered_has, kept_has, distinct_filtered, map_has, has_map, inserted_to, inserted_old, inserted_new, inserted_at}
use Rattle.pattern_intern.proofs.Merging.{over, alone_in}
use Rattle.pattern_intern.proofs.Together.{chosen_by}

-- the first k patterns are taken in
pub begun_none : (ps : List PatternId) → IsBegun ps 0 []
unfolding IsDistinct
begun_none ps = record { distinct = tt; begun = λ j id l e. absurd (omega arith); only = λ id h. absurd h }

pub begun_more : (ps : List PatternId) (k : ℕ) (d : PatternId) (found new : List PatternId) → IsBegun ps k found → k < length ps → new ≡ insert_key same_number found (get_or ps k d) → IsDistinct same_number new → IsBegun ps (k + 1) new
begun_more ps k d found new b l e i = record { distinct = i; begun = begun; only = λ id h. only id (inserted_to found x id (subst (λ n. Has n id) e h)) }
  where
    x : PatternId
    x = get_or ps k d

    here : slice_get ps k ≡ Some x
    here = slice_get-get_or ps k d l

    only : (id : PatternId) → Has found id ⊎ (x ≡ id) → Has ps id
    only id (inl h) = b.only id h
    only id (inr f) = subst (Has ps) f (got_has ps k x here)

    at : (j : ℕ) (id : PatternId) → (j < k) ⊎ (j ≡ k) → slice_get ps j ≡ Some id → Has (insert_key same_number found x) id
    at j id (inl m) g = inserted_old found x id (b.begun j id m g)
    at j id (inr m) g =
        let f : Some x ≡ Some id = sym here ∙ ap (slice_get ps) (sym m) ∙ g in
        subst (Has (insert_key same_number found x)) (got_same f) (inserted_new found x)
      where
        got_same : Some x ≡ Some id → x ≡ id
        got_same f = one (got_has (x ∷ []) 0 id f)
          where
            one : Has (x ∷ []) id → x ≡ id
            one (inl e) = e
            one (inr n) = absurd n

    begun : (j : ℕ) (id : PatternId) → j < k + 1 → slice_get ps j ≡ Some id → Has new id
    begun j id m g = subst (λ n. Has n id) (sym e) (at j id (split m) g)
      where
        split : j < k + 1 → (j < k) ⊎ (j ≡ k)
        split m = grind (arith, m)

module _ (s : Stored) where
  -- a pattern's members are members of one of the patterns
  pub member_in : (ids : List PatternId) (id : PatternId) (x : Pattern) → Has ids id → Has (members (tree_at s id.0)) x → HasMember (trees_at s ids) x
  member_in [] id x i h = absurd i
  member_in (y ∷ ids) id x (inl e) h = inl (subst (λ (z : PatternId). Has (members (tree_at s z.0)) x) (sym e) h)
  member_in (y ∷ ids) id x (inr i) h = inr (member_in ids id x i h)

  pub member_of : (ids : List PatternId) (x : Pattern) → HasMember (trees_at s ids) x → (id : PatternId) × Has ids id × Has (members (tree_at s id.0)) x
  member_of [] x h = absurd h
  member_of (y ∷ ids) x (inl h) = (y, inl refl, h)
  member_of (y ∷ ids) x (inr h) = let c = member_of ids x h in (c.0, inr c.1, c.2)

  pub gathering_start : (ps found : List PatternId) (k : ℕ) → AreIn s ps → length ps ≤ k → IsBegun ps k found → IsGathering s ps 0 found
  gathering_start ps found k a l b = record {
    within = record { each = has_all (λ (id : PatternId). id.0 < count s) found (λ id h. all_has (λ (id : PatternId). id.0 < count s) ps id a.each (b.only id h)) };
    distinct = b.distinct;
    begun = λ id h. (let g = has_got ps id h in b.begun g.0 id (let m = g.1 in omega arith) g.2);
    spread = λ j id m e. absurd (omega arith);
    only = λ id h x m. member_in ps id x (b.only id h) m;
  }

  wider : (found new : List PatternId) (p : Pattern) → ((id : PatternId) → Has found id → Has new id) → IsSpread s found p → IsSpread s new p
  wider found new p f (inl e) = inl e
  wider found new p f (inr (a, b, h, k, e)) = inr (a, b, f a h, f b k, e)

  last_or : (j k : ℕ) → j < k + 1 → (j < k) ⊎ (j ≡ k)
  last_or j k m = grind (arith, m)

  module _ (ps : List PatternId) (k : ℕ) (d : PatternId) (found new : List PatternId) (g : IsGathering s ps k found) (l : k < length found) (i : IsDistinct same_number new) (w : AreIn s new)
      (longer : (id : PatternId) → Has found id → Has new id) (same : (j : ℕ) → j < length found → slice_get new j ≡ slice_get found j) (sp : IsSpread s new (tree_at s (get_or found k d).0))
      (only : (id : PatternId) → Has new id → (x : Pattern) → Has (members (tree_at s id.0)) x → HasMember (trees_at s ps) x) where
    spread_at : (j : ℕ) (id : PatternId) → (j < k) ⊎ (j ≡ k) → slice_get new j ≡ Some id → IsSpread s new (tree_at s id.0)
    spread_at j id (inl m) e = wider found new (tree_at s id.0) longer (g.spread j id m (sym (same j (omega arith)) ∙ e))
    spread_at j id (inr m) e = subst (λ (z : PatternId). IsSpread s new (tree_at s z.0)) (same_of (sym (slice_get-get_or found k d l) ∙ ap (slice_get found) (sym m) ∙ sym (same j (omega arith)) ∙ e)) sp
      where
        one : (x : PatternId) → Has (x ∷ []) id → x ≡ id
        one x (inl e) = e
        one x (inr n) = absurd n

        same_of : Some (get_or found k d) ≡ Some id → get_or found k d ≡ id
        same_of f = one (get_or found k d) (got_has (get_or found k d ∷ []) 0 id f)

    spread_to : IsGathering s ps (k + 1) new
    spread_to = record { within = w; distinct = i; begun = λ id h. longer id (g.begun id h); spread = λ j id m e. spread_at j id (last_or j k m) e; only = only }

  -- a pattern that has no members
  pub spread_none : (ps : List PatternId) (k : ℕ) (d : PatternId) (found : List PatternId) → k < length found → tree_at s (get_or found k d).0 ≡ not_allowed → IsGathering s ps k found → IsGathering s ps (k + 1) found
  spread_none ps k d found l e g = spread_to ps k d found found g l g.distinct g.within (λ id h. h) (λ j m. refl) (inl (ap members e)) g.only

  -- the first member of a pattern and the others are taken in
  pub spread_some : (ps : List PatternId) (k : ℕ) (d first others : PatternId) (found middle new : List PatternId) → k < length found → first.0 < count s → others.0 < count s → IsOrdered (tree_at s (get_or found k d).0) →
      IsSplit (tree_at s (get_or found k d).0) (tree_at s first.0) (tree_at s others.0) → middle ≡ insert_key same_number found first → new ≡ insert_key same_number middle others → IsDistinct same_number new →
      IsGathering s ps k found → IsGathering s ps (k + 1) new
  spread_some ps k d first others found middle new l lf lo o sp em en i g =
      spread_to ps k d found new g l i within longer same (inr (first, others, has_first, has_others, sp.list)) only
    where
      id : PatternId
      id = get_or found k d

      here : Has found id
      here = got_has found k id (slice_get-get_or found k d l)

      to_middle : (y : PatternId) → Has found y → Has middle y
      to_middle y h = subst (λ n. Has n y) (sym em) (inserted_old found first y h)

      to_new : (y : PatternId) → Has middle y → Has new y
      to_new y h = subst (λ n. Has n y) (sym en) (inserted_old middle others y h)

      longer : (y : PatternId) → Has found y → Has new y
      longer y h = to_new y (to_middle y h)

      has_first : Has new first
      has_first = to_new first (subst (λ n. Has n first) (sym em) (inserted_new found first))

      has_others : Has new others
      has_others = subst (λ n. Has n others) (sym en) (inserted_new middle others)

      long : (y : PatternId) (ys : List PatternId) (j : ℕ) → j < length ys → j < length (insert_key same_number ys y)
      long y ys j m = let c = has_got (insert_key same_number ys y) (get_or ys j y) (got_has (insert_key same_number ys y) j (get_or ys j y) (inserted_at ys y j m ∙ slice_get-get_or ys j y m)) in within_got (insert_key same_number ys y) j (get_or ys j y) (inserted_at ys y j m ∙ slice_get-get_or ys j y m)
        where
          within_got : (zs : List PatternId) (j : ℕ) (z : PatternId) → slice_get zs j ≡ Some z → j < length zs
          within_got [] j z e = absurd (cc)
          within_got (a ∷ zs) zero z e = omega arith
          within_got (a ∷ zs) (suc j) z e = let m = within_got zs j z e in omega arith

      same : (j : ℕ) → j < length found → slice_get new j ≡ slice_get found j
      same j m =
          ap (λ n. slice_get n j) en ∙ inserted_at middle others j (subst (λ n. j < length n) (sym em) (long first found j m))
          ∙ ap (λ n. slice_get n j) em ∙ inserted_at found first j m

      each_by : (y : PatternId) → Has middle y ⊎ (others ≡ y) → y.0 < count s
      each_by y (inl h) = each_by_middle y (inserted_to found first y (subst (λ n. Has n y) em h))
        where
          each_by_middle : (y : PatternId) → Has found y ⊎ (first ≡ y) → y.0 < count s
          each_by_middle y (inl h) = all_has (λ (id : PatternId). id.0 < count s) found y g.within.each h
          each_by_middle y (inr e) = subst (λ (z : PatternId). z.0 < count s) e lf
      each_by y (inr e) = subst (λ (z : PatternId). z.0 < count s) e lo

      within : AreIn s new
      within = record { each = has_all (λ (id : PatternId). id.0 < count s) new (λ y h. each_by y (inserted_to middle others y (subst (λ n. Has n y) en h))) }

      member : IsMember (tree_at s first.0)
      member = (subst (λ l. AllByRecursion IsMember l) sp.list o.each).0

      up : (x : Pattern) → Has (tree_at s first.0 ∷ members (tree_at s others.0)) x → HasMember (trees_at s ps) x
      up x h = g.only id here x (subst (λ l. Has l x) (sym sp.list) h)

      alone : (p x : Pattern) → Has (p ∷ []) x → p ≡ x
      alone p x (inl e) = e
      alone p x (inr n) = absurd n

      only_first : (y : PatternId) (x : Pattern) → Has found y ⊎ (first ≡ y) → Has (members (tree_at s y.0)) x → HasMember (trees_at s ps) x
      only_first y x (inl h) m = g.only y h x m
      only_first y x (inr e) m =
          up x (inl (alone (tree_at s first.0) x (subst (λ l. Has l x) (alone_in (tree_at s first.0) member) (subst (λ (z : PatternId). Has (members (tree_at s z.0)) x) (sym e) m))))

      only_by : (y : PatternId) (x : Pattern) → Has middle y ⊎ (others ≡ y) → Has (members (tree_at s y.0)) x → HasMember (trees_at s ps) x
      only_by y x (inl h) m = only_first y x (inserted_to found first y (subst (λ n. Has n y) em h)) m
      only_by y x (inr e) m = up x (inr (subst (λ (z : PatternId). Has (members (tree_at s z.0)) x) (sym e) m))

      only : (y : PatternId) → Has new y → (x : Pattern) → Has (members (tree_at s y.0)) x → HasMember (trees_at s ps) x
      only y h x m = only_by y x (inserted_to middle others y (subst (λ n. Has n y) en h)) m

  pub gathering_end : (ps found : List PatternId) (k : ℕ) → length found ≤ k → IsGathering s ps k found → IsGathered s ps found
  gathering_end ps found k l g = record { within = g.within; distinct = g.distinct; begun = g.begun; spread = λ j id m e. g.spread j id (omega arith) e; only = g.only }

  numbers : List PatternId → List ℕ
  numbers ids = map (λ (id : PatternId). id.0) ids

  apart_numbers : (id : PatternId) (ids : List PatternId) → AllByRecursion (λ y. same_number id y ≡ false) ids → AllByRecursion (λ n. nat_eq id.0 n ≡ false) (map (λ (id : PatternId). id.0) ids)
  apart_numbers id [] a = tt
  apart_numbers id (y ∷ ids) a = (a.0, apart_numbers id ids a.1)

  distinct_numbers : (ids : List PatternId) → IsDistinct same_number ids → IsDistinct nat_eq (map (λ (id : PatternId). id.0) ids)
  unfolding IsDistinct
  distinct_numbers [] d = tt
  distinct_numbers (id ∷ ids) d = (apart_numbers id ids d.0, distinct_numbers ids d.1)

  below_by : (q n m : ℕ) (ns : List ℕ) (b : Bool) → nat_eq q n ≡ b → n < m → (list_any (nat_eq q) ns ≡ true → q < m) → (b || list_any (nat_eq q) ns) ≡ true → q < m
  below_by q n m ns true e l f h = grind (arith, e, l)
  below_by q n m ns false e l f h = f h

  below_any : (ids : List PatternId) (q : ℕ) → AllByRecursion (λ (id : PatternId). id.0 < count s) ids → list_any (nat_eq q) (map (λ (id : PatternId). id.0) ids) ≡ true → q < count s
  below_any [] q a h = absurd (true≢false (sym h))
  below_any (id ∷ ids) q a h = below_by q id.0 (count s) (map (λ (id : PatternId). id.0) ids) (nat_eq q id.0) refl a.0 (below_any ids q a.1) h

  length_numbers : (ids : List PatternId) → length (map (λ (id : PatternId). id.0) ids) ≡ length ids
  length_numbers [] = refl
  length_numbers (id ∷ ids) = let e = length_numbers ids in omega (arith, e)

  -- there are no more numbers than the pool has
  pub few : (ids : List PatternId) → AreIn s ids → IsDistinct same_number ids → length ids ≤ count s
  few ids a d =
      subst (λ n. n ≤ count s) (length_numbers ids) (length-le_from_distinct_below (map (λ (id : PatternId). id.0) ids) (count s) (distinct_numbers ids d) (λ q h. below_any ids q a.each h))

  module _ (found : List PatternId) (ps : List PatternId) (g : IsGathered s ps found) where
    -- each member of what is found is found
    leaf : (n : ℕ) (id : PatternId) (x : Pattern) → length (members (tree_at s id.0)) ≤ n → Has found id → Has (members (tree_at s id.0)) x → (j : PatternId) × Has found j × (tree_at s j.0 ≡ x)
    leaf zero id x l h m = absurd (let z = has_some (members (tree_at s id.0)) x m in omega arith)
    leaf (suc n) id x l h m = let c = has_got found id h in go (λ o k h i. leaf n o x k h i) (g.spread c.0 id c.1 c.2)
      where
        go : ((o : PatternId) → length (members (tree_at s o.0)) ≤ n → Has found o → Has (members (tree_at s o.0)) x → (j : PatternId) × Has found j × (tree_at s j.0 ≡ x)) → IsSpread s found (tree_at s id.0) → (j : PatternId) × Has found j × (tree_at s j.0 ≡ x)
        go again (inl e) = absurd (subst (λ l. Has l x) e m)
        go again (inr (first, others, hf, ho, e)) = pick (subst (λ l. Has l x) e m)
          where
            pick : Has (tree_at s first.0 ∷ members (tree_at s others.0)) x → (j : PatternId) × Has found j × (tree_at s j.0 ≡ x)
            pick (inl i) = (first, hf, i)
            pick (inr k) = again others (let z = ap length e in omega arith) ho k

  lesser : PatternId → PatternId → Bool
  lesser a b = is_lt (pattern_cmp (tree_at s a.0) (tree_at s b.0))

  less_by : (x y : PatternId) (o : Ordering) → pattern_cmp (tree_at s y.0) (tree_at s x.0) ≡ o → is_lt o ≡ false → (tree_at s y.0 ≡ tree_at s x.0 → ⊥) → pattern_cmp (tree_at s x.0) (tree_at s y.0) ≡ Less
  less_by x y Less e h n = absurd (true≢false h)
  less_by x y Equal e h n = absurd (n (pattern_cmp-same (tree_at s y.0) (tree_at s x.0) e))
  less_by x y Greater e h n = over (tree_at s y.0) (tree_at s x.0) e

  abbrev InOrder : List PatternId → Type 0
  InOrder ids = (i j : ℕ) (d : PatternId) → i ≤ j → j < length ids → is_lt (pattern_cmp (tree_at s (get_or ids j d).0) (tree_at s (get_or ids i d).0)) ≡ false

  itself : (x : PatternId) → same_number x x ≡ true
  itself x = grind arith

  module _ (apart : AreApart s) where
    head_below : (x : PatternId) (ids : List PatternId) → x.0 < count s → AllByRecursion (λ (id : PatternId). id.0 < count s) ids → AllByRecursion (λ y. same_number x y ≡ false) ids → InOrder (x ∷ ids) → (y : PatternId) → Has ids y →
        pattern_cmp (tree_at s x.0) (tree_at s y.0) ≡ Less
    head_below x ids l a d o y h =
        let c = has_place ids y h in
        let e : get_or ids c.0 y ≡ y = c.2 in
        less_by x y (pattern_cmp (tree_at s y.0) (tree_at s x.0)) refl (subst (λ (z : PatternId). is_lt (pattern_cmp (tree_at s z.0) (tree_at s x.0)) ≡ false) e (o 0 (suc c.0) y (omega arith) (let m = c.1 in omega arith)))
        (λ t.
        let n : y.0 ≡ x.0 = apart.trees y.0 x.0 (all_has (λ (id : PatternId). id.0 < count s) ids y a h) l t in
        let f : same_number x y ≡ false = all_has (λ y. same_number x y ≡ false) ids y d h in
        true≢false (sym (itself x) ∙ ap (λ m. nat_eq x.0 m) (sym n) ∙ f))

    below_trees : (x : PatternId) (ids : List PatternId) → ((y : PatternId) → Has ids y → pattern_cmp (tree_at s x.0) (tree_at s y.0) ≡ Less) → IsBelow (tree_at s x.0) (trees_at s ids)
    below_trees x [] f = tt
    below_trees x (y ∷ ids) f = (f y (inl refl), below_trees x ids (λ z h. f z (inr h)))

    ascend_in_order : (ids : List PatternId) → AllByRecursion (λ (id : PatternId). id.0 < count s) ids → IsDistinct same_number ids → InOrder ids → Ascends (trees_at s ids)
    unfolding IsDistinct
    ascend_in_order [] a d o = tt
    ascend_in_order (x ∷ ids) a d o = (below_trees x ids (head_below x ids a.0 a.1 d.0 o), ascend_in_order ids a.1 d.1 (λ i j e l m. o (suc i) (suc j) e (omega arith) (omega arith)))

    pub ascend_sorted : (ids : List PatternId) → AreIn s ids → IsDistinct same_number ids → IsSorted (λ (a b : PatternId). pattern_cmp (tree_at s a.0) (tree_at s b.0)) ids → Ascends (trees_at s ids)
    ascend_sorted ids a d o =
        ascend_in_order ids a.each d (sorted_far (λ (a b : PatternId). is_lt (pattern_cmp (tree_at s a.0) (tree_at s b.0))) (ranks_by pattern_order (λ (id : PatternId). tree_at s id.0)) ids o)

is_yes : (p : Pattern) → is_member p ≡ true → IsMember p
is_yes not_allowed e = absurd (true≢false (sym e))
is_yes (choice p q) e = absurd (true≢false (sym e))
is_yes p e = tt

yes_is : (p : Pattern) → IsMember p → is_member p ≡ true
yes_is not_allowed h = absurd h
yes_is (choice p q) h = absurd h
yes_is p h = refl

flips : (x y : PatternId) → same_number x y ≡ same_number y x
flips x y = grind arith

pub all_taken : (s : Stored) (ps found kept taken : List PatternId) → AreApart s → ((id : ℕ) → id < count s → IsOrdered (tree_at s id)) → AreIn s ps → IsGathered s ps found → kept ≡ filter (λ (id : PatternId). is_member (tree_at s id.0)) found →
    IsPermutation kept taken → IsSorted (λ (a b : PatternId). pattern_cmp (tree_at s a.0) (tree_at s b.0)) taken → AreAllMembers s ps taken
all_taken s ps found kept taken apart o a g e p up = record {
  within = within;
  list = record { ascending = up_trees; each = has_all IsMember (trees_at s taken) (λ x h. member x (has_map (λ (id : PatternId). tree_at s id.0) taken x h)) };
  chosen = chosen_by (trees_at s taken) (trees_at s ps) up_trees (has_all IsOrdered (trees_at s ps) (λ x h. whole x (has_map (λ (id : PatternId). tree_at s id.0) ps x h))) to from;
}
  where
    test : PatternId → Bool
    test id = is_member (tree_at s id.0)

    is_found : (id : PatternId) → Has taken id → Has found id × (is_member (tree_at s id.0) ≡ true)
    is_found id h = filtered_has (λ (id : PatternId). is_member (tree_at s id.0)) found id (subst (λ l. Has l id) e (has_permuted taken kept id (IsPermutation-sym kept taken p) h))

    within : AreIn s taken
    within = record { each = has_all (λ (id : PatternId). id.0 < count s) taken (λ id h. all_has (λ (id : PatternId). id.0 < count s) found id g.within.each (is_found id h).0) }

    distinct : IsDistinct same_number taken
    distinct = IsDistinct-IsPermutation same_number flips kept taken p (subst (IsDistinct same_number) (sym e) (distinct_filtered (λ (id : PatternId). is_member (tree_at s id.0)) same_number found g.distinct))

    up_trees : Ascends (trees_at s taken)
    up_trees = ascend_sorted s apart taken within distinct up

    member : (x : Pattern) → (id : PatternId) × Has taken id × (tree_at s id.0 ≡ x) → IsMember x
    member x (id, h, i) = subst IsMember i (is_yes (tree_at s id.0) (is_found id h).1)

    whole : (x : Pattern) → (id : PatternId) × Has ps id × (tree_at s id.0 ≡ x) → IsOrdered x
    whole x (id, h, i) = subst IsOrdered i (o id.0 (all_has (λ (id : PatternId). id.0 < count s) ps id a.each h))

    to_by : (x : Pattern) → (id : PatternId) × Has taken id × (tree_at s id.0 ≡ x) → HasMember (trees_at s ps) x
    to_by x (id, h, i) =
        let f = is_found id h in
        g.only id f.0 x (subst (λ l. Has l x) (sym (alone_in (tree_at s id.0) (is_yes (tree_at s id.0) f.1))) (inl i))

    to : (x : Pattern) → Has (trees_at s taken) x → HasMember (trees_at s ps) x
    to x h = to_by x (has_map (λ (id : PatternId). tree_at s id.0) taken x h)

    from_by : (x : Pattern) → (id : PatternId) × Has ps id × Has (members (tree_at s id.0)) x → Has (trees_at s taken) x
    from_by x (id, h, m) =
        let f = g.begun id h in
        let c = leaf s found ps g (length (members (tree_at s id.0))) id x (omega arith) f m in
        let y = all_has IsMember (members (tree_at s id.0)) x (o id.0 (all_has (λ (id : PatternId). id.0 < count s) ps id a.each h)).each m in
        let t : is_member (tree_at s c.0.0) ≡ true = ap is_member c.2 ∙ yes_is x y in
        let k = kept_has (λ (id : PatternId). is_member (tree_at s id.0)) found c.0 t c.1 in
        subst (λ z. Has (trees_at s taken) z) c.2 (map_has (λ (id : PatternId). tree_at s id.0) taken c.0 (has_permuted kept taken c.0 p (subst (λ l. Has l c.0) (sym e) k)))

    from : (x : Pattern) → HasMember (trees_at s ps) x → Has (trees_at s taken) x
    from x h = from_by x (member_of s ps x h)
