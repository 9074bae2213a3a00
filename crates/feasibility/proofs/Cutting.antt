-- What has grown is cut back, and what goes on from a table.
use Rattle.std.proofs.Common.{◌≡◌, ℕ, zero, suc, ◌+◌, ◌*◌, ◌-◌, ◌<◌, ◌≤◌, inl, inr, Option, List, [], ◌∷◌, ◌++◌, length, take, refl, sym, ◌∙◌, ap, subst, arith, Contains}
use Rattle.std.proofs.lemmas.Option.{slice_get_within}
use Rattle.rng_model.specs.Patterns.{Schema}
use Rattle.rng_model.specs.States.{State, AreDistinct, Reach, ReachesMore}
use Rattle.table_laws.specs.Premises.{AreListable}
use Rattle.table_laws.specs.Reaching.{start_state}
use Rattle.table_laws.proofs.Counts.{more_grows}
use Rattle.transitions.specs.declared.arc.Arc.{Arc}
use Rattle.transitions.specs.declared.state_id.StateId.{StateId}
use Rattle.feasibility.specs.declared.explorer.Explorer.{Explorer}
use Rattle.feasibility.specs.Exploring.{Finds, at, found, groups_of, names, pool, schema, states_of}
use Rattle.feasibility.specs.Grown.{IsGrown, IsLevel, IsStarted, row_total}
use Rattle.feasibility.specs.Growing.{AddsFrees, AddsRows, Begins, GoesOn, Parts, at_level, cost, parts}
use Rattle.feasibility.proofs.Adding.{begins_itself, begins_on, finds_itself, free_on, row_on}
use Rattle.feasibility.proofs.Finding.{IsOnlyPool, finds_names, pool_explores, pool_finds, states_kept}
use Rattle.feasibility.proofs.Moving.{finds_on}

take_front : {X : Type 0} (xs more : List X) → take (length xs) (xs ++ more) ≡ xs
take_front [] more = refl
take_front (x ∷ xs) more = ap (λ ys. x ∷ ys) (take_front xs more)

pub cut_front : {X : Type 0} (xs ys : List X) (n : ℕ) → Begins xs ys → n ≡ length xs → take n ys ≡ xs
cut_front {X} xs ys n b e = ap (λ k. take k ys) e ∙ ap (λ (w : List X). take (length xs) w) b.1 ∙ take_front xs b.0

-- the pool alone has grown
module _ (e f : Explorer) (frees : List (Option StateId)) (rows : List (List Arc)) (levels : List ℕ) (h : IsGrown e frees rows levels) (p : IsOnlyPool e f) where
  pub same_found : found f ≡ found e
  same_found = ap (states_of (pool f)) p.keys ∙ states_kept (pool e) (pool f) p.pool e.states.keys h.exploring.within

  finds : Finds e f
  finds = pool_finds e f h.exploring p

  pub same_names : names f ≡ names e
  same_names = finds_names e f finds

  same_length : length (found f) ≡ length (found e)
  same_length = ap (λ (xs : List State). length xs) same_found

  to : (k : ℕ) (s : State) → Reach (schema e) (names e) k s → Reach (schema f) (names f) k s
  to k s r = subst (λ u. Reach (schema f) u k s) (sym same_names) (subst (λ g. Reach g (names e) k s) (sym p.schema) r)

  back : (k : ℕ) (s : State) → Reach (schema f) (names f) k s → Reach (schema e) (names e) k s
  back k s r = subst (λ g. Reach g (names e) k s) p.schema (subst (λ u. Reach (schema f) u k s) same_names r)

  is_started : IsStarted e → IsStarted f
  is_started (inl s) = inl (same_length ∙ s.0, ap (λ (g : Schema). g.start) p.schema ∙ s.1)
  is_started (inr s) = let l = s.0 in inr (omega (arith, l, same_length), finds.states 0 l ∙ s.1 ∙ ap start_state (sym p.schema))

  same_level : (k n : ℕ) → IsLevel e k n → IsLevel f k n
  same_level k n v = record {
    most = let a = v.most in omega (arith, a, same_length);
    each = λ id l. (
        let w : id < length (found e) = omega (arith, l, same_length) in (
          λ a. to k (at f id) (subst (Reach (schema e) (names e) k) (sym (finds.states id w)) ((v.each id w).0 a)),
          λ r. (v.each id w).1 (subst (Reach (schema e) (names e) k) (finds.states id w) (back k (at f id) r)),
        )
        );
  }

  pub grown_still : IsGrown f frees rows levels
  grown_still = record {
    listable = subst (λ u. AreListable (schema f) u) (sym same_names) (subst (λ g. AreListable g (names e)) (sym p.schema) h.listable);
    small = subst (λ n. n ≤ 1000000) (sym p.limit) h.small;
    exploring = pool_explores e f h.exploring p;
    start = is_started h.start;
    once = subst AreDistinct (sym same_found) h.once;
    each = λ s. (
      λ c. subst (λ k. Reach (schema f) (names f) k s) (sym p.level) (to e.level s ((h.each s).0 (subst (λ xs. Contains xs s) same_found c))),
      λ r. subst (λ xs. Contains xs s) (sym same_found) ((h.each s).1 (back e.level s (subst (λ k. Reach (schema f) (names f) k s) p.level r))),
    );
    all_frees = h.all_frees ∙ sym same_length;
    some_rows = let a = h.some_rows in omega (arith, a, same_length);
    rows = record {
      free = λ id next k. free_on e f finds id next (let w = slice_get_within frees id next k in let a = h.all_frees in omega (arith, w, a)) (h.rows.free id next k);
      row = λ id arcs k. row_on e f finds id arcs (let w = slice_get_within rows id arcs k in let a = h.some_rows in omega (arith, w, a)) (h.rows.row id arcs k);
    };
    all_levels = let a = h.all_levels in let b = p.level in omega (arith, a, b);
    level = λ k n i. same_level k n (h.level k n i);
    stepped = λ k n i l. h.stepped k n i (let b = p.level in omega (arith, b, l));
  }

-- growing on
pub goes_itself : (p : Parts) → GoesOn p p
goes_itself p = record {
  up = omega arith;
  finds = finds_itself p.explorer;
  none = λ e. e;
  frees = begins_itself p.frees;
  rows = begins_itself p.rows;
  levels = begins_itself p.levels;
}

finds_at : (n : ℕ) (e f : Explorer) → Finds (at_level f.level e) f → Finds (at_level n e) (at_level n f)
finds_at n e f x = record {
  schema = x.schema;
  universe = x.universe;
  atoms = x.atoms;
  groups = x.groups;
  limit = x.limit;
  level = refl;
  pool = x.pool;
  keys = x.keys;
  longer = x.longer;
  states = x.states;
}

pub goes_then : (p q r : Parts) → GoesOn p q → GoesOn q r → GoesOn p r
goes_then p q r x y = record {
  up = let a = x.up in let b = y.up in omega (arith, a, b);
  finds = finds_on (at_level r.explorer.level p.explorer) (at_level r.explorer.level q.explorer) r.explorer (finds_at r.explorer.level p.explorer q.explorer x.finds) y.finds;
  none = λ e. y.none (x.none e);
  frees = begins_on p.frees q.frees r.frees x.frees y.frees;
  rows = begins_on p.rows q.rows r.rows x.rows y.rows;
  levels = begins_on p.levels q.levels r.levels x.levels y.levels;
}

-- one size on
module _ (e f k : Explorer) (frees frees2 : List (Option StateId)) (rows rows2 : List (List Arc)) (levels levels2 : List ℕ) (x : AddsRows (at_level (e.level + 1) e) f rows rows2)
    (none : length (found e) ≡ 0 → length (found f) ≡ 0) where
  pub level_rows : GoesOn (parts e frees rows levels) (parts f frees rows2 levels)
  level_rows = record {
    up = let a = x.finds.level in omega (arith, a);
    finds = subst (λ n. Finds (at_level n e) f) (sym x.finds.level) x.finds;
    none = none;
    frees = begins_itself frees;
    rows = x.kept;
    levels = begins_itself levels;
  }

  pub level_finds : AddsFrees f k frees frees2 → Finds (at_level (e.level + 1) e) k
  level_finds y = finds_on (at_level (e.level + 1) e) f k x.finds y.finds

  pub level_frees : AddsFrees f k frees frees2 → (length (found f) ≡ 0 → length (found k) ≡ 0) → Begins levels levels2 → GoesOn (parts e frees rows levels) (parts k frees2 rows2 levels2)
  level_frees y nothing b =
      let z = level_finds y in
      record {
        up = let a = z.level in omega (arith, a);
        finds = subst (λ n. Finds (at_level n e) k) (sym z.level) z;
        none = λ n. nothing (none n);
        frees = y.kept;
        rows = x.kept;
        levels = b;
      }

-- a number that is at most another, times a third
pub times : (r m n : ℕ) → m ≤ n → r * m ≤ r * n
times zero m n l = omega arith
times (suc r) m n l = let h = times r m n l in omega arith

pub times_next : (r n : ℕ) → r * (n + 1) ≡ r * n + r
times_next r n = omega arith

-- after a refusal the derivatives are at most those of a full table
pub few_refused : (r n m limit : ℕ) (old new : ℕ) → new + (n + r * m) ≤ old + (limit + r * limit) → new + ((n - 1) + r * m) ≤ old + (r + 2) * (limit + 1)
few_refused r n m limit old new l = let h = times_next r limit in omega (arith, l, h)

-- a row more takes at most its derivatives more
pub row_cost : (e f : Explorer) → Finds e f → (old now new m n k : ℕ) → now + row_total (names e) (groups_of e) * m ≤ old + row_total (names e) (groups_of e) * n →
    new ≤ now + row_total (names f) (groups_of f) → k ≡ n + 1 → new + row_total (names e) (groups_of e) * m ≤ old + row_total (names e) (groups_of e) * k
row_cost e f x old now new m n k a b q =
    let r = row_total (names e) (groups_of e) in
    let c : new ≤ now + r = subst (λ y. new ≤ now + row_total (names e) y) x.groups (subst (λ u. new ≤ now + row_total u (groups_of f)) (finds_names e f x) b) in
    let h = times_next r n in
    subst (λ j. new + r * m ≤ old + r * j) (sym q) (omega (arith, a, c, h))

-- derivatives of one size after those of another
module _ (p q : Parts) (x : GoesOn p q) where
  pub same_total : row_total (names q.explorer) (groups_of q.explorer) ≡ row_total (names p.explorer) (groups_of p.explorer)
  same_total =
      let a = finds_names (at_level q.explorer.level p.explorer) q.explorer x.finds in
      let b = x.finds.groups in
      (λ i. row_total (a i) (b i))

  pub cost_then : (old now new : ℕ) (k m : ℕ) → now + cost (names p.explorer) (groups_of p.explorer) (length p.frees) (length p.rows) ≤ old + cost (names p.explorer) (groups_of p.explorer) (length q.frees) (length q.rows) →
      new + cost (names q.explorer) (groups_of q.explorer) (length q.frees) (length q.rows) ≤ now + cost (names q.explorer) (groups_of q.explorer) k m →
      new + cost (names p.explorer) (groups_of p.explorer) (length p.frees) (length p.rows) ≤ old + cost (names p.explorer) (groups_of p.explorer) k m
  cost_then old now new k m a b =
      let c = subst (λ r. new + (length q.frees + r * length q.rows) ≤ now + (k + r * m)) same_total b in
      omega (arith, a, c)

  pub cost_refused : (old now new : ℕ) → now + cost (names p.explorer) (groups_of p.explorer) (length p.frees) (length p.rows) ≤ old + cost (names p.explorer) (groups_of p.explorer) (length q.frees) (length q.rows) →
      new + cost (names q.explorer) (groups_of q.explorer) (length q.frees) (length q.rows) ≤ now + cost (names q.explorer) (groups_of q.explorer) q.explorer.limit q.explorer.limit →
      new + cost (names p.explorer) (groups_of p.explorer) (length p.frees) (length p.rows) ≤ old + cost (names p.explorer) (groups_of p.explorer) p.explorer.limit p.explorer.limit
  cost_refused old now new a b =
      subst (λ n. new + cost (names p.explorer) (groups_of p.explorer) (length p.frees) (length p.rows) ≤ old + cost (names p.explorer) (groups_of p.explorer) n n) x.finds.limit
      (cost_then old now new q.explorer.limit q.explorer.limit a b)

  -- more than the limit are reached by a greater size too
  pub more_later : (size : ℕ) → q.explorer.level + 1 ≤ size → ReachesMore (schema q.explorer) (names q.explorer) (q.explorer.level + 1) q.explorer.limit → ReachesMore (schema p.explorer) (names p.explorer) size p.explorer.limit
  more_later size l r =
      let a = more_grows (schema q.explorer) (names q.explorer) (q.explorer.level + 1) size q.explorer.limit l r in
      let b = subst (λ g. ReachesMore g (names q.explorer) size q.explorer.limit) x.finds.schema a in
      let c = subst (λ u. ReachesMore (schema p.explorer) u size q.explorer.limit) (finds_names (at_level q.explorer.level p.explorer) q.explorer x.finds) b in
      subst (λ n. ReachesMore (schema p.explorer) (names p.explorer) size n) x.finds.limit c
