-- What is known of states stays so as states are found, and more is added.
use Rattle.std.proofs.Common.{◌≡◌, ℕ, ◌<◌, ◌≤◌, ◌⊎◌, inl, inr, Option, Some, None, List, [], ◌∷◌, ◌++◌, length, length-append, slice_get, refl, sym, ◌∙◌, ap, subst, arith, true≢false}
use Rattle.std.specs.Prelude.{Result, Ok, Err, IsErr, OnErr, OnOk}
use Rattle.std.proofs.lemmas.List.{append_assoc, append-nil}
use Rattle.std.proofs.lemmas.Option.{slice_get_within}
use Rattle.rng_model.specs.Patterns.{Schema}
use Rattle.rng_model.specs.Universe.{Lists}
use Rattle.rng_model.specs.States.{State}
use Rattle.transitions.specs.declared.arc.Arc.{Arc}
use Rattle.transitions.specs.declared.state_id.StateId.{StateId}
use Rattle.transitions.specs.Arcs.{IsFree, IsRow, state_in}
use Rattle.transitions.proofs.Lists.{slice_get-push}
use Rattle.feasibility.specs.declared.explorer.Explorer.{Explorer}
use Rattle.feasibility.specs.Exploring.{Finds, IsExploring, IsFreeAt, IsReachedBefore, at, found, names, schema}
use Rattle.feasibility.specs.Growing.{AreFrees, AreRowsOf, AddsFrees, AddsRows, Begins}
use Rattle.feasibility.proofs.Finding.{finds_names}
use Rattle.feasibility.proofs.Moving.{finds_on}

-- after an error
pub on_err : {T E P : Type 0} (r : Result T E) → P → OnErr r P
on_err (Ok x) p = tt
on_err (Err e) p = p

pub ok_from_err : {T E : Type 0} (r : Result T E) (P : Type 0) → IsErr r → OnOk r P
ok_from_err (Ok x) P e = absurd (true≢false (sym e))
ok_from_err (Err x) P e = tt

-- beginnings
pub begins_itself : {X : Type 0} (xs : List X) → Begins xs xs
begins_itself xs = ([], sym (append-nil xs))

pub begins_with : {X : Type 0} (xs : List X) (x : X) → Begins xs (xs ++ x ∷ [])
begins_with xs x = (x ∷ [], refl)

pub begins_on : {X : Type 0} (xs ys zs : List X) → Begins xs ys → Begins ys zs → Begins xs zs
begins_on {X} xs ys zs a b = (a.0 ++ b.0, b.1 ∙ ap (λ (w : List X). w ++ b.0) a.1 ∙ append_assoc xs a.0 b.0)

pub longer_by : {X : Type 0} (xs ys : List X) → Begins xs ys → length xs ≤ length ys
longer_by {X} xs ys a =
    let e : length ys ≡ length (xs ++ a.0) = ap (λ (w : List X). length w) a.1 in
    let n = length-append xs a.0 in
    omega (arith, e, n)

module _ (g : Schema) (u : Lists) (states more : List State) (longer : length states ≤ length more) (same : (id : ℕ) → id < length states → state_in more id ≡ state_in states id) (s : State) where
  free_stays : (next : Option StateId) → IsFree g u states s next → IsFree g u more s next
  free_stays None h = h
  free_stays (Some n) h = let w = h.held in record { held = omega (arith, longer, w); in_range = h.in_range; state = same n.0 w ∙ h.state }

  row_stays : (arcs : List Arc) → IsRow g u states s arcs → IsRow g u more s arcs
  row_stays arcs h = record {
    some = h.some;
    right = λ i a c e k. let r = h.right i a c e k in let w = r.held in record { held = omega (arith, longer, w); in_range = r.in_range; state = same a.next.0 w ∙ r.state };
    ascending = h.ascending;
    all = h.all;
  }

module _ (e f : Explorer) (x : Finds e f) where
  pub free_on : (id : ℕ) (next : Option StateId) → id < length (found e) → IsFreeAt e id next → IsFreeAt f id next
  free_on id next w h =
      subst (λ g. IsFree g (names f) (found f) (at f id) next) (sym x.schema)
      (subst (λ u. IsFree (schema e) u (found f) (at f id) next) (sym (finds_names e f x))
      (subst (λ s. IsFree (schema e) (names e) (found f) s next) (sym (x.states id w))
      (free_stays (schema e) (names e) (found e) (found f) x.longer x.states (at e id) next h)))

  pub row_on : (id : ℕ) (arcs : List Arc) → id < length (found e) → IsRow (schema e) (names e) (found e) (at e id) arcs → IsRow (schema f) (names f) (found f) (at f id) arcs
  row_on id arcs w h =
      subst (λ g. IsRow g (names f) (found f) (at f id) arcs) (sym x.schema)
      (subst (λ u. IsRow (schema e) u (found f) (at f id) arcs) (sym (finds_names e f x))
      (subst (λ s. IsRow (schema e) (names e) (found f) s arcs) (sym (x.states id w))
      (row_stays (schema e) (names e) (found e) (found f) x.longer x.states (at e id) arcs h)))

  pub frees_on : (frees : List (Option StateId)) → AreFrees e frees → AreFrees f frees
  frees_on frees h = record {
    within = let l = h.within in let m = x.longer in omega (arith, l, m);
    each = λ id next k. free_on id next (let l = h.within in let m = slice_get_within frees id next k in omega (arith, l, m)) (h.each id next k);
  }

  pub rows_on : (rows : List (List Arc)) → AreRowsOf e rows → AreRowsOf f rows
  rows_on rows h = record {
    within = let l = h.within in let m = x.longer in omega (arith, l, m);
    each = λ id arcs k. row_on id arcs (let l = h.within in let m = slice_get_within rows id arcs k in omega (arith, l, m)) (h.each id arcs k);
  }

module _ (e : Explorer) where
  pub frees_add : (frees : List (Option StateId)) (next : Option StateId) → AreFrees e frees → length frees < length (found e) → IsFreeAt e (length frees) next → AreFrees e (frees ++ next ∷ [])
  frees_add frees next h l here = record {
    within = (let n = length-append frees (next ∷ []) in omega (arith, n, l));
    each = λ id m k. go id m (slice_get-push frees next m id k);
  }
    where
      go : (id : ℕ) (m : Option StateId) → (slice_get frees id ≡ Some m) ⊎ ((id ≡ length frees) × (next ≡ m)) → IsFreeAt e id m
      go id m (inl k) = h.each id m k
      go id m (inr k) = subst (IsFreeAt e id) k.1 (subst (λ j. IsFreeAt e j next) (sym k.0) here)

  abbrev Row : ℕ → List Arc → Type 0
  Row id arcs = IsRow (schema e) (names e) (found e) (at e id) arcs

  pub rows_add : (rows : List (List Arc)) (arcs : List Arc) → AreRowsOf e rows → length rows < length (found e) → IsRow (schema e) (names e) (found e) (at e (length rows)) arcs →
      AreRowsOf e (rows ++ arcs ∷ [])
  rows_add rows arcs h l here = record {
    within = (let n = length-append rows (arcs ∷ []) in omega (arith, n, l));
    each = λ id m k. go id m (slice_get-push rows arcs m id k);
  }
    where
      go : (id : ℕ) (m : List Arc) → (slice_get rows id ≡ Some m) ⊎ ((id ≡ length rows) × (arcs ≡ m)) → Row id m
      go id m (inl k) = h.each id m k
      go id m (inr k) = subst (Row id) k.1 (subst (λ j. Row j arcs) (sym k.0) here)

  -- a state that is found is reached
  pub reached_now : IsExploring e → (id : ℕ) → id < length (found e) → IsReachedBefore e id 0
  reached_now x id l = (e.level, omega arith, x.reached id l)

-- states were found alone
pub frees_found : (e f : Explorer) (frees : List (Option StateId)) → Finds e f → IsExploring f → AreFrees e frees → AddsFrees e f frees frees
frees_found e f frees x y h = record { finds = x; exploring = y; frees = frees_on e f x frees h; kept = begins_itself frees }

pub rows_found : (e f : Explorer) (rows : List (List Arc)) → Finds e f → IsExploring f → AreRowsOf e rows → AddsRows e f rows rows
rows_found e f rows x y h = record { finds = x; exploring = y; rows = rows_on e f x rows h; kept = begins_itself rows }

-- one was added
pub frees_one : (e f : Explorer) (frees : List (Option StateId)) (next : Option StateId) → Finds e f → IsExploring f → AreFrees e frees → length frees < length (found e) → IsFreeAt f (length frees) next →
    AddsFrees e f frees (frees ++ next ∷ [])
frees_one e f frees next x y h l here = record {
  finds = x;
  exploring = y;
  frees = frees_add f frees next (frees_on e f x frees h) (let m = x.longer in omega (arith, l, m)) here;
  kept = begins_with frees next;
}

pub rows_one : (e f : Explorer) (rows : List (List Arc)) (arcs : List Arc) → Finds e f → IsExploring f → AreRowsOf e rows → length rows < length (found e) →
    IsRow (schema f) (names f) (found f) (at f (length rows)) arcs → AddsRows e f rows (rows ++ arcs ∷ [])
rows_one e f rows arcs x y h l here = record {
  finds = x;
  exploring = y;
  rows = rows_add f rows arcs (rows_on e f x rows h) (let m = x.longer in omega (arith, l, m)) here;
  kept = begins_with rows arcs;
}

-- one after the other
pub frees_then : (e f k : Explorer) (a b c : List (Option StateId)) → AddsFrees e f a b → AddsFrees f k b c → AddsFrees e k a c
frees_then e f k a b c x y = record { finds = finds_on e f k x.finds y.finds; exploring = y.exploring; frees = y.frees; kept = begins_on a b c x.kept y.kept }

pub rows_then : (e f k : Explorer) (a b c : List (List Arc)) → AddsRows e f a b → AddsRows f k b c → AddsRows e k a c
rows_then e f k a b c x y = record { finds = finds_on e f k x.finds y.finds; exploring = y.exploring; rows = y.rows; kept = begins_on a b c x.kept y.kept }

pub finds_itself : (e : Explorer) → Finds e e
finds_itself e = record {
  schema = refl;
  universe = refl;
  atoms = refl;
  groups = refl;
  limit = refl;
  level = refl;
  pool = record { longer = omega arith; kept = λ id l. refl; more_classes = omega arith; classes = λ id l. refl; more_literals = omega arith; literals = λ id l. refl };
  keys = begins_itself e.states.keys;
  longer = omega arith;
  states = λ id l. refl;
}
