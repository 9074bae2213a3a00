-- How far a document goes along the listed documents of its size.
use Rattle.std.proofs.Common.{◌≡◌, ℕ, zero, suc, ◌+◌, ◌-◌, ◌*◌, ◌<◌, ◌≤◌, List, [], ◌∷◌, ◌++◌, map, get_or, length, take, refl, sym, ◌∙◌, ap, subst, arith, Some, slice_get, ◌⊎◌, inl, inr}
use Rattle.std.proofs.Math.Seq.{take-length}
use Rattle.std.proofs.lemmas.List.{length-map}
use Rattle.std.proofs.lemmas.Option.{slice_get-get_or, slice_get_within}
use Rattle.rng_model.specs.Patterns.{not_allowed}
use Rattle.rng_model.specs.Hedges.{Skeleton, IsSkeleton, size}
use Rattle.rng_model.specs.Events.{Event, events}
use Rattle.rng_model.specs.Universe.{Lists}
use Rattle.rng_model.specs.Listing.{IsListed}
use Rattle.rng_model.specs.Codes.{Code, nodes, IsCode, AreCodes}
use Rattle.rng_model.specs.States.{step, after_codes}
use Rattle.derivative_laws.proofs.Building.{codes-append}
use Rattle.line_laws.specs.Nodes.{node_count}
use Rattle.table_laws.specs.Reaching.{start_state}
use Rattle.table_laws.specs.Finishing.{Finish, BeginsSkeleton, BeginsListed}
use Rattle.table_laws.proofs.Rows.{nodes-append, nodes-cons, steps-append, alive, nullable-alive}
use Rattle.table_laws.proofs.Exact.{codes_in_range, finish_begins, begins_finish}
use Rattle.table_laws.proofs.ListedCodes.{over_codes, skeleton_codes}
use Rattle.table_laws.proofs.Cursors.{begins_listed_to, begins_listed_from, begins_listed_coded}
use Rattle.feasibility.specs.Tables.{Table, IsTable, lists, state_of}
use Rattle.feasibility.specs.Following.{IsHeld, IsGrownFor}
use Rattle.cursor.specs.Strays.{IsStrayAt}
use Rattle.cursor.specs.Passing.{Passes, IsStuck}
use Rattle.cursor.proofs.DocumentEvents.{parts, node_count-append, event_within, few_events, same_document}
use Rattle.cursor.proofs.EventSteps.{held_allowed, weighs}

-- The first i events have codes that lead to the state, and so many nodes of the document are left; through each of those events some
-- listed document of its size begins so.
pub record StandsAt (t : Table) (c : Skeleton) (i id rest : ℕ) : Type 0 where
  pub codes : List Code
  pub are : AreCodes (lists t) (take i (events c)) codes
  pub held : IsHeld t id
  pub state : state_of t id ≡ after_codes t.schema (lists t) codes
  pub left : nodes codes + rest ≡ size c
  pub begins : (k : ℕ) → 1 ≤ k → k ≤ i → BeginsListed t.schema (lists t) (size c) (take k (events c))

-- an event by its place
pub event_at : {X : Type 0} (f : X → Event) (xs : List X) (es : List Event) (i : ℕ) (x : X) → map f xs ≡ es → i < length xs →
    x ≡ get_or xs i x → slice_get es i ≡ Some (f x)
event_at {X = X} f xs es i x e l h =
    ap (λ z. slice_get z i) (sym e) ∙ slice_get-get_or (map f xs) i (f x) (let m = length-map xs f in omega arith) ∙ ap Some (go xs i l h)
  where
    go : (zs : List X) (k : ℕ) → k < length zs → x ≡ get_or zs k x → get_or (map f zs) k (f x) ≡ f x
    go [] k l h = refl
    go (z ∷ zs) zero l h = ap f (sym h)
    go (z ∷ zs) (suc k) l h = go zs k (omega arith) h

-- a code of the last one of some events that have codes
last_code : (u : Lists) (front : List Event) (e : Event) (cs : List Code) → AreCodes u (front ++ (e ∷ [])) cs → (d : Code) × IsCode u e d
last_code u [] e [] h = absurd h
last_code u [] e (d ∷ cs) h = (d, h.0)
last_code u (f ∷ front) e [] h = absurd h
last_code u (f ∷ front) e (d ∷ cs) h = last_code u front e cs h.1

at_most : (k i : ℕ) → k ≤ suc i → (k ≤ i) ⊎ (suc i ≡ k)
at_most zero i l = inl (omega arith)
at_most (suc k) zero l = inr (omega arith)
at_most (suc k) (suc i) l = one_up (at_most k i (omega arith))
  where
    one_up : (k ≤ i) ⊎ (suc i ≡ k) → (suc k ≤ suc i) ⊎ (suc (suc i) ≡ suc k)
    one_up (inl m) = inl (omega arith)
    one_up (inr e) = inr (ap (λ z. suc z) e)

nodes_of : (u : Lists) (es : List Event) (cs : List Code) → AreCodes u es cs → nodes cs ≡ node_count es
nodes_of u [] [] h = refl
nodes_of u [] (c ∷ cs) h = absurd h
nodes_of u (e ∷ es) [] h = absurd h
nodes_of u (e ∷ es) (c ∷ cs) h = omega (arith, nodes-cons c cs, weighs u e c h.0, nodes_of u es cs h.1, node_count-append (e ∷ []) es)

module _ (t : Table) (is : IsTable t) (c : Skeleton) where
  -- no event has more nodes than are left
  pub within : (i id rest : ℕ) (e : Event) → StandsAt t c i id rest → slice_get (events c) i ≡ Some e → node_count (e ∷ []) ≤ rest
  within i id rest e s h = let l = s.left in omega (arith, event_within c i e h, nodes_of (lists t) (take i (events c)) s.codes s.are)

  pub grown_at : (i id rest left : ℕ) (e : Event) → StandsAt t c i id rest → slice_get (events c) i ≡ Some e →
      left ≡ rest - node_count (e ∷ []) → size c ≤ t.grown →
      IsGrownFor t id (node_count (e ∷ []) + left)
  grown_at i id rest left e s h l g = (
    nodes s.codes,
    record {
      codes = s.codes;
      in_range = codes_in_range t.schema (lists t) (take i (events c)) s.codes s.are;
      small = omega arith;
      leads = sym s.state;
      allowed = held_allowed t is id s.held;
    },
    (let n = s.left in omega (arith, within i id rest e s h)),
  )

  one_more : (i : ℕ) (e : Event) (codes : List Code) (d : Code) → slice_get (events c) i ≡ Some e →
      AreCodes (lists t) (take i (events c)) codes → IsCode (lists t) e d →
      AreCodes (lists t) (take (suc i) (events c)) (codes ++ (d ∷ []))
  one_more i e codes d h are code =
      subst (λ x. AreCodes (lists t) x (codes ++ (d ∷ []))) (sym (parts (events c) i e h).more)
      (codes-append (lists t) (take i (events c)) (e ∷ []) codes (d ∷ []) are (code, tt))

  after_more : (codes : List Code) (d : Code) →
      after_codes t.schema (lists t) (codes ++ (d ∷ [])) ≡ step t.schema (lists t) (after_codes t.schema (lists t) codes) d
  after_more codes d = steps-append t.schema (lists t) (start_state t.schema) codes (d ∷ [])

  step_size : (i id rest left : ℕ) (e : Event) (d : Code) (s : StandsAt t c i id rest) → slice_get (events c) i ≡ Some e →
      left ≡ rest - node_count (e ∷ []) → IsCode (lists t) e d →
      nodes (s.codes ++ (d ∷ [])) + left ≡ size c
  step_size i id rest left e d s h l code =
      let n = s.left in
      omega (arith, within i id rest e s h, nodes-append s.codes (d ∷ []), nodes-cons d [], weighs (lists t) e d code)

  -- one event further
  pub goes : (i id rest left next : ℕ) (e : Event) → StandsAt t c i id rest → slice_get (events c) i ≡ Some e →
      left ≡ rest - node_count (e ∷ []) → Passes t id e left next →
      StandsAt t c (i + 1) next left
  goes i id rest left next e s h l p = subst (λ k. StandsAt t c k next left) one (record {
    codes = all;
    are = are;
    held = p.leads.held;
    state = state;
    left = sized;
    begins = λ k from to. begins k from (at_most k i to);
  })
    where
      one : suc i ≡ i + 1
      one = omega arith

      all : List Code
      all = s.codes ++ (p.code ∷ [])

      are : AreCodes (lists t) (take (suc i) (events c)) all
      are = one_more i e s.codes p.code h s.are p.is

      state : state_of t next ≡ after_codes t.schema (lists t) all
      state = p.leads.state ∙ ap (λ x. step t.schema (lists t) x p.code) s.state ∙ sym (after_more s.codes p.code)

      sized : nodes all + left ≡ size c
      sized = step_size i id rest left e p.code s h l p.is

      here : BeginsListed t.schema (lists t) (size c) (take (suc i) (events c))
      here = begins_listed_to t.schema (lists t) (size c) (take (suc i) (events c)) all are
          (subst (BeginsSkeleton t.schema (lists t) all) sized
          (finish_begins t.schema (lists t) is.listable.unbroken is.listable.simple is.listable.ascend is.listable.alphabet all
          (codes_in_range t.schema (lists t) (take (suc i) (events c)) all are) left (subst (Finish t.schema (lists t) left) state p.finishes)))

      begins : (k : ℕ) → 1 ≤ k → (k ≤ i) ⊎ (suc i ≡ k) → BeginsListed t.schema (lists t) (size c) (take k (events c))
      begins k from (inl low) = s.begins k from low
      begins k from (inr same) = subst (λ m. BeginsListed t.schema (lists t) (size c) (take m (events c))) same here

  -- where an event is stuck no listed document of the size goes on so
  pub stray_here : (i id rest left : ℕ) (e : Event) → StandsAt t c i id rest → slice_get (events c) i ≡ Some e →
      left ≡ rest - node_count (e ∷ []) → IsStuck t id e left →
      IsStrayAt t.schema (lists t) c (i + 1)
  stray_here i id rest left e s h l stuck = record {
    from = omega arith;
    to = (let m = slice_get_within (events c) i e h in omega arith);
    stray = λ b. none (subst (λ k. BeginsListed t.schema (lists t) (size c) (take k (events c))) one b);
    first = λ k from to. s.begins k from (omega arith);
  }
    where
      one : i + 1 ≡ suc i
      one = omega arith

      coded : (d : Code) → IsCode (lists t) e d → BeginsListed t.schema (lists t) (size c) (take (suc i) (events c)) → ⊥
      coded d code b =
          let all : List Code = s.codes ++ (d ∷ []) in
          let begun : BeginsSkeleton t.schema (lists t) all (size c) =
          begins_listed_from t.schema (lists t) (size c) (take (suc i) (events c)) all (one_more i e s.codes d h s.are code) b in
          let f : Finish t.schema (lists t) left (after_codes t.schema (lists t) all) =
          begins_finish t.schema (lists t) is.listable.unbroken is.listable.simple is.listable.ascend is.listable.alphabet all left
          (subst (BeginsSkeleton t.schema (lists t) all) (sym (step_size i id rest left e d s h l code)) begun) in
          stuck d code (subst (Finish t.schema (lists t) left) (after_more s.codes d ∙ ap (λ x. step t.schema (lists t) x d) (sym s.state)) f)

      none : BeginsListed t.schema (lists t) (size c) (take (suc i) (events c)) → ⊥
      none b =
          let k = begins_listed_coded t.schema (lists t) (size c) (take (suc i) (events c)) b in
          let d = last_code (lists t) (take i (events c)) e k.0 (subst (λ x. AreCodes (lists t) x k.0) (parts (events c) i e h).more k.1) in
          coded d.0 d.1 b

  -- where nothing is allowed the first event is a stray one
  pub stray_first : t.schema.start ≡ not_allowed → IsStrayAt t.schema (lists t) c 1
  stray_first dead = record { from = omega arith; to = omega arith; stray = none; first = λ k from to. absurd (omega arith) }
    where
      none : BeginsListed t.schema (lists t) (size c) (take 1 (events c)) → ⊥
      none b =
          let k = over_codes t.schema (lists t) b.skeleton b.listed.over in
          let a = skeleton_codes t.schema (lists t) is.listable.unbroken is.listable.ascend (size c) b.skeleton b.listed k.0 k.1 in
          alive t.schema (lists t) k.0 (start_state t.schema) (nullable-alive (after_codes t.schema (lists t) k.0).pattern a.accepts) dead

  -- once all events are read the document is listed
  pub arrives : (id rest n : ℕ) → IsSkeleton c → size c ≤ n → StandsAt t c (length (events c)) id rest → IsListed t.schema (lists t) n c
  arrives id rest n h small s =
      let b = s.begins (length (events c)) (omega arith) (omega arith) in
      let e : events b.skeleton ≡ events c ++ b.back = b.is ∙ ap (λ x. x ++ b.back) (take-length (events c)) in
      let l : IsListed t.schema (lists t) (size c) c =
      subst (IsListed t.schema (lists t) (size c)) (same_document c b.skeleton h b.listed.skeleton b.back e) b.listed in
      record { skeleton = h; over = l.over; small = small; matches = l.matches }

  pub ticks_within : (i n : ℕ) → i ≤ length (events c) → size c ≤ n → 2 * i ≤ 6 * n
  ticks_within i n few small = omega (arith, few_events c)
