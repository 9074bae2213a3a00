-- A state can finish exactly where its codes begin those of a skeleton that matches.
use Rattle.std.proofs.Common.{◌≡◌, ℕ, zero, suc, ◌+◌, ◌↔◌, List, [], ◌∷◌, ◌++◌, map, length, refl, sym, ◌∙◌, subst, arith, IsTrue, Some, slice_get, Contains}
use Rattle.std.specs.Prelude.{⊤}
use Rattle.std.specs.List.{AllByRecursion}
use Rattle.std.proofs.lemmas.Option.{slice_get_within}
use Rattle.rng_model.specs.Patterns.{Schema, IsSimpleForm}
use Rattle.rng_model.specs.Hedges.{Hedge, Attributes, Skeleton, IsSkeleton, document, size, hedge_size}
use Rattle.rng_model.specs.Hedges as hedge
use Rattle.rng_model.specs.Events.{Event, hedge_events, events}
use Rattle.rng_model.specs.Events as event
use Rattle.rng_model.specs.Universe.{Lists, IsAlphabet, Ascend}
use Rattle.rng_model.specs.Restrictions.{BreaksNoRule}
use Rattle.rng_model.specs.Matching.{nullable}
use Rattle.rng_model.specs.Listing.{IsOver}
use Rattle.rng_model.specs.Codes.{IsCode, AreCodes, Code, nodes, IsInRange}
use Rattle.rng_model.specs.States.{steps, after_codes}
use Rattle.derivative_laws.proofs.CodesLaw.{acceptance}
use Rattle.derivative_laws.proofs.Building.{accepted_codes}
use Rattle.derivative_laws.proofs.Members.{all-append, all-front, all-back}
use Rattle.table_laws.specs.Reaching.{weight, start_state}
use Rattle.table_laws.specs.Finishing.{Finish, BeginsSkeleton}
use Rattle.table_laws.proofs.Rows.{nodes-cons, nodes-append, steps-append}

contains_at : {X : Type 0} (xs : List X) (i : ℕ) (x : X) → slice_get xs i ≡ Some x → Contains xs x
contains_at [] i x e = absurd (cc)
contains_at (y ∷ ys) zero x e = let f : y ≡ x = cc in (zero, omega arith, f)
contains_at (y ∷ ys) (suc i) x e = let t = contains_at ys i x e in (suc t.0, (let l = t.1 in omega arith), t.2)

-- its name or text stands in the lists
abbrev pub IsEventOver : Lists → Event → Type 0
IsEventOver u (event.Opening n) = Contains u.elements n
IsEventOver u (event.Attr n t) = Contains u.attributes n × Contains u.atoms t
IsEventOver u event.Body = ⊤
IsEventOver u (event.Chars t) = Contains u.atoms t
IsEventOver u event.Closing = ⊤

event_weight : Event → ℕ
event_weight (event.Opening n) = 1
event_weight (event.Attr n t) = 1
event_weight event.Body = 0
event_weight (event.Chars t) = 1
event_weight event.Closing = 0

-- the nodes of a list of events
event_nodes : List Event → ℕ
event_nodes [] = 0
event_nodes (e ∷ es) = event_weight e + event_nodes es

event_nodes-append : (xs ys : List Event) → event_nodes (xs ++ ys) ≡ event_nodes xs + event_nodes ys
unfolding event_nodes
event_nodes-append [] ys = omega arith
event_nodes-append (x ∷ xs) ys = omega (arith, event_nodes-append xs ys)

event_nodes-attributes : (a : Attributes) → event_nodes (map (λ x. event.Attr x.0 x.1) a) ≡ length a
unfolding event_nodes event_weight
event_nodes-attributes [] = refl
event_nodes-attributes (x ∷ a) = omega (arith, event_nodes-attributes a)

event_nodes-hedge : (m : Hedge) → event_nodes (hedge_events m) ≡ hedge_size m
unfolding event_nodes event_weight
event_nodes-hedge hedge.none = refl
event_nodes-hedge (hedge.text t rest) = omega (arith, event_nodes-hedge rest)
event_nodes-hedge (hedge.element n a k rest) =
    omega (
      arith,
      event_nodes-hedge k,
      event_nodes-hedge rest,
      event_nodes-attributes a,
      event_nodes-append ((event.Opening n ∷ map (λ x. event.Attr x.0 x.1) a) ++ (event.Body ∷ hedge_events k)) (event.Closing ∷ hedge_events rest),
      event_nodes-append (event.Opening n ∷ map (λ x. event.Attr x.0 x.1) a) (event.Body ∷ hedge_events k),
    )

record Coded (u : Lists) (e : Event) (c : Code) (g : Schema) : Type 0 where
  in_range : IsInRange u c
  over : IsEventOver u e
  weighs : weight c ≡ event_weight e

module _ (g : Schema) (u : Lists) where
  coded : (e : Event) (c : Code) → IsCode u e c → Coded u e c g
  unfolding event_weight
  coded (event.Opening n) (Code.Opening i) h = record { in_range = slice_get_within u.elements i n h; over = contains_at u.elements i n h; weighs = refl }
  coded (event.Attr n t) (Code.Attr j s) h = record {
    in_range = (slice_get_within u.attributes j n h.0, slice_get_within u.atoms s t h.1);
    over = (contains_at u.attributes j n h.0, contains_at u.atoms s t h.1);
    weighs = refl;
  }
  coded event.Body Code.Body h = record { in_range = tt; over = tt; weighs = refl }
  coded (event.Chars t) (Code.Chars s) h = record { in_range = slice_get_within u.atoms s t h; over = contains_at u.atoms s t h; weighs = refl }
  coded event.Closing Code.Closing h = record { in_range = tt; over = tt; weighs = refl }
  coded e c h = absurd h

  pub codes_in_range : (es : List Event) (cs : List Code) → AreCodes u es cs → AllByRecursion (IsInRange u) cs
  codes_in_range [] [] h = tt
  codes_in_range [] (c ∷ cs) h = absurd h
  codes_in_range (e ∷ es) [] h = absurd h
  codes_in_range (e ∷ es) (c ∷ cs) h = ((coded e c h.0).in_range, codes_in_range es cs h.1)

  codes_nodes : (es : List Event) (cs : List Code) → AreCodes u es cs → nodes cs ≡ event_nodes es
  unfolding event_nodes
  codes_nodes [] [] h = refl
  codes_nodes [] (c ∷ cs) h = absurd h
  codes_nodes (e ∷ es) [] h = absurd h
  codes_nodes (e ∷ es) (c ∷ cs) h = let w = (coded e c h.0).weighs in omega (arith, nodes-cons c cs, codes_nodes es cs h.1)

  codes_over : (es : List Event) (cs : List Code) → AreCodes u es cs → AllByRecursion (IsEventOver u) es
  codes_over [] [] h = tt
  codes_over [] (c ∷ cs) h = absurd h
  codes_over (e ∷ es) [] h = absurd h
  codes_over (e ∷ es) (c ∷ cs) h = ((coded e c h.0).over, codes_over es cs h.1)

  attributes_over : (a : Attributes) → AllByRecursion (IsEventOver u) (map (λ x. event.Attr x.0 x.1) a) → AllByRecursion (λ x. Contains u.attributes x.0 × Contains u.atoms x.1) a
  attributes_over [] h = tt
  attributes_over (x ∷ a) h = (h.0, attributes_over a h.1)

  pub hedge_over : (m : Hedge) → AllByRecursion (IsEventOver u) (hedge_events m) → IsOver u m
  hedge_over hedge.none h = tt
  hedge_over (hedge.text t rest) h = (h.0, hedge_over rest h.1)
  hedge_over (hedge.element n a k rest) h =
      let inside = all-front (IsEventOver u) ((event.Opening n ∷ map (λ x. event.Attr x.0 x.1) a) ++ (event.Body ∷ hedge_events k)) (event.Closing ∷ hedge_events rest) h in
      let behind = all-back (IsEventOver u) ((event.Opening n ∷ map (λ x. event.Attr x.0 x.1) a) ++ (event.Body ∷ hedge_events k)) (event.Closing ∷ hedge_events rest) h in
      let opened = all-front (IsEventOver u) (event.Opening n ∷ map (λ x. event.Attr x.0 x.1) a) (event.Body ∷ hedge_events k) inside in
      let content = all-back (IsEventOver u) (event.Opening n ∷ map (λ x. event.Attr x.0 x.1) a) (event.Body ∷ hedge_events k) inside in
      (opened.0, attributes_over a opened.1, hedge_over k content.1, hedge_over rest behind.1)

  -- the codes of a skeleton have its size, and it is over the lists
  pub codes_size : (s : Skeleton) (cs : List Code) → AreCodes u (events s) cs → nodes cs ≡ size s
  codes_size s cs h = codes_nodes (events s) cs h ∙ event_nodes-hedge (document s) ∙ omega arith

  pub codes_skeleton_over : (s : Skeleton) (cs : List Code) → AreCodes u (events s) cs → IsOver u (document s)
  codes_skeleton_over s cs h = hedge_over (document s) (codes_over (events s) cs h)

module _ (g : Schema) (u : Lists) (unbroken : BreaksNoRule g) (simple : IsSimpleForm g) (lists : Ascend u) (named : IsAlphabet u) where
  pub finish_begins : (front : List Code) → AllByRecursion (IsInRange u) front → (rest : ℕ) → Finish g u rest (after_codes g u front) → BeginsSkeleton g u front (nodes front + rest)
  finish_begins front a rest f =
      let all : List Code = front ++ f.codes in
      let in_range = all-append (IsInRange u) front f.codes a f.in_range in
      let moved : steps g u (start_state g) all ≡ steps g u (after_codes g u front) f.codes = steps-append g u (start_state g) front f.codes in
      let accepts : IsTrue (nullable (after_codes g u all).pattern) = subst (λ x. IsTrue (nullable x.pattern)) (sym moved) f.accepts in
      let t = accepted_codes g u unbroken simple named all in_range accepts in
      record {
        skeleton = t.0;
        is = t.1;
        over = codes_skeleton_over g u t.0 all t.2;
        exact = let e = f.exact in omega (arith, codes_size g u t.0 all t.2, nodes-append front f.codes);
        matches = (acceptance g u unbroken lists.attributes t.0 t.1 all t.2).1 accepts;
        back = f.codes;
        codes = t.2;
      }

  pub begins_finish : (front : List Code) (rest : ℕ) → BeginsSkeleton g u front (nodes front + rest) → Finish g u rest (after_codes g u front)
  begins_finish front rest b =
      let moved : steps g u (start_state g) (front ++ b.back) ≡ steps g u (after_codes g u front) b.back = steps-append g u (start_state g) front b.back in
      let accepts : IsTrue (nullable (after_codes g u (front ++ b.back)).pattern) = (acceptance g u unbroken lists.attributes b.skeleton b.is (front ++ b.back) b.codes).0 b.matches in
      record {
        codes = b.back;
        in_range = all-back (IsInRange u) front b.back (codes_in_range g u (events b.skeleton) (front ++ b.back) b.codes);
        exact = let e = b.exact in omega (arith, codes_size g u b.skeleton (front ++ b.back) b.codes, nodes-append front b.back);
        accepts = subst (λ x. IsTrue (nullable x.pattern)) moved accepts;
      }

  pub can_finish_exact : (front : List Code) → AllByRecursion (IsInRange u) front → (rest : ℕ) → Finish g u rest (after_codes g u front) ↔ BeginsSkeleton g u front (nodes front + rest)
  can_finish_exact front a rest = (finish_begins front a rest, begins_finish front rest)
