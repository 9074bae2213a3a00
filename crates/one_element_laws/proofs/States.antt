-- The states that are reached.
use Rattle.std.proofs.Common.{◌≡◌, ◌≢◌, ℕ, ◌≤◌, List, [], ◌∷◌, length, refl, Bool, true, false, arith, nat_le, not, suc, map, sym, ◌<◌, ◌||◌, eqb, ne_eqb}
use Rattle.std.specs.List.{list_any, IsDistinct, AllByRecursion}
use Rattle.std.proofs.lemmas.List.{length-map}
use Rattle.std.proofs.lemmas.Bool.{eqb-true}
use Rattle.std.proofs.lemmas.Map.Steps.{length-le_from_distinct_below}
use Rattle.rng_model.specs.States.{ReachesMore, AreDistinct}
use Rattle.std.specs.Prelude.{Contains, slice_index_or}
use Rattle.rng_model.specs.Texts.{is_white}
use Rattle.rng_model.specs.Names.{Name}
use Rattle.rng_model.specs.Classes.{in_class, one}
use Rattle.rng_model.specs.Patterns.{Pattern, not_allowed, empty, ref, after}
use Rattle.rng_model.specs.Constructors.{choice_of}
use Rattle.rng_model.specs.Matching.{nullable}
use Rattle.rng_model.specs.Universe.{Lists}
use Rattle.rng_model.specs.States.{State, Place, Tag, Fresh, AfterText, AfterElement, step, step_at, steps, no_name, Reach}
use Rattle.rng_model.specs.Codes.{Code, Opening, Attr, Body, Chars, Closing}
use Rattle.rng_model.specs.Derivatives.{where_true, text_step, map_after, opening, attribute_step, close, ending}
use Rattle.one_element_laws.specs.OneElement.{one_element}

abbrev at : Place → Pattern → State
at p q = record { place = p; pattern = q }

-- the states that can be reached, and those that can't go on
pub data Known : State → Type 0 where
  first : Known (at Fresh (ref 0))
  tag : Known (at (Tag 0) (after empty empty))
  inside : Known (at Fresh (after empty empty))
  last : Known (at AfterElement empty)
  never : {p : Place} → Known (at p not_allowed)

where_known : {p : Place} (b : Bool) (q : Pattern) → Known (at p q) → Known (at p (where_true b q))
where_known true q k = k
where_known false q k = Known.never

where_never : {p : Place} (b : Bool) → Known (at p (where_true b not_allowed))
where_never b = where_known b not_allowed Known.never

module _ (name : Name) (u : Lists) where
  after_never : (p : Place) (c : Code) → Known (step_at (one_element name) u p c not_allowed)
  unfolding choice_of nullable text_step map_after opening attribute_step close ending
  after_never (Tag k) (Opening i) = Known.never
  after_never Fresh (Opening i) = Known.never
  after_never AfterText (Opening i) = Known.never
  after_never AfterElement (Opening i) = Known.never
  after_never (Tag k) (Attr j s) = where_never (nat_le k j)
  after_never Fresh (Attr j s) = Known.never
  after_never AfterText (Attr j s) = Known.never
  after_never AfterElement (Attr j s) = Known.never
  after_never (Tag k) Body = Known.never
  after_never Fresh Body = Known.never
  after_never AfterText Body = Known.never
  after_never AfterElement Body = Known.never
  after_never (Tag k) (Chars s) = Known.never
  after_never Fresh (Chars s) = where_never (not (is_white (slice_index_or u.atoms s [])))
  after_never AfterText (Chars s) = Known.never
  after_never AfterElement (Chars s) = where_never (not (is_white (slice_index_or u.atoms s [])))
  after_never (Tag k) Closing = Known.never
  after_never Fresh Closing = Known.never
  after_never AfterText Closing = Known.never
  after_never AfterElement Closing = Known.never

  after_first : (c : Code) → Known (step_at (one_element name) u Fresh c (ref 0))
  unfolding choice_of nullable text_step map_after opening attribute_step close ending
  after_first (Opening i) = where_known (in_class (slice_index_or u.elements i no_name) (one name)) (after empty empty) Known.tag
  after_first (Attr j s) = Known.never
  after_first Body = Known.never
  after_first (Chars s) = where_never (not (is_white (slice_index_or u.atoms s [])))
  after_first Closing = Known.never

  after_tag : (c : Code) → Known (step_at (one_element name) u (Tag 0) c (after empty empty))
  unfolding choice_of nullable text_step map_after opening attribute_step close ending
  after_tag (Opening i) = Known.never
  after_tag (Attr j s) = where_never (nat_le 0 j)
  after_tag Body = Known.inside
  after_tag (Chars s) = Known.never
  after_tag Closing = Known.never

  after_inside : (c : Code) → Known (step_at (one_element name) u Fresh c (after empty empty))
  unfolding choice_of nullable text_step map_after opening attribute_step close ending
  after_inside (Opening i) = Known.never
  after_inside (Attr j s) = Known.never
  after_inside Body = Known.never
  after_inside (Chars s) = where_never (not (is_white (slice_index_or u.atoms s [])))
  after_inside Closing = Known.last

  after_last : (c : Code) → Known (step_at (one_element name) u AfterElement c empty)
  unfolding choice_of nullable text_step map_after opening attribute_step close ending
  after_last (Opening i) = Known.never
  after_last (Attr j s) = Known.never
  after_last Body = Known.never
  after_last (Chars s) = where_never (not (is_white (slice_index_or u.atoms s [])))
  after_last Closing = Known.never

  one_step : (s : State) (c : Code) → Known s → Known (step (one_element name) u s c)
  one_step s c Known.first = after_first c
  one_step s c Known.tag = after_tag c
  one_step s c Known.inside = after_inside c
  one_step s c Known.last = after_last c
  one_step s c (Known.never {p = p}) = after_never p c

  all_steps : (s : State) (cs : List Code) → Known s → Known (steps (one_element name) u s cs)
  all_steps s [] k = k
  all_steps s (c ∷ cs) k = all_steps (step (one_element name) u s c) cs (one_step s c k)

  pub reached_is_known : (m : ℕ) (s : State) → Reach (one_element name) u m s → Known s
  reached_is_known m s r = rw (← r.leads) (all_steps (at Fresh (ref 0)) r.codes Known.first)

-- a number for each of the four
rank_at : Place → Pattern → ℕ
rank_at (Tag k) p = 1
rank_at Fresh (ref d) = 0
rank_at Fresh p = 2
rank_at AfterText p = 4
rank_at AfterElement p = 3

rank : State → ℕ
rank s = rank_at s.place s.pattern

record IsLive (s : State) : Type 0 where
  known : Known s
  allowed : s.pattern ≢ not_allowed

rank_less : (s : State) → Known s → s.pattern ≢ not_allowed → rank s < 4
unfolding rank rank_at
rank_less s Known.first a = omega arith
rank_less s Known.tag a = omega arith
rank_less s Known.inside a = omega arith
rank_less s Known.last a = omega arith
rank_less s Known.never a = absurd (a refl)

rank_same : (x y : State) → Known x → Known y → x.pattern ≢ not_allowed → y.pattern ≢ not_allowed → rank x ≡ rank y → x ≡ y
unfolding rank rank_at
rank_same x y Known.first Known.first a b e = refl
rank_same x y Known.tag Known.tag a b e = refl
rank_same x y Known.inside Known.inside a b e = refl
rank_same x y Known.last Known.last a b e = refl
rank_same x y Known.never k a b e = absurd (a refl)
rank_same x y k Known.never a b e = absurd (b refl)
rank_same x y Known.first Known.tag a b e = cc
rank_same x y Known.first Known.inside a b e = cc
rank_same x y Known.first Known.last a b e = cc
rank_same x y Known.tag Known.first a b e = cc
rank_same x y Known.tag Known.inside a b e = cc
rank_same x y Known.tag Known.last a b e = cc
rank_same x y Known.inside Known.first a b e = cc
rank_same x y Known.inside Known.tag a b e = cc
rank_same x y Known.inside Known.last a b e = cc
rank_same x y Known.last Known.first a b e = cc
rank_same x y Known.last Known.tag a b e = cc
rank_same x y Known.last Known.inside a b e = cc

contains_head : (y x : State) (ys : List State) → y ≡ x → Contains (y ∷ ys) x
contains_head y x ys e = (0, omega arith, e)

contains_tail : (y x : State) (ys : List State) → Contains ys x → Contains (y ∷ ys) x
contains_tail y x ys (k, lt, e) = (suc k, omega arith, e)

no_rank : (x : State) (xs : List State) → IsLive x → ((s : State) → Contains xs s → IsLive s) → (Contains xs x → ⊥) → AllByRecursion (λ q. eqb (rank x) q ≡ false) (map rank xs)
no_rank x [] l each none = tt
no_rank x (y ∷ ys) l each none =
    let m = each y (contains_head y y ys refl) in (
      ne_eqb (rank x) (rank y) (λ e. none (contains_head y x ys (sym (rank_same x y l.known m.known l.allowed m.allowed e)))),
      no_rank x ys l (λ s c. each s (contains_tail y s ys c)) (λ c. none (contains_tail y x ys c)),
    )

ranks_distinct : (xs : List State) → AreDistinct xs → ((s : State) → Contains xs s → IsLive s) → IsDistinct eqb (map rank xs)
unfolding IsDistinct
ranks_distinct [] d each = tt
ranks_distinct (x ∷ xs) d each =
    (no_rank x xs (each x (contains_head x x xs refl)) (λ s c. each s (contains_tail x s xs c)) d.0, ranks_distinct xs d.1 (λ s c. each s (contains_tail x s xs c)))

ranks_below : (xs : List State) → ((s : State) → Contains xs s → IsLive s) → (q : ℕ) → list_any (eqb q) (map rank xs) ≡ true → q < 4
ranks_below [] each q h = absurd (never h)
  where
    never : false ≡ true → ⊥
    never e = cc
ranks_below (x ∷ xs) each q h = go (ranks_below xs (λ s c. each s (contains_tail x s xs c)) q) (eqb q (rank x)) refl h
  where
    go : (list_any (eqb q) (map rank xs) ≡ true → q < 4) → (b : Bool) → eqb q (rank x) ≡ b → (b || list_any (eqb q) (map rank xs)) ≡ true → q < 4
    go rest true e k = let l = each x (contains_head x x xs refl) in let same = eqb-true q (rank x) e in let less = rank_less x l.known l.allowed in omega arith
    go rest false e k = rest k

pub at_most_four : (name : Name) (u : Lists) (m n : ℕ) → 4 ≤ n → ReachesMore (one_element name) u m n → ⊥
at_most_four name u m n le r =
    let each : (s : State) → Contains r.states s → IsLive s = λ s c. record { known = reached_is_known name u m s (r.reached s c); allowed = (r.reached s c).allowed } in
    let few = length-le_from_distinct_below (map rank r.states) 4 (ranks_distinct r.states r.distinct each) (ranks_below r.states each) in
    let many = r.many in
    let few' : length r.states ≤ 4 = simp length-map at few in
    omega arith
