-- What the codes of a family cost.
use Rattle.std.proofs.Common.{◌≡◌, ℕ, zero, suc, ◌+◌, ◌-◌, ◌<◌, ◌≤◌, Option, Some, Bool, true, false, List, [], ◌∷◌, ◌++◌, drop, length, length-append, slice_get, refl, sym, ap, subst, arith}
use Rattle.std.specs.Prelude.{nat_lt, slice_index_or, if◌then◌else◌}
use Rattle.std.proofs.lemmas.Option.{slice_get_within}
use Rattle.rng_model.specs.Texts.{Text, is_white}
use Rattle.rng_model.specs.Patterns.{Schema, not_allowed}
use Rattle.rng_model.specs.Universe.{Lists}
use Rattle.rng_model.specs.Alike.{Groups, group_count, inked_count}
use Rattle.rng_model.specs.States.{State, Place, step}
use Rattle.feasibility.specs.declared.explorer.Explorer.{Explorer}
use Rattle.feasibility.specs.declared.family.Family.{Family}
use Rattle.feasibility.specs.declared.family.Family.TheVariants.{Texts, Attribute, Openings}
use Rattle.feasibility.specs.Costs.{cost_at, cost_from, cost_left, is_blank}
use Rattle.pattern_intern.specs.declared.id.PatternId.{PatternId}
use Rattle.feasibility.specs.Exploring.{Finds, IsExploring, IsKnown, groups_in, groups_of, names}
use Rattle.feasibility.specs.Families.{family_code, family_groups, family_length}
use Rattle.feasibility.proofs.Finding.{finds_names}
use Rattle.feasibility.proofs.Knowing.{drop_at, group_next, position_within, some_at}

same_place : (p q : ℕ) → p ≤ q → q ≤ p → p ≡ q
same_place p q l m = omega arith

not_less : (p q : ℕ) → (p < q → ⊥) → q ≤ p
not_less zero zero n = omega arith
not_less zero (suc q) n = absurd (n (omega arith))
not_less (suc p) zero n = omega arith
not_less (suc p) (suc q) n = (let h = not_less p q (λ l. n (omega arith)) in omega arith)

-- a text of white space alone leads nowhere
pub blank_dead : (g : Schema) (u : Lists) (s : State) (f : Family) (p : ℕ) → is_blank u f p ≡ true → (step g u s (family_code f p)).pattern ≡ not_allowed
blank_dead g u s Texts p h = go s.place
  where
    go : (pl : Place) → (step g u (record { place = pl; pattern = s.pattern }) (family_code Texts p)).pattern ≡ not_allowed
    go (Place.Tag k) = refl
    go Place.Fresh = rw h refl
    go Place.AfterText = refl
    go Place.AfterElement = rw h refl
blank_dead g u s (Attribute n) p h = absurd (cc)
blank_dead g u s Openings p h = absurd (cc)

index_of : (xs : List Text) (p : ℕ) (x : Text) → slice_get xs p ≡ Some x → slice_index_or xs p [] ≡ x
index_of [] p x h = absurd (cc)
index_of (y ∷ xs) zero x h = cc
index_of (y ∷ xs) (suc p) x h = index_of xs p x h

ink_old : (next k : ℕ) (t : Text) (ts : List Text) (ks : List ℕ) → k < next → inked_count next (t ∷ ts) (k ∷ ks) ≡ inked_count next ts ks
ink_old next k t ts ks l = (let e : nat_lt k next ≡ true = grind (arith, l) in rw e refl)

-- what a text costs
abbrev text_cost : Bool → ℕ
text_cost white = if white then 0 else 1

ink_new : (next : ℕ) (t : Text) (ts : List Text) (ks : List ℕ) → inked_count next (t ∷ ts) (next ∷ ks) ≡ inked_count (next + 1) ts ks + text_cost (is_white t)
ink_new next t ts ks = (let e : nat_lt next next ≡ false = grind arith in rw e (go (is_white t)))
  where
    go : (b : Bool) → (if b then inked_count (next + 1) ts ks else 1 + inked_count (next + 1) ts ks) ≡ inked_count (next + 1) ts ks + text_cost b
    go true = (let e : text_cost true ≡ 0 = refl in omega (arith, e))
    go false = (let e : text_cost false ≡ 1 = refl in omega (arith, e))

-- the code of a known group costs nothing
pub cost_known : (u : Lists) (x : Groups) (f : Family) (p group next : ℕ) → p < family_length u f → slice_get (family_groups x f) p ≡ Some group → group < next →
    cost_from u x f next (p + 1) ≤ cost_from u x f next p
cost_known u x Texts p group next l i m =
    let t = some_at u.atoms p l in
    let e = ink_old next group t.0 (drop (p + 1) u.atoms) (drop (p + 1) x.atoms) m in
    let a = drop_at u.atoms p t.0 t.1 in
    let b = drop_at x.atoms p group i in
    let c : inked_count next (drop p u.atoms) (drop p x.atoms) ≡ inked_count next (t.0 ∷ drop (p + 1) u.atoms) (group ∷ drop (p + 1) x.atoms) = (λ j. inked_count next (a j) (b j)) in
    let goal : inked_count next (drop (p + 1) u.atoms) (drop (p + 1) x.atoms) ≤ inked_count next (drop p u.atoms) (drop p x.atoms) = omega (arith, c, e) in
    goal
cost_known u x (Attribute n) p group next l i m = (let goal : group_count x.atoms - next ≤ group_count x.atoms - next = omega arith in goal)
cost_known u x Openings p group next l i m = (let goal : group_count x.elements - next ≤ group_count x.elements - next = omega arith in goal)

-- the code of a new one costs its derivative
pub cost_new : (u : Lists) (x : Groups) (f : Family) (p group : ℕ) → p < family_length u f → slice_get (family_groups x f) p ≡ Some group → group < group_count (family_groups x f) →
    cost_from u x f (group + 1) (p + 1) + cost_at u f p ≤ cost_from u x f group p
cost_new u x Texts p group l i m =
    let t = some_at u.atoms p l in
    let e = ink_new group t.0 (drop (p + 1) u.atoms) (drop (p + 1) x.atoms) in
    let a = drop_at u.atoms p t.0 t.1 in
    let b = drop_at x.atoms p group i in
    let d = index_of u.atoms p t.0 t.1 in
    let c : inked_count group (drop p u.atoms) (drop p x.atoms) ≡ inked_count group (t.0 ∷ drop (p + 1) u.atoms) (group ∷ drop (p + 1) x.atoms) = (λ j. inked_count group (a j) (b j)) in
    let w : text_cost (is_white (slice_index_or u.atoms p [])) ≡ text_cost (is_white t.0) = ap (λ (z : Text). text_cost (is_white z)) d in
    let goal : inked_count (group + 1) (drop (p + 1) u.atoms) (drop (p + 1) x.atoms) + text_cost (is_white (slice_index_or u.atoms p [])) ≤ inked_count group (drop p u.atoms) (drop p x.atoms) =
    omega (arith, c, e, w)
    in
    goal
cost_new u x (Attribute n) p group l i m = (let goal : (group_count x.atoms - (group + 1)) + 1 ≤ group_count x.atoms - group = omega (arith, m) in goal)
cost_new u x Openings p group l i m = (let goal : (group_count x.elements - (group + 1)) + 1 ≤ group_count x.elements - group = omega (arith, m) in goal)

pub cost_found : (e f : Explorer) (family : Family) (next p : ℕ) → Finds e f → cost_left f family next p ≡ cost_left e family next p
cost_found e f family next p x = (let a = finds_names e f x in let b = x.groups in (λ i. cost_from (a i) (b i) family next p))

module _ (e : Explorer) (x : IsExploring e) (id : ℕ) (f : Family) (p group : ℕ) (known : List (Option PatternId)) (h : IsKnown e id f p known) (i : slice_get (groups_in e f) p ≡ Some group) where
  within : p < family_length (names e) f
  within = position_within e x f p (slice_get_within (groups_in e f) p group i)

  pub cost_kept : group < length known → cost_left e f (length known) (p + 1) ≤ cost_left e f (length known) p
  cost_kept l = cost_known (names e) (groups_of e) f p group (length known) within i l

  module _ (b : group < group_count (groups_in e f)) (n : group < length known → ⊥) where
    is_next : group ≡ length known
    is_next = same_place group (length known) (group_next e id f p group known h i) (not_less group (length known) n)

    pub cost_made : cost_left e f (length known + 1) (p + 1) + cost_at (names e) f p ≤ cost_left e f (length known) p
    cost_made =
        subst (λ k. cost_left e f (k + 1) (p + 1) + cost_at (names e) f p ≤ cost_left e f k p) is_next (cost_new (names e) (groups_of e) f p group within i b)

    pub cost_pushed : (r : Option PatternId) → cost_left e f (length (known ++ r ∷ [])) (p + 1) + cost_at (names e) f p ≤ cost_left e f (length known) p
    cost_pushed r =
        let longer : length (known ++ r ∷ []) ≡ length known + 1 = omega (arith, length-append known (r ∷ [])) in
        subst (λ k. cost_left e f k (p + 1) + cost_at (names e) f p ≤ cost_left e f (length known) p) (sym longer) cost_made
