-- While the attributes of names are gone through.
use Rattle.std.proofs.Common.{◌≡◌, ℕ, zero, suc, ◌+◌, ◌*◌, ◌-◌, ◌<◌, ◌≤◌, ◌⊎◌, inl, inr, Option, Some, List, [], ◌∷◌, length, replicate, set, slice_get, sum_by, refl, sym, ◌∙◌, ap, subst, arith}
use Rattle.std.proofs.lemmas.List.{get_or-replicate, length-replicate}
use Rattle.std.proofs.lemmas.List.Folds.{sum_by-replicate}
use Rattle.std.proofs.lemmas.List.Sums.{get_or-le-sum_by, sum_by-set}
use Rattle.std.proofs.lemmas.Option.{get_or_from_slice_get, slice_get_within}
use Rattle.rng_model.specs.Codes as code
use Rattle.rng_model.specs.States.{Place, State, IsAllowed}
use Rattle.rng_model.specs.Alike.{Groups, group_count}
use Rattle.pattern_intern.specs.declared.id.PatternId.{PatternId}
use Rattle.transitions.specs.declared.arc.Arc.{Arc}
use Rattle.feasibility.specs.declared.explorer.Explorer.{Explorer}
use Rattle.feasibility.specs.declared.family.Family.TheVariants.{Attribute}
use Rattle.feasibility.specs.Costs.{names_cost}
use Rattle.feasibility.specs.Exploring.{AreKnown, Finds, IsExploring, IsKnown, IsRowAt, at, found, groups_of, names}
use Rattle.feasibility.proofs.Knowing.{known_finds}
use Rattle.feasibility.proofs.Moving.{finds_on, found_on}
use Rattle.feasibility.proofs.Sharing.{known_alike, nothing_known}

get_set : {X : Type 0} (xs : List X) (i j : ℕ) (y z : X) → slice_get (set xs i y) j ≡ Some z → ((j ≡ i) × (y ≡ z)) ⊎ (slice_get xs j ≡ Some z)
get_set [] i j y z h = inr h
get_set (x ∷ xs) zero zero y z h = inl (refl, cc)
get_set (x ∷ xs) zero (suc j) y z h = inr h
get_set (x ∷ xs) (suc i) zero y z h = inr h
get_set (x ∷ xs) (suc i) (suc j) y z h = go (get_set xs i j y z h)
  where
    go : ((j ≡ i) × (y ≡ z)) ⊎ (slice_get xs j ≡ Some z) → ((suc j ≡ suc i) × (y ≡ z)) ⊎ (slice_get xs j ≡ Some z)
    go (inl (e, f)) = inl (ap suc e, f)
    go (inr e) = inr e

set_again : {X : Type 0} (xs : List X) (i : ℕ) (y z : X) → set (set xs i y) i z ≡ set xs i z
set_again [] i y z = refl
set_again (x ∷ xs) zero y z = refl
set_again {X} (x ∷ xs) (suc i) y z = ap (λ (l : List X). x ∷ l) (set_again xs i y z)

-- a list that was taken comes back
pub put_back : {X : Type 0} (known taken after : List (List X)) (group : ℕ) (more : List X) → taken ≡ set known group [] → after ≡ set taken group more → after ≡ set known group more
put_back {X} known taken after group more e f = f ∙ ap (λ (l : List (List X)). set l group more) e ∙ set_again known group [] more

of_replicate : {X : Type 0} (n j : ℕ) (x z : X) → slice_get (replicate n x) j ≡ Some z → x ≡ z
of_replicate n j x z h =
    let l = slice_get_within (replicate n x) j z h in
    let e = length-replicate n x in
    sym (get_or-replicate n j x x (omega (arith, l, e))) ∙ get_or_from_slice_get (replicate n x) j z x h

-- how much is left to know
abbrev rest_of : {X : Type 0} → ℕ → List (List X) → ℕ
rest_of m known = sum_by (λ ks. m - length ks) known

rest_part : {X : Type 0} (m i : ℕ) (known : List (List X)) (ks : List X) → slice_get known i ≡ Some ks → m - length ks ≤ rest_of m known
rest_part {X} m i known ks h =
    subst (λ (list : List X). m - length list ≤ rest_of m known) (get_or_from_slice_get known i ks [] h) (get_or-le-sum_by (λ (list : List X). m - length list) known i [] (slice_get_within known i ks h))

rest_set : {X : Type 0} (m i : ℕ) (known : List (List X)) (ks more : List X) → slice_get known i ≡ Some ks → rest_of m (set known i more) + (m - length ks) ≡ rest_of m known + (m - length more)
rest_set {X} m i known ks more h =
    subst (λ (list : List X). rest_of m (set known i more) + (m - length list) ≡ rest_of m known + (m - length more)) (get_or_from_slice_get known i ks [] h)
    (sum_by-set (λ (list : List X). m - length list) known i more [] (slice_get_within known i ks h))

-- nothing is known of any name
pub all_unknown : (e : Explorer) (id count : ℕ) → IsExploring e → AreKnown e id (replicate count [])
all_unknown e id count x = λ n group ks a i h. subst (IsKnown e id (Attribute n) 0) (of_replicate count group [] ks h) (nothing_known e x id (Attribute n))

pub unknown_cost : (e : Explorer) (count : ℕ) → names_cost e (replicate count []) ≡ count * group_count (groups_of e).atoms
unknown_cost e count =
    let none : group_count (groups_of e).atoms - length {A = Option PatternId} [] ≡ group_count (groups_of e).atoms = omega arith in
    sum_by-replicate (λ (ks : List (Option PatternId)). group_count (groups_of e).atoms - length ks) count [] ∙ ap (λ (k : ℕ). count * k) none

-- the patterns of one group become known
pub named_known : (e f : Explorer) (id name group p : ℕ) (known : List (List (Option PatternId))) (list : List (Option PatternId)) → Finds e f → IsExploring f → id < length (found e) →
    IsAllowed (at e id).place (code.Attr name 0) → slice_get (groups_of e).attributes name ≡ Some group → p ≡ length (groups_of e).atoms → AreKnown e id known → IsKnown f id (Attribute name) p list →
    AreKnown f id (set known group list)
named_known e f id name group p known list x y w a i end h k = λ n other ks b j r. go n other ks b j (get_set known group other list ks r)
  where
    go : (n other : ℕ) (ks : List (Option PatternId)) → IsAllowed (at f id).place (code.Attr n 0) → slice_get (groups_of f).attributes n ≡ Some other →
        ((other ≡ group) × (list ≡ ks)) ⊎ (slice_get known other ≡ Some ks) → IsKnown f id (Attribute n) 0 ks
    go n other ks b j (inl (s, t)) =
        subst (IsKnown f id (Attribute n) 0) t
        (known_alike f y id (found_on e f id x w) name n group p list (end ∙ ap (λ (z : Groups). length z.atoms) (sym x.groups))
        (subst (λ (z : State). IsAllowed z.place (code.Attr name 0)) (sym (x.states id w)) a) b (subst (λ (z : Groups). slice_get z.attributes name ≡ Some group) (sym x.groups) i)
        (j ∙ ap Some s) k)
    go n other ks b j (inr r) =
        known_finds e f id (Attribute n) 0 ks x w
        (h n other ks (subst (λ (z : State). IsAllowed z.place (code.Attr n 0)) (x.states id w) b) (subst (λ (z : Groups). slice_get z.attributes n ≡ Some other) x.groups j) r)

-- it costs what they cost
pub named_cost : (e : Explorer) (group spent now : ℕ) (known : List (List (Option PatternId))) (ks more : List (Option PatternId)) → slice_get known group ≡ Some ks →
    now + (group_count (groups_of e).atoms - length more) ≤ spent + (group_count (groups_of e).atoms - length ks) → now + names_cost e (set known group more) ≤ spent + names_cost e known
named_cost e group spent now known ks more h t = (let s = rest_set (group_count (groups_of e).atoms) group known ks more h in omega (arith, s, t))

pub named_most : (e : Explorer) (group spent now : ℕ) (known : List (List (Option PatternId))) (ks : List (Option PatternId)) → slice_get known group ≡ Some ks →
    now ≤ spent + (group_count (groups_of e).atoms - length ks) → now ≤ spent + names_cost e known
named_most e group spent now known ks h t = (let s = rest_part (group_count (groups_of e).atoms) group known ks h in omega (arith, s, t))

pub names_found : (e f : Explorer) (known : List (List (Option PatternId))) → Finds e f → names_cost f known ≡ names_cost e known
names_found e f known x = ap (λ (z : Groups). rest_of (group_count z.atoms) known) x.groups

-- as many groups as names
pub all_names : (e : Explorer) → IsExploring e → length (groups_of e).attributes ≡ length (names e).attributes
all_names e x = (x.alike x.literals x.are_literals).attributes.same_length

-- the names before this one are done
pub record IsNaming (old new : Explorer) (id name : ℕ) (before known : List (List (Option PatternId))) (arcs : List Arc) (spent now : ℕ) : Type 0 where
  pub finds : Finds old new
  pub exploring : IsExploring new
  pub all : length known ≡ length before
  pub patterns : AreKnown new id known
  pub row : IsRowAt new id (Attribute name) 0 arcs
  pub ticks : now + names_cost old known ≤ spent + names_cost old before

pub naming_on : (e f h : Explorer) (id name : ℕ) (before known more : List (List (Option PatternId))) (arcs arcs_on : List Arc) (spent paid now : ℕ) →
    IsNaming e f id name before known arcs spent paid → Finds f h → IsExploring h → length more ≡ length known → AreKnown h id more → IsRowAt h id (Attribute (name + 1)) 0 arcs_on →
    now + names_cost f more ≤ paid + names_cost f known → IsNaming e h id (name + 1) before more arcs_on spent now
naming_on e f h id name before known more arcs arcs_on spent paid now x y z l k r t = record {
  finds = finds_on e f h x.finds y;
  exploring = z;
  all = l ∙ x.all;
  patterns = k;
  row = r;
  ticks =
      let a = names_found e f more x.finds in
      let b = names_found e f known x.finds in
      let c = x.ticks in
      omega (arith, a, b, c, t);
}

-- the names of a tag from its first on are allowed
pub name_allowed : (e f : Explorer) (id first name : ℕ) → Finds e f → id < length (found e) → (at e id).place ≡ Place.Tag first → first ≤ name → IsAllowed (at f id).place (code.Attr name 0)
name_allowed e f id first name x w p l = rw (x.states id w, p) l
