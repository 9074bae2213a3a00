-- The first fault of a tree, from the least places.
use Rattle.std.proofs.Common.{◌≡◌, ℕ, suc, ◌<◌, ◌≤◌, ◌⊎◌, inl, inr, Bool, true, false, if◌then◌else◌, List, [], Option, Some, None, option_map, refl, sym, subst, ◌∙◌, arith}
use Rattle.std.specs.Prelude.{Contains, IsTrue}
use Rattle.std.proofs.lemmas.Bool.{cases_lt}
use Rattle.grammar_laws.specs.Files.{Full}
use Rattle.simple_form_laws.specs.Faults as model
use Rattle.simple_form_laws.specs.Faults.{HasFault, IsNoLater, SimplifyRefusal, fault_number, fault_place, class_constraints, combine_mixed, defined_twice, has_no_start, parents_outside, prefixes_twice, reserved_prefixes, unbound_prefixes, undefined_names, xmlns_attributes}
use Rattle.name_resolution.specs.Least.{IsLeast, least}
use Rattle.name_resolution.proofs.LeastPlaces.{least_least}
use Rattle.tree_faults.specs.declared.fault.Fault.{Fault}
use Rattle.tree_faults.specs.declared.first.Found.{Found}
use Rattle.tree_faults.specs.Firsts.{IsFound, fault_of, first, first_of}

-- the first fault of a number from n on and up to 40, or none
abbrev FirstFrom : ℕ → Full → Option Fault → Type 0
FirstFrom n f None = (y : model.Fault) → n ≤ fault_number y → fault_number y < 41 → HasFault f y → ⊥
FirstFrom n f (Some x) =
    HasFault f (fault_of x) × (n ≤ fault_number (fault_of x)) × (fault_number (fault_of x) < 41)
    × ((y : model.Fault) → n ≤ fault_number y → HasFault f y → IsNoLater (fault_of x) y)

-- the faults of the number n have the places of the list
record HasPlaces (f : Full) (n : ℕ) (P : ℕ → Fault) (xs : List ℕ) : Type 0 where
  number : (a : ℕ) → fault_number (fault_of (P a)) ≡ n
  place : (a : ℕ) → fault_place (fault_of (P a)) ≡ a
  has : (a : ℕ) → Contains xs a → HasFault f (fault_of (P a))
  only : (y : model.Fault) → fault_number y ≡ n → HasFault f y → Contains xs (fault_place y)

contains_none : (xs : List ℕ) (a : ℕ) → xs ≡ [] → Contains xs a → ⊥
contains_none xs a e h = absurd (let i = (subst (λ l. Contains l a) e h).1 in omega (arith, i))

step : (f : Full) (n : ℕ) (P : ℕ → Fault) (xs : List ℕ) (o : Option ℕ) (rest : Option Fault) → n < 41 → HasPlaces f n P xs → o ≡ least xs → FirstFrom (suc n) f rest → FirstFrom n f (first_of (option_map P o) rest)
step f n P xs o rest small p e r = go o rest (subst (IsLeast xs) (sym e) (least_least xs)) r
  where
    -- from n on it is n, or behind it
    split : (y : model.Fault) → n ≤ fault_number y → (n < fault_number y) ⊎ (fault_number y ≡ n)
    split y h = elim (cases_lt n (fault_number y)) [ inl l ↦ inl l | inr l ↦ inr (omega (arith, h, l)) ]

    go : (q : Option ℕ) (rest : Option Fault) → IsLeast xs q → FirstFrom (suc n) f rest → FirstFrom n f (first_of (option_map P q) rest)
    go None None l r = λ y h k w. elim (split y h) [ inl b ↦ r y (omega (arith, b)) k w | inr b ↦ contains_none xs (fault_place y) l (p.only y b w) ]
    go None (Some x) l r = (
      r.0,
      (let i = r.1 in omega (arith, i)),
      r.2,
      λ y h w. elim (split y h) [ inl b ↦ r.3 y (omega (arith, b)) w | inr b ↦ absurd (contains_none xs (fault_place y) l (p.only y b w)) ],
    )
    go (Some a) rest l r = (
      p.has a l.0,
      (let i = p.number a in omega (arith, i)),
      (let i = p.number a in omega (arith, i, small)),
      λ y h w. elim (split y h) [
        | inl b ↦ inl (let i = p.number a in omega (arith, i, b))
        | inr b ↦ inr (p.number a ∙ sym b, (let i = l.1 (fault_place y) (p.only y b w) in let j = p.place a in omega (arith, i, j)))
      ],
    )

only_31 : (f : Full) (y : model.Fault) → fault_number y ≡ 31 → HasFault f y → Contains (unbound_prefixes f) (fault_place y)
only_31 f (model.UnboundPrefix a) e h = h
only_31 f y e h = absurd (omega (arith, e))

only_32 : (f : Full) (y : model.Fault) → fault_number y ≡ 32 → HasFault f y → Contains (prefixes_twice f) (fault_place y)
only_32 f (model.PrefixTwice a) e h = h
only_32 f y e h = absurd (omega (arith, e))

only_33 : (f : Full) (y : model.Fault) → fault_number y ≡ 33 → HasFault f y → Contains (reserved_prefixes f) (fault_place y)
only_33 f (model.ReservedPrefix a) e h = h
only_33 f y e h = absurd (omega (arith, e))

only_34 : (f : Full) (y : model.Fault) → fault_number y ≡ 34 → HasFault f y → Contains (class_constraints f) (fault_place y)
only_34 f (model.ClassConstraint a) e h = h
only_34 f y e h = absurd (omega (arith, e))

only_35 : (f : Full) (y : model.Fault) → fault_number y ≡ 35 → HasFault f y → Contains (xmlns_attributes f) (fault_place y)
only_35 f (model.XmlnsAttribute a) e h = h
only_35 f y e h = absurd (omega (arith, e))

only_36 : (f : Full) (y : model.Fault) → fault_number y ≡ 36 → HasFault f y → IsTrue (has_no_start f) × (fault_place y ≡ 0)
only_36 f model.NoStart e h = (h, refl)
only_36 f y e h = absurd (omega (arith, e))

only_37 : (f : Full) (y : model.Fault) → fault_number y ≡ 37 → HasFault f y → Contains (undefined_names f) (fault_place y)
only_37 f (model.UndefinedName a) e h = h
only_37 f y e h = absurd (omega (arith, e))

only_38 : (f : Full) (y : model.Fault) → fault_number y ≡ 38 → HasFault f y → Contains (parents_outside f) (fault_place y)
only_38 f (model.ParentOutside a) e h = h
only_38 f y e h = absurd (omega (arith, e))

only_39 : (f : Full) (y : model.Fault) → fault_number y ≡ 39 → HasFault f y → Contains (combine_mixed f) (fault_place y)
only_39 f (model.CombineMixed a) e h = h
only_39 f y e h = absurd (omega (arith, e))

only_40 : (f : Full) (y : model.Fault) → fault_number y ≡ 40 → HasFault f y → Contains (defined_twice f) (fault_place y)
only_40 f (model.DefinedTwice a) e h = h
only_40 f y e h = absurd (omega (arith, e))

start_step : (f : Full) (b : Bool) (rest : Option Fault) → b ≡ has_no_start f → FirstFrom 37 f rest → FirstFrom 36 f (first_of (if b then Some Fault.NoStart else None) rest)
start_step f b rest e r = go b rest e r
  where
    split : (y : model.Fault) → 36 ≤ fault_number y → (36 < fault_number y) ⊎ (fault_number y ≡ 36)
    split y h = elim (cases_lt 36 (fault_number y)) [ inl l ↦ inl l | inr l ↦ inr (omega (arith, h, l)) ]

    not_there : (y : model.Fault) → false ≡ has_no_start f → fault_number y ≡ 36 → HasFault f y → ⊥
    not_there y none k w = let e : false ≡ true = subst IsTrue (sym none) (only_36 f y k w).0 in absurd (cc)

    go : (b : Bool) (rest : Option Fault) → b ≡ has_no_start f → FirstFrom 37 f rest → FirstFrom 36 f (first_of (if b then Some Fault.NoStart else None) rest)
    go false None none r = λ y h k w. elim (split y h) [ inl l ↦ r y (omega (arith, l)) k w | inr l ↦ not_there y none l w ]
    go false (Some x) none r = (
      r.0,
      (let i = r.1 in omega (arith, i)),
      r.2,
      λ y h w. elim (split y h) [ inl l ↦ r.3 y (omega (arith, l)) w | inr l ↦ absurd (not_there y none l w) ],
    )
    go true rest there r = (
      subst IsTrue there refl,
      omega arith,
      omega arith,
      λ y h w. elim (split y h) [ inl l ↦ inl l | inr l ↦ inr (sym l, omega arith) ],
    )

from_41 : (f : Full) → FirstFrom 41 f None
from_41 f = λ y h k w. omega (arith, h, k)

first_of_none : (x : Option Fault) → first_of x None ≡ x
first_of_none None = refl
first_of_none (Some x) = refl

-- in the order of the numbers
in_order : (f : Full) (d : Found) → IsFound f d →
    FirstFrom 31 f
    (first_of (option_map (λ at. Fault.UnboundPrefix at) d.names.unbound_prefix)
    (first_of (option_map (λ at. Fault.PrefixTwice at) d.prefix_twice)
    (first_of (option_map (λ at. Fault.ReservedPrefix at) d.reserved_prefix)
    (first_of (option_map (λ at. Fault.ClassConstraint at) d.names.constraint)
    (first_of (option_map (λ at. Fault.XmlnsAttribute at) d.names.xmlns_attribute)
    (first_of (if d.grammars.lacks_start then Some Fault.NoStart else None)
    (first_of (option_map (λ at. Fault.UndefinedName at) d.grammars.undefined)
    (first_of (option_map (λ at. Fault.ParentOutside at) d.grammars.outside)
    (first_of (option_map (λ at. Fault.CombineMixed at) d.grammars.mixed)
    (first_of (option_map (λ at. Fault.DefinedTwice at) d.grammars.twice) None))))))))))
in_order f d i =
    step f 31 (λ at. Fault.UnboundPrefix at) (unbound_prefixes f) _ _ (omega arith) (record { number = λ a. refl; place = λ a. refl; has = λ a h. h; only = only_31 f }) i.unbound
    (step f 32 (λ at. Fault.PrefixTwice at) (prefixes_twice f) _ _ (omega arith) (record { number = λ a. refl; place = λ a. refl; has = λ a h. h; only = only_32 f }) i.twice
    (step f 33 (λ at. Fault.ReservedPrefix at) (reserved_prefixes f) _ _ (omega arith) (record { number = λ a. refl; place = λ a. refl; has = λ a h. h; only = only_33 f }) i.reserved
    (step f 34 (λ at. Fault.ClassConstraint at) (class_constraints f) _ _ (omega arith) (record { number = λ a. refl; place = λ a. refl; has = λ a h. h; only = only_34 f }) i.constraint
    (step f 35 (λ at. Fault.XmlnsAttribute at) (xmlns_attributes f) _ _ (omega arith) (record { number = λ a. refl; place = λ a. refl; has = λ a h. h; only = only_35 f }) i.xmlns
    (start_step f d.grammars.lacks_start _ i.lacks_start
    (step f 37 (λ at. Fault.UndefinedName at) (undefined_names f) _ _ (omega arith) (record { number = λ a. refl; place = λ a. refl; has = λ a h. h; only = only_37 f }) i.undefined
    (step f 38 (λ at. Fault.ParentOutside at) (parents_outside f) _ _ (omega arith) (record { number = λ a. refl; place = λ a. refl; has = λ a h. h; only = only_38 f }) i.outside
    (step f 39 (λ at. Fault.CombineMixed at) (combine_mixed f) _ _ (omega arith) (record { number = λ a. refl; place = λ a. refl; has = λ a h. h; only = only_39 f }) i.mixed
    (step f 40 (λ at. Fault.DefinedTwice at) (defined_twice f) _ _ (omega arith) (record { number = λ a. refl; place = λ a. refl; has = λ a h. h; only = only_40 f }) i.defined
    (from_41 f))))))))))

ordered : (a b c d e g h i j k : Option Fault) →
    first_of a (first_of b (first_of c (first_of d (first_of e (first_of g (first_of h (first_of i (first_of j (first_of k None)))))))))
    ≡ first_of (first_of a (first_of b (first_of c (first_of d e)))) (first_of g (first_of h (first_of i (first_of j k))))
ordered (Some a) b c d e g h i j k = refl
ordered None (Some b) c d e g h i j k = refl
ordered None None (Some c) d e g h i j k = refl
ordered None None None (Some d) e g h i j k = refl
ordered None None None None (Some e) g h i j k = refl
ordered None None None None None (Some g) h i j k = refl
ordered None None None None None None (Some h) i j k = refl
ordered None None None None None None None (Some i) j k = refl
ordered None None None None None None None None (Some j) k = refl
ordered None None None None None None None None None k = first_of_none k

first_from : (f : Full) (d : Found) → IsFound f d → FirstFrom 31 f (first d)
first_from f d i =
    subst (FirstFrom 31 f)
    (ordered (option_map (λ at. Fault.UnboundPrefix at) d.names.unbound_prefix) (option_map (λ at. Fault.PrefixTwice at) d.prefix_twice) (option_map (λ at. Fault.ReservedPrefix at) d.reserved_prefix) (option_map (λ at. Fault.ClassConstraint at) d.names.constraint) (option_map (λ at. Fault.XmlnsAttribute at) d.names.xmlns_attribute)
    (if d.grammars.lacks_start then Some Fault.NoStart else None) (option_map (λ at. Fault.UndefinedName at) d.grammars.undefined) (option_map (λ at. Fault.ParentOutside at) d.grammars.outside) (option_map (λ at. Fault.CombineMixed at) d.grammars.mixed) (option_map (λ at. Fault.DefinedTwice at) d.grammars.twice))
    (in_order f d i)

from_31 : (y : model.Fault) → 31 ≤ fault_number y
from_31 (model.UnboundPrefix a) = omega arith
from_31 (model.PrefixTwice a) = omega arith
from_31 (model.ReservedPrefix a) = omega arith
from_31 (model.ClassConstraint a) = omega arith
from_31 (model.XmlnsAttribute a) = omega arith
from_31 model.NoStart = omega arith
from_31 (model.UndefinedName a) = omega arith
from_31 (model.ParentOutside a) = omega arith
from_31 (model.CombineMixed a) = omega arith
from_31 (model.DefinedTwice a) = omega arith
from_31 (model.Loop a) = omega arith
from_31 model.ExpandedTooDeep = omega arith
from_31 (model.BadValue a) = omega arith

pub refusal_of : (f : Full) (d : Found) (o : Option Fault) → IsFound f d → o ≡ first d → (x : Fault) → o ≡ Some x → SimplifyRefusal f (fault_of x)
refusal_of f d o i e x h =
    let r : FirstFrom 31 f (Some x) = subst (FirstFrom 31 f) (sym e ∙ h) (first_from f d i) in
    record { fault = r.0; first = λ y w. r.3 y (from_31 y) w }

pub none_of : (f : Full) (d : Found) (o : Option Fault) → IsFound f d → o ≡ first d → o ≡ None → (y : model.Fault) → fault_number y < 41 → HasFault f y → ⊥
none_of f d o i e h y k w =
    let r : FirstFrom 31 f None = subst (FirstFrom 31 f) (sym e ∙ h) (first_from f d i) in
    r y (from_31 y) k w
