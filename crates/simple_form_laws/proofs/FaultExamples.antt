-- The table of faults: each tree has its fault, and none before it.
use Rattle.std.proofs.Common.{ℕ, ◌≤◌, inl, inr, List, [], ◌∷◌, refl, arith, codes, Some, None}
use Rattle.derivative_laws.proofs.Members.{IsIn, is_in, contains_first}
use Rattle.grammar_laws.specs.Trees.{Pattern, Items, Plain}
use Rattle.grammar_laws.specs.Trees as full
use Rattle.simple_form_laws.specs.Parts.{Part, part, defined}
use Rattle.simple_form_laws.proofs.Loops.{loop_in, no_reference, visit, step_to, last_step}
use Rattle.simple_form_laws.specs.Faults.{Fault, UnboundPrefix, PrefixTwice, ReservedPrefix, ClassConstraint, XmlnsAttribute, NoStart, UndefinedName, ParentOutside, CombineMixed, DefinedTwice, Loop, HasFault, IsNoLater, IsLoop, whole, SimplifyRefusal, unbound_prefixes, prefixes_twice, reserved_prefixes, class_constraints, xmlns_attributes, undefined_names, parents_outside, combine_mixed, defined_twice}
use Rattle.simple_form_laws.specs.Examples.{looping_by_two, looping, unbound, twice, reserved, constrained, xmlns_attribute, without_start, undefined, parent_outside, mixed_methods, twice_defined}

-- the one place of a list
pub no_less : (b at : ℕ) → IsIn at (b ∷ []) → b ≤ at
no_less b at (inl e) = omega arith
no_less b at (inr h) = absurd h

unbound-first : (y : Fault) → HasFault unbound y → IsNoLater (UnboundPrefix 8) y
unbound-first (UnboundPrefix at) h = inr (refl, no_less 8 at (is_in at (unbound_prefixes unbound) h))
unbound-first y h = inl (omega arith)

pub unbound-refused : SimplifyRefusal unbound (UnboundPrefix 8)
unbound-refused = record { fault = contains_first 8 []; first = unbound-first }

twice-first : (y : Fault) → HasFault twice y → IsNoLater (PrefixTwice 18) y
twice-first (UnboundPrefix at) h = absurd (is_in at (unbound_prefixes twice) h)
twice-first (PrefixTwice at) h = inr (refl, no_less 18 at (is_in at (prefixes_twice twice) h))
twice-first y h = inl (omega arith)

pub twice-refused : SimplifyRefusal twice (PrefixTwice 18)
twice-refused = record { fault = contains_first 18 []; first = twice-first }

reserved-first : (y : Fault) → HasFault reserved y → IsNoLater (ReservedPrefix 0) y
reserved-first (UnboundPrefix at) h = absurd (is_in at (unbound_prefixes reserved) h)
reserved-first (PrefixTwice at) h = absurd (is_in at (prefixes_twice reserved) h)
reserved-first (ReservedPrefix at) h = inr (refl, no_less 0 at (is_in at (reserved_prefixes reserved) h))
reserved-first y h = inl (omega arith)

pub reserved-refused : SimplifyRefusal reserved (ReservedPrefix 0)
reserved-refused = record { fault = contains_first 0 []; first = reserved-first }

constrained-first : (y : Fault) → HasFault constrained y → IsNoLater (ClassConstraint 12) y
constrained-first (UnboundPrefix at) h = absurd (is_in at (unbound_prefixes constrained) h)
constrained-first (PrefixTwice at) h = absurd (is_in at (prefixes_twice constrained) h)
constrained-first (ReservedPrefix at) h = absurd (is_in at (reserved_prefixes constrained) h)
constrained-first (ClassConstraint at) h = inr (refl, no_less 12 at (is_in at (class_constraints constrained) h))
constrained-first y h = inl (omega arith)

pub constrained-refused : SimplifyRefusal constrained (ClassConstraint 12)
constrained-refused = record { fault = contains_first 12 []; first = constrained-first }

xmlns_attribute-first : (y : Fault) → HasFault xmlns_attribute y → IsNoLater (XmlnsAttribute 22) y
xmlns_attribute-first (UnboundPrefix at) h = absurd (is_in at (unbound_prefixes xmlns_attribute) h)
xmlns_attribute-first (PrefixTwice at) h = absurd (is_in at (prefixes_twice xmlns_attribute) h)
xmlns_attribute-first (ReservedPrefix at) h = absurd (is_in at (reserved_prefixes xmlns_attribute) h)
xmlns_attribute-first (ClassConstraint at) h = absurd (is_in at (class_constraints xmlns_attribute) h)
xmlns_attribute-first (XmlnsAttribute at) h = inr (refl, no_less 22 at (is_in at (xmlns_attributes xmlns_attribute) h))
xmlns_attribute-first y h = inl (omega arith)

pub xmlns_attribute-refused : SimplifyRefusal xmlns_attribute (XmlnsAttribute 22)
xmlns_attribute-refused = record { fault = contains_first 22 []; first = xmlns_attribute-first }

without_start-first : (y : Fault) → HasFault without_start y → IsNoLater NoStart y
without_start-first (UnboundPrefix at) h = absurd (is_in at (unbound_prefixes without_start) h)
without_start-first (PrefixTwice at) h = absurd (is_in at (prefixes_twice without_start) h)
without_start-first (ReservedPrefix at) h = absurd (is_in at (reserved_prefixes without_start) h)
without_start-first (ClassConstraint at) h = absurd (is_in at (class_constraints without_start) h)
without_start-first (XmlnsAttribute at) h = absurd (is_in at (xmlns_attributes without_start) h)
without_start-first NoStart h = inr (refl, omega arith)
without_start-first y h = inl (omega arith)

pub without_start-refused : SimplifyRefusal without_start NoStart
without_start-refused = record { fault = refl; first = without_start-first }

undefined-first : (y : Fault) → HasFault undefined y → IsNoLater (UndefinedName 8) y
undefined-first (UnboundPrefix at) h = absurd (is_in at (unbound_prefixes undefined) h)
undefined-first (PrefixTwice at) h = absurd (is_in at (prefixes_twice undefined) h)
undefined-first (ReservedPrefix at) h = absurd (is_in at (reserved_prefixes undefined) h)
undefined-first (ClassConstraint at) h = absurd (is_in at (class_constraints undefined) h)
undefined-first (XmlnsAttribute at) h = absurd (is_in at (xmlns_attributes undefined) h)
undefined-first NoStart h = absurd (cc)
undefined-first (UndefinedName at) h = inr (refl, no_less 8 at (is_in at (undefined_names undefined) h))
undefined-first y h = inl (omega arith)

pub undefined-refused : SimplifyRefusal undefined (UndefinedName 8)
undefined-refused = record { fault = contains_first 8 []; first = undefined-first }

parent_outside-first : (y : Fault) → HasFault parent_outside y → IsNoLater (ParentOutside 8) y
parent_outside-first (UnboundPrefix at) h = absurd (is_in at (unbound_prefixes parent_outside) h)
parent_outside-first (PrefixTwice at) h = absurd (is_in at (prefixes_twice parent_outside) h)
parent_outside-first (ReservedPrefix at) h = absurd (is_in at (reserved_prefixes parent_outside) h)
parent_outside-first (ClassConstraint at) h = absurd (is_in at (class_constraints parent_outside) h)
parent_outside-first (XmlnsAttribute at) h = absurd (is_in at (xmlns_attributes parent_outside) h)
parent_outside-first NoStart h = absurd (cc)
parent_outside-first (UndefinedName at) h = absurd (is_in at (undefined_names parent_outside) h)
parent_outside-first (ParentOutside at) h = inr (refl, no_less 8 at (is_in at (parents_outside parent_outside) h))
parent_outside-first y h = inl (omega arith)

pub parent_outside-refused : SimplifyRefusal parent_outside (ParentOutside 8)
parent_outside-refused = record { fault = contains_first 8 []; first = parent_outside-first }

mixed_methods-first : (y : Fault) → HasFault mixed_methods y → IsNoLater (CombineMixed 29) y
mixed_methods-first (UnboundPrefix at) h = absurd (is_in at (unbound_prefixes mixed_methods) h)
mixed_methods-first (PrefixTwice at) h = absurd (is_in at (prefixes_twice mixed_methods) h)
mixed_methods-first (ReservedPrefix at) h = absurd (is_in at (reserved_prefixes mixed_methods) h)
mixed_methods-first (ClassConstraint at) h = absurd (is_in at (class_constraints mixed_methods) h)
mixed_methods-first (XmlnsAttribute at) h = absurd (is_in at (xmlns_attributes mixed_methods) h)
mixed_methods-first NoStart h = absurd (cc)
mixed_methods-first (UndefinedName at) h = absurd (is_in at (undefined_names mixed_methods) h)
mixed_methods-first (ParentOutside at) h = absurd (is_in at (parents_outside mixed_methods) h)
mixed_methods-first (CombineMixed at) h = inr (refl, no_less 29 at (is_in at (combine_mixed mixed_methods) h))
mixed_methods-first y h = inl (omega arith)

pub mixed_methods-refused : SimplifyRefusal mixed_methods (CombineMixed 29)
mixed_methods-refused = record { fault = contains_first 29 []; first = mixed_methods-first }

twice_defined-first : (y : Fault) → HasFault twice_defined y → IsNoLater (DefinedTwice 28) y
twice_defined-first (UnboundPrefix at) h = absurd (is_in at (unbound_prefixes twice_defined) h)
twice_defined-first (PrefixTwice at) h = absurd (is_in at (prefixes_twice twice_defined) h)
twice_defined-first (ReservedPrefix at) h = absurd (is_in at (reserved_prefixes twice_defined) h)
twice_defined-first (ClassConstraint at) h = absurd (is_in at (class_constraints twice_defined) h)
twice_defined-first (XmlnsAttribute at) h = absurd (is_in at (xmlns_attributes twice_defined) h)
twice_defined-first NoStart h = absurd (cc)
twice_defined-first (UndefinedName at) h = absurd (is_in at (undefined_names twice_defined) h)
twice_defined-first (ParentOutside at) h = absurd (is_in at (parents_outside twice_defined) h)
twice_defined-first (CombineMixed at) h = absurd (is_in at (combine_mixed twice_defined) h)
twice_defined-first (DefinedTwice at) h = inr (refl, no_less 28 at (is_in at (defined_twice twice_defined) h))
twice_defined-first y h = inl (omega arith)

pub twice_defined-refused : SimplifyRefusal twice_defined (DefinedTwice 28)
twice_defined-refused = record { fault = contains_first 28 []; first = twice_defined-first }

abbrev loop_items : Items
loop_items = full.items_of (full.start Plain (full.ref (codes "a") 8) 0 ∷ full.define (codes "a") Plain (full.group (full.patterns_of (full.ref (codes "a") 15 ∷ full.element (full.plain (codes "b") 26) full.empty 0 ∷ []))) 10 ∷ [])

abbrev loop_part : Pattern → Part
loop_part p = part (loop_items ∷ []) p

abbrev loop_outside : List Part
loop_outside = part [] (full.grammar loop_items) ∷ loop_part (full.choice (full.patterns_of (full.ref (codes "a") 8 ∷ []))) ∷ loop_part (full.ref (codes "a") 8) ∷ loop_part full.empty ∷ []

abbrev loop_inside : List Part
loop_inside =
    loop_part (defined (Some (codes "a")) loop_items)
    ∷ loop_part (full.group (full.patterns_of (full.ref (codes "a") 15 ∷ full.element (full.plain (codes "b") 26) full.empty 0 ∷ [])))
    ∷ loop_part (full.ref (codes "a") 15)
    ∷ loop_part (full.element (full.plain (codes "b") 26) full.empty 0)
    ∷ []

looping-places : (at : ℕ) → IsLoop looping at → IsIn at (15 ∷ [])
looping-places at h =
    loop_in looping loop_outside loop_inside at
    (((inr (inl refl), tt), tt), (((inr (inr (inl refl)), tt), tt), (((inr (inr (inr (inr (inl refl)))), tt), tt), ((tt, tt), (((inr (inr (inr (inr (inr (inl refl))))), tt), tt), (((inr (inr (inr (inr (inr (inr (inl refl)))))), (inr (inr (inr (inr (inr (inr (inr (inl refl))))))), tt)), tt), (((inr (inr (inr (inr (inl refl)))), tt), tt), ((tt, (inr (inr (inr (inl refl))), tt)), tt))))))))
    (inl refl)
    ((λ n r. absurd (no_reference n _ refl r)), ((λ n r. absurd (no_reference n _ refl r)), ((λ n r. (inl refl, tt)), ((λ n r. absurd (no_reference n _ refl r)), tt))))
    ((inr (inl refl), tt), ((inr (inr (inl refl)), (inr (inr (inr (inl refl))), tt)), ((inl refl, tt), (tt, tt))))
    h

looping-first : (y : Fault) → HasFault looping y → IsNoLater (Loop 15) y
looping-first (UnboundPrefix at) h = absurd (is_in at (unbound_prefixes looping) h)
looping-first (PrefixTwice at) h = absurd (is_in at (prefixes_twice looping) h)
looping-first (ReservedPrefix at) h = absurd (is_in at (reserved_prefixes looping) h)
looping-first (ClassConstraint at) h = absurd (is_in at (class_constraints looping) h)
looping-first (XmlnsAttribute at) h = absurd (is_in at (xmlns_attributes looping) h)
looping-first NoStart h = absurd (cc)
looping-first (UndefinedName at) h = absurd (is_in at (undefined_names looping) h)
looping-first (ParentOutside at) h = absurd (is_in at (parents_outside looping) h)
looping-first (CombineMixed at) h = absurd (is_in at (combine_mixed looping) h)
looping-first (DefinedTwice at) h = absurd (is_in at (defined_twice looping) h)
looping-first (Loop at) h = inr (refl, no_less 15 at (looping-places at h))
looping-first y h = inl (omega arith)

pub looping-refused : SimplifyRefusal looping (Loop 15)
looping-refused = record {
  fault = record {
    place = loop_part (full.ref (codes "a") 15);
    reference = (codes "a", inl refl);
    visited =
        visit (loop_part (full.ref (codes "a") 15))
        (visit (loop_part (full.group (full.patterns_of (full.ref (codes "a") 15 ∷ full.element (full.plain (codes "b") 26) full.empty 0 ∷ []))))
        (visit (loop_part (defined (Some (codes "a")) loop_items))
        (visit (loop_part (full.ref (codes "a") 8)) (visit (loop_part (defined None loop_items)) whole (inl refl)) (inl refl))
        (inl refl))
        (inl refl))
        (inl refl);
    back =
        step_to (loop_part (defined (Some (codes "a")) loop_items)) (inl refl)
        (step_to (loop_part (full.group (full.patterns_of (full.ref (codes "a") 15 ∷ full.element (full.plain (codes "b") 26) full.empty 0 ∷ [])))) (inl refl)
        (last_step (loop_part (full.ref (codes "a") 15)) (inl refl)));
  };
  first = looping-first;
}

-- the loop through two definitions
abbrev two_items : Items
two_items =
    full.items_of (
    full.start Plain (full.ref (codes "a") 8) 0
    ∷ full.define (codes "a") Plain (full.ref (codes "b") 14) 10
    ∷ full.define (codes "b") Plain (full.choice (full.patterns_of (full.ref (codes "a") 20 ∷ full.element (full.plain (codes "c") 32) full.empty 0 ∷ []))) 16
    ∷ []
    )

abbrev two_part : Pattern → Part
two_part p = part (two_items ∷ []) p

abbrev a_or_c : Pattern
a_or_c = full.choice (full.patterns_of (full.ref (codes "a") 20 ∷ full.element (full.plain (codes "c") 32) full.empty 0 ∷ []))

abbrev two_outside : List Part
two_outside = part [] (full.grammar two_items) ∷ two_part (full.choice (full.patterns_of (full.ref (codes "a") 8 ∷ []))) ∷ two_part (full.ref (codes "a") 8) ∷ two_part full.empty ∷ []

abbrev two_inside : List Part
two_inside =
    two_part (defined (Some (codes "a")) two_items)
    ∷ two_part (full.ref (codes "b") 14)
    ∷ two_part (defined (Some (codes "b")) two_items)
    ∷ two_part a_or_c
    ∷ two_part (full.ref (codes "a") 20)
    ∷ two_part (full.element (full.plain (codes "c") 32) full.empty 0)
    ∷ []

two_places : (at : ℕ) → IsLoop looping_by_two at → IsIn at (14 ∷ 20 ∷ [])
two_places at h =
    loop_in looping_by_two two_outside two_inside at
    (((inr (inl refl), tt), tt), (((inr (inr (inl refl)), tt), tt), (((inr (inr (inr (inr (inl refl)))), tt), tt), ((tt, tt), (((inr (inr (inr (inr (inr (inl refl))))), tt), tt), (((inr (inr (inr (inr (inr (inr (inl refl)))))), tt), tt), (((inr (inr (inr (inr (inr (inr (inr (inl refl))))))), tt), tt), (((inr (inr (inr (inr (inr (inr (inr (inr (inl refl)))))))), (inr (inr (inr (inr (inr (inr (inr (inr (inr (inl refl))))))))), tt)), tt), (((inr (inr (inr (inr (inl refl)))), tt), tt), ((tt, (inr (inr (inr (inl refl))), tt)), tt))))))))))
    (inl refl)
    ((λ n r. absurd (no_reference n _ refl r)), ((λ n r. absurd (no_reference n _ refl r)), ((λ n r. (inl refl, tt)), ((λ n r. absurd (no_reference n _ refl r)), tt))))
    ((inr (inl refl), tt), ((inr (inr (inl refl)), tt), ((inr (inr (inr (inl refl))), tt), ((inr (inr (inr (inr (inl refl)))), (inr (inr (inr (inr (inr (inl refl))))), tt)), ((inl refl, tt), (tt, tt))))))
    h

fourteen_first : (at : ℕ) → IsIn at (14 ∷ 20 ∷ []) → 14 ≤ at
fourteen_first at (inl e) = omega arith
fourteen_first at (inr (inl e)) = omega arith
fourteen_first at (inr (inr h)) = absurd h

looping_by_two-first : (y : Fault) → HasFault looping_by_two y → IsNoLater (Loop 14) y
looping_by_two-first (UnboundPrefix at) h = absurd (is_in at (unbound_prefixes looping_by_two) h)
looping_by_two-first (PrefixTwice at) h = absurd (is_in at (prefixes_twice looping_by_two) h)
looping_by_two-first (ReservedPrefix at) h = absurd (is_in at (reserved_prefixes looping_by_two) h)
looping_by_two-first (ClassConstraint at) h = absurd (is_in at (class_constraints looping_by_two) h)
looping_by_two-first (XmlnsAttribute at) h = absurd (is_in at (xmlns_attributes looping_by_two) h)
looping_by_two-first NoStart h = absurd (cc)
looping_by_two-first (UndefinedName at) h = absurd (is_in at (undefined_names looping_by_two) h)
looping_by_two-first (ParentOutside at) h = absurd (is_in at (parents_outside looping_by_two) h)
looping_by_two-first (CombineMixed at) h = absurd (is_in at (combine_mixed looping_by_two) h)
looping_by_two-first (DefinedTwice at) h = absurd (is_in at (defined_twice looping_by_two) h)
looping_by_two-first (Loop at) h = inr (refl, fourteen_first at (two_places at h))
looping_by_two-first y h = inl (omega arith)

pub looping_by_two-refused : SimplifyRefusal looping_by_two (Loop 14)
looping_by_two-refused = record {
  fault = record {
    place = two_part (full.ref (codes "b") 14);
    reference = (codes "b", inl refl);
    visited =
        visit (two_part (full.ref (codes "b") 14))
        (visit (two_part (defined (Some (codes "a")) two_items))
        (visit (two_part (full.ref (codes "a") 8)) (visit (two_part (defined None two_items)) whole (inl refl)) (inl refl))
        (inl refl))
        (inl refl);
    back =
        step_to (two_part (defined (Some (codes "b")) two_items)) (inl refl)
        (step_to (two_part a_or_c) (inl refl)
        (step_to (two_part (full.ref (codes "a") 20)) (inl refl)
        (step_to (two_part (defined (Some (codes "a")) two_items)) (inl refl)
        (last_step (two_part (full.ref (codes "b") 14)) (inl refl)))));
  };
  first = looping_by_two-first;
}
