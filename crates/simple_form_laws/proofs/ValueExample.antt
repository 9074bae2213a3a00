-- `element a { xsd:positiveInteger "0" }` has a simple form, and its one fault is that of the value.
use Rattle.std.proofs.Common.{ℕ, zero, suc, ◌<◌, inl, inr, List, [], ◌∷◌, refl, sym, subst, codes, arith, Some}
use Rattle.std.specs.List.Sorted.{IsStrictlySortedBy}
use Rattle.std.specs.Ordering.{nat_cmp}
use Rattle.rng_model.specs.Texts.{normal}
use Rattle.rng_model.specs.Kinds.{Positive, allows}
use Rattle.rng_model.specs.Patterns as simple
use Rattle.rng_model.specs.Patterns.{Definition, Defines}
use Rattle.rng_model.specs.Inside.{Within, IsAttributeOf}
use Rattle.derivative_laws.proofs.Members.{IsIn, is_in, contains_first}
use Rattle.grammar_laws.specs.Trees.{Pattern}
use Rattle.grammar_laws.specs.Trees as full
use Rattle.simple_form_laws.specs.Parts.{Part, part}
use Rattle.simple_form_laws.specs.Meaning as by
use Rattle.simple_form_laws.specs.Forms.{HasRef, IsReached, from_start, IsFormOf}
use Rattle.rng_model.specs.Depths.{depth, class_depth}
use Rattle.simple_form_laws.specs.Faults.{Fault, UnboundPrefix, PrefixTwice, ReservedPrefix, ClassConstraint, XmlnsAttribute, NoStart, UndefinedName, ParentOutside, CombineMixed, DefinedTwice, Loop, ExpandedTooDeep, BadValue, HasFault, IsNoLater, SimplifyRefusal, IsLoop, IsTooDeep, unbound_prefixes, prefixes_twice, reserved_prefixes, class_constraints, xmlns_attributes, undefined_names, parents_outside, combine_mixed, defined_twice, bad_values}
use Rattle.simple_form_laws.specs.Examples.{defined_as, zero_value, zero_schema}
use Rattle.simple_form_laws.proofs.Reached.{reached_in}
use Rattle.simple_form_laws.proofs.Loops.{loop_in, no_reference}
use Rattle.simple_form_laws.proofs.OneForm.{schema-same}
use Rattle.simple_form_laws.proofs.FormExamples.{each_of}
use Rattle.simple_form_laws.proofs.FaultExamples.{no_less}

abbrev zero_text : Pattern
zero_text = full.value (Some (full.prefixed_type (codes "xsd") (codes "positiveInteger") 12)) (codes "0")

abbrev all_parts : List Part
all_parts = part [] (full.element (full.plain (codes "a") 8) zero_text 0) ∷ part [] zero_text ∷ []

no_loop : (at : ℕ) → IsLoop zero_value at → IsIn at []
no_loop at h =
    loop_in zero_value all_parts [] at
    ((tt, (inr (inl refl), tt)), ((tt, tt), tt))
    (inl refl) ((λ n r. absurd (no_reference n _ refl r)), ((λ n r. absurd (no_reference n _ refl r)), tt))
    tt
    h

abbrev zero_form : simple.Pattern
zero_form = simple.value Positive (codes "0")

ref_first : (n : ℕ) → HasRef n (simple.ref 0) → IsIn n (0 ∷ [])
ref_first n h = inl (cc)

no_refs : (n : ℕ) → HasRef n zero_form → IsIn n (0 ∷ [])
no_refs n h = absurd (cc)

reached : (n : ℕ) → IsReached zero_value n → IsIn n (0 ∷ [])
reached = reached_in zero_value (0 ∷ []) (simple.ref 0) by.element ref_first ((_, zero_form, refl, by.typed_value refl, no_refs), tt)

only : (n : ℕ) → IsIn n (0 ∷ []) → IsReached zero_value n
only n (inl e) = subst (IsReached zero_value) (sym e) (from_start {q = simple.ref 0} by.element refl)
only n (inr h) = absurd h

ascending_one : IsStrictlySortedBy nat_cmp (0 ∷ [])
unfolding IsStrictlySortedBy
ascending_one = (tt, tt)

zero-form : IsFormOf zero_value zero_schema
zero-form = record {
  kept = 0 ∷ [];
  ascending = ascending_one;
  each = each_of (IsReached zero_value) (0 ∷ []) reached only;
  start = (simple.ref 0, by.element, refl);
  elements = (record { token = _; is = refl; class = refl; content = (zero_form, by.typed_value refl, refl) }, tt);
}

only_definition : (P : Definition → Type 0) → P (defined_as (codes "a") zero_form) → (d : ℕ) (e : Definition) → Defines zero_schema d e → P e
only_definition P a zero e k = subst P (cc) a
only_definition P a (suc d) e k = absurd (cc)

not_too_deep : IsTooDeep zero_schema → ⊥
not_too_deep (inl l) = omega arith
not_too_deep (inr (inl (d, e, k, l))) = only_definition (λ x. 1024 < depth x.content → ⊥) (λ m. omega arith) d e k l
not_too_deep (inr (inr (c, inl (d, e, k, same), l))) =
    only_definition (λ x. 1024 < class_depth x.class → ⊥) (λ m. omega arith) d e k (subst (λ x. 1024 < class_depth x) same l)
not_too_deep (inr (inr (c, inr (inl (q, e)), l))) = cc
not_too_deep (inr (inr (c, inr (inr (d, e, k, w)), l))) = only_definition (λ x. Within (IsAttributeOf c) x.content → ⊥) none d e k w
  where
    none : Within (IsAttributeOf c) zero_form → ⊥
    none (q, e) = cc

zero-first : (y : Fault) → HasFault zero_value y → IsNoLater (BadValue 12) y
unfolding allows normal
zero-first (UnboundPrefix at) h = absurd (is_in at (unbound_prefixes zero_value) h)
zero-first (PrefixTwice at) h = absurd (is_in at (prefixes_twice zero_value) h)
zero-first (ReservedPrefix at) h = absurd (is_in at (reserved_prefixes zero_value) h)
zero-first (ClassConstraint at) h = absurd (is_in at (class_constraints zero_value) h)
zero-first (XmlnsAttribute at) h = absurd (is_in at (xmlns_attributes zero_value) h)
zero-first NoStart h = absurd (cc)
zero-first (UndefinedName at) h = absurd (is_in at (undefined_names zero_value) h)
zero-first (ParentOutside at) h = absurd (is_in at (parents_outside zero_value) h)
zero-first (CombineMixed at) h = absurd (is_in at (combine_mixed zero_value) h)
zero-first (DefinedTwice at) h = absurd (is_in at (defined_twice zero_value) h)
zero-first (Loop at) h = absurd (no_loop at h)
zero-first ExpandedTooDeep (g, form, deep) = absurd (not_too_deep (subst IsTooDeep (schema-same zero_value g zero_schema form zero-form) deep))
zero-first (BadValue at) h = inr (refl, no_less 12 at (is_in at (bad_values zero_value) h))

pub zero_value-refused : SimplifyRefusal zero_value (BadValue 12)
unfolding allows normal
zero_value-refused = record { fault = contains_first 12 []; first = zero-first }
