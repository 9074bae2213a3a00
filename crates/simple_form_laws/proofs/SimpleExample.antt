-- `element a { mixed { element b { empty }* } }` has no fault, so it has its simple form.
use Rattle.std.proofs.Common.{ℕ, zero, suc, ◌<◌, inl, inr, List, [], ◌∷◌, refl, subst, codes, arith}
use Rattle.rng_model.specs.Patterns as simple
use Rattle.rng_model.specs.Patterns.{Schema, Definition, Defines}
use Rattle.rng_model.specs.Inside.{Within, IsAttributeOf}
use Rattle.derivative_laws.proofs.Members.{IsIn, is_in}
use Rattle.grammar_laws.specs.Trees.{Pattern}
use Rattle.grammar_laws.specs.Trees as full
use Rattle.simple_form_laws.specs.Parts.{Part, part}
use Rattle.rng_model.specs.Depths.{depth, class_depth}
use Rattle.simple_form_laws.specs.Faults.{Fault, UnboundPrefix, PrefixTwice, ReservedPrefix, ClassConstraint, XmlnsAttribute, NoStart, UndefinedName, ParentOutside, CombineMixed, DefinedTwice, Loop, ExpandedTooDeep, BadValue, HasFault, Simple, IsLoop, IsTooDeep, unbound_prefixes, prefixes_twice, reserved_prefixes, class_constraints, xmlns_attributes, undefined_names, parents_outside, combine_mixed, defined_twice, bad_values}
use Rattle.simple_form_laws.specs.Examples.{defined_as, mixed_content, mixed_schema}
use Rattle.simple_form_laws.proofs.Loops.{loop_in, no_reference}
use Rattle.simple_form_laws.proofs.OneForm.{schema-same}
use Rattle.simple_form_laws.proofs.FormExamples.{mixed-simple}

abbrev inner_element : Pattern
inner_element = full.element (full.plain (codes "b") 28) full.empty 1

abbrev repeated : Pattern
repeated = full.zero_or_more inner_element

abbrev all_parts : List Part
all_parts = part [] (full.element (full.plain (codes "a") 8) (full.mixed repeated) 0) ∷ part [] (full.mixed repeated) ∷ part [] repeated ∷ part [] inner_element ∷ part [] full.empty ∷ []

no_loop : (at : ℕ) → IsLoop mixed_content at → IsIn at []
no_loop at h =
    loop_in mixed_content all_parts [] at
    ((tt, (inr (inl refl), tt)), (((inr (inr (inl refl)), tt), tt), (((inr (inr (inr (inl refl))), tt), tt), ((tt, (inr (inr (inr (inr (inl refl)))), tt)), ((tt, tt), tt)))))
    (inl refl) (
      (λ n r. absurd (no_reference n _ refl r)),
      ((λ n r. absurd (no_reference n _ refl r)), ((λ n r. absurd (no_reference n _ refl r)), ((λ n r. absurd (no_reference n _ refl r)), ((λ n r. absurd (no_reference n _ refl r)), tt)))),
    )
    tt
    h

-- the two definitions, one by one
each_definition : (P : Definition → Type 0) → P (defined_as (codes "a") (simple.interleave (simple.choice simple.empty (simple.one_or_more (simple.ref 1))) simple.text)) → P (defined_as (codes "b") simple.empty) → (d : ℕ) (e : Definition) → Defines mixed_schema d e → P e
each_definition P a b zero e k = subst P (cc) a
each_definition P a b (suc zero) e k = subst P (cc) b
each_definition P a b (suc (suc d)) e k = absurd (cc)

not_too_deep : IsTooDeep mixed_schema → ⊥
not_too_deep (inl l) = omega arith
not_too_deep (inr (inl (d, e, k, l))) = each_definition (λ x. 1024 < depth x.content → ⊥) (λ m. omega arith) (λ m. omega arith) d e k l
not_too_deep (inr (inr (c, inl (d, e, k, same), l))) =
    each_definition (λ x. 1024 < class_depth x.class → ⊥) (λ m. omega arith) (λ m. omega arith) d e k (subst (λ x. 1024 < class_depth x) same l)
not_too_deep (inr (inr (c, inr (inl (q, e)), l))) = cc
not_too_deep (inr (inr (c, inr (inr (d, e, k, w)), l))) =
    each_definition (λ x. Within (IsAttributeOf c) x.content → ⊥) first second d e k w
  where
    first : Within (IsAttributeOf c) (simple.interleave (simple.choice simple.empty (simple.one_or_more (simple.ref 1))) simple.text) → ⊥
    first (inl (q, e)) = cc
    first (inr (inl (inl (q, e)))) = cc
    first (inr (inl (inr (inl (q, e))))) = cc
    first (inr (inl (inr (inr (q, e))))) = cc
    first (inr (inr (q, e))) = cc

    second : Within (IsAttributeOf c) simple.empty → ⊥
    second (q, e) = cc

sound : (x : Fault) → HasFault mixed_content x → ⊥
sound (UnboundPrefix at) h = is_in at (unbound_prefixes mixed_content) h
sound (PrefixTwice at) h = is_in at (prefixes_twice mixed_content) h
sound (ReservedPrefix at) h = is_in at (reserved_prefixes mixed_content) h
sound (ClassConstraint at) h = is_in at (class_constraints mixed_content) h
sound (XmlnsAttribute at) h = is_in at (xmlns_attributes mixed_content) h
sound NoStart h = cc
sound (UndefinedName at) h = is_in at (undefined_names mixed_content) h
sound (ParentOutside at) h = is_in at (parents_outside mixed_content) h
sound (CombineMixed at) h = is_in at (combine_mixed mixed_content) h
sound (DefinedTwice at) h = is_in at (defined_twice mixed_content) h
sound (Loop at) h = no_loop at h
sound ExpandedTooDeep (g, form, deep) = not_too_deep (subst IsTooDeep (schema-same mixed_content g mixed_schema form mixed-simple) deep)
sound (BadValue at) h = is_in at (bad_values mixed_content) h

pub accepted : Simple mixed_content mixed_schema
accepted = record { form = mixed-simple; sound = sound }
