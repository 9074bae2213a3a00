-- What has a simple form leads to patterns that have one, and never back to itself.
use Rattle.std.proofs.Common.{inl, inr, List, [], ◌∷◌, Some, None, sym, subst}
use Rattle.rng_model.specs.Patterns as simple
use Rattle.derivative_laws.proofs.Members.{IsIn, is_in}
use Rattle.grammar_laws.specs.Trees.{Pattern, Patterns, more_patterns}
use Rattle.grammar_laws.specs.Files.{SchemaFile}
use Rattle.simple_form_laws.specs.Parts.{Scope, Part, part, defined}
use Rattle.simple_form_laws.specs.Meaning.{Means, Connected, Behind, Connective}
use Rattle.simple_form_laws.specs.Meaning as by
use Rattle.simple_form_laws.specs.Faults.{leads, each_part, LeadsTo, once, more}

pub then_to : {x y z : Part} → LeadsTo x y → LeadsTo y z → LeadsTo x z
then_to (once h) k = more h k
then_to (more h j) k = more h (then_to j k)

abbrev IsSafe : Part → Type 0
IsSafe x = LeadsTo x x → ⊥

abbrev AreSafe : List Part → Type 0
AreSafe xs = (y : Part) → IsIn y xs → IsSafe y

-- where all that a part leads to is safe, it is
safe_from : (x : Part) → AreSafe (leads x.scope x.pattern) → IsSafe x
safe_from x h (once c) = h x (is_in x (leads x.scope x.pattern) c) (once c)
safe_from x h (more {y = y} c k) = h y (is_in y (leads x.scope x.pattern) c) (then_to k (once c))

one_safe : (x : Part) → IsSafe x → AreSafe (x ∷ [])
one_safe x h y (inl e) = subst IsSafe (sym e) h
one_safe x h y (inr i) = absurd i

none_safe : AreSafe []
none_safe y i = absurd i

both_safe : (s : Scope) (p : Pattern) (ps : Patterns) → IsSafe (part s p) → AreSafe (each_part s ps) → AreSafe (each_part s (more_patterns p ps))
both_safe s p ps h k y (inl e) = subst IsSafe (sym e) h
both_safe s p ps h k y (inr i) = k y i

module _ (fs : List SchemaFile) where
  mutual
    safe : {s : Scope} {p : Pattern} {q : simple.Pattern} → Means fs s p q → IsSafe (part s p)
    safe {s = s} {p = p} by.element = safe_from (part s p) none_safe
    safe {s = s} {p = p} (by.attribute {p = c} k h e) = safe_from (part s p) (one_safe (part s c) (safe h))
    safe {s = s} {p = p} (by.group h) = safe_from (part s p) (connected_safe h)
    safe {s = s} {p = p} (by.choice h) = safe_from (part s p) (connected_safe h)
    safe {s = s} {p = p} (by.interleave h) = safe_from (part s p) (connected_safe h)
    safe {s = s} {p = p} (by.optional {p = c} h e) = safe_from (part s p) (one_safe (part s c) (safe h))
    safe {s = s} {p = p} (by.zero_or_more {p = c} h e) = safe_from (part s p) (one_safe (part s c) (safe h))
    safe {s = s} {p = p} (by.one_or_more {p = c} h e) = safe_from (part s p) (one_safe (part s c) (safe h))
    safe {s = s} {p = p} (by.mixed {p = c} h e) = safe_from (part s p) (one_safe (part s c) (safe h))
    safe {s = s} {p = p} by.empty = safe_from (part s p) none_safe
    safe {s = s} {p = p} by.any_text = safe_from (part s p) none_safe
    safe {s = s} {p = p} by.not_allowed = safe_from (part s p) none_safe
    safe {s = s} {p = p} by.value = safe_from (part s p) none_safe
    safe {s = s} {p = p} (by.typed_value k) = safe_from (part s p) none_safe
    safe {s = s} {p = p} (by.data_type k) = safe_from (part s p) none_safe
    safe {s = s} {p = p} (by.data_except {p = c} k h e) = safe_from (part s p) (one_safe (part s c) (safe h))
    safe {s = s} {p = p} (by.grammar {is = is} h) = safe_from (part s p) (one_safe (part (is ∷ s) (defined None is)) (safe h))
    safe {p = p} (by.ref {s = s} {is = is} {name = name} h) = safe_from (part (is ∷ s) p) (one_safe (part (is ∷ s) (defined (Some name) is)) (safe h))
    safe {p = p} (by.parent {s = s} {inner = inner} {is = is} {name = name} h) =
        safe_from (part (inner ∷ is ∷ s) p) (one_safe (part (is ∷ s) (defined (Some name) is)) (safe h))

    connected_safe : {j : Connective} {s : Scope} {ps : Patterns} {q : simple.Pattern} → Connected fs j s ps q → AreSafe (each_part s ps)
    connected_safe (by.first {s = s} {p = p} {ps = ps} h k) = both_safe s p ps (safe h) (behind_safe k)

    behind_safe : {j : Connective} {s : Scope} {b : simple.Pattern} {ps : Patterns} {q : simple.Pattern} → Behind fs j s b ps q → AreSafe (each_part s ps)
    behind_safe by.ends = none_safe
    behind_safe (by.next {s = s} {p = p} {ps = ps} h k) = both_safe s p ps (safe h) (behind_safe k)

-- a reference, or any pattern, that leads back to itself has no simple form
pub no_loop : (fs : List SchemaFile) (s : Scope) (p : Pattern) (q : simple.Pattern) → Means fs s p q → LeadsTo (part s p) (part s p) → ⊥
no_loop fs s p q h k = safe fs h k
