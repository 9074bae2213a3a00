-- Each reference in a simple form comes from an element that the pattern leads to.
use Rattle.std.proofs.Common.{◌≡◌, ℕ, ◌⊎◌, inl, inr, List, ◌∷◌, Some, None, refl, subst}
use Rattle.rng_model.specs.Patterns as simple
use Rattle.rng_model.specs.Constructors.{one_or_more_of}
use Rattle.derivative_laws.proofs.Members.{IsIn, contained}
use Rattle.grammar_laws.specs.Trees.{Class, Pattern, Patterns, no_pattern, more_patterns}
use Rattle.grammar_laws.specs.Files.{SchemaFile}
use Rattle.grammar_laws.specs.Trees as full
use Rattle.simple_form_laws.specs.Parts.{Scope, Part, part, defined}
use Rattle.simple_form_laws.specs.Meaning.{Means, Connected, Behind, Connective, Group, Choice, Interleave, connect}
use Rattle.simple_form_laws.specs.Meaning as by
use Rattle.simple_form_laws.specs.Forms.{HasRef}
use Rattle.simple_form_laws.specs.Faults.{leads, each_part, IsVisited, lead}
use Rattle.simple_form_laws.proofs.Refs.{ref_in_choice, ref_in_optional, ref_in_group, ref_in_interleave, ref_in_more, ref_in_attribute, ref_in_data}

same_number : (m n : ℕ) → HasRef n (simple.ref m) → m ≡ n
same_number m n h = cc

ref_in_connected : (j : Connective) (n : ℕ) (p q : simple.Pattern) → HasRef n (connect j p q) → HasRef n p ⊎ HasRef n q
ref_in_connected Group n p q h = ref_in_group n p q h
ref_in_connected Choice n p q h = ref_in_choice n p q h
ref_in_connected Interleave n p q h = ref_in_interleave n p q h

module _ (fs : List SchemaFile) (whole : Pattern) where
  -- an element of this number can be reached
  abbrev pub Origin : ℕ → Type 0
  Origin n = (s : Scope) × (c : Class) × (p : Pattern) × IsVisited whole (part s (full.element c p n))

  step : (s : Scope) (p : Pattern) (y : Part) → IsVisited whole (part s p) → IsIn y (leads s p) → IsVisited whole y
  step s p y v i = lead v (contained y (leads s p) i)

  text_apart : (n : ℕ) (q : simple.Pattern) → HasRef n q ⊎ HasRef n simple.text → HasRef n q
  text_apart n q (inl h) = h
  text_apart n q (inr h) = absurd (cc)

  abbrev Members : Scope → Patterns → Type 0
  Members s ps = (c : Pattern) → IsIn (part s c) (each_part s ps) → IsVisited whole (part s c)

  pick : (n : ℕ) (b q : simple.Pattern) → (HasRef n q → Origin n) → HasRef n b ⊎ HasRef n q → HasRef n b ⊎ Origin n
  pick n b q f (inl h) = inl h
  pick n b q f (inr h) = inr (f h)

  or_else : (n : ℕ) (b : simple.Pattern) (A : Type 0) → (A → HasRef n b ⊎ Origin n) → A ⊎ Origin n → HasRef n b ⊎ Origin n
  or_else n b A f (inl h) = f h
  or_else n b A f (inr o) = inr o

  settle : (n : ℕ) (q : simple.Pattern) → (HasRef n q → Origin n) → HasRef n q ⊎ Origin n → Origin n
  settle n q f (inl h) = f h
  settle n q f (inr o) = o

  mutual
    pub origin : {s : Scope} {p : Pattern} {q : simple.Pattern} → Means fs s p q → (n : ℕ) → HasRef n q → IsVisited whole (part s p) → Origin n
    origin {s = s} (by.element {c = c} {p = p} {n = m}) n h v = (s, c, p, subst (λ k. IsVisited whole (part s (full.element c p k))) (same_number m n h) v)
    origin {s = s} {p = w} (by.attribute {p = p} {d = d} {q = q} k m e) n h v =
        origin m n (ref_in_attribute n d q (subst (HasRef n) e h)) (step s w (part s p) v (inl refl))
    origin {s = s} {p = w} (by.group {ps = ps} k) n h v = origin_in k n h (λ c i. step s w (part s c) v i)
    origin {s = s} {p = w} (by.choice {ps = ps} k) n h v = origin_in k n h (λ c i. step s w (part s c) v i)
    origin {s = s} {p = w} (by.interleave {ps = ps} k) n h v = origin_in k n h (λ c i. step s w (part s c) v i)
    origin {s = s} {p = w} (by.optional {p = p} {q = q} m e) n h v = origin m n (ref_in_optional n q (subst (HasRef n) e h)) (step s w (part s p) v (inl refl))
    origin {s = s} {p = w} (by.zero_or_more {p = p} {q = q} m e) n h v =
        origin m n (ref_in_more n q (ref_in_optional n (one_or_more_of q) (subst (HasRef n) e h))) (step s w (part s p) v (inl refl))
    origin {s = s} {p = w} (by.one_or_more {p = p} {q = q} m e) n h v = origin m n (ref_in_more n q (subst (HasRef n) e h)) (step s w (part s p) v (inl refl))
    origin {s = s} {p = w} (by.mixed {p = p} {q = q} m e) n h v =
        origin m n (text_apart n q (ref_in_interleave n q simple.text (subst (HasRef n) e h))) (step s w (part s p) v (inl refl))
    origin by.empty n h v = absurd (cc)
    origin by.any_text n h v = absurd (cc)
    origin by.not_allowed n h v = absurd (cc)
    origin by.value n h v = absurd (cc)
    origin (by.typed_value k) n h v = absurd (cc)
    origin (by.data_type k) n h v = absurd (cc)
    origin {s = s} {p = w} (by.data_except {k = k} {p = p} {q = q} l m e) n h v =
        origin m n (ref_in_data n k q (subst (HasRef n) e h)) (step s w (part s p) v (inl refl))
    origin {p = w} (by.grammar {s = s} {is = is} m) n h v = origin m n h (step s w (part (is ∷ s) (defined None is)) v (inl refl))
    origin {p = w} (by.ref {s = s} {is = is} {name = name} m) n h v = origin m n h (step (is ∷ s) w (part (is ∷ s) (defined (Some name) is)) v (inl refl))
    origin {p = w} (by.parent {s = s} {inner = inner} {is = is} {name = name} m) n h v =
        origin m n h (step (inner ∷ is ∷ s) w (part (is ∷ s) (defined (Some name) is)) v (inl refl))

    origin_in : {j : Connective} {s : Scope} {ps : Patterns} {r : simple.Pattern} → Connected fs j s ps r → (n : ℕ) → HasRef n r → Members s ps → Origin n
    origin_in (by.first {p = p} {q = q} m k) n h f = settle n q (λ i. origin m n i (f p (inl refl))) (origin_behind k n h (λ c i. f c (inr i)))

    origin_behind : {j : Connective} {s : Scope} {b : simple.Pattern} {ps : Patterns} {r : simple.Pattern} → Behind fs j s b ps r → (n : ℕ) → HasRef n r → Members s ps → HasRef n b ⊎ Origin n
    origin_behind by.ends n h f = inl h
    origin_behind (by.next {j = j} {p = p} {b = b} {q = q} m k) n h f =
        or_else n b (HasRef n (connect j b q)) (λ i. pick n b q (λ l. origin m n l (f p (inl refl))) (ref_in_connected j n b q i)) (origin_behind k n h (λ c i. f c (inr i)))
