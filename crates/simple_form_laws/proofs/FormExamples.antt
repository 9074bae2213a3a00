-- Worked examples of simple forms.
use Rattle.std.proofs.Common.{ℕ, inl, inr, ◌↔◌, List, [], ◌∷◌, refl, sym, subst, codes, Contains, arith}
use Rattle.std.specs.List.Sorted.{IsStrictlySortedBy}
use Rattle.std.specs.Ordering.{nat_cmp}
use Rattle.rng_model.specs.Patterns as simple
use Rattle.rng_model.specs.Patterns.{Schema, Definition}
use Rattle.rng_model.specs.Constructors.{choice_of}
use Rattle.derivative_laws.proofs.Members.{IsIn, is_in, contained}
use Rattle.grammar_laws.specs.Trees.{Pattern, Items, Plain, Choice}
use Rattle.grammar_laws.specs.Trees as full
use Rattle.simple_form_laws.specs.Meaning.{Means}
use Rattle.simple_form_laws.specs.Meaning as by
use Rattle.simple_form_laws.specs.Forms.{HasRef, IsReached, from_start, from_content, IsFormOf}
use Rattle.simple_form_laws.specs.Examples.{mixed_content, mixed_schema, combined, combined_schema, with_parent, parent_schema}
use Rattle.simple_form_laws.proofs.Reached.{reached_in}

-- the numbers of one list, for those that are reached
pub each_of : (P : ℕ → Type 0) (kept : List ℕ) → ((n : ℕ) → P n → IsIn n kept) → ((n : ℕ) → IsIn n kept → P n) → (n : ℕ) → Contains kept n ↔ P n
each_of P kept f g n = ((λ c. g n (is_in n kept c)), (λ p. contained n kept (f n p)))

two : (P : ℕ → Type 0) → P 0 → P 1 → (n : ℕ) → IsIn n (0 ∷ 1 ∷ []) → P n
two P a b n (inl e) = subst P (sym e) a
two P a b n (inr (inl e)) = subst P (sym e) b
two P a b n (inr (inr h)) = absurd h

ascending_two : IsStrictlySortedBy nat_cmp (0 ∷ 1 ∷ [])
unfolding IsStrictlySortedBy
ascending_two = ((refl, tt), (tt, tt))

abbrev mixed_pattern : Pattern
mixed_pattern = full.mixed (full.zero_or_more (full.element (full.plain (codes "b") 28) full.empty 1))

abbrev mixed_form : simple.Pattern
mixed_form = simple.interleave (simple.choice simple.empty (simple.one_or_more (simple.ref 1))) simple.text

mixed_means : Means mixed_content.files [] mixed_pattern mixed_form
unfolding choice_of
mixed_means = by.mixed (by.zero_or_more by.element refl) refl

mixed_refs : (n : ℕ) → HasRef n mixed_form → IsIn n (0 ∷ 1 ∷ [])
mixed_refs n h = grind (arith)

no_refs : (n : ℕ) → HasRef n simple.empty → IsIn n (0 ∷ 1 ∷ [])
no_refs n h = absurd (cc)

ref_first : (n : ℕ) → HasRef n (simple.ref 0) → IsIn n (0 ∷ 1 ∷ [])
ref_first n h = inl (cc)

mixed_reached : (n : ℕ) → IsReached mixed_content n → IsIn n (0 ∷ 1 ∷ [])
mixed_reached =
    reached_in mixed_content (0 ∷ 1 ∷ []) (simple.ref 0) by.element ref_first
    ((_, mixed_form, refl, mixed_means, mixed_refs), ((_, simple.empty, refl, by.empty, no_refs), tt))

mixed_first : IsReached mixed_content 0
mixed_first = from_start {q = simple.ref 0} by.element refl

mixed_second : IsReached mixed_content 1
mixed_second = from_content {q = mixed_form} mixed_first refl mixed_means (inr (inl (inr (inr refl))))

pub mixed-simple : IsFormOf mixed_content mixed_schema
mixed-simple = record {
  kept = 0 ∷ 1 ∷ [];
  ascending = ascending_two;
  each = each_of (IsReached mixed_content) (0 ∷ 1 ∷ []) mixed_reached (two (IsReached mixed_content) mixed_first mixed_second);
  start = (simple.ref 0, by.element, refl);
  elements = (
    record { token = _; is = refl; class = refl; content = (mixed_form, mixed_means, refl) },
    (record { token = _; is = refl; class = refl; content = (simple.empty, by.empty, refl) }, tt),
  );
}

-- `start = x start |= element a { empty } x = element b { x? }`, with its tokens numbered by their places
abbrev combined_items : Items
combined_items =
    full.items_of (
    full.start Plain (full.ref (codes "x") 8) 0
    ∷ full.start Choice (full.element (full.plain (codes "a") 27) full.empty 0) 10
    ∷ full.define (codes "x") Plain (full.element (full.plain (codes "b") 51) (full.optional (full.ref (codes "x") 55)) 1) 39
    ∷ []
    )

abbrev combined_start : simple.Pattern
combined_start = simple.choice (simple.ref 0) (simple.ref 1)

abbrev or_second : simple.Pattern
or_second = simple.choice simple.empty (simple.ref 1)

x_means : (at : ℕ) → Means combined.files (combined_items ∷ []) (full.ref (codes "x") at) (simple.ref 1)
x_means at = by.ref (by.choice (by.first by.element by.ends))

combined_means : Means combined.files [] (full.grammar combined_items) combined_start
unfolding choice_of
combined_means = by.grammar (by.choice (by.first (x_means 8) (by.next by.element by.ends)))

optional_means : Means combined.files (combined_items ∷ []) (full.optional (full.ref (codes "x") 55)) or_second
unfolding choice_of
optional_means = by.optional (x_means 55) refl

start_refs : (n : ℕ) → HasRef n combined_start → IsIn n (0 ∷ 1 ∷ [])
start_refs n h = grind (arith)

second_refs : (n : ℕ) → HasRef n or_second → IsIn n (0 ∷ 1 ∷ [])
second_refs n h = grind (arith)

combined_reached : (n : ℕ) → IsReached combined n → IsIn n (0 ∷ 1 ∷ [])
combined_reached =
    reached_in combined (0 ∷ 1 ∷ []) combined_start combined_means start_refs
    ((_, simple.empty, refl, by.empty, no_refs), ((_, or_second, refl, optional_means, second_refs), tt))

pub combined-simple : IsFormOf combined combined_schema
combined-simple = record {
  kept = 0 ∷ 1 ∷ [];
  ascending = ascending_two;
  each =
      each_of (IsReached combined) (0 ∷ 1 ∷ []) combined_reached
      (two (IsReached combined) (from_start {q = combined_start} combined_means (inl refl)) (from_start {q = combined_start} combined_means (inr refl)));
  start = (combined_start, combined_means, refl);
  elements = (
    record { token = _; is = refl; class = refl; content = (simple.empty, by.empty, refl) },
    (record { token = _; is = refl; class = refl; content = (or_second, optional_means, refl) }, tt),
  );
}

-- `start = element a { grammar { start = parent x } } x = element b { empty }`, so too
abbrev inner_items : Items
inner_items = full.items_of (full.start Plain (full.parent (codes "x") 38) 30 ∷ [])

abbrev outer_items : Items
outer_items =
    full.items_of (
    full.start Plain (full.element (full.plain (codes "a") 16) (full.grammar inner_items) 0) 0
    ∷ full.define (codes "x") Plain (full.element (full.plain (codes "b") 63) full.empty 1) 51
    ∷ []
    )

outer_means : Means with_parent.files [] (full.grammar outer_items) (simple.ref 0)
outer_means = by.grammar (by.choice (by.first by.element by.ends))

inner_means : Means with_parent.files (outer_items ∷ []) (full.grammar inner_items) (simple.ref 1)
inner_means = by.grammar (by.choice (by.first (by.parent (by.choice (by.first by.element by.ends))) by.ends))

ref_second : (n : ℕ) → HasRef n (simple.ref 1) → IsIn n (0 ∷ 1 ∷ [])
ref_second n h = inr (inl (cc))

parent_reached : (n : ℕ) → IsReached with_parent n → IsIn n (0 ∷ 1 ∷ [])
parent_reached =
    reached_in with_parent (0 ∷ 1 ∷ []) (simple.ref 0) outer_means ref_first
    ((_, simple.ref 1, refl, inner_means, ref_second), ((_, simple.empty, refl, by.empty, no_refs), tt))

parent_first : IsReached with_parent 0
parent_first = from_start {q = simple.ref 0} outer_means refl

pub parent-simple : IsFormOf with_parent parent_schema
parent-simple = record {
  kept = 0 ∷ 1 ∷ [];
  ascending = ascending_two;
  each =
      each_of (IsReached with_parent) (0 ∷ 1 ∷ []) parent_reached
      (two (IsReached with_parent) parent_first (from_content {q = simple.ref 1} parent_first refl inner_means refl));
  start = (simple.ref 0, outer_means, refl);
  elements = (
    record { token = _; is = refl; class = refl; content = (simple.ref 1, inner_means, refl) },
    (record { token = _; is = refl; class = refl; content = (simple.empty, by.empty, refl) }, tt),
  );
}
