-- The worked examples of representatives.
use Rattle.std.proofs.Common.{◌≡◌, ℕ, zero, suc, ◌<◌, inl, inr, [], ◌∷◌, refl, sym, ◌∙◌, codes, arith}
use Rattle.std.specs.List.Sorted.{IsStrictlySortedBy}
use Rattle.std.specs.Cmp.Lexicographic.{other_text}
use Rattle.rng_model.specs.Texts.{Text, normal}
use Rattle.rng_model.specs.Names.{Name}
use Rattle.rng_model.specs.Classes.{Class, any_except, one}
use Rattle.rng_model.specs.Fresh.{IsFirstFree}
use Rattle.rng_model.specs.Atoms.{TextStandsFor, IsTokenForm, IsTaken}
use Rattle.rng_model.specs.Patterns.{Pattern, Schema, Definition, Defines, choice, one_or_more, attribute}
use Rattle.rng_model.specs.Patterns as pattern
use Rattle.rng_model.specs.Hedges.{Skeleton}
use Rattle.rng_model.specs.Inside.{Within, IsAttributeOf}
use Rattle.rng_model.specs.Universe.{NameStandsFor, IsElementClass, IsAttributeClass, IsMentioned, IsMentionedSpace}
use Rattle.rng_model.specs.Examples.{named, a_name, b_name, x_name, fresh_space, defined}
use Rattle.rng_model.specs.Events.{events}
use Rattle.universe_laws.specs.Meeting.{MeetsFirst, MeetsAt}
use Rattle.universe_laws.specs.Examples.{foreign, not_a, open_a, no_literals, with_attributes, p_and_q}
use Rattle.universe_laws.specs.Representatives.{Put, first, later, AttributesStandFor, HedgeStandsFor, StandsFor}
use Rattle.universe_laws.specs.Representatives as stand
use Rattle.universe_laws.proofs.Existence.{hedge_from}

-- the only class of elements
only : (d : ℕ) (e : Definition) → Defines not_a d e → e ≡ record { class = any_except (one a_name); content = pattern.empty }
only zero e h = cc
only (suc d) e h = absurd (cc)

class_is : (c : Class) → IsElementClass not_a c → c ≡ any_except (one a_name)
class_is c (d, e, is, h) = let f = only d e is in h ∙ (λ i. (f i).class)

mentions : (n : Name) → IsMentioned (IsElementClass not_a) n → n ≡ a_name
mentions n (c, h, k) = rw (class_is c h) at k

mentions_space : (u : Text) → IsMentionedSpace (IsElementClass not_a) u → u ≡ []
mentions_space u (c, h, k) = rw (class_is c h) at k

none_below : (P : ℕ → Type 0) (k : ℕ) → k < 0 → P k
none_below P k l = absurd (omega arith)

fresh_x : IsFirstFree (λ l. IsMentioned (IsElementClass not_a) (named l)) (codes "x") (codes "x")
fresh_x = record {
  number = 0;
  is = refl;
  free = λ h. other_text (codes "x") (codes "a") refl (λ i. (mentions _ h i).local);
  first = λ k l. absurd (omega arith);
}

pub b_for_x : NameStandsFor (IsElementClass not_a) b_name x_name
b_for_x =
    inr (inl (
      (λ h. other_text (codes "b") (codes "a") refl (λ i. (mentions _ h i).local)),
      (any_except (one a_name), (0, _, refl, refl), refl),
      refl,
      fresh_x,
    ))

pub foreign_for_fresh : NameStandsFor (IsElementClass not_a) foreign fresh_space
foreign_for_fresh =
    inr (inr (
      (λ h. absurd (let e = mentions_space _ h in cc)),
      record { number = 0; is = refl; free = λ h. absurd (let e = mentions_space _ h in cc); first = λ k l. absurd (omega arith) },
      refl,
    ))

-- the only class of attributes
abbrev content : Pattern
content = choice pattern.empty (one_or_more (attribute (any_except (one b_name)) pattern.text))

only_a : (d : ℕ) (e : Definition) → Defines open_a d e → e ≡ defined a_name content
only_a zero e h = cc
only_a (suc d) e h = absurd (cc)

attribute_is : (c : Class) → IsAttributeClass open_a c → c ≡ any_except (one b_name)
attribute_is c (inl (q, e)) = absurd (cc)
attribute_is c (inr (d, e, is, h)) = go (rw (only_a d e is) at h)
  where
    go : Within (IsAttributeOf c) content → c ≡ any_except (one b_name)
    go (inl (q, e)) = absurd (cc)
    go (inr (inl (q, e))) = absurd (cc)
    go (inr (inr (inl (q, e)))) = cc
    go (inr (inr (inr (q, e)))) = absurd (cc)

b_stands : IsAttributeClass open_a (any_except (one b_name))
b_stands = inr (0, _, refl, inr (inr (inl (pattern.text, refl))))

names_b : (n : Name) → IsMentioned (IsAttributeClass open_a) n → n ≡ b_name
names_b n (c, h, k) = rw (attribute_is c h) at k

for_x : (n : Name) → n.ns ≡ [] → (n ≡ b_name → ⊥) → NameStandsFor (IsAttributeClass open_a) n x_name
for_x n e f =
    inr (inl (
      (λ h. f (names_b n h)),
      (any_except (one b_name), b_stands, e),
      sym e,
      record {
        number = 0;
        is = refl;
        free = λ h. other_text (codes "x") (codes "b") refl (λ i. (names_b _ h i).local);
        first = λ k l. absurd (omega arith);
      },
    ))

for_b : NameStandsFor (IsAttributeClass open_a) b_name b_name
for_b = inl ((any_except (one b_name), b_stands, refl), refl)

for_t : (s : Text) → TextStandsFor no_literals s (codes "t")
for_t s =
    inr (inr (
      (λ h. let l = h.1 in omega arith),
      form,
      record { number = 0; is = refl; free = taken; first = λ k l. absurd (omega arith) },
    ))
  where
    form : IsTokenForm no_literals (normal s) → ⊥
    form (inl (t, (k, l, e), f)) = omega arith
    form (inr (h, e)) = absurd (cc)

    taken : IsTaken no_literals (codes "t") → ⊥
    taken (k, t, (i, l, e), f) = omega arith

a_is_known : NameStandsFor (IsElementClass open_a) a_name a_name
a_is_known = inl ((one a_name, (0, _, refl, refl), refl), refl)

pub sorted_anew :
    StandsFor open_a no_literals (with_attributes ((a_name, codes "1") ∷ (b_name, codes "2") ∷ []))
    (with_attributes ((b_name, codes "t") ∷ (x_name, codes "t") ∷ []))
unfolding IsStrictlySortedBy
sorted_anew =
    stand.element a_is_known
    (stand.puts (for_x a_name refl (λ e. other_text (codes "a") (codes "b") refl (λ i. (e i).local))) (for_t _)
    (stand.puts for_b (for_t _) stand.AttributesStandFor.ends first) (later first))
    ((refl, tt), (tt, tt)) stand.HedgeStandsFor.ends stand.HedgeStandsFor.ends

pub they_meet : (r : Skeleton) → StandsFor open_a no_literals p_and_q r → ⊥
they_meet r h =
    ((hedge_from open_a no_literals h).0.0.0) x_name
    (for_x (named (codes "p")) refl (λ e. other_text (codes "p") (codes "b") refl (λ i. (e i).local)))
    (for_x (named (codes "q")) refl (λ e. other_text (codes "q") (codes "b") refl (λ i. (e i).local)))

pub meet_in_line : MeetsFirst open_a p_and_q 3
meet_in_line = record {
  event = 2;
  is = refl;
  meets =
      inl (
        x_name,
        for_x (named (codes "p")) refl (λ e. other_text (codes "p") (codes "b") refl (λ i. (e i).local)),
        for_x (named (codes "q")) refl (λ e. other_text (codes "q") (codes "b") refl (λ i. (e i).local)),
      );
  first = none_before;
}
  where
    none_before : (i : ℕ) → i < 2 → MeetsAt open_a [] (events p_and_q) i → ⊥
    none_before zero l h = h
    none_before (suc zero) l h = h
    none_before (suc (suc i)) l h = omega arith
