-- Rows of states that share a pattern, and how long the codes of a skeleton are.
use Rattle.std.proofs.Common.{◌≡◌, ℕ, ◌+◌, ◌*◌, ◌≤◌, List, [], ◌∷◌, ◌++◌, map, length, length-append, refl, sym, ◌∙◌, ap, arith, rules, true, get_or, nat_le}
use Rattle.rng_model.specs.Patterns.{Pattern, Schema, IsSimpleForm}
use Rattle.rng_model.specs.Hedges.{Hedge, Attributes, Skeleton, document, size, hedge_size}
use Rattle.rng_model.specs.Hedges as hedge
use Rattle.rng_model.specs.Events.{Event, hedge_events, events}
use Rattle.rng_model.specs.Events as event
use Rattle.rng_model.specs.Universe.{Lists, IsAlphabet, Ascend}
use Rattle.rng_model.specs.Restrictions.{BreaksNoRule}
use Rattle.rng_model.specs.Codes.{AreCodes, Code}
use Rattle.rng_model.specs.States.{Tag, Fresh, AfterText, AfterElement, step, no_name}
use Rattle.rng_model.specs.Derivatives.{where_true, attribute_step}
use Rattle.table_laws.specs.Reaching.{state_at}
use Rattle.table_laws.specs.Walking.{AreListedCodes}
use Rattle.table_laws.proofs.ListedCodes.{codes_skeleton}

module _ (g : Schema) (u : Lists) where
  le_true : (k j : ℕ) → k ≤ j → nat_le k j ≡ true
  le_true k j h = search (rules)

  -- with a tag, the codes that are allowed lead where they lead from the first tag
  pub tag_attribute : (k j s : ℕ) (p : Pattern) → k ≤ j → step g u (state_at (Tag k) p) (Code.Attr j s) ≡ step g u (state_at (Tag 0) p) (Code.Attr j s)
  tag_attribute k j s p l =
      let e : nat_le k j ≡ nat_le 0 j = le_true k j l ∙ sym (le_true 0 j (omega arith)) in
      ap (λ b. record { place = Tag (j + 1); pattern = where_true b (attribute_step (get_or u.attributes j no_name) (get_or u.atoms s []) p) }) e

  pub tag_body : (k : ℕ) (p : Pattern) → step g u (state_at (Tag k) p) Code.Body ≡ step g u (state_at (Tag 0) p) Code.Body
  tag_body k p = refl

  -- openings lead alike at the other places, texts but after a text, ends but at first
  pub opening_rows : (i : ℕ) (p : Pattern) → (step g u (state_at Fresh p) (Code.Opening i) ≡ step g u (state_at AfterElement p) (Code.Opening i)) × (step g u (state_at AfterText p) (Code.Opening i) ≡ step g u (state_at AfterElement p) (Code.Opening i))
  opening_rows i p = (refl, refl)

  pub chars_rows : (s : ℕ) (p : Pattern) → step g u (state_at Fresh p) (Code.Chars s) ≡ step g u (state_at AfterElement p) (Code.Chars s)
  chars_rows s p = refl

  pub closing_rows : (p : Pattern) → step g u (state_at AfterText p) Code.Closing ≡ step g u (state_at AfterElement p) Code.Closing
  closing_rows p = refl

same_length : (u : Lists) (es : List Event) (cs : List Code) → AreCodes u es cs → length cs ≡ length es
same_length u [] [] h = refl
same_length u [] (c ∷ cs) h = absurd h
same_length u (e ∷ es) [] h = absurd h
same_length u (e ∷ es) (c ∷ cs) h = omega (arith, same_length u es cs h.1)

length-attributes : (a : Attributes) → length (map (λ x. event.Attr x.0 x.1) a) ≡ length a
length-attributes [] = refl
length-attributes (x ∷ a) = omega (arith, length-attributes a)

-- three events for an element, one for an attribute or a text
events_length : (m : Hedge) → length (hedge_events m) ≤ 3 * hedge_size m
events_length hedge.none = omega arith
events_length (hedge.text t rest) = let l = events_length rest in omega arith
events_length (hedge.element n a k rest) =
    let l = events_length k in
    let r = events_length rest in
    omega (
      arith,
      length-attributes a,
      length-append ((event.Opening n ∷ map (λ x. event.Attr x.0 x.1) a) ++ (event.Body ∷ hedge_events k)) (event.Closing ∷ hedge_events rest),
      length-append (event.Opening n ∷ map (λ x. event.Attr x.0 x.1) a) (event.Body ∷ hedge_events k),
    )

module _ (g : Schema) (u : Lists) (unbroken : BreaksNoRule g) (lists : Ascend u) where
  pub listed_length : IsSimpleForm g → IsAlphabet u → (n : ℕ) (codes : List Code) → AreListedCodes g u n codes → length codes ≤ 3 * n
  listed_length simple named n codes a =
      let t = codes_skeleton g u unbroken lists simple named n codes a in
      let l = events_length (document t.0) in
      let e = t.2 in
      omega (arith, same_length u (events t.0) codes t.3)
