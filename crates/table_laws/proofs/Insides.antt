-- The states inside elements are normal choices of heads.
use Rattle.std.proofs.Common.{◌≡◌, ℕ, zero, suc, ◌+◌, ◌-◌, inl, inr, List, [], ◌∷◌, refl, sym, subst, arith, Bool, true, false, not, Option, Some, None, slice_get, get_or, nat_le}
use Rattle.rng_model.specs.Texts.{Text, is_white}
use Rattle.rng_model.specs.Names.{Name}
use Rattle.rng_model.specs.Patterns.{Pattern, Schema, Definition, IsSimpleForm, not_allowed, empty, ref, choice, after}
use Rattle.rng_model.specs.Constructors.{choice_of, after_of}
use Rattle.rng_model.specs.Matching.{nullable}
use Rattle.rng_model.specs.Universe.{Lists}
use Rattle.rng_model.specs.Restrictions.{BreaksNoRule}
use Rattle.rng_model.specs.States.{Place, Tag, Fresh, AfterText, AfterElement, State, step, steps, after_codes, no_name}
use Rattle.rng_model.specs.Codes.{Code}
use Rattle.rng_model.specs.Derivatives.{where_true, text_step, map_after, element_step, opening, attribute_step, close, ending}
use Rattle.derivative_laws.proofs.ChoiceLaw.{IsAll_of, choice_of-all}
use Rattle.derivative_laws.proofs.Spines.{IsMemberwise, text_members, attribute_members, close_members, spine_step, spine_all}
use Rattle.derivative_laws.proofs.Accepting.{AreRefs, start_refs}
use Rattle.table_laws.specs.Heads.{IsNormalChoice, HasHeads, IsEnded, IsInsideElements, open_elements}
use Rattle.table_laws.proofs.Normal.{normal_choice, normal_nothing, normal_lone, normal_after}

nothing_inside : (d : ℕ) → IsInsideElements d not_allowed
nothing_inside zero = (normal_nothing, tt)
nothing_inside (suc d) = (normal_nothing, tt)

is_nothing : (d : ℕ) (p : Pattern) → p ≡ not_allowed → IsInsideElements d p
is_nothing d p e = subst (IsInsideElements d) (sym e) (nothing_inside d)

ended_all : IsAll_of IsEnded
ended_all = record { always = tt; first = λ p q h. h.0; second = λ p q h. h.1; from = λ p q h k. (h, k) }

-- choices of such patterns are such
choice_inside : (d : ℕ) (p q : Pattern) → IsInsideElements d p → IsInsideElements d q → IsInsideElements d (choice_of p q)
choice_inside zero p q h k = (normal_choice p q h.0 k.0, choice_of-all IsEnded ended_all p q h.1 k.1)
choice_inside (suc d) p q h k = (normal_choice p q h.0 k.0, choice_of-all (HasHeads (IsInsideElements d)) (spine_all (IsInsideElements d)) p q h.1 k.1)

where_inside : (d : ℕ) (b : Bool) (p : Pattern) → IsInsideElements d p → IsInsideElements d (where_true b p)
where_inside d true p h = h
where_inside d false p h = nothing_inside d

-- a step on the heads
module _ (F : Pattern → Pattern) (is : IsMemberwise F) (K : Pattern → Type 0) where
  normal_step : (p : Pattern) → HasHeads K p → IsNormalChoice (F p)
  normal_step not_allowed h = subst IsNormalChoice (sym is.never) normal_nothing
  normal_step (after x y) h = subst IsNormalChoice (sym (is.after x y)) (normal_after (F x) y)
  normal_step (choice p q) h = subst IsNormalChoice (sym (is.choice p q)) (normal_choice (F p) (F q) (normal_step p h.0) (normal_step q h.1))
  normal_step p h = absurd h

step_inside : (F : Pattern → Pattern) → IsMemberwise F → (d : ℕ) (p : Pattern) → IsInsideElements (suc d) p → IsInsideElements (suc d) (F p)
step_inside F is d p h = (normal_step F is (IsInsideElements d) p h.1, spine_step F is (IsInsideElements d) p h.1)

ending_inside : (d : ℕ) (p : Pattern) → HasHeads (IsInsideElements d) p → IsInsideElements d (ending p)
unfolding ending
ending_inside d not_allowed h = nothing_inside d
ending_inside d (after x y) h = where_inside d (nullable x) y h
ending_inside d (choice p q) h = choice_inside d (ending p) (ending q) (ending_inside d p h.0) (ending_inside d q h.1)
ending_inside d p h = absurd h

-- an opening
heads_after : (K : Pattern → Type 0) (x y : Pattern) → K y → HasHeads K (after_of x y)
heads_after K not_allowed y k = tt
heads_after K x not_allowed k = tt
heads_after K x y k = k

map_inside : (d : ℕ) (f : Pattern → Pattern) → ((w : Pattern) → IsInsideElements d (f w)) → (p : Pattern) → IsInsideElements (suc d) (map_after f p)
unfolding map_after
map_inside d f k (after x y) = (normal_after x (f y), heads_after (IsInsideElements d) x (f y) (k y))
map_inside d f k (choice p q) = choice_inside (suc d) (map_after f p) (map_after f q) (map_inside d f k p) (map_inside d f k q)
map_inside d f k p = nothing_inside (suc d)

opening_inside : (g : Schema) (n : Name) (d : ℕ) (p : Pattern) → HasHeads (IsInsideElements d) p → IsInsideElements (suc (suc d)) (opening g n p)
unfolding opening
opening_inside g n d not_allowed h = nothing_inside (suc (suc d))
opening_inside g n d (after x y) h = map_inside (suc d) (λ w. after_of w y) (λ w. (normal_after w y, heads_after (IsInsideElements d) w y h)) (opening g n x)
opening_inside g n d (choice p q) h = choice_inside (suc (suc d)) (opening g n p) (opening g n q) (opening_inside g n d p h.0) (opening_inside g n d q h.1)
opening_inside g n d p h = absurd h

root_element : (n : Name) (o : Option Definition) → IsInsideElements 1 (element_step n o)
root_element n None = nothing_inside 1
root_element n (Some e) =
    where_inside 1 _ (after_of e.content empty) (normal_after e.content empty, heads_after (IsInsideElements 0) e.content empty (normal_lone empty tt, tt))

root_opening : (g : Schema) (n : Name) (p : Pattern) → AreRefs p → IsInsideElements 1 (opening g n p)
unfolding opening
root_opening g n not_allowed h = nothing_inside 1
root_opening g n (ref d) h = root_element n (slice_get g.elements d)
root_opening g n (choice p q) h = choice_inside 1 (opening g n p) (opening g n q) (root_opening g n p h.0) (root_opening g n q h.1)
root_opening g n p h = absurd h

-- before and after the root
choice_nothing : (p q : Pattern) → p ≡ not_allowed → q ≡ not_allowed → choice_of p q ≡ not_allowed
unfolding choice_of
choice_nothing p q e f = rw (e, f) refl

where_nothing : (b : Bool) (p : Pattern) → p ≡ not_allowed → where_true b p ≡ not_allowed
where_nothing true p e = e
where_nothing false p e = refl

ended_opening : (g : Schema) (n : Name) (p : Pattern) → IsEnded p → opening g n p ≡ not_allowed
unfolding opening
ended_opening g n (choice p q) h = choice_nothing (opening g n p) (opening g n q) (ended_opening g n p h.0) (ended_opening g n q h.1)
ended_opening g n not_allowed h = refl
ended_opening g n empty h = refl
ended_opening g n p h = absurd h

ended_text : (s : Text) (p : Pattern) → IsEnded p → text_step s p ≡ not_allowed
unfolding text_step
ended_text s (choice p q) h = choice_nothing (text_step s p) (text_step s q) (ended_text s p h.0) (ended_text s q h.1)
ended_text s not_allowed h = refl
ended_text s empty h = refl
ended_text s p h = absurd h

ended_attribute : (n : Name) (s : Text) (p : Pattern) → IsEnded p → attribute_step n s p ≡ not_allowed
unfolding attribute_step
ended_attribute n s (choice p q) h = choice_nothing (attribute_step n s p) (attribute_step n s q) (ended_attribute n s p h.0) (ended_attribute n s q h.1)
ended_attribute n s not_allowed h = refl
ended_attribute n s empty h = refl
ended_attribute n s p h = absurd h

ended_ending : (p : Pattern) → IsEnded p → ending p ≡ not_allowed
unfolding ending
ended_ending (choice p q) h = choice_nothing (ending p) (ending q) (ended_ending p h.0) (ended_ending q h.1)
ended_ending not_allowed h = refl
ended_ending empty h = refl
ended_ending p h = absurd h

ended_close : (p : Pattern) → IsEnded p → IsInsideElements 0 (close p)
unfolding close
ended_close (choice p q) h = choice_inside 0 (close p) (close q) (ended_close p h.0) (ended_close q h.1)
ended_close not_allowed h = nothing_inside 0
ended_close empty h = (normal_lone empty tt, tt)
ended_close p h = absurd h

refs_text : (s : Text) (p : Pattern) → AreRefs p → text_step s p ≡ not_allowed
unfolding text_step
refs_text s (choice p q) h = choice_nothing (text_step s p) (text_step s q) (refs_text s p h.0) (refs_text s q h.1)
refs_text s not_allowed h = refl
refs_text s (ref d) h = refl
refs_text s p h = absurd h

refs_ending : (p : Pattern) → AreRefs p → ending p ≡ not_allowed
unfolding ending
refs_ending (choice p q) h = choice_nothing (ending p) (ending q) (refs_ending p h.0) (refs_ending q h.1)
refs_ending not_allowed h = refl
refs_ending (ref d) h = refl
refs_ending p h = absurd h

refs_all : IsAll_of AreRefs
refs_all = record { always = tt; first = λ p q h. h.0; second = λ p q h. h.1; from = λ p q h k. (h, k) }

module _ (g : Schema) (u : Lists) where
  -- outside the root
  ended_step : (pl : Place) (c : Code) (p : Pattern) → IsInsideElements 0 p → IsInsideElements (open_elements 0 (c ∷ [])) (step g u (record { place = pl; pattern = p }) c).pattern
  ended_step (Tag k) (Code.Attr j s) p h = is_nothing 0 _ (where_nothing (nat_le k j) _ (ended_attribute (get_or u.attributes j no_name) (get_or u.atoms s []) p h.1))
  ended_step (Tag k) Code.Body p h = ended_close p h.1
  ended_step Fresh (Code.Opening i) p h = is_nothing 1 _ (ended_opening g (get_or u.elements i no_name) p h.1)
  ended_step AfterText (Code.Opening i) p h = is_nothing 1 _ (ended_opening g (get_or u.elements i no_name) p h.1)
  ended_step AfterElement (Code.Opening i) p h = is_nothing 1 _ (ended_opening g (get_or u.elements i no_name) p h.1)
  ended_step Fresh (Code.Chars s) p h = is_nothing 0 _ (where_nothing (not (is_white (get_or u.atoms s []))) _ (ended_text (get_or u.atoms s []) p h.1))
  ended_step AfterElement (Code.Chars s) p h = is_nothing 0 _ (where_nothing (not (is_white (get_or u.atoms s []))) _ (ended_text (get_or u.atoms s []) p h.1))
  ended_step Fresh Code.Closing p h =
      is_nothing 0 _ (ended_ending (choice_of p (text_step [] p)) (choice_of-all IsEnded ended_all p (text_step [] p) h.1 (subst IsEnded (sym (ended_text [] p h.1)) tt)))
  ended_step AfterText Code.Closing p h = is_nothing 0 _ (ended_ending p h.1)
  ended_step AfterElement Code.Closing p h = is_nothing 0 _ (ended_ending p h.1)
  ended_step pl c p h = nothing_inside (open_elements 0 (c ∷ []))

  -- inside elements
  said_inside : (d s : ℕ) (p : Pattern) → IsInsideElements (suc d) p → IsInsideElements (suc d) (where_true (not (is_white (get_or u.atoms s []))) (text_step (get_or u.atoms s []) p))
  said_inside d s p h =
      where_inside (suc d) (not (is_white (get_or u.atoms s []))) (text_step (get_or u.atoms s []) p) (step_inside (text_step (get_or u.atoms s [])) (text_members (get_or u.atoms s [])) d p h)

  one_deeper : (d : ℕ) (p : Pattern) → IsInsideElements (suc (suc d)) p → IsInsideElements (suc d + 1) p
  one_deeper d p h = let e : suc (suc d) ≡ suc d + 1 = omega arith in subst (λ n. IsInsideElements n p) e h

  one_less : (d : ℕ) (p : Pattern) → IsInsideElements d p → IsInsideElements (suc d - 1) p
  one_less d p h = let e : d ≡ suc d - 1 = omega arith in subst (λ n. IsInsideElements n p) e h

  inner_step : (d : ℕ) (pl : Place) (c : Code) (p : Pattern) → IsInsideElements (suc d) p → IsInsideElements (open_elements (suc d) (c ∷ [])) (step g u (record { place = pl; pattern = p }) c).pattern
  inner_step d (Tag k) (Code.Attr j s) p h =
      where_inside (suc d) (nat_le k j) (attribute_step (get_or u.attributes j no_name) (get_or u.atoms s []) p)
      (step_inside (attribute_step (get_or u.attributes j no_name) (get_or u.atoms s [])) (attribute_members (get_or u.attributes j no_name) (get_or u.atoms s [])) d p h)
  inner_step d (Tag k) Code.Body p h = step_inside close close_members d p h
  inner_step d Fresh (Code.Opening i) p h = one_deeper d _ (opening_inside g (get_or u.elements i no_name) d p h.1)
  inner_step d AfterText (Code.Opening i) p h = one_deeper d _ (opening_inside g (get_or u.elements i no_name) d p h.1)
  inner_step d AfterElement (Code.Opening i) p h = one_deeper d _ (opening_inside g (get_or u.elements i no_name) d p h.1)
  inner_step d Fresh (Code.Chars s) p h = said_inside d s p h
  inner_step d AfterElement (Code.Chars s) p h = said_inside d s p h
  inner_step d Fresh Code.Closing p h =
      one_less d _ (ending_inside d (choice_of p (text_step [] p)) (choice_inside (suc d) p (text_step [] p) h (step_inside (text_step []) (text_members []) d p h)).1)
  inner_step d AfterText Code.Closing p h = one_less d _ (ending_inside d p h.1)
  inner_step d AfterElement Code.Closing p h = one_less d _ (ending_inside d p h.1)
  inner_step d pl c p h = nothing_inside (open_elements (suc d) (c ∷ []))

  one_step : (d : ℕ) (s : State) (c : Code) → IsInsideElements d s.pattern → IsInsideElements (open_elements d (c ∷ [])) (step g u s c).pattern
  one_step zero s c h = ended_step s.place c s.pattern h
  one_step (suc d) s c h = inner_step d s.place c s.pattern h

  opens-cons : (d : ℕ) (c : Code) (cs : List Code) → open_elements d (c ∷ cs) ≡ open_elements (open_elements d (c ∷ [])) cs
  opens-cons d (Code.Opening i) cs = refl
  opens-cons d (Code.Attr j s) cs = refl
  opens-cons d Code.Body cs = refl
  opens-cons d (Code.Chars s) cs = refl
  opens-cons d Code.Closing cs = refl

  all_steps : (cs : List Code) (d : ℕ) (s : State) → IsInsideElements d s.pattern → IsInsideElements (open_elements d cs) (steps g u s cs).pattern
  all_steps [] d s h = h
  all_steps (c ∷ cs) d s h = subst (λ n. IsInsideElements n (steps g u (step g u s c) cs).pattern) (sym (opens-cons d c cs)) (all_steps cs (open_elements d (c ∷ [])) (step g u s c) (one_step d s c h))

  first_step : (c : Code) (p : Pattern) → AreRefs p → IsInsideElements (open_elements 0 (c ∷ [])) (step g u (record { place = Fresh; pattern = p }) c).pattern
  first_step (Code.Opening i) p h = root_opening g (get_or u.elements i no_name) p h
  first_step (Code.Attr j s) p h = nothing_inside 0
  first_step Code.Body p h = nothing_inside 0
  first_step (Code.Chars s) p h = is_nothing 0 _ (where_nothing (not (is_white (get_or u.atoms s []))) _ (refs_text (get_or u.atoms s []) p h))
  first_step Code.Closing p h =
      is_nothing 0 _ (refs_ending (choice_of p (text_step [] p)) (choice_of-all AreRefs refs_all p (text_step [] p) h (subst AreRefs (sym (refs_text [] p h)) tt)))

  pub states_inside : BreaksNoRule g → IsSimpleForm g → (c : Code) (cs : List Code) → IsInsideElements (open_elements 0 (c ∷ cs)) (after_codes g u (c ∷ cs)).pattern
  states_inside unbroken simple c cs =
      let refs = start_refs g.start simple.start (λ w. unbroken 6 (inr (inl (refl, w)))) in
      subst (λ n. IsInsideElements n (after_codes g u (c ∷ cs)).pattern) (sym (opens-cons 0 c cs))
      (all_steps cs (open_elements 0 (c ∷ [])) (step g u (record { place = Fresh; pattern = g.start }) c) (first_step c g.start refs))

inside_normal : (d : ℕ) (p : Pattern) → IsInsideElements d p → IsNormalChoice p
inside_normal zero p h = h.0
inside_normal (suc d) p h = h.0

heads_map : (K J : Pattern → Type 0) → ((y : Pattern) → K y → J y) → (p : Pattern) → HasHeads K p → HasHeads J p
heads_map K J f not_allowed h = tt
heads_map K J f (after x y) h = f y h
heads_map K J f (choice p q) h = (heads_map K J f p h.0, heads_map K J f q h.1)
heads_map K J f p h = absurd h

-- inside elements the rests are normal
pub inside_heads : (d : ℕ) (p : Pattern) → IsInsideElements (suc d) p → HasHeads IsNormalChoice p
inside_heads d p h = heads_map (IsInsideElements d) IsNormalChoice (inside_normal d) p h.1
