-- The state after the codes of a hedge has the pattern that the hedge leads to.
use Rattle.std.proofs.Common.{◌≡◌, ℕ, zero, suc, ◌+◌, ◌<◌, ◌≤◌, ◌↔◌, List, [], ◌∷◌, ◌++◌, map, refl, sym, ◌∙◌, ap, true, false, not, IsTrue, Some, slice_get, arith, rules, get_or, nat_le}
use Rattle.std.specs.Prelude.{⊤}
use Rattle.std.specs.List.{AllByRecursion}
use Rattle.std.specs.List.Sorted.{IsStrictlySortedBy}
use Rattle.std.specs.declared.cmp.Ordering.TheVariants.{Less}
use Rattle.std.specs.Ordering.{ordering_reverse}
use Rattle.std.proofs.lemmas.Option.{get_or_from_slice_get}
use Rattle.rng_model.specs.Texts.{Text, is_white}
use Rattle.rng_model.specs.Names.{Name, name_cmp}
use Rattle.rng_model.specs.Patterns.{Pattern, Schema}
use Rattle.rng_model.specs.Hedges.{none, Hedge, Attributes, Attribute, AreChildren, AreAttributes, BeginsWithText, Skeleton, IsSkeleton, document}
use Rattle.rng_model.specs.Hedges as hedge
use Rattle.rng_model.specs.Events.{Event, hedge_events, events}
use Rattle.rng_model.specs.Events as event
use Rattle.rng_model.specs.Universe.{Lists}
use Rattle.rng_model.specs.Matching.{nullable, MatchesDocument}
use Rattle.rng_model.specs.Derivatives.{where_true, text_step, attribute_step, opening, close, ending}
use Rattle.rng_model.specs.Codes.{Code, AreCodes}
use Rattle.rng_model.specs.States.{Place, Tag, Fresh, AfterText, AfterElement, State, step, steps, after_codes, no_name}
use Rattle.rng_model.specs.Restrictions.{BreaksNoRule}
use Rattle.rng_model.proofs.Orders.{name_order}
use Rattle.derivative_laws.proofs.DocumentLaw.{run, leave, enter, take_attributes, document_law}
use Rattle.derivative_laws.proofs.Soundness.{sound_contents}

-- codes of two lists in a row
record Cut (u : Lists) (xs ys : List Event) (cs : List Code) : Type 0 where
  front : List Code
  back : List Code
  is : cs ≡ front ++ back
  first : AreCodes u xs front
  second : AreCodes u ys back

cut : (u : Lists) (xs ys : List Event) (cs : List Code) → AreCodes u (xs ++ ys) cs → Cut u xs ys cs
cut u [] ys cs h = record { front = []; back = cs; is = refl; first = tt; second = h }
cut u (x ∷ xs) ys [] h = absurd h
cut u (x ∷ xs) ys (c ∷ cs) h =
    let t = cut u xs ys cs h.1 in
    record { front = c ∷ t.front; back = t.back; is = ap (λ z. c ∷ z) t.is; first = (h.0, t.first); second = t.second }

-- of names in an ascending list the lesser stands first
below_itself : (n : Name) → name_cmp n n ≡ Less → ⊥
below_itself n e = let r = name_order.antisymm n n in absurd (let f : Less ≡ ordering_reverse Less = sym e ∙ r ∙ ap ordering_reverse e in cc)

below_both : (m n : Name) → name_cmp m n ≡ Less → name_cmp n m ≡ Less → ⊥
below_both m n e f = let r = name_order.antisymm m n in let h : Less ≡ ordering_reverse Less = sym e ∙ r ∙ ap ordering_reverse f in absurd (cc)

all_at : (P : Name → Type 0) (xs : List Name) (i : ℕ) (n : Name) → AllByRecursion P xs → slice_get xs i ≡ Some n → P n
all_at P [] i n h e = absurd (cc)
all_at P (x ∷ xs) zero n h e = let f : x ≡ n = cc in rw f at (h.0)
all_at P (x ∷ xs) (suc i) n h e = all_at P xs i n h.1 e

position_less : (xs : List Name) (i j : ℕ) (m n : Name) → IsStrictlySortedBy name_cmp xs → slice_get xs i ≡ Some m → slice_get xs j ≡ Some n → name_cmp m n ≡ Less → i < j
unfolding IsStrictlySortedBy
position_less [] i j m n s e f l = absurd (cc)
position_less (x ∷ xs) zero zero m n s e f l = let h : m ≡ n = cc in absurd (below_itself n (rw h at l))
position_less (x ∷ xs) zero (suc j) m n s e f l = omega arith
position_less (x ∷ xs) (suc i) zero m n s e f l =
    let h = all_at (λ y. name_cmp x y ≡ Less) xs i m s.0 e in
    let k : x ≡ n = cc in
    absurd (below_both m n l (rw k at h))
position_less (x ∷ xs) (suc i) (suc j) m n s e f l = let h = position_less xs i j m n s.1 e f l in omega arith

module _ (g : Schema) (u : Lists) where
  at : Place → Pattern → State
  at pl v = record { place = pl; pattern = v }

  steps-append : (s : State) (cs ds : List Code) → steps g u s (cs ++ ds) ≡ steps g u (steps g u s cs) ds
  steps-append s [] ds = refl
  steps-append s (c ∷ cs) ds = steps-append (step g u s c) cs ds

  -- the attributes stand behind the tag
  abbrev AreBehind : ℕ → Attributes → Type 0
  AreBehind k a = AllByRecursion (λ x. (j : ℕ) → slice_get u.attributes j ≡ Some x.0 → k ≤ j) a

  attributes_behind : IsStrictlySortedBy name_cmp u.attributes → (n : Name) (j : ℕ) → slice_get u.attributes j ≡ Some n → (a : Attributes) →
      AllByRecursion (λ y. name_cmp n y ≡ Less) (map (λ x. x.0) a) → AreBehind (j + 1) a
  attributes_behind sorted n j e [] h = tt
  attributes_behind sorted n j e (x ∷ a) h =
      (λ i f. let l = position_less u.attributes j i n x.0 sorted e f h.0 in omega arith, attributes_behind sorted n j e a h.1)

  record Tagged (v : Pattern) (cs : List Code) (a : Attributes) (k : ℕ) : Type 0 where
    tag : ℕ
    is : steps g u (record { place = Tag k; pattern = v }) cs ≡ record { place = Tag tag; pattern = take_attributes g a v }

  le_true : (k j : ℕ) → k ≤ j → nat_le k j ≡ true
  le_true k j h = search (rules)

  tag_law : IsStrictlySortedBy name_cmp u.attributes → (a : Attributes) (k : ℕ) (v : Pattern) (cs : List Code) →
      IsStrictlySortedBy name_cmp (map (λ x. x.0) a) → AreBehind k a → AreCodes u (map (λ x. event.Attr x.0 x.1) a) cs → Tagged v cs a k
  unfolding IsStrictlySortedBy
  tag_law sorted [] k v [] s b h = record { tag = k; is = refl }
  tag_law sorted [] k v (c ∷ cs) s b h = absurd h
  tag_law sorted (x ∷ a) k v [] s b h = absurd h
  tag_law sorted (x ∷ a) k v (Code.Attr j t ∷ cs) s b h =
      let name : get_or u.attributes j no_name ≡ x.0 = get_or_from_slice_get u.attributes j x.0 no_name h.0.0 in
      let atom : get_or u.atoms t [] ≡ x.1 = get_or_from_slice_get u.atoms t x.1 [] h.0.1 in
      let tag : nat_le k j ≡ true = le_true k j (b.0 j h.0.0) in
      let rest = tag_law sorted a (j + 1) (attribute_step x.0 x.1 v) cs s.1 (attributes_behind sorted x.0 j h.0.0 a s.0) h.1 in
      let first : step g u (record { place = Tag k; pattern = v }) (Code.Attr j t) ≡ record { place = Tag (j + 1); pattern = attribute_step x.0 x.1 v } =
      (λ i. record { place = Tag (j + 1); pattern = where_true (tag i) (attribute_step (name i) (atom i) v) }) in
      record { tag = rest.tag; is = ap (λ z. steps g u z cs) first ∙ rest.is }
  tag_law sorted (x ∷ a) k v (Code.Opening i ∷ cs) s b h = absurd h.0
  tag_law sorted (x ∷ a) k v (Code.Body ∷ cs) s b h = absurd h.0
  tag_law sorted (x ∷ a) k v (Code.Chars i ∷ cs) s b h = absurd h.0
  tag_law sorted (x ∷ a) k v (Code.Closing ∷ cs) s b h = absurd h.0

  pub place_after : Hedge → Place → Place
  place_after none pl = pl
  place_after (hedge.text t rest) pl = place_after rest AfterText
  place_after (hedge.element n a k rest) pl = place_after rest AfterElement

  -- a hedge may begin at the place
  abbrev pub MayBegin : Place → Hedge → Type 0
  MayBegin (Tag k) m = ⊥
  MayBegin Fresh m = ⊤
  MayBegin AfterText m = BeginsWithText m → ⊥
  MayBegin AfterElement m = ⊤

  -- a text
  say : (pl : Place) (t : Text) (rest : Hedge) (v : Pattern) (s : ℕ) → MayBegin pl (hedge.text t rest) → is_white t ≡ false → slice_get u.atoms s ≡ Some t →
      step g u (record { place = pl; pattern = v }) (Code.Chars s) ≡ record { place = AfterText; pattern = text_step t v }
  say (Tag k) t rest v s b ink e = absurd b
  say Fresh t rest v s b ink e =
      let atom : get_or u.atoms s [] ≡ t = get_or_from_slice_get u.atoms s t [] e in
      ap (λ x. record { place = AfterText; pattern = where_true (not (is_white x)) (text_step x v) }) atom ∙ (λ i. record { place = AfterText; pattern = where_true (not (ink i)) (text_step t v) })
  say AfterText t rest v s b ink e = absurd (b tt)
  say AfterElement t rest v s b ink e =
      let atom : get_or u.atoms s [] ≡ t = get_or_from_slice_get u.atoms s t [] e in
      ap (λ x. record { place = AfterText; pattern = where_true (not (is_white x)) (text_step x v) }) atom ∙ (λ i. record { place = AfterText; pattern = where_true (not (ink i)) (text_step t v) })

  -- an opening
  begin : (pl : Place) (m : Hedge) (n : Name) (v : Pattern) (i : ℕ) → MayBegin pl m → slice_get u.elements i ≡ Some n →
      step g u (record { place = pl; pattern = v }) (Code.Opening i) ≡ record { place = Tag 0; pattern = opening g n v }
  begin (Tag k) m n v i b e = absurd b
  begin Fresh m n v i b e = ap (λ x. record { place = Tag 0; pattern = opening g x v }) (get_or_from_slice_get u.elements i n no_name e)
  begin AfterText m n v i b e = ap (λ x. record { place = Tag 0; pattern = opening g x v }) (get_or_from_slice_get u.elements i n no_name e)
  begin AfterElement m n v i b e = ap (λ x. record { place = Tag 0; pattern = opening g x v }) (get_or_from_slice_get u.elements i n no_name e)

  -- the end of an element that is read
  abbrev end_at : Place → Pattern → State
  end_at pl v = step g u (record { place = pl; pattern = v }) Code.Closing

  end_read : (m : Hedge) (v : Pattern) → (end_at (place_after m AfterText) v ≡ record { place = AfterElement; pattern = ending v }) × (end_at (place_after m AfterElement) v ≡ record { place = AfterElement; pattern = ending v })
  unfolding place_after
  end_read none v = (refl, refl)
  end_read (hedge.text t rest) v = ((end_read rest v).0, (end_read rest v).0)
  end_read (hedge.element n a k rest) v = ((end_read rest v).1, (end_read rest v).1)

  end_law : (k : Hedge) (v : Pattern) → end_at (place_after k Fresh) (run g k v) ≡ record { place = AfterElement; pattern = leave g k v }
  unfolding place_after
  end_law none v = refl
  end_law (hedge.text t rest) v = (end_read rest _).0
  end_law (hedge.element n a k rest) v = (end_read rest _).1

  after_text : (rest : Hedge) → (BeginsWithText rest → ⊥) → MayBegin AfterText rest
  after_text rest f = f

  abbrev pub CodesLaw : Hedge → Type 0
  CodesLaw m = (pl : Place) (v : Pattern) (cs : List Code) → MayBegin pl m → AreCodes u (hedge_events m) cs →
      steps g u (record { place = pl; pattern = v }) cs ≡ record { place = place_after m pl; pattern = run g m v }

  text_codes : (t : Text) (rest : Hedge) → is_white t ≡ false → (BeginsWithText rest → ⊥) → CodesLaw rest → CodesLaw (hedge.text t rest)
  unfolding place_after
  text_codes t rest ink apart law pl v [] b h = absurd h
  text_codes t rest ink apart law pl v (Code.Chars s ∷ cs) b h =
      ap (λ z. steps g u z cs) (say pl t rest v s b ink h.0) ∙ law AfterText (text_step t v) cs apart h.1
  text_codes t rest ink apart law pl v (Code.Opening i ∷ cs) b h = absurd h.0
  text_codes t rest ink apart law pl v (Code.Attr i s ∷ cs) b h = absurd h.0
  text_codes t rest ink apart law pl v (Code.Body ∷ cs) b h = absurd h.0
  text_codes t rest ink apart law pl v (Code.Closing ∷ cs) b h = absurd h.0

  -- an opening and its attributes
  open_codes : IsStrictlySortedBy name_cmp u.attributes → (n : Name) (a : Attributes) → AreAttributes a → (m : Hedge) (pl : Place) (v : Pattern) (cs : List Code) → MayBegin pl m →
      AreCodes u (event.Opening n ∷ map (λ x. event.Attr x.0 x.1) a) cs → (tag : ℕ) × (steps g u (record { place = pl; pattern = v }) cs ≡ record { place = Tag tag; pattern = take_attributes g a (opening g n v) })
  open_codes sorted n a is m pl v [] b h = absurd h
  open_codes sorted n a is m pl v (Code.Opening i ∷ cs) b h =
      let t = tag_law sorted a 0 (opening g n v) cs is.ascending (zero_behind a) h.1 in
      (t.tag, ap (λ z. steps g u z cs) (begin pl m n v i b h.0) ∙ t.is)
    where
      zero_behind : (a : Attributes) → AreBehind 0 a
      zero_behind [] = tt
      zero_behind (x ∷ a) = (λ j e. omega arith, zero_behind a)
  open_codes sorted n a is m pl v (Code.Attr i s ∷ cs) b h = absurd h.0
  open_codes sorted n a is m pl v (Code.Body ∷ cs) b h = absurd h.0
  open_codes sorted n a is m pl v (Code.Chars s ∷ cs) b h = absurd h.0
  open_codes sorted n a is m pl v (Code.Closing ∷ cs) b h = absurd h.0

  body_codes : (k : Hedge) → CodesLaw k → (tag : ℕ) (v : Pattern) (cs : List Code) → AreCodes u (event.Body ∷ hedge_events k) cs →
      steps g u (record { place = Tag tag; pattern = v }) cs ≡ record { place = place_after k Fresh; pattern = run g k (close v) }
  body_codes k law tag v [] h = absurd h
  body_codes k law tag v (Code.Body ∷ cs) h = law Fresh (close v) cs tt h.1
  body_codes k law tag v (Code.Opening i ∷ cs) h = absurd h.0
  body_codes k law tag v (Code.Attr i s ∷ cs) h = absurd h.0
  body_codes k law tag v (Code.Chars s ∷ cs) h = absurd h.0
  body_codes k law tag v (Code.Closing ∷ cs) h = absurd h.0

  closing_codes : (k rest : Hedge) → CodesLaw rest → (v : Pattern) (cs : List Code) → AreCodes u (event.Closing ∷ hedge_events rest) cs →
      steps g u (record { place = place_after k Fresh; pattern = run g k v }) cs ≡ record { place = place_after rest AfterElement; pattern = run g rest (leave g k v) }
  closing_codes k rest law v [] h = absurd h
  closing_codes k rest law v (Code.Closing ∷ cs) h = ap (λ z. steps g u z cs) (end_law k v) ∙ law AfterElement (leave g k v) cs tt h.1
  closing_codes k rest law v (Code.Opening i ∷ cs) h = absurd h.0
  closing_codes k rest law v (Code.Attr i s ∷ cs) h = absurd h.0
  closing_codes k rest law v (Code.Body ∷ cs) h = absurd h.0
  closing_codes k rest law v (Code.Chars s ∷ cs) h = absurd h.0

  pub codes_law : IsStrictlySortedBy name_cmp u.attributes → (m : Hedge) → AreChildren m → CodesLaw m
  unfolding place_after
  codes_law sorted none c pl v [] b h = refl
  codes_law sorted none c pl v (x ∷ cs) b h = absurd h
  codes_law sorted (hedge.text t rest) c pl v cs b h = text_codes t rest c.1 c.2 (codes_law sorted rest c.3) pl v cs b h
  codes_law sorted (hedge.element n a k rest) c pl v cs b h =
      let outer = cut u ((event.Opening n ∷ map (λ x. event.Attr x.0 x.1) a) ++ (event.Body ∷ hedge_events k)) (event.Closing ∷ hedge_events rest) cs h in
      let inner = cut u (event.Opening n ∷ map (λ x. event.Attr x.0 x.1) a) (event.Body ∷ hedge_events k) outer.front outer.first in
      let first = open_codes sorted n a c.1 (hedge.element n a k rest) pl v inner.front b inner.first in
      let second = body_codes k (codes_law sorted k c.2) first.0 (take_attributes g a (opening g n v)) inner.back inner.second in
      let third = closing_codes k rest (codes_law sorted rest c.3) (enter g n a v) outer.back outer.second in
      ap (λ z. steps g u (record { place = pl; pattern = v }) z) (outer.is ∙ ap (λ z. z ++ outer.back) inner.is)
      ∙ steps-append (record { place = pl; pattern = v }) (inner.front ++ inner.back) outer.back
      ∙ ap (λ z. steps g u z outer.back) (steps-append (record { place = pl; pattern = v }) inner.front inner.back ∙ ap (λ z. steps g u z inner.back) first.1 ∙ second)
      ∙ third

-- Where no rule is broken, a skeleton over the lists matches exactly when the pattern after its codes is nullable.
pub acceptance : (g : Schema) (u : Lists) → BreaksNoRule g → IsStrictlySortedBy name_cmp u.attributes → (s : Skeleton) → IsSkeleton s → (cs : List Code) → AreCodes u (events s) cs →
    MatchesDocument g s ↔ IsTrue (nullable (after_codes g u cs).pattern)
acceptance g u unbroken sorted s is cs h =
    let law = document_law g (sound_contents g unbroken) s is in
    let run_is = codes_law g u sorted (document s) (is.name, is.attributes, is.children, tt) Fresh g.start cs tt h in
    let pattern_is = ap (λ z. nullable z.pattern) run_is in
    (λ m. pattern_is ∙ law.0 m, λ n. law.1 (sym pattern_is ∙ n))
