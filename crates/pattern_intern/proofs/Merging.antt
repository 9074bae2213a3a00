-- Choices by merging ascending lists.
use Rattle.std.proofs.Common.{◌≡◌, Result, Ok, Err, IfOk, Option, None, Some, IfNone, List, [], ◌∷◌, ◌++◌, refl, sym, ◌∙◌, ap, subst, append-nil}
use Rattle.std.specs.List.{AllByRecursion}
use Rattle.std.specs.declared.cmp.Ordering.{Ordering}
use Rattle.std.specs.declared.cmp.Ordering.TheVariants.{Less, Equal, Greater}
use Rattle.std.specs.Ordering.{match_ordering, ordering_reverse}
use Rattle.rng_model.specs.Patterns.{Pattern, not_allowed, choice, pattern_cmp}
use Rattle.rng_model.specs.Constructors.{members, of_members, with_member, ascending, choice_of}
use Rattle.rng_model.proofs.Orders.{pattern_order, pattern_cmp-same}
use Rattle.pattern_intern.specs.Ordered.{IsMember, IsBelow, Ascends, IsOrdered, MergesLaw, NothingsLaw, OrderedLaw}

pub over : (p q : Pattern) → pattern_cmp p q ≡ Greater → pattern_cmp q p ≡ Less
over p q e = pattern_order.antisymm q p ∙ ap ordering_reverse e

pub under : (p q : Pattern) → pattern_cmp p q ≡ Less → pattern_cmp q p ≡ Greater
under p q e = pattern_order.antisymm q p ∙ ap ordering_reverse e

module _ (K : Pattern → Type 0) where
  all_by : (p q : Pattern) (qs : List Pattern) (o : Ordering) → K p → AllByRecursion K (q ∷ qs) → AllByRecursion K (with_member p qs) → AllByRecursion K (match_ordering o (p ∷ q ∷ qs) (q ∷ qs) (q ∷ with_member p qs))
  all_by p q qs Less h k i = (h, k)
  all_by p q qs Equal h k i = k
  all_by p q qs Greater h k i = (k.0, i)

  all_with : (p : Pattern) (qs : List Pattern) → K p → AllByRecursion K qs → AllByRecursion K (with_member p qs)
  all_with p [] h k = (h, tt)
  all_with p (q ∷ qs) h k = all_by p q qs (pattern_cmp p q) h k (all_with p qs h k.1)

  all_ascending : (ps : List Pattern) → AllByRecursion K ps → AllByRecursion K (ascending ps)
  all_ascending [] h = tt
  all_ascending (p ∷ ps) h = all_with p (ascending ps) h.0 (all_ascending ps h.1)

  all_append : (ps qs : List Pattern) → AllByRecursion K ps → AllByRecursion K qs → AllByRecursion K (ps ++ qs)
  all_append [] qs h k = k
  all_append (p ∷ ps) qs h k = (h.0, all_append ps qs h.1 k)

below_trans : (p q : Pattern) (qs : List Pattern) → pattern_cmp p q ≡ Less → IsBelow q qs → IsBelow p qs
below_trans p q [] e h = tt
below_trans p q (x ∷ qs) e h = (pattern_order.trans p q x e h.0, below_trans p q qs e h.1)

ascends_by : (p q : Pattern) (qs : List Pattern) (o : Ordering) → pattern_cmp p q ≡ o → Ascends (q ∷ qs) → Ascends (with_member p qs) → Ascends (match_ordering o (p ∷ q ∷ qs) (q ∷ qs) (q ∷ with_member p qs))
ascends_by p q qs Less e s t = ((e, below_trans p q qs e s.0), s)
ascends_by p q qs Equal e s t = s
ascends_by p q qs Greater e s t = (all_with (λ y. pattern_cmp q y ≡ Less) p qs (over p q e) s.0, t)

ascends_with : (p : Pattern) (qs : List Pattern) → Ascends qs → Ascends (with_member p qs)
ascends_with p [] s = (tt, tt)
ascends_with p (q ∷ qs) s = ascends_by p q qs (pattern_cmp p q) refl s (ascends_with p qs s.1)

ascends : (ps : List Pattern) → Ascends (ascending ps)
ascends [] = tt
ascends (p ∷ ps) = ascends_with p (ascending ps) (ascends ps)

-- a lesser member comes first, a greater one later
first_in : (p : Pattern) (qs : List Pattern) → IsBelow p qs → with_member p qs ≡ p ∷ qs
first_in p [] h = refl
first_in p (q ∷ qs) h = ap (λ o. match_ordering o (p ∷ q ∷ qs) (q ∷ qs) (q ∷ with_member p qs)) h.0

later_in : (p q : Pattern) (qs : List Pattern) → pattern_cmp q p ≡ Less → with_member p (q ∷ qs) ≡ q ∷ with_member p qs
later_in p q qs e = ap (λ o. match_ordering o (p ∷ q ∷ qs) (q ∷ qs) (q ∷ with_member p qs)) (under q p e)

same_in : (p q : Pattern) (qs : List Pattern) → pattern_cmp p q ≡ Equal → with_member p (q ∷ qs) ≡ q ∷ qs
same_in p q qs e = ap (λ o. match_ordering o (p ∷ q ∷ qs) (q ∷ qs) (q ∷ with_member p qs)) e

fixed : (ps : List Pattern) → Ascends ps → ascending ps ≡ ps
fixed [] s = refl
fixed (p ∷ ps) s = ap (with_member p) (fixed ps s.1) ∙ first_in p ps s.0

-- a member below all comes first, wherever it stands
least : (ps qs : List Pattern) (q : Pattern) → IsBelow q ps → IsBelow q qs → ascending (ps ++ q ∷ qs) ≡ q ∷ ascending (ps ++ qs)
least [] qs q h k = first_in q (ascending qs) (all_ascending (λ y. pattern_cmp q y ≡ Less) qs k)
least (p ∷ ps) qs q h k = ap (with_member p) (least ps qs q h.1 k) ∙ later_in p q (ascending (ps ++ qs)) h.0

pub alone_in : (p : Pattern) → IsMember p → members p ≡ p ∷ []
alone_in not_allowed h = absurd h
alone_in (choice p q) h = absurd h
alone_in p h = refl

pub members_of : (ps : List Pattern) → AllByRecursion IsMember ps → members (of_members ps) ≡ ps
members_of [] h = refl
members_of (p ∷ []) h = alone_in p h.0
members_of (p ∷ q ∷ ps) h = ap (λ z. p ∷ z) (members_of (q ∷ ps) h.1)

module _ (p q : Pattern) (hp : IsOrdered p) (hq : IsOrdered q) where
  each_of : AllByRecursion IsMember (ascending (members p ++ members q))
  each_of = all_ascending IsMember (members p ++ members q) (all_append IsMember (members p) (members q) hp.each hq.each)

  pub members_choice : members (choice_of p q) ≡ ascending (members p ++ members q)
  unfolding choice_of
  members_choice = members_of (ascending (members p ++ members q)) each_of

  below_choice : (x : Pattern) → IsBelow x (members p) → IsBelow x (members q) → IsBelow x (members (choice_of p q))
  below_choice x h k = rw members_choice (all_ascending (λ y. pattern_cmp x y ≡ Less) (members p ++ members q) (all_append (λ y. pattern_cmp x y ≡ Less) (members p) (members q) h k))

pub ordered : OrderedLaw
unfolding choice_of
ordered p q hp hq =
    let e = members_choice p q hp hq in
    record { whole = ap of_members e; ascending = rw e (ascends (members p ++ members q)); each = rw e (each_of p q hp hq) }

nothing : IsOrdered not_allowed
nothing = record { whole = refl; ascending = tt; each = tt }

pub nothings : NothingsLaw
unfolding choice_of
nothings p h = record {
  left = ap of_members (fixed (members p) h.ascending) ∙ h.whole;
  right = ap (λ l. of_members (ascending l)) (append-nil (members p)) ∙ ap of_members (fixed (members p) h.ascending) ∙ h.whole;
}

-- of an ordered list the first is below the others
first_below : (l : List Pattern) (f : Pattern) (o : List Pattern) → l ≡ f ∷ o → Ascends l → IsBelow f o
first_below l f o e s = (subst Ascends e s).0

pub merges : MergesLaw
unfolding choice_of
merges p q f o f' o' hp hq ho ho' sp sq =
    let b = first_below (members p) f (members o) sp.list hp.ascending in
    let b' = first_below (members q) f' (members o') sq.list hq.ascending in
    record {
      less = λ e.
          let c : IsBelow f (members q) = rw sq.list (e, below_trans f f' (members o') e b') in (
            ap (λ l. of_members (ascending (l ++ members q))) sp.list
                ∙ ap of_members (first_in f (ascending (members o ++ members q)) (all_ascending (λ y. pattern_cmp f y ≡ Less) (members o ++ members q) (all_append (λ y. pattern_cmp f y ≡ Less) (members o) (members q) b c)))
                ∙ ap (λ l. of_members (f ∷ l)) (sym (members_choice o q ho hq)),
            below_choice o q ho hq f b c,
          );
      equal = λ e.
          let s = pattern_cmp-same f f' e in
          let c : IsBelow f (members o') = rw s b' in (
            (λ i. of_members (ascending (sp.list i ++ sq.list i)))
                ∙ ap (λ x. of_members (ascending (f ∷ members o ++ x ∷ members o'))) (sym s)
                ∙ ap (λ l. of_members (with_member f l)) (least (members o) (members o') f b c)
                ∙ ap of_members (same_in f f (ascending (members o ++ members o')) (rw (← s) at e))
                ∙ ap (λ l. of_members (f ∷ l)) (sym (members_choice o o' ho ho')),
            below_choice o o' ho ho' f b c,
          );
      greater = λ e.
          let c : IsBelow f' (members p) = rw sp.list (over f f' e, below_trans f' f (members o) (over f f' e) b) in (
            ap (λ l. of_members (ascending (members p ++ l))) sq.list
                ∙ ap of_members (least (members p) (members o') f' c b')
                ∙ ap (λ l. of_members (f' ∷ l)) (sym (members_choice p o' hp ho')),
            below_choice p o' hp ho' f' c b',
          );
    }

-- the same of the trees of a pool that grew
pub step : {x first rest first' rest' : Pattern} → (x ≡ of_members (first ∷ members rest)) × IsBelow first (members rest) → first' ≡ first → rest' ≡ rest → (of_members (first' ∷ members rest') ≡ x) × IsBelow first' (members rest')
step h e f = ((λ i. of_members (e i ∷ members (f i))) ∙ sym h.0, rw (e, f) h.1)

pub if_ok_to : {E I : Type 0} {x y : Pattern} (f : I → Pattern) (r : Result I E) → x ≡ y → IfOk r (λ id. f id ≡ x) → IfOk r (λ id. f id ≡ y)
if_ok_to f (Ok id) e h = h ∙ e
if_ok_to f (Err x) e h = tt

pub none_is : {X A : Type 0} (r : Option X) → r ≡ None → IfNone r A → A
none_is None e h = h
none_is (Some x) e h = absurd (cc)
