-- What holds of a choice exactly when it holds of a member, or of each member, holds so of a choice that is made.
use Rattle.std.proofs.Common.{◌≡◌, refl, ◌⊎◌, inl, inr, List, [], ◌∷◌, ◌++◌, ◌∙◌, ap}
use Rattle.std.specs.declared.cmp.Ordering.{Ordering}
use Rattle.std.specs.declared.cmp.Ordering.TheVariants.{Less, Equal, Greater}
use Rattle.std.specs.Ordering.{match_ordering, ordering_reverse}
use Rattle.std.specs.List.{AllByRecursion}
use Rattle.std.specs.List.Sorted.{IsStrictlySortedBy}
use Rattle.rng_model.specs.Patterns.{Pattern, not_allowed, choice, pattern_cmp}
use Rattle.rng_model.specs.Constructors.{members, of_members, with_member, ascending, choice_of}
use Rattle.rng_model.proofs.Orders.{pattern_order}
use Rattle.derivative_laws.specs.Choices.{IsMember}
use Rattle.derivative_laws.proofs.Members.{all-append}
use Rattle.derivative_laws.proofs.Constructed.{Some_of, ascending_to, ascending_from}

-- a pattern that can be a member is a list of one
pub member_alone : (p : Pattern) → IsMember p → members p ≡ p ∷ []
member_alone not_allowed h = absurd h
member_alone (choice p q) h = absurd h
member_alone p h = refl

-- P holds of a choice exactly when it holds of a part
pub record IsSome_of (P : Pattern → Type 0) : Type 0 where
  pub never : P not_allowed → ⊥
  pub to : (p q : Pattern) → P (choice p q) → P p ⊎ P q
  pub from : (p q : Pattern) → P p ⊎ P q → P (choice p q)

module _ (P : Pattern → Type 0) (is : IsSome_of P) where
  of_to : (ps : List Pattern) → P (of_members ps) → Some_of P ps
  of_to [] h = is.never h
  of_to (p ∷ []) h = inl h
  of_to (p ∷ q ∷ ps) h = go (of_to (q ∷ ps)) (is.to p (of_members (q ∷ ps)) h)
    where
      go : (P (of_members (q ∷ ps)) → Some_of P (q ∷ ps)) → P p ⊎ P (of_members (q ∷ ps)) → Some_of P (p ∷ q ∷ ps)
      go again (inl h) = inl h
      go again (inr h) = inr (again h)

  of_from : (ps : List Pattern) → Some_of P ps → P (of_members ps)
  of_from [] h = absurd h
  of_from (p ∷ []) (inl h) = h
  of_from (p ∷ []) (inr h) = absurd h
  of_from (p ∷ q ∷ ps) (inl h) = is.from _ _ (inl h)
  of_from (p ∷ q ∷ ps) (inr h) = is.from _ _ (inr (of_from (q ∷ ps) h))

  in_to : (p : Pattern) → Some_of P (members p) → P p
  in_to not_allowed h = absurd h
  in_to (choice p q) (inl h) = is.from p q (inl h)
  in_to (choice p q) (inr h) = is.from p q (inr (in_to q h))
  in_to p (inl h) = h
  in_to p (inr h) = absurd h

  in_from : (p : Pattern) → P p → Some_of P (members p)
  in_from not_allowed h = is.never h
  in_from (choice p q) h = go (in_from q) (is.to p q h)
    where
      go : (P q → Some_of P (members q)) → P p ⊎ P q → P p ⊎ Some_of P (members q)
      go again (inl h) = inl h
      go again (inr h) = inr (again h)
  in_from p h = inl h

  pub choice_of-to : (p q : Pattern) → P (choice_of p q) → P p ⊎ P q
  unfolding choice_of
  choice_of-to p q h = go (ascending_to P (members p) (members q) (of_to _ h))
    where
      go : Some_of P (members p) ⊎ Some_of P (members q) → P p ⊎ P q
      go (inl h) = inl (in_to p h)
      go (inr h) = inr (in_to q h)

  pub choice_of-from : (p q : Pattern) → P p ⊎ P q → P (choice_of p q)
  unfolding choice_of
  choice_of-from p q h = of_from _ (ascending_from P (members p) (members q) (go h))
    where
      go : P p ⊎ P q → Some_of P (members p) ⊎ Some_of P (members q)
      go (inl h) = inl (in_from p h)
      go (inr h) = inr (in_from q h)

-- what holds of each pattern of a list holds of each when they are put in order
module _ (P : Pattern → Type 0) where
  all_by_order : (p q : Pattern) (qs : List Pattern) (o : Ordering) → P p → AllByRecursion P (q ∷ qs) → AllByRecursion P (with_member p qs) →
      AllByRecursion P (match_ordering o (p ∷ q ∷ qs) (q ∷ qs) (q ∷ with_member p qs))
  all_by_order p q qs Less h k i = (h, k)
  all_by_order p q qs Equal h k i = k
  all_by_order p q qs Greater h k i = (k.0, i)

  pub all_with : (p : Pattern) (qs : List Pattern) → P p → AllByRecursion P qs → AllByRecursion P (with_member p qs)
  all_with p [] h k = (h, tt)
  all_with p (q ∷ qs) h k = all_by_order p q qs (pattern_cmp p q) h k (all_with p qs h k.1)

  pub all_ordered : (ps : List Pattern) → AllByRecursion P ps → AllByRecursion P (ascending ps)
  all_ordered [] h = h
  all_ordered (p ∷ ps) h = all_with p (ascending ps) h.0 (all_ordered ps h.1)

-- in order they ascend
all_less : (p q : Pattern) (qs : List Pattern) → pattern_cmp p q ≡ Less → AllByRecursion (λ y. pattern_cmp q y ≡ Less) qs → AllByRecursion (λ y. pattern_cmp p y ≡ Less) qs
all_less p q [] e h = tt
all_less p q (x ∷ qs) e h = (pattern_order.trans p q x e h.0, all_less p q qs e h.1)

sorted_by_order : (p q : Pattern) (qs : List Pattern) (o : Ordering) → pattern_cmp p q ≡ o → IsStrictlySortedBy pattern_cmp (q ∷ qs) → IsStrictlySortedBy pattern_cmp (with_member p qs) →
    IsStrictlySortedBy pattern_cmp (match_ordering o (p ∷ q ∷ qs) (q ∷ qs) (q ∷ with_member p qs))
unfolding IsStrictlySortedBy
sorted_by_order p q qs Less e s t = ((e, all_less p q qs e s.0), s)
sorted_by_order p q qs Equal e s t = s
sorted_by_order p q qs Greater e s t =
    (all_with (λ y. pattern_cmp q y ≡ Less) p qs (pattern_order.antisymm q p ∙ ap ordering_reverse e) s.0, t)

sorted_with : (p : Pattern) (qs : List Pattern) → IsStrictlySortedBy pattern_cmp qs → IsStrictlySortedBy pattern_cmp (with_member p qs)
unfolding IsStrictlySortedBy
sorted_with p [] s = (tt, tt)
sorted_with p (q ∷ qs) s = sorted_by_order p q qs (pattern_cmp p q) refl s (sorted_with p qs s.1)

pub sorted_ordered : (ps : List Pattern) → IsStrictlySortedBy pattern_cmp (ascending ps)
unfolding IsStrictlySortedBy
sorted_ordered [] = tt
sorted_ordered (p ∷ ps) = sorted_with p (ascending ps) (sorted_ordered ps)

-- P holds of a choice where it holds of each part, and of its parts where it holds of it
pub record IsAll_of (P : Pattern → Type 0) : Type 0 where
  pub always : P not_allowed
  pub first : (p q : Pattern) → P (choice p q) → P p
  pub second : (p q : Pattern) → P (choice p q) → P q
  pub from : (p q : Pattern) → P p → P q → P (choice p q)

module _ (P : Pattern → Type 0) (is : IsAll_of P) where
  all_of : (ps : List Pattern) → AllByRecursion P ps → P (of_members ps)
  all_of [] h = is.always
  all_of (p ∷ []) h = h.0
  all_of (p ∷ q ∷ ps) h = is.from _ _ h.0 (all_of (q ∷ ps) h.1)

  all_in : (p : Pattern) → P p → AllByRecursion P (members p)
  all_in not_allowed h = tt
  all_in (choice p q) h = (is.first p q h, all_in q (is.second p q h))
  all_in p h = (h, tt)

  pub choice_of-all : (p q : Pattern) → P p → P q → P (choice_of p q)
  unfolding choice_of
  choice_of-all p q h k = all_of _ (all_ordered P (members p ++ members q) (all-append P (members p) (members q) (all_in p h) (all_in q k)))
