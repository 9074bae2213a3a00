-- The choice of many patterns has the members of all: it is told by them.
use Rattle.std.proofs.Common.{◌≡◌, ◌⊎◌, inl, inr, List, [], ◌∷◌, ◌++◌, fold, refl, sym, ◌∙◌, ap, subst}
use Rattle.std.specs.List.{AllByRecursion}
use Rattle.std.specs.declared.cmp.Ordering.{Ordering}
use Rattle.std.specs.declared.cmp.Ordering.TheVariants.{Less, Equal, Greater}
use Rattle.std.specs.Ordering.{match_ordering}
use Rattle.rng_model.specs.Patterns.{Pattern, pattern_cmp}
use Rattle.rng_model.specs.Constructors.{members, of_members, with_member, ascending, choice_of}
use Rattle.rng_model.proofs.Orders.{pattern_cmp-same}
use Rattle.pattern_intern.specs.Ordered.{IsBelow, Ascends, IsOrdered}
use Rattle.pattern_intern.specs.Gathered.{Has, HasMember, choice_of_each}
use Rattle.pattern_intern.proofs.Lists.{has_left, has_right, has_either, all_has}
use Rattle.pattern_intern.proofs.Merging.{under, members_choice, ordered}

behind : {A B C : Type 0} → (B → C) → A ⊎ B → A ⊎ C
behind f (inl h) = inl h
behind f (inr h) = inr (f h)

between : {A B C : Type 0} → A ⊎ B → A ⊎ (C ⊎ B)
between (inl h) = inl h
between (inr h) = inr (inr h)

with_to_by : (p q x : Pattern) (qs : List Pattern) (o : Ordering) → (Has (with_member p qs) x → (p ≡ x) ⊎ Has qs x) → Has (match_ordering o (p ∷ q ∷ qs) (q ∷ qs) (q ∷ with_member p qs)) x → (p ≡ x) ⊎ Has (q ∷ qs) x
with_to_by p q x qs Less f h = h
with_to_by p q x qs Equal f h = inr h
with_to_by p q x qs Greater f (inl e) = inr (inl e)
with_to_by p q x qs Greater f (inr h) = between (f h)

with_to : (p x : Pattern) (qs : List Pattern) → Has (with_member p qs) x → (p ≡ x) ⊎ Has qs x
with_to p x [] h = h
with_to p x (q ∷ qs) h = with_to_by p q x qs (pattern_cmp p q) (with_to p x qs) h

with_from_by : (p q x : Pattern) (qs : List Pattern) (o : Ordering) → pattern_cmp p q ≡ o → ((p ≡ x) ⊎ Has qs x → Has (with_member p qs) x) → (p ≡ x) ⊎ Has (q ∷ qs) x → Has (match_ordering o (p ∷ q ∷ qs) (q ∷ qs) (q ∷ with_member p qs)) x
with_from_by p q x qs Less e f h = h
with_from_by p q x qs Equal e f (inl i) = inl (sym (pattern_cmp-same p q e) ∙ i)
with_from_by p q x qs Equal e f (inr h) = h
with_from_by p q x qs Greater e f (inl i) = inr (f (inl i))
with_from_by p q x qs Greater e f (inr (inl i)) = inl i
with_from_by p q x qs Greater e f (inr (inr h)) = inr (f (inr h))

with_from : (p x : Pattern) (qs : List Pattern) → (p ≡ x) ⊎ Has qs x → Has (with_member p qs) x
with_from p x [] h = h
with_from p x (q ∷ qs) h = with_from_by p q x qs (pattern_cmp p q) refl (with_from p x qs) h

ascending_to : (ps : List Pattern) (x : Pattern) → Has (ascending ps) x → Has ps x
ascending_to [] x h = h
ascending_to (p ∷ ps) x h = behind (ascending_to ps x) (with_to p x (ascending ps) h)

ascending_from : (ps : List Pattern) (x : Pattern) → Has ps x → Has (ascending ps) x
ascending_from [] x h = h
ascending_from (p ∷ ps) x h = with_from p x (ascending ps) (behind (ascending_from ps x) h)

clash : (p q : Pattern) → pattern_cmp p q ≡ Less → pattern_cmp q p ≡ Less → ⊥
clash p q h k = let e = sym k ∙ under p q h in absurd (cc)

heads : (p q : Pattern) (ps qs : List Pattern) → IsBelow p ps → IsBelow q qs → Has (q ∷ qs) p → Has (p ∷ ps) q → p ≡ q
heads p q ps qs b c (inl e) k = sym e
heads p q ps qs b c (inr h) (inl e) = e
heads p q ps qs b c (inr h) (inr k) = absurd (clash p q (all_has (λ y. pattern_cmp p y ≡ Less) ps q b k) (all_has (λ y. pattern_cmp q y ≡ Less) qs p c h))

tail_in : (p q x : Pattern) (ps qs : List Pattern) → p ≡ q → IsBelow p ps → Has ps x → Has (q ∷ qs) x → Has qs x
tail_in p q x ps qs e b h (inl i) = let l = subst (λ y. pattern_cmp p y ≡ Less) (sym (e ∙ i)) (all_has (λ y. pattern_cmp p y ≡ Less) ps x b h) in absurd (clash p p l l)
tail_in p q x ps qs e b h (inr k) = k

-- ascending lists with the same members are one
one_list : (ps qs : List Pattern) → Ascends ps → Ascends qs → ((x : Pattern) → Has ps x → Has qs x) → ((x : Pattern) → Has qs x → Has ps x) → ps ≡ qs
one_list [] [] s t f g = refl
one_list [] (q ∷ qs) s t f g = absurd (g q (inl refl))
one_list (p ∷ ps) [] s t f g = absurd (f p (inl refl))
one_list (p ∷ ps) (q ∷ qs) s t f g =
    let e = heads p q ps qs s.0 t.0 (f p (inl refl)) (g q (inl refl)) in
    let es = one_list ps qs s.1 t.1 (λ x h. tail_in p q x ps qs e s.0 h (f x (inr h))) (λ x h. tail_in q p x qs ps (sym e) t.0 h (g x (inr h))) in (λ i. e i ∷ es i)

module _ (p q x : Pattern) (hp : IsOrdered p) (hq : IsOrdered q) where
  choice_to : Has (members (choice_of p q)) x → Has (members p) x ⊎ Has (members q) x
  choice_to h = has_either (members p) (members q) x (ascending_to (members p ++ members q) x (subst (λ l. Has l x) (members_choice p q hp hq) h))

  joined_in : Has (members p) x ⊎ Has (members q) x → Has (members p ++ members q) x
  joined_in (inl h) = has_left (members p) (members q) x h
  joined_in (inr h) = has_right (members p) (members q) x h

  choice_from : Has (members p) x ⊎ Has (members q) x → Has (members (choice_of p q)) x
  choice_from h = subst (λ l. Has l x) (sym (members_choice p q hp hq)) (ascending_from (members p ++ members q) x (joined_in h))

regroup : {A B C : Type 0} → (A ⊎ B) ⊎ C → A ⊎ (B ⊎ C)
regroup (inl (inl h)) = inl h
regroup (inl (inr h)) = inr (inl h)
regroup (inr h) = inr (inr h)

grouped : {A B C : Type 0} → A ⊎ (B ⊎ C) → (A ⊎ B) ⊎ C
grouped (inl h) = inl (inl h)
grouped (inr (inl h)) = inl (inr h)
grouped (inr (inr h)) = inr h

before : {A B C : Type 0} → (A → B) → A ⊎ C → B ⊎ C
before f (inl h) = inl (f h)
before f (inr h) = inr h

fold_ordered : (p : Pattern) (ps : List Pattern) → IsOrdered p → AllByRecursion IsOrdered ps → IsOrdered (fold choice_of p ps)
fold_ordered p [] h a = h
fold_ordered p (q ∷ qs) h a = fold_ordered (choice_of p q) qs (ordered p q h a.0) a.1

fold_to : (p : Pattern) (ps : List Pattern) (x : Pattern) → IsOrdered p → AllByRecursion IsOrdered ps → Has (members (fold choice_of p ps)) x → Has (members p) x ⊎ HasMember ps x
fold_to p [] x h a m = inl m
fold_to p (q ∷ qs) x h a m = regroup (before (choice_to p q x h a.0) (fold_to (choice_of p q) qs x (ordered p q h a.0) a.1 m))

fold_from : (p : Pattern) (ps : List Pattern) (x : Pattern) → IsOrdered p → AllByRecursion IsOrdered ps → Has (members p) x ⊎ HasMember ps x → Has (members (fold choice_of p ps)) x
fold_from p [] x h a (inl m) = m
fold_from p [] x h a (inr n) = absurd n
fold_from p (q ∷ qs) x h a m = fold_from (choice_of p q) qs x (ordered p q h a.0) a.1 (before (choice_from p q x h a.0) (grouped m))

each_ordered : (ps : List Pattern) → AllByRecursion IsOrdered ps → IsOrdered (choice_of_each ps)
each_ordered [] a = record { whole = refl; ascending = tt; each = tt }
each_ordered (p ∷ ps) a = fold_ordered p ps a.0 a.1

each_to : (ps : List Pattern) (x : Pattern) → AllByRecursion IsOrdered ps → Has (members (choice_of_each ps)) x → HasMember ps x
each_to [] x a h = h
each_to (p ∷ ps) x a h = fold_to p ps x a.0 a.1 h

each_from : (ps : List Pattern) (x : Pattern) → AllByRecursion IsOrdered ps → HasMember ps x → Has (members (choice_of_each ps)) x
each_from [] x a h = h
each_from (p ∷ ps) x a h = fold_from p ps x a.0 a.1 h

-- an ascending list of all members is that of the choice
pub chosen_by : (ts ps : List Pattern) → Ascends ts → AllByRecursion IsOrdered ps → ((x : Pattern) → Has ts x → HasMember ps x) → ((x : Pattern) → HasMember ps x → Has ts x) → of_members ts ≡ choice_of_each ps
chosen_by ts ps s a f g =
    let o = each_ordered ps a in
    ap of_members (one_list ts (members (choice_of_each ps)) s o.ascending (λ x h. each_from ps x a (f x h)) (λ x h. g x (each_to ps x a h))) ∙ o.whole
