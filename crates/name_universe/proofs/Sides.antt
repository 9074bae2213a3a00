-- The names on one side of a class, split off one after another.
use Rattle.std.proofs.Common.{◌≡◌, ℕ, zero, suc, ◌+◌, ◌<◌, ◌≤◌, ◌⊎◌, inl, inr, ◌↔◌, Bool, true, false, ◌||◌, List, [], ◌∷◌, ◌++◌, length, slice_get, Some, refl, sym, ◌∙◌, ap, subst, arith, true≢false, get_or, Contains}
use Rattle.std.specs.List.{All}
use Rattle.std.specs.BTreeMap.Range.{IsLtBy}
use Rattle.std.specs.declared.cmp.Ordering.TheVariants.{Less, Equal}
use Rattle.std.specs.Cmp.{tied_itself}
use Rattle.std.proofs.lemmas.Option.{slice_get_within}
use Rattle.std.proofs.lemmas.List.Elements.{Contains-append_left, Contains-append_right, Contains-append_cases}
use Rattle.rng_model.specs.Names.{Name, name_cmp, same_name}
use Rattle.rng_model.specs.Classes.{Class, any, any_except, namespace, namespace_except, one, either, in_class, is_infinite}
use Rattle.rng_model.proofs.Orders.{name_order}
use Rattle.universe_laws.specs.Overlaps.{names_in}
use Rattle.universe_laws.proofs.OverlapLaw.{refuse_name}
use Rattle.universe_laws.proofs.Tests.{one_name}
use Rattle.text_atoms.proofs.Members.{member_first, member_later, member_cases, member_none}
use Rattle.text_atoms.proofs.Words.{by_test}
use Rattle.name_universe.specs.declared.split.Split.{Split}
use Rattle.name_universe.specs.Sets.{Adds}
use Rattle.name_universe.specs.Partitions.{AreSplit, IsOnSide}
use Rattle.name_universe.proofs.Gathering.{earlier_or_this}
use Rattle.name_universe.proofs.Splitting.{split_none, split_as, split_then}

same_some : {X : Type 0} (x y : X) → Some x ≡ Some y → x ≡ y
same_some x y e = cc

-- ---- each position in turn
abbrev pub IsBelow : List Name → Class → ℕ → ℕ → Type 0
IsBelow names x p i = (i < p) × IsOnSide names x false i

pub below_none : (names : List Name) (x : Class) (k : ℕ) (was : List ℕ) (had : List Split) → AreSplit (IsBelow names x 0) k was was had had
below_none names x k was had = split_as (λ i. ⊥) (IsBelow names x 0) k was was had had (λ i e. absurd e) (λ i e. (let l = e.0 in omega (arith, l))) (split_none k was had)

pub below_more : (names : List Name) (x : Class) (p : ℕ) (n : Name) → slice_get names p ≡ Some n → (k : ℕ) (was mid now : List ℕ) (had between has : List Split) → AreSplit (IsBelow names x p) k was mid had between →
    AreSplit (λ i. (i ≡ p) × (in_class n x ≡ false)) k mid now between has → AreSplit (IsBelow names x (p + 1)) k was now had has
below_more names x p n at k was mid now had between has g h =
    split_as (λ i. IsBelow names x p i ⊎ ((i ≡ p) × (in_class n x ≡ false))) (IsBelow names x (p + 1)) k was now had has to from
    (split_then (IsBelow names x p) (λ i. (i ≡ p) × (in_class n x ≡ false)) k was mid now had between has g h (λ i e f. (let l = e.0 in let m = f.0 in omega (arith, l, m))))
  where
    to : (i : ℕ) → IsBelow names x p i ⊎ ((i ≡ p) × (in_class n x ≡ false)) → IsBelow names x (p + 1) i
    to i (inl (l, on)) = (omega (arith, l), on)
    to i (inr (e, f)) = (omega (arith, e), (n, ap (slice_get names) e ∙ at, f))

    from : (i : ℕ) → IsBelow names x (p + 1) i → IsBelow names x p i ⊎ ((i ≡ p) × (in_class n x ≡ false))
    from i (l, (m, there, f)) = elim (earlier_or_this i p l) [
      | inl less ↦ inl (less, (m, there, f))
      | inr e ↦ inr (e, subst (λ (z : Name). in_class z x ≡ false) (same_some m n (sym there ∙ ap (slice_get names) e ∙ at)) f)
    ]

pub below_all : (names : List Name) (x : Class) (p : ℕ) → length names ≤ p → (k : ℕ) (was now : List ℕ) (had has : List Split) → AreSplit (IsBelow names x p) k was now had has →
    AreSplit (IsOnSide names x false) k was now had has
below_all names x p long k was now had has =
    split_as (IsBelow names x p) (IsOnSide names x false) k was now had has (λ i e. e.1)
    (λ i e. (let (n, at, f) = e in (let l = slice_get_within names i n at in omega (arith, l, long), e)))

-- ---- each name that stands in the class in turn
members_to : (x : Class) → is_infinite x ≡ false → (n : Name) → in_class n x ≡ true → Contains (names_in x) n
members_to any f n h = absurd (true≢false f)
members_to (any_except c) f n h = absurd (true≢false f)
members_to (namespace u) f n h = absurd (true≢false f)
members_to (namespace_except u c) f n h = absurd (true≢false f)
members_to (one m) f n h = subst (Contains (m ∷ [])) (sym (one_name n m h)) (member_first m [])
members_to (either a b) f n h = by_test (is_infinite a)
    (λ e. absurd (true≢false (sym (ap (λ (z : Bool). z || is_infinite b) e) ∙ f)))
    (λ e. by_test (in_class n a)
    (λ g. Contains-append_left (names_in a) (names_in b) n (members_to a e n g))
    (λ g. Contains-append_right (names_in a) (names_in b) n (members_to b (sym (ap (λ (z : Bool). z || is_infinite b) e) ∙ f) n (sym (ap (λ (z : Bool). z || in_class n b) g) ∙ h))))

same_itself : (n m : Name) → m ≡ n → same_name n m ≡ true
same_itself n m e = by_test (same_name n m) (λ h. h) (λ h. absurd (refuse_name n m h (sym e)))

or_right : (a b : Bool) → b ≡ true → (a || b) ≡ true
or_right true b e = refl
or_right false b e = e

members_from : (x : Class) → is_infinite x ≡ false → (n : Name) → Contains (names_in x) n → in_class n x ≡ true
members_from any f n h = absurd (true≢false f)
members_from (any_except c) f n h = absurd (true≢false f)
members_from (namespace u) f n h = absurd (true≢false f)
members_from (namespace_except u c) f n h = absurd (true≢false f)
members_from (one m) f n h = elim (member_cases m n [] h) [ inl e ↦ same_itself n m e | inr k ↦ absurd (member_none n k) ]
members_from (either a b) f n h = by_test (is_infinite a)
    (λ e. absurd (true≢false (sym (ap (λ (z : Bool). z || is_infinite b) e) ∙ f)))
    (λ e. elim (Contains-append_cases (names_in a) (names_in b) n h) [
      | inl k ↦ ap (λ (z : Bool). z || in_class n b) (members_from a e n k)
      | inr k ↦ or_right (in_class n a) (in_class n b) (members_from b (sym (ap (λ (z : Bool). z || is_infinite b) e) ∙ f) n k)
    ])

-- a name that stands in the class, and isn't left
abbrev pub IsDone : List Name → Class → List Name → ℕ → Type 0
IsDone names x left i = (n : Name) × (slice_get names i ≡ Some n) × Contains (names_in x) n × (Contains left n → ⊥)

pub record IsTaking (names : List Name) (x : Class) (left : List Name) (k : ℕ) (was : List ℕ) (now : List ℕ) (had : List Split) (has : List Split) : Type 0 where
  pub standing : (n : Name) → Contains left n → Contains (names_in x) n
  pub are : AreSplit (IsDone names x left) k was now had has

pub taking_none : (names : List Name) (x : Class) (old left : List Name) → old ≡ [] → Adds Name old left (names_in x) → (k : ℕ) (was : List ℕ) (had : List Split) → IsTaking names x left k was was had had
taking_none names x old left none a k was had = record {
  standing = λ n h. elim ((a.each n).0 h) [ inl j ↦ absurd (member_none n (subst (λ (ys : List Name). Contains ys n) none j)) | inr j ↦ j ];
  are = split_as (λ i. ⊥) (IsDone names x left) k was was had had (λ i e. absurd e) (λ i (n, at, m, f). f ((a.each n).1 (inr m))) (split_none k was had);
}

above : (m : Name) (rest : List Name) → All (IsLtBy name_cmp m) rest → Contains rest m → ⊥
above m rest all (j, below, is) =
    let less : name_cmp m (get_or rest j m) ≡ Less = all j m below in
    let clash : Equal ≡ Less = sym (tied_itself name_order m) ∙ ap (name_cmp m) (sym is) ∙ less in
    cc

module _ (names : List Name) (x : Class) (left rest : List Name) (m : Name) (first : left ≡ m ∷ rest) (all : All (IsLtBy name_cmp m) rest) (k : ℕ) (was mid now : List ℕ) (had between has : List Split)
    (g : IsTaking names x left k was mid had between) (h : AreSplit (λ i. slice_get names i ≡ Some m) k mid now between has) where
  left_first : Contains left m
  left_first = subst (λ (ys : List Name). Contains ys m) (sym first) (member_first m rest)

  left_later : (n : Name) → Contains rest n → Contains left n
  left_later n c = subst (λ (ys : List Name). Contains ys n) (sym first) (member_later m n rest c)

  to : (i : ℕ) → IsDone names x left i ⊎ (slice_get names i ≡ Some m) → IsDone names x rest i
  to i (inl (n, at, c, f)) = (n, at, c, λ r. f (left_later n r))
  to i (inr at) = (m, at, g.standing m left_first, above m rest all)

  from : (i : ℕ) → IsDone names x rest i → IsDone names x left i ⊎ (slice_get names i ≡ Some m)
  from i (n, at, c, f) = by_test (same_name n m)
      (λ e. inr (at ∙ ap Some (one_name n m e)))
      (λ e. inl (n, at, c, λ l. elim (member_cases m n rest (subst (λ (ys : List Name). Contains ys n) first l)) [ inl same ↦ refuse_name n m e (sym same) | inr r ↦ f r ]))

  apart : (i : ℕ) → IsDone names x left i → slice_get names i ≡ Some m → ⊥
  apart i (n, at, c, f) e = f (subst (Contains left) (same_some m n (sym e ∙ at)) left_first)

  pub taking_more : IsTaking names x rest k was now had has
  taking_more = record {
    standing = λ n c. g.standing n (left_later n c);
    are = split_as (λ i. IsDone names x left i ⊎ (slice_get names i ≡ Some m)) (IsDone names x rest) k was now had has to from
        (split_then (IsDone names x left) (λ i. slice_get names i ≡ Some m) k was mid now had between has g.are h apart);
  }

pub taking_all : (names : List Name) (x : Class) (left : List Name) → is_infinite x ≡ false → left ≡ [] → (k : ℕ) (was now : List ℕ) (had has : List Split) → IsTaking names x left k was now had has →
    AreSplit (IsOnSide names x true) k was now had has
taking_all names x left finite none k was now had has g =
    split_as (IsDone names x left) (IsOnSide names x true) k was now had has (λ i (n, at, c, f). (n, at, members_from x finite n c))
    (λ i (n, at, e). (n, at, members_to x finite n e, λ l. member_none n (subst (λ (ys : List Name). Contains ys n) none l))) g.are
