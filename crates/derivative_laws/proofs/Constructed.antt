-- What a pattern made by a constructor matches.
use Rattle.std.proofs.Common.{◌≡◌, ◌++◌, ◌⊎◌, ◌↔◌, inl, inr, List, [], ◌∷◌, refl, Bool, true, false, IsTrue}
use Rattle.std.specs.declared.cmp.Ordering.{Ordering}
use Rattle.std.specs.declared.cmp.Ordering.TheVariants.{Less, Equal, Greater}
use Rattle.std.specs.Ordering.{match_ordering}
use Rattle.rng_model.specs.Patterns.{Pattern, Schema, not_allowed, empty, one_or_more, choice, group, interleave, pattern_cmp}
use Rattle.rng_model.proofs.Keys.{key, key-same, same_list}
use Rattle.rng_model.specs.Constructors.{members, of_members, with_member, ascending, choice_of, group_of, interleave_of, one_or_more_of}
use Rattle.rng_model.specs.Hedges.{none, Hedge, Attributes}
use Rattle.rng_model.specs.Hedges as hedge
use Rattle.rng_model.specs.Parts.{Union, Split, Join, Merge}
use Rattle.rng_model.specs.Parts as part
use Rattle.rng_model.specs.Matching.{Matches, Weakly}
use Rattle.rng_model.specs.Matching as by
use Rattle.rng_model.specs.Derivatives.{where_true, more}
use Rattle.rng_model.proofs.Invert.{Meaning, meaning}

-- the empty set on one side
pub union-nil_left : {b c : Attributes} → Union [] b c → b ≡ c
union-nil_left part.Union.ends = refl
union-nil_left (part.Union.right {x = x} u) = let e = union-nil_left u in cc

pub union-nil_right : {b c : Attributes} → Union b [] c → b ≡ c
union-nil_right part.Union.ends = refl
union-nil_right (part.Union.left {x = x} u) = let e = union-nil_right u in cc

pub left_all : (a : Attributes) → Union a [] a
left_all [] = part.Union.ends
left_all (x ∷ a) = part.Union.left (left_all a)

pub right_all : (a : Attributes) → Union [] a a
right_all [] = part.Union.ends
right_all (x ∷ a) = part.Union.right (right_all a)

-- both sides of an empty set
pub union-nil : {b c : Attributes} → Union b c [] → (b ≡ []) × (c ≡ [])
union-nil part.Union.ends = (refl, refl)

pub split-nil : {b c : Attributes} → Split b c [] → (b ≡ []) × (c ≡ [])
split-nil part.Split.ends = (refl, refl)

pub join-none_left : {l m : Hedge} → Join none l m → l ≡ m
join-none_left part.Join.ends = refl

pub join-none_right : {l m : Hedge} → Join l none m → l ≡ m
join-none_right part.Join.ends = refl
join-none_right (part.past_element j) = let e = join-none_right j in cc
join-none_right (part.past_text j) = let e = join-none_right j in cc

pub join_all : (m : Hedge) → Join m none m
join_all none = part.Join.ends
join_all (hedge.element n a k rest) = part.past_element (join_all rest)
join_all (hedge.text t rest) = part.past_text (join_all rest)

pub merge-none_left : {l m : Hedge} → Merge none l m → l ≡ m
merge-none_left part.Merge.ends = refl
merge-none_left (part.right_element j) = let e = merge-none_left j in cc
merge-none_left (part.right_text j) = let e = merge-none_left j in cc

pub merge-none_right : {l m : Hedge} → Merge l none m → l ≡ m
merge-none_right part.Merge.ends = refl
merge-none_right (part.left_element j) = let e = merge-none_right j in cc
merge-none_right (part.left_text j) = let e = merge-none_right j in cc

pub merge_right : (m : Hedge) → Merge none m m
merge_right none = part.Merge.ends
merge_right (hedge.element n a k rest) = part.right_element (merge_right rest)
merge_right (hedge.text t rest) = part.right_text (merge_right rest)

pub merge_left : (m : Hedge) → Merge m none m
merge_left none = part.Merge.ends
merge_left (hedge.element n a k rest) = part.left_element (merge_left rest)
merge_left (hedge.text t rest) = part.left_text (merge_left rest)

-- P holds of some member
abbrev pub Some_of : (Pattern → Type 0) → List Pattern → Type 0
Some_of P [] = ⊥
Some_of P (p ∷ ps) = P p ⊎ Some_of P ps

-- patterns that compare as equal are one
pub cmp-same : (p q : Pattern) → pattern_cmp p q ≡ Equal → p ≡ q
cmp-same p q e = key-same p q (same_list (key p) (key q) e)

module _ (P : Pattern → Type 0) where
  -- a member put into its place
  by_order : (p q : Pattern) (qs : List Pattern) (o : Ordering) → pattern_cmp p q ≡ o → (Some_of P (with_member p qs) → P p ⊎ Some_of P qs) →
      Some_of P (match_ordering o (p ∷ q ∷ qs) (q ∷ qs) (q ∷ with_member p qs)) → P p ⊎ Some_of P (q ∷ qs)
  by_order p q qs Less e again h = h
  by_order p q qs Equal e again h = inr h
  by_order p q qs Greater e again (inl h) = inr (inl h)
  by_order p q qs Greater e again (inr h) = behind_first (again h)
    where
      behind_first : P p ⊎ Some_of P qs → P p ⊎ Some_of P (q ∷ qs)
      behind_first (inl h) = inl h
      behind_first (inr h) = inr (inr h)

  pub with_member_to : (p : Pattern) (qs : List Pattern) → Some_of P (with_member p qs) → P p ⊎ Some_of P qs
  with_member_to p [] h = h
  with_member_to p (q ∷ qs) h = by_order p q qs (pattern_cmp p q) refl (with_member_to p qs) h

  to_order : (p q : Pattern) (qs : List Pattern) (o : Ordering) → pattern_cmp p q ≡ o → (P p ⊎ Some_of P qs → Some_of P (with_member p qs)) →
      P p ⊎ Some_of P (q ∷ qs) → Some_of P (match_ordering o (p ∷ q ∷ qs) (q ∷ qs) (q ∷ with_member p qs))
  to_order p q qs Less e again h = h
  to_order p q qs Equal e again (inl h) = inl (rw (cmp-same p q e) at h)
  to_order p q qs Equal e again (inr h) = h
  to_order p q qs Greater e again (inl h) = inr (again (inl h))
  to_order p q qs Greater e again (inr (inl h)) = inl h
  to_order p q qs Greater e again (inr (inr h)) = inr (again (inr h))

  pub with_member_from : (p : Pattern) (qs : List Pattern) → P p ⊎ Some_of P qs → Some_of P (with_member p qs)
  with_member_from p [] h = h
  with_member_from p (q ∷ qs) h = to_order p q qs (pattern_cmp p q) refl (with_member_from p qs) h

  -- the list put in order
  ordered_to : (ps : List Pattern) → Some_of P (ascending ps) → Some_of P ps
  ordered_to [] h = h
  ordered_to (p ∷ ps) h = go (ordered_to ps) (with_member_to p (ascending ps) h)
    where
      go : (Some_of P (ascending ps) → Some_of P ps) → P p ⊎ Some_of P (ascending ps) → Some_of P (p ∷ ps)
      go again (inl h) = inl h
      go again (inr h) = inr (again h)

  ordered_from : (ps : List Pattern) → Some_of P ps → Some_of P (ascending ps)
  ordered_from [] h = h
  ordered_from (p ∷ ps) (inl h) = with_member_from p (ascending ps) (inl h)
  ordered_from (p ∷ ps) (inr h) = with_member_from p (ascending ps) (inr (ordered_from ps h))

  some_of_two : (ps qs : List Pattern) → Some_of P (ps ++ qs) ↔ (Some_of P ps ⊎ Some_of P qs)
  some_of_two [] qs = (λ h. inr h, last)
    where
      last : ⊥ ⊎ Some_of P qs → Some_of P qs
      last (inl h) = absurd h
      last (inr h) = h
  some_of_two (p ∷ ps) qs = let again = some_of_two ps qs in (to again.0, from again.1)
    where
      deeper : Some_of P ps ⊎ Some_of P qs → Some_of P (p ∷ ps) ⊎ Some_of P qs
      deeper (inl h) = inl (inr h)
      deeper (inr h) = inr h

      to : (Some_of P (ps ++ qs) → Some_of P ps ⊎ Some_of P qs) → P p ⊎ Some_of P (ps ++ qs) → Some_of P (p ∷ ps) ⊎ Some_of P qs
      to again (inl h) = inl (inl h)
      to again (inr h) = deeper (again h)

      from : (Some_of P ps ⊎ Some_of P qs → Some_of P (ps ++ qs)) → Some_of P (p ∷ ps) ⊎ Some_of P qs → P p ⊎ Some_of P (ps ++ qs)
      from again (inl (inl h)) = inl h
      from again (inl (inr h)) = inr (again (inl h))
      from again (inr h) = inr (again (inr h))

  pub ascending_to : (ps qs : List Pattern) → Some_of P (ascending (ps ++ qs)) → Some_of P ps ⊎ Some_of P qs
  ascending_to ps qs h = (some_of_two ps qs).0 (ordered_to (ps ++ qs) h)

  pub ascending_from : (ps qs : List Pattern) → Some_of P ps ⊎ Some_of P qs → Some_of P (ascending (ps ++ qs))
  ascending_from ps qs h = ordered_from (ps ++ qs) ((some_of_two ps qs).1 h)

module _ (g : Schema) where
  pub never : {a : Attributes} {m : Hedge} → Matches g a m not_allowed → ⊥
  never h = meaning h

  -- a match of notAllowed or of an end proves nothing more
  pub where_true-matches : (a : Attributes) (m : Hedge) (b : Bool) (p : Pattern) → Matches g a m (where_true b p) ↔ (IsTrue b × Matches g a m p)
  where_true-matches a m true p = (λ h. (refl, h), λ h. h.1)
  where_true-matches a m false p = (λ h. absurd (never h), λ h. absurd (let e = h.0 in cc))

  -- a choice whose second part stands for X
  either_way : (a : Attributes) (m : Hedge) (p q : Pattern) (X : Type 0) → Matches g a m q ↔ X → Matches g a m (choice p q) ↔ (Matches g a m p ⊎ X)
  either_way a m p q X e = (λ h. to (meaning h), from)
    where
      to : Matches g a m p ⊎ Matches g a m q → Matches g a m p ⊎ X
      to (inl h) = inl h
      to (inr h) = inr (e.0 h)

      from : Matches g a m p ⊎ X → Matches g a m (choice p q)
      from (inl h) = by.choice_left h
      from (inr h) = by.choice_right (e.1 h)

  pub of_members-some : (a : Attributes) (m : Hedge) (ps : List Pattern) → Matches g a m (of_members ps) ↔ Some_of (λ x. Matches g a m x) ps
  of_members-some a m [] = (λ h. never h, λ h. absurd h)
  of_members-some a m (p ∷ []) = (λ h. inl h, λ h. one h)
    where
      one : Matches g a m p ⊎ ⊥ → Matches g a m p
      one (inl h) = h
      one (inr h) = absurd h
  of_members-some a m (p ∷ q ∷ ps) = either_way a m p (of_members (q ∷ ps)) _ (of_members-some a m (q ∷ ps))

  itself : (a : Attributes) (m : Hedge) (p : Pattern) → (Matches g a m p ⊎ ⊥) ↔ Matches g a m p
  itself a m p = (one, λ h. inl h)
    where
      one : Matches g a m p ⊎ ⊥ → Matches g a m p
      one (inl h) = h
      one (inr h) = absurd h

  pub members-some : (a : Attributes) (m : Hedge) (p : Pattern) → Some_of (λ x. Matches g a m x) (members p) ↔ Matches g a m p
  members-some a m not_allowed = (λ h. absurd h, λ h. never h)
  members-some a m (choice p q) = let e = either_way a m p q _ ((members-some a m q).1, (members-some a m q).0) in (e.1, e.0)
  members-some a m p = itself a m p

  pub choice-matches : (a : Attributes) (m : Hedge) (p q : Pattern) → Matches g a m (choice_of p q) ↔ (Matches g a m p ⊎ Matches g a m q)
  unfolding choice_of
  choice-matches a m p q = (λ h. to (ascending_to _ (members p) (members q) ((of_members-some a m _).0 h)), λ h. (of_members-some a m _).1 (ascending_from _ (members p) (members q) (from h)))
    where
      to : Some_of (λ x. Matches g a m x) (members p) ⊎ Some_of (λ x. Matches g a m x) (members q) → Matches g a m p ⊎ Matches g a m q
      to (inl h) = inl ((members-some a m p).0 h)
      to (inr h) = inr ((members-some a m q).0 h)

      from : Matches g a m p ⊎ Matches g a m q → Some_of (λ x. Matches g a m x) (members p) ⊎ Some_of (λ x. Matches g a m x) (members q)
      from (inl h) = inl ((members-some a m p).1 h)
      from (inr h) = inr ((members-some a m q).1 h)

  group_never_left : (a : Attributes) (m : Hedge) (q : Pattern) → Matches g a m (group not_allowed q) → ⊥
  group_never_left a m q h = go (meaning h)
    where
      go : Meaning g a m (group not_allowed q) → ⊥
      go (b, c, l, r, u, j, x, y) = never x

  group_never_right : (a : Attributes) (m : Hedge) (p : Pattern) → Matches g a m (group p not_allowed) → ⊥
  group_never_right a m p h = go (meaning h)
    where
      go : Meaning g a m (group p not_allowed) → ⊥
      go (b, c, l, r, u, j, x, y) = never y

  group_empty_left : (a : Attributes) (m : Hedge) (q : Pattern) → Matches g a m (group empty q) → Matches g a m q
  group_empty_left a m q h = go (meaning h)
    where
      go : Meaning g a m (group empty q) → Matches g a m q
      go (b, c, l, r, u, j, x, y) =
          let e = meaning x in
          let eu : c ≡ a = union-nil_left (rw e.0 at u) in
          let ej : r ≡ m = join-none_left (rw e.1 at j) in
          rw (← eu, ← ej) y

  group_empty_right : (a : Attributes) (m : Hedge) (p : Pattern) → Matches g a m (group p empty) → Matches g a m p
  group_empty_right a m p h = go (meaning h)
    where
      go : Meaning g a m (group p empty) → Matches g a m p
      go (b, c, l, r, u, j, x, y) =
          let e = meaning y in
          let eu : b ≡ a = union-nil_right (rw e.0 at u) in
          let ej : l ≡ m = join-none_right (rw e.1 at j) in
          rw (← eu, ← ej) x

  pub group-matches : (a : Attributes) (m : Hedge) (p q : Pattern) → Matches g a m (group_of p q) ↔ Matches g a m (group p q)
  group-matches a m not_allowed q = (λ h. absurd (never h), λ h. absurd (group_never_left a m q h))
  group-matches a m p not_allowed = (λ h. absurd (never h), λ h. absurd (group_never_right a m p h))
  group-matches a m empty q = (λ h. by.group (right_all a) part.Join.ends by.empty h, group_empty_left a m q)
  group-matches a m p empty = (λ h. by.group (left_all a) (join_all m) h by.empty, group_empty_right a m p)
  group-matches a m p q = (λ h. h, λ h. h)

  interleave_never_left : (a : Attributes) (m : Hedge) (q : Pattern) → Matches g a m (interleave not_allowed q) → ⊥
  interleave_never_left a m q h = go (meaning h)
    where
      go : Meaning g a m (interleave not_allowed q) → ⊥
      go (b, c, l, r, u, j, x, y) = never x

  interleave_never_right : (a : Attributes) (m : Hedge) (p : Pattern) → Matches g a m (interleave p not_allowed) → ⊥
  interleave_never_right a m p h = go (meaning h)
    where
      go : Meaning g a m (interleave p not_allowed) → ⊥
      go (b, c, l, r, u, j, x, y) = never y

  interleave_empty_left : (a : Attributes) (m : Hedge) (q : Pattern) → Matches g a m (interleave empty q) → Matches g a m q
  interleave_empty_left a m q h = go (meaning h)
    where
      go : Meaning g a m (interleave empty q) → Matches g a m q
      go (b, c, l, r, u, j, x, y) =
          let e = meaning x in
          let eu : c ≡ a = union-nil_left (rw e.0 at u) in
          let ej : r ≡ m = merge-none_left (rw e.1 at j) in
          rw (← eu, ← ej) y

  interleave_empty_right : (a : Attributes) (m : Hedge) (p : Pattern) → Matches g a m (interleave p empty) → Matches g a m p
  interleave_empty_right a m p h = go (meaning h)
    where
      go : Meaning g a m (interleave p empty) → Matches g a m p
      go (b, c, l, r, u, j, x, y) =
          let e = meaning y in
          let eu : b ≡ a = union-nil_right (rw e.0 at u) in
          let ej : l ≡ m = merge-none_right (rw e.1 at j) in
          rw (← eu, ← ej) x

  pub interleave-matches : (a : Attributes) (m : Hedge) (p q : Pattern) → Matches g a m (interleave_of p q) ↔ Matches g a m (interleave p q)
  interleave-matches a m not_allowed q = (λ h. absurd (never h), λ h. absurd (interleave_never_left a m q h))
  interleave-matches a m p not_allowed = (λ h. absurd (never h), λ h. absurd (interleave_never_right a m p h))
  interleave-matches a m empty q = (λ h. by.interleave (right_all a) (merge_right m) by.empty h, interleave_empty_left a m q)
  interleave-matches a m p empty = (λ h. by.interleave (left_all a) (merge_left m) h by.empty, interleave_empty_right a m p)
  interleave-matches a m p q = (λ h. h, λ h. h)

  -- the rounds of a oneOrMore
  pub data Rounds (p : Pattern) : Attributes → Hedge → Type 0 where
    last : {a : Attributes} {m : Hedge} → Matches g a m p → Rounds p a m
    next : {a b c : Attributes} {l m j : Hedge} → Split a b c → Join l m j → Matches g a l p → Rounds p b m → Rounds p c j

  pub rounds : {a : Attributes} {m : Hedge} {p : Pattern} → Matches g a m (one_or_more p) → Rounds p a m
  rounds (by.once h) = last h
  rounds (by.more u j h k) = next u j h (rounds k)

  pub from_rounds : {p : Pattern} {a : Attributes} {m : Hedge} → Rounds p a m → Matches g a m (one_or_more p)
  from_rounds (last h) = by.once h
  from_rounds (next u j h k) = by.more u j h (from_rounds k)

  rounds_never : {a : Attributes} {m : Hedge} → Rounds not_allowed a m → ⊥
  rounds_never (last h) = never h
  rounds_never (next u j h k) = never h

  rounds_empty : {a : Attributes} {m : Hedge} → Rounds empty a m → (a ≡ []) × (m ≡ none)
  rounds_empty (last h) = meaning h
  rounds_empty (next u j h k) =
      let e = meaning h in
      let f = rounds_empty k in
      go (rw (e.0, f.0) at u) (rw (e.1, f.1) at j)
    where
      go : {c : Attributes} {j : Hedge} → Split [] [] c → Join none none j → (c ≡ []) × (j ≡ none)
      go part.Split.ends part.Join.ends = (refl, refl)

  from_nothing : (a : Attributes) (m : Hedge) → (a ≡ []) × (m ≡ none) → Matches g a m empty
  from_nothing a m e = rw (e.0, e.1) by.empty

  pub one_or_more-matches : (a : Attributes) (m : Hedge) (p : Pattern) → Matches g a m (one_or_more_of p) ↔ Matches g a m (one_or_more p)
  one_or_more-matches a m not_allowed = (λ h. absurd (never h), λ h. absurd (rounds_never (rounds h)))
  one_or_more-matches a m empty = (λ h. by.once h, λ h. from_nothing a m (rounds_empty (rounds h)))
  one_or_more-matches a m p = (λ h. h, λ h. h)

  pub more-matches : (a : Attributes) (m : Hedge) (p : Pattern) → Matches g a m (more p) ↔ (Rounds p a m ⊎ ((a ≡ []) × (m ≡ none)))
  more-matches a m p = (to, from)
    where
      first : Matches g a m (one_or_more_of p) ⊎ Matches g a m empty → Rounds p a m ⊎ ((a ≡ []) × (m ≡ none))
      first (inl h) = inl (rounds ((one_or_more-matches a m p).0 h))
      first (inr h) = inr (meaning h)

      to : Matches g a m (more p) → Rounds p a m ⊎ ((a ≡ []) × (m ≡ none))
      to h = first ((choice-matches a m (one_or_more_of p) empty).0 h)

      back : Rounds p a m ⊎ ((a ≡ []) × (m ≡ none)) → Matches g a m (one_or_more_of p) ⊎ Matches g a m empty
      back (inl h) = inl ((one_or_more-matches a m p).1 (from_rounds h))
      back (inr e) = inr (from_nothing a m e)

      from : Rounds p a m ⊎ ((a ≡ []) × (m ≡ none)) → Matches g a m (more p)
      from h = (choice-matches a m (one_or_more_of p) empty).1 (back h)
