-- An opening is the choice of what remains, for the definitions whose classes have the name; a name that can't be taken leads nowhere.
use Rattle.std.proofs.Common.{◌≡◌, ℕ, ◌⊎◌, ◌↔◌, inl, inr, List, [], ◌∷◌, ◌++◌, map, refl, sym, ◌∙◌, ap, subst, Bool, true, false, ◌||◌, ◌&&◌, Option, Some, None, slice_get}
use Rattle.rng_model.specs.Texts.{Text, is_white}
use Rattle.rng_model.specs.Names.{Name}
use Rattle.rng_model.specs.Classes.{in_class}
use Rattle.rng_model.specs.Patterns.{Pattern, Schema, Definition, not_allowed, empty, text, ref, value, data_type, data_except, attribute, one_or_more, choice, group, interleave, after}
use Rattle.rng_model.specs.Constructors.{choice_of, group_of, interleave_of, after_of}
use Rattle.rng_model.specs.Matching.{nullable}
use Rattle.rng_model.specs.Derivatives.{where_true, more, map_after, element_step, opening, attribute_step, text_step}
use Rattle.std.specs.List.{Contains}
use Rattle.derivative_laws.proofs.ChoiceLaw.{IsSome_of, choice_of-to, choice_of-from}
use Rattle.table_laws.specs.Heads.{IsNormalChoice, IsLeaf, choices_of}
use Rattle.table_laws.specs.Remainders.{Remainder, AreSame, with_rest, if_nullable, remainders, entered, entered_at, takes_name}
use Rattle.table_laws.proofs.Normal.{normal_choice, normal_nothing, normal_after, normal_where, normal_same, leaf_choice}
use Rattle.table_laws.proofs.SameRemainders.{contains_none, contains_first, contains_later, contains_cases, same_refl}

-- P holds of some member
abbrev SomeIn : (Remainder → Type 0) → List Remainder → Type 0
SomeIn P [] = ⊥
SomeIn P (r ∷ rs) = P r ⊎ SomeIn P rs

module _ (P : Remainder → Type 0) where
  some_to : (xs ys : List Remainder) → SomeIn P (xs ++ ys) → SomeIn P xs ⊎ SomeIn P ys
  some_to [] ys h = inr h
  some_to (x ∷ xs) ys (inl h) = inl (inl h)
  some_to (x ∷ xs) ys (inr h) = go (some_to xs ys h)
    where
      go : SomeIn P xs ⊎ SomeIn P ys → SomeIn P (x ∷ xs) ⊎ SomeIn P ys
      go (inl k) = inl (inr k)
      go (inr k) = inr k

  some_left : (xs ys : List Remainder) → SomeIn P xs → SomeIn P (xs ++ ys)
  some_left [] ys h = absurd h
  some_left (x ∷ xs) ys (inl h) = inl h
  some_left (x ∷ xs) ys (inr h) = inr (some_left xs ys h)

  some_right : (xs ys : List Remainder) → SomeIn P ys → SomeIn P (xs ++ ys)
  some_right [] ys h = h
  some_right (x ∷ xs) ys h = inr (some_right xs ys h)

  some_map : (f : Pattern → Pattern) (rs : List Remainder) → SomeIn P (map (with_rest f) rs) → SomeIn (λ r. P (with_rest f r)) rs
  some_map f [] h = h
  some_map f (r ∷ rs) (inl h) = inl h
  some_map f (r ∷ rs) (inr h) = inr (some_map f rs h)

  map_some : (f : Pattern → Pattern) (rs : List Remainder) → SomeIn (λ r. P (with_rest f r)) rs → SomeIn P (map (with_rest f) rs)
  map_some f [] h = h
  map_some f (r ∷ rs) (inl h) = inl h
  map_some f (r ∷ rs) (inr h) = inr (map_some f rs h)

  some_member : (rs : List Remainder) → SomeIn P rs → (r : Remainder) × Contains rs r × P r
  some_member [] h = absurd h
  some_member (t ∷ rs) (inl h) = (t, contains_first t rs, h)
  some_member (t ∷ rs) (inr h) = later (some_member rs h)
    where
      later : (r : Remainder) × Contains rs r × P r → (r : Remainder) × Contains (t ∷ rs) r × P r
      later (r, k, p) = (r, contains_later t rs r k, p)

  member_some : (rs : List Remainder) (r : Remainder) → Contains rs r → P r → SomeIn P rs
  member_some [] r h p = absurd (contains_none r h)
  member_some (t ∷ rs) r h p = go (contains_cases t rs r h) (λ k. member_some rs r k p)
    where
      go : (t ≡ r) ⊎ Contains rs r → (Contains rs r → SomeIn P rs) → SomeIn P (t ∷ rs)
      go (inl e) again = inl (subst P (sym e) p)
      go (inr k) again = inr (again k)

  -- of a list that has all of them
  some_within : (xs ys : List Remainder) → ((r : Remainder) → Contains xs r → Contains ys r) → SomeIn P xs → SomeIn P ys
  some_within xs ys h s = go (some_member xs s)
    where
      go : (r : Remainder) × Contains xs r × P r → SomeIn P ys
      go (r, k, p) = member_some ys r (h r k) p

-- what keeps notAllowed
abbrev IsStrict : (Pattern → Pattern) → Type 0
IsStrict f = f not_allowed ≡ not_allowed

strict_interleave : (p : Pattern) → IsStrict (λ y. interleave_of p y)
strict_interleave not_allowed = refl
strict_interleave p = refl

nothing_after : (x : Pattern) → after_of x not_allowed ≡ not_allowed
nothing_after not_allowed = refl
nothing_after x = refl

map_after-of : (f : Pattern → Pattern) → IsStrict f → (x y : Pattern) → map_after f (after_of x y) ≡ after_of x (f y)
unfolding map_after
map_after-of f s not_allowed y = refl
map_after-of f s x not_allowed = sym (ap (after_of x) s ∙ nothing_after x)
map_after-of f s x y = refl

module _ (z : Pattern) where
  map_leaf : (f : Pattern → Pattern) → IsSome_of (λ p. IsLeaf z (map_after f p))
  unfolding map_after
  map_leaf f = record {
    never = λ h. h;
    to = λ p q h. (leaf_choice z (map_after f p) (map_after f q)).0 h;
    from = λ p q h. (leaf_choice z (map_after f p) (map_after f q)).1 h;
  }

  -- one after the other
  twice_to : (f g : Pattern → Pattern) → IsStrict f → (p : Pattern) → IsLeaf z (map_after f (map_after g p)) → IsLeaf z (map_after (λ y. f (g y)) p)
  unfolding map_after
  twice_to f g s (after x y) h = subst (IsLeaf z) (map_after-of f s x (g y)) h
  twice_to f g s (choice p q) h = go (twice_to f g s p) (twice_to f g s q) (choice_of-to (λ r. IsLeaf z (map_after f r)) (map_leaf f) (map_after g p) (map_after g q) h)
    where
      go : (IsLeaf z (map_after f (map_after g p)) → IsLeaf z (map_after (λ y. f (g y)) p)) → (IsLeaf z (map_after f (map_after g q)) → IsLeaf z (map_after (λ y. f (g y)) q)) →
          IsLeaf z (map_after f (map_after g p)) ⊎ IsLeaf z (map_after f (map_after g q)) → IsLeaf z (choice_of (map_after (λ y. f (g y)) p) (map_after (λ y. f (g y)) q))
      go a b (inl k) = (leaf_choice z (map_after (λ y. f (g y)) p) (map_after (λ y. f (g y)) q)).1 (inl (a k))
      go a b (inr k) = (leaf_choice z (map_after (λ y. f (g y)) p) (map_after (λ y. f (g y)) q)).1 (inr (b k))
  twice_to f g s p h = h

  twice_from : (f g : Pattern → Pattern) → IsStrict f → (p : Pattern) → IsLeaf z (map_after (λ y. f (g y)) p) → IsLeaf z (map_after f (map_after g p))
  unfolding map_after
  twice_from f g s (after x y) h = subst (IsLeaf z) (sym (map_after-of f s x (g y))) h
  twice_from f g s (choice p q) h =
      choice_of-from (λ r. IsLeaf z (map_after f r)) (map_leaf f) (map_after g p) (map_after g q)
      (go (twice_from f g s p) (twice_from f g s q) ((leaf_choice z (map_after (λ y. f (g y)) p) (map_after (λ y. f (g y)) q)).0 h))
    where
      go : (IsLeaf z (map_after (λ y. f (g y)) p) → IsLeaf z (map_after f (map_after g p))) → (IsLeaf z (map_after (λ y. f (g y)) q) → IsLeaf z (map_after f (map_after g q))) →
          IsLeaf z (map_after (λ y. f (g y)) p) ⊎ IsLeaf z (map_after (λ y. f (g y)) q) → IsLeaf z (map_after f (map_after g p)) ⊎ IsLeaf z (map_after f (map_after g q))
      go a b (inl k) = inl (a k)
      go a b (inr k) = inr (b k)
  twice_from f g s p h = h

module _ (g : Schema) (n : Name) (z : Pattern) where
  abbrev Entered : (Pattern → Pattern) → Remainder → Type 0
  Entered f r = IsLeaf z (entered_at g n (with_rest f r))

  map_element : (f : Pattern → Pattern) → IsStrict f → (o : Option Definition) → map_after f (element_step n o) ≡ entered n o (f empty)
  unfolding map_after
  map_element f s None = refl
  map_element f s (Some e) = go (in_class n e.class)
    where
      go : (b : Bool) → map_after f (where_true b (after_of e.content empty)) ≡ where_true b (after_of e.content (f empty))
      go true = map_after-of f s e.content empty
      go false = refl

  -- the leaves behind an opening
  abbrev Law : Pattern → Type 0
  Law p = (f : Pattern → Pattern) → IsStrict f → IsLeaf z (map_after f (opening g n p)) ↔ SomeIn (Entered f) (remainders p)

  split : (f : Pattern → Pattern) (a b : Pattern) → IsLeaf z (map_after f (choice_of a b)) ↔ (IsLeaf z (map_after f a) ⊎ IsLeaf z (map_after f b))
  split f a b = (λ h. choice_of-to (λ r. IsLeaf z (map_after f r)) (map_leaf z f) a b h, λ h. choice_of-from (λ r. IsLeaf z (map_after f r)) (map_leaf z f) a b h)

  -- of a part with something put behind it
  under : (h f : Pattern → Pattern) → IsStrict h → IsStrict f → (p : Pattern) → Law p → IsLeaf z (map_after f (map_after h (opening g n p))) ↔ SomeIn (Entered f) (map (with_rest h) (remainders p))
  under h f s t p law =
      let st : IsStrict (λ y. f (h y)) = ap f s ∙ t in (
        λ l. map_some (Entered f) h (remainders p) ((law (λ y. f (h y)) st).0 (twice_to z f h t (opening g n p) l)),
        λ l. twice_from z f h t (opening g n p) ((law (λ y. f (h y)) st).1 (some_map (Entered f) h (remainders p) l)),
      )

  join : (f : Pattern → Pattern) (a b : Pattern) (xs ys : List Remainder) → IsLeaf z (map_after f a) ↔ SomeIn (Entered f) xs → IsLeaf z (map_after f b) ↔ SomeIn (Entered f) ys →
      IsLeaf z (map_after f (choice_of a b)) ↔ SomeIn (Entered f) (xs ++ ys)
  join f a b xs ys h k = (λ l. to ((split f a b).0 l), λ l. (split f a b).1 (from (some_to (Entered f) xs ys l)))
    where
      to : IsLeaf z (map_after f a) ⊎ IsLeaf z (map_after f b) → SomeIn (Entered f) (xs ++ ys)
      to (inl l) = some_left (Entered f) xs ys (h.0 l)
      to (inr l) = some_right (Entered f) xs ys (k.0 l)

      from : SomeIn (Entered f) xs ⊎ SomeIn (Entered f) ys → IsLeaf z (map_after f a) ⊎ IsLeaf z (map_after f b)
      from (inl l) = inl (h.1 l)
      from (inr l) = inr (k.1 l)

  where_law : (f : Pattern → Pattern) (b : Bool) (a : Pattern) (rs : List Remainder) → IsLeaf z (map_after f a) ↔ SomeIn (Entered f) rs → IsLeaf z (map_after f (where_true b a)) ↔ SomeIn (Entered f) (if_nullable b rs)
  unfolding map_after
  where_law f true a rs h = h
  where_law f false a rs h = (λ l. l, λ l. l)

  single : (f : Pattern → Pattern) → IsStrict f → (d : ℕ) → IsLeaf z (map_after f (element_step n (slice_get g.elements d))) ↔ (IsLeaf z (entered n (slice_get g.elements d) (f empty)) ⊎ ⊥)
  single f s d = let e = map_element f s (slice_get g.elements d) in (λ l. inl (subst (IsLeaf z) e l), λ l. subst (IsLeaf z) (sym e) (only l))
    where
      only : IsLeaf z (entered n (slice_get g.elements d) (f empty)) ⊎ ⊥ → IsLeaf z (entered n (slice_get g.elements d) (f empty))
      only (inl l) = l
      only (inr l) = absurd l

  leaf_opening : (p : Pattern) → Law p
  unfolding opening remainders map_after
  leaf_opening (ref d) f s = single f s d
  leaf_opening (choice p q) f s = join f (opening g n p) (opening g n q) (remainders p) (remainders q) (leaf_opening p f s) (leaf_opening q f s)
  leaf_opening (group p q) f s =
      join f (map_after (λ y. group_of y q) (opening g n p)) (where_true (nullable p) (opening g n q)) (map (with_rest (λ y. group_of y q)) (remainders p)) (if_nullable (nullable p) (remainders q))
      (under (λ y. group_of y q) f refl s p (leaf_opening p)) (where_law f (nullable p) (opening g n q) (remainders q) (leaf_opening q f s))
  leaf_opening (interleave p q) f s =
      join f (map_after (λ y. interleave_of y q) (opening g n p)) (map_after (λ y. interleave_of p y) (opening g n q)) (map (with_rest (λ y. interleave_of y q)) (remainders p)) (map (with_rest (λ y. interleave_of p y)) (remainders q))
      (under (λ y. interleave_of y q) f refl s p (leaf_opening p)) (under (λ y. interleave_of p y) f (strict_interleave p) s q (leaf_opening q))
  leaf_opening (one_or_more p) f s = under (λ y. group_of y (more p)) f refl s p (leaf_opening p)
  leaf_opening (after p q) f s = under (λ y. after_of y q) f refl s p (leaf_opening p)
  leaf_opening p f s = (λ l. l, λ l. l)

  abbrev Top : Pattern → Type 0
  Top p = IsLeaf z (opening g n p) ↔ SomeIn (Entered (λ y. y)) (remainders p)

  top_join : (a b : Pattern) (xs ys : List Remainder) → IsLeaf z a ↔ SomeIn (Entered (λ y. y)) xs → IsLeaf z b ↔ SomeIn (Entered (λ y. y)) ys → IsLeaf z (choice_of a b) ↔ SomeIn (Entered (λ y. y)) (xs ++ ys)
  top_join a b xs ys h k = (λ l. to ((leaf_choice z a b).0 l), λ l. (leaf_choice z a b).1 (from (some_to (Entered (λ y. y)) xs ys l)))
    where
      to : IsLeaf z a ⊎ IsLeaf z b → SomeIn (Entered (λ y. y)) (xs ++ ys)
      to (inl l) = some_left (Entered (λ y. y)) xs ys (h.0 l)
      to (inr l) = some_right (Entered (λ y. y)) xs ys (k.0 l)

      from : SomeIn (Entered (λ y. y)) xs ⊎ SomeIn (Entered (λ y. y)) ys → IsLeaf z a ⊎ IsLeaf z b
      from (inl l) = inl (h.1 l)
      from (inr l) = inr (k.1 l)

  top_under : (h : Pattern → Pattern) → IsStrict h → (p : Pattern) → IsLeaf z (map_after h (opening g n p)) ↔ SomeIn (Entered (λ y. y)) (map (with_rest h) (remainders p))
  top_under h s p =
      (λ l. map_some (Entered (λ y. y)) h (remainders p) ((leaf_opening p h s).0 l), λ l. (leaf_opening p h s).1 (some_map (Entered (λ y. y)) h (remainders p) l))

  top_where : (b : Bool) (a : Pattern) (rs : List Remainder) → IsLeaf z a ↔ SomeIn (Entered (λ y. y)) rs → IsLeaf z (where_true b a) ↔ SomeIn (Entered (λ y. y)) (if_nullable b rs)
  top_where true a rs h = h
  top_where false a rs h = (λ l. l, λ l. l)

  element_is : (o : Option Definition) → element_step n o ≡ entered n o empty
  element_is None = refl
  element_is (Some e) = refl

  top_opening : (p : Pattern) → Top p
  unfolding opening remainders
  top_opening (ref d) = (λ l. inl (subst (IsLeaf z) (element_is (slice_get g.elements d)) l), λ l. subst (IsLeaf z) (sym (element_is (slice_get g.elements d))) (only l))
    where
      only : IsLeaf z (entered n (slice_get g.elements d) empty) ⊎ ⊥ → IsLeaf z (entered n (slice_get g.elements d) empty)
      only (inl l) = l
      only (inr l) = absurd l
  top_opening (choice p q) = top_join (opening g n p) (opening g n q) (remainders p) (remainders q) (top_opening p) (top_opening q)
  top_opening (group p q) =
      top_join (map_after (λ y. group_of y q) (opening g n p)) (where_true (nullable p) (opening g n q)) (map (with_rest (λ y. group_of y q)) (remainders p)) (if_nullable (nullable p) (remainders q))
      (top_under (λ y. group_of y q) refl p) (top_where (nullable p) (opening g n q) (remainders q) (top_opening q))
  top_opening (interleave p q) =
      top_join (map_after (λ y. interleave_of y q) (opening g n p)) (map_after (λ y. interleave_of p y) (opening g n q)) (map (with_rest (λ y. interleave_of y q)) (remainders p)) (map (with_rest (λ y. interleave_of p y)) (remainders q))
      (top_under (λ y. interleave_of y q) refl p) (top_under (λ y. interleave_of p y) (strict_interleave p) q)
  top_opening (one_or_more p) = top_under (λ y. group_of y (more p)) refl p
  top_opening (after p q) = top_under (λ y. after_of y q) refl p
  top_opening p = (λ l. l, λ l. l)

  -- the leaves of the choice of what remains
  leaf_choices : (rs : List Remainder) → IsLeaf z (choices_of (map (entered_at g n) rs)) ↔ SomeIn (λ r. IsLeaf z (entered_at g n r)) rs
  leaf_choices [] = (λ l. l, λ l. l)
  leaf_choices (r ∷ []) = (λ l. inl l, λ l. only l)
    where
      only : IsLeaf z (entered_at g n r) ⊎ ⊥ → IsLeaf z (entered_at g n r)
      only (inl l) = l
      only (inr l) = absurd l
  leaf_choices (r ∷ t ∷ rs) = go (leaf_choices (t ∷ rs))
    where
      go : IsLeaf z (choices_of (map (entered_at g n) (t ∷ rs))) ↔ SomeIn (λ r. IsLeaf z (entered_at g n r)) (t ∷ rs) →
          IsLeaf z (choice_of (entered_at g n r) (choices_of (map (entered_at g n) (t ∷ rs)))) ↔ SomeIn (λ r. IsLeaf z (entered_at g n r)) (r ∷ t ∷ rs)
      go again = (λ l. to ((leaf_choice z (entered_at g n r) (choices_of (map (entered_at g n) (t ∷ rs)))).0 l), λ l. (leaf_choice z (entered_at g n r) (choices_of (map (entered_at g n) (t ∷ rs)))).1 (from l))
        where
          to : IsLeaf z (entered_at g n r) ⊎ IsLeaf z (choices_of (map (entered_at g n) (t ∷ rs))) → SomeIn (λ r. IsLeaf z (entered_at g n r)) (r ∷ t ∷ rs)
          to (inl l) = inl l
          to (inr l) = inr (again.0 l)

          from : SomeIn (λ r. IsLeaf z (entered_at g n r)) (r ∷ t ∷ rs) → IsLeaf z (entered_at g n r) ⊎ IsLeaf z (choices_of (map (entered_at g n) (t ∷ rs)))
          from (inl l) = inl l
          from (inr l) = inr (again.1 l)

-- both sides are normal
normal_map : (f : Pattern → Pattern) (p : Pattern) → IsNormalChoice (map_after f p)
unfolding map_after
normal_map f (after x y) = normal_after x (f y)
normal_map f (choice p q) = normal_choice (map_after f p) (map_after f q) (normal_map f p) (normal_map f q)
normal_map f p = normal_nothing

normal_element : (n : Name) (o : Option Definition) (y : Pattern) → IsNormalChoice (entered n o y)
normal_element n None y = normal_nothing
normal_element n (Some e) y = normal_where (in_class n e.class) (after_of e.content y) (normal_after e.content y)

normal_first : (n : Name) (o : Option Definition) → IsNormalChoice (element_step n o)
normal_first n None = normal_nothing
normal_first n (Some e) = normal_where (in_class n e.class) (after_of e.content empty) (normal_after e.content empty)

pub normal_opening : (g : Schema) (n : Name) (p : Pattern) → IsNormalChoice (opening g n p)
unfolding opening
normal_opening g n (ref d) = normal_first n (slice_get g.elements d)
normal_opening g n (choice p q) = normal_choice (opening g n p) (opening g n q) (normal_opening g n p) (normal_opening g n q)
normal_opening g n (group p q) =
    normal_choice (map_after (λ y. group_of y q) (opening g n p)) (where_true (nullable p) (opening g n q))
    (normal_map (λ y. group_of y q) (opening g n p)) (normal_where (nullable p) (opening g n q) (normal_opening g n q))
normal_opening g n (interleave p q) =
    normal_choice (map_after (λ y. interleave_of y q) (opening g n p)) (map_after (λ y. interleave_of p y) (opening g n q))
    (normal_map (λ y. interleave_of y q) (opening g n p)) (normal_map (λ y. interleave_of p y) (opening g n q))
normal_opening g n (one_or_more p) = normal_map (λ y. group_of y (more p)) (opening g n p)
normal_opening g n (after p q) = normal_map (λ y. after_of y q) (opening g n p)
normal_opening g n p = normal_nothing

normal_choices : (g : Schema) (n : Name) (rs : List Remainder) → IsNormalChoice (choices_of (map (entered_at g n) rs))
normal_choices g n [] = normal_nothing
normal_choices g n (r ∷ []) = normal_element n (slice_get g.elements r.number) r.rest
normal_choices g n (r ∷ t ∷ rs) =
    normal_choice (entered_at g n r) (choices_of (map (entered_at g n) (t ∷ rs))) (normal_element n (slice_get g.elements r.number) r.rest) (normal_choices g n (t ∷ rs))

pub opening_of : (g : Schema) (n : Name) (p : Pattern) (rs : List Remainder) → AreSame rs (remainders p) → opening g n p ≡ choices_of (map (entered_at g n) rs)
opening_of g n p rs s =
    normal_same (opening g n p) (choices_of (map (entered_at g n) rs)) (normal_opening g n p) (normal_choices g n rs)
    (λ z l. (leaf_choices g n z rs).1 (some_within (λ r. IsLeaf z (entered_at g n r)) (remainders p) rs (λ r. (s r).1) ((top_opening g n z p).0 l)))
    (λ z l. (top_opening g n z p).1 (some_within (λ r. IsLeaf z (entered_at g n r)) rs (remainders p) (λ r. (s r).0) ((leaf_choices g n z rs).0 l)))

pub opening_is : (g : Schema) (n : Name) (p : Pattern) → opening g n p ≡ choices_of (map (entered_at g n) (remainders p))
opening_is g n p = opening_of g n p (remainders p) (same_refl (remainders p))

-- attribute names
left_false : (a b : Bool) → (a || b) ≡ false → a ≡ false
left_false true b h = absurd (cc)
left_false false b h = refl

right_false : (a b : Bool) → (a || b) ≡ false → b ≡ false
right_false true b h = absurd (cc)
right_false false b h = h

group_nothing : (p : Pattern) → group_of p not_allowed ≡ not_allowed
group_nothing not_allowed = refl
group_nothing p = refl

choice_nothing : (p q : Pattern) → p ≡ not_allowed → q ≡ not_allowed → choice_of p q ≡ not_allowed
unfolding choice_of
choice_nothing p q e f = rw (e, f) refl

pub name_untaken : (n : Name) (s : Text) (p : Pattern) → takes_name n p ≡ false → attribute_step n s p ≡ not_allowed
unfolding takes_name attribute_step
name_untaken n s (attribute c p) h = ap (λ b. where_true (b && ((nullable p && is_white s) || nullable (text_step s p))) empty) h
name_untaken n s (choice p q) h =
    choice_nothing (attribute_step n s p) (attribute_step n s q) (name_untaken n s p (left_false (takes_name n p) (takes_name n q) h)) (name_untaken n s q (right_false (takes_name n p) (takes_name n q) h))
name_untaken n s (group p q) h =
    choice_nothing (group_of (attribute_step n s p) q) (group_of p (attribute_step n s q))
    (ap (λ x. group_of x q) (name_untaken n s p (left_false (takes_name n p) (takes_name n q) h)))
    (ap (group_of p) (name_untaken n s q (right_false (takes_name n p) (takes_name n q) h)) ∙ group_nothing p)
name_untaken n s (interleave p q) h =
    choice_nothing (interleave_of (attribute_step n s p) q) (interleave_of p (attribute_step n s q))
    (ap (λ x. interleave_of x q) (name_untaken n s p (left_false (takes_name n p) (takes_name n q) h)))
    (ap (interleave_of p) (name_untaken n s q (right_false (takes_name n p) (takes_name n q) h)) ∙ strict_interleave p)
name_untaken n s (one_or_more p) h = ap (λ x. group_of x (more p)) (name_untaken n s p h)
name_untaken n s (after p q) h = ap (λ x. after_of x q) (name_untaken n s p h)
name_untaken n s not_allowed h = refl
name_untaken n s empty h = refl
name_untaken n s text h = refl
name_untaken n s (ref d) h = refl
name_untaken n s (value k v) h = refl
name_untaken n s (data_type k) h = refl
name_untaken n s (data_except k e) h = refl
