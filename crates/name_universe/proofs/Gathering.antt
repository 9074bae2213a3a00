-- What classes mention, class by class.
use Rattle.std.proofs.Common.{◌≡◌, ℕ, zero, suc, ◌+◌, ◌<◌, ◌≤◌, ◌⊎◌, inl, inr, ◌↔◌, List, [], ◌∷◌, ◌++◌, length, take, get_or, refl, sym, ◌∙◌, ap, subst, arith, Contains, Some, slice_get}
use Rattle.std.proofs.lemmas.List.{take_more, take_all}
use Rattle.std.proofs.lemmas.List.Elements.{Contains-push_cases, Contains-append_left, Contains-append_right, Contains-append_cases, Contains-push}
use Rattle.rng_model.specs.Texts.{Text}
use Rattle.rng_model.specs.Names.{Name}
use Rattle.rng_model.specs.Classes.{Class, any, any_except, namespace, namespace_except, one, either}
use Rattle.rng_model.specs.Patterns.{Schema, Definition, not_allowed}
use Rattle.rng_model.specs.Universe.{NamesName, NamesSpace, IsElementClass}
use Rattle.universe_laws.specs.Overlaps.{names_in, spaces_in}
use Rattle.text_atoms.proofs.Members.{member_first, member_later, member_cases, member_none, member_at}
use Rattle.pattern_intern.specs.declared.id.ClassId.{ClassId}
use Rattle.pattern_intern.specs.Stored.{Stored, class_at}
use Rattle.pattern_intern.specs.Attributes.{HasClass}
use Rattle.name_universe.specs.Sets.{Adds}
use Rattle.name_universe.specs.Tables.{AreMentions}

names_to : (c : Class) (n : Name) → NamesName c n → Contains (names_in c) n
names_to any n h = absurd h
names_to (any_except c) n h = names_to c n h
names_to (namespace u) n h = absurd h
names_to (namespace_except u c) n h = names_to c n h
names_to (one m) n h = subst (Contains (m ∷ [])) (sym h) (member_first m [])
names_to (either a b) n (inl h) = Contains-append_left (names_in a) (names_in b) n (names_to a n h)
names_to (either a b) n (inr h) = Contains-append_right (names_in a) (names_in b) n (names_to b n h)

names_from : (c : Class) (n : Name) → Contains (names_in c) n → NamesName c n
names_from any n h = member_none n h
names_from (any_except c) n h = names_from c n h
names_from (namespace u) n h = member_none n h
names_from (namespace_except u c) n h = names_from c n h
names_from (one m) n h = elim (member_cases m n [] h) [ inl e ↦ sym e | inr k ↦ absurd (member_none n k) ]
names_from (either a b) n h = elim (Contains-append_cases (names_in a) (names_in b) n h) [ inl k ↦ inl (names_from a n k) | inr k ↦ inr (names_from b n k) ]

spaces_to : (c : Class) (u : Text) → NamesSpace c u → Contains (spaces_in c) u
spaces_to any u h = absurd h
spaces_to (any_except c) u h = spaces_to c u h
spaces_to (namespace v) u h = subst (Contains (v ∷ [])) (sym h) (member_first v [])
spaces_to (namespace_except v c) u (inl h) = subst (Contains (v ∷ spaces_in c)) (sym h) (member_first v (spaces_in c))
spaces_to (namespace_except v c) u (inr h) = member_later v u (spaces_in c) (spaces_to c u h)
spaces_to (one m) u h = subst (Contains (m.ns ∷ [])) (sym h) (member_first m.ns [])
spaces_to (either a b) u (inl h) = Contains-append_left (spaces_in a) (spaces_in b) u (spaces_to a u h)
spaces_to (either a b) u (inr h) = Contains-append_right (spaces_in a) (spaces_in b) u (spaces_to b u h)

spaces_from : (c : Class) (u : Text) → Contains (spaces_in c) u → NamesSpace c u
spaces_from any u h = member_none u h
spaces_from (any_except c) u h = spaces_from c u h
spaces_from (namespace v) u h = elim (member_cases v u [] h) [ inl e ↦ sym e | inr k ↦ absurd (member_none u k) ]
spaces_from (namespace_except v c) u h = elim (member_cases v u (spaces_in c) h) [ inl e ↦ inl (sym e) | inr k ↦ inr (spaces_from c u k) ]
spaces_from (one m) u h = elim (member_cases m.ns u [] h) [ inl e ↦ sym e | inr k ↦ absurd (member_none u k) ]
spaces_from (either a b) u h = elim (Contains-append_cases (spaces_in a) (spaces_in b) u h) [ inl k ↦ inl (spaces_from a u k) | inr k ↦ inr (spaces_from b u k) ]

-- no class mentions nothing
pub no_mentions : (C : Class → Type 0) → ((c : Class) → C c → ⊥) → (names : List Name) (spaces : List Text) → names ≡ [] → spaces ≡ [] → AreMentions C names spaces
no_mentions C none names spaces e f = rw (e, f) record {
  names = λ n. (λ h. absurd (member_none n h), λ h. absurd (none h.0 h.1));
  spaces = λ u. (λ h. absurd (member_none u h), λ h. absurd (none h.0 h.1));
}

-- one class more
pub more_mentions : (C D : Class → Type 0) (x : Class) → ((c : Class) → D c ↔ (C c ⊎ (c ≡ x))) → (names more_names : List Name) (spaces more_spaces : List Text) → AreMentions C names spaces →
    Adds Name names more_names (names_in x) → Adds Text spaces more_spaces (spaces_in x) → AreMentions D more_names more_spaces
more_mentions C D x grown names more_names spaces more_spaces are a b = record { names = λ n. (name_to n, name_from n); spaces = λ u. (space_to u, space_from u) }
  where
    name_to : (n : Name) → Contains more_names n → (c : Class) × D c × NamesName c n
    name_to n h = elim ((a.each n).0 h) [
      | inl k ↦ let (c, holds, m) = (are.names n).0 k in (c, (grown c).1 (inl holds), m)
      | inr k ↦ (x, (grown x).1 (inr refl), names_from x n k)
    ]

    name_from : (n : Name) → (c : Class) × D c × NamesName c n → Contains more_names n
    name_from n (c, holds, m) = elim ((grown c).0 holds) [
      | inl k ↦ (a.each n).1 (inl ((are.names n).1 (c, k, m)))
      | inr e ↦ (a.each n).1 (inr (names_to x n (subst (λ (d : Class). NamesName d n) e m)))
    ]

    space_to : (u : Text) → Contains more_spaces u → (c : Class) × D c × NamesSpace c u
    space_to u h = elim ((b.each u).0 h) [
      | inl k ↦ let (c, holds, m) = (are.spaces u).0 k in (c, (grown c).1 (inl holds), m)
      | inr k ↦ (x, (grown x).1 (inr refl), spaces_from x u k)
    ]

    space_from : (u : Text) → (c : Class) × D c × NamesSpace c u → Contains more_spaces u
    space_from u (c, holds, m) = elim ((grown c).0 holds) [
      | inl k ↦ (b.each u).1 (inl ((are.spaces u).1 (c, k, m)))
      | inr e ↦ (b.each u).1 (inr (spaces_to x u (subst (λ (d : Class). NamesSpace d u) e m)))
    ]

-- of classes that are the same
pub mentions_as : (C D : Class → Type 0) → ((c : Class) → C c ↔ D c) → (names : List Name) (spaces : List Text) → AreMentions C names spaces → AreMentions D names spaces
mentions_as C D same names spaces are = record {
  names = λ n. (λ h. (let (c, k, m) = (are.names n).0 h in (c, (same c).0 k, m)), λ (c, k, m). (are.names n).1 (c, (same c).1 k, m));
  spaces = λ u. (λ h. (let (c, k, m) = (are.spaces u).0 h in (c, (same c).0 k, m)), λ (c, k, m). (are.spaces u).1 (c, (same c).1 k, m));
}

-- the classes of the first k definitions
abbrev pub IsClassBelow : List Definition → ℕ → Class → Type 0
IsClassBelow es k c = (d : ℕ) × (e : Definition) × (d < k) × (slice_get es d ≡ Some e) × (c ≡ e.class)

some_at : (es : List Definition) (k : ℕ) → k < length es → slice_get es k ≡ Some (get_or es k (record { class = any; content = not_allowed }))
some_at [] k h = absurd (omega arith)
some_at (x ∷ es) zero h = refl
some_at (x ∷ es) (suc k) h = some_at es k (omega arith)

pub earlier_or_this : (d k : ℕ) → d < k + 1 → (d < k) ⊎ (d ≡ k)
earlier_or_this zero zero h = inr refl
earlier_or_this zero (suc k) h = inl (omega arith)
earlier_or_this (suc d) zero h = absurd (omega arith)
earlier_or_this (suc d) (suc k) h = elim (earlier_or_this d k (omega arith)) [ inl l ↦ inl (omega arith) | inr e ↦ inr (ap suc e) ]

pub next_class : (es : List Definition) (k : ℕ) (x : Class) → k < length es → x ≡ (get_or es k (record { class = any; content = not_allowed })).class → (c : Class) →
    IsClassBelow es (k + 1) c ↔ (IsClassBelow es k c ⊎ (c ≡ x))
next_class es k x h is c = (to, from)
  where
    to : IsClassBelow es (k + 1) c → IsClassBelow es k c ⊎ (c ≡ x)
    to (d, e, l, at, same) = elim (earlier_or_this d k l) [
      | inl m ↦ inl (d, e, m, at, same)
      | inr f ↦
          let both : Some e ≡ Some (get_or es k (record { class = any; content = not_allowed })) = sym at ∙ ap (slice_get es) f ∙ some_at es k h in
          let one : e ≡ get_or es k (record { class = any; content = not_allowed }) = cc in
          inr (same ∙ ap (λ (y : Definition). y.class) one ∙ sym is)
    ]

    from : IsClassBelow es k c ⊎ (c ≡ x) → IsClassBelow es (k + 1) c
    from (inl (d, e, l, at, same)) = (d, e, omega arith, at, same)
    from (inr e) = (k, get_or es k (record { class = any; content = not_allowed }), omega arith, some_at es k h, e ∙ is)

below_end : (es : List Definition) (d : ℕ) (e : Definition) → slice_get es d ≡ Some e → d < length es
below_end [] d e h = absurd (cc)
below_end (x ∷ es) zero e h = omega arith
below_end (x ∷ es) (suc d) e h = let k = below_end es d e h in omega arith

pub all_classes : (g : Schema) (k : ℕ) → length g.elements ≤ k → (c : Class) → IsClassBelow g.elements k c ↔ IsElementClass g c
all_classes g k h c = (λ (d, e, l, at, same). (d, e, at, same), λ (d, e, at, same). (d, e, (let m = below_end g.elements d e at in omega arith), at, same))

pub no_class : (es : List Definition) (c : Class) → IsClassBelow es 0 c → ⊥
no_class es c (d, e, l, at, same) = omega arith

-- the classes of the first k numbers
pub next_number : (s : Stored) (ids : List ClassId) (k : ℕ) (d : ClassId) → k < length ids → (x : Class) → x ≡ class_at s (get_or ids k d).0 → (c : Class) →
    HasClass s (take (k + 1) ids) c ↔ (HasClass s (take k ids) c ⊎ (c ≡ x))
next_number s ids k d h x e c = (to, from)
  where
    grown : take (k + 1) ids ≡ take k ids ++ get_or ids k d ∷ []
    grown = take_more ids k d h

    to : HasClass s (take (k + 1) ids) c → HasClass s (take k ids) c ⊎ (c ≡ x)
    to (y, m, f) = elim (Contains-push_cases (take k ids) (get_or ids k d) y (subst (λ (ys : List ClassId). Contains ys y) grown m)) [
      | inl j ↦ inl (y, j, f)
      | inr same ↦ inr (f ∙ ap (λ (z : ClassId). class_at s z.0) (sym same) ∙ sym e)
    ]

    from : HasClass s (take k ids) c ⊎ (c ≡ x) → HasClass s (take (k + 1) ids) c
    from (inl (y, m, f)) = (y, subst (λ (ys : List ClassId). Contains ys y) (sym grown) (Contains-append_left (take k ids) (get_or ids k d ∷ []) y m), f)
    from (inr f) = (get_or ids k d, subst (λ (ys : List ClassId). Contains ys (get_or ids k d)) (sym grown) (Contains-push (take k ids) (get_or ids k d)), f ∙ e)

pub number_in : (ids : List ClassId) (k : ℕ) (d : ClassId) → k < length ids → Contains ids (get_or ids k d)
number_in [] k d h = absurd (omega arith)
number_in (x ∷ ids) zero d h = member_first x ids
number_in (x ∷ ids) (suc k) d h = member_later x (get_or ids k d) ids (number_in ids k d (omega arith))

pub no_number : (s : Stored) (ids : List ClassId) (c : Class) → HasClass s (take 0 ids) c → ⊥
no_number s ids c (x, m, e) = member_none x m

pub all_numbers : (s : Stored) (ids : List ClassId) (k : ℕ) → length ids ≤ k → (D : Class → Type 0) → ((c : Class) → HasClass s ids c ↔ D c) → (c : Class) → HasClass s (take k ids) c ↔ D c
all_numbers s ids k long D each = subst (λ (ys : List ClassId). (c : Class) → HasClass s ys c ↔ D c) (sym (take_all k ids long)) each
