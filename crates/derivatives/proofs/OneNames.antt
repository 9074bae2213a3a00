-- The one name of a class is found by its position.
use Rattle.std.proofs.Common.{◌≡◌, ◌==◌, ℕ, zero, suc, ◌<◌, ◌≤◌, ◌⊎◌, inl, inr, true, false, List, [], ◌∷◌, ◌++◌, Option, Some, None, slice_get, slice_index_or, get_or, length, refl, sym, ◌∙◌, ap, subst, arith}
use Rattle.std.specs.Prelude.{IfSome}
use Rattle.std.specs.List.Sorted.{IsStrictlySortedBy}
use Rattle.rng_model.specs.Names.{Name, name_cmp, same_name}
use Rattle.rng_model.specs.Classes.{Class, any, any_except, namespace, namespace_except, one, either, in_class}
use Rattle.rng_model.specs.Patterns.{Schema, not_allowed}
use Rattle.name_classes.specs.Parts.{parts_of}
use Rattle.name_classes.specs.declared.part.Part.{Part}
use Rattle.name_classes.specs.declared.part.Part.TheVariants.{One}
use Rattle.universe_laws.proofs.Tests.{one_name}
use Rattle.universe_laws.proofs.OverlapLaw.{refuse_name}
use Rattle.text_atoms.proofs.Words.{by_test}
use Rattle.name_universe.proofs.Splitting.{one_place}
use Rattle.pattern_intern.specs.Schemas.{Numbered, definition_at}
use Rattle.derivatives.specs.OneNames.{AreOne, IsOne, Tell}

same_some : {X : Type 0} (x y : X) → Some x ≡ Some y → x ≡ y
same_some x y e = cc

is_same : (i p : ℕ) → i ≡ p → (i == p) ≡ true
is_same i p e = grind arith

same_by : (i p : ℕ) → (i == p) ≡ true → i ≡ p
same_by i p e = grind arith

-- of names that ascend
one_position : (names : List Name) → IsStrictlySortedBy name_cmp names → (p : ℕ) (m : Name) → slice_get names p ≡ Some m → IsOne names (one m) p
one_position names up p m at i n there = by_test (same_name n m) here elsewhere
  where
    here : same_name n m ≡ true → same_name n m ≡ (i == p)
    here e = e ∙ sym (is_same i p (one_place names up i p m (there ∙ ap Some (one_name n m e)) at))

    elsewhere : same_name n m ≡ false → same_name n m ≡ (i == p)
    elsewhere e = by_test (i == p)
        (λ h. absurd (refuse_name n m e (same_some n m (sym there ∙ ap (slice_get names) (same_by i p h) ∙ at))))
        (λ h. e ∙ sym h)

one_part : (c : Class) (m : Name) → parts_of c ≡ One m ∷ [] → c ≡ one m
one_part any m e = absurd (cc)
one_part (any_except c) m e = absurd (cc)
one_part (namespace u) m e = absurd (cc)
one_part (namespace_except u c) m e = absurd (cc)
one_part (one n) m e = let h : n ≡ m = cc in ap one h
one_part (either a b) m e = absurd (cc)

-- the position where the one name of a class is found
pub one_found : (names : List Name) (c : Class) (parts : List Part) (x d : Part) (m : Name) (r : Option ℕ) → IsStrictlySortedBy name_cmp names → parts ≡ parts_of c →
    1 ≤ length parts → length parts < 2 → x ≡ get_or parts 0 d → x ≡ One m → IfSome r (λ p. slice_get names p ≡ Some m) → IfSome r (λ p. IsOne names c p)
one_found names c parts x d m None up is least below at named found = tt
one_found names c parts x d m (Some p) up is least below at named found =
    subst (λ y. IsOne names y p) (sym (one_part c m (sym is ∙ alone parts least below (sym at ∙ named)))) (one_position names up p m found)
  where
    alone : (xs : List Part) → 1 ≤ length xs → length xs < 2 → get_or xs 0 d ≡ One m → xs ≡ One m ∷ []
    alone [] l b e = absurd (omega (arith, l))
    alone (y ∷ []) l b e = ap (λ z. z ∷ []) e
    alone (y ∷ z ∷ ys) l b e = absurd (omega (arith, b))

pub none_one : (g : Numbered) (names : List Name) (found : List (Option ℕ)) → found ≡ [] → AreOne g names found
none_one g names found e = record { each = λ k p h. absurd (none k p (subst (λ ps. slice_get ps k ≡ Some (Some p)) e h)) }
  where
    none : (k p : ℕ) → slice_get [] k ≡ Some (Some p) → ⊥
    none k p h = absurd (cc)

abbrev class_in : Schema → ℕ → Class
class_in g k = (slice_index_or g.elements k (record { class = any; content = not_allowed })).class

pub one_extends : (old new : Numbered) (names : List Name) (found : List (Option ℕ)) → AreOne old names found → new.schema ≡ old.schema → AreOne new names found
one_extends old new names found h same = record { each = λ k p e. subst (λ (g : Schema). IsOne names (class_in g k) p) (sym same) (h.each k p e) }

pub tell_later : (old new : Numbered) (n : Name) (i : ℕ) (found : List (Option ℕ)) → Tell old n i found → new.schema ≡ old.schema → Tell new n i found
tell_later old new n i found h same = record { each = λ k p e. subst (λ (g : Schema). in_class n (class_in g k) ≡ (i == p)) (sym same) (h.each k p e) }

pub one_tells : (g : Numbered) (names : List Name) (found : List (Option ℕ)) (n : Name) (i : ℕ) → AreOne g names found → slice_get names i ≡ Some n → Tell g n i found
one_tells g names found n i h at = record { each = λ k p e. h.each k p e i n at }

-- one more
pub one_more : (g : Numbered) (names : List Name) (found : List (Option ℕ)) (r : Option ℕ) → AreOne g names found →
    IfSome r (λ p. IsOne names (definition_at g (length found)).class p) → AreOne g names (found ++ r ∷ [])
one_more g names found r h new = record { each = λ k p e. go k p (behind found k p e) }
  where
    behind : (ps : List (Option ℕ)) (k p : ℕ) → slice_get (ps ++ r ∷ []) k ≡ Some (Some p) → (slice_get ps k ≡ Some (Some p)) ⊎ ((k ≡ length ps) × (r ≡ Some p))
    behind [] zero p e = inr (refl, cc)
    behind [] (suc k) p e = absurd (cc)
    behind (q ∷ ps) zero p e = inl e
    behind (q ∷ ps) (suc k) p e = further (behind ps k p e)
      where
        further : (slice_get ps k ≡ Some (Some p)) ⊎ ((k ≡ length ps) × (r ≡ Some p)) → (slice_get (q ∷ ps) (suc k) ≡ Some (Some p)) ⊎ ((suc k ≡ length (q ∷ ps)) × (r ≡ Some p))
        further (inl m) = inl m
        further (inr (l, m)) = inr (ap suc l, m)

    go : (k p : ℕ) → (slice_get found k ≡ Some (Some p)) ⊎ ((k ≡ length found) × (r ≡ Some p)) → IsOne names (definition_at g k).class p
    go k p (inl m) = h.each k p m
    go k p (inr (l, m)) = subst (λ j. IsOne names (definition_at g j).class p) (sym l) (subst (λ o. IfSome o (λ q. IsOne names (definition_at g (length found)).class q)) m new)
