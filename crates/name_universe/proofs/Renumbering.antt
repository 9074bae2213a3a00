-- Groups of equal numbers.
use Rattle.std.proofs.Common.{◌≡◌, ℕ, zero, suc, ◌+◌, ◌<◌, ◌≤◌, ◌⊎◌, inl, inr, ◌↔◌, Bool, true, false, List, [], ◌∷◌, ◌++◌, length, take, get_or, slice_get, Some, refl, sym, ◌∙◌, ap, subst, arith, nat_eq, length-append}
use Rattle.std.specs.List.{position_or_len}
use Rattle.std.proofs.lemmas.List.{take_more, take_all}
use Rattle.std.proofs.lemmas.Option.{slice_get_within}
use Rattle.indexmap.specs.IndexSet.{insert_key}
use Rattle.pattern_intern.specs.Interned.{IsTaken}
use Rattle.rng_model.specs.Alike.{AreNumbered, AreGroups, group_count}
use Rattle.text_atoms.proofs.Numbering.{numbered-push, count-push}
use Rattle.name_universe.specs.Partitions.{AreDistinct}
use Rattle.name_universe.proofs.Places.{get_front, get_last, get_cases, taken, taken-at, taken-kept, taken-distinct}

same_some : {X : Type 0} (x y : X) → Some x ≡ Some y → x ≡ y
same_some x y e = cc

nat_same : (n : ℕ) → nat_eq n n ≡ true
nat_same n = grind arith

nat_tells : (m n : ℕ) → nat_eq m n ≡ true → m ≡ n
nat_tells m n h = grind (arith, h)

-- the groups of some numbers, each the place of its number among those that were seen
pub record IsRenumbered (xs : List ℕ) (ks : List ℕ) (seen : List ℕ) : Type 0 where
  pub same_length : length ks ≡ length xs
  pub each : (i x : ℕ) → slice_get xs i ≡ Some x → (g : ℕ) × (slice_get ks i ≡ Some g) × (slice_get seen g ≡ Some x)
  pub distinct : AreDistinct seen
  pub count : group_count ks ≡ length seen
  pub numbered : AreNumbered 0 ks

pub none_numbered : (ks seen : List ℕ) → ks ≡ [] → seen ≡ [] → IsRenumbered [] ks seen
none_numbered ks seen e f = rw (e, f) (record { same_length = refl; each = λ i x e. (cc); distinct = λ i j x e f. (cc); count = refl; numbered = tt })

module _ (xs ks seen : List ℕ) (x g : ℕ) (now : List ℕ) (h : IsRenumbered xs ks seen) where
  known : IsTaken (λ t. t) seen x g now → g ≤ group_count ks
  known (inl t) = let l = slice_get_within seen g t.key t.there in omega (arith, l, h.count)
  known (inr t) = omega (arith, t.last, h.count)

  counted : IsTaken (λ t. t) seen x g now → group_count (ks ++ g ∷ []) ≡ length now
  counted (inl t) =
      let l = slice_get_within seen g t.key t.there in
      let long : length now ≡ length seen = ap length t.keys in
      omega (arith, count-push ks g, h.count, l, long)
  counted (inr t) =
      let long : length now ≡ length seen + 1 = ap length t.keys ∙ length-append seen (x ∷ []) in
      omega (arith, count-push ks g, h.count, t.last, long)

  more : IsTaken (λ t. t) seen x g now → IsRenumbered (xs ++ x ∷ []) (ks ++ g ∷ []) now
  more t = record {
    same_length = length-append ks (g ∷ []) ∙ ap (λ (n : ℕ). n + 1) h.same_length ∙ sym (length-append xs (x ∷ []));
    each = λ i y e. each i y (get_cases xs x y i e);
    distinct = taken-distinct seen now x g t h.distinct;
    count = counted t;
    numbered = numbered-push ks g h.numbered (known t);
  }
    where
      each : (i y : ℕ) → (slice_get xs i ≡ Some y) ⊎ ((i ≡ length xs) × (y ≡ x)) → (k : ℕ) × (slice_get (ks ++ g ∷ []) i ≡ Some k) × (slice_get now k ≡ Some y)
      each i y (inl e) = let (k, at, stored) = h.each i y e in (k, get_front ks (g ∷ []) i k at, taken-kept seen now x g t k y stored)
      each i y (inr (e, same)) = (g, ap (slice_get (ks ++ g ∷ [])) (e ∙ sym h.same_length) ∙ get_last ks g, taken-at seen now x g t ∙ ap Some (sym same))

module _ (items : List ℕ) (n d : ℕ) (ks seen : List ℕ) (g : ℕ) (now : List ℕ) (below : n < length items) (h : IsRenumbered (take n items) ks seen)
    (inserted : now ≡ insert_key nat_eq seen (get_or items n d)) (index : g ≡ position_or_len (nat_eq (get_or items n d)) seen)
    (found : (a : ℕ) × (slice_get now g ≡ Some a) × (nat_eq (get_or items n d) a ≡ true)) where
  this : IsTaken (λ t. t) seen (get_or items n d) g now
  this = let (a, stored, equal) = found in taken nat_eq nat_same nat_tells seen now (get_or items n d) g inserted index a stored equal

  pub group_known : g ≤ group_count ks
  group_known = known (take n items) ks seen (get_or items n d) g now h this

  pub number_more : (new : List ℕ) → new ≡ ks ++ g ∷ [] → IsRenumbered (take (n + 1) items) new now
  number_more new is = rw (is, take_more items n d below) (more (take n items) ks seen (get_or items n d) g now h this)

pub all_numbered : (items : List ℕ) (n : ℕ) (ks seen : List ℕ) → length items ≤ n → IsRenumbered (take n items) ks seen → AreGroups ℕ (λ a b. a ≡ b) items ks
all_numbered items n ks seen long g = groups (subst (λ (xs : List ℕ). IsRenumbered xs ks seen) (take_all n items long) g)
  where
    groups : IsRenumbered items ks seen → AreGroups ℕ (λ a b. a ≡ b) items ks
    groups h = record { same_length = h.same_length; each = λ i j x y e f. each i j x y (h.each i x e) (h.each j y f); numbered = h.numbered }
      where
        each : (i j x y : ℕ) → (k : ℕ) × (slice_get ks i ≡ Some k) × (slice_get seen k ≡ Some x) → (k : ℕ) × (slice_get ks j ≡ Some k) × (slice_get seen k ≡ Some y) →
            (slice_get ks i ≡ slice_get ks j) ↔ (x ≡ y)
        each i j x y (k, at, stored) (l, there, also) = (
          λ e. (let same : k ≡ l = same_some k l (sym at ∙ e ∙ there) in same_some x y (sym stored ∙ ap (slice_get seen) same ∙ also)),
          λ e. (let same : k ≡ l = h.distinct k l y (stored ∙ ap Some e) also in at ∙ ap Some same ∙ sym there),
        )
