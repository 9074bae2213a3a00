-- Sets of the names of a window.
use Rattle.std.proofs.Common.{◌≡◌, ◌≢◌, ℕ, ◌+◌, ◌<◌, ◌≤◌, ◌⊎◌, inl, inr, Bool, true, false, not, ◌&&◌, ◌||◌, List, [], ◌∷◌, ◌++◌, Some, Contains, length, get_or, slice_get, refl, sym, ◌∙◌, ap, subst, arith}
use Rattle.std.specs.Str.{bytes_eq}
use Rattle.std.specs.declared.cmp.Ordering.TheVariants.{Less, Equal}
use Rattle.std.proofs.lemmas.Cmp.{tied_itself}
use Rattle.std.proofs.lemmas.Map.Keys.{Less-from_sorted}
use Rattle.std.proofs.lemmas.Option.{slice_get_within, get_or_from_slice_get}
use Rattle.rng_model.specs.Texts.{Text}
use Rattle.rng_model.specs.Names.{Name, name_cmp, same_name}
use Rattle.rng_model.specs.Classes.{Class, any, any_except, namespace, namespace_except, one, either, in_class}
use Rattle.rng_model.proofs.Groups.{lesser}
use Rattle.rng_model.proofs.Orders.{name_order}
use Rattle.universe_laws.proofs.Tests.{Which, which, yes, no, other_name}
use Rattle.universe_laws.proofs.OverlapLaw.{refuse_name}
use Rattle.name_classes.specs.declared.part.Part.{Part}
use Rattle.name_classes.specs.Parts.{parts_of, excepts, is_choice, in_parts}
use Rattle.name_classes.proofs.Reading.{IsLeft, left_first, left_choice, left_class, left_none, left_some, excepting, alone}
use Rattle.restrictions.proofs.Numbers.{same_or}
use Rattle.restrictions.specs.NameSets.{has, IsWindow, IsSetOf, IsOfSpace, in_part, taken_by}
use Rattle.restrictions.specs.declared.name_set.NameSet.{NameSet}

-- of the first places, those of names of the namespace
pub record AreOfSpace (names : List Name) (u : Text) (m : ℕ) (s : NameSet) : Type 0 where
  pub before : (k : ℕ) (n : Name) → slice_get names k ≡ Some n → k < m → has s k ≡ bytes_eq n.ns u
  pub behind : (k : ℕ) → m ≤ k → has s k ≡ false

-- of a class, so many classes are left to be read, and the names in it are those that were found and those in one of them
pub record AreLeft (names : List Name) (c : Class) (more : List Part) (left : ℕ) (taken : NameSet) (rest : List Part) : Type 0 where
  pub each : (k : ℕ) (n : Name) → slice_get names k ≡ Some n → IsLeft (in_part n) c more left (has taken k) rest

or_none : (b : Bool) → (b || false) ≡ b
or_none true = refl
or_none false = refl

named : (m n : Name) → m ≡ n → same_name m n ≡ true
named m n e = go (which (same_name m n))
  where
    go : Which (same_name m n) → same_name m n ≡ true
    go (yes t) = t
    go (no f) = absurd (refuse_name m n f e)

-- the name at a place is one
at_once : (names : List Name) (k : ℕ) (m n : Name) → slice_get names k ≡ Some m → slice_get names k ≡ Some n → m ≡ n
at_once names k m n e f = let g : Some m ≡ Some n = sym e ∙ f in cc

module _ (names : List Name) (w : IsWindow names) where
  -- each name stands once
  in_order : (i j : ℕ) (n : Name) → slice_get names i ≡ Some n → slice_get names j ≡ Some n → i < j → ⊥
  in_order i j n e f l =
      let a : get_or names i n ≡ n = get_or_from_slice_get names i n n e in
      let b : get_or names j n ≡ n = get_or_from_slice_get names j n n f in
      let less : name_cmp (get_or names i n) (get_or names j n) ≡ Less = Less-from_sorted name_cmp names i j n w.ascending l (slice_get_within names j n f) in
      let tied : name_cmp n n ≡ Equal = tied_itself name_order n in
      let same : name_cmp (get_or names i n) (get_or names j n) ≡ name_cmp n n = (λ t. name_cmp (a t) (b t)) in
      let clash : Less ≡ Equal = sym less ∙ same ∙ tied in
      cc

  once : (i j : ℕ) (n : Name) → slice_get names i ≡ Some n → slice_get names j ≡ Some n → i ≡ j
  once i j n e f = go (lesser i j) (lesser j i)
    where
      go : (i < j) ⊎ (j ≤ i) → (j < i) ⊎ (i ≤ j) → i ≡ j
      go (inl l) y = absurd (in_order i j n e f l)
      go (inr l) (inl m) = absurd (in_order j i n f e m)
      go (inr l) (inr m) = omega (arith, l, m)

  pub first : (n : Name) × (slice_get names 0 ≡ Some n)
  first = go names w.some
    where
      go : (ns : List Name) → 0 < length ns → (n : Name) × (slice_get ns 0 ≡ Some n)
      go [] l = absurd (omega (arith, l))
      go (n ∷ ns) l = (n, refl)

  pub within : (k : ℕ) (n : Name) → slice_get names k ≡ Some n → k < 64
  within k n e = let l = slice_get_within names k n e in let f = w.few in omega (arith, l, f)

  pub all_are : (s : NameSet) → ((k : ℕ) → k < 64 → has s k ≡ true) → IsSetOf names (λ n. true) s
  all_are s all = record { each = λ k n e. all k (within k n e) }

  pub only_is : (p : ℕ) (m : Name) (s : NameSet) → slice_get names p ≡ Some m → has s p ≡ true → ((k : ℕ) → k ≢ p → has s k ≡ false) → IsSetOf names (λ n. same_name n m) s
  only_is p m s at itself others = record { each = λ k n e. go k n e (same_or k p) }
    where
      go : (k : ℕ) (n : Name) → slice_get names k ≡ Some n → (k ≡ p) ⊎ (k ≢ p) → has s k ≡ same_name n m
      go k n e (inl q) = ap (has s) q ∙ itself ∙ sym (named n m (at_once names p n m (sym (ap (slice_get names) q) ∙ e) at))
      go k n e (inr q) = others k q ∙ sym (other_name n m (λ i. q (once k p m (e ∙ ap Some i) at)))

  pub none_is : (m : Name) (s : NameSet) → (Contains names m → ⊥) → ((k : ℕ) → has s k ≡ false) → IsSetOf names (λ n. same_name n m) s
  none_is m s absent none = record {
    each = λ k n e. none k ∙ sym (other_name n m (λ i. absent (k, slice_get_within names k n e, get_or_from_slice_get names k m m (e ∙ ap Some i))));
  }

  -- the names of a namespace, place by place
  pub space_begun : (u : Text) (s : NameSet) → ((k : ℕ) → has s k ≡ false) → AreOfSpace names u 0 s
  space_begun u s none = record { before = λ k n e l. absurd (omega (arith, l)); behind = λ k l. none k }

  pub space_more : (u : Text) (p : ℕ) (s t r : NameSet) → AreOfSpace names u p s → IsOfSpace names u p t → ((k : ℕ) → has r k ≡ (has s k || has t k)) → AreOfSpace names u (p + 1) r
  space_more u p s t r a b joined = record {
    before = λ k n e l. go k n e l (same_or k p);
    behind = λ k l. joined k ∙ ap (λ c. c || has t k) (a.behind k (omega (arith, l))) ∙ b.others k (λ q. let h = q in absurd (omega (arith, h, l)));
  }
    where
      go : (k : ℕ) (n : Name) → slice_get names k ≡ Some n → k < p + 1 → (k ≡ p) ⊎ (k ≢ p) → has r k ≡ bytes_eq n.ns u
      go k n e l (inl q) =
          joined k ∙ ap (λ c. c || has t k) (a.behind k (omega (arith, q))) ∙ ap (has t) q ∙ b.itself n (sym (ap (slice_get names) q) ∙ e)
      go k n e l (inr q) =
          joined k ∙ ap (λ c. has s k || c) (b.others k q) ∙ or_none (has s k) ∙ a.before k n e (omega (arith, l, q))

  pub space_is : (u : Text) (p : ℕ) (s : NameSet) → length names ≤ p → AreOfSpace names u p s → IsSetOf names (λ n. bytes_eq n.ns u) s
  space_is u p s l a = record { each = λ k n e. a.before k n e (let m = slice_get_within names k n e in omega (arith, l, m)) }

  -- what is left of a class, name by name
  pub class_begun : (c : Class) (more parts : List Part) (s : NameSet) → ((k : ℕ) → has s k ≡ false) → parts ≡ parts_of c ++ more → AreLeft names c more 1 s parts
  class_begun c more parts s none e = record { each = λ k n at. subst (λ b. IsLeft (in_part n) c more 1 b parts) (sym (none k)) (left_first (in_part n) c more parts e) }

  pub class_choice : (c : Class) (more : List Part) (left : ℕ) (s : NameSet) (rest behind : List Part) (p : Part) →
      0 < left → rest ≡ p ∷ behind → is_choice p ≡ true → AreLeft names c more left s rest → AreLeft names c more (left + 1) s behind
  class_choice c more left s rest behind p some is h l = record { each = λ k n at. left_choice (in_part n) c more left (has s k) rest behind p some is h (l.each k n at) }

  pub class_more : (c : Class) (more : List Part) (left : ℕ) (s t r : NameSet) (rest behind after : List Part) (p : Part) → 0 < left → rest ≡ p ∷ behind →
      ((d : Class) (ps : List Part) → p ∷ behind ≡ parts_of d ++ ps → IsSetOf names (taken_by d) t × (after ≡ ps)) →
      ((k : ℕ) → has r k ≡ (has s k || has t k)) → AreLeft names c more left s rest → (new : ℕ) → new + 1 ≡ left → AreLeft names c more new r after
  class_more c more left s t r rest behind after p some is taken joined l new less = record {
    each = λ k n at. subst (λ b. IsLeft (in_part n) c more new b after) (sym (joined k))
        (left_class (in_part n) c more left (has s k) (has t k) rest behind after p some is (λ d ps e. let x = taken d ps e in (x.0.each k n at, x.1)) (l.each k n at) new less);
  }

  pub class_done : (c : Class) (more : List Part) (left : ℕ) (s : NameSet) (rest : List Part) → left ≡ 0 → AreLeft names c more left s rest → IsSetOf names (taken_by c) s × (rest ≡ more)
  class_done c more left s rest none l = (
    record { each = λ k n at. (left_none (in_part n) c more left (has s k) rest none (l.each k n at)).0 },
    (left_none (in_part first.0) c more left (has s 0) rest none (l.each 0 first.0 first.1)).1,
  )

  pub class_cut : {A : Type 0} (c : Class) (more : List Part) (left : ℕ) (s : NameSet) (rest : List Part) → 0 < left → length rest ≡ 0 → AreLeft names c more left s rest → A
  class_cut c more left s rest some ends l = left_some (in_part first.0) c more left (has s 0) rest some ends (l.each 0 first.0 first.1)

  -- a part in front of an except, and a part alone
  pub part_except : (p : Part) (ps more after : List Part) (c : Class) (s t r : NameSet) → excepts p ≡ true → p ∷ ps ≡ parts_of c ++ more →
      IsSetOf names (λ n. in_part n p) s → ((d : Class) (qs : List Part) → ps ≡ parts_of d ++ qs → IsSetOf names (taken_by d) t × (after ≡ qs)) →
      ((k : ℕ) → k < 64 → has r k ≡ (has s k && not (has t k))) → IsSetOf names (taken_by c) r × (after ≡ more)
  part_except p ps more after c s t r h e inside excepted rest = (record { each = each }, behind)
    where
      each : (k : ℕ) (n : Name) → slice_get names k ≡ Some n → has r k ≡ in_parts (in_part n) c
      each k n at =
          let x = excepting (in_part n) p ps more c h e in
          let y = excepted x.0 more x.1 in
          rest k (within k n at) ∙ (λ i. inside.each k n at i && not (y.0.each k n at i)) ∙ x.2

      behind : after ≡ more
      behind = let x = excepting (in_part first.0) p ps more c h e in (excepted x.0 more x.1).1

  pub part_alone : (p : Part) (ps more : List Part) (c : Class) (s : NameSet) → excepts p ≡ false → is_choice p ≡ false → p ∷ ps ≡ parts_of c ++ more →
      IsSetOf names (λ n. in_part n p) s → IsSetOf names (taken_by c) s × (ps ≡ more)
  part_alone p ps more c s h i e inside = (
    record { each = λ k n at. inside.each k n at ∙ (alone (in_part n) p ps more c h i e).1 },
    (alone (in_part first.0) p ps more c h i e).0,
  )

-- a class by its parts
pub by_parts : (n : Name) (c : Class) → in_parts (in_part n) c ≡ in_class n c
by_parts n any = refl
by_parts n (any_except c) = ap not (by_parts n c)
by_parts n (namespace u) = refl
by_parts n (namespace_except u c) = ap (λ b. bytes_eq n.ns u && not b) (by_parts n c)
by_parts n (one m) = refl
by_parts n (either a b) = λ i. by_parts n a i || by_parts n b i

pub set_by_parts : (names : List Name) (c : Class) (s : NameSet) → IsSetOf names (taken_by c) s → IsSetOf names (λ n. in_class n c) s
set_by_parts names c s h = record { each = λ k n at. h.each k n at ∙ by_parts n c }
