-- Positions that are split off, one after another.
use Rattle.std.proofs.Common.{◌≡◌, ℕ, zero, suc, ◌+◌, ◌<◌, ◌⊎◌, inl, inr, ◌↔◌, Bool, true, false, ◌&&◌, List, [], ◌∷◌, length, slice_get, slice_set, Some, refl, sym, ◌∙◌, ap, subst, arith, true≢false, nat_eq, Contains}
use Rattle.indexmap.specs.IndexSet.{insert_key}
use Rattle.pattern_intern.specs.Interned.{IsTaken}
use Rattle.rng_model.specs.Names.{Name}
use Rattle.rng_model.specs.Classes.{Class, in_class}
use Rattle.name_universe.specs.declared.split.Split.{Split}
use Rattle.name_universe.specs.contracts.split.SplitPartialEq.TheImpl as split_eq
use Rattle.name_universe.specs.Partitions.{AreDistinct, IsBlockOf, AreSplit, IsOnSide}
use Rattle.std.proofs.Common.{◌≤◌, get_or}
use Rattle.std.specs.declared.cmp.Ordering.TheVariants.{Less, Equal}
use Rattle.std.specs.Cmp.{tied_itself}
use Rattle.std.specs.List.Sorted.{IsStrictlySortedBy}
use Rattle.std.proofs.lemmas.Map.Keys.{Less-from_sorted}
use Rattle.std.proofs.lemmas.Option.{slice_get_within, get_or_from_slice_get}
use Rattle.rng_model.specs.Names.{name_cmp}
use Rattle.rng_model.proofs.Orders.{name_order}
use Rattle.rng_model.proofs.Groups.{lesser}
use Rattle.text_atoms.proofs.Members.{member_at}
use Rattle.name_universe.proofs.Places.{taken, taken-at, taken-kept, taken-cases, taken-distinct}

-- ---- the test of what is split off tells it apart
both_true : (a b : Bool) → (a && b) ≡ true → (a ≡ true) × (b ≡ true)
both_true true b h = (refl, h)
both_true false b h = absurd (true≢false (sym h))

nat_tells : (m n : ℕ) → nat_eq m n ≡ true → m ≡ n
nat_tells m n h = grind (arith, h)

pub split_same : (s : Split) → split_eq.eq-value.it s s ≡ true
split_same s = grind arith

pub split_tells : (s t : Split) → split_eq.eq-value.it s t ≡ true → s ≡ t
split_tells s t h =
    let (p, q) = both_true (nat_eq s.block t.block) (nat_eq s.class t.class) h in
    let e = nat_tells s.block t.block p in
    let f = nat_tells s.class t.class q in
    (λ i. record { block = e i; class = f i })

-- ---- one position
get_set : (xs : List ℕ) (p b : ℕ) → p < length xs → slice_get (slice_set xs p b) p ≡ Some b
get_set [] p b h = absurd (omega arith)
get_set (x ∷ xs) zero b h = refl
get_set (x ∷ xs) (suc p) b h = get_set xs p b (omega arith)

get_set_other : (xs : List ℕ) (p b i : ℕ) → (i ≡ p → ⊥) → slice_get (slice_set xs p b) i ≡ slice_get xs i
get_set_other [] p b i h = refl
get_set_other (x ∷ xs) zero b zero h = absurd (h refl)
get_set_other (x ∷ xs) zero b (suc i) h = refl
get_set_other (x ∷ xs) (suc p) b zero h = refl
get_set_other (x ∷ xs) (suc p) b (suc i) h = get_set_other xs p b i (λ e. h (ap suc e))

length_set : (xs : List ℕ) (p b : ℕ) → length (slice_set xs p b) ≡ length xs
length_set [] p b = refl
length_set (x ∷ xs) zero b = refl
length_set (x ∷ xs) (suc p) b = ap suc (length_set xs p b)

pub split_one : (was : List ℕ) (p class block b k : ℕ) (had has : List Split) → p < length was → slice_get was p ≡ Some block → b ≡ k + 1 →
    IsTaken (λ s. s) had (record { block = block; class = class }) k has → AreSplit (λ i. i ≡ p) class was (slice_set was p b) had has
split_one was p class block b k had has below at is t = record {
  same_length = length_set was p b;
  distinct = taken-distinct had has _ k t;
  kept = taken-kept had has _ k t;
  added = λ q s e. elim (taken-cases had has _ k t q s e) [ inl f ↦ inl f | inr f ↦ inr (ap (λ (r : Split). r.class) f) ];
  inside = λ i a e f. (b, subst (λ (j : ℕ). slice_get (slice_set was p b) j ≡ Some b) (sym f) (get_set was p b below), (k, stored i a e f, is));
  outside = λ i a e f. get_set_other was p b i f ∙ e;
}
  where
    stored : (i a : ℕ) → slice_get was i ≡ Some a → i ≡ p → slice_get has k ≡ Some (record { block = a; class = class })
    stored i a e f =
        let both : Some block ≡ Some a = sym at ∙ ap (slice_get was) (sym f) ∙ e in
        let same : block ≡ a = cc in
        taken-at had has _ k t ∙ (λ i. Some (record { block = same i; class = class }))

-- ---- one position more
pub split_none : (class : ℕ) (was : List ℕ) (had : List Split) → AreSplit (λ i. ⊥) class was was had had
split_none class was had = record { same_length = refl; distinct = λ d. d; kept = λ k s e. e; added = λ k s e. inl e; inside = λ i b e f. absurd f; outside = λ i b e f. e }

pub split_as : (S T : ℕ → Type 0) (class : ℕ) (was now : List ℕ) (had has : List Split) → ((i : ℕ) → S i → T i) → ((i : ℕ) → T i → S i) → AreSplit S class was now had has → AreSplit T class was now had has
split_as S T class was now had has to from h = record {
  same_length = h.same_length;
  distinct = h.distinct;
  kept = h.kept;
  added = h.added;
  inside = λ i b e f. h.inside i b e (from i f);
  outside = λ i b e f. h.outside i b e (λ g. f (to i g));
}

pub split_then : (S T : ℕ → Type 0) (class : ℕ) (was mid now : List ℕ) (had between has : List Split) → AreSplit S class was mid had between → AreSplit T class mid now between has → ((i : ℕ) → S i → T i → ⊥) →
    AreSplit (λ i. S i ⊎ T i) class was now had has
split_then S T class was mid now had between has g h apart = record {
  same_length = h.same_length ∙ g.same_length;
  distinct = λ d. h.distinct (g.distinct d);
  kept = λ k s e. h.kept k s (g.kept k s e);
  added = λ k s e. elim (h.added k s e) [ inl f ↦ g.added k s f | inr f ↦ inr f ];
  inside = inside;
  outside = λ i b e f. h.outside i b (g.outside i b e (λ s. f (inl s))) (λ s. f (inr s));
}
  where
    inside : (i b : ℕ) → slice_get was i ≡ Some b → S i ⊎ T i → (c : ℕ) × (slice_get now i ≡ Some c) × IsBlockOf has (record { block = b; class = class }) c
    inside i b e (inl s) =
        let (c, at, (k, stored, is)) = g.inside i b e s in
        (c, h.outside i c at (apart i s), (k, h.kept k _ stored, is))
    inside i b e (inr f) = h.inside i b (g.outside i b e (λ s. apart i s f)) f

-- ---- the position of a name
same_some : {X : Type 0} (x y : X) → Some x ≡ Some y → x ≡ y
same_some x y e = cc

places : (names : List Name) → IsStrictlySortedBy name_cmp names → (i j : ℕ) (m : Name) → slice_get names i ≡ Some m → slice_get names j ≡ Some m → i < j → ⊥
places names up i j m e f less =
    let below : name_cmp (get_or names i m) (get_or names j m) ≡ Less = Less-from_sorted name_cmp names i j m up less (slice_get_within names j m f) in
    let both : name_cmp m m ≡ Less = (λ k. name_cmp (sym (get_or_from_slice_get names i m m e) k) (sym (get_or_from_slice_get names j m m f) k)) ∙ below in
    let clash : Equal ≡ Less = sym (tied_itself name_order m) ∙ both in
    cc

pub one_place : (names : List Name) → IsStrictlySortedBy name_cmp names → (i j : ℕ) (m : Name) → slice_get names i ≡ Some m → slice_get names j ≡ Some m → i ≡ j
one_place names up i j m e f = elim (lesser i j) [
  | inl less ↦ absurd (places names up i j m e f less)
  | inr le ↦ elim (lesser j i) [ inl less ↦ absurd (places names up j i m f e less) | inr ge ↦ omega (arith, le, ge) ]
]

pub split_found : (names : List Name) → IsStrictlySortedBy name_cmp names → (p : ℕ) (m : Name) → slice_get names p ≡ Some m → (class : ℕ) (was now : List ℕ) (had has : List Split) →
    AreSplit (λ i. i ≡ p) class was now had has → AreSplit (λ i. slice_get names i ≡ Some m) class was now had has
split_found names up p m at class was now had has =
    split_as (λ i. i ≡ p) (λ i. slice_get names i ≡ Some m) class was now had has (λ i e. ap (slice_get names) e ∙ at) (λ i e. one_place names up i p m e at)

pub split_absent : (names : List Name) (m : Name) → (Contains names m → ⊥) → (class : ℕ) (was : List ℕ) (had : List Split) → AreSplit (λ i. slice_get names i ≡ Some m) class was was had had
split_absent names m none class was had =
    split_as (λ i. ⊥) (λ i. slice_get names i ≡ Some m) class was was had had (λ i e. absurd e) (λ i e. none (member_at names i m e)) (split_none class was had)

pub split_if : (b : Bool) → b ≡ false → (p class : ℕ) (was now : List ℕ) (had has : List Split) → AreSplit (λ i. i ≡ p) class was now had has → AreSplit (λ i. (i ≡ p) × (b ≡ false)) class was now had has
split_if b e p class was now had has = split_as (λ i. i ≡ p) (λ i. (i ≡ p) × (b ≡ false)) class was now had has (λ i f. (f, e)) (λ i f. f.0)

pub split_unless : (b : Bool) → b ≡ true → (p class : ℕ) (was : List ℕ) (had : List Split) → AreSplit (λ i. (i ≡ p) × (b ≡ false)) class was was had had
split_unless b e p class was had =
    split_as (λ i. ⊥) (λ i. (i ≡ p) × (b ≡ false)) class was was had had (λ i f. absurd f) (λ i f. true≢false (sym e ∙ f.1)) (split_none class was had)
