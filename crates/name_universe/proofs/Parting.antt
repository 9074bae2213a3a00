-- Blocks that a class more splits.
use Rattle.std.proofs.Common.{◌≡◌, ℕ, zero, suc, ◌+◌, ◌<◌, ◌⊎◌, inl, inr, ◌↔◌, Bool, true, false, List, [], ◌∷◌, length, slice_get, replicate, Some, refl, sym, ◌∙◌, ap, subst, arith, true≢false}
use Rattle.std.proofs.lemmas.Option.{slice_get_within}
use Rattle.rng_model.specs.Names.{Name}
use Rattle.rng_model.specs.Classes.{Class, in_class}
use Rattle.rng_model.specs.Alike.{AreAlikeNames, AreGroups}
use Rattle.name_universe.specs.declared.split.Split.{Split}
use Rattle.name_universe.specs.Partitions.{AreDistinct, IsBlockOf, AreSplit, IsOnSide, IsSplitBy, IsPartition}

-- ---- one side of a class
is_other : (a b : Bool) → (a ≡ b) ⊎ (a ≡ b → ⊥)
is_other true true = inl refl
is_other true false = inr true≢false
is_other false true = inr (λ e. true≢false (sym e))
is_other false false = inl refl

both_other : (a b s : Bool) → (a ≡ s → ⊥) → (b ≡ s → ⊥) → a ≡ b
both_other true true s f g = refl
both_other true false true f g = absurd (f refl)
both_other true false false f g = absurd (g refl)
both_other false true true f g = absurd (g refl)
both_other false true false f g = absurd (f refl)
both_other false false s f g = refl

same_some : {X : Type 0} (x y : X) → Some x ≡ Some y → x ≡ y
same_some x y e = cc

at_place : {X : Type 0} (xs : List X) (i : ℕ) → i < length xs → (x : X) × (slice_get xs i ≡ Some x)
at_place [] i h = absurd (omega arith)
at_place (x ∷ xs) zero h = (x, refl)
at_place (x ∷ xs) (suc i) h = at_place xs i (omega arith)

module _ (names : List Name) (x : Class) (side : Bool) where
  on_side : (i : ℕ) (n : Name) → slice_get names i ≡ Some n → in_class n x ≡ side → IsOnSide names x side i
  on_side i n at e = (n, at, e)

  off_side : (i : ℕ) (n : Name) → slice_get names i ≡ Some n → (in_class n x ≡ side → ⊥) → IsOnSide names x side i → ⊥
  off_side i n at f (m, other, e) = f (subst (λ (z : Name). in_class z x ≡ side) (same_some m n (sym other ∙ at)) e)

-- ---- a class more
module _ (C D : Class → Type 0) (names : List Name) (k : ℕ) (x : Class) (grown : (c : Class) → D c ↔ (C c ⊎ (c ≡ x))) (was now : List ℕ) (had has : List Split)
    (side : Bool) (h : IsPartition C names k was had) (s : AreSplit (IsOnSide names x side) k was now had has) where
  -- what a name's block is now
  abbrev pub Stays : ℕ → ℕ → Name → Type 0
  Stays i b n = (slice_get now i ≡ Some b) × (in_class n x ≡ side → ⊥)

  abbrev pub Goes : ℕ → ℕ → Name → Type 0
  Goes i b n = (q : ℕ) × (slice_get now i ≡ Some (q + 1)) × (slice_get has q ≡ Some (record { block = b; class = k })) × (in_class n x ≡ side)

  block_now : (i b : ℕ) (n : Name) → slice_get names i ≡ Some n → slice_get was i ≡ Some b → Stays i b n ⊎ Goes i b n
  block_now i b n at e = elim (is_other (in_class n x) side) [
    | inl f ↦ (
        let (c, there, (q, stored, is)) = s.inside i b e (on_side names x side i n at f) in
        inr (q, there ∙ ap Some is, stored, f))
    | inr f ↦ inl (s.outside i b e (off_side names x side i n at f), f)
  ]

  block_was : (i : ℕ) (n : Name) → slice_get names i ≡ Some n → (b : ℕ) × (slice_get was i ≡ Some b)
  block_was i n at = at_place was i (subst (λ (l : ℕ). i < l) (sym h.same_length) (slice_get_within names i n at))

  -- a block that stays isn't one that is split off
  not_new : (i b q : ℕ) (a : ℕ) → slice_get was i ≡ Some b → slice_get has q ≡ Some (record { block = a; class = k }) → b ≡ q + 1 → ⊥
  not_new i b q a e stored same = elim (h.known i b e) [
    | inl none ↦ omega (arith, none, same)
    | inr (t, (r, there, is)) ↦
        let here : r ≡ q = omega (arith, is, same) in
        let kept = s.kept r t there in
        let one : t ≡ record { block = a; class = k } = same_some t (record { block = a; class = k }) (sym kept ∙ ap (slice_get has) here ∙ stored) in
        let less = h.earlier r t there in
        let is_k : t.class ≡ k = ap (λ (z : Split). z.class) one in
        omega (arith, less, is_k)
  ]

  alike_more : (m n : Name) → AreAlikeNames C m n → in_class m x ≡ in_class n x → AreAlikeNames D m n
  alike_more m n a e = λ c d. elim ((grown c).0 d) [ inl f ↦ a c f | inr f ↦ subst (λ (z : Class). in_class m z ≡ in_class n z) (sym f) e ]

  alike_less : (m n : Name) → AreAlikeNames D m n → AreAlikeNames C m n
  alike_less m n a = λ c f. a c ((grown c).1 (inl f))

  alike_this : (m n : Name) → AreAlikeNames D m n → in_class m x ≡ in_class n x
  alike_this m n a = a x ((grown x).1 (inr refl))

  tells_now : (i j a b : ℕ) (m n : Name) → slice_get was i ≡ Some a → slice_get was j ≡ Some b → ((slice_get was i ≡ slice_get was j) ↔ AreAlikeNames C m n) →
      Stays i a m ⊎ Goes i a m → Stays j b n ⊎ Goes j b n → (slice_get now i ≡ slice_get now j) ↔ AreAlikeNames D m n
  tells_now i j a b m n e f both (inl (p, u)) (inl (q, v)) = (
    λ same. alike_more m n (both.0 (e ∙ sym p ∙ same ∙ q ∙ sym f)) (both_other (in_class m x) (in_class n x) side u v),
    λ like. p ∙ sym e ∙ both.1 (alike_less m n like) ∙ f ∙ sym q,
  )
  tells_now i j a b m n e f both (inl (p, u)) (inr (q, at, stored, v)) = (
    λ same. absurd (not_new i a q b e stored (same_some a (q + 1) (sym p ∙ same ∙ at))),
    λ like. absurd (u (alike_this m n like ∙ v)),
  )
  tells_now i j a b m n e f both (inr (q, at, stored, v)) (inl (p, u)) = (
    λ same. absurd (not_new j b q a f stored (same_some b (q + 1) (sym p ∙ sym same ∙ at))),
    λ like. absurd (u (sym (alike_this m n like) ∙ v)),
  )
  tells_now i j a b m n e f both (inr (q, at, stored, v)) (inr (r, other, also, w)) = (
    λ same. (
        let next : q + 1 ≡ r + 1 = same_some (q + 1) (r + 1) (sym at ∙ same ∙ other) in
        let place : q ≡ r = omega (arith, next) in
        let one = same_some (record { block = a; class = k }) (record { block = b; class = k }) (sym stored ∙ ap (slice_get has) place ∙ also) in
        let block : a ≡ b = ap (λ (z : Split). z.block) one in
        alike_more m n (both.0 (e ∙ ap Some block ∙ sym f)) (v ∙ sym w)),
    λ like. (
        let block : a ≡ b = same_some a b (sym e ∙ both.1 (alike_less m n like) ∙ f) in
        let place : q ≡ r = s.distinct h.distinct q r (record { block = b; class = k }) (stored ∙ (λ i. Some (record { block = block i; class = k }))) also in
        at ∙ ap (λ (z : ℕ). Some (z + 1)) place ∙ sym other),
  )

  pub next_partition : IsPartition D names (k + 1) now has
  next_partition = record {
    same_length = s.same_length ∙ h.same_length;
    known = known;
    earlier = λ q t e. elim (s.added q t e) [ inl f ↦ (let less = h.earlier q t f in omega (arith, less)) | inr f ↦ omega (arith, f) ];
    distinct = s.distinct h.distinct;
    tells = λ i j m n e f. (
        let (a, p) = block_was i m e in
        let (b, q) = block_was j n f in
        tells_now i j a b m n p q (h.tells i j m n e f) (block_now i a m e p) (block_now j b n f q));
  }
    where
      known : (i b : ℕ) → slice_get now i ≡ Some b → (b ≡ 0) ⊎ ((t : Split) × IsBlockOf has t b)
      known i b e =
          let (n, at) = at_place names i (subst (λ (l : ℕ). i < l) (s.same_length ∙ h.same_length) (slice_get_within now i b e)) in
          let (a, there) = block_was i n at in
          elim (block_now i a n at there) [
            | inl (stays, f) ↦
                let same : a ≡ b = same_some a b (sym stays ∙ e) in
                elim (h.known i a there) [
                  | inl none ↦ inl (sym same ∙ none)
                  | inr (t, (q, stored, is)) ↦ inr (t, (q, s.kept q t stored, sym same ∙ is))
                ]
            | inr (q, goes, stored, f) ↦ inr (record { block = a; class = k }, (q, stored, same_some b (q + 1) (sym e ∙ goes)))
          ]

pub partition_more : (C D : Class → Type 0) (names : List Name) (k : ℕ) (x : Class) → ((c : Class) → D c ↔ (C c ⊎ (c ≡ x))) → (was now : List ℕ) (had has : List Split) →
    IsPartition C names k was had → IsSplitBy names x k was now had has → IsPartition D names (k + 1) now has
partition_more C D names k x grown was now had has h s = next_partition C D names k x grown was now had has s.side h s.are

-- ---- at first
abbrev zeros : ℕ → List ℕ
zeros k = replicate k 0

zero_at : (k i b : ℕ) → slice_get (zeros k) i ≡ Some b → b ≡ 0
zero_at zero i b e = cc
zero_at (suc k) zero b e = sym (same_some 0 b e)
zero_at (suc k) (suc i) b e = zero_at k i b e

zero_within : (k i : ℕ) → i < k → slice_get (zeros k) i ≡ Some 0
zero_within zero i h = absurd (omega arith)
zero_within (suc k) zero h = refl
zero_within (suc k) (suc i) h = zero_within k i (omega arith)

zeros_long : (k : ℕ) → length (zeros k) ≡ k
zeros_long zero = refl
zeros_long (suc k) = ap suc (zeros_long k)

pub one_block : (C : Class → Type 0) → ((c : Class) → C c → ⊥) → (names : List Name) (k : ℕ) (blocks : List ℕ) (splits : List Split) → k ≡ length names → blocks ≡ replicate k 0 → splits ≡ [] →
    IsPartition C names 0 blocks splits
one_block C none names k blocks splits long is empty = rw (is, empty) (record {
  same_length = zeros_long k ∙ long;
  known = λ i b e. inl (zero_at k i b e);
  earlier = λ i s e. (cc);
  distinct = λ i j s e f. (cc);
  tells = λ i j m n e f. (
    λ same. (λ c h. absurd (none c h)),
    λ like. within i m e ∙ sym (within j n f),
  );
})
  where
    within : (i : ℕ) (m : Name) → slice_get names i ≡ Some m → slice_get (zeros k) i ≡ Some 0
    within i m e = zero_within k i (subst (λ (l : ℕ). i < l) (sym long) (slice_get_within names i m e))

-- ---- at last
pub partition_as : (C D : Class → Type 0) → ((c : Class) → C c ↔ D c) → (names : List Name) (k : ℕ) (blocks : List ℕ) (splits : List Split) (groups : List ℕ) → IsPartition C names k blocks splits →
    AreGroups ℕ (λ a b. a ≡ b) blocks groups → AreGroups Name (AreAlikeNames D) names groups
partition_as C D same names k blocks splits groups h g = record {
  same_length = g.same_length ∙ h.same_length;
  each = λ i j m n e f. each i j m n e f (block i m e) (block j n f);
  numbered = g.numbered;
}
  where
    block : (i : ℕ) (m : Name) → slice_get names i ≡ Some m → (b : ℕ) × (slice_get blocks i ≡ Some b)
    block i m e = at_place blocks i (subst (λ (l : ℕ). i < l) (sym h.same_length) (slice_get_within names i m e))

    each : (i j : ℕ) (m n : Name) → slice_get names i ≡ Some m → slice_get names j ≡ Some n → (b : ℕ) × (slice_get blocks i ≡ Some b) → (b : ℕ) × (slice_get blocks j ≡ Some b) →
        (slice_get groups i ≡ slice_get groups j) ↔ AreAlikeNames D m n
    each i j m n e f (a, p) (b, q) = (
      λ eq. (let like = (h.tells i j m n e f).0 (p ∙ ap Some ((g.each i j a b p q).0 eq) ∙ sym q) in (λ c d. like c ((same c).1 d))),
      λ like. (g.each i j a b p q).1 (same_some a b (sym p ∙ (h.tells i j m n e f).1 (λ c d. like c ((same c).0 d)) ∙ q)),
    )

pub split_by : (side : Bool) (names : List Name) (x : Class) (class : ℕ) (was now : List ℕ) (had has : List Split) → AreSplit (IsOnSide names x side) class was now had has → IsSplitBy names x class was now had has
split_by side names x class was now had has s = record { side = side; are = s }
