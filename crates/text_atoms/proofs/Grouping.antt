-- Groups of alike texts, one position after another.
use Rattle.std.proofs.Common.{◌≡◌, ℕ, zero, suc, ◌+◌, ◌<◌, ◌≤◌, ◌⊎◌, inl, inr, ◌↔◌, Bool, true, false, not, cond, ◌||◌, if◌then◌else◌, List, [], ◌∷◌, ◌++◌, length, refl, sym, ◌∙◌, ap, subst, arith, true≢false, Contains, Some, take, slice_get, length-append, Result, Ok, Err, IfOk}
use Rattle.std.specs.List.{list_any, position_or_len}
use Rattle.std.proofs.lemmas.List.{take_more, take_all}
use Rattle.std.proofs.lemmas.List.Folds.{list_any_at}
use Rattle.std.proofs.lemmas.Option.{slice_get_within, get_or_from_slice_get}
use Rattle.std.proofs.lemmas.List.Elements.{Contains-append_left}
use Rattle.indexmap.specs.IndexSet.{insert_key}
use Rattle.rng_model.specs.Texts.{Text}
use Rattle.rng_model.specs.Atoms.{Literals}
use Rattle.rng_model.specs.Alike.{AreAlikeTexts, AreGroups, group_count}
use Rattle.text_atoms.specs.declared.signature.KindValues.{KindValues}
use Rattle.text_atoms.specs.declared.signature.Signature.{Signature}
use Rattle.text_atoms.specs.contracts.signature.SignaturePartialEq.TheImpl as signature_eq
use Rattle.text_atoms.specs.Signatures.{AreAllValues, all_variants, IsSignature, IsPut}
use Rattle.text_atoms.proofs.Words.{by_test}
use Rattle.text_atoms.proofs.Members.{member_at, place_of_member}
use Rattle.text_atoms.proofs.Numbering.{numbered-push, count-push}
use Rattle.text_atoms.proofs.Signatures.{alike_by_signature, signature_by_alike, moved}

-- ---- lists with one more at the end
get_front : {X : Type 0} (xs ys : List X) (i : ℕ) → i < length xs → slice_get (xs ++ ys) i ≡ slice_get xs i
get_front [] ys i h = absurd (omega arith)
get_front (x ∷ xs) ys zero h = refl
get_front (x ∷ xs) ys (suc i) h = get_front xs ys i (omega arith)

get_last : {X : Type 0} (xs : List X) (x : X) → slice_get (xs ++ x ∷ []) (length xs) ≡ Some x
get_last [] x = refl
get_last (y ∷ xs) x = get_last xs x

get_within : {X : Type 0} (xs : List X) (i : ℕ) (x : X) → slice_get xs i ≡ Some x → i < length xs
get_within [] i x e = cc
get_within (y ∷ xs) zero x e = omega arith
get_within (y ∷ xs) (suc i) x e = let h = get_within xs i x e in omega arith

get_cases : {X : Type 0} (xs : List X) (x y : X) (i : ℕ) → slice_get (xs ++ x ∷ []) i ≡ Some y → ((i < length xs) × (slice_get xs i ≡ Some y)) ⊎ ((i ≡ length xs) × (y ≡ x))
get_cases [] x y zero e = let same : y ≡ x = cc in inr (refl, same)
get_cases [] x y (suc i) e = cc
get_cases (z ∷ xs) x y zero e = inl (omega arith, e)
get_cases (z ∷ xs) x y (suc i) e = elim (get_cases xs x y i e) [ inl (h, f) ↦ inl (omega arith, f) | inr (h, f) ↦ inr (ap suc h, f) ]

group_same : (ks : List ℕ) (i g : ℕ) → slice_get ks i ≡ Some g → g < group_count ks
group_same [] i g e = cc
group_same (k ∷ ks) zero g e = let same : k ≡ g = cc in omega arith
group_same (k ∷ ks) (suc i) g e = let again = group_same ks i g e in omega arith

grown : {X : Type 0} (xs : List X) (n : ℕ) (x : X) → slice_get xs n ≡ Some x → take (n + 1) xs ≡ take n xs ++ x ∷ []
grown {X} xs n x e = take_more xs n x (get_within xs n x e) ∙ ap (λ (y : X). take n xs ++ y ∷ []) (get_or_from_slice_get xs n x x e)

module _ (l : Literals) where
  abbrev pub Groups_of : List Text → List ℕ → Type 0
  Groups_of xs ks = AreGroups Text (AreAlikeTexts l) xs ks

  alike-itself : (x : Text) → AreAlikeTexts l x x
  alike-itself x = record { white = refl; values = λ k v h. refl; kinds = λ k h. refl }

  alike-back : (x y : Text) → AreAlikeTexts l x y → AreAlikeTexts l y x
  alike-back x y a = record { white = sym a.white; values = λ k v h. sym (a.values k v h); kinds = λ k h. sym (a.kinds k h) }

  alike-then : (x y z : Text) → AreAlikeTexts l x y → AreAlikeTexts l y z → AreAlikeTexts l x z
  alike-then x y z a b = record { white = a.white ∙ b.white; values = λ k v h. a.values k v h ∙ b.values k v h; kinds = λ k h. a.kinds k h ∙ b.kinds k h }

  pub no_groups : Groups_of [] []
  no_groups = record { same_length = refl; each = λ i j x y e f. (cc); numbered = tt }

  -- one position more, whose group is that of the alike ones before it
  pub one_group : (xs : List Text) (ks : List ℕ) (x : Text) (g : ℕ) → Groups_of xs ks → g ≤ group_count ks →
      ((i : ℕ) (y : Text) → slice_get xs i ≡ Some y → (slice_get ks i ≡ Some g) ↔ AreAlikeTexts l y x) → Groups_of (xs ++ x ∷ []) (ks ++ g ∷ [])
  one_group xs ks x g h le new = record { same_length = long; each = λ i j y z e f. each i j y z (get_cases xs x y i e) (get_cases xs x z j f); numbered = numbered-push ks g h.numbered le }
    where
      long : length (ks ++ g ∷ []) ≡ length (xs ++ x ∷ [])
      long = length-append ks (g ∷ []) ∙ ap (λ (n : ℕ). n + 1) h.same_length ∙ sym (length-append xs (x ∷ []))

      front : (i : ℕ) → i < length xs → slice_get (ks ++ g ∷ []) i ≡ slice_get ks i
      front i below = get_front ks (g ∷ []) i (subst (λ (n : ℕ). i < n) (sym h.same_length) below)

      last : (i : ℕ) → i ≡ length xs → slice_get (ks ++ g ∷ []) i ≡ Some g
      last i at = ap (slice_get (ks ++ g ∷ [])) (at ∙ sym h.same_length) ∙ get_last ks g

      each : (i j : ℕ) (y z : Text) → ((i < length xs) × (slice_get xs i ≡ Some y)) ⊎ ((i ≡ length xs) × (y ≡ x)) → ((j < length xs) × (slice_get xs j ≡ Some z)) ⊎ ((j ≡ length xs) × (z ≡ x)) →
          (slice_get (ks ++ g ∷ []) i ≡ slice_get (ks ++ g ∷ []) j) ↔ AreAlikeTexts l y z
      each i j y z (inl (a, e)) (inl (b, f)) =
          let both = h.each i j y z e f in
          (λ s. both.0 (sym (front i a) ∙ s ∙ front j b), λ s. front i a ∙ both.1 s ∙ sym (front j b))
      each i j y z (inl (a, e)) (inr (b, f)) =
          let one = new i y e in
          (λ s. subst (AreAlikeTexts l y) (sym f) (one.0 (sym (front i a) ∙ s ∙ last j b)), λ s. front i a ∙ one.1 (subst (AreAlikeTexts l y) f s) ∙ sym (last j b))
      each i j y z (inr (a, e)) (inl (b, f)) =
          let one = new j z f in (
            λ s. alike-back z y (subst (AreAlikeTexts l z) (sym e) (one.0 (sym (front j b) ∙ sym s ∙ last i a))),
            λ s. last i a ∙ sym (one.1 (subst (AreAlikeTexts l z) e (alike-back y z s))) ∙ sym (front j b),
          )
      each i j y z (inr (a, e)) (inr (b, f)) =
          (λ s. subst (λ (u : Text). AreAlikeTexts l y u) (e ∙ sym f) (alike-itself y), λ s. last i a ∙ sym (last j b))

some_at : {X : Type 0} (p : X → Bool) (xs : List X) (k : ℕ) (x : X) → slice_get xs k ≡ Some x → p x ≡ true → list_any p xs ≡ true
some_at p xs k x h e = list_any_at p xs k x (slice_get_within xs k x h) (ap p (get_or_from_slice_get xs k x x h) ∙ e)

none_first : {X : Type 0} (p : X → Bool) (xs : List X) → list_any p xs ≡ false → position_or_len p xs ≡ length xs
none_first p [] h = refl
none_first p (x ∷ xs) h = by_test (p x)
    (λ e. absurd (true≢false (sym (ap (λ c. c || list_any p xs) e) ∙ h)))
    (λ e. ap (λ c. cond (not c) (1 + position_or_len p xs) 0) e ∙ (let k = none_first p xs (sym (ap (λ c. c || list_any p xs) e) ∙ h) in omega (arith, k)))

module _ (l : Literals) (all : List KindValues) where
  -- the groups of some texts, with the signatures that were seen of them, a group's at its number
  pub record IsGrouping (xs : List Text) (ks : List ℕ) (seen : List Signature) : Type 0 where
    pub groups : Groups_of l xs ks
    pub count : group_count ks ≡ length seen
    pub has : (i : ℕ) (x : Text) → slice_get xs i ≡ Some x → (a : Signature) × Contains seen a × IsSignature all x a
    pub of : (g : ℕ) (a : Signature) → slice_get seen g ≡ Some a → (i : ℕ) × (x : Text) × (slice_get xs i ≡ Some x) × (slice_get ks i ≡ Some g) × IsSignature all x a

  pub nothing_seen : (ks : List ℕ) (seen : List Signature) → ks ≡ [] → seen ≡ [] → IsGrouping [] ks seen
  nothing_seen ks seen e f = rw (e, f) (record { groups = no_groups l; count = refl; has = λ i x e. (cc); of = λ g a e. (cc) })

  -- what is so of the next text, its signature and its group
  pub record IsNext (xs : List Text) (ks : List ℕ) (seen : List Signature) (x : Text) (g : ℕ) (now : List Signature) : Type 0 where
    pub a : Signature
    pub stored : slice_get now g ≡ Some a
    pub sees : IsSignature all x a
    pub known : g ≤ group_count ks
    pub groups : (i : ℕ) (y : Text) → slice_get xs i ≡ Some y → (slice_get ks i ≡ Some g) ↔ AreAlikeTexts l y x
    pub kept : (now ≡ seen) ⊎ ((g ≡ length seen) × (now ≡ seen ++ a ∷ []))

module _ (l : Literals) (all : List KindValues) (are : AreAllValues l all_variants all) where
  -- one that was seen
  old_one : (xs : List Text) (ks : List ℕ) (seen : List Signature) (x : Text) (g : ℕ) (now : List Signature) (s a : Signature) → IsGrouping l all xs ks seen → IsSignature all x s →
      now ≡ seen → slice_get now g ≡ Some a → signature_eq.eq-value.it s a ≡ true → IsNext l all xs ks seen x g now
  old_one xs ks seen x g now s a h sees same stored equal =
      let (p, z, there, at, other) = h.of g a (subst (λ (ss : List Signature). slice_get ss g ≡ Some a) same stored) in
      let like : AreAlikeTexts l z x = alike-back l x z (alike_by_signature l all are x z s a sees other equal) in
      record {
        a = a;
        stored = stored;
        sees = moved l all are x s a sees equal;
        known = let lt = group_same ks p g at in omega arith;
        groups = λ i y e. (
            let both = h.groups.each i p y z e there in
            (λ f. alike-then l y z x (both.0 (f ∙ sym at)) like, λ f. both.1 (alike-then l y x z f (alike-back l z x like)) ∙ at));
        kept = inl same;
      }

  -- a new one
  new_one : (xs : List Text) (ks : List ℕ) (seen : List Signature) (x : Text) (g : ℕ) (now : List Signature) (s : Signature) → IsGrouping l all xs ks seen → IsSignature all x s →
      now ≡ seen ++ s ∷ [] → g ≡ length seen → list_any (signature_eq.eq-value.it s) seen ≡ false → IsNext l all xs ks seen x g now
  new_one xs ks seen x g now s h sees grown last none = record {
    a = s;
    stored = rw (grown, last) (get_last seen s);
    sees = sees;
    known = omega (arith, last, h.count);
    groups = λ i y e. (
      (λ f. absurd (let lt = group_same ks i g f in omega (arith, last, h.count))),
      (λ f. absurd (
          let (b, m, other) = h.has i y e in
          let (k, at) = place_of_member seen b m in
          true≢false (sym (some_at (signature_eq.eq-value.it s) seen k b at (signature_by_alike l all are x y s b sees other (alike-back l y x f))) ∙ none))),
    );
    kept = inr (last, grown);
  }

  next_text : (xs : List Text) (ks : List ℕ) (seen : List Signature) (x : Text) (g : ℕ) (now : List Signature) (s a : Signature) → IsGrouping l all xs ks seen → IsSignature all x s →
      now ≡ insert_key signature_eq.eq-value.it seen s → g ≡ position_or_len (signature_eq.eq-value.it s) seen → slice_get now g ≡ Some a → signature_eq.eq-value.it s a ≡ true → IsNext l all xs ks seen x g now
  next_text xs ks seen x g now s a h sees inserted index stored equal = by_test (list_any (signature_eq.eq-value.it s) seen)
      (λ e. old_one xs ks seen x g now s a h sees (inserted ∙ ap (λ b. if b then seen else seen ++ s ∷ []) e) stored equal)
      (λ e. new_one xs ks seen x g now s h sees (inserted ∙ ap (λ b. if b then seen else seen ++ s ∷ []) e) (index ∙ none_first (signature_eq.eq-value.it s) seen e) e)

  next_grouping : (xs : List Text) (ks : List ℕ) (seen : List Signature) (x : Text) (g : ℕ) (now : List Signature) → IsGrouping l all xs ks seen → IsNext l all xs ks seen x g now →
      IsGrouping l all (xs ++ x ∷ []) (ks ++ g ∷ []) now
  next_grouping xs ks seen x g now h n = record {
    groups = one_group l xs ks x g h.groups n.known n.groups;
    count = elim n.kept [
      | inl same ↦ (
          let lt = get_within now g n.a n.stored in
          let long : length now ≡ length seen = ap length same in
          omega (arith, count-push ks g, h.count, lt, long))
      | inr (last, grown) ↦ (
          let long : length now ≡ length seen + 1 = ap length grown ∙ length-append seen (n.a ∷ []) in
          omega (arith, count-push ks g, h.count, last, long))
    ];
    has = λ i y e. has y (get_cases xs x y i e);
    of = λ k a e. of k a (seen_cases k a e);
  }
    where
      within : (a : Signature) → Contains seen a → Contains now a
      within a m = elim n.kept [
        | inl same ↦ subst (λ (ss : List Signature). Contains ss a) (sym same) m
        | inr (last, grown) ↦ subst (λ (ss : List Signature). Contains ss a) (sym grown) (Contains-append_left seen (n.a ∷ []) a m)
      ]

      has : {i : ℕ} (y : Text) → ((i < length xs) × (slice_get xs i ≡ Some y)) ⊎ ((i ≡ length xs) × (y ≡ x)) → (a : Signature) × Contains now a × IsSignature all y a
      has {i} y (inl (below, e)) = let (a, m, sees) = h.has i y e in (a, within a m, sees)
      has y (inr (last, same)) = (n.a, member_at now g n.a n.stored, subst (λ (z : Text). IsSignature all z n.a) (sym same) n.sees)

      seen_cases : (k : ℕ) (a : Signature) → slice_get now k ≡ Some a → (slice_get seen k ≡ Some a) ⊎ ((k ≡ g) × (a ≡ n.a))
      seen_cases k a e = elim n.kept [
        | inl same ↦ inl (subst (λ (ss : List Signature). slice_get ss k ≡ Some a) same e)
        | inr (last, grown) ↦ elim (get_cases seen n.a a k (subst (λ (ss : List Signature). slice_get ss k ≡ Some a) grown e)) [
          | inl (below, f) ↦ inl f
          | inr (at, same) ↦ inr (at ∙ sym last, same)
        ]
      ]

      of : (k : ℕ) (a : Signature) → (slice_get seen k ≡ Some a) ⊎ ((k ≡ g) × (a ≡ n.a)) →
          (i : ℕ) × (y : Text) × (slice_get (xs ++ x ∷ []) i ≡ Some y) × (slice_get (ks ++ g ∷ []) i ≡ Some k) × IsSignature all y a
      of k a (inl e) =
          let (i, y, at, group, sees) = h.of k a e in
          (i, y, get_front xs (x ∷ []) i (get_within xs i y at) ∙ at, get_front ks (g ∷ []) i (get_within ks i k group) ∙ group, sees)
      of k a (inr (is, same)) =
          (length xs, x, get_last xs x, ap (slice_get (ks ++ g ∷ [])) (sym h.groups.same_length) ∙ get_last ks g ∙ ap Some (sym is), subst (IsSignature all x) (sym same) n.sees)

  -- the text at a position, after those before it
  module _ (texts : List Text) (n : ℕ) (ks : List ℕ) (seen : List Signature) (x : Text) (g : ℕ) (now : List Signature) (at : slice_get texts n ≡ Some x)
      (h : IsGrouping l all (take n texts) ks seen) (put : IsPut all x seen now g) where
    this : IsNext l all (take n texts) ks seen x g now
    this = let (a, stored, equal) = put.found in next_text (take n texts) ks seen x g now put.signature a h put.sees put.inserted put.index stored equal

    pub group_known : g ≤ group_count ks
    group_known = this.known

    pub one_more : (new : List ℕ) → new ≡ ks ++ g ∷ [] → IsGrouping l all (take (n + 1) texts) new now
    one_more new is = rw (is, grown texts n x at) (next_grouping (take n texts) ks seen x g now h this)

pub all_grouped : (l : Literals) (texts : List Text) (n : ℕ) (ks : List ℕ) → length texts ≤ n → Groups_of l (take n texts) ks → Groups_of l texts ks
all_grouped l texts n ks long h = subst (λ (xs : List Text). Groups_of l xs ks) (take_all n texts long) h

-- what follows from what is said of a value that was made
pub made_then : {T E : Type 0} (r : Result T E) (P Q : T → Type 0) → IfOk r P → ((x : T) → P x → Q x) → IfOk r Q
made_then (Ok x) P Q h f = f x h
made_then (Err e) P Q h f = tt
