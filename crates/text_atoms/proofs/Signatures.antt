-- Texts with one signature are alike, and the other way round.
use Rattle.std.proofs.Common.{◌≡◌, ℕ, ◌+◌, ◌<◌, ◌⊎◌, inl, inr, ◌↔◌, Bool, true, false, ◌&&◌, List, [], ◌∷◌, ◌++◌, length, map, get_or, take, Option, Some, None, is_some, Contains, nat_eq, refl, sym, ◌∙◌, ap, subst, arith, true≢false}
use mathlib.Core.Bool.{beq}
use Rattle.std.specs.Bool.{Decides}
use Rattle.std.specs.Option.{option_eq}
use Rattle.std.specs.Ordering.{nat_cmp}
use Rattle.std.specs.Cmp.{booleans_Decides}
use Rattle.std.specs.Cmp.Lexicographic.{slice_cmp, pointwise, bytes_decides, nat_list_cmp_total}
use Rattle.std.proofs.lemmas.Map.Lookups.{exact_bytes}
use Rattle.std.proofs.lemmas.Map.Views.{btree_set_contains_iff}
use Rattle.std.specs.BTreeSet as tree
use Rattle.std.specs.BTreeSet.{BTreeSet}
use Rattle.std.proofs.lemmas.List.{take_more, map_more, map-append}
use Rattle.std.proofs.lemmas.List.Elements.{Contains-push_cases}
use Rattle.std.proofs.lemmas.Slice.Eq.{slice_eq-Decides}
use Rattle.rng_model.specs.Texts.{Text, is_white}
use Rattle.rng_model.specs.Kinds.{Kind, Str, Token, Boolean, Integer, NonNegative, Positive, NcName, Nmtoken, allows, equal}
use Rattle.rng_model.specs.Atoms.{Literals}
use Rattle.rng_model.specs.Alike.{AreAlikeTexts}
use Rattle.text_atoms.specs.declared.kind.Kind.{Kind as RustKind}
use Rattle.text_atoms.specs.declared.kind.Kind.TheVariants as rust
use Rattle.text_atoms.specs.declared.parts.Part.TheVariants.{Values}
use Rattle.text_atoms.specs.declared.signature.KindValues.{KindValues}
use Rattle.text_atoms.specs.declared.signature.Mark.{Mark}
use Rattle.text_atoms.specs.declared.signature.Signature.{Signature}
use Rattle.text_atoms.specs.contracts.signature.MarkPartialEq.TheImpl as mark_eq
use Rattle.text_atoms.specs.contracts.signature.SignaturePartialEq.TheImpl as signature_eq
use Rattle.text_atoms.specs.Kinds.{kind_of}
use Rattle.text_atoms.specs.Literals.{place_of, members_of}
use Rattle.text_atoms.specs.Parts.{part_of, parts_of}
use Rattle.text_atoms.specs.Canonical.{canonical}
use Rattle.text_atoms.specs.Signatures.{AreValuesOf, AreAllValues, all_variants, value_in, mark_of, IsSignature}
use Rattle.text_atoms.proofs.Words.{by_test}
use Rattle.text_atoms.proofs.Members.{member_first, member_later, member_cases, member_none, map_member}
use Rattle.text_atoms.proofs.Marks.{place_injective}
use Rattle.text_atoms.proofs.Sets.{filter_map_member, member_of_filter_map}
use Rattle.text_atoms.proofs.CanonicalForms.{both_true, has_form, equal_by_form, form_by_equal}

-- ---- the values of a kind
pub only_parts : (old new parts : List Text) → old ≡ [] → ((x : Text) → Contains new x ↔ (Contains old x ⊎ Contains parts x)) → (x : Text) → Contains new x ↔ Contains parts x
only_parts old new parts none h x = (
  (λ m. elim ((h x).0 m) [ inl o ↦ absurd (member_none x (subst (λ (ys : List Text). Contains ys x) none o)) | inr p ↦ p ]),
  (λ p. (h x).1 (inr p)),
)

value_from : (k : RustKind) (ms : List (Kind × Text)) (x : Text) → Contains (parts_of (Values k) ms) x → (v : Text) × Contains ms (kind_of k, v) × (canonical (kind_of k) v ≡ Some x)
value_from k ms x h =
    let (m, inside, e) = filter_map_member (part_of (Values k)) ms x h in
    by_test (nat_eq (place_of m.0) (place_of (kind_of k)))
    (λ f. (
    let same : m.0 ≡ kind_of k = place_injective m.0 (kind_of k) (grind (arith, f)) in
    let is : canonical m.0 m.1 ≡ Some x = rw f at e in
    (m.1, subst (λ (j : Kind). Contains ms (j, m.1)) same inside, subst (λ (j : Kind). canonical j m.1 ≡ Some x) same is)))
    (λ f. (let other : None ≡ Some x = rw f at e in cc))

value_to : (k : RustKind) (ms : List (Kind × Text)) (v x : Text) → Contains ms (kind_of k, v) → canonical (kind_of k) v ≡ Some x → Contains (parts_of (Values k) ms) x
value_to k ms v x h e =
    let f : nat_eq (place_of (kind_of k)) (place_of (kind_of k)) ≡ true = grind arith in
    member_of_filter_map (part_of (Values k)) ms (kind_of k, v) x h (rw f e)

pub values_made : (l : Literals) (k : RustKind) (ms : List (RustKind × Text)) (old new : List Text) → old ≡ [] → members_of ms ≡ l.members →
    ((x : Text) → Contains new x ↔ (Contains old x ⊎ Contains (parts_of (Values k) (members_of ms)) x)) → (x : Text) → Contains new x ↔ Contains (parts_of (Values k) l.members) x
values_made l k ms old new none is h =
    subst (λ (ys : List (Kind × Text)). (x : Text) → Contains new x ↔ Contains (parts_of (Values k) ys) x) is (only_parts old new (parts_of (Values k) (members_of ms)) none h)

-- one kind more
pub all_more : (l : Literals) (wanted : List RustKind) (i : ℕ) (d : RustKind) (all new : List KindValues) (s : KindValues) → i < length wanted → AreAllValues l (take i wanted) all →
    AreValuesOf l (get_or wanted i d) s → new ≡ all ++ s ∷ [] → AreAllValues l (take (i + 1) wanted) new
all_more l wanted i d all new s below before are grown = rw grown (record {
  kinds = map-append (λ (k : KindValues). k.kind) all (s ∷ []) ∙ ap (λ (ks : List RustKind). ks ++ s.kind ∷ []) before.kinds ∙ ap (λ (k : RustKind). take i wanted ++ k ∷ []) are.kind ∙ sym (take_more wanted i d below);
  each = λ k h. elim (Contains-push_cases all s k h) [
    | inl m ↦ before.each k m
    | inr same ↦ subst (λ (z : KindValues). AreValuesOf l z.kind z) same (subst (λ (j : RustKind). AreValuesOf l j s) (sym are.kind) are)
  ];
})

-- ---- marks
value_is : (values : BTreeSet Text) (o : Option Text) (x : Text) → value_in values o ≡ Some x → (o ≡ Some x) × (tree.contains (slice_cmp nat_cmp) values x ≡ true)
value_is values None x h = cc
value_is values (Some y) x h = by_test (tree.contains (slice_cmp nat_cmp) values y)
    (λ e. (
    let f : Some y ≡ Some x = rw e at h in
    let same : y ≡ x = cc in
    (f, rw same at e)))
    (λ e. (let f : None ≡ Some x = rw e at h in cc))

value_at : (values : BTreeSet Text) (o : Option Text) (x : Text) → o ≡ Some x → tree.contains (slice_cmp nat_cmp) values x ≡ true → value_in values o ≡ Some x
value_at values o x e h = rw (e, h) refl

holds : (values : BTreeSet Text) (x : Text) → (tree.contains (slice_cmp nat_cmp) values x ≡ true) ↔ Contains values.keys x
holds values x = btree_set_contains_iff nat_list_cmp_total exact_bytes values x

same_option : (o p : Option Text) → ((x : Text) → o ≡ Some x → p ≡ Some x) → ((x : Text) → p ≡ Some x → o ≡ Some x) → o ≡ p
same_option None None f g = refl
same_option None (Some x) f g = g x refl
same_option (Some x) p f g = sym (f x refl)

same_bool : (a b : Bool) → (a ≡ true → b ≡ true) → (b ≡ true → a ≡ true) → a ≡ b
same_bool true b f g = sym (f refl)
same_bool false true f g = g refl
same_bool false false f g = refl

module _ (l : Literals) (s : KindValues) (are : AreValuesOf l s.kind s) where
  -- a value that equals a text is held, in the form of both
  held_form : (t v : Text) → Contains l.members (kind_of s.kind, v) → equal (kind_of s.kind) t v ≡ true →
      (x : Text) × (canonical (kind_of s.kind) v ≡ Some x) × (value_in s.values (canonical (kind_of s.kind) t) ≡ Some x)
  held_form t v m e =
      let (x, f, g) = form_by_equal (kind_of s.kind) t v e in
      (x, g, value_at s.values _ x f ((holds s.values x).1 ((are.values x).1 (value_to s.kind l.members v x m g))))

  values_of_marks : (t u : Text) → value_in s.values (canonical (kind_of s.kind) t) ≡ value_in s.values (canonical (kind_of s.kind) u) →
      (v : Text) → Contains l.members (kind_of s.kind, v) → equal (kind_of s.kind) t v ≡ true → equal (kind_of s.kind) u v ≡ true
  values_of_marks t u same v m e =
      let (x, g, f) = held_form t v m e in
      equal_by_form (kind_of s.kind) u v x (value_is s.values _ x (sym same ∙ f)).0 g

  marks_of_values : (t u : Text) → ((v : Text) → Contains l.members (kind_of s.kind, v) → equal (kind_of s.kind) t v ≡ equal (kind_of s.kind) u v) →
      (x : Text) → value_in s.values (canonical (kind_of s.kind) t) ≡ Some x → value_in s.values (canonical (kind_of s.kind) u) ≡ Some x
  marks_of_values t u agree x h =
      let (f, c) = value_is s.values _ x h in
      let (v, m, g) = value_from s.kind l.members x ((are.values x).0 ((holds s.values x).0 c)) in
      let (y, d, e) = held_form u v m (sym (agree v m) ∙ equal_by_form (kind_of s.kind) t v x f g) in
      let is : Some y ≡ Some x = sym d ∙ g in
      e ∙ is

  pub mark_tells : (t u : Text) → mark_of s t ≡ mark_of s u → (v : Text) → Contains l.members (kind_of s.kind, v) → equal (kind_of s.kind) t v ≡ equal (kind_of s.kind) u v
  mark_tells t u same v m =
      let is = ap (λ (k : Mark). k.value) same in
      same_bool _ _ (values_of_marks t u is v m) (values_of_marks u t (sym is) v m)

  pub mark_allows : (t u : Text) → mark_of s t ≡ mark_of s u → Contains l.kinds (kind_of s.kind) → allows (kind_of s.kind) t ≡ allows (kind_of s.kind) u
  mark_allows t u same m =
      let is : (s.is_marked && is_some (canonical (kind_of s.kind) t)) ≡ (s.is_marked && is_some (canonical (kind_of s.kind) u)) = ap (λ (k : Mark). k.is_allowed) same in
      let on : s.is_marked ≡ true = are.marked.1 m in
      sym (has_form (kind_of s.kind) t) ∙ (rw on at is) ∙ has_form (kind_of s.kind) u

  pub same_mark : (t u : Text) → AreAlikeTexts l t u → mark_of s t ≡ mark_of s u
  same_mark t u a = λ i. record { is_allowed = allowed i; value = value i }
    where
      allowed : (s.is_marked && is_some (canonical (kind_of s.kind) t)) ≡ (s.is_marked && is_some (canonical (kind_of s.kind) u))
      allowed = by_test s.is_marked
          (λ e. rw e (has_form (kind_of s.kind) t ∙ a.kinds (kind_of s.kind) (are.marked.0 e) ∙ sym (has_form (kind_of s.kind) u)))
          (λ e. rw e refl)

      value : value_in s.values (canonical (kind_of s.kind) t) ≡ value_in s.values (canonical (kind_of s.kind) u)
      value = same_option _ _ (marks_of_values t u (a.values (kind_of s.kind))) (marks_of_values u t (λ v m. sym (a.values (kind_of s.kind) v m)))

-- ---- signatures
option_Decides : (o p : Option Text) → Decides (option_eq (pointwise nat_eq) o p) (o ≡ p)
option_Decides None None = (λ e. refl, λ e. refl)
option_Decides None (Some y) = (λ e. absurd (true≢false (sym e)), λ e. cc)
option_Decides (Some x) None = (λ e. absurd (true≢false (sym e)), λ e. cc)
option_Decides (Some x) (Some y) = (λ e. ap Some ((bytes_decides x y).0 e), λ e. (let f : x ≡ y = cc in (bytes_decides x y).1 f))

mark_Decides : (a b : Mark) → Decides (mark_eq.eq-value.it a b) (a ≡ b)
mark_Decides a b = (
  (λ e. (
      let (p, q) = both_true (beq a.is_allowed b.is_allowed) (option_eq (pointwise nat_eq) a.value b.value) e in
      let f = (booleans_Decides a.is_allowed b.is_allowed).0 p in
      let g = (option_Decides a.value b.value).0 q in
      (λ i. record { is_allowed = f i; value = g i }))),
  (λ e. rw ((booleans_Decides a.is_allowed b.is_allowed).1 (ap (λ (m : Mark). m.is_allowed) e), (option_Decides a.value b.value).1 (ap (λ (m : Mark). m.value) e)) refl),
)

-- equal maps have equal elements, and the other way round
map_tells : {X Y : Type 0} (f g : X → Y) (xs : List X) → map f xs ≡ map g xs → (x : X) → Contains xs x → f x ≡ g x
map_tells f g [] e x h = absurd (member_none x h)
map_tells f g (y ∷ xs) e x h =
    let first : f y ≡ g y = cc in
    let rest : map f xs ≡ map g xs = cc in
    elim (member_cases y x xs h) [ inl same ↦ subst (λ z. f z ≡ g z) same first | inr m ↦ map_tells f g xs rest x m ]

map_same : {X Y : Type 0} (f g : X → Y) (xs : List X) → ((x : X) → Contains xs x → f x ≡ g x) → map f xs ≡ map g xs
map_same f g [] h = refl
map_same f g (x ∷ xs) h = λ i. h x (member_first x xs) i ∷ map_same f g xs (λ y m. h y (member_later x y xs m)) i

pub mark_more : (all : List KindValues) (t : Text) (i : ℕ) (s : KindValues) (old new : List Mark) → i < length all → s ≡ get_or all i s → old ≡ map (λ k. mark_of k t) (take i all) →
    new ≡ old ++ mark_of s t ∷ [] → new ≡ map (λ k. mark_of k t) (take (i + 1) all)
mark_more all t i s old new below at before more =
    more ∙ ap (λ (m : List Mark). m ++ mark_of s t ∷ []) before ∙ ap (λ (v : KindValues). map (λ k. mark_of k t) (take i all) ++ mark_of v t ∷ []) at ∙ sym (map_more (λ k. mark_of k t) all i s below)

-- every kind of the model is that of a variant
variant_of : (k : Kind) → (v : RustKind) × Contains all_variants v × (kind_of v ≡ k)
variant_of Str = (rust.Str, (0, omega arith, refl), refl)
variant_of Token = (rust.Token, (1, omega arith, refl), refl)
variant_of Boolean = (rust.Boolean, (2, omega arith, refl), refl)
variant_of Integer = (rust.Integer, (3, omega arith, refl), refl)
variant_of NonNegative = (rust.NonNegative, (4, omega arith, refl), refl)
variant_of Positive = (rust.Positive, (5, omega arith, refl), refl)
variant_of NcName = (rust.NcName, (6, omega arith, refl), refl)
variant_of Nmtoken = (rust.Nmtoken, (7, omega arith, refl), refl)

module _ (l : Literals) (all : List KindValues) (are : AreAllValues l all_variants all) where
  values_at : (k : Kind) → (s : KindValues) × Contains all s × (kind_of s.kind ≡ k)
  values_at k =
      let (v, m, e) = variant_of k in
      let (s, inside, f) = map_member (λ (s : KindValues). s.kind) all v (subst (λ (ys : List RustKind). Contains ys v) (sym are.kinds) m) in
      (s, inside, ap kind_of f ∙ e)

  alike_by_marks : (t u : Text) → is_white t ≡ is_white u → map (λ s. mark_of s t) all ≡ map (λ s. mark_of s u) all → AreAlikeTexts l t u
  alike_by_marks t u white same = record {
    white = white;
    values = λ k v h. (
        let (s, m, e) = values_at k in
        subst (λ (j : Kind). equal j t v ≡ equal j u v) e (mark_tells l s (are.each s m) t u (map_tells (λ s. mark_of s t) (λ s. mark_of s u) all same s m) v (subst (λ (j : Kind). Contains l.members (j, v)) (sym e) h)));
    kinds = λ k h. (
        let (s, m, e) = values_at k in
        subst (λ (j : Kind). allows j t ≡ allows j u) e (mark_allows l s (are.each s m) t u (map_tells (λ s. mark_of s t) (λ s. mark_of s u) all same s m) (subst (Contains l.kinds) (sym e) h)));
  }

  signature_Decides : (a b : Signature) → (signature_eq.eq-value.it a b ≡ true) ↔ ((a.is_white ≡ b.is_white) × (a.marks.items ≡ b.marks.items))
  signature_Decides a b = (
    (λ e. (
        let (p, q) = both_true (beq a.is_white b.is_white) (pointwise mark_eq.eq-value.it a.marks.items b.marks.items) e in
        ((booleans_Decides a.is_white b.is_white).0 p, (slice_eq-Decides mark_Decides a.marks.items b.marks.items _ refl).0 q))),
    (λ (p, q). rw ((booleans_Decides a.is_white b.is_white).1 p, (slice_eq-Decides mark_Decides a.marks.items b.marks.items _ refl).1 q) refl),
  )

  pub alike_by_signature : (t u : Text) (a b : Signature) → IsSignature all t a → IsSignature all u b → signature_eq.eq-value.it a b ≡ true → AreAlikeTexts l t u
  alike_by_signature t u a b p q e =
      let (white, marks) = (signature_Decides a b).0 e in
      alike_by_marks t u (sym p.white ∙ white ∙ q.white) (sym p.marks ∙ marks ∙ q.marks)

  pub signature_by_alike : (t u : Text) (a b : Signature) → IsSignature all t a → IsSignature all u b → AreAlikeTexts l t u → signature_eq.eq-value.it a b ≡ true
  signature_by_alike t u a b p q like = (signature_Decides a b).1 (
    p.white ∙ like.white ∙ sym q.white,
    p.marks ∙ map_same (λ s. mark_of s t) (λ s. mark_of s u) all (λ s m. same_mark l s (are.each s m) t u like) ∙ sym q.marks,
  )

  -- an equal signature is one of the same text
  pub moved : (t : Text) (a b : Signature) → IsSignature all t a → signature_eq.eq-value.it a b ≡ true → IsSignature all t b
  moved t a b p e = let (white, marks) = (signature_Decides a b).0 e in record { white = sym white ∙ p.white; marks = sym marks ∙ p.marks }
