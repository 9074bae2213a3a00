-- The texts that each rule for atoms gives, by the parts of the literals.
use Rattle.std.proofs.Common.{◌≡◌, ◌≢◌, ℕ, ◌+◌, ◌<◌, ◌≤◌, ◌⊎◌, inl, inr, ◌↔◌, List, [], ◌∷◌, ◌++◌, length, refl, sym, ◌∙◌, ap, subst, true, false, arith, Contains, Some, get_or, take, map, codes, append_assoc, append-nil}
use Rattle.std.specs.List.{AllByRecursion}
use Rattle.std.proofs.lemmas.List.{take_more, take_all}
use Rattle.std.proofs.lemmas.List.Elements.{Contains-push_cases, Contains-append_left, Contains-push, All-from_recursion, All-contains}
use denote.Ref.{Bor}
use Rattle.rng_model.specs.Texts.{Text, normal}
use Rattle.rng_model.specs.Kinds.{Kind, Str, Token, Boolean, Integer, NonNegative, Positive, NcName, Nmtoken}
use Rattle.rng_model.specs.Atoms.{Literals, IsStringLiteral, IsTokenForm, IsTokenAtom, IsSpacedForm, IsNormalAtom, IsSample, samples, IsTaken, IsFreshText}
use Rattle.rng_model.specs.Fresh.{IsFirstFree}
use Rattle.text_atoms.specs.declared.kind.Kind as rust
use Rattle.text_atoms.specs.Kinds.{kind_of}
use Rattle.text_atoms.specs.declared.parts.Part.TheVariants.{Strings, TokenForms, OtherForms, Texts, Forms}
use Rattle.text_atoms.specs.Parts.{part_of, parts_of, IsLeastSpaced, IsOfMarkedKinds}
use Rattle.text_atoms.proofs.Members.{member_none, map_member, member_of_map}
use Rattle.text_atoms.proofs.Sets.{filter_map_member, member_of_filter_map}
use Rattle.text_atoms.proofs.Spaces.{least-same}
use Rattle.text_atoms.proofs.FreshTexts.{first_as}

Members : Type 0
Members = List (Kind × Text)

string_of : (k : Kind) (t x : Text) → part_of Strings (k, t) ≡ Some x → ◌≡◌ {A = Kind × Text} (k, t) (Str, x)
string_of Str t x e = let same : t ≡ x = cc in ap (λ (y : Text). let p : Kind × Text = (Str, y) in p) same
string_of _ t x e = cc

token_of : (k : Kind) (t x : Text) → part_of TokenForms (k, t) ≡ Some x → (k ≡ Token) × (x ≡ normal t)
token_of Token t x e = let same : x ≡ normal t = cc in (refl, same)
token_of _ t x e = cc

other_of : (k : Kind) (t x : Text) → part_of OtherForms (k, t) ≡ Some x → (k ≢ Str) × (k ≢ Token) × (x ≡ normal t)
other_of Str t x e = cc
other_of Token t x e = cc
other_of _ t x e = let same : x ≡ normal t = cc in ((λ f. cc), (λ f. cc), same)

of_other : (k : Kind) (t : Text) → k ≢ Str → k ≢ Token → part_of OtherForms (k, t) ≡ Some (normal t)
of_other Str t f g = absurd (f refl)
of_other Token t f g = absurd (g refl)
of_other _ t f g = refl

module _ (l : Literals) (new : List Text) where
  -- the strings
  pub strings_from : (old : List Text) (ms : List (Kind × Text)) → old ≡ [] → ms ≡ l.members → ((x : Text) → Contains new x ↔ (Contains old x ⊎ Contains (parts_of Strings ms) x)) →
      (x : Text) → Contains new x ↔ IsStringLiteral l x
  strings_from old ms none is h x = (forth, back)
    where
      forth : Contains new x → IsStringLiteral l x
      forth m = elim ((h x).0 m) [
        | inl o ↦ absurd (member_none x (subst (λ (ys : List Text). Contains ys x) none o))
        | inr p ↦
            let (k, inside, e) = filter_map_member (part_of Strings) ms x p in
            subst (Contains l.members) (string_of k.0 k.1 x e) (subst (λ (ys : List (Kind × Text)). Contains ys k) is inside)
      ]

      back : IsStringLiteral l x → Contains new x
      back m = (h x).1 (inr (member_of_filter_map (part_of Strings) ms (Str, x) x (subst (λ (ys : List (Kind × Text)). Contains ys (Str, x)) (sym is) m) refl))

  -- the token forms of literals
  pub forms_from : (old : List Text) (ms : List (Kind × Text)) → old ≡ [] → ms ≡ l.members → ((x : Text) → Contains new x ↔ (Contains old x ⊎ Contains (parts_of TokenForms ms) x)) →
      (x : Text) → Contains new x ↔ ((t : Text) × Contains l.members (Token, t) × (x ≡ normal t))
  forms_from old ms none is h x = (forth, back)
    where
      forth : Contains new x → (t : Text) × Contains l.members (Token, t) × (x ≡ normal t)
      forth m = elim ((h x).0 m) [
        | inl o ↦ absurd (member_none x (subst (λ (ys : List Text). Contains ys x) none o))
        | inr p ↦
            let (k, inside, e) = filter_map_member (part_of TokenForms) ms x p in
            let (at, same) = token_of k.0 k.1 x e in
            (k.1, subst (λ (j : Kind). Contains l.members (j, k.1)) at (subst (λ (ys : List (Kind × Text)). Contains ys k) is inside), same)
      ]

      back : (t : Text) × Contains l.members (Token, t) × (x ≡ normal t) → Contains new x
      back (t, m, e) = (h x).1 (inr (member_of_filter_map (part_of TokenForms) ms (Token, t) x (subst (λ (ys : List (Kind × Text)). Contains ys (Token, t)) (sym is) m) (ap Some (sym e))))

  pub forms_without : (old : List Text) (ms : List (Kind × Text)) → old ≡ [] → ms ≡ l.members → false ≡ l.has_empty → ((x : Text) → Contains new x ↔ (Contains old x ⊎ Contains (parts_of TokenForms ms) x)) →
      (x : Text) → Contains new x ↔ IsTokenForm l x
  forms_without old ms none is empty h x = let f = forms_from old ms none is h x in (λ m. inl (f.0 m), λ m. elim m [ inl k ↦ f.1 k | inr (e, q) ↦ (let clash : false ≡ true = empty ∙ e in cc) ])

-- and the empty text
pub forms_with : (l : Literals) (some new : List Text) (t : Text) (old : List Text) (ms : List (Kind × Text)) → old ≡ [] → ms ≡ l.members → true ≡ l.has_empty → t ≡ [] →
    ((x : Text) → Contains some x ↔ (Contains old x ⊎ Contains (parts_of TokenForms ms) x)) → ((x : Text) → Contains new x ↔ (Contains some x ⊎ (x ≡ t))) →
    (x : Text) → Contains new x ↔ IsTokenForm l x
forms_with l some new t old ms none is empty nil h add x =
    let f = forms_from l some old ms none is h x in (
      λ m. elim ((add x).0 m) [ inl k ↦ inl (f.0 k) | inr e ↦ inr (sym empty, e ∙ nil) ],
      λ m. elim m [ inl k ↦ (add x).1 (inl (f.1 k)) | inr (e, q) ↦ (add x).1 (inr (q ∙ sym nil)) ],
    )

-- the normal forms of the other kinds
pub others_from : (l : Literals) (new old : List Text) (ms : List (Kind × Text)) → old ≡ [] → ms ≡ l.members → ((x : Text) → Contains new x ↔ (Contains old x ⊎ Contains (parts_of OtherForms ms) x)) →
    (x : Text) → Contains new x ↔ IsNormalAtom l x
others_from l new old ms none is h x = (forth, back)
  where
    forth : Contains new x → IsNormalAtom l x
    forth m = elim ((h x).0 m) [
      | inl o ↦ absurd (member_none x (subst (λ (ys : List Text). Contains ys x) none o))
      | inr p ↦
          let (k, inside, e) = filter_map_member (part_of OtherForms) ms x p in
          let (f, g, same) = other_of k.0 k.1 x e in
          (k.0, k.1, subst (λ (ys : List (Kind × Text)). Contains ys k) is inside, f, g, same)
    ]

    back : IsNormalAtom l x → Contains new x
    back (k, t, m, f, g, e) =
        (h x).1 (inr (member_of_filter_map (part_of OtherForms) ms (k, t) x (subst (λ (ys : List (Kind × Text)). Contains ys (k, t)) (sym is) m) (of_other k t f g ∙ ap Some (sym e))))

-- the texts and the normal forms of all kinds
pub taken_from : (l : Literals) (new some old : List Text) (ms : List (Kind × Text)) → old ≡ [] → ms ≡ l.members →
    ((x : Text) → Contains some x ↔ (Contains old x ⊎ Contains (parts_of Texts ms) x)) → ((x : Text) → Contains new x ↔ (Contains some x ⊎ Contains (parts_of Forms ms) x)) →
    (x : Text) → Contains new x ↔ IsTaken l x
taken_from l new some old ms none is h more x = (forth, back)
  where
    forth : Contains new x → IsTaken l x
    forth m = elim ((more x).0 m) [
      | inl o ↦ elim ((h x).0 o) [
        | inl n ↦ absurd (member_none x (subst (λ (ys : List Text). Contains ys x) none n))
        | inr p ↦
            let (k, inside, e) = filter_map_member (part_of Texts) ms x p in
            let same : x ≡ k.1 = cc in
            (k.0, k.1, subst (λ (ys : List (Kind × Text)). Contains ys k) is inside, inl same)
      ]
      | inr p ↦
          let (k, inside, e) = filter_map_member (part_of Forms) ms x p in
          let same : x ≡ normal k.1 = cc in
          (k.0, k.1, subst (λ (ys : List (Kind × Text)). Contains ys k) is inside, inr same)
    ]

    back : IsTaken l x → Contains new x
    back (k, t, m, inl e) = (more x).1 (inl ((h x).1 (inr (member_of_filter_map (part_of Texts) ms (k, t) x (subst (λ (ys : List (Kind × Text)). Contains ys (k, t)) (sym is) m) (ap Some (sym e))))))
    back (k, t, m, inr e) = (more x).1 (inr (member_of_filter_map (part_of Forms) ms (k, t) x (subst (λ (ys : List (Kind × Text)). Contains ys (k, t)) (sym is) m) (ap Some (sym e))))

pub fresh_from : (l : Literals) (taken : List Text) (x : Text) → ((y : Text) → Contains taken y ↔ IsTaken l y) → IsFirstFree (Contains taken) (codes "t") x → IsFreshText l x
fresh_from l taken x h = first_as (Contains taken) (IsTaken l) (codes "t") x (λ y. (h y).0) (λ y. (h y).1)

-- the forms that are spaced so far
abbrev pub AreSpaced : List Text → List Text → List Text → List Text → Type 0
AreSpaced taken all left texts = (done : List Text) × (all ≡ done ++ left) × ((x : Text) → Contains texts x ↔ ((n : Text) × Contains done n × IsLeastSpaced (Contains taken) n x))

pub none_spaced : (taken all texts : List Text) → texts ≡ [] → AreSpaced taken all all texts
none_spaced taken all texts none = ([], refl, λ x. (λ m. absurd (member_none x (subst (λ (ys : List Text). Contains ys x) none m)), λ (n, m, s). absurd (member_none n m)))

pub more_spaced : (taken all left rest old new : List Text) (n t : Text) → left ≡ n ∷ rest → AreSpaced taken all left old → IsLeastSpaced (Contains taken) n t →
    ((x : Text) → Contains new x ↔ (Contains old x ⊎ (x ≡ t))) → AreSpaced taken all rest new
more_spaced taken all left rest old new n t is (done, parts, h) s add =
    (done ++ n ∷ [], parts ∙ ap (λ (ys : List Text). done ++ ys) is ∙ sym (append_assoc done (n ∷ []) rest), λ x. (forth x, back x))
  where
    forth : (x : Text) → Contains new x → (m : Text) × Contains (done ++ n ∷ []) m × IsLeastSpaced (Contains taken) m x
    forth x m = elim ((add x).0 m) [
      | inl o ↦ let (k, inside, e) = (h x).0 o in (k, Contains-append_left done (n ∷ []) k inside, e)
      | inr e ↦ (n, Contains-push done n, subst (IsLeastSpaced (Contains taken) n) (sym e) s)
    ]

    back : (x : Text) → (m : Text) × Contains (done ++ n ∷ []) m × IsLeastSpaced (Contains taken) m x → Contains new x
    back x (m, inside, e) = elim (Contains-push_cases done n m inside) [
      | inl k ↦ (add x).1 (inl ((h x).1 (m, k, e)))
      | inr same ↦ (add x).1 (inr (least-same (Contains taken) m x t e (subst (λ (y : Text). IsLeastSpaced (Contains taken) y t) same s)))
    ]

pub all_are_spaced : (taken all left texts : List Text) → left ≡ [] → AreSpaced taken all left texts →
    (x : Text) → Contains texts x ↔ ((n : Text) × Contains all n × IsLeastSpaced (Contains taken) n x)
all_are_spaced taken all left texts none (done, parts, h) =
    let same : done ≡ all = sym (parts ∙ ap (λ (ys : List Text). done ++ ys) none ∙ append-nil done) in
    subst (λ (ys : List Text). (x : Text) → Contains texts x ↔ ((n : Text) × Contains ys n × IsLeastSpaced (Contains taken) n x)) same h

spaced_as : (l : Literals) (taken : List Text) (n x : Text) → ((y : Text) → Contains taken y ↔ IsStringLiteral l y) → IsLeastSpaced (Contains taken) n x → IsSpacedForm l n x
spaced_as l taken n x h s = record { spaces = s.spaces; is = s.is; free = λ m. s.free ((h x).1 m); first = λ k below. (h _).0 (s.first k below) }

as_spaced : (l : Literals) (taken : List Text) (n x : Text) → ((y : Text) → Contains taken y ↔ IsStringLiteral l y) → IsSpacedForm l n x → IsLeastSpaced (Contains taken) n x
as_spaced l taken n x h s = record { spaces = s.spaces; is = s.is; free = λ m. s.free ((h x).0 m); first = λ k below. (h _).1 (s.first k below) }

-- the token atoms
pub tokens_from : (l : Literals) (strings forms texts : List Text) → ((y : Text) → Contains strings y ↔ IsStringLiteral l y) → ((y : Text) → Contains forms y ↔ IsTokenForm l y) →
    ((x : Text) → Contains texts x ↔ ((n : Text) × Contains forms n × IsLeastSpaced (Contains strings) n x)) → (x : Text) → Contains texts x ↔ IsTokenAtom l x
tokens_from l strings forms texts s f h x = (
  λ m. (let (n, inside, e) = (h x).0 m in (n, (f n).0 inside, spaced_as l strings n x s e)),
  λ (n, form, e). (h x).1 (n, (f n).1 form, as_spaced l strings n x s e),
)

-- a text of a kind that isn't marked, and of one that is
pub unmarked : (kinds : List Kind) (k : Kind) (t : Text) (old : List Text) → (Contains kinds k → ⊥) → (x : Text) → Contains old x ↔ (Contains old x ⊎ (Contains kinds k × (t ≡ x)))
unmarked kinds k t old absent x = (λ m. inl m, λ m. elim m [ inl o ↦ o | inr (inside, e) ↦ absurd (absent inside) ])

pub marked : (kinds : List Kind) (k : Kind) (t s : Text) (old new : List Text) → Contains kinds k → s ≡ t → ((x : Text) → Contains new x ↔ (Contains old x ⊎ (x ≡ s))) →
    (x : Text) → Contains new x ↔ (Contains old x ⊎ (Contains kinds k × (t ≡ x)))
marked kinds k t s old new present same h x =
    (λ m. elim ((h x).0 m) [ inl o ↦ inl o | inr e ↦ inr (present, sym (e ∙ same)) ], λ m. elim m [ inl o ↦ (h x).1 (inl o) | inr (inside, e) ↦ (h x).1 (inr (sym e ∙ sym same)) ])

pub table_none : (kinds : List Kind) (table : List (rust.Kind × Bor Text)) (texts : List Text) → texts ≡ [] → (x : Text) → Contains texts x ↔ IsOfMarkedKinds kinds (take 0 table) x
table_none kinds table texts none x = (λ m. absurd (member_none x (subst (λ (ys : List Text). Contains ys x) none m)), λ s. absurd (member_none s.entry (subst (λ (ys : List (rust.Kind × Bor Text)). Contains ys s.entry) (nothing table) s.member)))
  where
    nothing : (ys : List (rust.Kind × Bor Text)) → take 0 ys ≡ []
    nothing ys = refl

pub table_more : (kinds : List Kind) (table : List (rust.Kind × Bor Text)) (i : ℕ) (d : rust.Kind × Bor Text) (old new : List Text) → i < length table →
    ((x : Text) → Contains old x ↔ IsOfMarkedKinds kinds (take i table) x) →
    ((x : Text) → Contains new x ↔ (Contains old x ⊎ (Contains kinds (kind_of (get_or table i d).0) × ((get_or table i d).1.now ≡ x)))) →
    (x : Text) → Contains new x ↔ IsOfMarkedKinds kinds (take (i + 1) table) x
table_more kinds table i d old new below h step x = (forth, back)
  where
    grown : take (i + 1) table ≡ take i table ++ get_or table i d ∷ []
    grown = take_more table i d below

    forth : Contains new x → IsOfMarkedKinds kinds (take (i + 1) table) x
    forth m = elim ((step x).0 m) [
      | inl o ↦
          let s = (h x).0 o in
          record { entry = s.entry; member = subst (λ (ys : List (rust.Kind × Bor Text)). Contains ys s.entry) (sym grown) (Contains-append_left (take i table) (get_or table i d ∷ []) s.entry s.member); kind = s.kind; text = s.text }
      | inr (k, same) ↦ record { entry = get_or table i d; member = subst (λ (ys : List (rust.Kind × Bor Text)). Contains ys (get_or table i d)) (sym grown) (Contains-push (take i table) (get_or table i d)); kind = k; text = same }
    ]

    back : IsOfMarkedKinds kinds (take (i + 1) table) x → Contains new x
    back s = elim (Contains-push_cases (take i table) (get_or table i d) s.entry (subst (λ (ys : List (rust.Kind × Bor Text)). Contains ys s.entry) grown s.member)) [
      | inl m ↦ (step x).1 (inl ((h x).1 (record { entry = s.entry; member = m; kind = s.kind; text = s.text })))
      | inr at ↦ (step x).1 (inr (subst (λ (y : rust.Kind × Bor Text). Contains kinds (kind_of y.0) × (y.1.now ≡ x)) (sym at) (s.kind, s.text)))
    ]

pub table_all : (kinds : List Kind) (table : List (rust.Kind × Bor Text)) (i : ℕ) (texts : List Text) → length table ≤ i → ((x : Text) → Contains texts x ↔ IsOfMarkedKinds kinds (take i table) x) →
    (x : Text) → Contains texts x ↔ IsOfMarkedKinds kinds table x
table_all kinds table i texts long h = subst (λ (ys : List (rust.Kind × Bor Text)). (x : Text) → Contains texts x ↔ IsOfMarkedKinds kinds ys x) (take_all i table long) h

-- the samples in a table
abbrev pub sample_table : List (Kind × Text)
sample_table =
    (Boolean, codes "false") ∷ (Boolean, codes "true") ∷ (Integer, codes "-1") ∷ (Integer, codes "0") ∷ (Integer, codes "1") ∷ (NonNegative, codes "0") ∷ (NonNegative, codes "1") ∷ (Positive, codes "1")
    ∷ (NcName, codes "n") ∷ (Nmtoken, codes "-n") ∷ []

table_holds : AllByRecursion (λ (e : Kind × Text). Contains (samples e.0) e.1) sample_table
table_holds = ((0, omega arith, refl), ((1, omega arith, refl), ((0, omega arith, refl), ((1, omega arith, refl), ((2, omega arith, refl), ((0, omega arith, refl), ((1, omega arith, refl), ((0, omega arith, refl), ((0, omega arith, refl), ((0, omega arith, refl), tt))))))))))

samples_hold : (k : Kind) → AllByRecursion (λ (x : Text). Contains sample_table (k, x)) (samples k)
samples_hold Str = tt
samples_hold Token = tt
samples_hold Boolean = ((0, omega arith, refl), ((1, omega arith, refl), tt))
samples_hold Integer = ((2, omega arith, refl), ((3, omega arith, refl), ((4, omega arith, refl), tt)))
samples_hold NonNegative = ((5, omega arith, refl), ((6, omega arith, refl), tt))
samples_hold Positive = ((7, omega arith, refl), tt)
samples_hold NcName = ((8, omega arith, refl), tt)
samples_hold Nmtoken = ((9, omega arith, refl), tt)

pub samples_from : (l : Literals) (table : List (rust.Kind × Bor Text)) (texts : List Text) → ((x : Text) → Contains texts x ↔ IsOfMarkedKinds l.kinds table x) →
    map (λ (e : rust.Kind × Bor Text). let p : Kind × Text = (kind_of e.0, e.1.now) in p) table ≡ sample_table → (x : Text) → Contains texts x ↔ IsSample l x
samples_from l table texts h is x = (forth, back)
  where
    forth : Contains texts x → IsSample l x
    forth m =
        let s = (h x).0 m in
        let p : Kind × Text = (kind_of s.entry.0, s.entry.1.now) in
        let listed : Contains sample_table p = subst (λ (ys : List (Kind × Text)). Contains ys p) is (member_of_map (λ (e : rust.Kind × Bor Text). let p : Kind × Text = (kind_of e.0, e.1.now) in p) table s.entry s.member) in
        (kind_of s.entry.0, s.kind, subst (Contains (samples (kind_of s.entry.0))) s.text (All-contains (λ (e : Kind × Text). Contains (samples e.0) e.1) sample_table p (All-from_recursion (λ (e : Kind × Text). Contains (samples e.0) e.1) sample_table table_holds) listed))

    back : IsSample l x → Contains texts x
    back (k, marked, m) =
        let listed : Contains sample_table (k, x) = All-contains (λ (x : Text). Contains sample_table (k, x)) (samples k) x (All-from_recursion (λ (x : Text). Contains sample_table (k, x)) (samples k) (samples_hold k)) m in
        let (e, inside, same) = map_member (λ (e : rust.Kind × Bor Text). let p : Kind × Text = (kind_of e.0, e.1.now) in p) table (k, x) (subst (λ (ys : List (Kind × Text)). Contains ys (k, x)) (sym is) listed) in
        let kinds_same : kind_of e.0 ≡ k = ap (λ (p : Kind × Text). p.0) same in
        let texts_same : e.1.now ≡ x = ap (λ (p : Kind × Text). p.1) same in
        (h x).1 (record { entry = e; member = inside; kind = subst (Contains l.kinds) (sym kinds_same) marked; text = texts_same })
