-- A name, a text and a document have one representative at most.
use Rattle.std.proofs.Common.{◌≡◌, ◌<◌, ◌⊎◌, inl, inr, ◌∷◌, refl, sym, ◌∙◌, ap, map, subst, codes}
use Rattle.std.specs.List.{AllByRecursion}
use Rattle.std.specs.List.Sorted.{IsStrictlySortedBy}
use Rattle.std.specs.declared.cmp.Ordering.TheVariants.{Less}
use Rattle.std.specs.Ordering.{ordering_reverse}
use Rattle.std.proofs.lemmas.Bool.{cases_order}
use Rattle.rng_model.specs.Texts.{Text, normal}
use Rattle.rng_model.specs.Names.{Name, name_cmp}
use Rattle.rng_model.specs.Classes.{Class, any, any_except, namespace, namespace_except, one, either}
use Rattle.rng_model.specs.Atoms.{TextStandsFor, Literals, IsSpacedForm, spaced}
use Rattle.rng_model.specs.Fresh.{IsFirstFree, numbered}
use Rattle.rng_model.specs.Patterns.{Schema}
use Rattle.rng_model.specs.Hedges.{Attribute, Attributes, Hedge, Skeleton}
use Rattle.rng_model.specs.Hedges as hedge
use Rattle.rng_model.specs.Universe.{NameStandsFor, NamesName, NamesSpace, IsMentioned, IsMentionedSpace, IsElementClass, IsAttributeClass}
use Rattle.rng_model.proofs.Orders.{name_order}
use Rattle.universe_laws.specs.Representatives.{Put, first, later, AttributesStandFor, HedgeStandsFor, StandsFor}
use Rattle.universe_laws.specs.Representatives as stand

-- a name that stands in a class has a namespace that does
named_space : (c : Class) (n : Name) → NamesName c n → NamesSpace c n.ns
named_space any n h = absurd h
named_space (any_except c) n h = named_space c n h
named_space (namespace u) n h = absurd h
named_space (namespace_except u c) n h = inr (named_space c n h)
named_space (one m) n h = λ i. (h i).ns
named_space (either a b) n (inl h) = inl (named_space a n h)
named_space (either a b) n (inr h) = inr (named_space b n h)

pub mentioned_space : (C : Class → Type 0) (n : Name) → IsMentioned C n → IsMentionedSpace C n.ns
mentioned_space C n (c, h, k) = (c, h, named_space c n k)

first_free-same : (taken : Text → Type 0) (stem x y : Text) → IsFirstFree taken stem x → IsFirstFree taken stem y → x ≡ y
first_free-same taken stem x y f h = go (cases_order f.number h.number)
  where
    go : (f.number ≡ h.number) ⊎ ((f.number < h.number) ⊎ (h.number < f.number)) → x ≡ y
    go (inl e) = f.is ∙ ap (numbered stem) e ∙ sym h.is
    go (inr (inl l)) = absurd (f.free (rw f.is (h.first f.number l)))
    go (inr (inr l)) = absurd (h.free (rw h.is (f.first h.number l)))

spaced-same : (l : Literals) (n x y : Text) → IsSpacedForm l n x → IsSpacedForm l n y → x ≡ y
spaced-same l n x y f h = go (cases_order f.spaces h.spaces)
  where
    go : (f.spaces ≡ h.spaces) ⊎ ((f.spaces < h.spaces) ⊎ (h.spaces < f.spaces)) → x ≡ y
    go (inl e) = f.is ∙ ap (spaced n) e ∙ sym h.is
    go (inr (inl k)) = absurd (f.free (rw f.is (h.first f.spaces k)))
    go (inr (inr k)) = absurd (h.free (rw h.is (f.first h.spaces k)))

pub name-same : (C : Class → Type 0) (n m k : Name) → NameStandsFor C n m → NameStandsFor C n k → m ≡ k
name-same C n m k (inl (is, e)) (inl (js, f)) = e ∙ sym f
name-same C n m k (inl (is, e)) (inr (inl (not, space, e', f))) = absurd (not is)
name-same C n m k (inl (is, e)) (inr (inr (not, f, e'))) = absurd (not (mentioned_space C n is))
name-same C n m k (inr (inl (not, space, e', f))) (inl (is, e)) = absurd (not is)
name-same C n m k (inr (inr (not, f, e'))) (inl (is, e)) = absurd (not (mentioned_space C n is))
name-same C n m k (inr (inl (not, space, e, f))) (inr (inl (not', space', e', f'))) =
    let a = e ∙ sym e' in
    let b = first_free-same (λ l. IsMentioned C (record { ns = m.ns; local = l })) (codes "x") m.local k.local f (subst (λ u. IsFirstFree (λ l. IsMentioned C (record { ns = u; local = l })) (codes "x") k.local) (sym a) f') in
    (λ i. record { ns = a i; local = b i })
name-same C n m k (inr (inl (not, space, e, f))) (inr (inr (not', f', e'))) = absurd (not' space)
name-same C n m k (inr (inr (not', f', e'))) (inr (inl (not, space, e, f))) = absurd (not' space)
name-same C n m k (inr (inr (not, f, e))) (inr (inr (not', f', e'))) =
    let a = first_free-same (IsMentionedSpace C) (codes "urn:x") m.ns k.ns f f' in
    let b = e ∙ sym e' in
    (λ i. record { ns = a i; local = b i })

pub text-same : (l : Literals) (s t u : Text) → TextStandsFor l s t → TextStandsFor l s u → t ≡ u
text-same l s t u (inl (is, e)) (inl (js, f)) = e ∙ sym f
text-same l s t u (inl (is, e)) (inr (inl (not, form, f))) = absurd (not is)
text-same l s t u (inl (is, e)) (inr (inr (not, free, f))) = absurd (not is)
text-same l s t u (inr (inl (not, form, f))) (inl (is, e)) = absurd (not is)
text-same l s t u (inr (inr (not, free, f))) (inl (is, e)) = absurd (not is)
text-same l s t u (inr (inl (not, form, f))) (inr (inl (not', form', f'))) = spaced-same l (normal s) t u f f'
text-same l s t u (inr (inl (not, form, f))) (inr (inr (not', free, h))) = absurd (free form)
text-same l s t u (inr (inr (not', free, h))) (inr (inl (not, form, f))) = absurd (free form)
text-same l s t u (inr (inr (not, free, f))) (inr (inr (not', free', f'))) = first_free-same _ _ t u f f'

-- sets of attributes by ascending name
abbrev pub AreSorted : Attributes → Type 0
AreSorted a = IsStrictlySortedBy name_cmp (map (λ x. x.0) a)

pub not_both : (m n : Name) → name_cmp m n ≡ Less → name_cmp n m ≡ Less → ⊥
not_both m n e f = let h : Less ≡ ordering_reverse Less = sym e ∙ name_order.antisymm m n ∙ ap ordering_reverse f in absurd (cc)

abbrev pub AllNames : (Name → Type 0) → Attributes → Type 0
AllNames P a = AllByRecursion P (map (λ x. x.0) a)

pub names_without : (P : Name → Type 0) {x : Attribute} {a b : Attributes} → Put x a b → AllNames P b → P x.0 × AllNames P a
names_without P first h = h
names_without P (later p) h = let t = names_without P p h.1 in (t.0, (h.0, t.1))

pub sorted_without : {x : Attribute} {a b : Attributes} → Put x a b → AreSorted b → AreSorted a
unfolding IsStrictlySortedBy
sorted_without first s = s.1
sorted_without (later {y = y} p) s = ((names_without (λ z. name_cmp y.0 z ≡ Less) p s.0).1, sorted_without p s.1)

put-same : {x : Attribute} {a b c : Attributes} → Put x a b → Put x a c → AreSorted b → AreSorted c → b ≡ c
unfolding IsStrictlySortedBy
put-same first first s t = refl
put-same {x} first (later {y = y} p) s t = absurd (not_both x.0 y.0 s.0.0 (names_without (λ z. name_cmp y.0 z ≡ Less) p t.0).0)
put-same {x} (later {y = y} p) first s t = absurd (not_both x.0 y.0 t.0.0 (names_without (λ z. name_cmp y.0 z ≡ Less) p s.0).0)
put-same (later {y = y} p) (later q) s t = ap (λ d. y ∷ d) (put-same p q s.1 t.1)

module _ (g : Schema) (l : Literals) where
  attributes-same : {a b c : Attributes} → AttributesStandFor g l a b → AttributesStandFor g l a c → AreSorted b → AreSorted c → b ≡ c
  attributes-same stand.AttributesStandFor.ends stand.AttributesStandFor.ends s t = refl
  attributes-same {b = d} {c = e} (stand.puts {n = n} {m = m} {s = x} {t = y} {b = b} h k r p) (stand.puts {m = m'} {t = y'} {b = b'} h' k' r' p') s t =
      let i = name-same (IsAttributeClass g) n m m' h h' in
      let j = text-same l x y y' k k' in
      let f = attributes-same r r' (sorted_without p s) (sorted_without p' t) in
      put-same p (subst (λ z. Put z b e) (λ o. (sym i o, sym j o)) (subst (λ z. Put (m', y') z e) (sym f) p')) s t

  hedge-same : {m n o : Hedge} → HedgeStandsFor g l m n → HedgeStandsFor g l m o → n ≡ o
  hedge-same stand.HedgeStandsFor.ends stand.HedgeStandsFor.ends = refl
  hedge-same (stand.element {n = n} {m = m} h a s k r) (stand.element {m = m'} h' a' s' k' r') =
      let e = name-same (IsElementClass g) n m m' h h' in
      let f = attributes-same a a' s s' in
      let i = hedge-same k k' in
      let j = hedge-same r r' in
      (λ o. hedge.element (e o) (f o) (i o) (j o))
  hedge-same (stand.text {s = s} {t = t} h r) (stand.text {t = t'} h' r') =
      let e = text-same l s t t' h h' in
      let f = hedge-same r r' in
      (λ o. hedge.text (e o) (f o))

  abbrev Roots : Hedge → Hedge → Type 0
  Roots (hedge.element n a k r) (hedge.element m b j s) = (n ≡ m) × (a ≡ b) × (k ≡ j)
  Roots _ _ = ⊥

  roots : (n m : Name) (a b : Attributes) (k j : Hedge) → hedge.element n a k hedge.none ≡ hedge.element m b j hedge.none → (n ≡ m) × (a ≡ b) × (k ≡ j)
  roots n m a b k j e = (cc, cc, cc)

  pub document-same : (d r s : Skeleton) → StandsFor g l d r → StandsFor g l d s → r ≡ s
  document-same d r s h k =
      let t = roots r.name s.name r.attributes s.attributes r.children s.children (hedge-same h k) in
      (λ i. record { name = t.0 i; attributes = t.1 i; children = t.2 i })
