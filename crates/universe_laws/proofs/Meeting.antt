-- The attributes of each element have distinct representatives, or there is a first that meets an earlier one.
use Rattle.std.proofs.Common.{◌≡◌, ℕ, zero, suc, ◌+◌, ◌<◌, ◌⊎◌, inl, inr, List, [], ◌∷◌, ◌++◌, refl, sym, ◌∙◌, map, subst, arith, append_assoc, append-nil, false}
use Rattle.std.specs.Prelude.{⊤}
use Rattle.std.specs.List.{AllByRecursion}
use Rattle.rng_model.specs.Texts.{Text}
use Rattle.rng_model.specs.Names.{Name, same_name}
use Rattle.rng_model.specs.Atoms.{Literals}
use Rattle.rng_model.specs.Patterns.{Schema}
use Rattle.rng_model.specs.Hedges.{Attribute, Attributes, Hedge, Skeleton, document}
use Rattle.rng_model.specs.Hedges as hedge
use Rattle.rng_model.specs.Events.{Event, Opening, Attr, Body, Closing, hedge_events, events}
use Rattle.rng_model.specs.Universe.{NameStandsFor, IsAttributeClass}
use Rattle.universe_laws.specs.Representatives.{NoneMeet, HasDistinctRepresentatives, HasRepresentatives}
use Rattle.universe_laws.specs.Meeting.{MeetsOne, MeetsAt, MeetsFirst}
use Rattle.universe_laws.proofs.Tests.{Which, which, yes, no, one_name, IsOneOf}
use Rattle.universe_laws.proofs.OverlapLaw.{refuse_name}
use Rattle.universe_laws.proofs.Unique.{name-same}

module _ (g : Schema) where
  abbrev Attributed : Name → Name → Type 0
  Attributed = NameStandsFor (IsAttributeClass g)

  -- no event is an attribute that meets an earlier one
  abbrev NoneMeets : List Name → List Event → Type 0
  NoneMeets names [] = ⊤
  NoneMeets names (Attr n t ∷ es) = (MeetsOne g n names → ⊥) × NoneMeets (n ∷ names) es
  NoneMeets names (e ∷ es) = NoneMeets [] es

  none_at : (names : List Name) (es : List Event) → NoneMeets names es → (i : ℕ) → MeetsAt g names es i → ⊥
  none_at names [] h i k = k
  none_at names (Attr n t ∷ es) h zero k = h.0 k
  none_at names (Attr n t ∷ es) h (suc i) k = none_at (n ∷ names) es h.1 i k
  none_at names (e ∷ es) h zero k = k
  none_at names (e ∷ es) h (suc i) k = none_at [] es h i k

  -- the same of attributes
  abbrev AreNew : List Name → Attributes → Type 0
  AreNew names [] = ⊤
  AreNew names (x ∷ a) = (MeetsOne g x.0 names → ⊥) × AreNew (x.0 ∷ names) a

  abbrev AttributeEvents : Attributes → List Event
  AttributeEvents = map (λ x. Attr x.0 x.1)

  new_to : (names : List Name) (a : Attributes) (es : List Event) → NoneMeets names (AttributeEvents a ++ (Body ∷ es)) → AreNew names a × NoneMeets [] es
  new_to names [] es h = (tt, h)
  new_to names (x ∷ a) es h = let t = new_to (x.0 ∷ names) a es h.1 in ((h.0, t.0), t.1)

  new_from : (names : List Name) (a : Attributes) (es : List Event) → AreNew names a → NoneMeets [] es → NoneMeets names (AttributeEvents a ++ (Body ∷ es))
  new_from names [] es h k = k
  new_from names (x ∷ a) es h k = (h.0, new_from (x.0 ∷ names) a es h.1 k)

  abbrev Differs : Name → Attribute → Type 0
  Differs n y = (m : Name) → Attributed n m → Attributed y.0 m → ⊥

  meets_one : (n k m : Name) (names : List Name) → IsOneOf Name k names → Attributed k m → Attributed n m → MeetsOne g n names
  meets_one n k m [] h a b = absurd h
  meets_one n k m (o ∷ names) (inl e) a b = inl (m, subst (λ z. Attributed z m) e a, b)
  meets_one n k m (o ∷ names) (inr h) a b = inr (meets_one n k m names h a b)

  new_differ : (n : Name) (names : List Name) (a : Attributes) → IsOneOf Name n names → AreNew names a → AllByRecursion (Differs n) a
  new_differ n names [] i h = tt
  new_differ n names (x ∷ a) i h = ((λ m s t. h.0 (meets_one x.0 n m names i s t)), new_differ n (x.0 ∷ names) a (inr i) h.1)

  new_distinct : (names : List Name) (a : Attributes) → AreNew names a → NoneMeet g a
  new_distinct names [] h = tt
  new_distinct names (x ∷ a) h = (new_differ x.0 (x.0 ∷ names) a (inl refl) h.1, new_distinct (x.0 ∷ names) a h.1)

  -- the names differ from all of the attributes
  abbrev AllDiffer : List Name → Attributes → Type 0
  AllDiffer names a = AllByRecursion (λ n. AllByRecursion (Differs n) a) names

  heads_differ : (x : Attribute) (names : List Name) (a : Attributes) → AllDiffer names (x ∷ a) → MeetsOne g x.0 names → ⊥
  heads_differ x [] a f h = h
  heads_differ x (k ∷ names) a f (inl (m, s, t)) = f.0.0 m s t
  heads_differ x (k ∷ names) a f (inr h) = heads_differ x names a f.1 h

  tails_differ : (x : Attribute) (names : List Name) (a : Attributes) → AllDiffer names (x ∷ a) → AllDiffer names a
  tails_differ x [] a f = tt
  tails_differ x (k ∷ names) a f = (f.0.1, tails_differ x names a f.1)

  distinct_new : (names : List Name) (a : Attributes) → AllDiffer names a → NoneMeet g a → AreNew names a
  distinct_new names [] f h = tt
  distinct_new names (x ∷ a) f h = (heads_differ x names a f, distinct_new (x.0 ∷ names) a (h.0, tails_differ x names a f) h.1)

  -- the events of an element and what follows it
  regroup : (n : Name) (a : Attributes) (k rest : Hedge) (es : List Event) →
      hedge_events (hedge.element n a k rest) ++ es ≡ Opening n ∷ (AttributeEvents a ++ (Body ∷ (hedge_events k ++ (Closing ∷ (hedge_events rest ++ es)))))
  regroup n a k rest es = simp append_assoc

  record After (es : List Event) : Type 0 where
    names : List Name
    none : NoneMeets names es

  hedge_to : (m : Hedge) (names : List Name) (es : List Event) → NoneMeets names (hedge_events m ++ es) → HasDistinctRepresentatives g m × After es
  hedge_to hedge.none names es h = (tt, record { names = names; none = h })
  hedge_to (hedge.element n a k rest) names es h =
      let e = subst (NoneMeets names) (regroup n a k rest es) h in
      let t = new_to [] a (hedge_events k ++ (Closing ∷ (hedge_events rest ++ es))) e in
      let u = hedge_to k [] (Closing ∷ (hedge_events rest ++ es)) t.1 in
      let v = hedge_to rest [] es u.1.none in
      ((new_distinct [] a t.0, u.0, v.0), v.1)
  hedge_to (hedge.text t rest) names es h = hedge_to rest [] es h

  hedge_from : (m : Hedge) (names : List Name) (es : List Event) → HasDistinctRepresentatives g m → ((names : List Name) → NoneMeets names es) → NoneMeets names (hedge_events m ++ es)
  hedge_from hedge.none names es h f = f names
  hedge_from (hedge.element n a k rest) names es h f =
      let r = hedge_from rest [] es h.2 f in
      let u = hedge_from k [] (Closing ∷ (hedge_events rest ++ es)) h.1 (λ names. r) in
      subst (NoneMeets names) (sym (regroup n a k rest es)) (new_from [] a (hedge_events k ++ (Closing ∷ (hedge_events rest ++ es))) (distinct_new [] a tt h.0) u)
  hedge_from (hedge.text t rest) names es h f = hedge_from rest [] es h f

  document_to : (d : Skeleton) → NoneMeets [] (events d) → HasDistinctRepresentatives g (document d)
  document_to d h = (hedge_to (document d) [] [] (subst (NoneMeets []) (sym (append-nil (events d))) h)).0

  document_from : (d : Skeleton) → HasDistinctRepresentatives g (document d) → NoneMeets [] (events d)
  document_from d h = subst (NoneMeets []) (append-nil (events d)) (hedge_from (document d) [] [] h (λ names. tt))

  pub never_both : (d : Skeleton) (line : ℕ) → HasDistinctRepresentatives g (document d) → MeetsFirst g d line → ⊥
  never_both d line h f = none_at [] (events d) (document_from d h) f.event f.meets

  module _ (l : Literals) (has : HasRepresentatives g l) where
    meets : (n : Name) (names : List Name) → MeetsOne g n names ⊎ (MeetsOne g n names → ⊥)
    meets n [] = inr (λ h. h)
    meets n (k ∷ names) = go (which (same_name (has.attributes k).0 (has.attributes n).0)) (meets n names)
      where
        differ : same_name (has.attributes k).0 (has.attributes n).0 ≡ false → (MeetsOne g n names → ⊥) → MeetsOne g n (k ∷ names) → ⊥
        differ e f (inl (m, s, t)) =
            let i = name-same (IsAttributeClass g) k m (has.attributes k).0 s (has.attributes k).1 in
            let j = name-same (IsAttributeClass g) n m (has.attributes n).0 t (has.attributes n).1 in
            refuse_name (has.attributes k).0 (has.attributes n).0 e (sym i ∙ j)
        differ e f (inr h) = f h

        go : Which (same_name (has.attributes k).0 (has.attributes n).0) → MeetsOne g n names ⊎ (MeetsOne g n names → ⊥) → MeetsOne g n (k ∷ names) ⊎ (MeetsOne g n (k ∷ names) → ⊥)
        go (yes e) h =
            inl (inl ((has.attributes n).0, subst (Attributed k) (one_name (has.attributes k).0 (has.attributes n).0 e) (has.attributes k).1, (has.attributes n).1))
        go (no e) (inl h) = inl (inr h)
        go (no e) (inr f) = inr (differ e f)

    record First (names : List Name) (es : List Event) : Type 0 where
      event : ℕ
      meet : MeetsAt g names es event
      first : (i : ℕ) → i < event → MeetsAt g names es i → ⊥

    walk_attribute : (names : List Name) (n : Name) (t : Text) (es : List Event) → MeetsOne g n names ⊎ (MeetsOne g n names → ⊥) →
        NoneMeets (n ∷ names) es ⊎ First (n ∷ names) es → NoneMeets names (Attr n t ∷ es) ⊎ First names (Attr n t ∷ es)
    walk_attribute names n t es (inl h) k = inr (record { event = 0; meet = h; first = λ i l. absurd (omega arith) })
    walk_attribute names n t es (inr f) (inl k) = inl (f, k)
    walk_attribute names n t es (inr f) (inr k) = inr (record { event = suc k.event; meet = k.meet; first = below })
      where
        below : (i : ℕ) → i < suc k.event → MeetsAt g names (Attr n t ∷ es) i → ⊥
        below zero l h = f h
        below (suc i) l h = k.first i (omega arith) h

    walk_other : (names : List Name) (e : Event) (es : List Event) → NoneMeets [] es ⊎ First [] es →
        ((i : ℕ) → MeetsAt g names (e ∷ es) i → (j : ℕ) × (i ≡ suc j) × MeetsAt g [] es j) → ((j : ℕ) → MeetsAt g [] es j → MeetsAt g names (e ∷ es) (suc j)) →
        (NoneMeets [] es → NoneMeets names (e ∷ es)) → NoneMeets names (e ∷ es) ⊎ First names (e ∷ es)
    walk_other names e es (inl h) f t b = inl (b h)
    walk_other names e es (inr k) f t b = inr (record { event = suc k.event; meet = t k.event k.meet; first = below })
      where
        below : (i : ℕ) → i < suc k.event → MeetsAt g names (e ∷ es) i → ⊥
        below i l h = let r = f i h in let q = r.1 in k.first r.0 (omega arith) r.2

    behind : (names : List Name) (e : Event) (es : List Event) → (MeetsAt g names (e ∷ es) 0 → ⊥) → ((j : ℕ) → MeetsAt g names (e ∷ es) (suc j) → MeetsAt g [] es j) →
        (i : ℕ) → MeetsAt g names (e ∷ es) i → (j : ℕ) × (i ≡ suc j) × MeetsAt g [] es j
    behind names e es z f zero h = absurd (z h)
    behind names e es z f (suc j) h = (j, refl, f j h)

    walk : (names : List Name) (es : List Event) → NoneMeets names es ⊎ First names es
    walk names [] = inl tt
    walk names (Attr n t ∷ es) = walk_attribute names n t es (meets n names) (walk (n ∷ names) es)
    walk names (e ∷ es) = walk_other names e es (walk [] es) (behind names e es (λ h. h) (λ j h. h)) (λ j h. h) (λ h. h)

    pub distinct_or_meet : (d : Skeleton) → HasDistinctRepresentatives g (document d) ⊎ ((line : ℕ) × MeetsFirst g d line)
    distinct_or_meet d = go (walk [] (events d))
      where
        go : NoneMeets [] (events d) ⊎ First [] (events d) → HasDistinctRepresentatives g (document d) ⊎ ((line : ℕ) × MeetsFirst g d line)
        go (inl h) = inl (document_to d h)
        go (inr f) = inr (f.event + 1, record { event = f.event; is = refl; meets = f.meet; first = f.first })
