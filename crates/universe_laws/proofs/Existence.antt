-- A document stands for some document exactly when its attributes have distinct representatives.
use Rattle.std.proofs.Common.{◌≡◌, ◌↔◌, [], ◌∷◌, refl, sym, ◌∙◌, ap, append-nil, subst}
use Rattle.std.specs.List.{AllByRecursion}
use Rattle.std.specs.List.Sorted.{IsStrictlySortedBy}
use Rattle.std.specs.declared.cmp.Ordering.{Ordering}
use Rattle.std.specs.declared.cmp.Ordering.TheVariants.{Less, Equal, Greater}
use Rattle.std.specs.Ordering.{ordering_reverse}
use Rattle.std.proofs.lemmas.Map.Lookups.{exact_bytes}
use Rattle.rng_model.specs.Names.{Name, name_key, name_cmp}
use Rattle.rng_model.specs.Atoms.{Literals}
use Rattle.rng_model.specs.Patterns.{Schema}
use Rattle.rng_model.specs.Hedges.{Attribute, Attributes, Hedge, Skeleton, document}
use Rattle.rng_model.specs.Hedges as hedge
use Rattle.rng_model.specs.Universe.{NameStandsFor, IsAttributeClass}
use Rattle.rng_model.proofs.Keys.{name_key-free}
use Rattle.rng_model.proofs.Orders.{name_order}
use Rattle.universe_laws.specs.Representatives.{Put, first, later, AttributesStandFor, HedgeStandsFor, StandsFor, NoneMeet, HasDistinctRepresentatives, HasRepresentatives}
use Rattle.universe_laws.specs.Representatives as stand
use Rattle.universe_laws.proofs.Unique.{name-same, AreSorted, AllNames, not_both, names_without, sorted_without}

equal_names : (m n : Name) → name_cmp m n ≡ Equal → m ≡ n
equal_names m n e =
    (name_key-free m n [] [] (append-nil (name_key m) ∙ exact_bytes (name_key m) (name_key n) e ∙ sym (append-nil (name_key n)))).0

data Order (m n : Name) : Type 0 where
  below : name_cmp m n ≡ Less → Order m n
  same : m ≡ n → Order m n
  above : name_cmp n m ≡ Less → Order m n

order : (m n : Name) → Order m n
order m n = go (name_cmp m n) refl
  where
    go : (o : Ordering) → name_cmp m n ≡ o → Order m n
    go Less e = below e
    go Equal e = same (equal_names m n e)
    go Greater e = above (name_order.antisymm n m ∙ ap ordering_reverse e)

-- a set with one attribute more
record Wider (x : Attribute) (a : Attributes) : Type 0 where
  set : Attributes
  put : Put x a set
  sorted : AreSorted set

names_put : (P : Name → Type 0) {x : Attribute} {a b : Attributes} → Put x a b → P x.0 → AllNames P a → AllNames P b
names_put P first p h = (p, h)
names_put P (later q) p h = (h.0, names_put P q p h.1)

names_map : (P Q : Name → Type 0) (a : Attributes) → ((n : Name) → P n → Q n) → AllNames P a → AllNames Q a
names_map P Q [] f h = tt
names_map P Q (x ∷ a) f h = (f x.0 h.0, names_map P Q a f h.1)

widen : (x : Attribute) (a : Attributes) → AreSorted a → AllNames (λ n. x.0 ≡ n → ⊥) a → Wider x a
unfolding IsStrictlySortedBy
widen x [] s f = record { set = x ∷ []; put = first; sorted = (tt, tt) }
widen x (y ∷ a) s f = go (order x.0 y.0) (widen x a s.1 f.1)
  where
    go : Order x.0 y.0 → Wider x a → Wider x (y ∷ a)
    go (below e) w = record {
      set = x ∷ y ∷ a;
      put = first;
      sorted = ((e, names_map (λ n. name_cmp y.0 n ≡ Less) (λ n. name_cmp x.0 n ≡ Less) a (λ n h. name_order.trans x.0 y.0 n e h) s.0), s);
    }
    go (same e) w = absurd (f.0 e)
    go (above e) w = record { set = y ∷ w.set; put = later w.put; sorted = (names_put (λ n. name_cmp y.0 n ≡ Less) w.put e s.0, w.sorted) }

-- the others of a sorted set have other names
others : {x : Attribute} {a b : Attributes} → Put x a b → AreSorted b → AllNames (λ n. x.0 ≡ n → ⊥) a
unfolding IsStrictlySortedBy
others {x} {a} first s = names_map (λ n. name_cmp x.0 n ≡ Less) (λ n. x.0 ≡ n → ⊥) a (λ n h e. go n h e) s.0
  where
    go : (n : Name) → name_cmp x.0 n ≡ Less → x.0 ≡ n → ⊥
    go n h e = not_both x.0 n h (subst (λ z. name_cmp n z ≡ Less) (sym e) (subst (λ z. name_cmp z n ≡ Less) e h))
others {x} (later {y = y} p) s = (go, others p s.1)
  where
    go : x.0 ≡ y.0 → ⊥
    go e =
        let h = (names_without (λ z. name_cmp y.0 z ≡ Less) p s.0).0 in
        not_both y.0 x.0 h (subst (λ z. name_cmp x.0 z ≡ Less) e (subst (λ z. name_cmp z x.0 ≡ Less) (sym e) h))

module _ (g : Schema) (l : Literals) where
  abbrev Attributed : Name → Name → Type 0
  Attributed = NameStandsFor (IsAttributeClass g)

  -- what holds of the names that they stand for
  each_from : (P : Name → Type 0) {a b : Attributes} → AttributesStandFor g l a b → AllNames P b → AllByRecursion (λ y. (m : Name) × Attributed y.0 m × P m) a
  each_from P stand.AttributesStandFor.ends h = tt
  each_from P (stand.puts {m = m} h k r p) f = let t = names_without P p f in ((m, h, t.0), each_from P r t.1)

  each_to : (P : Name → Type 0) {a b : Attributes} → AttributesStandFor g l a b → AllByRecursion (λ y. (m : Name) → Attributed y.0 m → P m) a → AllNames P b
  each_to P stand.AttributesStandFor.ends h = tt
  each_to P (stand.puts {m = m} h k r p) f = names_put P p (f.0 m h) (each_to P r f.1)

  each_map : (P Q : Attribute → Type 0) (a : Attributes) → ((x : Attribute) → P x → Q x) → AllByRecursion P a → AllByRecursion Q a
  each_map P Q [] f h = tt
  each_map P Q (x ∷ a) f h = (f x h.0, each_map P Q a f h.1)

  distinct_from : {a b : Attributes} → AttributesStandFor g l a b → AreSorted b → NoneMeet g a
  distinct_from stand.AttributesStandFor.ends s = tt
  distinct_from (stand.puts {n = n} {m = m} {a = a} h k r p) s = (
    each_map (λ y. (o : Name) × Attributed y.0 o × (m ≡ o → ⊥)) (λ y. (o : Name) → Attributed n o → Attributed y.0 o → ⊥) a
        (λ y t o i j. t.2 (name-same (IsAttributeClass g) n m o h i ∙ name-same (IsAttributeClass g) y.0 o t.0 j t.1))
        (each_from (λ o. m ≡ o → ⊥) r (others p s)),
    distinct_from r (sorted_without p s),
  )

  pub hedge_from : {m n : Hedge} → HedgeStandsFor g l m n → HasDistinctRepresentatives g m
  hedge_from stand.HedgeStandsFor.ends = tt
  hedge_from (stand.element h a s k r) = (distinct_from a s, hedge_from k, hedge_from r)
  hedge_from (stand.text h r) = hedge_from r

  module _ (has : HasRepresentatives g l) where
    record Sets (a : Attributes) : Type 0 where
      set : Attributes
      stands : AttributesStandFor g l a set
      sorted : AreSorted set

    sets : (a : Attributes) → NoneMeet g a → Sets a
    unfolding IsStrictlySortedBy
    sets [] h = record { set = []; stands = stand.AttributesStandFor.ends; sorted = tt }
    sets ((n, s) ∷ a) h =
        let t = sets a h.1 in
        let m = has.attributes n in
        let x = has.texts s in
        let w = widen (m.0, x.0) t.set t.sorted
        (each_to (λ o. m.0 ≡ o → ⊥) t.stands
        (each_map (λ y. (o : Name) → Attributed n o → Attributed y.0 o → ⊥) (λ y. (o : Name) → Attributed y.0 o → m.0 ≡ o → ⊥) a
        (λ y f o i e. f o (subst (Attributed n) e m.1) i) h.0)) in
        record { set = w.set; stands = stand.puts m.1 x.1 t.stands w.put; sorted = w.sorted }

    record Hedges (m : Hedge) : Type 0 where
      other : Hedge
      stands : HedgeStandsFor g l m other

    hedges : (m : Hedge) → HasDistinctRepresentatives g m → Hedges m
    hedges hedge.none h = record { other = hedge.none; stands = stand.HedgeStandsFor.ends }
    hedges (hedge.element n a k rest) h =
        let e = has.elements n in
        let t = sets a h.0 in
        let i = hedges k h.1 in
        let j = hedges rest h.2 in
        record { other = hedge.element e.0 t.set i.other j.other; stands = stand.element e.1 t.stands t.sorted i.stands j.stands }
    hedges (hedge.text s rest) h =
        let t = has.texts s in
        let j = hedges rest h in
        record { other = hedge.text t.0 j.other; stands = stand.text t.1 j.stands }

    found : (d : Skeleton) → HasDistinctRepresentatives g (document d) → (r : Skeleton) × StandsFor g l d r
    found d h =
        let e = has.elements d.name in
        let t = sets d.attributes h.0 in
        let i = hedges d.children h.1 in
        (record { name = e.0; attributes = t.set; children = i.other }, stand.element e.1 t.stands t.sorted i.stands stand.HedgeStandsFor.ends)

  pub existence : HasRepresentatives g l → (d : Skeleton) → HasDistinctRepresentatives g (document d) ↔ ((r : Skeleton) × StandsFor g l d r)
  existence has d = (found has d, λ h. hedge_from h.1)
