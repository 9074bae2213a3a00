-- Names and texts that a schema doesn't tell apart, and how sets of attributes and hedges of them are put together.
use Rattle.std.proofs.Common.{◌≡◌, ◌⊎◌, inl, inr, [], ◌∷◌, refl, sym}
use Rattle.rng_model.specs.Universe.{IsOfKind, IsElementClass, IsAttributeClass, IsLiteral}
use Rattle.rng_model.specs.Texts.{Text, is_white}
use Rattle.rng_model.specs.Kinds.{Kind, equal, allows}
use Rattle.rng_model.specs.Names.{Name}
use Rattle.rng_model.specs.Classes.{Class, in_class}
use Rattle.rng_model.specs.Patterns.{Schema, empty}
use Rattle.rng_model.specs.Hedges.{Attribute, Attributes, Hedge, BeginsWithText}
use Rattle.rng_model.specs.Hedges as hedge
use Rattle.rng_model.specs.Parts.{Union, Split, Join, Merge, Alone, AreApart, AreTexts, IsGap}
use Rattle.rng_model.specs.Parts as part
use Rattle.rng_model.specs.Inside.{InSchema, InAttribute}
use Rattle.universe_laws.specs.Representatives.{Put, first, later}

-- the parts of nothing
union-nil : {a b : Attributes} → Union a b [] → (a ≡ []) × (b ≡ [])
union-nil part.Union.ends = (refl, refl)

split-nil : {a b : Attributes} → Split a b [] → (a ≡ []) × (b ≡ [])
split-nil part.Split.ends = (refl, refl)

-- a union without one attribute
pub data UnionWithout (x : Attribute) (a b c : Attributes) : Type 0 where
  in_left : {d : Attributes} → Put x d a → Union d b c → UnionWithout x a b c
  in_right : {d : Attributes} → Put x d b → Union a d c → UnionWithout x a b c
  in_both : {d e : Attributes} → Put x d a → Put x e b → Union d e c → UnionWithout x a b c

union_without : {x : Attribute} {a b c d : Attributes} → Union a b c → Put x d c → UnionWithout x a b d
union_without part.Union.ends p = elim p [ ]
union_without (part.Union.left u) first = in_left first u
union_without (part.Union.right u) first = in_right first u
union_without (part.Union.both u) first = in_both first first u
union_without {x} (part.Union.left {x = y} {a = a} {b = b} u) (later {a = d} p) = go (union_without u p)
  where
    go : UnionWithout x a b d → UnionWithout x (y ∷ a) b (y ∷ d)
    go (in_left p u) = in_left (later p) (part.Union.left u)
    go (in_right p u) = in_right p (part.Union.left u)
    go (in_both p q u) = in_both (later p) q (part.Union.left u)
union_without {x} (part.Union.right {x = y} {a = a} {b = b} u) (later {a = d} p) = go (union_without u p)
  where
    go : UnionWithout x a b d → UnionWithout x a (y ∷ b) (y ∷ d)
    go (in_left p u) = in_left p (part.Union.right u)
    go (in_right p u) = in_right (later p) (part.Union.right u)
    go (in_both p q u) = in_both p (later q) (part.Union.right u)
union_without {x} (part.Union.both {x = y} {a = a} {b = b} u) (later {a = d} p) = go (union_without u p)
  where
    go : UnionWithout x a b d → UnionWithout x (y ∷ a) (y ∷ b) (y ∷ d)
    go (in_left p u) = in_left (later p) (part.Union.both u)
    go (in_right p u) = in_right (later p) (part.Union.both u)
    go (in_both p q u) = in_both (later p) (later q) (part.Union.both u)

pub data SplitWithout (x : Attribute) (a b c : Attributes) : Type 0 where
  out_left : {d : Attributes} → Put x d a → Split d b c → SplitWithout x a b c
  out_right : {d : Attributes} → Put x d b → Split a d c → SplitWithout x a b c

split_without : {x : Attribute} {a b c d : Attributes} → Split a b c → Put x d c → SplitWithout x a b d
split_without part.Split.ends p = elim p [ ]
split_without (part.Split.left u) first = out_left first u
split_without (part.Split.right u) first = out_right first u
split_without {x} (part.Split.left {x = y} {a = a} {b = b} u) (later {a = d} p) = go (split_without u p)
  where
    go : SplitWithout x a b d → SplitWithout x (y ∷ a) b (y ∷ d)
    go (out_left p u) = out_left (later p) (part.Split.left u)
    go (out_right p u) = out_right p (part.Split.left u)
split_without {x} (part.Split.right {x = y} {a = a} {b = b} u) (later {a = d} p) = go (split_without u p)
  where
    go : SplitWithout x a b d → SplitWithout x a (y ∷ b) (y ∷ d)
    go (out_left p u) = out_left p (part.Split.right u)
    go (out_right p u) = out_right (later p) (part.Split.right u)

-- one attribute more, in the left part, the right part or both
record OneMore (P : Attributes → Type 0) (x : Attribute) (a : Attributes) : Type 0 where
  wider : Attributes
  put : Put x a wider
  holds : P wider

record BothMore (x : Attribute) (a b c : Attributes) : Type 0 where
  left : Attributes
  right : Attributes
  puts_left : Put x a left
  puts_right : Put x b right
  union : Union left right c

union_left : {x : Attribute} {a b c d : Attributes} → Union a b c → Put x c d → OneMore (λ e. Union e b d) x a
union_left u first = record { wider = _; put = first; holds = part.Union.left u }
union_left (part.Union.left u) (later p) = let t = union_left u p in record { wider = _; put = later t.put; holds = part.Union.left t.holds }
union_left (part.Union.right u) (later p) = let t = union_left u p in record { wider = _; put = t.put; holds = part.Union.right t.holds }
union_left (part.Union.both u) (later p) = let t = union_left u p in record { wider = _; put = later t.put; holds = part.Union.both t.holds }

union_right : {x : Attribute} {a b c d : Attributes} → Union a b c → Put x c d → OneMore (λ e. Union a e d) x b
union_right u first = record { wider = _; put = first; holds = part.Union.right u }
union_right (part.Union.left u) (later p) = let t = union_right u p in record { wider = _; put = t.put; holds = part.Union.left t.holds }
union_right (part.Union.right u) (later p) = let t = union_right u p in record { wider = _; put = later t.put; holds = part.Union.right t.holds }
union_right (part.Union.both u) (later p) = let t = union_right u p in record { wider = _; put = later t.put; holds = part.Union.both t.holds }

union_both : {x : Attribute} {a b c d : Attributes} → Union a b c → Put x c d → BothMore x a b d
union_both u first = record { left = _; right = _; puts_left = first; puts_right = first; union = part.Union.both u }
union_both (part.Union.left u) (later p) =
    let t = union_both u p in record { left = _; right = _; puts_left = later t.puts_left; puts_right = t.puts_right; union = part.Union.left t.union }
union_both (part.Union.right u) (later p) =
    let t = union_both u p in record { left = _; right = _; puts_left = t.puts_left; puts_right = later t.puts_right; union = part.Union.right t.union }
union_both (part.Union.both u) (later p) =
    let t = union_both u p in record { left = _; right = _; puts_left = later t.puts_left; puts_right = later t.puts_right; union = part.Union.both t.union }

split_left : {x : Attribute} {a b c d : Attributes} → Split a b c → Put x c d → OneMore (λ e. Split e b d) x a
split_left u first = record { wider = _; put = first; holds = part.Split.left u }
split_left (part.Split.left u) (later p) = let t = split_left u p in record { wider = _; put = later t.put; holds = part.Split.left t.holds }
split_left (part.Split.right u) (later p) = let t = split_left u p in record { wider = _; put = t.put; holds = part.Split.right t.holds }

split_right : {x : Attribute} {a b c d : Attributes} → Split a b c → Put x c d → OneMore (λ e. Split a e d) x b
split_right u first = record { wider = _; put = first; holds = part.Split.right u }
split_right (part.Split.left u) (later p) = let t = split_right u p in record { wider = _; put = t.put; holds = part.Split.left t.holds }
split_right (part.Split.right u) (later p) = let t = split_right u p in record { wider = _; put = later t.put; holds = part.Split.right t.holds }

module _ (g : Schema) where
  -- the same classes of elements take the names
  abbrev pub AlikeElement : Name → Name → Type 0
  AlikeElement n m = (c : Class) → IsElementClass g c → in_class n c ≡ in_class m c

  -- the same values and kinds take the texts
  pub record AlikeText (s t : Text) : Type 0 where
    pub values : (k : Kind) (v : Text) → IsLiteral g (k, v) → equal k s v ≡ equal k t v
    pub kinds : (k : Kind) → InSchema (IsOfKind k) g → allows k s ≡ allows k t

  abbrev pub HasEmpty : Type 0
  HasEmpty = InSchema (InAttribute (λ p. p ≡ empty)) g

  -- the same attributes take the two: white space matters only where an `empty` stands in an attribute
  pub record AlikeAttribute (x y : Attribute) : Type 0 where
    pub name : (c : Class) → IsAttributeClass g c → in_class x.0 c ≡ in_class y.0 c
    pub text : AlikeText x.1 y.1
    pub white : (is_white x.1 ≡ is_white y.1) ⊎ (HasEmpty → ⊥)

  -- alike attributes, in any order
  pub data AlikeAttributes : Attributes → Attributes → Type 0 where
    ends : AlikeAttributes [] []
    pick : {x y : Attribute} {a b c d : Attributes} → AlikeAttribute x y → Put x a c → Put y b d → AlikeAttributes a b → AlikeAttributes c d

  pub data AlikeHedges : Hedge → Hedge → Type 0 where
    ends : AlikeHedges hedge.none hedge.none
    element : {n m : Name} {a b : Attributes} {k j r s : Hedge} →
        AlikeElement n m → AlikeAttributes a b → AlikeHedges k j → AlikeHedges r s → AlikeHedges (hedge.element n a k r) (hedge.element m b j s)
    text : {s t : Text} {r q : Hedge} → AlikeText s t → is_white s ≡ is_white t → AlikeHedges r q → AlikeHedges (hedge.text s r) (hedge.text t q)

  pub same_text : (s : Text) → AlikeText s s
  same_text s = record { values = λ k v h. refl; kinds = λ k h. refl }

  flip_text : {s t : Text} → AlikeText s t → AlikeText t s
  flip_text h = record { values = λ k v l. sym (h.values k v l); kinds = λ k l. sym (h.kinds k l) }

  flip_attribute : (x y : Attribute) → AlikeAttribute x y → AlikeAttribute y x
  flip_attribute x y h = record { name = λ c l. sym (h.name c l); text = flip_text h.text; white = go h.white }
    where
      go : (is_white x.1 ≡ is_white y.1) ⊎ (HasEmpty → ⊥) → (is_white y.1 ≡ is_white x.1) ⊎ (HasEmpty → ⊥)
      go (inl e) = inl (sym e)
      go (inr f) = inr f

  pub flip_attributes : {a b : Attributes} → AlikeAttributes a b → AlikeAttributes b a
  flip_attributes ends = ends
  flip_attributes (pick {x = x} {y = y} h p q r) = pick (flip_attribute x y h) q p (flip_attributes r)

  pub flip : {m n : Hedge} → AlikeHedges m n → AlikeHedges n m
  flip ends = ends
  flip (element h a k r) = element (λ c l. sym (h c l)) (flip_attributes a) (flip k) (flip r)
  flip (text h w r) = text (flip_text h) (sym w) (flip r)

  -- the parts of an alike set
  pub record AlikeUnion (a b d : Attributes) : Type 0 where
    pub left : Attributes
    pub right : Attributes
    pub first : AlikeAttributes a left
    pub second : AlikeAttributes b right
    pub union : Union left right d

  pub union_alike : {a b c d : Attributes} → AlikeAttributes c d → Union a b c → AlikeUnion a b d
  union_alike ends u = let e = union-nil u in rw (e.0, e.1) (record { left = []; right = []; first = ends; second = ends; union = part.Union.ends })
  union_alike {a} {b} (pick {x = x} {y = y} {a = c} {b = d} {d = f} h p q r) u = go (λ a b u. union_alike r u) (union_without u p)
    where
      go : ((a b : Attributes) → Union a b c → AlikeUnion a b d) → UnionWithout x a b c → AlikeUnion a b f
      go k (in_left o v) =
          let t = k _ _ v in
          let m = union_left t.union q in
          record { left = m.wider; right = t.right; first = pick h o m.put t.first; second = t.second; union = m.holds }
      go k (in_right o v) =
          let t = k _ _ v in
          let m = union_right t.union q in
          record { left = t.left; right = m.wider; first = t.first; second = pick h o m.put t.second; union = m.holds }
      go k (in_both o s v) =
          let t = k _ _ v in
          let m = union_both t.union q in
          record { left = m.left; right = m.right; first = pick h o m.puts_left t.first; second = pick h s m.puts_right t.second; union = m.union }

  pub record AlikeSplit (a b d : Attributes) : Type 0 where
    pub left : Attributes
    pub right : Attributes
    pub first : AlikeAttributes a left
    pub second : AlikeAttributes b right
    pub split : Split left right d

  pub split_alike : {a b c d : Attributes} → AlikeAttributes c d → Split a b c → AlikeSplit a b d
  split_alike ends u = let e = split-nil u in rw (e.0, e.1) (record { left = []; right = []; first = ends; second = ends; split = part.Split.ends })
  split_alike {a} {b} (pick {x = x} {y = y} {a = c} {b = d} {d = f} h p q r) u = go (λ a b u. split_alike r u) (split_without u p)
    where
      go : ((a b : Attributes) → Split a b c → AlikeSplit a b d) → SplitWithout x a b c → AlikeSplit a b f
      go k (out_left o v) =
          let t = k _ _ v in
          let m = split_left t.split q in
          record { left = m.wider; right = t.right; first = pick h o m.put t.first; second = t.second; split = m.holds }
      go k (out_right o v) =
          let t = k _ _ v in
          let m = split_right t.split q in
          record { left = t.left; right = m.wider; first = t.first; second = pick h o m.put t.second; split = m.holds }

  -- the parts of an alike hedge
  pub record AlikeJoin (l m j : Hedge) : Type 0 where
    pub left : Hedge
    pub right : Hedge
    pub first : AlikeHedges l left
    pub second : AlikeHedges m right
    pub join : Join left right j

  pub join_alike : {l m j i : Hedge} → Join l m j → AlikeHedges j i → AlikeJoin l m i
  join_alike part.Join.ends h = record { left = hedge.none; right = _; first = ends; second = h; join = part.Join.ends }
  join_alike (part.Join.past_element o) (element n a k r) =
      let t = join_alike o r in
      record { left = hedge.element _ _ _ t.left; right = t.right; first = element n a k t.first; second = t.second; join = part.Join.past_element t.join }
  join_alike (part.Join.past_text o) (text s w r) =
      let t = join_alike o r in
      record { left = hedge.text _ t.left; right = t.right; first = text s w t.first; second = t.second; join = part.Join.past_text t.join }

  pub record AlikeMerge (l m j : Hedge) : Type 0 where
    pub left : Hedge
    pub right : Hedge
    pub first : AlikeHedges l left
    pub second : AlikeHedges m right
    pub merge : Merge left right j

  pub merge_alike : {l m j i : Hedge} → Merge l m j → AlikeHedges j i → AlikeMerge l m i
  merge_alike part.Merge.ends ends = record { left = hedge.none; right = hedge.none; first = ends; second = ends; merge = part.Merge.ends }
  merge_alike (part.Merge.left_element o) (element n a k r) =
      let t = merge_alike o r in
      record { left = hedge.element _ _ _ t.left; right = t.right; first = element n a k t.first; second = t.second; merge = part.Merge.left_element t.merge }
  merge_alike (part.Merge.right_element o) (element n a k r) =
      let t = merge_alike o r in
      record { left = t.left; right = hedge.element _ _ _ t.right; first = t.first; second = element n a k t.second; merge = part.Merge.right_element t.merge }
  merge_alike (part.Merge.left_text o) (text s w r) =
      let t = merge_alike o r in
      record { left = hedge.text _ t.left; right = t.right; first = text s w t.first; second = t.second; merge = part.Merge.left_text t.merge }
  merge_alike (part.Merge.right_text o) (text s w r) =
      let t = merge_alike o r in
      record { left = t.left; right = hedge.text _ t.right; first = t.first; second = text s w t.second; merge = part.Merge.right_text t.merge }

  -- texts alone, gaps, and hedges with no two neighbouring texts
  pub texts_alike : {m n : Hedge} → AlikeHedges m n → AreTexts m → AreTexts n
  texts_alike ends h = tt
  texts_alike (element n a k r) h = absurd h
  texts_alike (text s w r) h = texts_alike r h

  pub gap_alike : {m n : Hedge} → AlikeHedges m n → IsGap m → IsGap n
  gap_alike ends h = tt
  gap_alike (element n a k r) h = absurd h
  gap_alike (text s w ends) h = rw w at h
  gap_alike (text s w (element n a k r)) h = absurd h
  gap_alike (text s w (text t v r)) h = absurd h

  begins_alike : {m n : Hedge} → AlikeHedges m n → BeginsWithText n → BeginsWithText m
  begins_alike ends h = absurd h
  begins_alike (element n a k r) h = absurd h
  begins_alike (text s w r) h = tt

  pub apart_alike : {m n : Hedge} → AlikeHedges m n → AreApart m → AreApart n
  apart_alike ends h = tt
  apart_alike (element n a k r) h = apart_alike r h
  apart_alike (text s w r) h = ((λ b. h.0 (begins_alike r b)), apart_alike r h.1)

  -- the one element of an alike hedge
  pub record AlikeOne (n : Name) (a : Attributes) (k i : Hedge) : Type 0 where
    pub name : Name
    pub attributes : Attributes
    pub children : Hedge
    pub names : AlikeElement n name
    pub sets : AlikeAttributes a attributes
    pub contents : AlikeHedges k children
    pub alone : Alone name attributes children i

  pub alone_alike : {n : Name} {a : Attributes} {k j i : Hedge} → Alone n a k j → AlikeHedges j i → AlikeOne n a k i
  alone_alike (part.Alone.first gap) (element n a k r) =
      record { name = _; attributes = _; children = _; names = n; sets = a; contents = k; alone = part.Alone.first (gap_alike r gap) }
  alone_alike (part.Alone.spaced white gap) (text s w (element n a k r)) =
      record { name = _; attributes = _; children = _; names = n; sets = a; contents = k; alone = part.Alone.spaced (rw w at white) (gap_alike r gap) }
