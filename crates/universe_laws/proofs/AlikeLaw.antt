-- What a schema doesn't tell apart it matches alike.
use Rattle.std.proofs.Common.{◌≡◌, ◌⊎◌, ◌↔◌, inl, inr, [], ◌∷◌, refl, sym, ◌∙◌, not, ◌&&◌, ◌||◌, IsTrue}
use Rattle.rng_model.specs.Universe.{IsOfKind}
use Rattle.rng_model.specs.Texts.{Text, is_white}
use Rattle.rng_model.specs.Classes.{Class, InClass}
use Rattle.rng_model.specs.Patterns.{Pattern, Schema, not_allowed, empty, text, ref, value, data_type, data_except, attribute, one_or_more, choice, group, interleave, after}
use Rattle.rng_model.specs.Hedges.{Attribute, Attributes, Hedge, Skeleton, document}
use Rattle.rng_model.specs.Hedges as hedge
use Rattle.rng_model.specs.Matching.{Matches, Weakly, MatchesDocument, nullable, matches_text}
use Rattle.rng_model.specs.Matching as by
use Rattle.rng_model.specs.Inside.{Within, InSchema, InAttribute}
use Rattle.rng_model.specs.Parts.{Union, Split, Join, Merge, AreTexts}
use Rattle.rng_model.specs.Parts as part
use Rattle.rng_model.proofs.Invert.{weak_meaning, alone_meaning}
use Rattle.universe_laws.specs.Representatives.{Put, first, later}
use Rattle.universe_laws.proofs.Alike.{AlikeText, AlikeAttribute, AlikeAttributes, AlikeHedges, HasEmpty, ends, pick, element, same_text, flip, union_alike, split_alike, join_alike, merge_alike, texts_alike, apart_alike, alone_alike}
use Rattle.universe_laws.proofs.Alike as alike

-- nothing, or one text for another
data OneText (s t : Text) : Hedge → Hedge → Type 0 where
  nothing : OneText s t hedge.none hedge.none
  alone : OneText s t (hedge.text s hedge.none) (hedge.text t hedge.none)

record OneJoin (s t : Text) (l m j : Hedge) : Type 0 where
  left : Hedge
  right : Hedge
  first : OneText s t l left
  second : OneText s t m right
  join : Join left right j

join_one : {s t : Text} {l m j i : Hedge} → OneText s t j i → Join l m j → OneJoin s t l m i
join_one nothing part.Join.ends = record { left = _; right = _; first = nothing; second = nothing; join = part.Join.ends }
join_one alone part.Join.ends = record { left = _; right = _; first = nothing; second = alone; join = part.Join.ends }
join_one alone (part.Join.past_text part.Join.ends) = record { left = _; right = _; first = alone; second = nothing; join = part.Join.past_text part.Join.ends }

record OneMerge (s t : Text) (l m j : Hedge) : Type 0 where
  left : Hedge
  right : Hedge
  first : OneText s t l left
  second : OneText s t m right
  merge : Merge left right j

merge_one : {s t : Text} {l m j i : Hedge} → OneText s t j i → Merge l m j → OneMerge s t l m i
merge_one nothing part.Merge.ends = record { left = _; right = _; first = nothing; second = nothing; merge = part.Merge.ends }
merge_one alone (part.Merge.left_text part.Merge.ends) = record { left = _; right = _; first = alone; second = nothing; merge = part.Merge.left_text part.Merge.ends }
merge_one alone (part.Merge.right_text part.Merge.ends) = record { left = _; right = _; first = nothing; second = alone; merge = part.Merge.right_text part.Merge.ends }

texts_one : {s t : Text} {m n : Hedge} → OneText s t m n → AreTexts n
texts_one nothing = tt
texts_one alone = tt

module _ (g : Schema) where
  -- what stands in the pattern stands in the schema
  abbrev Part : Pattern → Type 1
  Part p = (K : Pattern → Type 0) → Within K p → InSchema K g

  text_alike : (p : Pattern) → Part p → (s t : Text) → AlikeText g s t → matches_text p s ≡ matches_text p t
  unfolding matches_text
  text_alike not_allowed f s t h = refl
  text_alike empty f s t h = refl
  text_alike text f s t h = refl
  text_alike (ref d) f s t h = refl
  text_alike (value k v) f s t h = h.values k v (f (λ p. p ≡ value k v) refl)
  text_alike (data_type k) f s t h = h.kinds k (f (IsOfKind k) refl)
  text_alike (data_except k e) f s t h =
      let a = h.kinds k (f (IsOfKind k) (inl refl)) in
      let b = text_alike e (λ K w. f K (inr w)) s t h in
      (λ i. a i && not (b i))
  text_alike (attribute c p) f s t h = refl
  text_alike (one_or_more p) f s t h = text_alike p (λ K w. f K (inr w)) s t h
  text_alike (choice p q) f s t h =
      let a = text_alike p (λ K w. f K (inl w)) s t h in
      let b = text_alike q (λ K w. f K (inr w)) s t h in
      (λ i. a i || b i)
  text_alike (group p q) f s t h =
      let a = text_alike p (λ K w. f K (inr (inl w))) s t h in
      let b = text_alike q (λ K w. f K (inr (inr w))) s t h in
      (λ i. (nullable p && b i) || (a i && nullable q))
  text_alike (interleave p q) f s t h =
      let a = text_alike p (λ K w. f K (inr (inl w))) s t h in
      let b = text_alike q (λ K w. f K (inr (inr w))) s t h in
      (λ i. (nullable p && b i) || (a i && nullable q))
  text_alike (after p q) f s t h = refl

  -- one text goes over to another
  one_text : {p : Pattern} {m : Hedge} → Matches g [] m p → (s t : Text) (n : Hedge) → Part p → AlikeText g s t → OneText s t m n → Matches g [] n p
  one_text by.empty s t n f h nothing = by.empty
  one_text (by.text x) s t n f h o = by.text (texts_one o)
  one_text (by.choice_left x) s t n f h o = by.choice_left (one_text x s t n (λ K w. f K (inl w)) h o)
  one_text (by.choice_right x) s t n f h o = by.choice_right (one_text x s t n (λ K w. f K (inr w)) h o)
  one_text (by.group part.Union.ends j x y) s t n f h o =
      let k = join_one o j in
      by.group part.Union.ends k.join (one_text x s t k.left (λ K w. f K (inr (inl w))) h k.first) (one_text y s t k.right (λ K w. f K (inr (inr w))) h k.second)
  one_text (by.interleave part.Union.ends j x y) s t n f h o =
      let k = merge_one o j in
      by.interleave part.Union.ends k.merge (one_text x s t k.left (λ K w. f K (inr (inl w))) h k.first) (one_text y s t k.right (λ K w. f K (inr (inr w))) h k.second)
  one_text (by.once x) s t n f h o = by.once (one_text x s t n (λ K w. f K (inr w)) h o)
  one_text (by.more part.Split.ends j x y) s t n f h o =
      let k = join_one o j in
      by.more part.Split.ends k.join (one_text x s t k.left (λ K w. f K (inr w)) h k.first) (one_text y s t k.right f h k.second)
  one_text (by.value {k = kind} {v = v} e) s t n f h alone = by.value (rw (h.values kind v (f (λ p. p ≡ value kind v) refl)) at e)
  one_text (by.data_type {k = kind} e) s t n f h alone = by.data_type (rw (h.kinds kind (f (IsOfKind kind) refl)) at e)
  one_text (by.data_except {k = kind} {e = e} i d) s t n f h alone =
      by.data_except (rw (h.kinds kind (f (IsOfKind kind) (inl refl))) at i) (sym (text_alike e (λ K w. f K (inr w)) s t h) ∙ d)
  one_text (by.ref def i w x o) s t n f h nothing = absurd (alone_meaning o)
  one_text (by.ref def i w x o) s t n f h alone = absurd (alone_meaning o)

  -- what matches nothing matches every text where no `empty` stands in it
  any_text : {p : Pattern} → Matches g [] hedge.none p → (t : Text) → (Within (λ q. q ≡ empty) p → ⊥) → Matches g [] (hedge.text t hedge.none) p
  any_text by.empty t f = absurd (f refl)
  any_text (by.text x) t f = by.text tt
  any_text (by.choice_left x) t f = by.choice_left (any_text x t (λ w. f (inl w)))
  any_text (by.choice_right x) t f = by.choice_right (any_text x t (λ w. f (inr w)))
  any_text (by.group part.Union.ends part.Join.ends x y) t f = by.group part.Union.ends (part.Join.past_text part.Join.ends) (any_text x t (λ w. f (inr (inl w)))) y
  any_text (by.interleave part.Union.ends part.Merge.ends x y) t f =
      by.interleave part.Union.ends (part.Merge.left_text part.Merge.ends) (any_text x t (λ w. f (inr (inl w)))) y
  any_text (by.once x) t f = by.once (any_text x t (λ w. f (inr w)))
  any_text (by.more part.Split.ends part.Join.ends x y) t f = by.more part.Split.ends (part.Join.past_text part.Join.ends) (any_text x t (λ w. f (inr w))) y
  any_text (by.ref def i w x o) t f = absurd (alone_meaning o)

  -- a text that matches the content of an attribute
  content_alike : (p : Pattern) (c : Class) → Part (attribute c p) → (x y : Attribute) → AlikeAttribute g x y →
      Weakly g [] (hedge.text x.1 hedge.none) p → Weakly g [] (hedge.text y.1 hedge.none) p
  content_alike p c f x y h w = go (weak_meaning w)
    where
      blank : IsTrue (is_white x.1) → Matches g [] hedge.none p → (is_white x.1 ≡ is_white y.1) ⊎ (HasEmpty g → ⊥) → Weakly g [] (hedge.text y.1 hedge.none) p
      blank k m (inl e) = by.white (rw e at k) m
      blank k m (inr never) = by.exactly (any_text m y.1 (λ s. never (f (InAttribute (λ p. p ≡ empty)) (inl s))))

      go : Matches g [] (hedge.text x.1 hedge.none) p ⊎ (IsTrue (is_white x.1) × Matches g [] hedge.none p) → Weakly g [] (hedge.text y.1 hedge.none) p
      go (inl m) = by.exactly (one_text m x.1 y.1 (hedge.text y.1 hedge.none) (λ K k. f K (inr k)) h.text alone)
      go (inr (k, m)) = blank k m h.white

  -- nothing is alike to no attributes but no attributes
  none_alike : {b : Attributes} → AlikeAttributes g [] b → b ≡ []
  none_alike ends = refl
  none_alike (pick h p q r) = elim p [ ]

  -- an attribute alone
  record AlikeAlone (x : Attribute) (b : Attributes) : Type 0 where
    other : Attribute
    is : b ≡ other ∷ []
    alike : AlikeAttribute g x other

  put-none : {y : Attribute} {b : Attributes} → Put y [] b → b ≡ y ∷ []
  put-none first = refl

  one_alike : {x : Attribute} {b : Attributes} → AlikeAttributes g (x ∷ []) b → AlikeAlone x b
  one_alike (pick {y = y} h first q r) = let e = none_alike r in record { other = y; is = put-none (rw e at q); alike = h }
  one_alike (pick h (later p) q r) = elim p [ ]

  mutual
    move : {a : Attributes} {m : Hedge} {p : Pattern} → Matches g a m p → (b : Attributes) (n : Hedge) → Part p → AlikeAttributes g a b → AlikeHedges g m n → Matches g b n p
    move by.empty b n f h ends = rw (none_alike h) by.empty
    move (by.text t) b n f h k = rw (none_alike h) (by.text (texts_alike g k t))
    move (by.choice_left x) b n f h k = by.choice_left (move x b n (λ K w. f K (inl w)) h k)
    move (by.choice_right x) b n f h k = by.choice_right (move x b n (λ K w. f K (inr w)) h k)
    move (by.group u j x y) b n f h k =
        let s = union_alike g h u in
        let t = join_alike g j k in
        by.group s.union t.join (move x s.left t.left (λ K w. f K (inr (inl w))) s.first t.first) (move y s.right t.right (λ K w. f K (inr (inr w))) s.second t.second)
    move (by.interleave u j x y) b n f h k =
        let s = union_alike g h u in
        let t = merge_alike g j k in
        by.interleave s.union t.merge (move x s.left t.left (λ K w. f K (inr (inl w))) s.first t.first) (move y s.right t.right (λ K w. f K (inr (inr w))) s.second t.second)
    move (by.once x) b n f h k = by.once (move x b n (λ K w. f K (inr w)) h k)
    move (by.more u j x y) b n f h k =
        let s = split_alike g h u in
        let t = join_alike g j k in
        by.more s.split t.join (move x s.left t.left (λ K w. f K (inr w)) s.first t.first) (move y s.right t.right f s.second t.second)
    move (by.value {k = kind} {v = v} e) b n f h (alike.text x w alike.ends) =
        rw (none_alike h) (by.value (rw (x.values kind v (f (λ p. p ≡ value kind v) refl)) at e))
    move (by.data_type {k = kind} e) b n f h (alike.text x w alike.ends) =
        rw (none_alike h) (by.data_type (rw (x.kinds kind (f (IsOfKind kind) refl)) at e))
    move (by.data_except {k = kind} {e = e} i d) b n f h (alike.text {s = s} {t = t} x w alike.ends) =
        rw (none_alike h)
        (by.data_except
        (rw (x.kinds kind (f (IsOfKind kind) (inl refl))) at i)
        (sym (text_alike e (λ K w. f K (inr w)) s t x) ∙ d))
    move (by.attribute {n = v} {s = s} {c = c} {p = p} i w) b n f h ends =
        let t = one_alike h in
        let o : InClass t.other.0 c = rw (t.alike.name c (f (λ q. (r : Pattern) × (q ≡ attribute c r)) (inl (p, refl)))) at i in
        rw t.is (by.attribute o (content_alike p c f (v, s) t.other t.alike w))
    move (by.ref {d = d} {e = e} def i w x o) b n f h k =
        let t = alone_alike g o k in
        let c : InClass t.name e.class = rw (t.names e.class (d, e, def, refl)) at i in
        rw (none_alike h)
        (by.ref def c (weak w t.attributes t.children (λ K w. inr (d, e, def, w)) t.sets t.contents) (apart_alike g t.contents x) t.alone)

    weak : {a : Attributes} {m : Hedge} {p : Pattern} → Weakly g a m p → (b : Attributes) (n : Hedge) → Part p → AlikeAttributes g a b → AlikeHedges g m n → Weakly g b n p
    weak (by.exactly x) b n f h k = by.exactly (move x b n f h k)
    weak (by.white w x) b n f h (alike.text s e alike.ends) = by.white (rw e at w) (move x b hedge.none f h ends)
    weak (by.nothing x) b n f h ends = by.nothing (move x b (hedge.text [] hedge.none) f h (alike.text (same_text g []) refl ends))

  pub alike_law : {m n : Hedge} → AlikeHedges g m n → Matches g [] m g.start ↔ Matches g [] n g.start
  alike_law {m} {n} h = (λ x. move x [] n (λ K w. inl w) ends h, λ x. move x [] m (λ K w. inl w) ends (flip g h))
