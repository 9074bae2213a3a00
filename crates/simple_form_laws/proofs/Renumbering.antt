-- Renumbering references in their order goes with the constructors: a simple form with new numbers is made by the constructors too.
use Rattle.std.proofs.Common.{◌≡◌, ℕ, suc, ◌<◌, List, [], ◌∷◌, ◌++◌, map, refl, sym, ◌∙◌, ap, subst, arith, append_assoc, append-nil}
use Rattle.std.specs.List.{AllByRecursion}
use Rattle.std.specs.declared.cmp.Ordering.{Ordering}
use Rattle.std.specs.declared.cmp.Ordering.TheVariants.{Less, Equal, Greater}
use Rattle.std.specs.Ordering.{nat_cmp, ordering_then, match_ordering, MatchOrdering}
use Rattle.std.specs.Cmp.{nat_cmp_is}
use Rattle.std.specs.Cmp.Lexicographic.{slice_cmp}
use Rattle.std.proofs.lemmas.Cmp.{ranked}
use Rattle.rng_model.specs.Texts.{Text}
use Rattle.rng_model.specs.Kinds.{Kind, kind_number}
use Rattle.rng_model.specs.Names.{Name, text_key, name_key}
use Rattle.rng_model.specs.Classes.{Class, any, any_except, namespace, namespace_except, one, either, class_key}
use Rattle.rng_model.specs.Patterns.{Pattern, not_allowed, empty, text, ref, value, data_type, data_except, attribute, one_or_more, choice, group, interleave, after, pattern_keys, pattern_cmp}
use Rattle.rng_model.specs.Constructors.{members, of_members, with_member, ascending, choice_of, group_of, interleave_of, one_or_more_of, attribute_of, data_of}
use Rattle.derivative_laws.proofs.Members.{all-append}
use Rattle.derivative_laws.proofs.ChoiceLaw.{all_ordered}
use Rattle.simple_form_laws.specs.Forms.{renumbered, RefsIn}

abbrev compare : List ℕ → List ℕ → Ordering
compare = slice_cmp nat_cmp

-- k and l compare as k' and l' do, whatever follows, unless what follows decides
abbrev Agree : List ℕ → List ℕ → List ℕ → List ℕ → Type 0
Agree k l m n = (x y v w : List ℕ) → compare x y ≡ compare v w → compare (k ++ x) (l ++ y) ≡ compare (m ++ v) (n ++ w)

agree_heads : (a b c d : ℕ) (k l m n : List ℕ) → nat_cmp a b ≡ nat_cmp c d → Agree k l m n → Agree (a ∷ k) (b ∷ l) (c ∷ m) (d ∷ n)
agree_heads a b c d k l m n e h x y v w f = λ i. ordering_then (e i) (h x y v w f i)

agree_then : (k l m n k' l' m' n' : List ℕ) → Agree k l m n → Agree k' l' m' n' → Agree (k ++ k') (l ++ l') (m ++ m') (n ++ n')
agree_then k l m n k' l' m' n' h j x y v w e =
    (λ i. compare (append_assoc k k' x i) (append_assoc l l' y i))
    ∙ h (k' ++ x) (l' ++ y) (m' ++ v) (n' ++ w) (j x y v w e)
    ∙ (λ i. compare (sym (append_assoc m m' v) i) (sym (append_assoc n n' w) i))

agree_none : Agree [] [] [] []
agree_none x y v w e = e

text_agree : (s t : Text) → Agree (text_key s) (text_key t) (text_key s) (text_key t)
text_agree [] [] x y v w e = e
text_agree [] (c ∷ t) x y v w e = less ∙ sym less'
  where
    smaller : Less ≡ nat_cmp 0 (suc c)
    smaller = nat_cmp_is 0 (suc c) Less (omega arith)

    less : compare (0 ∷ x) (suc c ∷ (text_key t ++ y)) ≡ Less
    less = λ i. ordering_then (sym smaller i) (compare x (text_key t ++ y))

    less' : compare (0 ∷ v) (suc c ∷ (text_key t ++ w)) ≡ Less
    less' = λ i. ordering_then (sym smaller i) (compare v (text_key t ++ w))
text_agree (c ∷ s) [] x y v w e = greater ∙ sym greater'
  where
    larger : Greater ≡ nat_cmp (suc c) 0
    larger = nat_cmp_is (suc c) 0 Greater (omega arith)

    greater : compare (suc c ∷ (text_key s ++ x)) (0 ∷ y) ≡ Greater
    greater = λ i. ordering_then (sym larger i) (compare (text_key s ++ x) y)

    greater' : compare (suc c ∷ (text_key s ++ v)) (0 ∷ w) ≡ Greater
    greater' = λ i. ordering_then (sym larger i) (compare (text_key s ++ v) w)
text_agree (c ∷ s) (d ∷ t) x y v w e = ap (ordering_then (nat_cmp (suc c) (suc d))) (text_agree s t x y v w e)

name_agree : (m n : Name) → Agree (name_key m) (name_key n) (name_key m) (name_key n)
name_agree m n = agree_then (text_key m.ns) (text_key n.ns) (text_key m.ns) (text_key n.ns) (text_key m.local) (text_key n.local) (text_key m.local) (text_key n.local) (text_agree m.ns n.ns) (text_agree m.local n.local)

class_agree : (a b : Class) → Agree (class_key a) (class_key b) (class_key a) (class_key b)
class_agree any any = λ x y v w e. e
class_agree any b = λ x y v w e. refl
class_agree (any_except a) (any_except b) = class_agree a b
class_agree (any_except a) b = λ x y v w e. refl
class_agree (namespace u) (namespace t) = agree_then (text_key u) (text_key t) (text_key u) (text_key t) (1 ∷ []) (1 ∷ []) (1 ∷ []) (1 ∷ []) (text_agree u t) (λ x y v w e. e)
class_agree (namespace u) (namespace_except t b) = agree_then (text_key u) (text_key t) (text_key u) (text_key t) (1 ∷ []) (2 ∷ class_key b) (1 ∷ []) (2 ∷ class_key b) (text_agree u t) (λ x y v w e. refl)
class_agree (namespace u) b = λ x y v w e. refl
class_agree (namespace_except u a) (namespace t) = agree_then (text_key u) (text_key t) (text_key u) (text_key t) (2 ∷ class_key a) (1 ∷ []) (2 ∷ class_key a) (1 ∷ []) (text_agree u t) (λ x y v w e. refl)
class_agree (namespace_except u a) (namespace_except t b) = agree_then (text_key u) (text_key t) (text_key u) (text_key t) (2 ∷ class_key a) (2 ∷ class_key b) (2 ∷ class_key a) (2 ∷ class_key b) (text_agree u t) (class_agree a b)
class_agree (namespace_except u a) b = λ x y v w e. refl
class_agree (one m) (one n) = name_agree m n
class_agree (one m) b = λ x y v w e. refl
class_agree (either a b) (either c d) = agree_then (class_key a) (class_key c) (class_key a) (class_key c) (class_key b) (class_key d) (class_key b) (class_key d) (class_agree a c) (class_agree b d)
class_agree (either a b) c = λ x y v w e. refl

module _ (K : ℕ → Type 0) (h : ℕ → ℕ) (ascends : (m n : ℕ) → K m → K n → m < n → h m < h n) where
  abbrev r : Pattern → Pattern
  r = renumbered h

  -- the list of a pattern, and that of the last members of a choice
  abbrev k : Pattern → List ℕ
  k p = (pattern_keys p).0

  abbrev l : Pattern → List ℕ
  l p = (pattern_keys p).1

  abbrev KeysAgree : Pattern → Pattern → Type 0
  KeysAgree p q = RefsIn K p → RefsIn K q → Agree (k p) (k q) (k (r p)) (k (r q))

  abbrev LastsAgree : Pattern → Pattern → Type 0
  LastsAgree p q = RefsIn K p → RefsIn K q → Agree (l p) (l q) (l (r p)) (l (r q))

  same_order : (m n : ℕ) → K m → K n → nat_cmp m n ≡ nat_cmp (h m) (h n)
  same_order m n a b = go (nat_cmp m n) (ranked m n (nat_cmp m n) refl)
    where
      go : (o : Ordering) → MatchOrdering o (m < n) (m ≡ n) (n < m) → o ≡ nat_cmp (h m) (h n)
      go Less f = nat_cmp_is (h m) (h n) Less (ascends m n a b f)
      go Equal f = nat_cmp_is (h m) (h n) Equal (ap h f)
      go Greater f = nat_cmp_is (h m) (h n) Greater (ascends n m b a f)

  kinds_agree : (i j : Kind) → Agree (kind_number i ∷ []) (kind_number j ∷ []) (kind_number i ∷ []) (kind_number j ∷ [])
  kinds_agree i j x y v w e = ap (ordering_then (nat_cmp (kind_number i) (kind_number j))) e

  -- no list of last members begins with 0
  ends_less : (q : Pattern) (x y : List ℕ) → compare (0 ∷ x) (l q ++ y) ≡ Less
  ends_less not_allowed x y = refl
  ends_less empty x y = refl
  ends_less text x y = refl
  ends_less (ref m) x y = refl
  ends_less (value j s) x y = refl
  ends_less (data_type j) x y = refl
  ends_less (data_except j e) x y = refl
  ends_less (attribute c a) x y = refl
  ends_less (one_or_more a) x y = refl
  ends_less (choice not_allowed b) x y = refl
  ends_less (choice empty b) x y = refl
  ends_less (choice text b) x y = refl
  ends_less (choice (ref m0) b) x y = refl
  ends_less (choice (value j0 s0) b) x y = refl
  ends_less (choice (data_type j0) b) x y = refl
  ends_less (choice (data_except j0 e0) b) x y = refl
  ends_less (choice (attribute c0 a0) b) x y = refl
  ends_less (choice (one_or_more a0) b) x y = refl
  ends_less (choice (choice a0 b0) b) x y = refl
  ends_less (choice (group a0 b0) b) x y = refl
  ends_less (choice (interleave a0 b0) b) x y = refl
  ends_less (choice (after a0 b0) b) x y = refl
  ends_less (group a b) x y = refl
  ends_less (interleave a b) x y = refl
  ends_less (after a b) x y = refl

  ends_greater : (q : Pattern) (x y : List ℕ) → compare (l q ++ x) (0 ∷ y) ≡ Greater
  ends_greater not_allowed x y = refl
  ends_greater empty x y = refl
  ends_greater text x y = refl
  ends_greater (ref m) x y = refl
  ends_greater (value j s) x y = refl
  ends_greater (data_type j) x y = refl
  ends_greater (data_except j e) x y = refl
  ends_greater (attribute c a) x y = refl
  ends_greater (one_or_more a) x y = refl
  ends_greater (choice not_allowed b) x y = refl
  ends_greater (choice empty b) x y = refl
  ends_greater (choice text b) x y = refl
  ends_greater (choice (ref m0) b) x y = refl
  ends_greater (choice (value j0 s0) b) x y = refl
  ends_greater (choice (data_type j0) b) x y = refl
  ends_greater (choice (data_except j0 e0) b) x y = refl
  ends_greater (choice (attribute c0 a0) b) x y = refl
  ends_greater (choice (one_or_more a0) b) x y = refl
  ends_greater (choice (choice a0 b0) b) x y = refl
  ends_greater (choice (group a0 b0) b) x y = refl
  ends_greater (choice (interleave a0 b0) b) x y = refl
  ends_greater (choice (after a0 b0) b) x y = refl
  ends_greater (group a b) x y = refl
  ends_greater (interleave a b) x y = refl
  ends_greater (after a b) x y = refl

  -- the list of the pattern p as the last member, beside the lists m and n
  last_beside : (p : Pattern) → l p ≡ k p ++ 0 ∷ [] → l (r p) ≡ k (r p) ++ 0 ∷ [] → (m n : List ℕ) → Agree (k p ++ 0 ∷ []) m (k (r p) ++ 0 ∷ []) n → Agree (l p) m (l (r p)) n
  last_beside p old new m n z = subst (λ u. Agree u m (l (r p)) n) (sym old) (subst (λ u. Agree (k p ++ 0 ∷ []) m u n) (sym new) z)

  -- beside that of another that is no choice
  two_lasts : (p q : Pattern) → l p ≡ k p ++ 0 ∷ [] → l (r p) ≡ k (r p) ++ 0 ∷ [] → Agree (k p) (k q) (k (r p)) (k (r q)) → Agree (l p) (k q ++ 0 ∷ []) (l (r p)) (k (r q) ++ 0 ∷ [])
  two_lasts p q old new z =
      last_beside p old new (k q ++ 0 ∷ []) (k (r q) ++ 0 ∷ [])
      (agree_then (k p) (k q) (k (r p)) (k (r q)) (0 ∷ []) (0 ∷ []) (0 ∷ []) (0 ∷ []) z (λ x y v w d. d))

  -- what a pattern that is no choice gives as the last member
  lasts_from : (p : Pattern) → l p ≡ k p ++ 0 ∷ [] → l (r p) ≡ k (r p) ++ 0 ∷ [] → ((q : Pattern) → KeysAgree p q) → (q : Pattern) → LastsAgree p q
  lasts_from p old new g not_allowed sa ta = two_lasts p not_allowed old new (g not_allowed sa ta)
  lasts_from p old new g empty sa ta = two_lasts p empty old new (g empty sa ta)
  lasts_from p old new g text sa ta = two_lasts p text old new (g text sa ta)
  lasts_from p old new g (ref m) sa ta = two_lasts p (ref m) old new (g (ref m) sa ta)
  lasts_from p old new g (value j s) sa ta = two_lasts p (value j s) old new (g (value j s) sa ta)
  lasts_from p old new g (data_type j) sa ta = two_lasts p (data_type j) old new (g (data_type j) sa ta)
  lasts_from p old new g (data_except j e) sa ta = two_lasts p (data_except j e) old new (g (data_except j e) sa ta)
  lasts_from p old new g (attribute c a) sa ta = two_lasts p (attribute c a) old new (g (attribute c a) sa ta)
  lasts_from p old new g (one_or_more a) sa ta = two_lasts p (one_or_more a) old new (g (one_or_more a) sa ta)
  lasts_from p old new g (choice a b) sa ta =
      last_beside p old new (k a ++ l b) (k (r a) ++ l (r b))
      (agree_then (k p) (k a) (k (r p)) (k (r a)) (0 ∷ []) (l b) (0 ∷ []) (l (r b)) (g a sa ta.0) (λ x y v w d. ends_less b x y ∙ sym (ends_less (r b) v w)))
  lasts_from p old new g (group a b) sa ta = two_lasts p (group a b) old new (g (group a b) sa ta)
  lasts_from p old new g (interleave a b) sa ta = two_lasts p (interleave a b) old new (g (interleave a b) sa ta)
  lasts_from p old new g (after a b) sa ta = two_lasts p (after a b) old new (g (after a b) sa ta)

  ref_keys : (m : ℕ) (q : Pattern) → KeysAgree (ref m) q
  ref_keys m (ref n) s t = agree_heads m n (h m) (h n) [] [] [] [] (same_order m n s t) agree_none
  ref_keys m q s t = λ x y v w e. refl

  value_keys : (i : Kind) (a : Text) (q : Pattern) → KeysAgree (value i a) q
  value_keys i a (value j b) s t = agree_heads (kind_number i) (kind_number j) (kind_number i) (kind_number j) (text_key a) (text_key b) (text_key a) (text_key b) refl (text_agree a b)
  value_keys i a q s t = λ x y v w e. refl

  type_keys : (i : Kind) (q : Pattern) → KeysAgree (data_type i) q
  type_keys i (data_type j) s t = agree_heads (kind_number i) (kind_number j) (kind_number i) (kind_number j) (1 ∷ []) (1 ∷ []) (1 ∷ []) (1 ∷ []) refl (λ x y v w e. e)
  type_keys i (data_except j b) s t = agree_heads (kind_number i) (kind_number j) (kind_number i) (kind_number j) (1 ∷ []) (2 ∷ k b) (1 ∷ []) (2 ∷ k (r b)) refl (λ x y v w e. refl)
  type_keys i q s t = λ x y v w e. refl

  except_keys : (i : Kind) (a : Pattern) → ((q : Pattern) → KeysAgree a q) → (q : Pattern) → KeysAgree (data_except i a) q
  except_keys i a f (data_type j) s t = agree_heads (kind_number i) (kind_number j) (kind_number i) (kind_number j) (2 ∷ k a) (1 ∷ []) (2 ∷ k (r a)) (1 ∷ []) refl (λ x y v w e. refl)
  except_keys i a f (data_except j b) s t = agree_heads (kind_number i) (kind_number j) (kind_number i) (kind_number j) (2 ∷ k a) (2 ∷ k b) (2 ∷ k (r a)) (2 ∷ k (r b)) refl (f b s t)
  except_keys i a f q s t = λ x y v w e. refl

  attribute_keys : (c : Class) (a : Pattern) → ((q : Pattern) → KeysAgree a q) → (q : Pattern) → KeysAgree (attribute c a) q
  attribute_keys c a f (attribute d b) s t =
      agree_then (class_key c) (class_key d) (class_key c) (class_key d) (k a) (k b) (k (r a)) (k (r b)) (class_agree c d) (f b s t)
  attribute_keys c a f q s t = λ x y v w e. refl

  more_keys : (a : Pattern) → ((q : Pattern) → KeysAgree a q) → (q : Pattern) → KeysAgree (one_or_more a) q
  more_keys a f (one_or_more b) s t = f b s t
  more_keys a f q s t = λ x y v w e. refl

  group_keys : (a b : Pattern) → ((q : Pattern) → KeysAgree a q) → ((q : Pattern) → KeysAgree b q) → (q : Pattern) → KeysAgree (group a b) q
  group_keys a b f g (group c d) s t = agree_then (k a) (k c) (k (r a)) (k (r c)) (k b) (k d) (k (r b)) (k (r d)) (f c s.0 t.0) (g d s.1 t.1)
  group_keys a b f g q s t = λ x y v w e. refl

  interleave_keys : (a b : Pattern) → ((q : Pattern) → KeysAgree a q) → ((q : Pattern) → KeysAgree b q) → (q : Pattern) → KeysAgree (interleave a b) q
  interleave_keys a b f g (interleave c d) s t = agree_then (k a) (k c) (k (r a)) (k (r c)) (k b) (k d) (k (r b)) (k (r d)) (f c s.0 t.0) (g d s.1 t.1)
  interleave_keys a b f g q s t = λ x y v w e. refl

  after_keys : (a b : Pattern) → ((q : Pattern) → KeysAgree a q) → ((q : Pattern) → KeysAgree b q) → (q : Pattern) → KeysAgree (after a b) q
  after_keys a b f g (after c d) s t = agree_then (k a) (k c) (k (r a)) (k (r c)) (k b) (k d) (k (r b)) (k (r d)) (f c s.0 t.0) (g d s.1 t.1)
  after_keys a b f g q s t = λ x y v w e. refl

  choice_keys : (a b : Pattern) → ((q : Pattern) → KeysAgree a q) → ((q : Pattern) → LastsAgree b q) → (q : Pattern) → KeysAgree (choice a b) q
  choice_keys a b f g (choice c d) s t = agree_then (k a) (k c) (k (r a)) (k (r c)) (l b) (l d) (l (r b)) (l (r d)) (f c s.0 t.0) (g d s.1 t.1)
  choice_keys a b f g q s t = λ x y v w e. refl

  choice_lasts : (a b : Pattern) → ((q : Pattern) → KeysAgree a q) → ((q : Pattern) → LastsAgree b q) → (q : Pattern) → LastsAgree (choice a b) q
  choice_lasts a b f g (choice c d) s t = agree_then (k a) (k c) (k (r a)) (k (r c)) (l b) (l d) (l (r b)) (l (r d)) (f c s.0 t.0) (g d s.1 t.1)
  choice_lasts a b f g q s t =
      agree_then (k a) (k q) (k (r a)) (k (r q)) (l b) (0 ∷ []) (l (r b)) (0 ∷ []) (f q s.0 t) (λ x y v w e. ends_greater b x y ∙ sym (ends_greater (r b) v w))

  leaf_keys : (p : Pattern) → ((q : Pattern) → KeysAgree p q) → l p ≡ k p ++ 0 ∷ [] → l (r p) ≡ k (r p) ++ 0 ∷ [] → ((q : Pattern) → KeysAgree p q) × ((q : Pattern) → LastsAgree p q)
  leaf_keys p f d e = (f, lasts_from p d e f)

  not_allowed_keys : (q : Pattern) → KeysAgree not_allowed q
  not_allowed_keys not_allowed s t = λ x y v w e. e
  not_allowed_keys q s t = λ x y v w e. refl

  empty_keys : (q : Pattern) → KeysAgree empty q
  empty_keys empty s t = λ x y v w e. e
  empty_keys q s t = λ x y v w e. refl

  text_keys : (q : Pattern) → KeysAgree text q
  text_keys text s t = λ x y v w e. e
  text_keys q s t = λ x y v w e. refl

  keys_agree : (p : Pattern) → ((q : Pattern) → KeysAgree p q) × ((q : Pattern) → LastsAgree p q)
  keys_agree not_allowed = leaf_keys not_allowed not_allowed_keys refl refl
  keys_agree empty = leaf_keys empty empty_keys refl refl
  keys_agree text = leaf_keys text text_keys refl refl
  keys_agree (ref m) = leaf_keys (ref m) (ref_keys m) refl refl
  keys_agree (value i a) = leaf_keys (value i a) (value_keys i a) refl refl
  keys_agree (data_type i) = leaf_keys (data_type i) (type_keys i) refl refl
  keys_agree (data_except i a) = leaf_keys (data_except i a) (except_keys i a (keys_agree a).0) refl refl
  keys_agree (attribute c a) = leaf_keys (attribute c a) (attribute_keys c a (keys_agree a).0) refl refl
  keys_agree (one_or_more a) = leaf_keys (one_or_more a) (more_keys a (keys_agree a).0) refl refl
  keys_agree (choice a b) = (choice_keys a b (keys_agree a).0 (keys_agree b).1, choice_lasts a b (keys_agree a).0 (keys_agree b).1)
  keys_agree (group a b) = leaf_keys (group a b) (group_keys a b (keys_agree a).0 (keys_agree b).0) refl refl
  keys_agree (interleave a b) = leaf_keys (interleave a b) (interleave_keys a b (keys_agree a).0 (keys_agree b).0) refl refl
  keys_agree (after a b) = leaf_keys (after a b) (after_keys a b (keys_agree a).0 (keys_agree b).0) refl refl

  -- the order is kept
  pub order_kept : (p q : Pattern) → RefsIn K p → RefsIn K q → pattern_cmp p q ≡ pattern_cmp (r p) (r q)
  order_kept p q s t =
      (λ i. compare (sym (append-nil (k p)) i) (sym (append-nil (k q)) i))
      ∙ (keys_agree p).0 q s t [] [] [] [] refl
      ∙ (λ i. compare (append-nil (k (r p)) i) (append-nil (k (r q)) i))

  with_member-renumbered : (p : Pattern) (qs : List Pattern) → RefsIn K p → AllByRecursion (RefsIn K) qs → map r (with_member p qs) ≡ with_member (r p) (map r qs)
  with_member-renumbered p [] s t = refl
  with_member-renumbered p (q ∷ qs) s t =
      go (pattern_cmp p q) (pattern_cmp (r p) (r q)) (order_kept p q s t.0) (with_member-renumbered p qs s t.1)
    where
      go : (o u : Ordering) → o ≡ u → map r (with_member p qs) ≡ with_member (r p) (map r qs) →
          map r (match_ordering o (p ∷ q ∷ qs) (q ∷ qs) (q ∷ with_member p qs)) ≡ match_ordering u (r p ∷ r q ∷ map r qs) (r q ∷ map r qs) (r q ∷ with_member (r p) (map r qs))
      go Less Less e f = refl
      go Equal Equal e f = refl
      go Greater Greater e f = ap (λ z. r q ∷ z) f
      go o u e f = absurd (cc)

  both-renumbered : (ps qs : List Pattern) → map r (ps ++ qs) ≡ map r ps ++ map r qs
  both-renumbered [] qs = refl
  both-renumbered (p ∷ ps) qs = ap (λ z. r p ∷ z) (both-renumbered ps qs)

  ascending-renumbered : (ps : List Pattern) → AllByRecursion (RefsIn K) ps → map r (ascending ps) ≡ ascending (map r ps)
  ascending-renumbered [] s = refl
  ascending-renumbered (p ∷ ps) s =
      with_member-renumbered p (ascending ps) s.0 (all_ordered (RefsIn K) ps s.1) ∙ ap (with_member (r p)) (ascending-renumbered ps s.1)

  pub members-renumbered : (p : Pattern) → map r (members p) ≡ members (r p)
  members-renumbered (choice p q) = ap (λ z. r p ∷ z) (members-renumbered q)
  members-renumbered p = refl

  of_members-renumbered : (ps : List Pattern) → r (of_members ps) ≡ of_members (map r ps)
  of_members-renumbered [] = refl
  of_members-renumbered (p ∷ []) = refl
  of_members-renumbered (p ∷ q ∷ ps) = ap (choice (r p)) (of_members-renumbered (q ∷ ps))

  members_in : (p : Pattern) → RefsIn K p → AllByRecursion (RefsIn K) (members p)
  members_in not_allowed s = tt
  members_in (choice p q) s = (s.0, members_in q s.1)
  members_in p s = (s, tt)

  -- a choice with new numbers is the choice of its sides with new numbers
  pub choice-renumbered : (p q : Pattern) → RefsIn K p → RefsIn K q → r (choice_of p q) ≡ choice_of (r p) (r q)
  unfolding choice_of
  choice-renumbered p q s t =
      of_members-renumbered (ascending (members p ++ members q))
      ∙ ap of_members (
      ascending-renumbered (members p ++ members q) (all-append (RefsIn K) (members p) (members q) (members_in p s) (members_in q t))
      ∙ ap ascending (both-renumbered (members p) (members q) ∙ (λ i. members-renumbered p i ++ members-renumbered q i))
      )

-- the other constructors look at no number
module _ (h : ℕ → ℕ) where
  pub group-renumbered : (p q : Pattern) → renumbered h (group_of p q) ≡ group_of (renumbered h p) (renumbered h q)
  group-renumbered not_allowed q = refl
  group-renumbered p not_allowed = refl
  group-renumbered empty q = refl
  group-renumbered p empty = refl
  group-renumbered p q = refl

  pub interleave-renumbered : (p q : Pattern) → renumbered h (interleave_of p q) ≡ interleave_of (renumbered h p) (renumbered h q)
  interleave-renumbered not_allowed q = refl
  interleave-renumbered p not_allowed = refl
  interleave-renumbered empty q = refl
  interleave-renumbered p empty = refl
  interleave-renumbered p q = refl

  pub one_or_more-renumbered : (p : Pattern) → renumbered h (one_or_more_of p) ≡ one_or_more_of (renumbered h p)
  one_or_more-renumbered not_allowed = refl
  one_or_more-renumbered empty = refl
  one_or_more-renumbered p = refl

  pub attribute-renumbered : (c : Class) (p : Pattern) → renumbered h (attribute_of c p) ≡ attribute_of c (renumbered h p)
  attribute-renumbered c not_allowed = refl
  attribute-renumbered c p = refl

  pub data-renumbered : (i : Kind) (p : Pattern) → renumbered h (data_of i p) ≡ data_of i (renumbered h p)
  data-renumbered i not_allowed = refl
  data-renumbered i p = refl
