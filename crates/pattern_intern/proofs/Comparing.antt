-- The order of patterns part by part.
use Rattle.std.proofs.Common.{◌<◌, Bool, true, false, nat_eq, true≢false, drop, arith, None, Some}
use Rattle.std.specs.Bool.{OnTrue, OnFalse}
use Rattle.pattern_intern.specs.Stored.{Stored, count, tree_at, AreApart}
use Rattle.pattern_intern.specs.Trees.{node_tree, node_rank}
use Rattle.pattern_intern.specs.declared.node.Node.{Node}
use Rattle.pattern_intern.specs.declared.node.Node.TheVariants.{NotAllowed, Empty, AnyText, Ref, Value, DataType, Attribute, OneOrMore, Choice, Group, Interleave, After}
use Rattle.std.proofs.Common.{◌≡◌, ℕ, List, [], ◌∷◌, ◌++◌, refl, sym, ◌∙◌, ap, append-nil}
use Rattle.std.specs.declared.cmp.Ordering.{Ordering}
use Rattle.std.specs.declared.cmp.Ordering.TheVariants.{Less, Equal, Greater}
use Rattle.std.specs.Ordering.{nat_cmp, ordering_then, ordering_reverse}
use Rattle.std.specs.Cmp.Lexicographic.{slice_cmp}
use Rattle.name_classes.proofs.Comparing.{cmp-append, class_keys}
use Rattle.name_classes.specs.NameOrder.{text_keys}
use Rattle.rng_model.specs.Texts.{Text}
use Rattle.rng_model.specs.Kinds.{Kind, kind_number}
use Rattle.rng_model.specs.Names.{text_key}
use Rattle.rng_model.specs.Classes.{Class, class_cmp}
use Rattle.rng_model.specs.Patterns.{Pattern, not_allowed, value, attribute, choice, pattern_cmp}
use Rattle.rng_model.proofs.Orders.{pattern_order, pattern_cmp-same}
use Rattle.rng_model.proofs.Keys.{key, tail, keys-free}
use Rattle.pattern_intern.specs.Comparisons.{IsPlain, tail_cmp}

-- two lists that begin with the lists of patterns compare by these first
pub parts : (p q : Pattern) (x y : List ℕ) → slice_cmp nat_cmp (key p ++ x) (key q ++ y) ≡ ordering_then (pattern_cmp p q) (slice_cmp nat_cmp x y)
parts p q x y = cmp-append (key p) (key q) x y (λ k l e. ap key ((keys-free p).0 q k l e).0)

then_equal : (o : Ordering) → ordering_then o Equal ≡ o
then_equal Less = refl
then_equal Equal = refl
then_equal Greater = refl

plain : (t : Pattern) → IsPlain t → tail t ≡ key t ++ 0 ∷ []
plain (choice p q) h = absurd h
plain t h = refl

-- no list of a pattern begins with 0
starts : (p : Pattern) (x : List ℕ) → slice_cmp nat_cmp (key p ++ x) (0 ∷ []) ≡ Greater
starts not_allowed x = refl
starts p x = refl

starts_tail : (q : Pattern) → slice_cmp nat_cmp (tail q) (0 ∷ []) ≡ Greater
starts_tail (choice p r) = starts p (tail r)
starts_tail p = refl

ends : (p : Pattern) (x : List ℕ) → slice_cmp nat_cmp (0 ∷ []) (key p ++ x) ≡ Less
ends not_allowed x = refl
ends p x = refl

ends_tail : (q : Pattern) → slice_cmp nat_cmp (0 ∷ []) (tail q) ≡ Less
ends_tail (choice p r) = ends p (tail r)
ends_tail p = refl

pub tail_left : (p q t : Pattern) → IsPlain t → tail_cmp (choice p q) t ≡ ordering_then (pattern_cmp p t) Greater
tail_left p q t h =
    ap (slice_cmp nat_cmp (key p ++ tail q)) (plain t h) ∙ parts p t (tail q) (0 ∷ []) ∙ ap (ordering_then (pattern_cmp p t)) (starts_tail q)

pub tail_right : (s p q : Pattern) → IsPlain s → tail_cmp s (choice p q) ≡ ordering_then (pattern_cmp s p) Less
tail_right s p q h =
    ap (λ l. slice_cmp nat_cmp l (key p ++ tail q)) (plain s h) ∙ parts s p (0 ∷ []) (tail q) ∙ ap (ordering_then (pattern_cmp s p)) (ends_tail q)

pub tail_both : (s t : Pattern) → IsPlain s → IsPlain t → tail_cmp s t ≡ pattern_cmp s t
tail_both s t h k = (λ i. slice_cmp nat_cmp (plain s h i) (plain t k i)) ∙ parts s t (0 ∷ []) (0 ∷ []) ∙ then_equal (pattern_cmp s t)

own_reverse : (o : Ordering) → o ≡ ordering_reverse o → o ≡ Equal
own_reverse Less h = absurd (cc)
own_reverse Equal h = refl
own_reverse Greater h = absurd (cc)

-- a pattern is equal to itself
pub itself : (p : Pattern) → pattern_cmp p p ≡ Equal
itself p = own_reverse (pattern_cmp p p) (pattern_order.antisymm p p)

-- texts by their lists
texts : (s t : Text) → slice_cmp nat_cmp (text_key s) (text_key t) ≡ slice_cmp nat_cmp s t
texts s t = (λ i. slice_cmp nat_cmp (sym (append-nil (text_key s)) i) (sym (append-nil (text_key t)) i)) ∙ text_keys s t [] [] ∙ then_equal (slice_cmp nat_cmp s t)

-- values by their kinds and then by their literals
pub values : (k l : Kind) (s t : Text) → pattern_cmp (value k s) (value l t) ≡ ordering_then (nat_cmp (kind_number k) (kind_number l)) (slice_cmp nat_cmp s t)
values k l s t = ap (ordering_then (nat_cmp (kind_number k) (kind_number l))) (texts s t)

-- attributes by their classes and then by their contents
pub attributes : (c d : Class) (p q : Pattern) → pattern_cmp (attribute c p) (attribute d q) ≡ ordering_then (class_cmp c d) (pattern_cmp p q)
attributes c d p q = class_keys c d (key p) (key q)

-- a pattern has the order of its parts where these differ
pub apart_first : (p q : Pattern) → (p ≡ q → ⊥) → (o : Ordering) → ordering_then (pattern_cmp p q) o ≡ pattern_cmp p q
apart_first p q h o = go (pattern_cmp p q) refl
  where
    go : (r : Ordering) → pattern_cmp p q ≡ r → ordering_then r o ≡ r
    go Less e = refl
    go Equal e = absurd (h (pattern_cmp-same p q e))
    go Greater e = refl

-- numbers are equal exactly where patterns are the same
module _ (s : Stored) (h : AreApart s) (a b : ℕ) (l : a < count s) (m : b < count s) where
  pub same_yes : OnTrue (nat_eq a b) ((o : Ordering) → ordering_then (pattern_cmp (tree_at s a) (tree_at s b)) o ≡ o)
  same_yes = go (nat_eq a b) refl
    where
      go : (r : Bool) → nat_eq a b ≡ r → OnTrue r ((o : Ordering) → ordering_then (pattern_cmp (tree_at s a) (tree_at s b)) o ≡ o)
      go true e = λ o. let n : a ≡ b = grind (arith, e) in ap (λ r. ordering_then r o) (ap (λ k. pattern_cmp (tree_at s a) (tree_at s k)) (sym n) ∙ itself (tree_at s a))
      go false e = tt

  pub same_no : OnFalse (nat_eq a b) ((o : Ordering) → ordering_then (pattern_cmp (tree_at s a) (tree_at s b)) o ≡ pattern_cmp (tree_at s a) (tree_at s b))
  same_no = go (nat_eq a b) refl
    where
      own : nat_eq a a ≡ true
      own = grind arith

      go : (r : Bool) → nat_eq a b ≡ r → OnFalse r ((o : Ordering) → ordering_then (pattern_cmp (tree_at s a) (tree_at s b)) o ≡ pattern_cmp (tree_at s a) (tree_at s b))
      go true e = tt
      go false e = apart_first (tree_at s a) (tree_at s b) (λ t. true≢false (sym own ∙ ap (nat_eq a) (h.trees a b l m t) ∙ e))

-- a node's list begins with the place of its kind
key_first : (s : Stored) (n : Node) → key (node_tree s n) ≡ node_rank n ∷ drop 1 (key (node_tree s n))
key_first s NotAllowed = refl
key_first s Empty = refl
key_first s AnyText = refl
key_first s (Ref d) = refl
key_first s (Value k l) = refl
key_first s (DataType k None) = refl
key_first s (DataType k (Some e)) = refl
key_first s (Attribute c a) = refl
key_first s (OneOrMore a) = refl
key_first s (Choice a b) = refl
key_first s (Group a b) = refl
key_first s (Interleave a b) = refl
key_first s (After a b) = refl

-- patterns of different kinds by their kinds
pub by_rank : (s : Stored) (n m : Node) (p q : Pattern) → p ≡ node_tree s n → q ≡ node_tree s m → (o : Ordering) → o ≡ nat_cmp (node_rank n) (node_rank m) → (o ≡ Equal → ⊥) → o ≡ pattern_cmp p q
by_rank s n m p q e f o g h =
    let whole : pattern_cmp p q ≡ ordering_then (nat_cmp (node_rank n) (node_rank m)) (slice_cmp nat_cmp (drop 1 (key (node_tree s n))) (drop 1 (key (node_tree s m)))) =
    (λ i. pattern_cmp (e i) (f i)) ∙ (λ i. slice_cmp nat_cmp (key_first s n i) (key_first s m i))
    in
    sym (whole ∙ ap (λ r. ordering_then r (slice_cmp nat_cmp (drop 1 (key (node_tree s n))) (drop 1 (key (node_tree s m))))) (sym g) ∙ known o h (slice_cmp nat_cmp (drop 1 (key (node_tree s n))) (drop 1 (key (node_tree s m)))))
  where
    known : (o : Ordering) → (o ≡ Equal → ⊥) → (r : Ordering) → ordering_then o r ≡ o
    known Less h r = refl
    known Equal h r = absurd (h refl)
    known Greater h r = refl
