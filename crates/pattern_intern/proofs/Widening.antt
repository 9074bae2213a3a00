-- A pool that gets one more class or literal, and then a node with it.
use Rattle.std.proofs.Common.{◌≡◌, ℕ, suc, ◌<◌, ◌≤◌, inl, inr, get_or, None, Some, List, [], ◌∷◌, ◌++◌, fold, length, map, take, slice_get, option_map, refl, sym, ◌∙◌, ap, arith, length-append}
use Rattle.std.proofs.Math.Seq.{take-append_seam}
use Rattle.std.proofs.lemmas.List.{map-append, length-map}
use Rattle.std.proofs.lemmas.Option.{slice_get_within, slice_get-get_or, slice_get-map, get_or_from_slice_get}
use Rattle.rng_model.specs.Texts.{Text}
use Rattle.rng_model.specs.Classes.{Class}
use Rattle.rng_model.specs.Patterns.{Pattern}
use Rattle.rng_model.specs.Patterns as pattern
use Rattle.text_atoms.specs.Kinds.{kind_of}
use Rattle.pattern_intern.specs.declared.facts.Facts.{Facts}
use Rattle.pattern_intern.specs.declared.node.Node.{Node}
use Rattle.pattern_intern.specs.declared.node.Node.TheVariants.{NotAllowed, Empty, AnyText, Ref, Value, DataType, Attribute, OneOrMore, Choice, Group, Interleave, After}
use Rattle.pattern_intern.specs.Stored.{stored, tree_at, AreApart, Extends}
use Rattle.pattern_intern.specs.Trees.{node_tree, with_node, trees, stored_of, PartsBelow, IsPool}
use Rattle.pattern_intern.specs.Interned.{IsTaken}
use Rattle.pattern_intern.proofs.Growing.{at_old, at_new, apart-push, node_tree-extends, parts-extend}

-- a list with a value at a number, that maybe is its last and new
pub record IsWider {V : Type 0} (d : V) (old new : List V) (id : ℕ) (v : V) : Type 0 where
  pub longer : length old ≤ length new
  pub kept : (i : ℕ) → i < length old → get_or new i d ≡ get_or old i d
  pub within : id < length new
  pub at : get_or new id d ≡ v
  pub apart : (i j : ℕ) → i < length new → j < length new → get_or new i d ≡ get_or new j d → i ≡ j

module _ {X V : Type 0} (value : X → V) (d : V) (old new : List X) (x : X) (id : ℕ) (apart : (i j : ℕ) → i < length (map value old) → j < length (map value old) → get_or (map value old) i d ≡ get_or (map value old) j d → i ≡ j) where
  value_at : (k : ℕ) (y : X) → slice_get old k ≡ Some y → get_or (map value old) k d ≡ value y
  value_at k y e = get_or_from_slice_get (map value old) k (value y) d (slice_get-map value old k ∙ ap (option_map value) e)

  pub wider_of : IsTaken value old x id new → IsWider d (map value old) (map value new) id (value x)
  wider_of (inl t) = rw t.keys record {
    longer = omega arith;
    kept = λ i l. refl;
    within = rw (length-map old value) (slice_get_within old id t.key t.there);
    at = value_at id t.key t.there ∙ t.same;
    apart = apart;
  }
  wider_of (inr t) = rw (t.keys, map-append value old (x ∷ [])) record {
    longer = omega (arith, length-append (map value old) (value x ∷ []));
    kept = λ i l. at_old (map value old) (value x) d i l;
    within = rw (t.last, ← length-map old value) (omega (arith, length-append (map value old) (value x ∷ [])));
    at = rw (t.last, ← length-map old value) (at_new (map value old) (value x) d);
    apart = apart-push (map value old) (value x) d apart
        (λ i l e. let w = length-map old value in let s = slice_get-get_or old i x (omega (arith, l, w)) in t.absent i (get_or old i x) s (sym (value_at i (get_or old i x) s) ∙ e));
  }

-- taken out again
pub taken_back : {X V : Type 0} (value : X → V) (old new last : List X) (x : X) (id n : ℕ) → IsTaken value old x id new → n ≡ length old → last ≡ take n new → last ≡ old
taken_back value old new last x id n (inl t) e f = f ∙ (λ i. take (e i) (t.keys i)) ∙ whole old
  where
    whole : {X : Type 0} (xs : List X) → take (length xs) xs ≡ xs
    whole [] = refl
    whole (y ∷ ys) = ap (λ zs. y ∷ zs) (whole ys)
taken_back value old new last x id n (inr t) e f = f ∙ (λ i. take (e i) (t.keys i)) ∙ take-append_seam old (x ∷ [])

module _ (cs ds : List Class) (ls ms : List Text) (h : Extends (stored [] cs ls) (stored [] ds ms)) where
  same_node : (ps : List Pattern) (node : Node) (m : ℕ) → PartsBelow m (stored [] cs ls) node → node_tree (stored ps ds ms) node ≡ node_tree (stored ps cs ls) node
  same_node ps NotAllowed m k = refl
  same_node ps Empty m k = refl
  same_node ps AnyText m k = refl
  same_node ps (Ref d) m k = refl
  same_node ps (Value c l) m k = ap (pattern.value (kind_of c)) (h.literals l.0 k)
  same_node ps (DataType c None) m k = refl
  same_node ps (DataType c (Some e)) m k = refl
  same_node ps (Attribute c a) m k = ap (λ z. pattern.attribute z (tree_at (stored ps cs ls) a.0)) (h.classes c.0 k.0)
  same_node ps (OneOrMore a) m k = refl
  same_node ps (Choice a b) m k = refl
  same_node ps (Group a b) m k = refl
  same_node ps (Interleave a b) m k = refl
  same_node ps (After a b) m k = refl

  same_trees : (nodes : List Node) (ps : List Pattern) → ((k : ℕ) (n : Node) → slice_get nodes k ≡ Some n → (m : ℕ) × PartsBelow m (stored [] cs ls) n) →
      fold (with_node ds ms) ps nodes ≡ fold (with_node cs ls) ps nodes
  same_trees [] ps k = refl
  same_trees (x ∷ nodes) ps k =
      let t = k 0 x refl in
      ap (λ p. fold (with_node ds ms) (ps ++ p ∷ []) nodes) (same_node ps x t.0 t.1)
      ∙ same_trees nodes (with_node cs ls ps x) (λ j n e. k (suc j) n e)

-- a pool over more classes and literals
module _ (nodes : List Node) (facts : List Facts) (cs ds : List Class) (ls ms : List Text) (h : IsPool nodes facts (stored_of nodes cs ls)) (x : Extends (stored_of nodes cs ls) (stored (trees cs ls nodes) ds ms)) (apart : AreApart (stored (trees cs ls nodes) ds ms)) where
  pub wide_trees : trees ds ms nodes ≡ trees cs ls nodes
  wide_trees =
      same_trees cs ds ls ms (record { longer = omega arith; kept = λ i l. refl; more_classes = x.more_classes; classes = x.classes; more_literals = x.more_literals; literals = x.literals }) nodes []
      (λ k n e. (k, parts-extend k k (stored_of nodes cs ls) (stored [] cs ls) (omega arith) (omega arith) (omega arith) n (h.each k n e).below))

  pub wide_stored : stored_of nodes ds ms ≡ stored (trees cs ls nodes) ds ms
  wide_stored = ap (λ t. stored t ds ms) wide_trees

  pub wide_pool : IsPool nodes facts (stored_of nodes ds ms)
  wide_pool = rw wide_stored record {
    first = h.first;
    second = h.second;
    third = h.third;
    each = λ id n e.
        let i = h.each id n e in
        let w = slice_get_within nodes id n e in
        let z = h.same_length in
        record {
          below = parts-extend id id (stored_of nodes cs ls) (stored (trees cs ls nodes) ds ms) (omega arith) x.more_classes x.more_literals n i.below;
          tree = i.tree ∙ sym (node_tree-extends id (stored_of nodes cs ls) (stored (trees cs ls nodes) ds ms) x (omega (arith, w, z)) n i.below);
        };
    apart = apart;
    described = h.described;
    same_length = h.same_length;
    same_facts = h.same_facts;
    ordered = h.ordered;
    shallow = h.shallow;
  }

  pub wide_extends : Extends (stored_of nodes cs ls) (stored_of nodes ds ms)
  wide_extends = rw wide_stored x
