-- A pool cut back to its first patterns.
use Rattle.std.proofs.Common.{◌≡◌, ℕ, zero, suc, ◌+◌, ◌<◌, ◌≤◌, get_or, Some, List, [], ◌∷◌, ◌++◌, fold, length, take, drop, slice_get, refl, sym, ◌∙◌, ap, subst, arith, length-append, append_assoc, append-nil}
use Rattle.std.proofs.Math.Seq.{take-append_seam}
use Rattle.std.proofs.lemmas.List.{take-append-drop, get_or-take, length-take-le}
use Rattle.std.proofs.lemmas.List.Sums.{fold-append}
use Rattle.rng_model.specs.Texts.{Text}
use Rattle.rng_model.specs.Classes.{Class}
use Rattle.rng_model.specs.Patterns.{Pattern}
use Rattle.rng_model.specs.Patterns as pattern
use Rattle.pattern_intern.specs.declared.facts.Facts.{Facts}
use Rattle.pattern_intern.specs.declared.node.Node.{Node}
use Rattle.pattern_intern.specs.declared.node.Node.TheVariants.{NotAllowed, Empty, AnyText}
use Rattle.pattern_intern.specs.Stored.{Stored, stored, count, tree_at, Extends}
use Rattle.pattern_intern.specs.Trees.{node_tree, with_node, trees, stored_of, IsNode, IsPool}
use Rattle.pattern_intern.proofs.Growing.{node_tree-extends, parts-extend}

slice_get-take : {X : Type 0} (xs : List X) (n k : ℕ) (x : X) → slice_get (take n xs) k ≡ Some x → (k < n) × (slice_get xs k ≡ Some x)
slice_get-take xs zero k x e = absurd (cc)
slice_get-take [] (suc n) k x e = absurd (cc)
slice_get-take (y ∷ ys) (suc n) zero x e = (omega arith, e)
slice_get-take (y ∷ ys) (suc n) (suc k) x e = let t = slice_get-take ys n k x e in let l = t.0 in (omega (arith, l), t.1)

slice_get-kept : {X : Type 0} (xs : List X) (n k : ℕ) (x : X) → k < n → slice_get xs k ≡ Some x → slice_get (take n xs) k ≡ Some x
slice_get-kept xs zero k x l e = absurd (omega (arith, l))
slice_get-kept [] (suc n) k x l e = absurd (cc)
slice_get-kept (y ∷ ys) (suc n) zero x l e = e
slice_get-kept (y ∷ ys) (suc n) (suc k) x l e = slice_get-kept ys n k x (omega (arith, l)) e

module _ (cs : List Class) (ls : List Text) where
  -- trees stay in front of later ones
  front : (ps : List Pattern) (nodes : List Node) → (zs : List Pattern) × (fold (with_node cs ls) ps nodes ≡ ps ++ zs)
  front ps [] = ([], sym (append-nil ps))
  front ps (x ∷ nodes) =
      let t = front (with_node cs ls ps x) nodes in
      (node_tree (stored ps cs ls) x ∷ t.0, t.1 ∙ append_assoc ps (node_tree (stored ps cs ls) x ∷ []) t.0)

  as_many : (ps : List Pattern) (nodes : List Node) → length (fold (with_node cs ls) ps nodes) ≡ length ps + length nodes
  as_many ps [] = omega arith
  as_many ps (x ∷ nodes) = let e = as_many (with_node cs ls ps x) nodes in let l = length-append ps (node_tree (stored ps cs ls) x ∷ []) in omega (arith, e, l)

  pub trees-take : (n : ℕ) (nodes : List Node) → n ≤ length nodes → trees cs ls (take n nodes) ≡ take n (trees cs ls nodes)
  trees-take n nodes l =
      let xs = take n nodes in
      let t = front (trees cs ls xs) (drop n nodes) in
      let whole : trees cs ls nodes ≡ trees cs ls xs ++ t.0 =
      ap (trees cs ls) (sym (take-append-drop n nodes)) ∙ fold-append (with_node cs ls) [] xs (drop n nodes) ∙ t.1
      in
      let e0 = as_many [] xs in
      let e1 = length-take-le n nodes l in
      let e : length (trees cs ls xs) ≡ n = omega (arith, e0, e1) in
      sym ((λ i. take (sym e i) (whole i)) ∙ take-append_seam (trees cs ls xs) t.0)

module _ (nodes : List Node) (facts : List Facts) (cs : List Class) (ls : List Text) (h : IsPool nodes facts (stored_of nodes cs ls)) (n : ℕ) (low : 2 < n) (high : n ≤ count (stored_of nodes cs ls)) where
  cut : Stored
  cut = stored (take n (trees cs ls nodes)) cs ls

  in_nodes : n ≤ length nodes
  in_nodes = let e = h.same_length in omega (arith, e, high)

  in_facts : n ≤ length facts
  in_facts = let e = h.same_facts in omega (arith, e, high)

  pub cut_stored : stored_of (take n nodes) cs ls ≡ stored (take n (trees cs ls nodes)) cs ls
  cut_stored = ap (λ t. stored t cs ls) (trees-take cs ls n nodes in_nodes)

  size : length (take n (trees cs ls nodes)) ≡ n
  size = length-take-le n (trees cs ls nodes) high

  at : (i : ℕ) → i < n → tree_at (stored (take n (trees cs ls nodes)) cs ls) i ≡ tree_at (stored_of nodes cs ls) i
  at i l = get_or-take n (trees cs ls nodes) i pattern.not_allowed l

  under : (i : ℕ) → i < length (take n (trees cs ls nodes)) → i < n
  under i l = subst (λ m. i < m) size l

  extends : Extends (stored (take n (trees cs ls nodes)) cs ls) (stored_of nodes cs ls)
  extends = record {
    longer = subst (λ m. m ≤ count (stored_of nodes cs ls)) (sym size) high;
    kept = λ i l. sym (at i (under i l));
    more_classes = omega arith;
    classes = λ i l. refl;
    more_literals = omega arith;
    literals = λ i l. refl;
  }

  cut_each : (id : ℕ) (node : Node) → slice_get (take n nodes) id ≡ Some node → IsNode (stored (take n (trees cs ls nodes)) cs ls) id node
  cut_each id node e =
      let t = slice_get-take nodes n id node e in
      let i = h.each id node t.1 in
      let b = parts-extend id id (stored_of nodes cs ls) (stored (take n (trees cs ls nodes)) cs ls) (omega arith) (omega arith) (omega arith) node i.below in
      let l = t.0 in
      record {
        below = b;
        tree = at id t.0 ∙ i.tree ∙ node_tree-extends id (stored (take n (trees cs ls nodes)) cs ls) (stored_of nodes cs ls) extends (subst (λ m. id ≤ m) (sym size) (omega (arith, l))) node b;
      }

  pub cut_pool : IsPool (take n nodes) (take n facts) (stored_of (take n nodes) cs ls)
  cut_pool = rw cut_stored record {
    first = slice_get-kept nodes n 0 NotAllowed (omega (arith, low)) h.first;
    second = slice_get-kept nodes n 1 Empty (omega (arith, low)) h.second;
    third = slice_get-kept nodes n 2 AnyText low h.third;
    each = cut_each;
    apart = record {
      trees = λ i j k l e.
          let k' = under i k in
          let l' = under j l in
          h.apart.trees i j (omega (arith, k', high)) (omega (arith, l', high)) (sym (at i k') ∙ e ∙ at j l');
      classes = h.apart.classes;
      literals = h.apart.literals;
    };
    described = λ id f e. let t = slice_get-take facts n id f e in rw (at id t.0) (h.described id f t.1);
    same_length = size ∙ sym (length-take-le n nodes in_nodes);
    same_facts = size ∙ sym (length-take-le n facts in_facts);
    ordered = λ i l. let l' = under i l in rw (at i l') (h.ordered i (omega (arith, l', high)));
    shallow = λ i l. let l' = under i l in rw (at i l') (h.shallow i (omega (arith, l', high)));
  }

-- the trees of an extended pool, cut back
pub take_extended : (s t : Stored) → Extends s t → t.classes ≡ s.classes → t.literals ≡ s.literals → stored (take (count s) t.trees) t.classes t.literals ≡ s
take_extended s t x c l = (λ i. stored (same s.trees t.trees x.longer x.kept i) (c i) (l i))
  where
    same : (ps qs : List Pattern) → length ps ≤ length qs → ((i : ℕ) → i < length ps → get_or qs i pattern.not_allowed ≡ get_or ps i pattern.not_allowed) → take (length ps) qs ≡ ps
    same [] qs l h = refl
    same (p ∷ ps) [] l h = absurd (omega (arith, l))
    same (p ∷ ps) (q ∷ qs) l h =
        let e = h 0 (omega arith) in
        let f = same ps qs (omega (arith, l)) (λ i w. h (suc i) (omega (arith, w))) in
        (λ i. e i ∷ f i)
