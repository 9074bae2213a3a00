-- What taking in an attribute or a value does to a pool.
use Rattle.std.proofs.Common.{◌≡◌, ℕ, ◌<◌, get_or, List, [], ◌∷◌, length, map, Result, Ok, Err, IfOk, OnErr, refl, sym, ◌∙◌, ap, subst, arith}
use Rattle.std.specs.declared.alloc.AllocError.{AllocError}
use Rattle.rng_model.specs.Texts.{Text}
use Rattle.rng_model.specs.Classes.{Class, any}
use Rattle.rng_model.specs.Patterns.{Pattern}
use Rattle.rng_model.specs.Patterns as pattern
use Rattle.text_atoms.specs.Kinds.{kind_of}
use Rattle.text_atoms.specs.declared.kind.Kind.{Kind}
use Rattle.name_classes.specs.declared.class.NameClass.{NameClass}
use Rattle.name_classes.specs.Views.{class_of}
use Rattle.pattern_intern.specs.declared.facts.Facts.{Facts}
use Rattle.pattern_intern.specs.declared.id.PatternId.{PatternId}
use Rattle.pattern_intern.specs.declared.node.Node.{Node}
use Rattle.pattern_intern.specs.declared.node.Node.TheVariants.{Value, Attribute}
use Rattle.pattern_intern.specs.Ordered.{IsOrdered}
use Rattle.pattern_intern.specs.Schemas.{AreRefsBelow, HasRefsBelow}
use Rattle.pattern_intern.specs.Facts.{IsFacts}
use Rattle.pattern_intern.specs.Stored.{Stored, stored, count, tree_at, AreApart, Extends}
use Rattle.pattern_intern.specs.Trees.{node_tree, trees, stored_of, PartsBelow, IsPool}
use Rattle.pattern_intern.specs.Interned.{IsTaken, IsInterned, IsAttributeTaken, IsValueTaken}
use Rattle.pattern_intern.proofs.Growing.{extends-refl, extends-trans}
use Rattle.pattern_intern.proofs.Adding.{grown_by, within_by, made_by, kept_by, refs_by}
use Rattle.pattern_intern.proofs.Widening.{IsWider, wider_of, wide_trees, wide_pool, wide_extends}

-- a pool that has got a pattern
pub record IsMade (p : Pattern) (new : List Node) (now : List Facts) (s t : Stored) (id : ℕ) : Type 0 where
  pub pool : IsPool new now t
  pub within : id < count t
  pub made : tree_at t id ≡ p
  pub kept : Extends s t
  pub refs : (n : ℕ) → AreRefsBelow n s → HasRefsBelow n p → AreRefsBelow n t

-- a wider pool, and a node over it
module _ (nodes new : List Node) (facts now : List Facts) (cs ds : List Class) (ls ms : List Text) (h : IsPool nodes facts (stored_of nodes cs ls)) (x : Extends (stored_of nodes cs ls) (stored (trees cs ls nodes) ds ms)) (apart : AreApart (stored (trees cs ls nodes) ds ms)) (node : Node) (fact : Facts) (p : Pattern) (below : PartsBelow (count (stored_of nodes ds ms)) (stored_of nodes ds ms) node) (is : node_tree (stored_of nodes ds ms) node ≡ p) (described : IsFacts p fact) (o : IsOrdered p) where
  wide_refs : (n : ℕ) → AreRefsBelow n (stored_of nodes cs ls) → AreRefsBelow n (stored_of nodes ds ms)
  wide_refs n a =
      record { each = subst (λ ps. (id : ℕ) → id < length ps → HasRefsBelow n (get_or ps id pattern.not_allowed)) (sym (wide_trees nodes facts cs ds ls ms h x apart)) a.each }

  wide_made : (id : ℕ) → IsInterned nodes facts node fact id new now → IsMade p new now (stored_of nodes cs ls) (stored_of new ds ms) id
  wide_made id t =
      let w = wide_pool nodes facts cs ds ls ms h x apart in
      let f = subst (λ q. IsFacts q fact) (sym is) described in
      let g = subst (λ q. IsOrdered q) (sym is) o in
      record {
        pool = grown_by nodes new facts now ds ms node fact w below f g id t;
        within = within_by nodes new facts now ds ms node fact w below f g id t;
        made = made_by nodes new facts now ds ms node fact w below f g id t ∙ is;
        kept = extends-trans (stored_of nodes cs ls) (stored_of nodes ds ms) (stored_of new ds ms) (wide_extends nodes facts cs ds ls ms h x apart) (kept_by nodes new facts now ds ms node fact w below f g id t);
        refs = λ n a b. refs_by nodes new facts now ds ms node fact w below f g id t n (wide_refs n a) (subst (λ q. HasRefsBelow n q) (sym is) b);
      }

same_map : {X : Type 0} (xs : List X) → map (λ y. y) xs ≡ xs
same_map [] = refl
same_map (y ∷ ys) = ap (λ zs. y ∷ zs) (same_map ys)

-- what is so of an Ok, and of the pool after a refusal
module _ (p : Pattern) (s t : Stored) (new : List Node) (now : List Facts) where
  pub pool_after : (r : Result PatternId AllocError) → IfOk r (λ id. IsMade p new now s t id.0) → OnErr r (IsPool new now t) → IsPool new now t
  pool_after (Ok id) m e = m.pool
  pool_after (Err x) m e = e

  pub within_after : (r : Result PatternId AllocError) → IfOk r (λ id. IsMade p new now s t id.0) → IfOk r (λ id. id.0 < count t)
  within_after (Ok id) m = m.within
  within_after (Err x) m = tt

  pub made_after : (r : Result PatternId AllocError) → IfOk r (λ id. IsMade p new now s t id.0) → IfOk r (λ id. tree_at t id.0 ≡ p)
  made_after (Ok id) m = m.made
  made_after (Err x) m = tt

  pub kept_after : (r : Result PatternId AllocError) → IfOk r (λ id. IsMade p new now s t id.0) → OnErr r (t ≡ s) → Extends s t
  kept_after (Ok id) m e = m.kept
  kept_after (Err x) m e = rw e (extends-refl s)

  pub refs_after : (r : Result PatternId AllocError) → IfOk r (λ id. IsMade p new now s t id.0) → OnErr r (t ≡ s) → (n : ℕ) → HasRefsBelow n p → AreRefsBelow n s → AreRefsBelow n t
  refs_after (Ok id) m e n b a = m.refs n a b
  refs_after (Err x) m e n b a = rw e a

module _ (nodes new : List Node) (facts now : List Facts) (cs ds : List NameClass) (ls : List Text) (class : NameClass) (content : PatternId) (fact : Facts) (h : IsPool nodes facts (stored_of nodes (map class_of cs) ls)) (below : content.0 < count (stored_of nodes (map class_of cs) ls)) (described : IsFacts (pattern.attribute (class_of class) (tree_at (stored_of nodes (map class_of cs) ls) content.0)) fact) where
  made_attribute : (id : ℕ) → IsAttributeTaken cs nodes facts class content fact id ds new now →
      IsMade (pattern.attribute (class_of class) (tree_at (stored_of nodes (map class_of cs) ls) content.0)) new now (stored_of nodes (map class_of cs) ls) (stored_of new (map class_of ds) ls) id
  made_attribute id t =
      let w = wider_of class_of any cs ds class t.number h.apart.classes t.taken in
      let x : Extends (stored_of nodes (map class_of cs) ls) (stored (trees (map class_of cs) ls nodes) (map class_of ds) ls) =
      record { longer = omega arith; kept = λ i l. refl; more_classes = w.longer; classes = w.kept; more_literals = omega arith; literals = λ i l. refl }
      in
      let a : AreApart (stored (trees (map class_of cs) ls nodes) (map class_of ds) ls) = record { trees = h.apart.trees; classes = w.apart; literals = h.apart.literals } in
      let e = wide_trees nodes facts (map class_of cs) (map class_of ds) ls ls h x a in
      wide_made nodes new facts now (map class_of cs) (map class_of ds) ls ls h x a (Attribute (record { 0 = t.number }) content) fact
      (pattern.attribute (class_of class) (tree_at (stored_of nodes (map class_of cs) ls) content.0)) (w.within, subst (λ ps. content.0 < length ps) (sym e) below)
      (λ i. pattern.attribute (w.at i) (get_or (e i) content.0 pattern.not_allowed)) described (record { whole = refl; ascending = (tt, tt); each = (tt, tt) }) id t.node

  pub attribute_made : (r : Result PatternId AllocError) → IfOk r (λ id. IsAttributeTaken cs nodes facts class content fact id.0 ds new now) →
      IfOk r (λ id. IsMade (pattern.attribute (class_of class) (tree_at (stored_of nodes (map class_of cs) ls) content.0)) new now (stored_of nodes (map class_of cs) ls) (stored_of new (map class_of ds) ls) id.0)
  attribute_made (Ok id) m = made_attribute id.0 m
  attribute_made (Err x) m = tt

module _ (nodes new : List Node) (facts now : List Facts) (cs : List Class) (ls ms : List Text) (kind : Kind) (literal : Text) (fact : Facts) (h : IsPool nodes facts (stored_of nodes cs ls)) (described : IsFacts (pattern.value (kind_of kind) literal) fact) where
  wider_literals : (number : ℕ) → IsTaken (λ t. t) ls literal number ms → IsWider [] ls ms number literal
  wider_literals number t =
      subst (λ l. IsWider [] l ms number literal) (same_map ls)
      (subst (λ m. IsWider [] (map (λ t. t) ls) m number literal) (same_map ms)
      (wider_of (λ t. t) [] ls ms literal number (subst (λ l. (i j : ℕ) → i < length l → j < length l → get_or l i [] ≡ get_or l j [] → i ≡ j) (sym (same_map ls)) h.apart.literals) t))

  made_value : (id : ℕ) → IsValueTaken ls nodes facts kind literal fact id ms new now → IsMade (pattern.value (kind_of kind) literal) new now (stored_of nodes cs ls) (stored_of new cs ms) id
  made_value id t =
      let w = wider_literals t.number t.taken in
      let x : Extends (stored_of nodes cs ls) (stored (trees cs ls nodes) cs ms) =
      record { longer = omega arith; kept = λ i l. refl; more_classes = omega arith; classes = λ i l. refl; more_literals = w.longer; literals = w.kept }
      in
      let a : AreApart (stored (trees cs ls nodes) cs ms) = record { trees = h.apart.trees; classes = h.apart.classes; literals = w.apart } in
      wide_made nodes new facts now cs cs ls ms h x a (Value kind (record { 0 = t.number })) fact (pattern.value (kind_of kind) literal) w.within
      (ap (pattern.value (kind_of kind)) w.at) described (record { whole = refl; ascending = (tt, tt); each = (tt, tt) }) id t.node

  pub value_made : (r : Result PatternId AllocError) → IfOk r (λ id. IsValueTaken ls nodes facts kind literal fact id.0 ms new now) →
      IfOk r (λ id. IsMade (pattern.value (kind_of kind) literal) new now (stored_of nodes cs ls) (stored_of new cs ms) id.0)
  value_made (Ok id) m = made_value id.0 m
  value_made (Err x) m = tt

-- three facts after a refusal
pub after_refusal : {A B C D : Type 0} (r : Result PatternId AllocError) → OnErr r A → OnErr r B → OnErr r C → (A → B → C → D) → OnErr r D
after_refusal (Ok id) a b c f = tt
after_refusal (Err x) a b c f = f a b c
