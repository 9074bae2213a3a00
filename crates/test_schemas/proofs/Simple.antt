-- Patterns without After, whose references are below a number, and their schemas.
use Rattle.std.proofs.Common.{◌≡◌, ◌≢◌, ℕ, zero, suc, ◌+◌, ◌<◌, ◌⊎◌, inl, inr, Some, None, List, [], ◌∷◌, map, slice_get, refl, sym, ap, subst, arith}
use Rattle.std.specs.Prelude.{⊤}
use Rattle.pattern_intern.specs.declared.id.PatternId.{PatternId}
use Rattle.rng_model.specs.Patterns.{Definition, HasNoAfter, IsSimpleForm}
use Rattle.pattern_intern.specs.Schemas.{HasRefsBelow, AreWithin, Entry, definition_of, schema_of}
use Rattle.pattern_intern.specs.Stored.{Stored, count, tree_at}
use Rattle.pattern_intern.specs.Trees.{IsNode, PartsBelow, node_tree}
use Rattle.pattern_intern.specs.declared.node.Node.{Node}
use Rattle.pattern_intern.specs.declared.node.Node.TheVariants.{NotAllowed, Empty, AnyText, Ref, Value, DataType, Attribute, OneOrMore, Choice, Group, Interleave, After}

same_or : (i j : ℕ) → (i ≡ j) ⊎ (i ≢ j)
same_or zero zero = inl refl
same_or zero (suc j) = inr (λ e. cc)
same_or (suc i) zero = inr (λ e. cc)
same_or (suc i) (suc j) = go (same_or i j)
  where
    go : (i ≡ j) ⊎ (i ≢ j) → (suc i ≡ suc j) ⊎ (suc i ≢ suc j)
    go (inl e) = inl (ap suc e)
    go (inr n) = inr (λ e. n (cc))

-- what may stand in a schema of m elements
abbrev pub IsSimple : ℕ → Stored → ℕ → Type 0
IsSimple m s id = HasNoAfter (tree_at s id) × HasRefsBelow m (tree_at s id)

-- the node is none of After, and no reference past the elements
abbrev pub IsSimpleNode : ℕ → Node → Type 0
IsSimpleNode m (Ref d) = d < m
IsSimpleNode m (After a b) = ⊥
IsSimpleNode m _ = ⊤

module _ (m : ℕ) (s : Stored) (n : ℕ) (below : (i : ℕ) → i < n → IsSimple m s i) where
  simple_node : (node : Node) → PartsBelow n s node → IsSimpleNode m node → HasNoAfter (node_tree s node) × HasRefsBelow m (node_tree s node)
  simple_node (Ref d) h k = (tt, k)
  simple_node (After a b) h k = absurd k
  simple_node NotAllowed h k = (tt, tt)
  simple_node Empty h k = (tt, tt)
  simple_node AnyText h k = (tt, tt)
  simple_node (Value kind l) h k = (tt, tt)
  simple_node (DataType kind None) h k = (tt, tt)
  simple_node (DataType kind (Some e)) h k = below e.0 h
  simple_node (Attribute c a) h k = below a.0 h.1
  simple_node (OneOrMore a) h k = below a.0 h
  simple_node (Choice a b) h k = let x = below a.0 h.0 in let y = below b.0 h.1 in ((x.0, y.0), (x.1, y.1))
  simple_node (Group a b) h k = let x = below a.0 h.0 in let y = below b.0 h.1 in ((x.0, y.0), (x.1, y.1))
  simple_node (Interleave a b) h k = let x = below a.0 h.0 in let y = below b.0 h.1 in ((x.0, y.0), (x.1, y.1))

  pub one_more : (node : Node) → IsNode s n node → IsSimpleNode m node → (i : ℕ) → i < n + 1 → IsSimple m s i
  one_more node is h i l = go (same_or i n)
    where
      here : IsSimple m s n
      here = rw is.tree (simple_node node is.below h)

      go : (i ≡ n) ⊎ (i ≢ n) → IsSimple m s i
      go (inl e) = subst (IsSimple m s) (sym e) here
      go (inr f) = below i (omega (arith, l, f))

pub other_node : (m : ℕ) (node : Node) → ((a b : PatternId) → node ≡ After a b → ⊥) → ((d : ℕ) → node ≡ Ref d → d < m) → IsSimpleNode m node
other_node m (Ref d) f h = h d refl
other_node m (After a b) f h = absurd (f a b refl)
other_node m _ f h = tt

module _ (s : Stored) (simple : (id : ℕ) → id < count s → HasNoAfter (tree_at s id)) where
  content_simple : (xs : List Entry) → ((k : ℕ) (x : Entry) → slice_get xs k ≡ Some x → x.1 < count s) → (d : ℕ) (e : Definition) → slice_get (map (definition_of s) xs) d ≡ Some e → HasNoAfter e.content
  content_simple [] h d e f = absurd (cc)
  content_simple (x ∷ xs) h zero e f = let same : definition_of s x ≡ e = cc in subst (λ y. HasNoAfter y.content) same (simple x.1 (h zero x refl))
  content_simple (x ∷ xs) h (suc d) e f = content_simple xs (λ k y g. h (suc k) y g) d e f

  pub schema_form : (start : ℕ) (xs : List Entry) → start < count s → AreWithin s xs → IsSimpleForm (schema_of s start xs)
  schema_form start xs l h = record { start = simple start l; contents = content_simple xs h.each }
