-- A cycle of a tree's graph goes through a reference: on the way without one patterns get smaller.
use Rattle.std.proofs.Common.{◌≡◌, ℕ, zero, suc, ◌+◌, ◌<◌, ◌≤◌, ◌⊎◌, inl, inr, true, false, Bool, cond, List, [], ◌∷◌, ◌++◌, Option, Some, None, slice_get, filter, refl, ap, arith}
use Rattle.std.specs.List.{list_any}
use Rattle.derivative_laws.proofs.Members.{IsIn}
use Rattle.grammar_laws.specs.Trees.{Pattern, Patterns, no_pattern, more_patterns, Items, no_item, more_items, Item, start, define, div, include}
use Rattle.grammar_laws.specs.Trees as full
use Rattle.grammar_laws.specs.Files.{Full}
use Rattle.rng_model.specs.Texts.{Text}
use Rattle.simple_form_laws.specs.Parts.{Scope, Part, part, Entry, entries, entries_in, entries_of, same_key, patterns_of_entries, is_interleave, defined}
use Rattle.simple_form_laws.specs.Faults.{leads, inside, each_part, IsVisited, IsReferenceAt}
use Rattle.simple_form_laws.specs.Forms.{tree}
use Rattle.schema_graph.specs.Shown.{Shows, IsGraph}
use Rattle.schema_graph.specs.declared.node.Node.{Node}
use Rattle.schema_graph.specs.declared.graph.Graph.{Graph}
use Rattle.pattern_forms.specs.Reaching.{Step, Reaches, here, next, IsCycle}
use Rattle.pattern_forms.specs.Searching.{IsLoopAt, HasCycle}
use Rattle.pattern_forms.proofs.Cycles.{then_reach, reaches_deep}
use Rattle.pattern_forms.proofs.Looping.{step_shown, no_content, reference_node, reached_visited}

abbrev mutual
  pub size : Pattern → ℕ
  size (full.attribute c p at) = suc (size p)
  size (full.group ps) = suc (size_list ps)
  size (full.choice ps) = suc (size_list ps)
  size (full.interleave ps) = suc (size_list ps)
  size (full.optional p) = suc (size p)
  size (full.zero_or_more p) = suc (size p)
  size (full.one_or_more p) = suc (size p)
  size (full.list p at) = suc (size p)
  size (full.mixed p) = suc (size p)
  size (full.data_except k xs p) = suc (size p)
  size (full.grammar is) = suc (suc (size_items is))
  size p = 1

  pub size_list : Patterns → ℕ
  size_list no_pattern = 0
  size_list (more_patterns p ps) = size p + size_list ps

  pub size_items : Items → ℕ
  size_items no_item = 0
  size_items (more_items i rest) = size_item i + size_items rest

  pub size_item : Item → ℕ
  size_item (start m p at) = size p
  size_item (define name m p at) = size p
  size_item (div inner) = size_items inner
  size_item (include t passed inner at) = 0

size_append : (xs ys : List Entry) → size_list (patterns_of_entries (xs ++ ys)) ≡ size_list (patterns_of_entries xs) + size_list (patterns_of_entries ys)
size_append [] ys = omega arith
size_append (x ∷ xs) ys = let e = size_append xs ys in omega arith

size_filter : (t : Entry → Bool) (xs : List Entry) → size_list (patterns_of_entries (filter t xs)) ≤ size_list (patterns_of_entries xs)
size_filter t [] = omega arith
size_filter t (x ∷ xs) = go (t x) (size_filter t xs)
  where
    go : (b : Bool) → size_list (patterns_of_entries (filter t xs)) ≤ size_list (patterns_of_entries xs) → size_list (patterns_of_entries (cond b (x ∷ filter t xs) (filter t xs))) ≤ size_list (patterns_of_entries (x ∷ xs))
    go true h = omega arith
    go false h = omega arith

mutual
  size_entries : (is : Items) → size_list (patterns_of_entries (entries is)) ≤ size_items is
  size_entries no_item = omega arith
  size_entries (more_items i rest) = let a = size_append (entries_in i) (entries rest) in let b = size_entries_in i in let c = size_entries rest in omega arith

  size_entries_in : (i : Item) → size_list (patterns_of_entries (entries_in i)) ≤ size_item i
  size_entries_in (start m p at) = omega arith
  size_entries_in (define name m p at) = omega arith
  size_entries_in (div inner) = size_entries inner
  size_entries_in (include t passed inner at) = omega arith

size_defined : (name : Option Text) (is : Items) → size (defined name is) < suc (suc (size_items is))
size_defined name is = go (list_any (λ e. is_interleave e.method) (entries_of name is))
  where
    es : ℕ
    es = size_list (patterns_of_entries (entries_of name is))

    low : size_list (patterns_of_entries (entries_of name is)) ≤ size_items is
    low = let a = size_filter (λ e. same_key name e.name) (entries is) in let b = size_entries is in omega arith

    go : (b : Bool) → size (cond b (full.interleave (patterns_of_entries (entries_of name is))) (full.choice (patterns_of_entries (entries_of name is)))) < suc (suc (size_items is))
    go true = omega (arith, low)
    go false = omega (arith, low)

size_member : (s : Scope) (ps : Patterns) (y : Part) → IsIn y (each_part s ps) → size y.pattern ≤ size_list ps
size_member s no_pattern y i = absurd i
size_member s (more_patterns p ps) y (inl e) = let a = ap (λ x. size x.pattern) e in omega arith
size_member s (more_patterns p ps) y (inr i) = let a = size_member s ps y i in omega arith

one_smaller : (s : Scope) (p : Pattern) (y : Part) → IsIn y (part s p ∷ []) → size y.pattern < suc (size p)
one_smaller s p y (inl e) = let a = ap (λ x. size x.pattern) e in omega arith
one_smaller s p y (inr i) = absurd i

member_smaller : (s : Scope) (ps : Patterns) (y : Part) → IsIn y (each_part s ps) → size y.pattern < suc (size_list ps)
member_smaller s ps y i = let a = size_member s ps y i in omega arith

grammar_smaller : (s : Scope) (is : Items) (y : Part) → IsIn y (part (is ∷ s) (defined None is) ∷ []) → size y.pattern < suc (suc (size_items is))
grammar_smaller s is y (inl e) = let a : size y.pattern ≡ size (defined None is) = ap (λ x. size x.pattern) e in let b = size_defined None is in omega arith
grammar_smaller s is y (inr i) = absurd i

-- what a pattern leads to is smaller, unless it is a reference
smaller : (s : Scope) (p : Pattern) (y : Part) → IsIn y (leads s p) → ((at : ℕ) × IsReferenceAt at p) ⊎ (size y.pattern < size p)
smaller s (full.element c p at) y i = absurd i
smaller s (full.attribute c p at) y i = inr (one_smaller s p y i)
smaller s (full.group ps) y i = inr (member_smaller s ps y i)
smaller s (full.choice ps) y i = inr (member_smaller s ps y i)
smaller s (full.interleave ps) y i = inr (member_smaller s ps y i)
smaller s (full.optional p) y i = inr (one_smaller s p y i)
smaller s (full.zero_or_more p) y i = inr (one_smaller s p y i)
smaller s (full.one_or_more p) y i = inr (one_smaller s p y i)
smaller s (full.list p at) y i = inr (one_smaller s p y i)
smaller s (full.mixed p) y i = inr (one_smaller s p y i)
smaller s (full.ref name at) y i = inl (at, (name, inl refl))
smaller s (full.parent name at) y i = inl (at, (name, inr refl))
smaller s full.empty y i = absurd i
smaller s full.any_text y i = absurd i
smaller s full.not_allowed y i = absurd i
smaller s (full.value k t) y i = absurd i
smaller s (full.data_type k xs) y i = absurd i
smaller s (full.data_except k xs p) y i = inr (one_smaller s p y i)
smaller s (full.external t passed at) y i = absurd i
smaller s (full.grammar is) y i = inr (grammar_smaller s is y i)

module _ (f : Full) (g : Graph) (h : IsGraph f g) where
  abbrev Showing_at : ℕ → Part → Type 0
  Showing_at i y = Shows f.files g.nodes.items h.keys i y.scope y.pattern

  -- a reference on the way from one node to another
  abbrev Between : ℕ → ℕ → Type 0
  Between i j = (r : ℕ) × (at : ℕ) × (d : ℕ) × (slice_get g.nodes.items r ≡ Some (Node.Reference at d)) × Reaches g false i r × Reaches g false r j

  abbrev Smaller : ℕ → ℕ → Type 0
  Smaller n j = (y : Part) × Showing_at j y × (size y.pattern < n)

  one_step_down : (i k : ℕ) (x : Part) → Showing_at i x → Step g false i k → ((at : ℕ) × (d : ℕ) × (slice_get g.nodes.items i ≡ Some (Node.Reference at d))) ⊎ Smaller (size x.pattern) k
  one_step_down i k x s t = on (step_shown f.files g h.keys h.combined false k s t)
    where
      which : (y : Part) → Showing_at k y → ((at : ℕ) × IsReferenceAt at x.pattern) ⊎ (size y.pattern < size x.pattern) → ((at : ℕ) × (d : ℕ) × (slice_get g.nodes.items i ≡ Some (Node.Reference at d))) ⊎ Smaller (size x.pattern) k
      which y u (inl (at, r)) = let n = reference_node f.files g h.keys h.combined s r in inl (at, n.0, n.1)
      which y u (inr l) = inr (y, u, l)

      on : (y : Part) × (IsIn y (leads x.scope x.pattern) ⊎ IsIn y (inside x.scope x.pattern)) × Showing_at k y → ((at : ℕ) × (d : ℕ) × (slice_get g.nodes.items i ≡ Some (Node.Reference at d))) ⊎ Smaller (size x.pattern) k
      on (y, inl i, u) = which y u (smaller x.scope x.pattern y i)
      on (y, inr i, u) = absurd (no_content f.files g h.keys h.combined x.scope y s t i)

  down : (i j : ℕ) (x : Part) → Showing_at i x → Reaches g false i j → Between i j ⊎ Smaller (suc (size x.pattern)) j
  down i j x s here = inr (x, s, omega arith)
  down i k x s (next {j = j} r t) = go (down i j x s r)
    where
      last : (y : Part) → size y.pattern < suc (size x.pattern) → ((at : ℕ) × (d : ℕ) × (slice_get g.nodes.items j ≡ Some (Node.Reference at d))) ⊎ Smaller (size y.pattern) k → Between i k ⊎ Smaller (suc (size x.pattern)) k
      last y l (inl (at, d, n)) = inl (j, at, d, n, r, next here t)
      last y l (inr (z, u, m)) = inr (z, u, omega arith)

      go : Between i j ⊎ Smaller (suc (size x.pattern)) j → Between i k ⊎ Smaller (suc (size x.pattern)) k
      go (inl (m, at, d, n, a, b)) = inl (m, at, d, n, a, next b t)
      go (inr (y, u, l)) = last y l (one_step_down j k y u t)

  round_again : (fuel i last : ℕ) (x : Part) → Showing_at i x → Reaches g false i last → Step g false last i → size x.pattern < fuel → Between i i
  round_again zero i last x s r t l = absurd (omega arith)
  round_again (suc fuel) i last x s r t l = go (λ z u m. round_again fuel i last z u r t m) (down i last x s r)
    where
      end : ((z : Part) → Showing_at i z → size z.pattern < fuel → Between i i) → (y : Part) → size y.pattern < suc (size x.pattern) → ((at : ℕ) × (d : ℕ) × (slice_get g.nodes.items last ≡ Some (Node.Reference at d))) ⊎ Smaller (size y.pattern) i → Between i i
      end again y m (inl (at, d, n)) = (last, at, d, n, r, next here t)
      end again y m (inr (z, u, o)) = again z u (omega arith)

      go : ((z : Part) → Showing_at i z → size z.pattern < fuel → Between i i) → Between i last ⊎ Smaller (suc (size x.pattern)) last → Between i i
      go again (inl (m, at, d, n, a, b)) = (m, at, d, n, a, next b t)
      go again (inr (y, u, m)) = end again y m (one_step_down last i y u t)

  cycle_at : {i r last : ℕ} → Reaches g false r last → Step g false last i → Reaches g false i r → IsCycle g r
  cycle_at {last = last} a t here = record { last = last; there = a; back = t }
  cycle_at a t (next {j = m} b u) = record { last = m; there = then_reach g (next a t) b; back = u }

  ends : {i r l : ℕ} → Reaches g false i l → Step g false l i → Reaches g false i r → Reaches g false r i → IsCycle g r
  ends a t p here = cycle_at a t p
  ends a t p (next q u) = cycle_at q u p

  -- so where there is a cycle, a reference leads back to itself
  pub has_loop : HasCycle g → (at : ℕ) × IsLoopAt g at
  has_loop c = go (reached_visited f g h c.reached)
    where
      go : (x : Part) × IsVisited (tree f) x × Showing_at c.node x → (at : ℕ) × IsLoopAt g at
      go (x, v, s) = on (round_again (suc (size x.pattern)) c.node c.cycle.last x s c.cycle.there c.cycle.back (omega arith))
        where
          on : Between c.node c.node → (at : ℕ) × IsLoopAt g at
          on (r, at, d, n, a, b) = (at, (r, d, then_reach g c.reached (reaches_deep g a), n, ends c.cycle.there c.cycle.back a b))
