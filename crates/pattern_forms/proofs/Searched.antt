-- Each step of a search keeps what it has.
use Rattle.std.proofs.Common.{◌≡◌, ℕ, ◌+◌, ◌<◌, ◌⊎◌, inl, inr, Bool, true, false, List, [], ◌∷◌, ◌++◌, Some, length, slice_get, refl, sym, ◌∙◌, ap, subst, arith, length-append}
use Rattle.std.proofs.Math.ListN.{set, length-set}
use Rattle.std.proofs.lemmas.Option.{same_Some, slice_get_within}
use Rattle.schema_graph.specs.Shown.{IsClosed}
use Rattle.schema_graph.specs.declared.graph.Graph.{Graph}
use Rattle.pattern_forms.specs.Reaching.{steps_at, Step, step, Reaches, here, next}
use Rattle.pattern_forms.specs.Searching.{IsMarked, IsStacked, unmarked, Grown, Spread, IsTaking, IsSearch, AreReachedMarked}
use Rattle.pattern_forms.specs.declared.search.Search.{Search}
use Rattle.pattern_forms.proofs.Leading.{reached_within}
use Rattle.pattern_forms.proofs.Lists.{get_old, get_last, get_push, get_set, get_set_other, same_or_not, count_set}

pub grown_same : (A : ℕ → Type 0) (s : Search) → Grown A s s
grown_same A s = record {
  each = refl;
  kept = λ i h. h;
  stacked = λ i h. h;
  fresh = λ i h. inl h;
  only = λ i h. inl h;
  weight = refl;
}

pub grown_then : (A B : ℕ → Type 0) (a b c : Search) → ((i : ℕ) → B i → A i) → Grown A a b → Grown B b c → Grown A a c
grown_then A B a b c f h k = record {
  each = k.each ∙ h.each;
  kept = λ i m. k.kept i (h.kept i m);
  stacked = λ i m. k.stacked i (h.stacked i m);
  fresh = λ i m. new_mark i (k.fresh i m);
  only = λ i m. on_stack i (k.only i m);
  weight = k.weight ∙ h.weight;
}
  where
    before : (i : ℕ) → IsMarked a.marks.items i ⊎ (A i × IsStacked b.stack.items i) → IsMarked a.marks.items i ⊎ (A i × IsStacked c.stack.items i)
    before i (inl m) = inl m
    before i (inr m) = inr (m.0, k.stacked i m.1)

    new_mark : (i : ℕ) → IsMarked b.marks.items i ⊎ (B i × IsStacked c.stack.items i) → IsMarked a.marks.items i ⊎ (A i × IsStacked c.stack.items i)
    new_mark i (inl m) = before i (h.fresh i m)
    new_mark i (inr m) = inr (f i m.0, m.1)

    earlier : (i : ℕ) → IsStacked a.stack.items i ⊎ IsMarked b.marks.items i → IsStacked a.stack.items i ⊎ IsMarked c.marks.items i
    earlier i (inl m) = inl m
    earlier i (inr m) = inr (k.kept i m)

    on_stack : (i : ℕ) → IsStacked b.stack.items i ⊎ IsMarked c.marks.items i → IsStacked a.stack.items i ⊎ IsMarked c.marks.items i
    on_stack i (inl m) = earlier i (h.only i m)
    on_stack i (inr m) = inr m

-- a node that wasn't marked is marked and put on the stack
pub grown_visit : (a b : Search) (node : ℕ) → slice_get a.marks.items node ≡ Some false → b.marks.items ≡ set a.marks.items node true → b.stack.items ≡ a.stack.items ++ node ∷ [] → Grown (λ i. i ≡ node) a b
grown_visit a b node e m t = record {
  each = ap length m ∙ length-set a.marks.items node true;
  kept = λ i h. subst (λ xs. IsMarked xs i) (sym m) (keep i h);
  stacked = λ i h. subst (λ xs. IsStacked xs i) (sym t) (h.0, get_old a.stack.items node h.0 i h.1);
  fresh = λ i h. new_mark i (subst (λ xs. IsMarked xs i) m h);
  only = λ i h. on_stack i (subst (λ xs. IsStacked xs i) t h);
  weight = let l = length-append a.stack.items (node ∷ []) in let n = count_set a.marks.items node e in let lt = ap length t in let mm = ap unmarked m in omega arith;
}
  where
    range : node < length a.marks.items
    range = slice_get_within a.marks.items node false e

    here_marked : (i : ℕ) → i ≡ node → IsMarked (set a.marks.items node true) i
    here_marked i f = subst (λ j. IsMarked (set a.marks.items node true) j) (sym f) (get_set a.marks.items node true range)

    keep : (i : ℕ) → IsMarked a.marks.items i → IsMarked (set a.marks.items node true) i
    keep i h = go (same_or_not node i)
      where
        go : (node ≡ i) ⊎ (node ≡ i → ⊥) → IsMarked (set a.marks.items node true) i
        go (inl f) = here_marked i (sym f)
        go (inr n) = get_set_other a.marks.items node i true n ∙ h

    new_mark : (i : ℕ) → IsMarked (set a.marks.items node true) i → IsMarked a.marks.items i ⊎ ((i ≡ node) × IsStacked b.stack.items i)
    new_mark i h = go (same_or_not node i)
      where
        stacked_here : (i : ℕ) → i ≡ node → IsStacked b.stack.items i
        stacked_here i f = subst (λ xs. IsStacked xs i) (sym t) (length a.stack.items, get_last a.stack.items node ∙ ap Some (sym f))

        go : (node ≡ i) ⊎ (node ≡ i → ⊥) → IsMarked a.marks.items i ⊎ ((i ≡ node) × IsStacked b.stack.items i)
        go (inl f) = inr (sym f, stacked_here i (sym f))
        go (inr n) = inl (sym (get_set_other a.marks.items node i true n) ∙ h)

    on_stack : (i : ℕ) → IsStacked (a.stack.items ++ node ∷ []) i → IsStacked a.stack.items i ⊎ IsMarked b.marks.items i
    on_stack i (k, h) = go (get_push a.stack.items node k i h)
      where
        go : (slice_get a.stack.items k ≡ Some i) ⊎ ((k ≡ length a.stack.items) × (i ≡ node)) → IsStacked a.stack.items i ⊎ IsMarked b.marks.items i
        go (inl f) = inl (k, f)
        go (inr f) = inr (subst (λ xs. IsMarked xs i) (sym m) (here_marked i f.1))

module _ (g : Graph) (contents : Bool) (node : ℕ) where
  pub takes_none : (s : Search) → IsTaking g contents node 0 s s
  takes_none s = record { grown = grown_same (Step g contents node) s; taken = λ l j h e. absurd (omega arith) }

  pub takes_more : (k j : ℕ) (a b c : Search) → slice_get (steps_at g contents node) k ≡ Some j → IsTaking g contents node k a b → Grown (λ i. i ≡ j) b c → IsMarked c.marks.items j → IsTaking g contents node (k + 1) a c
  takes_more k j a b c e h w m = record {
    grown = grown_then (Step g contents node) (λ i. i ≡ j) a b c (λ i f. subst (λ x. Step g contents node x) (sym f) (step k e)) h.grown w;
    taken = λ l i u f. which l i u f (same_or_not l k);
  }
    where
      which : (l i : ℕ) → l < k + 1 → slice_get (steps_at g contents node) l ≡ Some i → (l ≡ k) ⊎ (l ≡ k → ⊥) → IsMarked c.marks.items i
      which l i u f (inl z) = subst (λ x. IsMarked c.marks.items x) (same_Some j i (sym e ∙ subst (λ x. slice_get (steps_at g contents node) x ≡ Some i) z f)) m
      which l i u f (inr n) = w.kept i (h.taken l i (below l u n) f)
        where
          below : (l : ℕ) → l < k + 1 → (l ≡ k → ⊥) → l < k
          below l u n = omega arith

  pub takes_all : (k : ℕ) (a b : Search) → k ≡ length (steps_at g contents node) → IsTaking g contents node k a b → Spread g contents node a b
  takes_all k a b e h = record { grown = h.grown; taken = λ j s. take s }
    where
      take : {j : ℕ} → Step g contents node j → IsMarked b.marks.items j
      take {j} (step l f) = h.taken l j (subst (λ x. l < x) (sym e) (slice_get_within (steps_at g contents node) l j f)) f

module _ (g : Graph) (contents : Bool) (start : ℕ) where
  abbrev Closed : Search → ℕ → Type 0
  Closed s i = IsStacked s.stack.items i ⊎ ((j : ℕ) → Step g contents i j → IsMarked s.marks.items j)

  -- a node is taken from the stack, and its steps are taken
  pub searched : (old mid new : Search) (node : ℕ) → IsSearch g contents start old → mid.marks.items ≡ old.marks.items → old.stack.items ≡ mid.stack.items ++ node ∷ [] → Spread g contents node mid new → IsSearch g contents start new
  searched old mid new node h m t s = record {
    each = s.grown.each ∙ ap length m ∙ h.each;
    marked = λ i k. stay i (s.grown.only i k);
    sound = λ i k. reach i (s.grown.fresh i k);
    closed = λ i k. close i (s.grown.fresh i k);
    begin = s.grown.kept start (subst (λ xs. IsMarked xs start) (sym m) h.begin);
  }
    where
      was_stacked : (i : ℕ) → IsStacked mid.stack.items i → IsStacked old.stack.items i
      was_stacked i (k, e) = subst (λ xs. IsStacked xs i) (sym t) (k, get_old mid.stack.items node k i e)

      node_stacked : IsStacked old.stack.items node
      node_stacked = subst (λ xs. IsStacked xs node) (sym t) (length mid.stack.items, get_last mid.stack.items node)

      now_marked : (i : ℕ) → IsMarked old.marks.items i → IsMarked new.marks.items i
      now_marked i k = s.grown.kept i (subst (λ xs. IsMarked xs i) (sym m) k)

      stay : (i : ℕ) → IsStacked mid.stack.items i ⊎ IsMarked new.marks.items i → IsMarked new.marks.items i
      stay i (inl k) = now_marked i (h.marked i (was_stacked i k))
      stay i (inr k) = k

      reach : (i : ℕ) → IsMarked mid.marks.items i ⊎ (Step g contents node i × IsStacked new.stack.items i) → Reaches g contents start i
      reach i (inl k) = h.sound i (subst (λ xs. IsMarked xs i) m k)
      reach i (inr k) = next (h.sound node (h.marked node node_stacked)) k.0

      on : (i : ℕ) → IsStacked old.stack.items i → Closed new i
      on i k = go (subst (λ xs. IsStacked xs i) t k)
        where
          go : IsStacked (mid.stack.items ++ node ∷ []) i → Closed new i
          go (k, e) = which (get_push mid.stack.items node k i e)
            where
              which : (slice_get mid.stack.items k ≡ Some i) ⊎ ((k ≡ length mid.stack.items) × (i ≡ node)) → Closed new i
              which (inl f) = inl (s.grown.stacked i (k, f))
              which (inr f) = inr (λ j p. s.taken j (subst (λ x. Step g contents x j) f.1 p))

      old_closed : (i : ℕ) → IsStacked old.stack.items i ⊎ ((j : ℕ) → Step g contents i j → IsMarked old.marks.items j) → Closed new i
      old_closed i (inl k) = on i k
      old_closed i (inr f) = inr (λ j p. now_marked j (f j p))

      close : (i : ℕ) → IsMarked mid.marks.items i ⊎ (Step g contents node i × IsStacked new.stack.items i) → Closed new i
      close i (inl k) = old_closed i (h.closed i (subst (λ xs. IsMarked xs i) m k))
      close i (inr k) = inl k.1

  -- nothing waits: all is marked that can be reached
  pub search_ends : (s : Search) → IsSearch g contents start s → length s.stack.items ≡ 0 → AreReachedMarked g contents start s.marks.items
  search_ends s h e = record { each = h.each; sound = h.sound; complete = λ i r. all i r }
    where
      steps : (i : ℕ) → IsStacked s.stack.items i ⊎ ((j : ℕ) → Step g contents i j → IsMarked s.marks.items j) → (j : ℕ) → Step g contents i j → IsMarked s.marks.items j
      steps i (inl (k, f)) j p = absurd (let l = slice_get_within s.stack.items k i f in omega arith)
      steps i (inr f) j p = f j p

      all : (i : ℕ) → Reaches g contents start i → IsMarked s.marks.items i
      all i here = h.begin
      all i (next {j = j} r p) = steps j (h.closed j (all j r)) i p

  -- a search begins
  pub search_begins : (a b : Search) → length a.marks.items ≡ length g.nodes.items → ((i : ℕ) → IsMarked a.marks.items i → ⊥) → a.stack.items ≡ [] → Grown (λ i. i ≡ start) a b → IsMarked b.marks.items start → IsSearch g contents start b
  search_begins a b l n e w m = record {
    each = w.each ∙ l;
    marked = λ i k. mark i (w.only i k);
    sound = λ i k. reach i (w.fresh i k);
    closed = λ i k. close i (w.fresh i k);
    begin = m;
  }
    where
      mark : (i : ℕ) → IsStacked a.stack.items i ⊎ IsMarked b.marks.items i → IsMarked b.marks.items i
      mark i (inl (k, f)) = absurd (let z : slice_get [] k ≡ Some i = subst (λ xs. slice_get xs k ≡ Some i) e f in cc)
      mark i (inr k) = k

      reach : (i : ℕ) → IsMarked a.marks.items i ⊎ ((i ≡ start) × IsStacked b.stack.items i) → Reaches g contents start i
      reach i (inl k) = absurd (n i k)
      reach i (inr k) = subst (λ x. Reaches g contents start x) (sym k.0) here

      close : (i : ℕ) → IsMarked a.marks.items i ⊎ ((i ≡ start) × IsStacked b.stack.items i) → Closed b i
      close i (inl k) = absurd (n i k)
      close i (inr k) = inl k.1

  pub popped_within : IsClosed g → start < length g.nodes.items → (s : Search) (rest : List ℕ) (node : ℕ) → IsSearch g contents start s → s.stack.items ≡ rest ++ node ∷ [] → node < length g.nodes.items
  popped_within c l s rest node h e =
      reached_within g c l (h.sound node (h.marked node (subst (λ xs. IsStacked xs node) (sym e) (length rest, get_last rest node))))
