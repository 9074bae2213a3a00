-- Each step of a search keeps what it has.
use Rattle.std.proofs.Common.{◌≡◌, ℕ, ◌<◌, ◌⊎◌, inl, inr, Bool, true, false, List, [], ◌∷◌, ◌++◌, Option, Some, length, slice_get, refl, sym, ◌∙◌, ap, subst, arith, length-append}
use Rattle.std.proofs.Math.ListN.{set, length-set}
use Rattle.std.proofs.lemmas.Option.{slice_get_within}
use Rattle.rng_model.specs.Patterns.{Pattern, ref}
use Rattle.name_classes.specs.declared.class.NameClass.{NameClass}
use Rattle.schema_graph.specs.declared.graph.Graph.{Graph}
use Rattle.pattern_intern.specs.Stored.{Stored, count, tree_at, AreApart}
use Rattle.pattern_intern.specs.declared.id.PatternId.{PatternId}
use Rattle.pattern_forms.specs.Outcomes.{HasForm}
use Rattle.kept_elements.specs.Wanted.{IsPartOf, HasContent, IsWanted, from_root, from_part, from_content}
use Rattle.kept_elements.specs.Marking.{IsMarked, IsStacked, unmarked, HasMark, IsFresh, Grown, IsDone, IsWantedAt, Spread, IsSearch, AreWanted}
use Rattle.kept_elements.specs.declared.search.Search.{Search}
use Rattle.kept_elements.proofs.Lists.{get_old, get_last, get_push, get_set, get_set_other, same_or_not, count_set}
use Rattle.kept_elements.proofs.Contents.{same_content}

pub grown_same : (A : ℕ → Type 0) (s : Search) → Grown A s s
grown_same A s = record {
  each = refl;
  kept = λ i h. h;
  stacked = λ i h. h;
  fresh = λ i h. inl h;
  only = λ i h. inl h;
  weight = refl;
}

pub grown_then : (A B : ℕ → Type 0) (a b c : Search) → ((i : ℕ) → B i → A i) → Grown A a b → Grown B b c → Grown A a c
grown_then A B a b c f h k = record {
  each = k.each ∙ h.each;
  kept = λ i m. k.kept i (h.kept i m);
  stacked = λ i m. k.stacked i (h.stacked i m);
  fresh = λ i m. new_mark i (k.fresh i m);
  only = λ i m. on_stack i (k.only i m);
  weight = k.weight ∙ h.weight;
}
  where
    before : (i : ℕ) → IsMarked a.marks.items i ⊎ (A i × IsStacked b.stack.items i) → IsMarked a.marks.items i ⊎ (A i × IsStacked c.stack.items i)
    before i (inl m) = inl m
    before i (inr m) = inr (m.0, k.stacked i m.1)

    new_mark : (i : ℕ) → IsMarked b.marks.items i ⊎ (B i × IsStacked c.stack.items i) → IsMarked a.marks.items i ⊎ (A i × IsStacked c.stack.items i)
    new_mark i (inl m) = before i (h.fresh i m)
    new_mark i (inr m) = inr (f i m.0, m.1)

    earlier : (i : ℕ) → IsStacked a.stack.items i ⊎ IsMarked b.marks.items i → IsStacked a.stack.items i ⊎ IsMarked c.marks.items i
    earlier i (inl m) = inl m
    earlier i (inr m) = inr (k.kept i m)

    on_stack : (i : ℕ) → IsStacked b.stack.items i ⊎ IsMarked c.marks.items i → IsStacked a.stack.items i ⊎ IsMarked c.marks.items i
    on_stack i (inl m) = earlier i (h.only i m)
    on_stack i (inr m) = inr m

-- a id that wasn't marked is marked and put on the stack
pub grown_visit : (a b : Search) (id : ℕ) → slice_get a.marks.items id ≡ Some false → b.marks.items ≡ set a.marks.items id true → b.stack.items ≡ a.stack.items ++ id ∷ [] → Grown (λ i. i ≡ id) a b
grown_visit a b id e m t = record {
  each = ap length m ∙ length-set a.marks.items id true;
  kept = λ i h. subst (λ xs. IsMarked xs i) (sym m) (keep i h);
  stacked = λ i h. subst (λ xs. IsStacked xs i) (sym t) (h.0, get_old a.stack.items id h.0 i h.1);
  fresh = λ i h. new_mark i (subst (λ xs. IsMarked xs i) m h);
  only = λ i h. on_stack i (subst (λ xs. IsStacked xs i) t h);
  weight = let l = length-append a.stack.items (id ∷ []) in let n = count_set a.marks.items id e in let lt = ap length t in let mm = ap unmarked m in omega arith;
}
  where
    range : id < length a.marks.items
    range = slice_get_within a.marks.items id false e

    here_marked : (i : ℕ) → i ≡ id → IsMarked (set a.marks.items id true) i
    here_marked i f = subst (λ j. IsMarked (set a.marks.items id true) j) (sym f) (get_set a.marks.items id true range)

    keep : (i : ℕ) → IsMarked a.marks.items i → IsMarked (set a.marks.items id true) i
    keep i h = go (same_or_not id i)
      where
        go : (id ≡ i) ⊎ (id ≡ i → ⊥) → IsMarked (set a.marks.items id true) i
        go (inl f) = here_marked i (sym f)
        go (inr n) = get_set_other a.marks.items id i true n ∙ h

    new_mark : (i : ℕ) → IsMarked (set a.marks.items id true) i → IsMarked a.marks.items i ⊎ ((i ≡ id) × IsStacked b.stack.items i)
    new_mark i h = go (same_or_not id i)
      where
        stacked_here : (i : ℕ) → i ≡ id → IsStacked b.stack.items i
        stacked_here i f = subst (λ xs. IsStacked xs i) (sym t) (length a.stack.items, get_last a.stack.items id ∙ ap Some (sym f))

        go : (id ≡ i) ⊎ (id ≡ i → ⊥) → IsMarked a.marks.items i ⊎ ((i ≡ id) × IsStacked b.stack.items i)
        go (inl f) = inr (sym f, stacked_here i (sym f))
        go (inr n) = inl (sym (get_set_other a.marks.items id i true n) ∙ h)

    on_stack : (i : ℕ) → IsStacked (a.stack.items ++ id ∷ []) i → IsStacked a.stack.items i ⊎ IsMarked b.marks.items i
    on_stack i (k, h) = go (get_push a.stack.items id k i h)
      where
        go : (slice_get a.stack.items k ≡ Some i) ⊎ ((k ≡ length a.stack.items) × (i ≡ id)) → IsStacked a.stack.items i ⊎ IsMarked b.marks.items i
        go (inl f) = inl (k, f)
        go (inr f) = inr (subst (λ xs. IsMarked xs i) (sym m) (here_marked i f.1))

-- two are marked, one after the other
pub grown_both : (A B : ℕ → Type 0) (C : ℕ → Type 0) (a b c : Search) → ((i : ℕ) → A i → C i) → ((i : ℕ) → B i → C i) → Grown A a b → Grown B b c → Grown C a c
grown_both A B C a b c f k g h = grown_then C B a b c k (grown_then C A a a b f (grown_same C a) g) h

module _ (g : Graph) (pool : Stored) (forms : List (Option PatternId)) where
  no_ref : (id : ℕ) (q : Pattern) (marks : List Bool) → tree_at pool id ≡ q → ((n : ℕ) → q ≡ ref n → ⊥) → (n : ℕ) (d : NameClass) (c : PatternId) → tree_at pool id ≡ ref n → HasContent g forms n d c → IsMarked marks c.0
  no_ref id q marks e f n d c r h = absurd (f n (sym e ∙ r))

  part_wanted : (id : ℕ) (q : Pattern) (a : ℕ) → IsWantedAt g pool forms id → tree_at pool id ≡ q → IsPartOf (tree_at pool a) q → IsWantedAt g pool forms a
  part_wanted id q a w e h = from_part w (subst (IsPartOf (tree_at pool a)) (sym e) h)

  -- a pattern without parts
  pub spread_leaf : (s : Search) (id : ℕ) (q : Pattern) → tree_at pool id ≡ q → ((p : Pattern) → IsPartOf p q → ⊥) → ((n : ℕ) → q ≡ ref n → ⊥) → Spread g pool forms id s s
  spread_leaf s id q e f n = record {
    grown = grown_same (IsWantedAt g pool forms) s;
    done = record { parts = λ p h. absurd (f p (subst (IsPartOf p) e h)); content = no_ref id q s.marks.items e n };
  }

  -- one part
  pub spread_one : (s u : Search) (id a : ℕ) (q : Pattern) → IsWantedAt g pool forms id → tree_at pool id ≡ q → ((p : Pattern) → IsPartOf p q → p ≡ tree_at pool a) → IsPartOf (tree_at pool a) q → ((n : ℕ) → q ≡ ref n → ⊥) →
      Grown (λ i. i ≡ a) s u → IsMarked u.marks.items a → Spread g pool forms id s u
  spread_one s u id a q w e f here n k m = record {
    grown = grown_then (IsWantedAt g pool forms) (λ i. i ≡ a) s s u (λ i h. subst (IsWantedAt g pool forms) (sym h) (part_wanted id q a w e here)) (grown_same (IsWantedAt g pool forms) s) k;
    done = record { parts = λ p h. (a, m, sym (f p (subst (IsPartOf p) e h))); content = no_ref id q u.marks.items e n };
  }

  -- two parts
  pub spread_two : (s u : Search) (id a b : ℕ) (q : Pattern) → IsWantedAt g pool forms id → tree_at pool id ≡ q → ((p : Pattern) → IsPartOf p q → (p ≡ tree_at pool a) ⊎ (p ≡ tree_at pool b)) →
      IsPartOf (tree_at pool a) q → IsPartOf (tree_at pool b) q → ((n : ℕ) → q ≡ ref n → ⊥) →
      Grown (λ i. (i ≡ a) ⊎ (i ≡ b)) s u → IsMarked u.marks.items a → IsMarked u.marks.items b → Spread g pool forms id s u
  spread_two s u id a b q w e f left right n k ma mb = record {
    grown = grown_then (IsWantedAt g pool forms) (λ i. (i ≡ a) ⊎ (i ≡ b)) s s u either (grown_same (IsWantedAt g pool forms) s) k;
    done = record { parts = λ p h. which p (f p (subst (IsPartOf p) e h)); content = no_ref id q u.marks.items e n };
  }
    where
      either : (i : ℕ) → (i ≡ a) ⊎ (i ≡ b) → IsWantedAt g pool forms i
      either i (inl h) = subst (IsWantedAt g pool forms) (sym h) (part_wanted id q a w e left)
      either i (inr h) = subst (IsWantedAt g pool forms) (sym h) (part_wanted id q b w e right)

      which : (p : Pattern) → (p ≡ tree_at pool a) ⊎ (p ≡ tree_at pool b) → HasMark pool u.marks.items p
      which p (inl h) = (a, ma, sym h)
      which p (inr h) = (b, mb, sym h)

  -- a reference leads to the form of its element's content
  pub spread_ref : (s u : Search) (id n : ℕ) (d : NameClass) (c : PatternId) → IsWantedAt g pool forms id → tree_at pool id ≡ ref n → HasContent g forms n d c →
      Grown (λ i. i ≡ c.0) s u → IsMarked u.marks.items c.0 → Spread g pool forms id s u
  spread_ref s u id n d c w e h k m = record {
    grown = grown_then (IsWantedAt g pool forms) (λ i. i ≡ c.0) s s u (λ i f. subst (IsWantedAt g pool forms) (sym f) (from_content (subst (IsWanted g pool forms) e w) h refl)) (grown_same (IsWantedAt g pool forms) s) k;
    done = record { parts = λ p f. absurd (subst (IsPartOf p) e f); content = λ n' d' c' r h'. there n' d' c' (number n' (sym e ∙ r)) h' };
  }
    where
      number : (n' : ℕ) → ref n ≡ ref n' → n ≡ n'
      number n' f = cc

      there : (n' : ℕ) (d' : NameClass) (c' : PatternId) → n ≡ n' → HasContent g forms n' d' c' → IsMarked u.marks.items c'.0
      there n' d' c' f h' = subst (λ x. IsMarked u.marks.items x.0) (same_content g forms n d d' c c' h (subst (λ x. HasContent g forms x d' c') (sym f) h')).1 m

  more_done : (s u : Search) (i : ℕ) → ((i : ℕ) → IsMarked s.marks.items i → IsMarked u.marks.items i) → IsDone g pool forms s.marks.items i → IsDone g pool forms u.marks.items i
  more_done s u i f h = record {
    parts = λ p k. let t = h.parts p k in (t.0, f t.0 t.1, t.2);
    content = λ n d c e k. f c.0 (h.content n d c e k);
  }

  -- the next on the stack is looked at
  pub searched : (old mid new : Search) (id : ℕ) → IsSearch g pool forms old → mid.marks.items ≡ old.marks.items → old.stack.items ≡ mid.stack.items ++ id ∷ [] → Spread g pool forms id mid new → IsSearch g pool forms new
  searched old mid new id h m t s = record {
    each = s.grown.each ∙ ap length m ∙ h.each;
    marked = λ i k. stay i (s.grown.only i k);
    sound = λ i k. reach i (s.grown.fresh i k);
    closed = λ i k. close i (s.grown.fresh i k);
    begin = λ r k. now_marked r.0 (h.begin r k);
  }
    where
      now_marked : (i : ℕ) → IsMarked old.marks.items i → IsMarked new.marks.items i
      now_marked i k = s.grown.kept i (subst (λ xs. IsMarked xs i) (sym m) k)

      was_stacked : (i : ℕ) → IsStacked mid.stack.items i → IsStacked old.stack.items i
      was_stacked i (k, e) = subst (λ xs. IsStacked xs i) (sym t) (k, get_old mid.stack.items id k i e)

      stay : (i : ℕ) → IsStacked mid.stack.items i ⊎ IsMarked new.marks.items i → IsMarked new.marks.items i
      stay i (inl k) = now_marked i (h.marked i (was_stacked i k))
      stay i (inr k) = k

      reach : (i : ℕ) → IsMarked mid.marks.items i ⊎ (IsWantedAt g pool forms i × IsStacked new.stack.items i) → IsWantedAt g pool forms i
      reach i (inl k) = h.sound i (subst (λ xs. IsMarked xs i) m k)
      reach i (inr k) = k.0

      on : (i : ℕ) → IsStacked old.stack.items i → IsStacked new.stack.items i ⊎ IsDone g pool forms new.marks.items i
      on i k = go (subst (λ xs. IsStacked xs i) t k)
        where
          go : IsStacked (mid.stack.items ++ id ∷ []) i → IsStacked new.stack.items i ⊎ IsDone g pool forms new.marks.items i
          go (k, e) = which (get_push mid.stack.items id k i e)
            where
              which : (slice_get mid.stack.items k ≡ Some i) ⊎ ((k ≡ length mid.stack.items) × (i ≡ id)) → IsStacked new.stack.items i ⊎ IsDone g pool forms new.marks.items i
              which (inl f) = inl (s.grown.stacked i (k, f))
              which (inr f) = inr (subst (IsDone g pool forms new.marks.items) (sym f.1) s.done)

      old_closed : (i : ℕ) → IsStacked old.stack.items i ⊎ IsDone g pool forms old.marks.items i → IsStacked new.stack.items i ⊎ IsDone g pool forms new.marks.items i
      old_closed i (inl k) = on i k
      old_closed i (inr f) = inr (more_done old new i now_marked f)

      close : (i : ℕ) → IsMarked mid.marks.items i ⊎ (IsWantedAt g pool forms i × IsStacked new.stack.items i) → IsStacked new.stack.items i ⊎ IsDone g pool forms new.marks.items i
      close i (inl k) = old_closed i (h.closed i (subst (λ xs. IsMarked xs i) m k))
      close i (inr k) = inl k.1

  -- what is taken from the stack is a pattern that is wanted
  pub popped : (old : Search) (rest : List ℕ) (id : ℕ) → IsSearch g pool forms old → old.stack.items ≡ rest ++ id ∷ [] → (id < count pool) × IsWantedAt g pool forms id
  popped old rest id h t = (subst (λ n. id < n) h.each (slice_get_within old.marks.items id true m), h.sound id m)
    where
      m : IsMarked old.marks.items id
      m = h.marked id (subst (λ xs. IsStacked xs id) (sym t) (length rest, get_last rest id))

  -- nothing waits: all is marked that is wanted
  pub search_ends : (s : Search) → AreApart pool → IsSearch g pool forms s → length s.stack.items ≡ 0 → AreWanted g pool forms s.marks.items
  search_ends s apart h e = record { each = h.each; sound = h.sound; complete = λ p w. all w; numbers = λ i l w. number i l (all w) }
    where
      number : (i : ℕ) → i < count pool → HasMark pool s.marks.items (tree_at pool i) → IsMarked s.marks.items i
      number i l (j, m, f) = subst (IsMarked s.marks.items) (apart.trees j i (subst (λ n. j < n) h.each (slice_get_within s.marks.items j true m)) l f) m

      done : (i : ℕ) → IsStacked s.stack.items i ⊎ IsDone g pool forms s.marks.items i → IsDone g pool forms s.marks.items i
      done i (inl (k, f)) = absurd (let l = slice_get_within s.stack.items k i f in omega arith)
      done i (inr d) = d

      all : {p : Pattern} → IsWanted g pool forms p → HasMark pool s.marks.items p
      all (from_root {id = id} f k) = (id.0, h.begin id f, sym k)
      all {p} (from_part w k) =
          let t = all w in
          (done t.0 (h.closed t.0 t.1)).parts p (subst (IsPartOf p) (sym t.2) k)
      all (from_content {n = n} {d = d} {id = id} w c k) =
          let t = all w in
          (id.0, (done t.0 (h.closed t.0 t.1)).content n d id t.2 c, sym k)

  -- the form of the root alone is marked
  pub search_begins : (a b : Search) (root : PatternId) → HasForm forms g.root root → IsFresh (count pool) a → Grown (λ i. i ≡ root.0) a b → IsMarked b.marks.items root.0 → IsSearch g pool forms b
  search_begins a b root r n w m = record {
    each = w.each ∙ n.each;
    marked = λ i k. mark i (w.only i k);
    sound = λ i k. reach i (w.fresh i k);
    closed = λ i k. close i (w.fresh i k);
    begin = λ id k. subst (λ x. IsMarked b.marks.items x.0) (same_id id k) m;
  }
    where
      same_id : (id : PatternId) → HasForm forms g.root id → root ≡ id
      same_id id k = let e : Some (Some root) ≡ Some (Some id) = sym r ∙ k in cc

      mark : (i : ℕ) → IsStacked a.stack.items i ⊎ IsMarked b.marks.items i → IsMarked b.marks.items i
      mark i (inl (k, f)) = absurd (let z : slice_get [] k ≡ Some i = subst (λ xs. slice_get xs k ≡ Some i) n.empty f in cc)
      mark i (inr k) = k

      reach : (i : ℕ) → IsMarked a.marks.items i ⊎ ((i ≡ root.0) × IsStacked b.stack.items i) → IsWantedAt g pool forms i
      reach i (inl k) = absurd (n.none i k)
      reach i (inr k) = from_root r (ap (tree_at pool) k.0)

      close : (i : ℕ) → IsMarked a.marks.items i ⊎ ((i ≡ root.0) × IsStacked b.stack.items i) → IsStacked b.stack.items i ⊎ IsDone g pool forms b.marks.items i
      close i (inl k) = absurd (n.none i k)
      close i (inr k) = inl k.1
