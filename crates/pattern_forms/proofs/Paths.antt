-- The path of a walk: a node is entered or left, or stands on it already.
use Rattle.std.proofs.Common.{◌≡◌, ℕ, zero, suc, ◌+◌, ◌-◌, ◌<◌, ◌≤◌, ◌⊎◌, inl, inr, Bool, true, false, not, List, [], ◌∷◌, ◌++◌, length, get_or, Option, Some, None, slice_get, refl, sym, ◌∙◌, ap, subst, arith, length-append}
use Rattle.std.specs.Option.{is_some}
use Rattle.std.proofs.Math.ListN.{set, length-set}
use Rattle.std.proofs.lemmas.Option.{same_Some, slice_get_within, slice_get-get_or, get_or_from_slice_get}
use Rattle.schema_graph.specs.Shown.{IsClosed}
use Rattle.schema_graph.specs.declared.graph.Graph.{Graph}
use Rattle.pattern_intern.specs.declared.id.PatternId.{PatternId}
use Rattle.pattern_forms.specs.Reaching.{leads_at, step, Reaches, here, next, IsCycle}
use Rattle.pattern_forms.specs.Searching.{IsMarked, unmarked, HasCycle}
use Rattle.pattern_forms.specs.Outcomes.{HasForm, IsMade}
use Rattle.pattern_forms.specs.Making.{AreMade, AreMadeFrom, AreWithin, IsFirstUnmade, IsMaking, IsPath, IsOnPath, Grows, IsWalk, Advances, Leaves, frame}
use Rattle.pattern_intern.specs.Stored.{tree_at}
use Rattle.pattern_intern.specs.Schemas.{AreRefsBelow}
use Rattle.pattern_forms.specs.Formed.{Formed}
use Rattle.pattern_forms.specs.declared.making.Making.{Making}
use Rattle.pattern_forms.specs.declared.walk.Frame.{Frame}
use Rattle.pattern_forms.proofs.Lists.{get_old, get_last, get_push, get_set, get_set_other, same_or_not, count_set}
use Rattle.pattern_forms.proofs.Leading.{reached_within}
use Rattle.pattern_forms.proofs.Cycles.{from_step, step_deep}

pub grows_same : (m : Making) → Grows m m
grows_same m = record { entered = λ i h. h; made = λ i h. h }

pub grows_then : (a b c : Making) → Grows a b → Grows b c → Grows a c
grows_then a b c h k = record { entered = λ i m. k.entered i (h.entered i m); made = λ i m. k.made i (h.made i m) }

-- one more is marked
pub kept_marked : (xs : List Bool) (j i : ℕ) → j < length xs → IsMarked xs i → IsMarked (set xs j true) i
kept_marked xs j i l h = go (same_or_not j i)
  where
    go : (j ≡ i) ⊎ (j ≡ i → ⊥) → IsMarked (set xs j true) i
    go (inl e) = subst (λ x. IsMarked (set xs j true) x) e (get_set xs j true l)
    go (inr n) = get_set_other xs j i true n ∙ h

pub was_marked : (xs : List Bool) (j i : ℕ) → IsMarked (set xs j true) i → (i ≡ j) ⊎ IsMarked xs i
was_marked xs j i h = go (same_or_not j i)
  where
    go : (j ≡ i) ⊎ (j ≡ i → ⊥) → (i ≡ j) ⊎ IsMarked xs i
    go (inl e) = inl (sym e)
    go (inr n) = inr (sym (get_set_other xs j i true n) ∙ h)

-- where an element of the path with two on top stands
data Place (rest : List Frame) (node k j : ℕ) : ℕ → Frame → Type 0 where
  below : {n : ℕ} {y : Frame} → slice_get rest n ≡ Some y → Place rest node k j n y
  second : {n : ℕ} {y : Frame} → n ≡ length rest → y ≡ frame node k → Place rest node k j n y
  top : {n : ℕ} {y : Frame} → n ≡ suc (length rest) → y ≡ frame j 0 → Place rest node k j n y

entered_making : (g : Graph) (old new : Making) (j : ℕ) → IsMaking g old → slice_get old.entered.items j ≡ Some false → new.pool ≡ old.pool → new.forms.items ≡ old.forms.items → new.entered.items ≡ set old.entered.items j true → IsMaking g new
entered_making g old new j m un pool forms entered = record {
  each = ap length forms ∙ m.each;
  entries = ap length entered ∙ length-set old.entered.items j true ∙ m.entries;
  within = subst (λ p. AreWithin p new.forms.items) (sym pool) (subst (λ xs. AreWithin old.pool xs) (sym forms) m.within);
  formed = λ i id e. subst (λ p. Formed g i (tree_at p id.0)) (sym pool) (m.formed i id (subst (λ xs. HasForm xs i id) forms e));
  closed = λ i q. subst (λ xs. AreMade xs (leads_at g i)) (sym forms) (m.closed i (subst (λ xs. IsMade xs i) forms q));
  reached = λ i q. m.reached i (subst (λ xs. IsMade xs i) forms q);
  refs = subst (λ p. AreRefsBelow (length g.elements.items) p) (sym pool) m.refs;
}

lt_or_le : (m n : ℕ) → (m < n) ⊎ (n ≤ m)
lt_or_le m zero = inr (omega arith)
lt_or_le zero (suc n) = inl (omega arith)
lt_or_le (suc m) (suc n) = go (lt_or_le m n)
  where
    go : (m < n) ⊎ (n ≤ m) → (suc m < suc n) ⊎ (suc n ≤ suc m)
    go (inl l) = inl (omega arith)
    go (inr l) = inr (omega arith)

module _ (g : Graph) where
  -- along the path
  module _ (m : Making) (path : List Frame) (h : IsPath g m path) where
    along : (d k : ℕ) (x y : Frame) → slice_get path k ≡ Some x → slice_get path (d + k) ≡ Some y → Reaches g false x.node y.node
    along zero k x y e f = subst (λ z. Reaches g false x.node z.node) (same_Some x y (sym e ∙ subst (λ n. slice_get path n ≡ Some y) zk f)) here
      where
        zk : 0 + k ≡ k
        zk = omega arith
    along (suc d) k x y e f = from_step g (step x.next (h.leads k x z e there)) (along d (suc k) z y there (subst (λ n. slice_get path n ≡ Some y) shift f))
      where
        shift : suc d + k ≡ d + suc k
        shift = omega arith

        inside : suc k < length path
        inside = let l = slice_get_within path (suc d + k) y f in omega arith

        z : Frame
        z = get_or path (suc k) x

        there : slice_get path (suc k) ≡ Some (get_or path (suc k) x)
        there = slice_get-get_or path (suc k) x inside

    pub to_top : (k n : ℕ) (x y : Frame) → slice_get path k ≡ Some x → slice_get path n ≡ Some y → k ≤ n → Reaches g false x.node y.node
    to_top k n x y e f l = along (n - k) k x y e (subst (λ z. slice_get path z ≡ Some y) shift f)
      where
        shift : n ≡ (n - k) + k
        shift = omega arith

  -- the next node stands on the path
  pub closes : (m : Making) (rest : List Frame) (x : Frame) (k j : ℕ) → IsPath g m (rest ++ x ∷ []) → slice_get (leads_at g x.node) k ≡ Some j → IsMarked m.entered.items j → (IsMade m.forms.items j → ⊥) → HasCycle g
  closes m rest x k j h e t u = record { node = j; reached = next (h.reached (length rest) x (get_last rest x)) (step_deep g (step k e)); cycle = cycle (h.open_ones j t) }
    where
      cycle : IsMade m.forms.items j ⊎ IsOnPath (rest ++ x ∷ []) j → IsCycle g j
      cycle (inl q) = absurd (u q)
      cycle (inr (p, n, f)) = record {
        last = x.node;
        there = to_top m (rest ++ x ∷ []) h p (length rest) (frame j n) x f (get_last rest x) low;
        back = step k e;
      }
        where
          low : p ≤ length rest
          low = let l = slice_get_within (rest ++ x ∷ []) p (frame j n) f in let a = length-append rest (x ∷ []) in omega arith

  -- the node on top is left
  pub left : (old new : Making) (rest : List Frame) (x : Frame) → IsPath g old (rest ++ x ∷ []) → Leaves g x.node old new → Advances g old new (rest ++ x ∷ []) rest
  left old new rest x h l = record {
    making = l.making;
    way = record {
      reached = λ k y e. h.reached k y (get_old rest x k y e);
      leads = λ k y z e f. h.leads k y z (get_old rest x k y e) (get_old rest x (suc k) z f);
      passed = λ k n j y e u f. l.kept j (h.passed k n j y (get_old rest x k y e) u f);
      open_ones = λ i e. stay i (h.open_ones i (subst (λ xs. IsMarked xs i) l.entered e));
    };
    grows = record { entered = λ i e. subst (λ xs. IsMarked xs i) (sym l.entered) e; made = l.kept };
    less = let a = length-append rest (x ∷ []) in let b : unmarked new.entered.items ≡ unmarked old.entered.items = ap unmarked l.entered in omega arith;
  }
    where
      stay : (i : ℕ) → IsMade old.forms.items i ⊎ IsOnPath (rest ++ x ∷ []) i → IsMade new.forms.items i ⊎ IsOnPath rest i
      stay i (inl q) = inl (l.kept i q)
      stay i (inr (k, n, e)) = go (get_push rest x k (frame i n) e)
        where
          go : (slice_get rest k ≡ Some (frame i n)) ⊎ ((k ≡ length rest) × (frame i n ≡ x)) → IsMade new.forms.items i ⊎ IsOnPath rest i
          go (inl f) = inr (k, n, f)
          go (inr f) = inl (subst (λ z. IsMade new.forms.items z) (sym (ap (λ z. z.node) f.1)) l.made)

  -- the next node is entered
  pub enters : (old new : Making) (rest path : List Frame) (x : Frame) (k j : ℕ) → IsMaking g old → IsPath g old (rest ++ x ∷ []) → IsFirstUnmade g old.forms.items x.node x.next k → slice_get (leads_at g x.node) k ≡ Some j →
      slice_get old.entered.items j ≡ Some false → new.pool ≡ old.pool → new.forms.items ≡ old.forms.items → new.entered.items ≡ set old.entered.items j true →
      path ≡ (rest ++ frame x.node k ∷ []) ++ frame j 0 ∷ [] → Advances g old new (rest ++ x ∷ []) path
  enters old new rest path x k j m h f e un pool forms entered p = record {
    making = entered_making g old new j m un pool forms entered;
    way = record {
      reached = λ n y i. reach n y (place n y i);
      leads = λ n y z i u. lead n y z (place n y i) (place (suc n) z u);
      passed = λ n l i y a b u. subst (λ xs. IsMade xs i) (sym forms) (pass n l i y b u (place n y a));
      open_ones = λ i t. open_one i (was_marked old.entered.items j i (subst (λ xs. IsMarked xs i) entered t));
    };
    grows = record {
      entered = λ i t. subst (λ xs. IsMarked xs i) (sym entered) (kept_marked old.entered.items j i range t);
      made = λ i q. subst (λ xs. IsMade xs i) (sym forms) q;
    };
    less =
        let a = length-append rest (x ∷ []) in
        let b = ap length p in
        let c = length-append (rest ++ frame x.node k ∷ []) (frame j 0 ∷ []) in
        let d = length-append rest (frame x.node k ∷ []) in
        let u = count_set old.entered.items j un in
        let v : unmarked new.entered.items ≡ unmarked (set old.entered.items j true) = ap unmarked entered in
        omega arith;
  }
    where
      range : j < length old.entered.items
      range = slice_get_within old.entered.items j false un

      place : (n : ℕ) (y : Frame) → slice_get path n ≡ Some y → Place rest x.node k j n y
      place n y i = go (get_push (rest ++ frame x.node k ∷ []) (frame j 0) n y (subst (λ xs. slice_get xs n ≡ Some y) p i))
        where
          sizes : length (rest ++ frame x.node k ∷ []) ≡ suc (length rest)
          sizes = let a = length-append rest (frame x.node k ∷ []) in omega arith

          next_top : (slice_get rest n ≡ Some y) ⊎ ((n ≡ length rest) × (y ≡ frame x.node k)) → Place rest x.node k j n y
          next_top (inl u) = below u
          next_top (inr u) = second u.0 u.1

          go : (slice_get (rest ++ frame x.node k ∷ []) n ≡ Some y) ⊎ ((n ≡ length (rest ++ frame x.node k ∷ [])) × (y ≡ frame j 0)) → Place rest x.node k j n y
          go (inl u) = next_top (get_push rest (frame x.node k) n y u)
          go (inr u) = top (u.0 ∙ sizes) u.1

      reach : (n : ℕ) (y : Frame) → Place rest x.node k j n y → Reaches g true g.root y.node
      reach n y (below u) = h.reached n y (get_old rest x n y u)
      reach n y (second u v) = subst (λ z. Reaches g true g.root z) (sym (ap (λ z. z.node) v)) (h.reached (length rest) x (get_last rest x))
      reach n y (top u v) = subst (λ z. Reaches g true g.root z) (sym (ap (λ z. z.node) v)) (next (h.reached (length rest) x (get_last rest x)) (step_deep g (step k e)))

      lead : (n : ℕ) (y z : Frame) → Place rest x.node k j n y → Place rest x.node k j (suc n) z → slice_get (leads_at g y.node) y.next ≡ Some z.node
      lead n y z (below u) (below v) = h.leads n y z (get_old rest x n y u) (get_old rest x (suc n) z v)
      lead n y z (below u) (second v w) =
          h.leads n y x (get_old rest x n y u) (subst (λ i. slice_get (rest ++ x ∷ []) i ≡ Some x) (sym v) (get_last rest x)) ∙ ap Some (sym (ap (λ z. z.node) w))
      lead n y z (below u) (top v w) = absurd (let l = slice_get_within rest n y u in omega arith)
      lead n y z (second u v) (below w) = absurd (let l = slice_get_within rest (suc n) z w in omega arith)
      lead n y z (second u v) (second w t) = absurd (omega arith)
      lead n y z (second u v) (top w t) = subst (λ a. slice_get (leads_at g a.node) a.next ≡ Some z.node) (sym v) (e ∙ ap Some (sym (ap (λ z. z.node) t)))
      lead n y z (top u v) (below w) = absurd (let l = slice_get_within rest (suc n) z w in omega arith)
      lead n y z (top u v) (second w t) = absurd (omega arith)
      lead n y z (top u v) (top w t) = absurd (omega arith)

      pass : (n l i : ℕ) (y : Frame) → l < y.next → slice_get (leads_at g y.node) l ≡ Some i → Place rest x.node k j n y → IsMade old.forms.items i
      pass n l i y b u (below v) = h.passed n l i y (get_old rest x n y v) b u
      pass n l i y b u (second v w) = which (reach_or l)
        where
          low : l < k
          low = subst (λ z. l < z) (ap (λ z. z.next) w) b

          at_x : slice_get (leads_at g x.node) l ≡ Some i
          at_x = subst (λ z. slice_get (leads_at g z) l ≡ Some i) (ap (λ z. z.node) w) u

          reach_or : (l : ℕ) → (l < x.next) ⊎ (x.next ≤ l)
          reach_or l = lt_or_le l x.next

          which : (l < x.next) ⊎ (x.next ≤ l) → IsMade old.forms.items i
          which (inl q) = h.passed (length rest) l i x (get_last rest x) q at_x
          which (inr q) = f.before l i q low at_x
      pass n l i y b u (top v w) = absurd (let z : l < 0 = subst (λ z. l < z) (ap (λ z. z.next) w) b in omega arith)

      shift : (i n m : ℕ) → slice_get rest n ≡ Some (frame i m) → IsOnPath path i
      shift i n m u = (n, m, subst (λ xs. slice_get xs n ≡ Some (frame i m)) (sym p) (get_old (rest ++ frame x.node k ∷ []) (frame j 0) n (frame i m) (get_old rest (frame x.node k) n (frame i m) u)))

      stands : (i : ℕ) → i ≡ x.node → IsOnPath path i
      stands i u = (
        length rest,
        k,
        subst (λ xs. slice_get xs (length rest) ≡ Some (frame i k)) (sym p)
            (get_old (rest ++ frame x.node k ∷ []) (frame j 0) (length rest) (frame i k) (get_last rest (frame x.node k) ∙ ap (λ z. Some (frame z k)) (sym u))),
      )

      on_top : (i : ℕ) → i ≡ j → IsOnPath path i
      on_top i u = (
        length (rest ++ frame x.node k ∷ []),
        0,
        subst (λ xs. slice_get xs (length (rest ++ frame x.node k ∷ [])) ≡ Some (frame i 0)) (sym p)
            (get_last (rest ++ frame x.node k ∷ []) (frame j 0) ∙ ap (λ z. Some (frame z 0)) (sym u)),
      )

      old_open : (i : ℕ) → IsMade old.forms.items i ⊎ IsOnPath (rest ++ x ∷ []) i → IsMade new.forms.items i ⊎ IsOnPath path i
      old_open i (inl q) = inl (subst (λ xs. IsMade xs i) (sym forms) q)
      old_open i (inr (n, m, u)) = inr (go (get_push rest x n (frame i m) u))
        where
          go : (slice_get rest n ≡ Some (frame i m)) ⊎ ((n ≡ length rest) × (frame i m ≡ x)) → IsOnPath path i
          go (inl v) = shift i n m v
          go (inr v) = stands i (ap (λ z. z.node) v.1)

      open_one : (i : ℕ) → (i ≡ j) ⊎ IsMarked old.entered.items i → IsMade new.forms.items i ⊎ IsOnPath path i
      open_one i (inl u) = inr (on_top i u)
      open_one i (inr t) = old_open i (h.open_ones i t)

  -- the walk begins at a node
  pub begins : (old new : Making) (path : List Frame) (j : ℕ) → IsMaking g old → IsPath g old [] → Reaches g true g.root j → slice_get old.entered.items j ≡ Some false → new.pool ≡ old.pool → new.forms.items ≡ old.forms.items →
      new.entered.items ≡ set old.entered.items j true → path ≡ frame j 0 ∷ [] → IsWalk g j old new path
  begins old new path j m h r un pool forms entered p = record {
    making = entered_making g old new j m un pool forms entered;
    way = record {
      reached = λ n y i. reach n y (first n y (subst (λ xs. slice_get xs n ≡ Some y) p i));
      leads = λ n y z i u. absurd (let f = slice_get_within path (suc n) z u in let g = ap length p in omega arith);
      passed = λ n l i y a b u. absurd (let f : l < 0 = subst (λ z. l < z) (ap (λ z. z.next) (first n y (subst (λ xs. slice_get xs n ≡ Some y) p a))) b in omega arith);
      open_ones = λ i t. open_one i (was_marked old.entered.items j i (subst (λ xs. IsMarked xs i) entered t));
    };
    begin = subst (λ xs. IsMarked xs j) (sym entered) (get_set old.entered.items j true (slice_get_within old.entered.items j false un));
    grows = record {
      entered = λ i t. subst (λ xs. IsMarked xs i) (sym entered) (kept_marked old.entered.items j i (slice_get_within old.entered.items j false un) t);
      made = λ i q. subst (λ xs. IsMade xs i) (sym forms) q;
    };
  }
    where
      first : (n : ℕ) (y : Frame) → slice_get (frame j 0 ∷ []) n ≡ Some y → y ≡ frame j 0
      first zero y i = same_Some y (frame j 0) (sym i)
      first (suc n) y i = absurd (cc)

      reach : (n : ℕ) (y : Frame) → y ≡ frame j 0 → Reaches g true g.root y.node
      reach n y u = subst (λ z. Reaches g true g.root z) (sym (ap (λ z. z.node) u)) r

      old_open : (i : ℕ) → IsMade old.forms.items i ⊎ IsOnPath [] i → IsMade new.forms.items i ⊎ IsOnPath path i
      old_open i (inl q) = inl (subst (λ xs. IsMade xs i) (sym forms) q)
      old_open i (inr (n, m, u)) = absurd (cc)

      open_one : (i : ℕ) → (i ≡ j) ⊎ IsMarked old.entered.items i → IsMade new.forms.items i ⊎ IsOnPath path i
      open_one i (inl u) = inr (0, 0, subst (λ xs. slice_get xs 0 ≡ Some (frame i 0)) (sym p) (ap (λ z. Some (frame z 0)) (sym u)))
      open_one i (inr t) = old_open i (h.open_ones i t)

  pub walks_on : (start : ℕ) (first old new : Making) (before after : List Frame) → IsWalk g start first old before → Advances g old new before after → IsWalk g start first new after
  walks_on start first old new before after h a = record { making = a.making; way = a.way; begin = a.grows.entered start h.begin; grows = grows_then first old new h.grows a.grows }

  -- all is made that is entered
  pub settled : (m : Making) (i : ℕ) → IsPath g m [] → IsMarked m.entered.items i → IsMade m.forms.items i
  settled m i h t = go (h.open_ones i t)
    where
      go : IsMade m.forms.items i ⊎ IsOnPath [] i → IsMade m.forms.items i
      go (inl q) = q
      go (inr (n, k, u)) = absurd (cc)

  pub made_more : (forms : List (Option PatternId)) (node from k j : ℕ) → AreMadeFrom g forms node from k → slice_get (leads_at g node) k ≡ Some j → IsMade forms j → AreMadeFrom g forms node from (k + 1)
  made_more forms node from k j h e m = record { each = λ l i a b u. which l i a b u (same_or_not l k) }
    where
      which : (l i : ℕ) → from ≤ l → l < k + 1 → slice_get (leads_at g node) l ≡ Some i → (l ≡ k) ⊎ (l ≡ k → ⊥) → IsMade forms i
      which l i a b u (inl f) = subst (λ x. IsMade forms x) (same_Some j i (sym e ∙ subst (λ x. slice_get (leads_at g node) x ≡ Some i) f u)) m
      which l i a b u (inr n) = h.each l i a (low l b n) u
        where
          low : (l : ℕ) → l < k + 1 → (l ≡ k → ⊥) → l < k
          low l b n = omega arith

  -- all that the node on top leads to has a form
  pub top_ready : (m : Making) (rest : List Frame) (x : Frame) → IsPath g m (rest ++ x ∷ []) → AreMadeFrom g m.forms.items x.node x.next (length (leads_at g x.node)) → AreMade m.forms.items (leads_at g x.node)
  top_ready m rest x h f = record { each = λ k j e. which k j e (lt_or_le k x.next) }
    where
      which : (k j : ℕ) → slice_get (leads_at g x.node) k ≡ Some j → (k < x.next) ⊎ (x.next ≤ k) → IsMade m.forms.items j
      which k j e (inl l) = h.passed (length rest) k j x (get_last rest x) l e
      which k j e (inr l) = f.each k j l (slice_get_within (leads_at g x.node) k j e) e

  pub top_reached : (m : Making) (rest : List Frame) (x : Frame) → IsPath g m (rest ++ x ∷ []) → Reaches g true g.root x.node
  top_reached m rest x h = h.reached (length rest) x (get_last rest x)

  pub top_within : (m : Making) (rest : List Frame) (x : Frame) → IsClosed g → IsPath g m (rest ++ x ∷ []) → x.node < length g.nodes.items
  top_within m rest x c h = reached_within g c c.root (top_reached m rest x h)

pub made_there : (forms : List (Option PatternId)) (i : ℕ) (r : Bool) → i < length forms → is_some (get_or forms i None) ≡ not r → r ≡ false → IsMade forms i
made_there forms i r l e f = go (get_or forms i None) refl
  where
    go : (o : Option PatternId) → get_or forms i None ≡ o → IsMade forms i
    go None h = absurd (let a : false ≡ not r = sym (ap is_some h) ∙ e in let b : not r ≡ true = ap not f in let z : false ≡ true = a ∙ b in cc)
    go (Some id) h = (id, slice_get-get_or forms i None l ∙ ap Some h)

pub none_there : (forms : List (Option PatternId)) (i : ℕ) (r : Bool) → is_some (get_or forms i None) ≡ not r → r ≡ true → IsMade forms i → ⊥
none_there forms i r e n (id, h) =
    let a : get_or forms i None ≡ Some id = get_or_from_slice_get forms i (Some id) None h in
    let z : true ≡ false = sym (ap is_some a) ∙ e ∙ ap not n in cc
