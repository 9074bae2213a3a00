-- A tree whose names resolve, and in which no reference leads back to itself, has a simple form.
use Rattle.std.proofs.Common.{◌≡◌, ℕ, zero, suc, ◌<◌, ◌≤◌, ◌⊎◌, inl, inr, List, [], ◌∷◌, ◌++◌, length, Some, refl, sym, ◌∙◌, ap, subst, arith}
use Rattle.std.specs.List.{AllByRecursion}
use Rattle.std.specs.List.Sorted.{IsStrictlySortedBy}
use Rattle.std.specs.declared.cmp.Ordering.{Ordering}
use Rattle.std.specs.declared.cmp.Ordering.TheVariants.{Less, Equal, Greater}
use Rattle.std.specs.Ordering.{nat_cmp, match_ordering, MatchOrdering}
use Rattle.std.specs.Cmp.{nat_cmp_is}
use Rattle.std.proofs.lemmas.Cmp.{ranked}
use Rattle.rng_model.specs.Patterns as simple
use Rattle.rng_model.specs.Patterns.{Schema, Definition}
use Rattle.derivative_laws.proofs.Members.{IsIn, is_in, contained, in_left, in_right, in_append}
use Rattle.grammar_laws.specs.Trees.{Pattern}
use Rattle.grammar_laws.specs.Files.{Full}
use Rattle.grammar_laws.specs.Trees as full
use Rattle.simple_form_laws.specs.Parts.{part, parts_of}
use Rattle.simple_form_laws.specs.Meaning.{Means}
use Rattle.simple_form_laws.specs.Forms.{tree, ElementToken, tokens, token_of, HasRef, IsReached, from_start, from_content, new_number, renumbered, AreDefinitions, IsFormOf}
use Rattle.simple_form_laws.specs.Faults.{IsVisited, whole, content, inside}
use Rattle.simple_form_laws.proofs.OneMeaning.{found}
use Rattle.simple_form_laws.proofs.Numbers.{own_number}
use Rattle.simple_form_laws.proofs.Reached.{StaysIn, reached_in}
use Rattle.simple_form_laws.proofs.Refs.{refs_of, refs_to, refs_from}
use Rattle.simple_form_laws.proofs.Existence.{IsSound, without, shorter, or_there, whole_form, content_form}
use Rattle.simple_form_laws.proofs.Origins.{Origin, origin}
use Rattle.simple_form_laws.proofs.Tokens.{token_in}

-- an ascending list with the same members
insert : ℕ → List ℕ → List ℕ
insert n [] = n ∷ []
insert n (k ∷ ks) = match_ordering (nat_cmp n k) (n ∷ k ∷ ks) (k ∷ ks) (k ∷ insert n ks)

sorted : List ℕ → List ℕ
sorted [] = []
sorted (n ∷ ns) = insert n (sorted ns)

compared : (m n : ℕ) → MatchOrdering (nat_cmp m n) (m < n) (m ≡ n) (n < m)
compared m n = ranked m n (nat_cmp m n) refl

insert_to : (n m : ℕ) (ks : List ℕ) → IsIn m (insert n ks) → (m ≡ n) ⊎ IsIn m ks
unfolding insert
insert_to n m [] h = h
insert_to n m (k ∷ ks) h = go (nat_cmp n k) (insert_to n m ks) h
  where
    go : (o : Ordering) → (IsIn m (insert n ks) → (m ≡ n) ⊎ IsIn m ks) → IsIn m (match_ordering o (n ∷ k ∷ ks) (k ∷ ks) (k ∷ insert n ks)) → (m ≡ n) ⊎ IsIn m (k ∷ ks)
    go Less f i = i
    go Equal f i = inr i
    go Greater f (inl e) = inr (inl e)
    go Greater f (inr i) = again (f i)
      where
        again : (m ≡ n) ⊎ IsIn m ks → (m ≡ n) ⊎ IsIn m (k ∷ ks)
        again (inl e) = inl e
        again (inr j) = inr (inr j)

insert_from : (n m : ℕ) (ks : List ℕ) → (m ≡ n) ⊎ IsIn m ks → IsIn m (insert n ks)
unfolding insert
insert_from n m [] h = h
insert_from n m (k ∷ ks) h = go (nat_cmp n k) (compared n k) (insert_from n m ks) h
  where
    go : (o : Ordering) → MatchOrdering o (n < k) (n ≡ k) (k < n) → ((m ≡ n) ⊎ IsIn m ks → IsIn m (insert n ks)) → (m ≡ n) ⊎ IsIn m (k ∷ ks) → IsIn m (match_ordering o (n ∷ k ∷ ks) (k ∷ ks) (k ∷ insert n ks))
    go Less l f i = i
    go Equal l f (inl e) = inl (e ∙ l)
    go Equal l f (inr i) = i
    go Greater l f (inl e) = inr (f (inl e))
    go Greater l f (inr (inl e)) = inl e
    go Greater l f (inr (inr i)) = inr (f (inr i))

insert_above : (a n : ℕ) (ks : List ℕ) → nat_cmp a n ≡ Less → AllByRecursion (λ y. nat_cmp a y ≡ Less) ks → AllByRecursion (λ y. nat_cmp a y ≡ Less) (insert n ks)
unfolding insert
insert_above a n [] l h = (l, tt)
insert_above a n (k ∷ ks) l h = go (nat_cmp n k) (insert_above a n ks l h.1)
  where
    go : (o : Ordering) → AllByRecursion (λ y. nat_cmp a y ≡ Less) (insert n ks) → AllByRecursion (λ y. nat_cmp a y ≡ Less) (match_ordering o (n ∷ k ∷ ks) (k ∷ ks) (k ∷ insert n ks))
    go Less f = (l, h)
    go Equal f = h
    go Greater f = (h.0, f)

all_above : (a k : ℕ) (ks : List ℕ) → a < k → AllByRecursion (λ y. nat_cmp k y ≡ Less) ks → AllByRecursion (λ y. nat_cmp a y ≡ Less) ks
all_above a k [] l h = tt
all_above a k (y ∷ ks) l h =
    let m : k < y = subst (λ o. MatchOrdering o (k < y) (k ≡ y) (y < k)) h.0 (compared k y) in
    (sym (nat_cmp_is a y Less (omega arith)), all_above a k ks l h.1)

insert_ascending : (n : ℕ) (ks : List ℕ) → IsStrictlySortedBy nat_cmp ks → IsStrictlySortedBy nat_cmp (insert n ks)
unfolding insert IsStrictlySortedBy
insert_ascending n [] s = (tt, tt)
insert_ascending n (k ∷ ks) s = go (nat_cmp n k) (compared n k) (insert_ascending n ks s.1)
  where
    go : (o : Ordering) → MatchOrdering o (n < k) (n ≡ k) (k < n) → IsStrictlySortedBy nat_cmp (insert n ks) → IsStrictlySortedBy nat_cmp (match_ordering o (n ∷ k ∷ ks) (k ∷ ks) (k ∷ insert n ks))
    go Less l f = ((sym (nat_cmp_is n k Less l), all_above n k ks l s.0), s)
    go Equal l f = s
    go Greater l f = (insert_above k n ks (sym (nat_cmp_is k n Less l)) s.0, f)

sorted_ascending : (ns : List ℕ) → IsStrictlySortedBy nat_cmp (sorted ns)
unfolding sorted IsStrictlySortedBy
sorted_ascending [] = tt
sorted_ascending (n ∷ ns) = insert_ascending n (sorted ns) (sorted_ascending ns)

sorted_to : (m : ℕ) (ns : List ℕ) → IsIn m (sorted ns) → IsIn m ns
unfolding sorted
sorted_to m [] h = h
sorted_to m (n ∷ ns) h = go (insert_to n m (sorted ns) h) (sorted_to m ns)
  where
    go : (m ≡ n) ⊎ IsIn m (sorted ns) → (IsIn m (sorted ns) → IsIn m ns) → IsIn m (n ∷ ns)
    go (inl e) f = inl e
    go (inr i) f = inr (f i)

sorted_from : (m : ℕ) (ns : List ℕ) → IsIn m ns → IsIn m (sorted ns)
unfolding sorted
sorted_from m [] h = h
sorted_from m (n ∷ ns) (inl e) = insert_from n m (sorted ns) (inl e)
sorted_from m (n ∷ ns) (inr i) = insert_from n m (sorted ns) (inr (sorted_from m ns i))

module _ (f : Full) (sound : IsSound f.files (tree f)) where
  -- what is known of a token that is reached
  record IsGood (n : ℕ) : Type 0 where
    token : ElementToken
    is : token_of f n ≡ Some token
    known : IsIn token (tokens f)
    number : token.number ≡ n
    visited : IsVisited (tree f) (part token.scope (full.element token.class token.content n))
    here : IsIn (part token.scope (full.element token.class token.content n)) (parts_of [] (tree f))
    form : (q : simple.Pattern) × Means f.files token.scope token.content q

  good_from : (n : ℕ) → Origin f.files (tree f) n → IsGood n
  good_from n (s, c, p, v) =
      let h = content_form f.files (tree f) sound s c p n v in
      let i = token_in (parts_of [] (tree f)) s c p n h.0 in
      record {
        token = record { number = n; scope = s; class = c; content = p };
        is = own_number f (record { number = n; scope = s; class = c; content = p }) (contained _ (tokens f) i);
        known = i;
        number = refl;
        visited = v;
        here = h.0;
        form = h.1;
      }

  good : (n : ℕ) → IsReached f n → IsGood n
  good n (from_start h r) = good_from n (origin f.files (tree f) h n r whole)
  good n (from_content {m = m} {t = t} {q = q} v e h r) =
      let g = good m v in
      let k : Means f.files g.token.scope g.token.content q = subst (λ x. Means f.files x.scope x.content q) (sym (found g.is e)) h in
      good_from n (origin f.files (tree f) k n r (content g.visited (contained (part g.token.scope g.token.content) (inside g.token.scope (full.element g.token.class g.token.content m)) (inl refl))))

  first : simple.Pattern
  first = (whole_form f.files (tree f) sound).0

  first_means : Means f.files [] (tree f) first
  unfolding first
  first_means = (whole_form f.files (tree f) sound).1

  -- what is done, what is still to do, and the tokens that are left
  record IsExplored (U : List ElementToken) (done todo : List ℕ) : Type 0 where
    reached_done : (m : ℕ) → IsIn m done → IsReached f m
    reached_todo : (m : ℕ) → IsIn m todo → IsReached f m
    left : (t : ElementToken) → IsIn t (tokens f) → IsIn t U ⊎ IsIn t.number done
    closed : (m : ℕ) → IsIn m done → (t : ElementToken) × (q : simple.Pattern) × (token_of f m ≡ Some t) × Means f.files t.scope t.content q × ((n : ℕ) → HasRef n q → IsIn n done ⊎ IsIn n todo)
    start : (n : ℕ) → HasRef n first → IsIn n done ⊎ IsIn n todo

  record Closure : Type 0 where
    kept : List ℕ
    reached : (m : ℕ) → IsIn m kept → IsReached f m
    closed : (m : ℕ) → IsIn m kept → StaysIn f kept m
    start : (n : ℕ) → HasRef n first → IsIn n kept

  no_more : (n : ℕ) (done : List ℕ) → IsIn n done ⊎ IsIn n [] → IsIn n done
  no_more n done (inl i) = i
  no_more n done (inr i) = absurd i

  move : (x m : ℕ) (done new rest : List ℕ) → IsIn x done ⊎ IsIn x (m ∷ rest) → IsIn x (m ∷ done) ⊎ IsIn x (new ++ rest)
  move x m done new rest (inl i) = inl (inr i)
  move x m done new rest (inr (inl e)) = inl (inl e)
  move x m done new rest (inr (inr i)) = inr (in_right x new rest i)

  forget : (x m : ℕ) (done rest : List ℕ) → IsIn m done → IsIn x done ⊎ IsIn x (m ∷ rest) → IsIn x done ⊎ IsIn x rest
  forget x m done rest d (inl i) = inl i
  forget x m done rest d (inr (inl e)) = inl (subst (λ y. IsIn y done) (sym e) d)
  forget x m done rest d (inr (inr i)) = inr i

  -- the first of the list is done already
  skip : (U : List ElementToken) (done : List ℕ) (m : ℕ) (rest : List ℕ) → IsIn m done → IsExplored U done (m ∷ rest) → IsExplored U done rest
  skip U done m rest d e = record {
    reached_done = e.reached_done;
    reached_todo = λ n i. e.reached_todo n (inr i);
    left = e.left;
    closed = λ n i. let c = e.closed n i in (c.0, c.1, c.2, c.3, (λ x h. forget x m done rest d (c.4 x h)));
    start = λ n h. forget n m done rest d (e.start n h);
  }

  grow : (U : List ElementToken) (done : List ℕ) (m : ℕ) (rest : List ℕ) (g : IsGood m) (i : IsIn g.token U) → IsExplored U done (m ∷ rest) → IsExplored (without g.token U i) (m ∷ done) (refs_of g.form.0 ++ rest)
  grow U done m rest g i e = record {
    reached_done = done_reached;
    reached_todo = λ n h. todo_reached n (in_append n (refs_of g.form.0) rest h);
    left = λ t h. rest_left t (e.left t h);
    closed = all_closed;
    start = λ n h. move n m done (refs_of g.form.0) rest (e.start n h);
  }
    where
      r : IsReached f m
      r = e.reached_todo m (inl refl)

      done_reached : (n : ℕ) → IsIn n (m ∷ done) → IsReached f n
      done_reached n (inl k) = subst (IsReached f) (sym k) r
      done_reached n (inr k) = e.reached_done n k

      todo_reached : (n : ℕ) → IsIn n (refs_of g.form.0) ⊎ IsIn n rest → IsReached f n
      todo_reached n (inl k) = from_content r g.is g.form.1 (refs_from n g.form.0 k)
      todo_reached n (inr k) = e.reached_todo n (inr k)

      part_left : (t : ElementToken) → (t ≡ g.token) ⊎ IsIn t (without g.token U i) → IsIn t (without g.token U i) ⊎ IsIn t.number (m ∷ done)
      part_left t (inl k) = inr (inl (ap (λ x. x.number) k ∙ g.number))
      part_left t (inr k) = inl k

      rest_left : (t : ElementToken) → IsIn t U ⊎ IsIn t.number done → IsIn t (without g.token U i) ⊎ IsIn t.number (m ∷ done)
      rest_left t (inl k) = part_left t (or_there g.token t U i k)
      rest_left t (inr k) = inr (inr k)

      all_closed : (n : ℕ) → IsIn n (m ∷ done) → (t : ElementToken) × (q : simple.Pattern) × (token_of f n ≡ Some t) × Means f.files t.scope t.content q × ((x : ℕ) → HasRef x q → IsIn x (m ∷ done) ⊎ IsIn x (refs_of g.form.0 ++ rest))
      all_closed n (inl k) =
          (g.token, g.form.0, ap (token_of f) k ∙ g.is, g.form.1, (λ x h. inr (in_left x (refs_of g.form.0) rest (refs_to x g.form.0 h))))
      all_closed n (inr k) = let c = e.closed n k in (c.0, c.1, c.2, c.3, (λ x h. move x m done (refs_of g.form.0) rest (c.4 x h)))

  walk : (U : List ElementToken) → ((t : ElementToken) (i : IsIn t U) (todo done : List ℕ) → IsExplored (without t U i) done todo → Closure) → (todo done : List ℕ) → IsExplored U done todo → Closure
  walk U b [] done e = record {
    kept = done;
    reached = e.reached_done;
    closed = λ m i. let c = e.closed m i in (c.0, c.1, c.2, c.3, (λ n h. no_more n done (c.4 n h)));
    start = λ n h. no_more n done (e.start n h);
  }
  walk U b (m ∷ rest) done e =
      let g = good m (e.reached_todo m (inl refl)) in
      go g (e.left g.token g.known) (λ k. walk U b rest done k)
    where
      go : (g : IsGood m) → IsIn g.token U ⊎ IsIn g.token.number done → (IsExplored U done rest → Closure) → Closure
      go g (inl i) again = b g.token i (refs_of g.form.0 ++ rest) (m ∷ done) (grow U done m rest g i e)
      go g (inr d) again = again (skip U done m rest (subst (λ x. IsIn x done) g.number d) e)

  explore : (n : ℕ) (U : List ElementToken) → length U ≤ n → (todo done : List ℕ) → IsExplored U done todo → Closure
  explore zero U l = walk U (λ t i. absurd (let e = shorter t U i in omega arith))
  explore (suc n) U l = walk U (λ t i. explore n (without t U i) (let e = shorter t U i in omega arith))

  closure : Closure
  closure =
      explore (length (tokens f)) (tokens f) (omega arith) (refs_of first) []
      (record {
        reached_done = λ m i. absurd i;
        reached_todo = λ m i. from_start first_means (refs_from m first i);
        left = λ t i. inl i;
        closed = λ m i. absurd i;
        start = λ n h. inr (refs_to n first h);
      })

  each_stays : (kept ns : List ℕ) → ((m : ℕ) → IsIn m ns → StaysIn f kept m) → AllByRecursion (StaysIn f kept) ns
  each_stays kept [] h = tt
  each_stays kept (n ∷ ns) h = (h n (inl refl), each_stays kept ns (λ m i. h m (inr i)))

  definitions : (kept ns : List ℕ) → ((m : ℕ) → IsIn m ns → IsReached f m) → (es : List Definition) × AreDefinitions f kept ns es
  definitions kept [] h = ([], tt)
  definitions kept (n ∷ ns) h =
      let g = good n (h n (inl refl)) in
      let d = sound.formed (part g.token.scope (full.element g.token.class g.token.content n)) g.here in
      let r = definitions kept ns (λ m i. h m (inr i)) in (
        record { class = d.0; content = renumbered (new_number kept) g.form.0 } ∷ r.0,
        (record { token = g.token; is = g.is; class = d.1; content = (g.form.0, g.form.1, refl) }, r.1),
      )

  pub has_form : (g : Schema) × IsFormOf f g
  has_form =
      let c = closure in
      let kept = sorted c.kept in
      let all = definitions kept kept (λ m i. c.reached m (sorted_to m c.kept i)) in (
        record { start = renumbered (new_number kept) first; elements = all.0 },
        record {
          kept = kept;
          ascending = sorted_ascending c.kept;
          each = λ n. (
            (λ i. c.reached n (sorted_to n c.kept (is_in n kept i))),
            (λ r. contained n kept (sorted_from n c.kept (reached_in f c.kept first first_means c.start (each_stays c.kept c.kept c.closed) n r))),
          );
          start = (first, first_means, refl);
          elements = all.1;
        },
      )
