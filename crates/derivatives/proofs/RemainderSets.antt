-- Remainders by numbers: they stay as the pool grows, and as some are added; sets of them stay right.
use Rattle.std.proofs.Common.{◌≡◌, ◌+◌, ◌-◌, ◌<◌, ◌≤◌, Bool, true, false, cond, List, [], ◌∷◌, ◌++◌, Option, Some, None, is_some, All, Contains, length, take, drop, take_all, refl, sym, ◌∙◌, ap, subst, arith}
use Rattle.std.specs.Option.{option_map}
use Rattle.std.proofs.Math.Seq.{drop-append_seam}
use Rattle.std.proofs.lemmas.List.{drop-append-le, length-append, length-drop, take-append-le}
use Rattle.std.specs.Map.{lookup}
use Rattle.std.proofs.lemmas.List.Elements.{All-nil, All-cons, All-head, All-tail, All-weaker}
use Rattle.rng_model.specs.Patterns.{Schema}
use Rattle.table_laws.specs.Remainders as law
use Rattle.table_laws.specs.Remainders.{AreSame, remainders}
use Rattle.table_laws.proofs.SameRemainders.{contains_first, contains_none, same_refl, same_trans}
use Rattle.pattern_intern.specs.Gathered.{same_number}
use Rattle.pattern_intern.specs.Schemas.{Numbered}
use Rattle.pattern_intern.specs.Stored.{Extends, tree_at}
use Rattle.pattern_intern.specs.declared.id.PatternId.{PatternId}
use Rattle.derivatives.specs.Remainders.{AreInside, AreRemainders, AreSets, IsSetOf, IsWithin, KeptSets, between, remainder_of, remainders_of, set_of}
use Rattle.derivatives.specs.declared.remainder.Remainder.{Remainder}
use Rattle.derivatives.specs.declared.remainder_sets.Span.{Span}

within_later : (old new : Numbered) (x : Remainder) → IsWithin old x → Extends old.pool new.pool → new.schema ≡ old.schema → IsWithin new x
within_later old new x w e same =
    let l = e.longer in let b = w.1 in
    (subst (λ (g : Schema). x.definition < length g.elements) (sym same) w.0, omega (arith, b, l))

-- the same patterns as the pool grows
pub remainders_later : (old new : Numbered) (xs : List Remainder) → All (IsWithin old) xs → Extends old.pool new.pool → remainders_of new.pool xs ≡ remainders_of old.pool xs
remainders_later old new [] h e = refl
remainders_later old new (x ∷ xs) h e =
    let here = e.kept x.rest.0 (All-head (IsWithin old) x xs h).1 in
    let others = remainders_later old new xs (All-tail (IsWithin old) x xs h) e in
    λ i. (record { number = x.definition; rest = here i }) ∷ others i

pub remainders_extend : (old new : Numbered) (rs : List law.Remainder) (xs : List Remainder) → AreRemainders old rs xs → Extends old.pool new.pool →
    new.schema ≡ old.schema → AreRemainders new rs xs
remainders_extend old new rs xs h e same = record {
  within = All-weaker (IsWithin old) (IsWithin new) (λ x w. within_later old new x w e same) xs h.within;
  same = subst (λ ys. AreSame ys rs) (sym (remainders_later old new xs h.within e)) h.same;
}

-- in any order
pub remainders_same : (g : Numbered) (rs ss : List law.Remainder) (xs : List Remainder) → AreRemainders g rs xs → AreSame rs ss → AreRemainders g ss xs
remainders_same g rs ss xs h e = record { within = h.within; same = same_trans (remainders_of g.pool xs) rs ss h.same e }

pub no_remainders : (g : Numbered) (xs : List Remainder) → xs ≡ [] → AreRemainders g [] xs
no_remainders g xs e = subst (AreRemainders g []) (sym e) (record { within = All-nil (IsWithin g); same = same_refl [] })

pub one_remainder : (g : Numbered) (x : Remainder) → IsWithin g x → AreRemainders g (remainder_of g.pool x ∷ []) (x ∷ [])
one_remainder g x w = record { within = All-cons (IsWithin g) x [] w (All-nil (IsWithin g)); same = same_refl (remainder_of g.pool x ∷ []) }

set_later : (old new : Numbered) (id : PatternId) (xs : List Remainder) → IsSetOf old id xs → Extends old.pool new.pool → new.schema ≡ old.schema → IsSetOf new id xs
set_later old new id xs h e same =
    let n = h.number in let l = e.longer in
    record {
      number = omega (arith, n, l);
      pairs = subst (λ p. AreRemainders new (remainders p) xs) (sym (e.kept id.0 n)) (remainders_extend old new (remainders (tree_at old.pool id.0)) xs h.pairs e same);
    }

pub remainder_sets_extend : (old new : Numbered) (sets : KeptSets) → AreSets old sets → Extends old.pool new.pool → new.schema ≡ old.schema → AreSets new sets
remainder_sets_extend old new sets h e same = record { each = λ id xs g. set_later old new id xs (h.each id xs g) e same }

pub sets_put : (g : Numbered) (old new : KeptSets) (id : PatternId) (set : List Remainder) → AreSets g old →
    ((q : PatternId) → set_of new q ≡ cond (same_number id q) (Some set) (set_of old q)) → IsSetOf g id set → AreSets g new
sets_put g old new id set h put m = record { each = λ q x e. go q x (same_number id q) refl (sym (put q) ∙ e) }
  where
    go : (q : PatternId) (x : List Remainder) → (b : Bool) → same_number id q ≡ b → cond b (Some set) (set_of old q) ≡ Some x → IsSetOf g q x
    go q x true same e =
        let n : id.0 ≡ q.0 = grind arith in
        let i : id ≡ q = λ k. record { 0 = n k } in
        let o : set ≡ x = cc in
        subst (λ y. IsSetOf g q y) o (subst (λ y. IsSetOf g y set) i m)
    go q x false same e = h.each q x e

pub sets_same : (g : Numbered) (old new : KeptSets) → AreSets g old → ((q : PatternId) → set_of new q ≡ set_of old q) → AreSets g new
sets_same g old new h e = record { each = λ q x k. h.each q x (sym (e q) ∙ k) }

pub sets_none : (g : Numbered) (sets : KeptSets) → sets.spans ≡ [] → AreSets g sets
sets_none g sets e = record { each = λ q x k. absurd (none q x (ap (λ spans. option_map (between sets.whole) (lookup (same_number q) spans)) (sym e) ∙ k)) }
  where
    none : (q : PatternId) (x : List Remainder) → option_map (between sets.whole) (lookup (same_number q) []) ≡ Some x → ⊥
    none q x k = absurd (cc)

pub inside_none : (sets : KeptSets) → sets.spans ≡ [] → AreInside sets
inside_none sets e = record { each = λ q s k. absurd (none q s (ap (λ spans. lookup (same_number q) spans) (sym e) ∙ k)) }
  where
    none : (q : PatternId) (s : Span) → lookup (same_number q) [] ≡ Some s → ⊥
    none q s k = absurd (cc)

pub same_some : {X Y : Type 0} (f : X → Y) (o : Option X) → is_some o ≡ is_some (option_map f o)
same_some f None = refl
same_some f (Some x) = refl

-- what stands among the first stays
between_longer : (xs ys : List Remainder) (s : Span) → s.start ≤ s.end → s.end ≤ length xs → between (xs ++ ys) s ≡ between xs s
between_longer xs ys s a b =
    let l = length-drop s.start xs in
    ap (take (s.end - s.start)) (drop-append-le s.start xs ys (omega (arith, a, b)))
    ∙ take-append-le (s.end - s.start) (drop s.start xs) ys (omega (arith, a, b, l))

-- what was added stands behind them
between_end : (xs ys : List Remainder) (s : Span) → s.start ≡ length xs → s.end ≡ length xs + length ys → between (xs ++ ys) s ≡ ys
between_end xs ys s a b =
    (λ k. take (b k - a k) (drop (a k) (xs ++ ys)))
    ∙ ap (take (length xs + length ys - length xs)) (drop-append_seam xs ys)
    ∙ take_all (length xs + length ys - length xs) ys (omega arith)

-- a set is put behind the others
module _ (old new : KeptSets) (set : List Remainder) (inside : AreInside old) (whole : new.whole ≡ old.whole ++ set) where
  -- the others stay, where it isn't found
  pub sets_longer : new.spans ≡ old.spans → (q : PatternId) → set_of new q ≡ set_of old q
  sets_longer same q = ap (λ spans. option_map (between new.whole) (lookup (same_number q) spans)) same ∙ go (lookup (same_number q) old.spans) refl
    where
      go : (o : Option Span) → lookup (same_number q) old.spans ≡ o → option_map (between new.whole) o ≡ option_map (between old.whole) o
      go None e = refl
      go (Some t) e = let w = inside.each q t e in ap Some (ap (λ xs. between xs t) whole ∙ between_longer old.whole set t w.0 w.1)

  pub inside_longer : new.spans ≡ old.spans → AreInside new
  inside_longer same = record {
    each = λ q t e.
        let w = inside.each q t (ap (lookup (same_number q)) (sym same) ∙ e) in let l = ap length whole ∙ length-append old.whole set in let b = w.1 in
        (w.0, omega (arith, b, l));
  }

  module _ (id : PatternId) (s : Span) (start : s.start ≡ length old.whole) (end : s.end ≡ length old.whole + length set)
      (put : (q : PatternId) → lookup (same_number q) new.spans ≡ cond (same_number id q) (Some s) (lookup (same_number q) old.spans)) where
    pub set_put : (q : PatternId) → set_of new q ≡ cond (same_number id q) (Some set) (set_of old q)
    set_put q = ap (option_map (between new.whole)) (put q) ∙ go (same_number id q) (lookup (same_number q) old.spans) refl
      where
        go : (b : Bool) (o : Option Span) → lookup (same_number q) old.spans ≡ o →
            option_map (between new.whole) (cond b (Some s) o) ≡ cond b (Some set) (option_map (between old.whole) o)
        go true o e = ap Some (ap (λ xs. between xs s) whole ∙ between_end old.whole set s start end)
        go false None e = refl
        go false (Some t) e = let w = inside.each q t e in ap Some (ap (λ xs. between xs t) whole ∙ between_longer old.whole set t w.0 w.1)

    pub inside_put : AreInside new
    inside_put = record { each = λ q t e. go q t (same_number id q) (sym (put q) ∙ e) }
      where
        l : length new.whole ≡ length old.whole + length set
        l = ap length whole ∙ length-append old.whole set

        go : (q : PatternId) (t : Span) (b : Bool) → cond b (Some s) (lookup (same_number q) old.spans) ≡ Some t → (t.start ≤ t.end) × (t.end ≤ length new.whole)
        go q t true e =
            let i : s ≡ t = cc in
            subst (λ (u : Span). (u.start ≤ u.end) × (u.end ≤ length new.whole)) i (omega (arith, start, end), omega (arith, start, end, l))
        go q t false e = let w = inside.each q t e in let b = w.1 in (w.0, omega (arith, b, l))

-- nothing remains exactly where there is no number
pub none_remain : (g : Numbered) (id : PatternId) (xs : List Remainder) → IsSetOf g id xs → length xs ≡ 0 → remainders (tree_at g.pool id.0) ≡ []
none_remain g id [] set l = go (remainders (tree_at g.pool id.0)) set.pairs.same
  where
    go : (rs : List law.Remainder) → AreSame [] rs → rs ≡ []
    go [] h = refl
    go (r ∷ rs) h = absurd (contains_none r ((h r).1 (contains_first r rs)))
none_remain g id (x ∷ xs) set l = absurd (omega (arith, l))

pub no_numbers : (g : Numbered) (id : PatternId) (xs : List Remainder) → IsSetOf g id xs → remainders (tree_at g.pool id.0) ≡ [] → length xs ≡ 0
no_numbers g id [] set e = refl
no_numbers g id (x ∷ xs) set e =
    let r = remainder_of g.pool x in
    absurd (contains_none r (subst (λ rs. Contains rs r) e ((set.pairs.same r).0 (contains_first r (remainders_of g.pool xs)))))
