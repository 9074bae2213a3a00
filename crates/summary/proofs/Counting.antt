-- One skeleton more, and the totals.
use Rattle.std.specs.Prelude.{Some, None, Option, unwrap_or, cond, Bool, true, false, ◌==◌, ◌%◌, ◌^◌, sum_by, sum, set, replicate}
use Rattle.std.proofs.Common.{◌≡◌, ℕ, zero, suc, ◌+◌, ◌<◌, List, [], ◌∷◌, ◌++◌, length, get_or, append-nil, length-append, refl, ap, sym, ◌∙◌, arith}
use Rattle.std.proofs.lemmas.List.Sums.{sum_by-append}
use Rattle.std.proofs.lemmas.List.{get_or-set_other, get_or-replicate, length-replicate, length-set}
use Rattle.std.proofs.lemmas.Grind.{flat_map-append, get_or-set_at}
use Rattle.std.proofs.Math.Nat.{add-mod-mod, mod-add-mod}
use Rattle.rng_model.specs.Hedges.{Skeleton, size}
use Rattle.rng_model.specs.Lines.{skeleton_text}
use Rattle.event_lines.specs.declared.counted.Measure.{Measure}
use Rattle.event_lines.specs.Coded.{IsMeasure}
use Rattle.summary.specs.Summary.{texts, count_of_size}
use Rattle.summary.specs.Totals.{Totals, kept_count, IsTallyOf}

pub kept_none : kept_count 0 ≡ None
unfolding kept_count
kept_none = refl

pub kept_some : (n : ℕ) → 0 < n → kept_count n ≡ Some (n % 2 ^ 64)
unfolding kept_count
kept_some n h = grind arith

kept_next : (n : ℕ) → Some ((unwrap_or (kept_count n) 0 + 1) % 2 ^ 64) ≡ kept_count (n + 1)
kept_next zero = ap (λ z. Some ((unwrap_or z 0 + 1) % 2 ^ 64)) kept_none ∙ sym (kept_some 1 (omega arith))
kept_next (suc n) =
    ap (λ z. Some ((unwrap_or z 0 + 1) % 2 ^ 64)) (kept_some (suc n) (omega arith))
    ∙ ap Some (mod-add-mod (suc n) (2 ^ 64) 1)
    ∙ sym (kept_some (suc n + 1) (omega arith))

count_next : (queue : List Skeleton) (s : Skeleton) (m : ℕ) → count_of_size (queue ++ s ∷ []) m ≡ count_of_size queue m + cond (size s == m) 1 0
count_next queue s m =
    let last : sum_by (λ x. cond (size x == m) 1 0) (s ∷ []) ≡ cond (size s == m) 1 0 = omega arith in
    sum_by-append (λ x. cond (size x == m) 1 0) queue (s ∷ []) ∙ ap (λ z. count_of_size queue m + z) last

texts_next : (queue : List Skeleton) (s : Skeleton) → texts (queue ++ s ∷ []) ≡ texts queue ++ skeleton_text s
texts_next queue s = flat_map-append skeleton_text queue (s ∷ []) ∙ ap (λ z. texts queue ++ z) (append-nil (skeleton_text s))

wrapped : (old added old_sum more n : ℕ) → old ≡ old_sum % n → added ≡ more % n → (old + added) % n ≡ (old_sum + more) % n
wrapped old added a b n e f =
    ap (λ z. (z + added) % n) e ∙ mod-add-mod a n added ∙ ap (λ z. (a + z) % n) f ∙ add-mod-mod a b n

pub none_counted : (t : Totals) → t.counts ≡ replicate 64 None → t.bytes ≡ 0 → t.sum ≡ 0 → IsTallyOf t []
none_counted t counts bytes sum_is = record {
  sizes = ap length counts ∙ length-replicate {A = Option ℕ} 64 None;
  counts = λ i h. ap (λ z. get_or z i None) counts ∙ get_or-replicate 64 i None None h ∙ sym kept_none;
  bytes = bytes;
  sum = sum_is;
}

same_size : (old : List (Option ℕ)) (new : List (Option ℕ)) (place i : ℕ) (queue : List Skeleton) (s : Skeleton) → place < length old →
    new ≡ set old place (Some ((unwrap_or (get_or old place None) 0 + 1) % 2 ^ 64)) → size s ≡ place + 1 → i ≡ place →
    get_or old i None ≡ kept_count (count_of_size queue (i + 1)) → get_or new i None ≡ kept_count (count_of_size (queue ++ s ∷ []) (i + 1))
same_size old new place i queue s fits is size_is here before =
    let e = count_next queue s (i + 1) in
    let one : cond (size s == i + 1) 1 0 ≡ 1 = grind arith in
    ap (λ z. get_or z i None) is
    ∙ get_or-set_at old place i (Some ((unwrap_or (get_or old place None) 0 + 1) % 2 ^ 64)) None here fits
    ∙ ap (λ z. Some ((unwrap_or z 0 + 1) % 2 ^ 64)) (ap (λ z. get_or old z None) (sym here) ∙ before)
    ∙ kept_next (count_of_size queue (i + 1))
    ∙ ap kept_count (ap (λ z. count_of_size queue (i + 1) + z) (sym one) ∙ sym e)

nothing_more : (n : ℕ) → n + 0 ≡ n
nothing_more n = omega arith

other_size : (old : List (Option ℕ)) (new : List (Option ℕ)) (place i : ℕ) (queue : List Skeleton) (s : Skeleton) → (i ≡ place → ⊥) → (x : Option ℕ) →
    new ≡ set old place x → size s ≡ place + 1 →
    get_or old i None ≡ kept_count (count_of_size queue (i + 1)) → get_or new i None ≡ kept_count (count_of_size (queue ++ s ∷ []) (i + 1))
other_size old new place i queue s there x is size_is before =
    let e = count_next queue s (i + 1) in
    let none : cond (size s == i + 1) 1 0 ≡ 0 = grind arith in
    ap (λ z. get_or z i None) is ∙ get_or-set_other old place i x None there ∙ before
    ∙ ap kept_count (sym (e ∙ ap (λ z. count_of_size queue (i + 1) + z) none ∙ nothing_more (count_of_size queue (i + 1))))

each_size : (old : List (Option ℕ)) (new : List (Option ℕ)) (place i : ℕ) (queue : List Skeleton) (s : Skeleton) → place < length old →
    new ≡ set old place (Some ((unwrap_or (get_or old place None) 0 + 1) % 2 ^ 64)) → size s ≡ place + 1 →
    get_or old i None ≡ kept_count (count_of_size queue (i + 1)) → (b : Bool) → (i == place) ≡ b →
    get_or new i None ≡ kept_count (count_of_size (queue ++ s ∷ []) (i + 1))
each_size old new place i queue s fits is size_is before true h = same_size old new place i queue s fits is size_is (grind arith) before
each_size old new place i queue s fits is size_is before false h =
    other_size old new place i queue s (λ e. absurd (grind arith)) _ is size_is before

pub one_more : (old new : Totals) (place : ℕ) (m : Measure) (queue : List Skeleton) (s : Skeleton) → place < 64 →
    new.counts ≡ set old.counts place (Some ((unwrap_or (get_or old.counts place None) 0 + 1) % 2 ^ 64)) →
    new.bytes ≡ (old.bytes + m.bytes) % 2 ^ 64 → new.sum ≡ (old.sum + m.sum) % 2 ^ 32 → size s ≡ place + 1 → IsMeasure m (skeleton_text s) →
    IsTallyOf old queue → IsTallyOf new (queue ++ s ∷ [])
one_more old new place m queue s fits counts bytes sum_is size_is measure tally =
    let within : place < length old.counts = omega (arith, tally.sizes) in
    record {
      sizes = ap length counts ∙ length-set old.counts place _ ∙ tally.sizes;
      counts = λ i h. each_size old.counts new.counts place i queue s within counts size_is (tally.counts i h) (i == place) refl;
      bytes = bytes ∙ wrapped old.bytes m.bytes (length (texts queue)) (length (skeleton_text s)) (2 ^ 64) tally.bytes measure.bytes
          ∙ ap (λ z. z % 2 ^ 64) (sym (length-append (texts queue) (skeleton_text s)) ∙ ap length (sym (texts_next queue s)));
      sum = sum_is ∙ wrapped old.sum m.sum (sum (texts queue)) (sum (skeleton_text s)) (2 ^ 32) tally.sum measure.sum
          ∙ ap (λ z. z % 2 ^ 32) (sym (sum_by-append (λ x. x) (texts queue) (skeleton_text s)) ∙ ap sum (sym (texts_next queue s)));
    }
