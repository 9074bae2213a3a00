-- The lines of totals are the summary of what was counted.
use Rattle.std.specs.Prelude.{Some, None, cond, Bool, true, false, ◌%◌, ◌^◌, codes}
use Rattle.std.proofs.Common.{◌≡◌, ℕ, zero, suc, ◌+◌, ◌<◌, ◌≤◌, List, [], ◌++◌, length, flat_map, refl, ap, ◌∙◌, arith}
use Rattle.std.specs.List.{range_with_len}
use Rattle.rng_model.specs.Hedges.{Skeleton}
use Rattle.summary.specs.Summary.{texts, size_line, size_lines, size_text, number_line, summary}
use Rattle.summary.specs.Totals.{Totals, kept_count, IsTallyOf, count_line, place_line, place_lines, totals_text}

by_count : (b : Bool) (m n : ℕ) → count_line m (cond b None (Some n)) ≡ cond b [] (size_text m n)
by_count true m n = refl
by_count false m n = refl

line_of_place : (t : Totals) (queue : List Skeleton) (i : ℕ) → IsTallyOf t queue → i < 64 → place_line t.counts i ≡ size_line queue (i + 1)
unfolding place_line kept_count
line_of_place t queue i tally h = ap (count_line (i + 1)) (tally.counts i h) ∙ by_count _ _ _

-- lines that agree, of places and of the numbers behind them
same_lines : (f g : ℕ → List ℕ) (a n : ℕ) → ((i : ℕ) → a ≤ i → i < a + n → f i ≡ g (i + 1)) → flat_map f (range_with_len a n) ≡ flat_map g (range_with_len (a + 1) n)
same_lines f g a zero same = refl
same_lines f g a (suc n) same =
    ap (λ z. z ++ flat_map f (range_with_len (a + 1) n)) (same a (omega arith) (omega arith))
    ∙ ap (λ z. g (a + 1) ++ z) (same_lines f g (a + 1) n (λ i low high. same i (omega arith) (omega arith)))

sizes_are : (t : Totals) (queue : List Skeleton) → IsTallyOf t queue → place_lines t.counts 64 ≡ size_lines queue
unfolding place_lines size_lines
sizes_are t queue tally = same_lines (place_line t.counts) (size_line queue) 0 64 (λ i low high. line_of_place t queue i tally high)

pub is_summary : (t : Totals) (queue : List Skeleton) → IsTallyOf t queue → totals_text t ≡ summary queue
unfolding totals_text summary
is_summary t queue tally =
    ap (λ z. z ++ number_line (codes "bytes ") t.bytes ++ number_line (codes "sum ") t.sum) (sizes_are t queue tally)
    ∙ ap (λ z. size_lines queue ++ number_line (codes "bytes ") z ++ number_line (codes "sum ") t.sum) tally.bytes
    ∙ ap (λ z. size_lines queue ++ number_line (codes "bytes ") (length (texts queue) % 2 ^ 64) ++ number_line (codes "sum ") z) tally.sum
