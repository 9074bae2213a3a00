-- Pieces that stay when bytes are added behind them.
use Rattle.std.specs.List.{All}
use Rattle.std.proofs.Common.{◌≡◌, ℕ, ◌-◌, List, [], ◌∷◌, ◌++◌, length, take, drop, map, refl, ap, ◌∙◌, arith, length-drop, length-append}
use Rattle.std.proofs.lemmas.List.{map-append, take-append-le, drop-append-le, take_all}
use Rattle.std.proofs.lemmas.List.Elements.{All-head, All-tail}
use Rattle.std.proofs.Math.Seq.{drop-append_seam}
use Rattle.event_lines.specs.PieceLists.{piece_at, IsRangeOf}

kept : (bs p : List ℕ) (r : ℕ × ℕ) → IsRangeOf bs r → piece_at (bs ++ p) r ≡ piece_at bs r
kept bs p r (ordered, within) =
    ap (take (r.1 - r.0)) (drop-append-le r.0 bs p (omega arith))
    ∙ take-append-le (r.1 - r.0) (drop r.0 bs) p (omega (arith, length-drop {A = ℕ}))

all_kept : (bs p : List ℕ) (rs : List (ℕ × ℕ)) → All (IsRangeOf bs) rs → map (piece_at (bs ++ p)) rs ≡ map (piece_at bs) rs
all_kept bs p [] within = refl
all_kept bs p (r ∷ rs) within =
    ap (λ x. x ∷ map (piece_at (bs ++ p)) rs) (kept bs p r (All-head (IsRangeOf bs) r rs within))
    ∙ ap (λ xs. piece_at bs r ∷ xs) (all_kept bs p rs (All-tail (IsRangeOf bs) r rs within))

added : (bs p : List ℕ) → piece_at (bs ++ p) (length bs, length (bs ++ p)) ≡ p
added bs p =
    ap (take (length (bs ++ p) - length bs)) (drop-append_seam bs p)
    ∙ take_all (length (bs ++ p) - length bs) p (omega (arith, length-append {A = ℕ}))

-- one piece more
pub one_more : (bs p now : List ℕ) (rs rs_now : List (ℕ × ℕ)) (a b : ℕ) → All (IsRangeOf bs) rs → now ≡ bs ++ p → rs_now ≡ rs ++ (a, b) ∷ [] →
    a ≡ length bs → b ≡ length now → map (piece_at now) rs_now ≡ map (piece_at bs) rs ++ p ∷ []
one_more bs p now rs rs_now a b within bytes ranges start end =
    rw (ranges, start, end, bytes)
    (map-append (piece_at (bs ++ p)) rs ((length bs, length (bs ++ p)) ∷ [])
    ∙ ap (λ xs. xs ++ piece_at (bs ++ p) (length bs, length (bs ++ p)) ∷ []) (all_kept bs p rs within)
    ∙ ap (λ x. map (piece_at bs) rs ++ x ∷ []) (added bs p))
