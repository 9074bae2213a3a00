-- Rows by where each ends, as one is read, added or taken back.
use Rattle.std.proofs.Common.{◌≡◌, ℕ, zero, suc, ◌+◌, ◌-◌, ◌<◌, ◌≤◌, List, [], ◌∷◌, ◌++◌, Some, length, take, drop, slice_get, slice_index_or, refl, sym, ◌∙◌, ap, arith, length-append, length-drop}
use Rattle.std.proofs.lemmas.List.{drop-append-le, drop-take, take-append-le, take-take, take_all, length-take-le}
use Rattle.std.proofs.Math.Seq.{drop-append_seam}
use Rattle.transitions.specs.declared.arc.Arc.{Arc}
use Rattle.transitions.specs.RowLists.{AreEnds, arcs_in, rows_from, start_at}

pub length_rows : (arcs : List Arc) (start : ℕ) (ends : List ℕ) → length (rows_from arcs start ends) ≡ length ends
length_rows arcs start [] = refl
length_rows arcs start (end ∷ ends) = ap suc (length_rows arcs end ends)

-- a number of a row has an end
pub below_ends : (arcs : List Arc) (start : ℕ) (ends : List ℕ) (id : ℕ) (rows : List (List Arc)) → rows_from arcs start ends ≡ rows → id < length rows → id < length ends
below_ends arcs start ends id rows view l =
    let same = length_rows arcs start ends in let whole = ap (λ (xs : List (List Arc)). length xs) view in omega (arith, same, whole, l)

-- the start is within the arcs, as each end is
pub start_within : (arcs : List Arc) (start : ℕ) (ends : List ℕ) → AreEnds arcs start ends → start ≤ length arcs
start_within arcs start [] h = omega (arith, h)
start_within arcs start (end ∷ ends) h = let a = h.0 in let b = start_within arcs end ends h.1 in omega (arith, a, b)

pub end_within : (arcs : List Arc) (start : ℕ) (ends : List ℕ) (id : ℕ) → AreEnds arcs start ends → id < length ends → slice_index_or ends id 0 ≤ length arcs
end_within arcs start [] id h l = absurd (omega (arith, l))
end_within arcs start (end ∷ ends) zero h l = start_within arcs end ends h.1
end_within arcs start (end ∷ ends) (suc id) h l = end_within arcs end ends id h.1 (omega (arith, l))

-- a row begins before it ends
pub in_turn : (arcs : List Arc) (start : ℕ) (ends : List ℕ) (id : ℕ) → AreEnds arcs start ends → id < length ends → start_at start ends id ≤ slice_index_or ends id 0
in_turn arcs start [] id h l = absurd (omega (arith, l))
in_turn arcs start (end ∷ ends) zero h l = h.0
in_turn arcs start (end ∷ ends) (suc id) h l = in_turn arcs end ends id h.1 (omega (arith, l))

-- a row begins at the end of the one before
pub starts_behind : (start : ℕ) (ends : List ℕ) (id : ℕ) → id < length ends → start_at start ends (suc id) ≡ slice_index_or ends id 0
starts_behind start [] id l = absurd (omega (arith, l))
starts_behind start (end ∷ ends) zero l = refl
starts_behind start (end ∷ ends) (suc id) l = starts_behind end ends id (omega (arith, l))

pub row_is : (arcs : List Arc) (start : ℕ) (ends : List ℕ) (id : ℕ) → id < length ends →
    slice_get (rows_from arcs start ends) id ≡ Some (arcs_in arcs (start_at start ends id) (slice_index_or ends id 0))
row_is arcs start [] id l = absurd (omega (arith, l))
row_is arcs start (end ∷ ends) zero l = refl
row_is arcs start (end ∷ ends) (suc id) l = row_is arcs end ends id (omega (arith, l))

-- arcs are added behind a row, which stays
kept : (arcs more : List Arc) (start end : ℕ) → start ≤ end → end ≤ length arcs → arcs_in (arcs ++ more) start end ≡ arcs_in arcs start end
kept arcs more start end turn within =
    ap (take (end - start)) (drop-append-le start arcs more (omega (arith, turn, within)))
    ∙ take-append-le (end - start) (drop start arcs) more (omega (arith, turn, within, length-drop {A = Arc}))

added : (arcs more : List Arc) → arcs_in (arcs ++ more) (length arcs) (length (arcs ++ more)) ≡ more
added arcs more =
    ap (take (length (arcs ++ more) - length arcs)) (drop-append_seam arcs more)
    ∙ take_all (length (arcs ++ more) - length arcs) more (omega (arith, length-append {A = Arc}))

pub rows_pushed : (arcs more : List Arc) (start : ℕ) (ends : List ℕ) → AreEnds arcs start ends →
    rows_from (arcs ++ more) start (ends ++ length (arcs ++ more) ∷ []) ≡ rows_from arcs start ends ++ more ∷ []
rows_pushed arcs more start [] h = ap (λ s. arcs_in (arcs ++ more) s (length (arcs ++ more)) ∷ []) h ∙ ap (λ row. row ∷ []) (added arcs more)
rows_pushed arcs more start (end ∷ ends) h =
    ap (λ row. row ∷ rows_from (arcs ++ more) end (ends ++ length (arcs ++ more) ∷ [])) (kept arcs more start end h.0 (start_within arcs end ends h.1))
    ∙ ap (λ rows. arcs_in arcs start end ∷ rows) (rows_pushed arcs more end ends h.1)

pub ends_pushed : (arcs more : List Arc) (start : ℕ) (ends : List ℕ) → AreEnds arcs start ends → AreEnds (arcs ++ more) start (ends ++ length (arcs ++ more) ∷ [])
ends_pushed arcs more start [] h = (omega (arith, h, length-append {A = Arc}), refl)
ends_pushed arcs more start (end ∷ ends) h = (h.0, ends_pushed arcs more end ends h.1)

-- where the first rows end
abbrev pub end_of_first : ℕ → ℕ → List ℕ → ℕ
end_of_first count start ends = start_at start (take count ends) (length (take count ends))

first_within : (arcs : List Arc) (start : ℕ) (ends : List ℕ) (count : ℕ) → AreEnds arcs start ends → start ≤ end_of_first count start ends
first_within arcs start ends zero h = omega arith
first_within arcs start [] (suc count) h = omega arith
first_within arcs start (end ∷ ends) (suc count) h = let a = h.0 in let b = first_within arcs end ends count h.1 in omega (arith, a, b)

-- arcs are taken back behind a row, which stays
stays : (arcs : List Arc) (start end bound : ℕ) → start ≤ end → end ≤ bound → arcs_in (take bound arcs) start end ≡ arcs_in arcs start end
stays arcs start end bound turn within =
    let split : bound ≡ start + (bound - start) = omega (arith, turn, within) in
    ap (λ n. take (end - start) (drop start (take n arcs))) split
    ∙ ap (take (end - start)) (drop-take start (bound - start) arcs)
    ∙ take-take (end - start) (bound - start) (drop start arcs) (omega (arith, turn, within))

cut_here : (arcs : List Arc) (start : ℕ) → start ≤ length arcs → start ≡ length (take start arcs)
cut_here arcs start l = sym (length-take-le start arcs l)

pub ends_cut : (arcs : List Arc) (start : ℕ) (ends : List ℕ) (count : ℕ) → AreEnds arcs start ends → AreEnds (take (end_of_first count start ends) arcs) start (take count ends)
ends_cut arcs start ends zero h = cut_here arcs start (start_within arcs start ends h)
ends_cut arcs start [] (suc count) h = cut_here arcs start (start_within arcs start [] h)
ends_cut arcs start (end ∷ ends) (suc count) h = (h.0, ends_cut arcs end ends count h.1)

pub rows_cut : (arcs : List Arc) (start : ℕ) (ends : List ℕ) (count : ℕ) → AreEnds arcs start ends →
    rows_from (take (end_of_first count start ends) arcs) start (take count ends) ≡ take count (rows_from arcs start ends)
rows_cut arcs start ends zero h = refl
rows_cut arcs start [] (suc count) h = refl
rows_cut arcs start (end ∷ ends) (suc count) h =
    ap (λ row. row ∷ rows_from (take (end_of_first count end ends) arcs) end (take count ends))
    (stays arcs start end (end_of_first count end ends) h.0 (first_within arcs end ends count h.1))
    ∙ ap (λ rows. arcs_in arcs start end ∷ rows) (rows_cut arcs end ends count h.1)
