-- Lists of marks stay as lists get longer.
use Rattle.std.proofs.Common.{◌≡◌, ℕ, zero, suc, ◌+◌, ◌<◌, ◌≤◌, ◌⊎◌, inl, inr, Bool, Some, List, [], ◌∷◌, ◌++◌, length, set, slice_get, ◌∙◌, subst, arith}
use Rattle.std.proofs.lemmas.Option.{slice_get_within}
use Rattle.transitions.specs.Marked.{HasMarks, KeepsMarks, Stay}
use Rattle.transitions.proofs.Lists.{get_of, length-set_same, slice_get-other, slice_get-same, slice_get-set}

pub stay_set : (old marks : List (List Bool)) (rest : ℕ) (list : List Bool) → Stay rest old marks → Stay rest old (set marks rest list)
stay_set old marks rest list s = record {
  longer = (let n = length-set_same marks rest list in let l = s.longer in omega (arith, n, l));
  same = λ k l. slice_get-other marks rest k list l ∙ s.same k l;
}

pub has_set : (marks : List (List Bool)) (rest n : ℕ) (list : List Bool) → rest < length marks → n ≤ length list → HasMarks (set marks rest list) rest n
has_set marks rest n list l m = (list, slice_get-same marks rest list l, m)

pub keeps_marks : (marks : List (List Bool)) → KeepsMarks marks marks
keeps_marks marks = record { kept = λ rest n h. h }

pub keeps_then : (a b c : List (List Bool)) → KeepsMarks a b → KeepsMarks b c → KeepsMarks a c
keeps_then a b c x y = record { kept = λ rest n h. y.kept rest n (x.kept rest n h) }

-- a list more
get_push : (xs : List (List Bool)) (x y : List Bool) (i : ℕ) → slice_get xs i ≡ Some y → slice_get (xs ++ x ∷ []) i ≡ Some y
get_push [] x y i h = absurd (cc)
get_push (z ∷ xs) x y zero h = h
get_push (z ∷ xs) x y (suc i) h = get_push xs x y i h

pub keeps_push : (xs : List (List Bool)) (x : List Bool) → KeepsMarks xs (xs ++ x ∷ [])
keeps_push xs x = record { kept = λ rest n h. (h.0, get_push xs x h.0 rest h.1, h.2) }

-- a list that gets longer
pub keeps_set : (old marks : List (List Bool)) (rest : ℕ) (list : List Bool) → KeepsMarks old marks → ((other : List Bool) → slice_get marks rest ≡ Some other → length other ≤ length list) →
    KeepsMarks old (set marks rest list)
keeps_set old marks rest list k longer = record { kept = λ r n h. here r n (k.kept r n h) }
  where
    here : (r n : ℕ) → HasMarks marks r n → HasMarks (set marks rest list) r n
    here r n h =
        let w = slice_get_within marks r h.0 h.1 in
        let l = length-set_same marks rest list in
        let y = get_of (set marks rest list) r (omega (arith, w, l)) in
        (y.0, y.1, go y.0 (slice_get-set marks rest r list y.0 y.1))
      where
        go : (y : List Bool) → (slice_get marks r ≡ Some y) ⊎ ((r ≡ rest) × (list ≡ y)) → n ≤ length y
        go y (inl e) = let p : h.0 ≡ y = cc in subst (λ (zs : List Bool). n ≤ length zs) p h.2
        go y (inr e) =
            let l = longer h.0 (subst (λ j. slice_get marks j ≡ Some h.0) e.0 h.1) in
            let m = h.2 in
            subst (λ (zs : List Bool). n ≤ length zs) e.1 (omega (arith, l, m))
