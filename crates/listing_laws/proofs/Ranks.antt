-- Greater lists of codes have a greater rank.
use Rattle.std.proofs.Common.{◌≡◌, ℕ, zero, suc, ◌+◌, ◌*◌, ◌<◌, ◌≤◌, ◌⊎◌, inl, inr, List, [], ◌∷◌, length, refl, sym, ◌∙◌, ap, subst, arith}
use Rattle.std.specs.List.{AllByRecursion}
use Rattle.std.specs.declared.cmp.Ordering.{Ordering}
use Rattle.std.specs.declared.cmp.Ordering.TheVariants.{Less, Equal, Greater}
use Rattle.std.specs.Ordering.{ordering_then, nat_cmp}
use Rattle.std.specs.Cmp.{nat_cmp_is}
use Rattle.std.proofs.Math.Nat.{mul-le-mul_left}
use Rattle.std.proofs.lemmas.Bool.{cases_order}
use Rattle.rng_model.specs.Universe.{Lists}
use Rattle.rng_model.specs.Codes.{Code, Opening, Attr, Body, Chars, Closing, IsInRange, code_cmp}
use Rattle.line_laws.proofs.OrderLaw.{opening_cmp, attr_cmp, chars_cmp}
use Rattle.table_laws.specs.Walking.{codes_cmp}
use Rattle.table_laws.proofs.Walk.{code_cmp-same}
use Rattle.listing_laws.specs.Ranks.{code_place, place_total, rank_total, rank}

is_less : (i j : ℕ) → nat_cmp i j ≡ Less → i < j
is_less i j h = go (cases_order i j)
  where
    go : (i ≡ j) ⊎ ((i < j) ⊎ (j < i)) → i < j
    go (inl e) = let clash : Equal ≡ Less = (nat_cmp_is i j Equal e) ∙ h in absurd (cc)
    go (inr (inl l)) = l
    go (inr (inr l)) = let clash : Greater ≡ Less = (nat_cmp_is i j Greater l) ∙ h in absurd (cc)

times : (a b c : ℕ) → b ≤ c → a * b ≤ a * c
times a b c h = mul-le-mul_left a h

module _ (u : Lists) where
  in_place : (c : Code) → IsInRange u c → code_place u c + 1 ≤ place_total u
  in_place Body h = omega arith
  in_place Closing h = omega arith
  in_place (Chars s) h = omega (arith, h)
  in_place (Attr j s) (h, k) = let m = times (length u.atoms) (j + 1) (length u.attributes) (omega (arith, h)) in omega (arith, m, k)
  in_place (Opening i) h = omega (arith, h)

  attributes_less : (i j s t : ℕ) → s < length u.atoms → (i < j) ⊎ ((i ≡ j) × (s < t)) → code_place u (Attr i s) < code_place u (Attr j t)
  attributes_less i j s t h (inl l) = let m = times (length u.atoms) (i + 1) (j) (omega (arith, l)) in omega (arith, m, h)
  attributes_less i j s t h (inr (e, l)) = subst (λ k. code_place u (Attr i s) < code_place u (Attr k t)) e (omega (arith, l))

  by_name : (i j s t : ℕ) → ordering_then (nat_cmp i j) (nat_cmp s t) ≡ Less → (i < j) ⊎ ((i ≡ j) × (s < t))
  by_name i j s t h = go (cases_order i j)
    where
      go : (i ≡ j) ⊎ ((i < j) ⊎ (j < i)) → (i < j) ⊎ ((i ≡ j) × (s < t))
      go (inl e) = inr (e, is_less s t (ap (λ o. ordering_then o (nat_cmp s t)) ((nat_cmp_is i j Equal e)) ∙ h))
      go (inr (inl l)) = inl l
      go (inr (inr l)) =
          let clash : Greater ≡ Less = ap (λ o. ordering_then o (nat_cmp s t)) ((nat_cmp_is i j Greater l)) ∙ h in absurd (cc)

  -- a name's place, and that of a text
  below_attributes : (j : ℕ) → j < length u.attributes → length u.atoms * j + length u.atoms ≤ length u.atoms * length u.attributes
  below_attributes j h = let m = times (length u.atoms) (j + 1) (length u.attributes) (omega (arith, h)) in omega (arith, m)

  place_less : (c d : Code) → IsInRange u c → IsInRange u d → code_cmp c d ≡ Less → code_place u c < code_place u d
  place_less Body Body h k e = let clash : Equal ≡ Less = e in absurd (cc)
  place_less Body Closing h k e = omega arith
  place_less Body (Chars t) h k e = omega arith
  place_less Body (Attr j t) h k e = omega arith
  place_less Body (Opening j) h k e = omega arith
  place_less Closing Body h k e = let clash : Greater ≡ Less = e in absurd (cc)
  place_less Closing Closing h k e = let clash : Equal ≡ Less = e in absurd (cc)
  place_less Closing (Chars t) h k e = omega arith
  place_less Closing (Attr j t) h k e = omega arith
  place_less Closing (Opening j) h k e = omega arith
  place_less (Chars s) Body h k e = let clash : Greater ≡ Less = e in absurd (cc)
  place_less (Chars s) Closing h k e = let clash : Greater ≡ Less = e in absurd (cc)
  place_less (Chars s) (Chars t) h k e = let l = is_less s t (sym (chars_cmp s t) ∙ e) in omega (arith, l)
  place_less (Chars s) (Attr j t) h k e = omega (arith, h)
  place_less (Chars s) (Opening j) h k e = omega (arith, h)
  place_less (Attr i s) Body h k e = let clash : Greater ≡ Less = e in absurd (cc)
  place_less (Attr i s) Closing h k e = let clash : Greater ≡ Less = e in absurd (cc)
  place_less (Attr i s) (Chars t) h k e = let clash : Greater ≡ Less = e in absurd (cc)
  place_less (Attr i s) (Attr j t) h k e = attributes_less i j s t h.1 (by_name i j s t (sym (attr_cmp i j s t) ∙ e))
  place_less (Attr i s) (Opening j) h k e = let m = below_attributes i h.0 in let l = h.1 in omega (arith, m, l)
  place_less (Opening i) Body h k e = let clash : Greater ≡ Less = e in absurd (cc)
  place_less (Opening i) Closing h k e = let clash : Greater ≡ Less = e in absurd (cc)
  place_less (Opening i) (Chars t) h k e = let clash : Greater ≡ Less = e in absurd (cc)
  place_less (Opening i) (Attr j t) h k e = let clash : Greater ≡ Less = e in absurd (cc)
  place_less (Opening i) (Opening j) h k e = let l = is_less i j (sym (opening_cmp i j) ∙ e) in omega (arith, l)

  some_total : (k : ℕ) → 1 ≤ rank_total u k
  some_total zero = omega arith
  some_total (suc k) = let m = times (rank_total u k) (1) (place_total u) (omega arith) in let l = some_total k in omega (arith, m, l)

  pub rank_small : (k : ℕ) (cs : List Code) → AllByRecursion (IsInRange u) cs → length cs ≤ k → rank u k cs < rank_total u k
  rank_small zero cs h l = omega arith
  rank_small (suc k) [] h l = some_total (suc k)
  rank_small (suc k) (c ∷ cs) h l =
      let r = rank_small k cs h.1 (omega (arith, l)) in
      let m = times (rank_total u k) (code_place u c + 1) (place_total u) (in_place c h.0) in
      omega (arith, r, m)

  some_place : (c : Code) → 1 ≤ code_place u c
  some_place Body = omega arith
  some_place Closing = omega arith
  some_place (Chars s) = omega arith
  some_place (Attr j s) = omega arith
  some_place (Opening i) = omega arith

  pub rank_less : (k : ℕ) (cs ds : List Code) → AllByRecursion (IsInRange u) cs → AllByRecursion (IsInRange u) ds → length cs ≤ k → length ds ≤ k →
      codes_cmp cs ds ≡ Less → rank u k cs < rank u k ds
  rank_less k [] [] h i l m e = let clash : Equal ≡ Less = e in absurd (cc)
  rank_less k (c ∷ cs) [] h i l m e = let clash : Greater ≡ Less = e in absurd (cc)
  rank_less zero [] (d ∷ ds) h i l m e = absurd (omega (arith, m))
  rank_less zero (c ∷ cs) (d ∷ ds) h i l m e = absurd (omega (arith, m))
  rank_less (suc k) [] (d ∷ ds) h i l m e =
      let t = some_total k in
      let p = times (rank_total u k) (1) (code_place u d) (some_place d) in
      omega (arith, t, p)
  rank_less (suc k) (c ∷ cs) (d ∷ ds) h i l m e =
      go (code_cmp c d) refl (rank_less k cs ds h.1 i.1 (omega (arith, l)) (omega (arith, m)))
    where
      go : (o : Ordering) → code_cmp c d ≡ o → (codes_cmp cs ds ≡ Less → rank u k cs < rank u k ds) → rank u (suc k) (c ∷ cs) < rank u (suc k) (d ∷ ds)
      go Less q again =
          let p = place_less c d h.0 i.0 q in
          let n = times (rank_total u k) (code_place u c + 1) (code_place u d) (omega (arith, p)) in
          let r = rank_small k cs h.1 (omega (arith, l)) in
          omega (arith, n, r)
      go Equal q again =
          let w = again (ap (λ o. ordering_then o (codes_cmp cs ds)) (sym q) ∙ e) in
          subst (λ x. rank u (suc k) (c ∷ cs) < rank_total u k * code_place u x + rank u k ds) (code_cmp-same c d q) (omega (arith, w))
      go Greater q again = let clash : Greater ≡ Less = ap (λ o. ordering_then o (codes_cmp cs ds)) (sym q) ∙ e in absurd (cc)
