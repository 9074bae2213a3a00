-- A walk by the least code that goes on, and the step back to the deepest place with a greater one.
use Rattle.std.proofs.Common.{◌≡◌, ◌≢◌, List, [], ◌∷◌, ◌++◌, refl, sym, ◌∙◌, ap, subst, append_assoc, append-nil}
use Rattle.std.specs.declared.cmp.Ordering.{Ordering}
use Rattle.std.specs.declared.cmp.Ordering.TheVariants.{Less, Equal, Greater}
use Rattle.std.specs.Ordering.{ordering_then, ordering_reverse}
use Rattle.std.specs.Cmp.{IsTotalOrder}
use Rattle.std.specs.Cmp.Lexicographic.{on_texts}
use Rattle.std.proofs.lemmas.Cmp.{tied_itself}
use Rattle.std.proofs.lemmas.Map.Lookups.{exact_bytes}
use Rattle.rng_model.specs.Codes.{Code, Opening, Attr, Body, Chars, Closing, code_key, code_cmp}
use Rattle.rng_model.proofs.Keys.{apart}
use Rattle.table_laws.specs.Walking.{codes_cmp, GoesOn, IsFirstCode, IsNextCode, IsLeastRest, NothingAbove, IsNextList}

pub code_order : IsTotalOrder code_cmp
code_order = on_texts code_key

code_key-same : (c d : Code) → code_key c ≡ code_key d → c ≡ d
code_key-same (Opening i) (Opening j) h = let e : i ≡ j = cc in ap Opening e
code_key-same (Opening i) d h = absurd (apart h refl)
code_key-same (Attr j s) (Attr k t) h = let e : j ≡ k = cc in let f : s ≡ t = cc in (λ i. Attr (e i) (f i))
code_key-same (Attr j s) d h = absurd (apart h refl)
code_key-same (Chars s) (Chars t) h = let e : s ≡ t = cc in ap Chars e
code_key-same (Chars s) d h = absurd (apart h refl)
code_key-same Body Body h = refl
code_key-same Body d h = absurd (apart h refl)
code_key-same Closing Closing h = refl
code_key-same Closing d h = absurd (apart h refl)

pub code_cmp-same : (c d : Code) → code_cmp c d ≡ Equal → c ≡ d
code_cmp-same c d h = code_key-same c d (exact_bytes (code_key c) (code_key d) h)

-- what the order of two codes is
data Ranked (c d : Code) : Type 0 where
  less : code_cmp c d ≡ Less → Ranked c d
  equal : c ≡ d → code_cmp c d ≡ Equal → Ranked c d
  greater : code_cmp c d ≡ Greater → code_cmp d c ≡ Less → Ranked c d

rank : (c d : Code) → Ranked c d
rank c d = go (code_cmp c d) refl
  where
    go : (o : Ordering) → code_cmp c d ≡ o → Ranked c d
    go Less e = less e
    go Equal e = equal (code_cmp-same c d e) e
    go Greater e = greater e (code_order.antisymm d c ∙ ap ordering_reverse e)

not_less : (o : Ordering) → o ≡ Greater → o ≢ Less
not_less o e f = let h : Greater ≡ Less = sym e ∙ f in absurd (cc)

not_less_equal : (o : Ordering) → o ≡ Equal → o ≢ Less
not_less_equal o e f = let h : Equal ≡ Less = sym e ∙ f in absurd (cc)

before : (c d : Code) (xs ys : List Code) → code_cmp c d ≡ Less → codes_cmp (c ∷ xs) (d ∷ ys) ≡ Less
before c d xs ys e = ap (λ o. ordering_then o (codes_cmp xs ys)) e

behind : (c d : Code) (xs ys : List Code) → code_cmp c d ≡ Greater → codes_cmp (c ∷ xs) (d ∷ ys) ≡ Greater
behind c d xs ys e = ap (λ o. ordering_then o (codes_cmp xs ys)) e

level : (c d : Code) (xs ys : List Code) → code_cmp c d ≡ Equal → codes_cmp (c ∷ xs) (d ∷ ys) ≡ codes_cmp xs ys
level c d xs ys e = ap (λ o. ordering_then o (codes_cmp xs ys)) e

same_front : (front xs ys : List Code) → codes_cmp (front ++ xs) (front ++ ys) ≡ codes_cmp xs ys
same_front [] xs ys = refl
same_front (c ∷ front) xs ys = level c c (front ++ xs) (front ++ ys) (tied_itself code_order c) ∙ same_front front xs ys

-- what stands above front and xs, and isn't below front and ys when it begins with front, isn't below them at all
above_front : (front xs ys other : List Code) → ((os : List Code) → other ≡ front ++ os → codes_cmp xs os ≡ Less → codes_cmp os ys ≢ Less) →
    codes_cmp (front ++ xs) other ≡ Less → codes_cmp other (front ++ ys) ≢ Less
above_front [] xs ys other f h = f other refl h
above_front (c ∷ front) xs ys [] f h = absurd (cc)
above_front (c ∷ front) xs ys (d ∷ other) f h = go (above_front front xs ys other) (rank c d)
  where
    go : (((os : List Code) → other ≡ front ++ os → codes_cmp xs os ≡ Less → codes_cmp os ys ≢ Less) → codes_cmp (front ++ xs) other ≡ Less → codes_cmp other (front ++ ys) ≢ Less) →
        Ranked c d → codes_cmp (d ∷ other) (c ∷ (front ++ ys)) ≢ Less
    go again (less e) = not_less _ (behind d c other (front ++ ys) (code_order.antisymm d c ∙ ap ordering_reverse e))
    go again (equal e q) =
        let t : code_cmp d c ≡ Equal = code_order.antisymm d c ∙ ap ordering_reverse q in
        let l : codes_cmp (front ++ xs) other ≡ Less = sym (level c d (front ++ xs) other q) ∙ h in
        let n = again (λ os p. f os (λ i. (sym e) i ∷ p i)) l in
        λ k. n (sym (level d c other (front ++ ys) t) ∙ k)
    go again (greater e q) = absurd (not_less _ (behind c d (front ++ xs) other e) h)

module _ (L : List Code → Type 0) where
  joined : (front : List Code) (c : Code) (rest : List Code) → L ((front ++ (c ∷ [])) ++ rest) → L (front ++ (c ∷ rest))
  joined front c rest h = subst L (append_assoc front (c ∷ []) rest) h

  parted : (front : List Code) (c : Code) (rest : List Code) → L (front ++ (c ∷ rest)) → L ((front ++ (c ∷ [])) ++ rest)
  parted front c rest h = subst L (sym (append_assoc front (c ∷ []) rest)) h

  pub greedy_end : (front : List Code) → L front → IsLeastRest L front []
  greedy_end front h = record { listed = subst L (sym (append-nil front)) h; least = λ other l. go other }
    where
      go : (other : List Code) → codes_cmp other [] ≢ Less
      go [] e = absurd (cc)
      go (c ∷ cs) e = absurd (cc)

  pub greedy_step : (front : List Code) (c : Code) (rest : List Code) → (L front → ⊥) → IsFirstCode L front c → IsLeastRest L (front ++ (c ∷ [])) rest → IsLeastRest L front (c ∷ rest)
  greedy_step front c rest whole first least = record { listed = joined front c rest least.listed; least = go }
    where
      at : (d : Code) (other : List Code) → L (front ++ (d ∷ other)) → Ranked d c → codes_cmp (d ∷ other) (c ∷ rest) ≢ Less
      at d other l (less e) = absurd (first.first d (record { rest = other; listed = l }) e)
      at d other l (equal e q) =
          let k : L (front ++ (c ∷ other)) = subst (λ x. L (front ++ (x ∷ other))) e l in
          let n = least.least other (parted front c other k) in
          λ h. n (sym (level d c other rest q) ∙ h)
      at d other l (greater e q) = not_less _ (behind d c other rest e)

      go : (other : List Code) → L (front ++ other) → codes_cmp other (c ∷ rest) ≢ Less
      go [] l = absurd (whole (subst L (append-nil front) l))
      go (d ∷ other) l = at d other l (rank d c)

  pub back_end : (codes : List Code) → ((other : List Code) → L (codes ++ other) → other ≡ []) → NothingAbove L codes []
  back_end codes alone other l e = let q = alone other l in not_less_equal (codes_cmp [] []) refl (subst (λ x. codes_cmp [] x ≡ Less) q e)

  pub back_step : (front : List Code) (c : Code) (rest : List Code) → NothingAbove L (front ++ (c ∷ [])) rest → ((d : Code) → GoesOn L front d → code_cmp c d ≢ Less) → NothingAbove L front (c ∷ rest)
  back_step front c rest nothing none [] l e = absurd (cc)
  back_step front c rest nothing none (d ∷ other) l e = go (rank c d)
    where
      go : Ranked c d → ⊥
      go (less q) = none d (record { rest = other; listed = l }) q
      go (equal q t) =
          let k : L (front ++ (c ∷ other)) = subst (λ x. L (front ++ (x ∷ other))) (sym q) l in
          nothing other (parted front c other k) (sym (level c d rest other t) ∙ e)
      go (greater q t) = not_less _ (behind c d rest other q) e

  pub back_found : (front : List Code) (b c : Code) (rest more : List Code) → NothingAbove L (front ++ (b ∷ [])) rest → IsNextCode L front b c → IsLeastRest L (front ++ (c ∷ [])) more →
      IsNextList L (front ++ (b ∷ rest)) (front ++ (c ∷ more))
  back_found front b c rest more nothing next least = record {
    listed = joined front c more least.listed;
    above = same_front front (b ∷ rest) (c ∷ more) ∙ before b c rest more next.above;
    first = λ other l h. above_front front (b ∷ rest) (c ∷ more) other (λ os p. at os (subst L p l)) h;
  }
    where
      over : (d : Code) (os : List Code) → L (front ++ (d ∷ os)) → code_cmp b d ≡ Less → Ranked d c → codes_cmp (d ∷ os) (c ∷ more) ≢ Less
      over d os l q (less e) = absurd (next.first d (record { rest = os; listed = l }) q e)
      over d os l q (equal e t) =
          let k : L (front ++ (c ∷ os)) = subst (λ x. L (front ++ (x ∷ os))) e l in
          let n = least.least os (parted front c os k) in
          λ h. n (sym (level d c os more t) ∙ h)
      over d os l q (greater e t) = not_less _ (behind d c os more e)

      after : (d : Code) (os : List Code) → L (front ++ (d ∷ os)) → codes_cmp (b ∷ rest) (d ∷ os) ≡ Less → Ranked b d → codes_cmp (d ∷ os) (c ∷ more) ≢ Less
      after d os l h (less q) = over d os l q (rank d c)
      after d os l h (equal q t) =
          let k : L (front ++ (b ∷ os)) = subst (λ x. L (front ++ (x ∷ os))) (sym q) l in
          absurd (nothing os (parted front b os k) (sym (level b d rest os t) ∙ h))
      after d os l h (greater q t) = absurd (not_less _ (behind b d rest os q) h)

      at : (os : List Code) → L (front ++ os) → codes_cmp (b ∷ rest) os ≡ Less → codes_cmp os (c ∷ more) ≢ Less
      at [] l h = absurd (cc)
      at (d ∷ os) l h = after d os l h (rank b d)
