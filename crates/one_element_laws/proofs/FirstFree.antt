-- The first of a stem's names that isn't taken: there is one at most, and one where a single name or none is taken.
use Rattle.std.proofs.Common.{◌≡◌, ℕ, zero, suc, ◌<◌, ◌≤◌, ◌⊎◌, ◌↔◌, inl, inr, [], ◌∷◌, ◌++◌, length, Bool, true, false, refl, sym, ◌∙◌, ap, arith, length-append}
use Rattle.std.specs.Fmt.{decimal}
use Rattle.std.specs.Str.{bytes_eq}
use Rattle.std.proofs.lemmas.Bool.{cases_lt, cases_order}
use Rattle.std.proofs.lemmas.Fmt.{decimal_digit}
use Rattle.std.proofs.lemmas.Slice.Eq.{bytes_eq-Decides}
use Rattle.rng_model.specs.Texts.{Text}
use Rattle.rng_model.specs.Fresh.{numbered, IsFirstFree, HasFree, IsAmongFree, past_taken, past_free}

module _ (taken : Text → Type 0) (stem : Text) where
  -- where none of the first k is free, each is taken
  each_taken : (k m : ℕ) → HasFree taken stem k m → m ≡ 0 → (i : ℕ) → i < k → taken (numbered stem i)
  each_taken zero m h e i l = absurd (omega arith)
  each_taken (suc k) m (past_taken h t) e i l = go (each_taken k m h e i) (cases_lt i k)
    where
      go : (i < k → taken (numbered stem i)) → (i < k) ⊎ (k ≤ i) → taken (numbered stem i)
      go rest (inl b) = rest b
      go rest (inr b) = let same : i ≡ k = omega arith in rw same t
  each_taken (suc k) (suc m) (past_free h t) e i l = absurd (omega arith)

  -- the one name that is among the first free ones is the first
  pub first-among : (x : Text) → IsAmongFree taken 1 stem x → IsFirstFree taken stem x
  first-among x f = record {
    number = f.number;
    is = f.is;
    free = f.free;
    first = each_taken f.number f.earlier f.before (let few = f.few in omega arith);
  }

  pub one_first : (x y : Text) → IsFirstFree taken stem x → IsFirstFree taken stem y → x ≡ y
  one_first x y f g = go (cases_order f.number g.number)
    where
      go : (f.number ≡ g.number) ⊎ ((f.number < g.number) ⊎ (g.number < f.number)) → x ≡ y
      go (inl e) = f.is ∙ ap (numbered stem) e ∙ sym g.is
      go (inr (inl b)) = absurd (f.free (rw f.is (g.first f.number b)))
      go (inr (inr b)) = absurd (g.free (rw g.is (f.first g.number b)))

  pub stem_first : (taken stem → ⊥) → IsFirstFree taken stem stem
  stem_first none = record { number = 0; is = refl; free = none; first = λ k l. absurd (omega arith) }

  longer : stem ++ decimal 1 ≡ stem → ⊥
  longer e =
      let one : stem ++ 49 ∷ [] ≡ stem = rw (decimal_digit 1 (omega arith)) at e in
      let more = sym (length-append stem (49 ∷ [])) ∙ ap length one in
      omega arith

  -- where t alone is taken
  pub free_beside : (t : Text) → ((x : Text) → taken x ↔ (x ≡ t)) → (x : Text) × IsFirstFree taken stem x
  free_beside t only = go (bytes_eq stem t) refl
    where
      go : (b : Bool) → bytes_eq stem t ≡ b → (x : Text) × IsFirstFree taken stem x
      go false e = (stem, stem_first (λ h. contrary (bytes_eq stem t) e ((bytes_eq-Decides stem t).1 ((only stem).0 h))))
        where
          contrary : (c : Bool) → c ≡ false → c ≡ true → ⊥
          contrary c p q = cc
      go true e =
          let same : stem ≡ t = (bytes_eq-Decides stem t).0 e in (
            stem ++ decimal 1,
            record {
              number = 1;
              is = refl;
              free = λ h. longer ((only (stem ++ decimal 1)).0 h ∙ sym same);
              first = λ k l. rw (zero_below k l) ((only stem).1 same);
            },
          )
        where
          zero_below : (k : ℕ) → k < 1 → k ≡ 0
          zero_below k l = omega arith
