-- A schema keeps its start and definitions while its pool grows.
use Rattle.std.proofs.Common.{◌≡◌, ℕ, zero, suc, ◌<◌, ◌⊎◌, inl, inr, Some, List, [], ◌∷◌, ◌++◌, length, map, slice_get, refl, sym, subst, arith}
use Rattle.std.proofs.lemmas.List.{map-append}
use Rattle.name_classes.specs.declared.class.NameClass.{NameClass}
use Rattle.name_classes.specs.Views.{class_of}
use Rattle.pattern_intern.specs.declared.id.PatternId.{PatternId}
use Rattle.rng_model.specs.Patterns.{IsSimpleForm}
use Rattle.rng_model.specs.Patterns as pattern
use Rattle.pattern_intern.proofs.Growing.{slice_get-push}
use Rattle.pattern_intern.specs.Schemas.{Entry, AreBelow, HasRefsBelow, AreRefsBelow, AreWithin, IsSchema, definition_of, schema_of}
use Rattle.pattern_intern.specs.Stored.{Stored, stored, tree_at, Extends}

definitions_kept : (s t : Stored) → Extends s t → (xs : List Entry) → AreWithin s xs → map (definition_of t) xs ≡ map (definition_of s) xs
definitions_kept s t x [] w = refl
definitions_kept s t x (e ∷ xs) w =
    let h = x.kept e.1 (w.each 0 e refl) in
    let k = definitions_kept s t x xs (record { each = λ k y g. w.each (suc k) y g }) in
    (λ i. (record { class = e.0; content = h i }) ∷ k i)

module _ (s t : Stored) (start : ℕ) (xs : List Entry) (h : IsSchema s start xs) (x : Extends s t) where
  pub schema_kept : schema_of t start xs ≡ schema_of s start xs
  schema_kept = let e = x.kept start h.within in let f = definitions_kept s t x xs h.contents in (λ i. record { start = e i; elements = f i })

  pub still_schema : ((n : ℕ) → AreRefsBelow n s → AreRefsBelow n t) → IsSchema t start xs
  still_schema refs = record {
    within = let l = h.within in let m = x.longer in omega (arith, l, m);
    contents = record { each = λ k y g. let l = h.contents.each k y g in let m = x.longer in omega (arith, l, m) };
    form = subst (λ g. IsSimpleForm g) (sym schema_kept) h.form;
    refs = refs (length xs) h.refs;
  }

-- definitions are added
pub none_below : (n : ℕ) → AreBelow n []
none_below n = record { each = λ k x e. absurd (cc) }

pub one_more_below : (n : ℕ) (xs : List Entry) (x : Entry) → AreBelow n xs → x.1 < n → AreBelow n (xs ++ x ∷ [])
one_more_below n xs x h l = record { each = λ k y e. go y (slice_get-push xs x y k e) }
  where
    go : (y : Entry) → {k : ℕ} → (slice_get xs k ≡ Some y) ⊎ ((k ≡ length xs) × (x ≡ y)) → y.1 < n
    go y {k} (inl e) = h.each k y e
    go y (inr e) = subst (λ (z : Entry). z.1 < n) e.1 l

pub pushed_below : (old new : List (NameClass × PatternId)) (x : NameClass × PatternId) → new ≡ old ++ x ∷ [] → (n : ℕ) → AreBelow n (map (λ y. (class_of y.0, y.1.0)) old) → x.1.0 < n → AreBelow n (map (λ y. (class_of y.0, y.1.0)) new)
pushed_below old new x e n h l = rw (e, map-append {B = Entry} (λ (y : NameClass × PatternId). (class_of y.0, y.1.0)) old (x ∷ [])) (one_more_below n (map (λ y. (class_of y.0, y.1.0)) old) (class_of x.0, x.1.0) h l)

-- the first three patterns have no references
pub first_refs : (n : ℕ) → AreRefsBelow n (stored (pattern.not_allowed ∷ pattern.empty ∷ pattern.text ∷ []) [] [])
first_refs n = record { each = go }
  where
    go : (id : ℕ) → id < 3 → HasRefsBelow n (tree_at (stored (pattern.not_allowed ∷ pattern.empty ∷ pattern.text ∷ []) [] []) id)
    go zero l = tt
    go (suc zero) l = tt
    go (suc (suc zero)) l = tt
    go (suc (suc (suc k))) l = absurd (omega (arith, l))
