-- Results that are right stay right as the pool grows and as a result is added.
use Rattle.std.proofs.Common.{◌≡◌, ◌<◌, Bool, true, false, cond, List, [], Some, refl, sym, ◌∙◌, ap, subst, arith}
use Rattle.rng_model.specs.Patterns.{Pattern}
use Rattle.pattern_intern.specs.Gathered.{same_number}
use Rattle.pattern_intern.specs.Stored.{Stored, Extends, count, tree_at}
use Rattle.pattern_intern.specs.declared.id.PatternId.{PatternId}
use Rattle.derivatives.specs.Kept.{Kept, IsRight, AreRight, result_of}
use Rattle.derivatives.specs.Visits.{AreBare, is_noted}

pub none_right : (f : Pattern → Pattern) (s : Stored) (kept : Kept) → kept ≡ [] → AreRight f s kept
none_right f s kept e = record { each = λ id r g. absurd (none id r (subst (λ (k : Kept). result_of k id ≡ Some r) e g)) }
  where
    none : (id r : PatternId) → result_of [] id ≡ Some r → ⊥
    none id r g = absurd (cc)

right_later : (f : Pattern → Pattern) (old new : Stored) (id r : PatternId) → IsRight f old id r → Extends old new → IsRight f new id r
right_later f old new id r h e =
    let n = h.number in let w = h.within in let l = e.longer in
    record {
      number = omega (arith, n, l);
      within = omega (arith, w, l);
      tree = e.kept r.0 w ∙ h.tree ∙ ap f (sym (e.kept id.0 n));
    }

pub right_extends : (f : Pattern → Pattern) (old new : Stored) (kept : Kept) → AreRight f old kept → Extends old new → AreRight f new kept
right_extends f old new kept h e = record { each = λ id r g. right_later f old new id r (h.each id r g) e }

pub right_put : (f : Pattern → Pattern) (s : Stored) (old new : Kept) (id made : PatternId) → AreRight f s old →
    ((q : PatternId) → result_of new q ≡ cond (same_number id q) (Some made) (result_of old q)) → IsRight f s id made → AreRight f s new
right_put f s old new id made h put m = record { each = λ q r g. go q r (same_number id q) refl (sym (put q) ∙ g) }
  where
    go : (q r : PatternId) → (b : Bool) → same_number id q ≡ b → cond b (Some made) (result_of old q) ≡ Some r → IsRight f s q r
    go q r true same e =
        let n : id.0 ≡ q.0 = grind arith in
        let i : id ≡ q = λ k. record { 0 = n k } in
        let o : made ≡ r = cc in
        subst (λ x. IsRight f s q x) o (subst (λ x. IsRight f s x made) i m)
    go q r false same e = h.each q r e

pub none_bare : (test : Pattern → Bool) (s : Stored) (ids : List PatternId) → ids ≡ [] → AreBare test s ids
none_bare test s ids e = record { each = λ id m. absurd (none id (subst (λ xs. is_noted xs id ≡ true) e m)) }
  where
    none : (id : PatternId) → is_noted [] id ≡ true → ⊥
    none id m = absurd (cc)

-- numbers that were looked into in vain stay so
pub bare_extends : (test : Pattern → Bool) (old new : Stored) (ids : List PatternId) → AreBare test old ids → Extends old new → AreBare test new ids
bare_extends test old new ids h e = record { each = λ id m. later id (h.each id m) }
  where
    later : (id : PatternId) → (id.0 < count old) × (test (tree_at old id.0) ≡ false) → (id.0 < count new) × (test (tree_at new id.0) ≡ false)
    later id (n, t) = let l = e.longer in (omega (arith, n, l), ap test (e.kept id.0 n) ∙ t)
