-- Sets by number stay right as the pool grows and as a set is added, and tell what their patterns take.
use Rattle.std.proofs.Common.{◌≡◌, Bool, true, false, cond, Option, Some, None, refl, sym, ◌∙◌, ap, subst, arith}
use Rattle.std.specs.Prelude.{Result, Ok, Err, IfOk, IfSome, IfNone, is_some}
use Rattle.std.specs.Map.{lookup}
use Rattle.rng_model.specs.Texts.{Text}
use Rattle.rng_model.specs.Patterns.{empty}
use Rattle.rng_model.specs.Derivatives.{text_step, where_true}
use Rattle.pattern_intern.specs.Gathered.{same_number}
use Rattle.pattern_intern.specs.Stored.{Stored, tree_at}
use Rattle.pattern_intern.specs.declared.id.PatternId.{PatternId}
use Rattle.value_sets.specs.Taken.{is_whole, takes_of}
use Rattle.value_sets.specs.Numbers.{AreSets, IsSetOf, set_of}
use Rattle.value_sets.specs.declared.by_number.ValueSets.{ValueSets}
use Rattle.value_sets.specs.declared.value_set.ValueSet.{ValueSet}

pub sets_put : (s : Stored) (old new : ValueSets) (id : PatternId) (set : Option ValueSet) → AreSets s old →
    ((q : PatternId) → set_of new q ≡ cond (same_number id q) (Some set) (set_of old q)) → IsSetOf s id set → AreSets s new
sets_put s old new id set h put m = record { each = λ q x g. go q x (same_number id q) refl (sym (put q) ∙ g) }
  where
    go : (q : PatternId) (x : Option ValueSet) → (b : Bool) → same_number id q ≡ b → cond b (Some set) (set_of old q) ≡ Some x → IsSetOf s q x
    go q x true same e =
        let n : id.0 ≡ q.0 = grind arith in
        let i : id ≡ q = λ k. record { 0 = n k } in
        let o : set ≡ x = cc in
        subst (λ y. IsSetOf s q y) o (subst (λ y. IsSetOf s y set) i m)
    go q x false same e = h.each q x e

pub sets_same : (s : Stored) (old new : ValueSets) → AreSets s old → new.sets.entries ≡ old.sets.entries → AreSets s new
sets_same s old new h e = record { each = λ q x g. h.each q x (ap (λ kept. lookup (same_number q) kept) (sym e) ∙ g) }

pub told : {E : Type 0} (s : Stored) (id : PatternId) (set : Option ValueSet) (t : Text) (r : Result (Option Bool) E) → IsSetOf s id set →
    IfOk r (λ x. IfSome x (λ taken. IfSome set (λ y. taken ≡ takes_of y t))) → IfOk r (λ x. is_some x ≡ is_some set) →
    IfOk r (λ x. IfSome x (λ taken. text_step t (tree_at s id.0) ≡ where_true taken empty))
told s id (Some y) t (Ok (Some b)) h some same = h.takes.step t ∙ ap (λ b. where_true b empty) (sym some)
told s id None t (Ok (Some b)) h some same = absurd (cc)
told s id set t (Ok None) h some same = tt
told s id set t (Err e) h some same = tt

pub untold : {E : Type 0} (s : Stored) (id : PatternId) (set : Option ValueSet) (r : Result (Option Bool) E) → IsSetOf s id set →
    IfOk r (λ x. is_some x ≡ is_some set) → IfOk r (λ x. IfNone x (is_whole (tree_at s id.0) ≡ false))
untold s id None (Ok None) h same = h.none
untold s id (Some y) (Ok None) h same = absurd (cc)
untold s id set (Ok (Some b)) h same = tt
untold s id set (Err e) h same = tt
