-- What is kept for texts stays right as the pool grows, as a result is added, and for the next text.
use Rattle.std.proofs.Common.{◌≡◌, false, cond, Option, Some, [], sym, subst, arith}
use Rattle.std.specs.Prelude.{IfSome, IfNone}
use Rattle.rng_model.specs.Texts.{Text}
use Rattle.rng_model.specs.Derivatives.{text_step}
use Rattle.pattern_intern.specs.Gathered.{same_number}
use Rattle.pattern_intern.specs.Stored.{Stored, Extends}
use Rattle.pattern_intern.specs.declared.id.PatternId.{PatternId}
use Rattle.value_sets.specs.Numbers.{AreSets, IsSetOf}
use Rattle.value_sets.specs.Taken.{Takes, is_whole}
use Rattle.value_sets.specs.declared.by_number.ValueSets.{ValueSets}
use Rattle.value_sets.specs.declared.value_set.ValueSet.{ValueSet}
use Rattle.derivatives.specs.Kept.{IsRight, result_of}
use Rattle.derivatives.specs.KeptTexts.{AreTextResults}
use Rattle.derivatives.specs.declared.text_results.TextResults.{TextResults}
use Rattle.derivatives.proofs.Keeping.{none_right, right_extends, right_put}

set_later : (old new : Stored) (id : PatternId) (set : Option ValueSet) → IsSetOf old id set → Extends old new → IsSetOf new id set
set_later old new id set h e =
    let n = h.number in let l = e.longer in
    let same = sym (e.kept id.0 n) in
    record {
      number = omega (arith, n, l);
      takes = subst (λ p. IfSome set (λ x. Takes x p)) same h.takes;
      none = subst (λ p. IfNone set (is_whole p ≡ false)) same h.none;
    }

pub sets_extend : (old new : Stored) (sets : ValueSets) → AreSets old sets → Extends old new → AreSets new sets
sets_extend old new sets h e = record { each = λ id set g. set_later old new id set (h.each id set g) e }

pub texts_extend : (t : Text) (old new : Stored) (kept : TextResults) → AreTextResults t old kept → Extends old new → AreTextResults t new kept
texts_extend t old new kept h e = record {
  results = right_extends (text_step t) old new kept.results h.results e;
  sets = sets_extend old new kept.choices h.sets e;
}

pub texts_put : (t : Text) (s : Stored) (old new : TextResults) (id made : PatternId) → AreTextResults t s old →
    ((q : PatternId) → result_of new.results q ≡ cond (same_number id q) (Some made) (result_of old.results q)) → new.choices ≡ old.choices →
    IsRight (text_step t) s id made → AreTextResults t s new
texts_put t s old new id made h put choices m = record {
  results = right_put (text_step t) s old.results new.results id made h.results put m;
  sets = subst (AreSets s) (sym choices) h.sets;
}

-- for the next text
pub texts_begin : (t : Text) (s : Stored) (kept : TextResults) → kept.results ≡ [] → AreSets s kept.choices → AreTextResults t s kept
texts_begin t s kept none sets = record { results = none_right (text_step t) s kept.results none; sets = sets }
