-- A text that is added to a set.
use Rattle.std.proofs.Common.{◌≡◌, Bool, true, false, ◌||◌, List, [], ◌∷◌, ◌++◌, refl, ap, sym, ◌∙◌, arith, if◌then◌else◌}
use Rattle.std.specs.List.{list_any}
use Rattle.std.specs.Str.{bytes_eq}
use Rattle.std.proofs.lemmas.List.Folds.{list_any-append}
use Rattle.std.proofs.lemmas.Slice.Eq.{bytes_eq-Decides}
use Rattle.indexmap.specs.IndexSet.{insert_key}
use Rattle.rng_model.specs.Texts.{Text}

or_false : (b : Bool) → (b || false) ≡ b
or_false true = refl
or_false false = refl

or_true : (b : Bool) → (b || true) ≡ true
or_true true = refl
or_true false = refl

inserted : (q : Text) (ks : List Text) (n : Text) → list_any (bytes_eq q) (insert_key bytes_eq ks n) ≡ (list_any (bytes_eq q) ks || bytes_eq q n)
inserted q ks n = there (list_any (bytes_eq n) ks) refl
  where
    equal : (b : Bool) → bytes_eq q n ≡ b → list_any (bytes_eq n) ks ≡ true → list_any (bytes_eq q) ks ≡ (list_any (bytes_eq q) ks || b)
    equal true e h = let p : q ≡ n = grind (arith, bytes_eq-Decides) in rw p (h ∙ sym (or_true (list_any (bytes_eq n) ks)))
    equal false e h = sym (or_false (list_any (bytes_eq q) ks))

    there : (b : Bool) → list_any (bytes_eq n) ks ≡ b → list_any (bytes_eq q) (if b then ks else ks ++ n ∷ []) ≡ (list_any (bytes_eq q) ks || bytes_eq q n)
    there true h = equal (bytes_eq q n) refl h
    there false h = list_any-append (bytes_eq q) ks (n ∷ []) ∙ ap (λ (b : Bool). list_any (bytes_eq q) ks || b) (or_false (bytes_eq q n))

pub text_inserted : (old new : List Text) (n : Text) → new ≡ insert_key bytes_eq old n → (t : Text) → list_any (bytes_eq t) new ≡ (list_any (bytes_eq t) old || bytes_eq t n)
text_inserted old new n e t = ap (list_any (bytes_eq t)) e ∙ inserted t old n
