-- Names in a set of borrowed texts.
use Rattle.std.proofs.Common.{◌≡◌, ℕ, Bool, true, false, ◌||◌, List, [], ◌∷◌, ◌++◌, Option, Some, None, refl, ap, sym, ◌∙◌, arith, Bor, nat_eq, if◌then◌else◌}
use Rattle.std.specs.List.{list_any}
use Rattle.std.specs.Str.{bytes_eq}
use Rattle.std.specs.Cmp.Lexicographic.{pointwise}
use Rattle.std.proofs.lemmas.List.Folds.{list_any-append}
use Rattle.std.proofs.lemmas.Slice.Eq.{bytes_eq-Decides}
use Rattle.indexmap.specs.IndexSet.{insert_key}
use Rattle.simple_form_laws.specs.Parts.{same_key}
use Rattle.tree_faults.specs.Keys.{has_key}
use Rattle.tree_faults.specs.declared.keys.Keys.{Keys}

abbrev pub same : Bor (List ℕ) → Bor (List ℕ) → Bool
same x y = pointwise nat_eq x.now y.now

or_false : (b : Bool) → (b || false) ≡ b
or_false true = refl
or_false false = refl

or_true : (b : Bool) → (b || true) ≡ true
or_true true = refl
or_true false = refl

-- a name that is added
pub name_inserted : (q : List ℕ) (ks : List (Bor (List ℕ))) (n : Bor (List ℕ)) → list_any (λ x. bytes_eq q x.now) (insert_key same ks n) ≡ (list_any (λ x. bytes_eq q x.now) ks || bytes_eq q n.now)
name_inserted q ks n = there (list_any (same n) ks) refl
  where
    equal : (b : Bool) → bytes_eq q n.now ≡ b → list_any (same n) ks ≡ true → list_any (λ x. bytes_eq q x.now) ks ≡ (list_any (λ x. bytes_eq q x.now) ks || b)
    equal true e h = let p : q ≡ n.now = grind (arith, bytes_eq-Decides) in rw p (h ∙ sym (or_true (list_any (λ x. bytes_eq n.now x.now) ks)))
    equal false e h = sym (or_false (list_any (λ x. bytes_eq q x.now) ks))

    there : (b : Bool) → list_any (same n) ks ≡ b → list_any (λ x. bytes_eq q x.now) (if b then ks else ks ++ n ∷ []) ≡ (list_any (λ x. bytes_eq q x.now) ks || bytes_eq q n.now)
    there true h = equal (bytes_eq q n.now) refl h
    there false h = list_any-append (λ x. bytes_eq q x.now) ks (n ∷ []) ∙ ap (λ (b : Bool). list_any (λ x. bytes_eq q x.now) ks || b) (or_false (bytes_eq q n.now))

-- the start is as before
pub with_name : (old new : Keys) (n : Bor (List ℕ)) → new.has_start ≡ old.has_start → new.names.keys ≡ insert_key same old.names.keys n
    → (k : Option (List ℕ)) → has_key new k ≡ (has_key old k || same_key k (Some n.now))
with_name old new n start keys None = start ∙ sym (or_false old.has_start)
with_name old new n start keys (Some q) = rw keys (name_inserted q old.names.keys n)

pub with_start : (old new : Keys) → new.has_start ≡ true → new.names.keys ≡ old.names.keys
    → (k : Option (List ℕ)) → has_key new k ≡ (has_key old k || same_key k None)
with_start old new start keys None = start ∙ sym (or_true old.has_start)
with_start old new start keys (Some q) = rw keys (sym (or_false (list_any (λ x. bytes_eq q x.now) old.names.keys)))
