-- Name classes of the simple form, level by level, and choices nested to the left.
use Rattle.std.proofs.Common.{◌≡◌, ℕ, zero, suc, ◌+◌, ◌<◌, ◌≤◌, List, [], ◌∷◌, ◌++◌, length, take, drop, get_or, map, Option, Some, None, refl, ap, sym, ◌∙◌, arith, drop-cons}
use Rattle.std.specs.Prelude.{fold}
use Rattle.std.proofs.lemmas.Simd.{map-map}
use Rattle.std.proofs.lemmas.List.{take_more, take_all, take-append-drop, map-append}
use Rattle.rng_model.specs.Texts.{Text}
use Rattle.rng_model.specs.Classes as simple
use Rattle.name_classes.specs.declared.class.NameClass.{NameClass}
use Rattle.name_classes.specs.Choices.{choice_of}
use Rattle.name_classes.specs.Views as value
use Rattle.grammar_laws.specs.Trees.{Class}
use Rattle.grammar_laws.specs.Trees.{classes_of as listed}
use Rattle.grammar_laws.specs.Files.{SchemaFile}
use Rattle.simple_form_laws.specs.ClassForms.{Use, class_of, classes_of, either_of, nested_left}
use Rattle.name_resolution.specs.NcNames.{HasNcNames, HaveNcNames}

either_none : (o : Option simple.Class) → either_of o None ≡ None
either_none None = refl
either_none (Some a) = refl

none_stays : (cs : List (Option simple.Class)) → fold either_of None cs ≡ None
none_stays [] = refl
none_stays (c ∷ cs) = none_stays cs

fold_none : (x : Option simple.Class) (xs ys : List (Option simple.Class)) → fold either_of x (xs ++ None ∷ ys) ≡ None
fold_none x [] ys = ap (λ o. fold either_of o ys) (either_none x) ∙ none_stays ys
fold_none x (z ∷ xs) ys = fold_none (either_of x z) xs ys

nested_none : (xs ys : List (Option simple.Class)) → nested_left (xs ++ None ∷ ys) ≡ None
nested_none [] ys = none_stays ys
nested_none (x ∷ xs) ys = fold_none x xs ys

fold_some : (c : simple.Class) (cs : List simple.Class) → fold either_of (Some c) (map (λ d. Some d) cs) ≡ Some (fold simple.either c cs)
fold_some c [] = refl
fold_some c (d ∷ cs) = fold_some (simple.either c d) cs

nested_some : (cs : List simple.Class) → nested_left (map (λ d. Some d) cs) ≡ choice_of cs
nested_some [] = refl
nested_some (c ∷ cs) = fold_some c cs

classes_push : (fs : List SchemaFile) (u : Use) (cs : List Class) (c : Class) → classes_of fs u (listed (cs ++ c ∷ [])) ≡ classes_of fs u (listed cs) ++ class_of fs u c ∷ []
classes_push fs u [] c = refl
classes_push fs u (b ∷ cs) c = ap (λ xs. class_of fs u b ∷ xs) (classes_push fs u cs c)

-- the classes so far, each with its prefixes bound
abbrev pub AreMade : {D : Type 0} → List SchemaFile → Use → (D → Class) → List D → List NameClass → Type 0
AreMade fs u v members made = classes_of fs u (listed (map v members)) ≡ map (λ (c : NameClass). Some (value.class_of c)) made

more : {D : Type 0} (v : D → Class) (members : List D) (i : ℕ) (x : D) → i < length members → x ≡ get_or members i x → map v (take (i + 1) members) ≡ map v (take i members) ++ v x ∷ []
more v members i x h is = ap (λ ys. map v ys) (take_more members i x h ∙ ap (λ y. take i members ++ y ∷ []) (sym is)) ∙ map-append v (take i members) (x ∷ [])

-- one member more
pub made_more : {D : Type 0} (fs : List SchemaFile) (u : Use) (v : D → Class) (members : List D) (i : ℕ) (x : D) (made new : List NameClass) (next : NameClass)
    → i < length members → x ≡ get_or members i x → AreMade fs u v (take i members) made → Some (value.class_of next) ≡ class_of fs u (v x) → new ≡ made ++ next ∷ []
    → AreMade fs u v (take (i + 1) members) new
made_more fs u v members i x made new next h is a n e =
    ap (λ cs. classes_of fs u (listed cs)) (more v members i x h is) ∙ classes_push fs u (map v (take i members)) (v x)
    ∙ (λ k. a k ++ sym n k ∷ [])
    ∙ sym (map-append (λ (c : NameClass). Some (value.class_of c)) made (next ∷ []))
    ∙ ap (λ ds. map (λ (c : NameClass). Some (value.class_of c)) ds) (sym e)

classes_append : (fs : List SchemaFile) (u : Use) (cs ds : List Class) → classes_of fs u (listed (cs ++ ds)) ≡ classes_of fs u (listed cs) ++ classes_of fs u (listed ds)
classes_append fs u [] ds = refl
classes_append fs u (c ∷ cs) ds = ap (λ xs. class_of fs u c ∷ xs) (classes_append fs u cs ds)

-- a member whose prefix isn't bound
pub member_none : {D : Type 0} (fs : List SchemaFile) (u : Use) (v : D → Class) (members : List D) (i : ℕ) (x : D)
    → i < length members → x ≡ get_or members i x → None ≡ class_of fs u (v x) → None ≡ nested_left (classes_of fs u (listed (map v members)))
member_none fs u v members i x h is n =
    let split : members ≡ take i members ++ (x ∷ drop (suc i) members) =
    sym (take-append-drop i members) ∙ ap (λ ys. take i members ++ ys) (drop-cons members i x h ∙ ap (λ y. y ∷ drop (suc i) members) (sym is)) in
    sym (nested_none (classes_of fs u (listed (map v (take i members)))) (classes_of fs u (listed (map v (drop (suc i) members)))))
    ∙ ap (λ (o : Option simple.Class). nested_left (classes_of fs u (listed (map v (take i members))) ++ o ∷ classes_of fs u (listed (map v (drop (suc i) members))))) n
    ∙ ap (λ xs. nested_left xs) (sym (classes_append fs u (map v (take i members)) (v x ∷ map v (drop (suc i) members))))
    ∙ ap (λ cs. nested_left (classes_of fs u (listed cs))) (sym (ap (λ ys. map v ys) split ∙ map-append v (take i members) (x ∷ drop (suc i) members)))

-- all members
pub choice_all : {D : Type 0} (fs : List SchemaFile) (u : Use) (v : D → Class) (members : List D) (i : ℕ) (made : List NameClass) → length members ≤ i
    → AreMade fs u v (take i members) made → choice_of (map value.class_of made) ≡ nested_left (classes_of fs u (listed (map v members)))
choice_all fs u v members i made h a =
    sym (nested_some (map value.class_of made))
    ∙ ap (λ xs. nested_left xs) (map-map (λ (d : simple.Class). Some d) value.class_of made ∙ sym a)
    ∙ ap (λ ms. nested_left (classes_of fs u (listed (map v ms)))) (take_all i members h)

-- each member has NCNames
pub named_at : {D : Type 0} (v : D → Class) (xs : List D) (i : ℕ) (x : D) → i < length xs → x ≡ get_or xs i x → HaveNcNames (listed (map v xs)) → HasNcNames (v x)
named_at v [] i x h is n = absurd (omega arith)
named_at v (y ∷ xs) zero x h is n = rw is n.0
named_at v (y ∷ xs) (suc i) x h is n = named_at v xs i x (omega arith) is n.1
