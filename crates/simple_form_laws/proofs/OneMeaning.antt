-- A pattern has at most one simple form in its scope.
use Rattle.std.proofs.Common.{◌≡◌, List, Option, Some, refl, sym, ◌∙◌, ap}
use Rattle.rng_model.specs.Patterns as simple
use Rattle.rng_model.specs.Constructors.{or_empty, interleave_of, one_or_more_of, attribute_of, data_of}
use Rattle.grammar_laws.specs.Trees.{Pattern, Patterns}
use Rattle.grammar_laws.specs.Files.{SchemaFile}
use Rattle.simple_form_laws.specs.Parts.{Scope}
use Rattle.simple_form_laws.specs.Meaning.{Means, Connected, Behind, Connective, connect}
use Rattle.simple_form_laws.specs.Meaning as by
use Rattle.simple_form_laws.proofs.Invert.{meaning, connection, rest}

-- what is found is one
pub found : {X : Type 0} {o : Option X} {x y : X} → o ≡ Some x → o ≡ Some y → x ≡ y
found e f = cc

made : {A B : Type 0} (f : A → B) {a c : A} {r t : B} → r ≡ f a → a ≡ c → t ≡ f c → r ≡ t
made f e h k = e ∙ ap f h ∙ sym k

made_by_two : {A B C : Type 0} (f : A → B → C) {a c : A} {b d : B} {r t : C} → r ≡ f a b → a ≡ c → b ≡ d → t ≡ f c d → r ≡ t
made_by_two f e h k l = e ∙ (λ i. f (h i) (k i)) ∙ sym l

module _ (fs : List SchemaFile) where
  mutual
    pub means-same : {s : Scope} {p : Pattern} {q r : simple.Pattern} → Means fs s p q → Means fs s p r → q ≡ r
    means-same by.element k = sym (meaning fs k)
    means-same (by.attribute c h e) k =
        let t = meaning fs k in
        made_by_two attribute_of e (found c t.2) (means-same h t.3) t.4
    means-same (by.group h) k = connected-same h (meaning fs k)
    means-same (by.choice h) k = connected-same h (meaning fs k)
    means-same (by.interleave h) k = connected-same h (meaning fs k)
    means-same (by.optional h e) k = let t = meaning fs k in made or_empty e (means-same h t.1) t.2
    means-same (by.zero_or_more h e) k = let t = meaning fs k in made (λ q. or_empty (one_or_more_of q)) e (means-same h t.1) t.2
    means-same (by.one_or_more h e) k = let t = meaning fs k in made one_or_more_of e (means-same h t.1) t.2
    means-same (by.mixed h e) k = let t = meaning fs k in made (λ q. interleave_of q simple.text) e (means-same h t.1) t.2
    means-same by.empty k = sym (meaning fs k)
    means-same by.any_text k = sym (meaning fs k)
    means-same by.not_allowed k = sym (meaning fs k)
    means-same by.value k = sym (meaning fs k)
    means-same (by.typed_value {t = v} e) k = let t = meaning fs k in made (λ x. simple.value x v) refl (found e t.1) t.2
    means-same (by.data_type e) k = let t = meaning fs k in made simple.data_type refl (found e t.1) t.2
    means-same (by.data_except k h e) l =
        let t = meaning fs l in
        made_by_two data_of e (found k t.2) (means-same h t.3) t.4
    means-same (by.grammar h) k = means-same h (meaning fs k)
    means-same (by.ref h) k = means-same h (meaning fs k)
    means-same (by.parent h) k = means-same h (meaning fs k)

    pub connected-same : {j : Connective} {s : Scope} {ps : Patterns} {q r : simple.Pattern} → Connected fs j s ps q → Connected fs j s ps r → q ≡ r
    connected-same (by.first h k) l =
        let t = connection fs l in
        behind-same k t.2 (means-same h t.1)

    pub behind-same : {j : Connective} {s : Scope} {b c : simple.Pattern} {ps : Patterns} {q r : simple.Pattern} →
        Behind fs j s b ps q → Behind fs j s c ps r → b ≡ c → q ≡ r
    behind-same by.ends l e = e ∙ sym (rest fs l)
    behind-same {j = j} (by.next h k) l e =
        let t = rest fs l in
        let f = means-same h t.1 in
        behind-same k t.2 (λ i. connect j (e i) (f i))
