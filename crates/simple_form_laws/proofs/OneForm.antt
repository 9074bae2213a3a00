-- A tree has at most one simple form and at most one refusal, and never both.
use Rattle.std.proofs.Common.{◌≡◌, ℕ, ◌==◌, if◌then◌else◌, Some, inl, inr, List, [], ◌∷◌, refl, sym, ◌∙◌, ap, subst, arith}
use Rattle.std.specs.Ordering.{nat_cmp}
use Rattle.std.proofs.lemmas.Cmp.{nat_cmp_total}
use Rattle.rng_model.specs.Patterns as simple
use Rattle.rng_model.specs.Patterns.{Schema, Definition}
use Rattle.derivative_laws.proofs.Members.{one_list}
use Rattle.grammar_laws.specs.Trees.{Pattern}
use Rattle.grammar_laws.specs.Files.{Full}
use Rattle.simple_form_laws.specs.ClassForms.{OfElement, class_of}
use Rattle.simple_form_laws.specs.Parts.{Scope}
use Rattle.simple_form_laws.specs.Forms.{new_number, renumbered, tree, IsReached, IsForm, IsDefinition, AreDefinitions, IsFormOf}
use Rattle.simple_form_laws.specs.Faults.{Fault, fault_number, fault_place, IsNoLater, SimplifyRefusal, Simple, UnboundPrefix, PrefixTwice, ReservedPrefix, ClassConstraint, XmlnsAttribute, NoStart, UndefinedName, ParentOutside, CombineMixed, DefinedTwice, Loop, ExpandedTooDeep, BadValue}
use Rattle.simple_form_laws.proofs.OneMeaning.{means-same, found}

pub form-same : (f : Full) (kept : List ℕ) (s : Scope) (p : Pattern) (q r : simple.Pattern) → IsForm f kept s p q → IsForm f kept s p r → q ≡ r
form-same f kept s p q r h k = h.2 ∙ ap (renumbered (new_number kept)) (means-same f.files h.1 k.1) ∙ sym k.2

definition-same : (f : Full) (kept : List ℕ) (n : ℕ) (d e : Definition) → IsDefinition f kept n d → IsDefinition f kept n e → d ≡ e
definition-same f kept n d e h k =
    let t = found h.is k.is in
    let class : class_of f.files OfElement h.token.class ≡ Some e.class = ap (λ x. class_of f.files OfElement x.class) t ∙ k.class in
    let c = found h.class class in
    let content : IsForm f kept h.token.scope h.token.content e.content = subst (λ x. IsForm f kept x.scope x.content e.content) (sym t) k.content in
    let p = form-same f kept h.token.scope h.token.content d.content e.content h.content content in
    (λ i. record { class = c i; content = p i })

definitions-same : (f : Full) (kept ns : List ℕ) (ds es : List Definition) → AreDefinitions f kept ns ds → AreDefinitions f kept ns es → ds ≡ es
definitions-same f kept [] [] [] h k = refl
definitions-same f kept [] [] (e ∷ es) h k = absurd k
definitions-same f kept [] (d ∷ ds) es h k = absurd h
definitions-same f kept (n ∷ ns) [] es h k = absurd h
definitions-same f kept (n ∷ ns) (d ∷ ds) [] h k = absurd k
definitions-same f kept (n ∷ ns) (d ∷ ds) (e ∷ es) h k =
    let a = definition-same f kept n d e h.0 k.0 in
    let b = definitions-same f kept ns ds es h.1 k.1 in
    (λ i. a i ∷ b i)

-- there is at most one schema
pub schema-same : (f : Full) (g h : Schema) → IsFormOf f g → IsFormOf f h → g ≡ h
schema-same f g h a b =
    let kept = one_list nat_cmp nat_cmp_total (IsReached f) b.kept a.kept b.ascending a.ascending b.each a.each in
    let start : IsForm f a.kept [] (tree f) h.start = subst (λ k. IsForm f k [] (tree f) h.start) kept b.start in
    let elements : AreDefinitions f a.kept a.kept h.elements = subst (λ k. AreDefinitions f k k h.elements) kept b.elements in
    let s = form-same f a.kept [] (tree f) g.start h.start a.start start in
    let e = definitions-same f a.kept a.kept g.elements h.elements a.elements elements in
    (λ i. record { start = s i; elements = e i })

pub simple-same : (f : Full) (g h : Schema) → Simple f g → Simple f h → g ≡ h
simple-same f g h a b = schema-same f g h a.form b.form

-- a fault, by its number and its place
fault_of : ℕ → ℕ → Fault
fault_of n at =
    if n == 31 then UnboundPrefix at else if n == 32 then PrefixTwice at else if n == 33 then ReservedPrefix at
    else if n == 34 then ClassConstraint at else if n == 35 then XmlnsAttribute at else if n == 36 then NoStart
    else if n == 37 then UndefinedName at else if n == 38 then ParentOutside at else if n == 39 then CombineMixed at
    else if n == 40 then DefinedTwice at else if n == 41 then Loop at else if n == 42 then ExpandedTooDeep else BadValue at

fault_of-same : (x : Fault) → fault_of (fault_number x) (fault_place x) ≡ x
unfolding fault_of
fault_of-same (UnboundPrefix at) = refl
fault_of-same (PrefixTwice at) = refl
fault_of-same (ReservedPrefix at) = refl
fault_of-same (ClassConstraint at) = refl
fault_of-same (XmlnsAttribute at) = refl
fault_of-same NoStart = refl
fault_of-same (UndefinedName at) = refl
fault_of-same (ParentOutside at) = refl
fault_of-same (CombineMixed at) = refl
fault_of-same (DefinedTwice at) = refl
fault_of-same (Loop at) = refl
fault_of-same ExpandedTooDeep = refl
fault_of-same (BadValue at) = refl

no_later-same : (x y : Fault) → IsNoLater x y → IsNoLater y x → x ≡ y
no_later-same x y h k =
    let t = both h k in
    sym (fault_of-same x) ∙ (λ i. fault_of (t.0 i) (t.1 i)) ∙ fault_of-same y
  where
    both : IsNoLater x y → IsNoLater y x → (fault_number x ≡ fault_number y) × (fault_place x ≡ fault_place y)
    both (inl l) (inl m) = absurd (omega arith)
    both (inl l) (inr (e, m)) = absurd (omega arith)
    both (inr (e, m)) (inl l) = absurd (omega arith)
    both (inr (e, m)) (inr (f, n)) = (e, omega arith)

-- there is at most one refusal
pub refusal-same : (f : Full) (x y : Fault) → SimplifyRefusal f x → SimplifyRefusal f y → x ≡ y
refusal-same f x y a b = no_later-same x y (a.first y b.fault) (b.first x a.fault)

pub not_both : (f : Full) (g : Schema) (x : Fault) → Simple f g → SimplifyRefusal f x → ⊥
not_both f g x a b = a.sound x b.fault
