-- Name classes: the loop over the alternatives, and excepts.
use Rattle.std.proofs.Common.{◌≡◌, ℕ, Bool, true, false, inl, inr, List, [], ◌∷◌, ◌++◌, Option, Some, None, Ok, refl, sym, ap, ◌∙◌, subst}
use Rattle.rng_model.specs.Texts.{Text}
use Rattle.token_laws.specs.Tokens.{ns_name, symbol, Placed, ◌at◌, bar, minus, star}
use Rattle.grammar_laws.specs.Trees as tree
use Rattle.grammar_laws.specs.Trees.{classes_of}
use Rattle.grammar_laws.specs.Grammar.{ReadsBlocks, ReadsClass, ReadsSimple, ReadsAlternatives, ReadsBareClass, ReadsClassExcept}
use Rattle.grammar_laws.specs.Grammar as by
use Rattle.grammar_laws.proofs.Loops.{before_classes}
use Rattle.syntax_laws.specs.Expecting.{Part, pass, become, refuse, first, next, Stands, is_symbol}
use Rattle.syntax_laws.specs.Expecting as part
use Rattle.rnc_parser.specs.Reading.{Takes, Parsed, parsed, IsSign, IsNamespaceName}
use Rattle.rnc_parser.specs.Parts.{ReadsOpenClass, ReadsClassOperand}
use Rattle.schema_tree.specs.Trees.{class_of}
use Rattle.schema_tree.specs.declared.tree.Class.{Class}
use Rattle.schema_tree.specs.declared.tree.Class.TheViews as view
use Rattle.rnc_parser.proofs.Steps.{begin, turn, past, read, made, no_symbol, symbol_first, namespace_first}
use Rattle.schema_tree.proofs.Folds.{class_any, class_any_except, class_namespace, class_namespace_except}

-- no bar follows
no_bar : {ts us : List Placed} → Stands (part.class ∷ []) ts (part.more_classes ∷ []) us → ((a : ℕ) (xs : List Placed) → us ≡ symbol bar at a ∷ xs → ⊥) → Stands (part.class ∷ []) ts [] us
no_bar {us = us} s h = turn s (ap part.more_classes_move (no_symbol bar us h))

pub single_class : {A : Type 0} (of : A → tree.Class) {v : A} {ts us vs : List Placed} → Parsed (part.simple ∷ []) (λ xs ys c. ReadsSimple xs ys (of c)) ts (Ok v) us →
    (vs ≡ us) × ((a : ℕ) (xs : List Placed) → us ≡ symbol bar at a ∷ xs → ⊥) → Parsed (part.class ∷ []) (λ xs ys c. ReadsClass xs ys (of c)) ts (Ok v) vs
single_class of {v = v} {ts = ts} r (e, h) =
    subst (λ z. Parsed (part.class ∷ []) (λ xs ys c. ReadsClass xs ys (of c)) ts (Ok v) z) (sym e) (parsed (by.ReadsClass.single (made r)) (no_bar (read (turn begin refl) r) h))

-- the loop stands at us, behind a bar, and has read cs
abbrev pub ClassAt : List Placed → List Placed → List tree.Class → Type 0
ClassAt ts us cs = ((vs : List Placed) (ds : tree.Classes) → ReadsAlternatives us vs ds → ReadsClass ts vs (tree.Class.choice_class (before_classes cs ds))) × Stands (part.class ∷ []) ts (part.class ∷ []) us

pub class_begins : {A : Type 0} (of : A → tree.Class) {v : A} {ts us vs : List Placed} → Parsed (part.simple ∷ []) (λ xs ys c. ReadsSimple xs ys (of c)) ts (Ok v) us →
    (a : ℕ) × (us ≡ symbol bar at a ∷ vs) → ClassAt ts vs (of v ∷ [])
class_begins of {v = v} {ts = ts} r (a, e) = ((λ ws ds m. by.ReadsClass.choice (subst (λ z. ReadsSimple ts z (of v)) e (made r)) m), past (read (turn begin refl) r) e refl)

push : (cs : List tree.Class) (c : tree.Class) (ds : tree.Classes) → before_classes (cs ++ c ∷ []) ds ≡ before_classes cs (tree.Classes.more_classes c ds)
push [] c ds = refl
push (d ∷ cs) c ds = ap (tree.Classes.more_classes d) (push cs c ds)

all : (cs : List tree.Class) → before_classes cs tree.Classes.no_classes ≡ classes_of cs
all [] = refl
all (c ∷ cs) = ap (tree.Classes.more_classes c) (all cs)

pub class_goes_on : {A : Type 0} (of : A → tree.Class) (cs : List tree.Class) {v : A} {ts us vs ws : List Placed} → ClassAt ts us cs → Parsed (part.simple ∷ []) (λ xs ys c. ReadsSimple xs ys (of c)) us (Ok v) vs →
    (a : ℕ) × (vs ≡ symbol bar at a ∷ ws) → ClassAt ts ws (cs ++ of v ∷ [])
class_goes_on of cs {v = v} {ts = ts} {us = us} here r (a, e) = (
  (λ xs ds m. subst (λ z. ReadsClass ts xs (tree.Class.choice_class z)) (sym (push cs (of v) ds)) (here.0 xs (tree.Classes.more_classes (of v) ds) (by.ReadsAlternatives.more (subst (λ z. ReadsSimple us z (of v)) e (made r)) m))),
  past (read (turn here.1 refl) r) e refl,
)

pub class_ends : {A : Type 0} (of : A → tree.Class) (cs : List tree.Class) {v w : A} {ts us vs ws : List Placed} → ClassAt ts us cs → Parsed (part.simple ∷ []) (λ xs ys c. ReadsSimple xs ys (of c)) us (Ok v) vs →
    (ws ≡ vs) × ((a : ℕ) (xs : List Placed) → vs ≡ symbol bar at a ∷ xs → ⊥) → of w ≡ tree.Class.choice_class (classes_of (cs ++ of v ∷ [])) →
    Parsed (part.class ∷ []) (λ xs ys c. ReadsClass xs ys (of c)) ts (Ok w) ws
class_ends of cs {v = v} {w = w} {ts = ts} {vs = vs} here r (e, h) same =
    subst (λ z. Parsed (part.class ∷ []) (λ xs ys c. ReadsClass xs ys (of c)) ts (Ok w) z) (sym e)
    (parsed (subst (ReadsClass ts vs) (sym same)
    (subst (λ z. ReadsClass ts vs (tree.Class.choice_class z)) (sym (push cs (of v) tree.Classes.no_classes) ∙ all (cs ++ of v ∷ [])) (here.0 vs (tree.Classes.more_classes (of v) tree.Classes.no_classes) (by.ReadsAlternatives.last (made r)))))
    (no_bar (read (turn here.1 refl) r) h))

-- excepts
pub no_class_operand : (e : Bool) {ts : List Placed} → e ≡ false → Parsed (part.class_except e ∷ []) (ReadsClassOperand e) ts (Ok None) ts
no_class_operand false h = parsed refl (turn begin refl)
no_class_operand true h = cc h

pub no_operand_sign : (e : Bool) {ts us : List Placed} → e ≡ true → (us ≡ ts) × ((a : ℕ) (xs : List Placed) → ts ≡ symbol minus at a ∷ xs → ⊥) → Parsed (part.class_except e ∷ []) (ReadsClassOperand e) ts (Ok None) us
no_operand_sign false h m = cc h
no_operand_sign true {ts = ts} h (e, n) =
    subst (λ z. Parsed (part.class_except true ∷ []) (ReadsClassOperand true) ts (Ok None) z) (sym e) (parsed refl (turn begin (ap (part.class_except_move true) (no_symbol minus ts n))))

pub operand_sign : (e : Bool) {ts us : List Placed} → e ≡ true → (a : ℕ) × (ts ≡ symbol minus at a ∷ us) → Stands (part.class_except e ∷ []) ts (part.blocks ∷ part.bare_class false ∷ []) us
operand_sign false h m = cc h
operand_sign true h (a, e) = past begin e refl

pub class_operand : (e : Bool) {ts us vs ws : List Placed} {c d : Class} → e ≡ true → (a : ℕ) × (ts ≡ symbol minus at a ∷ us) → ReadsBlocks us vs → ReadsBareClass vs ws (class_of c) → d ≡ c → ReadsClassOperand e ts ws (Some d)
class_operand false h m b r e = cc h
class_operand true {us = us} {vs = vs} {ws = ws} h (a, e) b r same = (a, us, vs, e, b, subst (λ z. ReadsBareClass vs ws (class_of z)) (sym same) r)

pub any_class_read : (e : Bool) (o : Option Class) (vs : List Placed) {ts us : List Placed} {a : ℕ} → Takes (part.sign star) (IsSign star) ts (Ok a) us → ReadsClassOperand e us vs o → ReadsOpenClass e ts vs (class_of (view.Any o a))
any_class_read false None vs {ts = ts} {us = us} {a = a} s m =
    subst (ReadsBareClass ts vs) (sym (class_any a)) (subst (λ z. ReadsBareClass z vs (tree.Class.any a)) (sym (symbol_first s)) (subst (λ z. ReadsBareClass (symbol star at a ∷ us) z (tree.Class.any a)) (sym m) by.any))
any_class_read true None vs {ts = ts} {us = us} {a = a} s m =
    inl (subst (ReadsBareClass ts vs) (sym (class_any a)) (subst (λ z. ReadsBareClass z vs (tree.Class.any a)) (sym (symbol_first s)) (subst (λ z. ReadsBareClass (symbol star at a ∷ us) z (tree.Class.any a)) (sym m) by.any)))
any_class_read false (Some c) vs s m = absurd m
any_class_read true (Some c) vs {ts = ts} {a = a} s (b, xs, ys, e, bl, r) =
    inr (subst (ReadsClassExcept ts vs) (sym (class_any_except c a)) (subst (λ z. ReadsClassExcept z vs (tree.Class.any_except (class_of c) a)) (sym (symbol_first s ∙ ap (λ z. symbol star at a ∷ z) e)) (by.any_except bl r)))

pub namespace_class_read : (e : Bool) (o : Option Class) (vs : List Placed) {ts us : List Placed} {v : Text × ℕ} → Takes part.namespace_name IsNamespaceName ts (Ok v) us → ReadsClassOperand e us vs o → ReadsOpenClass e ts vs (class_of (view.Namespace (v.0) o (v.1)))
namespace_class_read false None vs {ts = ts} {us = us} {v = v} s m =
    subst (ReadsBareClass ts vs) (sym (class_namespace (v.0) (v.1))) (subst (λ z. ReadsBareClass z vs (tree.Class.namespace (v.0) (v.1))) (sym (namespace_first s)) (subst (λ z. ReadsBareClass (ns_name (v.0) at v.1 ∷ us) z (tree.Class.namespace (v.0) (v.1))) (sym m) by.ReadsBareClass.namespace))
namespace_class_read true None vs {ts = ts} {us = us} {v = v} s m =
    inl (subst (ReadsBareClass ts vs) (sym (class_namespace (v.0) (v.1))) (subst (λ z. ReadsBareClass z vs (tree.Class.namespace (v.0) (v.1))) (sym (namespace_first s)) (subst (λ z. ReadsBareClass (ns_name (v.0) at v.1 ∷ us) z (tree.Class.namespace (v.0) (v.1))) (sym m) by.ReadsBareClass.namespace)))
namespace_class_read false (Some c) vs s m = absurd m
namespace_class_read true (Some c) vs {ts = ts} {v = v} s (b, xs, ys, e, bl, r) =
    inr (subst (ReadsClassExcept ts vs) (sym (class_namespace_except (v.0) c (v.1))) (subst (λ z. ReadsClassExcept z vs (tree.Class.namespace_except (v.0) (class_of c) (v.1))) (sym (namespace_first s ∙ ap (λ z. ns_name (v.0) at v.1 ∷ z) e)) (by.namespace_except bl r)))
