-- The levels of a class from the list that begins with its parts.
use Rattle.std.proofs.Common.{◌≡◌, ℕ, suc, ◌<◌, ◌≤◌, Bool, true, false, not, IsTrue, List, [], ◌∷◌, ◌++◌, length, refl, sym, ◌∙◌, ap, arith, append_assoc, append-nil, Option, Some, None, MatchOption, ◌-◌}
use Rattle.std.specs.Prelude.{max}
use Rattle.std.specs.Borrow.{Bor}
use Rattle.std.specs.Option.{is_some}
use Rattle.std.proofs.Math.Nat.{le-max_left, le-max_right, max-le}
use Rattle.rng_model.specs.Classes.{Class, any, any_except, namespace, namespace_except, one, either}
use Rattle.rng_model.specs.Depths.{class_depth}
use Rattle.name_classes.specs.declared.part.Part.{Part}
use Rattle.name_classes.specs.declared.part.Part.TheVariants.{Any, Namespace, One, Choice}
use Rattle.name_classes.specs.Parts.{parts_of, excepts, is_choice}
use Rattle.name_classes.proofs.Reading.{heads, no, on, choosing}

pub depth_some : (c : Class) → 0 < class_depth c
depth_some any = omega arith
depth_some (any_except c) = omega arith
depth_some (namespace u) = omega arith
depth_some (namespace_except u c) = omega arith
depth_some (one m) = omega arith
depth_some (either a b) = omega arith

pub some_part : {A : Type 0} (c : Class) (more ps : List Part) → length ps ≡ 0 → ps ≡ parts_of c ++ more → A
some_part c more (p ∷ ps) h e = absurd (omega (arith, h))
some_part any more [] h e = absurd (cc)
some_part (any_except c) more [] h e = absurd (cc)
some_part (namespace u) more [] h e = absurd (cc)
some_part (namespace_except u c) more [] h e = absurd (cc)
some_part (one m) more [] h e = absurd (cc)
some_part (either a b) more [] h e = absurd (cc)

-- a part in front of an except
pub except_levels : (p : Part) (ps more : List Part) (c : Class) → excepts p ≡ true → p ∷ ps ≡ parts_of c ++ more → (d : Class) × (ps ≡ parts_of d ++ more) × (class_depth c ≡ suc (class_depth d))
except_levels p ps more any h e = no p (Any false) excepts ((heads p (Any false) ps more e).0) h refl
except_levels p ps more (any_except d) h e = (d, (heads p (Any true) ps (parts_of d ++ more) e).1, refl)
except_levels p ps more (namespace u) h e = no p (Namespace u false) excepts ((heads p (Namespace u false) ps more e).0) h refl
except_levels p ps more (namespace_except u d) h e = (d, (heads p (Namespace u true) ps (parts_of d ++ more) e).1, refl)
except_levels p ps more (one m) h e = no p (One m) excepts ((heads p (One m) ps more e).0) h refl
except_levels p ps more (either a b) h e = no p Choice excepts ((heads p Choice ps ((parts_of a ++ parts_of b) ++ more) e).0) h refl

-- a part that is a class alone
pub one_level : (p : Part) (ps more : List Part) (c : Class) → excepts p ≡ false → is_choice p ≡ false → p ∷ ps ≡ parts_of c ++ more → (ps ≡ more) × (class_depth c ≡ 1)
one_level p ps more any h k e = ((heads p (Any false) ps more e).1, refl)
one_level p ps more (any_except d) h k e = on p (Any true) excepts ((heads p (Any true) ps (parts_of d ++ more) e).0) h refl
one_level p ps more (namespace u) h k e = ((heads p (Namespace u false) ps more e).1, refl)
one_level p ps more (namespace_except u d) h k e = on p (Namespace u true) excepts ((heads p (Namespace u true) ps (parts_of d ++ more) e).0) h refl
one_level p ps more (one m) h k e = ((heads p (One m) ps more e).1, refl)
one_level p ps more (either a b) h k e = on p Choice is_choice ((heads p Choice ps ((parts_of a ++ parts_of b) ++ more) e).0) k refl

-- a part in front of two classes
pub choice_levels : (p : Part) (ps more : List Part) (c : Class) → is_choice p ≡ true → p ∷ ps ≡ parts_of c ++ more →
    (a : Class) × (b : Class) × (ps ≡ parts_of a ++ (parts_of b ++ more)) × (class_depth c ≡ suc (max (class_depth a) (class_depth b)))
choice_levels p ps more c h e =
    let (a, b, i, j) = choosing p ps more c h e in
    (a, b, i ∙ append_assoc (parts_of a) (parts_of b) more, ap class_depth j)

-- the parts behind the class that the list begins with; none where it has more levels
abbrev pub IsBehind : ℕ → List Part → Option (Bor (List Part)) → Type 0
IsBehind levels ps r = (c : Class) (more : List Part) → ps ≡ parts_of c ++ more → MatchOption r (levels < class_depth c) (λ rest. (rest.now ≡ more) × (class_depth c ≤ levels))

matched : (r : Option (Bor (List Part))) (k n x y : ℕ) (more : List Part) → (k < x → n < y) → (x ≤ k → y ≤ n) →
    MatchOption r (k < x) (λ rest. (rest.now ≡ more) × (x ≤ k)) → MatchOption r (n < y) (λ rest. (rest.now ≡ more) × (y ≤ n))
matched None k n x y more f g h = f h
matched (Some rest) k n x y more f g h = (h.0, g h.1)

pub behind_except : (levels : ℕ) (p : Part) (ps rest : List Part) (r : Option (Bor (List Part))) → 0 < levels → ps ≡ p ∷ rest → excepts p ≡ true → IsBehind (levels - 1) rest r → IsBehind levels ps r
behind_except levels p ps rest r some is h a = λ c more e.
    let (d, i, j) = except_levels p rest more c h (sym is ∙ e) in
    matched r (levels - 1) levels (class_depth d) (class_depth c) more (λ l. omega (arith, l, j, some)) (λ l. omega (arith, l, j, some)) (a d more i)

pub behind_alone : (levels : ℕ) (p : Part) (ps rest : List Part) → 0 < levels → ps ≡ p ∷ rest → excepts p ≡ false → is_choice p ≡ false →
    (c : Class) (more : List Part) → ps ≡ parts_of c ++ more → (rest ≡ more) × (class_depth c ≤ levels)
behind_alone levels p ps rest some is h k c more e = let (i, j) = one_level p rest more c h k (sym is ∙ e) in (i, omega (arith, j, some))

-- the left class of a choice is too deep
pub left_deep : (levels : ℕ) (p : Part) (ps rest : List Part) → 0 < levels → ps ≡ p ∷ rest → is_choice p ≡ true →
    ((c : Class) (more : List Part) → rest ≡ parts_of c ++ more → levels - 1 < class_depth c) → (c : Class) (more : List Part) → ps ≡ parts_of c ++ more → levels < class_depth c
left_deep levels p ps rest some is h a c more e =
    let (d, b, i, j) = choice_levels p rest more c h (sym is ∙ e) in
    omega (arith, a d (parts_of b ++ more) i, j, le-max_left (class_depth d) (class_depth b), some)

-- both classes of a choice
pub behind_choice : (levels : ℕ) (p : Part) (ps rest after : List Part) (r : Option (Bor (List Part))) → 0 < levels → ps ≡ p ∷ rest → is_choice p ≡ true →
    ((c : Class) (more : List Part) → rest ≡ parts_of c ++ more → (after ≡ more) × (class_depth c ≤ levels - 1)) → IsBehind (levels - 1) after r → IsBehind levels ps r
behind_choice levels p ps rest after r some is h a k = λ c more e.
    let (d, b, i, j) = choice_levels p rest more c h (sym is ∙ e) in
    let (f, l) = a d (parts_of b ++ more) i in
    matched r (levels - 1) levels (class_depth b) (class_depth c) more
    (λ n. omega (arith, n, j, le-max_right (class_depth d) (class_depth b), some))
    (λ n. omega (arith, j, max-le {a = class_depth d} {b = class_depth b} {k = levels - 1} l n, some))
    (k b more f)

-- none is answered exactly where the class is too deep
pub whole : (levels : ℕ) (c : Class) (ps : List Part) (r : Option (Bor (List Part))) (b : Bool) → ps ≡ parts_of c → IsBehind levels ps r → is_some r ≡ not b →
    (IsTrue b → levels < class_depth c) × (levels < class_depth c → IsTrue b)
whole levels c ps r b e a n = go r b (a c [] (e ∙ sym (append-nil (parts_of c)))) n
  where
    go : (r : Option (Bor (List Part))) (b : Bool) → MatchOption r (levels < class_depth c) (λ rest. (rest.now ≡ []) × (class_depth c ≤ levels)) → is_some r ≡ not b →
        (IsTrue b → levels < class_depth c) × (levels < class_depth c → IsTrue b)
    go None true m n = (λ h. m, λ h. refl)
    go None false m n = absurd (cc)
    go (Some rest) true m n = absurd (cc)
    go (Some rest) false m n = (λ h. absurd (cc), λ h. absurd (omega (arith, h, m.1)))
