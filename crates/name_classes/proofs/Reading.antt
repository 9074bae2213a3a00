-- Reading a class from the list that begins with its parts.
use Rattle.std.proofs.Common.{◌≡◌, ℕ, zero, suc, ◌+◌, ◌<◌, Bool, true, false, not, ◌&&◌, ◌||◌, List, [], ◌∷◌, ◌++◌, length, refl, sym, ◌∙◌, ap, append-nil, append_assoc, arith, true≢false}
use Rattle.std.specs.Prelude.{flat_map}
use Rattle.std.specs.List.{list_any}
use Rattle.rng_model.specs.Names as names
use Rattle.rng_model.specs.Names.{same_name}
use Rattle.rng_model.specs.Classes.{Class, any, any_except, namespace, namespace_except, one, either, in_class}
use Rattle.std.specs.Borrow.{Bor}
use Rattle.name_classes.specs.declared.part.Part.{Part}
use Rattle.name_classes.specs.declared.part.Part.TheVariants.{Any, Namespace, One, Choice}
use Rattle.name_classes.specs.declared.part.Sample.TheVariants as sample
use Rattle.name_classes.specs.Parts.{parts_of, excepts, is_choice, in_part, in_parts}

pub of_name : (n : Bor names.Name) (c : Class) → in_parts (in_part (sample.Name n)) c ≡ in_class n.now c
of_name n any = refl
of_name n (any_except c) = ap not (of_name n c)
of_name n (namespace u) = refl
of_name n (namespace_except u c) = ap (λ b. in_class n.now (namespace u) && not b) (of_name n c)
of_name n (one m) = refl
of_name n (either a b) = λ i. of_name n a i || of_name n b i

pub heads : {X : Type 0} (x y : X) (xs ys : List X) → x ∷ xs ≡ y ∷ ys → (x ≡ y) × (xs ≡ ys)
heads x y xs ys e = (cc, cc)

pub no : {A : Type 0} (p q : Part) (f : Part → Bool) → p ≡ q → f p ≡ true → f q ≡ false → A
no p q f e t s = absurd (true≢false (sym t ∙ ap f e ∙ s))

pub on : {A : Type 0} (p q : Part) (f : Part → Bool) → p ≡ q → f p ≡ false → f q ≡ true → A
on p q f e t s = absurd (true≢false (sym s ∙ sym (ap f e) ∙ t))

-- a part in front of an except
pub excepting : (t : Part → Bool) (p : Part) (ps more : List Part) (c : Class) → excepts p ≡ true → p ∷ ps ≡ parts_of c ++ more →
    (d : Class) × (ps ≡ parts_of d ++ more) × ((t p && not (in_parts t d)) ≡ in_parts t c)
excepting t p ps more any h e = no p (Any false) excepts ((heads p (Any false) ps more e).0) h refl
excepting t p ps more (any_except d) h e = let (i, j) = heads p (Any true) ps (parts_of d ++ more) e in (d, j, ap (λ q. t q && not (in_parts t d)) i)
excepting t p ps more (namespace u) h e = no p (Namespace u false) excepts ((heads p (Namespace u false) ps more e).0) h refl
excepting t p ps more (namespace_except u d) h e = let (i, j) = heads p (Namespace u true) ps (parts_of d ++ more) e in (d, j, ap (λ q. t q && not (in_parts t d)) i)
excepting t p ps more (one m) h e = no p (One m) excepts ((heads p (One m) ps more e).0) h refl
excepting t p ps more (either a b) h e = no p Choice excepts ((heads p Choice ps ((parts_of a ++ parts_of b) ++ more) e).0) h refl

-- a part that is a class alone
pub alone : (t : Part → Bool) (p : Part) (ps more : List Part) (c : Class) → excepts p ≡ false → is_choice p ≡ false → p ∷ ps ≡ parts_of c ++ more →
    (ps ≡ more) × (t p ≡ in_parts t c)
alone t p ps more any h k e = let (i, j) = heads p (Any false) ps more e in (j, ap t i)
alone t p ps more (any_except d) h k e = on p (Any true) excepts ((heads p (Any true) ps (parts_of d ++ more) e).0) h refl
alone t p ps more (namespace u) h k e = let (i, j) = heads p (Namespace u false) ps more e in (j, ap t i)
alone t p ps more (namespace_except u d) h k e = on p (Namespace u true) excepts ((heads p (Namespace u true) ps (parts_of d ++ more) e).0) h refl
alone t p ps more (one m) h k e = let (i, j) = heads p (One m) ps more e in (j, ap t i)
alone t p ps more (either a b) h k e = on p Choice is_choice ((heads p Choice ps ((parts_of a ++ parts_of b) ++ more) e).0) k refl

-- a part in front of two classes
pub choosing : (p : Part) (ps more : List Part) (c : Class) → is_choice p ≡ true → p ∷ ps ≡ parts_of c ++ more →
    (a : Class) × (b : Class) × (ps ≡ (parts_of a ++ parts_of b) ++ more) × (c ≡ either a b)
choosing p ps more any h e = no p (Any false) is_choice ((heads p (Any false) ps more e).0) h refl
choosing p ps more (any_except d) h e = no p (Any true) is_choice ((heads p (Any true) ps (parts_of d ++ more) e).0) h refl
choosing p ps more (namespace u) h e = no p (Namespace u false) is_choice ((heads p (Namespace u false) ps more e).0) h refl
choosing p ps more (namespace_except u d) h e = no p (Namespace u true) is_choice ((heads p (Namespace u true) ps (parts_of d ++ more) e).0) h refl
choosing p ps more (one m) h e = no p (One m) is_choice ((heads p (One m) ps more e).0) h refl
choosing p ps more (either a b) h e = (a, b, (heads p Choice ps ((parts_of a ++ parts_of b) ++ more) e).1, refl)

-- Of a class, so many classes are left to be read, and whether it takes the sample is what was found or what is in one of them.
pub record IsLeft (t : Part → Bool) (c : Class) (more : List Part) (left : ℕ) (taken : Bool) (rest : List Part) : Type 0 where
  pub classes : List Class
  pub count : length classes ≡ left
  pub rest_is : rest ≡ flat_map parts_of classes ++ more
  pub value : in_parts t c ≡ (taken || list_any (in_parts t) classes)

or_false : (b : Bool) → b ≡ (b || false)
or_false true = refl
or_false false = refl

or_regroup : (a b c : Bool) → (a || (b || c)) ≡ ((a || b) || c)
or_regroup true b c = refl
or_regroup false b c = refl

pub left_first : (t : Part → Bool) (c : Class) (more parts : List Part) → parts ≡ parts_of c ++ more → IsLeft t c more 1 false parts
left_first t c more parts e = record {
  classes = c ∷ [];
  count = refl;
  rest_is = e ∙ ap (λ x. x ++ more) (sym (append-nil (parts_of c)));
  value = or_false (in_parts t c);
}

pub left_choice : (t : Part → Bool) (c : Class) (more : List Part) (left : ℕ) (taken : Bool) (rest behind : List Part) (p : Part) →
    0 < left → rest ≡ p ∷ behind → is_choice p ≡ true → IsLeft t c more left taken rest → IsLeft t c more (left + 1) taken behind
left_choice t c more left taken rest behind p some is h l = go l.classes l.count l.rest_is l.value
  where
    go : (cs : List Class) → length cs ≡ left → rest ≡ flat_map parts_of cs ++ more → in_parts t c ≡ (taken || list_any (in_parts t) cs) → IsLeft t c more (left + 1) taken behind
    go [] n r v = absurd (omega (arith, n, some))
    go (d ∷ ds) n r v =
        let (a, b, e, f) = choosing p behind (flat_map parts_of ds ++ more) d h (sym is ∙ r ∙ append_assoc (parts_of d) (flat_map parts_of ds) more) in
        record {
          classes = a ∷ b ∷ ds;
          count = omega (arith, n);
          rest_is = e ∙ append_assoc (parts_of a) (parts_of b) (flat_map parts_of ds ++ more)
              ∙ ap (λ x. parts_of a ++ x) (sym (append_assoc (parts_of b) (flat_map parts_of ds) more))
              ∙ sym (append_assoc (parts_of a) (parts_of b ++ flat_map parts_of ds) more);
          value = v ∙ ap (λ x. taken || (in_parts t x || list_any (in_parts t) ds)) f ∙ ap (λ x. taken || x) (sym (or_regroup (in_parts t a) (in_parts t b) (list_any (in_parts t) ds)));
        }

pub left_class : (t : Part → Bool) (c : Class) (more : List Part) (left : ℕ) (taken is_in : Bool) (rest behind after : List Part) (p : Part) →
    0 < left → rest ≡ p ∷ behind → ((d : Class) (ps : List Part) → p ∷ behind ≡ parts_of d ++ ps → (is_in ≡ in_parts t d) × (after ≡ ps)) →
    IsLeft t c more left taken rest → (new : ℕ) → new + 1 ≡ left → IsLeft t c more new (taken || is_in) after
left_class t c more left taken is_in rest behind after p some is h l new less = go l.classes l.count l.rest_is l.value
  where
    go : (cs : List Class) → length cs ≡ left → rest ≡ flat_map parts_of cs ++ more → in_parts t c ≡ (taken || list_any (in_parts t) cs) → IsLeft t c more new (taken || is_in) after
    go [] n r v = absurd (omega (arith, n, some))
    go (d ∷ ds) n r v =
        let (e, f) = h d (flat_map parts_of ds ++ more) (sym is ∙ r ∙ append_assoc (parts_of d) (flat_map parts_of ds) more) in
        record {
          classes = ds;
          count = omega (arith, n, less);
          rest_is = f;
          value = v ∙ ap (λ x. taken || (x || list_any (in_parts t) ds)) (sym e) ∙ or_regroup taken is_in (list_any (in_parts t) ds);
        }

pub left_none : (t : Part → Bool) (c : Class) (more : List Part) (left : ℕ) (taken : Bool) (rest : List Part) → left ≡ 0 → IsLeft t c more left taken rest → (taken ≡ in_parts t c) × (rest ≡ more)
left_none t c more left taken rest none l = go l.classes l.count l.rest_is l.value
  where
    go : (cs : List Class) → length cs ≡ left → rest ≡ flat_map parts_of cs ++ more → in_parts t c ≡ (taken || list_any (in_parts t) cs) → (taken ≡ in_parts t c) × (rest ≡ more)
    go [] n r v = (or_false taken ∙ sym v, r)
    go (d ∷ ds) n r v = absurd (omega (arith, n, none))

begun : (c : Class) (more : List Part) → [] ≡ parts_of c ++ more → ⊥
begun any more e = cc
begun (any_except c) more e = cc
begun (namespace u) more e = cc
begun (namespace_except u c) more e = cc
begun (one m) more e = cc
begun (either a b) more e = cc

-- the list doesn't end before the classes that are left
pub left_some : {A : Type 0} (t : Part → Bool) (c : Class) (more : List Part) (left : ℕ) (taken : Bool) (rest : List Part) → 0 < left → length rest ≡ 0 → IsLeft t c more left taken rest → A
left_some {A} t c more left taken rest some ends l = go l.classes l.count l.rest_is
  where
    is_nil : (xs : List Part) → length xs ≡ 0 → xs ≡ []
    is_nil [] h = refl
    is_nil (x ∷ xs) h = absurd (omega (arith, h))

    go : (cs : List Class) → length cs ≡ left → rest ≡ flat_map parts_of cs ++ more → A
    go [] n r = absurd (omega (arith, n, some))
    go (d ∷ ds) n r = absurd (begun d (flat_map parts_of ds ++ more) (sym (is_nil rest ends) ∙ r ∙ append_assoc (parts_of d) (flat_map parts_of ds) more))
