-- A map of atoms that is extended rule by rule.
use Rattle.std.proofs.Common.{◌≡◌, ℕ, zero, suc, ◌+◌, ◌<◌, ◌≤◌, ◌⊎◌, inl, inr, List, [], ◌∷◌, ◌++◌, length, refl, sym, ◌∙◌, ap, subst, Bool, true, false, cond, arith, Contains, Some, None, Option, IsSome, is_some, get_or, take, append_assoc, append-nil}
use Rattle.std.specs.Ordering.{nat_cmp}
use Rattle.std.specs.Cmp.Lexicographic.{slice_cmp}
use Rattle.std.specs.BTreeMap as tree
use Rattle.std.specs.BTreeMap.{BTreeMap, is_at}
use Rattle.std.proofs.lemmas.List.{take_more, take_all}
use Rattle.std.proofs.lemmas.List.Elements.{Contains-push_cases, Contains-append_left, Contains-push}
use Rattle.rng_model.specs.Texts.{Text}
use Rattle.rng_model.specs.Atoms.{Literals}
use Rattle.text_atoms.specs.declared.origin.Origin.{Origin}
use Rattle.text_atoms.specs.declared.origin.Origin.TheVariants.{StringLiteral, TokenForm, NormalForm, Sample, Fresh, Extra}
use Rattle.text_atoms.specs.Origins.{rank_of, Gives, IsFirstRule, origin_in, Extends, HasRules}
use Rattle.text_atoms.proofs.Members.{member_none}
use Rattle.text_atoms.proofs.Sets.{is_at-same, is_at-exact}

abbrev pub Map : Type 0
Map = Text → Option Origin

pub some_of : {X : Type 0} (o : Option X) → IsSome o → (x : X) × (o ≡ Some x)
some_of None h = absurd (cc)
some_of (Some x) h = (x, refl)

is_some_at : {X : Type 0} (o : Option X) (x : X) → o ≡ Some x → IsSome o
is_some_at o x e = rw e refl

pub extends-none : (f : Map) (o : Origin) → Extends f f o (λ x. ⊥)
extends-none f o = record { kept = λ x p e. e; given = λ x h. absurd h; only = λ x p e. inl e }

-- for texts that are named alike
pub extends-as : (f g : Map) (o : Origin) (G H : Text → Type 0) → ((x : Text) → G x → H x) → ((x : Text) → H x → G x) → Extends f g o G → Extends f g o H
extends-as f g o G H to from e = record {
  kept = e.kept;
  given = λ x h. e.given x (from x h);
  only = λ x p h. elim (e.only x p h) [ inl k ↦ inl k | inr (n, q, r) ↦ inr (n, q, to x r) ];
}

-- one extension after another
pub extends-more : (f g h : Map) (o : Origin) (G H : Text → Type 0) → Extends f g o G → Extends g h o H → Extends f h o (λ x. G x ⊎ H x)
extends-more f g h o G H a b = record { kept = λ x p e. b.kept x p (a.kept x p e); given = given; only = only }
  where
    given : (x : Text) → G x ⊎ H x → IsSome (h x)
    given x (inl s) = let (p, e) = some_of (g x) (a.given x s) in is_some_at (h x) p (b.kept x p e)
    given x (inr s) = b.given x s

    none_before : (x : Text) (v : Option Origin) → f x ≡ v → g x ≡ None → f x ≡ None
    none_before x None e n = e
    none_before x (Some p) e n = let q : Some p ≡ None = sym (a.kept x p e) ∙ n in cc

    only : (x : Text) (p : Origin) → h x ≡ Some p → (f x ≡ Some p) ⊎ ((f x ≡ None) × (p ≡ o) × (G x ⊎ H x))
    only x p e = elim (b.only x p e) [
      | inl k ↦ elim (a.only x p k) [ inl j ↦ inl j | inr (n, q, r) ↦ inr (n, q, inl r) ]
      | inr (n, q, r) ↦ inr (none_before x (f x) refl n, q, inr r)
    ]

pub none_from : (o : Option Origin) → false ≡ is_some o → o ≡ None
none_from None e = refl
none_from (Some x) e = cc

-- a text that is there
pub put_old : (m : BTreeMap Text Origin) (k : Text) (o : Origin) → IsSome (origin_in m k) → Extends (origin_in m) (origin_in m) o (λ x. x ≡ k)
put_old m k o h = record { kept = λ x p e. e; given = λ x e. rw e h; only = λ x p e. inl e }

-- a text that isn't there
pub put_new : (m n : BTreeMap Text Origin) (k : Text) (o : Origin) → origin_in m k ≡ None → tree.Updates (slice_cmp nat_cmp) m n k (Some o) →
    Extends (origin_in m) (origin_in n) o (λ x. x ≡ k)
put_new m n k o absent updates = record { kept = λ x p e. kept x p (is_at (slice_cmp nat_cmp k) x) refl e; given = given; only = λ x p e. only x p (is_at (slice_cmp nat_cmp k) x) refl (sym (updates.0 x) ∙ e) }
  where
    kept : (x : Text) (p : Origin) (b : Bool) → is_at (slice_cmp nat_cmp k) x ≡ b → origin_in m x ≡ Some p → origin_in n x ≡ Some p
    kept x p true e h = let q : None ≡ Some p = sym absent ∙ ap (origin_in m) (is_at-exact k x e) ∙ h in cc
    kept x p false e h = updates.0 x ∙ ap (λ (b : Bool). cond b (Some o) (origin_in m x)) e ∙ h

    given : (x : Text) → x ≡ k → IsSome (origin_in n x)
    given x e = is_some_at (origin_in n x) o (updates.0 x ∙ ap (λ (b : Bool). cond b (Some o) (origin_in m x)) (ap (is_at (slice_cmp nat_cmp k)) e ∙ is_at-same k))

    only : (x : Text) (p : Origin) (b : Bool) → is_at (slice_cmp nat_cmp k) x ≡ b → cond (is_at (slice_cmp nat_cmp k) x) (Some o) (origin_in m x) ≡ Some p →
        (origin_in m x ≡ Some p) ⊎ ((origin_in m x ≡ None) × (p ≡ o) × (x ≡ k))
    only x p true e h =
        let at : x ≡ k = sym (is_at-exact k x e) in
        let is : Some o ≡ Some p = sym (ap (λ (b : Bool). cond b (Some o) (origin_in m x)) e) ∙ h in
        let same : p ≡ o = cc in
        inr (ap (origin_in m) at ∙ absent, same, at)
    only x p false e h = inl (sym (ap (λ (b : Bool). cond b (Some o) (origin_in m x)) e) ∙ h)

-- the first of the texts that are left is put
abbrev pub IsPutInto : Map → Map → Origin → List Text → List Text → Type 0
IsPutInto f g o all left = (done : List Text) × (all ≡ done ++ left) × Extends f g o (Contains done)

pub put_first : (f g h : Map) (o : Origin) (all left rest : List Text) (x : Text) → left ≡ x ∷ rest → IsPutInto f g o all left → Extends g h o (λ y. y ≡ x) → IsPutInto f h o all rest
put_first f g h o all left rest x is (done, parts, before) step = (
  done ++ x ∷ [],
  parts ∙ ap (λ (ys : List Text). done ++ ys) is ∙ sym (append_assoc done (x ∷ []) rest),
  extends-as f h o (λ y. Contains done y ⊎ (y ≡ x)) (Contains (done ++ x ∷ [])) to from (extends-more f g h o (Contains done) (λ y. y ≡ x) before step),
)
  where
    to : (y : Text) → Contains done y ⊎ (y ≡ x) → Contains (done ++ x ∷ []) y
    to y (inl m) = Contains-append_left done (x ∷ []) y m
    to y (inr e) = subst (Contains (done ++ x ∷ [])) (sym e) (Contains-push done x)

    from : (y : Text) → Contains (done ++ x ∷ []) y → Contains done y ⊎ (y ≡ x)
    from y m = elim (Contains-push_cases done x y m) [ inl k ↦ inl k | inr e ↦ inr (sym e) ]

pub put_none : (f : Map) (o : Origin) (all : List Text) → IsPutInto f f o all all
put_none f o all = ([], refl, extends-as f f o (λ x. ⊥) (Contains []) (λ x h. absurd h) (λ x h. member_none x h) (extends-none f o))

pub put_each : (f g : Map) (o : Origin) (all left : List Text) → left ≡ [] → IsPutInto f g o all left → Extends f g o (Contains all)
put_each f g o all left none (done, parts, e) =
    let same : all ≡ done = parts ∙ ap (λ (ys : List Text). done ++ ys) none ∙ append-nil done in
    extends-as f g o (Contains done) (Contains all) (λ x h. subst (λ (ys : List Text). Contains ys x) (sym same) h) (λ x h. subst (λ (ys : List Text). Contains ys x) same h) e

-- the texts of a slice in turn
pub put_next : (f g h : Map) (o : Origin) (xs : List Text) (i : ℕ) (x : Text) → i < length xs → x ≡ get_or xs i x → Extends f g o (Contains (take i xs)) → Extends g h o (λ y. y ≡ x) →
    Extends f h o (Contains (take (i + 1) xs))
put_next f g h o xs i x below is before step =
    extends-as f h o (λ y. Contains (take i xs) y ⊎ (y ≡ x)) (Contains (take (i + 1) xs)) to from (extends-more f g h o (Contains (take i xs)) (λ y. y ≡ x) before step)
  where
    grown : take (i + 1) xs ≡ take i xs ++ x ∷ []
    grown = take_more xs i x below ∙ ap (λ (y : Text). take i xs ++ y ∷ []) (sym is)

    to : (y : Text) → Contains (take i xs) y ⊎ (y ≡ x) → Contains (take (i + 1) xs) y
    to y (inl m) = subst (λ (ys : List Text). Contains ys y) (sym grown) (Contains-append_left (take i xs) (x ∷ []) y m)
    to y (inr e) = subst (λ (ys : List Text). Contains ys y) (sym grown) (subst (Contains (take i xs ++ x ∷ [])) (sym e) (Contains-push (take i xs) x))

    from : (y : Text) → Contains (take (i + 1) xs) y → Contains (take i xs) y ⊎ (y ≡ x)
    from y m = elim (Contains-push_cases (take i xs) x y (subst (λ (ys : List Text). Contains ys y) grown m)) [ inl k ↦ inl k | inr e ↦ inr (sym e) ]

pub put_nothing : (f : Map) (o : Origin) → Extends f f o (Contains [])
put_nothing f o = extends-as f f o (λ x. ⊥) (Contains []) (λ x h. absurd h) (λ x h. member_none x h) (extends-none f o)

pub put_slice : (f g : Map) (o : Origin) (xs : List Text) (i : ℕ) → length xs ≤ i → Extends f g o (Contains (take i xs)) → Extends f g o (Contains xs)
put_slice f g o xs i long e = subst (λ (ys : List Text). Extends f g o (Contains ys)) (take_all i xs long) e

pub rank_injective : (o p : Origin) → rank_of o ≡ rank_of p → o ≡ p
rank_injective StringLiteral StringLiteral e = refl
rank_injective TokenForm TokenForm e = refl
rank_injective NormalForm NormalForm e = refl
rank_injective Sample Sample e = refl
rank_injective Fresh Fresh e = refl
rank_injective Extra Extra e = refl
rank_injective _ _ e = absurd (omega arith)

last_or_earlier : (a n : ℕ) → a < n + 1 → (a < n) ⊎ (a ≡ n)
last_or_earlier zero zero h = inr refl
last_or_earlier zero (suc n) h = inl (omega arith)
last_or_earlier (suc a) zero h = absurd (omega arith)
last_or_earlier (suc a) (suc n) h = elim (last_or_earlier a n (omega arith)) [ inl l ↦ inl (omega arith) | inr e ↦ inr (ap suc e) ]

module _ (l : Literals) (extra : List Text) where
  pub no_rules : (f : Map) → ((x : Text) → f x ≡ None) → HasRules l extra 0 f
  no_rules f none = record { gives = λ x o e. (let q : None ≡ Some o = sym (none x) ∙ e in cc); all = λ x o h. absurd (omega arith) }

  -- one rule more
  pub more_rules : (f g : Map) (n : ℕ) (o : Origin) → rank_of o ≡ n → HasRules l extra n f → Extends f g o (Gives l extra o) → HasRules l extra (n + 1) g
  more_rules f g n o rank before e = record { gives = gives; all = all }
    where
      gives : (x : Text) (p : Origin) → g x ≡ Some p → (rank_of p < n + 1) × IsFirstRule l extra p x
      gives x p h = elim (e.only x p h) [
        | inl k ↦ let (below, rule) = before.gives x p k in (omega arith, rule)
        | inr (none, same, given) ↦
            let at : rank_of p ≡ n = ap rank_of same ∙ rank in (
              omega arith,
              record {
                gives = subst (λ (q : Origin). Gives l extra q x) (sym same) given;
                first = λ q lower h. (
                    let (r, found) = some_of (f x) (before.all x q (omega arith) h) in
                    let clash : None ≡ Some r = sym none ∙ found in cc);
              },
            )
      ]

      all : (x : Text) (p : Origin) → rank_of p < n + 1 → Gives l extra p x → IsSome (g x)
      all x p below h = elim (last_or_earlier (rank_of p) n below) [
        | inl lower ↦ let (q, found) = some_of (f x) (before.all x p lower h) in is_some_at (g x) q (e.kept x q found)
        | inr same ↦ e.given x (subst (λ (q : Origin). Gives l extra q x) (rank_injective p o (same ∙ sym rank)) h)
      ]
