-- No rule before the fifth gives the fresh text, and what the map has after all rules.
use Rattle.std.proofs.Common.{◌≡◌, ℕ, zero, suc, ◌/◌, ◌%◌, ◌<◌, ◌≤◌, inl, inr, ◌↔◌, List, [], ◌∷◌, ◌++◌, refl, sym, ◌∙◌, ap, subst, Bool, true, false, ◌==◌, arith, Contains, Some, None, codes, decimal, nat_lt}
use Rattle.std.specs.List.{AllByRecursion}
use Rattle.std.specs.Fmt.{digits, digits_onto, digit_glyph}
use Rattle.std.proofs.lemmas.Bool.{lt-ltb}
use Rattle.std.proofs.lemmas.List.Elements.{All-from_recursion, All-contains}
use Rattle.std.specs.BTreeMap as tree
use Rattle.std.specs.BTreeMap.{BTreeMap}
use Rattle.rng_model.specs.Texts.{Text}
use Rattle.rng_model.specs.Kinds.{Kind, Str, Token, Boolean, Integer, NonNegative, Positive, NcName, Nmtoken}
use Rattle.rng_model.specs.Fresh.{numbered}
use Rattle.rng_model.specs.Atoms.{Literals, spaced, IsStringLiteral, IsTokenForm, IsTokenAtom, IsNormalAtom, IsSample, samples, IsFreshText}
use Rattle.text_atoms.specs.declared.origin.Origin.{Origin}
use Rattle.text_atoms.specs.declared.origin.Origin.TheVariants.{StringLiteral, TokenForm, NormalForm, Sample, Fresh, Extra}
use Rattle.text_atoms.specs.Origins.{rank_of, Gives, origin_in, Extends, HasRules, HasFresh}
use Rattle.text_atoms.proofs.FreshTexts.{first-same}
use Rattle.text_atoms.proofs.Extending.{Map, some_of, extends-as, no_rules, more_rules}

abbrev IsDigit : ℕ → Type 0
IsDigit c = (48 ≤ c) × (c ≤ 57)

glyph_is_digit : (n : ℕ) → IsDigit (digit_glyph false (n % 10))
glyph_is_digit n =
    let l : n % 10 < 10 = omega arith in
    let e : nat_lt (n % 10) 10 ≡ true = lt-ltb (n % 10) 10 l in
    rw e (omega arith, omega arith)

digits_are : (k n : ℕ) (acc : List ℕ) → AllByRecursion IsDigit acc → AllByRecursion IsDigit (digits_onto k 10 false n acc)
digits_are zero n acc h = h
digits_are (suc k) n acc h = go (n / 10 == 0) refl (digits_are k (n / 10) (digit_glyph false (n % 10) ∷ acc) (glyph_is_digit n, h))
  where
    go : (b : Bool) → (n / 10 == 0) ≡ b → AllByRecursion IsDigit (digits_onto k 10 false (n / 10) (digit_glyph false (n % 10) ∷ acc)) → AllByRecursion IsDigit (digits_onto (suc k) 10 false n acc)
    go true e i = rw e (glyph_is_digit n, h)
    go false e i = rw e i

decimal_is_digits : (n : ℕ) → AllByRecursion IsDigit (decimal n)
unfolding digits
decimal_is_digits n = digits_are 64 n [] tt

-- `t` and digits
IsNumbered : Text → Type 0
IsNumbered [] = ⊥
IsNumbered (c ∷ t) = (c ≡ 116) × AllByRecursion IsDigit t

is_numbered : (n : ℕ) → IsNumbered (numbered (codes "t") n)
unfolding IsNumbered
is_numbered zero = (refl, tt)
is_numbered (suc k) = (refl, decimal_is_digits (suc k))

ends_in_space : (t u : Text) → AllByRecursion IsDigit t → t ≡ u ++ 32 ∷ [] → ⊥
ends_in_space [] [] h e = cc
ends_in_space [] (d ∷ u) h e = cc
ends_in_space (c ∷ t) [] h e = let same : c ≡ 32 = cc in let low = h.0.0 in omega arith
ends_in_space (c ∷ t) (d ∷ u) h e = let rest : t ≡ u ++ 32 ∷ [] = cc in ends_in_space t u h.1 rest

not_spaced : (x u : Text) → IsNumbered x → x ≡ u ++ 32 ∷ [] → ⊥
unfolding IsNumbered
not_spaced [] u h e = h
not_spaced (c ∷ t) [] h e = let same : c ≡ 32 = cc in let is = h.0 in omega arith
not_spaced (c ∷ t) (d ∷ u) h e = let rest : t ≡ u ++ 32 ∷ [] = cc in ends_in_space t u h.1 rest

not_empty : (x : Text) → IsNumbered x → x ≡ [] → ⊥
unfolding IsNumbered
not_empty [] h e = h
not_empty (c ∷ t) h e = cc

samples_differ : (k : Kind) → AllByRecursion (λ (x : Text). IsNumbered x → ⊥) (samples k)
unfolding IsNumbered
samples_differ Str = tt
samples_differ Token = tt
samples_differ Boolean = ((λ h. (let a = h.0 in omega arith)), ((λ h. (let a = h.1.0.1 in omega arith)), tt))
samples_differ Integer = ((λ h. (let a = h.0 in omega arith)), ((λ h. (let a = h.0 in omega arith)), ((λ h. (let a = h.0 in omega arith)), tt)))
samples_differ NonNegative = ((λ h. (let a = h.0 in omega arith)), ((λ h. (let a = h.0 in omega arith)), tt))
samples_differ Positive = ((λ h. (let a = h.0 in omega arith)), tt)
samples_differ NcName = ((λ h. (let a = h.0 in omega arith)), tt)
samples_differ Nmtoken = ((λ h. (let a = h.0 in omega arith)), tt)

module _ (l : Literals) (extra : List Text) (x : Text) (fresh : IsFreshText l x) where
  numbered_x : IsNumbered x
  numbered_x = subst IsNumbered (sym fresh.is) (is_numbered fresh.number)

  no_string : IsStringLiteral l x → ⊥
  no_string m = fresh.free (Str, x, m, inl refl)

  no_form : (n : Text) → IsTokenForm l n → x ≡ n → ⊥
  no_form n (inl (t, m, e)) same = fresh.free (Token, t, m, inr (same ∙ e))
  no_form n (inr (empty, e)) same = not_empty x numbered_x (same ∙ e)

  no_spaced : (n : Text) (k : ℕ) → IsTokenForm l n → x ≡ spaced n k → ⊥
  no_spaced n zero form e = no_form n form e
  no_spaced n (suc k) form e = not_spaced x (spaced n k) numbered_x e

  no_normal : IsNormalAtom l x → ⊥
  no_normal (k, t, m, f, g, e) = fresh.free (k, t, m, inr e)

  no_sample : IsSample l x → ⊥
  no_sample (k, marked, m) = All-contains (λ (y : Text). IsNumbered y → ⊥) (samples k) x (All-from_recursion (λ (y : Text). IsNumbered y → ⊥) (samples k) (samples_differ k)) m numbered_x

  pub fresh_alone : (o : Origin) → rank_of o < 4 → Gives l extra o x → ⊥
  fresh_alone StringLiteral h g = no_string g
  fresh_alone TokenForm h (n, form, s) = no_spaced n s.spaces form s.is
  fresh_alone NormalForm h g = no_normal g
  fresh_alone Sample h g = no_sample g
  fresh_alone Fresh h g = omega arith
  fresh_alone Extra h g = omega arith

empty_map : (m : BTreeMap Text Origin) → tree.IsEmpty m → (x : Text) → origin_in m x ≡ None
empty_map m e x = rw e refl

-- the string literals and the atoms of the token forms
pub two_rules : (l : Literals) (f0 f1 f2 : Map) (ss ts : List Text) → ((x : Text) → Contains ss x ↔ IsStringLiteral l x) → ((x : Text) → Contains ts x ↔ IsTokenAtom l x) →
    Extends f0 f1 StringLiteral (Contains ss) → Extends f1 f2 TokenForm (Contains ts) → (extra : List Text) → HasRules l extra 0 f0 → HasRules l extra 2 f2
two_rules l f0 f1 f2 ss ts hs ht a b extra h0 = more_rules l extra f1 f2 1 TokenForm refl h1 (extends-as f1 f2 TokenForm (Contains ts) (IsTokenAtom l) (λ x. (ht x).0) (λ x. (ht x).1) b)
  where
    h1 : HasRules l extra 1 f1
    h1 = more_rules l extra f0 f1 0 StringLiteral refl h0 (extends-as f0 f1 StringLiteral (Contains ss) (IsStringLiteral l) (λ x. (hs x).0) (λ x. (hs x).1) a)

-- the normal forms, the samples and the fresh text
pub five_rules : (l : Literals) (f2 f3 f4 f5 : Map) (os ms : List Text) (t : Text) → ((x : Text) → Contains os x ↔ IsNormalAtom l x) → ((x : Text) → Contains ms x ↔ IsSample l x) → IsFreshText l t →
    Extends f2 f3 NormalForm (Contains os) → Extends f3 f4 Sample (Contains ms) → Extends f4 f5 Fresh (λ x. x ≡ t) → (extra : List Text) → HasRules l extra 2 f2 → HasFresh l extra 5 f5
five_rules l f2 f3 f4 f5 os ms t ho hm fresh c d e extra h2 = record { rules = h5; fresh = (t, at) }
  where
    h3 : HasRules l extra 3 f3
    h3 = more_rules l extra f2 f3 2 NormalForm refl h2 (extends-as f2 f3 NormalForm (Contains os) (IsNormalAtom l) (λ x. (ho x).0) (λ x. (ho x).1) c)

    h4 : HasRules l extra 4 f4
    h4 = more_rules l extra f3 f4 3 Sample refl h3 (extends-as f3 f4 Sample (Contains ms) (IsSample l) (λ x. (hm x).0) (λ x. (hm x).1) d)

    h5 : HasRules l extra 5 f5
    h5 = more_rules l extra f4 f5 4 Fresh refl h4 (extends-as f4 f5 Fresh (λ x. x ≡ t) (IsFreshText l) (λ x s. subst (IsFreshText l) (sym s) fresh) (λ x s. first-same _ (codes "t") x t s fresh) e)

    at : f5 t ≡ Some Fresh
    at =
        let (p, found) = some_of (f5 t) (e.given t refl) in
        elim (e.only t p found) [
          | inl k ↦ (let (below, rule) = h4.gives t p k in absurd (fresh_alone l extra t fresh p below rule.gives))
          | inr (n, same, s) ↦ found ∙ ap Some same
        ]

-- the extra texts besides
pub six_rules : (l : Literals) (extra : List Text) (f5 f6 : Map) → HasFresh l extra 5 f5 → Extends f5 f6 Extra (Contains extra) → HasFresh l extra 6 f6
six_rules l extra f5 f6 h g =
    let (t, at) = h.fresh in
    record { rules = more_rules l extra f5 f6 5 Extra refl h.rules g; fresh = (t, g.kept t Fresh at) }

pub empty_rules : (l : Literals) (extra : List Text) (m : BTreeMap Text Origin) → tree.IsEmpty m → HasRules l extra 0 (origin_in m)
empty_rules l extra m e = no_rules l extra (origin_in m) (empty_map m e)
