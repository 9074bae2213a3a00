-- The atom that stands for a text.
use Rattle.std.proofs.Common.{◌≡◌, ℕ, zero, suc, ◌+◌, ◌<◌, ◌≤◌, ◌⊎◌, inl, inr, List, [], ◌∷◌, length, refl, sym, ◌∙◌, ap, subst, Bool, true, false, arith, Contains, Some, None, Option, IfSome, IfNone, unwrap_or, slice_get, max}
use Rattle.std.specs.Str.{bytes_eq}
use Rattle.std.proofs.lemmas.Slice.Eq.{bytes_eq-Decides}
use Rattle.rng_model.proofs.Groups.{lesser}
use Rattle.rng_model.specs.Texts.{Text, normal}
use Rattle.rng_model.specs.Kinds.{Kind, Str, Token, Boolean, Integer, NonNegative, Positive, NcName, Nmtoken}
use Rattle.rng_model.specs.Atoms.{TextStandsFor, Literals, spaced, IsStringLiteral, IsTokenForm, IsSpacedForm, IsTokenAtom, AreAtoms}
use Rattle.text_atoms.specs.declared.origin.Origin.{Origin}
use Rattle.text_atoms.specs.declared.origin.Origin.TheVariants.{StringLiteral, TokenForm, Fresh}
use Rattle.text_atoms.specs.Origins.{rank_of, Gives, HaveFirstRules, texts_of}
use Rattle.text_atoms.specs.Standing.{StandsAt, SomeAt, NoneBefore, IsStringAtom, IsFormAtom}
use Rattle.std.proofs.lemmas.Option.{slice_get_within}
use Rattle.text_atoms.proofs.Members.{member_none, member_later, member_cases, member_at, place_of_member, map_member}
use Rattle.text_atoms.proofs.Spaces.{length-spaced}
use Rattle.text_atoms.proofs.SpacedForms.{normal-spaced, normal-spaces}
use Rattle.text_atoms.proofs.Extending.{rank_injective}
use Rattle.text_atoms.proofs.Finding.{Atom}

-- ---- a token form has an atom
is_string : (k : Kind) (t x : Text) → (let p : Kind × Text = (k, t) in p ≡ (Str, x)) ⊎ (let p : Kind × Text = (k, t) in p ≡ (Str, x) → ⊥)
is_string Str t x = go (bytes_eq t x) refl
  where
    go : (b : Bool) → bytes_eq t x ≡ b → (let p : Kind × Text = (Str, t) in p ≡ (Str, x)) ⊎ (let p : Kind × Text = (Str, t) in p ≡ (Str, x) → ⊥)
    go true e = inl (ap (λ (y : Text). let p : Kind × Text = (Str, y) in p) ((bytes_eq-Decides t x).0 e))
    go false e = inr (λ s. (let f : true ≡ false = sym ((bytes_eq-Decides t x).1 (ap (λ (p : Kind × Text). p.1) s)) ∙ e in cc))
is_string Token t x = inr (λ s. (let f : Token ≡ Str = ap (λ (p : Kind × Text). p.0) s in cc))
is_string Boolean t x = inr (λ s. (let f : Boolean ≡ Str = ap (λ (p : Kind × Text). p.0) s in cc))
is_string Integer t x = inr (λ s. (let f : Integer ≡ Str = ap (λ (p : Kind × Text). p.0) s in cc))
is_string NonNegative t x = inr (λ s. (let f : NonNegative ≡ Str = ap (λ (p : Kind × Text). p.0) s in cc))
is_string Positive t x = inr (λ s. (let f : Positive ≡ Str = ap (λ (p : Kind × Text). p.0) s in cc))
is_string NcName t x = inr (λ s. (let f : NcName ≡ Str = ap (λ (p : Kind × Text). p.0) s in cc))
is_string Nmtoken t x = inr (λ s. (let f : Nmtoken ≡ Str = ap (λ (p : Kind × Text). p.0) s in cc))

decided : (ms : List (Kind × Text)) (x : Text) → Contains ms (Str, x) ⊎ (Contains ms (Str, x) → ⊥)
decided [] x = inr (λ h. member_none (Str, x) h)
decided (m ∷ ms) x = go (is_string m.0 m.1 x) (decided ms x)
  where
    go : (let p : Kind × Text = (m.0, m.1) in p ≡ (Str, x)) ⊎ (let p : Kind × Text = (m.0, m.1) in p ≡ (Str, x) → ⊥) → Contains ms (Str, x) ⊎ (Contains ms (Str, x) → ⊥) →
        Contains (m ∷ ms) (Str, x) ⊎ (Contains (m ∷ ms) (Str, x) → ⊥)
    go (inl e) rest = inl (zero, omega arith, e)
    go (inr f) (inl h) = inl (member_later m (Str, x) ms h)
    go (inr f) (inr g) = inr (λ h. elim (member_cases m (Str, x) ms h) [ inl e ↦ f e | inr k ↦ g k ])

longest : List (Kind × Text) → ℕ
longest [] = 0
longest (m ∷ ms) = max (length m.1) (longest ms)

longest_bound : (ms : List (Kind × Text)) (x : Text) → Contains ms (Str, x) → length x ≤ longest ms
unfolding longest
longest_bound [] x h = absurd (member_none (Str, x) h)
longest_bound (m ∷ ms) x (zero, below, is) = let same : m.1 ≡ x = ap (λ (p : Kind × Text). p.1) is in let e = ap length same in omega arith
longest_bound (m ∷ ms) x (suc k, below, is) = let again = longest_bound ms x (k, omega arith, is) in omega arith

earlier_or_this : (j k : ℕ) → j < suc k → (j < k) ⊎ (j ≡ k)
earlier_or_this zero zero h = inr refl
earlier_or_this zero (suc k) h = inl (omega arith)
earlier_or_this (suc j) zero h = absurd (omega arith)
earlier_or_this (suc j) (suc k) h = elim (earlier_or_this j k (omega arith)) [ inl m ↦ inl (omega arith) | inr e ↦ inr (ap suc e) ]

module _ (l : Literals) (n : Text) where
  spaced_from : (fuel k : ℕ) → longest l.members < k + fuel → ((j : ℕ) → j < k → IsStringLiteral l (spaced n j)) → (x : Text) × IsSpacedForm l n x
  spaced_from zero k enough first =
      (spaced n k, record { spaces = k; is = refl; free = λ h. (let bound = longest_bound l.members (spaced n k) h in let long = length-spaced n k in omega arith); first = first })
  spaced_from (suc fuel) k enough first = go (λ f. spaced_from fuel (suc k) (omega arith) f) (decided l.members (spaced n k))
    where
      more : IsStringLiteral l (spaced n k) → (j : ℕ) → (j < k) ⊎ (j ≡ k) → IsStringLiteral l (spaced n j)
      more h j (inl e) = first j e
      more h j (inr e) = subst (λ (i : ℕ). IsStringLiteral l (spaced n i)) (sym e) h

      go : (((j : ℕ) → j < suc k → IsStringLiteral l (spaced n j)) → (x : Text) × IsSpacedForm l n x) → Contains l.members (Str, spaced n k) ⊎ (Contains l.members (Str, spaced n k) → ⊥) →
          (x : Text) × IsSpacedForm l n x
      go again (inl h) = again (λ j e. more h j (earlier_or_this j k e))
      go again (inr f) = (spaced n k, record { spaces = k; is = refl; free = f; first = first })

  pub has_spaced : (x : Text) × IsSpacedForm l n x
  has_spaced = spaced_from (suc (longest l.members)) zero (omega arith) (λ j h. absurd (omega arith))

form_normal : (l : Literals) (n : Text) (k : ℕ) → IsTokenForm l n → normal (spaced n k) ≡ n
form_normal l n k (inl (t, m, e)) = ap (λ (y : Text). normal (spaced y k)) e ∙ normal-spaced t k ∙ sym e
form_normal l n k (inr (empty, e)) = ap (λ (y : Text). normal (spaced y k)) e ∙ normal-spaces k ∙ sym e

-- ---- the atoms with their rules
module _ (l : Literals) (extra : List Text) (atoms : List (Text × Origin)) (are : AreAtoms l extra (texts_of atoms)) (rules : HaveFirstRules l extra atoms) where
  entry_of : (x : Text) → Contains (texts_of atoms) x → (o : Origin) × Contains atoms (x, o)
  entry_of x h =
      let (a, inside, same) = map_member (λ (a : Atom). a.0) atoms x h in
      (a.1, subst (λ (y : Text). Contains atoms (y, a.1)) same inside)

  not_later : (x : Text) (o p : Origin) → Contains atoms (x, o) → Gives l extra p x → rank_of o ≤ rank_of p
  not_later x o p h g = elim (lesser (rank_of p) (rank_of o)) [ inl lower ↦ absurd ((rules x o h).first p lower g) | inr le ↦ le ]

  string_listed : (x : Text) → IsStringLiteral l x → Contains atoms (x, StringLiteral)
  string_listed x g =
      let (o, h) = entry_of x ((are.each x).1 (inl (inl g))) in
      let le = not_later x o StringLiteral h g in
      subst (λ (p : Origin). Contains atoms (x, p)) (rank_injective o StringLiteral (omega arith)) h

  token_listed : (x : Text) → IsTokenAtom l x → (IsStringLiteral l x → ⊥) → Contains atoms (x, TokenForm)
  token_listed x g free =
      let (o, h) = entry_of x ((are.each x).1 (inl (inr (inl g)))) in
      let le = not_later x o TokenForm h g in
      elim (lesser (rank_of o) 1) [
        | inl lower ↦ absurd (free (let gives = (rules x o h).gives in subst (λ (p : Origin). Gives l extra p x) (rank_injective o StringLiteral (omega arith)) gives))
        | inr high ↦ subst (λ (p : Origin). Contains atoms (x, p)) (rank_injective o TokenForm (omega arith)) h
      ]

  pub stands_string : (s : Text) → Contains atoms (s, StringLiteral) → TextStandsFor l s s
  stands_string s h = inl ((rules s StringLiteral h).gives, refl)

  pub stands_form : (s x : Text) → (Contains atoms (s, StringLiteral) → ⊥) → Contains atoms (x, TokenForm) → normal x ≡ normal s → TextStandsFor l s x
  stands_form s x none h same =
      let (n, form, sp) = (rules x TokenForm h).gives in
      let at : n ≡ normal s = sym (ap normal sp.is ∙ form_normal l n sp.spaces form) ∙ same in
      inr (inl ((λ g. none (string_listed s g)), subst (IsTokenForm l) at form, subst (λ (m : Text). IsSpacedForm l m x) at sp))

  pub stands_fresh : (s x : Text) → (Contains atoms (s, StringLiteral) → ⊥) → ((y : Text) → Contains atoms (y, TokenForm) → normal y ≡ normal s → ⊥) → Contains atoms (x, Fresh) → TextStandsFor l s x
  stands_fresh s x none no_form h = inr (inr ((λ g. none (string_listed s g)), no, (rules x Fresh h).gives))
    where
      no : IsTokenForm l (normal s) → ⊥
      no form =
          let (y, sp) = has_spaced l (normal s) in
          no_form y (token_listed y (normal s, form, sp) sp.free) (ap normal sp.is ∙ form_normal l (normal s) sp.spaces form)

-- ---- by places
pub text_of_place : (atoms : List (Text × Origin)) (i : ℕ) (x : Text) (o : Origin) → slice_get atoms i ≡ Some (x, o) → slice_get (texts_of atoms) i ≡ Some x
text_of_place [] i x o e = cc
text_of_place (a ∷ atoms) zero x o e = let same : a ≡ (x, o) = cc in ap Some (ap (λ (p : Atom). p.0) same)
text_of_place (a ∷ atoms) (suc i) x o e = text_of_place atoms i x o e

pub listed_at : (atoms : List (Text × Origin)) (i : ℕ) (x : Text) (o : Origin) → slice_get atoms i ≡ Some (x, o) → Contains atoms (x, o)
listed_at atoms i x o e = member_at atoms i (x, o) e

-- an atom that isn't among those before the end isn't listed
none_listed : (atoms : List (Text × Origin)) (P : Atom → Type 0) (a : Atom) → NoneBefore atoms (length atoms) P → P a → Contains atoms a → ⊥
none_listed atoms P a none p h = let (k, e) = place_of_member atoms a h in none k a (slice_get_within atoms k a e) e p

some_listed : (atoms : List (Text × Origin)) (i : ℕ) (a : Atom) (o : Origin) → slice_get atoms i ≡ Some a → a.1 ≡ o → (slice_get (texts_of atoms) i ≡ Some a.0) × Contains atoms (a.0, o)
some_listed atoms i a o e same =
    (text_of_place atoms i a.0 a.1 e, subst (λ (p : Origin). Contains atoms (a.0, p)) same (member_at atoms i a e))

module _ (l : Literals) (extra : List Text) (atoms : List (Text × Origin)) (are : AreAtoms l extra (texts_of atoms)) (rules : HaveFirstRules l extra atoms) (s : Text) where
  pub string_stands : (i : ℕ) → SomeAt atoms i (λ a. IsStringAtom a s) → StandsAt l atoms s i
  string_stands i (a, at, (o, same)) =
      let (place, h) = some_listed atoms i a StringLiteral at o in
      record { text = s; at = place ∙ ap Some same; stands = stands_string l extra atoms are rules s (subst (λ (y : Text). Contains atoms (y, StringLiteral)) same h) }

  pub other_stands : (o : Option ℕ) (fresh : ℕ) → NoneBefore atoms (length atoms) (λ a. IsStringAtom a s) → IfSome o (λ i. SomeAt atoms i (λ a. IsFormAtom a s)) →
      IfNone o (NoneBefore atoms (length atoms) (λ a. IsFormAtom a s)) → (x : Text) × (slice_get atoms fresh ≡ Some (x, Fresh)) → StandsAt l atoms s (unwrap_or o fresh)
  other_stands (Some i) fresh none (a, at, (o, same)) h f =
      let (place, listed) = some_listed atoms i a TokenForm at o in
      record { text = a.0; at = place; stands = stands_form l extra atoms are rules s a.0 (none_listed atoms (λ b. IsStringAtom b s) (s, StringLiteral) none (refl, refl)) listed same }
  other_stands None fresh none h no_form (x, at) = record {
    text = x;
    at = text_of_place atoms fresh x Fresh at;
    stands =
        stands_fresh l extra atoms are rules s x (none_listed atoms (λ b. IsStringAtom b s) (s, StringLiteral) none (refl, refl))
        (λ y m same. none_listed atoms (λ b. IsFormAtom b s) (y, TokenForm) no_form (refl, same) m) (listed_at atoms fresh x Fresh at);
  }

pub in_range : (atoms : List (Text × Origin)) (i : ℕ) (P : Atom → Type 0) → SomeAt atoms i P → i < length atoms
in_range atoms i P (a, at, p) = slice_get_within atoms i a at

pub other_in_range : (atoms : List (Text × Origin)) (o : Option ℕ) (fresh : ℕ) (P : Atom → Type 0) → IfSome o (λ i. SomeAt atoms i P) → (x : Text) × (slice_get atoms fresh ≡ Some (x, Fresh)) →
    unwrap_or o fresh < length atoms
other_in_range atoms (Some i) fresh P h f = in_range atoms i P h
other_in_range atoms None fresh P h (x, at) = slice_get_within atoms fresh (x, Fresh) at
