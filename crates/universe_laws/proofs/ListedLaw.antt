-- What a matched document stands for is in the list of its schema.
use Rattle.std.proofs.Common.{◌<◌, ℕ, zero, suc, ◌≤◌, inl, inr, List, [], ◌∷◌, sym, ◌∙◌, arith, Contains, IsUtf8, subst}
use Rattle.std.specs.List.{AllByRecursion}
use Rattle.rng_model.specs.Fresh.{numbered, IsFirstFree, IsAmongFree, HasFree}
use Rattle.rng_model.specs.Fresh as fresh
use Rattle.rng_model.specs.Texts.{Text}
use Rattle.rng_model.specs.Names.{Name, IsName}
use Rattle.rng_model.specs.Classes.{Class}
use Rattle.rng_model.specs.Atoms.{TextStandsFor, Literals, IsAtom}
use Rattle.rng_model.specs.Patterns.{Schema}
use Rattle.rng_model.specs.Hedges.{Attribute, Attributes, Hedge, Skeleton, size, IsSkeleton, AreChildren, BeginsWithText}
use Rattle.rng_model.specs.Universe.{NameStandsFor, IsElementClass, IsAttributeClass, InUniverse, Lists, AreLists, IsAlphabet}
use Rattle.rng_model.specs.Listing.{IsOver, IsListed}
use Rattle.rng_model.specs.Matching.{MatchesDocument}
use Rattle.universe_laws.specs.Representatives.{Put, first, later, AttributesStandFor, HedgeStandsFor, StandsFor, HasPlainKinds}
use Rattle.universe_laws.specs.Representatives as stand
use Rattle.universe_laws.proofs.TextsLaw.{child_white}
use Rattle.universe_laws.proofs.UniverseLaw.{universe_law}

-- the first that is free is among the first one that is
none_free : (taken : Text → Type 0) (stem : Text) (k : ℕ) → ((j : ℕ) → j < k → taken (numbered stem j)) → HasFree taken stem k 0
none_free taken stem zero f = fresh.none
none_free taken stem (suc k) f = fresh.past_taken (none_free taken stem k (λ j l. f j (omega arith))) (f k (omega arith))

first_among : (taken : Text → Type 0) (count : ℕ) (stem x : Text) → 0 < count → IsFirstFree taken stem x → IsAmongFree taken count stem x
first_among taken count stem x some f = record { number = f.number; earlier = 0; is = f.is; free = f.free; before = none_free taken stem f.number f.first; few = some }

-- what a name stands for is in the universe, and what a text stands for is an atom
pub name_in : (C : Class → Type 0) (count : ℕ) (n m : Name) → 0 < count → NameStandsFor C n m → InUniverse C count m
name_in C count n m some (inl (is, e)) = inl (rw e is)
name_in C count n m some (inr (inl (not, space, e, f))) = inr (inl (rw e space, first_among _ count _ _ some f))
name_in C count n m some (inr (inr (not, f, e))) = inr (inr (f, (0, some, e)))

pub text_in : (l : Literals) (s t : Text) → TextStandsFor l s t → IsAtom l t
text_in l s t (inl (is, e)) = inl (rw e is)
text_in l s t (inr (inl (not, form, f))) = inr (inl (_, form, f))
text_in l s t (inr (inr (not, free, f))) = inr (inr (inr (inr f)))

held : {K : Type 0} (P : K → Type 0) (xs : List K) → AllByRecursion P xs → (z : K) → Contains xs z → P z
held P [] h z (k, l, e) = absurd (omega arith)
held P (x ∷ xs) h z (zero, l, e) = subst P e h.0
held P (x ∷ xs) h z (suc k, l, e) = held P xs h.1 z (k, omega arith, e)

all_put : (P : Attribute → Type 0) {x : Attribute} {a b : Attributes} → Put x a b → P x → AllByRecursion P a → AllByRecursion P b
all_put P first p h = (p, h)
all_put P (later q) p h = (h.0, all_put P q p h.1)

module _ (g : Schema) (count : ℕ) (extra : List Text) (u : Lists) (some : 0 < count) (are : AreLists g count extra u) (hold : IsAlphabet u) (plain : HasPlainKinds g) where
  element_in : (n m : Name) → NameStandsFor (IsElementClass g) n m → Contains u.elements m
  element_in n m h = (are.elements.each m).1 (name_in (IsElementClass g) count n m some h)

  attribute_in : (n m : Name) → NameStandsFor (IsAttributeClass g) n m → Contains u.attributes m
  attribute_in n m h = (are.attributes.each m).1 (name_in (IsAttributeClass g) count n m some h)

  atom_in : (s t : Text) → TextStandsFor are.literals s t → Contains u.atoms t
  atom_in s t h = (are.atoms.each t).1 (inl (text_in are.literals s t h))

  attributes_in : {a b : Attributes} → AttributesStandFor g are.literals a b → AllByRecursion (λ x. Contains u.attributes x.0 × Contains u.atoms x.1) b
  attributes_in stand.AttributesStandFor.ends = tt
  attributes_in (stand.puts {n = n} {m = m} {s = s} {t = t} h k r p) =
      all_put (λ x. Contains u.attributes x.0 × Contains u.atoms x.1) p (attribute_in n m h, atom_in s t k) (attributes_in r)

  over : {m n : Hedge} → HedgeStandsFor g are.literals m n → IsOver u n
  over stand.HedgeStandsFor.ends = tt
  over (stand.element {n = n} {m = m} h a s k r) = (element_in n m h, attributes_in a, over k, over r)
  over (stand.text {s = s} {t = t} h r) = (atom_in s t h, over r)

  attributes_are : (b : Attributes) → AllByRecursion (λ x. Contains u.attributes x.0 × Contains u.atoms x.1) b → AllByRecursion (λ x. IsName x.0 × IsUtf8 x.1) b
  attributes_are [] h = tt
  attributes_are (x ∷ b) h = ((held IsName u.attributes hold.attributes x.0 h.0.0, held IsUtf8 u.atoms hold.atoms x.1 h.0.1), attributes_are b h.1)

  begins : {m n : Hedge} → HedgeStandsFor g are.literals m n → BeginsWithText n → BeginsWithText m
  begins stand.HedgeStandsFor.ends h = absurd h
  begins (stand.element n a s k r) h = absurd h
  begins (stand.text t r) h = tt

  children_are : {m n : Hedge} → HedgeStandsFor g are.literals m n → AreChildren m → AreChildren n
  children_are stand.HedgeStandsFor.ends h = tt
  children_are (stand.element {n = n} {m = m} {b = b} e a s k r) h = (
    held IsName u.elements hold.elements m (element_in n m e),
    record { ascending = s; each = attributes_are b (attributes_in a) },
    children_are k h.2,
    children_are r h.3,
  )
  children_are (stand.text {s = s} {t = t} e r) h = (
    held IsUtf8 u.atoms hold.atoms t (atom_in s t e),
    sym (child_white g are.literals are.are_literals plain s t e h.1) ∙ h.1,
    (λ b. h.2 (begins r b)),
    children_are r h.3,
  )

  is_skeleton : (d r : Skeleton) → IsSkeleton d → StandsFor g are.literals d r → IsSkeleton r
  is_skeleton d r is h =
      let t = children_are h (is.name, is.attributes, is.children, tt) in
      record { name = t.0; attributes = t.1; children = t.2 }

  pub listed_law : (d r : Skeleton) (n : ℕ) → IsSkeleton d → StandsFor g are.literals d r → MatchesDocument g d → size d ≤ n → IsListed g u n r
  listed_law d r n is h m s =
      let t = universe_law g are.literals are.are_literals plain d r is h in
      let e = t.1 in
      record { skeleton = is_skeleton d r is h; over = over h; small = omega arith; matches = t.0.0 m }
