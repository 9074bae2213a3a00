-- A text and the text that it stands for are equal to the same values, and white where it matters.
use Rattle.std.proofs.Common.{◌≡◌, ◌⊎◌, inl, inr, [], ◌∷◌, refl, sym, ◌∙◌, ap, true, false, codes}
use Rattle.std.specs.Str.{bytes_eq}
use Rattle.rng_model.specs.Universe.{IsOfKind, IsLiteral, AreLiterals}
use Rattle.rng_model.specs.Texts.{Text, is_white, normal}
use Rattle.rng_model.specs.Kinds.{Kind, Str, Token, equal, allows, same_value}
use Rattle.rng_model.specs.Atoms.{TextStandsFor, Literals, IsStringLiteral, IsSpacedForm, IsTaken}
use Rattle.rng_model.specs.Fresh.{IsFirstFree}
use Rattle.rng_model.specs.Patterns.{Pattern, Schema, not_allowed, empty, text, ref, value, data_type, data_except, attribute, one_or_more, choice, group, interleave, after}
use Rattle.rng_model.specs.Inside.{Within, InSchema}
use Rattle.universe_laws.specs.Representatives.{IsPlainKind, HasPlainKinds}
use Rattle.universe_laws.proofs.Tests.{Which, which, yes, no, other_text}
use Rattle.universe_laws.proofs.NormalForm.{IsWord, is_nothing, normal-spaced, normal-word, white-normal}
use Rattle.universe_laws.proofs.Digits.{numbered_word}
use Rattle.universe_laws.proofs.Alike.{AlikeText, HasEmpty}

within_map : (K L : Pattern → Type 0) → ((p : Pattern) → K p → L p) → (p : Pattern) → Within K p → Within L p
within_map K L f not_allowed h = f _ h
within_map K L f empty h = f _ h
within_map K L f text h = f _ h
within_map K L f (ref d) h = f _ h
within_map K L f (value k t) h = f _ h
within_map K L f (data_type k) h = f _ h
within_map K L f (data_except k e) (inl h) = inl (f _ h)
within_map K L f (data_except k e) (inr h) = inr (within_map K L f e h)
within_map K L f (attribute c p) (inl h) = inl (f _ h)
within_map K L f (attribute c p) (inr h) = inr (within_map K L f p h)
within_map K L f (one_or_more p) (inl h) = inl (f _ h)
within_map K L f (one_or_more p) (inr h) = inr (within_map K L f p h)
within_map K L f (choice p q) (inl h) = inl (within_map K L f p h)
within_map K L f (choice p q) (inr h) = inr (within_map K L f q h)
within_map K L f (group p q) (inl h) = inl (f _ h)
within_map K L f (group p q) (inr (inl h)) = inr (inl (within_map K L f p h))
within_map K L f (group p q) (inr (inr h)) = inr (inr (within_map K L f q h))
within_map K L f (interleave p q) (inl h) = inl (f _ h)
within_map K L f (interleave p q) (inr (inl h)) = inr (inl (within_map K L f p h))
within_map K L f (interleave p q) (inr (inr h)) = inr (inr (within_map K L f q h))
within_map K L f (after p q) (inl h) = inl (f _ h)
within_map K L f (after p q) (inr (inl h)) = inr (inl (within_map K L f p h))
within_map K L f (after p q) (inr (inr h)) = inr (inr (within_map K L f q h))

schema_map : (K L : Pattern → Type 0) → ((p : Pattern) → K p → L p) → (g : Schema) → InSchema K g → InSchema L g
schema_map K L f g (inl h) = inl (within_map K L f g.start h)
schema_map K L f g (inr (d, e, is, h)) = inr (d, e, is, within_map K L f e.content h)

has_kind : (k : Kind) (t : Text) (p : Pattern) → p ≡ value k t → IsOfKind k p
has_kind k t p e = rw e refl

allows-plain : (k : Kind) → IsPlainKind k → (s : Text) → allows k s ≡ true
unfolding allows
allows-plain Str h s = refl
allows-plain Token h s = refl
allows-plain _ h s = absurd h

equal-plain : (k : Kind) → IsPlainKind k → (s v : Text) → equal k s v ≡ same_value k s v
unfolding equal allows
equal-plain Str h s v = refl
equal-plain Token h s v = refl
equal-plain _ h s v = absurd h

some-normal : (s : Text) → is_nothing s ≡ true → s ≡ []
some-normal [] h = refl
some-normal (c ∷ s) h = absurd (cc)

word-something : (s : Text) → IsWord s → is_nothing s ≡ false
word-something [] h = absurd h
word-something (c ∷ s) h = refl

module _ (g : Schema) (l : Literals) (are : AreLiterals g l) (plain : HasPlainKinds g) where
  -- the fresh text is a word, and is its own normal form
  fresh_word : (t : Text) → IsFirstFree (IsTaken l) (codes "t") t → IsWord t
  fresh_word t f = rw f.is (numbered_word f.number)

  spaced_normal : (s t : Text) → IsSpacedForm l (normal s) t → normal t ≡ normal s
  spaced_normal s t f = ap normal f.is ∙ normal-spaced s f.spaces

  same_values : (s t : Text) → TextStandsFor l s t → (k : Kind) → IsPlainKind k → (v : Text) → IsLiteral g (k, v) → same_value k s v ≡ same_value k t v
  same_values s t (inl (is, e)) k p v h = ap (λ x. same_value k x v) (sym e)
  same_values s t (inr (inl (not, form, f))) Str p v h =
      let lit : IsStringLiteral l v = (are.each (Str, v)).1 h in
      other_text s v (λ e. not (rw e lit)) ∙ sym (other_text t v (λ e. f.free (rw e lit)))
  same_values s t (inr (inl (not, form, f))) Token p v h = ap (λ x. bytes_eq x (normal v)) (sym (spaced_normal s t f))
  same_values s t (inr (inl h)) _ p v i = absurd p
  same_values s t (inr (inr (not, free, f))) Str p v h =
      let lit : IsStringLiteral l v = (are.each (Str, v)).1 h in
      other_text s v (λ e. not (rw e lit)) ∙ sym (other_text t v (λ e. f.free (Str, v, lit, inl e)))
  same_values s t (inr (inr (not, free, f))) Token p v h =
      let lit = (are.each (Token, v)).1 h in
      other_text (normal s) (normal v) (λ e. free (inl (v, lit, e)))
      ∙ sym (other_text (normal t) (normal v) (λ e. f.free (Token, v, lit, inr (sym (normal-word t (fresh_word t f)) ∙ e))))
  same_values s t (inr (inr h)) _ p v i = absurd p

  values_of : (s t : Text) → TextStandsFor l s t → (k : Kind) → IsPlainKind k → (v : Text) → IsLiteral g (k, v) → equal k s v ≡ equal k t v
  values_of s t h k p v i = equal-plain k p s v ∙ same_values s t h k p v i ∙ sym (equal-plain k p t v)

  pub text_stands : (s t : Text) → TextStandsFor l s t → AlikeText g s t
  text_stands s t h = record {
    values = λ k v i. values_of s t h k (plain k (schema_map (λ p. p ≡ value k v) (IsOfKind k) (has_kind k v) g i)) v i;
    kinds = λ k i. allows-plain k (plain k i) s ∙ sym (allows-plain k (plain k i) t);
  }

  fresh-ink : (t : Text) → IsFirstFree (IsTaken l) (codes "t") t → is_white t ≡ false
  fresh-ink t f =
      let w = fresh_word t f in
      white-normal t ∙ ap is_nothing (normal-word t w) ∙ word-something t w

  spaced-white : (s t : Text) → IsSpacedForm l (normal s) t → is_white s ≡ is_white t
  spaced-white s t f = white-normal s ∙ ap is_nothing (sym (spaced_normal s t f)) ∙ sym (white-normal t)

  -- a text with ink stands for one with ink
  pub child_white : (s t : Text) → TextStandsFor l s t → is_white s ≡ false → is_white s ≡ is_white t
  child_white s t (inl (is, e)) h = ap is_white (sym e)
  child_white s t (inr (inl (not, form, f))) h = spaced-white s t f
  child_white s t (inr (inr (not, free, f))) h = h ∙ sym (fresh-ink t f)

  -- a white text stands for one with ink only where no `empty` stands in an attribute
  pub attribute_white : (s t : Text) → TextStandsFor l s t → (is_white s ≡ is_white t) ⊎ (HasEmpty g → ⊥)
  attribute_white s t (inl (is, e)) = inl (ap is_white (sym e))
  attribute_white s t (inr (inl (not, form, f))) = inl (spaced-white s t f)
  attribute_white s t (inr (inr (not, free, f))) = go (which (is_white s))
    where
      nothing : is_white s ≡ true → normal s ≡ []
      nothing e = some-normal (normal s) (sym (white-normal s) ∙ e)

      go : Which (is_white s) → (is_white s ≡ is_white t) ⊎ (HasEmpty g → ⊥)
      go (no e) = inl (e ∙ sym (fresh-ink t f))
      go (yes e) = inr (λ h. free (inr (are.has_empty.1 h, nothing e)))
