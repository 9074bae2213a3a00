-- References in what the constructors make stand in its parts.
use Rattle.std.proofs.Common.{◌≡◌, ℕ, ◌⊎◌, inl, inr, List, [], ◌∷◌, ◌++◌, sym}
use Rattle.rng_model.specs.Kinds.{Kind}
use Rattle.rng_model.specs.Classes.{Class}
use Rattle.rng_model.specs.Patterns.{Pattern, not_allowed, empty, text, ref, value, data_type, data_except, attribute, one_or_more, choice, group, interleave, after}
use Rattle.rng_model.specs.Constructors.{choice_of, or_empty, group_of, interleave_of, one_or_more_of, attribute_of, data_of}
use Rattle.derivative_laws.proofs.ChoiceLaw.{IsSome_of, choice_of-to}
use Rattle.derivative_laws.proofs.Members.{IsIn, in_left, in_right, in_append}
use Rattle.simple_form_laws.specs.Forms.{HasRef}

some_ref : (n : ℕ) → IsSome_of (HasRef n)
some_ref n = record { never = λ e. cc; to = λ p q h. h; from = λ p q h. h }

pub ref_in_choice : (n : ℕ) (p q : Pattern) → HasRef n (choice_of p q) → HasRef n p ⊎ HasRef n q
ref_in_choice n p q h = choice_of-to (HasRef n) (some_ref n) p q h

pub ref_in_optional : (n : ℕ) (p : Pattern) → HasRef n (or_empty p) → HasRef n p
ref_in_optional n p h = go (ref_in_choice n p empty h)
  where
    go : HasRef n p ⊎ HasRef n empty → HasRef n p
    go (inl k) = k
    go (inr k) = absurd (cc)

inner : {A : Type 0} (n : ℕ) (p : Pattern) → ((p ≡ ref n) → ⊥) → (p ≡ ref n) ⊎ A → A
inner n p f (inl e) = absurd (f e)
inner n p f (inr a) = a

pub ref_in_group : (n : ℕ) (p q : Pattern) → HasRef n (group_of p q) → HasRef n p ⊎ HasRef n q
ref_in_group n not_allowed q h = inl h
ref_in_group n p not_allowed h = inr h
ref_in_group n empty q h = inr h
ref_in_group n p empty h = inl h
ref_in_group n p q h = inner n (group p q) (λ e. cc) h

pub ref_in_interleave : (n : ℕ) (p q : Pattern) → HasRef n (interleave_of p q) → HasRef n p ⊎ HasRef n q
ref_in_interleave n not_allowed q h = inl h
ref_in_interleave n p not_allowed h = inr h
ref_in_interleave n empty q h = inr h
ref_in_interleave n p empty h = inl h
ref_in_interleave n p q h = inner n (interleave p q) (λ e. cc) h

pub ref_in_more : (n : ℕ) (p : Pattern) → HasRef n (one_or_more_of p) → HasRef n p
ref_in_more n not_allowed h = h
ref_in_more n empty h = h
ref_in_more n p h = inner n (one_or_more p) (λ e. cc) h

pub ref_in_attribute : (n : ℕ) (c : Class) (p : Pattern) → HasRef n (attribute_of c p) → HasRef n p
ref_in_attribute n c not_allowed h = h
ref_in_attribute n c p h = inner n (attribute c p) (λ e. cc) h

pub ref_in_data : (n : ℕ) (k : Kind) (p : Pattern) → HasRef n (data_of k p) → HasRef n p
ref_in_data n k not_allowed h = absurd (cc)
ref_in_data n k p h = inner n (data_except k p) (λ e. cc) h

-- the references of a pattern
abbrev pub refs_of : Pattern → List ℕ
refs_of (ref n) = n ∷ []
refs_of (data_except k p) = refs_of p
refs_of (attribute c p) = refs_of p
refs_of (one_or_more p) = refs_of p
refs_of (choice p q) = refs_of p ++ refs_of q
refs_of (group p q) = refs_of p ++ refs_of q
refs_of (interleave p q) = refs_of p ++ refs_of q
refs_of (after p q) = refs_of p ++ refs_of q
refs_of p = []

both : {A B C D : Type 0} → (A → C) → (B → D) → A ⊎ B → C ⊎ D
both f g (inl a) = inl (f a)
both f g (inr b) = inr (g b)

either : {A B C : Type 0} → (A → C) → (B → C) → A ⊎ B → C
either f g (inl a) = f a
either f g (inr b) = g b

pub refs_to : (n : ℕ) (p : Pattern) → HasRef n p → IsIn n (refs_of p)
refs_to n not_allowed h = absurd (cc)
refs_to n empty h = absurd (cc)
refs_to n text h = absurd (cc)
refs_to n (ref m) h = inl (cc)
refs_to n (value k t) h = absurd (cc)
refs_to n (data_type k) h = absurd (cc)
refs_to n (data_except k p) h = refs_to n p (inner n (data_except k p) (λ e. cc) h)
refs_to n (attribute c p) h = refs_to n p (inner n (attribute c p) (λ e. cc) h)
refs_to n (one_or_more p) h = refs_to n p (inner n (one_or_more p) (λ e. cc) h)
refs_to n (choice p q) h = either (λ i. in_left n (refs_of p) (refs_of q) (refs_to n p i)) (λ i. in_right n (refs_of p) (refs_of q) (refs_to n q i)) h
refs_to n (group p q) h = either (λ i. in_left n (refs_of p) (refs_of q) (refs_to n p i)) (λ i. in_right n (refs_of p) (refs_of q) (refs_to n q i)) (inner n (group p q) (λ e. cc) h)
refs_to n (interleave p q) h = either (λ i. in_left n (refs_of p) (refs_of q) (refs_to n p i)) (λ i. in_right n (refs_of p) (refs_of q) (refs_to n q i)) (inner n (interleave p q) (λ e. cc) h)
refs_to n (after p q) h = either (λ i. in_left n (refs_of p) (refs_of q) (refs_to n p i)) (λ i. in_right n (refs_of p) (refs_of q) (refs_to n q i)) (inner n (after p q) (λ e. cc) h)

pub refs_from : (n : ℕ) (p : Pattern) → IsIn n (refs_of p) → HasRef n p
refs_from n not_allowed h = absurd h
refs_from n empty h = absurd h
refs_from n text h = absurd h
refs_from n (ref m) (inl e) = (λ i. ref (sym e i))
refs_from n (ref m) (inr h) = absurd h
refs_from n (value k t) h = absurd h
refs_from n (data_type k) h = absurd h
refs_from n (data_except k p) h = inr (refs_from n p h)
refs_from n (attribute c p) h = inr (refs_from n p h)
refs_from n (one_or_more p) h = inr (refs_from n p h)
refs_from n (choice p q) h = both (λ i. refs_from n p i) (λ i. refs_from n q i) (in_append n (refs_of p) (refs_of q) h)
refs_from n (group p q) h = inr (both (λ i. refs_from n p i) (λ i. refs_from n q i) (in_append n (refs_of p) (refs_of q) h))
refs_from n (interleave p q) h = inr (both (λ i. refs_from n p i) (λ i. refs_from n q i) (in_append n (refs_of p) (refs_of q) h))
refs_from n (after p q) h = inr (both (λ i. refs_from n p i) (λ i. refs_from n q i) (in_append n (refs_of p) (refs_of q) h))
