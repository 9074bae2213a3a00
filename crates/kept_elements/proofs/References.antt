-- References in what is wanted.
use Rattle.std.proofs.Common.{◌≡◌, ℕ, ◌⊎◌, inl, inr, List, Option, refl, subst}
use Rattle.rng_model.specs.Patterns.{Pattern, not_allowed, empty, text, ref, value, data_type, data_except, attribute, one_or_more, choice, group, interleave, after}
use Rattle.simple_form_laws.specs.Forms.{HasRef, RefsIn}
use Rattle.schema_graph.specs.declared.graph.Graph.{Graph}
use Rattle.pattern_intern.specs.Stored.{Stored}
use Rattle.pattern_intern.specs.declared.id.PatternId.{PatternId}
use Rattle.kept_elements.specs.Wanted.{IsPartOf, IsWanted, from_part}

pub inner : {A : Type 0} (n : ℕ) (p : Pattern) → ((p ≡ ref n) → ⊥) → (p ≡ ref n) ⊎ A → A
inner n p f (inl e) = absurd (f e)
inner n p f (inr a) = a

-- a reference in a part stands in the whole
pub ref_part : (n : ℕ) (p q : Pattern) → HasRef n p → IsPartOf p q → HasRef n q
ref_part n p (data_except k e) r h = inr (subst (HasRef n) h r)
ref_part n p (attribute c e) r h = inr (subst (HasRef n) h r)
ref_part n p (one_or_more e) r h = inr (subst (HasRef n) h r)
ref_part n p (choice a b) r (inl h) = inl (subst (HasRef n) h r)
ref_part n p (choice a b) r (inr h) = inr (subst (HasRef n) h r)
ref_part n p (group a b) r (inl h) = inr (inl (subst (HasRef n) h r))
ref_part n p (group a b) r (inr h) = inr (inr (subst (HasRef n) h r))
ref_part n p (interleave a b) r (inl h) = inr (inl (subst (HasRef n) h r))
ref_part n p (interleave a b) r (inr h) = inr (inr (subst (HasRef n) h r))
ref_part n p (after a b) r (inl h) = inr (inl (subst (HasRef n) h r))
ref_part n p (after a b) r (inr h) = inr (inr (subst (HasRef n) h r))
ref_part n p q r h = absurd h

module _ (g : Graph) (pool : Stored) (forms : List (Option PatternId)) where
  two : (n : ℕ) (a b : Pattern) → (HasRef n a → IsWanted g pool forms (ref n)) → (HasRef n b → IsWanted g pool forms (ref n)) → HasRef n a ⊎ HasRef n b → IsWanted g pool forms (ref n)
  two n a b f k (inl h) = f h
  two n a b f k (inr h) = k h

  -- a reference in what is wanted is wanted
  pub ref_wanted : (n : ℕ) (q : Pattern) → IsWanted g pool forms q → HasRef n q → IsWanted g pool forms (ref n)
  ref_wanted n not_allowed w h = absurd (cc)
  ref_wanted n empty w h = absurd (cc)
  ref_wanted n text w h = absurd (cc)
  ref_wanted n (ref m) w h = subst (IsWanted g pool forms) h w
  ref_wanted n (value k t) w h = absurd (cc)
  ref_wanted n (data_type k) w h = absurd (cc)
  ref_wanted n (data_except k e) w h = ref_wanted n e (from_part w refl) (inner n (data_except k e) (λ e. cc) h)
  ref_wanted n (attribute c e) w h = ref_wanted n e (from_part w refl) (inner n (attribute c e) (λ e. cc) h)
  ref_wanted n (one_or_more e) w h = ref_wanted n e (from_part w refl) (inner n (one_or_more e) (λ e. cc) h)
  ref_wanted n (choice a b) w h = two n a b (λ k. ref_wanted n a (from_part w (inl refl)) k) (λ k. ref_wanted n b (from_part w (inr refl)) k) h
  ref_wanted n (group a b) w h =
      two n a b (λ k. ref_wanted n a (from_part w (inl refl)) k) (λ k. ref_wanted n b (from_part w (inr refl)) k) (inner n (group a b) (λ e. cc) h)
  ref_wanted n (interleave a b) w h =
      two n a b (λ k. ref_wanted n a (from_part w (inl refl)) k) (λ k. ref_wanted n b (from_part w (inr refl)) k) (inner n (interleave a b) (λ e. cc) h)
  ref_wanted n (after a b) w h =
      two n a b (λ k. ref_wanted n a (from_part w (inl refl)) k) (λ k. ref_wanted n b (from_part w (inr refl)) k) (inner n (after a b) (λ e. cc) h)

-- each reference has the property
pub refs_in : (K : ℕ → Type 0) (p : Pattern) → ((n : ℕ) → HasRef n p → K n) → RefsIn K p
refs_in K (ref n) f = f n refl
refs_in K (data_except k p) f = refs_in K p (λ n h. f n (inr h))
refs_in K (attribute c p) f = refs_in K p (λ n h. f n (inr h))
refs_in K (one_or_more p) f = refs_in K p (λ n h. f n (inr h))
refs_in K (choice p q) f = (refs_in K p (λ n h. f n (inl h)), refs_in K q (λ n h. f n (inr h)))
refs_in K (group p q) f = (refs_in K p (λ n h. f n (inr (inl h))), refs_in K q (λ n h. f n (inr (inr h))))
refs_in K (interleave p q) f = (refs_in K p (λ n h. f n (inr (inl h))), refs_in K q (λ n h. f n (inr (inr h))))
refs_in K (after p q) f = (refs_in K p (λ n h. f n (inr (inl h))), refs_in K q (λ n h. f n (inr (inr h))))
refs_in K p f = tt
