-- Each truth value is true exactly where what it speaks of is so.
use Rattle.std.proofs.Common.{◌≡◌, ◌⊎◌, inl, inr, ◌↔◌, Bool, true, false, ◌&&◌, ◌||◌, refl}
use Rattle.std.specs.Prelude.{⊤}
use Rattle.rng_model.specs.Classes.{is_infinite}
use Rattle.rng_model.specs.Patterns.{Pattern, not_allowed, empty, text, ref, value, data_type, data_except, attribute, one_or_more, choice, group, interleave, after}
use Rattle.rng_model.specs.Inside.{Within, InAttribute, InOneOrMore, InGroup, InInterleave, InExcept, IsRef, IsAttribute}
use Rattle.rng_model.specs.Restrictions.{IsNoData, IsNoStart, HasLooseAttribute, HasText, BothHaveText}
use Rattle.restrictions.specs.Truths.{within, is_ref, is_attribute, is_no_data, is_no_start, in_attribute, in_one_or_more, in_group, in_interleave, in_except, has_loose_attribute, has_text, both_have_text}

pub yes : (true ≡ true) ↔ ⊤
yes = (λ e. tt, λ t. refl)

pub no : (false ≡ true) ↔ ⊥
no = (λ e. absurd (cc), λ n. absurd n)

pub or_true : {A B : Type 0} (a b : Bool) → (a ≡ true) ↔ A → (b ≡ true) ↔ B → ((a || b) ≡ true) ↔ (A ⊎ B)
or_true true b f g = (λ e. inl (f.0 refl), λ x. refl)
or_true {A} {B} false b f g = (λ e. inr (g.0 e), go)
  where
    go : A ⊎ B → b ≡ true
    go (inl x) = let e = f.1 x in absurd (cc)
    go (inr y) = g.1 y

pub and_true : {A B : Type 0} (a b : Bool) → (a ≡ true) ↔ A → (b ≡ true) ↔ B → ((a && b) ≡ true) ↔ (A × B)
and_true true b f g = (λ e. (f.0 refl, g.0 e), λ x. g.1 x.1)
and_true false b f g = (λ e. absurd (cc), λ x. let e = f.1 x.0 in absurd (cc))

module _ (K : Pattern → Type 0) (k : Pattern → Bool) (same : (p : Pattern) → (k p ≡ true) ↔ K p) where
  pub within_is : (p : Pattern) → (within k p ≡ true) ↔ Within K p
  within_is not_allowed = same not_allowed
  within_is empty = same empty
  within_is text = same text
  within_is (ref d) = same (ref d)
  within_is (value kind t) = same (value kind t)
  within_is (data_type kind) = same (data_type kind)
  within_is (data_except kind e) = or_true (k (data_except kind e)) (within k e) (same (data_except kind e)) (within_is e)
  within_is (attribute c p) = or_true (k (attribute c p)) (within k p) (same (attribute c p)) (within_is p)
  within_is (one_or_more p) = or_true (k (one_or_more p)) (within k p) (same (one_or_more p)) (within_is p)
  within_is (choice p q) = or_true (within k p) (within k q) (within_is p) (within_is q)
  within_is (group p q) = or_true (k (group p q)) (within k p || within k q) (same (group p q)) (or_true (within k p) (within k q) (within_is p) (within_is q))
  within_is (interleave p q) = or_true (k (interleave p q)) (within k p || within k q) (same (interleave p q)) (or_true (within k p) (within k q) (within_is p) (within_is q))
  within_is (after p q) = or_true (k (after p q)) (within k p || within k q) (same (after p q)) (or_true (within k p) (within k q) (within_is p) (within_is q))

  pub in_attribute_is : (p : Pattern) → (in_attribute k p ≡ true) ↔ InAttribute K p
  in_attribute_is (attribute c p) = within_is p
  in_attribute_is _ = no

  pub in_one_or_more_is : (p : Pattern) → (in_one_or_more k p ≡ true) ↔ InOneOrMore K p
  in_one_or_more_is (one_or_more p) = within_is p
  in_one_or_more_is _ = no

  pub in_group_is : (p : Pattern) → (in_group k p ≡ true) ↔ InGroup K p
  in_group_is (group p q) = or_true (within k p) (within k q) (within_is p) (within_is q)
  in_group_is _ = no

  pub in_interleave_is : (p : Pattern) → (in_interleave k p ≡ true) ↔ InInterleave K p
  in_interleave_is (interleave p q) = or_true (within k p) (within k q) (within_is p) (within_is q)
  in_interleave_is _ = no

  pub in_except_is : (p : Pattern) → (in_except k p ≡ true) ↔ InExcept K p
  in_except_is (data_except kind e) = within_is e
  in_except_is _ = no

pub is_ref_is : (p : Pattern) → (is_ref p ≡ true) ↔ IsRef p
is_ref_is (ref d) = yes
is_ref_is _ = no

pub is_attribute_is : (p : Pattern) → (is_attribute p ≡ true) ↔ IsAttribute p
is_attribute_is (attribute c p) = yes
is_attribute_is _ = no

pub is_no_data_is : (p : Pattern) → (is_no_data p ≡ true) ↔ IsNoData p
is_no_data_is empty = yes
is_no_data_is text = yes
is_no_data_is (ref d) = yes
is_no_data_is (attribute c p) = yes
is_no_data_is (one_or_more p) = yes
is_no_data_is (group p q) = yes
is_no_data_is (interleave p q) = yes
is_no_data_is _ = no

pub is_no_start_is : (p : Pattern) → (is_no_start p ≡ true) ↔ IsNoStart p
is_no_start_is empty = yes
is_no_start_is text = yes
is_no_start_is (value kind t) = yes
is_no_start_is (data_type kind) = yes
is_no_start_is (data_except kind e) = yes
is_no_start_is (attribute c p) = yes
is_no_start_is (one_or_more p) = yes
is_no_start_is (group p q) = yes
is_no_start_is (interleave p q) = yes
is_no_start_is _ = no

pub loose_is : (p : Pattern) → (has_loose_attribute p ≡ true) ↔ HasLooseAttribute p
loose_is (attribute c p) = or_true (is_infinite c) (has_loose_attribute p) (λ e. e, λ e. e) (loose_is p)
loose_is (data_except kind e) = loose_is e
loose_is (choice p q) = or_true (has_loose_attribute p) (has_loose_attribute q) (loose_is p) (loose_is q)
loose_is (group p q) = or_true (has_loose_attribute p) (has_loose_attribute q) (loose_is p) (loose_is q)
loose_is (interleave p q) = or_true (has_loose_attribute p) (has_loose_attribute q) (loose_is p) (loose_is q)
loose_is _ = no

pub text_is : (p : Pattern) → (has_text p ≡ true) ↔ HasText p
text_is text = yes
text_is (one_or_more p) = text_is p
text_is (choice p q) = or_true (has_text p) (has_text q) (text_is p) (text_is q)
text_is (group p q) = or_true (has_text p) (has_text q) (text_is p) (text_is q)
text_is (interleave p q) = or_true (has_text p) (has_text q) (text_is p) (text_is q)
text_is (data_except kind e) = text_is e
text_is _ = no

pub both_texts_are : (p : Pattern) → (both_have_text p ≡ true) ↔ BothHaveText p
both_texts_are (interleave p q) = and_true (has_text p) (has_text q) (text_is p) (text_is q)
both_texts_are _ = no
