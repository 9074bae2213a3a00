-- The truth values decide their rules.
use Rattle.std.proofs.Common.{◌≡◌, ◌≢◌, ◌↔◌, ℕ, inl, inr, true, false, Option, None, Some, refl}
use Rattle.rng_model.specs.Patterns.{Pattern, Schema, Definition, Defines, not_allowed, empty, text, ref, value, data_type, data_except, attribute, one_or_more, choice, group, interleave, after}
use Rattle.rng_model.specs.Inside.{InAttribute, InGroup, InInterleave, IsAttribute, IsRef, InOneOrMore, InExcept}
use Rattle.rng_model.specs.Restrictions.{ContentType, content_type, IsNoData, IsNoStart, BothHaveText}
use Rattle.restrictions.specs.Flags.{IsByFlags, flag, flag_in_start, flag_in_content, has_no_type, is_none}
use Rattle.restrictions.specs.Truths.{is_ref, is_attribute, is_no_data, is_no_start, in_attribute, in_one_or_more, in_group, in_interleave, in_except, both_have_text}
use Rattle.restrictions.specs.Rules.{Breaks, BreaksIn, BreaksStart, BreaksContent}
use Rattle.restrictions.specs.declared.rule.Rule.{Rule}
use Rattle.restrictions.specs.declared.rule.Rule.TheVariants.{AttributeRef, AttributeAttribute, OneOrMoreGroupAttribute, OneOrMoreInterleaveAttribute, DataExcept, Start, StringSequence, DuplicateAttributes, InfiniteAttribute, InterleaveElements, InterleaveText}
use Rattle.restrictions.proofs.Reflecting.{no, within_is, in_attribute_is, in_one_or_more_is, in_group_is, in_interleave_is, in_except_is, is_ref_is, is_attribute_is, is_no_data_is, is_no_start_is, loose_is, both_texts_are}

has_none : (o : Option ContentType) → (is_none o ≡ true) ↔ (o ≡ None)
has_none None = (λ e. refl, λ e. refl)
has_none (Some t) = (λ e. absurd (cc), λ e. absurd (cc))

no_type : (p : Pattern) → p ≢ not_allowed → (is_none (content_type p) ≡ true) ↔ ((p ≢ not_allowed) × (content_type p ≡ None))
no_type p n = (λ e. (n, (has_none (content_type p)).0 e), λ x. (has_none (content_type p)).1 x.1)

no_type_is : (p : Pattern) → (has_no_type p ≡ true) ↔ ((p ≢ not_allowed) × (content_type p ≡ None))
no_type_is not_allowed = (λ e. absurd (cc), λ x. absurd (x.0 refl))
no_type_is empty = no_type empty (λ e. cc)
no_type_is text = no_type text (λ e. cc)
no_type_is (ref d) = no_type (ref d) (λ e. cc)
no_type_is (value kind t) = no_type (value kind t) (λ e. cc)
no_type_is (data_type kind) = no_type (data_type kind) (λ e. cc)
no_type_is (data_except kind x) = no_type (data_except kind x) (λ e. cc)
no_type_is (attribute c p) = no_type (attribute c p) (λ e. cc)
no_type_is (one_or_more p) = no_type (one_or_more p) (λ e. cc)
no_type_is (choice p q) = no_type (choice p q) (λ e. cc)
no_type_is (group p q) = no_type (group p q) (λ e. cc)
no_type_is (interleave p q) = no_type (interleave p q) (λ e. cc)
no_type_is (after p q) = no_type (after p q) (λ e. cc)

module _ (g : Schema) where
  flag_is : (r : Rule) → IsByFlags r → (p : Pattern) → (flag r p ≡ true) ↔ BreaksIn g r p
  flag_is AttributeRef h = within_is (InAttribute IsRef) (in_attribute is_ref) (in_attribute_is IsRef is_ref is_ref_is)
  flag_is AttributeAttribute h = within_is (InAttribute IsAttribute) (in_attribute is_attribute) (in_attribute_is IsAttribute is_attribute is_attribute_is)
  flag_is OneOrMoreGroupAttribute h =
      within_is (InOneOrMore (InGroup IsAttribute)) (in_one_or_more (in_group is_attribute))
      (in_one_or_more_is (InGroup IsAttribute) (in_group is_attribute) (in_group_is IsAttribute is_attribute is_attribute_is))
  flag_is OneOrMoreInterleaveAttribute h =
      within_is (InOneOrMore (InInterleave IsAttribute)) (in_one_or_more (in_interleave is_attribute))
      (in_one_or_more_is (InInterleave IsAttribute) (in_interleave is_attribute) (in_interleave_is IsAttribute is_attribute is_attribute_is))
  flag_is DataExcept h = within_is (InExcept IsNoData) (in_except is_no_data) (in_except_is IsNoData is_no_data is_no_data_is)
  flag_is Start h = λ p. no
  flag_is StringSequence h = λ p. no
  flag_is DuplicateAttributes h = absurd h
  flag_is InfiniteAttribute h = loose_is
  flag_is InterleaveElements h = absurd h
  flag_is InterleaveText h = within_is BothHaveText both_have_text both_texts_are

  start_is : (r : Rule) → IsByFlags r → (p : Pattern) → (flag_in_start r p ≡ true) ↔ BreaksStart g r p
  start_is Start h = within_is IsNoStart is_no_start is_no_start_is
  start_is AttributeRef h = flag_is AttributeRef h
  start_is AttributeAttribute h = flag_is AttributeAttribute h
  start_is OneOrMoreGroupAttribute h = flag_is OneOrMoreGroupAttribute h
  start_is OneOrMoreInterleaveAttribute h = flag_is OneOrMoreInterleaveAttribute h
  start_is DataExcept h = flag_is DataExcept h
  start_is StringSequence h = flag_is StringSequence h
  start_is DuplicateAttributes h = absurd h
  start_is InfiniteAttribute h = flag_is InfiniteAttribute h
  start_is InterleaveElements h = absurd h
  start_is InterleaveText h = flag_is InterleaveText h

  content_is : (r : Rule) → IsByFlags r → (p : Pattern) → (flag_in_content r p ≡ true) ↔ BreaksContent g r p
  content_is StringSequence h = no_type_is
  content_is AttributeRef h = flag_is AttributeRef h
  content_is AttributeAttribute h = flag_is AttributeAttribute h
  content_is OneOrMoreGroupAttribute h = flag_is OneOrMoreGroupAttribute h
  content_is OneOrMoreInterleaveAttribute h = flag_is OneOrMoreInterleaveAttribute h
  content_is DataExcept h = flag_is DataExcept h
  content_is Start h = flag_is Start h
  content_is DuplicateAttributes h = absurd h
  content_is InfiniteAttribute h = flag_is InfiniteAttribute h
  content_is InterleaveElements h = absurd h
  content_is InterleaveText h = flag_is InterleaveText h

  -- some content has the flag
  abbrev pub HasFlag : Rule → Type 0
  HasFlag r = (d : ℕ) × (e : Definition) × Defines g d e × (flag_in_content r e.content ≡ true)

  pub start_breaks : (r : Rule) → IsByFlags r → flag_in_start r g.start ≡ true → Breaks g r
  start_breaks r h e = inl ((start_is r h g.start).0 e)

  pub content_breaks : (r : Rule) → IsByFlags r → HasFlag r → Breaks g r
  content_breaks r h (d, e, is, f) = inr (d, e, is, (content_is r h e.content).0 f)

  pub flags_hold : (r : Rule) → IsByFlags r → flag_in_start r g.start ≡ false → ((d : ℕ) (e : Definition) → Defines g d e → flag_in_content r e.content ≡ true → ⊥) → Breaks g r → ⊥
  flags_hold r h e f (inl b) = let t = (start_is r h g.start).1 b in cc
  flags_hold r h e f (inr (d, x, is, b)) = f d x is ((content_is r h x.content).1 b)

-- what a description says of the rules but two is what it says of a start and of a content
pub start_other : (r : Rule) → (r ≡ Start → ⊥) → (p : Pattern) → flag r p ≡ flag_in_start r p
start_other Start n p = absurd (n refl)
start_other _ n p = refl

pub content_other : (r : Rule) → (r ≡ StringSequence → ⊥) → (p : Pattern) → flag r p ≡ flag_in_content r p
content_other StringSequence n p = absurd (n refl)
content_other _ n p = refl
