-- What is known of each number of a pool.
use Rattle.std.specs.Prelude.{◌≡◌, ℕ, List, length, slice_get, Some}
use Rattle.rng_model.specs.Patterns.{Pattern}
use Rattle.pattern_intern.specs.Stored.{Stored, tree_at}
use Rattle.restrictions.specs.Truths.{within, is_ref, is_attribute, is_no_data, is_no_start, in_attribute, in_one_or_more, in_group, in_interleave, in_except, has_loose_attribute, has_text, both_have_text}
use Rattle.restrictions.specs.declared.paths.Paths.{Paths}
use Rattle.restrictions.specs.declared.texts.Texts.{Texts}
use Rattle.restrictions.specs.declared.described.Described.{Described}

-- what stands inside the pattern, and below what
pub record ArePaths (p : Pattern) (x : Paths) : Type 0 where
  pub refs : x.refs ≡ within is_ref p
  pub attributes : x.attributes ≡ within is_attribute p
  pub group_attributes : x.group_attributes ≡ within (in_group is_attribute) p
  pub interleave_attributes : x.interleave_attributes ≡ within (in_interleave is_attribute) p
  pub no_data : x.no_data ≡ within is_no_data p
  pub no_start : x.no_start ≡ within is_no_start p
  pub attribute_refs : x.attribute_refs ≡ within (in_attribute is_ref) p
  pub attribute_attributes : x.attribute_attributes ≡ within (in_attribute is_attribute) p
  pub repeated_groups : x.repeated_groups ≡ within (in_one_or_more (in_group is_attribute)) p
  pub repeated_interleaves : x.repeated_interleaves ≡ within (in_one_or_more (in_interleave is_attribute)) p
  pub excepts : x.excepts ≡ within (in_except is_no_data) p

-- whether text stands in the pattern, and in both sides of an interleave
pub record AreTexts (p : Pattern) (x : Texts) : Type 0 where
  pub stands : x.stands ≡ has_text p
  pub meets : x.meets ≡ within both_have_text p

pub record IsDescribed (p : Pattern) (x : Described) : Type 0 where
  pub paths : ArePaths p x.paths
  pub texts : AreTexts p x.texts
  pub loose : x.loose ≡ has_loose_attribute p

-- the first n numbers of a pool are described
pub record AreDescribed (s : Stored) (n : ℕ) (xs : List Described) : Type 0 where
  pub same_length : length xs ≡ n
  pub each : (i : ℕ) (x : Described) → slice_get xs i ≡ Some x → IsDescribed (tree_at s i) x
