-- Which texts a set takes, and which patterns take a whole text or none.
use Rattle.std.specs.Prelude.{◌≡◌, Bool, true, false, ◌&&◌, ◌||◌}
use Rattle.std.specs.List.{list_any}
use Rattle.std.specs.Str.{bytes_eq}
use Rattle.rng_model.specs.Texts.{Text, normal}
use Rattle.rng_model.specs.Kinds.{allows, equal}
use Rattle.rng_model.specs.Patterns.{Pattern, not_allowed, empty, ref, value, data_type, attribute, choice}
use Rattle.rng_model.specs.Derivatives.{text_step, where_true}
use Rattle.text_atoms.specs.Kinds.{kind_of}
use Rattle.value_sets.specs.declared.leaf.Test.{Test}
use Rattle.value_sets.specs.declared.leaf.Test.TheVariants.{Value, DataType}
use Rattle.value_sets.specs.declared.text_set.TextSet.{TextSet}
use Rattle.value_sets.specs.declared.value_set.ValueSet.{ValueSet}

-- the text is in the set
abbrev pub has : TextSet → Text → Bool
has set t = list_any (bytes_eq t) set.texts.keys

abbrev pub test_takes : Text → Test → Bool
test_takes s (Value k v) = equal (kind_of k) s v
test_takes s (DataType k) = allows (kind_of k) s

-- the text is a string's, its normal form is a token's, or a test takes it
abbrev pub takes_of : ValueSet → Text → Bool
takes_of set s = has set.strings s || has set.tokens (normal s) || list_any (test_takes s) set.others.items

-- a pattern that is neither any text nor has parts that take a text: it takes a whole text or none
abbrev pub is_leaf : Pattern → Bool
is_leaf not_allowed = true
is_leaf empty = true
is_leaf (ref d) = true
is_leaf (value k v) = true
is_leaf (data_type k) = true
is_leaf (attribute c p) = true
is_leaf _ = false

-- such a pattern, or a choice of such members
abbrev pub is_whole : Pattern → Bool
is_whole (choice p q) = is_leaf p && is_whole q
is_whole p = is_leaf p

-- whether such a pattern takes the text
abbrev pub leaf_takes : Text → Pattern → Bool
leaf_takes s (value k v) = equal k s v
leaf_takes s (data_type k) = allows k s
leaf_takes s _ = false

-- the set takes more texts: those of the test
pub record Adds (old : ValueSet) (test : Text → Bool) (new : ValueSet) : Type 0 where
  pub takes : (s : Text) → takes_of new s ≡ (takes_of old s || test s)

-- the set has the texts that the pattern takes, and nothing has to follow one
pub record Takes (set : ValueSet) (p : Pattern) : Type 0 where
  pub step : (s : Text) → text_step s p ≡ where_true (takes_of set s) empty
