-- The rules that what stands inside the patterns decides, as truth values.
use Rattle.std.specs.Prelude.{Bool, true, false, Option, Some, None, ⊤}
use Rattle.rng_model.specs.Patterns.{Pattern, not_allowed}
use Rattle.rng_model.specs.Restrictions.{ContentType, content_type}
use Rattle.restrictions.specs.Truths.{within, is_ref, is_attribute, is_no_data, is_no_start, in_attribute, in_one_or_more, in_group, in_interleave, in_except, has_loose_attribute, both_have_text}
use Rattle.restrictions.specs.declared.rule.Rule.{Rule}
use Rattle.restrictions.specs.declared.rule.Rule.TheVariants.{AttributeRef, AttributeAttribute, OneOrMoreGroupAttribute, OneOrMoreInterleaveAttribute, DataExcept, Start, StringSequence, DuplicateAttributes, InfiniteAttribute, InterleaveElements, InterleaveText}

-- all rules but the two on overlaps of name classes
abbrev pub IsByFlags : Rule → Type 0
IsByFlags DuplicateAttributes = ⊥
IsByFlags InterleaveElements = ⊥
IsByFlags r = ⊤

abbrev pub flag : Rule → Pattern → Bool
flag AttributeRef p = within (in_attribute is_ref) p
flag AttributeAttribute p = within (in_attribute is_attribute) p
flag OneOrMoreGroupAttribute p = within (in_one_or_more (in_group is_attribute)) p
flag OneOrMoreInterleaveAttribute p = within (in_one_or_more (in_interleave is_attribute)) p
flag DataExcept p = within (in_except is_no_data) p
flag Start p = false
flag StringSequence p = false
flag DuplicateAttributes p = false
flag InfiniteAttribute p = has_loose_attribute p
flag InterleaveElements p = false
flag InterleaveText p = within both_have_text p

abbrev pub is_none : Option ContentType → Bool
is_none None = true
is_none (Some t) = false

-- the pattern isn't notAllowed and has no content type
abbrev pub has_no_type : Pattern → Bool
has_no_type not_allowed = false
has_no_type p = is_none (content_type p)

abbrev pub flag_in_start : Rule → Pattern → Bool
flag_in_start Start p = within is_no_start p
flag_in_start r p = flag r p

abbrev pub flag_in_content : Rule → Pattern → Bool
flag_in_content StringSequence p = has_no_type p
flag_in_content r p = flag r p
