-- What stands inside a pattern, as truth values: each is got from the node and from the truths of its parts.
use Rattle.std.specs.Prelude.{⊤, Bool, true, false, ◌&&◌, ◌||◌}
use Rattle.rng_model.specs.Classes.{is_infinite}
use Rattle.rng_model.specs.Patterns.{Pattern, not_allowed, empty, text, ref, value, data_type, data_except, attribute, one_or_more, choice, group, interleave, after}

-- k is true of the pattern or of one that stands inside it; of a choice the members alone count
abbrev pub within : (Pattern → Bool) → Pattern → Bool
within k not_allowed = k not_allowed
within k empty = k empty
within k text = k text
within k (ref d) = k (ref d)
within k (value kind t) = k (value kind t)
within k (data_type kind) = k (data_type kind)
within k (data_except kind e) = k (data_except kind e) || within k e
within k (attribute c p) = k (attribute c p) || within k p
within k (one_or_more p) = k (one_or_more p) || within k p
within k (choice p q) = within k p || within k q
within k (group p q) = k (group p q) || (within k p || within k q)
within k (interleave p q) = k (interleave p q) || (within k p || within k q)
within k (after p q) = k (after p q) || (within k p || within k q)

-- the pattern has no parts
abbrev pub IsLeaf : Pattern → Type 0
IsLeaf (data_except kind e) = ⊥
IsLeaf (attribute c p) = ⊥
IsLeaf (one_or_more p) = ⊥
IsLeaf (choice p q) = ⊥
IsLeaf (group p q) = ⊥
IsLeaf (interleave p q) = ⊥
IsLeaf (after p q) = ⊥
IsLeaf _ = ⊤

abbrev pub is_ref : Pattern → Bool
is_ref (ref d) = true
is_ref _ = false

abbrev pub is_attribute : Pattern → Bool
is_attribute (attribute c p) = true
is_attribute _ = false

-- what may not stand in the except of a datatype
abbrev pub is_no_data : Pattern → Bool
is_no_data empty = true
is_no_data text = true
is_no_data (ref d) = true
is_no_data (attribute c p) = true
is_no_data (one_or_more p) = true
is_no_data (group p q) = true
is_no_data (interleave p q) = true
is_no_data _ = false

-- what may not stand in the start pattern
abbrev pub is_no_start : Pattern → Bool
is_no_start empty = true
is_no_start text = true
is_no_start (value kind t) = true
is_no_start (data_type kind) = true
is_no_start (data_except kind e) = true
is_no_start (attribute c p) = true
is_no_start (one_or_more p) = true
is_no_start (group p q) = true
is_no_start (interleave p q) = true
is_no_start _ = false

-- the pattern is an attribute, and k is true of something inside it; the next say the same of oneOrMore, group, interleave and the
-- except of a datatype
abbrev pub in_attribute : (Pattern → Bool) → Pattern → Bool
in_attribute k (attribute c p) = within k p
in_attribute k _ = false

abbrev pub in_one_or_more : (Pattern → Bool) → Pattern → Bool
in_one_or_more k (one_or_more p) = within k p
in_one_or_more k _ = false

abbrev pub in_group : (Pattern → Bool) → Pattern → Bool
in_group k (group p q) = within k p || within k q
in_group k _ = false

abbrev pub in_interleave : (Pattern → Bool) → Pattern → Bool
in_interleave k (interleave p q) = within k p || within k q
in_interleave k _ = false

abbrev pub in_except : (Pattern → Bool) → Pattern → Bool
in_except k (data_except kind e) = within k e
in_except k _ = false

-- an attribute with an infinite class outside each oneOrMore
abbrev pub has_loose_attribute : Pattern → Bool
has_loose_attribute (attribute c p) = is_infinite c || has_loose_attribute p
has_loose_attribute (data_except kind e) = has_loose_attribute e
has_loose_attribute (choice p q) = has_loose_attribute p || has_loose_attribute q
has_loose_attribute (group p q) = has_loose_attribute p || has_loose_attribute q
has_loose_attribute (interleave p q) = has_loose_attribute p || has_loose_attribute q
has_loose_attribute _ = false

-- text outside each attribute
abbrev pub has_text : Pattern → Bool
has_text text = true
has_text (one_or_more p) = has_text p
has_text (choice p q) = has_text p || has_text q
has_text (group p q) = has_text p || has_text q
has_text (interleave p q) = has_text p || has_text q
has_text (data_except kind e) = has_text e
has_text _ = false

-- each side of an interleave has such a text
abbrev pub both_have_text : Pattern → Bool
both_have_text (interleave p q) = has_text p && has_text q
both_have_text _ = false
