-- Whether a text may be taken next: this project's own.
use Rattle.std.specs.Prelude.{Bool, true, false, ◌&&◌, ◌||◌}
use Rattle.rng_model.specs.Matching.{nullable}
use Rattle.rng_model.specs.Patterns.{Pattern, text, value, data_type, data_except, one_or_more, choice, group, interleave, after}

-- some text may be taken, if it is the right one
unfoldable pub has_text : Pattern → Bool
has_text text = true
has_text (value k v) = true
has_text (data_type k) = true
has_text (data_except k e) = true
has_text (choice p q) = has_text p || has_text q
has_text (group p q) = has_text p || (nullable p && has_text q)
has_text (interleave p q) = has_text p || has_text q
has_text (one_or_more p) = has_text p
has_text (after p q) = has_text p
has_text _ = false
