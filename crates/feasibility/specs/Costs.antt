-- The derivatives that rows take.
use Rattle.std.specs.Prelude.{ℕ, ◌-◌, List, [], Bool, false, Option, drop, length, sum_by, slice_index_or, if◌then◌else◌}
use Rattle.rng_model.specs.Texts.{is_white}
use Rattle.rng_model.specs.Universe.{Lists}
use Rattle.rng_model.specs.Alike.{Groups, group_count, inked_count}
use Rattle.pattern_intern.specs.declared.id.PatternId.{PatternId}
use Rattle.feasibility.specs.declared.explorer.Explorer.{Explorer}
use Rattle.feasibility.specs.declared.family.Family.{Family}
use Rattle.feasibility.specs.declared.family.Family.TheVariants.{Texts, Attribute, Openings}
use Rattle.feasibility.specs.Exploring.{groups_of, names}

-- the code is a text of white space alone
abbrev pub is_blank : Lists → Family → ℕ → Bool
is_blank u Texts p = is_white (slice_index_or u.atoms p [])
is_blank u _ p = false

-- the derivatives that the code of a position takes
abbrev pub cost_at : Lists → Family → ℕ → ℕ
cost_at u family p = if is_blank u family p then 0 else 1

-- the most that the codes from a position on take, where so many groups are known
abbrev pub cost_from : Lists → Groups → Family → ℕ → ℕ → ℕ
cost_from u x Texts next p = inked_count next (drop p u.atoms) (drop p x.atoms)
cost_from u x (Attribute n) next p = group_count x.atoms - next
cost_from u x Openings next p = group_count x.elements - next

abbrev pub cost_left : Explorer → Family → ℕ → ℕ → ℕ
cost_left e family next p = cost_from (names e) (groups_of e) family next p

-- the most that attributes take, where of each group of names so many groups of texts are known
abbrev pub names_cost : Explorer → List (List (Option PatternId)) → ℕ
names_cost e known = sum_by (λ ks. group_count (groups_of e).atoms - length ks) known
