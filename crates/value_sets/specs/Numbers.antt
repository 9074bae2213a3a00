-- Sets by the numbers of choices.
use Rattle.std.specs.Prelude.{◌≡◌, ◌<◌, false, Option, Some, IfSome, IfNone}
use Rattle.std.specs.Map.{lookup}
use Rattle.pattern_intern.specs.Gathered.{same_number}
use Rattle.pattern_intern.specs.Stored.{Stored, count, tree_at}
use Rattle.pattern_intern.specs.declared.id.PatternId.{PatternId}
use Rattle.value_sets.specs.Taken.{Takes, is_whole}
use Rattle.value_sets.specs.declared.by_number.ValueSets.{ValueSets}
use Rattle.value_sets.specs.declared.value_set.ValueSet.{ValueSet}

-- what is kept for a number
abbrev pub set_of : ValueSets → PatternId → Option (Option ValueSet)
set_of sets id = lookup (same_number id) sets.sets.entries

-- the set takes what the number's pattern takes; none is made of other patterns
pub record IsSetOf (s : Stored) (id : PatternId) (set : Option ValueSet) : Type 0 where
  pub number : id.0 < count s
  pub takes : IfSome set (λ x. Takes x (tree_at s id.0))
  pub none : IfNone set (is_whole (tree_at s id.0) ≡ false)

-- each set is that of its number
pub record AreSets (s : Stored) (sets : ValueSets) : Type 0 where
  pub each : (id : PatternId) (set : Option ValueSet) → set_of sets id ≡ Some set → IsSetOf s id set
