-- Where the reading of events stands, as the definitions have it.
use Rattle.std.specs.Prelude.{ℕ, Option}
use Rattle.std.specs.Borrow.{Bor}
use Rattle.std.specs.Option.{option_map}
use Rattle.rng_model.specs.Names.{Name}
use Rattle.line_laws.specs.Walks as walk
use Rattle.skeleton.specs.declared.walk.Place.{Place}
use Rattle.skeleton.specs.declared.walk.Place.TheVariants.{Before, Tag, Content, After}

abbrev pub name_of : Option (Bor Name) → Option Name
name_of last = option_map (λ name. name.now) last

abbrev pub walk_of : Place → walk.Walk
walk_of Before = walk.Before
walk_of (Tag depth last) = walk.Tag depth (name_of last)
walk_of (Content depth may_text) = walk.Content depth may_text
walk_of After = walk.After

abbrev pub depth_of : Place → ℕ
depth_of Before = 0
depth_of (Tag depth last) = depth
depth_of (Content depth may_text) = depth
depth_of After = 0
