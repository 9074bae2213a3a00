-- Choices of many classes.
use Rattle.std.specs.Prelude.{List, [], ◌∷◌, Option, Some, None, fold}
use Rattle.rng_model.specs.Classes.{Class, either}

-- the choice of the members, nested to the left
abbrev pub choice_of : List Class → Option Class
choice_of [] = None
choice_of (c ∷ cs) = Some (fold either c cs)
