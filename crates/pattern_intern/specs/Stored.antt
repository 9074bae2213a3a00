-- What contracts see of a pool: the trees that the numbers of patterns stand for, and the classes and literals by number.
use Rattle.std.specs.Prelude.{◌≡◌, ℕ, ◌<◌, ◌≤◌, List, [], length, slice_index_or, refl}
use Rattle.std.specs.Coded.{Coded, code_by, coded_ℕ, coded_list, coded×}
use Rattle.rng_model.specs.Texts.{Text}
use Rattle.rng_model.specs.Classes.{Class, any}
use Rattle.rng_model.specs.Patterns.{Pattern, not_allowed}
use Rattle.rng_model.specs.CodedPatterns.{pattern_code, class_code}

pub record Stored : Type 0 where
  pub trees : List Pattern
  pub classes : List Class
  pub literals : List Text

abbrev pub stored : List Pattern → List Class → List Text → Stored
stored ps cs ls = record { trees = ps; classes = cs; literals = ls }

abbrev pub stored_code : Coded Stored
stored_code =
    code_by (List Pattern × (List Class × List Text)) (coded× (coded_list pattern_code) (coded× (coded_list class_code) (coded_list (coded_list coded_ℕ))))
    (λ s. (s.trees, (s.classes, s.literals))) (λ x. record { trees = x.0; classes = x.1.0; literals = x.1.1 }) (λ _. refl)

-- the number of patterns
abbrev pub count : Stored → ℕ
count s = length s.trees

-- the tree of a number, the class and the literal
abbrev pub tree_at : Stored → ℕ → Pattern
tree_at s id = slice_index_or s.trees id not_allowed

abbrev pub class_at : Stored → ℕ → Class
class_at s id = slice_index_or s.classes id any

abbrev pub literal_at : Stored → ℕ → Text
literal_at s id = slice_index_or s.literals id []

-- numbers are equal where what they stand for is
pub record AreApart (s : Stored) : Type 0 where
  pub trees : (i j : ℕ) → i < length s.trees → j < length s.trees → tree_at s i ≡ tree_at s j → i ≡ j
  pub classes : (i j : ℕ) → i < length s.classes → j < length s.classes → class_at s i ≡ class_at s j → i ≡ j
  pub literals : (i j : ℕ) → i < length s.literals → j < length s.literals → literal_at s i ≡ literal_at s j → i ≡ j

-- every number given before stands for what it stood for
pub record Extends (old new : Stored) : Type 0 where
  pub longer : length old.trees ≤ length new.trees
  pub kept : (id : ℕ) → id < length old.trees → tree_at new id ≡ tree_at old id
  pub more_classes : length old.classes ≤ length new.classes
  pub classes : (id : ℕ) → id < length old.classes → class_at new id ≡ class_at old id
  pub more_literals : length old.literals ≤ length new.literals
  pub literals : (id : ℕ) → id < length old.literals → literal_at new id ≡ literal_at old id
