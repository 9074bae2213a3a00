-- The least place of a list.
use Rattle.std.specs.Prelude.{◌≡◌, ℕ, ◌≤◌, min, List, [], ◌∷◌, Option, Some, None, Contains}

-- the lesser of two places, each of which may be missing
abbrev pub lesser : Option ℕ → Option ℕ → Option ℕ
lesser None b = b
lesser (Some a) None = Some a
lesser (Some a) (Some b) = Some (min a b)

abbrev pub least : List ℕ → Option ℕ
least [] = None
least (x ∷ xs) = lesser (Some x) (least xs)

-- a member that is not greater than another one; none where the list is empty
abbrev pub IsLeast : List ℕ → Option ℕ → Type 0
IsLeast xs None = xs ≡ []
IsLeast xs (Some a) = Contains xs a × ((b : ℕ) → Contains xs b → a ≤ b)
