-- The schemas that are made for numbers: this project's own.
use Rattle.std.specs.Prelude.{ℕ, ◌+◌, ◌*◌, ◌%◌, ◌==◌, nat_le, if◌then◌else◌, List, [], ◌∷◌, ◌++◌, flat_map, codes}
use Rattle.std.specs.List.{join_by, range_with_len}

-- the items, counted from 0
unfoldable pub items : List ℕ
items = range_with_len 0 24

-- `e` and the item's letter: of item 0 `a`, of item 23 `x`
unfoldable pub item_name : ℕ → List ℕ
item_name i = codes "e" ++ (97 + i) ∷ []

-- which of the eight contents the item has
abbrev pub content_number : ℕ → ℕ → ℕ
content_number number i = (number * (i + 1) + i * i) % 8

-- 0 is an element without content that may be left out, 1 has one of two texts, 2 to 4 are without content, and 5 to 7 have one text
unfoldable pub content : ℕ → List ℕ
content d =
    if d == 0 then codes "{ empty }?"
    else if d == 1 then codes "{ \"v\" | \"w\" }"
    else if nat_le d 4 then codes "{ empty }"
    else codes "{ \"v\" }"

-- the definition of an item
unfoldable pub item_line : ℕ → ℕ → List ℕ
item_line number i = item_name i ++ codes " = element " ++ item_name i ++ codes " " ++ content (content_number number i) ++ codes "\n"

-- the root has all items in their order
unfoldable pub start_line : List ℕ
start_line = codes "start = element r { " ++ join_by item_name (codes ", ") items ++ codes " }\n"

-- The schema of a number: a line for the start, and one for each item.
unfoldable pub made : ℕ → List ℕ
made number = start_line ++ flat_map (item_line number) items
