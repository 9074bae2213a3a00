-- What is open after codes, and the end of a document in which no node is left: this project's own.
use Rattle.std.specs.Prelude.{Bool, true, false, ℕ, ◌+◌, ◌-◌, List, [], ◌∷◌, ◌++◌, zero, suc}
use Rattle.lister.specs.declared.standing.Standing.{Standing}
use Rattle.lister.specs.declared.standing.Standing.TheVariants as standing
use Rattle.rng_model.specs.Codes.{Code, Opening, Attr, Body, Chars, Closing}

-- how many elements are open, and whether the tag of the innermost one is
pub record Open : Type 0 where
  pub depth : ℕ
  pub in_tag : Bool

abbrev pub open_of : Standing → Open
open_of (standing.InTag d) = record { depth = d; in_tag = true }
open_of (standing.NoTag d) = record { depth = d; in_tag = false }

abbrev pub open_after : Open → Code → Open
open_after o (Opening i) = record { depth = o.depth + 1; in_tag = true }
open_after o (Attr j s) = record { depth = o.depth; in_tag = true }
open_after o Body = record { depth = o.depth; in_tag = false }
open_after o (Chars s) = record { depth = o.depth; in_tag = false }
open_after o Closing = record { depth = o.depth - 1; in_tag = false }

-- what is open after the codes
abbrev pub opened : Open → List Code → Open
opened o [] = o
opened o (c ∷ cs) = opened (open_after o c) cs

abbrev pub nothing_open : Open
nothing_open = record { depth = 0; in_tag = false }

-- what is open after the codes from the start
abbrev pub open_at : List Code → Open
open_at = opened nothing_open

abbrev pub body_if : Bool → List Code
body_if true = Body ∷ []
body_if false = []

-- so many ends of elements
abbrev pub closings : ℕ → List Code
closings zero = []
closings (suc d) = Closing ∷ closings d

-- the codes that end the tag, and each element that is open
abbrev pub ending_codes : Open → List Code
ending_codes o = body_if o.in_tag ++ closings o.depth
