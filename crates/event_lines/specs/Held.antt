-- Codes whose lines are held, and the lines of a document's end: this project's own.
use Rattle.std.specs.Prelude.{◌≡◌, ℕ, ◌≤◌, List, flat_map, get_or, length, replicate, take}
use Rattle.rng_model.specs.Codes as model
use Rattle.skeleton.specs.declared.code.Code.{Code}
use Rattle.skeleton.specs.declared.code.Code.TheVariants as variant
use Rattle.event_lines.specs.declared.spellings.Spellings.{Spellings}
use Rattle.event_lines.specs.Spelled.{spelled_line}

-- the list begins with this one
abbrev pub BeginsWith : List model.Code → List model.Code → Type 0
BeginsWith codes front = take (length front) codes ≡ front

-- spellings, and the codes whose lines by these are held
pub record SpelledCodes : Type 0 where
  pub spellings : Spellings
  pub codes : List model.Code

-- lines one behind the other, their codes, and where each line starts
pub record Held : Type 0 where
  pub text : List ℕ
  pub codes : List Code
  pub starts : List ℕ

-- the text is the lines of the codes by the spellings; each line starts where those before it end, and so will the next
pub record HoldsLines (s : Spellings) (h : Held) : Type 0 where
  pub text : h.text ≡ flat_map (spelled_line s) h.codes
  pub starts : (i : ℕ) → i ≤ length h.codes → get_or h.starts i 0 ≡ length (flat_map (spelled_line s) (take i h.codes))

-- up to so many codes, as far as both go, the two begin alike
abbrev pub BeginAlike : ℕ → List Code → List Code → Type 0
BeginAlike n held codes = (i : ℕ) → i ≤ n → i ≤ length held → i ≤ length codes → take i held ≡ take i codes

-- the end of so many elements
abbrev pub closings : ℕ → List Code
closings n = replicate n variant.Closing
