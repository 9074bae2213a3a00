-- What each part of the lexer does with the rest of the text: its bytes before and after. A text has `end` bytes.
use Rattle.std.specs.Prelude.{◌≡◌, ℕ, ◌+◌, ◌-◌, ◌<◌, ◌≤◌, Bool, true, false, not, nat_eq, Some, None, Option, slice_get, List, [], ◌∷◌, ◌++◌, length, chars, encode_utf8, encode_utf8_all}
use Rattle.std.specs.Char.{is_digit}
use Rattle.std.specs.Option.{option_eq}
use Rattle.rng_model.specs.Texts.{Text}
use Rattle.token_laws.specs.Tokens.{Token, segment, symbol, Placed, ◌at◌}
use Rattle.token_laws.specs.Lexing.{is_line_end, is_quote, begins_three, closes, Start, at_blank, at_comment, IsRun, IsWord, SegmentEnd, closed, is_allowed, hex_value, after_line_end, IsEscape, ReadsInside, ReadsSegment, IsSegmentFault, Joined, apart, after_segment, after_tilde, literal_size, after_symbol, Fault, bad_escape, escape_refused, Ending, fault, Reads, ReadsText, IsFirstRefused, width}

-- the place where `rest` is left
abbrev pub place : ℕ → List ℕ → ℕ
place end rest = end - length rest

-- `text` is the longest run of characters that pass
pub record TakesRun (p : ℕ → Bool) (before text after : List ℕ) : Type 0 where
  pub characters : List ℕ
  pub spelled : text ≡ encode_utf8_all characters
  pub bytes : before ≡ text ++ after
  pub run : IsRun p (chars before) characters (chars after)

-- the character is taken, or another or none is there
abbrev pub Takes : ℕ → List ℕ → Bool → List ℕ → Type 0
Takes c before true after = (before ≡ encode_utf8 c ++ after) × (chars before ≡ c ∷ chars after)
Takes c before false after = (after ≡ before) × (option_eq nat_eq (slice_get (chars before) 0) (Some c) ≡ false)

-- three times the character
abbrev pub TakesThree : ℕ → List ℕ → Bool → List ℕ → Type 0
TakesThree c before true after = (length before ≡ length (encode_utf8_all (c ∷ c ∷ c ∷ [])) + length after) × (chars before ≡ c ∷ c ∷ c ∷ chars after)
TakesThree c before false after = (after ≡ before) × (begins_three c (chars before) ≡ false)

-- not at a line end
abbrev pub in_line : ℕ → Bool
in_line c = not (is_line_end c)

-- a blank or a comment
abbrev pub is_gap : Start → Bool
is_gap at_blank = true
is_gap at_comment = true
is_gap _ = false

-- the token t with its longest spelling
pub record TakesWord (before : List ℕ) (t : Token) (after : List ℕ) : Type 0 where
  pub characters : List ℕ
  pub bytes : before ≡ encode_utf8_all characters ++ after
  pub word : IsWord (chars before) t characters (chars after)

-- reading from the left where `rest` is left
abbrev pub ReadsRest : ℕ → Joined → List ℕ → List Placed → Ending → Type 0
ReadsRest end j rest ts e = Reads j (place end rest) (chars rest) ts e

-- whatever is read from `after` is read from `before`
abbrev pub Skips : ℕ → List ℕ → List ℕ → Type 0
Skips end before after = (j : Joined) (ts : List Placed) (e : Ending) → ReadsRest end j after ts e → ReadsRest end j before ts e

-- whatever is read from `after` is the rest of what is read from `before`, with the tokens ts before it
abbrev pub Leads : ℕ → Joined → List ℕ → List Placed → Joined → List ℕ → Type 0
Leads end j before ts k after = (us : List Placed) (e : Ending) → ReadsRest end k after us e → ReadsRest end j before (ts ++ us) e

-- reading ends at once with the fault
abbrev pub StopsAt : ℕ → Joined → List ℕ → Fault → ℕ → Type 0
StopsAt end j before f p = ReadsRest end j before [] (fault f p)

-- the same, whatever stands before
abbrev pub StopsAnywhere : ℕ → List ℕ → Fault → ℕ → Type 0
StopsAnywhere end before f p = (j : Joined) → StopsAt end j before f p

-- what the next segment is joined to behind the token
abbrev pub after_token : Joined → Token → Joined
after_token j (segment s) = after_segment (literal_size j s)
after_token j (symbol s) = after_symbol j s
after_token j _ = apart

-- the token t stands at the beginning of `before`, and reading goes on with `after`
abbrev pub LeadsToken : ℕ → Joined → List ℕ → Token → List ℕ → Type 0
LeadsToken end j before t after = Leads end j before (t at place end before ∷ []) (after_token j t) after

-- how many bytes the literal has so far
abbrev pub joined_size : Joined → ℕ
joined_size apart = 0
joined_size (after_segment n) = n
joined_size (after_tilde n) = n

-- how many bytes the literal has with a segment of n
abbrev pub size_with : Joined → ℕ → ℕ
size_with (after_tilde m) n = m + n
size_with _ n = n

-- a segment with the quote q is read inside, where `rest` is left
abbrev pub ReadsMore : ℕ → ℕ → Bool → List ℕ → Text → SegmentEnd → Type 0
ReadsMore end q long rest s e = ReadsInside q long (place end rest) (chars rest) s e

-- `after` stands behind the opening quotes of the segment that begins `before`, and the text s in it
abbrev pub LeadsSegment : ℕ → List ℕ → ℕ → Bool → Text → List ℕ → Type 0
LeadsSegment end before q long s after = (t : Text) (e : SegmentEnd) → ReadsMore end q long after t e → ReadsSegment (place end before) (chars before) (s ++ t) e

-- behind the character c of a line end, the line feed of CR LF is passed
abbrev pub SkipsFeed : ℕ → List ℕ → List ℕ → Type 0
SkipsFeed c before after =
    (chars after ≡ after_line_end (c ∷ chars before)) × ((n : ℕ) × (length before ≡ n + length after) × (length (chars before) ≡ n + length (chars after)))

-- the closing quotes stand at the beginning of `before`, or don't
abbrev pub Closes : ℕ → ℕ → Bool → List ℕ → Bool → List ℕ → Type 0
Closes end q long before true after = ReadsMore end q long before [] (closed (place end after) (chars after)) × (length after < length before)
Closes end q long before false after = (after ≡ before) × (closes q long (chars before) ≡ false)

-- the character c stands at the beginning of `before` inside a segment, or its closing quotes do
abbrev pub TakesInside : ℕ → ℕ → Bool → List ℕ → Option ℕ → List ℕ → Type 0
TakesInside end q long before None after = ReadsMore end q long before [] (closed (place end after) (chars after))
TakesInside end q long before (Some c) after = (t : Text) (e : SegmentEnd) → ReadsMore end q long after t e → ReadsMore end q long before (encode_utf8 c ++ t) e

-- a segment that begins at `start` ends with the fault, where `before` is left
abbrev pub FailsInside : ℕ → ℕ → Bool → ℕ → List ℕ → Fault → ℕ → Type 0
FailsInside end q long start before f p = (e : SegmentEnd) × ReadsMore end q long before [] e × IsSegmentFault start e f p

-- the segment that begins `before`, and its fault
abbrev pub FailsSegment : ℕ → List ℕ → Fault → ℕ → Type 0
FailsSegment end before f p = (s : Text) × (e : SegmentEnd) × ReadsSegment (place end before) (chars before) s e × IsSegmentFault (place end before) e f p

-- a hexadecimal digit
abbrev pub is_hexadecimal : ℕ → Bool
is_hexadecimal c = is_digit c 16

-- a valid escape stands for the character n
pub record TakesEscape (end : ℕ) (before : List ℕ) (n : ℕ) (after : List ℕ) : Type 0 where
  pub digits : List ℕ
  pub escape : IsEscape (chars before) n digits (chars after)
  pub size : length before ≡ length after + (length digits + 4)

-- one to six digits, and the number of an allowed character
pub record IsNumber (digits : List ℕ) (n : ℕ) : Type 0 where
  pub some : 1 ≤ length digits
  pub few : length digits ≤ 6
  pub number : n ≡ hex_value 0 digits
  pub allowed : is_allowed n ≡ true

abbrev pub HasNoNumber : List ℕ → Type 0
HasNoNumber digits = (n : ℕ) → IsNumber digits n → ⊥

-- no valid escape stands here
abbrev pub HasNoEscape : List ℕ → Type 0
HasNoEscape before = (n : ℕ) (digits rest : List ℕ) → IsEscape (chars before) n digits rest → ⊥

-- the escape isn't valid, or stands for a quote
abbrev pub FailsEscape : ℕ → List ℕ → Fault → ℕ → Type 0
FailsEscape end before bad_escape p = (p ≡ place end before) × HasNoEscape before
FailsEscape end before escape_refused p = (p ≡ place end before) × ((n : ℕ) × (after : List ℕ) × TakesEscape end before n after × (is_quote n ≡ true))
FailsEscape end before _ p = ⊥

-- whatever is read from `rest` is what the whole text reads
abbrev pub BeginsText : List ℕ → List ℕ → Type 0
BeginsText text rest = (ts : List Placed) (e : Ending) → ReadsRest (length text) apart rest ts e → ReadsText (chars text) ts e

-- the first character that isn't allowed stands at place p
abbrev pub IsRefusedAt : List ℕ → ℕ → Type 0
IsRefusedAt text p = (xs : List ℕ) × (c : ℕ) × (ys : List ℕ) × IsFirstRefused text xs c ys × (p ≡ width xs)
