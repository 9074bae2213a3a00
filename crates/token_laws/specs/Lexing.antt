-- Which tokens a text has, or at which place it is refused: Annex C of RELAX NG, in this project's profile. A text is its
-- characters, and a place counts the bytes before it.
use Rattle.std.specs.Prelude.{◌≡◌, ◌≢◌, ℕ, ◌+◌, ◌*◌, ◌-◌, ◌<◌, ◌≤◌, Bool, true, false, ◌&&◌, ◌||◌, not, List, [], ◌∷◌, ◌++◌, length, drop, ◌==◌, if◌then◌else◌, IsUtf8, chars, encode_utf8, encode_utf8_all, ⊤, ◌⊎◌}
use Rattle.std.specs.List.{list_all}
use Rattle.std.specs.Str.{IsValidUpTo}
use Rattle.std.specs.Char.{is_digit, digit_value}
use Rattle.rng_model.specs.Texts.{Text, is_space}
use Rattle.rng_model.specs.Names.{in_ranges, are_name_chars}
use Rattle.token_laws.specs.Tokens.{Keyword, Symbol, Token, keyword, ident, cname, ns_name, segment, symbol, tilde, Placed, ◌at◌}
use Rattle.token_laws.specs.Spellings.{keyword_text, symbol_text}

-- how many bytes the characters take
abbrev pub width : List ℕ → ℕ
width cs = length (encode_utf8_all cs)

abbrev pub is_allowed : ℕ → Bool
is_allowed = in_ranges ((9, 9) ∷ (10, 10) ∷ (13, 13) ∷ (0x20, 0xD7FF) ∷ (0xE000, 0xFFFD) ∷ (0x10000, 0x10FFFF) ∷ [])

abbrev pub is_line_end : ℕ → Bool
is_line_end c = c == 13 || c == 10

abbrev pub is_quote : ℕ → Bool
is_quote c = c == 34 || c == 39

-- one or more `x`, and `{`
abbrev pub begins_code : List ℕ → Bool
begins_code [] = false
begins_code (c ∷ []) = false
begins_code (c ∷ d ∷ cs) = c == 120 && (d == 123 || begins_code (d ∷ cs))

-- `\`, one or more `x` and `{` directly after one another
abbrev pub opens_escape : List ℕ → Bool
opens_escape [] = false
opens_escape (c ∷ cs) = c == 92 && begins_code cs

-- three times the character q
abbrev pub begins_three : ℕ → List ℕ → Bool
begins_three q (a ∷ b ∷ c ∷ cs) = a == q && (b == q && c == q)
begins_three q _ = false

-- what stands at a place outside literals, by its first characters
pub data Start : Type 0 where
  at_end : Start
  at_blank : Start
  at_comment : Start
  at_quote : Start
  at_escape : Start
  at_word : Start

abbrev pub start_of : List ℕ → Start
start_of [] = at_end
start_of (c ∷ cs) =
    if is_space c then at_blank else
    if c == 35 then at_comment else
    if is_quote c then at_quote else
    if opens_escape (c ∷ cs) then at_escape else at_word

-- the text ends, or its next character doesn't pass p
abbrev pub EndsRun : (ℕ → Bool) → List ℕ → Type 0
EndsRun p [] = ⊤
EndsRun p (c ∷ cs) = p c ≡ false

-- the longest front of cs whose characters pass p, and the rest
pub record IsRun (p : ℕ → Bool) (cs xs rest : List ℕ) : Type 0 where
  pub spelled : cs ≡ xs ++ rest
  pub passes : list_all p xs ≡ true
  pub ends : EndsRun p rest

-- A token that isn't a segment: how it is spelled.

-- the characters are an NCName, whose text is n
abbrev pub IsNcName : Text → List ℕ → Type 0
IsNcName n xs = (n ≡ encode_utf8_all xs) × (are_name_chars xs ≡ true)

abbrev pub Spells : Token → List ℕ → Type 0
Spells (keyword k) xs = xs ≡ keyword_text k
Spells (ident n) xs = (IsNcName n xs × ((k : Keyword) → xs ≢ keyword_text k)) ⊎ ((ys : List ℕ) × (xs ≡ 92 ∷ ys) × IsNcName n ys)
Spells (cname p n) xs = (ys : List ℕ) × (zs : List ℕ) × (xs ≡ ys ++ 58 ∷ zs) × IsNcName p ys × IsNcName n zs
Spells (ns_name p) xs = (ys : List ℕ) × (xs ≡ ys ++ 58 ∷ 42 ∷ []) × IsNcName p ys
Spells (segment s) xs = ⊥
Spells (symbol s) xs = xs ≡ symbol_text s

-- xs is the longest spelling that begins cs, and t is its token
pub record IsWord (cs : List ℕ) (t : Token) (xs rest : List ℕ) : Type 0 where
  pub spelled : cs ≡ xs ++ rest
  pub spelling : Spells t xs
  pub longest : (u : Token) (ys zs : List ℕ) → cs ≡ ys ++ zs → Spells u ys → length ys ≤ length xs

-- no spelling begins cs
abbrev pub HasNoWord : List ℕ → Type 0
HasNoWord cs = (t : Token) (xs rest : List ℕ) → cs ≡ xs ++ rest → Spells t xs → ⊥

-- Segments.

-- where a segment ends: behind its closing quotes, or at a fault inside
pub data SegmentEnd : Type 0 where
  closed : ℕ → List ℕ → SegmentEnd
  unclosed : SegmentEnd
  bad : ℕ → SegmentEnd
  refused : ℕ → SegmentEnd

-- what stands at a place inside a segment
pub data Inside : Type 0 where
  nothing : Inside
  quotes : Inside
  escape : Inside
  line_end : Inside
  character : Inside

-- three quotes q close a long segment, one closes a short one
abbrev pub closes : ℕ → Bool → List ℕ → Bool
closes q true cs = begins_three q cs
closes q false [] = false
closes q false (c ∷ cs) = c == q

abbrev pub inside_of : ℕ → Bool → List ℕ → Inside
inside_of q long [] = nothing
inside_of q long (c ∷ cs) =
    if closes q long (c ∷ cs) then quotes else
    if opens_escape (c ∷ cs) then escape else
    if is_line_end c then line_end else character

-- behind a line end, of which CR LF is one
abbrev pub after_line_end : List ℕ → List ℕ
after_line_end [] = []
after_line_end (c ∷ []) = []
after_line_end (c ∷ d ∷ cs) = if c == 13 && d == 10 then cs else d ∷ cs

abbrev pub hex_value : ℕ → List ℕ → ℕ
hex_value v [] = v
hex_value v (d ∷ ds) = hex_value (v * 16 + digit_value d) ds

-- a valid escape begins cs: one `x`, one to six hexadecimal digits, and the number of an allowed character
pub record IsEscape (cs : List ℕ) (n : ℕ) (digits rest : List ℕ) : Type 0 where
  pub spelled : cs ≡ 92 ∷ 120 ∷ 123 ∷ (digits ++ 125 ∷ rest)
  pub hexadecimal : list_all (λ d. is_digit d 16) digits ≡ true
  pub some : 1 ≤ length digits
  pub few : length digits ≤ 6
  pub number : n ≡ hex_value 0 digits
  pub allowed : is_allowed n ≡ true

-- inside a segment with the quote q: the text up to its end, and where that is
pub data ReadsInside (q : ℕ) (long : Bool) : ℕ → List ℕ → Text → SegmentEnd → Type 0 where
  at_end : {a : ℕ} {cs : List ℕ} → inside_of q long cs ≡ nothing → ReadsInside q long a cs [] unclosed
  at_quotes : {a b : ℕ} {cs rest : List ℕ} → inside_of q long cs ≡ quotes →
      b ≡ (if long then 3 else 1) → rest ≡ drop b cs → ReadsInside q long a cs [] (closed (a + b) rest)
  at_line_end : {a : ℕ} {cs : List ℕ} → long ≡ false → inside_of q long cs ≡ line_end → ReadsInside q long a cs [] unclosed
  over_line_end : {a : ℕ} {cs rest : List ℕ} {s : Text} {e : SegmentEnd} → long ≡ true → inside_of q long cs ≡ line_end →
      rest ≡ after_line_end cs → ReadsInside q long (a + (length cs - length rest)) rest s e → ReadsInside q long a cs (10 ∷ s) e
  over_character : {a c : ℕ} {cs : List ℕ} {s t : Text} {e : SegmentEnd} → inside_of q long (c ∷ cs) ≡ character →
      ReadsInside q long (a + width (c ∷ [])) cs s e → t ≡ encode_utf8 c ++ s → ReadsInside q long a (c ∷ cs) t e
  over_escape : {a n : ℕ} {cs digits rest : List ℕ} {s t : Text} {e : SegmentEnd} → inside_of q long cs ≡ escape →
      IsEscape cs n digits rest → is_quote n ≡ false →
      ReadsInside q long (a + (length digits + 4)) rest s e → t ≡ encode_utf8 n ++ s → ReadsInside q long a cs t e
  at_quote_escape : {a n : ℕ} {cs digits rest : List ℕ} → inside_of q long cs ≡ escape →
      IsEscape cs n digits rest → is_quote n ≡ true → ReadsInside q long a cs [] (refused a)
  at_bad_escape : {a : ℕ} {cs : List ℕ} → inside_of q long cs ≡ escape →
      ((n : ℕ) (digits rest : List ℕ) → IsEscape cs n digits rest → ⊥) → ReadsInside q long a cs [] (bad a)

-- a segment begins cs with one quote or three; three same quotes always open a long one
pub data ReadsSegment : ℕ → List ℕ → Text → SegmentEnd → Type 0 where
  long : {a q : ℕ} {cs : List ℕ} {s : Text} {e : SegmentEnd} → begins_three q (q ∷ cs) ≡ true →
      ReadsInside q true (a + 3) (drop 2 cs) s e → ReadsSegment a (q ∷ cs) s e
  short : {a q : ℕ} {cs : List ℕ} {s : Text} {e : SegmentEnd} → begins_three q (q ∷ cs) ≡ false →
      ReadsInside q false (a + 1) cs s e → ReadsSegment a (q ∷ cs) s e

-- Literals and limits.

-- what the next segment is joined to: nothing, or the bytes of the segments before a `~`
pub data Joined : Type 0 where
  apart : Joined
  after_segment : ℕ → Joined
  after_tilde : ℕ → Joined

-- the bytes of the literal with the segment s
abbrev pub literal_size : Joined → Text → ℕ
literal_size (after_tilde n) s = n + length s
literal_size _ s = length s

abbrev pub after_symbol : Joined → Symbol → Joined
after_symbol (after_segment n) tilde = after_tilde n
after_symbol _ s = apart

abbrev pub after_word : Joined → Token → Joined
after_word j (symbol s) = after_symbol j s
after_word j t = apart

abbrev pub begins_backslash : List ℕ → Bool
begins_backslash [] = false
begins_backslash (c ∷ cs) = c == 92

-- each name of the token has at most 1,024 bytes
abbrev pub AreShort : Token → Type 0
AreShort (ident n) = length n ≤ 1024
AreShort (cname p n) = (length p ≤ 1024) × (length n ≤ 1024)
AreShort (ns_name p) = length p ≤ 1024
AreShort _ = ⊤

-- the place of the first name that has more, for a token at place a that is spelled xs
abbrev pub IsTooLong : ℕ → List ℕ → Token → ℕ → Type 0
IsTooLong a xs (ident n) p = (1024 < length n) × (p ≡ (if begins_backslash xs then a + 1 else a))
IsTooLong a xs (cname m n) p = ((1024 < length m) × (p ≡ a)) ⊎ ((length m ≤ 1024) × (1024 < length n) × (p ≡ a + length m + 1))
IsTooLong a xs (ns_name m) p = (1024 < length m) × (p ≡ a)
IsTooLong a xs _ p = ⊥

pub data Fault : Type 0 where
  bad_utf8 : Fault
  bad_character : Fault
  open_literal : Fault
  bad_escape : Fault
  escape_refused : Fault
  literal_too_long : Fault
  name_too_long : Fault

-- the whole text has been read, or there is a fault at a place
pub data Ending : Type 0 where
  done : Ending
  fault : Fault → ℕ → Ending

-- the fault of a segment that begins at place a
abbrev pub IsSegmentFault : ℕ → SegmentEnd → Fault → ℕ → Type 0
IsSegmentFault a (closed b rest) f p = ⊥
IsSegmentFault a unclosed f p = (f ≡ open_literal) × (p ≡ a)
IsSegmentFault a (bad b) f p = (f ≡ bad_escape) × (p ≡ b)
IsSegmentFault a (refused b) f p = (f ≡ escape_refused) × (p ≡ b)

-- reading from the left: the tokens up to the end of the text or the first fault
pub data Reads : Joined → ℕ → List ℕ → List Placed → Ending → Type 0 where
  ends : {j : Joined} {a : ℕ} {cs : List ℕ} → start_of cs ≡ at_end → Reads j a cs [] done
  blank : {j : Joined} {a c : ℕ} {cs : List ℕ} {ts : List Placed} {e : Ending} → start_of (c ∷ cs) ≡ at_blank →
      Reads j (a + 1) cs ts e → Reads j a (c ∷ cs) ts e
  comment : {j : Joined} {a : ℕ} {cs xs rest : List ℕ} {ts : List Placed} {e : Ending} → start_of cs ≡ at_comment →
      IsRun (λ c. not (is_line_end c)) cs xs rest → Reads j (a + width xs) rest ts e → Reads j a cs ts e
  literal : {j : Joined} {a b : ℕ} {cs rest : List ℕ} {s : Text} {ts : List Placed} {e : Ending} → start_of cs ≡ at_quote →
      ReadsSegment a cs s (closed b rest) → literal_size j s ≤ 4096 →
      Reads (after_segment (literal_size j s)) b rest ts e → Reads j a cs (segment s at a ∷ ts) e
  long_literal : {j : Joined} {a b : ℕ} {cs rest : List ℕ} {s : Text} → start_of cs ≡ at_quote →
      ReadsSegment a cs s (closed b rest) → 4096 < literal_size j s → Reads j a cs [] (fault literal_too_long a)
  faulty_literal : {j : Joined} {a p : ℕ} {cs : List ℕ} {s : Text} {e : SegmentEnd} {f : Fault} → start_of cs ≡ at_quote →
      ReadsSegment a cs s e → IsSegmentFault a e f p → Reads j a cs [] (fault f p)
  escape : {j : Joined} {a : ℕ} {cs : List ℕ} → start_of cs ≡ at_escape → Reads j a cs [] (fault escape_refused a)
  word : {j : Joined} {a : ℕ} {t : Token} {cs xs rest : List ℕ} {ts : List Placed} {e : Ending} → start_of cs ≡ at_word →
      IsWord cs t xs rest → AreShort t → Reads (after_word j t) (a + width xs) rest ts e → Reads j a cs (t at a ∷ ts) e
  long_name : {j : Joined} {a p : ℕ} {t : Token} {cs xs rest : List ℕ} → start_of cs ≡ at_word →
      IsWord cs t xs rest → IsTooLong a xs t p → Reads j a cs [] (fault name_too_long p)
  no_word : {j : Joined} {a : ℕ} {cs : List ℕ} → start_of cs ≡ at_word → HasNoWord cs → Reads j a cs [] (fault bad_character a)

abbrev pub begins_mark : List ℕ → Bool
begins_mark [] = false
begins_mark (c ∷ cs) = c == 0xFEFF

-- a leading U+FEFF is the byte order mark
pub data ReadsText : List ℕ → List Placed → Ending → Type 0 where
  marked : {c : ℕ} {cs : List ℕ} {ts : List Placed} {e : Ending} → begins_mark (c ∷ cs) ≡ true → Reads apart 3 cs ts e → ReadsText (c ∷ cs) ts e
  plain : {cs : List ℕ} {ts : List Placed} {e : Ending} → begins_mark cs ≡ false → Reads apart 0 cs ts e → ReadsText cs ts e

-- the tokens of a text, with their places
pub record Tokens (bytes : List ℕ) (ts : List Placed) : Type 0 where
  pub utf8 : IsUtf8 bytes
  pub allowed : list_all is_allowed (chars bytes) ≡ true
  pub reads : ReadsText (chars bytes) ts done

-- a character that isn't allowed stands behind the characters xs
pub record IsFirstRefused (bytes xs : List ℕ) (c : ℕ) (ys : List ℕ) : Type 0 where
  pub spelled : chars bytes ≡ xs ++ c ∷ ys
  pub allowed : list_all is_allowed xs ≡ true
  pub refused : is_allowed c ≡ false

-- the fault of a text and its place
pub data LexRefusal (bytes : List ℕ) : Fault → ℕ → Type 0 where
  utf8 : {p : ℕ} → IsValidUpTo bytes p → LexRefusal bytes bad_utf8 p
  character : {p c : ℕ} {xs ys : List ℕ} → IsUtf8 bytes → IsFirstRefused bytes xs c ys → p ≡ width xs → LexRefusal bytes bad_character p
  token : {f : Fault} {p : ℕ} {ts : List Placed} → IsUtf8 bytes → list_all is_allowed (chars bytes) ≡ true →
      ReadsText (chars bytes) ts (fault f p) → LexRefusal bytes f p
