-- Faults that a call passes on.
use Rattle.std.proofs.Common.{◌≡◌, ℕ, ◌≤◌, ◌<◌, ◌+◌, List, length, sym, refl, subst, arith, Result, Ok, Err, IfErr, IsErrAnd, chars}
use Rattle.token_laws.specs.Tokens.{segment}
use Rattle.token_laws.specs.Lexing.{Fault, Joined, apart, after_segment, after_tilde, literal_size, literal_too_long, escape_refused, bad_character, start_of, at_quote, at_escape, at_word, closed, ReadsSegment, HasNoWord}
use Rattle.token_laws.specs.Lexing as by
use Rattle.rnc_lexer.specs.Views.{IsFault}
use Rattle.rnc_lexer.specs.declared.faults.LexFault.{LexFault}
use Rattle.rnc_lexer.specs.Steps.{place, StopsAt, StopsAnywhere, FailsSegment, LeadsToken, size_with, joined_size}

pub fault_map : (P Q : Fault → ℕ → Type 0) → ((f : Fault) (p : ℕ) → P f p → Q f p) → (x : LexFault) → IsFault P x → IsFault Q x
fault_map P Q g (LexFault.BadUtf8 p) h = g by.bad_utf8 p h
fault_map P Q g (LexFault.BadCharacter p) h = g bad_character p h
fault_map P Q g (LexFault.OpenLiteral p) h = g by.open_literal p h
fault_map P Q g (LexFault.BadEscape p) h = g by.bad_escape p h
fault_map P Q g (LexFault.EscapeRefused p) h = g escape_refused p h
fault_map P Q g (LexFault.LiteralTooLong p) h = g literal_too_long p h
fault_map P Q g (LexFault.NameTooLong p) h = g by.name_too_long p h
fault_map P Q g LexFault.OutOfMemory h = tt

-- the fault of a call is passed on by `?`
pub passed_on : {T : Type 0} (r : Result T LexFault) (e : LexFault) (P : Fault → ℕ → Type 0) → IsErrAnd r (λ f. f ≡ e) → IsFault P e → IfErr r (IsFault P)
passed_on (Ok x) e P h k = tt
passed_on (Err f) e P h k = subst (IsFault P) (sym h) k

pub passed_as : {T : Type 0} (r : Result T LexFault) (e : LexFault) (P Q : Fault → ℕ → Type 0) → ((f : Fault) (p : ℕ) → P f p → Q f p) → IsErrAnd r (λ f. f ≡ e) → IsFault P e → IfErr r (IsFault Q)
passed_as r e P Q g h k = passed_on r e Q h (fault_map P Q g e k)

pub results_map : {T : Type 0} (r : Result T LexFault) (P Q : Fault → ℕ → Type 0) → ((f : Fault) (p : ℕ) → P f p → Q f p) → IfErr r (IsFault P) → IfErr r (IsFault Q)
results_map (Ok x) P Q g h = tt
results_map (Err e) P Q g h = fault_map P Q g e h

-- Segments as tokens.

pub literal_token : (end : ℕ) (j : Joined) (before after s : List ℕ) → start_of (chars before) ≡ at_quote → ReadsSegment (place end before) (chars before) s (closed (place end after) (chars after)) →
    literal_size j s ≤ 4096 → LeadsToken end j before (segment s) after
literal_token end j before after s st r n us e k = by.literal st r n k

pub long_token : (end : ℕ) (j : Joined) (before after s : List ℕ) → start_of (chars before) ≡ at_quote → ReadsSegment (place end before) (chars before) s (closed (place end after) (chars after)) →
    4096 < literal_size j s → StopsAt end j before literal_too_long (place end before)
long_token end j before after s st r n = by.long_literal st r n

pub faulty_token : (end : ℕ) (j : Joined) (before : List ℕ) → start_of (chars before) ≡ at_quote → (f : Fault) (p : ℕ) → FailsSegment end before f p → StopsAt end j before f p
faulty_token end j before st f p (s, e, r, k) = by.faulty_literal st r k

pub size_same : (j : Joined) (s : List ℕ) → size_with j (length s) ≡ literal_size j s
size_same apart s = refl
size_same (after_segment n) s = refl
size_same (after_tilde n) s = refl

pub size_bound : (j : Joined) (n : ℕ) → size_with j n ≤ joined_size j + n
size_bound apart n = omega arith
size_bound (after_segment m) n = omega arith
size_bound (after_tilde m) n = omega arith

pub stops_anywhere : (end : ℕ) (j : Joined) (before : List ℕ) (f : Fault) (p : ℕ) → StopsAnywhere end before f p → StopsAt end j before f p
stops_anywhere end j before f p s = s j

pub stops_escape : (end : ℕ) (j : Joined) (before : List ℕ) → start_of (chars before) ≡ at_escape → StopsAt end j before escape_refused (place end before)
stops_escape end j before st = by.Reads.escape st

pub stops_stray : (end : ℕ) (before : List ℕ) → start_of (chars before) ≡ at_word → HasNoWord (chars before) → StopsAnywhere end before bad_character (place end before)
stops_stray end before st n j = by.no_word st n
