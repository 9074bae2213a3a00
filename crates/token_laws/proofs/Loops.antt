-- A text read from the left by a loop: the loop stands at place b with the characters ds and the tokens ts behind it.
use Rattle.std.proofs.Common.{◌≡◌, ℕ, ◌≤◌, ◌+◌, ◌-◌, Bool, true, false, not, List, [], ◌∷◌, ◌++◌, length, refl, sym, subst, append_assoc, append-nil, encode_utf8}
use Rattle.rng_model.specs.Texts.{Text}
use Rattle.token_laws.specs.Tokens.{Token, segment, Placed, ◌at◌}
use Rattle.token_laws.specs.Lexing.{width, is_line_end, at_blank, at_comment, at_quote, at_word, start_of, IsRun, IsWord, SegmentEnd, closed, Inside, escape, line_end, character, inside_of, after_line_end, is_quote, IsEscape, ReadsInside, ReadsSegment, Joined, after_segment, literal_size, after_word, AreShort, Ending, Reads}
use Rattle.token_laws.specs.Lexing as by

-- whatever is read from here is the rest of what is read from the start
abbrev pub Lead : Joined → ℕ → List ℕ → List Placed → Joined → ℕ → List ℕ → Type 0
Lead j a cs ts k b ds = (us : List Placed) (e : Ending) → Reads k b ds us e → Reads j a cs (ts ++ us) e

pub lead_start : (j : Joined) (a : ℕ) (cs : List ℕ) → Lead j a cs [] j a cs
lead_start j a cs us e r = r

pub lead_blank : {j k : Joined} {a b c : ℕ} {cs ds : List ℕ} (ts : List Placed) → Lead j a cs ts k b (c ∷ ds) → start_of (c ∷ ds) ≡ at_blank → Lead j a cs ts k (b + 1) ds
lead_blank ts lead i us e r = lead us e (by.blank i r)

pub lead_comment : {j k : Joined} {a b : ℕ} {cs ds xs rest : List ℕ} (ts : List Placed) → Lead j a cs ts k b ds → start_of ds ≡ at_comment → IsRun (λ c. not (is_line_end c)) ds xs rest →
    Lead j a cs ts k (b + width xs) rest
lead_comment ts lead i x us e r = lead us e (by.comment i x r)

pub lead_literal : {j k : Joined} {a b d : ℕ} {cs ds rest : List ℕ} {s : Text} (ts : List Placed) → Lead j a cs ts k b ds → start_of ds ≡ at_quote → ReadsSegment b ds s (closed d rest) →
    literal_size k s ≤ 4096 → Lead j a cs (ts ++ segment s at b ∷ []) (after_segment (literal_size k s)) d rest
lead_literal {j = j} {a = a} {b = b} {cs = cs} {s = s} ts lead i x n us e r =
    subst (λ z. Reads j a cs z e) (sym (append_assoc ts (segment s at b ∷ []) us)) (lead (segment s at b ∷ us) e (by.literal i x n r))

pub lead_word : {j k : Joined} {a b : ℕ} {t : Token} {cs ds xs rest : List ℕ} (ts : List Placed) → Lead j a cs ts k b ds → start_of ds ≡ at_word → IsWord ds t xs rest → AreShort t →
    Lead j a cs (ts ++ t at b ∷ []) (after_word k t) (b + width xs) rest
lead_word {j = j} {a = a} {b = b} {t = t} {cs = cs} ts lead i x n us e r =
    subst (λ z. Reads j a cs z e) (sym (append_assoc ts (t at b ∷ []) us)) (lead (t at b ∷ us) e (by.word i x n r))

-- the end or a fault
pub lead_end : {j k : Joined} {a b : ℕ} {cs ds : List ℕ} {e : Ending} (ts : List Placed) → Lead j a cs ts k b ds → Reads k b ds [] e → Reads j a cs ts e
lead_end {j = j} {a = a} {cs = cs} {e = e} ts lead r = subst (λ z. Reads j a cs z e) (append-nil ts) (lead [] e r)

-- The same inside a segment, with the text s so far.
abbrev pub LeadInside : ℕ → Bool → ℕ → List ℕ → Text → ℕ → List ℕ → Type 0
LeadInside q long a cs s b ds = (t : Text) (e : SegmentEnd) → ReadsInside q long b ds t e → ReadsInside q long a cs (s ++ t) e

pub inside_start : (q : ℕ) (long : Bool) (a : ℕ) (cs : List ℕ) → LeadInside q long a cs [] a cs
inside_start q long a cs t e r = r

pub inside_character : {q a b c : ℕ} {long : Bool} {cs ds : List ℕ} (s : Text) → LeadInside q long a cs s b (c ∷ ds) → inside_of q long (c ∷ ds) ≡ character →
    LeadInside q long a cs (s ++ encode_utf8 c) (b + width (c ∷ [])) ds
inside_character {q = q} {a = a} {c = c} {long = long} {cs = cs} s lead i t e r =
    subst (λ z. ReadsInside q long a cs z e) (sym (append_assoc s (encode_utf8 c) t)) (lead (encode_utf8 c ++ t) e (by.over_character i r refl))

pub inside_line_end : {q a b : ℕ} {cs ds : List ℕ} (s : Text) → LeadInside q true a cs s b ds → inside_of q true ds ≡ line_end →
    LeadInside q true a cs (s ++ 10 ∷ []) (b + (length ds - length (after_line_end ds))) (after_line_end ds)
inside_line_end {q = q} {a = a} {cs = cs} s lead i t e r =
    subst (λ z. ReadsInside q true a cs z e) (sym (append_assoc s (10 ∷ []) t)) (lead (10 ∷ t) e (by.over_line_end refl i refl r))

pub inside_escape : {q a b n : ℕ} {long : Bool} {cs ds digits rest : List ℕ} (s : Text) → LeadInside q long a cs s b ds → inside_of q long ds ≡ escape → IsEscape ds n digits rest → is_quote n ≡ false →
    LeadInside q long a cs (s ++ encode_utf8 n) (b + (length digits + 4)) rest
inside_escape {q = q} {a = a} {n = n} {long = long} {cs = cs} s lead i x f t e r =
    subst (λ z. ReadsInside q long a cs z e) (sym (append_assoc s (encode_utf8 n) t)) (lead (encode_utf8 n ++ t) e (by.over_escape i x f r refl))

pub inside_end : {q a b : ℕ} {long : Bool} {cs ds : List ℕ} {e : SegmentEnd} (s : Text) → LeadInside q long a cs s b ds → ReadsInside q long b ds [] e → ReadsInside q long a cs s e
inside_end {q = q} {a = a} {long = long} {cs = cs} {e = e} s lead r = subst (λ z. ReadsInside q long a cs z e) (append-nil s) (lead [] e r)
