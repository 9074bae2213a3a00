-- Faults behind the lines of events.
use Rattle.std.proofs.Common.{◌≡◌, ℕ, suc, ◌⊎◌, inl, inr, true, false, ◌&&◌, cond, List, [], ◌∷◌, ◌++◌, length, Option, Some, None, refl, sym, ◌∙◌, ap, append_assoc, arith}
use Rattle.std.specs.Prelude.{◌==◌, bytes_eq}
use Rattle.std.proofs.lemmas.Bool.{ne_eqb}
use Rattle.std.proofs.lemmas.Bool.Decides.{eqb_tells}
use Rattle.rng_model.specs.Texts.{Text}
use Rattle.rng_model.specs.Events.{Event}
use Rattle.line_laws.specs.Walks.{Walk, Before, After}
use Rattle.line_laws.specs.LineRefusals.{LineFault, BadLine, Unfinished, Trailing, cut_lines, cut_byte}
use Rattle.line_laws.specs.LineWalks.{line_fault, past_fault}
use Rattle.line_laws.proofs.Cutting.{cut_line, cut_tail}
use Rattle.line_reader.specs.Spellings.{HasNo}

-- the fault of lines and a tail
abbrev pub fault_from : (Text → Option Event) → ℕ → Walk → List Text × Text → Option LineFault
fault_from read k w p = line_fault read k w p.0 p.1

abbrev pub reads_none : Text → Option Event
reads_none l = None

pub cut_off : (bytes body more : Text) → HasNo 10 body → bytes ≡ body ++ 10 ∷ more →
    cut_lines bytes ≡ ((body ++ 10 ∷ []) ∷ (cut_lines more).0, (cut_lines more).1)
cut_off bytes body more h cut =
    ap cut_lines (cut ∙ sym (append_assoc body (10 ∷ []) more)) ∙ cut_line (body ++ 10 ∷ []) more (record { body = body; free = h; is = refl })

-- no line is left
pub ended : (read : Text → Option Event) (k : ℕ) (w : Walk) (bytes : Text) → HasNo 10 bytes → fault_from read k w (cut_lines bytes) ≡ Some Unfinished
ended read k w bytes h = ap (fault_from read k w) (cut_tail bytes h)

pub bad_line : (k : ℕ) (bytes body more : Text) → HasNo 10 body → bytes ≡ body ++ 10 ∷ more → fault_from reads_none k Before (cut_lines bytes) ≡ Some (BadLine k)
bad_line k bytes body more h cut = ap (fault_from reads_none k Before) (cut_off bytes body more h cut)

not_empty_line : (body : Text) → HasNo 10 body → (body ≡ [] → ⊥) → bytes_eq (body ++ 10 ∷ []) (10 ∷ []) ≡ false
not_empty_line [] h some = absurd (some refl)
not_empty_line (c ∷ body) h some = ap (λ b. b && bytes_eq (body ++ 10 ∷ []) []) h.0

pub not_ended : (k : ℕ) (bytes body more : Text) → HasNo 10 body → bytes ≡ body ++ 10 ∷ more → (body ≡ [] → ⊥) →
    fault_from reads_none k After (cut_lines bytes) ≡ Some (BadLine k)
not_ended k bytes body more h cut some =
    ap (fault_from reads_none k After) (cut_off bytes body more h cut)
    ∙ ap (λ b. cond b (past_fault k (cut_lines more).0 (cut_lines more).1) (Some (BadLine k))) (not_empty_line body h some)

past_more : (k c : ℕ) (p : List Text × Text) → past_fault k (cut_byte c p).0 (cut_byte c p).1 ≡ Some (Trailing (suc k))
past_more k c p = go (eqb_tells c 10) p
  where
    go : ((c == 10) ≡ true) × (c ≡ 10) ⊎ ((c == 10) ≡ false) × (c ≡ 10 → ⊥) → (p : List Text × Text) → past_fault k (cut_byte c p).0 (cut_byte c p).1 ≡ Some (Trailing (suc k))
    go (inl e) ([], t) = rw (e.0)
    go (inr e) ([], t) = rw (e.0)
    go (inl e) (l ∷ ls, t) = rw (e.0)
    go (inr e) (l ∷ ls, t) = rw (e.0)

pub trailing : (k : ℕ) (bytes body more : Text) → HasNo 10 body → bytes ≡ body ++ 10 ∷ more → body ≡ [] → (more ≡ [] → ⊥) →
    fault_from reads_none k After (cut_lines bytes) ≡ Some (Trailing (suc k))
trailing k bytes [] [] h cut empty some = absurd (some refl)
trailing k bytes [] (c ∷ more) h cut empty some =
    ap (fault_from reads_none k After) (cut_off bytes [] (c ∷ more) h cut) ∙ past_more k c (cut_lines more)
trailing k bytes (b ∷ body) more h cut empty some = absurd (cc)

-- what the test for emptiness tells
pub is_none : (xs : List ℕ) → true ≡ (length xs == 0) → xs ≡ []
is_none [] h = refl
is_none (x ∷ xs) h =
    let bad : true ≡ false = h ∙ ne_eqb (length (x ∷ xs)) 0 (λ e. omega arith) in
    absurd (cc)

pub not_none : (xs : List ℕ) → false ≡ (length xs == 0) → xs ≡ [] → ⊥
not_none [] h e = cc
not_none (x ∷ xs) h e = cc
