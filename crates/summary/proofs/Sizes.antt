-- The lines of totals, one after the other.
use Rattle.std.specs.Prelude.{codes}
use Rattle.std.proofs.Common.{◌≡◌, ℕ, zero, suc, ◌+◌, ◌-◌, ◌<◌, List, [], ◌∷◌, ◌++◌, Option, Some, None, get_or, flat_map, append_assoc, append-nil, refl, ap, sym, subst, ◌∙◌, arith}
use Rattle.std.specs.List.{range_with_len}
use Rattle.std.proofs.lemmas.Grind.{flat_map-append}
use Rattle.summary.specs.Summary.{size_text, number_line}
use Rattle.summary.specs.Totals.{Totals, count_line, place_line, place_lines, totals_text}
use Rattle.summary.specs.Sending.{Sends, Fails}
use Rattle.summary.proofs.Parts.{sends_nothing, sends_then, fails_then, fails_early}

range-more : (a n : ℕ) → range_with_len a (n + 1) ≡ range_with_len a n ++ (a + n) ∷ []
range-more a zero = grind arith
range-more a (suc n) = let e = range-more (a + 1) n in grind arith

from_nothing : (n : ℕ) → 0 + n ≡ n
from_nothing n = omega arith

lines_more : (counts : List (Option ℕ)) (n : ℕ) → place_lines counts (n + 1) ≡ place_lines counts n ++ place_line counts n
unfolding place_lines
lines_more counts n =
    ap (flat_map (place_line counts)) (range-more 0 n) ∙ flat_map-append (place_line counts) (range_with_len 0 n) ((0 + n) ∷ [])
    ∙ ap (λ z. flat_map (place_line counts) (range_with_len 0 n) ++ z) (append-nil (place_line counts (0 + n)) ∙ ap (place_line counts) (from_nothing n))

-- the lines of fewer sizes are a front
lines_front : (counts : List (Option ℕ)) (n k m : ℕ) → m ≡ n + k → (rest : List ℕ) × (place_lines counts m ≡ place_lines counts n ++ rest)
lines_front counts n zero m e = let same : m ≡ n = omega arith in ([], ap (place_lines counts) same ∙ sym (append-nil (place_lines counts n)))
lines_front counts n (suc k) m e =
    let before = lines_front counts n k (n + k) refl in
    let same : m ≡ n + k + 1 = omega arith in (
      before.0 ++ place_line counts (n + k),
      ap (place_lines counts) same ∙ lines_more counts (n + k) ∙ ap (λ z. z ++ place_line counts (n + k)) before.1
          ∙ append_assoc (place_lines counts n) before.0 (place_line counts (n + k)),
    )

pub no_lines : (counts : List (Option ℕ)) (s : Option (List ℕ)) (f : ℕ) → Sends s s f f (place_lines counts 0)
unfolding place_lines
no_lines counts s f = sends_nothing s f

pub next_line : {s t u : Option (List ℕ)} {f g h : ℕ} (counts : List (Option ℕ)) (n : ℕ) →
    Sends s t f g (place_lines counts n) → Sends t u g h (place_line counts n) → Sends s u f h (place_lines counts (n + 1))
next_line {s} {t} {u} {f} {g} {h} counts n first second =
    subst (λ z. Sends s u f h z) (sym (lines_more counts n)) (sends_then s t u f g h (place_lines counts n) (place_line counts n) first second)

pub fails_at : {s t u : Option (List ℕ)} {f g h : ℕ} (counts : List (Option ℕ)) (n : ℕ) → n < 64 →
    Sends s t f g (place_lines counts n) → Fails t u g h (place_line counts n) → Fails s u f h (place_lines counts 64)
fails_at {s} {t} {u} {f} {g} {h} counts n within first second =
    let gap : 64 ≡ n + 1 + (64 - (n + 1)) = omega arith in
    let front = lines_front counts (n + 1) (64 - (n + 1)) 64 gap in
    let here = fails_then s t u f g h (place_lines counts n) (place_line counts n) first second in
    subst (λ z. Fails s u f h z) (sym front.1) (fails_early s u f h (place_lines counts (n + 1)) front.0 (subst (λ z. Fails s u f h z) (sym (lines_more counts n)) here))

pub some_here : (t now : Totals) (i n : ℕ) → t ≡ now → get_or t.counts i None ≡ Some n → size_text (i + 1) n ≡ place_line now.counts i
unfolding place_line
some_here t now i n same is = sym (subst (λ z. place_line z.counts i ≡ size_text (i + 1) n) same (ap (count_line (i + 1)) is))

pub none_here : (t now : Totals) (i : ℕ) → t ≡ now → get_or t.counts i None ≡ None → [] ≡ place_line now.counts i
unfolding place_line
none_here t now i same is = sym (subst (λ z. place_line z.counts i ≡ []) same (ap (count_line (i + 1)) is))

bytes_of : (t now : Totals) (x : List ℕ) → t ≡ now → x ≡ number_line (codes "bytes ") t.bytes → x ≡ number_line (codes "bytes ") now.bytes
bytes_of t now x same is = subst (λ z. x ≡ number_line (codes "bytes ") z.bytes) same is

sum_of : (t now : Totals) (x : List ℕ) → t ≡ now → x ≡ number_line (codes "sum ") t.sum → x ≡ number_line (codes "sum ") now.sum
sum_of t now x same is = subst (λ z. x ≡ number_line (codes "sum ") z.sum) same is

pub fails_sizes : {s t : Option (List ℕ)} {f g : ℕ} (now : Totals) → Fails s t f g (place_lines now.counts 64) → Fails s t f g (totals_text now)
unfolding totals_text
fails_sizes {s} {t} {f} {g} now failed =
    fails_early s t f g (place_lines now.counts 64 ++ number_line (codes "bytes ") now.bytes) (number_line (codes "sum ") now.sum)
    (fails_early s t f g (place_lines now.counts 64) (number_line (codes "bytes ") now.bytes) failed)

pub fails_bytes : {s t u : Option (List ℕ)} {f g h : ℕ} (now inside : Totals) (x : List ℕ) → inside ≡ now → x ≡ number_line (codes "bytes ") inside.bytes →
    Sends s t f g (place_lines now.counts 64) → Fails t u g h x → Fails s u f h (totals_text now)
unfolding totals_text
fails_bytes {s} {t} {u} {f} {g} {h} now inside x same is first failed =
    fails_early s u f h (place_lines now.counts 64 ++ number_line (codes "bytes ") now.bytes) (number_line (codes "sum ") now.sum)
    (fails_then s t u f g h (place_lines now.counts 64) (number_line (codes "bytes ") now.bytes) first
    (subst (λ z. Fails t u g h z) (bytes_of inside now x same is) failed))

two_parts : {s t u : Option (List ℕ)} {f g h : ℕ} (now inside : Totals) (x : List ℕ) → inside ≡ now → x ≡ number_line (codes "bytes ") inside.bytes →
    Sends s t f g (place_lines now.counts 64) → Sends t u g h x → Sends s u f h (place_lines now.counts 64 ++ number_line (codes "bytes ") now.bytes)
two_parts {s} {t} {u} {f} {g} {h} now inside x same is first second =
    sends_then s t u f g h (place_lines now.counts 64) (number_line (codes "bytes ") now.bytes) first
    (subst (λ z. Sends t u g h z) (bytes_of inside now x same is) second)

pub fails_sum : {s t u v : Option (List ℕ)} {f g h k : ℕ} (now inside : Totals) (x y : List ℕ) → inside ≡ now →
    x ≡ number_line (codes "bytes ") inside.bytes → y ≡ number_line (codes "sum ") inside.sum →
    Sends s t f g (place_lines now.counts 64) → Sends t u g h x → Fails u v h k y → Fails s v f k (totals_text now)
unfolding totals_text
fails_sum {s} {t} {u} {v} {f} {g} {h} {k} now inside x y same is is_sum first second failed =
    fails_then s u v f h k (place_lines now.counts 64 ++ number_line (codes "bytes ") now.bytes) (number_line (codes "sum ") now.sum)
    (two_parts now inside x same is first second) (subst (λ z. Fails u v h k z) (sum_of inside now y same is_sum) failed)

pub sends_lines : {s t u v : Option (List ℕ)} {f g h k : ℕ} (now inside : Totals) (x y : List ℕ) → inside ≡ now →
    x ≡ number_line (codes "bytes ") inside.bytes → y ≡ number_line (codes "sum ") inside.sum →
    Sends s t f g (place_lines now.counts 64) → Sends t u g h x → Sends u v h k y → Sends s v f k (totals_text now)
unfolding totals_text
sends_lines {s} {t} {u} {v} {f} {g} {h} {k} now inside x y same is is_sum first second third =
    sends_then s u v f h k (place_lines now.counts 64 ++ number_line (codes "bytes ") now.bytes) (number_line (codes "sum ") now.sum)
    (two_parts now inside x same is first second) (subst (λ z. Sends u v h k z) (sum_of inside now y same is_sum) third)
