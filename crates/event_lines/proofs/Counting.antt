-- Bytes that are counted from nothing on.
use Rattle.std.specs.Prelude.{sum, ◌%◌, ◌^◌}
use Rattle.std.proofs.Common.{◌≡◌, ℕ, ◌+◌, List, length, ap, subst, ◌∙◌, arith}
use Rattle.event_lines.specs.declared.counted.Measure.{Measure}
use Rattle.event_lines.specs.Coded.{Counts, IsMeasure}

pub measured : (a m : Measure) (x y : List ℕ) → a.bytes ≡ 0 → a.sum ≡ 0 → x ≡ y → Counts a m x → IsMeasure m y
measured a m x y no_bytes no_sum same counted =
    let bytes : a.bytes + length x ≡ length x = omega arith in
    let all : a.sum + sum x ≡ sum x = omega arith in
    subst (λ z. IsMeasure m z) same (record {
      bytes = counted.bytes ∙ ap (λ z. z % 2 ^ 64) bytes;
      sum = counted.sum ∙ ap (λ z. z % 2 ^ 32) all;
    })
