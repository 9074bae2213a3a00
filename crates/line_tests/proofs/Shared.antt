-- Codes that a document shares with the last one.
use Rattle.std.proofs.Common.{◌≡◌, ℕ, ◌≤◌, List, length, take, map, arith, ap, sym, ◌∙◌}
use Rattle.std.proofs.lemmas.List.{take-take, take-map, take_all, length-take}
use Rattle.rng_model.specs.Codes as model
use Rattle.skeleton.specs.declared.code.Code.{Code}
use Rattle.skeleton.specs.Views.{code_of}
use Rattle.event_lines.specs.Held.{BeginsWith}

alike : (n : ℕ) (old new held : List model.Code) → take n old ≡ take n new → BeginsWith old held → BeginsWith new (take n held)
alike n old new held same begins =
    let few : length (take n held) ≤ n = omega (arith, length-take n held) in
    let short : length (take n held) ≤ length held = omega (arith, length-take n held) in
    let m = length (take n held) in
    sym (take-take m n new few)
    ∙ ap (take m) (sym same)
    ∙ take-take m n old few
    ∙ sym (take-take m (length held) old short)
    ∙ ap (take m) begins
    ∙ sym (take-take m n held few)
    ∙ take_all m (take n held) (omega arith)

-- what begins like the last codes begins like the others as far as they are shared
pub shared : (n : ℕ) (last codes : List Code) → take n last ≡ take n codes →
    (held : List model.Code) → BeginsWith (map code_of last) held → BeginsWith (map code_of codes) (take n held)
shared n last codes same = λ held begins.
    alike n (map code_of last) (map code_of codes) held (take-map code_of n last ∙ ap (map code_of) same ∙ sym (take-map code_of n codes)) begins
