-- Reading events: how far the walk has come.
use Rattle.std.proofs.Common.{◌≡◌, ℕ, ◌+◌, ◌<◌, suc, Option, Some, None, List, ◌∷◌, length, get_or, map, drop, refl, ap, sym, ◌∙◌, arith}
use Rattle.std.proofs.lemmas.List.{drop_more, drop-map}
use Rattle.std.specs.Option.{option_map}
use Rattle.rng_model.specs.Events.{Event}
use Rattle.line_laws.specs.Walks.{Walk, event_step, fault_number, fault_on}

-- so many events later
abbrev pub later : ℕ → Option ℕ → Option ℕ
later i fault = option_map (λ k. i + k) fault

pub later-zero : (fault : Option ℕ) → fault ≡ later 0 fault
later-zero None = refl
later-zero (Some k) = ap Some (omega arith)

later-suc : (i : ℕ) (fault : Option ℕ) → later i (option_map (λ k. suc k) fault) ≡ later (i + 1) fault
later-suc i None = refl
later-suc i (Some k) = ap Some (omega arith)

-- an event that comes at its place
pub goes_on : (es : List Event) (i : ℕ) (w v : Walk) (e : Event) → drop i es ≡ e ∷ drop (i + 1) es → event_step w e ≡ Some v →
    later i (fault_number w (drop i es)) ≡ later (i + 1) (fault_number v (drop (i + 1) es))
goes_on es i w v e cut step =
    ap (λ xs. later i (fault_number w xs)) cut
    ∙ ap (λ o. later i (fault_on o (λ u. fault_number u (drop (i + 1) es)))) step
    ∙ later-suc i (fault_number v (drop (i + 1) es))

-- an event that can't come
pub stops : (es : List Event) (i : ℕ) (w : Walk) (e : Event) → drop i es ≡ e ∷ drop (i + 1) es → event_step w e ≡ None →
    later i (fault_number w (drop i es)) ≡ Some i
stops es i w e cut step =
    ap (λ xs. later i (fault_number w xs)) cut
    ∙ ap (λ o. later i (fault_on o (λ u. fault_number u (drop (i + 1) es)))) step
    ∙ ap Some (omega arith)

-- the event at place i, and what is left behind it
pub cut : {A : Type 0} (f : A → Event) (xs : List A) (i : ℕ) (x : A) → i < length xs → x ≡ get_or xs i x →
    drop i (map f xs) ≡ f x ∷ drop (i + 1) (map f xs)
cut f xs i x below is =
    drop-map f i xs ∙ ap (map f) (drop_more xs i x below) ∙ (λ j. f (sym is j) ∷ sym (drop-map f (i + 1) xs) j)
