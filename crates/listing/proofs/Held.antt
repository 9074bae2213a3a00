-- The lines that are held from one document of a walk to the next.
use Rattle.std.proofs.Common.{◌≡◌, ℕ, zero, suc, ◌≤◌, List, [], ◌∷◌, length, take, refl, sym, ◌∙◌, ap, subst, arith, length-take}
use Rattle.std.proofs.lemmas.List.{take-take}
use Rattle.rng_model.specs.Codes.{Code}
use Rattle.feasibility.specs.Tables.{Table}
use Rattle.event_lines.specs.Held.{BeginsWith}
use Rattle.lister.specs.Walks.{Stage, GoesToNext, KeepsFront, IsAt, IsAtOne}
use Rattle.listing.specs.Held.{IsHeldAt}

take_itself : {X : Type 0} (k : ℕ) (xs : List X) → take (length (take k xs)) xs ≡ take k xs
take_itself zero xs = refl
take_itself (suc k) [] = refl
take_itself (suc k) (x ∷ xs) = ap (λ y. x ∷ y) (take_itself k xs)

-- lists with the same first k codes begin with the same ones of these
shared : (k : ℕ) (a b held : List Code) → take k b ≡ take k a → BeginsWith a held → BeginsWith b (take k held)
shared k a b held e h =
    let m = length (take k held) in
    let few : m ≤ k = omega (arith, length-take k held) in
    let within : m ≤ length held = omega (arith, length-take k held) in
    sym (take-take m k b few) ∙ ap (take m) e ∙ take-take m k a few ∙ sym (take-take m (length held) a within) ∙ ap (take m) h ∙ take_itself k held

none_shared : (k : ℕ) (b held : List Code) → k ≡ 0 → BeginsWith b (take k held)
none_shared k b held e = subst (λ i. BeginsWith b (take i held)) (sym e) refl

-- the next document begins with the unchanged codes whose lines are held
pub begins_held : (t : Table) (n : ℕ) (old new : Stage) (k : ℕ) (held codes : List Code) → GoesToNext t n old new → IsHeldAt old held → KeepsFront old k new → IsAt new codes →
    BeginsWith codes (take k held)
begins_held t n (Stage.at a states) (Stage.at b more) k held codes g h f e = subst (λ x. BeginsWith x (take k held)) e (shared k a b held f h)
begins_held t n Stage.before (Stage.at b more) k held codes g h f e = none_shared k codes held f
begins_held t n Stage.nowhere (Stage.at b more) k held codes g h f e = absurd g
begins_held t n Stage.past (Stage.at b more) k held codes g h f e = absurd g
begins_held t n old Stage.nowhere k held codes g h f e = absurd e
begins_held t n old Stage.before k held codes g h f e = absurd e
begins_held t n old Stage.past k held codes g h f e = absurd e

pub held_at : (stage : Stage) (codes held : List Code) → IsAt stage codes → BeginsWith codes held → IsHeldAt stage held
held_at (Stage.at a states) codes held e h = subst (λ x. BeginsWith x held) (sym e) h
held_at Stage.nowhere codes held e h = tt
held_at Stage.before codes held e h = tt
held_at Stage.past codes held e h = tt

pub held_past : (stage : Stage) (held : List Code) → (IsAtOne stage → ⊥) → IsHeldAt stage held
held_past (Stage.at a states) held none = absurd (none tt)
held_past Stage.nowhere held none = tt
held_past Stage.before held none = tt
held_past Stage.past held none = tt

pub held_before : (stage : Stage) (held : List Code) → stage ≡ Stage.before → IsHeldAt stage held
held_before stage held e = subst (λ s. IsHeldAt s held) (sym e) tt

pub nothing_held : (stage : Stage) (held : List Code) → held ≡ [] → IsHeldAt stage held
nothing_held (Stage.at a states) held e = subst (BeginsWith a) (sym e) refl
nothing_held Stage.nowhere held e = tt
nothing_held Stage.before held e = tt
nothing_held Stage.past held e = tt
