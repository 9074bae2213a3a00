-- A walk's states are those of the table that has grown too.
use Rattle.std.proofs.Common.{◌≡◌, ℕ, ◌<◌, List, length, take, sym, ◌∙◌, subst, arith, Some, slice_get}
use Rattle.rng_model.specs.Codes.{Code}
use Rattle.rng_model.specs.States.{after_codes}
use Rattle.table_laws.specs.Walking.{AreListedCodes}
use Rattle.feasibility.specs.Tables.{Table, Keeps, lists, state_of, lists_of}
use Rattle.feasibility.specs.Following.{IsHeld}
use Rattle.lister.specs.Walks.{Stage, nowhere, before, at, past, AreStates, IsWalkOf}

module _ (old new : Table) (k : Keeps old new) where
  same_lists : lists new ≡ lists old
  same_lists = (λ i. lists_of (k.universe i) (k.atoms i))

  after_same : (codes : List Code) → after_codes new.schema (lists new) codes ≡ after_codes old.schema (lists old) codes
  after_same codes = (λ i. after_codes (k.schema i) (lists_of (k.universe i) (k.atoms i)) codes)

  states_same : (codes : List Code) (states : List ℕ) → AreStates old codes states → AreStates new codes states
  states_same codes states a = record { each = λ i id q. go i id q }
    where
      go : (i id : ℕ) → slice_get states i ≡ Some id → IsHeld new id × (state_of new id ≡ after_codes new.schema (lists new) (take i codes))
      go i id q =
          let r = a.each i id q in
          let h = r.0 in
          let m = k.longer in
          let less : id < length new.states = omega arith in
          (less, k.states id h ∙ r.1 ∙ sym (after_same (take i codes)))

pub goes_on : (old new : Table) (n : ℕ) (stage : Stage) → Keeps old new → IsWalkOf old n stage → IsWalkOf new n stage
goes_on old new n nowhere k h = tt
goes_on old new n before k h = tt
goes_on old new n (at codes states) k h = (
  subst (λ g. AreListedCodes g (lists new) n codes) (sym k.schema) (subst (λ u. AreListedCodes old.schema u n codes) (sym (same_lists old new k)) h.0),
  states_same old new k codes states h.1,
)
goes_on old new n past k h = tt
