-- While a family's codes are gone through.
use Rattle.std.proofs.Common.{◌≡◌, ℕ, ◌+◌, ◌<◌, ◌≤◌, Option, List, length, sym, ap, subst, arith}
use Rattle.rng_model.specs.States.{State, IsAllowed}
use Rattle.pattern_intern.specs.declared.id.PatternId.{PatternId}
use Rattle.transitions.specs.declared.arc.Arc.{Arc}
use Rattle.feasibility.specs.declared.explorer.Explorer.{Explorer}
use Rattle.feasibility.specs.declared.family.Family.{Family}
use Rattle.feasibility.specs.Costs.{cost_left}
use Rattle.feasibility.specs.Exploring.{Finds, IsExploring, IsKnown, IsRowAt, at, found, groups_in, names}
use Rattle.feasibility.specs.Families.{HasName, family_code, family_groups}
use Rattle.feasibility.proofs.Costing.{cost_found}
use Rattle.feasibility.proofs.Finding.{finds_names}
use Rattle.feasibility.proofs.Knowing.{allowed_all}
use Rattle.feasibility.proofs.Moving.{finds_on}

-- the codes before the position are done
pub record IsFilling (old new : Explorer) (id : ℕ) (family : Family) (position : ℕ) (before known : List (Option PatternId)) (arcs : List Arc) (spent now : ℕ) : Type 0 where
  pub finds : Finds old new
  pub exploring : IsExploring new
  pub patterns : IsKnown new id family position known
  pub row : IsRowAt new id family position arcs
  pub ticks : now + cost_left old family (length known) position ≤ spent + cost_left old family (length before) 0

-- what a further position asks
module _ (e f : Explorer) (id : ℕ) (family : Family) (position : ℕ) (x : Finds e f) (w : id < length (found e)) where
  pub allowed_on : IsAllowed (at e id).place (family_code family 0) → IsAllowed (at f id).place (family_code family position)
  allowed_on a =
      allowed_all (at f id).place family 0 position (subst (λ (s : State). IsAllowed s.place (family_code family 0)) (sym (x.states id w)) a)

  pub name_on : HasName (names e) family → HasName (names f) family
  name_on n = subst (λ u. HasName u family) (sym (finds_names e f x)) n

  pub groups_on : groups_in f family ≡ groups_in e family
  groups_on = ap (λ y. family_groups y family) x.groups

pub filling_on : (e f h : Explorer) (id : ℕ) (family : Family) (position : ℕ) (before known more : List (Option PatternId)) (arcs arcs_on : List Arc) (spent paid now : ℕ) →
    IsFilling e f id family position before known arcs spent paid → Finds f h → IsExploring h → IsKnown h id family (position + 1) more → IsRowAt h id family (position + 1) arcs_on →
    now + cost_left f family (length more) (position + 1) ≤ paid + cost_left f family (length known) position → IsFilling e h id family (position + 1) before more arcs_on spent now
filling_on e f h id family position before known more arcs arcs_on spent paid now x y z k r t = record {
  finds = finds_on e f h x.finds y;
  exploring = z;
  patterns = k;
  row = r;
  ticks =
      let a = cost_found e f family (length more) (position + 1) x.finds in
      let b = cost_found e f family (length known) position x.finds in
      let c = x.ticks in
      omega (arith, a, b, c, t);
}
