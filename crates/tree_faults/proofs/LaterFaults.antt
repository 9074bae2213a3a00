-- The faults that come behind those of this crate.
use Rattle.std.proofs.Common.{ℕ, ◌≤◌, inl, inr, Some, None, refl, subst, arith}
use Rattle.std.specs.Prelude.{Contains}
use Rattle.grammar_laws.specs.Files.{Full}
use Rattle.simple_form_laws.specs.Faults.{BadValue, ExpandedTooDeep, Fault, HasFault, IsLoop, IsNoLater, Loop, SimplifyRefusal, bad_values}
use Rattle.name_resolution.specs.Least.{IsLeast}
use Rattle.tree_faults.specs.Firsts.{IsClean, IsFreeOfLoops}

pub loop_first : (f : Full) (at : ℕ) → IsClean f → IsLoop f at → ((b : ℕ) → IsLoop f b → at ≤ b) → SimplifyRefusal f (Loop at)
loop_first f at clean there first = record { fault = there; first = behind }
  where
    behind : (y : Fault) → HasFault f y → IsNoLater (Loop at) y
    behind (Loop b) w = inr (refl, first b w)
    behind ExpandedTooDeep w = inl (omega arith)
    behind (BadValue b) w = inl (omega arith)
    behind y w = absurd (clean y (omega arith) w)

pub depth_first : (f : Full) → IsClean f → IsFreeOfLoops f → HasFault f ExpandedTooDeep → SimplifyRefusal f ExpandedTooDeep
depth_first f clean free there = record { fault = there; first = behind }
  where
    behind : (y : Fault) → HasFault f y → IsNoLater ExpandedTooDeep y
    behind (Loop b) w = absurd (free b w)
    behind ExpandedTooDeep w = inr (refl, omega arith)
    behind (BadValue b) w = inl (omega arith)
    behind y w = absurd (clean y (omega arith) w)

pub value_first : (f : Full) (at : ℕ) → IsClean f → IsFreeOfLoops f → (HasFault f ExpandedTooDeep → ⊥) → IsLeast (bad_values f) (Some at) → SimplifyRefusal f (BadValue at)
value_first f at clean free shallow l = record { fault = l.0; first = behind }
  where
    behind : (y : Fault) → HasFault f y → IsNoLater (BadValue at) y
    behind (Loop b) w = absurd (free b w)
    behind ExpandedTooDeep w = absurd (shallow w)
    behind (BadValue b) w = inr (refl, l.1 b w)
    behind y w = absurd (clean y (omega arith) w)

pub no_fault : (f : Full) → IsClean f → IsFreeOfLoops f → (HasFault f ExpandedTooDeep → ⊥) → IsLeast (bad_values f) None → (x : Fault) → HasFault f x → ⊥
no_fault f clean free shallow e (Loop b) w = free b w
no_fault f clean free shallow e ExpandedTooDeep w = shallow w
no_fault f clean free shallow e (BadValue b) w = let i = (subst (λ xs. Contains xs b) e w).1 in omega (arith, i)
no_fault f clean free shallow e y w = clean y (omega arith) w
