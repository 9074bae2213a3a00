-- What is so stays so as states are found.
use Rattle.std.proofs.Common.{ℕ, ◌+◌, ◌<◌, Some, None, Result, Ok, Err, OnOk, List, ◌++◌, length, sym, ◌∙◌, ap, subst, arith}
use Rattle.std.proofs.lemmas.List.{append_assoc}
use Rattle.rng_model.specs.States.{State, IsAllowed, ReachesMore}
use Rattle.pattern_intern.specs.Stored.{Stored, Extends}
use Rattle.pattern_intern.specs.declared.id.PatternId.{PatternId}
use Rattle.derivatives.specs.declared.states.State.{State as Key}
use Rattle.transitions.specs.declared.arc.Arc.{Arc}
use Rattle.feasibility.specs.declared.explorer.Explorer.{Explorer}
use Rattle.feasibility.specs.declared.family.Family.{Family}
use Rattle.feasibility.specs.declared.fault.Refusal.{Refusal}
use Rattle.feasibility.specs.Exploring.{Finds, IsExploring, IsLeading, IsPattern, IsRightly, IsRowAt, at, found, groups_in, names, pattern_at, pool, schema}
use Rattle.feasibility.specs.Families.{HasName, family_code}
use Rattle.feasibility.proofs.Finding.{finds_names}
use Rattle.feasibility.proofs.Knowing.{code_in_range, pattern_found}
use Rattle.feasibility.proofs.Rowing.{row_skips, row_stays}

extends_on : (s t r : Stored) → Extends s t → Extends t r → Extends s r
extends_on s t r x y = record {
  longer = let l = x.longer in let m = y.longer in omega (arith, l, m);
  kept = λ id l. y.kept id (let m = x.longer in omega (arith, l, m)) ∙ x.kept id l;
  more_classes = let l = x.more_classes in let m = y.more_classes in omega (arith, l, m);
  classes = λ id l. y.classes id (let m = x.more_classes in omega (arith, l, m)) ∙ x.classes id l;
  more_literals = let l = x.more_literals in let m = y.more_literals in omega (arith, l, m);
  literals = λ id l. y.literals id (let m = x.more_literals in omega (arith, l, m)) ∙ x.literals id l;
}

pub finds_on : (e f h : Explorer) → Finds e f → Finds f h → Finds e h
finds_on e f h x y = record {
  schema = y.schema ∙ x.schema;
  universe = y.universe ∙ x.universe;
  atoms = y.atoms ∙ x.atoms;
  groups = y.groups ∙ x.groups;
  limit = y.limit ∙ x.limit;
  level = y.level ∙ x.level;
  pool = extends_on (pool e) (pool f) (pool h) x.pool y.pool;
  keys = let a = x.keys in let b = y.keys in (a.0 ++ b.0, b.1 ∙ ap (λ (ks : List Key). ks ++ b.0) a.1 ∙ append_assoc e.states.keys a.0 b.0);
  longer = let l = x.longer in let m = y.longer in omega (arith, l, m);
  states = λ id l. y.states id (let m = x.longer in omega (arith, l, m)) ∙ x.states id l;
}

pub rightly_on : (e f : Explorer) (r : Refusal) → Finds e f → IsRightly f r → IsRightly e r
rightly_on e f r x h =
    λ q.
    let a = subst (λ z. ReachesMore z (names f) f.level f.limit) x.schema (h q) in
    let b = subst (λ z. ReachesMore (schema e) z f.level f.limit) (finds_names e f x) a in
    let c = subst (λ z. ReachesMore (schema e) (names e) z f.limit) x.level b in
    subst (λ z. ReachesMore (schema e) (names e) e.level z) x.limit c

-- a row that is right before a position
pub row_on : (e f : Explorer) (id : ℕ) (family : Family) (p : ℕ) (arcs : List Arc) → Finds e f → id < length (found e) → IsRowAt e id family p arcs → IsRowAt f id family p arcs
row_on e f id family p arcs x w h =
    rw (x.schema, finds_names e f x, x.states id w) (row_stays (schema e) (names e) (found e) (found f) (at e id) (family_code family p) arcs x.longer x.states h)

-- where the code leads nowhere
pub row_past : (e f : Explorer) (id : ℕ) (family : Family) (p : ℕ) (arcs : List Arc) → Finds e f → id < length (found e) → IsRowAt e id family p arcs →
    IsPattern (pool f) (pattern_at e id family p) None → IsRowAt f id family (p + 1) arcs
row_past e f id family p arcs x w h dead =
    row_skips (schema f) (names f) (found f) (at f id) family p arcs (row_on e f id family p arcs x w h) (pattern_found e f id family p x w ∙ dead)

-- where it leads on
pub leading_on : (e f : Explorer) (id : ℕ) (family : Family) (p : ℕ) (pattern : PatternId) → Finds e f → IsExploring e → id < length (found e) → HasName (names e) family →
    p < length (groups_in e family) → IsAllowed (at e id).place (family_code family p) → IsPattern (pool f) (pattern_at e id family p) (Some pattern) → IsLeading f id (family_code family p) pattern
leading_on e f id family p pattern x y w n l a made =
    let same = pattern_found e f id family p x w in
    record {
      allowed = subst (λ (s : State). IsAllowed s.place (family_code family p)) (sym (x.states id w)) a;
      in_range = rw (finds_names e f x) (code_in_range e y family p n l);
      within = made.0;
      is = made.1 ∙ sym same;
      alive = λ q. made.2 (sym same ∙ q);
    }

pub found_on : (e f : Explorer) (id : ℕ) → Finds e f → id < length (found e) → id < length (found f)
found_on e f id x w = (let m = x.longer in omega (arith, w, m))

pub on_ok : {A B : Type 0} {P : Type 0} (r : Result A B) → P → OnOk r P
on_ok (Ok a) h = h
on_ok (Err e) h = tt

pub on_ok_map : {A B : Type 0} {P Q : Type 0} (r : Result A B) → (P → Q) → OnOk r P → OnOk r Q
on_ok_map (Ok a) f h = f h
on_ok_map (Err e) f h = tt
