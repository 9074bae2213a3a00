-- What holds of a table.
use Rattle.std.proofs.Common.{◌≡◌, ℕ, zero, suc, ◌+◌, ◌*◌, ◌-◌, ◌<◌, ◌≤◌, inl, inr, List, length, arith}
use Rattle.rng_model.specs.Patterns.{not_allowed}
use Rattle.table_laws.specs.Reaching.{start_state}
use Rattle.transitions.specs.declared.arc.Arc.{Arc}
use Rattle.transitions.specs.declared.state_id.StateId.{StateId}
use Rattle.feasibility.specs.declared.explorer.Explorer.{Explorer}
use Rattle.std.specs.Prelude.{Option}
use Rattle.feasibility.specs.Exploring.{at, found, groups_of, names, schema}
use Rattle.feasibility.specs.Grown.{IsGrown, IsStarted, row_total, spent_on}
use Rattle.feasibility.specs.Tables.{IsTable}

times : (r m n : ℕ) → m ≤ n → r * m ≤ r * n
times zero m n l = omega arith
times (suc r) m n l = let h = times r m n l in omega arith

-- a row for each state at most
pub few_spent : (r n m : ℕ) → m ≤ n → (n - 1) + r * m ≤ (r + 2) * n
few_spent r n m l = let h = times r m n l in omega arith

pub is_table : (e : Explorer) (frees : List (Option StateId)) (rows : List (List Arc)) (levels : List ℕ) → IsGrown e frees rows levels →
    IsTable (record {
      schema = schema e;
      universe = e.derivatives.universe;
      atoms = e.derivatives.atoms;
      groups = groups_of e;
      limit = e.limit;
      grown = e.level;
      states = found e;
      spent = spent_on (names e) (groups_of e) (length (found e)) (length rows);
    })
is_table e frees rows levels h = record {
  listable = h.listable;
  alike = h.exploring.alike;
  each = h.each;
  once = h.once;
  few = h.exploring.few;
  counted = few_spent (row_total (names e) (groups_of e)) (length (found e)) (length rows) h.some_rows;
}

-- the first state is the start
pub started : (e : Explorer) → IsStarted e → 0 < length (found e) → at e 0 ≡ start_state (schema e)
started e (inl h) l = let n = h.0 in absurd (omega (arith, n, l))
started e (inr h) l = h.1

-- without a state nothing is allowed
pub unstarted : (e : Explorer) → IsStarted e → length (found e) ≡ 0 → (schema e).start ≡ not_allowed
unstarted e (inl h) l = h.1
unstarted e (inr h) l = let n = h.0 in absurd (omega (arith, n, l))
