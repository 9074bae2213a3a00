-- What contracts see of a table as it grows.
use Rattle.std.proofs.Common.{◌≡◌, ℕ, zero, suc, ◌+◌, ◌*◌, ◌-◌, ◌≤◌, List, [], length, refl, sym, ◌∙◌, ap, subst, arith}
use Rattle.rng_model.specs.Patterns.{Schema}
use Rattle.rng_model.specs.Texts.{Text}
use Rattle.rng_model.specs.States.{ReachesMore}
use Rattle.table_laws.specs.Premises.{AreListable}
use Rattle.table_laws.proofs.Counts.{more_grows, no_more}
use Rattle.pattern_intern.specs.Stored.{Stored, Extends}
use Rattle.text_atoms.specs.declared.origin.Origin.{Origin}
use Rattle.name_universe.specs.Tables.{NameTables}
use Rattle.transitions.specs.declared.arc.Arc.{Arc}
use Rattle.transitions.specs.declared.state_id.StateId.{StateId}
use Rattle.feasibility.specs.declared.explorer.Explorer.{Explorer}
use Rattle.feasibility.specs.declared.fault.Refusal.{Refusal}
use Rattle.feasibility.specs.declared.fault.Refusal.TheVariants as refusal
use Rattle.feasibility.specs.declared.fault.Refusal.TheVariants.{Full}
use Rattle.feasibility.specs.Faults.{fault_of}
use Rattle.feasibility.specs.Limits.{IsOverLimit}
use Rattle.feasibility.specs.declared.states.Extent.{Extent}
use Rattle.feasibility.specs.declared.states.States.{States}
use Rattle.std.specs.Prelude.{Option, Result, Ok, Err, IfOk}
use Rattle.feasibility.specs.Exploring.{Finds, IsExploring, found, groups_of, names, pool, schema}
use Rattle.feasibility.specs.Grown.{IsGrown, row_total, spent_on}
use Rattle.feasibility.specs.Growing.{AreGrown, GoesOn, IsCutTo, IsExtent, IsNew, Parts, at_level, cost, cost_of, full_cost, parts, parts_of}
use Rattle.feasibility.specs.Tables.{Keeps, Table, lists_of}
use Rattle.feasibility.proofs.Apart.{length_states}
use Rattle.feasibility.proofs.Cutting.{cut_front, few_refused, grown_still, same_found, same_names, same_total, times}
use Rattle.feasibility.proofs.Finding.{IsOnlyPool, finds_names}

pub listable_from : (e : Explorer) (g : Schema) (u : NameTables) (a : List (Text × Origin)) → schema e ≡ g → e.derivatives.universe ≡ u → e.derivatives.atoms ≡ a → AreListable g (lists_of u a) →
    AreListable (schema e) (names e)
listable_from e g u a p q r h =
    subst (λ z. AreListable z (names e)) (sym p) (subst (AreListable g) (λ i. lists_of (sym q i) (sym r i)) h)

pub listable_on : (e f : Explorer) → Finds e f → AreListable (schema e) (names e) → AreListable (schema f) (names f)
listable_on e f x h = subst (λ z. AreListable z (names f)) (sym x.schema) (subst (AreListable (schema e)) (sym (finds_names e f x)) h)

pub new_states : (s : States) (e : Explorer) → s.explorer ≡ e → s.frees.items ≡ [] → s.rows ≡ [] → s.levels.items ≡ [] → AreListable (schema e) (names e) → IsExploring e →
    e.states.keys ≡ [] → e.level ≡ 0 → 1 ≤ e.limit → e.limit ≤ 1000000 → IsNew s
new_states s e same frees rows levels listable exploring none level some most = record {
  listable = subst (λ (x : Explorer). AreListable (schema x) (names x)) (sym same) listable;
  exploring = subst (λ (x : Explorer). IsExploring x) (sym same) exploring;
  room = subst (λ (x : Explorer). 1 ≤ x.limit) (sym same) some;
  small = subst (λ (x : Explorer). x.limit ≤ 1000000) (sym same) most;
  level = ap (λ (x : Explorer). x.level) same ∙ level;
  states = ap (λ (x : Explorer). x.states.keys) same ∙ none;
  frees = frees;
  rows = rows;
  levels = levels;
}

-- nothing is spent on the start
pub none_spent : (s : States) → length (found s.explorer) ≤ 1 → s.rows ≡ [] → spent_on (names s.explorer) (groups_of s.explorer) (length (found s.explorer)) (length s.rows) ≡ 0
none_spent s one rows =
    subst (λ (rs : List (List Arc)). spent_on (names s.explorer) (groups_of s.explorer) (length (found s.explorer)) (length rs) ≡ 0) (sym rows) (omega (arith, one))

-- no size so far has more than the limit
pub not_more : (s : States) → AreGrown s → (m : ℕ) → m ≤ s.explorer.level → ReachesMore (schema s.explorer) (names s.explorer) m s.explorer.limit → ⊥
not_more s h m l r =
    let e = s.explorer in
    no_more (schema e) (names e) e.level e.limit (found e) (λ z q. (h.each z).1 q) h.exploring.few (more_grows (schema e) (names e) m e.level e.limit l r)

-- the value of a table
abbrev pub view_of : Parts → Table
view_of p = record {
  schema = schema p.explorer;
  universe = p.explorer.derivatives.universe;
  atoms = p.explorer.derivatives.atoms;
  groups = groups_of p.explorer;
  limit = p.explorer.limit;
  grown = p.explorer.level;
  states = found p.explorer;
  spent = spent_on (names p.explorer) (groups_of p.explorer) (length (found p.explorer)) (length p.rows);
}

pub keeps_on : (p q : Parts) → GoesOn p q → Keeps (view_of p) (view_of q)
keeps_on p q x = record {
  schema = x.finds.schema;
  universe = x.finds.universe;
  atoms = x.finds.atoms;
  groups = x.finds.groups;
  limit = x.finds.limit;
  grown = x.up;
  longer = x.finds.longer;
  states = x.finds.states;
}

-- so its value is as before
pub same_view : (e f : Explorer) (frees : List (Option StateId)) (rows : List (List Arc)) (levels : List ℕ) → IsGrown e frees rows levels → IsOnlyPool e f →
    view_of (parts f frees rows levels) ≡ view_of (parts e frees rows levels)
same_view e f frees rows levels h p =
    let s = same_found e f frees rows levels h p in
    let n = same_names e f frees rows levels h p in
    let a = p.schema in
    let b = p.universe in
    let c = p.atoms in
    let d = p.groups in
    let l = p.limit in
    let v = p.level in
    (λ i. record {
      schema = a i;
      universe = b i;
      atoms = c i;
      groups = d i;
      limit = l i;
      grown = v i;
      states = s i;
      spent = spent_on (n i) (d i) (length (s i)) (length rows);
    })

one_less : (a b r s old new : ℕ) → (a ≡ 0 → b ≡ 0) → a ≤ b → new + (a + r) ≤ old + (b + s) → new + ((a - 1) + r) ≤ old + ((b - 1) + s)
one_less zero b r s old new n l h = let k = n refl in omega (arith, k, h)
one_less (suc a) zero r s old new n l h = absurd (omega (arith, l))
one_less (suc a) (suc b) r s old new n l h = omega (arith, h)

-- what was spent rises by the derivatives at least
pub spends : (p q : Parts) (old new : ℕ) → GoesOn p q → length p.frees ≡ length (found p.explorer) → length q.frees ≡ length (found q.explorer) →
    new + cost (names p.explorer) (groups_of p.explorer) (length p.frees) (length p.rows) ≤ old + cost (names p.explorer) (groups_of p.explorer) (length q.frees) (length q.rows) →
    new + (view_of p).spent ≤ old + (view_of q).spent
spends p q old new x a b h =
    let r = row_total (names p.explorer) (groups_of p.explorer) in
    let more = x.finds.longer in
    let c : new + (length (found p.explorer) + r * length p.rows) ≤ old + (length (found q.explorer) + r * length q.rows) =
    subst (λ m. new + (m + r * length p.rows) ≤ old + (length (found q.explorer) + r * length q.rows)) a (subst (λ m. new + (length p.frees + r * length p.rows) ≤ old + (m + r * length q.rows)) b h) in
    subst (λ z. new + ((length (found p.explorer) - 1) + r * length p.rows) ≤ old + ((length (found q.explorer) - 1) + z * length q.rows)) (sym (same_total p q x))
    (one_less (length (found p.explorer)) (length (found q.explorer)) (r * length p.rows) (r * length q.rows) old new x.none more c)

-- and after a refusal they are at most those of a full table
pub refuses : (p : Parts) (old new : ℕ) → length p.frees ≡ length (found p.explorer) →
    new + cost (names p.explorer) (groups_of p.explorer) (length p.frees) (length p.rows) ≤ old + cost (names p.explorer) (groups_of p.explorer) p.explorer.limit p.explorer.limit →
    new + (view_of p).spent ≤ old + (row_total (names p.explorer) (groups_of p.explorer) + 2) * (p.explorer.limit + 1)
refuses p old new a h =
    let r = row_total (names p.explorer) (groups_of p.explorer) in
    few_refused r (length (found p.explorer)) (length p.rows) p.explorer.limit old new
    (subst (λ m. new + (m + r * length p.rows) ≤ old + (p.explorer.limit + r * p.explorer.limit)) a h)

-- what is cut back is as it was, and the pool alone has grown
module _ (p q k : States) (x : Extent) (h : AreGrown p) (on : GoesOn (parts_of p) (parts_of q)) (far : IsExtent p x) (cut : IsCutTo x q k) where
  pub cut_pool : IsOnlyPool p.explorer k.explorer
  cut_pool = record {
    schema = cut.schema ∙ on.finds.schema;
    universe = cut.universe ∙ on.finds.universe;
    atoms = cut.atoms ∙ on.finds.atoms;
    groups = cut.groups ∙ on.finds.groups;
    limit = cut.limit ∙ on.finds.limit;
    level = cut.level ∙ far.level;
    pool = subst (λ (t : Stored). Extends (pool p.explorer) t) (sym cut.pool) on.finds.pool;
    keys =
        cut.states ∙
        cut_front p.explorer.states.keys q.explorer.states.keys x.states on.finds.keys (far.states ∙ length_states (pool p.explorer) p.explorer.states.keys);
  }

  cut_frees : k.frees.items ≡ p.frees.items
  cut_frees = cut.frees ∙ cut_front p.frees.items q.frees.items x.states on.frees (far.states ∙ sym h.all_frees)

  cut_rows : k.rows ≡ p.rows
  cut_rows = cut.rows ∙ cut_front p.rows q.rows x.rows on.rows far.rows

  pub cut_levels : k.levels.items ≡ p.levels.items
  cut_levels = cut.levels ∙ cut_front p.levels.items q.levels.items (x.level + 1) on.levels (ap (λ n. n + 1) far.level ∙ sym h.all_levels)

  pub cut_grown : AreGrown k
  cut_grown =
      let g = grown_still p.explorer k.explorer p.frees.items p.rows p.levels.items h cut_pool in
      subst (λ (ys : List (Option StateId)). IsGrown k.explorer ys k.rows k.levels.items) (sym cut_frees)
      (subst (λ (ys : List (List Arc)). IsGrown k.explorer p.frees.items ys k.levels.items) (sym cut_rows)
      (subst (λ (ys : List ℕ). IsGrown k.explorer p.frees.items p.rows ys) (sym cut_levels) g))

  pub cut_view : view_of (parts_of k) ≡ view_of (parts_of p)
  cut_view =
      ap (λ (ys : List (List Arc)). view_of (parts k.explorer k.frees.items ys k.levels.items)) cut_rows ∙
      same_view p.explorer k.explorer p.frees.items p.rows p.levels.items h cut_pool

-- which fault it is
pub over_limit : (p : Parts) (size limit : ℕ) (r : Refusal) → limit ≡ p.explorer.limit → (r ≡ Full → ReachesMore (schema p.explorer) (names p.explorer) size p.explorer.limit) →
    IsOverLimit (view_of p) size (fault_of r size limit)
over_limit p size limit refusal.Full e h = record { size = refl; count = omega (arith, e); more = h refl }
over_limit p size limit refusal.OutOfMemory e h = tt

-- no size up to the present one has more than the limit, told of the schema, the names and the limit before
pub few_after : (p q : States) → GoesOn (parts_of p) (parts_of q) → AreGrown q → (size : ℕ) → size ≤ q.explorer.level →
    ReachesMore (schema p.explorer) (names p.explorer) size p.explorer.limit → ⊥
few_after p q x h size l r =
    not_more q h size l
    (subst (λ n. ReachesMore (schema q.explorer) (names q.explorer) size n) (sym x.finds.limit)
    (subst (λ u. ReachesMore (schema q.explorer) u size p.explorer.limit) (sym (finds_names (at_level q.explorer.level p.explorer) q.explorer x.finds))
    (subst (λ g. ReachesMore g (names p.explorer) size p.explorer.limit) (sym x.finds.schema) r)))

-- what is grown has taken at most the derivatives of a full table
pub few_costs : (p q : States) → GoesOn (parts_of p) (parts_of q) → AreGrown q → cost_of (parts_of p) (parts_of q) ≤ full_cost (parts_of p)
few_costs p q x h =
    let all = h.all_frees in
    let some = h.some_rows in
    let few = h.exploring.few in
    let same = x.finds.limit in
    let r = times (row_total (names p.explorer) (groups_of p.explorer)) (length q.rows) p.explorer.limit (omega (arith, some, few, same)) in
    omega (arith, all, few, same, r)

pub keeps_itself : (t : Table) → Keeps t t
keeps_itself t = record {
  schema = refl;
  universe = refl;
  atoms = refl;
  groups = refl;
  limit = refl;
  grown = omega arith;
  longer = omega arith;
  states = λ id l. refl;
}

-- what follows from a clause on a result
pub if_ok_map : {T E : Type 0} (r : Result T E) (P Q : T → Type 0) → ((x : T) → P x → Q x) → IfOk r P → IfOk r Q
if_ok_map (Ok x) P Q f h = f x h
if_ok_map (Err e) P Q f h = tt
