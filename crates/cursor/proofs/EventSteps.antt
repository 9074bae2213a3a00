-- One event over the states of a table.
use Rattle.std.proofs.Common.{◌≡◌, ◌≢◌, ℕ, ◌+◌, ◌<◌, List, [], ◌∷◌, length, refl, sym, ◌∙◌, subst, arith, Some, get_or, Contains, Bool, true, false, IsTrue}
use Rattle.std.proofs.lemmas.Option.{slice_get-get_or}
use Rattle.rng_model.specs.Texts.{Text}
use Rattle.rng_model.specs.Patterns.{not_allowed}
use Rattle.rng_model.specs.Events.{Event}
use Rattle.rng_model.specs.Events as event
use Rattle.rng_model.specs.Universe.{Lists}
use Rattle.rng_model.specs.Codes.{Code, IsCode}
use Rattle.rng_model.specs.States.{State, step, Reach, Fresh}
use Rattle.line_laws.specs.Nodes.{node_count}
use Rattle.text_atoms.specs.declared.origin.Origin.{Origin}
use Rattle.name_universe.specs.Tables.{NameTables}
use Rattle.table_laws.specs.Reaching.{weight, state_at, Leads}
use Rattle.table_laws.specs.Finishing.{Finish}
use Rattle.table_laws.proofs.Exact.{codes_in_range}
use Rattle.table_laws.proofs.Levels.{reach_step}
use Rattle.table_laws.proofs.Nexts.{codes_once}
use Rattle.table_laws.proofs.Cursors.{finish_alive}
use Rattle.event_codes.specs.Positions.{lists_of, HasNoCode}
use Rattle.feasibility.specs.Tables.{Table, IsTable, lists, state_of}
use Rattle.feasibility.specs.Following.{IsHeld, IsGrownFor, LeadsTo}
use Rattle.cursor.specs.Passing.{IsStuck}

held_state : (xs : List State) (i : ℕ) (x : State) → i < length xs → Contains xs (get_or xs i x)
held_state xs i x h =
    let a = slice_get-get_or xs i x h in
    let b = slice_get-get_or xs i (get_or xs i x) h in
    (i, h, same (get_or xs i (get_or xs i x)) (get_or xs i x) (sym b ∙ a))
  where
    same : (x y : State) → Some x ≡ Some y → x ≡ y
    same x y e = cc

pub not_true : (b : Bool) → b ≡ false → IsTrue b → ⊥
not_true true e h = absurd (cc)
not_true false e h = absurd (cc)

-- the code of an event has its nodes
pub weighs : (u : Lists) (e : Event) (c : Code) → IsCode u e c → weight c ≡ node_count (e ∷ [])
weighs u (event.Opening n) (Code.Opening i) h = refl
weighs u (event.Attr n t) (Code.Attr j s) h = refl
weighs u event.Body Code.Body h = refl
weighs u (event.Chars t) (Code.Chars s) h = refl
weighs u event.Closing Code.Closing h = refl
weighs u e c h = absurd h

pub code_for : (t : Table) (v : NameTables) (a : List (Text × Origin)) (e : Event) (c : Code) → v ≡ t.universe → a ≡ t.atoms →
    IsCode (lists_of v a) e c → IsCode (lists t) e c
code_for t v a e c p q h = subst (λ x. IsCode (lists_of t.universe x) e c) q (subst (λ x. IsCode (lists_of x a) e c) p h)

module _ (t : Table) (is : IsTable t) where
  -- a state that is held is allowed
  pub held_allowed : (id : ℕ) → IsHeld t id → (state_of t id).pattern ≢ not_allowed
  held_allowed id h = let r = (is.each (state_of t id)).0 (held_state t.states id (state_at Fresh not_allowed) h) in r.allowed

  pub one_code : (e : Event) (c d : Code) → IsCode (lists t) e c → IsCode (lists t) e d → c ≡ d
  one_code e c d h k = head (codes_once t.schema (lists t) is.listable.ascend (e ∷ []) (c ∷ []) (d ∷ []) (h, tt) (k, tt))
    where
      head : c ∷ [] ≡ d ∷ [] → c ≡ d
      head q = cc

  -- the table tells what follows the state after the event
  pub grown_next : (id next left : ℕ) (e : Event) (c : Code) → IsGrownFor t id (node_count (e ∷ []) + left) → IsCode (lists t) e c →
      LeadsTo t id c next → IsGrownFor t next left
  grown_next id next left e c g code to =
      let k = g.0 in
      let w = weighs (lists t) e c code in
      let l : Leads t.schema (lists t) (state_of t id) c = record {
        in_range = (codes_in_range t.schema (lists t) (e ∷ []) (c ∷ []) (code, tt)).0;
        allowed = subst (λ s. s.pattern ≢ not_allowed) to.state (held_allowed next to.held);
      } in
      let b = g.2 in
      (k + weight c, subst (Reach t.schema (lists t) (k + weight c)) (sym to.state) (reach_step t.schema (lists t) k (state_of t id) c g.1 l), omega arith)

  -- where the one code leads nowhere the event is stuck
  pub stuck_at_code : (id left : ℕ) (e : Event) (c : Code) → IsCode (lists t) e c →
      (Finish t.schema (lists t) left (step t.schema (lists t) (state_of t id) c) → ⊥) → IsStuck t id e left
  stuck_at_code id left e c code none d h f =
      none (subst (λ x. Finish t.schema (lists t) left (step t.schema (lists t) (state_of t id) x)) (one_code e d c h code) f)

  pub stuck_dead : (id left : ℕ) (e : Event) (c : Code) → IsCode (lists t) e c →
      (step t.schema (lists t) (state_of t id) c).pattern ≡ not_allowed → IsStuck t id e left
  stuck_dead id left e c code dead =
      stuck_at_code id left e c code (λ f. finish_alive t.schema (lists t) left (step t.schema (lists t) (state_of t id) c) f dead)

  pub stuck_unfinished : (id next left : ℕ) (e : Event) (c : Code) → IsCode (lists t) e c → LeadsTo t id c next →
      (Finish t.schema (lists t) left (state_of t next) → ⊥) → IsStuck t id e left
  stuck_unfinished id next left e c code to none =
      stuck_at_code id left e c code (λ f. none (subst (Finish t.schema (lists t) left) (sym to.state) f))

  pub stuck_uncoded : (v : NameTables) (a : List (Text × Origin)) (id left : ℕ) (e : Event) → v ≡ t.universe → a ≡ t.atoms →
      HasNoCode (lists_of v a) e → IsStuck t id e left
  stuck_uncoded v a id left e p q none c h f =
      none c (subst (λ x. IsCode (lists_of x a) e c) (sym p) (subst (λ x. IsCode (lists_of t.universe x) e c) (sym q) h))
