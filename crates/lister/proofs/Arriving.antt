-- The end of the path of a document that is given.
use Rattle.std.proofs.Common.{◌≡◌, ◌≢◌, ℕ, ◌*◌, ◌≤◌, List, [], ◌∷◌, length, take, drop, refl, sym, ◌∙◌, ap, subst, arith}
use Rattle.std.proofs.Math.Seq.{take-length, drop-length}
use Rattle.rng_model.specs.Patterns.{not_allowed}
use Rattle.rng_model.specs.Hedges.{Skeleton, size}
use Rattle.rng_model.specs.Events.{Event, events}
use Rattle.rng_model.specs.Listing.{IsListed}
use Rattle.rng_model.specs.Codes.{Code, nodes, AreCodes}
use Rattle.table_laws.specs.Premises.{AreListable}
use Rattle.table_laws.specs.Reaching.{start_state}
use Rattle.table_laws.specs.Finishing.{Finish}
use Rattle.table_laws.proofs.ListedCodes.{over_codes, skeleton_codes}
use Rattle.table_laws.proofs.Nexts.{codes_once}
use Rattle.table_laws.proofs.Rooms.{listed_length}
use Rattle.rng_model.specs.Universe.{Lists}
use Rattle.feasibility.specs.Tables.{Table, lists, state_of}
use Rattle.feasibility.specs.Following.{IsHeld}
use Rattle.lister.specs.Paths.{Path, empty_path, IsKept}
use Rattle.lister.specs.Descents.{listed_codes, LeadsUpTo}
use Rattle.lister.proofs.Starting.{starts, no_start}

module _ (t : Table) (are : AreListable t.schema (lists t)) (s : Skeleton) (n : ℕ) (listed : IsListed t.schema (lists t) n s) where
  whole : (cs : List Code) → AreCodes (lists t) (events s) cs → listed_codes t (size s) cs
  whole cs h = skeleton_codes t.schema (lists t) are.unbroken are.ascend n s listed cs h

  -- the schema allows something
  pub some_start : t.schema.start ≢ not_allowed
  some_start e = let c = over_codes t.schema (lists t) s listed.over in no_start t e (size s) c.0 (whole c.0 c.1)

  pub at_start : (id : ℕ) → IsHeld t id → state_of t id ≡ start_state t.schema → size s ≤ t.grown → LeadsUpTo t (empty_path n) id (size s)
  at_start id h e g =
      let c = over_codes t.schema (lists t) s listed.over in
      let l = whole c.0 c.1 in
      let f : Finish t.schema (lists t) (size s) (start_state t.schema) = record { codes = c.0; in_range = l.in_range; exact = l.exact; accepts = l.accepts } in
      starts t n id (size s) h e (subst (Finish t.schema (lists t) (size s)) (sym e) f) g listed.small

  pub arrived : (cs : List Code) → AreCodes (lists t) (take (length (events s)) (events s)) cs → AreCodes (lists t) (events s) cs × listed_codes t (size s) cs
  arrived cs h = let k : AreCodes (lists t) (events s) cs = subst (λ x. AreCodes (lists t) x cs) (take-length (events s)) h in (k, whole cs k)

  pub same_codes : (cs ds : List Code) → AreCodes (lists t) (events s) cs → AreCodes (lists t) (events s) ds → cs ≡ ds
  same_codes cs ds h k = codes_once t.schema (lists t) are.ascend (events s) cs ds h k

pub kept_level : (p : Path) → length p.states ≡ length p.codes → IsKept p
kept_level p e = record { within = omega arith; no_node = ap (λ k. nodes (drop k p.codes)) e ∙ ap nodes (drop-length p.codes) }

codes_length : (u : Lists) (es : List Event) (cs : List Code) → AreCodes u es cs → length cs ≡ length es
codes_length u [] [] h = refl
codes_length u [] (c ∷ cs) h = absurd h
codes_length u (e ∷ es) [] h = absurd h
codes_length u (e ∷ es) (c ∷ cs) h = omega (arith, codes_length u es cs h.1)

module _ (t : Table) (are : AreListable t.schema (lists t)) (s : Skeleton) (n : ℕ) (listed : IsListed t.schema (lists t) n s) where
  -- there are at most three events for each node
  pub few_events : length (events s) ≤ 3 * n
  few_events =
      let c = over_codes t.schema (lists t) s listed.over in
      let b = listed_length t.schema (lists t) are.unbroken are.ascend are.simple are.alphabet (size s) c.0 (whole t are s n listed c.0 c.1) in
      let m = listed.small in
      omega (arith, codes_length (lists t) (events s) c.0 c.1)
