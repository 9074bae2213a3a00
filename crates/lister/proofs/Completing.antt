-- A document is whole once what is open is ended.
use Rattle.std.proofs.Common.{◌≡◌, ℕ, zero, suc, ◌+◌, ◌-◌, ◌*◌, ◌<◌, ◌≤◌, List, ◌∷◌, ◌++◌, length, take, drop, length-append, append_assoc, refl, sym, ◌∙◌, ap, subst, arith, Some, slice_get}
use Rattle.std.proofs.Math.Seq.{drop-append_seam}
use Rattle.std.proofs.lemmas.List.{take-append-le}
use Rattle.rng_model.specs.Codes.{Code, Closing, nodes}
use Rattle.rng_model.specs.States.{after_codes}
use Rattle.table_laws.specs.Premises.{AreListable}
use Rattle.table_laws.specs.Walking.{IsLeastRest}
use Rattle.table_laws.proofs.Rows.{nodes-append}
use Rattle.table_laws.proofs.Rooms.{listed_length}
use Rattle.feasibility.specs.Tables.{Table, lists, state_of}
use Rattle.feasibility.specs.Following.{IsHeld}
use Rattle.lister.specs.Walks.{AreStates}
use Rattle.lister.specs.Paths.{Path, IsKept}
use Rattle.lister.specs.OpenElements.{open_at, closings, ending_codes}
use Rattle.lister.specs.Descents.{listed_codes, LeadsUpTo, Descends, Completes}
use Rattle.lister.proofs.Items.{get_within}
use Rattle.lister.proofs.Steps.{whole_with}
use Rattle.lister.proofs.Retreating.{tail_nothing}

pub closings_length : (d : ℕ) → length (closings d) ≡ d
closings_length zero = refl
closings_length (suc d) = omega (arith, closings_length d)

pub closings_less : (d i : ℕ) → i < d → closings (d - i) ≡ Closing ∷ closings (d - (i + 1))
closings_less d i h = let e : d - i ≡ suc (d - (i + 1)) = omega arith in ap closings e

module _ (t : Table) (are : AreListable t.schema (lists t)) where
  ends_listed : (p : Path) (id : ℕ) → LeadsUpTo t p id 0 → listed_codes t (nodes p.codes) (p.codes ++ ending_codes (open_at p.codes))
  ends_listed p id l = whole_with t are p id l

  ends_no_node : (p : Path) (id : ℕ) → LeadsUpTo t p id 0 → nodes (ending_codes (open_at p.codes)) ≡ 0
  ends_no_node p id l = let e = (ends_listed p id l).exact in omega (arith, nodes-append p.codes (ending_codes (open_at p.codes)))

  pub room_to_close : (p : Path) (id : ℕ) → LeadsUpTo t p id 0 → length p.codes + length (ending_codes (open_at p.codes)) ≤ 3 * p.room
  room_to_close p id l =
      let b = listed_length t.schema (lists t) are.unbroken are.ascend are.simple are.alphabet (nodes p.codes) (p.codes ++ ending_codes (open_at p.codes)) (ends_listed p id l) in
      let r = l.room in
      omega (arith, length-append p.codes (ending_codes (open_at p.codes)))

  pub codes_few : (p : Path) (id : ℕ) → LeadsUpTo t p id 0 → length p.codes ≤ 3 * p.room
  codes_few p id l = let r = room_to_close p id l in omega arith

  states_with : (codes more : List Code) (states : List ℕ) → length states ≡ length codes → AreStates t codes states → AreStates t (codes ++ more) states
  states_with codes more states e a = record { each = λ k i q. go k i q }
    where
      go : (k i : ℕ) → slice_get states k ≡ Some i → IsHeld t i × (state_of t i ≡ after_codes t.schema (lists t) (take k (codes ++ more)))
      go k i q =
          let h : k ≤ length codes = let w = get_within states k i q in omega arith in
          let r = a.each k i q in
          (r.0, r.1 ∙ ap (after_codes t.schema (lists t)) (sym (take-append-le k codes more h)))

  least_tail : (n : ℕ) (front back : List Code) → listed_codes t n (front ++ back) → nodes back ≡ 0 → IsLeastRest (listed_codes t n) front back
  least_tail n front back a e = record { listed = a; least = λ other l. tail_nothing t are n front other l (none other l) back a }
    where
      none : (other : List Code) → listed_codes t n (front ++ other) → nodes other ≡ 0
      none other l = let p = a.exact in let q = l.exact in omega (arith, nodes-append front back, nodes-append front other)

  pub completes : (n : ℕ) (old p new : Path) (id : ℕ) → nodes p.codes ≡ n → Descends t n old p → LeadsUpTo t p id 0 → new.codes ≡ p.codes ++ ending_codes (open_at p.codes) → new.states ≡ p.states →
      new.room ≡ p.room → Completes t n old new
  completes n old p new id size d l codes states room =
      let a : listed_codes t n (p.codes ++ ending_codes (open_at p.codes)) = subst (λ k. listed_codes t k (p.codes ++ ending_codes (open_at p.codes))) size (ends_listed p id l) in
      let z = ends_no_node p id l in
      let back : drop (length p.states) (p.codes ++ ending_codes (open_at p.codes)) ≡ ending_codes (open_at p.codes) =
      ap (λ k. drop k (p.codes ++ ending_codes (open_at p.codes))) l.level ∙ drop-append_seam p.codes (ending_codes (open_at p.codes)) in
      let kept : IsKept (record { room = p.room; codes = p.codes ++ ending_codes (open_at p.codes); states = p.states }) = record {
        within = (let v = l.level in omega (arith, length-append p.codes (ending_codes (open_at p.codes))));
        no_node = ap nodes back ∙ z;
      } in
      record {
        room = room ∙ d.room;
        more = d.more ++ ending_codes (open_at p.codes);
        codes = codes ∙ ap (λ x. x ++ ending_codes (open_at p.codes)) d.codes ∙ append_assoc old.codes d.more (ending_codes (open_at p.codes));
        least = d.least (ending_codes (open_at p.codes)) (least_tail n p.codes (ending_codes (open_at p.codes)) a z);
        states = subst (λ x. AreStates t x new.states) (sym codes) (subst (AreStates t (p.codes ++ ending_codes (open_at p.codes))) (sym states) (states_with p.codes (ending_codes (open_at p.codes)) p.states l.level l.states));
        kept = subst IsKept (λ i. record { room = sym room i; codes = sym codes i; states = sym states i }) kept;
      }
