-- The first document of a size, and the next one, from what the walk found.
use Rattle.std.proofs.Common.{◌≡◌, ℕ, ◌+◌, ◌-◌, ◌<◌, ◌≤◌, List, [], ◌∷◌, ◌++◌, length, take, length-append, append_assoc, refl, sym, ◌∙◌, ap, subst, arith, get_or, slice_get, Some, Contains}
use Rattle.std.proofs.Math.Seq.{take-append_seam}
use Rattle.std.proofs.lemmas.Option.{slice_get-get_or}
use Rattle.rng_model.specs.Patterns.{not_allowed}
use Rattle.rng_model.specs.Codes.{Code, nodes}
use Rattle.rng_model.specs.States.{State, after_codes, Fresh}
use Rattle.table_laws.specs.Reaching.{start_state, state_at}
use Rattle.table_laws.specs.Finishing.{Finish}
use Rattle.table_laws.specs.Walking.{IsNextList}
use Rattle.table_laws.proofs.Rows.{alive, nullable-alive}
use Rattle.feasibility.specs.Tables.{Table, IsTable, lists, state_of}
use Rattle.feasibility.specs.Following.{IsHeld, IsGrownFor}
use Rattle.lister.specs.Paths.{Path, empty_path}
use Rattle.lister.specs.Descents.{listed_codes, LeadsUpTo, Completes, TurnsLast, GoesBack}
use Rattle.lister.specs.Phases.{IsForkOf, IsFoundNext}
use Rattle.lister.proofs.Items.{some_same, get_seam}

held_state : (xs : List State) (i : ℕ) (x : State) → i < length xs → Contains xs (get_or xs i x)
held_state xs i x h =
    let a = slice_get-get_or xs i x h in
    let b = slice_get-get_or xs i (get_or xs i x) h in
    (i, h, some_same (get_or xs i (get_or xs i x)) (get_or xs i x) (sym b ∙ a))

-- up to the code that was put last the codes stand as before, and that one is another
fork : (old p new more : List Code) (k : ℕ) → TurnsLast old p → new ≡ p ++ more → k + 1 ≡ length p → IsForkOf old new k
fork old p new more k b e l = (
  ap (take k) new_is ∙ ap (λ i. take i (b.front ++ (b.last ∷ more))) place ∙ take-append_seam b.front (b.last ∷ more)
      ∙ sym (ap (take k) b.old_is ∙ ap (λ i. take i (b.front ++ (b.was ∷ b.behind))) place ∙ take-append_seam b.front (b.was ∷ b.behind)),
  λ q. b.other (some_same b.last b.was (sym (at_place new b.last more new_is) ∙ q ∙ at_place old b.was b.behind b.old_is)),
)
  where
    place : k ≡ length b.front
    place = omega (arith, l, ap length b.new_is, length-append b.front (b.last ∷ []))

    new_is : new ≡ b.front ++ (b.last ∷ more)
    new_is = e ∙ ap (λ x. x ++ more) b.new_is ∙ append_assoc b.front (b.last ∷ []) more

    at_place : (xs : List Code) (c : Code) (behind : List Code) → xs ≡ b.front ++ (c ∷ behind) → slice_get xs k ≡ Some c
    at_place xs c behind is = ap (λ x. slice_get x k) is ∙ ap (slice_get (b.front ++ (c ∷ behind))) place ∙ get_seam b.front c behind

module _ (t : Table) where
  -- what is held is allowed, so the table tells what follows the start
  pub start_grown : IsTable t → (id n : ℕ) → IsHeld t id → state_of t id ≡ start_state t.schema → n ≤ t.grown → IsGrownFor t id n
  start_grown is id n h e g =
      let r = (is.each (state_of t id)).0 (held_state t.states id (state_at Fresh not_allowed) h) in
      (0, record { codes = []; in_range = tt; small = omega arith; leads = sym e; allowed = r.allowed }, omega arith)

  pub starts : (room id n : ℕ) → IsHeld t id → state_of t id ≡ start_state t.schema → Finish t.schema (lists t) n (state_of t id) → n ≤ t.grown → n ≤ room → LeadsUpTo t (empty_path room) id n
  starts room id n h e f g r = record {
    held = h;
    state = e;
    in_range = tt;
    finishes = subst (Finish t.schema (lists t) n) e f;
    grown = omega arith;
    room = omega arith;
    level = refl;
    states = record { each = λ k i q. absurd (cc) };
  }

  pub no_start : t.schema.start ≡ not_allowed → (n : ℕ) (codes : List Code) → listed_codes t n codes → ⊥
  no_start e n codes l = alive t.schema (lists t) codes (start_state t.schema) (nullable-alive (after_codes t.schema (lists t) codes).pattern l.accepts) e

  pub no_finish : (id n : ℕ) → state_of t id ≡ start_state t.schema → (Finish t.schema (lists t) n (state_of t id) → ⊥) → (codes : List Code) → listed_codes t n codes → ⊥
  no_finish id n e none codes l = none (subst (Finish t.schema (lists t) n) (sym e) (record { codes = codes; in_range = l.in_range; exact = l.exact; accepts = l.accepts }))

  -- all codes of the next document but the last of those that it begins with stand as before
  pub found_next : (m k : ℕ) (old p new : Path) → m ≡ nodes old.codes → k ≡ length p.codes - 1 → GoesBack t (nodes old.codes) old p → Completes t m p new → IsFoundNext t old (Some k) new
  found_next m k old p new e l b c =
      let d : Completes t (nodes old.codes) p new = subst (λ i. Completes t i p new) e c in
      let some : k + 1 ≡ length p.codes = omega (arith, l, ap length b.turns.new_is, length-append b.turns.front (b.turns.last ∷ [])) in
      (subst (IsNextList (listed_codes t (nodes old.codes)) old.codes) (sym d.codes) (b.next d.more d.least), fork old.codes p.codes new.codes d.more k b.turns d.codes some)
