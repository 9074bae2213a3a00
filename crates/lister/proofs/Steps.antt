-- A path through the states of a table, step by step.
use Rattle.std.proofs.Common.{◌≡◌, ◌≢◌, ℕ, ◌+◌, ◌-◌, ◌*◌, ◌<◌, ◌≤◌, List, [], ◌∷◌, ◌++◌, length, take, length-append, append_assoc, append-nil, refl, sym, ◌∙◌, ap, subst, arith, None, IsTrue, ◌⊎◌, inl, inr}
use Rattle.std.specs.List.{AllByRecursion}
use Rattle.std.proofs.Math.Seq.{take-append_seam}
use Rattle.std.proofs.lemmas.List.{take-append-le}
use Rattle.rng_model.specs.Patterns.{not_allowed}
use Rattle.rng_model.specs.Matching.{nullable}
use Rattle.rng_model.specs.Codes.{Code, nodes, IsInRange}
use Rattle.rng_model.specs.States.{step, after_codes}
use Rattle.derivative_laws.proofs.Members.{all-append}
use Rattle.table_laws.specs.Premises.{AreListable}
use Rattle.table_laws.specs.Reaching.{weight, start_state}
use Rattle.table_laws.specs.Finishing.{Finish, CanTake}
use Rattle.table_laws.specs.Walking.{IsLeastRest, IsFirstCode}
use Rattle.table_laws.proofs.Rows.{nodes-cons, nodes-append, steps-append}
use Rattle.table_laws.proofs.Rooms.{listed_length}
use Rattle.table_laws.proofs.Cursors.{finish_alive}
use Rattle.table_laws.proofs.ListedCodes.{first_code, finish_take}
use Rattle.table_laws.proofs.Walk.{greedy_step}
use Rattle.feasibility.specs.Tables.{Table, lists, state_of}
use Rattle.feasibility.specs.Following.{IsHeld, IsGrownFor, LeadsTo, Takes, IsNextTaken, NothingTaken}
use Rattle.lister.specs.Walks.{AreStates}
use Rattle.lister.specs.Paths.{Path, with_step}
use Rattle.lister.specs.OpenElements.{open_at, ending_codes}
use Rattle.lister.specs.Descents.{listed_codes, LeadsUpTo, Descends}
use Rattle.lister.proofs.Tails.{tail_is}
use Rattle.lister.proofs.Items.{IsOneMore, old, new, one_more, get_within}

module _ (t : Table) (are : AreListable t.schema (lists t)) where
  -- a beginning that can finish goes on to a document
  pub listed_whole : (front : List Code) (rest : ℕ) → AllByRecursion (IsInRange (lists t)) front → (f : Finish t.schema (lists t) rest (after_codes t.schema (lists t) front)) →
      listed_codes t (nodes front + rest) (front ++ f.codes)
  listed_whole front rest a f =
      let e = f.exact in
      record {
        in_range = all-append (IsInRange (lists t)) front f.codes a f.in_range;
        exact = omega (arith, nodes-append front f.codes);
        accepts = subst (λ s. IsTrue (nullable s.pattern)) (sym (steps-append t.schema (lists t) (start_state t.schema) front f.codes)) f.accepts;
      }

  pub short : (p : Path) (id rest : ℕ) → LeadsUpTo t p id rest → length p.codes ≤ 3 * (nodes p.codes + rest)
  short p id rest l =
      let w = listed_whole p.codes rest l.in_range l.finishes in
      let b = listed_length t.schema (lists t) are.unbroken are.ascend are.simple are.alphabet (nodes p.codes + rest) (p.codes ++ l.finishes.codes) w in
      omega (arith, length-append p.codes l.finishes.codes)

  -- the table tells what follows the state
  pub grown_for : (p : Path) (id rest : ℕ) → LeadsUpTo t p id rest → IsGrownFor t id rest
  grown_for p id rest l = (
    nodes p.codes,
    record {
      codes = p.codes;
      in_range = l.in_range;
      small = omega arith;
      leads = sym l.state;
      allowed = subst (λ s. s.pattern ≢ not_allowed) (sym l.state) (finish_alive t.schema (lists t) rest (after_codes t.schema (lists t) p.codes) l.finishes);
    },
    l.grown,
  )

  after_more : (front : List Code) (c : Code) → after_codes t.schema (lists t) (front ++ (c ∷ [])) ≡ step t.schema (lists t) (after_codes t.schema (lists t) front) c
  after_more front c = steps-append t.schema (lists t) (start_state t.schema) front (c ∷ [])

  states_more : (p : Path) (id : ℕ) (c : Code) → length p.states ≡ length p.codes → AreStates t p.codes p.states → IsHeld t id → state_of t id ≡ after_codes t.schema (lists t) p.codes →
      AreStates t (p.codes ++ (c ∷ [])) (p.states ++ (id ∷ []))
  states_more p id c e a h s = record { each = λ k i q. go k i (one_more p.states id k i q) }
    where
      go : (k i : ℕ) → IsOneMore p.states id k i → IsHeld t i × (state_of t i ≡ after_codes t.schema (lists t) (take k (p.codes ++ (c ∷ []))))
      go k i (old q) =
          let l : k ≤ length p.codes = let w = get_within p.states k i q in omega arith in
          let r = a.each k i q in
          (r.0, r.1 ∙ ap (after_codes t.schema (lists t)) (sym (take-append-le k p.codes (c ∷ []) l)))
      go k i (new q r) =
          let f : p.codes ≡ take k (p.codes ++ (c ∷ [])) = sym (take-append_seam p.codes (c ∷ [])) ∙ ap (λ m. take m (p.codes ++ (c ∷ []))) (sym e ∙ sym q) in
          (subst (IsHeld t) (sym r) h, ap (state_of t) r ∙ s ∙ ap (after_codes t.schema (lists t)) f)

  taken : (p : Path) (id rest : ℕ) (c : Code) → LeadsUpTo t p id rest → Takes t id rest c → CanTake t.schema (lists t) rest (after_codes t.schema (lists t) p.codes) c
  taken p id rest c l h = subst (λ s. CanTake t.schema (lists t) rest s c) l.state h

  -- one step further
  pub step_on : (p : Path) (id rest : ℕ) (c : Code) (next : ℕ) → LeadsUpTo t p id rest → Takes t id rest c → LeadsTo t id c next → LeadsUpTo t (with_step p id c) next (rest - weight c)
  step_on p id rest c next l h to =
      let k = taken p id rest c l h in
      let is = k.is in
      let left : k.left ≡ rest - weight c = omega arith in
      let size : nodes (p.codes ++ (c ∷ [])) + (rest - weight c) ≡ nodes p.codes + rest = omega (arith, nodes-append p.codes (c ∷ []), nodes-cons c []) in
      record {
        held = to.held;
        state = to.state ∙ ap (λ s. step t.schema (lists t) s c) l.state ∙ sym (after_more p.codes c);
        in_range = all-append (IsInRange (lists t)) p.codes (c ∷ []) l.in_range (k.leads.in_range, tt);
        finishes = subst (λ m. Finish t.schema (lists t) m (after_codes t.schema (lists t) (p.codes ++ (c ∷ [])))) left
            (subst (Finish t.schema (lists t) k.left) (sym (after_more p.codes c)) k.finishes);
        grown = (let g = l.grown in omega arith);
        room = (let r = l.room in omega arith);
        level = (let e = l.level in omega (arith, length-append p.codes (c ∷ []), length-append p.states (id ∷ [])));
        states = states_more p id c l.level l.states l.held l.state;
      }

  -- there is room for the step
  pub room_for : (p : Path) (id rest : ℕ) (c : Code) (next : ℕ) → LeadsUpTo t p id rest → Takes t id rest c → LeadsTo t id c next → length p.codes < 3 * p.room
  room_for p id rest c next l h to =
      let m = step_on p id rest c next l h to in
      let s = short (with_step p id c) next (rest - weight c) m in
      let r = m.room in
      omega (arith, length-append p.codes (c ∷ []))

  pub weight_within : (id rest : ℕ) (c : Code) → Takes t id rest c → weight c ≤ rest
  weight_within id rest c h = let e = h.is in omega arith

  -- where a node is left, a code can be taken
  pub something : (p : Path) (id rest : ℕ) → LeadsUpTo t p id rest → 1 ≤ rest → NothingTaken t id None rest → ⊥
  something p id rest l m nothing = go (finish_take t.schema (lists t) rest (after_codes t.schema (lists t) p.codes) l.finishes)
    where
      go : ((rest ≡ 0) × IsTrue (nullable (after_codes t.schema (lists t) p.codes).pattern)) ⊎ ((c : Code) × CanTake t.schema (lists t) rest (after_codes t.schema (lists t) p.codes) c) → ⊥
      go (inl h) = let e = h.0 in omega arith
      go (inr (c, k)) = nothing c tt (subst (λ s. CanTake t.schema (lists t) rest s c) (sym l.state) k)

  -- the least code is the first of the least rest
  pub least_on : (n : ℕ) (first p : Path) (id rest : ℕ) (c : Code) (next : ℕ) → Descends t n first p → LeadsUpTo t p id rest → nodes p.codes + rest ≡ n → 1 ≤ rest → IsNextTaken t id None rest c next →
      Descends t n first (with_step p id c)
  least_on n first p id rest c next d l e m h = record {
    room = d.room;
    more = d.more ++ (c ∷ []);
    codes = ap (λ x. x ++ (c ∷ [])) d.codes ∙ append_assoc first.codes d.more (c ∷ []);
    least = λ r k. subst (IsLeastRest (listed_codes t n) first.codes) (sym (append_assoc d.more (c ∷ []) r)) (d.least (c ∷ r) (greedy_step (listed_codes t n) p.codes c r part begin k));
  }
    where
      part : listed_codes t n p.codes → ⊥
      part a = let f = a.exact in omega arith

      begin : IsFirstCode (listed_codes t n) p.codes c
      begin = subst (λ k. IsFirstCode (listed_codes t k) p.codes c) e
          (first_code t.schema (lists t) p.codes rest c l.in_range (taken p id rest c l h.takes)
          (λ x q k. h.first x tt q (subst (λ s. CanTake t.schema (lists t) rest s x) (sym l.state) k)))

  pub start_descent : (n : ℕ) (p : Path) → Descends t n p p
  start_descent n p = record { room = refl; more = []; codes = sym (append-nil p.codes); least = λ r k. k }

  -- once no node is left, the codes that end what is open make the document whole
  pub whole_with : (p : Path) (id : ℕ) → LeadsUpTo t p id 0 → listed_codes t (nodes p.codes) (p.codes ++ ending_codes (open_at p.codes))
  whole_with p id l =
      let w = listed_whole p.codes 0 l.in_range l.finishes in
      let e : nodes p.codes + 0 ≡ nodes p.codes = omega arith in
      let q = tail_is t.schema (lists t) are.unbroken are.simple (nodes p.codes + 0) p.codes l.finishes.codes w l.finishes.exact in
      subst (λ x. listed_codes t (nodes p.codes) (p.codes ++ x)) q (subst (λ k. listed_codes t k (p.codes ++ l.finishes.codes)) e w)
