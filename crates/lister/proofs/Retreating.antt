-- The way back along a path, from the end of a document to the last code above which there is another.
use Rattle.std.proofs.Common.{◌≡◌, ◌≢◌, ℕ, ◌+◌, ◌*◌, ◌≤◌, List, [], ◌∷◌, ◌++◌, length, take, drop, length-append, append_assoc, append-nil, refl, sym, ◌∙◌, ap, subst, arith, Some, slice_get, IsTrue}
use Rattle.std.specs.List.{AllByRecursion}
use Rattle.std.proofs.Math.Seq.{take-append_seam, drop-append_seam}
use Rattle.std.proofs.lemmas.List.{take-append-le, take-append-drop}
use Rattle.std.proofs.lemmas.Cmp.{tied_itself}
use Rattle.std.specs.Cmp.Lexicographic.{lists_total}
use Rattle.std.specs.declared.cmp.Ordering.TheVariants.{Less, Equal}
use Rattle.rng_model.specs.Matching.{nullable}
use Rattle.rng_model.specs.Codes.{Code, nodes, IsInRange, code_cmp}
use Rattle.rng_model.specs.States.{after_codes}
use Rattle.derivative_laws.proofs.Members.{all-front, all-back}
use Rattle.table_laws.specs.Premises.{AreListable}
use Rattle.table_laws.specs.Reaching.{weight, start_state}
use Rattle.table_laws.specs.Finishing.{CanTake}
use Rattle.table_laws.specs.Walking.{GoesOn, IsLeastRest, IsNextCode, IsNextList, NothingAbove, codes_cmp}
use Rattle.table_laws.proofs.Rows.{nodes-cons, nodes-append, steps-append}
use Rattle.table_laws.proofs.ListedCodes.{next_code, no_code}
use Rattle.table_laws.proofs.Rooms.{listed_length}
use Rattle.table_laws.proofs.Walk.{code_order, back_step, back_found}
use Rattle.feasibility.specs.Tables.{Table, lists, state_of}
use Rattle.feasibility.specs.Following.{IsHeld, IsNextTaken, NothingTaken}
use Rattle.lister.specs.Walks.{AreStates}
use Rattle.lister.specs.Paths.{Path, with_step, IsBack}
use Rattle.lister.specs.Descents.{listed_codes, LeadsUpTo, IsDocument, GoesBack}
use Rattle.lister.proofs.Tails.{tail_is}
use Rattle.lister.proofs.Items.{get_within, get_left, get_seam}

-- The way back from the old path's end: behind the states that are left nothing is above the old codes.
pub record Retreats (t : Table) (old cur : Path) (left : ℕ) : Type 0 where
  pub room : cur.room ≡ old.room
  pub within : length cur.states ≤ length cur.codes
  pub gone : List Code
  pub codes : old.codes ≡ cur.codes ++ gone
  pub ids : List ℕ
  pub states : old.states ≡ cur.states ++ ids
  pub nothing : NothingAbove (listed_codes t (nodes old.codes)) (take (length cur.states) old.codes) (drop (length cur.states) old.codes)
  pub rest : nodes (drop (length cur.states) old.codes) ≡ left

not_less_code : (c : Code) → code_cmp c c ≢ Less
not_less_code c e = let f : code_cmp c c ≡ Equal = tied_itself code_order c in let h : Equal ≡ Less = sym f ∙ e in absurd (cc)

not_less_itself : (cs : List Code) → codes_cmp cs cs ≢ Less
not_less_itself cs e = let f : codes_cmp cs cs ≡ Equal = tied_itself (lists_total code_order) cs in let h : Equal ≡ Less = sym f ∙ e in absurd (cc)

module _ (t : Table) (are : AreListable t.schema (lists t)) where
  -- nothing is above the codes behind the last node
  pub tail_nothing : (n : ℕ) (front back : List Code) → listed_codes t n (front ++ back) → nodes back ≡ 0 → NothingAbove (listed_codes t n) front back
  tail_nothing n front back a e other l less =
      let p = a.exact in
      let q = l.exact in
      let f : nodes other ≡ 0 = omega (arith, nodes-append front back, nodes-append front other) in
      let h = tail_is t.schema (lists t) are.unbroken are.simple n front back a e in
      let k = tail_is t.schema (lists t) are.unbroken are.simple n front other l f in
      not_less_itself back (subst (λ x. codes_cmp back x ≡ Less) (k ∙ sym h) less)

  pub start_back : (p : Path) → IsDocument t p → Retreats t p p 0
  start_back p d = record {
    room = refl;
    within = d.kept.within;
    gone = [];
    codes = sym (append-nil p.codes);
    ids = [];
    states = sym (append-nil p.states);
    nothing = tail_nothing (nodes p.codes) (take (length p.states) p.codes) (drop (length p.states) p.codes)
        (subst (listed_codes t (nodes p.codes)) (sym (take-append-drop (length p.states) p.codes)) d.listed) d.kept.no_node;
    rest = d.kept.no_node;
  }

  states_left : (old new : Path) (ids : List ℕ) (cs : List Code) → old.states ≡ new.states ++ ids → old.codes ≡ new.codes ++ cs → length new.codes ≡ length new.states → AreStates t old.codes old.states →
      AreStates t new.codes new.states
  states_left old new ids cs e f l a = record { each = λ k i q. go k i q }
    where
      go : (k i : ℕ) → slice_get new.states k ≡ Some i → IsHeld t i × (state_of t i ≡ after_codes t.schema (lists t) (take k new.codes))
      go k i q =
          let h : k ≤ length new.codes = let w = get_within new.states k i q in omega arith in
          let r = a.each k i (ap (λ x. slice_get x k) e ∙ get_left new.states ids k i q) in
          (r.0, r.1 ∙ ap (after_codes t.schema (lists t)) (ap (take k) f ∙ take-append-le k new.codes cs h))

  -- A step back from the path `cur` to `new`: `now` nodes are left from the code that was taken away on.
  module _ (old cur new : Path) (rest now id : ℕ) (c : Code) (d : IsDocument t old) (r : Retreats t old cur rest) (b : IsBack cur new id c) (e : now ≡ weight c + rest) where
    abbrev behind : List Code
    behind = b.rest ++ r.gone

    whole : old.codes ≡ new.codes ++ (c ∷ behind)
    whole = r.codes ∙ ap (λ x. x ++ r.gone) b.codes ∙ append_assoc new.codes (c ∷ b.rest) r.gone

    cut : old.codes ≡ (new.codes ++ (c ∷ [])) ++ behind
    cut = whole ∙ sym (append_assoc new.codes (c ∷ []) behind)

    place : length cur.states ≡ length (new.codes ++ (c ∷ []))
    place = let l = b.level in omega (arith, ap length b.states, length-append new.states (id ∷ []), length-append new.codes (c ∷ []))

    front_is : take (length cur.states) old.codes ≡ new.codes ++ (c ∷ [])
    front_is = ap (λ k. take k old.codes) place ∙ ap (take (length (new.codes ++ (c ∷ [])))) cut ∙ take-append_seam (new.codes ++ (c ∷ [])) behind

    back_is : drop (length cur.states) old.codes ≡ behind
    back_is = ap (λ k. drop k old.codes) place ∙ ap (drop (length (new.codes ++ (c ∷ [])))) cut ∙ drop-append_seam (new.codes ++ (c ∷ [])) behind

    nothing_behind : NothingAbove (listed_codes t (nodes old.codes)) (new.codes ++ (c ∷ [])) behind
    nothing_behind = subst (λ x. NothingAbove (listed_codes t (nodes old.codes)) x behind) front_is
        (subst (NothingAbove (listed_codes t (nodes old.codes)) (take (length cur.states) old.codes)) back_is r.nothing)

    left : nodes (c ∷ behind) ≡ now
    left = nodes-cons c behind ∙ ap (λ k. weight c + k) (sym (ap nodes back_is) ∙ r.rest) ∙ sym e

    seam : take (length new.states) old.codes ≡ new.codes
    seam = ap (λ k. take k old.codes) (sym b.level) ∙ ap (take (length new.codes)) whole ∙ take-append_seam new.codes (c ∷ behind)

    rear : drop (length new.states) old.codes ≡ c ∷ behind
    rear = ap (λ k. drop k old.codes) (sym b.level) ∙ ap (drop (length new.codes)) whole ∙ drop-append_seam new.codes (c ∷ behind)

    ids_are : old.states ≡ new.states ++ (id ∷ r.ids)
    ids_are = r.states ∙ ap (λ x. x ++ r.ids) b.states ∙ append_assoc new.states (id ∷ []) r.ids

    pub size_back : nodes new.codes + now ≡ nodes old.codes
    size_back = let l = left in omega (arith, ap nodes whole, nodes-append new.codes (c ∷ behind))

    -- the state before the code that was taken away
    pub leads_back : LeadsUpTo t new id now
    leads_back =
        let at : slice_get old.states (length new.states) ≡ Some id = ap (λ x. slice_get x (length new.states)) ids_are ∙ get_seam new.states id r.ids in
        let s = d.states.each (length new.states) id at in
        let range : AllByRecursion (IsInRange (lists t)) (new.codes ++ (c ∷ behind)) = subst (AllByRecursion (IsInRange (lists t))) whole d.listed.in_range in
        let accepts : IsTrue (nullable (after_codes t.schema (lists t) (new.codes ++ (c ∷ behind))).pattern) =
        subst (λ x. IsTrue (nullable (after_codes t.schema (lists t) x).pattern)) whole d.listed.accepts in
        let size = size_back in
        record {
          held = s.0;
          state = s.1 ∙ ap (after_codes t.schema (lists t)) seam;
          in_range = all-front (IsInRange (lists t)) new.codes (c ∷ behind) range;
          finishes = record {
            codes = c ∷ behind;
            in_range = all-back (IsInRange (lists t)) new.codes (c ∷ behind) range;
            exact = left;
            accepts = subst (λ x. IsTrue (nullable x.pattern)) (steps-append t.schema (lists t) (start_state t.schema) new.codes (c ∷ behind)) accepts;
          };
          grown = (let g = d.grown in omega arith);
          room = (let g = d.room in let q = r.room in let p = b.room in omega arith);
          level = sym b.level;
          states = states_left old new (id ∷ r.ids) (c ∷ behind) ids_are whole b.level d.states;
        }

    can_take : (x : Code) → CanTake t.schema (lists t) now (after_codes t.schema (lists t) new.codes) x → CanTake t.schema (lists t) now (state_of t id) x
    can_take x k = subst (λ s. CanTake t.schema (lists t) now s x) (sym leads_back.state) k

    pub went_back : NothingTaken t id (Some c) now → Retreats t old new now
    went_back none =
        let stays = subst (λ k. (x : Code) → GoesOn (listed_codes t k) new.codes x → code_cmp c x ≢ Less) size_back
        (no_code t.schema (lists t) new.codes now c (λ x q k. none x q (can_take x k))) in
        let above : NothingAbove (listed_codes t (nodes old.codes)) new.codes (c ∷ behind) = back_step (listed_codes t (nodes old.codes)) new.codes c behind nothing_behind stays in
        record {
          room = b.room ∙ r.room;
          within = (let v = b.level in omega arith);
          gone = c ∷ behind;
          codes = whole;
          ids = id ∷ r.ids;
          states = ids_are;
          nothing = subst (λ x. NothingAbove (listed_codes t (nodes old.codes)) x (drop (length new.states) old.codes)) (sym seam)
              (subst (NothingAbove (listed_codes t (nodes old.codes)) new.codes) (sym rear) above);
          rest = ap nodes rear ∙ left;
        }

    pub turned : (x : Code) (next : ℕ) → IsNextTaken t id (Some c) now x next → GoesBack t (nodes old.codes) old (with_step new id x)
    turned x next h = record {
      room = b.room ∙ r.room;
      turns = record { front = new.codes; last = x; new_is = refl; was = c; behind = behind; old_is = whole; other = λ e. not_less_code c (subst (λ y. code_cmp c y ≡ Less) e h.past) };
      next = go;
    }
      where
        above : IsNextCode (listed_codes t (nodes old.codes)) new.codes c x
        above = subst (λ k. IsNextCode (listed_codes t k) new.codes c x) size_back
            (next_code t.schema (lists t) new.codes now c x leads_back.in_range (subst (λ s. CanTake t.schema (lists t) now s x) leads_back.state h.takes) h.past
            (λ y q p k. h.first y q p (can_take y k)))

        go : (more : List Code) → IsLeastRest (listed_codes t (nodes old.codes)) (new.codes ++ (x ∷ [])) more → IsNextList (listed_codes t (nodes old.codes)) old.codes ((new.codes ++ (x ∷ [])) ++ more)
        go more least =
            subst (λ z. IsNextList (listed_codes t (nodes old.codes)) z ((new.codes ++ (x ∷ [])) ++ more)) (sym whole)
            (subst (IsNextList (listed_codes t (nodes old.codes)) (new.codes ++ (c ∷ behind))) (sym (append_assoc new.codes (x ∷ []) more))
            (back_found (listed_codes t (nodes old.codes)) new.codes c x behind more nothing_behind above least))

  -- at the start nothing is left to go back to
  pub came_back : (old cur : Path) (rest : ℕ) → Retreats t old cur rest → cur.states ≡ [] → NothingAbove (listed_codes t (nodes old.codes)) [] old.codes
  came_back old cur rest r e =
      subst (λ x. NothingAbove (listed_codes t (nodes old.codes)) (take (length x) old.codes) (drop (length x) old.codes)) e r.nothing

  -- there is a step back for each state, and room for all
  pub states_few : (p : Path) → IsDocument t p → length p.states ≤ 3 * p.room
  states_few p d =
      let b = listed_length t.schema (lists t) are.unbroken are.ascend are.simple are.alphabet (nodes p.codes) p.codes d.listed in
      let w = d.kept.within in
      let r = d.room in
      omega arith
