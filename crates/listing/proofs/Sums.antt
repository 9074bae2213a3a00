-- What is summed after the next document of a size, after its last, and from one size to the next.
use Rattle.std.proofs.Common.{◌≡◌, ℕ, ◌+◌, ◌*◌, ◌≤◌, List, [], ◌∷◌, ◌++◌, length, Option, Some, None, refl, sym, ◌∙◌, ap, subst, arith}
use Rattle.std.proofs.Math.Nat.{mul-le-mul_left}
use Rattle.std.proofs.lemmas.List.{length-append}
use Rattle.std.specs.Prelude.{Result, Ok, Err, IfSome}
use Rattle.rng_model.specs.Hedges.{Skeleton, size}
use Rattle.rng_model.specs.Events.{events}
use Rattle.rng_model.specs.Codes.{Code, AreCodes}
use Rattle.rng_model.specs.States.{ReachesMore}
use Rattle.rng_model.specs.Universe.{event_count}
use Rattle.feasibility.specs.Tables.{Table, Keeps, lists, lists_of, group_total}
use Rattle.feasibility.specs.Limits as limits
use Rattle.lister.specs.Walks.{Walk, Stage, GoesToNext, IsAt, IsAtOne}
use Rattle.listing_laws.specs.Pending.{Asked, IsOver, IsStop, Ending, Ends}
use Rattle.listing_laws.specs.Fronts.{AreBelow, AreUpTo, IsBehind}
use Rattle.listing_laws.proofs.Fronts as fronts
use Rattle.listing_laws.proofs.Beginning.{begins, one_ending}
use Rattle.listing.specs.Progress.{asked_of, HasLeft, HasCome}
use Rattle.listing.specs.Doing.{IsDoneBefore, IsDoneBelow, IsAllDone, IsPartDone, EndsDone, IsReady}
use Rattle.summary.specs.Totals.{Totals, IsTallyOf}
use Rattle.listing.specs.Summing.{SumsAs, SumsTo, IsSum, each_of}
use Rattle.listing.specs.declared.listing_end.ListingEnd.{ListingEnd}
use Rattle.listing.proofs.Steps.{goes_on, comes_to_an_end, no_stop_above, fits}
use Rattle.listing.proofs.StateLines.{same_total}
use Rattle.listing.proofs.FromSizeToSize.{same_asked, none_over, short}

-- what was done before the document that comes next
pub record Next (a : Asked) (Done : List Skeleton → Type 0) (page : Option ℕ) (m : ℕ) (left : Option ℕ) (codes : List Code) : Type 0 where
  pub front : List Skeleton
  pub room : HasLeft page left (length front)
  pub done : Done front
  pub document : Skeleton
  pub coded : AreCodes a.lists (events document) codes
  pub exact : size document ≡ m
  pub to : AreUpTo a document (front ++ (document ∷ []))

module _ (t : Table) (n : ℕ) (after : Option Skeleton) (Done : List Skeleton → Type 0) (page : Option ℕ) where
  pub next_one : (w : Walk) (left : Option ℕ) (stage : Stage) (codes : List Code) → IsReady t n after Done page w left → GoesToNext t w.size w.stage stage → IsAt stage codes →
      Next (asked_of t n after) Done page w.size left codes
  next_one w left (Stage.at next ids) codes h is e =
      let d = goes_on t n after w.size h.before.front w.stage next ids h.asked h.before.come is in
      record {
        front = h.before.front;
        room = h.before.room;
        done = h.before.done;
        document = d.document;
        coded = subst (AreCodes (lists t) (events d.document)) e d.coded;
        exact = d.exact;
        to = d.to;
      }
  next_one w left Stage.nowhere codes h is e = absurd e
  next_one w left Stage.before codes h is e = absurd e
  next_one w left Stage.past codes h is e = absurd e

  -- where no document follows, all of the size and of the smaller ones is done
  pub size_done : (w : Walk) (left : Option ℕ) (stage : Stage) → IsReady t n after Done page w left → GoesToNext t w.size w.stage stage → (IsAtOne stage → ⊥) →
      IsDoneBelow (asked_of t n after) Done page (w.size + 1) left
  size_done w left Stage.past h is none = record {
    front = h.before.front;
    room = h.before.room;
    done = h.before.done;
    below = comes_to_an_end t n after w.size h.before.front w.stage h.before.come is;
    no_stop = no_stop_above (asked_of t n after) w.size h.fits;
  }
  size_done w left (Stage.at codes ids) h is none = absurd (none tt)
  size_done w left Stage.nowhere h is none = absurd (never w.stage is)
    where
      never : (old : Stage) → GoesToNext t w.size old Stage.nowhere → ⊥
      never Stage.nowhere k = k
      never Stage.before k = k
      never (Stage.at codes ids) k = k
      never Stage.past k = k
  size_done w left Stage.before h is none = absurd (never w.stage is)
    where
      never : (old : Stage) → GoesToNext t w.size old Stage.before → ⊥
      never Stage.nowhere k = k
      never Stage.before k = k
      never (Stage.at codes ids) k = k
      never Stage.past k = k

module _ (a : Asked) (Done : List Skeleton → Type 0) (page : Option ℕ) (m : ℕ) (left : Option ℕ) (codes : List Code) (c : Next a Done page m left codes) where
  one_more : length (c.front ++ (c.document ∷ [])) ≡ length c.front + 1
  one_more = length-append c.front (c.document ∷ [])

  -- the page is full with the document
  pub all_done : (Now : List Skeleton → Type 0) → (IsOver a m → ⊥) → Now (c.front ++ (c.document ∷ [])) → page ≡ Some (length c.front + 1) → IsAllDone a Now page Ending.full
  all_done Now few now is = record {
    queue = c.front ++ (c.document ∷ []);
    ends = Ends.full (is ∙ ap Some (sym one_more)) (fronts.up_to_first a (c.front ++ (c.document ∷ [])) c.document c.to (subst (λ k. IsOver a k → ⊥) (sym c.exact) few));
    done = now;
  }

  -- the walk stands at the document
  pub done_with : (Now : List Skeleton → Type 0) (rest : Option ℕ) (stage : Stage) → IsAt stage codes → Now (c.front ++ (c.document ∷ [])) →
      HasLeft page rest (length c.front + 1) → IsDoneBefore a Now page m stage rest
  done_with Now rest stage is now room = record {
    front = c.front ++ (c.document ∷ []);
    room = subst (HasLeft page rest) (sym one_more) room;
    done = now;
    come = come stage is;
  }
    where
      come : (stage : Stage) → IsAt stage codes → HasCome a m stage (c.front ++ (c.document ∷ []))
      come (Stage.at next ids) e = (c.document, subst (AreCodes a.lists (events c.document)) (sym e) c.coded, c.exact, c.to)
      come Stage.nowhere e = absurd e
      come Stage.before e = absurd e
      come Stage.past e = absurd e

pub ready_again : (t : Table) (n : ℕ) (after : Option Skeleton) (Done Now : List Skeleton → Type 0) (page : Option ℕ) (w v : Walk) (left rest : Option ℕ) → v.size ≡ w.size →
    IsReady t n after Done page w left → IsDoneBefore (asked_of t n after) Now page w.size v.stage rest → IsReady t n after Now page v rest
ready_again t n after Done Now page w v left rest e h k = record {
  asked = subst (λ m. m ≤ n) (sym e) h.asked;
  fits = subst (λ m. IsOver (asked_of t n after) m → ⊥) (sym e) h.fits;
  before = subst (λ m. IsDoneBefore (asked_of t n after) Now page m v.stage rest) (sym e) k;
}

-- what is so of each front
pub below_so : (a : Asked) (Done Now : List Skeleton → Type 0) (page : Option ℕ) (m : ℕ) (left : Option ℕ) → ((front : List Skeleton) → Done front → Now front) →
    IsDoneBelow a Done page m left → IsDoneBelow a Now page m left
below_so a Done Now page m left so h = record { front = h.front; room = h.room; done = so h.front h.done; below = h.below; no_stop = h.no_stop }

pub ends_so : (a : Asked) (Done Now : List Skeleton → Type 0) (page : Option ℕ) (end : ListingEnd) → ((front : List Skeleton) → Done front → Now front) →
    EndsDone a Done page end → EndsDone a Now page end
ends_so a Done Now page ListingEnd.Full so h = record { queue = h.queue; ends = h.ends; done = so h.queue h.done }
ends_so a Done Now page (ListingEnd.Stopped size count) so h = (record { queue = h.0.queue; ends = h.0.ends; done = so h.0.queue h.0.done }, h.1)
ends_so a Done Now page ListingEnd.Whole so h = record { queue = h.queue; ends = h.ends; done = so h.queue h.done }
ends_so a Done Now page ListingEnd.WriteFault so h = h
ends_so a Done Now page ListingEnd.OutOfMemory so h = record { front = h.front; begins = h.begins; done = so h.front h.done }

-- where there is no cursor, none is in the way
pub no_cursor : (t : Table) (n m : ℕ) → IsBehind (asked_of t n None) m
no_cursor t n m c is = let clash : None ≡ Some c = is in absurd (cc)

-- a table that has grown is ready for the first document of the size
pub ready_first : (t new : Table) (n : ℕ) (after : Option Skeleton) (Done : List Skeleton → Type 0) (page : Option ℕ) (m : ℕ) (left : Option ℕ) (v : Walk) → Keeps t new → m ≤ n →
    (ReachesMore t.schema (lists t) m t.limit → ⊥) → IsBehind (asked_of t n after) m → IsDoneBelow (asked_of t n after) Done page m left → v.size ≡ m → v.stage ≡ Stage.before → IsReady new n after Done page v left
ready_first t new n after Done page m left v k l few behind h e s = record {
  asked = subst (λ j. j ≤ n) (sym e) l;
  fits = subst (λ j. IsOver (asked_of new n after) j → ⊥) (sym e) (subst (λ a. IsOver a m → ⊥) (sym same) few);
  before = subst (λ z. IsDoneBefore (asked_of new n after) Done page v.size z left) (sym s)
      (subst (λ j. IsDoneBefore (asked_of new n after) Done page j Stage.before left) (sym e)
      (subst (λ a. IsDoneBefore a Done page m Stage.before left) (sym same)
      (record { front = h.front; room = h.room; done = h.done; come = (h.below, behind) })));
}
  where
    same : asked_of new n after ≡ asked_of t n after
    same = same_asked t new n after k

module _ (t : Table) (n : ℕ) (Done : List Skeleton → Type 0) (page left : Option ℕ) where
  pub stopped : (m : ℕ) → 1 ≤ m → m ≤ n → IsDoneBelow (asked_of t n None) Done page m left → (s count : ℕ) → limits.IsOver t m s count →
      EndsDone (asked_of t n None) Done page (ListingEnd.Stopped s count)
  stopped m one l h s count over = (
    record {
      queue = h.front;
      ends = Ends.stopped stop (fronts.all_stopped (asked_of t n None) s h.front (subst (λ j. AreBelow (asked_of t n None) j h.front) (sym over.size) h.below) stop)
          (short page left h.front h.room);
      done = h.done;
    },
    over.count,
  )
    where
      stop : IsStop (asked_of t n None) s
      stop = subst (IsStop (asked_of t n None)) (sym over.size) (record { from = one; to = l; more = over.more; first = none_over (asked_of t n None) m (omega (arith, l)) h.no_stop })

  pub lacks : (m : ℕ) → IsDoneBelow (asked_of t n None) Done page m left → IsPartDone (asked_of t n None) Done page
  lacks m h = record {
    front = h.front;
    begins = λ e queue ends. begins (asked_of t n None) page h.front e queue (fronts.below_first (asked_of t n None) m h.front h.below h.no_stop)
        (fits page left (length h.front) h.room) ends;
    done = h.done;
  }

  pub whole : IsDoneBelow (asked_of t n None) Done page (n + 1) left → IsAllDone (asked_of t n None) Done page Ending.whole
  whole h = record {
    queue = h.front;
    ends = Ends.whole none (fronts.all_whole (asked_of t n None) h.front h.below none) (short page left h.front h.room);
    done = h.done;
  }
    where
      none : (m : ℕ) → IsStop (asked_of t n None) m → ⊥
      none m x = let l = h.no_stop m x in let k = x.to in omega (arith, l, k)

-- one document more
pub each_more : (each many : ℕ) → each * (many + 1) ≡ each * many + each
each_more each many = omega arith

pub sum_more : (totals now : Totals) (x y each s s1 : ℕ) (front : List Skeleton) (d : Skeleton) → IsSum totals x y each s front → IsTallyOf now (front ++ (d ∷ [])) → s1 ≤ s + each →
    IsSum now x y each s1 (front ++ (d ∷ []))
sum_more totals now x y each s s1 front d h tally l = record {
  tally = tally;
  ticks = subst (λ k. s1 + x ≤ y + each * k) (sym (length-append front (d ∷ []))) (let more = each_more each (length front) in let ticks = h.ticks in omega (arith, more, ticks, l));
}

-- more steps are taken, and more may be
pub sum_later : (totals : Totals) (x y each s x1 y1 s1 : ℕ) (front : List Skeleton) → s1 + x1 + y ≤ s + x + y1 → IsSum totals x y each s front → IsSum totals x1 y1 each s1 front
sum_later totals x y each s x1 y1 s1 front l h = record { tally = h.tally; ticks = let ticks = h.ticks in omega (arith, ticks, l) }

pub after_grown : (t new : Table) (n : ℕ) (page : Option ℕ) (m : ℕ) (left : Option ℕ) (Done Last : List Skeleton → Type 0) (r : Result (Unit {0}) ListingEnd) → Keeps t new →
    ((front : List Skeleton) → Done front → Last front) → SumsTo new n page m left Done Done r → SumsTo t n page m left Done Last r
after_grown t new n page m left Done Last (Ok done) k so h = subst (λ a. IsDoneBelow a Done page m left) (same_asked t new n None k) h
after_grown t new n page m left Done Last (Err end) k so h = ends_so (asked_of t n None) Done Last page end so (subst (λ a. EndsDone a Done page end) (same_asked t new n None k) h)

-- a walk counts as many steps for a document where the table has grown
pub same_each : (t new : Table) (room now : ℕ) → Keeps t new → now ≡ room → each_of new now ≡ each_of t room
same_each t new room now k e =
    ap (λ j. each_of new j) e ∙ (ap (λ u. 12 * room * event_count (lists_of u new.atoms)) k.universe ∙ ap (λ x. 12 * room * event_count (lists_of t.universe x)) k.atoms)

-- at the start nothing is summed
pub sum_starts : (t : Table) (n : ℕ) (page : Option ℕ) (totals : Totals) (each s : ℕ) → IsTallyOf totals [] → IfSome page (λ k. 1 ≤ k) →
    IsDoneBelow (asked_of t n None) (IsSum totals 0 s each s) page 1 page
sum_starts t n page totals each s tally some = record {
  front = [];
  room = room page some;
  done = record { tally = tally; ticks = omega arith };
  below = fronts.fresh (asked_of t n None) refl;
  no_stop = λ k x. x.from;
}
  where
    room : (page : Option ℕ) → IfSome page (λ k. 1 ≤ k) → HasLeft page page 0
    room None h = tt
    room (Some k) h = (h, omega arith)

pub sums_as : (a : Asked) (page : Option ℕ) (totals : Totals) (x y each s : ℕ) (end : ListingEnd) → EndsDone a (IsSum totals x y each s) page end → SumsAs a page totals end
sums_as a page totals x y each s ListingEnd.Full h = record { queue = h.queue; ends = h.ends; tally = h.done.tally }
sums_as a page totals x y each s (ListingEnd.Stopped size count) h = (record { queue = h.0.queue; ends = h.0.ends; tally = h.0.done.tally }, h.1)
sums_as a page totals x y each s ListingEnd.Whole h = record { queue = h.queue; ends = h.ends; tally = h.done.tally }
sums_as a page totals x y each s ListingEnd.WriteFault h = absurd h
sums_as a page totals x y each s ListingEnd.OutOfMemory h = tt

-- the steps are those of the documents that are listed
module _ (a : Asked) (page : Option ℕ) (totals : Totals) (x y each s : ℕ) (e : Ending) (queue : List Skeleton) (ends : Ends a page e queue) where
  pub all_steps : (f : Ending) → IsAllDone a (IsSum totals x y each s) page f → s + x ≤ y + each * length queue
  all_steps f h = subst (λ q. s + x ≤ y + each * length q) (one_ending a page f e h.queue queue h.ends ends).1 h.done.ticks

  pub sum_steps : (end : ListingEnd) → EndsDone a (IsSum totals x y each s) page end → s + x ≤ y + each * length queue
  sum_steps ListingEnd.Full h = all_steps Ending.full h
  sum_steps (ListingEnd.Stopped size count) h = all_steps (Ending.stopped size) h.0
  sum_steps ListingEnd.Whole h = all_steps Ending.whole h
  sum_steps ListingEnd.WriteFault h = absurd h
  sum_steps ListingEnd.OutOfMemory h =
      let b = h.begins e queue ends in
      let many : length queue ≡ length h.front + length b.rest = ap length b.is ∙ length-append h.front b.rest in
      let most : each * length h.front ≤ each * length queue = mul-le-mul_left each (omega (arith, many)) in
      let ticks = h.done.ticks in
      omega (arith, ticks, most)

pub whole_so : (a : Asked) (Done Now : List Skeleton → Type 0) (page : Option ℕ) (e : Ending) → ((front : List Skeleton) → Done front → Now front) →
    IsAllDone a Done page e → IsAllDone a Now page e
whole_so a Done Now page e so h = record { queue = h.queue; ends = h.ends; done = so h.queue h.done }

-- so many sizes count at most as much as all
pub few_sizes : (each done size : ℕ) → done ≤ size → each * done ≤ each * size
few_sizes each done size l = mul-le-mul_left each l

pub one_size : (each done : ℕ) → each * (done + 1) ≡ each * done + each
one_size each done = each_more each done

pub same_most : (t new : Table) → Keeps t new → group_total new * (new.limit + 1) ≡ group_total t * (t.limit + 1)
same_most t new k = ap (λ i. i * (new.limit + 1)) (same_total t new k) ∙ ap (λ i. group_total t * (i + 1)) k.limit
