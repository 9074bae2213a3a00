-- From one size to the next.
use Rattle.std.proofs.Common.{◌≡◌, ℕ, ◌+◌, ◌<◌, ◌≤◌, List, [], length, zero, suc, Option, Some, None, refl, sym, ◌∙◌, ap, subst, arith, append-nil}
use Rattle.std.specs.Prelude.{Result, Ok, Err, IfSome}
use Rattle.std.specs.Io.KnownBytes.{Appends}
use Rattle.rng_model.specs.Texts.{Text}
use Rattle.rng_model.specs.Patterns.{Schema}
use Rattle.rng_model.specs.Hedges.{Skeleton, size}
use Rattle.rng_model.specs.States.{ReachesMore}
use Rattle.text_atoms.specs.declared.origin.Origin.{Origin}
use Rattle.name_universe.specs.Tables.{NameTables}
use Rattle.feasibility.specs.Tables.{Table, IsTable, Keeps, lists, lists_of}
use Rattle.feasibility.specs.Limits as limits
use Rattle.lister.specs.Walks.{Walk, Stage, IsAt, IsSet}
use Rattle.listing_laws.specs.Pending.{Asked, first_size, IsOver, IsStop, IsShort, Ending, Ends}
use Rattle.listing_laws.specs.Fronts.{AreBelow, NoStopBelow, IsBehind}
use Rattle.listing_laws.proofs.Fronts as fronts
use Rattle.listing.specs.Progress.{asked_of, HasLeft, HasCome, IsWritten, IsWrittenBelow, HasWholeSizes, HasEnded}
use Rattle.listing.specs.Endings.{EndsAs, IsReadyFor, IsAtStart, IsAtSize, Completes, GoesOn}
use Rattle.listing.specs.declared.listing_end.ListingEnd.{ListingEnd}
use Rattle.listing_laws.proofs.Beginning.{begins}
use Rattle.listing.proofs.Steps.{fits}
use Rattle.rng_model.specs.Events.{events}
use Rattle.rng_model.specs.Codes.{Code, AreCodes}
use Rattle.rng_model.specs.Listing.{IsListed}
use Rattle.table_laws.proofs.ListedCodes.{over_codes}
use Rattle.table_laws.proofs.Counts.{no_more, more_grows}

abbrev made : ℕ → Option Skeleton → Schema → NameTables → List (Text × Origin) → ℕ → Asked
made n after s u a l = record { schema = s; lists = lists_of u a; size = n; after = after; limit = l }

-- a table that has grown is asked the same
pub same_asked : (t new : Table) (n : ℕ) (after : Option Skeleton) → Keeps t new → asked_of new n after ≡ asked_of t n after
same_asked t new n after k =
    ap (λ s. made n after s new.universe new.atoms new.limit) k.schema ∙ (ap (λ u. made n after t.schema u new.atoms new.limit) k.universe
    ∙ (ap (λ a. made n after t.schema t.universe a new.limit) k.atoms ∙ ap (made n after t.schema t.universe t.atoms) k.limit))

pub ready_first : (t new : Table) (n : ℕ) (after : Option Skeleton) (m : ℕ) (page left : Option ℕ) (taken now : Option (List ℕ)) (v : Walk) → Keeps t new →
    m ≤ n → (ReachesMore t.schema (lists t) m t.limit → ⊥) → IsAtSize t n after m page left taken now → v.size ≡ m → v.stage ≡ Stage.before →
    IsReadyFor new n after v page left taken now
ready_first t new n after m page left taken now v k l few h e s = record {
  asked = subst (λ j. j ≤ n) (sym e) l;
  fits = subst (λ j. IsOver (asked_of new n after) j → ⊥) (sym e) (subst (λ a. IsOver a m → ⊥) (sym same) few);
  written = subst (λ z. IsWritten (asked_of new n after) page v.size z left taken now) (sym s)
      (subst (λ j. IsWritten (asked_of new n after) page j Stage.before left taken now) (sym e)
      (subst (λ a. IsWritten a page m Stage.before left taken now) (sym same)
      (record { front = h.written.front; room = h.written.room; bytes = h.written.bytes; come = (h.written.below, h.behind) })));
}
  where
    same : asked_of new n after ≡ asked_of t n after
    same = same_asked t new n after k

pub after_size : (t new : Table) (n : ℕ) (after : Option Skeleton) (m : ℕ) (page left : Option ℕ) (taken now : Option (List ℕ)) (v : Walk) (r : Result (Unit {0}) ListingEnd) →
    Keeps t new → v.size ≡ m → IsBehind (asked_of t n after) m → Completes new n after v page left taken now r → GoesOn t n after m page left taken now r
after_size t new n after m page left taken now v (Ok done) k e b h = record {
  written = subst (λ a. IsWrittenBelow a page (m + 1) left taken now) (same_asked t new n after k)
      (subst (λ j. IsWrittenBelow (asked_of new n after) page (j + 1) left taken now) e h);
  behind = λ c is. let l = b c is in omega (arith, l);
}
after_size t new n after m page left taken now v (Err end) k e b h = subst (λ a. EndsAs a page taken now end) (same_asked t new n after k) h

-- the page isn't full
pub short : (page left : Option ℕ) (queue : List Skeleton) → HasLeft page left (length queue) → IsShort queue page
short None None queue h = tt
short None (Some l) queue h = absurd h
short (Some k) None queue h = absurd h
short (Some k) (Some l) queue h = let one = h.0 in let all = h.1 in omega (arith, one, all)

-- no size below is over where none is the least one that is
pub none_over : (a : Asked) (m : ℕ) → m ≤ a.size + 1 → NoStopBelow a m → (k : ℕ) → first_size a.after ≤ k → k < m → IsOver a k → ⊥
none_over a m small none k f l more = up_to (k + 1) k (omega arith) f l more
  where
    up_to : (b : ℕ) (k : ℕ) → k < b → first_size a.after ≤ k → k < m → IsOver a k → ⊥
    up_to zero k under f l more = absurd (omega (arith, under))
    up_to (suc b) k under f l more =
        let stop : IsStop a k = record {
          from = f;
          to = omega (arith, l, small);
          more = more;
          first = λ j g i over. up_to b j (omega (arith, i, under)) g (omega (arith, i, l)) over;
        } in
        let least = none k stop in
        absurd (omega (arith, least, l))

pub first_before : (m : ℕ) (o : Option Skeleton) → 1 ≤ m → ((c : Skeleton) → o ≡ Some c → size c < m) → first_size o ≤ m
first_before m None one b = one
first_before m (Some c) one b = let l = b c refl in omega (arith, l)

module _ (t : Table) (n : ℕ) (after : Option Skeleton) (page left : Option ℕ) (taken now : Option (List ℕ)) where
  pub stopped : (m : ℕ) → 1 ≤ m → m ≤ n → IsAtSize t n after m page left taken now → (s count : ℕ) → limits.IsOver t m s count →
      EndsAs (asked_of t n after) page taken now (ListingEnd.Stopped s count)
  stopped m one l h s count over = (
    record {
      queue = h.written.front;
      ends = Ends.stopped stop (fronts.all_stopped (asked_of t n after) s h.written.front (subst (λ j. AreBelow (asked_of t n after) j h.written.front) (sym over.size) h.written.below) stop)
          (short page left h.written.front h.written.room);
      appended = h.written.bytes;
    },
    over.count,
  )
    where
      stop : IsStop (asked_of t n after) s
      stop = subst (IsStop (asked_of t n after)) (sym over.size) (record {
        from = first_before m after one h.behind;
        to = l;
        more = over.more;
        first = none_over (asked_of t n after) m (omega (arith, l)) h.written.no_stop;
      })

  pub lacks : (m : ℕ) → IsAtSize t n after m page left taken now → HasWholeSizes (asked_of t n after) page taken now
  lacks m h = record {
    below = m;
    front = h.written.front;
    all = h.written.below;
    begins = λ e queue ends. begins (asked_of t n after) page h.written.front e queue
        (fronts.below_first (asked_of t n after) m h.written.front h.written.below h.written.no_stop) (fits page left (length h.written.front) h.written.room) ends;
    appended = h.written.bytes;
  }

  pub whole : IsAtSize t n after (n + 1) page left taken now → HasEnded (asked_of t n after) page Ending.whole taken now
  whole h = record {
    queue = h.written.front;
    ends = Ends.whole none (fronts.all_whole (asked_of t n after) h.written.front h.written.below none) (short page left h.written.front h.written.room);
    appended = h.written.bytes;
  }
    where
      none : (m : ℕ) → IsStop (asked_of t n after) m → ⊥
      none m x = let l = h.written.no_stop m x in let k = x.to in omega (arith, l, k)

pub keeps_itself : (t : Table) → Keeps t t
keeps_itself t = record {
  schema = refl;
  universe = refl;
  atoms = refl;
  groups = refl;
  limit = refl;
  grown = omega arith;
  longer = omega arith;
  states = λ id l. refl;
}

pub keeps_on : (t new last : Table) → Keeps t new → Keeps new last → Keeps t last
keeps_on t new last h k = record {
  schema = k.schema ∙ h.schema;
  universe = k.universe ∙ h.universe;
  atoms = k.atoms ∙ h.atoms;
  groups = k.groups ∙ h.groups;
  limit = k.limit ∙ h.limit;
  grown = let a = h.grown in let b = k.grown in omega (arith, a, b);
  longer = let a = h.longer in let b = k.longer in omega (arith, a, b);
  states = λ id l. k.states id (let a = h.longer in omega (arith, a, l)) ∙ h.states id l;
}

-- a table that has grown is at the same size
pub at_grown : (t new : Table) (n : ℕ) (after : Option Skeleton) (m : ℕ) (page left : Option ℕ) (taken now : Option (List ℕ)) → Keeps t new →
    IsAtSize t n after m page left taken now → IsAtSize new n after m page left taken now
at_grown t new n after m page left taken now k h = record {
  written = subst (λ a. IsWrittenBelow a page m left taken now) (sym (same_asked t new n after k)) h.written;
  behind = h.behind;
}

pub at_smaller : (t new : Table) (n : ℕ) (after : Option Skeleton) (m : ℕ) (page left : Option ℕ) (taken now : Option (List ℕ)) → Keeps t new →
    IsAtSize new n after m page left taken now → IsAtSize t n after m page left taken now
at_smaller t new n after m page left taken now k h = record {
  written = subst (λ a. IsWrittenBelow a page m left taken now) (same_asked t new n after k) h.written;
  behind = h.behind;
}

-- so many nodes reach few enough states where the table has grown so far
pub few_held : (t : Table) → IsTable t → (m : ℕ) → m ≤ t.grown → ReachesMore t.schema (lists t) m t.limit → ⊥
few_held t are m l over =
    no_more t.schema (lists t) t.grown t.limit t.states (λ s r. (are.each s).1 r) are.few (more_grows t.schema (lists t) m t.grown t.limit l over)

-- without a cursor the listing begins at size 1
pub at_first : (t : Table) (n : ℕ) (page left : Option ℕ) (taken now : Option (List ℕ)) → IsAtStart page left taken now → IsAtSize t n None 1 page left taken now
at_first t n page left taken now h = record {
  written = record {
    front = [];
    room = h.room;
    bytes = h.bytes;
    below = fronts.fresh (asked_of t n None) refl;
    no_stop = λ k x. x.from;
  };
  behind = λ c e. let clash : None ≡ Some c = e in absurd (cc);
}

-- at a cursor the walk stands at its codes
module _ (t : Table) (are : IsTable t) (n : ℕ) (c : Skeleton) (listed : IsListed t.schema (lists t) n c) where
  its_codes : (codes : List Code) × AreCodes (lists t) (events c) codes
  its_codes = over_codes t.schema (lists t) c listed.over

  pub cursor_set : (v : Walk) → ((codes : List Code) → AreCodes (lists t) (events c) codes → IsAt v.stage codes) → IsSet v.stage
  cursor_set v h = go v.stage (h its_codes.0 its_codes.1)
    where
      go : (stage : Stage) → IsAt stage its_codes.0 → IsSet stage
      go (Stage.at codes ids) e = tt
      go Stage.nowhere e = absurd e
      go Stage.before e = tt
      go Stage.past e = tt

  pub ready_at_cursor : (page left : Option ℕ) (taken now : Option (List ℕ)) (v : Walk) → size c ≤ t.grown → IsAtStart page left taken now → v.size ≡ size c →
      ((codes : List Code) → AreCodes (lists t) (events c) codes → IsAt v.stage codes) → IsReadyFor t n (Some c) v page left taken now
  ready_at_cursor page left taken now v grown start e h = record {
    asked = subst (λ j. j ≤ n) (sym e) listed.small;
    fits = subst (λ j. IsOver (asked_of t n (Some c)) j → ⊥) (sym e) (few_held t are (size c) grown);
    written = record { front = []; room = start.room; bytes = start.bytes; come = come v.stage (h its_codes.0 its_codes.1) };
  }
    where
      come : (stage : Stage) → IsAt stage its_codes.0 → HasCome (asked_of t n (Some c)) v.size stage []
      come (Stage.at codes ids) is =
          (c, subst (AreCodes (lists t) (events c)) (sym is) its_codes.1, sym e, fronts.resumed (asked_of t n (Some c)) c refl)
      come Stage.nowhere is = absurd is
      come Stage.before is = absurd is
      come Stage.past is = absurd is

-- after the cursor's size
pub after_cursor : (t : Table) (n : ℕ) (c : Skeleton) (page left : Option ℕ) (taken now : Option (List ℕ)) (v : Walk) → v.size ≡ size c →
    IsWrittenBelow (asked_of t n (Some c)) page (v.size + 1) left taken now → IsAtSize t n (Some c) (size c + 1) page left taken now
after_cursor t n c page left taken now v e h = record {
  written = subst (λ j. IsWrittenBelow (asked_of t n (Some c)) page (j + 1) left taken now) e h;
  behind = λ d is. let same : Some c ≡ Some d = is in let one : c ≡ d = cc in subst (λ x. size x < size c + 1) one (omega arith);
}

-- bytes that stay
pub stays : (now : Option (List ℕ)) → Appends now now []
stays None = tt
stays (Some xs) = sym (append-nil xs)

-- at the start nothing is written
pub at_start : (page : Option ℕ) (now : Option (List ℕ)) → IfSome page (λ k. 1 ≤ k) → IsAtStart page page now now
at_start None now h = record { room = tt; bytes = stays now }
at_start (Some k) now h = record { room = (h, omega arith); bytes = stays now }

-- for want of memory at the start nothing is written
pub lacks_all : (t : Table) (n : ℕ) (after : Option Skeleton) (page : Option ℕ) (now : Option (List ℕ)) → HasWholeSizes (asked_of t n after) page now now
lacks_all t n after page now = record {
  below = first_size after;
  front = [];
  all = fronts.start (asked_of t n after);
  begins = λ e queue ends. record { rest = queue; is = refl };
  appended = stays now;
}
