-- The lines of the numbers of states, size after size.
use Rattle.std.proofs.Common.{◌≡◌, ℕ, ◌+◌, ◌*◌, ◌≤◌, List, [], ◌∷◌, ◌++◌, length, Option, Some, None, refl, sym, ◌∙◌, ap, subst, arith, append_assoc, append-nil}
use Rattle.std.proofs.lemmas.List.{length-append}
use Rattle.std.specs.Prelude.{codes, decimal, Contains, ◌↔◌, max}
use Rattle.std.specs.Io.KnownBytes.{Appends}
use Rattle.rng_model.specs.Patterns.{Schema}
use Rattle.rng_model.specs.Universe.{Lists}
use Rattle.rng_model.specs.States.{Reach}
use Rattle.rng_model.specs.Alike.{alike_count}
use Rattle.feasibility.specs.Tables.{Table, IsTable, Keeps, lists, lists_of, group_total}
use Rattle.std.proofs.Math.Nat.{mul-le-mul_left}
use Rattle.feasibility.specs.Limits as limits
use Rattle.outside.specs.Devices.{IsFrontOf, AppendsFront}
use Rattle.listing_laws.specs.Pending.{Asked, IsOver, IsStop, Ending}
use Rattle.listing_laws.specs.Fronts.{NoStopBelow}
use Rattle.listing_laws.specs.StateCounts.{ReachesExactly, AreCounts, EndsCounting}
use Rattle.listing_laws.proofs.Once.{same_count}
use Rattle.listing.specs.Progress.{asked_of}
use Rattle.listing.specs.Counting.{count_lines, IsCountedBelow, HasCounted, HasBegunCounting, CountsAs}
use Rattle.listing.specs.declared.listing_end.ListingEnd.{ListingEnd}
use Rattle.listing.proofs.Steps.{appends_both, no_stop_above}
use Rattle.listing.proofs.FromSizeToSize.{same_asked, none_over, stays}

-- the line of a size and a number
abbrev pub line : ℕ → ℕ → List ℕ
line m count = decimal m ++ codes " " ++ decimal count ++ codes "\n"

-- the lines of one size more
lines_more : (from : ℕ) (cs : List ℕ) (c m : ℕ) → from + length cs ≡ m → count_lines from (cs ++ (c ∷ [])) ≡ count_lines from cs ++ line m c
lines_more from [] c m e =
    let same : from ≡ m = omega (arith, e) in
    append-nil (line from c) ∙ ap (λ k. line k c) same
lines_more from (x ∷ cs) c m e =
    ap (λ z. line from x ++ z) (lines_more (from + 1) cs c m (omega (arith, e))) ∙ sym (append_assoc (line from x) (count_lines (from + 1) cs) (line m c))

module _ (g : Schema) (u : Lists) where
  counts_more : (from : ℕ) (cs : List ℕ) (c m : ℕ) → from + length cs ≡ m → AreCounts g u from cs → ReachesExactly g u m c → AreCounts g u from (cs ++ (c ∷ []))
  counts_more from [] c m e h k = let same : m ≡ from = omega (arith, e) in (subst (λ j. ReachesExactly g u j c) same k, tt)
  counts_more from (x ∷ cs) c m e h k = (h.0, counts_more (from + 1) cs c m (omega (arith, e)) h.1 k)

  -- fewer sizes have the first lines
  fewer_lines : (from : ℕ) (xs ys : List ℕ) → AreCounts g u from xs → AreCounts g u from ys → length xs ≤ length ys →
      IsFrontOf (count_lines from xs) (count_lines from ys)
  fewer_lines from [] ys h k l = (count_lines from ys, refl)
  fewer_lines from (x ∷ xs) [] h k l = absurd (omega (arith, l))
  fewer_lines from (x ∷ xs) (y ∷ ys) h k l =
      let b = fewer_lines (from + 1) xs ys h.1 k.1 (omega (arith, l)) in (
        b.0,
        ap (λ z. line from z ++ count_lines (from + 1) ys) (same_count g u from y x k.0 h.0)
            ∙ (ap (λ z. line from x ++ z) b.1 ∙ sym (append_assoc (line from x) (count_lines (from + 1) xs) b.0)),
      )

module _ (a : Asked) where
  -- in the end as many sizes are counted
  enough : (m : ℕ) (xs ys : List ℕ) (e : Ending) → m ≤ a.size + 1 → length xs + 1 ≡ m → NoStopBelow a m → EndsCounting a e ys → length xs ≤ length ys
  enough m xs ys e l many none (EndsCounting.stopped {m = k} stops are last) = let b = none k stops in omega (arith, b, many, last)
  enough m xs ys e l many none (EndsCounting.whole never are all) = omega (arith, l, many, all)

  counts_of : (e : Ending) (ys : List ℕ) → EndsCounting a e ys → AreCounts a.schema a.lists 1 ys
  counts_of e ys (EndsCounting.stopped stops are last) = are
  counts_of e ys (EndsCounting.whole never are all) = are

  begins_counting : (m : ℕ) (xs : List ℕ) → m ≤ a.size + 1 → length xs + 1 ≡ m → NoStopBelow a m → AreCounts a.schema a.lists 1 xs →
      (e : Ending) (ys : List ℕ) → EndsCounting a e ys → IsFrontOf (count_lines 1 xs) (count_lines 1 ys)
  begins_counting m xs l many none are e ys ends =
      fewer_lines a.schema a.lists 1 xs ys are (counts_of e ys ends) (enough m xs ys e l many none ends)

  module _ (m : ℕ) (taken now : Option (List ℕ)) (h : IsCountedBelow a m taken now) where
    longer : (c : ℕ) → length (h.counts ++ (c ∷ [])) + 1 ≡ m + 1
    longer c = let many = h.many in let more = length-append h.counts (c ∷ []) in omega (arith, many, more)

    place : 1 + length h.counts ≡ m
    place = let many = h.many in omega (arith, many)

    pub counted : (c : ℕ) (new : Option (List ℕ)) → ReachesExactly a.schema a.lists m c → (IsOver a m → ⊥) → Appends now new (line m c) → IsCountedBelow a (m + 1) taken new
    counted c new exact few grew = record {
      counts = h.counts ++ (c ∷ []);
      are = counts_more a.schema a.lists 1 h.counts c m place h.are exact;
      many = longer c;
      bytes = subst (Appends taken new) (sym (lines_more 1 h.counts c m place)) (appends_both taken now new (count_lines 1 h.counts) (line m c) h.bytes grew);
      no_stop = no_stop_above a m few;
    }

    part_begins : (c : ℕ) (bytes : List ℕ) → m ≤ a.size → ReachesExactly a.schema a.lists m c → (IsOver a m → ⊥) → IsFrontOf bytes (line m c) →
        (e : Ending) (ys : List ℕ) → EndsCounting a e ys → IsFrontOf (count_lines 1 h.counts ++ bytes) (count_lines 1 ys)
    part_begins c bytes l exact few part e ys ends =
        let front = count_lines 1 h.counts in
        let b = begins_counting (m + 1) (h.counts ++ (c ∷ [])) (omega (arith, l)) (longer c) (no_stop_above a m few)
        (counts_more a.schema a.lists 1 h.counts c m place h.are exact) e ys ends in (
          part.0 ++ b.0,
          b.1 ∙ (ap (λ z. z ++ b.0) (lines_more 1 h.counts c m place ∙ ap (λ z. front ++ z) part.1)
              ∙ (ap (λ z. z ++ b.0) (sym (append_assoc front bytes part.0)) ∙ append_assoc (front ++ bytes) part.0 b.0)),
        )

    pub cut_off : (c : ℕ) (new : Option (List ℕ)) → m ≤ a.size → ReachesExactly a.schema a.lists m c → (IsOver a m → ⊥) → AppendsFront now new (line m c) →
        HasBegunCounting a taken new
    cut_off c new l exact few = go taken now new h.bytes
      where
        go : (taken now new : Option (List ℕ)) → Appends taken now (count_lines 1 h.counts) → AppendsFront now new (line m c) → HasBegunCounting a taken new
        go None now new grew part = record { bytes = []; front = λ e ys ends. (count_lines 1 ys, refl); appended = tt }
        go (Some x) None new grew part = absurd grew
        go (Some x) (Some y) None grew part = absurd part
        go (Some x) (Some y) (Some z) grew (bytes, is, more) = record {
          bytes = count_lines 1 h.counts ++ bytes;
          front = part_begins c bytes l exact few is;
          appended = appends_both (Some x) (Some y) (Some z) (count_lines 1 h.counts) bytes grew more;
        }

    pub counting_lacks : m ≤ a.size → HasBegunCounting a taken now
    counting_lacks l = record {
      bytes = count_lines 1 h.counts;
      front = begins_counting m h.counts (omega (arith, l)) h.many h.no_stop h.are;
      appended = h.bytes;
    }

module _ (t : Table) (n : ℕ) (taken now : Option (List ℕ)) where
  pub counting_stops : (m : ℕ) → 1 ≤ m → m ≤ n → IsCountedBelow (asked_of t n None) m taken now → (s count : ℕ) → limits.IsOver t m s count →
      CountsAs (asked_of t n None) taken now (ListingEnd.Stopped s count)
  counting_stops m one l h s count over = (
    record { counts = h.counts; ends = EndsCounting.stopped stop h.are (h.many ∙ sym over.size); appended = h.bytes },
    over.count,
  )
    where
      stop : IsStop (asked_of t n None) s
      stop = subst (IsStop (asked_of t n None)) (sym over.size)
          (record { from = one; to = l; more = over.more; first = none_over (asked_of t n None) m (omega (arith, l)) h.no_stop })

  pub counting_whole : IsCountedBelow (asked_of t n None) (n + 1) taken now → HasCounted (asked_of t n None) Ending.whole taken now
  counting_whole h = record { counts = h.counts; ends = EndsCounting.whole none h.are all; appended = h.bytes }
    where
      none : (m : ℕ) → IsStop (asked_of t n None) m → ⊥
      none m x = let l = h.no_stop m x in let k = x.to in omega (arith, l, k)

      all : length h.counts ≡ n
      all = let many = h.many in omega (arith, many)

-- at the start no size is counted
pub counting_starts : (t : Table) (n : ℕ) (now : Option (List ℕ)) → IsCountedBelow (asked_of t n None) 1 now now
counting_starts t n now = record { counts = []; are = tt; many = refl; bytes = stays now; no_stop = λ k x. x.from }

-- the number of states of a table that has grown to the size
pub exactly : (t new : Table) (n m : ℕ) → Keeps t new → IsTable new → new.grown ≡ m → ReachesExactly t.schema (lists t) m (length new.states)
exactly t new n m k are e =
    subst (λ a. ReachesExactly a.schema a.lists m (length new.states)) (same_asked t new n None k)
    (record { states = new.states; distinct = are.once; each = λ s. subst (λ j. Contains new.states s ↔ Reach new.schema (lists new) j s) e (are.each s); many = refl })

-- a table that has grown has the same groups of alike codes
pub same_total : (t new : Table) → Keeps t new → group_total new ≡ group_total t
same_total t new k =
    ap (λ u. alike_count (lists_of u new.atoms) new.groups) k.universe
    ∙ (ap (λ x. alike_count (lists_of t.universe x) new.groups) k.atoms ∙ ap (λ x. alike_count (lists t) x) k.groups)

-- the derivatives of a table are at most those of a state for each that the limit allows
pub spent_small : (t new : Table) → Keeps t new → IsTable new → new.spent ≤ group_total t * (t.limit + 1)
spent_small t new k are =
    let few = are.few in
    let limit = k.limit in
    let mine : new.spent ≤ group_total t * length new.states = subst (λ j. new.spent ≤ j * length new.states) (same_total t new k) are.counted in
    let most : group_total t * length new.states ≤ group_total t * (t.limit + 1) = mul-le-mul_left (group_total t) (omega (arith, few, limit)) in
    omega (arith, mine, most)

-- a table that had grown to the size before
pub grown_to : (m old new : ℕ) → old + 1 ≡ m → new ≡ max old m → new ≡ m
grown_to m old new e h = h ∙ omega (arith, e)

pub at_next : (t new : Table) (n m : ℕ) (taken now : Option (List ℕ)) → Keeps t new → IsCountedBelow (asked_of new n None) m taken now → IsCountedBelow (asked_of t n None) m taken now
at_next t new n m taken now k h = subst (λ a. IsCountedBelow a m taken now) (same_asked t new n None k) h

pub at_last : (t new : Table) (n m : ℕ) (taken now : Option (List ℕ)) → Keeps t new → IsCountedBelow (asked_of t n None) m taken now → IsCountedBelow (asked_of new n None) m taken now
at_last t new n m taken now k h = subst (λ a. IsCountedBelow a m taken now) (sym (same_asked t new n None k)) h

pub ends_so : (t new : Table) (n : ℕ) (taken now : Option (List ℕ)) (end : ListingEnd) → Keeps t new → CountsAs (asked_of new n None) taken now end → CountsAs (asked_of t n None) taken now end
ends_so t new n taken now end k h = subst (λ a. CountsAs a taken now end) (same_asked t new n None k) h
