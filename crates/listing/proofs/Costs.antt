-- What a listing writes, and how many steps it counts for it.
use Rattle.std.proofs.Common.{◌≡◌, ℕ, ◌+◌, ◌*◌, ◌≤◌, List, [], ◌∷◌, ◌++◌, length, Option, Some, None, refl, sym, ◌∙◌, subst, arith, append_assoc, append-nil}
use Rattle.std.proofs.lemmas.List.{length-append}
use Rattle.std.proofs.lemmas.List.Elements.{Contains-append_left}
use Rattle.std.specs.Prelude.{Result, Ok, Err, Contains}
use Rattle.std.specs.Io.KnownBytes.{Appends}
use Rattle.rng_model.specs.Hedges.{Skeleton}
use Rattle.rng_model.specs.Lines.{skeleton_text}
use Rattle.rng_model.specs.Listing.{IsListed}
use Rattle.rng_model.specs.Codes.{Code}
use Rattle.outside.specs.Devices.{AppendsFront}
use Rattle.feasibility.specs.Tables.{Table, Keeps}
use Rattle.listing_laws.specs.Pending.{Asked, IsOver, Ending, Ends}
use Rattle.listing_laws.specs.Fronts.{BeginsWith, Fits, IsBehind}
use Rattle.listing_laws.proofs.Fronts as fronts
use Rattle.listing_laws.proofs.Beginning.{begins}
use Rattle.listing.specs.Progress.{asked_of, texts_of}
use Rattle.lister.specs.Walks.{Walk}
use Rattle.listing.specs.Doing.{IsDoneBelow, IsReady}
use Rattle.listing.specs.Endings.{IsAtStart, IsReadyFor}
use Rattle.listing.specs.Costs.{IsWrittenFor, HasCost, CostsTo}
use Rattle.listing.specs.declared.listing_end.ListingEnd.{ListingEnd}
use Rattle.listing.proofs.Steps.{appends_both, texts_more, fits, fits_more}
use Rattle.listing.proofs.FromSizeToSize.{same_asked, at_first, stays}
use Rattle.listing.proofs.Sums.{Next, each_more, below_so}

-- more steps are taken, and more may be
pub written_later : (taken now : Option (List ℕ)) (x y each s x1 y1 s1 : ℕ) (front : List Skeleton) → s1 + x1 + y ≤ s + x + y1 →
    IsWrittenFor taken now x y each s front → IsWrittenFor taken now x1 y1 each s1 front
written_later taken now x y each s x1 y1 s1 front l h = record { bytes = h.bytes; ticks = let ticks = h.ticks in omega (arith, ticks, l) }

pub below_later : (a : Asked) (page : Option ℕ) (taken now : Option (List ℕ)) (x y each s x1 y1 s1 m : ℕ) (left : Option ℕ) → s1 + x1 + y ≤ s + x + y1 →
    IsDoneBelow a (IsWrittenFor taken now x y each s) page m left → IsDoneBelow a (IsWrittenFor taken now x1 y1 each s1) page m left
below_later a page taken now x y each s x1 y1 s1 m left l h =
    below_so a (IsWrittenFor taken now x y each s) (IsWrittenFor taken now x1 y1 each s1) page m left (λ front k. written_later taken now x y each s x1 y1 s1 front l k) h

pub cost_later : (a : Asked) (page : Option ℕ) (taken now : Option (List ℕ)) (x y each s x1 y1 s1 : ℕ) → s1 + x1 + y ≤ s + x + y1 →
    HasCost taken now x y each s a page → HasCost taken now x1 y1 each s1 a page
cost_later a page taken now x y each s x1 y1 s1 l h = record {
  front = h.front;
  listed = h.listed;
  begins = h.begins;
  part = h.part;
  bytes = h.bytes;
  ticks = let ticks = h.ticks in omega (arith, ticks, l);
}

-- what is written of the sizes below m
pub cost_below : (a : Asked) (page : Option ℕ) (taken now : Option (List ℕ)) (x y each s m : ℕ) (left : Option ℕ) →
    IsDoneBelow a (IsWrittenFor taken now x y each s) page m left → HasCost taken now x y each s a page
cost_below a page taken now x y each s m left h = record {
  front = h.front;
  listed = λ d there. ((h.below.each d).0 there).0.listed;
  begins = λ e queue ends. begins a page h.front e queue (fronts.below_first a m h.front h.below h.no_stop) (fits page left (length h.front) h.room) ends;
  part = [];
  bytes = subst (Appends taken now) (sym (append-nil (texts_of h.front))) h.done.bytes;
  ticks = h.done.ticks;
}

-- one document more
module _ (a : Asked) (page : Option ℕ) (taken old : Option (List ℕ)) (x y each s : ℕ) (m : ℕ) (left : Option ℕ) (codes : List Code)
    (c : Next a (IsWrittenFor taken old x y each s) page m left codes) (new : Option (List ℕ)) (s1 : ℕ) (later : s1 ≤ s + each) where
  one_more : length (c.front ++ (c.document ∷ [])) ≡ length c.front + 1
  one_more = length-append c.front (c.document ∷ [])

  listed_one : (d : Skeleton) → Contains (c.front ++ (c.document ∷ [])) d → IsListed a.schema a.lists a.size d
  listed_one d there = ((c.to.each d).0 there).0.listed

  begins_one : (IsOver a m → ⊥) → (e : Ending) (queue : List Skeleton) → Ends a page e queue → BeginsWith (c.front ++ (c.document ∷ [])) queue
  begins_one few e queue ends =
      begins a page (c.front ++ (c.document ∷ [])) e queue
      (fronts.up_to_first a (c.front ++ (c.document ∷ [])) c.document c.to (subst (λ k. IsOver a k → ⊥) (sym c.exact) few))
      (subst (λ k. Fits k page) (sym one_more) (fits_more page left (length c.front) c.room)) ends

  pub written_more : Appends old new (skeleton_text c.document) → IsWrittenFor taken new x y each s1 (c.front ++ (c.document ∷ []))
  written_more h = record {
    bytes = subst (Appends taken new) (sym (texts_more c.front c.document)) (appends_both taken old new (texts_of c.front) (skeleton_text c.document) c.done.bytes h);
    ticks = subst (λ k. s1 + x ≤ y + each * k) (sym one_more) (let more = each_more each (length c.front) in let ticks = c.done.ticks in omega (arith, more, ticks, later));
  }

  -- the page is full with it
  pub cost_full : (IsOver a m → ⊥) → Appends old new (skeleton_text c.document) → HasCost taken new x (y + each) each s1 a page
  cost_full few h =
      let w = written_more h in
      record {
        front = c.front ++ (c.document ∷ []);
        listed = listed_one;
        begins = begins_one few;
        part = [];
        bytes = subst (Appends taken new) (sym (append-nil (texts_of (c.front ++ (c.document ∷ []))))) w.bytes;
        ticks = let ticks = w.ticks in omega (arith, ticks);
      }

  -- a part of it is written
  pub cost_cut : (IsOver a m → ⊥) → AppendsFront old new (skeleton_text c.document) → HasCost taken new x (y + each) each s1 a page
  cost_cut few h = go taken old new c.done.bytes h
    where
      begins_front : (e : Ending) (queue : List Skeleton) → Ends a page e queue → BeginsWith c.front queue
      begins_front e queue ends =
          let b = begins_one few e queue ends in
          record { rest = c.document ∷ b.rest; is = b.is ∙ append_assoc c.front (c.document ∷ []) b.rest }

      listed_front : (d : Skeleton) → Contains c.front d → IsListed a.schema a.lists a.size d
      listed_front d there = listed_one d (Contains-append_left c.front (c.document ∷ []) d there)

      few_steps : s1 + x ≤ y + each + each * length c.front
      few_steps = let ticks = c.done.ticks in omega (arith, ticks, later)

      go : (taken old new : Option (List ℕ)) → Appends taken old (texts_of c.front) → AppendsFront old new (skeleton_text c.document) → HasCost taken new x (y + each) each s1 a page
      go None old new grew part = record { front = c.front; listed = listed_front; begins = begins_front; part = []; bytes = tt; ticks = few_steps }
      go (Some p) None new grew part = absurd grew
      go (Some p) (Some q) None grew part = absurd part
      go (Some p) (Some q) (Some r) grew (bytes, is, more) = record {
        front = c.front;
        listed = listed_front;
        begins = begins_front;
        part = bytes;
        bytes = appends_both (Some p) (Some q) (Some r) (texts_of c.front) bytes grew more;
        ticks = few_steps;
      }

-- the same over a table that has grown
pub costs_grown : (t new : Table) (n : ℕ) (after : Option Skeleton) (page : Option ℕ) (taken now : Option (List ℕ)) (x y each s last m : ℕ) (left : Option ℕ)
    (r : Result (Unit {0}) ListingEnd) → Keeps t new → CostsTo new n after page taken now x y each s last m left r → CostsTo t n after page taken now x y each s last m left r
costs_grown t new n after page taken now x y each s last m left (Ok done) k h =
    subst (λ a. IsDoneBelow a (IsWrittenFor taken now x y each s) page m left) (same_asked t new n after k) h
costs_grown t new n after page taken now x y each s last m left (Err end) k h = subst (λ a. HasCost taken now x last each s a page) (same_asked t new n after k) h

pub costs_later : (t : Table) (n : ℕ) (after : Option Skeleton) (page : Option ℕ) (taken now : Option (List ℕ)) (x y each s last y1 last1 m : ℕ) (left : Option ℕ)
    (r : Result (Unit {0}) ListingEnd) → y ≤ y1 → last ≤ last1 → CostsTo t n after page taken now x y each s last m left r → CostsTo t n after page taken now x y1 each s last1 m left r
costs_later t n after page taken now x y each s last y1 last1 m left (Ok done) l k h = below_later (asked_of t n after) page taken now x y each s x y1 s m left (omega (arith, l)) h
costs_later t n after page taken now x y each s last y1 last1 m left (Err end) l k h = cost_later (asked_of t n after) page taken now x last each s x last1 s (omega (arith, k)) h

pub behind_more : (a : Asked) (m : ℕ) → IsBehind a m → IsBehind a (m + 1)
behind_more a m b c is = let l = b c is in omega (arith, l)

-- before the first document of a walk
pub ready_for : (t : Table) (n : ℕ) (after : Option Skeleton) (w : Walk) (page left : Option ℕ) (taken now : Option (List ℕ)) (x y each s : ℕ) → s + x ≤ y →
    IsReadyFor t n after w page left taken now → IsReady t n after (IsWrittenFor taken now x y each s) page w left
ready_for t n after w page left taken now x y each s l h = record {
  asked = h.asked;
  fits = h.fits;
  before = record {
    front = h.written.front;
    room = h.written.room;
    done = record { bytes = h.written.bytes; ticks = omega (arith, l) };
    come = h.written.come;
  };
}

-- without a cursor nothing is written before size 1
pub first_for : (t : Table) (n : ℕ) (page left : Option ℕ) (taken now : Option (List ℕ)) (x y each s : ℕ) → s + x ≤ y → IsAtStart page left taken now →
    IsDoneBelow (asked_of t n None) (IsWrittenFor taken now x y each s) page 1 left
first_for t n page left taken now x y each s l h =
    let w = (at_first t n page left taken now h).written in
    record { front = w.front; room = w.room; done = record { bytes = w.bytes; ticks = omega (arith, l) }; below = w.below; no_stop = w.no_stop }

nothing_in : (d : Skeleton) → Contains [] d → ⊥
nothing_in d (k, l, e) = omega (arith, l)

-- where nothing is written
pub cost_none : (a : Asked) (page : Option ℕ) (now : Option (List ℕ)) (x y each s : ℕ) → s + x ≤ y → HasCost now now x y each s a page
cost_none a page now x y each s l = record {
  front = [];
  listed = λ d there. absurd (nothing_in d there);
  begins = λ e queue ends. record { rest = queue; is = refl };
  part = [];
  bytes = stays now;
  ticks = omega (arith, l);
}
