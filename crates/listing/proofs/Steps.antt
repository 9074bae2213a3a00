-- What is written after the next document of a size, and after its last.
use Rattle.std.proofs.Common.{◌≡◌, ℕ, ◌+◌, ◌*◌, ◌<◌, ◌≤◌, ◌⊎◌, inl, inr, List, [], ◌∷◌, ◌++◌, length, Option, Some, None, refl, sym, ◌∙◌, ap, subst, arith, append_assoc, append-nil}
use Rattle.std.proofs.lemmas.Bool.{cases_order}
use Rattle.std.proofs.lemmas.List.{length-append}
use Rattle.std.proofs.lemmas.List.Elements.{All-from_recursion}
use Rattle.std.proofs.lemmas.Bool.{false≢true}
use Rattle.std.specs.Prelude.{Bool, true, false, IsTrue, Result, Ok, Err, OnOk, OnErr, map}
use Rattle.std.specs.Result.{is_err, IsErrAnd}
use Rattle.std.specs.List.{AllByRecursion}
use Rattle.std.specs.Io.KnownBytes.{Appends}
use Rattle.rng_model.specs.Texts.{Text}
use Rattle.rng_model.specs.Hedges.{Skeleton, size}
use Rattle.rng_model.specs.Events.{events}
use Rattle.rng_model.specs.Lines.{skeleton_text}
use Rattle.rng_model.specs.Codes.{Code, AreCodes, IsInRange}
use Rattle.table_laws.proofs.Counts.{more_grows}
use Rattle.table_laws.proofs.Rooms.{listed_length}
use Rattle.feasibility.specs.Tables.{Table, IsTable, Keeps, lists, lists_of}
use Rattle.text_atoms.specs.declared.origin.Origin.{Origin}
use Rattle.name_universe.specs.Tables.{NameTables}
use Rattle.skeleton.specs.declared.code.Code as coded
use Rattle.skeleton.specs.Views.{code_of}
use Rattle.event_lines.specs.Coded.{AreInRange, events_text}
use Rattle.event_lines.specs.Spelled.{AreSpellings}
use Rattle.event_lines.specs.declared.spellings.Spellings.{Spellings}
use Rattle.lister.specs.Walks.{Walk, Stage, IsStep, GoesToNext, IsWalkOf, IsAt, IsAtOne}
use Rattle.outside.specs.Devices.{IsFrontOf, AppendsFront}
use Rattle.listing_laws.specs.Pending.{Asked, IsOver, AreFirst, Ending, Ends}
use Rattle.listing_laws.specs.Fronts.{AreBelow, AreUpTo, NoStopBelow, Fits}
use Rattle.listing_laws.proofs.Ranks.{rank_less, rank_small}
use Rattle.listing_laws.proofs.Fronts as fronts
use Rattle.listing_laws.proofs.Beginning.{begins}
use Rattle.listing.specs.Progress.{asked_of, texts_of, HasLeft, HasCome, IsWritten, IsWrittenBelow, BeginsListing, HasBegun, HasEnded, walk_left}
use Rattle.listing.specs.Endings.{IsReadyFor}

-- the document whose codes come next, and all up to it
pub record Written (a : Asked) (m : ℕ) (front : List Skeleton) (next : List Code) : Type 0 where
  pub document : Skeleton
  pub coded : AreCodes a.lists (events document) next
  pub exact : size document ≡ m
  pub to : AreUpTo a document (front ++ (document ∷ []))

-- what was written before the document that comes next
pub record Coming (a : Asked) (page : Option ℕ) (m : ℕ) (left : Option ℕ) (taken now : Option (List ℕ)) (codes : List Code) : Type 0 where
  pub front : List Skeleton
  pub room : HasLeft page left (length front)
  pub bytes : Appends taken now (texts_of front)
  pub document : Skeleton
  pub coded : AreCodes a.lists (events document) codes
  pub exact : size document ≡ m
  pub to : AreUpTo a document (front ++ (document ∷ []))

module _ (t : Table) (n : ℕ) (after : Option Skeleton) where
  pub goes_on : (m : ℕ) (front : List Skeleton) (old : Stage) (next : List Code) (ids : List ℕ) → m ≤ n → HasCome (asked_of t n after) m old front →
      GoesToNext t m old (Stage.at next ids) → Written (asked_of t n after) m front next
  goes_on m front Stage.before next ids l h d =
      record { document = d.0; coded = d.1; exact = d.2.listed.exact; to = fronts.first (asked_of t n after) m front d.0 h.0 h.1 l d.2 }
  goes_on m front (Stage.at codes states) next ids l (last, cs, e, up) is =
      let d = is last cs e in
      record { document = d.0; coded = d.1; exact = d.2.listed.exact; to = fronts.next (asked_of t n after) m front last d.0 up l e d.2 }
  goes_on m front Stage.past next ids l h is = absurd is
  goes_on m front Stage.nowhere next ids l h is = absurd is

  pub comes_to_an_end : (m : ℕ) (front : List Skeleton) (old : Stage) → HasCome (asked_of t n after) m old front → GoesToNext t m old Stage.past →
      AreBelow (asked_of t n after) (m + 1) front
  comes_to_an_end m front Stage.before h none = fronts.none (asked_of t n after) m front h.0 none
  comes_to_an_end m front (Stage.at codes states) (last, cs, e, up) nothing =
      fronts.end (asked_of t n after) m front last up e (nothing last cs e)
  comes_to_an_end m front Stage.past h is = h
  comes_to_an_end m front Stage.nowhere h is = absurd h

  pub coming : (w : Walk) (page left : Option ℕ) (taken now : Option (List ℕ)) (stage : Stage) (codes : List Code) →
      IsReadyFor t n after w page left taken now → GoesToNext t w.size w.stage stage → IsAt stage codes →
      Coming (asked_of t n after) page w.size left taken now codes
  coming w page left taken now (Stage.at next ids) codes h is e =
      let d = goes_on w.size h.written.front w.stage next ids h.asked h.written.come is in
      record {
        front = h.written.front;
        room = h.written.room;
        bytes = h.written.bytes;
        document = d.document;
        coded = subst (AreCodes (lists t) (events d.document)) e d.coded;
        exact = d.exact;
        to = d.to;
      }
  coming w page left taken now Stage.nowhere codes h is e = absurd e
  coming w page left taken now Stage.before codes h is e = absurd e
  coming w page left taken now Stage.past codes h is e = absurd e

-- the texts of one document more
pub texts_more : (front : List Skeleton) (d : Skeleton) → texts_of (front ++ (d ∷ [])) ≡ texts_of front ++ skeleton_text d
texts_more [] d = append-nil (skeleton_text d)
texts_more (s ∷ front) d = ap (λ z. skeleton_text s ++ z) (texts_more front d) ∙ sym (append_assoc (skeleton_text s) (texts_of front) (skeleton_text d))

pub texts_both : (front rest : List Skeleton) → texts_of (front ++ rest) ≡ texts_of front ++ texts_of rest
texts_both [] rest = refl
texts_both (s ∷ front) rest = ap (λ z. skeleton_text s ++ z) (texts_both front rest) ∙ sym (append_assoc (skeleton_text s) (texts_of front) (texts_of rest))

-- bytes that were appended one after the other
pub appends_both : (old mid new : Option (List ℕ)) (xs ys : List ℕ) → Appends old mid xs → Appends mid new ys → Appends old new (xs ++ ys)
appends_both None mid new xs ys h k = tt
appends_both (Some a) None new xs ys h k = absurd h
appends_both (Some a) (Some b) None xs ys h k = absurd k
appends_both (Some a) (Some b) (Some c) xs ys h k = k ∙ (ap (λ z. z ++ ys) h ∙ append_assoc a xs ys)

module _ (a : Asked) (page : Option ℕ) where
  -- what fits on the page and is a first part begins what is written
  pub begins_listing : (front : List Skeleton) → AreFirst a (length front) front → Fits (length front) page → BeginsListing a page (texts_of front)
  begins_listing front first fits e queue ends =
      let b = begins a page front e queue first fits ends in
      (texts_of b.rest, ap texts_of b.is ∙ texts_both front b.rest)

  -- a front of the next text too
  pub begins_more : (front : List Skeleton) (d : Skeleton) (bytes : List ℕ) → AreFirst a (length (front ++ (d ∷ []))) (front ++ (d ∷ [])) → Fits (length (front ++ (d ∷ []))) page →
      IsFrontOf bytes (skeleton_text d) → BeginsListing a page (texts_of front ++ bytes)
  begins_more front d bytes first fits part e queue ends =
      let b = begins_listing (front ++ (d ∷ [])) first fits e queue ends in (
        part.0 ++ b.0,
        b.1 ∙ (ap (λ z. z ++ b.0) (texts_more front d ∙ ap (λ z. texts_of front ++ z) part.1)
            ∙ (ap (λ z. z ++ b.0) (sym (append_assoc (texts_of front) bytes part.0)) ∙ append_assoc (texts_of front ++ bytes) part.0 b.0)),
      )

pub fits_more : (page left : Option ℕ) (many : ℕ) → HasLeft page left many → Fits (many + 1) page
fits_more None None many h = tt
fits_more None (Some l) many h = absurd h
fits_more (Some k) None many h = absurd h
fits_more (Some k) (Some l) many h = let one = h.0 in let all = h.1 in omega (arith, one, all)

pub fits : (page left : Option ℕ) (many : ℕ) → HasLeft page left many → Fits many page
fits None None many h = tt
fits None (Some l) many h = absurd h
fits (Some k) None many h = absurd h
fits (Some k) (Some l) many h = let one = h.0 in let all = h.1 in omega (arith, one, all)

-- a document is written, or a front of it
module _ (a : Asked) (page : Option ℕ) (m : ℕ) (left : Option ℕ) (taken old : Option (List ℕ)) (codes : List Code) where
  one_more : (c : Coming a page m left taken old codes) → length (c.front ++ (c.document ∷ [])) ≡ length c.front + 1
  one_more c = length-append c.front (c.document ∷ [])

  all_first : (c : Coming a page m left taken old codes) → (IsOver a m → ⊥) → AreFirst a (length (c.front ++ (c.document ∷ []))) (c.front ++ (c.document ∷ []))
  all_first c few = fronts.up_to_first a (c.front ++ (c.document ∷ [])) c.document c.to (subst (λ k. IsOver a k → ⊥) (sym c.exact) few)

  all_fit : (c : Coming a page m left taken old codes) → Fits (length (c.front ++ (c.document ∷ []))) page
  all_fit c = subst (λ k. Fits k page) (sym (one_more c)) (fits_more page left (length c.front) c.room)

  all_bytes : (c : Coming a page m left taken old codes) (new : Option (List ℕ)) → Appends old new (skeleton_text c.document) →
      Appends taken new (texts_of (c.front ++ (c.document ∷ [])))
  all_bytes c new h =
      subst (Appends taken new) (sym (texts_more c.front c.document)) (appends_both taken old new (texts_of c.front) (skeleton_text c.document) c.bytes h)

  pub begun : (c : Coming a page m left taken old codes) → (IsOver a m → ⊥) → (new : Option (List ℕ)) → AppendsFront old new (skeleton_text c.document) →
      HasBegun a page taken new
  begun c few new = go taken old new c.bytes
    where
      go : (taken old new : Option (List ℕ)) → Appends taken old (texts_of c.front) → AppendsFront old new (skeleton_text c.document) → HasBegun a page taken new
      go None old new h part = record { bytes = []; front = λ e queue ends. (texts_of queue, refl); appended = tt }
      go (Some x) None new h part = absurd h
      go (Some x) (Some y) None h part = absurd part
      go (Some x) (Some y) (Some z) h (bytes, is, grew) = record {
        bytes = texts_of c.front ++ bytes;
        front = begins_more a page c.front c.document bytes (all_first c few) (all_fit c) is;
        appended = appends_both (Some x) (Some y) (Some z) (texts_of c.front) bytes h grew;
      }

  pub ended : (c : Coming a page m left taken old codes) → (IsOver a m → ⊥) → (new : Option (List ℕ)) → Appends old new (skeleton_text c.document) →
      page ≡ Some (length c.front + 1) → HasEnded a page Ending.full taken new
  ended c few new h is = record {
    queue = c.front ++ (c.document ∷ []);
    ends = Ends.full (is ∙ ap Some (sym (one_more c))) (all_first c few);
    appended = all_bytes c new h;
  }

  pub written : (c : Coming a page m left taken old codes) (new : Option (List ℕ)) (rest : Option ℕ) (stage : Stage) → IsAt stage codes →
      Appends old new (skeleton_text c.document) → HasLeft page rest (length c.front + 1) → IsWritten a page m stage rest taken new
  written c new rest stage is h room = record {
    front = c.front ++ (c.document ∷ []);
    room = subst (HasLeft page rest) (sym (one_more c)) room;
    bytes = all_bytes c new h;
    come = come stage is;
  }
    where
      come : (stage : Stage) → IsAt stage codes → HasCome a m stage (c.front ++ (c.document ∷ []))
      come (Stage.at next ids) e = (c.document, subst (AreCodes a.lists (events c.document)) (sym e) c.coded, c.exact, c.to)
      come Stage.nowhere e = absurd e
      come Stage.before e = absurd e
      come Stage.past e = absurd e

-- a size that isn't over has no stop at or below it
pub no_stop_above : (a : Asked) (m : ℕ) → (IsOver a m → ⊥) → NoStopBelow a (m + 1)
no_stop_above a m n k x = go (cases_order m k)
  where
    go : (m ≡ k) ⊎ ((m < k) ⊎ (k < m)) → m + 1 ≤ k
    go (inl e) = absurd (n (subst (λ j. IsOver a j) (sym e) x.more))
    go (inr (inl l)) = omega (arith, l)
    go (inr (inr l)) = absurd (n (more_grows a.schema a.lists k m a.limit (omega (arith, l)) x.more))

-- where no document follows, all of the size and of the smaller ones is written
pub size_written : (t : Table) (n : ℕ) (after : Option Skeleton) (w : Walk) (page left : Option ℕ) (taken now : Option (List ℕ)) (stage : Stage) →
    IsReadyFor t n after w page left taken now → GoesToNext t w.size w.stage stage → (IsAtOne stage → ⊥) →
    IsWrittenBelow (asked_of t n after) page (w.size + 1) left taken now
size_written t n after w page left taken now Stage.past h is none = record {
  front = h.written.front;
  room = h.written.room;
  bytes = h.written.bytes;
  below = comes_to_an_end t n after w.size h.written.front w.stage h.written.come is;
  no_stop = no_stop_above (asked_of t n after) w.size h.fits;
}
size_written t n after w page left taken now (Stage.at codes ids) h is none = absurd (none tt)
size_written t n after w page left taken now Stage.nowhere h is none = absurd (never w.stage is)
  where
    never : (old : Stage) → GoesToNext t w.size old Stage.nowhere → ⊥
    never Stage.nowhere k = k
    never Stage.before k = k
    never (Stage.at codes ids) k = k
    never Stage.past k = k
size_written t n after w page left taken now Stage.before h is none = absurd (never w.stage is)
  where
    never : (old : Stage) → GoesToNext t w.size old Stage.before → ⊥
    never Stage.nowhere k = k
    never Stage.before k = k
    never (Stage.at codes ids) k = k
    never Stage.past k = k

-- with each document that is found fewer may follow
pub fewer : (t : Table) → IsTable t → (m : ℕ) (old new : Stage) → IsWalkOf t m old → IsWalkOf t m new → IsStep t m old new → IsAtOne new →
    walk_left (lists t) m new < walk_left (lists t) m old
fewer t are m Stage.before (Stage.at next ids) h k is one = omega arith
fewer t are m (Stage.at codes states) (Stage.at next ids) h k is one =
    let u = lists t in
    let small = listed_length t.schema u are.listable.unbroken are.listable.ascend are.listable.simple are.listable.alphabet m in
    let less = rank_less u (3 * m) codes next h.0.in_range k.0.in_range (small codes h.0) (small next k.0) is.above in
    let most = rank_small u (3 * m) next k.0.in_range (small next k.0) in
    omega (arith, less, most)
fewer t are m Stage.past (Stage.at next ids) h k is one = absurd is
fewer t are m Stage.nowhere (Stage.at next ids) h k is one = absurd is
fewer t are m old Stage.nowhere h k is one = absurd one
fewer t are m old Stage.before h k is one = absurd one
fewer t are m old Stage.past h k is one = absurd one

pub fewer_left : (t : Table) → IsTable t → (w v : Walk) → v.size ≡ w.size → IsWalkOf t w.size w.stage → IsWalkOf t v.size v.stage →
    IsStep t w.size w.stage v.stage → IsAtOne v.stage → walk_left (lists t) v.size v.stage < walk_left (lists t) w.size w.stage
fewer_left t are w v e h k is one =
    subst (λ m. walk_left (lists t) m v.stage < walk_left (lists t) w.size w.stage) (sym e)
    (fewer t are w.size w.stage v.stage h (subst (λ m. IsWalkOf t m v.stage) e k) is one)

pub not_true : (b : Bool) → b ≡ false → IsTrue b → ⊥
not_true true e h = false≢true (sym e)
not_true false e h = false≢true h

pub failed : {A E : Type 0} {P : Type 0} (r : Result A E) → is_err r ≡ true → OnErr r P → P
failed (Ok x) e h = absurd (false≢true e)
failed (Err x) e h = h

pub went : {A E : Type 0} {P : Type 0} (r : Result A E) → is_err r ≡ false → OnOk r P → P
went (Ok x) e h = h
went (Err x) e h = absurd (false≢true (sym e))

-- an error that is passed on
pub passed_on : {A E : Type 0} (r : Result A E) (x : E) → IsErrAnd r (λ e. e ≡ x) → r ≡ Err x
passed_on (Ok y) x h = absurd h
passed_on (Err e) x h = ap Err h

-- the names and texts of the table
pub same_lists : (t : Table) (u : NameTables) (atoms : List (Text × Origin)) → u ≡ t.universe → atoms ≡ t.atoms → lists_of u atoms ≡ lists t
same_lists t u atoms e f = ap (λ v. lists_of v atoms) e ∙ ap (lists_of t.universe) f

-- the codes at which a walk stands are in range
pub codes_in_range : (t : Table) (u : NameTables) (atoms : List (Text × Origin)) → u ≡ t.universe → atoms ≡ t.atoms → (m : ℕ) (stage : Stage) (cs : List coded.Code) →
    IsWalkOf t m stage → IsAt stage (map code_of cs) → AreInRange (lists_of u atoms) cs
codes_in_range t u atoms e f m (Stage.at codes ids) cs h is =
    subst (λ l. AreInRange l cs) (sym (same_lists t u atoms e f))
    (All-from_recursion (λ c. IsInRange (lists t) (code_of c)) cs (each cs (subst (AllByRecursion (IsInRange (lists t))) is h.0.in_range)))
  where
    each : (cs : List coded.Code) → AllByRecursion (IsInRange (lists t)) (map code_of cs) → AllByRecursion (λ c. IsInRange (lists t) (code_of c)) cs
    each [] k = tt
    each (c ∷ cs) k = (k.0, each cs k.1)
codes_in_range t u atoms e f m Stage.nowhere cs h is = absurd is
codes_in_range t u atoms e f m Stage.before cs h is = absurd is
codes_in_range t u atoms e f m Stage.past cs h is = absurd is

pub text_is : (s : Skeleton) → events_text (events s) ≡ skeleton_text s
unfolding skeleton_text
text_is s = refl

-- the spellings of the lists are those of a table's that has grown
pub spelled_on : (t new : Table) (s : Spellings) → Keeps t new → AreSpellings (lists t) s → AreSpellings (lists new) s
spelled_on t new s kept are = subst (λ l. AreSpellings l s) (sym (same_lists t new.universe new.atoms kept.universe kept.atoms)) are

-- the walk is ready for the next document of its size
pub ready_again : (t : Table) (n : ℕ) (after : Option Skeleton) (w v : Walk) (page left rest : Option ℕ) (taken old new : Option (List ℕ)) → v.size ≡ w.size →
    IsReadyFor t n after w page left taken old → IsWritten (asked_of t n after) page w.size v.stage rest taken new → IsReadyFor t n after v page rest taken new
ready_again t n after w v page left rest taken old new e h k = record {
  asked = subst (λ m. m ≤ n) (sym e) h.asked;
  fits = subst (λ m. IsOver (asked_of t n after) m → ⊥) (sym e) h.fits;
  written = subst (λ m. IsWritten (asked_of t n after) page m v.stage rest taken new) (sym e) k;
}
