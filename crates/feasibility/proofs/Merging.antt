-- A row whose last run goes on to the code of one position.
use Rattle.std.proofs.Common.{◌≡◌, ℕ, zero, suc, ◌+◌, ◌<◌, ◌≤◌, ◌⊎◌, inl, inr, Some, List, [], ◌∷◌, length, set, slice_get, refl, sym, ◌∙◌, ap, subst, arith}
use Rattle.std.proofs.lemmas.Option.{slice_get_within}
use Rattle.rng_model.specs.Codes as code
use Rattle.rng_model.specs.Codes.{Code}
use Rattle.rng_model.specs.Patterns.{Schema}
use Rattle.rng_model.specs.Universe.{Lists}
use Rattle.rng_model.specs.States.{State}
use Rattle.table_laws.specs.Reaching.{Leads}
use Rattle.skeleton.specs.Views.{code_of}
use Rattle.transitions.specs.declared.arc.Arc.{Arc}
use Rattle.transitions.specs.declared.state_id.StateId.{StateId}
use Rattle.transitions.specs.Arcs.{Covers, IsFrom, IsLess, IsRowTo, LeadsTo}
use Rattle.transitions.specs.Runs.{IsAdded, IsNext}
use Rattle.feasibility.specs.declared.family.Family.{Family}
use Rattle.feasibility.specs.declared.family.Family.TheVariants.{Texts, Attribute, Openings}
use Rattle.feasibility.specs.Families.{family_code}
use Rattle.feasibility.proofs.Rowing.{less_next, less_split, next_above, row_adds}

-- what stands in a list with one changed
get_changed : {X : Type 0} (xs : List X) (i j : ℕ) (y z : X) → slice_get (set xs i y) j ≡ Some z → ((j ≡ i) × (y ≡ z)) ⊎ (slice_get xs j ≡ Some z)
get_changed [] i j y z h = inr h
get_changed (x ∷ xs) zero zero y z h = inl (refl, cc)
get_changed (x ∷ xs) zero (suc j) y z h = inr h
get_changed (x ∷ xs) (suc i) zero y z h = inr h
get_changed (x ∷ xs) (suc i) (suc j) y z h = go (get_changed xs i j y z h)
  where
    go : ((j ≡ i) × (y ≡ z)) ⊎ (slice_get xs j ≡ Some z) → ((suc j ≡ suc i) × (y ≡ z)) ⊎ (slice_get xs j ≡ Some z)
    go (inl (e, f)) = inl (ap suc e, f)
    go (inr e) = inr e

-- what stood there is where it was, or the one that was changed
get_still : {X : Type 0} (xs : List X) (i j : ℕ) (x y z : X) → slice_get xs i ≡ Some x → slice_get xs j ≡ Some z → ((i ≡ j) × (x ≡ z)) ⊎ (slice_get (set xs i y) j ≡ Some z)
get_still [] i j x y z g h = absurd (cc)
get_still (w ∷ xs) zero zero x y z g h = inl (refl, cc)
get_still (w ∷ xs) zero (suc j) x y z g h = inr h
get_still (w ∷ xs) (suc i) zero x y z g h = inr h
get_still (w ∷ xs) (suc i) (suc j) x y z g h = go (get_still xs i j x y z g h)
  where
    go : ((i ≡ j) × (x ≡ z)) ⊎ (slice_get (set xs i y) j ≡ Some z) → ((suc i ≡ suc j) × (x ≡ z)) ⊎ (slice_get (set xs i y) j ≡ Some z)
    go (inl (e, f)) = inl (ap suc e, f)
    go (inr e) = inr e

get_new : {X : Type 0} (xs : List X) (i : ℕ) (y x : X) → slice_get xs i ≡ Some x → slice_get (set xs i y) i ≡ Some y
get_new [] i y x h = absurd (cc)
get_new (w ∷ xs) zero y x h = refl
get_new (w ∷ xs) (suc i) y x h = get_new xs i y x h

-- where a code is the next, the run begins with one of its family, and ends right before it
begins : (first : Code) (last : ℕ) (f : Family) (p : ℕ) → IsNext first last (family_code f p) → (i : ℕ) × (first ≡ family_code f i) × (p ≡ last + 1)
begins (code.Chars i) last Texts p h = (i, refl, h)
begins (code.Opening i) last Texts p h = absurd h
begins (code.Attr m i) last Texts p h = absurd h
begins code.Body last Texts p h = absurd h
begins code.Closing last Texts p h = absurd h
begins (code.Attr m i) last (Attribute n) p h = (i, ap (λ k. code.Attr k i) h.0, h.1)
begins (code.Chars i) last (Attribute n) p h = absurd h
begins (code.Opening i) last (Attribute n) p h = absurd h
begins code.Body last (Attribute n) p h = absurd h
begins code.Closing last (Attribute n) p h = absurd h
begins (code.Opening i) last Openings p h = (i, refl, h)
begins (code.Chars i) last Openings p h = absurd h
begins (code.Attr m i) last Openings p h = absurd h
begins code.Body last Openings p h = absurd h
begins code.Closing last Openings p h = absurd h

below_or_last : (q last : ℕ) → q ≤ last + 1 → (q ≤ last) ⊎ (last + 1 ≡ q)
below_or_last zero last l = inl (omega arith)
below_or_last (suc zero) zero l = inr refl
below_or_last (suc (suc q)) zero l = absurd (omega arith)
below_or_last (suc q) (suc last) l = go (below_or_last q last (omega arith))
  where
    go : (q ≤ last) ⊎ (last + 1 ≡ q) → (suc q ≤ suc last) ⊎ (suc last + 1 ≡ suc q)
    go (inl h) = inl (omega arith)
    go (inr e) = inr (omega (arith, e))

-- a longer run has the codes of the shorter one, and the next
splits : (f : Family) (i last : ℕ) (c : Code) → IsFrom (family_code f i) (last + 1) c → IsFrom (family_code f i) last c ⊎ (family_code f (last + 1) ≡ c)
splits Texts i last (code.Chars q) h = go (below_or_last q last h.1)
  where
    go : (q ≤ last) ⊎ (last + 1 ≡ q) → ((i ≤ q) × (q ≤ last)) ⊎ (code.Chars (last + 1) ≡ code.Chars q)
    go (inl l) = inl (h.0, l)
    go (inr e) = inr (ap code.Chars e)
splits Texts i last (code.Opening q) h = absurd h
splits Texts i last (code.Attr m q) h = absurd h
splits Texts i last code.Body h = absurd h
splits Texts i last code.Closing h = absurd h
splits (Attribute n) i last (code.Attr m q) h = go h.0 (below_or_last q last h.2)
  where
    go : n ≡ m → (q ≤ last) ⊎ (last + 1 ≡ q) → ((n ≡ m) × (i ≤ q) × (q ≤ last)) ⊎ (code.Attr n (last + 1) ≡ code.Attr m q)
    go e (inl l) = inl (e, h.1, l)
    go e (inr k) = inr (λ z. code.Attr (e z) (k z))
splits (Attribute n) i last (code.Chars q) h = absurd h
splits (Attribute n) i last (code.Opening q) h = absurd h
splits (Attribute n) i last code.Body h = absurd h
splits (Attribute n) i last code.Closing h = absurd h
splits Openings i last (code.Opening q) h = go (below_or_last q last h.1)
  where
    go : (q ≤ last) ⊎ (last + 1 ≡ q) → ((i ≤ q) × (q ≤ last)) ⊎ (code.Opening (last + 1) ≡ code.Opening q)
    go (inl l) = inl (h.0, l)
    go (inr e) = inr (ap code.Opening e)
splits Openings i last (code.Chars q) h = absurd h
splits Openings i last (code.Attr m q) h = absurd h
splits Openings i last code.Body h = absurd h
splits Openings i last code.Closing h = absurd h

has_more : (f : Family) (i last : ℕ) (c : Code) → IsFrom (family_code f i) last c → IsFrom (family_code f i) (last + 1) c
has_more Texts i last (code.Chars q) h = (h.0, let l = h.1 in omega (arith, l))
has_more Texts i last (code.Opening q) h = absurd h
has_more Texts i last (code.Attr m q) h = absurd h
has_more Texts i last code.Body h = absurd h
has_more Texts i last code.Closing h = absurd h
has_more (Attribute n) i last (code.Attr m q) h = (h.0, h.1, let l = h.2 in omega (arith, l))
has_more (Attribute n) i last (code.Chars q) h = absurd h
has_more (Attribute n) i last (code.Opening q) h = absurd h
has_more (Attribute n) i last code.Body h = absurd h
has_more (Attribute n) i last code.Closing h = absurd h
has_more Openings i last (code.Opening q) h = (h.0, let l = h.1 in omega (arith, l))
has_more Openings i last (code.Chars q) h = absurd h
has_more Openings i last (code.Attr m q) h = absurd h
has_more Openings i last code.Body h = absurd h
has_more Openings i last code.Closing h = absurd h

has_next : (f : Family) (i last : ℕ) → IsFrom (family_code f i) last (family_code f i) → IsFrom (family_code f i) (last + 1) (family_code f (last + 1))
has_next Texts i last h = let l = h.1 in (omega (arith, l), omega arith)
has_next (Attribute n) i last h = let l = h.2 in (refl, omega (arith, l), omega arith)
has_next Openings i last h = let l = h.1 in (omega (arith, l), omega arith)

module _ (g : Schema) (u : Lists) (states : List State) (s : State) (f : Family) (p : ℕ) (arcs : List Arc) (place : ℕ) (run : Arc) (end : length arcs ≡ place + 1) (is : slice_get arcs place ≡ Some run)
    (on : IsNext (code_of run.first) run.last (family_code f p)) (h : IsRowTo g u states s (family_code f p) arcs) (leads : LeadsTo g u states s (family_code f p) run.next.0) where
  abbrev longer : Arc
  longer = record { first = run.first; last = p; next = run.next }

  abbrev from : (i : ℕ) × (code_of run.first ≡ family_code f i) × (p ≡ run.last + 1)
  from = begins (code_of run.first) run.last f p on

  -- it has the codes of the run, and the further one
  longer_has : (c : Code) → Covers longer c → Covers run c ⊎ (family_code f p ≡ c)
  longer_has c k = go (splits f from.0 run.last c (subst (λ (l : ℕ). IsFrom (family_code f from.0) l c) from.2 (subst (λ (d : Code). IsFrom d p c) from.1 k)))
    where
      go : IsFrom (family_code f from.0) run.last c ⊎ (family_code f (run.last + 1) ≡ c) → Covers run c ⊎ (family_code f p ≡ c)
      go (inl m) = inl (subst (λ (d : Code). IsFrom d run.last c) (sym from.1) m)
      go (inr e) = inr (ap (family_code f) from.2 ∙ e)

  longer_keeps : (c : Code) → Covers run c → Covers longer c
  longer_keeps c k =
      subst (λ (d : Code). IsFrom d p c) (sym from.1)
      (subst (λ (l : ℕ). IsFrom (family_code f from.0) l c) (sym from.2) (has_more f from.0 run.last c (subst (λ (d : Code). IsFrom d run.last c) from.1 k)))

  longer_next : Covers longer (family_code f p)
  longer_next =
      subst (λ (d : Code). IsFrom d p (family_code f p)) (sym from.1)
      (subst (λ (l : ℕ). IsFrom (family_code f from.0) l (family_code f l)) (sym from.2)
      (has_next f from.0 run.last (subst (λ (d : Code). IsFrom d run.last d) from.1 (h.some place run is))))

  abbrev Stands : ℕ → Arc → Type 0
  Stands i a = ((i ≡ place) × (longer ≡ a)) ⊎ (slice_get arcs i ≡ Some a)

  own : (a : Arc) (c : Code) → longer ≡ a → Covers a c → Covers run c ⊎ (family_code f p ≡ c)
  own a c e k = longer_has c (subst (λ (y : Arc). Covers y c) (sym e) k)

  some : (i : ℕ) (a : Arc) → Stands i a → Covers a (code_of a.first)
  some i a (inl (w, e)) = subst (λ (y : Arc). Covers y (code_of y.first)) e (longer_keeps (code_of run.first) (h.some place run is))
  some i a (inr e) = h.some i a e

  right : (i : ℕ) (a : Arc) (c : Code) → Stands i a → Covers a c → LeadsTo g u states s c a.next.0
  right i a c (inl (w, e)) k = subst (λ (y : Arc). LeadsTo g u states s c y.next.0) e (go (own a c e k))
    where
      go : Covers run c ⊎ (family_code f p ≡ c) → LeadsTo g u states s c run.next.0
      go (inl m) = h.right place run c is m
      go (inr m) = subst (λ (d : Code). LeadsTo g u states s d run.next.0) m leads
  right i a c (inr e) k = h.right i a c e k

  before : (i : ℕ) (a : Arc) (c : Code) → Stands i a → Covers a c → IsLess c (family_code f (p + 1))
  before i a c (inl (w, e)) k = go (own a c e k)
    where
      go : Covers run c ⊎ (family_code f p ≡ c) → IsLess c (family_code f (p + 1))
      go (inl m) = less_next f p c (h.before place run c is m)
      go (inr m) = subst (λ (d : Code). IsLess d (family_code f (p + 1))) m (next_above f p)
  before i a c (inr e) k = less_next f p c (h.before i a c e k)

  ascending : (i j : ℕ) (a b : Arc) (c d : Code) → i < j → Stands i a → Stands j b → Covers a c → Covers b d → IsLess c d
  ascending i j a b c d l (inl (w, e)) (inl (v, q)) k m = absurd (omega (arith, l, w, v))
  ascending i j a b c d l (inl (w, e)) (inr q) k m = let n = slice_get_within arcs j b q in absurd (omega (arith, l, w, n, end))
  ascending i j a b c d l (inr e) (inl (v, q)) k m = go (own b d q m)
    where
      go : Covers run d ⊎ (family_code f p ≡ d) → IsLess c d
      go (inl n) = h.ascending i place a run c d (subst (λ (z : ℕ). i < z) v l) e is k n
      go (inr n) = subst (IsLess c) n (h.before i a c e k)
  ascending i j a b c d l (inr e) (inr q) k m = h.ascending i j a b c d l e q k m

  all : (c : Code) → Leads g u s c → IsLess c (family_code f p) ⊎ (family_code f p ≡ c) → (i : ℕ) × (a : Arc) × (slice_get (set arcs place longer) i ≡ Some a) × Covers a c
  all c l (inl k) = go (h.all c k l)
    where
      at_place : (i : ℕ) (a : Arc) → Covers a c → ((place ≡ i) × (run ≡ a)) ⊎ (slice_get (set arcs place longer) i ≡ Some a) →
          (j : ℕ) × (b : Arc) × (slice_get (set arcs place longer) j ≡ Some b) × Covers b c
      at_place i a m (inl (w, e)) = (place, longer, get_new arcs place longer run is, longer_keeps c (subst (λ (y : Arc). Covers y c) (sym e) m))
      at_place i a m (inr e) = (i, a, e, m)

      go : (i : ℕ) × (a : Arc) × (slice_get arcs i ≡ Some a) × Covers a c → (j : ℕ) × (b : Arc) × (slice_get (set arcs place longer) j ≡ Some b) × Covers b c
      go (i, a, e, m) = at_place i a m (get_still arcs place i run longer a is e)
  all c l (inr e) = (place, longer, get_new arcs place longer run is, subst (Covers longer) e longer_next)

  row_extends : IsRowTo g u states s (family_code f (p + 1)) (set arcs place longer)
  row_extends = record {
    some = λ i a e. some i a (get_changed arcs place i longer a e);
    right = λ i a c e. right i a c (get_changed arcs place i longer a e);
    before = λ i a c e. before i a c (get_changed arcs place i longer a e);
    ascending = λ i j a b c d l e q. ascending i j a b c d l (get_changed arcs place i longer a e) (get_changed arcs place j longer b q);
    all = λ c l leads. all c leads (less_split f p c l);
  }

-- a code that leads on is added, in a run of its own or in the last one
pub row_grows : (g : Schema) (u : Lists) (states : List State) (s : State) (f : Family) (p : ℕ) (arcs new : List Arc) (x : Arc) → code_of x.first ≡ family_code f p → x.last ≡ p →
    IsRowTo g u states s (family_code f p) arcs → LeadsTo g u states s (family_code f p) x.next.0 → IsAdded arcs x new → IsRowTo g u states s (family_code f (p + 1)) new
row_grows g u states s f p arcs new x first last h leads (inl e) =
    subst (λ (row : List Arc). IsRowTo g u states s (family_code f (p + 1)) row) (sym e.longer) (row_adds g u states s f p arcs x first last h leads)
row_grows g u states s f p arcs new x first last h leads (inr l) =
    subst (λ (row : List Arc). IsRowTo g u states s (family_code f (p + 1)) row) (sym (l.longer ∙ ap (λ k. set arcs l.place (record { first = l.run.first; last = k; next = l.run.next })) last))
    (row_extends g u states s f p arcs l.place l.run l.last l.is (subst (IsNext (code_of l.run.first) l.run.last) first l.on.code) h
    (subst (λ (z : StateId). LeadsTo g u states s (family_code f p) z.0) (sym l.on.state) leads))
