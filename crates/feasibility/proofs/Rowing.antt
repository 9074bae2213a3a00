-- A row grows by the code of one position.
use Rattle.std.proofs.Common.{◌≡◌, ℕ, zero, suc, ◌+◌, ◌<◌, ◌≤◌, ◌⊎◌, inl, inr, Some, List, [], ◌∷◌, ◌++◌, length, slice_get, refl, sym, ◌∙◌, ap, subst, arith}
use Rattle.std.proofs.lemmas.Option.{slice_get_within}
use Rattle.rng_model.specs.Codes as code
use Rattle.rng_model.specs.Codes.{Code}
use Rattle.rng_model.specs.Patterns.{Schema, not_allowed}
use Rattle.rng_model.specs.Universe.{Lists}
use Rattle.rng_model.specs.States.{State, step}
use Rattle.table_laws.specs.Reaching.{Leads}
use Rattle.skeleton.specs.Views.{code_of}
use Rattle.transitions.specs.declared.arc.Arc.{Arc}
use Rattle.transitions.specs.Arcs.{Covers, IsFrom, IsLess, IsRowTo, LeadsTo, state_in}
use Rattle.transitions.proofs.Lists.{slice_get-push}
use Rattle.feasibility.specs.declared.family.Family.{Family}
use Rattle.feasibility.specs.declared.family.Family.TheVariants.{Texts, Attribute, Openings}
use Rattle.feasibility.specs.Families.{family_code}

-- what stands in a list with one more
slice_get-old : {X : Type 0} (xs : List X) (x y : X) (k : ℕ) → slice_get xs k ≡ Some y → slice_get (xs ++ x ∷ []) k ≡ Some y
slice_get-old [] x y k h = absurd (cc)
slice_get-old (z ∷ xs) x y zero h = h
slice_get-old (z ∷ xs) x y (suc k) h = slice_get-old xs x y k h

same_place : (p q : ℕ) → p ≤ q → q ≤ p → p ≡ q
same_place p q l m = omega arith

-- a run of one position has its code alone
only_one : (f : Family) (p : ℕ) (c : Code) → IsFrom (family_code f p) p c → family_code f p ≡ c
only_one Texts p (code.Chars q) h = ap code.Chars (same_place p q h.0 h.1)
only_one Texts p (code.Opening q) h = absurd h
only_one Texts p (code.Attr m q) h = absurd h
only_one Texts p code.Body h = absurd h
only_one Texts p code.Closing h = absurd h
only_one (Attribute n) p (code.Attr m q) h = (let a : n ≡ m = h.0 in let b = same_place p q h.1 h.2 in (λ i. code.Attr (a i) (b i)))
only_one (Attribute n) p (code.Chars q) h = absurd h
only_one (Attribute n) p (code.Opening q) h = absurd h
only_one (Attribute n) p code.Body h = absurd h
only_one (Attribute n) p code.Closing h = absurd h
only_one Openings p (code.Opening q) h = ap code.Opening (same_place p q h.0 h.1)
only_one Openings p (code.Chars q) h = absurd h
only_one Openings p (code.Attr m q) h = absurd h
only_one Openings p code.Body h = absurd h
only_one Openings p code.Closing h = absurd h

itself : (f : Family) (p : ℕ) → IsFrom (family_code f p) p (family_code f p)
itself Texts p = (omega arith, omega arith)
itself (Attribute n) p = (refl, omega arith, omega arith)
itself Openings p = (omega arith, omega arith)

pub next_above : (f : Family) (p : ℕ) → IsLess (family_code f p) (family_code f (p + 1))
next_above Texts p = omega arith
next_above (Attribute n) p = inr (refl, omega arith)
next_above Openings p = omega arith

split_place : (q p : ℕ) → q < p + 1 → (q < p) ⊎ (p ≡ q)
split_place zero zero l = inr refl
split_place zero (suc p) l = inl (omega arith)
split_place (suc q) zero l = absurd (omega arith)
split_place (suc q) (suc p) l = go (split_place q p (omega arith))
  where
    go : (q < p) ⊎ (p ≡ q) → (suc q < suc p) ⊎ (suc p ≡ suc q)
    go (inl h) = inl (omega arith)
    go (inr e) = inr (ap suc e)

-- before the next position stand those before this one, and its code
pub less_split : (f : Family) (p : ℕ) (c : Code) → IsLess c (family_code f (p + 1)) → IsLess c (family_code f p) ⊎ (family_code f p ≡ c)
less_split Texts p (code.Chars q) h = go (split_place q p h)
  where
    go : (q < p) ⊎ (p ≡ q) → (q < p) ⊎ (code.Chars p ≡ code.Chars q)
    go (inl l) = inl l
    go (inr e) = inr (ap code.Chars e)
less_split Texts p (code.Opening q) h = absurd h
less_split Texts p (code.Attr m q) h = absurd h
less_split Texts p code.Body h = absurd h
less_split Texts p code.Closing h = absurd h
less_split (Attribute n) p (code.Attr m q) (inl l) = inl (inl l)
less_split (Attribute n) p (code.Attr m q) (inr h) = go h.0 (split_place q p h.1)
  where
    go : m ≡ n → (q < p) ⊎ (p ≡ q) → ((m < n) ⊎ ((m ≡ n) × (q < p))) ⊎ (code.Attr n p ≡ code.Attr m q)
    go e (inl l) = inl (inr (e, l))
    go e (inr k) = inr (λ i. code.Attr (sym e i) (k i))
less_split (Attribute n) p (code.Chars q) h = inl tt
less_split (Attribute n) p (code.Opening q) h = absurd h
less_split (Attribute n) p code.Body h = absurd h
less_split (Attribute n) p code.Closing h = absurd h
less_split Openings p (code.Opening q) h = go (split_place q p h)
  where
    go : (q < p) ⊎ (p ≡ q) → (q < p) ⊎ (code.Opening p ≡ code.Opening q)
    go (inl l) = inl l
    go (inr e) = inr (ap code.Opening e)
less_split Openings p (code.Chars q) h = inl tt
less_split Openings p (code.Attr m q) h = inl tt
less_split Openings p code.Body h = absurd h
less_split Openings p code.Closing h = absurd h

pub less_next : (f : Family) (p : ℕ) (c : Code) → IsLess c (family_code f p) → IsLess c (family_code f (p + 1))
less_next Texts p (code.Chars q) h = omega arith
less_next Texts p (code.Opening q) h = absurd h
less_next Texts p (code.Attr m q) h = absurd h
less_next Texts p code.Body h = absurd h
less_next Texts p code.Closing h = absurd h
less_next (Attribute n) p (code.Attr m q) (inl l) = inl l
less_next (Attribute n) p (code.Attr m q) (inr h) = inr (h.0, (let l = h.1 in omega arith))
less_next (Attribute n) p (code.Chars q) h = tt
less_next (Attribute n) p (code.Opening q) h = absurd h
less_next (Attribute n) p code.Body h = absurd h
less_next (Attribute n) p code.Closing h = absurd h
less_next Openings p (code.Opening q) h = omega arith
less_next Openings p (code.Chars q) h = tt
less_next Openings p (code.Attr m q) h = tt
less_next Openings p code.Body h = absurd h
less_next Openings p code.Closing h = absurd h

module _ (g : Schema) (u : Lists) (states : List State) (s : State) where
  -- a code that leads nowhere is passed
  pub row_skips : (f : Family) (p : ℕ) (arcs : List Arc) → IsRowTo g u states s (family_code f p) arcs → (step g u s (family_code f p)).pattern ≡ not_allowed →
      IsRowTo g u states s (family_code f (p + 1)) arcs
  row_skips f p arcs h dead = record {
    some = h.some;
    right = h.right;
    before = λ i a c e k. less_next f p c (h.before i a c e k);
    ascending = h.ascending;
    all = λ c l leads. go c leads (less_split f p c l);
  }
    where
      go : (c : Code) → Leads g u s c → IsLess c (family_code f p) ⊎ (family_code f p ≡ c) → (i : ℕ) × (a : Arc) × (slice_get arcs i ≡ Some a) × Covers a c
      go c leads (inl l) = h.all c l leads
      go c leads (inr e) = absurd (leads.allowed (subst (λ d. (step g u s d).pattern ≡ not_allowed) e dead))

  module _ (f : Family) (p : ℕ) (arcs : List Arc) (x : Arc) (first : code_of x.first ≡ family_code f p) (last : x.last ≡ p) (h : IsRowTo g u states s (family_code f p) arcs)
      (leads : LeadsTo g u states s (family_code f p) x.next.0) where
    own : (c : Code) → Covers x c → family_code f p ≡ c
    own c k = only_one f p c (subst (λ l. IsFrom (family_code f p) l c) last (subst (λ d. IsFrom d x.last c) first k))

    some : (a : Arc) {i : ℕ} → (slice_get arcs i ≡ Some a) ⊎ ((i ≡ length arcs) × (x ≡ a)) → Covers a (code_of a.first)
    some a {i} (inl e) = h.some i a e
    some a (inr e) =
        subst (λ (y : Arc). Covers y (code_of y.first)) e.1
        (subst (λ d. IsFrom d x.last d) (sym first) (subst (λ l. IsFrom (family_code f p) l (family_code f p)) (sym last) (itself f p)))

    right : (a : Arc) (c : Code) {i : ℕ} → (slice_get arcs i ≡ Some a) ⊎ ((i ≡ length arcs) × (x ≡ a)) → Covers a c → LeadsTo g u states s c a.next.0
    right a c {i} (inl e) k = h.right i a c e k
    right a c (inr e) k =
        let m = own c (subst (λ (y : Arc). Covers y c) (sym e.1) k) in
        subst (λ (y : Arc). LeadsTo g u states s c y.next.0) e.1 (subst (λ d. LeadsTo g u states s d x.next.0) m leads)

    before : (a : Arc) (c : Code) {i : ℕ} → (slice_get arcs i ≡ Some a) ⊎ ((i ≡ length arcs) × (x ≡ a)) → Covers a c → IsLess c (family_code f (p + 1))
    before a c {i} (inl e) k = less_next f p c (h.before i a c e k)
    before a c (inr e) k = subst (λ d. IsLess d (family_code f (p + 1))) (own c (subst (λ (y : Arc). Covers y c) (sym e.1) k)) (next_above f p)

    ascending : (i j : ℕ) (a b : Arc) (c d : Code) → i < j → (slice_get arcs i ≡ Some a) ⊎ ((i ≡ length arcs) × (x ≡ a)) → (slice_get arcs j ≡ Some b) ⊎ ((j ≡ length arcs) × (x ≡ b)) →
        Covers a c → Covers b d → IsLess c d
    ascending i j a b c d l (inl e) (inl q) k m = h.ascending i j a b c d l e q k m
    ascending i j a b c d l (inl e) (inr q) k m = subst (IsLess c) (own d (subst (λ (y : Arc). Covers y d) (sym q.1) m)) (h.before i a c e k)
    ascending i j a b c d l (inr e) (inl q) k m = let w = slice_get_within arcs j b q in let n = e.0 in absurd (omega (arith, w, n, l))
    ascending i j a b c d l (inr e) (inr q) k m = let n = e.0 in let o = q.0 in absurd (omega (arith, n, o, l))

    at_end : slice_get (arcs ++ x ∷ []) (length arcs) ≡ Some x
    at_end = last_of arcs
      where
        last_of : (ys : List Arc) → slice_get (ys ++ x ∷ []) (length ys) ≡ Some x
        last_of [] = refl
        last_of (y ∷ ys) = last_of ys

    all : (c : Code) → Leads g u s c → IsLess c (family_code f p) ⊎ (family_code f p ≡ c) → (i : ℕ) × (a : Arc) × (slice_get (arcs ++ x ∷ []) i ≡ Some a) × Covers a c
    all c l (inl k) = let t = h.all c k l in (t.0, t.1, slice_get-old arcs x t.1 t.0 t.2, t.3)
    all c l (inr e) = (length arcs, x, at_end, subst (Covers x) e (subst (λ d. IsFrom d x.last (family_code f p)) (sym first) (subst (λ q. IsFrom (family_code f p) q (family_code f p)) (sym last) (itself f p))))

    -- a code that leads on is added
    pub row_adds : IsRowTo g u states s (family_code f (p + 1)) (arcs ++ x ∷ [])
    row_adds = record {
      some = λ i a e. some a (slice_get-push arcs x a i e);
      right = λ i a c e. right a c (slice_get-push arcs x a i e);
      before = λ i a c e. before a c (slice_get-push arcs x a i e);
      ascending = λ i j a b c d l e q. ascending i j a b c d l (slice_get-push arcs x a i e) (slice_get-push arcs x b j q);
      all = λ c l leads. all c leads (less_split f p c l);
    }

-- a row stays right as states are found
pub row_stays : (g : Schema) (u : Lists) (states more : List State) (s : State) (b : Code) (arcs : List Arc) → length states ≤ length more →
    ((id : ℕ) → id < length states → state_in more id ≡ state_in states id) → IsRowTo g u states s b arcs → IsRowTo g u more s b arcs
row_stays g u states more s b arcs l same h = record {
  some = h.some;
  right = λ i a c e k. let r = h.right i a c e k in let w = r.held in record { held = omega (arith, l, w); in_range = r.in_range; state = same a.next.0 w ∙ r.state };
  before = h.before;
  ascending = h.ascending;
  all = h.all;
}
