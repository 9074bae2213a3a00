-- Rows are short: the codes of their arcs have places among all events.
use Rattle.std.proofs.Common.{◌≡◌, ℕ, zero, suc, ◌+◌, ◌-◌, ◌*◌, ◌<◌, ◌≤◌, ◌⊎◌, inl, inr, Bool, true, false, not, cond, List, [], Some, length, slice_get, get_or, take, refl, ap, arith}
use Rattle.std.specs.Prelude.{⊤}
use Rattle.std.specs.List.{count_by}
use Rattle.std.proofs.Math.Nat.{mul-le-mul_left}
use Rattle.std.proofs.lemmas.List.{take-take}
use Rattle.std.proofs.lemmas.List.Sums.{count_by_more_yes, sum_by-take-le}
use Rattle.std.proofs.lemmas.Option.{slice_get_within}
use Rattle.rng_model.specs.Texts.{Text, is_white}
use Rattle.rng_model.specs.Codes.{Code, Opening, Attr, Body, Chars, Closing, IsInRange}
use Rattle.rng_model.specs.Universe.{Lists, event_count}
use Rattle.rng_model.specs.Patterns.{Schema}
use Rattle.rng_model.specs.States.{State}
use Rattle.table_laws.specs.Reaching.{Leads, weight}
use Rattle.table_laws.proofs.AlikeLaw.{white_is}
use Rattle.skeleton.specs.Views.{code_of}
use Rattle.transitions.specs.declared.arc.Arc.{Arc}
use Rattle.transitions.specs.Arcs.{IsLess, IsRow}
use Rattle.transitions.proofs.Lists.{get_of}
use Rattle.transitions.proofs.Finishing.{heavy}
use Rattle.feasibility.specs.declared.explorer.Explorer.{Explorer}
use Rattle.feasibility.specs.Exploring.{IsExploring, at, found, names, schema}
use Rattle.feasibility.proofs.Marking.{leads_alive}

-- values that are below a bound and ascend are at most so many
module _ {X : Type 0} (f : X → ℕ) (n : ℕ) (xs : List X) (below : (i : ℕ) (x : X) → slice_get xs i ≡ Some x → f x < n)
    (up : (i j : ℕ) (x y : X) → i < j → slice_get xs i ≡ Some x → slice_get xs j ≡ Some y → f x < f y) where
  grown : (i : ℕ) (x : X) → slice_get xs i ≡ Some x → i ≤ f x
  grown zero x h = omega arith
  grown (suc i) x h =
      let w = slice_get_within xs (suc i) x h in
      let y = get_of xs i (omega (arith, w)) in
      let a = grown i y.0 y.1 in
      let b = up i (suc i) y.0 x (omega arith) y.1 h in
      omega (arith, a, b)

  pub few_ascend : length xs ≤ n
  few_ascend = go (length xs) refl
    where
      go : (m : ℕ) → length xs ≡ m → m ≤ n
      go zero e = omega arith
      go (suc m) e =
          let y = get_of xs m (omega (arith, e)) in
          let a = grown m y.0 y.1 in
          let b = below m y.0 y.1 in
          omega (arith, a, b)

count_more : (p : Text → Bool) (ts : List Text) (s : ℕ) → s < length ts → p (get_or ts s []) ≡ true → count_by p (take s ts) < count_by p ts
count_more p ts s l h = let e = count_by_more_yes p ts s [] l h in let m = sum_by-take-le (λ t. cond (p t) 1 0) ts (s + 1) in omega (arith, e, m)

count_grows : (p : Text → Bool) (ts : List Text) (s t : ℕ) → s < t → s < length ts → p (get_or ts s []) ≡ true → count_by p (take s ts) < count_by p (take t ts)
count_grows p ts s t l m h =
    let e = count_by_more_yes p ts s [] m h in
    let f = ap (λ (xs : List Text). count_by p xs) (take-take (s + 1) t ts (omega (arith, l))) in
    let k = sum_by-take-le (λ t. cond (p t) 1 0) (take t ts) (s + 1) in
    omega (arith, e, f, k)

abbrev pub is_inked : Text → Bool
is_inked t = not (is_white t)

module _ (u : Lists) where
  -- texts between tags aren't white space alone
  abbrev pub IsInked : Code → Type 0
  IsInked (Chars s) = is_white (get_or u.atoms s []) ≡ false
  IsInked _ = ⊤

  -- the place of a code with a node among all events
  abbrev pub place : Code → ℕ
  place (Chars s) = count_by is_inked (take s u.atoms)
  place (Attr j s) = count_by is_inked u.atoms + length u.atoms * j + s
  place (Opening i) = count_by is_inked u.atoms + length u.atoms * length u.attributes + i
  place _ = 0

  names_below : (j s : ℕ) → j < length u.attributes → s < length u.atoms → length u.atoms * j + s < length u.atoms * length u.attributes
  names_below j s l m =
      let k : length u.atoms * (j + 1) ≤ length u.atoms * length u.attributes = mul-le-mul_left (length u.atoms) (omega (arith, l)) in
      omega (arith, k, m)

  names_less : (n m p q : ℕ) → p < length u.atoms → (n < m) ⊎ ((n ≡ m) × (p < q)) → length u.atoms * n + p < length u.atoms * m + q
  names_less n m p q h (inl l) = let k : length u.atoms * (n + 1) ≤ length u.atoms * m = mul-le-mul_left (length u.atoms) (omega (arith, l)) in omega (arith, k, h)
  names_less n m p q h (inr (e, l)) = let k = ap (λ i. length u.atoms * i) e in omega (arith, k, l)

  pub place_below : (c : Code) → weight c ≡ 1 → IsInRange u c → IsInked c → place c + 2 < event_count u
  place_below (Chars s) w r i = let k = count_more is_inked u.atoms s r (ap not i) in omega (arith, k)
  place_below (Attr j s) w r i = let k = names_below j s r.0 r.1 in omega (arith, k)
  place_below (Opening j) w r i = omega (arith, r)
  place_below Body w r i = absurd (cc)
  place_below Closing w r i = absurd (cc)

  pub place_less : (c d : Code) → IsInRange u c → IsInRange u d → IsInked c → IsLess c d → place c < place d
  place_less (Chars p) (Chars q) r s i l = count_grows is_inked u.atoms p q l r (ap not i)
  place_less (Chars p) (Attr m q) r s i l = let k = count_more is_inked u.atoms p r (ap not i) in omega (arith, k)
  place_less (Chars p) (Opening q) r s i l = let k = count_more is_inked u.atoms p r (ap not i) in omega (arith, k)
  place_less (Attr n p) (Attr m q) r s i l = let k = names_less n m p q r.1 l in omega (arith, k)
  place_less (Attr n p) (Opening q) r s i l = let k = names_below n p r.0 r.1 in omega (arith, k)
  place_less (Opening p) (Opening q) r s i l = omega (arith, l)
  place_less c d r s i l = absurd l

-- white space alone leads nowhere
inked : (g : Schema) (u : Lists) (s : State) (c : Code) → Leads g u s c → IsInked u c
inked g u s (Chars p) l = go (is_white (get_or u.atoms p [])) refl
  where
    go : (b : Bool) → is_white (get_or u.atoms p []) ≡ b → is_white (get_or u.atoms p []) ≡ false
    go false e = e
    go true e = absurd (l.allowed (white_is g u s p e))
inked g u s (Attr j p) l = tt
inked g u s (Opening i) l = tt
inked g u s Body l = tt
inked g u s Closing l = tt

module _ (e : Explorer) (x : IsExploring e) (id : ℕ) (row : List Arc) (r : IsRow (schema e) (names e) (found e) (at e id) row) where
  first_leads : (i : ℕ) (a : Arc) → slice_get row i ≡ Some a → Leads (schema e) (names e) (at e id) (code_of a.first)
  first_leads i a h = leads_alive e x id a.next.0 (code_of a.first) (r.right i a (code_of a.first) h (r.some i a h))

  first_below : (i : ℕ) (a : Arc) → slice_get row i ≡ Some a → place (names e) (code_of a.first) < event_count (names e) - 2
  first_below i a h =
      let c = code_of a.first in
      let l = first_leads i a h in
      let k = place_below (names e) c (heavy c a.last c (r.some i a h)) l.in_range (inked (schema e) (names e) (at e id) c l) in
      omega (arith, k)

  first_less : (i j : ℕ) (a b : Arc) → i < j → slice_get row i ≡ Some a → slice_get row j ≡ Some b → place (names e) (code_of a.first) < place (names e) (code_of b.first)
  first_less i j a b l h k =
      let c = code_of a.first in
      let d = code_of b.first in
      let m = first_leads i a h in
      place_less (names e) c d m.in_range (first_leads j b k).in_range (inked (schema e) (names e) (at e id) c m)
      (r.ascending i j a b c d l h k (r.some i a h) (r.some j b k))

  -- a row has fewer arcs than there are events
  pub row_short : length row + 2 ≤ event_count (names e)
  row_short =
      let k = few_ascend (λ (a : Arc). place (names e) (code_of a.first)) (event_count (names e) - 2) row first_below first_less in
      omega (arith, k)
