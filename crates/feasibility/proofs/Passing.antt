-- A row from one family of codes to the next, and a whole row.
use Rattle.std.proofs.Common.{◌≡◌, ◌≢◌, ℕ, zero, suc, ◌+◌, ◌<◌, ◌≤◌, ◌⊎◌, inl, inr, Bool, true, false, List, [], length, refl, ◌∙◌, ap, subst, arith}
use Rattle.std.specs.Prelude.{nat_le, not, slice_index_or}
use Rattle.rng_model.specs.Codes as code
use Rattle.rng_model.specs.Codes.{Code}
use Rattle.rng_model.specs.Texts.{Text, is_white}
use Rattle.rng_model.specs.Patterns.{Schema, not_allowed}
use Rattle.rng_model.specs.Universe.{Lists}
use Rattle.rng_model.specs.Derivatives.{opening, text_step, where_true}
use Rattle.rng_model.specs.Names.{Name}
use Rattle.rng_model.specs.States.{State, Place, IsAllowed, no_name, step}
use Rattle.table_laws.specs.Reaching.{Leads, weight}
use Rattle.table_laws.specs.Remainders.{takes_name}
use Rattle.table_laws.proofs.AlikeLaw.{refused_is}
use Rattle.table_laws.proofs.OpeningRows.{name_untaken}
use Rattle.transitions.specs.declared.arc.Arc.{Arc}
use Rattle.transitions.specs.Arcs.{IsLess, IsRow, IsRowTo}

where_nothing : (b : Bool) → where_true b not_allowed ≡ not_allowed
where_nothing true = refl
where_nothing false = refl

module _ (g : Schema) (u : Lists) (states : List State) (s : State) where
  -- between the bounds no code leads on
  pub row_moves : (b c : Code) (arcs : List Arc) → IsRowTo g u states s b arcs → ((d : Code) → IsLess d b → IsLess d c) → ((d : Code) → Leads g u s d → IsLess d c → IsLess d b) →
      IsRowTo g u states s c arcs
  row_moves b c arcs h up down = record {
    some = h.some;
    right = h.right;
    before = λ i a d e k. up d (h.before i a d e k);
    ascending = h.ascending;
    all = λ d l leads. h.all d (down d leads l) leads;
  }

  -- no code that leads on is left
  pub row_ends : (b : Code) (arcs : List Arc) → IsRowTo g u states s b arcs → ((d : Code) → weight d ≡ 1 → Leads g u s d → IsLess d b) → IsRow g u states s arcs
  row_ends b arcs h whole = record { some = h.some; right = h.right; ascending = h.ascending; all = λ d w leads. h.all d (whole d w leads) leads }

  -- none leads on before
  pub row_starts : (b : Code) → ((d : Code) → IsLess d b → Leads g u s d → ⊥) → IsRowTo g u states s b []
  row_starts b nothing = record {
    some = λ i a e. absurd (cc);
    right = λ i a d e k. absurd (cc);
    before = λ i a d e k. absurd (cc);
    ascending = λ i j a b c d l e q k m. absurd (cc);
    all = λ d l leads. absurd (nothing d l leads);
  }

  dead : (d : Code) → (IsAllowed s.place d → ⊥) → Leads g u s d → ⊥
  dead d n leads = leads.allowed (refused_is g u s d n)

  -- a name that isn't taken, and texts that aren't
  pub name_dead : (n p : ℕ) → takes_name (slice_index_or u.attributes n no_name) s.pattern ≡ false → (step g u s (code.Attr n p)).pattern ≡ not_allowed
  name_dead n p h = go s.place
    where
      go : (pl : Place) → (step g u (record { place = pl; pattern = s.pattern }) (code.Attr n p)).pattern ≡ not_allowed
      go (Place.Tag k) = ap (where_true (nat_le k n)) (name_untaken (slice_index_or u.attributes n no_name) (slice_index_or u.atoms p []) s.pattern h) ∙ where_nothing (nat_le k n)
      go Place.Fresh = refl
      go Place.AfterText = refl
      go Place.AfterElement = refl

  pub text_dead : (p : ℕ) → ((t : Text) → text_step t s.pattern ≡ not_allowed) → (step g u s (code.Chars p)).pattern ≡ not_allowed
  text_dead p h = go s.place
    where
      t : Text
      t = slice_index_or u.atoms p []

      go : (pl : Place) → (step g u (record { place = pl; pattern = s.pattern }) (code.Chars p)).pattern ≡ not_allowed
      go (Place.Tag k) = refl
      go Place.Fresh = ap (where_true (not (is_white t))) (h t) ∙ where_nothing (not (is_white t))
      go Place.AfterText = refl
      go Place.AfterElement = ap (where_true (not (is_white t))) (h t) ∙ where_nothing (not (is_white t))

  -- the names before a tag's have had their turn
  pub tag_starts : (k : ℕ) → s.place ≡ Place.Tag k → IsRowTo g u states s (code.Attr k 0) []
  tag_starts k e = row_starts (code.Attr k 0) (λ d l leads. dead d (λ a. go d l (subst (λ p. IsAllowed p d) e a)) leads)
    where
      go : (d : Code) → IsLess d (code.Attr k 0) → IsAllowed (Place.Tag k) d → ⊥
      go (code.Chars p) l a = a
      go (code.Attr m p) (inl l) a = omega (arith, l, a)
      go (code.Attr m p) (inr l) a = let n = l.1 in omega (arith, n)
      go (code.Opening p) l a = a
      go code.Body l a = l
      go code.Closing l a = l

  -- texts come first
  pub texts_start : IsRowTo g u states s (code.Chars 0) []
  texts_start = row_starts (code.Chars 0) (λ d l leads. go d l)
    where
      go : (d : Code) → IsLess d (code.Chars 0) → ⊥
      go (code.Chars p) l = omega (arith, l)
      go (code.Attr m p) l = l
      go (code.Opening p) l = l
      go code.Body l = l
      go code.Closing l = l

  -- after a text come openings
  pub openings_start : s.place ≡ Place.AfterText → IsRowTo g u states s (code.Opening 0) []
  openings_start e = row_starts (code.Opening 0) (λ d l leads. dead d (λ a. go d l (subst (λ p. IsAllowed p d) e a)) leads)
    where
      go : (d : Code) → IsLess d (code.Opening 0) → IsAllowed Place.AfterText d → ⊥
      go (code.Chars p) l a = a
      go (code.Attr m p) l a = a
      go (code.Opening p) l a = omega (arith, l)
      go code.Body l a = l
      go code.Closing l a = l

  -- after the texts of a name comes the next name
  name_up : (n p : ℕ) (d : Code) → IsLess d (code.Attr n p) → IsLess d (code.Attr (n + 1) 0)
  name_up n p (code.Chars q) l = tt
  name_up n p (code.Attr m q) (inl l) = inl (omega arith)
  name_up n p (code.Attr m q) (inr l) = inl (let k = l.0 in omega (arith, k))
  name_up n p (code.Opening q) l = absurd l
  name_up n p code.Body l = absurd l
  name_up n p code.Closing l = absurd l

  name_cases : (m n : ℕ) → m < n + 1 → (m < n) ⊎ (m ≡ n)
  name_cases zero zero l = inr refl
  name_cases zero (suc n) l = inl (omega arith)
  name_cases (suc m) zero l = absurd (omega arith)
  name_cases (suc m) (suc n) l = go (name_cases m n (omega arith))
    where
      go : (m < n) ⊎ (m ≡ n) → (suc m < suc n) ⊎ (suc m ≡ suc n)
      go (inl h) = inl (omega arith)
      go (inr e) = inr (ap suc e)

  module _ (n p : ℕ) (own : (q : ℕ) → q < length u.atoms → (step g u s (code.Attr n q)).pattern ≢ not_allowed → q < p) where
    name_down : (d : Code) → Leads g u s d → IsLess d (code.Attr (n + 1) 0) → IsLess d (code.Attr n p)
    name_down (code.Chars q) leads l = tt
    name_down (code.Attr m q) leads (inl l) = go (name_cases m n l)
      where
        go : (m < n) ⊎ (m ≡ n) → (m < n) ⊎ ((m ≡ n) × (q < p))
        go (inl k) = inl k
        go (inr e) = inr (e, own q leads.in_range.1 (subst (λ z. (step g u s (code.Attr z q)).pattern ≢ not_allowed) e leads.allowed))
    name_down (code.Attr m q) leads (inr l) = absurd (let k = l.1 in omega (arith, k))
    name_down (code.Opening q) leads l = absurd l
    name_down code.Body leads l = absurd l
    name_down code.Closing leads l = absurd l

    name_passed : (arcs : List Arc) → IsRowTo g u states s (code.Attr n p) arcs → IsRowTo g u states s (code.Attr (n + 1) 0) arcs
    name_passed arcs h = row_moves (code.Attr n p) (code.Attr (n + 1) 0) arcs h (name_up n p) name_down

  pub name_ends : (n p : ℕ) (arcs : List Arc) → p ≡ length u.atoms → IsRowTo g u states s (code.Attr n p) arcs → IsRowTo g u states s (code.Attr (n + 1) 0) arcs
  name_ends n p arcs e h = name_passed n p (λ q l k. omega (arith, l, e)) arcs h

  pub name_skipped : (n : ℕ) (arcs : List Arc) → takes_name (slice_index_or u.attributes n no_name) s.pattern ≡ false → IsRowTo g u states s (code.Attr n 0) arcs →
      IsRowTo g u states s (code.Attr (n + 1) 0) arcs
  name_skipped n arcs e h = name_passed n 0 (λ q l k. absurd (k (name_dead n q e))) arcs h

  -- after the texts come the openings
  text_up : (p : ℕ) (d : Code) → IsLess d (code.Chars p) → IsLess d (code.Opening 0)
  text_up p (code.Chars q) l = tt
  text_up p (code.Attr m q) l = absurd l
  text_up p (code.Opening q) l = absurd l
  text_up p code.Body l = absurd l
  text_up p code.Closing l = absurd l

  no_attribute : (pl : Place) (m q : ℕ) → IsAllowed pl (code.Chars 0) → IsAllowed pl (code.Attr m q) → ⊥
  no_attribute (Place.Tag k) m q a b = a
  no_attribute Place.Fresh m q a b = b
  no_attribute Place.AfterText m q a b = a
  no_attribute Place.AfterElement m q a b = b

  module _ (p : ℕ) (a : IsAllowed s.place (code.Chars 0)) (own : (q : ℕ) → q < length u.atoms → (step g u s (code.Chars q)).pattern ≢ not_allowed → q < p) where
    text_down : (d : Code) → Leads g u s d → IsLess d (code.Opening 0) → IsLess d (code.Chars p)
    text_down (code.Chars q) leads l = own q leads.in_range leads.allowed
    text_down (code.Attr m q) leads l = absurd (dead (code.Attr m q) (no_attribute s.place m q a) leads)
    text_down (code.Opening q) leads l = absurd (omega (arith, l))
    text_down code.Body leads l = absurd l
    text_down code.Closing leads l = absurd l

    text_passed : (arcs : List Arc) → IsRowTo g u states s (code.Chars p) arcs → IsRowTo g u states s (code.Opening 0) arcs
    text_passed arcs h = row_moves (code.Chars p) (code.Opening 0) arcs h (text_up p) text_down

  pub texts_end : (p : ℕ) (arcs : List Arc) → IsAllowed s.place (code.Chars 0) → p ≡ length u.atoms → IsRowTo g u states s (code.Chars p) arcs → IsRowTo g u states s (code.Opening 0) arcs
  texts_end p arcs a e h = text_passed p a (λ q l k. omega (arith, l, e)) arcs h

  pub texts_skipped : IsAllowed s.place (code.Chars 0) → ((t : Text) → text_step t s.pattern ≡ not_allowed) → IsRowTo g u states s (code.Opening 0) []
  texts_skipped a h = text_passed 0 a (λ q l k. absurd (k (text_dead q h))) [] texts_start

  -- no opening leads on
  pub opening_dead : (p : ℕ) → ((name : Name) → opening g name s.pattern ≡ not_allowed) → (step g u s (code.Opening p)).pattern ≡ not_allowed
  opening_dead p h = go s.place
    where
      go : (pl : Place) → (step g u (record { place = pl; pattern = s.pattern }) (code.Opening p)).pattern ≡ not_allowed
      go (Place.Tag k) = refl
      go Place.Fresh = h (slice_index_or u.elements p no_name)
      go Place.AfterText = h (slice_index_or u.elements p no_name)
      go Place.AfterElement = h (slice_index_or u.elements p no_name)

  pub openings_skipped : (arcs : List Arc) → ((name : Name) → opening g name s.pattern ≡ not_allowed) → IsRowTo g u states s (code.Opening 0) arcs → IsRow g u states s arcs
  openings_skipped arcs h r = row_ends (code.Opening 0) arcs r go
    where
      go : (d : Code) → weight d ≡ 1 → Leads g u s d → IsLess d (code.Opening 0)
      go (code.Chars q) w leads = tt
      go (code.Attr m q) w leads = tt
      go (code.Opening q) w leads = absurd (leads.allowed (opening_dead q h))
      go code.Body w leads = absurd (omega (arith, w))
      go code.Closing w leads = absurd (omega (arith, w))

  -- nothing comes after the openings
  pub openings_end : (p : ℕ) (arcs : List Arc) → p ≡ length u.elements → IsRowTo g u states s (code.Opening p) arcs → IsRow g u states s arcs
  openings_end p arcs e h = row_ends (code.Opening p) arcs h go
    where
      go : (d : Code) → weight d ≡ 1 → Leads g u s d → IsLess d (code.Opening p)
      go (code.Chars q) w leads = tt
      go (code.Attr m q) w leads = tt
      go (code.Opening q) w leads = (let l = leads.in_range in omega (arith, l, e))
      go code.Body w leads = absurd (omega (arith, w))
      go code.Closing w leads = absurd (omega (arith, w))

  -- nor after the names of a tag
  pub names_end : (k n : ℕ) (arcs : List Arc) → s.place ≡ Place.Tag k → length u.attributes ≤ n → IsRowTo g u states s (code.Attr n 0) arcs → IsRow g u states s arcs
  names_end k n arcs e m h = row_ends (code.Attr n 0) arcs h go
    where
      in_tag : (d : Code) → Leads g u s d → (IsAllowed (Place.Tag k) d → ⊥) → ⊥
      in_tag d leads n = dead d (λ a. n (subst (λ p. IsAllowed p d) e a)) leads

      go : (d : Code) → weight d ≡ 1 → Leads g u s d → IsLess d (code.Attr n 0)
      go (code.Chars q) w leads = tt
      go (code.Attr j q) w leads = inl (let l = leads.in_range.0 in omega (arith, l, m))
      go (code.Opening q) w leads = absurd (in_tag (code.Opening q) leads (λ a. a))
      go code.Body w leads = absurd (omega (arith, w))
      go code.Closing w leads = absurd (omega (arith, w))
