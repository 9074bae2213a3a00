-- A list of marks in its place among the others.
use Rattle.std.proofs.Common.{◌≡◌, ℕ, zero, suc, ◌+◌, ◌<◌, ◌↔◌, Bool, IsTrue, Some, List, [], ◌∷◌, ◌++◌, length, length-append, set, slice_get, refl, sym, ◌∙◌, ap, subst, arith}
use Rattle.transitions.specs.Automata.{Automaton}
use Rattle.transitions.specs.Bits.{list_of}
use Rattle.transitions.specs.Marked.{AreMarks, AreRight, Finishes}
use Rattle.transitions.proofs.Finishing.{marks_push}
use Rattle.transitions.proofs.Lists.{get_here, length-set_same}

-- the list that stands at a place
pub list_is : (marks : List (List Bool)) (i : ℕ) (list : List Bool) → slice_get marks i ≡ Some list → list_of marks i ≡ list
list_is [] i list h = absurd (cc)
list_is (x ∷ marks) zero list h = cc
list_is (x ∷ marks) (suc i) list h = list_is marks i list h

pub list_here : (marks : List (List Bool)) (i : ℕ) → i < length marks → slice_get marks i ≡ Some (list_of marks i)
list_here marks i l = get_here marks i [] l

pub list_right : (e : Automaton) (marks : List (List Bool)) (i : ℕ) → AreRight e marks → i < length marks → AreMarks e i (list_of marks i)
list_right e marks i h l = h.right i (list_of marks i) (list_here marks i l)

list_written : (marks : List (List Bool)) (i : ℕ) (x : List Bool) → i < length marks → list_of (set marks i x) i ≡ x
list_written [] i x l = absurd (omega (arith, l))
list_written (y ∷ marks) zero x l = refl
list_written (y ∷ marks) (suc i) x l = list_written marks i x (omega (arith, l))

pub written_back : (marks : List (List Bool)) (i : ℕ) → marks ≡ set marks i (list_of marks i)
written_back [] i = refl
written_back (x ∷ marks) zero = refl
written_back (x ∷ marks) (suc i) = ap (λ (ms : List (List Bool)). x ∷ ms) (written_back marks i)

written_twice : (marks : List (List Bool)) (i : ℕ) (x y : List Bool) → set (set marks i x) i y ≡ set marks i y
written_twice [] i x y = refl
written_twice (z ∷ marks) zero x y = refl
written_twice (z ∷ marks) (suc i) x y = ap (λ (ms : List (List Bool)). z ∷ ms) (written_twice marks i x y)

-- a mark more
module _ (rest : ℕ) (marks new : List (List Bool)) (mark : Bool) (l : rest < length marks) (w : new ≡ set marks rest (list_of marks rest ++ mark ∷ [])) where
  list_pushed : list_of new rest ≡ list_of marks rest ++ mark ∷ []
  list_pushed = ap (λ (ms : List (List Bool)). list_of ms rest) w ∙ list_written marks rest (list_of marks rest ++ mark ∷ []) l

  pub right_pushed : (e : Automaton) → AreMarks e rest (list_of marks rest) → length (list_of marks rest) < length e.states → IsTrue mark ↔ Finishes e rest (length (list_of marks rest)) →
      AreMarks e rest (list_of new rest)
  right_pushed e h m f = subst (λ (bs : List Bool). AreMarks e rest bs) (sym list_pushed) (marks_push e rest (list_of marks rest) mark h m f)

  pub length_pushed : length (list_of new rest) ≡ length (list_of marks rest) + 1
  length_pushed = ap (λ (bs : List Bool). length bs) list_pushed ∙ length-append (list_of marks rest) (mark ∷ [])

  pub alone_pushed : (old : List (List Bool)) → marks ≡ set old rest (list_of marks rest) → new ≡ set old rest (list_of new rest)
  alone_pushed old a =
      w ∙ ap (λ (ms : List (List Bool)). set ms rest (list_of marks rest ++ mark ∷ [])) a ∙ written_twice old rest (list_of marks rest) (list_of marks rest ++ mark ∷ [])
      ∙ ap (λ (bs : List Bool). set old rest bs) (sym list_pushed)

  pub listed_pushed : rest < length new
  listed_pushed =
      let n = length-set_same marks rest (list_of marks rest ++ mark ∷ []) in
      let s : length new ≡ length (set marks rest (list_of marks rest ++ mark ∷ [])) = ap (λ (ms : List (List Bool)). length ms) w in
      omega (arith, n, s, l)
