-- Marks stay right as states are found, and after these are cut back.
use Rattle.std.proofs.Common.{◌≡◌, ℕ, zero, suc, ◌+◌, ◌<◌, ◌≤◌, ◌↔◌, ◌⊎◌, inl, inr, Bool, IsTrue, Some, List, [], ◌∷◌, ◌++◌, length, map, take, set, slice_get, refl, sym, ◌∙◌, ap, subst, arith}
use Rattle.std.proofs.lemmas.List.{length-take}
use Rattle.std.proofs.lemmas.Option.{slice_get_within}
use Rattle.rng_model.specs.Patterns.{Schema}
use Rattle.rng_model.specs.States.{State}
use Rattle.rng_model.specs.Universe.{Lists}
use Rattle.table_laws.specs.Finishing.{Finish}
use Rattle.transitions.specs.Marked.{HasMarks, KeepsMarks}
use Rattle.transitions.proofs.Lists.{get_of, length-set_same, slice_get-set}
use Rattle.feasibility.specs.declared.explorer.Explorer.{Explorer}
use Rattle.feasibility.specs.declared.states.Extent.{Extent}
use Rattle.feasibility.specs.declared.states.States.{States}
use Rattle.feasibility.specs.Exploring.{Finds, at, found, names, schema}
use Rattle.feasibility.specs.Growing.{GoesOn, IsCutTo, IsExtent, at_level, parts_of}
use Rattle.feasibility.specs.Marking.{AreFilled, AreMarked, AreMarks, AreRight}
use Rattle.feasibility.proofs.Finding.{IsOnlyPool, finds_names, pool_finds}
use Rattle.feasibility.proofs.Tabling.{cut_grown, cut_levels, cut_pool}

-- what stands in a list that is cut
get_take : (n : ℕ) (xs : List Bool) (i : ℕ) (b : Bool) → slice_get (take n xs) i ≡ Some b → (i < n) × (slice_get xs i ≡ Some b)
get_take zero xs i b h = absurd (cc)
get_take (suc n) [] i b h = absurd (cc)
get_take (suc n) (x ∷ xs) zero b h = (omega arith, h)
get_take (suc n) (x ∷ xs) (suc i) b h = let t = get_take n xs i b h in let l = t.0 in (omega (arith, l), t.1)

get_cut : (n : ℕ) (xs : List (List Bool)) (i : ℕ) (y : List Bool) → slice_get (map (take n) xs) i ≡ Some y → (x : List Bool) × (slice_get xs i ≡ Some x) × (take n x ≡ y)
get_cut n [] i y h = absurd (cc)
get_cut n (x ∷ xs) zero y h = (x, refl, cc)
get_cut n (x ∷ xs) (suc i) y h = get_cut n xs i y h

cut_get : (n : ℕ) (xs : List (List Bool)) (i : ℕ) (x : List Bool) → slice_get xs i ≡ Some x → slice_get (map (take n) xs) i ≡ Some (take n x)
cut_get n [] i x h = absurd (cc)
cut_get n (z ∷ xs) zero x h = let p : z ≡ x = cc in ap (λ (y : List Bool). Some (take n y)) p
cut_get n (z ∷ xs) (suc i) x h = cut_get n xs i x h

-- nothing is marked
pub right_none : (e : Explorer) (marks : List (List Bool)) → marks ≡ [] → AreRight e marks
right_none e marks none = subst (AreRight e) (sym none) (record { right = λ rest list k. absurd (cc) })

-- what is told of states is so of states that were found since, too
module _ (e f : Explorer) (g : schema f ≡ schema e) (u : names f ≡ names e) where
  told_on : (rest id : ℕ) (mark : Bool) → at f id ≡ at e id → IsTrue mark ↔ Finish (schema e) (names e) rest (at e id) → IsTrue mark ↔ Finish (schema f) (names f) rest (at f id)
  told_on rest id mark same h =
      subst (λ (z : Schema). IsTrue mark ↔ Finish z (names f) rest (at f id)) (sym g)
      (subst (λ (z : Lists). IsTrue mark ↔ Finish (schema e) z rest (at f id)) (sym u)
      (subst (λ (s : State). IsTrue mark ↔ Finish (schema e) (names e) rest s) (sym same) h))

  pub right_on : (marks : List (List Bool)) → length (found e) ≤ length (found f) → ((id : ℕ) → id < length (found e) → at f id ≡ at e id) → AreRight e marks → AreRight f marks
  right_on marks longer same h = record {
    right = λ rest list k.
        let m = h.right rest list k in
        let few = m.few in
        record {
          few = omega (arith, few, longer);
          each = λ id mark s. told_on rest id mark (same id (let w = slice_get_within list id mark s in omega (arith, w, few))) (m.each id mark s);
        };
  }

  -- and after they are cut back
  pub right_cut : (n : ℕ) (marks : List (List Bool)) → n ≤ length (found f) → ((id : ℕ) → id < n → at f id ≡ at e id) → AreRight e marks → AreRight f (map (take n) marks)
  right_cut n marks few same h = record {
    right = λ rest list k.
        let t = get_cut n marks rest list k in
        let m = h.right rest t.0 t.1 in
        subst (AreMarks f rest) t.2
        (record {
          few = let l = length-take n t.0 in omega (arith, l, few);
          each = λ id mark s. let q = get_take n t.0 id mark s in told_on rest id mark (same id q.0) (m.each id mark q.1);
        });
  }

pub right_grown : (p q : States) (marks : List (List Bool)) → GoesOn (parts_of p) (parts_of q) → AreRight p.explorer marks → AreRight q.explorer marks
right_grown p q marks x = right_on p.explorer q.explorer x.finds.schema (finds_names (at_level q.explorer.level p.explorer) q.explorer x.finds) marks x.finds.longer x.finds.states

-- enough marks are left
module _ (e f : Explorer) (levels : List ℕ) (old new : List (List Bool)) (n : ℕ) (h : AreMarked e levels (e.level + 1) old) (keeps : KeepsMarks old new) (level : f.level ≡ e.level)
    (most : (k m : ℕ) → slice_get levels k ≡ Some m → m ≤ n) where
  cut_has : (rest m : ℕ) → m ≤ n → HasMarks old rest m → HasMarks (map (take n) new) rest m
  cut_has rest m l k =
      let x = keeps.kept rest m k in
      let longer = x.2 in
      (take n x.0, cut_get n new rest x.0 x.1, (let s = length-take n x.0 in omega (arith, s, longer, l)))

  pub marked_cut : AreMarked f levels (f.level + 1) (map (take n) new)
  marked_cut = record {
    many =
        let many = h.many in
        let last = get_of old e.level (omega (arith, many)) in
        let x = cut_has e.level 0 (omega arith) (last.0, last.1, omega arith) in
        let w = slice_get_within (map (take n) new) e.level x.0 x.1 in
        omega (arith, w, level);
    all = λ rest k m l s g. cut_has rest m (most k m g) (h.all rest k m (omega (arith, l, level)) (s ∙ level) g);
  }

-- what holds of a table holds again once it is cut back
module _ (p q k : States) (x : Extent) (old new : List (List Bool)) (h : AreFilled p old) (on : GoesOn (parts_of p) (parts_of q)) (far : IsExtent p x) (cut : IsCutTo x q k)
    (right : AreRight q.explorer new) (keeps : KeepsMarks old new) where
  only : IsOnlyPool p.explorer k.explorer
  only = cut_pool p q k x h.grown on far cut

  finds : Finds p.explorer k.explorer
  finds = pool_finds p.explorer k.explorer h.grown.exploring only

  names_are : names k.explorer ≡ names q.explorer
  names_are = finds_names p.explorer k.explorer finds ∙ sym (finds_names (at_level q.explorer.level p.explorer) q.explorer on.finds)

  same : (id : ℕ) → id < x.states → at k.explorer id ≡ at q.explorer id
  same id l = let n = far.states in let w : id < length (found p.explorer) = omega (arith, l, n) in finds.states id w ∙ sym (on.finds.states id w)

  pub cut_filled : AreFilled k (map (take x.states) new)
  cut_filled = record {
    grown = cut_grown p q k x h.grown on far cut;
    right = right_cut q.explorer k.explorer cut.schema names_are x.states new (let l = finds.longer in let n = far.states in omega (arith, l, n)) same right;
    marked =
        subst (λ (ls : List ℕ). AreMarked k.explorer ls (k.explorer.level + 1) (map (take x.states) new)) (sym (cut_levels p q k x h.grown on far cut))
        (marked_cut p.explorer k.explorer p.levels.items old new x.states h.marked keeps only.level (λ j m i. let l = (h.grown.level j m i).most in let n = far.states in omega (arith, l, n)));
  }
