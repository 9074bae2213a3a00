-- From codes to skeletons: the first, the next, and the end of a walk.
use Rattle.std.proofs.Common.{◌≡◌, ℕ, List, [], ◌∷◌, refl, sym, ◌∙◌}
use Rattle.std.specs.declared.cmp.Ordering.{Ordering}
use Rattle.std.specs.declared.cmp.Ordering.TheVariants.{Less, Equal, Greater}
use Rattle.std.specs.Ordering.{ordering_then}
use Rattle.std.specs.Cmp.Lexicographic.{lists_total}
use Rattle.std.proofs.lemmas.Cmp.{tied_itself}
use Rattle.rng_model.specs.Patterns.{Schema, IsSimpleForm}
use Rattle.rng_model.specs.Hedges.{Skeleton, size}
use Rattle.rng_model.specs.Events.{Event, events}
use Rattle.rng_model.specs.Universe.{Lists, IsAlphabet, Ascend}
use Rattle.rng_model.specs.Restrictions.{BreaksNoRule}
use Rattle.rng_model.specs.Codes.{AreCodes, Code, code_cmp}
use Rattle.rng_model.proofs.Orders.{event_order}
use Rattle.line_laws.proofs.OrderLaw.{code_lists_compare}
use Rattle.table_laws.specs.Reaching.{start_state}
use Rattle.table_laws.specs.Finishing.{Finish}
use Rattle.table_laws.specs.Walking.{IsLeastRest, IsNextList, NothingAbove, AreListedCodes, codes_cmp, IsFirst, IsNext, GoesThrough, IsWalk}
use Rattle.table_laws.proofs.Walk.{code_cmp-same}
use Rattle.table_laws.proofs.ListedCodes.{codes_skeleton, next_skeleton, first_skeleton}
use Rattle.table_laws.proofs.Cursors.{nothing_after, some_listed}

both_equal : (a b : Ordering) → ordering_then a b ≡ Equal → (a ≡ Equal) × (b ≡ Equal)
both_equal Less b h = absurd (cc)
both_equal Equal b h = (refl, h)
both_equal Greater b h = absurd (cc)

codes_same : (cs ds : List Code) → codes_cmp cs ds ≡ Equal → cs ≡ ds
codes_same [] [] h = refl
codes_same [] (d ∷ ds) h = absurd (cc)
codes_same (c ∷ cs) [] h = absurd (cc)
codes_same (c ∷ cs) (d ∷ ds) h =
    let t = both_equal (code_cmp c d) (codes_cmp cs ds) h in
    let a = code_cmp-same c d t.0 in
    let b = codes_same cs ds t.1 in
    (λ i. a i ∷ b i)

module _ (g : Schema) (u : Lists) (lists : Ascend u) where
  -- events have one list of codes
  pub codes_once : (es : List Event) (cs ds : List Code) → AreCodes u es cs → AreCodes u es ds → cs ≡ ds
  codes_once es cs ds h k = codes_same cs ds (sym (code_lists_compare u lists es es cs ds h k) ∙ tied_itself (lists_total event_order) es)

module _ (g : Schema) (u : Lists) (unbroken : BreaksNoRule g) (lists : Ascend u) where
  pub last_is : (n : ℕ) (s : Skeleton) (cs : List Code) → AreCodes u (events s) cs → size s ≡ n → NothingAbove (AreListedCodes g u n) [] cs → GoesThrough g u n s []
  last_is n s cs h e nothing r l = nothing_after g u unbroken lists n s cs h e nothing r l.listed l.exact

module _ (g : Schema) (u : Lists) (unbroken : BreaksNoRule g) (simple : IsSimpleForm g) (lists : Ascend u) (named : IsAlphabet u) where
  pub next_is : (n : ℕ) (s : Skeleton) (cs ds : List Code) → AreCodes u (events s) cs → size s ≡ n → IsNextList (AreListedCodes g u n) cs ds →
      (t : Skeleton) × AreCodes u (events t) ds × IsNext g u n s t
  next_is n s cs ds h e next =
      let t = codes_skeleton g u unbroken lists simple named n ds next.listed in
      let k = next_skeleton g u unbroken lists n s t.0 cs ds h t.3 e next in
      (t.0, t.3, record { listed = record { listed = t.1; exact = t.2 }; above = k.1; first = λ r l. k.2 r l.listed l.exact })

  pub first_is : (n : ℕ) (ds : List Code) → IsLeastRest (AreListedCodes g u n) [] ds →
      (t : Skeleton) × AreCodes u (events t) ds × IsFirst g u n t
  first_is n ds least =
      let t = codes_skeleton g u unbroken lists simple named n ds least.listed in
      let k = first_skeleton g u unbroken lists n t.0 ds t.3 least in
      (t.0, t.3, record { listed = record { listed = t.1; exact = t.2 }; least = λ r l. k.1 r l.listed l.exact })

  pub none_is : (n : ℕ) → (Finish g u n (start_state g) → ⊥) → IsWalk g u n []
  none_is n f r l = f ((some_listed g u unbroken lists simple named n).1 (record { skeleton = r; listed = l.listed; exact = l.exact; back = events r; is = refl }))
