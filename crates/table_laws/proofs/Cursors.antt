-- Where events begin those of a listed skeleton, and where nothing follows.
use Rattle.std.proofs.Common.{◌≡◌, ◌≢◌, ℕ, ◌+◌, ◌↔◌, List, [], ◌∷◌, ◌++◌, refl, sym, ◌∙◌, ap, subst, arith, Some, slice_get}
use Rattle.std.specs.List.{AllByRecursion}
use Rattle.std.specs.declared.cmp.Ordering.TheVariants.{Less}
use Rattle.rng_model.specs.Patterns.{Schema, IsSimpleForm, not_allowed}
use Rattle.rng_model.specs.Hedges.{Skeleton, document, size}
use Rattle.rng_model.specs.Events.{Event, events, skeleton_cmp}
use Rattle.rng_model.specs.Events as event
use Rattle.rng_model.specs.Universe.{Lists, IsAlphabet, Ascend}
use Rattle.rng_model.specs.Restrictions.{BreaksNoRule}
use Rattle.rng_model.specs.Listing.{IsListed}
use Rattle.rng_model.specs.Codes.{IsCode, AreCodes, Code}
use Rattle.rng_model.specs.States.{State, steps}
use Rattle.derivative_laws.proofs.Building.{codes-append}
use Rattle.derivative_laws.proofs.Members.{all-front, all-back}
use Rattle.table_laws.specs.Reaching.{start_state}
use Rattle.table_laws.specs.Finishing.{Finish, BeginsSkeleton, BeginsListed}
use Rattle.table_laws.specs.Walking.{NothingAbove, AreListedCodes}
use Rattle.table_laws.proofs.Rows.{alive, nullable-alive}
use Rattle.table_laws.proofs.Exact.{IsEventOver, finish_begins, begins_finish}
use Rattle.table_laws.proofs.ListedCodes.{have_codes, over_events, over_codes, skeleton_codes, skeletons_order}

module _ (u : Lists) where
  same_at : {X : Type 0} (xs : List X) (i : ℕ) (x y : X) → slice_get xs i ≡ Some x → slice_get xs i ≡ Some y → x ≡ y
  same_at xs i x y h k = cc

  -- a code stands for one event
  one_event : (e f : Event) (c : Code) → IsCode u e c → IsCode u f c → e ≡ f
  one_event e f (Code.Opening i) h k = other e f h k
    where
      other : (e f : Event) → IsCode u e (Code.Opening i) → IsCode u f (Code.Opening i) → e ≡ f
      other (event.Opening m) (event.Opening n) h k = ap event.Opening (same_at u.elements i m n h k)
      other (event.Opening m) f h k = absurd k
      other e f h k = absurd h
  one_event e f (Code.Attr i j) h k = other e f h k
    where
      other : (e f : Event) → IsCode u e (Code.Attr i j) → IsCode u f (Code.Attr i j) → e ≡ f
      other (event.Attr m s) (event.Attr n t) h k = let a = same_at u.attributes i m n h.0 k.0 in let b = same_at u.atoms j s t h.1 k.1 in (λ i. event.Attr (a i) (b i))
      other (event.Attr m s) f h k = absurd k
      other e f h k = absurd h
  one_event e f Code.Body h k = other e f h k
    where
      other : (e f : Event) → IsCode u e Code.Body → IsCode u f Code.Body → e ≡ f
      other event.Body event.Body h k = refl
      other event.Body f h k = absurd k
      other e f h k = absurd h
  one_event e f (Code.Chars j) h k = other e f h k
    where
      other : (e f : Event) → IsCode u e (Code.Chars j) → IsCode u f (Code.Chars j) → e ≡ f
      other (event.Chars s) (event.Chars t) h k = ap event.Chars (same_at u.atoms j s t h k)
      other (event.Chars s) f h k = absurd k
      other e f h k = absurd h
  one_event e f Code.Closing h k = other e f h k
    where
      other : (e f : Event) → IsCode u e Code.Closing → IsCode u f Code.Closing → e ≡ f
      other event.Closing event.Closing h k = refl
      other event.Closing f h k = absurd k
      other e f h k = absurd h

  -- events whose codes begin so begin so
  front_events : (front es : List Event) (cs ds : List Code) → AreCodes u front cs → AreCodes u es (cs ++ ds) → (back : List Event) × (es ≡ front ++ back)
  front_events [] es [] ds h k = (es, refl)
  front_events [] es (c ∷ cs) ds h k = absurd h
  front_events (e ∷ front) es [] ds h k = absurd h
  front_events (e ∷ front) [] (c ∷ cs) ds h k = absurd k
  front_events (e ∷ front) (f ∷ es) (c ∷ cs) ds h k =
      let t = front_events front es cs ds h.1 k.1 in
      let p = one_event f e c k.0 h.0 in
      let q = t.1 in
      (t.0, λ i. p i ∷ q i)

module _ (g : Schema) (u : Lists) where
  pub finish_alive : (rest : ℕ) (s : State) → Finish g u rest s → s.pattern ≢ not_allowed
  finish_alive rest s f = alive g u f.codes s (nullable-alive (steps g u s f.codes).pattern f.accepts)

  pub begins_listed_to : (n : ℕ) (front : List Event) (codes : List Code) → AreCodes u front codes → BeginsSkeleton g u codes n → BeginsListed g u n front
  begins_listed_to n front codes h b =
      let t = front_events u front (events b.skeleton) codes b.back h b.codes in
      let e = b.exact in
      record {
        skeleton = b.skeleton;
        listed = record { skeleton = b.is; over = b.over; small = omega arith; matches = b.matches };
        exact = b.exact;
        back = t.0;
        is = t.1;
      }

  pub begins_listed_from : (n : ℕ) (front : List Event) (codes : List Code) → AreCodes u front codes → BeginsListed g u n front → BeginsSkeleton g u codes n
  begins_listed_from n front codes h b =
      let over : AllByRecursion (IsEventOver u) (front ++ b.back) = subst (AllByRecursion (IsEventOver u)) b.is (over_events g u (document b.skeleton) b.listed.over) in
      let t = have_codes g u b.back (all-back (IsEventOver u) front b.back over) in
      record {
        skeleton = b.skeleton;
        is = b.listed.skeleton;
        over = b.listed.over;
        exact = b.exact;
        matches = b.listed.matches;
        back = t.0;
        codes = subst (λ es. AreCodes u es (codes ++ t.0)) (sym b.is) (codes-append u front b.back codes t.0 h t.1);
      }

  -- events without codes begin none
  pub begins_listed_coded : (n : ℕ) (front : List Event) → BeginsListed g u n front → (codes : List Code) × AreCodes u front codes
  begins_listed_coded n front b =
      let over : AllByRecursion (IsEventOver u) (front ++ b.back) = subst (AllByRecursion (IsEventOver u)) b.is (over_events g u (document b.skeleton) b.listed.over) in
      have_codes g u front (all-front (IsEventOver u) front b.back over)

module _ (g : Schema) (u : Lists) (unbroken : BreaksNoRule g) (lists : Ascend u) where
  pub nothing_after : (n : ℕ) (s : Skeleton) (cs : List Code) → AreCodes u (events s) cs → size s ≡ n → NothingAbove (AreListedCodes g u n) [] cs →
      (r : Skeleton) → IsListed g u n r → size r ≡ n → skeleton_cmp s r ≢ Less
  nothing_after n s cs h e nothing r l q b = go (over_codes g u r l.over)
    where
      go : (es : List Code) × AreCodes u (events r) es → ⊥
      go (es, c) = nothing es (subst (λ z. AreListedCodes g u z es) q (skeleton_codes g u unbroken lists n r l es c)) (sym (skeletons_order g u unbroken lists s r (e ∙ sym q) cs es h c) ∙ b)

  -- one of the size is listed exactly where the start can finish
  pub some_listed : IsSimpleForm g → IsAlphabet u → (n : ℕ) → Finish g u n (start_state g) ↔ BeginsListed g u n []
  some_listed simple named n = (
    λ f. let e : 0 + n ≡ n = omega arith in begins_listed_to g u n [] [] tt (subst (BeginsSkeleton g u []) e (finish_begins g u unbroken simple lists named [] tt n f)),
    λ b. let e : n ≡ 0 + n = omega arith in begins_finish g u unbroken simple lists named [] n (subst (BeginsSkeleton g u []) e (begins_listed_from g u n [] [] tt b)),
  )
