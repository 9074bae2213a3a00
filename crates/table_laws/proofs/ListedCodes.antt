-- The codes of the listed skeletons of one size: what goes on, that none begins another, and that their order is that of the skeletons.
use Rattle.std.proofs.Common.{◌≡◌, ◌≢◌, ℕ, zero, suc, ◌+◌, ◌≤◌, ◌⊎◌, inl, inr, List, [], ◌∷◌, ◌++◌, map, refl, sym, ◌∙◌, ap, subst, arith, IsTrue, Some, slice_get, Contains}
use Rattle.std.specs.List.{AllByRecursion}
use Rattle.std.specs.declared.cmp.Ordering.TheVariants.{Less}
use Rattle.std.specs.Ordering.{nat_cmp, ordering_then}
use Rattle.std.specs.Cmp.Lexicographic.{slice_cmp}
use Rattle.std.proofs.lemmas.Cmp.{tied_itself, nat_cmp_total}
use Rattle.std.proofs.lemmas.Option.{slice_get-get_or}
use Rattle.rng_model.specs.Patterns.{Schema, IsSimpleForm}
use Rattle.rng_model.specs.Hedges.{Hedge, Attributes, Skeleton, IsSkeleton, document, size}
use Rattle.rng_model.specs.Hedges as hedge
use Rattle.rng_model.specs.Events.{Event, hedge_events, events, event_cmp, skeleton_cmp}
use Rattle.rng_model.specs.Events as event
use Rattle.rng_model.specs.Universe.{Lists, IsAlphabet, Ascend}
use Rattle.rng_model.specs.Restrictions.{BreaksNoRule}
use Rattle.rng_model.specs.Matching.{nullable}
use Rattle.rng_model.specs.Listing.{IsOver, IsListed}
use Rattle.rng_model.specs.Codes.{IsCode, AreCodes, Code, nodes, IsInRange, code_cmp}
use Rattle.rng_model.specs.States.{Place, Tag, Fresh, AfterText, AfterElement, State, step, steps, after_codes}
use Rattle.derivative_laws.proofs.CodesLaw.{acceptance}
use Rattle.derivative_laws.proofs.Accepting.{Reads, ReadsRoot, reads_root, start_refs}
use Rattle.derivative_laws.proofs.Building.{accepted_codes}
use Rattle.derivative_laws.proofs.Members.{all-append, all-back}
use Rattle.line_laws.proofs.OrderLaw.{code_lists_compare}
use Rattle.table_laws.specs.Reaching.{weight, start_state, Leads}
use Rattle.table_laws.specs.Finishing.{Finish, CanTake}
use Rattle.table_laws.specs.Walking.{GoesOn, IsFirstCode, IsNextCode, IsLeastRest, IsNextList, AreListedCodes, codes_cmp}
use Rattle.table_laws.proofs.Rows.{nodes-cons, nodes-append, steps-append, alive, nullable-alive}
use Rattle.table_laws.proofs.Exact.{IsEventOver, codes_in_range, codes_size, codes_skeleton_over}

module _ (g : Schema) (u : Lists) where
  -- with a code that can go on
  pub goes_on_to : (n left : ℕ) (front : List Code) (c : Code) → nodes front + weight c + left ≡ n → GoesOn (AreListedCodes g u n) front c →
      Leads g u (after_codes g u front) c × Finish g u left (step g u (after_codes g u front) c)
  goes_on_to n left front c e h =
      let moved : steps g u (start_state g) (front ++ (c ∷ h.rest)) ≡ steps g u (step g u (after_codes g u front) c) h.rest = steps-append g u (start_state g) front (c ∷ h.rest) in
      let accepts : IsTrue (nullable (steps g u (step g u (after_codes g u front) c) h.rest).pattern) = subst (λ x. IsTrue (nullable x.pattern)) moved h.listed.accepts in
      let a : AllByRecursion (IsInRange u) (c ∷ h.rest) = all-back (IsInRange u) front (c ∷ h.rest) h.listed.in_range in
      let size = h.listed.exact in (
        record { in_range = a.0; allowed = alive g u h.rest (step g u (after_codes g u front) c) (nullable-alive (steps g u (step g u (after_codes g u front) c) h.rest).pattern accepts) },
        record { codes = h.rest; in_range = a.1; exact = omega (arith, nodes-append front (c ∷ h.rest), nodes-cons c h.rest); accepts = accepts },
      )

  pub goes_on_from : (n left : ℕ) (front : List Code) (c : Code) → nodes front + weight c + left ≡ n → AllByRecursion (IsInRange u) front →
      Leads g u (after_codes g u front) c → Finish g u left (step g u (after_codes g u front) c) → GoesOn (AreListedCodes g u n) front c
  goes_on_from n left front c e a leads f =
      let moved : steps g u (start_state g) (front ++ (c ∷ f.codes)) ≡ steps g u (step g u (after_codes g u front) c) f.codes = steps-append g u (start_state g) front (c ∷ f.codes) in
      let size = f.exact in
      record {
        rest = f.codes;
        listed = record {
          in_range = all-append (IsInRange u) front (c ∷ f.codes) a (leads.in_range, f.in_range);
          exact = omega (arith, nodes-append front (c ∷ f.codes), nodes-cons c f.codes);
          accepts = subst (λ x. IsTrue (nullable x.pattern)) (sym moved) f.accepts;
        };
      }

  -- no code goes on past the size
  pub goes_on_within : (n : ℕ) (front : List Code) (c : Code) → GoesOn (AreListedCodes g u n) front c → nodes front + weight c ≤ n
  goes_on_within n front c h = let e = h.listed.exact in omega (arith, nodes-append front (c ∷ h.rest), nodes-cons c h.rest)

  -- what goes on is what the state can take
  pub goes_take : (front : List Code) (rest : ℕ) (c : Code) → GoesOn (AreListedCodes g u (nodes front + rest)) front c → CanTake g u rest (after_codes g u front) c
  goes_take front rest c h =
      let e : nodes front + weight c + nodes h.rest ≡ nodes front + rest = let q = h.listed.exact in omega (arith, nodes-append front (c ∷ h.rest), nodes-cons c h.rest) in
      let t = goes_on_to (nodes front + rest) (nodes h.rest) front c e h in
      record { leads = t.0; left = nodes h.rest; is = omega arith; finishes = t.1 }

  pub take_goes : (front : List Code) (rest : ℕ) (c : Code) → AllByRecursion (IsInRange u) front → CanTake g u rest (after_codes g u front) c → GoesOn (AreListedCodes g u (nodes front + rest)) front c
  take_goes front rest c a t = let e = t.is in goes_on_from (nodes front + rest) t.left front c (omega arith) a t.leads t.finishes

  -- so the least code that the state can take is the first, and the least above b the next
  pub first_code : (front : List Code) (rest : ℕ) (c : Code) → AllByRecursion (IsInRange u) front → CanTake g u rest (after_codes g u front) c →
      ((d : Code) → code_cmp d c ≡ Less → CanTake g u rest (after_codes g u front) d → ⊥) → IsFirstCode (AreListedCodes g u (nodes front + rest)) front c
  first_code front rest c a t least = record { goes = take_goes front rest c a t; first = λ d h e. least d e (goes_take front rest d h) }

  pub next_code : (front : List Code) (rest : ℕ) (b c : Code) → AllByRecursion (IsInRange u) front → CanTake g u rest (after_codes g u front) c → code_cmp b c ≡ Less →
      ((d : Code) → code_cmp b d ≡ Less → code_cmp d c ≡ Less → CanTake g u rest (after_codes g u front) d → ⊥) → IsNextCode (AreListedCodes g u (nodes front + rest)) front b c
  next_code front rest b c a t above least = record { goes = take_goes front rest c a t; above = above; first = λ d h e l. least d e l (goes_take front rest d h) }

  pub no_code : (front : List Code) (rest : ℕ) (c : Code) → ((d : Code) → code_cmp c d ≡ Less → CanTake g u rest (after_codes g u front) d → ⊥) →
      (d : Code) → GoesOn (AreListedCodes g u (nodes front + rest)) front d → code_cmp c d ≢ Less
  no_code front rest c none d h e = none d e (goes_take front rest d h)

  -- what can finish is whole or can take a code
  pub finish_take : (rest : ℕ) (s : State) → Finish g u rest s → ((rest ≡ 0) × IsTrue (nullable s.pattern)) ⊎ ((c : Code) × CanTake g u rest s c)
  finish_take rest s f = go f.codes f.in_range f.exact f.accepts
    where
      go : (cs : List Code) → AllByRecursion (IsInRange u) cs → nodes cs ≡ rest → IsTrue (nullable (steps g u s cs).pattern) → ((rest ≡ 0) × IsTrue (nullable s.pattern)) ⊎ ((c : Code) × CanTake g u rest s c)
      go [] a e h = inl (sym e, h)
      go (c ∷ cs) a e h = inr (
        c,
        record {
          leads = record { in_range = a.0; allowed = alive g u cs (step g u s c) (nullable-alive (steps g u (step g u s c) cs).pattern h) };
          left = nodes cs;
          is = sym e ∙ nodes-cons c cs;
          finishes = record { codes = cs; in_range = a.1; exact = refl; accepts = h };
        },
      )

  reads_alone : (cs other : List Code) (d : ℕ) (pl : Place) → Reads g u d pl cs → Reads g u d pl (cs ++ other) → other ≡ []
  reads_alone [] other zero pl r q = q
  reads_alone [] other (suc d) pl r q = absurd r
  reads_alone (c ∷ cs) other zero pl r q = absurd (cc)
  reads_alone (Code.Attr j s ∷ cs) other (suc d) (Tag k) r q = reads_alone cs other (suc d) (Tag (j + 1)) r.2 q.2
  reads_alone (Code.Body ∷ cs) other (suc d) (Tag k) r q = reads_alone cs other (suc d) Fresh r q
  reads_alone (Code.Opening i ∷ cs) other (suc d) Fresh r q = reads_alone cs other (suc (suc d)) (Tag 0) r.1 q.1
  reads_alone (Code.Opening i ∷ cs) other (suc d) AfterText r q = reads_alone cs other (suc (suc d)) (Tag 0) r.1 q.1
  reads_alone (Code.Opening i ∷ cs) other (suc d) AfterElement r q = reads_alone cs other (suc (suc d)) (Tag 0) r.1 q.1
  reads_alone (Code.Chars s ∷ cs) other (suc d) Fresh r q = reads_alone cs other (suc d) AfterText r.2 q.2
  reads_alone (Code.Chars s ∷ cs) other (suc d) AfterElement r q = reads_alone cs other (suc d) AfterText r.2 q.2
  reads_alone (Code.Closing ∷ cs) other (suc d) Fresh r q = reads_alone cs other d AfterElement r q
  reads_alone (Code.Closing ∷ cs) other (suc d) AfterText r q = reads_alone cs other d AfterElement r q
  reads_alone (Code.Closing ∷ cs) other (suc d) AfterElement r q = reads_alone cs other d AfterElement r q
  reads_alone (c ∷ cs) other (suc d) pl r q = absurd r

  root_alone : (cs other : List Code) → ReadsRoot g u cs → ReadsRoot g u (cs ++ other) → other ≡ []
  root_alone [] other r q = absurd r
  root_alone (Code.Opening i ∷ cs) other r q = reads_alone cs other 1 (Tag 0) r.1 q.1
  root_alone (c ∷ cs) other r q = absurd r

  -- none begins another
  pub listed_alone : BreaksNoRule g → IsSimpleForm g → (m n : ℕ) (cs other : List Code) → AreListedCodes g u m cs → AreListedCodes g u n (cs ++ other) → other ≡ []
  listed_alone unbroken simple m n cs other a b =
      let refs = start_refs g.start simple.start (λ w. unbroken 6 (inr (inl (refl, w)))) in
      root_alone cs other (reads_root g u g.start refs cs a.accepts a.in_range) (reads_root g u g.start refs (cs ++ other) b.accepts b.in_range)

  at_place : {X : Type 0} (xs : List X) (x : X) → Contains xs x → (i : ℕ) × (slice_get xs i ≡ Some x)
  at_place xs x h = (h.0, slice_get-get_or xs h.0 x h.1 ∙ ap Some h.2)

  has_code : (e : Event) → IsEventOver u e → (c : Code) × IsCode u e c
  has_code (event.Opening n) h = let t = at_place u.elements n h in (Code.Opening t.0, t.1)
  has_code (event.Attr n t) h = let j = at_place u.attributes n h.0 in let s = at_place u.atoms t h.1 in (Code.Attr j.0 s.0, (j.1, s.1))
  has_code event.Body h = (Code.Body, tt)
  has_code (event.Chars t) h = let s = at_place u.atoms t h in (Code.Chars s.0, s.1)
  has_code event.Closing h = (Code.Closing, tt)

  pub have_codes : (es : List Event) → AllByRecursion (IsEventOver u) es → (cs : List Code) × AreCodes u es cs
  have_codes [] h = ([], tt)
  have_codes (e ∷ es) h = let c = has_code e h.0 in let t = have_codes es h.1 in (c.0 ∷ t.0, (c.1, t.1))

  attributes_events : (a : Attributes) → AllByRecursion (λ x. Contains u.attributes x.0 × Contains u.atoms x.1) a → AllByRecursion (IsEventOver u) (map (λ x. event.Attr x.0 x.1) a)
  attributes_events [] h = tt
  attributes_events (x ∷ a) h = (h.0, attributes_events a h.1)

  pub over_events : (m : Hedge) → IsOver u m → AllByRecursion (IsEventOver u) (hedge_events m)
  over_events hedge.none h = tt
  over_events (hedge.text t rest) h = (h.0, over_events rest h.1)
  over_events (hedge.element n a k rest) h =
      all-append (IsEventOver u) ((event.Opening n ∷ map (λ x. event.Attr x.0 x.1) a) ++ (event.Body ∷ hedge_events k)) (event.Closing ∷ hedge_events rest)
      (all-append (IsEventOver u) (event.Opening n ∷ map (λ x. event.Attr x.0 x.1) a) (event.Body ∷ hedge_events k) (h.0, attributes_events a h.1) (tt, over_events k h.2))
      (tt, over_events rest h.3)

  -- a skeleton over the lists has codes
  pub over_codes : (s : Skeleton) → IsOver u (document s) → (cs : List Code) × AreCodes u (events s) cs
  over_codes s h = have_codes (events s) (over_events (document s) h)

module _ (g : Schema) (u : Lists) (unbroken : BreaksNoRule g) (lists : Ascend u) where
  -- the codes of a listed skeleton
  pub skeleton_codes : (m : ℕ) (s : Skeleton) → IsListed g u m s → (cs : List Code) → AreCodes u (events s) cs → AreListedCodes g u (size s) cs
  skeleton_codes m s l cs h = record {
    in_range = codes_in_range g u (events s) cs h;
    exact = codes_size g u s cs h;
    accepts = (acceptance g u unbroken lists.attributes s l.skeleton cs h).0 l.matches;
  }

  pub codes_skeleton : IsSimpleForm g → IsAlphabet u → (n : ℕ) (cs : List Code) → AreListedCodes g u n cs → (s : Skeleton) × IsListed g u n s × (size s ≡ n) × AreCodes u (events s) cs
  codes_skeleton simple named n cs a =
      let t = accepted_codes g u unbroken simple named cs a.in_range a.accepts in
      let e : size t.0 ≡ n = sym (codes_size g u t.0 cs t.2) ∙ a.exact in (
        t.0,
        record {
          skeleton = t.1;
          over = codes_skeleton_over g u t.0 cs t.2;
          small = omega arith;
          matches = (acceptance g u unbroken lists.attributes t.0 t.1 cs t.2).1 a.accepts;
        },
        e,
        t.2,
      )

  same_size_cmp : (s t : Skeleton) → size s ≡ size t → skeleton_cmp s t ≡ slice_cmp event_cmp (events s) (events t)
  same_size_cmp s t e = ap (λ o. ordering_then o (slice_cmp event_cmp (events s) (events t))) (ap (λ k. nat_cmp k (size t)) e ∙ tied_itself nat_cmp_total (size t))

  -- skeletons of one size have the order of their codes
  pub skeletons_order : (s t : Skeleton) → size s ≡ size t → (cs ds : List Code) → AreCodes u (events s) cs → AreCodes u (events t) ds → skeleton_cmp s t ≡ codes_cmp cs ds
  skeletons_order s t e cs ds h k = same_size_cmp s t e ∙ code_lists_compare u lists (events s) (events t) cs ds h k

  -- the next codes are those of the next skeleton of the size
  pub next_skeleton : (n : ℕ) (s t : Skeleton) (cs ds : List Code) → AreCodes u (events s) cs → AreCodes u (events t) ds → size s ≡ n → IsNextList (AreListedCodes g u n) cs ds →
      (size t ≡ n) × (skeleton_cmp s t ≡ Less) × ((r : Skeleton) → IsListed g u n r → size r ≡ n → skeleton_cmp s r ≡ Less → skeleton_cmp r t ≢ Less)
  next_skeleton n s t cs ds h k e next =
      let f : size t ≡ n = sym (codes_size g u t ds k) ∙ next.listed.exact in
      (f, skeletons_order s t (e ∙ sym f) cs ds h k ∙ next.above, λ r l q a b. go f r l q (over_codes g u r l.over) a b)
    where
      go : size t ≡ n → (r : Skeleton) → IsListed g u n r → size r ≡ n → (es : List Code) × AreCodes u (events r) es → skeleton_cmp s r ≡ Less → skeleton_cmp r t ≢ Less
      go f r l q (es, c) a b =
          next.first es (subst (λ z. AreListedCodes g u z es) q (skeleton_codes n r l es c)) (sym (skeletons_order s r (e ∙ sym q) cs es h c) ∙ a) (sym (skeletons_order r t (q ∙ sym f) es ds c k) ∙ b)

  -- the least codes are those of the first skeleton of the size
  pub first_skeleton : (n : ℕ) (t : Skeleton) (ds : List Code) → AreCodes u (events t) ds → IsLeastRest (AreListedCodes g u n) [] ds →
      (size t ≡ n) × ((r : Skeleton) → IsListed g u n r → size r ≡ n → skeleton_cmp r t ≢ Less)
  first_skeleton n t ds k least =
      let f : size t ≡ n = sym (codes_size g u t ds k) ∙ least.listed.exact in
      (f, λ r l q b. go f r l q (over_codes g u r l.over) b)
    where
      go : size t ≡ n → (r : Skeleton) → IsListed g u n r → size r ≡ n → (es : List Code) × AreCodes u (events r) es → skeleton_cmp r t ≢ Less
      go f r l q (es, c) b = least.least es (subst (λ z. AreListedCodes g u z es) q (skeleton_codes n r l es c)) (sym (skeletons_order r t (q ∙ sym f) es ds c k) ∙ b)
