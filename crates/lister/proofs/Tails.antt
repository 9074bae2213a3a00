-- Once no node is left, the rest of a document's codes is determined by what is open.
use Rattle.std.proofs.Common.{◌≡◌, ℕ, zero, suc, ◌+◌, ◌-◌, List, [], ◌∷◌, ◌++◌, refl, ap, subst, arith, Bool, true, false, inl, inr}
use Rattle.rng_model.specs.Patterns.{Schema, IsSimpleForm}
use Rattle.rng_model.specs.Universe.{Lists}
use Rattle.rng_model.specs.Restrictions.{BreaksNoRule}
use Rattle.rng_model.specs.Codes.{Code, nodes}
use Rattle.rng_model.specs.States.{Place, Tag, Fresh, AfterText, AfterElement}
use Rattle.derivative_laws.proofs.Accepting.{Reads, ReadsRoot, reads_root, start_refs}
use Rattle.table_laws.specs.Walking.{AreListedCodes}
use Rattle.lister.specs.OpenElements.{Open, opened, open_at, closings, ending_codes}

tag_of : Place → Bool
tag_of (Tag k) = true
tag_of Fresh = false
tag_of AfterText = false
tag_of AfterElement = false

abbrev open_of : ℕ → Bool → Open
open_of d b = record { depth = d; in_tag = b }

no_node : {X : Type 0} (n : ℕ) → n + 1 ≡ 0 → X
no_node n e = absurd (omega arith)

module _ (g : Schema) (u : Lists) where
  ends : (cs : List Code) (d : ℕ) (pl : Place) → tag_of pl ≡ false → Reads g u d pl cs → nodes cs ≡ 0 → cs ≡ closings d
  unfolding tag_of
  ends cs zero pl t r e = r
  ends [] (suc d) pl t r e = absurd r
  ends (Code.Opening i ∷ cs) (suc d) pl t r e = no_node (nodes cs) e
  ends (Code.Attr j s ∷ cs) (suc d) pl t r e = no_node (nodes cs) e
  ends (Code.Chars s ∷ cs) (suc d) pl t r e = no_node (nodes cs) e
  ends (c ∷ cs) (suc d) (Tag k) t r e = absurd (cc)
  ends (Code.Closing ∷ cs) (suc d) Fresh t r e = ap (λ x. Code.Closing ∷ x) (ends cs d AfterElement refl r e)
  ends (Code.Closing ∷ cs) (suc d) AfterText t r e = ap (λ x. Code.Closing ∷ x) (ends cs d AfterElement refl r e)
  ends (Code.Closing ∷ cs) (suc d) AfterElement t r e = ap (λ x. Code.Closing ∷ x) (ends cs d AfterElement refl r e)
  ends (Code.Body ∷ cs) (suc d) Fresh t r e = absurd r
  ends (Code.Body ∷ cs) (suc d) AfterText t r e = absurd r
  ends (Code.Body ∷ cs) (suc d) AfterElement t r e = absurd r

  tag_ends : (cs : List Code) (d k : ℕ) → Reads g u (suc d) (Tag k) cs → nodes cs ≡ 0 → cs ≡ Code.Body ∷ closings (suc d)
  unfolding tag_of
  tag_ends [] d k r e = absurd r
  tag_ends (Code.Opening i ∷ cs) d k r e = no_node (nodes cs) e
  tag_ends (Code.Attr j s ∷ cs) d k r e = no_node (nodes cs) e
  tag_ends (Code.Chars s ∷ cs) d k r e = no_node (nodes cs) e
  tag_ends (Code.Closing ∷ cs) d k r e = absurd r
  tag_ends (Code.Body ∷ cs) d k r e = ap (λ x. Code.Body ∷ x) (ends cs (suc d) Fresh refl r e)

  -- the codes, read as the rest of d open elements, are those that end them
  all_ends : (cs : List Code) (d : ℕ) (pl : Place) → (d ≡ 0 → tag_of pl ≡ false) → Reads g u d pl cs → nodes cs ≡ 0 →
      cs ≡ ending_codes (open_of d (tag_of pl))
  unfolding tag_of
  all_ends cs zero (Tag k) t r e = let f : true ≡ false = t refl in absurd (cc)
  all_ends cs (suc d) (Tag k) t r e = tag_ends cs d k r e
  all_ends cs d Fresh t r e = ends cs d Fresh refl r e
  all_ends cs d AfterText t r e = ends cs d AfterText refl r e
  all_ends cs d AfterElement t r e = ends cs d AfterElement refl r e

  abbrev Law : List Code → List Code → Type 0
  Law front back = (d : ℕ) (pl : Place) → (d ≡ 0 → tag_of pl ≡ false) → Reads g u d pl (front ++ back) → back ≡ ending_codes (opened (open_of d (tag_of pl)) front)

  deeper : (front back : List Code) → Law front back → (d : ℕ) → Reads g u (suc (suc d)) (Tag 0) (front ++ back) → back ≡ ending_codes (opened (open_of (suc d + 1) true) front)
  unfolding tag_of
  deeper front back law d r =
      let e : suc (suc d) ≡ suc d + 1 = omega arith in
      let h : suc (suc d) ≡ 0 → true ≡ false = λ f. absurd (omega arith) in
      subst (λ k. back ≡ ending_codes (opened (open_of k true) front)) e (law (suc (suc d)) (Tag 0) h r)

  higher : (front back : List Code) → Law front back → (d : ℕ) → Reads g u d AfterElement (front ++ back) → back ≡ ending_codes (opened (open_of (suc d - 1) false) front)
  unfolding tag_of
  higher front back law d r =
      let e : d ≡ suc d - 1 = omega arith in
      subst (λ k. back ≡ ending_codes (opened (open_of k false) front)) e (law d AfterElement (λ f. refl) r)

  some : {X : Type 0} (d : ℕ) → suc d ≡ 0 → X
  some d e = absurd (omega arith)

  rest_is : (front back : List Code) → nodes back ≡ 0 → Law front back
  unfolding tag_of
  rest_is [] back e d pl t r = all_ends back d pl t r e
  rest_is (c ∷ front) back e zero pl t r = absurd (cc)
  rest_is (Code.Attr j s ∷ front) back e (suc d) (Tag k) t r = rest_is front back e (suc d) (Tag (j + 1)) (some d) r.2
  rest_is (Code.Body ∷ front) back e (suc d) (Tag k) t r = rest_is front back e (suc d) Fresh (some d) r
  rest_is (Code.Opening i ∷ front) back e (suc d) Fresh t r = deeper front back (rest_is front back e) d r.1
  rest_is (Code.Opening i ∷ front) back e (suc d) AfterText t r = deeper front back (rest_is front back e) d r.1
  rest_is (Code.Opening i ∷ front) back e (suc d) AfterElement t r = deeper front back (rest_is front back e) d r.1
  rest_is (Code.Chars s ∷ front) back e (suc d) Fresh t r = rest_is front back e (suc d) AfterText (some d) r.2
  rest_is (Code.Chars s ∷ front) back e (suc d) AfterElement t r = rest_is front back e (suc d) AfterText (some d) r.2
  rest_is (Code.Closing ∷ front) back e (suc d) Fresh t r = higher front back (rest_is front back e) d r
  rest_is (Code.Closing ∷ front) back e (suc d) AfterText t r = higher front back (rest_is front back e) d r
  rest_is (Code.Closing ∷ front) back e (suc d) AfterElement t r = higher front back (rest_is front back e) d r
  rest_is (c ∷ front) back e (suc d) pl t r = absurd r

  root_rest : (front back : List Code) → nodes back ≡ 0 → ReadsRoot g u (front ++ back) → back ≡ ending_codes (open_at front)
  unfolding tag_of
  root_rest [] [] e r = absurd r
  root_rest [] (Code.Opening i ∷ back) e r = no_node (nodes back) e
  root_rest [] (c ∷ back) e r = absurd r
  root_rest (Code.Opening i ∷ front) back e r = rest_is front back e 1 (Tag 0) (some 0) r.1
  root_rest (c ∷ front) back e r = absurd r

  -- what follows a beginning without a node
  pub tail_is : BreaksNoRule g → IsSimpleForm g → (n : ℕ) (front back : List Code) → AreListedCodes g u n (front ++ back) → nodes back ≡ 0 →
      back ≡ ending_codes (open_at front)
  tail_is unbroken simple n front back a e =
      let refs = start_refs g.start simple.start (λ w. unbroken 6 (inr (inl (refl, w)))) in
      root_rest front back e (reads_root g u g.start refs (front ++ back) a.accepts a.in_range)
