-- Loops of references: lists of parts that are closed, and what has a simple form leads to no loop.
use Rattle.std.proofs.Common.{◌≡◌, ℕ, ◌⊎◌, inl, inr, List, [], ◌∷◌, ◌++◌, refl, sym, ap, subst}
use Rattle.std.specs.Prelude.{flat_map}
use Rattle.std.specs.List.{AllByRecursion}
use Rattle.derivative_laws.proofs.Members.{IsIn, is_in, contained, in_append}
use Rattle.grammar_laws.specs.Trees.{Pattern}
use Rattle.grammar_laws.specs.Files.{Full}
use Rattle.grammar_laws.specs.Trees as full
use Rattle.simple_form_laws.specs.Parts.{Part, part}
use Rattle.simple_form_laws.specs.Forms.{tree}
use Rattle.simple_form_laws.specs.Faults.{leads, inside, IsVisited, whole, lead, content, LeadsTo, once, more, IsReferenceAt, IsLoop}

pub all_in : {X : Type 0} (P : X → Type 0) (x : X) (xs : List X) → AllByRecursion P xs → IsIn x xs → P x
all_in P x [] a h = absurd h
all_in P x (y ∷ ys) a (inl e) = subst P (sym e) a.0
all_in P x (y ∷ ys) a (inr h) = all_in P x ys a.1 h

-- the place of a reference
abbrev pub reference_places : Pattern → List ℕ
reference_places (full.ref name at) = at ∷ []
reference_places (full.parent name at) = at ∷ []
reference_places p = []

module _ (W : List Part) where
  -- all that the part leads to stands in the list
  abbrev pub LeadIn : Part → Type 0
  LeadIn x = AllByRecursion (λ y. IsIn y W) (leads x.scope x.pattern)

  -- so does the content of an element
  abbrev pub StayIn : Part → Type 0
  StayIn x = LeadIn x × AllByRecursion (λ y. IsIn y W) (inside x.scope x.pattern)

  pub leads_into : {x y : Part} → AllByRecursion LeadIn W → LeadIn x → LeadsTo x y → IsIn y W
  leads_into {x} {y} c l (once h) = all_in (λ z. IsIn z W) y (leads x.scope x.pattern) l (is_in y (leads x.scope x.pattern) h)
  leads_into {x} c l (more {y = z} h k) =
      leads_into c (all_in LeadIn z W c (all_in (λ z. IsIn z W) z (leads x.scope x.pattern) l (is_in z (leads x.scope x.pattern) h))) k

  pub visited_in : {p : Pattern} {x : Part} → AllByRecursion StayIn W → IsIn (part [] p) W → IsVisited p x → IsIn x W
  visited_in c s whole = s
  visited_in c s (lead {x = x} {y = y} v h) =
      all_in (λ z. IsIn z W) y (leads x.scope x.pattern) (all_in StayIn x W c (visited_in c s v)).0 (is_in y (leads x.scope x.pattern) h)
  visited_in c s (content {x = x} {y = y} v h) =
      all_in (λ z. IsIn z W) y (inside x.scope x.pattern) (all_in StayIn x W c (visited_in c s v)).1 (is_in y (inside x.scope x.pattern) h)

reference_place : (at : ℕ) (p : Pattern) → IsReferenceAt at p → IsIn at (reference_places p)
reference_place at p (name, inl e) = subst (λ q. IsIn at (reference_places q)) (sym e) (inl refl)
reference_place at p (name, inr e) = subst (λ q. IsIn at (reference_places q)) (sym e) (inl refl)

pub no_reference : (at : ℕ) (p : Pattern) → reference_places p ≡ [] → IsReferenceAt at p → ⊥
no_reference at p e r = subst (λ xs. IsIn at xs) e (reference_place at p r)

-- the places of the references of a list of parts
pub references_in : (W : List Part) (at : ℕ) (x : Part) → IsIn x W → IsReferenceAt at x.pattern → IsIn at (flat_map (λ x. reference_places x.pattern) W)
references_in [] at x h r = absurd h
references_in (y ∷ ys) at x (inl e) r = in_left (reference_places y.pattern) (flat_map (λ x. reference_places x.pattern) ys) (subst (λ p. IsIn at (reference_places p)) (ap (λ x. x.pattern) e) (reference_place at x.pattern r))
  where
    in_left : (xs ys : List ℕ) → IsIn at xs → IsIn at (xs ++ ys)
    in_left [] ys h = absurd h
    in_left (x ∷ xs) ys (inl e) = inl e
    in_left (x ∷ xs) ys (inr h) = inr (in_left xs ys h)
references_in (y ∷ ys) at x (inr h) r = in_right (reference_places y.pattern) (flat_map (λ x. reference_places x.pattern) ys) (references_in ys at x h r)
  where
    in_right : (xs ys : List ℕ) → IsIn at ys → IsIn at (xs ++ ys)
    in_right [] ys h = h
    in_right (x ∷ xs) ys h = inr (in_right xs ys h)

-- where all that can be reached stands in S or in W, what W leads to stands in W, and so does what the references of S lead to, a loop is at a reference of W
pub loop_in : (f : Full) (S W : List Part) (at : ℕ) →
    AllByRecursion (StayIn (S ++ W)) (S ++ W) → IsIn (part [] (tree f)) (S ++ W) →
    AllByRecursion (λ x. (n : ℕ) → IsReferenceAt n x.pattern → LeadIn W x) S → AllByRecursion (LeadIn W) W →
    IsLoop f at → IsIn at (flat_map (λ x. reference_places x.pattern) W)
loop_in f S W at stay begin out closed h =
    references_in W at h.place (go (in_append h.place S W (visited_in (S ++ W) stay begin h.visited))) h.reference
  where
    go : IsIn h.place S ⊎ IsIn h.place W → IsIn h.place W
    go (inl i) = leads_into W closed (all_in (λ x. (n : ℕ) → IsReferenceAt n x.pattern → LeadIn W x) h.place S out i at h.reference) h.back
    go (inr i) = i

-- steps to a part that is named
pub visit : {p : Pattern} {x : Part} (y : Part) → IsVisited p x → IsIn y (leads x.scope x.pattern) → IsVisited p y
visit {p} {x} y v i = lead v (contained y (leads x.scope x.pattern) i)

pub step_to : {x z : Part} (y : Part) → IsIn y (leads x.scope x.pattern) → LeadsTo y z → LeadsTo x z
step_to {x} {z} y i k = more (contained y (leads x.scope x.pattern) i) k

pub last_step : {x : Part} (y : Part) → IsIn y (leads x.scope x.pattern) → LeadsTo x y
last_step {x} y i = once (contained y (leads x.scope x.pattern) i)

-- a reference doesn't lead back to itself where what it leads to stands in a closed list without a reference at its place
pub no_way_back : (W : List Part) (x : Part) (at : ℕ) → AllByRecursion (LeadIn W) W → LeadIn W x → IsReferenceAt at x.pattern → (IsIn at (flat_map (λ y. reference_places y.pattern) W) → ⊥) → LeadsTo x x → ⊥
no_way_back W x at closed l r none h = none (references_in W at x (leads_into W closed l h) r)
