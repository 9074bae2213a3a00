-- The least members of two patterns, taken one by one, and joined again from the last on.
use Rattle.std.proofs.Common.{◌≡◌, ℕ, ◌<◌, ◌⊎◌, inl, inr, List, [], ◌∷◌, ◌++◌, length, refl, sym, ◌∙◌, ap, subst, arith}
use Rattle.std.specs.List.{AllByRecursion}
use Rattle.std.specs.declared.cmp.Ordering.TheVariants.{Less, Equal, Greater}
use Rattle.rng_model.specs.Patterns.{Pattern, not_allowed, pattern_cmp}
use Rattle.rng_model.specs.Constructors.{members, of_members, choice_of}
use Rattle.pattern_intern.specs.declared.id.PatternId.{PatternId}
use Rattle.pattern_intern.specs.Ordered.{IsMember, IsBelow, Ascends, IsOrdered, IsSplit}
use Rattle.pattern_intern.specs.Stored.{Stored, count, tree_at, Extends}
use Rattle.pattern_intern.specs.Schemas.{AreRefsBelow}
use Rattle.pattern_intern.specs.Members.{AreIn, AreMembers, IsLeast, IsMerged, trees_at}
use Rattle.pattern_intern.proofs.Merging.{merges, nothings, ordered, members_of}

listed : (x f r : Pattern) → x ≡ of_members (f ∷ members r) → IsMember f → IsOrdered r → members x ≡ f ∷ members r
listed x f r e m o = ap members e ∙ members_of (f ∷ members r) (m, o.each)

first_member : (p f o : Pattern) → IsOrdered p → IsSplit p f o → IsMember f
first_member p f o hp sp = (subst (λ l. AllByRecursion IsMember l) sp.list hp.each).0

module _ (s : Stored) (a b p ps q qs : ℕ) (ha : IsOrdered (tree_at s a)) (hb : IsOrdered (tree_at s b)) (ho : IsOrdered (tree_at s ps)) (ho' : IsOrdered (tree_at s qs)) (sp : IsSplit (tree_at s a) (tree_at s p) (tree_at s ps)) (sq : IsSplit (tree_at s b) (tree_at s q) (tree_at s qs)) (la : a < count s) (lb : b < count s) (lp : p < count s) (lps : ps < count s) (lq : q < count s) (lqs : qs < count s) where
  pub least_less : pattern_cmp (tree_at s p) (tree_at s q) ≡ Less → IsLeast s a b p ps b
  least_less e = record {
    first_in = lp;
    left_in = lps;
    right_in = lb;
    list = listed _ _ _ ((merges _ _ _ _ _ _ ha hb ho ho' sp sq).less e).0 (first_member _ _ _ ha sp) (ordered _ _ ho hb);
    fewer = let x = ap length sp.list in omega (arith, x);
  }

  pub least_equal : pattern_cmp (tree_at s p) (tree_at s q) ≡ Equal → IsLeast s a b p ps qs
  least_equal e = record {
    first_in = lp;
    left_in = lps;
    right_in = lqs;
    list = listed _ _ _ ((merges _ _ _ _ _ _ ha hb ho ho' sp sq).equal e).0 (first_member _ _ _ ha sp) (ordered _ _ ho ho');
    fewer = let x = ap length sp.list in let y = ap length sq.list in omega (arith, x, y);
  }

  pub least_greater : pattern_cmp (tree_at s p) (tree_at s q) ≡ Greater → IsLeast s a b q a qs
  least_greater e = record {
    first_in = lq;
    left_in = la;
    right_in = lqs;
    list = listed _ _ _ ((merges _ _ _ _ _ _ ha hb ho ho' sp sq).greater e).0 (first_member _ _ _ hb sq) (ordered _ _ ha ho');
    fewer = let y = ap length sq.list in omega (arith, y);
  }

-- the least members are taken, and those of a and b are left
pub record IsMerging (s : Stored) (p q : Pattern) (taken : List PatternId) (a b : ℕ) : Type 0 where
  pub within : AreIn s taken
  pub left_in : a < count s
  pub right_in : b < count s
  pub list : members (choice_of p q) ≡ trees_at s taken ++ members (choice_of (tree_at s a) (tree_at s b))

pub merging_start : (s : Stored) (a b : ℕ) → a < count s → b < count s → IsMerging s (tree_at s a) (tree_at s b) [] a b
merging_start s a b l m = record { within = record { each = tt }; left_in = l; right_in = m; list = refl }

pub all_push : {X : Type 0} (K : X → Type 0) (xs : List X) (x : X) → AllByRecursion K xs → K x → AllByRecursion K (xs ++ x ∷ [])
all_push K [] x h k = (k, tt)
all_push K (y ∷ xs) x h k = (h.0, all_push K xs x h.1 k)

-- one more at the end
trees-push : (s : Stored) (ids : List PatternId) (x : PatternId) (ps : List Pattern) → trees_at s (ids ++ x ∷ []) ++ ps ≡ trees_at s ids ++ tree_at s x.0 ∷ ps
trees-push s [] x ps = refl
trees-push s (y ∷ ids) x ps = ap (λ l. tree_at s y.0 ∷ l) (trees-push s ids x ps)

pub merging_push : (s : Stored) (p q : Pattern) (taken : List PatternId) (a b : ℕ) (first : PatternId) (a' b' : ℕ) → IsMerging s p q taken a b → IsLeast s a b first.0 a' b' → IsMerging s p q (taken ++ first ∷ []) a' b'
merging_push s p q taken a b first a' b' m h = record {
  within = record { each = all_push (λ id. id.0 < count s) taken first m.within.each h.first_in };
  left_in = h.left_in;
  right_in = h.right_in;
  list = m.list ∙ ap (λ l. trees_at s taken ++ l) h.list ∙ sym (trees-push s taken first (members (choice_of (tree_at s a') (tree_at s b'))));
}

module _ (s : Stored) (p q : Pattern) (taken : List PatternId) (a b : ℕ) (hp : IsOrdered p) (hq : IsOrdered q) (m : IsMerging s p q taken a b) where
  merged_by : (rest : ℕ) → rest < count s → choice_of (tree_at s a) (tree_at s b) ≡ tree_at s rest → IsMerged s p q taken rest
  merged_by rest l e =
      let o = ordered p q hp hq in
      let f = m.list ∙ ap (λ x. trees_at s taken ++ members x) e in
      record { within = m.within; rest_in = l; list = f; members = record { ascending = subst Ascends f o.ascending; each = subst (λ ps. AllByRecursion IsMember ps) f o.each } }

  pub merged_left : IsOrdered (tree_at s b) → tree_at s a ≡ not_allowed → IsMerged s p q taken b
  merged_left o e = merged_by b m.right_in (ap (λ x. choice_of x (tree_at s b)) e ∙ (nothings (tree_at s b) o).left)

  pub merged_right : IsOrdered (tree_at s a) → tree_at s b ≡ not_allowed → IsMerged s p q taken a
  merged_right o e = merged_by a m.left_in (ap (λ x. choice_of (tree_at s a) x) e ∙ (nothings (tree_at s a) o).right)

-- what is split isn't notAllowed
pub nothing_else : (p q f o : Pattern) → IsSplit p f o → (p ≡ not_allowed) ⊎ (q ≡ not_allowed) → q ≡ not_allowed
nothing_else p q f o sp (inr e) = e
nothing_else p q f o sp (inl e) = let x = sym (ap members e) ∙ sp.list in absurd (cc)

-- the last members of a list of members are joined
pub record IsJoining (old s : Stored) (all : List Pattern) (taken : List PatternId) (rest : ℕ) : Type 0 where
  pub kept : Extends old s
  pub within : AreIn old taken
  pub rest_in : rest < count s
  pub list : trees_at old taken ++ members (tree_at s rest) ≡ all
  pub refs : (n : ℕ) → AreRefsBelow n old → AreRefsBelow n s
  pub classes : s.classes ≡ old.classes
  pub literals : s.literals ≡ old.literals

ascends_last : (ps : List Pattern) (p : Pattern) (qs : List Pattern) → Ascends (ps ++ p ∷ qs) → IsBelow p qs
ascends_last [] p qs a = a.0
ascends_last (x ∷ ps) p qs a = ascends_last ps p qs a.1

all_last : {X : Type 0} (K : X → Type 0) (xs : List X) (x : X) (ys : List X) → AllByRecursion K (xs ++ x ∷ ys) → K x
all_last K [] x ys h = h.0
all_last K (y ∷ xs) x ys h = all_last K xs x ys h.1

all_front : {X : Type 0} (K : X → Type 0) (xs : List X) (x : X) → AllByRecursion K (xs ++ x ∷ []) → AllByRecursion K xs
all_front K [] x h = tt
all_front K (y ∷ xs) x h = (h.0, all_front K xs x h.1)

all_end : {X : Type 0} (K : X → Type 0) (xs ys : List X) → AllByRecursion K (xs ++ ys) → AllByRecursion K ys
all_end K [] ys h = h
all_end K (x ∷ xs) ys h = all_end K xs ys h.1

-- the last of those taken is the next to be joined
module _ (old s : Stored) (all : List Pattern) (taken front : List PatternId) (first : PatternId) (rest : ℕ) (h : IsJoining old s all taken rest) (m : AreMembers all) (e : taken ≡ front ++ first ∷ []) where
  whole : trees_at old front ++ tree_at old first.0 ∷ members (tree_at s rest) ≡ all
  whole = sym (trees-push old front first (members (tree_at s rest))) ∙ ap (λ l. trees_at old l ++ members (tree_at s rest)) (sym e) ∙ h.list

  first_old : first.0 < count old
  first_old = all_last (λ id. id.0 < count old) front first [] (subst (λ l. AllByRecursion (λ id. id.0 < count old) l) e h.within.each)

  pub first_in : first.0 < count s
  first_in = let l = first_old in let k = h.kept.longer in omega (arith, l, k)

  same : tree_at s first.0 ≡ tree_at old first.0
  same = h.kept.kept first.0 first_old

  pub is_member : IsMember (tree_at s first.0)
  is_member = subst (λ p. IsMember p) (sym same) (all_last IsMember (trees_at old front) (tree_at old first.0) (members (tree_at s rest)) (subst (λ l. AllByRecursion IsMember l) (sym whole) m.each))

  pub is_below : IsBelow (tree_at s first.0) (members (tree_at s rest))
  is_below = subst (λ p. IsBelow p (members (tree_at s rest))) (sym same) (ascends_last (trees_at old front) (tree_at old first.0) (members (tree_at s rest)) (subst Ascends (sym whole) m.ascending))

  pub joined : (t : Stored) (new : ℕ) → new < count t → tree_at t new ≡ of_members (tree_at s first.0 ∷ members (tree_at s rest)) → Extends old t → ((n : ℕ) → AreRefsBelow n s → AreRefsBelow n t) → (t.classes ≡ s.classes) × (t.literals ≡ s.literals) → IsJoining old t all front new
  joined t new l made kept refs stays =
      let each : AllByRecursion IsMember (tree_at old first.0 ∷ members (tree_at s rest)) = all_end IsMember (trees_at old front) (tree_at old first.0 ∷ members (tree_at s rest)) (subst (λ l. AllByRecursion IsMember l) (sym whole) m.each) in
      record {
        kept = kept;
        within = record { each = all_front (λ id. id.0 < count old) front first (subst (λ l. AllByRecursion (λ id. id.0 < count old) l) e h.within.each) };
        rest_in = l;
        list = ap (λ p. trees_at old front ++ members p) (made ∙ ap (λ p. of_members (p ∷ members (tree_at s rest))) same) ∙ ap (λ l. trees_at old front ++ l) (members_of (tree_at old first.0 ∷ members (tree_at s rest)) each) ∙ whole;
        refs = λ n a. refs n (h.refs n a);
        classes = stays.0 ∙ h.classes;
        literals = stays.1 ∙ h.literals;
      }

-- nothing is left to be joined
pub all_joined : (old s : Stored) (all : List Pattern) (taken : List PatternId) (rest : ℕ) → IsJoining old s all taken rest → taken ≡ [] → IsOrdered (tree_at s rest) → tree_at s rest ≡ of_members all
all_joined old s all taken rest h e o = sym o.whole ∙ ap of_members (ap (λ l. trees_at old l ++ members (tree_at s rest)) (sym e) ∙ h.list)
