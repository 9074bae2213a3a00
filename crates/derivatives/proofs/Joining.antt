-- The results of a choice's members are joined from the last to the first.
use Rattle.std.proofs.Common.{◌≡◌, ℕ, ◌<◌, List, [], ◌∷◌, ◌++◌, refl, sym, ◌∙◌, ap, subst, arith}
use Rattle.rng_model.specs.Patterns.{Pattern, choice}
use Rattle.rng_model.specs.Constructors.{choice_of}
use Rattle.pattern_intern.specs.Stored.{Stored, Extends, count, tree_at}
use Rattle.pattern_intern.specs.declared.id.PatternId.{PatternId}
use Rattle.derivatives.specs.Spines.{spine_tree, spine_result, AreBelow, IsSpine, IsChoicewise, IsJoined}
use Rattle.derivatives.proofs.Extending.{extends_trans}

-- the whole's result is that of the spine
spine_whole : (f : Pattern → Pattern) → IsChoicewise f → (s : Stored) (ids : List PatternId) (p : Pattern) → spine_result f s ids (f p) ≡ f (spine_tree s ids p)
spine_whole f h s [] p = refl
spine_whole f h s (id ∷ ids) p = ap (λ x. choice_of (f (tree_at s id.0)) x) (spine_whole f h s ids p) ∙ sym (h.choices (tree_at s id.0) (spine_tree s ids p))

spine_last : (f : Pattern → Pattern) (s : Stored) (ids : List PatternId) (id : PatternId) (p : Pattern) →
    spine_result f s (ids ++ id ∷ []) p ≡ spine_result f s ids (choice_of (f (tree_at s id.0)) p)
spine_last f s [] id p = refl
spine_last f s (x ∷ ids) id p = ap (λ y. choice_of (f (tree_at s x.0)) y) (spine_last f s ids id p)

below_front : (n : ℕ) (ids : List PatternId) (id : PatternId) → AreBelow n (ids ++ id ∷ []) → AreBelow n ids
below_front n [] id h = tt
below_front n (x ∷ ids) id h = (h.0, below_front n ids id h.1)

below_last : (n : ℕ) (ids : List PatternId) (id : PatternId) → AreBelow n (ids ++ id ∷ []) → id.0 < n
below_last n [] id h = h.0
below_last n (x ∷ ids) id h = below_last n ids id h.1

-- the last pattern's result is made
pub joins_last : (f : Pattern → Pattern) → IsChoicewise f → (old now : Stored) (id : ℕ) (firsts : List PatternId) (last made : PatternId) →
    IsSpine old id firsts last → Extends old now → made.0 < count now → tree_at now made.0 ≡ f (tree_at old last.0) → IsJoined f old id firsts made now
joins_last f h old now id firsts last made sp e w m = record {
  kept = e;
  below = sp.below;
  within = w;
  tree = ap (spine_result f old firsts) m ∙ spine_whole f h old firsts (tree_at old last.0) ∙ ap f (sym sp.tree);
}

-- the member whose turn it is
pub next_below : (f : Pattern → Pattern) (old now : Stored) (id : ℕ) (left rest : List PatternId) (member made : PatternId) →
    IsJoined f old id left made now → left ≡ rest ++ member ∷ [] → member.0 < id
next_below f old now id left rest member made j e = below_last id rest member (subst (AreBelow id) e j.below)

-- its result is made and joined
pub joins_next : (f : Pattern → Pattern) (old now later last : Stored) (id : ℕ) (left rest : List PatternId) (member made result joined : PatternId) →
    IsJoined f old id left made now → left ≡ rest ++ member ∷ [] → id < count old →
    Extends now later → tree_at later result.0 ≡ f (tree_at now member.0) →
    Extends later last → joined.0 < count last → tree_at last joined.0 ≡ choice_of (tree_at later result.0) (tree_at later made.0) →
    IsJoined f old id rest joined last
joins_next f old now later last id left rest member made result joined j e inside g m x w t =
    let b = subst (AreBelow id) e j.below in
    let l = below_last id rest member b in
    let k = j.kept in
    let same : tree_at now member.0 ≡ tree_at old member.0 = k.kept member.0 (omega (arith, l, inside)) in
    let was : tree_at later made.0 ≡ tree_at now made.0 = g.kept made.0 j.within in
    let now_is : tree_at last joined.0 ≡ choice_of (f (tree_at old member.0)) (tree_at now made.0) =
    t ∙ ap (λ y. choice_of y (tree_at later made.0)) (m ∙ ap f same) ∙ ap (choice_of (f (tree_at old member.0))) was in
    record {
      kept = extends_trans old now last k (extends_trans now later last g x);
      below = below_front id rest member b;
      within = w;
      tree = ap (spine_result f old rest) now_is ∙ sym (spine_last f old rest member (tree_at now made.0))
          ∙ sym (ap (λ ids. spine_result f old ids (tree_at now made.0)) e) ∙ j.tree;
    }

-- all are joined
pub joined_all : (f : Pattern → Pattern) (old now : Stored) (id : ℕ) (left : List PatternId) (made : PatternId) → IsJoined f old id left made now → left ≡ [] →
    tree_at now made.0 ≡ f (tree_at old id)
joined_all f old now id left made j e = sym (ap (λ ids. spine_result f old ids (tree_at now made.0)) e) ∙ j.tree

spine_snoc : (s : Stored) (ids : List PatternId) (id : PatternId) (p : Pattern) → spine_tree s (ids ++ id ∷ []) p ≡ spine_tree s ids (choice (tree_at s id.0) p)
spine_snoc s [] id p = refl
spine_snoc s (x ∷ ids) id p = ap (λ y. choice (tree_at s x.0) y) (spine_snoc s ids id p)

below_snoc : (n : ℕ) (ids : List PatternId) (id : PatternId) → AreBelow n ids → id.0 < n → AreBelow n (ids ++ id ∷ [])
below_snoc n [] id h l = (l, tt)
below_snoc n (x ∷ ids) id h l = (h.0, below_snoc n ids id h.1 l)

-- the last pattern is a choice: its member joins the others
pub spine_longer : (s : Stored) (id : ℕ) (firsts more : List PatternId) (last member rest : PatternId) → IsSpine s id firsts last →
    more ≡ firsts ++ member ∷ [] → member.0 < last.0 → rest.0 < last.0 → tree_at s last.0 ≡ choice (tree_at s member.0) (tree_at s rest.0) → IsSpine s id more rest
spine_longer s id firsts more last member rest sp e m r t =
    let l = sp.last_below in
    record {
      below = subst (AreBelow id) (sym e) (below_snoc id firsts member sp.below (omega (arith, m, l)));
      last_below = omega (arith, r, l);
      tree = sp.tree ∙ ap (spine_tree s firsts) t ∙ sym (spine_snoc s firsts member (tree_at s rest.0)) ∙ ap (λ ids. spine_tree s ids (tree_at s rest.0)) (sym e);
    }

-- one member, and the last pattern
pub spine_begins : (s : Stored) (id : ℕ) (none firsts : List PatternId) (first others : PatternId) → none ≡ [] → firsts ≡ none ++ first ∷ [] →
    first.0 < id → others.0 < id → tree_at s id ≡ choice (tree_at s first.0) (tree_at s others.0) → IsSpine s id firsts others
spine_begins s id none firsts first others n e l m t =
    let f : firsts ≡ first ∷ [] = e ∙ ap (λ ids. ids ++ first ∷ []) n in
    record { below = subst (AreBelow id) (sym f) (l, tt); last_below = m; tree = subst (λ ids. tree_at s id ≡ spine_tree s ids (tree_at s others.0)) (sym f) t }
