-- A pattern that is made again of its parts is the pattern with new numbers.
use Rattle.std.proofs.Common.{◌≡◌, ℕ, zero, suc, ◌+◌, ◌<◌, ◌≤◌, ◌⊎◌, inl, inr, Bool, true, List, [], ◌∷◌, ◌++◌, Some, length, slice_get, refl, sym, ◌∙◌, ap, subst, arith, length-append}
use Rattle.std.specs.Prelude.{Contains}
use Rattle.std.proofs.lemmas.Option.{same_Some, slice_get_within}
use Rattle.rng_model.specs.Kinds.{Kind}
use Rattle.rng_model.specs.Classes.{Class}
use Rattle.rng_model.specs.Patterns.{Pattern, not_allowed, empty, text, data_except, attribute, one_or_more, choice, group, interleave}
use Rattle.rng_model.specs.Constructors.{choice_of, group_of, interleave_of, one_or_more_of, attribute_of, data_of}
use Rattle.simple_form_laws.specs.Forms.{new_number, renumbered, RefsIn}
use Rattle.simple_form_laws.proofs.Kept.{choice-kept}
use Rattle.simple_form_laws.proofs.Renumbering.{group-renumbered, interleave-renumbered, one_or_more-renumbered, attribute-renumbered, data-renumbered}
use Rattle.pattern_intern.specs.Schemas.{AreRefsBelow, HasRefsBelow}
use Rattle.pattern_intern.specs.Stored.{Stored, stored, count, tree_at, Extends}
use Rattle.pattern_intern.specs.declared.id.PatternId.{PatternId}
use Rattle.kept_elements.specs.Wanted.{IsPartOf, IsWhole}
use Rattle.kept_elements.specs.Marking.{IsMarked}
use Rattle.kept_elements.specs.Renumbering.{IsRemade, IsListed, IsClosedUnder, AreRemade}
use Rattle.kept_elements.specs.Numbering.{AreMade}
use Rattle.kept_elements.proofs.Lists.{get_old, get_last, same_or_not}

module _ (h : ℕ → ℕ) where
  one : (make node : Pattern → Pattern) (t p u z : Pattern) → t ≡ node p → make p ≡ node p → renumbered h (make p) ≡ make (renumbered h p) → u ≡ renumbered h p → z ≡ make u → z ≡ renumbered h t
  one make node t p u z e w law f k = k ∙ ap make f ∙ sym law ∙ ap (renumbered h) (w ∙ sym e)

  two : (make node : Pattern → Pattern → Pattern) (t p q u v z : Pattern) → t ≡ node p q → make p q ≡ node p q → renumbered h (make p q) ≡ make (renumbered h p) (renumbered h q) →
      u ≡ renumbered h p → v ≡ renumbered h q → z ≡ make u v → z ≡ renumbered h t
  two make node t p q u v z e w law f d k = k ∙ (λ i. make (f i) (d i)) ∙ sym law ∙ ap (renumbered h) (w ∙ sym e)

module _ (old pool : Stored) (kept : List ℕ) (made : List PatternId) where
  pub listed_within : (i : ℕ) → IsListed old pool kept made i → i < length made
  listed_within i l = slice_get_within made i l.0 l.1

  pub listed_below : (i : ℕ) (x : PatternId) → IsListed old pool kept made i → slice_get made i ≡ Some x → x.0 < count pool
  listed_below i x l e = subst (λ y. y.0 < count pool) (same_Some l.0 x (sym l.1 ∙ e)) l.2.within

  listed_is : (i : ℕ) (x : PatternId) → IsListed old pool kept made i → slice_get made i ≡ Some x → tree_at pool x.0 ≡ renumbered (new_number kept) (tree_at old i)
  listed_is i x l e = subst (λ y. tree_at pool y.0 ≡ renumbered (new_number kept) (tree_at old i)) (same_Some l.0 x (sym l.1 ∙ e)) l.2.is

  module _ (new : Stored) (id : ℕ) (z : PatternId) (within : z.0 < count new) where
    pub leaf_remade : (t : Pattern) → tree_at old id ≡ t → tree_at new z.0 ≡ renumbered (new_number kept) t → IsRemade old new kept id z
    leaf_remade t e f = record { within = within; is = f ∙ ap (renumbered (new_number kept)) (sym e) }

    pub except_remade : (k : Kind) (a : ℕ) (x : PatternId) → tree_at old id ≡ data_except k (tree_at old a) → IsWhole (tree_at old id) → IsListed old pool kept made a → slice_get made a ≡ Some x →
        tree_at new z.0 ≡ data_of k (tree_at pool x.0) → IsRemade old new kept id z
    except_remade k a x e w l r f = record {
      within = within;
      is = one (new_number kept) (data_of k) (data_except k) (tree_at old id) (tree_at old a) (tree_at pool x.0) (tree_at new z.0) e (subst IsWhole e w).1 (data-renumbered (new_number kept) k (tree_at old a)) (listed_is a x l r) f;
    }

    pub attribute_remade : (c : Class) (a : ℕ) (x : PatternId) → tree_at old id ≡ attribute c (tree_at old a) → IsWhole (tree_at old id) → IsListed old pool kept made a → slice_get made a ≡ Some x →
        tree_at new z.0 ≡ attribute_of c (tree_at pool x.0) → IsRemade old new kept id z
    attribute_remade c a x e w l r f = record {
      within = within;
      is = one (new_number kept) (attribute_of c) (attribute c) (tree_at old id) (tree_at old a) (tree_at pool x.0) (tree_at new z.0) e (subst IsWhole e w).1 (attribute-renumbered (new_number kept) c (tree_at old a)) (listed_is a x l r) f;
    }

    pub more_remade : (a : ℕ) (x : PatternId) → tree_at old id ≡ one_or_more (tree_at old a) → IsWhole (tree_at old id) → IsListed old pool kept made a → slice_get made a ≡ Some x →
        tree_at new z.0 ≡ one_or_more_of (tree_at pool x.0) → IsRemade old new kept id z
    more_remade a x e w l r f = record {
      within = within;
      is = one (new_number kept) one_or_more_of one_or_more (tree_at old id) (tree_at old a) (tree_at pool x.0) (tree_at new z.0) e (subst IsWhole e w).1 (one_or_more-renumbered (new_number kept) (tree_at old a)) (listed_is a x l r) f;
    }

    pub group_remade : (a b : ℕ) (x y : PatternId) → tree_at old id ≡ group (tree_at old a) (tree_at old b) → IsWhole (tree_at old id) → IsListed old pool kept made a → IsListed old pool kept made b →
        slice_get made a ≡ Some x → slice_get made b ≡ Some y → tree_at new z.0 ≡ group_of (tree_at pool x.0) (tree_at pool y.0) → IsRemade old new kept id z
    group_remade a b x y e w l m r s f = record {
      within = within;
      is = two (new_number kept) group_of group (tree_at old id) (tree_at old a) (tree_at old b) (tree_at pool x.0) (tree_at pool y.0) (tree_at new z.0) e (subst IsWhole e w).2
          (group-renumbered (new_number kept) (tree_at old a) (tree_at old b)) (listed_is a x l r) (listed_is b y m s) f;
    }

    pub interleave_remade : (a b : ℕ) (x y : PatternId) → tree_at old id ≡ interleave (tree_at old a) (tree_at old b) → IsWhole (tree_at old id) → IsListed old pool kept made a → IsListed old pool kept made b →
        slice_get made a ≡ Some x → slice_get made b ≡ Some y → tree_at new z.0 ≡ interleave_of (tree_at pool x.0) (tree_at pool y.0) → IsRemade old new kept id z
    interleave_remade a b x y e w l m r s f = record {
      within = within;
      is = two (new_number kept) interleave_of interleave (tree_at old id) (tree_at old a) (tree_at old b) (tree_at pool x.0) (tree_at pool y.0) (tree_at new z.0) e (subst IsWhole e w).2
          (interleave-renumbered (new_number kept) (tree_at old a) (tree_at old b)) (listed_is a x l r) (listed_is b y m s) f;
    }

    pub choice_remade : RefsIn (Contains kept) (tree_at old id) → (a b : ℕ) (x y : PatternId) → tree_at old id ≡ choice (tree_at old a) (tree_at old b) → IsWhole (tree_at old id) → IsListed old pool kept made a →
        IsListed old pool kept made b → slice_get made a ≡ Some x → slice_get made b ≡ Some y → tree_at new z.0 ≡ choice_of (tree_at pool x.0) (tree_at pool y.0) → IsRemade old new kept id z
    choice_remade refs a b x y e w l m r s f =
        let q = subst (RefsIn (Contains kept)) e refs in
        record {
          within = within;
          is = two (new_number kept) choice_of choice (tree_at old id) (tree_at old a) (tree_at old b) (tree_at pool x.0) (tree_at pool y.0) (tree_at new z.0) e (subst IsWhole e w).2
              (choice-kept kept (tree_at old a) (tree_at old b) q.0 q.1) (listed_is a x l r) (listed_is b y m s) f;
        }

-- a part of a pattern, where the pattern's tree is known
pub its_part : (s : Stored) (id a : ℕ) (t : Pattern) → tree_at s id ≡ t → IsPartOf (tree_at s a) t → IsPartOf (tree_at s a) (tree_at s id)
its_part s id a t e h = subst (IsPartOf (tree_at s a)) (sym e) h

pub first_refs : (n : ℕ) (s : Stored) → s ≡ stored (not_allowed ∷ empty ∷ text ∷ []) [] [] → AreRefsBelow n s
first_refs n s e = subst (AreRefsBelow n) (sym e) (record { each = go })
  where
    go : (id : ℕ) → id < 3 → HasRefsBelow n (tree_at (stored (not_allowed ∷ empty ∷ text ∷ []) [] []) id)
    go zero l = tt
    go (suc zero) l = tt
    go (suc (suc zero)) l = tt
    go (suc (suc (suc id))) l = absurd (omega arith)

module _ (old : Stored) (kept : List ℕ) (marks : List Bool) where
  pub made_none : (new : Stored) → AreRefsBelow (length kept) new → AreMade old new kept marks 0 []
  made_none new r = record { each = refl; listed = λ j l m. absurd (omega arith); refs = r }

  pub made_more : (new next : Stored) (i : ℕ) (made : List PatternId) (x : PatternId) → AreMade old new kept marks i made → Extends new next → (AreRefsBelow (length kept) new → AreRefsBelow (length kept) next) →
      (IsMarked marks i → IsRemade old next kept i x) → AreMade old next kept marks (i + 1) (made ++ x ∷ [])
  made_more new next i made x h more r f = record {
    each = (let l = length-append made (x ∷ []) in let m = h.each in omega arith);
    listed = λ j l m. go j l m (same_or_not j i);
    refs = r h.refs;
  }
    where
      keep : (j : ℕ) → IsListed old new kept made j → IsListed old next kept (made ++ x ∷ []) j
      keep j (id, e, w) = (id, get_old made x j id e, record { within = (let l = w.within in let m = more.longer in omega arith); is = more.kept id.0 w.within ∙ w.is })

      here : slice_get (made ++ x ∷ []) i ≡ Some x
      here = subst (λ k. slice_get (made ++ x ∷ []) k ≡ Some x) h.each (get_last made x)

      go : (j : ℕ) → j < i + 1 → IsMarked marks j → (j ≡ i) ⊎ (j ≡ i → ⊥) → IsListed old next kept (made ++ x ∷ []) j
      go j l m (inl e) = subst (IsListed old next kept (made ++ x ∷ [])) (sym e) (x, here, f (subst (IsMarked marks) e m))
      go j l m (inr n) = keep j (h.listed j (less n) m)
        where
          less : (j ≡ i → ⊥) → j < i
          less n = omega arith

  pub made_all : (new : Stored) (i : ℕ) (made : List PatternId) → length marks ≤ i → AreMade old new kept marks i made → AreRemade old new kept marks made
  made_all new i made l h = record { each = λ j m. h.listed j (let k = slice_get_within marks j true m in omega arith) m; refs = h.refs }

  -- the parts of a marked pattern are made already
  pub parts_made : (new : Stored) (id : ℕ) (made : List PatternId) → IsClosedUnder old marks kept → AreMade old new kept marks id made → IsMarked marks id → (i : ℕ) → i < id →
      IsPartOf (tree_at old i) (tree_at old id) → IsListed old new kept made i
  parts_made new id made c h m i l p = h.listed i l (c.parts id i m (let k = slice_get_within marks id true m in let e = c.each in omega arith) p)
