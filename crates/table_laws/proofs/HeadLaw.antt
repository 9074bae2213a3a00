-- The steps head by head.
use Rattle.std.proofs.Common.{◌≡◌, ◌⊎◌, inl, inr, List, [], ◌∷◌, map, refl, sym, ◌∙◌, ap, subst, Bool, true, false, ◌||◌, IsTrue}
use Rattle.rng_model.specs.Texts.{Text}
use Rattle.rng_model.specs.Names.{Name}
use Rattle.rng_model.specs.Patterns.{Pattern, Schema, not_allowed, choice, after}
use Rattle.rng_model.specs.Constructors.{of_members, choice_of, after_of}
use Rattle.rng_model.specs.Matching.{nullable}
use Rattle.rng_model.specs.Derivatives.{where_true, text_step, map_after, opening, attribute_step, close, ending}
use Rattle.derivative_laws.proofs.ChoiceLaw.{IsSome_of, choice_of-to, choice_of-from, choice_of-all}
use Rattle.derivative_laws.proofs.Spines.{text_members, spine_step, spine_all}
use Rattle.table_laws.specs.Heads.{IsNormalChoice, IsLeaf, HasHeads, choices_of, ending_fresh}
use Rattle.table_laws.proofs.Normal.{normal_choice, normal_nothing, normal_where, normal_same, leaf_choice}

-- a step that goes member by member
pub record GoesByMembers (F : Pattern → Pattern) : Type 0 where
  pub never : F not_allowed ≡ not_allowed
  pub choice : (p q : Pattern) → F (Pattern.choice p q) ≡ choice_of (F p) (F q)

pub by_members : (F : Pattern → Pattern) → GoesByMembers F → (ps : List Pattern) → F (of_members ps) ≡ choices_of (map F ps)
by_members F is [] = is.never
by_members F is (p ∷ []) = refl
by_members F is (p ∷ q ∷ ps) = is.choice p (of_members (q ∷ ps)) ∙ ap (choice_of (F p)) (by_members F is (q ∷ ps))

pub text_by : (s : Text) → GoesByMembers (text_step s)
unfolding text_step
text_by s = record { never = refl; choice = λ p q. refl }

pub attribute_by : (n : Name) (s : Text) → GoesByMembers (attribute_step n s)
unfolding attribute_step
attribute_by n s = record { never = refl; choice = λ p q. refl }

pub close_by : GoesByMembers close
unfolding close
close_by = record { never = refl; choice = λ p q. refl }

pub opening_by : (g : Schema) (n : Name) → GoesByMembers (opening g n)
unfolding opening
opening_by g n = record { never = refl; choice = λ p q. refl }

pub ending_by : GoesByMembers ending
unfolding ending
ending_by = record { never = refl; choice = λ p q. refl }

pub ending_fresh_by : GoesByMembers ending_fresh
unfolding ending_fresh
ending_fresh_by = record { never = refl; choice = λ p q. refl }

-- the leaves of what a step makes
module _ (F : Pattern → Pattern) (is : GoesByMembers F) (z : Pattern) where
  leaf_step : IsSome_of (λ p. IsLeaf z (F p))
  leaf_step = record {
    never = λ h. subst (IsLeaf z) is.never h;
    to = λ p q h. (leaf_choice z (F p) (F q)).0 (subst (IsLeaf z) (is.choice p q) h);
    from = λ p q h. subst (IsLeaf z) (sym (is.choice p q)) ((leaf_choice z (F p) (F q)).1 h);
  }

-- the end of an element at Fresh
leaf_where : (z : Pattern) (b : Bool) (y : Pattern) → IsLeaf z (where_true b y) → IsTrue b × IsLeaf z y
leaf_where z true y h = (refl, h)
leaf_where z false y h = absurd h

where_leaf : (z : Pattern) (b : Bool) (y : Pattern) → IsTrue b → IsLeaf z y → IsLeaf z (where_true b y)
where_leaf z true y e h = h
where_leaf z false y e h = absurd (cc)

after_ending : (z x y : Pattern) → IsLeaf z (ending (after_of x y)) → IsTrue (nullable x) × IsLeaf z y
unfolding ending
after_ending z not_allowed y h = absurd h
after_ending z x not_allowed h = absurd h
after_ending z x y h = leaf_where z (nullable x) y h

ending_after : (z x y : Pattern) → IsTrue (nullable x) → IsLeaf z y → IsLeaf z (ending (after_of x y))
unfolding ending nullable
ending_after z not_allowed y e h = absurd (cc)
ending_after z x not_allowed e h = absurd h
ending_after z x y e h = where_leaf z (nullable x) y e h

left_true : (a b : Bool) → IsTrue a → IsTrue (a || b)
left_true true b h = refl
left_true false b h = absurd (cc)

right_true : (a b : Bool) → IsTrue b → IsTrue (a || b)
right_true true b h = refl
right_true false b h = h

either_true : (a b : Bool) → IsTrue (a || b) → IsTrue a ⊎ IsTrue b
either_true true b h = inl refl
either_true false b h = inr h

-- both ways to end
abbrev Both : Pattern → Pattern → Type 0
Both z p = IsLeaf z (ending p) ⊎ IsLeaf z (ending (text_step [] p))

both_some : (z : Pattern) → IsSome_of (Both z)
unfolding ending text_step
both_some z = record { never = never; to = to; from = from }
  where
    never : Both z not_allowed → ⊥
    never (inl h) = h
    never (inr h) = h

    to : (p q : Pattern) → Both z (choice p q) → Both z p ⊎ Both z q
    to p q (inl h) = go ((leaf_choice z (ending p) (ending q)).0 h)
      where
        go : IsLeaf z (ending p) ⊎ IsLeaf z (ending q) → Both z p ⊎ Both z q
        go (inl k) = inl (inl k)
        go (inr k) = inr (inl k)
    to p q (inr h) = go (choice_of-to (λ r. IsLeaf z (ending r)) (leaf_step ending ending_by z) (text_step [] p) (text_step [] q) h)
      where
        go : IsLeaf z (ending (text_step [] p)) ⊎ IsLeaf z (ending (text_step [] q)) → Both z p ⊎ Both z q
        go (inl k) = inl (inr k)
        go (inr k) = inr (inr k)

    from : (p q : Pattern) → Both z p ⊎ Both z q → Both z (choice p q)
    from p q (inl (inl k)) = inl ((leaf_choice z (ending p) (ending q)).1 (inl k))
    from p q (inr (inl k)) = inl ((leaf_choice z (ending p) (ending q)).1 (inr k))
    from p q (inl (inr k)) = inr (choice_of-from (λ r. IsLeaf z (ending r)) (leaf_step ending ending_by z) (text_step [] p) (text_step [] q) (inl k))
    from p q (inr (inr k)) = inr (choice_of-from (λ r. IsLeaf z (ending r)) (leaf_step ending ending_by z) (text_step [] p) (text_step [] q) (inr k))

module _ (K : Pattern → Type 0) where
  fresh_to : (z p : Pattern) → HasHeads K p → Both z p → IsLeaf z (ending_fresh p)
  unfolding ending_fresh ending text_step
  fresh_to z not_allowed k (inl h) = h
  fresh_to z not_allowed k (inr h) = h
  fresh_to z (after x y) k (inl h) =
      let t = leaf_where z (nullable x) y h in where_leaf z (nullable x || nullable (text_step [] x)) y (left_true (nullable x) (nullable (text_step [] x)) t.0) t.1
  fresh_to z (after x y) k (inr h) =
      let t = after_ending z (text_step [] x) y h in where_leaf z (nullable x || nullable (text_step [] x)) y (right_true (nullable x) (nullable (text_step [] x)) t.0) t.1
  fresh_to z (choice p q) k h = go (fresh_to z p k.0) (fresh_to z q k.1) ((both_some z).to p q h)
    where
      go : (Both z p → IsLeaf z (ending_fresh p)) → (Both z q → IsLeaf z (ending_fresh q)) → Both z p ⊎ Both z q → IsLeaf z (choice_of (ending_fresh p) (ending_fresh q))
      go f g (inl b) = (leaf_choice z (ending_fresh p) (ending_fresh q)).1 (inl (f b))
      go f g (inr b) = (leaf_choice z (ending_fresh p) (ending_fresh q)).1 (inr (g b))
  fresh_to z p k h = absurd k

  fresh_from : (z p : Pattern) → HasHeads K p → IsLeaf z (ending_fresh p) → Both z p
  unfolding ending_fresh ending text_step
  fresh_from z not_allowed k h = absurd h
  fresh_from z (after x y) k h =
      let t = leaf_where z (nullable x || nullable (text_step [] x)) y h in
      go (either_true (nullable x) (nullable (text_step [] x)) t.0) t.1
    where
      go : IsTrue (nullable x) ⊎ IsTrue (nullable (text_step [] x)) → IsLeaf z y → IsLeaf z (where_true (nullable x) y) ⊎ IsLeaf z (ending (after_of (text_step [] x) y))
      go (inl e) l = inl (where_leaf z (nullable x) y e l)
      go (inr e) l = inr (ending_after z (text_step [] x) y e l)
  fresh_from z (choice p q) k h = go (fresh_from z p k.0) (fresh_from z q k.1) ((leaf_choice z (ending_fresh p) (ending_fresh q)).0 h)
    where
      go : (IsLeaf z (ending_fresh p) → Both z p) → (IsLeaf z (ending_fresh q) → Both z q) → IsLeaf z (ending_fresh p) ⊎ IsLeaf z (ending_fresh q) → Both z (choice p q)
      go f g (inl l) = (both_some z).from p q (inl (f l))
      go f g (inr l) = (both_some z).from p q (inr (g l))
  fresh_from z p k h = absurd k

-- what is made of heads is normal where the rests are
normal_ending : (p : Pattern) → HasHeads IsNormalChoice p → IsNormalChoice (ending p)
unfolding ending
normal_ending not_allowed h = normal_nothing
normal_ending (after x y) h = normal_where (nullable x) y h
normal_ending (choice p q) h = normal_choice (ending p) (ending q) (normal_ending p h.0) (normal_ending q h.1)
normal_ending p h = absurd h

normal_ending_fresh : (p : Pattern) → HasHeads IsNormalChoice p → IsNormalChoice (ending_fresh p)
unfolding ending_fresh
normal_ending_fresh not_allowed h = normal_nothing
normal_ending_fresh (after x y) h = normal_where (nullable x || nullable (text_step [] x)) y h
normal_ending_fresh (choice p q) h = normal_choice (ending_fresh p) (ending_fresh q) (normal_ending_fresh p h.0) (normal_ending_fresh q h.1)
normal_ending_fresh p h = absurd h

pub fresh_law : (p : Pattern) → HasHeads IsNormalChoice p → ending (choice_of p (text_step [] p)) ≡ ending_fresh p
fresh_law p h =
    normal_same (ending (choice_of p (text_step [] p))) (ending_fresh p)
    (normal_ending (choice_of p (text_step [] p)) (choice_of-all (HasHeads IsNormalChoice) (spine_all IsNormalChoice) p (text_step [] p) h (spine_step (text_step []) (text_members []) IsNormalChoice p h)))
    (normal_ending_fresh p h)
    (λ z l. fresh_to IsNormalChoice z p h (choice_of-to (λ r. IsLeaf z (ending r)) (leaf_step ending ending_by z) p (text_step [] p) l))
    (λ z l. choice_of-from (λ r. IsLeaf z (ending r)) (leaf_step ending ending_by z) p (text_step [] p) (fresh_from IsNormalChoice z p h l))

-- the step of a member acts on its head
pub head_text : (s : Text) (x y : Pattern) → text_step s (after x y) ≡ after_of (text_step s x) y
unfolding text_step
head_text s x y = refl

pub head_attribute : (n : Name) (s : Text) (x y : Pattern) → attribute_step n s (after x y) ≡ after_of (attribute_step n s x) y
unfolding attribute_step
head_attribute n s x y = refl

pub head_close : (x y : Pattern) → close (after x y) ≡ after_of (close x) y
unfolding close
head_close x y = refl

pub head_opening : (g : Schema) (n : Name) (x y : Pattern) → opening g n (after x y) ≡ map_after (λ w. after_of w y) (opening g n x)
unfolding opening
head_opening g n x y = refl

pub head_ending : (x y : Pattern) → ending (after x y) ≡ where_true (nullable x) y
unfolding ending
head_ending x y = refl
