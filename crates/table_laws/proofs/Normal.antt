-- Normal patterns with the same leaves are one, and choices of normal patterns are normal.
use Rattle.std.proofs.Common.{◌≡◌, ◌⊎◌, ◌↔◌, inl, inr, List, [], ◌∷◌, refl, sym, ◌∙◌, ap, subst, Bool, true, false, ◌++◌}
use Rattle.std.specs.List.{AllByRecursion}
use Rattle.std.specs.List.Sorted.{IsStrictlySortedBy}
use Rattle.rng_model.specs.Patterns.{Pattern, not_allowed, choice, after, pattern_cmp}
use Rattle.rng_model.specs.Constructors.{members, of_members, ascending, choice_of, after_of}
use Rattle.rng_model.specs.Derivatives.{where_true}
use Rattle.rng_model.proofs.Orders.{pattern_order}
use Rattle.derivative_laws.proofs.Members.{IsIn, all-append, sorted-same}
use Rattle.derivative_laws.proofs.ChoiceLaw.{IsSome_of, choice_of-to, choice_of-from, all_ordered, sorted_ordered, member_alone}
use Rattle.derivative_laws.specs.Choices.{IsMember}
use Rattle.table_laws.specs.Heads.{IsNormalChoice, IsLeaf}

-- a list of such patterns is the members of its choice
pub members-of : (ps : List Pattern) → AllByRecursion IsMember ps → members (of_members ps) ≡ ps
members-of [] h = refl
members-of (p ∷ []) h = member_alone p h.0
members-of (p ∷ q ∷ ps) h = ap (λ z. p ∷ z) (members-of (q ∷ ps) h.1)

pub normal_of : (ps : List Pattern) → AllByRecursion IsMember ps → IsStrictlySortedBy pattern_cmp ps → IsNormalChoice (of_members ps)
normal_of ps h s =
    let e = members-of ps h in
    record {
      lone = subst (AllByRecursion IsMember) (sym e) h;
      ascending = subst (IsStrictlySortedBy pattern_cmp) (sym e) s;
      is = ap of_members e;
    }

pub normal_choice : (p q : Pattern) → IsNormalChoice p → IsNormalChoice q → IsNormalChoice (choice_of p q)
unfolding choice_of
normal_choice p q h k =
    normal_of (ascending (members p ++ members q)) (all_ordered IsMember (members p ++ members q) (all-append IsMember (members p) (members q) h.lone k.lone)) (sorted_ordered (members p ++ members q))

pub normal_nothing : IsNormalChoice not_allowed
unfolding IsStrictlySortedBy
normal_nothing = record { lone = tt; ascending = tt; is = refl }

pub normal_lone : (p : Pattern) → IsMember p → IsNormalChoice p
unfolding IsStrictlySortedBy
normal_lone p h = normal_of (p ∷ []) (h, tt) (tt, tt)

pub normal_after : (x y : Pattern) → IsNormalChoice (after_of x y)
normal_after not_allowed y = normal_nothing
normal_after x not_allowed = normal_nothing
normal_after x y = normal_lone (after x y) tt

pub normal_where : (b : Bool) (p : Pattern) → IsNormalChoice p → IsNormalChoice (where_true b p)
normal_where true p h = h
normal_where false p h = normal_nothing

-- leaves
pub leaf_some : (z : Pattern) → IsSome_of (IsLeaf z)
leaf_some z = record { never = λ h. h; to = λ p q h. h; from = λ p q h. h }

lone_leaf : (z p : Pattern) → IsMember p → IsLeaf z p → z ≡ p
lone_leaf z not_allowed l h = absurd h
lone_leaf z (choice p q) l h = absurd l
lone_leaf z p l h = h

leaf_lone : (z p : Pattern) → IsMember p → z ≡ p → IsLeaf z p
leaf_lone z not_allowed l h = absurd l
leaf_lone z (choice p q) l h = absurd l
leaf_lone z p l h = h

leaf_in : (z : Pattern) (ps : List Pattern) → AllByRecursion IsMember ps → IsLeaf z (of_members ps) → IsIn z ps
leaf_in z [] l h = absurd h
leaf_in z (p ∷ []) l h = inl (lone_leaf z p l.0 h)
leaf_in z (p ∷ q ∷ ps) l (inl h) = inl (lone_leaf z p l.0 h)
leaf_in z (p ∷ q ∷ ps) l (inr h) = inr (leaf_in z (q ∷ ps) l.1 h)

in_leaf : (z : Pattern) (ps : List Pattern) → AllByRecursion IsMember ps → IsIn z ps → IsLeaf z (of_members ps)
in_leaf z [] l h = absurd h
in_leaf z (p ∷ []) l (inl e) = leaf_lone z p l.0 e
in_leaf z (p ∷ []) l (inr h) = absurd h
in_leaf z (p ∷ q ∷ ps) l (inl e) = inl (leaf_lone z p l.0 e)
in_leaf z (p ∷ q ∷ ps) l (inr h) = inr (in_leaf z (q ∷ ps) l.1 h)

leaf_members : (z p : Pattern) → IsNormalChoice p → IsLeaf z p → IsIn z (members p)
leaf_members z p n h = leaf_in z (members p) n.lone (subst (IsLeaf z) (sym n.is) h)

members_leaf : (z p : Pattern) → IsNormalChoice p → IsIn z (members p) → IsLeaf z p
members_leaf z p n h = subst (IsLeaf z) n.is (in_leaf z (members p) n.lone h)

-- normal patterns with the same leaves are one
pub normal_same : (p q : Pattern) → IsNormalChoice p → IsNormalChoice q → ((z : Pattern) → IsLeaf z p → IsLeaf z q) → ((z : Pattern) → IsLeaf z q → IsLeaf z p) → p ≡ q
normal_same p q n m f h =
    let e = sorted-same pattern_cmp pattern_order (members p) (members q) n.ascending m.ascending
    (λ z i. leaf_members z q m (f z (members_leaf z p n i)))
    (λ z i. leaf_members z p n (h z (members_leaf z q m i))) in
    sym n.is ∙ ap of_members e ∙ m.is

pub leaf_choice : (z p q : Pattern) → IsLeaf z (choice_of p q) ↔ (IsLeaf z p ⊎ IsLeaf z q)
leaf_choice z p q = (λ h. choice_of-to (IsLeaf z) (leaf_some z) p q h, λ h. choice_of-from (IsLeaf z) (leaf_some z) p q h)
