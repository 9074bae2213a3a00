-- Where names stand in a group or interleave of two patterns that may not have the same names.
use Rattle.std.proofs.Common.{◌≡◌, ℕ, Bool, ◌&&◌, ◌||◌, List, ◌∙◌}
use Rattle.rng_model.specs.Names.{Name}
use Rattle.rng_model.specs.Patterns.{Pattern, Schema, group, interleave}
use Rattle.restrictions.specs.NameSets.{has, IsSetOf}
use Rattle.restrictions.specs.Shared.{named, shared, IsStanding}
use Rattle.restrictions.specs.Truths.{within}
use Rattle.restrictions.specs.declared.name_set.NameSet.{NameSet}
use Rattle.restrictions.specs.declared.shared.Sought.{Sought}
use Rattle.restrictions.specs.declared.shared.Sought.TheVariants.{Attributes, Elements}
use Rattle.restrictions.specs.declared.standing.Standing.{Standing}

module _ (names : List Name) where
  abbrev IsUnion : NameSet → NameSet → NameSet → Type 0
  IsUnion a b s = (k : ℕ) → has s k ≡ (has a k || has b k)

  either : (f h : Name → Bool) (a b s : NameSet) → IsUnion a b s → IsSetOf names f a → IsSetOf names h b → IsSetOf names (λ n. f n || h n) s
  either f h a b s u x y = record { each = λ k n e. u k ∙ (λ i. x.each k n e i || y.each k n e i) }

  both : (f h : Name → Bool) (a b s : NameSet) → ((k : ℕ) → has s k ≡ (has a k && has b k)) → IsSetOf names f a → IsSetOf names h b → IsSetOf names (λ n. f n && h n) s
  both f h a b s u x y = record { each = λ k n e. u k ∙ (λ i. x.each k n e i && y.each k n e i) }

  module _ (g : Schema) where
    abbrev stands_in : Sought → Pattern → Name → Bool
    stands_in k p n = within (named g k n) p

    abbrev meets_in : Sought → Pattern → Name → Bool
    meets_in k p n = within (shared g k n) p

    module _ (p q : Pattern) (x y : Standing) (s m : NameSet) (u : IsUnion x.stands y.stands s) (v : IsUnion x.meets y.meets m) where
      all_stand : (k : Sought) → IsStanding g k names p x → IsStanding g k names q y → IsSetOf names (λ n. stands_in k p n || stands_in k q n) s
      all_stand k h i = either (stands_in k p) (stands_in k q) x.stands y.stands s u h.stands i.stands

      all_meet : (k : Sought) → IsStanding g k names p x → IsStanding g k names q y → IsSetOf names (λ n. meets_in k p n || meets_in k q n) m
      all_meet k h i = either (meets_in k p) (meets_in k q) x.meets y.meets m v h.meets i.meets

      module _ (c t : NameSet) (w : (k : ℕ) → has c k ≡ (has x.stands k && has y.stands k)) (z : IsUnion c m t) where
        all_apart : (k : Sought) → IsStanding g k names p x → IsStanding g k names q y →
            IsSetOf names (λ n. (stands_in k p n && stands_in k q n) || (meets_in k p n || meets_in k q n)) t
        all_apart k h i =
            either (λ n. stands_in k p n && stands_in k q n) (λ n. meets_in k p n || meets_in k q n) c m t z
            (both (stands_in k p) (stands_in k q) x.stands y.stands c w h.stands i.stands) (all_meet k h i)

        pub interleave_is : (k : Sought) → IsStanding g k names p x → IsStanding g k names q y → IsStanding g k names (interleave p q) (record { stands = s; meets = t })
        interleave_is Attributes h i = record { stands = all_stand Attributes h i; meets = all_apart Attributes h i }
        interleave_is Elements h i = record { stands = all_stand Elements h i; meets = all_apart Elements h i }

        pub attributes_group_is : IsStanding g Attributes names p x → IsStanding g Attributes names q y → IsStanding g Attributes names (group p q) (record { stands = s; meets = t })
        attributes_group_is h i = record { stands = all_stand Attributes h i; meets = all_apart Attributes h i }
