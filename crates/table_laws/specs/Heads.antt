-- The pattern of a state head by head: it is a choice of after(head, rest), and the steps act on the heads. This project's own.
use Rattle.std.specs.Prelude.{◌≡◌, ◌⊎◌, ◌||◌, ℕ, zero, suc, ◌+◌, ◌-◌, List, [], ◌∷◌, ⊤}
use Rattle.std.specs.List.{AllByRecursion}
use Rattle.std.specs.List.Sorted.{IsStrictlySortedBy}
use Rattle.rng_model.specs.Patterns.{Pattern, not_allowed, empty, choice, after, pattern_cmp}
use Rattle.rng_model.specs.Constructors.{members, of_members, choice_of}
use Rattle.rng_model.specs.Matching.{nullable}
use Rattle.rng_model.specs.Derivatives.{where_true, text_step}
use Rattle.rng_model.specs.Codes.{Code, Opening, Attr, Body, Chars, Closing}
use Rattle.derivative_laws.specs.Choices.{IsMember}

-- as the constructor of choices makes it: its members are no choices, and ascend
pub record IsNormalChoice (p : Pattern) : Type 0 where
  pub lone : AllByRecursion IsMember (members p)
  pub ascending : IsStrictlySortedBy pattern_cmp (members p)
  pub is : of_members (members p) ≡ p

-- z is the pattern, or stands in it under choices alone
abbrev pub IsLeaf : Pattern → Pattern → Type 0
IsLeaf z not_allowed = ⊥
IsLeaf z (choice p q) = IsLeaf z p ⊎ IsLeaf z q
IsLeaf z p = z ≡ p

-- a choice of after(head, rest) where K holds of each rest
abbrev pub HasHeads : (Pattern → Type 0) → Pattern → Type 0
HasHeads K not_allowed = ⊤
HasHeads K (after x y) = K y
HasHeads K (choice p q) = HasHeads K p × HasHeads K q
HasHeads K _ = ⊥

-- the patterns joined from the last to the first
abbrev pub choices_of : List Pattern → Pattern
choices_of [] = not_allowed
choices_of (p ∷ []) = p
choices_of (p ∷ q ∷ ps) = choice_of p (choices_of (q ∷ ps))

-- after the end of an element in which no child was read: nothing, or an empty text
unfoldable pub ending_fresh : Pattern → Pattern
ending_fresh (after x y) = where_true (nullable x || nullable (text_step [] x)) y
ending_fresh (choice p q) = choice_of (ending_fresh p) (ending_fresh q)
ending_fresh _ = not_allowed

-- what is left after the root
abbrev pub IsEnded : Pattern → Type 0
IsEnded not_allowed = ⊤
IsEnded empty = ⊤
IsEnded (choice p q) = IsEnded p × IsEnded q
IsEnded _ = ⊥

-- the pattern of a state inside d elements
abbrev pub IsInsideElements : ℕ → Pattern → Type 0
IsInsideElements zero p = IsNormalChoice p × IsEnded p
IsInsideElements (suc d) p = IsNormalChoice p × HasHeads (IsInsideElements d) p

-- the open elements after the codes, where d were open before
abbrev pub open_elements : ℕ → List Code → ℕ
open_elements d [] = d
open_elements d (Opening i ∷ cs) = open_elements (d + 1) cs
open_elements d (Attr j s ∷ cs) = open_elements d cs
open_elements d (Body ∷ cs) = open_elements d cs
open_elements d (Chars s ∷ cs) = open_elements d cs
open_elements d (Closing ∷ cs) = open_elements (d - 1) cs
