-- What a clause on an option says where it is known.
use Rattle.std.proofs.Common.{◌≡◌, subst, Option, Some, None}
use Rattle.std.specs.Prelude.{MatchOption}

pub at_none : {X : Type 0} (o : Option X) (A : Type 0) (B : X → Type 0) → MatchOption o A B → o ≡ None → A
at_none None A B h e = h
at_none (Some x) A B h e = absurd (cc)

pub at_some : {X : Type 0} (o : Option X) (x : X) (A : Type 0) (B : X → Type 0) → MatchOption o A B → o ≡ Some x → B x
at_some None x A B h e = absurd (cc)
at_some (Some y) x A B h e = let s : y ≡ x = cc in subst B s h
