-- The turn of a member, a pool that is seen through a reference, and a result that is made.
use Rattle.std.proofs.Common.{◌≡◌, ℕ, ◌<◌, List, [], ◌∷◌, ◌++◌, sym, ◌∙◌, ap, subst, arith}
use Rattle.rng_model.specs.Patterns.{Pattern}
use Rattle.pattern_intern.specs.Stored.{Stored, Extends, count, tree_at}
use Rattle.pattern_intern.specs.declared.id.PatternId.{PatternId}
use Rattle.derivatives.specs.Spines.{IsJoined, IsSpine}
use Rattle.derivatives.specs.Kept.{IsRight}
use Rattle.derivatives.proofs.Joining.{next_below}

-- the member whose turn it is stands in the pool
pub next_within : (f : Pattern → Pattern) (old now : Stored) (id : ℕ) (left rest : List PatternId) (member made : PatternId) →
    IsJoined f old id left made now → left ≡ rest ++ member ∷ [] → id < count old → member.0 < count now
next_within f old now id left rest member made j e inside =
    let b = next_below f old now id left rest member made j e in
    let l = j.kept in
    let m = l.longer in
    omega (arith, b, inside, m)

-- a spine in the pool that is seen through a reference
pub spine_of : (s t : Stored) (id : ℕ) (firsts : List PatternId) (last : PatternId) → s ≡ t → IsSpine s id firsts last → IsSpine t id firsts last
spine_of s t id firsts last e h = subst (λ (x : Stored). IsSpine x id firsts last) e h

-- a result that is made is right
pub right_made : (f : Pattern → Pattern) (old new : Stored) (id made : PatternId) → id.0 < count old → Extends old new → made.0 < count new →
    tree_at new made.0 ≡ f (tree_at old id.0) → IsRight f new id made
right_made f old new id made inside e w m =
    let l = e.longer in
    record { number = omega (arith, inside, l); within = w; tree = m ∙ ap f (sym (e.kept id.0 inside)) }
