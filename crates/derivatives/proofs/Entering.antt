-- What is entered by a name is joined from the last remainder on.
use Rattle.std.proofs.Common.{◌≡◌, ℕ, ◌+◌, ◌<◌, Bool, true, false, List, [], ◌∷◌, map, drop, get_or, length, All, Option, Some, None, Result, Ok, Err, IfOk, slice_get, refl, sym, ◌∙◌, ap, subst, arith}
use Rattle.std.proofs.lemmas.List.{drop_more, drop_all}
use Rattle.std.proofs.lemmas.List.Elements.{All-get_or}
use Rattle.std.proofs.lemmas.Option.{slice_get-get_or}
use Rattle.rng_model.specs.Names.{Name}
use Rattle.rng_model.specs.Classes.{in_class}
use Rattle.rng_model.specs.Patterns.{Pattern, Schema, Definition, not_allowed}
use Rattle.rng_model.specs.Constructors.{choice_of, after_of}
use Rattle.rng_model.specs.Derivatives.{opening, where_true}
use Rattle.table_laws.specs.Heads.{choices_of}
use Rattle.table_laws.specs.Remainders as law
use Rattle.table_laws.specs.Remainders.{AreSame, entered, entered_at, remainders}
use Rattle.table_laws.proofs.SameRemainders.{same_refl}
use Rattle.pattern_intern.specs.Ordered.{IsOrdered}
use Rattle.pattern_intern.specs.Schemas.{Numbered, definition_at}
use Rattle.pattern_intern.specs.Stored.{Extends, count, tree_at}
use Rattle.pattern_intern.specs.declared.id.PatternId.{PatternId}
use Rattle.derivatives.specs.Remainders.{IsSetOf, IsWithin, remainder_of, remainders_of}
use Rattle.derivatives.specs.declared.remainder.Remainder.{Remainder}
use Rattle.derivatives.proofs.Extending.{extends_refl, extends_trans}
use Rattle.derivatives.proofs.Nodes.{joins_nothing}

after_alone : (x y : Pattern) → choice_of (after_of x y) not_allowed ≡ after_of x y
unfolding choice_of
after_alone not_allowed y = refl
after_alone x not_allowed = refl
after_alone x y = refl

where_alone : (b : Bool) (x y : Pattern) → choice_of (where_true b (after_of x y)) not_allowed ≡ where_true b (after_of x y)
unfolding choice_of
where_alone true x y = after_alone x y
where_alone false x y = refl

entered_alone : (n : Name) (o : Option Definition) (y : Pattern) → choice_of (entered n o y) not_allowed ≡ entered n o y
unfolding choice_of
entered_alone n None y = refl
entered_alone n (Some e) y = where_alone (in_class n e.class) e.content y

-- one more in front of others
entered_first : (g : Schema) (n : Name) (r : law.Remainder) (rs : List law.Remainder) →
    choices_of (map (entered_at g n) (r ∷ rs)) ≡ choice_of (entered_at g n r) (choices_of (map (entered_at g n) rs))
entered_first g n r [] = sym (entered_alone n (slice_get g.elements r.number) r.rest)
entered_first g n r (t ∷ rs) = refl

-- nothing is entered by a name that the class doesn't have
pub entered_nowhere : (g : Numbered) (n : Name) (x : Remainder) (others : PatternId) → IsWithin g x → IsOrdered (tree_at g.pool others.0) →
    in_class n (definition_at g x.definition).class ≡ false →
    tree_at g.pool others.0 ≡ choice_of (entered_at g.schema n (remainder_of g.pool x)) (tree_at g.pool others.0)
entered_nowhere g n x others w ordered not_in =
    let e = definition_at g x.definition in
    let y = tree_at g.pool x.rest.0 in
    let nothing : entered_at g.schema n (remainder_of g.pool x) ≡ not_allowed =
    ap (λ o. entered n o y) (slice_get-get_or g.schema.elements x.definition _ w.0) ∙ ap (λ b. where_true b (after_of e.content y)) not_in in
    sym (ap (λ p. choice_of p (tree_at g.pool others.0)) nothing ∙ joins_nothing (tree_at g.pool others.0) ordered)

-- what is entered of the last remainders is joined
pub record AreEntered (old now : Numbered) (n : Name) (xs : List Remainder) (next : ℕ) (made : PatternId) : Type 0 where
  pub kept : Extends old.pool now.pool
  pub schema : now.schema ≡ old.schema
  pub within : made.0 < count now.pool
  pub tree : tree_at now.pool made.0 ≡ choices_of (map (entered_at old.schema n) (remainders_of old.pool (drop next xs)))

pub entered_none : (old : Numbered) (n : Name) (xs : List Remainder) (made : PatternId) → made.0 < count old.pool → tree_at old.pool made.0 ≡ not_allowed →
    AreEntered old old n xs (length xs) made
entered_none old n xs made w t = record {
  kept = extends_refl old.pool;
  schema = refl;
  within = w;
  tree = t ∙ ap (λ ys. choices_of (map (entered_at old.schema n) (remainders_of old.pool ys))) (sym (drop_all (length xs) xs (omega arith)));
}

-- one more is entered
pub entered_more : (old a b : Numbered) (n : Name) (xs : List Remainder) (next last : ℕ) (x d : Remainder) (mid made : PatternId) → All (IsWithin old) xs → next < length xs →
    last ≡ next + 1 → x ≡ get_or xs next d → AreEntered old a n xs last mid → Extends a.pool b.pool → b.schema ≡ a.schema → made.0 < count b.pool →
    tree_at b.pool made.0 ≡ choice_of (entered_at a.schema n (remainder_of a.pool x)) (tree_at a.pool mid.0) → AreEntered old b n xs next made
entered_more old a b n xs next last x d mid made within l before_is is before e same w t =
    let here : IsWithin old x = subst (IsWithin old) (sym is) (All-get_or (IsWithin old) xs next d l within) in
    let all : List Remainder → Pattern = λ ys. choices_of (map (entered_at old.schema n) (remainders_of old.pool ys)) in
    let h : AreEntered old a n xs (next + 1) mid = subst (λ k. AreEntered old a n xs k mid) before_is before in
    let was : remainder_of a.pool x ≡ remainder_of old.pool x = λ k. record { number = x.definition; rest = h.kept.kept x.rest.0 here.1 k } in
    record {
      kept = extends_trans old.pool a.pool b.pool h.kept e;
      schema = same ∙ h.schema;
      within = w;
      tree = t ∙ (λ k. choice_of (entered_at (h.schema k) n (was k)) (h.tree k))
          ∙ sym (entered_first old.schema n (remainder_of old.pool x) (remainders_of old.pool (drop (next + 1) xs)))
          ∙ ap (λ y. all (y ∷ drop (next + 1) xs)) is
          ∙ ap all (sym (drop_more xs next d l));
    }

abbrev OpeningLaw : Type 0
OpeningLaw = (g : Schema) (n : Name) (p : Pattern) (rs : List law.Remainder) → AreSame rs (remainders p) → opening g n p ≡ choices_of (map (entered_at g n) rs)

-- what is entered of a pattern's remainders is its opening
pub opening_made : {E : Type 0} (r : Result PatternId E) → OpeningLaw → (old mid now : Numbered) (n : Name) (id : PatternId) (xs : List Remainder) → IsSetOf mid id xs →
    Extends old.pool mid.pool → mid.schema ≡ old.schema → id.0 < count old.pool →
    IfOk r (λ made. tree_at now.pool made.0 ≡ choices_of (map (entered_at mid.schema n) (remainders_of mid.pool xs))) →
    IfOk r (λ made. tree_at now.pool made.0 ≡ opening old.schema n (tree_at old.pool id.0))
opening_made (Ok made) law old mid now n id xs set e same inside m =
    m ∙ sym (law mid.schema n (tree_at mid.pool id.0) (remainders_of mid.pool xs) set.pairs.same) ∙ (λ k. opening (same k) n (e.kept id.0 inside k))
opening_made (Err x) law old mid now n id xs set e same inside m = tt

-- an opening that none of a pattern's remainders allows leads nowhere
pub opening_nowhere : OpeningLaw → (g : Schema) (n : Name) (p : Pattern) → remainders p ≡ [] → opening g n p ≡ not_allowed
opening_nowhere law g n p e = law g n p [] (subst (AreSame []) (sym e) (same_refl []))
