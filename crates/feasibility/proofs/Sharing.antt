-- What is known of the attributes of a name serves those of alike names.
use Rattle.std.proofs.Common.{◌≡◌, ℕ, suc, ◌<◌, inl, Option, Some, List, [], ◌∷◌, length, slice_get, refl, sym, ◌∙◌, ap, subst, arith}
use Rattle.std.proofs.lemmas.Option.{slice_get_within}
use Rattle.rng_model.specs.Codes as code
use Rattle.rng_model.specs.Patterns.{Pattern, Schema}
use Rattle.rng_model.specs.Atoms.{Literals}
use Rattle.rng_model.specs.Universe.{Lists}
use Rattle.rng_model.specs.Alike.{AreAlikeCodes, AreAlikeGroups, AreNumbered, Groups}
use Rattle.rng_model.specs.States.{State, Place, IsAllowed}
use Rattle.table_laws.proofs.AlikeLaw.{alike_reached}
use Rattle.pattern_intern.specs.declared.id.PatternId.{PatternId}
use Rattle.feasibility.specs.declared.explorer.Explorer.{Explorer}
use Rattle.feasibility.specs.declared.family.Family.{Family}
use Rattle.feasibility.specs.declared.family.Family.TheVariants.{Texts, Attribute, Openings}
use Rattle.feasibility.specs.Exploring.{Finds, IsExploring, IsKnown, IsPattern, at, found, groups_in, groups_of, names, pattern_at, pool, schema}
use Rattle.feasibility.proofs.Finding.{finds_names}
use Rattle.feasibility.proofs.Knowing.{some_at}

all_less : (ks : List ℕ) (b : ℕ) → ((q k : ℕ) → slice_get ks q ≡ Some k → k < b) → AreNumbered b ks
all_less [] b h = tt
all_less (k ∷ ks) b h = inl (h 0 k refl, all_less ks b (λ q j i. h (suc q) j i))

-- nothing is known yet
pub nothing_known : (e : Explorer) (x : IsExploring e) (id : ℕ) (f : Family) → IsKnown e id f 0 []
nothing_known e x id f = record {
  numbered = go f;
  few = omega arith;
  seen = λ p k l i. absurd (omega (arith, l));
  each = λ p k r i j. absurd (cc);
}
  where
    go : (f : Family) → AreNumbered 0 (groups_in e f)
    go Texts = (x.alike x.literals x.are_literals).atoms.numbered
    go (Attribute n) = (x.alike x.literals x.are_literals).atoms.numbered
    go Openings = (x.alike x.literals x.are_literals).elements.numbered

-- as many groups as positions
pub all_elements : (e f : Explorer) → IsExploring e → Finds e f → length (groups_of e).elements ≡ length (names f).elements
all_elements e f x y = (x.alike x.literals x.are_literals).elements.same_length ∙ ap (λ (u : Lists). length u.elements) (sym (finds_names e f y))

pub all_texts : (e f : Explorer) → IsExploring e → Finds e f → length (groups_of e).atoms ≡ length (names f).atoms
all_texts e f x y = (x.alike x.literals x.are_literals).atoms.same_length ∙ ap (λ (u : Lists). length u.atoms) (sym (finds_names e f y))

alike_names : (g : Schema) (l : Literals) (u : Lists) (x : Groups) → AreAlikeGroups g l u x → (n m p k j : ℕ) → slice_get x.attributes n ≡ Some k → slice_get x.attributes m ≡ Some k →
    slice_get x.atoms p ≡ Some j → AreAlikeCodes g l u (code.Attr n p) (code.Attr m p)
alike_names g l u x a n m p k j i o q =
    let w = slice_get_within x.attributes n k i in
    let v = slice_get_within x.attributes m k o in
    let y = slice_get_within x.atoms p j q in
    let b = a.attributes.same_length in
    let c = a.atoms.same_length in
    let s = some_at u.attributes n (omega (arith, w, b)) in
    let t = some_at u.attributes m (omega (arith, v, b)) in
    let z = some_at u.atoms p (omega (arith, y, c)) in
    ((s.0, t.0, s.1, t.1, (a.attributes.each n m s.0 t.0 s.1 t.1).0 (i ∙ sym o)), (z.0, z.0, z.1, z.1, (a.atoms.each p p z.0 z.0 z.1 z.1).0 refl))

module _ (e : Explorer) (x : IsExploring e) (id : ℕ) (w : id < length (found e)) where
  -- all is known of an alike name
  pub known_alike : (n m k p : ℕ) (known : List (Option PatternId)) → p ≡ length (groups_of e).atoms → IsAllowed (at e id).place (code.Attr n 0) → IsAllowed (at e id).place (code.Attr m 0) →
      slice_get (groups_of e).attributes n ≡ Some k → slice_get (groups_of e).attributes m ≡ Some k → IsKnown e id (Attribute n) p known → IsKnown e id (Attribute m) 0 known
  known_alike n m k p known end a b i o h = record {
    numbered = all_less (groups_of e).atoms (length known) (λ q j y. h.seen q j (let l = slice_get_within (groups_of e).atoms q j y in omega (arith, l, end)) y);
    few = h.few;
    seen = λ q j l y. absurd (omega (arith, l));
    each = λ q j r y z. subst (λ (t : Pattern). IsPattern (pool e) t r) (sym (same q j y)) (h.each q j r y z);
  }
    where
      allowed : (pl : Place) (c q : ℕ) → IsAllowed pl (code.Attr c 0) → IsAllowed pl (code.Attr c q)
      allowed (Place.Tag f) c q l = l
      allowed Place.Fresh c q l = absurd l
      allowed Place.AfterText c q l = absurd l
      allowed Place.AfterElement c q l = absurd l

      same : (q j : ℕ) → slice_get (groups_of e).atoms q ≡ Some j → pattern_at e id (Attribute m) q ≡ pattern_at e id (Attribute n) q
      same q j y =
          let al = x.alike x.literals x.are_literals in
          ap (λ (s : State). s.pattern)
          (alike_reached (schema e) x.literals (names e) x.are_literals e.level (at e id) (code.Attr n q) (code.Attr m q) (x.reached id w)
          (alike_names (schema e) x.literals (names e) (groups_of e) al n m q k j i o y) (allowed (at e id).place n q a) (allowed (at e id).place m q b))
