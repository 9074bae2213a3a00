-- Remainders are gathered part after part, while the pool grows.
use Rattle.std.proofs.Common.{◌≡◌, ℕ, ◌+◌, ◌<◌, List, [], ◌∷◌, ◌++◌, map, take, All, length, get_or, refl, sym, ◌∙◌, ap, subst, arith, append_assoc, append-nil}
use Rattle.std.proofs.lemmas.List.{take_more, map-append}
use Rattle.std.proofs.lemmas.List.Elements.{All-get_or}
use Rattle.rng_model.specs.Patterns.{Pattern, empty, ref, one_or_more, choice, group, interleave, after}
use Rattle.rng_model.specs.Constructors.{group_of, interleave_of, after_of}
use Rattle.rng_model.specs.Matching.{nullable}
use Rattle.rng_model.specs.Derivatives.{more}
use Rattle.table_laws.specs.Remainders as law
use Rattle.table_laws.specs.Remainders.{AreSame, if_nullable, remainders, with_rest}
use Rattle.table_laws.proofs.SameRemainders.{same_refl, same_append, same_map}
use Rattle.pattern_intern.specs.Schemas.{Numbered}
use Rattle.pattern_intern.specs.Stored.{Extends, count, tree_at}
use Rattle.pattern_intern.specs.declared.id.PatternId.{PatternId}
use Rattle.derivatives.specs.Grown.{grown, part}
use Rattle.derivatives.specs.Remainders.{AreAdded, AreBegun, AreRemainders, Gathers, IsSetOf, IsWithin, remainder_of, remainders_of}
use Rattle.derivatives.specs.declared.grow.Grow.{Grow}
use Rattle.derivatives.specs.declared.grow.Grow.TheVariants.{InGroup, Before, Behind, InAfter}
use Rattle.derivatives.specs.declared.remainder.Remainder.{Remainder}
use Rattle.derivatives.proofs.Extending.{extends_refl, extends_trans}
use Rattle.derivatives.proofs.Adding.{remainders_added}
use Rattle.derivatives.proofs.RemainderSets.{no_remainders, one_remainder, remainders_extend, remainders_same}

-- nothing is gathered
pub gathers_none : (old now : Numbered) (begun : List Remainder) → Extends old.pool now.pool → now.schema ≡ old.schema → Gathers old now begun [] begun
gathers_none old now begun e same before w = subst (λ rs. AreRemainders now rs begun) (sym (append-nil before)) (remainders_extend old now before begun w e same)

-- one part after another
pub gathers_then : (a b c : Numbered) (begun mid made : List Remainder) (rs ss : List law.Remainder) → Gathers a b begun rs mid → Gathers b c mid ss made →
    Gathers a c begun (rs ++ ss) made
gathers_then a b c begun mid made rs ss h k before w = subst (λ us. AreRemainders c us made) (append_assoc before rs ss) (k (before ++ rs) (h before w))

-- from a pool that has grown
pub gathers_later : (a b c : Numbered) (begun made : List Remainder) (rs : List law.Remainder) → Extends a.pool b.pool → b.schema ≡ a.schema →
    Gathers b c begun rs made → Gathers a c begun rs made
gathers_later a b c begun made rs e same h before w = h before (remainders_extend a b before begun w e same)

-- those of another list
pub gathers_added : (old now : Numbered) (begun xs made : List Remainder) (ss : List law.Remainder) → Extends old.pool now.pool → now.schema ≡ old.schema →
    AreRemainders now ss xs → AreAdded xs begun made → Gathers old now begun ss made
gathers_added old now begun xs made ss e same k added before w =
    remainders_added now before ss xs begun made (remainders_extend old now before begun w e same) k added

-- in any order
pub gathers_same : (old now : Numbered) (begun made : List Remainder) (rs ss : List law.Remainder) → Gathers old now begun rs made → AreSame rs ss → Gathers old now begun ss made
gathers_same old now begun made rs ss h e before w =
    remainders_same now (before ++ rs) (before ++ ss) made (h before w) (same_append before before rs ss (same_refl before) e)

-- the remainders of the first of some numbers have been added, grown
pub record AreGrown (old now : Numbered) (by : Grow) (first begun made : List Remainder) : Type 0 where
  pub kept : Extends old.pool now.pool
  pub schema : now.schema ≡ old.schema
  pub gathers : Gathers old now begun (map (with_rest (grown by (tree_at old.pool (part by)))) (remainders_of old.pool first)) made

pub grown_none : (old : Numbered) (by : Grow) (begun : List Remainder) → AreGrown old old by [] begun begun
grown_none old by begun = record { kept = extends_refl old.pool; schema = refl; gathers = gathers_none old old begun (extends_refl old.pool) refl }

pub grown_more : (old a b : Numbered) (by : Grow) (xs begun mid made : List Remainder) (i : ℕ) (x d : Remainder) (rest : PatternId) →
    All (IsWithin old) xs → part by < count old.pool → i < length xs → x ≡ get_or xs i d → AreGrown old a by (take i xs) begun mid →
    Extends a.pool b.pool → b.schema ≡ a.schema → rest.0 < count b.pool →
    tree_at b.pool rest.0 ≡ grown by (tree_at a.pool (part by)) (tree_at a.pool x.rest.0) →
    AreAdded (record { definition = x.definition; rest = rest } ∷ []) mid made → AreGrown old b by (take (i + 1) xs) begun made
grown_more old a b by xs begun mid made i x d rest within p l is h e same w t added =
    let f = with_rest (grown by (tree_at old.pool (part by))) in
    let here : IsWithin old x = subst (IsWithin old) (sym is) (All-get_or (IsWithin old) xs i d l within) in
    let y : Remainder = record { definition = x.definition; rest = rest } in
    let whole = same ∙ h.schema in
    let y_within : IsWithin b y = (subst (λ g. x.definition < length g.elements) (sym whole) here.0, w) in
    let made_of : tree_at b.pool rest.0 ≡ grown by (tree_at old.pool (part by)) (tree_at old.pool x.rest.0) =
    t ∙ (λ k. grown by (h.kept.kept (part by) p k) (h.kept.kept x.rest.0 here.1 k)) in
    let image : remainder_of b.pool y ≡ f (remainder_of old.pool x) = λ k. record { number = x.definition; rest = made_of k } in
    let one : AreRemainders b (f (remainder_of old.pool x) ∷ []) (y ∷ []) = subst (λ r. AreRemainders b (r ∷ []) (y ∷ [])) image (one_remainder b y y_within) in
    let longer : map f (remainders_of old.pool (take i xs)) ++ f (remainder_of old.pool x) ∷ [] ≡ map f (remainders_of old.pool (take (i + 1) xs)) =
    sym (map-append f (remainders_of old.pool (take i xs)) (remainder_of old.pool x ∷ []))
    ∙ ap (map f) (sym (map-append (remainder_of old.pool) (take i xs) (x ∷ [])))
    ∙ ap (λ y. map f (remainders_of old.pool (take i xs ++ y ∷ []))) is
    ∙ ap (λ ys. map f (remainders_of old.pool ys)) (sym (take_more xs i d l)) in
    record {
      kept = extends_trans old.pool a.pool b.pool h.kept e;
      schema = whole;
      gathers = subst (λ rs. Gathers old b begun rs made) longer
          (gathers_then old a b begun mid made _ _ h.gathers (gathers_added a b mid (y ∷ []) made _ e same one added));
    }

-- all are added, grown
grown_all : (old mid now : Numbered) (by : Grow) (xs begun made : List Remainder) (rs : List law.Remainder) → AreRemainders mid rs xs → Extends old.pool mid.pool →
    mid.schema ≡ old.schema → part by < count old.pool →
    Gathers mid now begun (map (with_rest (grown by (tree_at mid.pool (part by)))) (remainders_of mid.pool xs)) made →
    Gathers old now begun (map (with_rest (grown by (tree_at old.pool (part by)))) rs) made
grown_all old mid now by xs begun made rs h e same p k =
    subst (λ q. Gathers old now begun (map (with_rest (grown by q)) rs) made) (e.kept (part by) p)
    (gathers_same old now begun made _ _ (gathers_later old mid now begun made _ e same k)
    (same_map (grown by (tree_at mid.pool (part by))) (remainders_of mid.pool xs) rs h.same))

-- those of a part whose set is kept, grown
pub gathers_grown : (old mid now : Numbered) (by : Grow) (id : PatternId) (xs begun made : List Remainder) → IsSetOf mid id xs → id.0 < count old.pool →
    Extends old.pool mid.pool → mid.schema ≡ old.schema → part by < count old.pool →
    Gathers mid now begun (map (with_rest (grown by (tree_at mid.pool (part by)))) (remainders_of mid.pool xs)) made →
    Gathers old now begun (map (with_rest (grown by (tree_at old.pool (part by)))) (remainders (tree_at old.pool id.0))) made
gathers_grown old mid now by id xs begun made set inside e same p k =
    grown_all old mid now by xs begun made (remainders (tree_at old.pool id.0)) (subst (λ q. AreRemainders mid (remainders q) xs) (e.kept id.0 inside) set.pairs) e same p k

-- those of a part whose set is kept
pub gathers_part : (old now : Numbered) (id : PatternId) (xs begun made : List Remainder) → IsSetOf now id xs → id.0 < count old.pool →
    Extends old.pool now.pool → now.schema ≡ old.schema → AreAdded xs begun made → Gathers old now begun (remainders (tree_at old.pool id.0)) made
gathers_part old now id xs begun made set inside e same added =
    gathers_added old now begun xs made (remainders (tree_at old.pool id.0)) e same (subst (λ q. AreRemainders now (remainders q) xs) (e.kept id.0 inside) set.pairs) added

-- nothing remains of a reference
pub gathers_opened : (g : Numbered) (begun made : List Remainder) (d : ℕ) (rest : PatternId) → d < length g.schema.elements → rest.0 < count g.pool →
    tree_at g.pool rest.0 ≡ empty → AreAdded (record { definition = d; rest = rest } ∷ []) begun made → Gathers g g begun (remainders (ref d)) made
unfolding remainders
gathers_opened g begun made d rest l w t added =
    gathers_added g g begun _ made _ (extends_refl g.pool) refl
    (subst (λ p. AreRemainders g (record { number = d; rest = p } ∷ []) (record { definition = d; rest = rest } ∷ [])) t
    (one_remainder g (record { definition = d; rest = rest }) (l, w))) added

repeated_remainders : (p : Pattern) → remainders (one_or_more p) ≡ map (with_rest (λ y. group_of y (more p))) (remainders p)
unfolding remainders
repeated_remainders p = refl

pub gathers_repeated : (a b c : Numbered) (id : ℕ) (part again : PatternId) (begun made : List Remainder) → tree_at a.pool id ≡ one_or_more (tree_at a.pool part.0) →
    part.0 < count a.pool → Extends a.pool b.pool → b.schema ≡ a.schema → tree_at b.pool again.0 ≡ more (tree_at a.pool part.0) →
    Gathers b c begun (map (with_rest (grown (InGroup again) (tree_at b.pool again.0))) (remainders (tree_at b.pool part.0))) made →
    Gathers a c begun (remainders (tree_at a.pool id)) made
gathers_repeated a b c id part again begun made t p e same m g =
    subst (λ rs. Gathers a c begun rs made)
    ((λ k. map (with_rest (λ y. group_of y (m k))) (remainders (e.kept part.0 p k))) ∙ sym (ap remainders t ∙ repeated_remainders (tree_at a.pool part.0)))
    (gathers_later a b c begun made _ e same g)

group_remainders : (p q : Pattern) → remainders (group p q) ≡ map (with_rest (λ y. group_of y q)) (remainders p) ++ if_nullable (nullable p) (remainders q)
unfolding remainders
group_remainders p q = refl

pub gathers_group : (a b c : Numbered) (id : ℕ) (first second : PatternId) (begun mid made : List Remainder) →
    tree_at a.pool id ≡ group (tree_at a.pool first.0) (tree_at a.pool second.0) → first.0 < count a.pool → second.0 < count a.pool → Extends a.pool b.pool →
    Gathers a b begun (map (with_rest (grown (InGroup second) (tree_at a.pool second.0))) (remainders (tree_at a.pool first.0))) mid →
    Gathers b c mid (if_nullable (nullable (tree_at b.pool first.0)) (remainders (tree_at b.pool second.0))) made →
    Gathers a c begun (remainders (tree_at a.pool id)) made
gathers_group a b c id first second begun mid made t f s e h k =
    subst (λ rs. Gathers a c begun rs made) (sym (ap remainders t ∙ group_remainders (tree_at a.pool first.0) (tree_at a.pool second.0)))
    (gathers_then a b c begun mid made _ _ h
    (subst (λ rs. Gathers b c mid rs made) (λ i. if_nullable (nullable (e.kept first.0 f i)) (remainders (e.kept second.0 s i))) k))

interleave_remainders : (p q : Pattern) → remainders (interleave p q) ≡ map (with_rest (λ y. interleave_of y q)) (remainders p) ++ map (with_rest (λ y. interleave_of p y)) (remainders q)
unfolding remainders
interleave_remainders p q = refl

pub gathers_interleave : (a b c : Numbered) (id : ℕ) (first second : PatternId) (begun mid made : List Remainder) →
    tree_at a.pool id ≡ interleave (tree_at a.pool first.0) (tree_at a.pool second.0) → first.0 < count a.pool → second.0 < count a.pool → Extends a.pool b.pool →
    Gathers a b begun (map (with_rest (grown (Before second) (tree_at a.pool second.0))) (remainders (tree_at a.pool first.0))) mid →
    Gathers b c mid (map (with_rest (grown (Behind first) (tree_at b.pool first.0))) (remainders (tree_at b.pool second.0))) made →
    Gathers a c begun (remainders (tree_at a.pool id)) made
gathers_interleave a b c id first second begun mid made t f s e h k =
    subst (λ rs. Gathers a c begun rs made) (sym (ap remainders t ∙ interleave_remainders (tree_at a.pool first.0) (tree_at a.pool second.0)))
    (gathers_then a b c begun mid made _ _ h
    (subst (λ rs. Gathers b c mid rs made) (λ i. map (with_rest (λ y. interleave_of (e.kept first.0 f i) y)) (remainders (e.kept second.0 s i))) k))

after_remainders : (p q : Pattern) → remainders (after p q) ≡ map (with_rest (λ y. after_of y q)) (remainders p)
unfolding remainders
after_remainders p q = refl

pub gathers_after : (a b : Numbered) (id : ℕ) (inside behind : PatternId) (begun made : List Remainder) →
    tree_at a.pool id ≡ after (tree_at a.pool inside.0) (tree_at a.pool behind.0) →
    Gathers a b begun (map (with_rest (grown (InAfter behind) (tree_at a.pool behind.0))) (remainders (tree_at a.pool inside.0))) made →
    Gathers a b begun (remainders (tree_at a.pool id)) made
gathers_after a b id inside behind begun made t h =
    subst (λ rs. Gathers a b begun rs made) (sym (ap remainders t ∙ after_remainders (tree_at a.pool inside.0) (tree_at a.pool behind.0))) h

-- the set of a number, once its remainders have been added to none
pub set_made : (old now : Numbered) (id : PatternId) (begun made : List Remainder) → begun ≡ [] → id.0 < count old.pool → Extends old.pool now.pool →
    now.schema ≡ old.schema → Gathers old now begun (remainders (tree_at old.pool id.0)) made → IsSetOf now id made
set_made old now id begun made none inside e same h =
    let l = e.longer in
    record {
      number = omega (arith, inside, l);
      pairs = subst (λ p. AreRemainders now (remainders p) made) (sym (e.kept id.0 inside)) (h [] (no_remainders old begun none));
    }

choice_remainders : (p q : Pattern) → remainders (choice p q) ≡ remainders p ++ remainders q
unfolding remainders
choice_remainders p q = refl

-- the first member's are added
pub members_begin : (old now : Numbered) (id first others : ℕ) (begun made : List Remainder) → others < id → tree_at old.pool id ≡ choice (tree_at old.pool first) (tree_at old.pool others) →
    Extends old.pool now.pool → now.schema ≡ old.schema → Gathers old now begun (remainders (tree_at old.pool first)) made → AreBegun old now id others begun made
members_begin old now id first others begun made l t e same h = record {
  kept = e;
  schema = same;
  below = l;
  done = remainders (tree_at old.pool first);
  gathers = h;
  whole = ap remainders t ∙ choice_remainders (tree_at old.pool first) (tree_at old.pool others);
}

-- and those of one more
pub members_more : (old a b : Numbered) (id rest member more : ℕ) (begun mid made : List Remainder) → id < count old.pool → AreBegun old a id rest begun mid →
    more < rest → member < rest → tree_at a.pool rest ≡ choice (tree_at a.pool member) (tree_at a.pool more) →
    Extends a.pool b.pool → b.schema ≡ a.schema → Gathers a b mid (remainders (tree_at a.pool member)) made → AreBegun old b id more begun made
members_more old a b id rest member more begun mid made inside h l m t e same g =
    let below = h.below in
    let was : tree_at old.pool rest ≡ choice (tree_at old.pool member) (tree_at old.pool more) =
    sym (h.kept.kept rest (omega (arith, below, inside))) ∙ t
    ∙ (λ k. choice (h.kept.kept member (omega (arith, below, inside, m)) k) (h.kept.kept more (omega (arith, below, inside, l)) k)) in
    let first = h.kept.kept member (omega (arith, below, inside, m)) in
    record {
      kept = extends_trans old.pool a.pool b.pool h.kept e;
      schema = same ∙ h.schema;
      below = omega (arith, l, below);
      done = h.done ++ remainders (tree_at old.pool member);
      gathers = gathers_then old a b begun mid made h.done (remainders (tree_at old.pool member)) h.gathers
          (subst (λ p. Gathers a b mid (remainders p) made) first g);
      whole = h.whole ∙ ap (λ p. h.done ++ remainders p) was ∙ ap (λ rs. h.done ++ rs) (choice_remainders (tree_at old.pool member) (tree_at old.pool more))
          ∙ sym (append_assoc h.done (remainders (tree_at old.pool member)) (remainders (tree_at old.pool more)));
    }

-- and those of the last
pub members_end : (old a b : Numbered) (id rest : ℕ) (begun mid made : List Remainder) → id < count old.pool → AreBegun old a id rest begun mid →
    Gathers a b mid (remainders (tree_at a.pool rest)) made → Gathers old b begun (remainders (tree_at old.pool id)) made
members_end old a b id rest begun mid made inside h g =
    let below = h.below in
    let last = h.kept.kept rest (omega (arith, below, inside)) in
    subst (λ rs. Gathers old b begun rs made) (sym h.whole)
    (gathers_then old a b begun mid made h.done (remainders (tree_at old.pool rest)) h.gathers (subst (λ p. Gathers a b mid (remainders p) made) last g))
