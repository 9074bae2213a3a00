-- The table of the names that are put is the table of the classes.
use Rattle.std.proofs.Common.{◌≡◌, ℕ, zero, suc, ◌+◌, ◌<◌, ◌≤◌, ◌⊎◌, inl, inr, ◌↔◌, List, [], ◌∷◌, length, map, refl, sym, ◌∙◌, ap, subst, arith, codes, Contains, Some, None, Option, IsSome, slice_get}
use Rattle.std.specs.BTreeMap as tree
use Rattle.std.specs.BTreeMap.{BTreeMap}
use Rattle.std.specs.List.Sorted.{IsStrictlySortedBy}
use Rattle.std.specs.Ordering.{nat_cmp}
use Rattle.std.specs.Cmp.Lexicographic.{slice_cmp}
use Rattle.std.proofs.lemmas.Map.Views.{btree_map_get_iff, btree_map_contains_key_iff}
use Rattle.rng_model.specs.Texts.{Text}
use Rattle.rng_model.specs.Names.{Name, name_cmp}
use Rattle.rng_model.specs.Classes.{Class}
use Rattle.rng_model.specs.Fresh.{numbered, IsFirstFree, IsAmongFree, HasFree}
use Rattle.rng_model.specs.Fresh as fresh
use Rattle.rng_model.specs.Universe.{IsMentioned, IsMentionedSpace, IsFreshLocal, IsFreshSpace, InUniverse, AreNames}
use Rattle.rng_model.proofs.Orders.{name_order, name_cmp-same}
use Rattle.universe_laws.proofs.Unique.{mentioned_space}
use Rattle.text_atoms.proofs.FreshTexts.{first_as, first-same}
use Rattle.text_atoms.proofs.Members.{member_first, member_later, member_of_map}
use Rattle.name_universe.specs.declared.origin.Origin.{Origin}
use Rattle.name_universe.specs.declared.origin.Origin.TheVariants.{Mentioned, FreshLocal, FreshSpace}
use Rattle.name_universe.specs.Sets.{Puts, IsTakenIn, origin_in}
use Rattle.name_universe.specs.Tables.{HasOrigin, NameTable, IsTable, IsTableOf, AreMentions, spaces_of}
use Rattle.name_universe.proofs.NameSets.{Map}
use Rattle.name_universe.proofs.Popping.{AreFirsts, IsFreshIn}

pub empty_map : (m : BTreeMap Name Origin) → tree.IsEmpty m → (n : Name) → origin_in m n ≡ None
empty_map m e n = rw e refl

-- of what is taken alike
free_as : (taken others : Text → Type 0) (stem : Text) (k m : ℕ) → ((t : Text) → taken t → others t) → ((t : Text) → others t → taken t) → HasFree taken stem k m → HasFree others stem k m
free_as taken others stem zero zero to from fresh.none = fresh.none
free_as taken others stem zero (suc m) to from h = elim h [ ]
free_as taken others stem (suc k) m to from (fresh.past_taken h t) = fresh.past_taken (free_as taken others stem k m to from h) (to _ t)
free_as taken others stem (suc k) (suc m) to from (fresh.past_free h f) = fresh.past_free (free_as taken others stem k m to from h) (λ t. f (from _ t))

among_as : (taken others : Text → Type 0) (count : ℕ) (stem x : Text) → ((t : Text) → taken t → others t) → ((t : Text) → others t → taken t) → IsAmongFree taken count stem x → IsAmongFree others count stem x
among_as taken others count stem x to from a = record {
  number = a.number;
  earlier = a.earlier;
  is = a.is;
  free = λ t. a.free (from x t);
  before = free_as taken others stem a.number a.earlier to from a.before;
  few = a.few;
}

-- where nothing is taken the first are the first numbers
all_free : (taken : Text → Type 0) (stem : Text) → ((t : Text) → taken t → ⊥) → (k : ℕ) → HasFree taken stem k k
all_free taken stem none zero = fresh.none
all_free taken stem none (suc k) = fresh.past_free (all_free taken stem none k) (none _)

as_many : (taken : Text → Type 0) (stem : Text) → ((t : Text) → taken t → ⊥) → (k m : ℕ) → HasFree taken stem k m → k ≡ m
as_many taken stem none zero zero fresh.none = refl
as_many taken stem none zero (suc m) h = elim h [ ]
as_many taken stem none (suc k) m (fresh.past_taken h t) = absurd (none _ t)
as_many taken stem none (suc k) (suc m) (fresh.past_free h f) = ap suc (as_many taken stem none k m h)

none_before : (taken : Text → Type 0) (stem : Text) (k : ℕ) → ((j : ℕ) → j < k → taken (numbered stem j)) → HasFree taken stem k 0
none_before taken stem zero f = fresh.none
none_before taken stem (suc k) f = fresh.past_taken (none_before taken stem k (λ j l. f j (omega arith))) (f k (omega arith))

first_among : (taken : Text → Type 0) (count : ℕ) (stem x : Text) → 1 ≤ count → IsFirstFree taken stem x → IsAmongFree taken count stem x
first_among taken count stem x some f = record { number = f.number; earlier = 0; is = f.is; free = f.free; before = none_before taken stem f.number f.first; few = omega arith }

entry_at : (es : List (Name × Origin)) (i : ℕ) (n : Name) (o : Origin) → slice_get (map (λ e. e.0) es) i ≡ Some n → slice_get (map (λ e. e.1) es) i ≡ Some o → Contains es (n, o)
entry_at [] i n o h k = absurd (cc)
entry_at (e ∷ es) zero n o h k =
    let first : e.0 ≡ n = cc in
    let second : e.1 ≡ o = cc in
    subst (Contains (e ∷ es)) (λ i. (first i, second i)) (member_first e es)
entry_at (e ∷ es) (suc i) n o h k = member_later e (n, o) es (entry_at es i n o h k)

as_long : (es : List (Name × Origin)) → length (map (λ e. e.1) es) ≡ length (map (λ e. e.0) es)
as_long [] = refl
as_long (e ∷ es) = ap suc (as_long es)

-- what is put into an empty map
pub record IsFilled (fresh_count : ℕ) (mentioned : List Name) (spaces : List Text) (space : Text) (f : Map) : Type 0 where
  pub gives : (n : Name) (o : Origin) → f n ≡ Some o →
      ((o ≡ FreshSpace) × (n.ns ≡ space) × IsAmongFree (IsTakenIn mentioned space) fresh_count (codes "x") n.local)
      ⊎ ((o ≡ FreshLocal) × IsFreshIn mentioned fresh_count spaces n)
      ⊎ ((o ≡ Mentioned) × Contains mentioned n)
  pub foreign : (n : Name) → n.ns ≡ space → IsAmongFree (IsTakenIn mentioned space) fresh_count (codes "x") n.local → IsSome (f n)
  pub local : (n : Name) → IsFreshIn mentioned fresh_count spaces n → IsSome (f n)
  pub named : (n : Name) → Contains mentioned n → IsSome (f n)

pub filled : (count : ℕ) (mentioned : List Name) (spaces : List Text) (space : Text) (f0 f1 f2 f3 : Map) → ((n : Name) → f0 n ≡ None) →
    Puts f0 f1 FreshSpace (λ n. (n.ns ≡ space) × IsAmongFree (IsTakenIn mentioned space) count (codes "x") n.local) →
    Puts f1 f2 FreshLocal (IsFreshIn mentioned count spaces) → Puts f2 f3 Mentioned (Contains mentioned) → IsFilled count mentioned spaces space f3
filled count mentioned spaces space f0 f1 f2 f3 none a b d = record {
  gives = λ n o e. elim (d.gives n o e) [
    | inr k ↦ inr (inr k)
    | inl e2 ↦ elim (b.gives n o e2) [
      | inr k ↦ inr (inl k)
      | inl e1 ↦ elim (a.gives n o e1) [
        | inr (is, (s, h)) ↦ inl (is, s, h)
        | inl e0 ↦ absurd (let clash : None ≡ Some o = sym (none n) ∙ e0 in cc)
      ]
    ]
  ];
  foreign = λ n e h. d.kept n (b.kept n (a.given n (e, h)));
  local = λ n h. d.kept n (b.given n h);
  named = λ n h. d.given n h;
}

module _ (C : Class → Type 0) (count : ℕ) (mentioned : List Name) (spaces : List Text) (are : AreMentions C mentioned spaces) (space : Text) (is_fresh : IsFirstFree (Contains spaces) (codes "urn:x") space) where
  fresh_space : IsFreshSpace C space
  fresh_space = first_as (Contains spaces) (IsMentionedSpace C) (codes "urn:x") space (λ u. (are.spaces u).0) (λ u. (are.spaces u).1) is_fresh

  none_taken : (l : Text) → IsTakenIn mentioned space l → ⊥
  none_taken l h = fresh_space.free (mentioned_space C (record { ns = space; local = l }) ((are.names (record { ns = space; local = l })).0 h))

  locals_to : (n : Name) → IsFreshIn mentioned count spaces n → IsMentionedSpace C n.ns × IsFreshLocal C count n.ns n.local
  locals_to n (inside, a) = (
    (are.spaces n.ns).0 inside,
    among_as _ _ count _ _ (λ l. (are.names (record { ns = n.ns; local = l })).0) (λ l. (are.names (record { ns = n.ns; local = l })).1) a,
  )

  locals_from : (n : Name) → IsMentionedSpace C n.ns → IsFreshLocal C count n.ns n.local → IsFreshIn mentioned count spaces n
  locals_from n inside a = (
    (are.spaces n.ns).1 inside,
    among_as _ _ count _ _ (λ l. (are.names (record { ns = n.ns; local = l })).1) (λ l. (are.names (record { ns = n.ns; local = l })).0) a,
  )

  foreign_to : (n : Name) → n.ns ≡ space → IsAmongFree (IsTakenIn mentioned space) count (codes "x") n.local → IsFreshSpace C n.ns × ((k : ℕ) × (k < count) × (n.local ≡ numbered (codes "x") k))
  foreign_to n e a =
      let same : a.number ≡ a.earlier = as_many _ _ none_taken a.number a.earlier a.before in
      (subst (IsFreshSpace C) (sym e) fresh_space, (a.number, (let f = a.few in omega arith), a.is))

  one_space : (u : Text) → IsFreshSpace C u → u ≡ space
  one_space u h = first-same (IsMentionedSpace C) (codes "urn:x") u space h fresh_space

  foreign_from : (n : Name) → IsFreshSpace C n.ns → (k : ℕ) → k < count → n.local ≡ numbered (codes "x") k → (n.ns ≡ space) × IsAmongFree (IsTakenIn mentioned space) count (codes "x") n.local
  foreign_from n h k few e = (one_space n.ns h, record { number = k; earlier = k; is = e; free = none_taken n.local; before = all_free _ _ none_taken k; few = few })

  module _ (f : Map) (put : IsFilled count mentioned spaces space f) where
    pub has_origin : (n : Name) (o : Origin) → f n ≡ Some o → HasOrigin C count o n
    has_origin n o e = elim (put.gives n o e) [
      | inl (is, s, a) ↦ subst (λ (p : Origin). HasOrigin C count p n) (sym is) (foreign_to n s a)
      | inr (inl (is, h)) ↦ subst (λ (p : Origin). HasOrigin C count p n) (sym is) (locals_to n h)
      | inr (inr (is, h)) ↦ subst (λ (p : Origin). HasOrigin C count p n) (sym is) ((are.names n).0 h)
    ]

    in_universe : (n : Name) (o : Origin) → HasOrigin C count o n → InUniverse C count n
    in_universe n Mentioned h = inl h
    in_universe n FreshLocal h = inr (inl h)
    in_universe n FreshSpace h = inr (inr h)

    pub is_put : (n : Name) → InUniverse C count n → IsSome (f n)
    is_put n (inl h) = put.named n ((are.names n).1 h)
    is_put n (inr (inl (inside, a))) = put.local n (locals_from n inside a)
    is_put n (inr (inr (h, (k, few, e)))) = let (s, a) = foreign_from n h k few e in put.foreign n s a

    some_of : {X : Type 0} (o : Option X) → IsSome o → (x : X) × (o ≡ Some x)
    some_of None h = absurd (cc)
    some_of (Some x) h = (x, refl)

    pub in_universe-from : (n : Name) → IsSome (f n) → InUniverse C count n
    in_universe-from n h = let (o, e) = some_of (f n) h in in_universe n o (has_origin n o e)

-- the table, as it is made
module _ (count : ℕ) (some : 1 ≤ count) (mentioned : List Name) (spaces : List Text) (space : Text) (m : BTreeMap Name Origin) (up : IsStrictlySortedBy name_cmp (map (λ e. e.0) m.entries))
    (put : IsFilled count mentioned spaces space (origin_in m)) (firsts : List (Text × Name)) (all_spaces : spaces_of firsts ≡ spaces) (are_firsts : AreFirsts mentioned firsts)
    (foreign : Name) (in_space : foreign.ns ≡ space) (is_first : IsFirstFree (IsTakenIn mentioned space) (codes "x") foreign.local) where
  abbrev table : NameTable
  table = record { names = map (λ e. e.0) m.entries; origins = map (λ e. e.1) m.entries; firsts = firsts; foreign = foreign }

  listed : (n : Name) → IsSome (origin_in m n) ↔ Contains table.names n
  listed n = btree_map_contains_key_iff name_order name_cmp-same m n

  firsts_listed : (u : Text) (k : Name) → Contains firsts (u, k) → Contains table.names k
  firsts_listed u k h =
      let (e, first) = are_firsts u k h in
      let inside : Contains (spaces_of firsts) u = member_of_map (λ (x : Text × Name). x.0) firsts (u, k) h in
      (listed k).0 (put.local k (
      subst (λ (v : Text). Contains spaces v × IsAmongFree (IsTakenIn mentioned v) count (codes "x") k.local) (sym e)
      (subst (λ (us : List Text). Contains us u) all_spaces inside, first_among _ count _ _ some first)))

  pub is_table : IsStrictlySortedBy (slice_cmp nat_cmp) spaces → IsTable table
  is_table ordered = record {
    ascending = up;
    same_length = as_long m.entries;
    spaces = subst (IsStrictlySortedBy (slice_cmp nat_cmp)) (sym all_spaces) ordered;
    listed = firsts_listed;
    foreign = (listed foreign).0 (put.foreign foreign in_space (first_among _ count _ _ some is_first));
  }

  pub is_table_of : (C : Class → Type 0) → AreMentions C mentioned spaces → IsFirstFree (Contains spaces) (codes "urn:x") space → IsTableOf C count table
  is_table_of C are is_fresh = record {
    are = record { ascending = up; each = λ n. (λ h. in_universe-from C count mentioned spaces are space is_fresh (origin_in m) put n ((listed n).1 h), λ h. (listed n).0 (is_put C count mentioned spaces are space is_fresh (origin_in m) put n h)) };
    origins = λ i n o e h. has_origin C count mentioned spaces are space is_fresh (origin_in m) put n o ((btree_map_get_iff name_order name_cmp-same m up n o).1 (entry_at m.entries i n o e h));
    spaces = λ u. (λ h. subst (λ (us : List Text). Contains us u) (sym all_spaces) ((are.spaces u).1 h), λ h. (are.spaces u).0 (subst (λ (us : List Text). Contains us u) all_spaces h));
    firsts = λ u k h. (let (e, first) = are_firsts u k h in
        (e, first_as _ _ _ _ (λ l. (are.names (record { ns = u; local = l })).0) (λ l. (are.names (record { ns = u; local = l })).1) first));
    foreign = (subst (IsFreshSpace C) (sym in_space) (fresh_space C count mentioned spaces are space is_fresh), is_x (none_taken C count mentioned spaces are space is_fresh));
  }
    where
      is_x : ((l : Text) → IsTakenIn mentioned space l → ⊥) → foreign.local ≡ codes "x"
      is_x none = go is_first.number is_first.is is_first.first
        where
          go : (k : ℕ) → foreign.local ≡ numbered (codes "x") k → ((j : ℕ) → j < k → IsTakenIn mentioned space (numbered (codes "x") j)) → foreign.local ≡ codes "x"
          go zero e f = e
          go (suc k) e f = absurd (none _ (f 0 (omega arith)))

-- a table whose lists are equal to others
pub with_parts : (P : NameTable → Type 0) (names others : List Name) (origins kinds : List Origin) (firsts : List (Text × Name)) (foreign : Name) → names ≡ others → origins ≡ kinds →
    P (record { names = others; origins = kinds; firsts = firsts; foreign = foreign }) → P (record { names = names; origins = origins; firsts = firsts; foreign = foreign })
with_parts P names others origins kinds firsts foreign e f h = subst P (λ i. record { names = sym e i; origins = sym f i; firsts = firsts; foreign = foreign }) h
