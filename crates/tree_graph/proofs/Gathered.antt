-- How entries are gathered and combined.
use Rattle.std.proofs.Common.{◌≡◌, ℕ, suc, ◌+◌, ◌-◌, ◌<◌, ◌≤◌, ◌⊎◌, inl, inr, Bool, true, false, cond, nat_lt, if◌then◌else◌, List, [], ◌∷◌, ◌++◌, length, map, take, get_or, Some, None, refl, sym, ap, ◌∙◌, subst, arith, append-nil, length-append, length-set}
use Rattle.std.specs.Prelude.{◌≢◌, ◌==◌, ◌||◌, slice_get, slice_set, filter_map, Contains}
use Rattle.std.specs.List.{list_any, cons_option}
use Rattle.std.proofs.lemmas.Bool.{ltb-true, ltb-false, eqb-true, eqb-false, eq-eqb, ne_eqb}
use Rattle.std.proofs.lemmas.List.{take_more, map-append}
use Rattle.std.proofs.lemmas.List.Elements.{filter-append, filter_map-append}
use Rattle.std.proofs.lemmas.List.Folds.{list_any-append}
use Rattle.std.proofs.lemmas.Option.{get_or_from_slice_get, slice_get_read, slice_get_within, same_Some}
use Rattle.derivative_laws.proofs.Members.{IsIn, is_in}
use Rattle.name_classes.specs.declared.class.NameClass.{NameClass}
use Rattle.schema_graph.specs.declared.node.Node.{Node}
use Rattle.tree_graph.specs.declared.entry.Entry.{Entry}
use Rattle.tree_graph.specs.declared.combining.Group.{Group}
use Rattle.tree_graph.specs.States.{State, IsNodeIn, place_of_node}
use Rattle.tree_graph.specs.Combined.{entries_at, combined, AreOf, AreEntries, AreGroups, AreDefinedFrom}
use Rattle.tree_graph.proofs.Lists.{begins_same, begins_more, begins_then, get_front, get_last, get_in_front}
use Rattle.tree_graph.proofs.Writes.{get_set, get_other}

-- one entry more
entries_push : (d : ℕ) (es : List Entry) (e : Entry) (b : Bool) → (e.definition == d) ≡ b → entries_at d (es ++ e ∷ []) ≡ cond b (entries_at d es ++ e ∷ []) (entries_at d es)
entries_push d es e b f = filter-append (λ (x : Entry). x.definition == d) es (e ∷ []) ∙ ap (λ c. entries_at d es ++ cond c (e ∷ []) []) f ∙ by b
  where
    by : (c : Bool) → entries_at d es ++ cond c (e ∷ []) [] ≡ cond c (entries_at d es ++ e ∷ []) (entries_at d es)
    by true = refl
    by false = append-nil (entries_at d es)

abbrev nodes_of : List Entry → List ℕ
nodes_of es = map (λ (e : Entry). e.node) es

abbrev interleave : List Entry → Bool
interleave es = list_any (λ (e : Entry). e.interleaves) es

-- what is gathered of one definition
abbrev IsGroup : List Entry → Group → Type 0
IsGroup es g = (g.members ≡ nodes_of es) × (g.interleaves ≡ interleave es)

abbrev with_entry : Group → Entry → Group
with_entry g e = record { interleaves = g.interleaves || e.interleaves; members = g.members ++ e.node ∷ [] }

group_more : (es : List Entry) (g : Group) (e : Entry) → IsGroup es g → IsGroup (es ++ e ∷ []) (with_entry g e)
group_more es g e (m, i) = (
  ap (λ l. l ++ e.node ∷ []) m ∙ sym (map-append (λ (x : Entry). x.node) es (e ∷ [])),
  ap (λ b. b || e.interleaves) i ∙ ap (λ b. interleave es || b) (alone e.interleaves) ∙ sym (list_any-append (λ (x : Entry). x.interleaves) es (e ∷ [])),
)
  where
    alone : (b : Bool) → b ≡ (b || false)
    alone true = refl
    alone false = refl

pub groups_more : (first i k : ℕ) (es : List Entry) (groups : List Group) (e : Entry) (g : Group) → slice_get es i ≡ Some e → e.definition ≡ first + k → slice_get groups k ≡ Some g →
    AreGroups first (take i es) groups → AreGroups first (take (i + 1) es) (slice_set groups k (with_entry g e))
groups_more first i k es groups e g is d there so m x got =
    let t : take (i + 1) es ≡ take i es ++ e ∷ [] = take_more es i e (slice_get_within es i e is) ∙ ap (λ y. take i es ++ y ∷ []) (get_or_from_slice_get es i e e is) in
    subst (λ l. IsGroup (entries_at (first + m) l) x) (sym t) (by (m == k) refl)
  where
    by : (b : Bool) → (m == k) ≡ b → IsGroup (entries_at (first + m) (take i es ++ e ∷ [])) x
    by true f =
        let same : m ≡ k = eqb-true m k f in
        let w : with_entry g e ≡ x = same_Some (with_entry g e) x (sym (get_set groups k (with_entry g e) (slice_get_within groups k g there)) ∙ subst (λ j. slice_get (slice_set groups k (with_entry g e)) j ≡ Some x) same got) in
        let p : (e.definition == first + m) ≡ true = eq-eqb e.definition (first + m) (omega (arith, d, same)) in
        rw (entries_push (first + m) (take i es) e true p, ← w) (group_more (entries_at (first + m) (take i es)) g e (so m g (subst (λ j. slice_get groups j ≡ Some g) (sym same) there)))
    by false f =
        let other = eqb-false m k f in
        let p : (e.definition == first + m) ≡ false = ne_eqb e.definition (first + m) (λ q. other (omega (arith, d, q))) in
        rw (entries_push (first + m) (take i es) e false p) (so m x (sym (get_other groups k m (with_entry g e) other) ∙ got))

-- groups without entries, one more
pub groups_push : (first : ℕ) (groups : List Group) → AreGroups first [] groups → AreGroups first [] (groups ++ record { interleaves = false; members = [] } ∷ [])
groups_push first groups so k g got =
    elim (nat_lt k (length groups)) as (λ r. nat_lt k (length groups) ≡ r → IsGroup [] g) [
      | true ↦ λ r. so k g (get_in_front groups (none ∷ []) k g got (ltb-true k (length groups) r))
      | false ↦ λ r. last (ltb-false k (length groups) r)
    ] refl
  where
    none : Group
    none = record { interleaves = false; members = [] }

    last : length groups ≤ k → IsGroup [] g
    last l =
        let b = slice_get_within (groups ++ none ∷ []) k g got in let c : length (groups ++ none ∷ []) ≡ length groups + 1 = length-append groups (none ∷ []) in
        let e : k ≡ length groups = omega (arith, l, b, c) in
        let f = rw e at got in
        let same : none ≡ g = same_Some none g (sym (get_last groups none) ∙ f) in
        rw (← same) (refl, refl)

-- the last group is taken away
pub groups_rest : (first : ℕ) (es : List Entry) (groups rest : List Group) (g : Group) → groups ≡ rest ++ g ∷ [] → AreGroups first es groups → AreGroups first es rest
groups_rest first es groups rest g e so k x got = so k x (rw e (get_front rest (g ∷ []) k x got))

pub group_last : (first : ℕ) (es : List Entry) (groups rest : List Group) (g : Group) → groups ≡ rest ++ g ∷ [] → AreGroups first es groups → IsGroup (entries_at (first + length rest) es) g
group_last first es groups rest g e so = so (length rest) g (rw e (get_last rest g))

-- its node
pub node_of_group : (es : List Entry) (g : Group) → IsGroup es g → (if g.interleaves then Node.Interleave g.members else Node.Choice g.members) ≡ combined es
node_of_group es g (m, i) = rw (m, i) refl

in_nodes : (d j : ℕ) (es : List Entry) → IsIn j (nodes_of (entries_at d es)) → (i : ℕ) × ((e : Entry) × ((slice_get es i ≡ Some e) × (e.node ≡ j)))
in_nodes d j [] h = absurd h
in_nodes d j (e ∷ es) h = go (e.definition == d) h (in_nodes d j es)
  where
    go : (b : Bool) → IsIn j (nodes_of (cond b (e ∷ entries_at d es) (entries_at d es))) → (IsIn j (nodes_of (entries_at d es)) → (i : ℕ) × ((x : Entry) × ((slice_get es i ≡ Some x) × (x.node ≡ j))))
        → (i : ℕ) × ((x : Entry) × ((slice_get (e ∷ es) i ≡ Some x) × (x.node ≡ j)))
    go true (inl f) next = (0, (e, (refl, sym f)))
    go true (inr k) next = let n = next k in (suc n.0, n.1)
    go false k next = let n = next k in (suc n.0, n.1)

some_nodes : (es : List Entry) → es ≢ [] → nodes_of es ≢ []
some_nodes [] n e = n refl
some_nodes (x ∷ es) n e = absurd (cc)

-- what is combined names nodes that are there
pub combined_within : (first count nodes more k definitions tokens : ℕ) (es : List Entry) → AreEntries first count nodes es → k < count → nodes ≤ more → IsNodeIn more definitions tokens (combined (entries_at (first + k) es))
combined_within first count nodes more k definitions tokens es w l n = by (interleave (entries_at (first + k) es))
  where
    js : List ℕ
    js = nodes_of (entries_at (first + k) es)

    less : (j : ℕ) → Contains js j → j < more
    less j h = let x = in_nodes (first + k) j es (is_in j js h) in let a = w.there x.0 x.1.0 x.1.1.0 in let e = x.1.1.1 in omega (arith, a, e, n)

    by : (b : Bool) → IsNodeIn more definitions tokens (if b then Node.Interleave js else Node.Choice js)
    by true = record { parts = less; content = λ m j c e. absurd (cc); leads = λ e h. absurd (cc); many = some_nodes (entries_at (first + k) es) (w.some k l) }
    by false = record { parts = less; content = λ m j c e. absurd (cc); leads = λ e h. absurd (cc); many = some_nodes (entries_at (first + k) es) (w.some k l) }

no_place : (es : List Entry) → place_of_node (combined es) ≡ None
no_place es = by (interleave es)
  where
    by : (b : Bool) → place_of_node (if b then Node.Interleave (nodes_of es) else Node.Choice (nodes_of es)) ≡ None
    by true = refl
    by false = refl

no_token : (es : List Entry) (m j : ℕ) (d : NameClass) → combined es ≡ Node.Element m d j → ⊥
no_token es m j d = by (interleave es)
  where
    by : (b : Bool) → (if b then Node.Interleave (nodes_of es) else Node.Choice (nodes_of es)) ≡ Node.Element m d j → ⊥
    by true e = absurd (cc)
    by false e = absurd (cc)

pub none_defined : (n first count : ℕ) (es : List Entry) (old : State) → count ≤ n → AreDefinedFrom n first count es old old
none_defined n first count es old l = record {
  nodes = begins_same old.nodes;
  references = refl;
  others = λ a m j d l h. let b = slice_get_within old.nodes a _ h in omega (arith, l, b);
  counted = refl;
  kept = λ d h. refl;
  each = λ k a b. absurd (omega (arith, l, a, b));
  elements = refl;
  tokens = refl;
}

-- one definition more gets its node
pub one_defined : (n m first count : ℕ) (es : List Entry) (old mid : State) (x : Node) → n ≡ suc m → m < count → first + m < length mid.definitions → x ≡ combined (entries_at (first + m) es) → AreDefinedFrom n first count es old mid →
    AreDefinedFrom m first count es old (record mid { nodes = mid.nodes ++ x ∷ []; definitions = slice_set mid.definitions (first + m) (length mid.nodes) })
one_defined n m first count es old mid x e less there is w = record {
  nodes = begins_then old.nodes mid.nodes (mid.nodes ++ x ∷ []) w.nodes (begins_more mid.nodes (x ∷ []));
  references = filter_map-append place_of_node mid.nodes (x ∷ []) ∙ ap (λ o. filter_map place_of_node mid.nodes ++ cons_option o []) (ap place_of_node is ∙ no_place (entries_at (first + m) es))
      ∙ append-nil (filter_map place_of_node mid.nodes) ∙ w.references;
  others = others;
  counted = length-set mid.definitions (first + m) (length mid.nodes) ∙ w.counted;
  kept = kept;
  each = each;
  elements = w.elements;
  tokens = w.tokens;
}
  where
    others : (a n j : ℕ) (d : NameClass) → length old.nodes ≤ a → slice_get (mid.nodes ++ x ∷ []) a ≡ Some (Node.Element n d j) → ⊥
    others a n j d l h =
        elim (nat_lt a (length mid.nodes)) as (λ r. nat_lt a (length mid.nodes) ≡ r → ⊥) [
          | true ↦ λ r. w.others a n j d l (get_in_front mid.nodes (x ∷ []) a (Node.Element n d j) h (ltb-true a (length mid.nodes) r))
          | false ↦ λ r. last (ltb-false a (length mid.nodes) r)
        ] refl
      where
        last : length mid.nodes ≤ a → ⊥
        last k =
            let b = slice_get_within (mid.nodes ++ x ∷ []) a (Node.Element n d j) h in let c : length (mid.nodes ++ x ∷ []) ≡ length mid.nodes + 1 = length-append mid.nodes (x ∷ []) in
            let f : a ≡ length mid.nodes = omega (arith, k, b, c) in
            let g = rw f at h in
            no_token (entries_at (first + m) es) n j d (sym is ∙ same_Some x (Node.Element n d j) (sym (get_last mid.nodes x) ∙ g))

    kept : (d : ℕ) → (d < first + m) ⊎ (first + count ≤ d) → slice_get (slice_set mid.definitions (first + m) (length mid.nodes)) d ≡ slice_get old.definitions d
    kept d (inl l) = get_other mid.definitions (first + m) d (length mid.nodes) (λ q. omega (arith, l, q)) ∙ w.kept d (inl (omega (arith, l, e)))
    kept d (inr l) = get_other mid.definitions (first + m) d (length mid.nodes) (λ q. omega (arith, l, q, less)) ∙ w.kept d (inr l)

    each : (k : ℕ) → m ≤ k → k < count → (i : ℕ) × (slice_get (slice_set mid.definitions (first + m) (length mid.nodes)) (first + k) ≡ Some i) × (slice_get (mid.nodes ++ x ∷ []) i ≡ Some (combined (entries_at (first + k) es)))
    each k a b =
        elim (k == m) as (λ r. (k == m) ≡ r → (i : ℕ) × (slice_get (slice_set mid.definitions (first + m) (length mid.nodes)) (first + k) ≡ Some i) × (slice_get (mid.nodes ++ x ∷ []) i ≡ Some (combined (entries_at (first + k) es)))) [
          | true ↦ λ r. let q : k ≡ m = eqb-true k m r in
              rw q (length mid.nodes, get_set mid.definitions (first + m) (length mid.nodes) there, get_last mid.nodes x ∙ ap Some is)
          | false ↦ λ r. let q = eqb-false k m r in
              let y = w.each k (omega (arith, a, q, e)) b in
              (y.0, get_other mid.definitions (first + m) (first + k) (length mid.nodes) (λ p. q (omega (arith, p))) ∙ y.1, get_front mid.nodes (x ∷ []) y.0 (combined (entries_at (first + k) es)) y.2)
        ] refl

-- an entry is gathered at its definition
pub gathered : (first count i k : ℕ) (es : List Entry) (groups : List Group) (e : Entry) (g x : Group) → i < length es → e ≡ get_or es i e → k ≡ e.definition - first → length groups ≡ count → AreOf first count es →
    g ≡ get_or groups k g → x ≡ record { interleaves = g.interleaves || e.interleaves; members = g.members ++ e.node ∷ [] } →
    AreGroups first (take i es) groups → (length (slice_set groups k x) ≡ count) × AreGroups first (take (i + 1) es) (slice_set groups k x)
gathered first count i k es groups e g x h is at long of there new so =
    let got : slice_get es i ≡ Some e = slice_get_read es (length es) i e refl h is in
    let a = of i e got in
    let b = a.0 in let c = a.1 in
    let d : e.definition ≡ first + k = omega (arith, at, b) in (
      length-set groups k x ∙ long,
      rw new (groups_more first i k es groups e g got d (slice_get_read groups (length groups) k g refl (omega (arith, c, d, long)) there) so),
    )
