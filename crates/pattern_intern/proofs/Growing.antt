-- A pool that gets one more node, class or literal.
use Rattle.std.proofs.Common.{◌≡◌, ℕ, zero, suc, ◌+◌, ◌<◌, ◌≤◌, ◌==◌, ◌⊎◌, inl, inr, false, get_or, None, Some, List, [], ◌∷◌, ◌++◌, length, slice_get, refl, sym, ◌∙◌, ap, arith, length-append, max}
use Rattle.std.proofs.lemmas.List.Sums.{fold-append}
use Rattle.std.proofs.lemmas.List.{get_or_append_left, get_or_at}
use Rattle.std.proofs.lemmas.Option.{slice_get_within, slice_get-get_or}
use Rattle.rng_model.proofs.Keys.{apart}
use Rattle.rng_model.specs.Texts.{Text}
use Rattle.rng_model.specs.Kinds.{Kind}
use Rattle.rng_model.specs.Kinds as kinds
use Rattle.rng_model.specs.Classes.{Class, any}
use Rattle.rng_model.specs.Patterns.{Pattern}
use Rattle.rng_model.specs.Patterns as pattern
use Rattle.text_atoms.specs.Kinds.{kind_of}
use Rattle.text_atoms.specs.declared.kind.Kind.{Kind as RustKind}
use Rattle.text_atoms.specs.declared.kind.Kind.TheVariants as rust
use Rattle.pattern_intern.specs.declared.facts.Facts.{Facts}
use Rattle.pattern_intern.specs.declared.id.PatternId.{PatternId}
use Rattle.pattern_intern.specs.declared.node.Node.{Node}
use Rattle.pattern_intern.specs.declared.node.Node.TheVariants.{NotAllowed, Empty, AnyText, Ref, Value, DataType, Attribute, OneOrMore, Choice, Group, Interleave, After}
use Rattle.pattern_intern.specs.Ordered.{IsOrdered}
use Rattle.pattern_intern.specs.Schemas.{AreRefsBelow, HasRefsBelow}
use Rattle.rng_model.specs.Depths.{in_choice, depth}
use Rattle.pattern_intern.specs.Stored.{Stored, stored, count, tree_at, AreApart, Extends}
use Rattle.pattern_intern.specs.Facts.{IsFacts}
use Rattle.pattern_intern.specs.Trees.{node_tree, with_node, trees, PartsBelow, IsNode, IsPool}

-- one node more is its tree more
pub trees-push : (cs : List Class) (ls : List Text) (nodes : List Node) (node : Node) → trees cs ls (nodes ++ node ∷ []) ≡ with_node cs ls (trees cs ls nodes) node
trees-push cs ls nodes node = fold-append (with_node cs ls) [] nodes (node ∷ [])

pub at_old : {X : Type 0} (xs : List X) (x d : X) (i : ℕ) → i < length xs → get_or (xs ++ x ∷ []) i d ≡ get_or xs i d
at_old xs x d i l = get_or_append_left xs (x ∷ []) d i l

pub at_new : {X : Type 0} (xs : List X) (x d : X) → get_or (xs ++ x ∷ []) (length xs) d ≡ x
at_new xs x d = get_or_at xs x [] d (length xs) refl

longer : {X : Type 0} (xs : List X) (x : X) → length xs ≤ length (xs ++ x ∷ [])
longer xs x = omega (arith, length-append xs (x ∷ []))

le_or : (i n : ℕ) → i < n + 1 → (i < n) ⊎ (i ≡ n)
le_or zero zero h = inr refl
le_or zero (suc n) h = inl (omega arith)
le_or (suc i) zero h = absurd (omega (arith, h))
le_or (suc i) (suc n) h = go (le_or i n (omega (arith, h)))
  where
    go : (i < n) ⊎ (i ≡ n) → (suc i < suc n) ⊎ (suc i ≡ suc n)
    go (inl l) = inl (omega (arith, l))
    go (inr e) = inr (ap suc e)

pub last_or : {X : Type 0} (xs : List X) (x : X) (i : ℕ) → i < length (xs ++ x ∷ []) → (i < length xs) ⊎ (i ≡ length xs)
last_or xs x i k = let s = length-append xs (x ∷ []) in le_or i (length xs) (omega (arith, k, s))

-- numbers of different members stay apart as a new one comes
pub apart-push : {X : Type 0} (xs : List X) (x d : X) → ((i j : ℕ) → i < length xs → j < length xs → get_or xs i d ≡ get_or xs j d → i ≡ j) →
    ((i : ℕ) → i < length xs → get_or xs i d ≡ x → ⊥) → (i j : ℕ) → i < length (xs ++ x ∷ []) → j < length (xs ++ x ∷ []) → get_or (xs ++ x ∷ []) i d ≡ get_or (xs ++ x ∷ []) j d → i ≡ j
apart-push {X} xs x d h new i j k l e = go (last_or xs x i k) (last_or xs x j l)
  where
    at : (i : ℕ) → i ≡ length xs → get_or (xs ++ x ∷ []) i d ≡ x
    at i s = rw s (at_new xs x d)

    go : (i < length xs) ⊎ (i ≡ length xs) → (j < length xs) ⊎ (j ≡ length xs) → i ≡ j
    go (inl a) (inl b) = h i j a b (sym (at_old xs x d i a) ∙ e ∙ at_old xs x d j b)
    go (inl a) (inr b) = absurd (new i a (sym (at_old xs x d i a) ∙ e ∙ at j b))
    go (inr a) (inl b) = absurd (new j b (sym (at_old xs x d j b) ∙ sym e ∙ at i a))
    go (inr a) (inr b) = a ∙ sym b

-- what stands in a list with one more
pub slice_get-push : {X : Type 0} (xs : List X) (x y : X) (k : ℕ) → slice_get (xs ++ x ∷ []) k ≡ Some y → (slice_get xs k ≡ Some y) ⊎ ((k ≡ length xs) × (x ≡ y))
slice_get-push [] x y zero h = inr (refl, cc)
slice_get-push [] x y (suc k) h = absurd (cc)
slice_get-push (z ∷ xs) x y zero h = inl h
slice_get-push (z ∷ xs) x y (suc k) h = go (slice_get-push xs x y k h)
  where
    go : (slice_get xs k ≡ Some y) ⊎ ((k ≡ length xs) × (x ≡ y)) → (slice_get xs k ≡ Some y) ⊎ ((suc k ≡ suc (length xs)) × (x ≡ y))
    go (inl e) = inl e
    go (inr (e, f)) = inr (ap suc e, f)

pub slice_get-old : {X : Type 0} (xs : List X) (x y : X) (k : ℕ) → slice_get xs k ≡ Some y → slice_get (xs ++ x ∷ []) k ≡ Some y
slice_get-old [] x y k h = absurd (cc)
slice_get-old (z ∷ xs) x y zero h = h
slice_get-old (z ∷ xs) x y (suc k) h = slice_get-old xs x y k h

pub extends-refl : (s : Stored) → Extends s s
extends-refl s =
    record { longer = omega arith; kept = λ i l. refl; more_classes = omega arith; classes = λ i l. refl; more_literals = omega arith; literals = λ i l. refl }

pub extends-trans : (a b c : Stored) → Extends a b → Extends b c → Extends a c
extends-trans a b c h k =
    let l = h.longer in let l' = k.longer in let m = h.more_classes in let m' = k.more_classes in let n = h.more_literals in let n' = k.more_literals in
    record {
      longer = omega (arith, l, l');
      kept = λ i w. k.kept i (omega (arith, w, l)) ∙ h.kept i w;
      more_classes = omega (arith, m, m');
      classes = λ i w. k.classes i (omega (arith, w, m)) ∙ h.classes i w;
      more_literals = omega (arith, n, n');
      literals = λ i w. k.literals i (omega (arith, w, n)) ∙ h.literals i w;
    }

-- the tree of a node stays as the pool extends
pub node_tree-extends : (n : ℕ) (s t : Stored) → Extends s t → n ≤ count s → (node : Node) → PartsBelow n s node → node_tree t node ≡ node_tree s node
node_tree-extends n s t x w NotAllowed h = refl
node_tree-extends n s t x w Empty h = refl
node_tree-extends n s t x w AnyText h = refl
node_tree-extends n s t x w (Ref d) h = refl
node_tree-extends n s t x w (Value k l) h = ap (pattern.value (kind_of k)) (x.literals l.0 h)
node_tree-extends n s t x w (DataType k None) h = refl
node_tree-extends n s t x w (DataType k (Some e)) h = ap (pattern.data_except (kind_of k)) (x.kept e.0 (omega (arith, h, w)))
node_tree-extends n s t x w (Attribute c a) h = let l = h.1 in let e = x.classes c.0 h.0 in let f = x.kept a.0 (omega (arith, l, w)) in (λ i. pattern.attribute (e i) (f i))
node_tree-extends n s t x w (OneOrMore a) h = ap pattern.one_or_more (x.kept a.0 (omega (arith, h, w)))
node_tree-extends n s t x w (Choice a b) h = let k = h.0 in let l = h.1 in let e = x.kept a.0 (omega (arith, k, w)) in let f = x.kept b.0 (omega (arith, l, w)) in (λ i. pattern.choice (e i) (f i))
node_tree-extends n s t x w (Group a b) h = let k = h.0 in let l = h.1 in let e = x.kept a.0 (omega (arith, k, w)) in let f = x.kept b.0 (omega (arith, l, w)) in (λ i. pattern.group (e i) (f i))
node_tree-extends n s t x w (Interleave a b) h = let k = h.0 in let l = h.1 in let e = x.kept a.0 (omega (arith, k, w)) in let f = x.kept b.0 (omega (arith, l, w)) in (λ i. pattern.interleave (e i) (f i))
node_tree-extends n s t x w (After a b) h = let k = h.0 in let l = h.1 in let e = x.kept a.0 (omega (arith, k, w)) in let f = x.kept b.0 (omega (arith, l, w)) in (λ i. pattern.after (e i) (f i))

-- and its parts stay below
pub parts-extend : (m n : ℕ) (s t : Stored) → m ≤ n → length s.classes ≤ length t.classes → length s.literals ≤ length t.literals → (node : Node) → PartsBelow m s node → PartsBelow n t node
parts-extend m n s t w c l NotAllowed h = tt
parts-extend m n s t w c l Empty h = tt
parts-extend m n s t w c l AnyText h = tt
parts-extend m n s t w c l (Ref d) h = tt
parts-extend m n s t w c l (Value k v) h = omega (arith, l, h)
parts-extend m n s t w c l (DataType k None) h = tt
parts-extend m n s t w c l (DataType k (Some e)) h = omega (arith, w, h)
parts-extend m n s t w c l (Attribute d a) h = let k = h.0 in let k' = h.1 in (omega (arith, c, k), omega (arith, w, k'))
parts-extend m n s t w c l (OneOrMore a) h = omega (arith, w, h)
parts-extend m n s t w c l (Choice a b) h = let k = h.0 in let k' = h.1 in (omega (arith, w, k), omega (arith, w, k'))
parts-extend m n s t w c l (Group a b) h = let k = h.0 in let k' = h.1 in (omega (arith, w, k), omega (arith, w, k'))
parts-extend m n s t w c l (Interleave a b) h = let k = h.0 in let k' = h.1 in (omega (arith, w, k), omega (arith, w, k'))
parts-extend m n s t w c l (After a b) h = let k = h.0 in let k' = h.1 in (omega (arith, w, k), omega (arith, w, k'))

-- the parts of a tree
abbrev pub left : Pattern → Pattern
left (pattern.data_except k p) = p
left (pattern.attribute c p) = p
left (pattern.one_or_more p) = p
left (pattern.choice p q) = p
left (pattern.group p q) = p
left (pattern.interleave p q) = p
left (pattern.after p q) = p
left p = p

abbrev pub right : Pattern → Pattern
right (pattern.choice p q) = q
right (pattern.group p q) = q
right (pattern.interleave p q) = q
right (pattern.after p q) = q
right p = p

abbrev pub number : Pattern → ℕ
number (pattern.ref d) = d
number p = 0

abbrev pub kind_in : Pattern → Kind
kind_in (pattern.value k t) = k
kind_in (pattern.data_type k) = k
kind_in (pattern.data_except k p) = k
kind_in p = kinds.Str

abbrev pub text_in : Pattern → Text
text_in (pattern.value k t) = t
text_in p = []

abbrev pub class_in : Pattern → Class
class_in (pattern.attribute c p) = c
class_in p = any

abbrev pub tag : Pattern → ℕ
tag pattern.not_allowed = 1
tag pattern.empty = 2
tag pattern.text = 3
tag (pattern.ref d) = 4
tag (pattern.value k t) = 5
tag (pattern.data_type k) = 6
tag (pattern.data_except k p) = 7
tag (pattern.attribute c p) = 8
tag (pattern.one_or_more p) = 9
tag (pattern.choice p q) = 10
tag (pattern.group p q) = 11
tag (pattern.interleave p q) = 12
tag (pattern.after p q) = 13

pub other : {p q : Pattern} → p ≡ q → (tag p == tag q) ≡ false → ⊥
other e f = let t = ap tag e in absurd (apart (ap (λ n. n ∷ []) t) f)

-- the kind of src/ that stands for a kind
abbrev rust_kind : Kind → RustKind
rust_kind kinds.Str = rust.Str
rust_kind kinds.Token = rust.Token
rust_kind kinds.Boolean = rust.Boolean
rust_kind kinds.Integer = rust.Integer
rust_kind kinds.NonNegative = rust.NonNegative
rust_kind kinds.Positive = rust.Positive
rust_kind kinds.NcName = rust.NcName
rust_kind kinds.Nmtoken = rust.Nmtoken

rust_kind-of : (k : RustKind) → rust_kind (kind_of k) ≡ k
rust_kind-of rust.Str = refl
rust_kind-of rust.Token = refl
rust_kind-of rust.Boolean = refl
rust_kind-of rust.Integer = refl
rust_kind-of rust.NonNegative = refl
rust_kind-of rust.Positive = refl
rust_kind-of rust.NcName = refl
rust_kind-of rust.Nmtoken = refl

kind-same : (k l : RustKind) → kind_of k ≡ kind_of l → k ≡ l
kind-same k l e = sym (rust_kind-of k) ∙ ap rust_kind e ∙ rust_kind-of l

-- nodes with one tree are one, where what their parts stand for is apart
module _ (s : Stored) (h : AreApart s) where
  both : {a b c d : PatternId} (f : PatternId → PatternId → Node) → (a.0 < count s) × (b.0 < count s) → (c.0 < count s) × (d.0 < count s) → tree_at s a.0 ≡ tree_at s c.0 → tree_at s b.0 ≡ tree_at s d.0 → f a b ≡ f c d
  both {a} {b} {c} {d} f k l e e' =
      let x = h.trees a.0 c.0 k.0 l.0 e in
      let y = h.trees b.0 d.0 k.1 l.1 e' in
      (λ i. f (record { 0 = x i }) (record { 0 = y i }))

  node_tree-same : (m n : Node) → PartsBelow (count s) s m → PartsBelow (count s) s n → node_tree s m ≡ node_tree s n → m ≡ n
  node_tree-same NotAllowed NotAllowed k l e = refl
  node_tree-same NotAllowed (DataType c (Some a)) k l e = absurd (other e refl)
  node_tree-same NotAllowed (DataType c None) k l e = absurd (other e refl)
  node_tree-same NotAllowed n k l e = absurd (other e refl)
  node_tree-same Empty Empty k l e = refl
  node_tree-same Empty (DataType c (Some a)) k l e = absurd (other e refl)
  node_tree-same Empty (DataType c None) k l e = absurd (other e refl)
  node_tree-same Empty n k l e = absurd (other e refl)
  node_tree-same AnyText AnyText k l e = refl
  node_tree-same AnyText (DataType c (Some a)) k l e = absurd (other e refl)
  node_tree-same AnyText (DataType c None) k l e = absurd (other e refl)
  node_tree-same AnyText n k l e = absurd (other e refl)
  node_tree-same (Ref c) (Ref d) k l e = ap Ref (ap number e)
  node_tree-same (Ref c) (DataType d (Some a)) k l e = absurd (other e refl)
  node_tree-same (Ref c) (DataType d None) k l e = absurd (other e refl)
  node_tree-same (Ref c) n k l e = absurd (other e refl)
  node_tree-same (Value c a) (Value d b) k l e = let x = kind-same c d (ap kind_in e) in let y = h.literals a.0 b.0 k l (ap text_in e) in (λ i. Value (x i) (record { 0 = y i }))
  node_tree-same (Value c a) (DataType d (Some b)) k l e = absurd (other e refl)
  node_tree-same (Value c a) (DataType d None) k l e = absurd (other e refl)
  node_tree-same (Value c a) n k l e = absurd (other e refl)
  node_tree-same (DataType c None) (DataType d None) k l e = let x = kind-same c d (ap kind_in e) in (λ i. DataType (x i) None)
  node_tree-same (DataType c None) (DataType d (Some b)) k l e = absurd (other e refl)
  node_tree-same (DataType c None) n k l e = absurd (other e refl)
  node_tree-same (DataType c (Some a)) (DataType d None) k l e = absurd (other e refl)
  node_tree-same (DataType c (Some a)) (DataType d (Some b)) k l e = let x = kind-same c d (ap kind_in e) in let y = h.trees a.0 b.0 k l (ap left e) in (λ i. DataType (x i) (Some (record { 0 = y i })))
  node_tree-same (DataType c (Some a)) n k l e = absurd (other e refl)
  node_tree-same (Attribute c a) (Attribute d b) k l e = let x = h.classes c.0 d.0 k.0 l.0 (ap class_in e) in let y = h.trees a.0 b.0 k.1 l.1 (ap left e) in (λ i. Attribute (record { 0 = x i }) (record { 0 = y i }))
  node_tree-same (Attribute c a) (DataType d (Some b)) k l e = absurd (other e refl)
  node_tree-same (Attribute c a) (DataType d None) k l e = absurd (other e refl)
  node_tree-same (Attribute c a) n k l e = absurd (other e refl)
  node_tree-same (OneOrMore a) (OneOrMore b) k l e = let x = h.trees a.0 b.0 k l (ap left e) in (λ i. OneOrMore (record { 0 = x i }))
  node_tree-same (OneOrMore a) (DataType d (Some b)) k l e = absurd (other e refl)
  node_tree-same (OneOrMore a) (DataType d None) k l e = absurd (other e refl)
  node_tree-same (OneOrMore a) n k l e = absurd (other e refl)
  node_tree-same (Choice a b) (Choice c d) k l e = both Choice k l (ap left e) (ap right e)
  node_tree-same (Choice a b) (DataType d (Some c)) k l e = absurd (other e refl)
  node_tree-same (Choice a b) (DataType d None) k l e = absurd (other e refl)
  node_tree-same (Choice a b) n k l e = absurd (other e refl)
  node_tree-same (Group a b) (Group c d) k l e = both Group k l (ap left e) (ap right e)
  node_tree-same (Group a b) (DataType d (Some c)) k l e = absurd (other e refl)
  node_tree-same (Group a b) (DataType d None) k l e = absurd (other e refl)
  node_tree-same (Group a b) n k l e = absurd (other e refl)
  node_tree-same (Interleave a b) (Interleave c d) k l e = both Interleave k l (ap left e) (ap right e)
  node_tree-same (Interleave a b) (DataType d (Some c)) k l e = absurd (other e refl)
  node_tree-same (Interleave a b) (DataType d None) k l e = absurd (other e refl)
  node_tree-same (Interleave a b) n k l e = absurd (other e refl)
  node_tree-same (After a b) (After c d) k l e = both After k l (ap left e) (ap right e)
  node_tree-same (After a b) (DataType d (Some c)) k l e = absurd (other e refl)
  node_tree-same (After a b) (DataType d None) k l e = absurd (other e refl)
  node_tree-same (After a b) n k l e = absurd (other e refl)

-- a node is at most one level deeper than the number of patterns
most : (a b m : ℕ) → a ≤ m → b ≤ m → max a b ≤ m
most a b m h k = omega (arith, h, k)

in_choice-least : (q : Pattern) (d : ℕ) → in_choice q d ≤ suc d
in_choice-least (pattern.choice p q) d = omega arith
in_choice-least pattern.not_allowed d = omega arith
in_choice-least pattern.empty d = omega arith
in_choice-least pattern.text d = omega arith
in_choice-least (pattern.ref n) d = omega arith
in_choice-least (pattern.value k t) d = omega arith
in_choice-least (pattern.data_type k) d = omega arith
in_choice-least (pattern.data_except k p) d = omega arith
in_choice-least (pattern.attribute c p) d = omega arith
in_choice-least (pattern.one_or_more p) d = omega arith
in_choice-least (pattern.group p q) d = omega arith
in_choice-least (pattern.interleave p q) d = omega arith
in_choice-least (pattern.after p q) d = omega arith

module _ (s : Stored) (h : (id : ℕ) → id < count s → depth (tree_at s id) ≤ suc id) where
  part_depth : (id : ℕ) → id < count s → depth (tree_at s id) ≤ count s
  part_depth id l = let k = h id l in omega (arith, k, l)

  two_depth : (a b : ℕ) → (a < count s) × (b < count s) → suc (max (depth (tree_at s a)) (depth (tree_at s b))) ≤ suc (count s)
  two_depth a b k = let m = most (depth (tree_at s a)) (depth (tree_at s b)) (count s) (part_depth a k.0) (part_depth b k.1) in omega (arith, m)

  one_depth : (a : ℕ) → a < count s → suc (depth (tree_at s a)) ≤ suc (count s)
  one_depth a k = let m = part_depth a k in omega (arith, m)

  pub node_depth : (node : Node) → PartsBelow (count s) s node → depth (node_tree s node) ≤ suc (count s)
  node_depth NotAllowed k = omega arith
  node_depth Empty k = omega arith
  node_depth AnyText k = omega arith
  node_depth (Ref d) k = omega arith
  node_depth (Value c l) k = omega arith
  node_depth (DataType c None) k = omega arith
  node_depth (DataType c (Some e)) k = one_depth e.0 k
  node_depth (Attribute c a) k = one_depth a.0 k.1
  node_depth (OneOrMore a) k = one_depth a.0 k
  node_depth (Choice a b) k =
      let x = one_depth a.0 k.0 in let y = part_depth b.0 k.1 in let z = in_choice-least (tree_at s b.0) (depth (tree_at s b.0)) in
      most (suc (depth (tree_at s a.0))) (in_choice (tree_at s b.0) (depth (tree_at s b.0))) (suc (count s)) x (omega (arith, y, z))
  node_depth (Group a b) k = two_depth a.0 b.0 k
  node_depth (Interleave a b) k = two_depth a.0 b.0 k
  node_depth (After a b) k = two_depth a.0 b.0 k

-- a pool with one more tree
abbrev pub with_tree : Stored → Pattern → Stored
with_tree s p = stored (s.trees ++ p ∷ []) s.classes s.literals

pub extends-push : (s : Stored) (p : Pattern) → Extends s (with_tree s p)
extends-push s p = record {
  longer = longer s.trees p;
  kept = λ i l. at_old s.trees p pattern.not_allowed i l;
  more_classes = omega arith;
  classes = λ i l. refl;
  more_literals = omega arith;
  literals = λ i l. refl;
}

-- references of the new tree
pub refs-push : (s : Stored) (p : Pattern) (n : ℕ) → AreRefsBelow n s → HasRefsBelow n p → AreRefsBelow n (with_tree s p)
refs-push s p n a b = record { each = λ i l. go i (last_or s.trees p i l) }
  where
    go : (i : ℕ) → (i < count s) ⊎ (i ≡ count s) → HasRefsBelow n (tree_at (with_tree s p) i)
    go i (inl l) = rw (at_old s.trees p pattern.not_allowed i l) (a.each i l)
    go i (inr e) = rw (e, at_new s.trees p pattern.not_allowed) b

module _ (nodes : List Node) (facts : List Facts) (s : Stored) (h : IsPool nodes facts s) where
  -- a number's node
  pub node_of : (k : ℕ) → k < count s → (n : Node) × (slice_get nodes k ≡ Some n)
  node_of k l = (get_or nodes k NotAllowed, slice_get-get_or nodes k NotAllowed (let e = h.same_length in omega (arith, l, e)))

  module _ (node : Node) (below : PartsBelow (count s) s node) (absent : (k : ℕ) → slice_get nodes k ≡ Some node → ⊥) where
    -- its tree is new
    new_tree : (k : ℕ) → k < count s → tree_at s k ≡ node_tree s node → ⊥
    new_tree k l e =
        let t = node_of k l in
        let i = h.each k t.0 t.1 in
        let same = node_tree-same s h.apart t.0 node (parts-extend k (count s) s s (omega (arith, l)) (omega arith) (omega arith) t.0 i.below) below (sym i.tree ∙ e) in
        absent k (t.1 ∙ ap Some same)

    each_grown : (id : ℕ) (n : Node) → slice_get (nodes ++ node ∷ []) id ≡ Some n → IsNode (with_tree s (node_tree s node)) id n
    each_grown id n e = go (slice_get-push nodes node n id e)
      where
        t : Stored
        t = with_tree s (node_tree s node)

        go : (slice_get nodes id ≡ Some n) ⊎ ((id ≡ length nodes) × (node ≡ n)) → IsNode (with_tree s (node_tree s node)) id n
        go (inl f) =
            let i = h.each id n f in
            let w = slice_get_within nodes id n f in
            let z = h.same_length in
            let l : id < count s = omega (arith, w, z) in
            record {
              below = parts-extend id id s (with_tree s (node_tree s node)) (omega arith) (omega arith) (omega arith) n i.below;
              tree = at_old s.trees (node_tree s node) pattern.not_allowed id l ∙ i.tree ∙ sym (node_tree-extends id s (with_tree s (node_tree s node)) (extends-push s (node_tree s node)) (omega (arith, l)) n i.below);
            }
        go (inr (f, g)) =
            let z : id ≡ count s = f ∙ sym h.same_length in
            record {
              below = rw (z, ← g) (parts-extend (count s) (count s) s (with_tree s (node_tree s node)) (omega arith) (omega arith) (omega arith) node below);
              tree = rw (z, ← g) (at_new s.trees (node_tree s node) pattern.not_allowed ∙ sym (node_tree-extends (count s) s (with_tree s (node_tree s node)) (extends-push s (node_tree s node)) (omega arith) node below));
            }

    by_last : (K : ℕ → Pattern → Type 0) → ((i : ℕ) → i < count s → K i (tree_at s i)) → K (count s) (node_tree s node) → (i : ℕ) → i < count (with_tree s (node_tree s node)) → K i (tree_at (with_tree s (node_tree s node)) i)
    by_last K old new i k = go (last_or s.trees (node_tree s node) i k)
      where
        go : (i < count s) ⊎ (i ≡ count s) → K i (tree_at (with_tree s (node_tree s node)) i)
        go (inl l) = rw (at_old s.trees (node_tree s node) pattern.not_allowed i l) (old i l)
        go (inr e) = rw (e, at_new s.trees (node_tree s node) pattern.not_allowed) new

    described_grown : (fact : Facts) → IsFacts (node_tree s node) fact → (id : ℕ) (f : Facts) → slice_get (facts ++ fact ∷ []) id ≡ Some f → IsFacts (tree_at (with_tree s (node_tree s node)) id) f
    described_grown fact d id f e = go (slice_get-push facts fact f id e)
      where
        go : (slice_get facts id ≡ Some f) ⊎ ((id ≡ length facts) × (fact ≡ f)) → IsFacts (tree_at (with_tree s (node_tree s node)) id) f
        go (inl g) =
            let w = slice_get_within facts id f g in
            let z = h.same_facts in
            rw (at_old s.trees (node_tree s node) pattern.not_allowed id (omega (arith, w, z))) (h.described id f g)
        go (inr (g, k)) = rw (g, ← h.same_facts, at_new s.trees (node_tree s node) pattern.not_allowed, ← k) d

    pub pool-push : (fact : Facts) → IsFacts (node_tree s node) fact → IsOrdered (node_tree s node) → IsPool (nodes ++ node ∷ []) (facts ++ fact ∷ []) (with_tree s (node_tree s node))
    pool-push fact d o = record {
      first = slice_get-old nodes node NotAllowed 0 h.first;
      second = slice_get-old nodes node Empty 1 h.second;
      third = slice_get-old nodes node AnyText 2 h.third;
      each = each_grown;
      apart = record { trees = apart-push s.trees (node_tree s node) pattern.not_allowed h.apart.trees new_tree; classes = h.apart.classes; literals = h.apart.literals };
      described = described_grown fact d;
      same_length = length-append s.trees (node_tree s node ∷ []) ∙ ap (λ n. n + 1) h.same_length ∙ sym (length-append nodes (node ∷ []));
      same_facts = length-append s.trees (node_tree s node ∷ []) ∙ ap (λ n. n + 1) h.same_facts ∙ sym (length-append facts (fact ∷ []));
      ordered = by_last (λ i p. IsOrdered p) h.ordered o;
      shallow = by_last (λ i p. depth p ≤ suc i) h.shallow (node_depth s h.shallow node below);
    }
