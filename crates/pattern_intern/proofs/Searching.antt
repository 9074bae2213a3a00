-- The search for literals: its start, the visit of a number, and its end.
use Rattle.std.proofs.Common.{◌≡◌, ℕ, zero, suc, ◌+◌, ◌<◌, ◌≤◌, ◌⊎◌, inl, inr, ◌↔◌, Bool, true, false, get_or, Option, None, Some, Result, Ok, Err, OnOk, List, [], ◌∷◌, ◌++◌, fold, length, map, take, replicate, slice_get, refl, sym, ◌∙◌, ap, subst, arith}
use Rattle.std.specs.List.{Contains}
use Rattle.std.specs.List.{AllByRecursion}
use Rattle.std.proofs.lemmas.List.{get_or-replicate, length-replicate}
use Rattle.std.proofs.lemmas.List.Elements.{Contains-push, Contains-push_cases, Contains-append_left}
use Rattle.std.proofs.lemmas.List.Sums.{fold-append}
use Rattle.rng_model.specs.Texts.{Text}
use Rattle.rng_model.specs.Kinds.{Kind}
use Rattle.text_atoms.specs.Kinds.{kind_of}
use Rattle.text_atoms.specs.declared.kind.Kind.{Kind as RustKind}
use Rattle.pattern_intern.specs.declared.id.PatternId.{PatternId}
use Rattle.rng_model.specs.Patterns.{Pattern, Schema, Definition, Defines}
use Rattle.rng_model.specs.Patterns as pattern
use Rattle.rng_model.specs.Inside.{Within, InSchema, InAttribute}
use Rattle.rng_model.specs.Atoms.{Literals}
use Rattle.rng_model.specs.Universe.{IsOfKind, AreLiterals}
use Rattle.pattern_intern.specs.Marks.{parts_of, content_of, with_mark, with_marks, InMarked, IsEmpty, IsValue, IsSearch}
use Rattle.pattern_intern.specs.Schemas.{Entry, AreBelow, entry_at, definition_of, schema_of}
use Rattle.pattern_intern.specs.Stored.{Stored, count, tree_at}
use Rattle.pattern_intern.specs.Trees.{node_tree, IsNode}
use Rattle.pattern_intern.specs.declared.node.Node.{Node}
use Rattle.pattern_intern.specs.declared.node.Node.TheVariants.{NotAllowed, Empty, AnyText, Ref, Value, DataType, Attribute, OneOrMore, Choice, Group, Interleave, After}
use Rattle.pattern_intern.proofs.Marking.{InSome, nothing_in, unmarked, visited, more_marks, length-marks, content_small, value_no, kind_no, empty_no, attribute_no}

-- one side of a sum for another
pub second : {A B C X : Type 0} → B ↔ C → (A ⊎ B) ↔ X → (A ⊎ C) ↔ X
second {A} {B} {C} {X} e h = (there, λ x. back (h.1 x))
  where
    there : A ⊎ C → X
    there (inl a) = h.0 (inl a)
    there (inr c) = h.0 (inr (e.1 c))

    back : A ⊎ B → A ⊎ C
    back (inl a) = inl a
    back (inr b) = inr (e.0 b)

inner : {A B C : Type 0} → B ↔ C → (A ⊎ B) ↔ (A ⊎ C)
inner {A} {B} {C} e = (there, back)
  where
    there : A ⊎ B → A ⊎ C
    there (inl a) = inl a
    there (inr b) = inr (e.0 b)

    back : A ⊎ C → A ⊎ B
    back (inl a) = inl a
    back (inr c) = inr (e.1 c)

-- what is found at a number moves from the marks to what is found
pub moved : {C C' M M' V X : Type 0} → C' ↔ (C ⊎ V) → M ↔ (V ⊎ M') → (C ⊎ M) ↔ X → (C' ⊎ M') ↔ X
moved {C} {C'} {M} {M'} {V} {X} e f h = (there, λ x. back (h.1 x))
  where
    found : C ⊎ V → X
    found (inl c) = h.0 (inl c)
    found (inr v) = h.0 (inr (f.1 (inl v)))

    there : C' ⊎ M' → X
    there (inl c) = found (e.0 c)
    there (inr m) = h.0 (inr (f.1 (inr m)))

    split : V ⊎ M' → C' ⊎ M'
    split (inl v) = inl (e.1 (inr v))
    split (inr m) = inr m

    back : C ⊎ M → C' ⊎ M'
    back (inl c) = inl (e.1 (inl c))
    back (inr m) = split (f.0 m)

-- and from the marks outside attributes to those inside
entered : {E A A' B B' Q P X : Type 0} → Q ↔ P → A ↔ (Q ⊎ A') → B' ↔ (B ⊎ P) → (E ⊎ A ⊎ B) ↔ X → (E ⊎ A' ⊎ B') ↔ X
entered {E} {A} {A'} {B} {B'} {Q} {P} {X} q e f h = (there, λ x. back (h.1 x))
  where
    inside : B ⊎ P → X
    inside (inl b) = h.0 (inr (inr b))
    inside (inr p) = h.0 (inr (inl (e.1 (inl (q.1 p)))))

    there : E ⊎ A' ⊎ B' → X
    there (inl x) = h.0 (inl x)
    there (inr (inl a)) = h.0 (inr (inl (e.1 (inr a))))
    there (inr (inr b)) = inside (f.0 b)

    outside : Q ⊎ A' → E ⊎ A' ⊎ B'
    outside (inl p) = inr (inr (f.1 (inr (q.0 p))))
    outside (inr a) = inr (inl a)

    back : E ⊎ A ⊎ B → E ⊎ A' ⊎ B'
    back (inl x) = inl x
    back (inr (inl a)) = outside (e.0 a)
    back (inr (inr b)) = inr (inr (f.1 (inl b)))

-- what isn't there is left out
left_out : {Q B C : Type 0} → (Q → ⊥) → B ↔ (Q ⊎ C) → B ↔ C
left_out {Q} {B} {C} never e = (λ b. there (e.0 b), λ c. e.1 (inr c))
  where
    there : Q ⊎ C → C
    there (inl q) = absurd (never q)
    there (inr c) = c

one : (m : ℕ) → m + 1 ≡ suc m
one m = omega arith

not_empty : (s : Stored) (node : Node) → (node ≡ Empty → ⊥) → IsEmpty (node_tree s node) → ⊥
not_empty s NotAllowed n e = cc
not_empty s Empty n e = n refl
not_empty s AnyText n e = cc
not_empty s (Ref d) n e = cc
not_empty s (Value k t) n e = cc
not_empty s (DataType k None) n e = cc
not_empty s (DataType k (Some x)) n e = cc
not_empty s (Attribute c a) n e = cc
not_empty s (OneOrMore a) n e = cc
not_empty s (Choice a b) n e = cc
not_empty s (Group a b) n e = cc
not_empty s (Interleave a b) n e = cc
not_empty s (After a b) n e = cc

-- an empty in an attribute stands in its content
in_content : (s : Stored) (node : Node) → InAttribute IsEmpty (node_tree s node) ↔ InSome IsEmpty s (content_of node)
in_content s NotAllowed = (λ n. n, λ n. n)
in_content s Empty = (λ n. n, λ n. n)
in_content s AnyText = (λ n. n, λ n. n)
in_content s (Ref d) = (λ n. n, λ n. n)
in_content s (Value k t) = (λ n. n, λ n. n)
in_content s (DataType k None) = (λ n. n, λ n. n)
in_content s (DataType k (Some x)) = (λ n. n, λ n. n)
in_content s (Attribute c a) = nothing_in (λ n. n)
in_content s (OneOrMore a) = (λ n. n, λ n. n)
in_content s (Choice a b) = (λ n. n, λ n. n)
in_content s (Group a b) = (λ n. n, λ n. n)
in_content s (Interleave a b) = (λ n. n, λ n. n)
in_content s (After a b) = (λ n. n, λ n. n)

-- a pattern as one inside an attribute
module _ (g : Schema) (s : Stored) (r i : List Bool) (l : Literals) (n m : ℕ) (k : IsSearch g s r i l n (m + 1)) where
  next_inside : IsSearch g s r i l n (suc m)
  next_inside = subst (λ j. IsSearch g s r i l n j) (one m) k

  pub inside_unmarked : get_or i m false ≡ false → IsSearch g s r i l n m
  inside_unmarked e =
      let h = next_inside in
      record {
        reached_length = h.reached_length;
        inside_length = h.inside_length;
        members = h.members;
        kinds = h.kinds;
        has_empty = second (inner (unmarked IsEmpty s i m e)) h.has_empty;
      }

  module _ (node : Node) (is : IsNode s m node) (within : m < count s) (e : get_or i m false ≡ true) where
    here : InMarked IsEmpty s i (suc m) ↔ (IsEmpty (node_tree s node) ⊎ InMarked IsEmpty s (with_marks i (parts_of node)) m)
    here = visited IsEmpty empty_no s i m node is (let x = k.inside_length in omega (arith, x, within)) e

    pub inside_other : (node ≡ Empty → ⊥) → (j : List Bool) → j ≡ with_marks i (parts_of node) → IsSearch g s r j l n m
    inside_other never j f =
        let h = next_inside in
        rw f record {
          reached_length = h.reached_length;
          inside_length = length-marks i (parts_of node) ∙ h.inside_length;
          members = h.members;
          kinds = h.kinds;
          has_empty = second (inner (left_out (not_empty s node never) here)) h.has_empty;
        }

    pub inside_empty : node ≡ Empty → IsSearch g s r i (record l { has_empty = true }) n m
    inside_empty f =
        let h = next_inside in
        let b = subst (λ x. InMarked IsEmpty s i (suc m) ↔ (IsEmpty (node_tree s x) ⊎ InMarked IsEmpty s (with_marks i (parts_of x)) m)) f here in
        record {
          reached_length = h.reached_length;
          inside_length = h.inside_length;
          members = h.members;
          kinds = h.kinds;
          has_empty = (there h b, λ x. inl refl);
        }
      where
        there : IsSearch g s r i l n (suc m) → InMarked IsEmpty s i (suc m) ↔ (IsEmpty pattern.empty ⊎ InMarked IsEmpty s i m) →
            (true ≡ true) ⊎ InMarked (InAttribute IsEmpty) s r n ⊎ InMarked IsEmpty s i m → InSchema (InAttribute IsEmpty) g
        there h b (inl x) = h.has_empty.0 (inr (inr (b.1 (inl refl))))
        there h b (inr (inl x)) = h.has_empty.0 (inr (inl x))
        there h b (inr (inr x)) = h.has_empty.0 (inr (inr (b.1 (inr x))))

-- a pattern as one that is reached
module _ (g : Schema) (s : Stored) (r i : List Bool) (l : Literals) (n : ℕ) (k : IsSearch g s r i l (n + 1) n) where
  next_reached : IsSearch g s r i l (suc n) n
  next_reached = subst (λ j. IsSearch g s r i l j n) (one n) k

  pub reached_unmarked : get_or r n false ≡ false → IsSearch g s r i l n n
  reached_unmarked e =
      let h = next_reached in
      record {
        reached_length = h.reached_length;
        inside_length = h.inside_length;
        members = λ x. second (unmarked (IsValue x) s r n e) (h.members x);
        kinds = λ x. second (unmarked (IsOfKind x) s r n e) (h.kinds x);
        has_empty = second (outer (unmarked (InAttribute IsEmpty) s r n e)) h.has_empty;
      }
    where
      outer : {A B C : Type 0} → A ↔ B → (A ⊎ C) ↔ (B ⊎ C)
      outer {A} {B} {C} f = (there, back)
        where
          there : A ⊎ C → B ⊎ C
          there (inl a) = inl (f.0 a)
          there (inr c) = inr c

          back : B ⊎ C → A ⊎ C
          back (inl b) = inl (f.1 b)
          back (inr c) = inr c

  module _ (node : Node) (is : IsNode s n node) (within : n < count s) (e : get_or r n false ≡ true) (r' i' : List Bool) (fr : r' ≡ with_marks r (parts_of node)) (fi : i' ≡ with_marks i (content_of node)) (l' : Literals)
      (members : (x : Kind × Text) → Contains l'.members x ↔ (Contains l.members x ⊎ (node_tree s node ≡ pattern.value x.0 x.1)))
      (kinds : (x : Kind) → Contains l'.kinds x ↔ (Contains l.kinds x ⊎ IsOfKind x (node_tree s node)))
      (same : l'.has_empty ≡ l.has_empty) where
    reached_here : (K : Pattern → Type 0) → ((p q : Pattern) → K (pattern.choice p q) → ⊥) → InMarked K s r (suc n) ↔ (K (node_tree s node) ⊎ InMarked K s (with_marks r (parts_of node)) n)
    reached_here K never = visited K never s r n node is (let x = k.reached_length in omega (arith, x, within)) e

    pub reached_marked : IsSearch g s r' i' l' n n
    reached_marked =
        let h = next_reached in
        let c = more_marks IsEmpty s i (content_of node) n (content_small n s node is.below) (let x = k.inside_length in omega (arith, x, within)) in
        rw (fr, fi) record {
          reached_length = length-marks r (parts_of node) ∙ h.reached_length;
          inside_length = length-marks i (content_of node) ∙ h.inside_length;
          members = λ x. moved (members x) (reached_here (IsValue x) (value_no x)) (h.members x);
          kinds = λ x. moved (kinds x) (reached_here (IsOfKind x) (kind_no x)) (h.kinds x);
          has_empty = entered (in_content s node) (reached_here (InAttribute IsEmpty) attribute_no) c (subst (λ b. ((b ≡ true) ⊎ InMarked (InAttribute IsEmpty) s r (suc n) ⊎ InMarked IsEmpty s i n) ↔ InSchema (InAttribute IsEmpty) g) (sym same) h.has_empty);
        }

-- the start and the contents
module _ (K : Pattern → Type 0) (s : Stored) where
  contents_there : (entries : List Entry) → InSome K s (map (λ x. x.1) entries) → (d : ℕ) × (e : Definition) × (slice_get (map (definition_of s) entries) d ≡ Some e) × Within K e.content
  contents_there [] n = absurd n
  contents_there (x ∷ entries) (inl w) = (0, definition_of s x, refl, w)
  contents_there (x ∷ entries) (inr w) = let y = contents_there entries w in (suc y.0, y.1, y.2, y.3)

  contents_back : (entries : List Entry) (d : ℕ) (e : Definition) → slice_get (map (definition_of s) entries) d ≡ Some e → Within K e.content → InSome K s (map (λ x. x.1) entries)
  contents_back [] d e f w = absurd (cc)
  contents_back (x ∷ entries) zero e f w = let same : definition_of s x ≡ e = cc in inl (subst (λ y. Within K y.content) (sym same) w)
  contents_back (x ∷ entries) (suc d) e f w = inr (contents_back entries d e f w)

  no_mark : (n : ℕ) → InMarked K s (replicate n false) n → ⊥
  no_mark n x = let e = get_or-replicate n x.0 false false x.1 in let f = x.2 in absurd (cc)

  pub in_start : (start : ℕ) (entries : List Entry) → AllByRecursion (λ id. id < count s) (start ∷ map (λ x. x.1) entries) →
      InMarked K s (with_marks (replicate (count s) false) (start ∷ map (λ x. x.1) entries)) (count s) ↔ InSchema K (schema_of s start entries)
  in_start start entries h = (λ x. there (more.0 x), back)
    where
      more : InMarked K s (with_marks (replicate (count s) false) (start ∷ map (λ x. x.1) entries)) (count s) ↔ (InMarked K s (replicate (count s) false) (count s) ⊎ InSome K s (start ∷ map (λ x. x.1) entries))
      more = more_marks K s (replicate (count s) false) (start ∷ map (λ x. x.1) entries) (count s) h (let e = length-replicate (count s) false in omega (arith, e))

      there : InMarked K s (replicate (count s) false) (count s) ⊎ Within K (tree_at s start) ⊎ InSome K s (map (λ x. x.1) entries) → InSchema K (schema_of s start entries)
      there (inl x) = absurd (no_mark (count s) x)
      there (inr (inl w)) = inl w
      there (inr (inr w)) = inr (contents_there entries w)

      back : InSchema K (schema_of s start entries) → InMarked K s (with_marks (replicate (count s) false) (start ∷ map (λ x. x.1) entries)) (count s)
      back (inl w) = more.1 (inr (inl w))
      back (inr x) = more.1 (inr (inr (contents_back entries x.0 x.1 x.2 x.3)))

pub contents_in : (n : ℕ) (entries : List Entry) → AreBelow n entries → AllByRecursion (λ id. id < n) (map (λ x. x.1) entries)
contents_in n [] h = tt
contents_in n (x ∷ entries) h = (h.each 0 x refl, contents_in n entries (record { each = λ k y e. h.each (suc k) y e }))

-- a list without members
pub none_there : {A M X : Type 0} → (A → ⊥) → M ↔ X → (A ⊎ M) ↔ X
none_there {A} {M} {X} never e = (there, λ x. inr (e.1 x))
  where
    there : A ⊎ M → X
    there (inl a) = absurd (never a)
    there (inr m) = e.0 m

nothing_last : {A B : Type 0} → (B → ⊥) → (A ⊎ B) ↔ A
nothing_last never = let e = nothing_in never in (e.1, e.0)

pub then : {A B C : Type 0} → A ↔ B → B ↔ C → A ↔ C
then e f = (λ a. f.0 (e.0 a), λ c. e.1 (f.1 c))

pub no_member : {X : Type 0} (x : X) → Contains [] x → ⊥
no_member x c = let l = c.1 in omega (arith, l)

pub started : (s : Stored) (start : ℕ) (entries : List Entry) → start < count s → AreBelow (count s) entries → (r i : List Bool) →
    r ≡ with_marks (replicate (count s) false) (start ∷ map (λ x. x.1) entries) → i ≡ replicate (count s) false →
    (l : Literals) → l ≡ record { members = []; has_empty = false; kinds = [] } → IsSearch (schema_of s start entries) s r i l (count s) (count s)
started s start entries w h r i fr fi l fl =
    let a : AllByRecursion (λ id. id < count s) (start ∷ map (λ x. x.1) entries) = (w, contents_in (count s) entries h) in
    rw (fr, fi, fl) record {
      reached_length = length-marks (replicate (count s) false) (start ∷ map (λ x. x.1) entries) ∙ length-replicate (count s) false;
      inside_length = length-replicate (count s) false;
      members = λ x. none_there (no_member x) (in_start (IsValue x) s start entries a);
      kinds = λ x. none_there (no_member x) (in_start (IsOfKind x) s start entries a);
      has_empty = none_there (λ e. cc) (then (nothing_last (no_mark IsEmpty s (count s))) (in_start (InAttribute IsEmpty) s start entries a));
    }

pub no_more : (K : Pattern → Type 0) (s : Stored) (marks : List Bool) → InMarked K s marks 0 → ⊥
no_more K s marks x = let l = x.1 in omega (arith, l)

pub ended : (g : Schema) (s : Stored) (r i : List Bool) (l : Literals) (n : ℕ) → n ≡ 0 → IsSearch g s r i l n n → AreLiterals g l
ended g s r i l n e k =
    let h = subst (λ m. IsSearch g s r i l m m) e k in
    record {
      each = λ x. then (nothing_in (no_more (IsValue x) s r)) (h.members x);
      has_empty = then (then (nothing_in (no_more (InAttribute IsEmpty) s r)) (nothing_in (no_more IsEmpty s i))) (then regroup h.has_empty);
      kinds = λ x. then (nothing_in (no_more (IsOfKind x) s r)) (h.kinds x);
    }
  where
    regroup : {A B C : Type 0} → ((A ⊎ B) ⊎ C) ↔ (A ⊎ B ⊎ C)
    regroup {A} {B} {C} = (there, back)
      where
        there : (A ⊎ B) ⊎ C → A ⊎ B ⊎ C
        there (inl (inl a)) = inl a
        there (inl (inr b)) = inr (inl b)
        there (inr c) = inr (inr c)

        back : A ⊎ B ⊎ C → (A ⊎ B) ⊎ C
        back (inl a) = inl (inl a)
        back (inr (inl b)) = inl (inr b)
        back (inr (inr c)) = inr c

-- the literal and the kind of a node
pub member_noted : (old new : List (Kind × Text)) (k : Kind) (t : Text) (p : Pattern) → new ≡ old ++ (k, t) ∷ [] → p ≡ pattern.value k t → (x : Kind × Text) → Contains new x ↔ (Contains old x ⊎ (p ≡ pattern.value x.0 x.1))
member_noted old new k t p e f x = rw e (there, back)
  where
    here : Contains old x ⊎ ((k, t) ≡ x) → Contains old x ⊎ (p ≡ pattern.value x.0 x.1)
    here (inl c) = inl c
    here (inr g) = inr (f ∙ ap (λ (y : Kind × Text). pattern.value y.0 y.1) g)

    there : Contains (old ++ (k, t) ∷ []) x → Contains old x ⊎ (p ≡ pattern.value x.0 x.1)
    there c = here (Contains-push_cases old (k, t) x c)

    back : Contains old x ⊎ (p ≡ pattern.value x.0 x.1) → Contains (old ++ (k, t) ∷ []) x
    back (inl c) = Contains-append_left old ((k, t) ∷ []) x c
    back (inr g) =
        let a : k ≡ x.0 = cc in
        let b : t ≡ x.1 = cc in
        let same : (k, t) ≡ x = (λ i. (a i, b i)) in
        subst (λ y. Contains (old ++ (k, t) ∷ []) y) same (Contains-push old (k, t))

pub kinds_noted : (s : Stored) (node node' : Node) → node ≡ node' → (old mid new : List Kind) → mid ≡ old → ((k : Kind) → Contains new k ↔ (Contains mid k ⊎ IsOfKind k (node_tree s node'))) →
    (k : Kind) → Contains new k ↔ (Contains old k ⊎ IsOfKind k (node_tree s node))
kinds_noted s node node' e old mid new f h k = rw (e, ← f) (h k)

pub data_noted : (s : Stored) (node : Node) (kind : RustKind) (o : Option PatternId) → node ≡ DataType kind o → (old new : List Kind) → ((k : Kind) → Contains new k ↔ (Contains old k ⊎ (k ≡ kind_of kind))) →
    (k : Kind) → Contains new k ↔ (Contains old k ⊎ IsOfKind k (node_tree s node))
data_noted s node kind None e old new h k = rw e (h k)
data_noted s node kind (Some x) e old new h k = rw e (h k)

-- three facts of an Ok
pub ok_all : {X E A B C D : Type 0} (r : Result X E) → OnOk r A → OnOk r B → OnOk r C → (A → B → C → D) → OnOk r D
ok_all (Ok x) a b c f = f a b c
ok_all (Err x) a b c f = tt

pub ok_one : {X E A D : Type 0} (r : Result X E) → OnOk r A → (A → D) → OnOk r D
ok_one (Ok x) a f = f a
ok_one (Err x) a f = tt

-- the next content is marked
take_next : (xs : List Entry) (k : ℕ) → k < length xs → take (suc k) (map (λ x. x.1) xs) ≡ take k (map (λ x. x.1) xs) ++ (entry_at xs k).1 ∷ []
take_next [] k l = absurd (omega (arith, l))
take_next (x ∷ xs) zero l = refl
take_next (x ∷ xs) (suc k) l = ap (λ ids. x.1 ∷ ids) (take_next xs k (omega (arith, l)))

pub next_marked : (ms marks : List Bool) (xs : List Entry) (k id : ℕ) → k < length xs → marks ≡ fold with_mark ms (take k (map (λ x. x.1) xs)) → id ≡ (entry_at xs k).1 → with_mark marks id ≡ fold with_mark ms (take (k + 1) (map (λ x. x.1) xs))
next_marked ms marks xs k id l e i =
    (λ j. with_mark (e j) (i j))
    ∙ sym (ap (λ j. fold with_mark ms (take j (map (λ x. x.1) xs))) (one k) ∙ ap (λ ids. fold with_mark ms ids) (take_next xs k l) ∙ fold-append with_mark ms (take k (map (λ x. x.1) xs)) ((entry_at xs k).1 ∷ []))

pub started_at : (s : Stored) (start : ℕ) (entries : List Entry) (n : ℕ) → n ≡ count s → start < count s → AreBelow (count s) entries → (r i : List Bool) →
    r ≡ with_marks (replicate n false) (start ∷ map (λ x. x.1) entries) → i ≡ replicate n false →
    (l : Literals) → l ≡ record { members = []; has_empty = false; kinds = [] } → IsSearch (schema_of s start entries) s r i l n n × (n ≤ count s)
started_at s start entries n e w h r i fr fi l fl = (
  subst (λ m. IsSearch (schema_of s start entries) s r i l m m) (sym e)
      (started s start entries w h r i (subst (λ m. r ≡ with_marks (replicate m false) (start ∷ map (λ x. x.1) entries)) e fr) (subst (λ m. i ≡ replicate m false) e fi) l fl),
  omega (arith, e),
)

pub search_at : (g : Schema) (s : Stored) (r i : List Bool) (l : Literals) (n m : ℕ) → n ≡ m → IsSearch g s r i l n n → IsSearch g s r i l m m
search_at g s r i l n m e k = subst (λ j. IsSearch g s r i l j j) e k
