-- A key that an index set took in was there, or is the last now.
use Rattle.std.proofs.Common.{◌≡◌, ℕ, ◌+◌, inl, inr, Bool, true, false, not, cond, ◌||◌, List, [], ◌∷◌, ◌++◌, length, slice_get, Some, refl, sym, ◌∙◌, ap, subst, arith, true≢false, if◌then◌else◌}
use Rattle.std.specs.List.{list_any, position_or_len}
use Rattle.std.proofs.lemmas.List.Folds.{list_any_at}
use Rattle.std.proofs.lemmas.Option.{slice_get_within, get_or_from_slice_get}
use Rattle.indexmap.specs.IndexSet.{insert_key}
use Rattle.std.proofs.Common.{◌&&◌, None, nat_eq, take}
use Rattle.std.proofs.Math.Seq.{take-append_seam}
use Rattle.std.specs.Cmp.Lexicographic.{pointwise, bytes_decides}
use Rattle.rng_model.specs.Texts.{Text}
use Rattle.text_atoms.specs.declared.kind.Kind.{Kind as RustKind}
use Rattle.text_atoms.specs.declared.kind.Kind.TheVariants as rust
use Rattle.text_atoms.specs.contracts.kind.KindPartialEq.TheImpl as kind_eq
use Rattle.name_classes.specs.declared.class.NameClass.{NameClass}
use Rattle.name_classes.specs.Views.{class_of}
use Rattle.name_classes.specs.ClassOrder.{class_eq, class_eq-same, class_eq-refl}
use Rattle.pattern_intern.specs.declared.facts.Facts.{Facts}
use Rattle.pattern_intern.specs.declared.id.PatternId.{PatternId}
use Rattle.pattern_intern.specs.declared.node.Node.{Node}
use Rattle.pattern_intern.specs.declared.node.Node.TheVariants.{NotAllowed, Empty, AnyText, Ref, Value, DataType, Attribute, OneOrMore, Choice, Group, Interleave, After}
use Rattle.pattern_intern.specs.contracts.node.NodePartialEq.TheImpl.{eq-value}
use Rattle.pattern_intern.specs.Interned.{IsTaken, IsInterned}

some_at : {X : Type 0} (p : X → Bool) (xs : List X) (k : ℕ) (x : X) → slice_get xs k ≡ Some x → p x ≡ true → list_any p xs ≡ true
some_at p xs k x h e = list_any_at p xs k x (slice_get_within xs k x h) (ap p (get_or_from_slice_get xs k x x h) ∙ e)

none_by : {X : Type 0} (p : X → Bool) (x : X) (xs : List X) (b : Bool) → p x ≡ b → list_any p (x ∷ xs) ≡ false → (list_any p xs ≡ false → position_or_len p xs ≡ length xs) → position_or_len p (x ∷ xs) ≡ length (x ∷ xs)
none_by p x xs true e h again = absurd (true≢false (sym (ap (λ c. c || list_any p xs) e) ∙ h))
none_by p x xs false e h again =
    ap (λ c. cond (not c) (1 + position_or_len p xs) 0) e ∙ (let k = again (sym (ap (λ c. c || list_any p xs) e) ∙ h) in omega (arith, k))

none_first : {X : Type 0} (p : X → Bool) (xs : List X) → list_any p xs ≡ false → position_or_len p xs ≡ length xs
none_first p [] h = refl
none_first p (x ∷ xs) h = none_by p x xs (p x) refl h (λ k. none_first p xs k)

module _ {X V : Type 0} (value : X → V) (eq' : X → X → Bool) (same : (x y : X) → value x ≡ value y → eq' x y ≡ true) (tells : (x y : X) → eq' x y ≡ true → value x ≡ value y) where
  taken_by : (old new : List X) (x : X) (id : ℕ) (b : Bool) → list_any (eq' x) old ≡ b → new ≡ insert_key eq' old x → id ≡ position_or_len (eq' x) old →
      (k : X) → slice_get new id ≡ Some k → eq' x k ≡ true → IsTaken value old x id new
  taken_by old new x id true e n i k s t =
      let m : new ≡ old = n ∙ ap (λ b. if b then old else old ++ x ∷ []) e in
      inl (record { key = k; there = subst (λ l. slice_get l id ≡ Some k) m s; same = sym (tells x k t); keys = m })
  taken_by old new x id false e n i k s t =
      inr (record {
        absent = λ j y h v. true≢false (sym (some_at (eq' x) old j y h (same x y (sym v))) ∙ e);
        last = i ∙ none_first (eq' x) old e;
        keys = n ∙ ap (λ b. if b then old else old ++ x ∷ []) e;
      })

  pub taken : (old new : List X) (x : X) (id : ℕ) → new ≡ insert_key eq' old x → id ≡ position_or_len (eq' x) old → (k : X) → slice_get new id ≡ Some k → eq' x k ≡ true → IsTaken value old x id new
  taken old new x id = taken_by old new x id (list_any (eq' x) old) refl

-- at classes and at literals
pub taken_class : (old new : List NameClass) (x : NameClass) (id : ℕ) → new ≡ insert_key (λ a b. class_eq (class_of a) (class_of b)) old x →
    id ≡ position_or_len (λ b. class_eq (class_of x) (class_of b)) old → (k : NameClass) → slice_get new id ≡ Some k → class_eq (class_of x) (class_of k) ≡ true → IsTaken class_of old x id new
taken_class =
    taken class_of (λ a b. class_eq (class_of a) (class_of b))
    (λ x y e. ap (class_eq (class_of x)) (sym e) ∙ class_eq-refl (class_of x)) (λ x y h. class_eq-same (class_of x) (class_of y) h)

pub taken_literal : (old new : List Text) (x : Text) (id : ℕ) → new ≡ insert_key (pointwise nat_eq) old x → id ≡ position_or_len (pointwise nat_eq x) old →
    (k : Text) → slice_get new id ≡ Some k → pointwise nat_eq x k ≡ true → IsTaken (λ t. t) old x id new
taken_literal = taken (λ t. t) (pointwise nat_eq) (λ x y e. (bytes_decides x y).1 e) (λ x y h. (bytes_decides x y).0 h)

kind_self : (k : RustKind) → kind_eq.eq-value.it k k ≡ true
kind_self rust.Str = refl
kind_self rust.Token = refl
kind_self rust.Boolean = refl
kind_self rust.Integer = refl
kind_self rust.NonNegative = refl
kind_self rust.Positive = refl
kind_self rust.NcName = refl
kind_self rust.Nmtoken = refl

kind_tells : (k l : RustKind) → kind_eq.eq-value.it k l ≡ true → k ≡ l
kind_tells rust.Str rust.Str h = refl
kind_tells rust.Str l h = absurd (true≢false (sym h))
kind_tells rust.Token rust.Token h = refl
kind_tells rust.Token l h = absurd (true≢false (sym h))
kind_tells rust.Boolean rust.Boolean h = refl
kind_tells rust.Boolean l h = absurd (true≢false (sym h))
kind_tells rust.Integer rust.Integer h = refl
kind_tells rust.Integer l h = absurd (true≢false (sym h))
kind_tells rust.NonNegative rust.NonNegative h = refl
kind_tells rust.NonNegative l h = absurd (true≢false (sym h))
kind_tells rust.Positive rust.Positive h = refl
kind_tells rust.Positive l h = absurd (true≢false (sym h))
kind_tells rust.NcName rust.NcName h = refl
kind_tells rust.NcName l h = absurd (true≢false (sym h))
kind_tells rust.Nmtoken rust.Nmtoken h = refl
kind_tells rust.Nmtoken l h = absurd (true≢false (sym h))

same_self : (x : Node) → eq-value.it x x ≡ true
same_self NotAllowed = refl
same_self Empty = refl
same_self AnyText = refl
same_self (Ref d) = grind arith
same_self (Value k l) = let e = kind_self k in grind (arith, e)
same_self (DataType k None) = let e = kind_self k in grind (arith, e)
same_self (DataType k (Some a)) = let e = kind_self k in grind (arith, e)
same_self (Attribute c a) = grind arith
same_self (OneOrMore a) = grind arith
same_self (Choice a b) = grind arith
same_self (Group a b) = grind arith
same_self (Interleave a b) = grind arith
same_self (After a b) = grind arith

both_true : (a b : Bool) → (a && b) ≡ true → (a ≡ true) × (b ≡ true)
both_true true b h = (refl, h)
both_true false b h = absurd (true≢false (sym h))

pub nat_tells : (m n : ℕ) → nat_eq m n ≡ true → m ≡ n
nat_tells m n h = grind (arith, h)

two_tell : (f : PatternId → PatternId → Node) (a b c d : PatternId) → (nat_eq a.0 c.0 && nat_eq b.0 d.0) ≡ true → f a b ≡ f c d
two_tell f a b c d h = let t = both_true (nat_eq a.0 c.0) (nat_eq b.0 d.0) h in let x = nat_tells a.0 c.0 t.0 in let y = nat_tells b.0 d.0 t.1 in (λ i. f (record { 0 = x i }) (record { 0 = y i }))

tells_self : (x y : Node) → eq-value.it x y ≡ true → x ≡ y
tells_self NotAllowed NotAllowed h = refl
tells_self NotAllowed y h = absurd (true≢false (sym h))
tells_self Empty Empty h = refl
tells_self Empty y h = absurd (true≢false (sym h))
tells_self AnyText AnyText h = refl
tells_self AnyText y h = absurd (true≢false (sym h))
tells_self (Ref d) (Ref e) h = ap Ref (nat_tells d e h)
tells_self (Ref d) y h = absurd (true≢false (sym h))
tells_self (Value k l) (Value k' l') h =
    let t = both_true (kind_eq.eq-value.it k k') (nat_eq l.0 l'.0) h in let e = kind_tells k k' t.0 in let f = nat_tells l.0 l'.0 t.1 in (λ i. Value (e i) (record { 0 = f i }))
tells_self (Value k l) y h = absurd (true≢false (sym h))
tells_self (DataType k None) (DataType k' None) h = let t = both_true (kind_eq.eq-value.it k k') true h in ap (λ z. DataType z None) (kind_tells k k' t.0)
tells_self (DataType k None) (DataType k' (Some b)) h = absurd (true≢false (sym (both_true (kind_eq.eq-value.it k k') false h).1))
tells_self (DataType k None) y h = absurd (true≢false (sym h))
tells_self (DataType k (Some a)) (DataType k' None) h = absurd (true≢false (sym (both_true (kind_eq.eq-value.it k k') false h).1))
tells_self (DataType k (Some a)) (DataType k' (Some b)) h =
    let t = both_true (kind_eq.eq-value.it k k') (nat_eq a.0 b.0) h in let e = kind_tells k k' t.0 in let f = nat_tells a.0 b.0 t.1 in (λ i. DataType (e i) (Some (record { 0 = f i })))
tells_self (DataType k (Some a)) y h = absurd (true≢false (sym h))
tells_self (Attribute c a) (Attribute d b) h =
    let t = both_true (nat_eq c.0 d.0) (nat_eq a.0 b.0) h in let e = nat_tells c.0 d.0 t.0 in let f = nat_tells a.0 b.0 t.1 in (λ i. Attribute (record { 0 = e i }) (record { 0 = f i }))
tells_self (Attribute c a) y h = absurd (true≢false (sym h))
tells_self (OneOrMore a) (OneOrMore b) h = let e = nat_tells a.0 b.0 h in (λ i. OneOrMore (record { 0 = e i }))
tells_self (OneOrMore a) y h = absurd (true≢false (sym h))
tells_self (Choice a b) (Choice c d) h = two_tell Choice a b c d h
tells_self (Choice a b) y h = absurd (true≢false (sym h))
tells_self (Group a b) (Group c d) h = two_tell Group a b c d h
tells_self (Group a b) y h = absurd (true≢false (sym h))
tells_self (Interleave a b) (Interleave c d) h = two_tell Interleave a b c d h
tells_self (Interleave a b) y h = absurd (true≢false (sym h))
tells_self (After a b) (After c d) h = two_tell After a b c d h
tells_self (After a b) y h = absurd (true≢false (sym h))

-- at nodes: with a new node comes a new fact
pub new_node : (old new : List Node) (was now : List Facts) (node : Node) (fact : Facts) (id : ℕ) → true ≡ not (list_any (eq-value.it node) old) →
    new ≡ insert_key eq-value.it old node → id ≡ position_or_len (eq-value.it node) old → now ≡ was ++ fact ∷ [] → IsInterned old was node fact id new now
new_node old new was now node fact id n k i m = inr (record {
  absent = λ j h. true≢false (sym (some_at (eq-value.it node) old j node h (same_self node)) ∙ none);
  last = i ∙ none_first (eq-value.it node) old none;
  nodes = k ∙ ap (λ b. if b then old else old ++ node ∷ []) none;
  facts = m;
})
  where
    not_false : (b : Bool) → true ≡ not b → b ≡ false
    not_false true h = absurd (true≢false h)
    not_false false h = refl

    none : list_any (eq-value.it node) old ≡ false
    none = not_false (list_any (eq-value.it node) old) n

pub had_node : (old new : List Node) (was now : List Facts) (node : Node) (fact : Facts) (id : ℕ) → false ≡ not (list_any (eq-value.it node) old) →
    new ≡ insert_key eq-value.it old node → (k : Node) → slice_get new id ≡ Some k → eq-value.it node k ≡ true → now ≡ was → IsInterned old was node fact id new now
had_node old new was now node fact id n m k s t f = inl (record { there = subst (λ l. slice_get l id ≡ Some node) kept (s ∙ ap Some (sym (tells_self node k t))); nodes = kept; facts = f })
  where
    not_true : (b : Bool) → false ≡ not b → b ≡ true
    not_true true h = refl
    not_true false h = absurd (true≢false (sym h))

    kept : new ≡ old
    kept = m ∙ ap (λ b. if b then old else old ++ node ∷ []) (not_true (list_any (eq-value.it node) old) n)

-- a new node, taken out again
pub taken_out : (old new last : List Node) (node : Node) (id : ℕ) → true ≡ not (list_any (eq-value.it node) old) →
    new ≡ insert_key eq-value.it old node → id ≡ position_or_len (eq-value.it node) old → last ≡ take id new → last ≡ old
taken_out old new last node id n k i t =
    t ∙ (λ j. take ((i ∙ none_first (eq-value.it node) old none) j) ((k ∙ ap (λ b. if b then old else old ++ node ∷ []) none) j)) ∙ take-append_seam old (node ∷ [])
  where
    not_false : (b : Bool) → true ≡ not b → b ≡ false
    not_false true h = absurd (true≢false h)
    not_false false h = refl

    none : list_any (eq-value.it node) old ≡ false
    none = not_false (list_any (eq-value.it node) old) n
