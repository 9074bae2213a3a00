-- A tree without faults has a simple form.
use Rattle.std.proofs.Common.{◌≡◌, ℕ, ◌<◌, arith, inl, inr, Bool, true, false, List, [], ◌∷◌, ◌++◌, map, Option, Some, None, option_map, refl, sym, ◌∙◌, ap, subst, IsTrue}
use Rattle.std.specs.Prelude.{flat_map, filter_map, fold, ◌||◌, option_and_then}
use Rattle.std.specs.List.{list_any, cons_option}
use Rattle.rng_model.specs.Texts.{Text}
use Rattle.rng_model.specs.Kinds.{Kind, Str, Token}
use Rattle.rng_model.specs.Classes as simple
use Rattle.rng_model.specs.Patterns.{Schema}
use Rattle.derivative_laws.proofs.Members.{IsIn, contained, in_left, in_right}
use Rattle.grammar_laws.specs.Trees.{Class, Classes, no_classes, more_classes, TypeName, built_string, built_token, prefixed_type, Pattern, Patterns, no_pattern, more_patterns}
use Rattle.grammar_laws.specs.Files.{SchemaFile, Full}
use Rattle.grammar_laws.specs.Trees as full
use Rattle.simple_form_laws.specs.Prefixes.{look_up, library_table, library_kind, file_at, namespace_of, kind_of}
use Rattle.simple_form_laws.specs.ClassForms.{Use, OfElement, OfAttribute, class_of, classes_of, nested_left, either_of, named, namespace_except_of, class_parts, classes_parts}
use Rattle.simple_form_laws.specs.Parts.{Part}
use Rattle.simple_form_laws.specs.Forms.{IsFormOf, tree}
use Rattle.simple_form_laws.specs.Faults.{parts, element_class, attribute_class, element_classes, attribute_classes, unbound_in_class, unbound_in_type, unbound_prefixes, type_of, place_unless, undefined_in, undefined_names, parent_in, parents_outside, lacks_start, has_no_start, IsKnownType, IsManyClasses, IsWholeClass, AreWholeClasses, IsSimplifiablePart, IsSimplifiable, Fault, fault_number, HasFault, Simple, UnboundPrefix, NoStart, UndefinedName, ParentOutside, Loop}
use Rattle.simple_form_laws.proofs.Existence.{IsFormed, IsSound}
use Rattle.simple_form_laws.proofs.Schemas.{has_form}

in_flat_map : {X Y : Type 0} (h : X → List Y) (x : X) (y : Y) (xs : List X) → IsIn x xs → IsIn y (h x) → IsIn y (flat_map h xs)
in_flat_map h x y [] i j = absurd i
in_flat_map h x y (z ∷ xs) (inl e) j = in_left y (h z) (flat_map h xs) (subst (λ w. IsIn y (h w)) e j)
in_flat_map h x y (z ∷ xs) (inr i) j = in_right y (h z) (flat_map h xs) (in_flat_map h x y xs i j)

in_filter_map : {X Y : Type 0} (h : X → Option Y) (x : X) (y : Y) (xs : List X) → IsIn x xs → h x ≡ Some y → IsIn y (filter_map h xs)
in_filter_map h x y [] i e = absurd i
in_filter_map h x y (z ∷ xs) (inl f) e = subst (λ o. IsIn y (cons_option o (filter_map h xs))) (sym e ∙ ap h f) (inl refl)
in_filter_map h x y (z ∷ xs) (inr i) e = go (h z) (in_filter_map h x y xs i e)
  where
    go : (o : Option _) → IsIn y (filter_map h xs) → IsIn y (cons_option o (filter_map h xs))
    go None k = k
    go (Some w) k = inr k

none_of : {X : Type 0} (test : X → Bool) (x : X) (xs : List X) → list_any test xs ≡ false → IsIn x xs → test x ≡ false
none_of test x [] e i = absurd i
none_of test x (y ∷ xs) e i = go (test y) refl e i (none_of test x xs)
  where
    go : (b : Bool) → test y ≡ b → (b || list_any test xs) ≡ false → IsIn x (y ∷ xs) → (list_any test xs ≡ false → IsIn x xs → test x ≡ false) → test x ≡ false
    go true f e i again = absurd (cc)
    go false f e (inl k) again = ap test k ∙ f
    go false f e (inr j) again = again e j

not_true : (b : Bool) → (IsTrue b → ⊥) → b ≡ false
not_true true h = absurd (h refl)
not_true false h = refl

bound : (o : Option Text) (at : ℕ) → ((n : ℕ) → IsIn n (place_unless o at) → ⊥) → (u : Text) × (o ≡ Some u)
bound None at f = absurd (f at (inl refl))
bound (Some u) at f = (u, refl)

folded : (d : simple.Class) (ds : List simple.Class) → fold either_of (Some d) (map Some ds) ≡ Some (fold simple.either d ds)
folded d [] = refl
folded d (e ∷ ds) = folded (simple.either d e) ds

choice_of_some : (xs : List (Option simple.Class)) (d : simple.Class) (ds : List simple.Class) → xs ≡ map Some (d ∷ ds) → nested_left xs ≡ Some (fold simple.either d ds)
choice_of_some xs d ds e = ap nested_left e ∙ folded d ds

module _ (fs : List SchemaFile) where
  abbrev AreBound : List Class → Type 0
  AreBound cs = (n : ℕ) (d : Class) → IsIn d cs → IsIn n (unbound_in_class fs d) → ⊥

  choice_some : (use_of : Use) (cs : Classes) → IsManyClasses cs → (ds : List simple.Class) → classes_of fs use_of cs ≡ map Some ds → (d : simple.Class) × (nested_left (classes_of fs use_of cs) ≡ Some d)
  choice_some use_of no_classes m ds e = absurd m
  choice_some use_of (more_classes c cs) m [] e = absurd (cc)
  choice_some use_of (more_classes c cs) m (d ∷ ds) e = (fold simple.either d ds, choice_of_some (classes_of fs use_of (more_classes c cs)) d ds e)

  mutual
    class_some : (use_of : Use) (c : Class) → IsWholeClass c → AreBound (class_parts c) → (d : simple.Class) × (class_of fs use_of c ≡ Some d)
    class_some use_of (full.plain l at) w b = (_, refl)
    class_some use_of (full.prefixed p l at) w b =
        let u = bound (namespace_of fs p at) at (λ n i. b n (full.prefixed p l at) (inl refl) i) in
        (simple.one (named u.0 l), ap (option_map (λ v. simple.one (named v l))) u.1)
    class_some use_of (full.any at) w b = (simple.any, refl)
    class_some use_of (full.any_except c at) w b =
        let d = class_some use_of c w (λ n e i. b n e (inr i)) in
        (simple.any_except d.0, ap (option_map simple.any_except) d.1)
    class_some use_of (full.namespace p at) w b =
        let u = bound (namespace_of fs p at) at (λ n i. b n (full.namespace p at) (inl refl) i) in
        (simple.namespace u.0, ap (option_map simple.namespace) u.1)
    class_some use_of (full.namespace_except p c at) w b =
        let u = bound (namespace_of fs p at) at (λ n i. b n (full.namespace_except p c at) (inl refl) i) in
        let d = class_some use_of c w (λ n e i. b n e (inr i)) in
        (simple.namespace_except u.0 d.0, (λ i. namespace_except_of (u.1 i) (d.1 i)))
    class_some use_of (full.choice_class cs) w b =
        let ds = classes_some use_of cs w.1 b in
        choice_some use_of cs w.0 ds.0 ds.1

    classes_some : (use_of : Use) (cs : Classes) → AreWholeClasses cs → AreBound (classes_parts cs) → (ds : List simple.Class) × (classes_of fs use_of cs ≡ map Some ds)
    classes_some use_of no_classes w b = ([], refl)
    classes_some use_of (more_classes c cs) w b =
        let d = class_some use_of c w.0 (λ n e i. b n e (in_left e (class_parts c) (classes_parts cs) i)) in
        let ds = classes_some use_of cs w.1 (λ n e i. b n e (in_right e (class_parts c) (classes_parts cs) i)) in
        (d.0 ∷ ds.0, (λ i. d.1 i ∷ ds.1 i))

  type_some : (k : TypeName) → IsKnownType fs k → ((n : ℕ) → IsIn n (unbound_in_type fs k) → ⊥) → (j : Kind) × (kind_of fs k ≡ Some j)
  type_some (built_string at) w b = (Str, refl)
  type_some (built_token at) w b = (Token, refl)
  type_some (prefixed_type p name at) w b =
      let u = bound (look_up (library_table (file_at fs at)) p) at b in
      let k = w u.0 u.1 in
      (k.0, ap (option_and_then (library_kind name)) u.1 ∙ k.1)

  formed_of : (p : Pattern) → IsSimplifiablePart fs p → ((c : Class) → element_class p ≡ Some c → AreBound (class_parts c)) → ((c : Class) → attribute_class p ≡ Some c → AreBound (class_parts c)) →
      ((k : TypeName) → type_of p ≡ Some k → (n : ℕ) → IsIn n (unbound_in_type fs k) → ⊥) → IsFormed fs p
  formed_of (full.element c p at) w e a t = class_some OfElement c w (e c refl)
  formed_of (full.attribute c p at) w e a t = class_some OfAttribute c w (a c refl)
  formed_of (full.group ps) w e a t = w
  formed_of (full.choice ps) w e a t = w
  formed_of (full.interleave ps) w e a t = w
  formed_of (full.optional p) w e a t = tt
  formed_of (full.zero_or_more p) w e a t = tt
  formed_of (full.one_or_more p) w e a t = tt
  formed_of (full.list p at) w e a t = w
  formed_of (full.mixed p) w e a t = tt
  formed_of (full.ref name at) w e a t = tt
  formed_of (full.parent name at) w e a t = tt
  formed_of full.empty w e a t = tt
  formed_of full.any_text w e a t = tt
  formed_of full.not_allowed w e a t = tt
  formed_of (full.value None l) w e a t = tt
  formed_of (full.value (Some of) l) w e a t = type_some of w (t of refl)
  formed_of (full.data_type of []) w e a t = type_some of w.1 (t of refl)
  formed_of (full.data_type of (x ∷ xs)) w e a t = absurd (let f = w.0 in cc)
  formed_of (full.data_except of [] p) w e a t = type_some of w.1 (t of refl)
  formed_of (full.data_except of (x ∷ xs) p) w e a t = absurd (let f = w.0 in cc)
  formed_of (full.external l passed at) w e a t = w
  formed_of (full.grammar is) w e a t = tt

-- the part's own class or type resolves, its grammar has a start, and what it refers to is there
pub record IsResolved (fs : List SchemaFile) (x : Part) : Type 0 where
  pub formed : IsFormed fs x.pattern
  pub started : lacks_start x.pattern ≡ false
  pub defined : (at : ℕ) → IsIn at (undefined_in x.scope x.pattern) → ⊥
  pub inside : (at : ℕ) → IsIn at (parent_in x.scope x.pattern) → ⊥

-- without a fault that comes before loops
module _ (f : Full) (taken : IsSimplifiable f) (none : (x : Fault) → fault_number x < 41 → HasFault f x → ⊥) where
  unbound_at : (n : ℕ) (d : Class) → IsIn d (element_classes f ++ attribute_classes f) → IsIn n (unbound_in_class f.files d) → ⊥
  unbound_at n d i j =
      none (UnboundPrefix n) (omega arith)
      (contained n (unbound_prefixes f) (in_left n (flat_map (unbound_in_class f.files) (element_classes f ++ attribute_classes f)) (flat_map (unbound_in_type f.files) (filter_map (λ x. type_of x.pattern) (parts f))) (in_flat_map (unbound_in_class f.files) d n (element_classes f ++ attribute_classes f) i j)))

  formed : (x : Part) → IsIn x (parts f) → IsFormed f.files x.pattern
  formed x i =
      formed_of f.files x.pattern (taken x (contained x (parts f) i))
      (λ c e n d j k. unbound_at n d (in_left d (element_classes f) (attribute_classes f) (in_flat_map class_parts c d (filter_map (λ y. element_class y.pattern) (parts f)) (in_filter_map (λ y. element_class y.pattern) x c (parts f) i e) j)) k)
      (λ c e n d j k. unbound_at n d (in_right d (element_classes f) (attribute_classes f) (in_flat_map class_parts c d (filter_map (λ y. attribute_class y.pattern) (parts f)) (in_filter_map (λ y. attribute_class y.pattern) x c (parts f) i e) j)) k)
      (λ k e n j.
      none (UnboundPrefix n) (omega arith)
      (contained n (unbound_prefixes f) (in_right n (flat_map (unbound_in_class f.files) (element_classes f ++ attribute_classes f)) (flat_map (unbound_in_type f.files) (filter_map (λ y. type_of y.pattern) (parts f))) (in_flat_map (unbound_in_type f.files) k n (filter_map (λ y. type_of y.pattern) (parts f)) (in_filter_map (λ y. type_of y.pattern) x k (parts f) i e) j))))

  pub resolved : (x : Part) → IsIn x (parts f) → IsResolved f.files x
  resolved x i = record {
    formed = formed x i;
    started = none_of (λ y. lacks_start y.pattern) x (parts f) (not_true (has_no_start f) (none NoStart (omega arith))) i;
    defined = λ at j. none (UndefinedName at) (omega arith) (contained at (undefined_names f) (in_flat_map (λ y. undefined_in y.scope y.pattern) x at (parts f) i j));
    inside = λ at j. none (ParentOutside at) (omega arith) (contained at (parents_outside f) (in_flat_map (λ y. parent_in y.scope y.pattern) x at (parts f) i j));
  }

module _ (f : Full) (taken : IsSimplifiable f) (none : (x : Fault) → fault_number x < 42 → HasFault f x → ⊥) where
  each_resolved : (x : Part) → IsIn x (parts f) → IsResolved f.files x
  each_resolved = resolved f taken (λ x l h. none x (omega (arith, l)) h)

  is_sound : IsSound f.files (tree f)
  is_sound = record {
    formed = λ x i. (each_resolved x i).formed;
    started = λ x i. (each_resolved x i).started;
    defined = λ x at i j. (each_resolved x i).defined at j;
    inside = λ x at i j. (each_resolved x i).inside at j;
    loopless = λ x at r v l. none (Loop at) (omega arith) (record { place = x; reference = r; visited = v; back = l });
  }

  -- the equations give it a schema
  pub has_schema : (g : Schema) × IsFormOf f g
  has_schema = has_form f is_sound

pub has_simple : (f : Full) → IsSimplifiable f → ((x : Fault) → HasFault f x → ⊥) → (g : Schema) × Simple f g
has_simple f taken none = let g = has_schema f taken (λ x l h. none x h) in (g.0, record { form = g.1; sound = none })
