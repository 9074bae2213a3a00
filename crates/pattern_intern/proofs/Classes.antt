-- The search for the classes of attributes: its start, the visit of a number, and its end.
use Rattle.std.proofs.Common.{◌≡◌, ℕ, suc, ◌+◌, ◌<◌, ◌≤◌, ◌⊎◌, inl, inr, ◌↔◌, Bool, true, false, get_or, Result, Ok, Err, OnOk, List, [], ◌∷◌, ◌++◌, length, map, replicate, sym, ◌∙◌, ap, subst, arith}
use Rattle.std.specs.List.{Contains}
use Rattle.std.specs.List.{AllByRecursion}
use Rattle.std.proofs.lemmas.List.{length-replicate}
use Rattle.std.proofs.lemmas.List.Elements.{Contains-push, Contains-push_cases, Contains-append_left}
use Rattle.rng_model.specs.Classes.{Class}
use Rattle.rng_model.specs.Patterns.{Pattern, Schema}
use Rattle.rng_model.specs.Patterns as pattern
use Rattle.rng_model.specs.Inside.{IsAttributeOf}
use Rattle.rng_model.specs.Universe.{IsAttributeClass}
use Rattle.pattern_intern.specs.declared.id.ClassId.{ClassId}
use Rattle.pattern_intern.specs.declared.id.PatternId.{PatternId}
use Rattle.pattern_intern.specs.Marks.{parts_of, with_marks}
use Rattle.pattern_intern.specs.Attributes.{HasClass, AreClasses, IsClassSearch}
use Rattle.pattern_intern.specs.Schemas.{Entry, AreBelow, schema_of}
use Rattle.pattern_intern.specs.Stored.{Stored, count, class_at, tree_at}
use Rattle.pattern_intern.specs.Trees.{node_tree, IsNode}
use Rattle.pattern_intern.specs.declared.node.Node.{Node}
use Rattle.pattern_intern.specs.declared.node.Node.TheVariants.{Attribute}
use Rattle.pattern_intern.proofs.Marking.{nothing_in, unmarked, visited, length-marks}
use Rattle.pattern_intern.proofs.Searching.{moved, second, contents_in, no_more, then, none_there, in_start, no_member}

choice_no : (c : Class) (p q : Pattern) → IsAttributeOf c (pattern.choice p q) → ⊥
choice_no c p q (x, e) = absurd (cc)

one : (n : ℕ) → n + 1 ≡ suc n
one n = omega arith

module _ (g : Schema) (s : Stored) (r : List Bool) (ids : List ClassId) (n : ℕ) (k : IsClassSearch g s r ids (n + 1)) where
  next : IsClassSearch g s r ids (suc n)
  next = subst (λ j. IsClassSearch g s r ids j) (one n) k

  pub class_unmarked : get_or r n false ≡ false → IsClassSearch g s r ids n
  class_unmarked e = let h = next in record { reached_length = h.reached_length; within = h.within; each = λ c. second (unmarked (IsAttributeOf c) s r n e) (h.each c) }

  pub class_marked : (node : Node) → IsNode s n node → n < count s → get_or r n false ≡ true → (r' : List Bool) → r' ≡ with_marks r (parts_of node) → (ids' : List ClassId) →
      (AreClasses s ids → AreClasses s ids') → ((c : Class) → HasClass s ids' c ↔ (HasClass s ids c ⊎ IsAttributeOf c (node_tree s node))) → IsClassSearch g s r' ids' n
  class_marked node is small e r' fr ids' within each =
      let h = next in
      rw fr record {
        reached_length = length-marks r (parts_of node) ∙ h.reached_length;
        within = within h.within;
        each = λ c. moved (each c) (visited (IsAttributeOf c) (choice_no c) s r n node is (let x = h.reached_length in omega (arith, x, small)) e) (h.each c);
      }

pub class_started : (s : Stored) (start : ℕ) (entries : List Entry) (n : ℕ) → n ≡ count s → start < count s → AreBelow (count s) entries → (r : List Bool) →
    r ≡ with_marks (replicate n false) (start ∷ map (λ x. x.1) entries) → (ids : List ClassId) → ids ≡ [] → IsClassSearch (schema_of s start entries) s r ids n × (n ≤ count s)
class_started s start entries n e w h r fr ids fi = (
  subst (λ m. IsClassSearch (schema_of s start entries) s r ids m) (sym e) (whole (subst (λ m. r ≡ with_marks (replicate m false) (start ∷ map (λ x. x.1) entries)) e fr)),
  omega (arith, e),
)
  where
    all : AllByRecursion (λ id. id < count s) (start ∷ map (λ x. x.1) entries)
    all = (w, contents_in (count s) entries h)

    whole : r ≡ with_marks (replicate (count s) false) (start ∷ map (λ x. x.1) entries) → IsClassSearch (schema_of s start entries) s r ids (count s)
    whole f = rw (f, fi) record {
      reached_length = length-marks (replicate (count s) false) (start ∷ map (λ x. x.1) entries) ∙ length-replicate (count s) false;
      within = record { each = λ id m. absurd (no_member id m) };
      each = λ c. none_there (λ (x : HasClass s [] c). no_member x.0 x.1) (in_start (IsAttributeOf c) s start entries all);
    }

pub class_ended : (g : Schema) (s : Stored) (r : List Bool) (ids : List ClassId) (n : ℕ) → n ≡ 0 → IsClassSearch g s r ids n → (c : Class) → HasClass s ids c ↔ IsAttributeClass g c
class_ended g s r ids n e k c = let h = subst (λ m. IsClassSearch g s r ids m) e k in then (nothing_in (no_more (IsAttributeOf c) s r)) (h.each c)

pub class_at_next : (g : Schema) (s : Stored) (r : List Bool) (ids : List ClassId) (n m : ℕ) → n ≡ m → IsClassSearch g s r ids n → IsClassSearch g s r ids m
class_at_next g s r ids n m e k = subst (λ j. IsClassSearch g s r ids j) e k

-- a class is noted
pub within_noted : (s : Stored) (ids new : List ClassId) (id : ClassId) → new ≡ ids ++ id ∷ [] → id.0 < length s.classes → AreClasses s ids → AreClasses s new
within_noted s ids new id e below h = record { each = λ x m. go x (Contains-push_cases ids id x (subst (λ (ys : List ClassId). Contains ys x) e m)) }
  where
    go : (x : ClassId) → Contains ids x ⊎ (id ≡ x) → x.0 < length s.classes
    go x (inl m) = h.each x m
    go x (inr f) = subst (λ (y : ClassId). y.0 < length s.classes) f below

pub class_noted : (s : Stored) (ids new : List ClassId) (id : ClassId) (a : PatternId) (node : Node) → node ≡ Attribute id a → new ≡ ids ++ id ∷ [] → (c : Class) →
    HasClass s new c ↔ (HasClass s ids c ⊎ IsAttributeOf c (node_tree s node))
class_noted s ids new id a node is e c = rw is (to, from)
  where
    read : (x : ClassId) → c ≡ class_at s x.0 → Contains ids x ⊎ (id ≡ x) → HasClass s ids c ⊎ IsAttributeOf c (node_tree s (Attribute id a))
    read x f (inl m) = inl (x, m, f)
    read x f (inr same) = inr (tree_at s a.0, ap (λ (d : Class). pattern.attribute d (tree_at s a.0)) (ap (λ (y : ClassId). class_at s y.0) same ∙ sym f))

    to : HasClass s new c → HasClass s ids c ⊎ IsAttributeOf c (node_tree s (Attribute id a))
    to (x, m, f) = read x f (Contains-push_cases ids id x (subst (λ (ys : List ClassId). Contains ys x) e m))

    from : HasClass s ids c ⊎ IsAttributeOf c (node_tree s (Attribute id a)) → HasClass s new c
    from (inl (x, m, f)) = (x, subst (λ (ys : List ClassId). Contains ys x) (sym e) (Contains-append_left ids (id ∷ []) x m), f)
    from (inr (q, f)) = let same : c ≡ class_at s id.0 = cc in (id, subst (λ (ys : List ClassId). Contains ys id) (sym e) (Contains-push ids id), same)

pub ok_both : {X E A B D : Type 0} (r : Result X E) → OnOk r A → OnOk r B → (A → B → D) → OnOk r D
ok_both (Ok x) a b f = f a b
ok_both (Err x) a b f = tt
