-- The parts of a list of classes, and the least places of their faults.
use Rattle.std.proofs.Common.{◌≡◌, ℕ, ◌+◌, ◌<◌, ◌≤◌, Bool, List, [], ◌∷◌, ◌++◌, Option, Some, None, length, take, get_or, map, refl, ap, sym, ◌∙◌, append_assoc, append-nil}
use Rattle.std.specs.Prelude.{flat_map}
use Rattle.std.proofs.lemmas.Grind.{flat_map-append}
use Rattle.std.proofs.lemmas.List.{take_more, take_all, map-append}
use Rattle.grammar_laws.specs.Trees.{Class, classes_of, plain, prefixed, any, any_except, namespace, namespace_except, choice_class}
use Rattle.grammar_laws.specs.Files.{SchemaFile}
use Rattle.simple_form_laws.specs.ClassForms.{Use, OfElement, OfAttribute, class_parts, classes_parts}
use Rattle.simple_form_laws.specs.Faults.{any_place, wild_place, constraint_places, place_if, xmlns_in_class}
use Rattle.name_resolution.specs.declared.class_faults.Around.{Around}
use Rattle.name_resolution.specs.declared.class_faults.Around.TheVariants.{Nothing, Any, Namespace}
use Rattle.name_resolution.specs.ClassPlaces.{of_attribute, refused_place, refused_places, refuses_any, refuses_namespace, xmlns_places, within_any}
use Rattle.name_resolution.specs.Least.{least, lesser}
use Rattle.name_resolution.proofs.LeastPlaces.{least_append, lesser_assoc, lesser_comm, lesser_same, lesser_none}

pub parts_append : (cs : List Class) (c : Class) → classes_parts (classes_of (cs ++ c ∷ [])) ≡ classes_parts (classes_of cs) ++ class_parts c
parts_append [] c = append-nil (class_parts c)
parts_append (b ∷ cs) c = rw (parts_append cs c) (sym (append_assoc (class_parts b) (classes_parts (classes_of cs)) (class_parts c)))

-- one class more
pub parts_more : {D : Type 0} (v : D → Class) (xs : List D) (i : ℕ) (x : D) → i < length xs → x ≡ get_or xs i x
    → classes_parts (classes_of (map v (take (i + 1) xs))) ≡ classes_parts (classes_of (map v (take i xs))) ++ class_parts (v x)
parts_more v xs i x h is =
    ap (λ cs. classes_parts (classes_of cs)) (ap (λ ys. map v ys) (take_more xs i x h ∙ ap (λ y. take i xs ++ y ∷ []) (sym is)) ∙ map-append v (take i xs) (x ∷ []))
    ∙ parts_append (map v (take i xs)) (v x)

pub least_flat : {X : Type 0} (f : X → List ℕ) (xs ys : List X) → least (flat_map f (xs ++ ys)) ≡ lesser (least (flat_map f xs)) (least (flat_map f ys))
least_flat f xs ys = ap (λ zs. least zs) (flat_map-append f xs ys) ∙ least_append (flat_map f xs) (flat_map f ys)

pub least_xmlns : (fs : List SchemaFile) (u : Use) (xs ys : List Class) → least (xmlns_places fs u (xs ++ ys)) ≡ lesser (least (xmlns_places fs u xs)) (least (xmlns_places fs u ys))
least_xmlns fs OfElement xs ys = refl
least_xmlns fs OfAttribute xs ys = least_flat (xmlns_in_class fs) xs ys

swapped : (a b c d : Option ℕ) → lesser (lesser a b) (lesser c d) ≡ lesser (lesser a c) (lesser b d)
swapped a b c d =
    lesser_assoc a b (lesser c d) ∙ ap (λ (o : Option ℕ). lesser a o) (sym (lesser_assoc b c d) ∙ ap (λ (o : Option ℕ). lesser o d) (lesser_comm b c) ∙ lesser_assoc c b d)
    ∙ sym (lesser_assoc a c (lesser b d))

pub least_refused : (x : Around) (cs ds : List Class) → least (refused_places x (cs ++ ds)) ≡ lesser (least (refused_places x cs)) (least (refused_places x ds))
least_refused x cs ds =
    least_append (flat_map (refused_place x) (cs ++ ds)) (flat_map constraint_places (cs ++ ds))
    ∙ ap (λ (o : Option ℕ). lesser o (least (flat_map constraint_places (cs ++ ds)))) (least_flat (refused_place x) cs ds)
    ∙ ap (λ (o : Option ℕ). lesser (lesser (least (flat_map (refused_place x) cs)) (least (flat_map (refused_place x) ds))) o) (least_flat constraint_places cs ds)
    ∙ swapped (least (flat_map (refused_place x) cs)) (least (flat_map (refused_place x) ds)) (least (flat_map constraint_places cs)) (least (flat_map constraint_places ds))
    ∙ ap (λ (o : Option ℕ). lesser o (lesser (least (flat_map (refused_place x) ds)) (least (flat_map constraint_places ds)))) (sym (least_append (flat_map (refused_place x) cs) (flat_map constraint_places cs)))
    ∙ ap (λ (o : Option ℕ). lesser (least (refused_places x cs)) o) (sym (least_append (flat_map (refused_place x) ds) (flat_map constraint_places ds)))

-- two lists of places for each class
pub pointwise : (A B C : Class → List ℕ) → ((c : Class) → lesser (least (A c)) (least (B c)) ≡ least (C c))
    → (cs : List Class) → lesser (least (flat_map A cs)) (least (flat_map B cs)) ≡ least (flat_map C cs)
pointwise A B C same [] = refl
pointwise A B C same (c ∷ cs) =
    ap (λ (o : Option ℕ). lesser o (least (B c ++ flat_map B cs))) (least_append (A c) (flat_map A cs))
    ∙ ap (λ (o : Option ℕ). lesser (lesser (least (A c)) (least (flat_map A cs))) o) (least_append (B c) (flat_map B cs))
    ∙ swapped (least (A c)) (least (flat_map A cs)) (least (B c)) (least (flat_map B cs))
    ∙ ap (λ (o : Option ℕ). lesser o (lesser (least (flat_map A cs)) (least (flat_map B cs)))) (same c)
    ∙ ap (λ (o : Option ℕ). lesser (least (C c)) o) (pointwise A B C same cs)
    ∙ sym (least_append (C c) (flat_map C cs))

-- a class with an except whose parts are ps
refused_with : (x y : Around) (e : Class) (ps : List Class) (B : Class → List ℕ) → constraint_places e ≡ flat_map B ps
    → ((c : Class) → lesser (least (refused_place x c)) (least (B c)) ≡ least (refused_place y c))
    → least (refused_places x (e ∷ ps)) ≡ lesser (least (refused_place x e)) (least (refused_places y ps))
refused_with x y e ps B inner same =
    let a = least (refused_place x e) in
    let around = least (flat_map (refused_place x) ps) in
    let own = least (flat_map B ps) in
    let rest = least (flat_map constraint_places ps) in
    least_append (refused_place x e ++ flat_map (refused_place x) ps) (constraint_places e ++ flat_map constraint_places ps)
    ∙ ap (λ (o : Option ℕ). lesser o (least (constraint_places e ++ flat_map constraint_places ps))) (least_append (refused_place x e) (flat_map (refused_place x) ps))
    ∙ ap (λ (o : Option ℕ). lesser (lesser a around) o) (least_append (constraint_places e) (flat_map constraint_places ps) ∙ ap (λ ys. lesser (least ys) rest) inner)
    ∙ lesser_assoc a around (lesser own rest)
    ∙ ap (λ (o : Option ℕ). lesser a o) (sym (lesser_assoc around own rest) ∙ ap (λ (o : Option ℕ). lesser o rest) (pointwise (refused_place x) B (refused_place y) same ps)
    ∙ sym (least_append (flat_map (refused_place y) ps) (flat_map constraint_places ps)))

any_joined : (x : Around) (c : Class) → lesser (least (refused_place x c)) (least (any_place c)) ≡ least (refused_place (within_any x) c)
any_joined Nothing c = refl
any_joined Any c = lesser_same (least (any_place c))
any_joined Namespace (plain l a) = refl
any_joined Namespace (prefixed p l a) = refl
any_joined Namespace (any a) = lesser_same (Some a)
any_joined Namespace (any_except c a) = lesser_same (Some a)
any_joined Namespace (namespace p a) = refl
any_joined Namespace (namespace_except p c a) = refl
any_joined Namespace (choice_class cs) = refl

wild_joined : (x : Around) (c : Class) → lesser (least (refused_place x c)) (least (wild_place c)) ≡ least (wild_place c)
wild_joined Nothing c = refl
wild_joined Namespace c = lesser_same (least (wild_place c))
wild_joined Any (plain l a) = refl
wild_joined Any (prefixed p l a) = refl
wild_joined Any (any a) = lesser_same (Some a)
wild_joined Any (any_except c a) = lesser_same (Some a)
wild_joined Any (namespace p a) = refl
wild_joined Any (namespace_except p c a) = refl
wild_joined Any (choice_class cs) = refl

pub refused_any : (x : Around) (c : Class) (a : ℕ) → least (refused_places x (any_except c a ∷ class_parts c)) ≡ lesser (least (refused_place x (any_except c a))) (least (refused_places (within_any x) (class_parts c)))
refused_any x c a = refused_with x (within_any x) (any_except c a) (class_parts c) any_place refl (any_joined x)

pub refused_namespace : (x : Around) (p : List ℕ) (c : Class) (a : ℕ) → least (refused_places x (namespace_except p c a ∷ class_parts c)) ≡ lesser (least (refused_place x (namespace_except p c a))) (least (refused_places Namespace (class_parts c)))
refused_namespace x p c a = refused_with x Namespace (namespace_except p c a) (class_parts c) wild_place refl (wild_joined x)

any_here : (x : Around) (c : Class) (a : ℕ) → least (place_if (refuses_any x) a) ≡ least (refused_place x (any_except c a))
any_here Nothing c a = refl
any_here Any c a = refl
any_here Namespace c a = refl

namespace_here : (x : Around) (p : List ℕ) (c : Class) (a : ℕ) → least (place_if (refuses_namespace x) a) ≡ least (refused_place x (namespace_except p c a))
namespace_here Nothing p c a = refl
namespace_here Any p c a = refl
namespace_here Namespace p c a = refl

-- a class that stands alone
pub alone : (first mid new : Option ℕ) (xs : List ℕ) → mid ≡ first → new ≡ lesser mid (least xs) → new ≡ lesser first (least (xs ++ []))
alone first mid new xs m n = n ∙ ap (λ (o : Option ℕ). lesser o (least xs)) m ∙ ap (λ ys. lesser first (least ys)) (sym (append-nil xs))

pub alone_attribute : (u : Use) (first mid new : Option ℕ) (xs : List ℕ) → mid ≡ first → new ≡ lesser mid (least (of_attribute u xs)) → new ≡ lesser first (least (of_attribute u (xs ++ [])))
alone_attribute u first mid new xs m n = n ∙ ap (λ (o : Option ℕ). lesser o (least (of_attribute u xs))) m ∙ ap (λ ys. lesser first (least (of_attribute u ys))) (sym (append-nil xs))

-- a class with an except
pub before : (first mid mid' new : Option ℕ) (xs ys : List ℕ) → mid ≡ first → mid' ≡ lesser mid (least xs) → new ≡ lesser mid' (least ys) → new ≡ lesser first (least (xs ++ ys))
before first mid mid' new xs ys m m' n =
    n ∙ ap (λ (o : Option ℕ). lesser o (least ys)) (m' ∙ ap (λ (o : Option ℕ). lesser o (least xs)) m) ∙ lesser_assoc first (least xs) (least ys)
    ∙ ap (λ (o : Option ℕ). lesser first o) (sym (least_append xs ys))

pub before_attribute : (u : Use) (first mid mid' new : Option ℕ) (xs ys : List ℕ) → mid ≡ first → mid' ≡ lesser mid (least (of_attribute u xs))
    → new ≡ lesser mid' (least (of_attribute u ys)) → new ≡ lesser first (least (of_attribute u (xs ++ ys)))
before_attribute OfElement first mid mid' new xs ys m m' n = before first mid mid' new [] [] m m' n
before_attribute OfAttribute first mid mid' new xs ys m m' n = before first mid mid' new xs ys m m' n

-- wildcards with excepts
pub any_walked : (x y : Around) (c : Class) (a : ℕ) (b : Bool) (first mid new : Option ℕ) → b ≡ refuses_any x → y ≡ within_any x
    → mid ≡ lesser first (least (place_if b a)) → new ≡ lesser mid (least (refused_places y (class_parts c)))
    → new ≡ lesser first (least (refused_places x (any_except c a ∷ class_parts c)))
any_walked x y c a b first mid new hb hy m n =
    n ∙ ap (λ (o : Option ℕ). lesser o (least (refused_places y (class_parts c)))) (m ∙ ap (λ (o : Option ℕ). lesser first o) (ap (λ d. least (place_if d a)) hb ∙ any_here x c a))
    ∙ lesser_assoc first (least (refused_place x (any_except c a))) (least (refused_places y (class_parts c)))
    ∙ ap (λ (o : Option ℕ). lesser first o) (ap (λ z. lesser (least (refused_place x (any_except c a))) (least (refused_places z (class_parts c)))) hy ∙ sym (refused_any x c a))

pub namespace_walked : (x : Around) (p : List ℕ) (c : Class) (a : ℕ) (b : Bool) (first mid mid' new : Option ℕ) → b ≡ refuses_namespace x
    → mid ≡ lesser first (least (place_if b a)) → mid' ≡ mid → new ≡ lesser mid' (least (refused_places Namespace (class_parts c)))
    → new ≡ lesser first (least (refused_places x (namespace_except p c a ∷ class_parts c)))
namespace_walked x p c a b first mid mid' new hb m m' n =
    n ∙ ap (λ (o : Option ℕ). lesser o (least (refused_places Namespace (class_parts c)))) (m' ∙ m ∙ ap (λ (o : Option ℕ). lesser first o) (ap (λ d. least (place_if d a)) hb ∙ namespace_here x p c a))
    ∙ lesser_assoc first (least (refused_place x (namespace_except p c a))) (least (refused_places Namespace (class_parts c)))
    ∙ ap (λ (o : Option ℕ). lesser first o) (sym (refused_namespace x p c a))

-- the loop over the members: one more
pub walked_more : {D : Type 0} (v : D → Class) (f : List Class → List ℕ) (xs : List D) (i : ℕ) (x : D) (first found new : Option ℕ) → i < length xs → x ≡ get_or xs i x
    → ((cs ds : List Class) → least (f (cs ++ ds)) ≡ lesser (least (f cs)) (least (f ds)))
    → found ≡ lesser first (least (f (classes_parts (classes_of (map v (take i xs)))))) → new ≡ lesser found (least (f (class_parts (v x))))
    → new ≡ lesser first (least (f (classes_parts (classes_of (map v (take (i + 1) xs))))))
walked_more v f xs i x first found new h is both e n =
    n ∙ ap (λ (o : Option ℕ). lesser o (least (f (class_parts (v x))))) e
    ∙ lesser_assoc first (least (f (classes_parts (classes_of (map v (take i xs)))))) (least (f (class_parts (v x))))
    ∙ ap (λ (o : Option ℕ). lesser first o) (sym (both (classes_parts (classes_of (map v (take i xs)))) (class_parts (v x))) ∙ ap (λ cs. least (f cs)) (sym (parts_more v xs i x h is)))

-- before the first
pub walked_none : (first : Option ℕ) → first ≡ lesser first None
walked_none first = sym (lesser_none first)

-- all
pub walked_all : {D : Type 0} (v : D → Class) (f : List Class → List ℕ) (xs : List D) (i : ℕ) (first found : Option ℕ) → length xs ≤ i
    → found ≡ lesser first (least (f (classes_parts (classes_of (map v (take i xs)))))) → found ≡ lesser first (least (f (classes_parts (classes_of (map v xs)))))
walked_all v f xs i first found h e = e ∙ ap (λ ys. lesser first (least (f (classes_parts (classes_of (map v ys)))))) (take_all i xs h)

-- outside all excepts
pub nothing_around : (cs : List Class) → least (refused_places Nothing cs) ≡ least (flat_map constraint_places cs)
nothing_around cs = ap (λ xs. least (xs ++ flat_map constraint_places cs)) (none cs)
  where
    none : (ds : List Class) → flat_map (refused_place Nothing) ds ≡ []
    none [] = refl
    none (d ∷ ds) = none ds
