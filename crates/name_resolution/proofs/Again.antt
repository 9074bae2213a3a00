-- A declaration that binds what an earlier one bound.
use Rattle.std.proofs.Common.{◌≡◌, ℕ, Bool, true, false, cond, ◌||◌, List, [], ◌∷◌, ◌++◌, Option, Some, None, is_some, refl, ap, sym, ◌∙◌, append_assoc, append-nil, ◌+◌, ◌<◌, length, take, get_or, map}
use Rattle.std.specs.Prelude.{flat_map}
use Rattle.std.specs.Str.{bytes_eq}
use Rattle.std.specs.List.{list_any}
use Rattle.grammar_laws.specs.Trees.{Declaration, namespace_prefix, default_namespace, datatypes}
use Rattle.simple_form_laws.specs.Prefixes.{Table, look_up, prefixes, libraries, defaults, bound_uri}
use Rattle.simple_form_laws.specs.Faults.{bind_one, later_places, place_if, is_some_default}
use Rattle.std.proofs.lemmas.Grind.{flat_map-append}
use Rattle.std.proofs.lemmas.List.{take_more, map-append}
use Rattle.simple_form_laws.specs.Faults.{declaration_place}
use Rattle.name_resolution.specs.Bindings.{binds_again}
use Rattle.name_resolution.specs.Least.{least, lesser}
use Rattle.name_resolution.specs.Places.{later_bindings}
use Rattle.name_resolution.proofs.Tables.{grown}
use Rattle.name_resolution.proofs.LeastPlaces.{least_append}
use Rattle.name_resolution.proofs.Within.{lowered}

-- what the declarations before have bound
abbrev pub Again : List ℕ → List Declaration → Declaration → Bool
Again u before d = binds_again (flat_map (prefixes u) before) (flat_map libraries before) (is_some_default (flat_map (defaults u) before)) u d

abbrev pub Earlier : List Declaration → Declaration → Bool
Earlier before d = list_any (λ y. bind_one y d) before

or_true : (b : Bool) → (b || true) ≡ true
or_true true = refl
or_true false = refl

-- a namespace prefix that one declaration more may bind
same_prefix : (p q w : List ℕ) (s : Table) (h rest : Bool) → (((is_some (look_up s p) || false) || false) || h) ≡ rest
    → (((is_some (cond (bytes_eq q p) (Some w) (look_up s p)) || false) || false) || h) ≡ (((((bytes_eq q p || false) || false) || false) || false) || rest)
same_prefix p q w s h rest again = step (bytes_eq q p)
  where
    step : (b : Bool) → (((is_some (cond b (Some w) (look_up s p)) || false) || false) || h) ≡ (((((b || false) || false) || false) || false) || rest)
    step true = refl
    step false = again

-- a datatype prefix that one declaration more may bind
same_type : (p q w : List ℕ) (s : Table) (rest : Bool) → ((is_some (look_up s p) || false) || false) ≡ rest
    → ((is_some (cond (bytes_eq q p) (Some w) (look_up s p)) || false) || false) ≡ ((((bytes_eq q p || false) || false) || false) || rest)
same_type p q w s rest again = step (bytes_eq q p)
  where
    step : (b : Bool) → ((is_some (cond b (Some w) (look_up s p)) || false) || false) ≡ ((((b || false) || false) || false) || rest)
    step true = refl
    step false = again

pub again_is : (u : List ℕ) (before : List Declaration) (d : Declaration) → Again u before d ≡ Earlier before d
again_is u [] (namespace_prefix p w a) = refl
again_is u [] (default_namespace None w a) = refl
again_is u [] (default_namespace (Some p) w a) = refl
again_is u [] (datatypes p w a) = refl
again_is u (namespace_prefix q v b ∷ ys) (namespace_prefix p w a) =
    same_prefix p q (bound_uri u v) (flat_map (prefixes u) ys) false _ (again_is u ys (namespace_prefix p w a))
again_is u (default_namespace None v b ∷ ys) (namespace_prefix p w a) = again_is u ys (namespace_prefix p w a)
again_is u (default_namespace (Some q) v b ∷ ys) (namespace_prefix p w a) =
    same_prefix p q (bound_uri u v) (flat_map (prefixes u) ys) false _ (again_is u ys (namespace_prefix p w a))
again_is u (datatypes q v b ∷ ys) (namespace_prefix p w a) = again_is u ys (namespace_prefix p w a)
again_is u (namespace_prefix q v b ∷ ys) (default_namespace None w a) = again_is u ys (default_namespace None w a)
again_is u (default_namespace None v b ∷ ys) (default_namespace None w a) = refl
again_is u (default_namespace (Some q) v b ∷ ys) (default_namespace None w a) = refl
again_is u (datatypes q v b ∷ ys) (default_namespace None w a) = again_is u ys (default_namespace None w a)
again_is u (namespace_prefix q v b ∷ ys) (default_namespace (Some p) w a) =
    same_prefix p q (bound_uri u v) (flat_map (prefixes u) ys) (is_some_default (flat_map (defaults u) ys)) _ (again_is u ys (default_namespace (Some p) w a))
again_is u (default_namespace None v b ∷ ys) (default_namespace (Some p) w a) = or_true _
again_is u (default_namespace (Some q) v b ∷ ys) (default_namespace (Some p) w a) =
    or_true _ ∙ sym (ap (λ (x : Bool). x || Earlier ys (default_namespace (Some p) w a)) (or_true _))
again_is u (datatypes q v b ∷ ys) (default_namespace (Some p) w a) = again_is u ys (default_namespace (Some p) w a)
again_is u (namespace_prefix q v b ∷ ys) (datatypes p w a) = again_is u ys (datatypes p w a)
again_is u (default_namespace None v b ∷ ys) (datatypes p w a) = again_is u ys (datatypes p w a)
again_is u (default_namespace (Some q) v b ∷ ys) (datatypes p w a) = again_is u ys (datatypes p w a)
again_is u (datatypes q v b ∷ ys) (datatypes p w a) = same_type p q v (flat_map libraries ys) _ (again_is u ys (datatypes p w a))

-- tables that answer alike
pub again_alike : (s t : Table) (q r : Table) (h : Bool) (u : List ℕ) (d : Declaration) → ((p : List ℕ) → look_up s p ≡ look_up q p) → ((p : List ℕ) → look_up t p ≡ look_up r p)
    → binds_again s t h u d ≡ binds_again q r h u d
again_alike s t q r h u (namespace_prefix p w a) e f = rw (e p) refl
again_alike s t q r h u (default_namespace None w a) e f = refl
again_alike s t q r h u (default_namespace (Some p) w a) e f = rw (e p) refl
again_alike s t q r h u (datatypes p w a) e f = rw (f p) refl

-- one more
pub later_more : {X : Type 0} (test : X → X → Bool) (place : X → ℕ) (before xs : List X) (x : X)
    → later_places test place before (xs ++ x ∷ []) ≡ later_places test place before xs ++ place_if (list_any (λ y. test y x) (before ++ xs)) (place x)
later_more test place before [] x = append-nil _ ∙ ap (λ bs. place_if (list_any (λ y. test y x) bs) (place x)) (sym (append-nil before))
later_more test place before (y ∷ xs) x =
    let here = place_if (list_any (λ z. test z y) before) (place y) in
    let inner = later_places test place (before ++ y ∷ []) xs in
    let last = place_if (list_any (λ z. test z x) (before ++ y ∷ xs)) (place x) in
    ap (λ ys. here ++ ys) (later_more test place (before ++ y ∷ []) xs x ∙ ap (λ bs. inner ++ place_if (list_any (λ z. test z x) bs) (place x)) (append_assoc before (y ∷ []) xs))
    ∙ sym (append_assoc here inner last)

-- what the declarations before have bound, in tables
pub record HasBound (u : List ℕ) (before : List Declaration) (namespaces types : Table) (has_default : Bool) : Type 0 where
  pub namespaces_bound : (p : List ℕ) → look_up namespaces p ≡ look_up (flat_map (prefixes u) before) p
  pub types_bound : (p : List ℕ) → look_up types p ≡ look_up (flat_map libraries before) p
  pub default_bound : has_default ≡ is_some_default (flat_map (defaults u) before)

some_default_append : (s t : List (List ℕ)) → is_some_default (s ++ t) ≡ (is_some_default s || is_some_default t)
some_default_append [] t = refl
some_default_append (x ∷ s) t = refl

one_more : {A : Type 0} (f : Declaration → List A) (before : List Declaration) (d : Declaration) → flat_map f (before ++ d ∷ []) ≡ flat_map f before ++ f d
one_more f before d = flat_map-append f before (d ∷ []) ∙ ap (λ ys. flat_map f before ++ ys) (append-nil (f d))

-- what the declarations through d have bound
bound_more : (u : List ℕ) (before : List Declaration) (d : Declaration) (s t s' t' : Table) (h h' : Bool) → HasBound u before s t h
    → ((p : List ℕ) → look_up s' p ≡ look_up (s ++ prefixes u d) p) → ((p : List ℕ) → look_up t' p ≡ look_up (t ++ libraries d) p)
    → h' ≡ (h || is_some_default (defaults u d)) → HasBound u (before ++ d ∷ []) s' t' h'
bound_more u before d s t s' t' h h' b e f g = record {
  namespaces_bound = λ p. rw (one_more (prefixes u) before d) (grown (flat_map (prefixes u) before) s s' (prefixes u d) b.namespaces_bound e p);
  types_bound = λ p. rw (one_more libraries before d) (grown (flat_map libraries before) t t' (libraries d) b.types_bound f p);
  default_bound = g ∙ ap (λ (x : Bool). x || is_some_default (defaults u d)) b.default_bound ∙ sym (some_default_append (flat_map (defaults u) before) (defaults u d))
      ∙ ap (λ xs. is_some_default xs) (sym (one_more (defaults u) before d));
}

-- whether d binds what is bound before it
pub again_known : (u : List ℕ) (before : List Declaration) (d : Declaration) (s t : Table) (h : Bool) → HasBound u before s t h
    → binds_again s t h u d ≡ list_any (λ y. bind_one y d) before
again_known u before d s t h b =
    again_alike s t (flat_map (prefixes u) before) (flat_map libraries before) h u d b.namespaces_bound b.types_bound
    ∙ ap (λ (x : Bool). binds_again (flat_map (prefixes u) before) (flat_map libraries before) x u d) b.default_bound
    ∙ again_is u before d

before_more : {D : Type 0} (v : D → Declaration) (xs : List D) (i : ℕ) (x : D) → i < length xs → x ≡ get_or xs i x
    → map v (take (i + 1) xs) ≡ map v (take i xs) ++ v x ∷ []
before_more v xs i x h is = ap (λ ys. map v ys) (take_more xs i x h ∙ ap (λ y. take i xs ++ y ∷ []) (sym is)) ∙ map-append v (take i xs) (x ∷ [])

-- one turn of the loop
pub twice_step : {D : Type 0} (v : D → Declaration) (xs : List D) (i : ℕ) (x : D) → i < length xs → x ≡ get_or xs i x
    → (u : List ℕ) (s t s' t' : Table) (h h' : Bool) (found new r : Option ℕ) (again : Bool) (at : ℕ)
    → (found ≡ least (later_bindings (map v (take i xs)))) × HasBound u (map v (take i xs)) s t h
    → again ≡ binds_again s t h u (v x) → at ≡ declaration_place (v x) → r ≡ least (place_if again at) → new ≡ lesser found r
    → ((p : List ℕ) → look_up s' p ≡ look_up (s ++ prefixes u (v x)) p) → ((p : List ℕ) → look_up t' p ≡ look_up (t ++ libraries (v x)) p)
    → h' ≡ (h || is_some_default (defaults u (v x)))
    → (new ≡ least (later_bindings (map v (take (i + 1) xs)))) × HasBound u (map v (take (i + 1) xs)) s' t' h'
twice_step v xs i x h is u s t s' t' b b' found new r again at inv ha hp hr hn e f g =
    rw (before_more v xs i x h is)
    (let before = map v (take i xs) in
    let low : new ≡ lesser found (least (place_if (list_any (λ y. bind_one y (v x)) (map v (take i xs))) (declaration_place (v x)))) =
    lowered found new r again _ at _ hn hr (ha ∙ again_known u (map v (take i xs)) (v x) s t b inv.1) hp in (
      low ∙ ap (λ (o : Option ℕ). lesser o (least (place_if (list_any (λ y. bind_one y (v x)) (map v (take i xs))) (declaration_place (v x))))) inv.0
          ∙ sym (least_append (later_bindings (map v (take i xs))) (place_if (list_any (λ y. bind_one y (v x)) (map v (take i xs))) (declaration_place (v x))))
          ∙ ap (λ ys. least ys) (sym (later_more bind_one declaration_place [] (map v (take i xs)) (v x))),
      bound_more u (map v (take i xs)) (v x) s t s' t' b b' inv.1 e f g,
    ))
