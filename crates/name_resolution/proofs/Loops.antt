-- Loops over the declarations of a file.
use Rattle.std.proofs.Common.{◌≡◌, ℕ, suc, ◌+◌, ◌<◌, ◌≤◌, List, [], ◌∷◌, ◌++◌, length, take, drop, get_or, map, Option, refl, ap, sym, ◌∙◌, append-nil, drop-cons}
use Rattle.std.specs.Prelude.{flat_map}
use Rattle.std.proofs.lemmas.List.{take_more, take_all, take-append-drop}
use Rattle.std.proofs.lemmas.Grind.{flat_map-append}
use Rattle.std.proofs.lemmas.List.Folds.{flat_map-map}
use Rattle.simple_form_laws.specs.Prefixes.{Table, look_up, first_or}
use Rattle.name_resolution.specs.Least.{least, lesser}
use Rattle.name_resolution.proofs.Tables.{grown}
use Rattle.name_resolution.proofs.LeastPlaces.{least_append}

pub flat_map_more : {D A : Type 0} (f : D → List A) (xs : List D) (i : ℕ) (x : D) → i < length xs → x ≡ get_or xs i x
    → flat_map f (take (i + 1) xs) ≡ flat_map f (take i xs) ++ f x
flat_map_more f xs i x h is =
    let at : take (i + 1) xs ≡ take i xs ++ x ∷ [] = take_more xs i x h ∙ ap (λ y. take i xs ++ y ∷ []) (sym is) in
    rw at (flat_map-append f (take i xs) (x ∷ []) ∙ ap (λ ys. flat_map f (take i xs) ++ ys) (append-nil (f x)))

-- one declaration more
pub more_bindings : {D : Type 0} (g : D → Table) (start : List ℕ × List ℕ) (t new b : Table) (xs : List D) (i : ℕ) (x : D) → i < length xs → x ≡ get_or xs i x
    → ((p : List ℕ) → look_up t p ≡ look_up (start ∷ flat_map g (take i xs)) p)
    → ((p : List ℕ) → look_up new p ≡ look_up (t ++ b) p)
    → b ≡ g x
    → (p : List ℕ) → look_up new p ≡ look_up (start ∷ flat_map g (take (i + 1) xs)) p
more_bindings g start t new b xs i x h is same more e p =
    rw (flat_map_more g xs i x h is) (rw e at (grown (start ∷ flat_map g (take i xs)) t new b same more p))

-- all declarations
pub all_bindings : {D E : Type 0} (g : E → Table) (v : D → E) (start : List ℕ × List ℕ) (t : Table) (xs : List D) (i : ℕ) → length xs ≤ i
    → ((p : List ℕ) → look_up t p ≡ look_up (start ∷ flat_map (λ d. g (v d)) (take i xs)) p)
    → (p : List ℕ) → look_up t p ≡ look_up (start ∷ flat_map g (map v xs)) p
all_bindings g v start t xs i h same p = rw (flat_map-map g v xs) (rw (take_all i xs h) at (same p))

-- the first that a declaration gives, where none before it does
pub first_found : {D E : Type 0} (g : E → List (List ℕ)) (v : D → E) (u w : List ℕ) (xs : List D) (i : ℕ) (x : D) → i < length xs → x ≡ get_or xs i x
    → flat_map (λ d. g (v d)) (take i xs) ≡ [] → w ∷ [] ≡ g (v x) → w ≡ first_or u (flat_map g (map v xs))
first_found g v u w xs i x h is none here =
    let split : xs ≡ take i xs ++ (x ∷ drop (suc i) xs) = sym (take-append-drop i xs) ∙ ap (λ ys. take i xs ++ ys) (drop-cons xs i x h ∙ ap (λ y. y ∷ drop (suc i) xs) (sym is)) in
    let parts : flat_map (λ d. g (v d)) xs ≡ flat_map (λ d. g (v d)) (take i xs) ++ (g (v x) ++ flat_map (λ d. g (v d)) (drop (suc i) xs)) =
    ap (λ ys. flat_map (λ d. g (v d)) ys) split ∙ flat_map-append (λ d. g (v d)) (take i xs) (x ∷ drop (suc i) xs) in
    rw (flat_map-map g v xs) (rw parts (rw none (rw (← here) refl)))

-- no declaration gives one
pub none_found : {D E : Type 0} (g : E → List (List ℕ)) (v : D → E) (u : List ℕ) (xs : List D) (i : ℕ) → length xs ≤ i
    → flat_map (λ d. g (v d)) (take i xs) ≡ [] → u ≡ first_or u (flat_map g (map v xs))
none_found g v u xs i h none = rw (flat_map-map g v xs) (let e = rw (take_all i xs h) at none in rw e refl)

-- the least place of one more
pub least_more : {D : Type 0} (f : D → List ℕ) (xs : List D) (i : ℕ) (x : D) (found new : Option ℕ) → i < length xs → x ≡ get_or xs i x
    → found ≡ least (flat_map f (take i xs)) → new ≡ lesser found (least (f x)) → new ≡ least (flat_map f (take (i + 1) xs))
least_more f xs i x found new h is e n =
    rw (flat_map_more f xs i x h is) (n ∙ (rw e (sym (least_append (flat_map f (take i xs)) (f x)))))

-- the least place of all
pub least_all : {D E : Type 0} (g : E → List ℕ) (v : D → E) (xs : List D) (i : ℕ) (found : Option ℕ) → length xs ≤ i
    → found ≡ least (flat_map (λ d. g (v d)) (take i xs)) → found ≡ least (flat_map g (map v xs))
least_all g v xs i found h e = rw (flat_map-map g v xs) (rw (take_all i xs h) at e)
