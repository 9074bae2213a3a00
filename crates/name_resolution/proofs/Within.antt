-- The places of a file's faults stand in the file.
use Rattle.std.proofs.Common.{◌≡◌, ℕ, ◌+◌, ◌^◌, ◌<◌, ◌≤◌, Bool, true, false, List, [], ◌∷◌, ◌++◌, Option, Some, None, ap, ◌∙◌, arith}
use Rattle.std.specs.Prelude.{All, IfSome}
use Rattle.std.specs.List.{list_any}
use Rattle.std.proofs.lemmas.List.Elements.{All-head, All-tail}
use Rattle.rng_model.specs.Texts.{Text}
use Rattle.grammar_laws.specs.Trees.{Declaration}
use Rattle.simple_form_laws.specs.Faults.{bind_one, declaration_place, later_places, place_if}
use Rattle.name_resolution.specs.Least.{least, lesser}
use Rattle.name_resolution.specs.Places.{reserved_place, reserved_places, later_bindings}
use Rattle.name_resolution.proofs.LeastPlaces.{least_append}

-- the place is at most n, where there is one
abbrev pub UpTo : ℕ → Option ℕ → Type 0
UpTo n o = IfSome o (λ a. a ≤ n)

up_to_lesser : (n : ℕ) (o p : Option ℕ) → UpTo n o → UpTo n p → UpTo n (lesser o p)
up_to_lesser n None p h i = i
up_to_lesser n (Some a) None h i = h
up_to_lesser n (Some a) (Some b) h i = omega arith

up_to_if : (n : ℕ) (b : Bool) (at : ℕ) → at ≤ n → UpTo n (least (place_if b at))
up_to_if n true at h = h
up_to_if n false at h = tt

up_to_both : (n : ℕ) (xs ys : List ℕ) → UpTo n (least xs) → UpTo n (least ys) → UpTo n (least (xs ++ ys))
up_to_both n xs ys h i = rw (least_append xs ys) (up_to_lesser n (least xs) (least ys) h i)

pub reserved_within : (u : Text) (n : ℕ) (ds : List Declaration) → All (λ d. declaration_place d ≤ n) ds → UpTo n (least (reserved_places u ds))
reserved_within u n [] h = tt
reserved_within u n (d ∷ ds) h =
    up_to_both n (reserved_place u d) (reserved_places u ds) (up_to_if n _ (declaration_place d) (All-head (λ x. declaration_place x ≤ n) d ds h))
    (reserved_within u n ds (All-tail (λ x. declaration_place x ≤ n) d ds h))

later_within : (n : ℕ) (before ds : List Declaration) → All (λ d. declaration_place d ≤ n) ds → UpTo n (least (later_places bind_one declaration_place before ds))
later_within n before [] h = tt
later_within n before (d ∷ ds) h =
    up_to_both n (place_if (list_any (λ y. bind_one y d) before) (declaration_place d)) (later_places bind_one declaration_place (before ++ d ∷ []) ds)
    (up_to_if n _ (declaration_place d) (All-head (λ x. declaration_place x ≤ n) d ds h))
    (later_within n (before ++ d ∷ []) ds (All-tail (λ x. declaration_place x ≤ n) d ds h))

pub twice_within : (n : ℕ) (ds : List Declaration) → All (λ d. declaration_place d ≤ n) ds → UpTo n (least (later_bindings ds))
twice_within n ds h = later_within n [] ds h

-- based where it fits
pub fits_based : (n b : ℕ) (o : Option ℕ) → UpTo n o → b + n < 2 ^ 64 → IfSome o (λ a. b + a < 2 ^ 64)
fits_based n b None h i = tt
fits_based n b (Some a) h i = omega arith

-- a fault of one declaration more
pub lowered : (found new r : Option ℕ) (b e : Bool) (p q : ℕ) → new ≡ lesser found r → r ≡ least (place_if b p) → b ≡ e → p ≡ q → new ≡ lesser found (least (place_if e q))
lowered found new r b e p q h i j k = h ∙ ap (λ (o : Option ℕ). lesser found o) (i ∙ ap (λ (c : Bool). least (place_if c p)) j ∙ ap (λ (a : ℕ). least (place_if e a)) k)
