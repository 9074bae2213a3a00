-- The places of files.
use Rattle.std.proofs.Common.{◌≡◌, ℕ, suc, ◌+◌, ◌<◌, List, [], ◌∷◌, ◌++◌, length, drop, get_or, refl, ap, sym, ◌∙◌, arith, drop-cons, ◌^◌}
use Rattle.grammar_laws.specs.Files.{SchemaFile}
use Rattle.name_resolution.specs.Places.{places_of}
use Rattle.grammar_laws.specs.Trees.{Declaration}
use Rattle.simple_form_laws.specs.Faults.{in_files}
use Rattle.std.proofs.Common.{option_map, Option, Some, None}
use Rattle.std.specs.Prelude.{IfSome}
use Rattle.name_resolution.proofs.Within.{UpTo, fits_based}
use Rattle.name_resolution.specs.Least.{least, lesser}
use Rattle.name_resolution.proofs.LeastPlaces.{least_append, lesser_assoc}

pub places_append : (fs gs : List SchemaFile) → places_of (fs ++ gs) ≡ places_of fs + places_of gs
places_append [] gs = omega arith
places_append (f ∷ fs) gs = let e = places_append fs gs in omega (arith, e)

-- the places, counted from b on
abbrev shifted : ℕ → List ℕ → List ℕ
shifted b [] = []
shifted b (x ∷ xs) = (b + x) ∷ shifted b xs

shift_lesser : (b : ℕ) (o p : Option ℕ) → lesser (option_map (λ (a : ℕ). b + a) o) (option_map (λ (a : ℕ). b + a) p) ≡ option_map (λ (a : ℕ). b + a) (lesser o p)
shift_lesser b None p = refl
shift_lesser b (Some x) None = refl
shift_lesser b (Some x) (Some y) = ap (λ (n : ℕ). Some n) (omega arith)

least_shifted : (b : ℕ) (xs : List ℕ) → least (shifted b xs) ≡ option_map (λ (a : ℕ). b + a) (least xs)
least_shifted b [] = refl
least_shifted b (x ∷ xs) = rw (least_shifted b xs) (shift_lesser b (Some x) (least xs))

-- the least place of files, the first of which begins at b
pub in_files_more : (faults : SchemaFile → List Declaration → List ℕ) (b : ℕ) (f : SchemaFile) (fs : List SchemaFile)
    → least (in_files faults b (f ∷ fs)) ≡ lesser (option_map (λ (a : ℕ). b + a) (least (faults f f.declarations))) (least (in_files faults (b + suc f.length) fs))
in_files_more faults b f fs =
    least_append (shifted b (faults f f.declarations)) (in_files faults (b + suc f.length) fs)
    ∙ ap (λ (o : Option ℕ). lesser o (least (in_files faults (b + suc f.length) fs))) (least_shifted b (faults f f.declarations))

here : (files : List SchemaFile) (i : ℕ) (f : SchemaFile) → i < length files → f ≡ get_or files i f → drop i files ≡ f ∷ drop (suc i) files
here files i f h is = drop-cons files i f h ∙ ap (λ y. y ∷ drop (suc i) files) (sym is)

-- one file more
pub file_step : (faults : SchemaFile → List Declaration → List ℕ) (files : List SchemaFile) (i b n : ℕ) (f : SchemaFile) (found new at all : Option ℕ) (total : ℕ)
    → i < length files → f ≡ get_or files i f
    → (lesser found (least (in_files faults b (drop i files))) ≡ all) × (b + places_of (drop i files) ≡ total)
    → at ≡ option_map (λ (a : ℕ). b + a) (least (faults f f.declarations)) → new ≡ lesser found at → n ≡ f.length
    → (lesser new (least (in_files faults (b + (n + 1)) (drop (i + 1) files))) ≡ all) × (b + (n + 1) + places_of (drop (i + 1) files) ≡ total)
file_step faults files i b n f found new at all total h is inv ha hn k =
    let e : drop i files ≡ f ∷ drop (suc i) files = here files i f h is in
    let p : b + (n + 1) ≡ b + suc f.length = omega (arith, k) in
    let q : i + 1 ≡ suc i = omega arith in
    let low : lesser found (lesser (option_map (λ (a : ℕ). b + a) (least (faults f f.declarations))) (least (in_files faults (b + suc f.length) (drop (suc i) files)))) ≡ all =
    ap (λ (o : Option ℕ). lesser found o) (sym (in_files_more faults b f (drop (suc i) files))) ∙ ap (λ fs. lesser found (least (in_files faults b fs))) (sym e) ∙ inv.0 in
    let sum : b + places_of (f ∷ drop (suc i) files) ≡ total = ap (λ fs. b + places_of fs) (sym e) ∙ inv.1 in
    rw q (rw p (
      ap (λ (o : Option ℕ). lesser o (least (in_files faults (b + suc f.length) (drop (suc i) files)))) (hn ∙ ap (λ (o : Option ℕ). lesser found o) ha)
          ∙ lesser_assoc found _ _ ∙ low,
      omega (arith, sum),
    ))

-- a place of the file at which the loop is fits, counted through all files
pub fits_step : (files : List SchemaFile) (i b : ℕ) (f : SchemaFile) (at : Option ℕ) (total : ℕ) → i < length files → f ≡ get_or files i f
    → b + places_of (drop i files) ≡ total → total < 2 ^ 64 → UpTo f.length at → IfSome at (λ a. b + a < 2 ^ 64)
fits_step files i b f at total h is sum small within =
    let s : b + places_of (f ∷ drop (suc i) files) ≡ total = ap (λ fs. b + places_of fs) (sym (here files i f h is)) ∙ sum in
    fits_based f.length b at within (omega (arith, s))
