-- The files of a tree, one after the other.
use Rattle.std.proofs.Common.{◌≡◌, ℕ, zero, suc, ◌+◌, ◌≤◌, ◌<◌, ◌^◌, List, [], ◌∷◌, ◌++◌, length, take, refl, ap, sym, ◌∙◌, subst, arith}
use Rattle.std.specs.Prelude.{Some, slice_get, slice_index_or, All, Result, Ok, Err, OnOk}
use Rattle.rng_model.specs.Texts.{Text}
use Rattle.grammar_laws.specs.Trees.{Declaration, namespace_prefix, default_namespace, datatypes}
use Rattle.grammar_laws.specs.Files.{SchemaFile}
use Rattle.simple_form_laws.specs.Faults.{declaration_place}
use Rattle.schema_tree.specs.Files.{AtFile, AreWithin, AreFilesWithin, IsWithin}
use Rattle.name_resolution.specs.Places.{places_of}
use Rattle.name_resolution.proofs.Sums.{places_append}

-- a file by what its tree says of it
pub file_is : (fs : List SchemaFile) (k : ℕ) (name : Text) (n : ℕ) (inherited : Text) (ds : List Declaration) →
    AtFile fs k (λ f. f.name ≡ name) → AtFile fs k (λ f. f.length ≡ n) → AtFile fs k (λ f. f.inherited ≡ inherited) → AtFile fs k (λ f. f.declarations ≡ ds) →
    slice_get fs k ≡ Some (record { name = name; length = n; inherited = inherited; declarations = ds })
file_is fs k name n inherited ds (f, is, a) (g, gis, b) (h, his, c) (i, iis, d) =
    is ∙ ap (λ (x : SchemaFile). Some x) (λ j. record { name = a j; length = (same g gis b) j; inherited = (same_inherited h his c) j; declarations = (same_declarations i iis d) j })
  where
    same : (g : SchemaFile) → slice_get fs k ≡ Some g → g.length ≡ n → f.length ≡ n
    same g gis b = let e : Some f ≡ Some g = sym is ∙ gis in let s : f ≡ g = cc in ap (λ (x : SchemaFile). x.length) s ∙ b

    same_inherited : (g : SchemaFile) → slice_get fs k ≡ Some g → g.inherited ≡ inherited → f.inherited ≡ inherited
    same_inherited g gis b = let e : Some f ≡ Some g = sym is ∙ gis in let s : f ≡ g = cc in ap (λ (x : SchemaFile). x.inherited) s ∙ b

    same_declarations : (g : SchemaFile) → slice_get fs k ≡ Some g → g.declarations ≡ ds → f.declarations ≡ ds
    same_declarations g gis b = let e : Some f ≡ Some g = sym is ∙ gis in let s : f ≡ g = cc in ap (λ (x : SchemaFile). x.declarations) s ∙ b

-- the next file comes last
pub take_next : (fs : List SchemaFile) (k : ℕ) (f : SchemaFile) → slice_get fs k ≡ Some f → take (suc k) fs ≡ take k fs ++ f ∷ []
take_next [] k f e = cc
take_next (g ∷ fs) zero f e = let s : g ≡ f = cc in ap (λ x. x ∷ []) s
take_next (g ∷ fs) (suc k) f e = ap (λ gs. g ∷ gs) (take_next fs k f e)

-- the first files have no more places than all
front_places : (fs : List SchemaFile) (k : ℕ) → places_of (take k fs) ≤ places_of fs
front_places [] zero = omega arith
front_places [] (suc k) = omega arith
front_places (f ∷ fs) zero = omega arith
front_places (f ∷ fs) (suc k) = let r = front_places fs k in omega (arith, r)

pub next_fits : (fs : List SchemaFile) (k : ℕ) (f : SchemaFile) → slice_get fs k ≡ Some f → places_of fs < 2 ^ 64 → places_of (take k fs) + suc f.length < 2 ^ 64
next_fits fs k f e fits =
    let sum : places_of (take (suc k) fs) ≡ places_of (take k fs) + places_of (f ∷ []) = ap places_of (take_next fs k f e) ∙ places_append (take k fs) (f ∷ []) in
    let front = front_places fs (suc k) in
    omega (arith, sum, front, fits)

pub within_file : (fs : List SchemaFile) (k : ℕ) (f : SchemaFile) → slice_get fs k ≡ Some f → AreFilesWithin fs → AreWithin f.length f.declarations
within_file [] k f e h = cc
within_file (g ∷ fs) zero f e h = let s : g ≡ f = cc in subst (λ (x : SchemaFile). AreWithin x.length x.declarations) s h.0
within_file (g ∷ fs) (suc k) f e h = within_file fs k f e h.1

place_within : (n : ℕ) (d : Declaration) → IsWithin n d → declaration_place d ≤ n
place_within n (namespace_prefix p u at) h = h.0
place_within n (default_namespace p u at) h = h.0
place_within n (datatypes p t at) h = h

pub all_within : (n : ℕ) (ds : List Declaration) → AreWithin n ds → (k : ℕ) (other : Declaration) → k < length ds → declaration_place (slice_index_or ds k other) ≤ n
all_within n [] h k other less = absurd (omega (arith, less))
all_within n (d ∷ ds) h zero other less = place_within n d h.0
all_within n (d ∷ ds) h (suc k) other less = all_within n ds h.1 k other (omega (arith, less))

-- what was pushed is the next file
pub pushed : {T E : Type 0} (r : Result T E) (new old more : List SchemaFile) → old ≡ more → OnOk r (new ≡ old) → OnOk r (new ≡ more)
pushed (Ok x) new old more same h = h ∙ same
pushed (Err e) new old more same h = tt
