-- Walks along the files and their declarations.
use Rattle.std.proofs.Common.{◌≡◌, ℕ, suc, ◌+◌, ◌<◌, ◌^◌, inl, inr, Bool, true, false, ◌&&◌, List, ◌∷◌, map, Option, sym, ap, ◌∙◌, subst, arith}
use Rattle.rng_model.specs.Texts.{Text}
use Rattle.std.specs.Str.{bytes_eq}
use Rattle.std.proofs.lemmas.Slice.Eq.{bytes_eq-Decides}
use Rattle.std.proofs.lemmas.Bool.{and_from, true≢false}
use Rattle.grammar_laws.specs.Trees.{Declaration, namespace_prefix, default_namespace, datatypes}
use Rattle.schema_tree.specs.declared.features.Feature.{Feature}
use Rattle.schema_tree.specs.declared.files.Entry.{Entry}
use Rattle.schema_tree.specs.Features.{InFiles, InDeclarations, Binds, IsForeign, is_foreign, binds_foreign}
use Rattle.schema_tree.specs.Files.{file_of, AreBased}
use Rattle.schema_tree.specs.Trees.{declaration_of}
use Rattle.schema_tree.specs.Least.{IsLeast, IsEarlier}
use Rattle.schema_tree.proofs.Leasts.{Gathered, gather_more}
use Rattle.schema_tree.proofs.Places.{based_places}

-- some of the files are passed
abbrev pub FilesAt : Bool → List Entry → List Entry → Option (Feature × ℕ) → Type 0
FilesAt w all rest found = (n : ℕ) × (m : ℕ) × (m < 2 ^ 64) × AreBased n m rest × Gathered w (InFiles 0 (map file_of all)) (InFiles n (map file_of rest)) found

-- one of the declarations binds the prefix to a library whose type of the name isn't taken
abbrev pub BindsForeign : List Declaration → Text → Text → Type 0
BindsForeign ds p n = (l : Text) × Binds ds p l × (is_foreign l n ≡ true)

-- only the declarations that are left decide
abbrev pub Decides : List Declaration → List Declaration → Text → Text → Type 0
Decides all rest p n = (IsForeign all p n → BindsForeign rest p n) × (BindsForeign rest p n → IsForeign all p n)

-- the places of the next file are in the machine's numbers
pub files_fit : {w : Bool} {found : Option (Feature × ℕ)} (all : List Entry) {rest others : List Entry} (first : Entry) → FilesAt w all rest found → rest ≡ first ∷ others → first.base + first.length < 2 ^ 64
files_fit {w = w} {found = found} all {rest = rest} {others = others} first here e = go (subst (λ z. FilesAt w all z found) e here)
  where
    go : FilesAt w all (first ∷ others) found → first.base + first.length < 2 ^ 64
    go (n, m, less, ((at, within), hs), g) =
        let r = based_places others (n + suc first.length) m hs in
        omega (arith, less, at, r)

-- the features of one more file
pub files_on : (w : Bool) (all : List Entry) (first : Entry) (others : List Entry) (found here next : Option (Feature × ℕ)) → FilesAt w all (first ∷ others) found →
    IsLeast w (InDeclarations first.base (map declaration_of first.declarations)) here → IsEarlier found here next → FilesAt w all others next
files_on w all first others found here next (n, m, less, ((at, within), hs), g) h e =
    let least : IsLeast w (InDeclarations n (map declaration_of first.declarations)) here = rw at at h in
    (n + suc first.length, m, less, hs, gather_more w (InFiles 0 (map file_of all)) (InDeclarations n (map declaration_of first.declarations)) (InFiles (n + suc first.length) (map file_of others)) found here next g least e)

-- a declaration that binds nothing of the kind is passed
same_text : (q p : Text) → q ≡ p → bytes_eq q p ≡ true
same_text q p e = (bytes_eq-Decides q p).1 e

not_bound : (q m : Text) (p n l : Text) → (q ≡ p) × (m ≡ l) → is_foreign l n ≡ true → (bytes_eq q p && is_foreign m n) ≡ true
not_bound q m p n l (e, f) h = and_from (bytes_eq q p) (is_foreign m n) (same_text q p e) (ap (λ z. is_foreign z n) f ∙ h)

less_bound : (d : Declaration) (ds : List Declaration) (p n : Text) → binds_foreign d p n ≡ false → BindsForeign (d ∷ ds) p n → BindsForeign ds p n
less_bound (namespace_prefix q u a) ds p n e b = b
less_bound (default_namespace q u a) ds p n e b = b
less_bound (datatypes q m a) ds p n e (l, inl here, h) = absurd (true≢false (sym (not_bound q m p n l here h) ∙ e))
less_bound (datatypes q m a) ds p n e (l, inr b, h) = (l, b, h)

more_bound : (d : Declaration) (ds : List Declaration) (p n : Text) → BindsForeign ds p n → BindsForeign (d ∷ ds) p n
more_bound (namespace_prefix q u a) ds p n b = b
more_bound (default_namespace q u a) ds p n b = b
more_bound (datatypes q m a) ds p n (l, b, h) = (l, inr b, h)

pub decides_on : (all : List Declaration) {rest : List Declaration} (d : Declaration) (ds : List Declaration) (p n : Text) → Decides all rest p n → rest ≡ d ∷ ds → binds_foreign d p n ≡ false → Decides all ds p n
decides_on all d ds p n here same e = go (subst (λ z. Decides all z p n) same here)
  where
    go : Decides all (d ∷ ds) p n → Decides all ds p n
    go (f, g) = (λ x. less_bound d ds p n e (f x), λ x. g (more_bound d ds p n x))
