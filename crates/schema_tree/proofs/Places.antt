-- The files of a schema, and the places of each.
use Rattle.std.proofs.Common.{◌≡◌, ℕ, zero, suc, ◌+◌, ◌-◌, ◌<◌, true, false, nat_le, List, [], ◌∷◌, ◌++◌, map, length, Some, refl, sym, ap, ◌∙◌, subst, arith}
use Rattle.std.proofs.lemmas.Bool.{leb-false}
use Rattle.std.specs.Prelude.{slice_get, slice_index_or, if◌then◌else◌, Bool}
use Rattle.grammar_laws.specs.Files.{SchemaFile}
use Rattle.schema_tree.specs.declared.files.Entry.{Entry}
use Rattle.schema_tree.specs.Files.{places_of, number_at, base_of, file_of, AreWithin, AreFilesWithin, AreBased}
use Rattle.schema_tree.specs.Trees.{declaration_of}

-- the places of all entries end where their bases do
pub based_places : (es : List Entry) (n m : ℕ) → AreBased n m es → m ≡ n + places_of (map file_of es)
based_places [] n m h = omega arith
based_places (e ∷ es) n m ((h, v), hs) =
    let r : m ≡ n + suc e.length + places_of (map file_of es) = based_places es (n + suc e.length) m hs in omega arith

-- and their declarations stand in them
pub based_within : (es : List Entry) (n m : ℕ) → AreBased n m es → AreFilesWithin (map file_of es)
based_within [] n m h = tt
based_within (e ∷ es) n m ((h, v), hs) = (v, based_within es (n + suc e.length) m hs)

based_more : (es : List Entry) (e : Entry) (n m : ℕ) → AreBased n m es → e.base ≡ m → AreWithin e.length (map declaration_of e.declarations) → AreBased n (m + suc e.length) (es ++ e ∷ [])
based_more [] e n m h same v = ((same ∙ h, v), ap (λ k. k + suc e.length) h)
based_more (d ∷ es) e n m (h, hs) same v = (h, based_more es e (n + suc d.length) m hs same v)

pub based_pushed : (es : List Entry) (e : Entry) (m : ℕ) → AreBased 0 m es → e.base ≡ m → AreWithin e.length (map declaration_of e.declarations) → {fs : List Entry} → fs ≡ es ++ e ∷ [] → AreBased 0 (m + e.length + 1) fs
based_pushed es e m h same v {fs = fs} made =
    let k : m + suc e.length ≡ m + e.length + 1 = omega arith in
    subst (AreBased 0 (m + e.length + 1)) (sym made) (subst (λ j. AreBased 0 j (es ++ e ∷ [])) k (based_more es e 0 m h same v))

based_at : (es : List Entry) (e : Entry) (n m k : ℕ) → AreBased n m es → slice_get es k ≡ Some e → e.base ≡ n + base_of (map file_of es) k
based_at [] e n m k h got = cc
based_at (d ∷ es) e n m zero ((h, v), hs) got = let s : d ≡ e = cc in omega (ap (λ x. x.base) s, arith)
based_at (d ∷ es) e n m (suc k) (h, hs) got =
    let r : e.base ≡ n + suc d.length + base_of (map file_of es) k = based_at es e (n + suc d.length) m k hs got in omega arith

-- the entry that stands at an index
entry_at : (es : List Entry) (k : ℕ) (e : Entry) → k < length (map file_of es) → e ≡ slice_index_or es k e → slice_get es k ≡ Some e
entry_at [] k e h same = absurd (omega (arith, h))
entry_at (d ∷ es) zero e h same = ap (λ z. Some z) (sym same)
entry_at (d ∷ es) (suc k) e h same = let t : k < length (map file_of es) = omega (arith, h) in entry_at es k e t same

pub based_here : (es : List Entry) (e : Entry) (n m k : ℕ) → AreBased n m es → k < length (map file_of es) → e ≡ slice_index_or es k e → e.base ≡ n + base_of (map file_of es) k
based_here es e n m k h less same = based_at es e n m k h (entry_at es k e less same)

pub number_within : (fs : List SchemaFile) (at : ℕ) → at < places_of fs → number_at fs at < length fs
number_within [] at h = absurd (omega (arith, h))
number_within (f ∷ fs) at h = go (nat_le at f.length) refl (number_within fs (at - suc f.length))
  where
    go : (b : Bool) → nat_le at f.length ≡ b → (at - suc f.length < places_of fs → number_at fs (at - suc f.length) < length fs) →
        (if b then 0 else suc (number_at fs (at - suc f.length))) < suc (length fs)
    go true e more = omega arith
    go false e more =
        let over : f.length < at = leb-false at f.length e in
        let r : number_at fs (at - suc f.length) < length fs = more (omega (arith, h, over)) in omega (arith, r)

-- a file whose places end before the place is passed
pub number_behind : (f : SchemaFile) (fs : List SchemaFile) (at : ℕ) → nat_le at f.length ≡ false → number_at (f ∷ fs) at ≡ suc (number_at fs (at - suc f.length))
number_behind f fs at e = ap (λ b. if b then 0 else suc (number_at fs (at - suc f.length))) e

pub number_here : (f : SchemaFile) (fs : List SchemaFile) (at : ℕ) → nat_le at f.length ≡ true → number_at (f ∷ fs) at ≡ 0
number_here f fs at e = ap (λ b. if b then 0 else suc (number_at fs (at - suc f.length))) e

pub only_one : (es rest : List Entry) (e : Entry) → es ≡ rest ++ e ∷ [] → length (map file_of es) ≡ 1 → slice_get (map file_of es) 0 ≡ Some (file_of e)
only_one es [] e same one = ap (λ z. slice_get (map file_of z) 0) same
only_one es (d ∷ ds) e same one = absurd (two d ds e (sym (ap (λ z. length (map file_of z)) same) ∙ one))
  where
    two : (d : Entry) (ds : List Entry) (e : Entry) → length (map file_of (d ∷ (ds ++ e ∷ []))) ≡ 1 → ⊥
    two d [] e h = omega (arith, h)
    two d (c ∷ cs) e h = omega (arith, h)
