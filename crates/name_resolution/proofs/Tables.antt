-- The entries of a map as a table.
use Rattle.std.proofs.Common.{◌≡◌, ℕ, Bool, true, false, cond, List, [], ◌∷◌, ◌++◌, Option, Some, None, option_map, map, is_some, if◌then◌else◌, nat_eq, refl, ap, sym, ◌∙◌, arith, Bor}
use Rattle.std.specs.Str.{bytes_eq}
use Rattle.std.specs.Map.{lookup}
use Rattle.std.specs.Cmp.Lexicographic.{pointwise}
use Rattle.indexmap.specs.IndexMap.{insert_entry}
use Rattle.std.proofs.lemmas.Slice.Eq.{bytes_eq-Decides}
use Rattle.simple_form_laws.specs.Prefixes.{Table, look_up}

abbrev pub Entry : Type 0
Entry = Bor (List ℕ) × Bor (List ℕ)

abbrev pub pair : Entry → List ℕ × List ℕ
pair e = (e.0.now, e.1.now)

pub bytes_eq-sym : (a b : List ℕ) → bytes_eq a b ≡ bytes_eq b a
bytes_eq-sym a b = grind (arith, bytes_eq-Decides)

pub look_up_entries : (q : List ℕ) (es : List Entry) → look_up (map pair es) q ≡ option_map (λ (u : Bor (List ℕ)). u.now) (lookup (λ (k : Bor (List ℕ)). bytes_eq q k.now) es)
look_up_entries q [] = refl
look_up_entries q (e ∷ es) = rw (bytes_eq-sym e.0.now q) (elim (bytes_eq q e.0.now) as (λ b. cond b (Some e.1.now) (look_up (map pair es) q) ≡ option_map (λ (u : Bor (List ℕ)). u.now) (cond b (Some e.1) (lookup (λ (k : Bor (List ℕ)). bytes_eq q k.now) es))) [ true ↦ refl | false ↦ look_up_entries q es ])

-- a key that isn't there goes last
pub pairs_with : (k v : Bor (List ℕ)) (es : List Entry) → look_up (map pair es) k.now ≡ None
    → map pair (insert_entry (λ (x y : Bor (List ℕ)). pointwise nat_eq x.now y.now) es k v) ≡ map pair es ++ (k.now, v.now) ∷ []
pairs_with k v [] h = refl
pairs_with k v (e ∷ es) h = step (pairs_with k v es) (bytes_eq e.0.now k.now) (bytes_eq-sym k.now e.0.now) h
  where
    step : (look_up (map pair es) k.now ≡ None → map pair (insert_entry (λ (x y : Bor (List ℕ)). pointwise nat_eq x.now y.now) es k v) ≡ map pair es ++ (k.now, v.now) ∷ [])
        → (b : Bool) → bytes_eq k.now e.0.now ≡ b → cond b (Some e.1.now) (look_up (map pair es) k.now) ≡ None
        → map pair (insert_entry (λ (x y : Bor (List ℕ)). pointwise nat_eq x.now y.now) (e ∷ es) k v) ≡ (e.0.now, e.1.now) ∷ (map pair es ++ (k.now, v.now) ∷ [])
    step again true p g = cc
    step again false p g = rw p (ap (λ (xs : List (List ℕ × List ℕ)). (e.0.now, e.1.now) ∷ xs) (again g))

-- the first that there is
abbrev pub or_else : Option (List ℕ) → Option (List ℕ) → Option (List ℕ)
or_else None o = o
or_else (Some u) o = Some u

pub look_up_append : (s t : Table) (p : List ℕ) → look_up (s ++ t) p ≡ or_else (look_up s p) (look_up t p)
look_up_append [] t p = refl
look_up_append (b ∷ s) t p = step (look_up_append s t p) (bytes_eq b.0 p)
  where
    step : look_up (s ++ t) p ≡ or_else (look_up s p) (look_up t p) → (e : Bool) → cond e (Some b.1) (look_up (s ++ t) p) ≡ or_else (cond e (Some b.1) (look_up s p)) (look_up t p)
    step again true = refl
    step again false = again

-- a table that answers as s does, with more bindings
pub grown : (s t new b : Table) → ((p : List ℕ) → look_up t p ≡ look_up s p) → ((p : List ℕ) → look_up new p ≡ look_up (t ++ b) p)
    → (p : List ℕ) → look_up new p ≡ look_up (s ++ b) p
grown s t new b same more p = more p ∙ (rw (look_up_append, same) (sym (look_up_append s b p)))

some_first : (o q : Option (List ℕ)) → is_some o ≡ true → o ≡ or_else o q
some_first None q h = absurd (cc)
some_first (Some u) q h = refl

none_behind : (o : Option (List ℕ)) → o ≡ or_else o None
none_behind None = refl
none_behind (Some v) = refl

-- a binding that is left out since its prefix is bound
pub bound_before : (t : Table) (k u : List ℕ) → is_some (look_up t k) ≡ true → (p : List ℕ) → look_up t p ≡ look_up (t ++ (k, u) ∷ []) p
bound_before t k u h p = rw look_up_append (step (bytes_eq k p) refl)
  where
    step : (e : Bool) → bytes_eq k p ≡ e → look_up t p ≡ or_else (look_up t p) (cond e (Some u) None)
    step true same = let e : k ≡ p = grind (arith, bytes_eq-Decides) in some_first (look_up t p) (Some u) (rw e at h)
    step false other = none_behind (look_up t p)

-- a table with one binding more, where its prefix isn't bound before
pub bound_first : (t : Table) (k u : List ℕ) (p : List ℕ) → look_up (if is_some (look_up t k) then t else t ++ (k, u) ∷ []) p ≡ look_up (t ++ (k, u) ∷ []) p
bound_first t k u p = step (is_some (look_up t k)) refl
  where
    step : (e : Bool) → is_some (look_up t k) ≡ e → look_up (if e then t else t ++ (k, u) ∷ []) p ≡ look_up (t ++ (k, u) ∷ []) p
    step true h = bound_before t k u h p
    step false h = refl
