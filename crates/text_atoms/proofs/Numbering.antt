-- Groups that are numbered by their first members.
use Rattle.std.proofs.Common.{◌≡◌, ℕ, zero, suc, ◌+◌, ◌<◌, ◌≤◌, ◌⊎◌, inl, inr, List, [], ◌∷◌, ◌++◌, length, max, refl, ap, arith, get_or}
use Rattle.rng_model.specs.Alike.{AreNumbered, group_count}

lesser_or_same : (a b : ℕ) → a ≤ b → (a < b) ⊎ (a ≡ b)
lesser_or_same zero zero h = inr refl
lesser_or_same zero (suc b) h = inl (omega arith)
lesser_or_same (suc a) zero h = absurd (omega arith)
lesser_or_same (suc a) (suc b) h = elim (lesser_or_same a b (omega arith)) [ inl l ↦ inl (omega arith) | inr e ↦ inr (ap suc e) ]

-- there are at most as many groups as positions
pub count_bound : (next : ℕ) (ks : List ℕ) → AreNumbered next ks → group_count ks ≤ next + length ks
count_bound next [] h = omega arith
count_bound next (k ∷ ks) (inl (less, h)) = let again = count_bound next ks h in omega (arith, less, again)
count_bound next (k ∷ ks) (inr (same, h)) = let again = count_bound (next + 1) ks h in omega (arith, same, again)

numbered_more : (next : ℕ) (ks : List ℕ) (g : ℕ) → AreNumbered next ks → g ≤ max next (group_count ks) → AreNumbered next (ks ++ g ∷ [])
numbered_more next [] g h le = elim (lesser_or_same g next (omega arith)) [ inl l ↦ inl (l, h) | inr e ↦ inr (e, tt) ]
numbered_more next (k ∷ ks) g (inl (less, h)) le = inl (less, numbered_more next ks g h (omega arith))
numbered_more next (k ∷ ks) g (inr (same, h)) le = inr (same, numbered_more (next + 1) ks g h (omega arith))

-- a group of those before, or the next new one
pub numbered-push : (ks : List ℕ) (g : ℕ) → AreNumbered 0 ks → g ≤ group_count ks → AreNumbered 0 (ks ++ g ∷ [])
numbered-push ks g h le = numbered_more 0 ks g h (omega arith)

pub count-push : (ks : List ℕ) (g : ℕ) → group_count (ks ++ g ∷ []) ≡ max (group_count ks) (g + 1)
count-push [] g = omega arith
count-push (k ∷ ks) g = let again = count-push ks g in omega (arith, again)

pub group_below : (ks : List ℕ) (i g : ℕ) → i < length ks → g ≡ get_or ks i g → g < group_count ks
group_below [] i g h e = omega arith
group_below (k ∷ ks) zero g h e = let same : g ≡ k = e in omega arith
group_below (k ∷ ks) (suc i) g h e = let again = group_below ks i g (omega arith) e in omega arith

-- a new position, in one of the groups before it or in the next new one
pub push_same : (ks new : List ℕ) (n g : ℕ) → new ≡ ks ++ g ∷ [] → AreNumbered 0 ks → n ≡ group_count ks → g ≤ group_count ks → (g ≡ n → ⊥) →
    AreNumbered 0 new × (n ≡ group_count new)
push_same ks new n g e h is le other = rw e (numbered-push ks g h le, omega (arith, count-push ks g, is, other))

pub push_next : (ks new : List ℕ) (n g : ℕ) → new ≡ ks ++ g ∷ [] → AreNumbered 0 ks → n ≡ group_count ks → g ≤ group_count ks → g ≡ n →
    AreNumbered 0 new × (n + 1 ≡ group_count new)
push_next ks new n g e h is le same = rw e (numbered-push ks g h le, omega (arith, count-push ks g, is, same))
