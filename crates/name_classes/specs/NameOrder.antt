-- The order of names is by their parts, and tells names apart.
use Rattle.std.proofs.Common.{◌≡◌, ℕ, suc, ◌<◌, ◌&&◌, arith, List, [], ◌∷◌, ◌++◌, refl, sym, ◌∙◌, ap, append_assoc, append-nil, IsTrue, true≢false}
use Rattle.std.specs.Hash as fed
use Rattle.std.specs.declared.cmp.Ordering.{Ordering}
use Rattle.std.specs.declared.cmp.Ordering.TheVariants.{Less, Equal, Greater}
use Rattle.std.specs.Ordering.{nat_cmp, ordering_then, is_eq, eq_by_cmp, MatchOrdering}
use Rattle.std.specs.Cmp.{nat_cmp_is}
use Rattle.std.proofs.lemmas.Cmp.{ranked}
use Rattle.std.specs.Cmp.Lexicographic.{slice_cmp}
use Rattle.std.proofs.lemmas.Map.Text.{is_eq-slice_cmp}
use Rattle.rng_model.specs.Texts.{Text}
use Rattle.rng_model.proofs.Orders.{name_cmp-same}
use Rattle.rng_model.specs.Names.{Name, text_key, name_key, name_cmp, same_name}

pub then_then : (o p q : Ordering) → ordering_then (ordering_then o p) q ≡ ordering_then o (ordering_then p q)
then_then Less p q = refl
then_then Equal p q = refl
then_then Greater p q = refl

pub then_equal : (o : Ordering) → ordering_then o Equal ≡ o
then_equal Less = refl
then_equal Equal = refl
then_equal Greater = refl

below : (d : ℕ) → nat_cmp 0 (suc d) ≡ Less
below d = sym (nat_cmp_is 0 (suc d) Less (omega arith))

above : (c : ℕ) → nat_cmp (suc c) 0 ≡ Greater
above c = sym (nat_cmp_is (suc c) 0 Greater (omega arith))

shifted : (c d : ℕ) → nat_cmp (suc c) (suc d) ≡ nat_cmp c d
shifted c d = sym (nat_cmp_is (suc c) (suc d) (nat_cmp c d) (next (nat_cmp c d) (ranked c d (nat_cmp c d) refl)))
  where
    next : (o : Ordering) → MatchOrdering o (c < d) (c ≡ d) (d < c) → MatchOrdering o (suc c < suc d) (suc c ≡ suc d) (suc d < suc c)
    next Less h = omega arith
    next Equal h = omega arith
    next Greater h = omega arith

-- texts by their lists, whatever follows
pub text_keys : (s t : Text) (x y : List ℕ) → slice_cmp nat_cmp (text_key s ++ x) (text_key t ++ y) ≡ ordering_then (slice_cmp nat_cmp s t) (slice_cmp nat_cmp x y)
text_keys [] [] x y = refl
text_keys [] (d ∷ t) x y = rw (below d)
text_keys (c ∷ s) [] x y = rw (above c)
text_keys (c ∷ s) (d ∷ t) x y =
    rw (shifted c d) (ap (ordering_then (nat_cmp c d)) (text_keys s t x y) ∙ sym (then_then (nat_cmp c d) (slice_cmp nat_cmp s t) (slice_cmp nat_cmp x y)))

-- names by their lists, whatever follows
pub name_keys : (m n : Name) (x y : List ℕ) → slice_cmp nat_cmp (name_key m ++ x) (name_key n ++ y) ≡ ordering_then (ordering_then (slice_cmp nat_cmp m.ns n.ns) (slice_cmp nat_cmp m.local n.local)) (slice_cmp nat_cmp x y)
name_keys m n x y =
    (λ i. slice_cmp nat_cmp (append_assoc (text_key m.ns) (text_key m.local) x i) (append_assoc (text_key n.ns) (text_key n.local) y i))
    ∙ text_keys m.ns n.ns (text_key m.local ++ x) (text_key n.local ++ y)
    ∙ ap (ordering_then (slice_cmp nat_cmp m.ns n.ns)) (text_keys m.local n.local x y)
    ∙ sym (then_then (slice_cmp nat_cmp m.ns n.ns) (slice_cmp nat_cmp m.local n.local) (slice_cmp nat_cmp x y))

-- names by their namespaces and then by their local names
pub by_parts : (m n : Name) → name_cmp m n ≡ ordering_then (slice_cmp nat_cmp m.ns n.ns) (slice_cmp nat_cmp m.local n.local)
by_parts m n =
    (λ i. slice_cmp nat_cmp (sym (append-nil (name_key m)) i) (sym (append-nil (name_key n)) i))
    ∙ name_keys m n [] []
    ∙ then_equal (ordering_then (slice_cmp nat_cmp m.ns n.ns) (slice_cmp nat_cmp m.local n.local))

both_equal : (o p : Ordering) → is_eq (ordering_then o p) ≡ (is_eq o && is_eq p)
both_equal Less p = refl
both_equal Equal p = refl
both_equal Greater p = refl

-- equal names are those that the order doesn't tell apart
pub ties : (m n : Name) → same_name m n ≡ eq_by_cmp name_cmp m n
ties m n = sym (ap is_eq (by_parts m n) ∙ both_equal (slice_cmp nat_cmp m.ns n.ns) (slice_cmp nat_cmp m.local n.local) ∙ (λ i. is_eq-slice_cmp m.ns n.ns i && is_eq-slice_cmp m.local n.local i))

pub equal_is : (o : Ordering) → IsTrue (is_eq o) → o ≡ Equal
equal_is Less h = absurd (true≢false (sym h))
equal_is Equal h = refl
equal_is Greater h = absurd (true≢false (sym h))

-- what hashing a name feeds
abbrev pub name_input : Name → fed.HashWrites
name_input n = fed.str n.ns ++ fed.str n.local

pub alike_names : (m n : Name) → IsTrue (same_name m n) → name_input m ≡ name_input n
alike_names m n h = ap name_input (name_cmp-same m n (equal_is (name_cmp m n) (sym (ties m n) ∙ h)))
