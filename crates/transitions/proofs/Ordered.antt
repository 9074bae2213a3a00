-- The order of codes, and of the arcs of a row.
use Rattle.std.proofs.Common.{◌≡◌, ◌≢◌, ℕ, ◌+◌, ◌-◌, ◌<◌, ◌≤◌, ◌⊎◌, inl, inr, List, Some, slice_get, refl, sym, ◌∙◌, ap, subst, arith, true, false, true≢false, is_gt}
use Rattle.std.specs.declared.cmp.Ordering.{Ordering}
use Rattle.std.specs.declared.cmp.Ordering.TheVariants.{Less, Equal, Greater}
use Rattle.std.specs.Ordering.{nat_cmp, ordering_then, ordering_reverse}
use Rattle.std.specs.Cmp.{nat_cmp_is}
use Rattle.std.proofs.lemmas.Bool.{cases_order}
use Rattle.std.proofs.lemmas.Cmp.{nat_list_cmp_total, ranked}
use Rattle.rng_model.specs.Codes.{Code, code_cmp, code_key}
use Rattle.line_laws.proofs.OrderLaw.{attr_cmp, chars_cmp, opening_cmp}
use Rattle.skeleton.specs.Views.{code_of}
use Rattle.transitions.specs.declared.arc.Arc.{Arc}
use Rattle.transitions.specs.Arcs.{Covers, IsFrom, IsLess}
use Rattle.transitions.specs.Searches.{GoesNowhere, IsInOrder, IsUpTo}
use Rattle.transitions.proofs.Lists.{get_of}

nat_less : (x y : ℕ) → nat_cmp x y ≡ Less → x < y
nat_less x y e = ranked x y Less (sym e)

nat_greater : (x y : ℕ) → nat_cmp x y ≡ Greater → y < x
nat_greater x y e = ranked x y Greater (sym e)

-- positions of one name
attr_same : (n p q : ℕ) → code_cmp (Code.Attr n p) (Code.Attr n q) ≡ nat_cmp p q
attr_same n p q = attr_cmp n n p q ∙ ap (λ r. ordering_then r (nat_cmp p q)) (sym (nat_cmp_is n n Equal refl))

pub less_is : (c d : Code) → IsLess c d → code_cmp c d ≡ Less
less_is (Code.Chars p) (Code.Chars q) l = chars_cmp p q ∙ sym (nat_cmp_is p q Less l)
less_is (Code.Chars p) (Code.Attr m q) l = refl
less_is (Code.Chars p) (Code.Opening q) l = refl
less_is (Code.Attr n p) (Code.Attr m q) (inl l) = attr_cmp n m p q ∙ ap (λ r. ordering_then r (nat_cmp p q)) (sym (nat_cmp_is n m Less l))
less_is (Code.Attr n p) (Code.Attr m q) (inr (e, l)) =
    attr_cmp n m p q ∙ ap (λ r. ordering_then r (nat_cmp p q)) (sym (nat_cmp_is n m Equal e)) ∙ sym (nat_cmp_is p q Less l)
less_is (Code.Attr n p) (Code.Opening q) l = refl
less_is (Code.Opening p) (Code.Opening q) l = opening_cmp p q ∙ sym (nat_cmp_is p q Less l)
less_is c d l = absurd l

pub turned : (c d : Code) (r : Ordering) → code_cmp c d ≡ r → code_cmp d c ≡ ordering_reverse r
turned c d r e = nat_list_cmp_total.antisymm (code_key d) (code_key c) ∙ ap ordering_reverse e

pub less_trans : (a b c : Code) → code_cmp a b ≡ Less → code_cmp b c ≡ Less → code_cmp a c ≡ Less
less_trans a b c = nat_list_cmp_total.trans (code_key a) (code_key b) (code_key c)

pub less_isnt : (c d : Code) → code_cmp c d ≡ Less → code_cmp c d ≡ Greater → ⊥
less_isnt c d l g = absurd (cc)

-- what is above a greater one is greater
above : (a b c : Code) → code_cmp a b ≡ Less → code_cmp a c ≡ Greater → code_cmp b c ≡ Greater
above a b c l g = turned c b Less (less_trans c a b (turned a c Greater g) l)

-- the first code of an arc isn't greater than another one of it
pub not_below : (f : Code) (last : ℕ) (d : Code) → IsFrom f last d → code_cmp f d ≢ Greater
not_below (Code.Opening i) last (Code.Opening p) h g = let l = nat_greater i p (sym (opening_cmp i p) ∙ g) in let k = h.0 in absurd (omega (arith, l, k))
not_below (Code.Attr n i) last (Code.Attr m p) h g =
    let e : code_cmp (Code.Attr n i) (Code.Attr n p) ≡ Greater = ap (λ z. code_cmp (Code.Attr n i) (Code.Attr z p)) h.0 ∙ g in
    let l = nat_greater i p (sym (attr_same n i p) ∙ e) in
    let k = h.1 in
    absurd (omega (arith, l, k))
not_below (Code.Chars i) last (Code.Chars p) h g = let l = nat_greater i p (sym (chars_cmp i p) ∙ g) in let k = h.0 in absurd (omega (arith, l, k))
not_below f last d h g = absurd h

same_arc : (row : List Arc) (i : ℕ) (a b : Arc) → slice_get row i ≡ Some a → slice_get row i ≡ Some b → a ≡ b
same_arc row i a b h k = cc

module _ (row : List Arc) (o : IsInOrder row) where
  firsts : (i j : ℕ) (a b : Arc) → i < j → slice_get row i ≡ Some a → slice_get row j ≡ Some b → code_cmp (code_of a.first) (code_of b.first) ≡ Less
  firsts i j a b l h k = less_is (code_of a.first) (code_of b.first) (o.ascending i j a b (code_of a.first) (code_of b.first) l h k (o.some i a h) (o.some j b k))

  module _ (c : Code) (m : ℕ) (a : Arc) (is : slice_get row m ≡ Some a) where
    pub greater_from : code_cmp (code_of a.first) c ≡ Greater → (i : ℕ) (b : Arc) → m ≤ i → slice_get row i ≡ Some b → code_cmp (code_of b.first) c ≡ Greater
    greater_from g i b l h = go (cases_order m i)
      where
        go : (m ≡ i) ⊎ ((m < i) ⊎ (i < m)) → code_cmp (code_of b.first) c ≡ Greater
        go (inl e) = let s = same_arc row i a b (subst (λ z. slice_get row z ≡ Some a) e is) h in subst (λ (x : Arc). code_cmp (code_of x.first) c ≡ Greater) s g
        go (inr (inl k)) = above (code_of a.first) (code_of b.first) c (firsts m i a b k is h) g
        go (inr (inr k)) = absurd (omega (arith, k, l))

    pub not_greater_to : code_cmp (code_of a.first) c ≢ Greater → (i : ℕ) (b : Arc) → i < m + 1 → slice_get row i ≡ Some b → code_cmp (code_of b.first) c ≢ Greater
    not_greater_to n i b l h g = go (cases_order m i)
      where
        go : (m ≡ i) ⊎ ((m < i) ⊎ (i < m)) → ⊥
        go (inl e) = let s = same_arc row i b a h (subst (λ z. slice_get row z ≡ Some a) e is) in n (subst (λ (x : Arc). code_cmp (code_of x.first) c ≡ Greater) s g)
        go (inr (inl k)) = absurd (omega (arith, k, l))
        go (inr (inr k)) = n (above (code_of b.first) (code_of a.first) c (firsts i m b a k h is) g)

  -- only the last arc whose first code isn't greater may cover the code
  pub only_last : (c : Code) (count : ℕ) (a : Arc) → IsUpTo row c count → count ≢ 0 → slice_get row (count - 1) ≡ Some a → (Covers a c → ⊥) → GoesNowhere row c
  only_last c count a u some is off next g = go (cases_order g.place (count - 1))
    where
      low : g.place < count
      low = pick (cases_order g.place count)
        where
          out : count ≤ g.place → ⊥
          out l = not_below (code_of g.arc.first) g.arc.last c g.covers (u.after g.place g.arc l g.is)

          pick : (g.place ≡ count) ⊎ ((g.place < count) ⊎ (count < g.place)) → g.place < count
          pick (inl e) = absurd (out (omega (arith, e)))
          pick (inr (inl l)) = l
          pick (inr (inr l)) = absurd (out (omega (arith, l)))

      go : (g.place ≡ count - 1) ⊎ ((g.place < count - 1) ⊎ (count - 1 < g.place)) → ⊥
      go (inl e) = let s = same_arc row (count - 1) g.arc a (subst (λ z. slice_get row z ≡ Some g.arc) e g.is) is in off (subst (λ (x : Arc). Covers x c) s g.covers)
      go (inr (inl l)) =
          u.before (count - 1) a (let z = low in omega (arith, l, z)) is
          (turned c (code_of a.first) Less (less_is c (code_of a.first) (o.ascending g.place (count - 1) g.arc a c (code_of a.first) l g.is is g.covers (o.some (count - 1) a is))))
      go (inr (inr l)) = let z = low in absurd (omega (arith, l, z))

  -- the codes of an arc below another whose first code isn't greater than the bound aren't past it
  pub not_past : (c : Code) (count i : ℕ) (a : Arc) (d : Code) → IsUpTo row c count → i + 1 < count → slice_get row i ≡ Some a → Covers a d → code_cmp c d ≡ Less → ⊥
  not_past c count i a d u l is h k =
      let b = get_of row (count - 1) (let m = u.most in omega (arith, m, l)) in
      let f = code_of b.0.first in
      u.before (count - 1) b.0 (omega (arith, l)) b.1
      (turned c f Less (less_trans c d f k (less_is d f (o.ascending i (count - 1) a b.0 d f (omega (arith, l)) is b.1 h (o.some (count - 1) b.0 b.1)))))

pub gt_is : (r : Ordering) → is_gt r ≡ true → r ≡ Greater
gt_is Less e = absurd (true≢false (sym e))
gt_is Equal e = absurd (true≢false (sym e))
gt_is Greater e = refl

pub gt_isnt : (r : Ordering) → is_gt r ≡ false → r ≢ Greater
gt_isnt r e g = true≢false (sym (ap is_gt g) ∙ e)
