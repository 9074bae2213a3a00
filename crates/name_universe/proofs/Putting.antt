-- Maps that take the fresh names of a namespace one by one.
use Rattle.std.proofs.Common.{◌≡◌, ℕ, suc, ◌+◌, ◌<◌, ◌⊎◌, inl, inr, List, refl, sym, ◌∙◌, ap, subst, arith, codes, Contains}
use Rattle.rng_model.specs.Texts.{Text}
use Rattle.rng_model.specs.Names.{Name}
use Rattle.rng_model.specs.Fresh.{numbered, IsAmongFree, HasFree}
use Rattle.name_universe.specs.declared.origin.Origin.{Origin}
use Rattle.name_universe.specs.Sets.{Puts, IsTakenIn}
use Rattle.name_universe.proofs.NameSets.{Map, puts_none, puts_as, puts_more}
use Rattle.name_universe.proofs.Counting.{name_of, IsFreeBelow, among_from, among_to, below_taken, below_free, below_later, below_this}

module _ (taken : List Name) (u : Text) where
  -- a name of the namespace with one of the first k numbers that isn't taken
  abbrev pub IsBelow : ℕ → Name → Type 0
  IsBelow k n = (n.ns ≡ u) × IsFreeBelow (IsTakenIn taken u) (codes "x") k n.local

  pub put_none : (f : Map) (o : Origin) → Puts f f o (IsBelow 0)
  put_none f o = puts_as f f o (λ n. ⊥) (IsBelow 0) (λ n h. absurd h) (λ n h. let b = h.1.below in omega arith) (puts_none f o)

  pub put_taken : (f g : Map) (o : Origin) (k : ℕ) → Contains taken (name_of u k) → Puts f g o (IsBelow k) → Puts f g o (IsBelow (k + 1))
  put_taken f g o k t p =
      puts_as f g o (IsBelow k) (IsBelow (k + 1)) (λ n h. (h.0, below_later _ _ k n.local h.1)) (λ n h. (h.0, below_taken _ _ k n.local t h.1)) p

  pub put_free : (f g h : Map) (o : Origin) (k : ℕ) (m : Name) → m ≡ name_of u k → (Contains taken m → ⊥) → Puts f g o (IsBelow k) → Puts g h o (λ n. n ≡ m) → Puts f h o (IsBelow (k + 1))
  put_free f g h o k m is free p q = puts_as f h o (λ n. IsBelow k n ⊎ (n ≡ m)) (IsBelow (k + 1)) to from (puts_more f g h o (IsBelow k) (λ n. n ≡ m) p q)
    where
      to : (n : Name) → IsBelow k n ⊎ (n ≡ m) → IsBelow (k + 1) n
      to n (inl s) = (s.0, below_later _ _ k n.local s.1)
      to n (inr e) =
          let same : n ≡ name_of u k = e ∙ is in
          ((λ i. (same i).ns), below_this (IsTakenIn taken u) (codes "x") k n.local (λ i. (same i).local) (λ t. free (subst (Contains taken) (sym is) t)))

      from : (n : Name) → IsBelow (k + 1) n → IsBelow k n ⊎ (n ≡ m)
      from n s = elim (below_free _ _ k n.local s.1) [
        | inl b ↦ inl (s.0, b)
        | inr e ↦ inr ((λ i. record { ns = s.0 i; local = e i }) ∙ sym is)
      ]

  pub put_all : (f g : Map) (o : Origin) (k count : ℕ) → HasFree (IsTakenIn taken u) (codes "x") k count → Puts f g o (IsBelow k) →
      Puts f g o (λ n. (n.ns ≡ u) × IsAmongFree (IsTakenIn taken u) count (codes "x") n.local)
  put_all f g o k count h p =
      puts_as f g o (IsBelow k) (λ n. (n.ns ≡ u) × IsAmongFree (IsTakenIn taken u) count (codes "x") n.local)
      (λ n s. (s.0, among_from _ _ k count n.local h s.1)) (λ n s. (s.0, among_to _ _ k count n.local h s.1)) p
