-- Numbers of states are counted in one way.
use Rattle.std.proofs.Common.{◌≡◌, ℕ, ◌+◌, ◌-◌, ◌<◌, List, [], ◌∷◌, length, refl, ap, ap₂, sym, ◌∙◌, arith}
use Rattle.rng_model.specs.Patterns.{Schema}
use Rattle.rng_model.specs.Universe.{Lists}
use Rattle.table_laws.proofs.Counts.{no_more}
use Rattle.listing_laws.specs.Pending.{Asked, IsStop, Ending}
use Rattle.listing_laws.specs.StateCounts.{ReachesExactly, AreCounts, EndsCounting}

module _ (a : Asked) where
  pub same_stop : (m n : ℕ) → IsStop a m → IsStop a n → m ≡ n
  same_stop m n h k = not_apart (λ b. k.first m h.from b h.more) (λ b. h.first n k.from b k.more)
    where
      not_apart : (m < n → ⊥) → (n < m → ⊥) → m ≡ n
      not_apart p q = omega (arith, p, q)

-- one number of states
module _ (g : Schema) (u : Lists) where
  not_less : (m b c : ℕ) → ReachesExactly g u m b → ReachesExactly g u m c → b < c → ⊥
  not_less m b c x y less =
      let one = x.many in
      let other = y.many in
      no_more g u m (c - 1) x.states (λ s. (x.each s).1) (omega arith)
      (record { states = y.states; many = omega arith; distinct = y.distinct; reached = λ s. (y.each s).0 })

  pub same_count : (m b c : ℕ) → ReachesExactly g u m b → ReachesExactly g u m c → b ≡ c
  same_count m b c x y = not_apart (not_less m b c x y) (not_less m c b y x)
    where
      not_apart : (b < c → ⊥) → (c < b → ⊥) → b ≡ c
      not_apart p q = omega (arith, p, q)

  same_counts : (from : ℕ) (xs ys : List ℕ) → AreCounts g u from xs → AreCounts g u from ys → length xs ≡ length ys → xs ≡ ys
  same_counts from [] [] p q l = refl
  same_counts from [] (y ∷ ys) p q l = absurd (omega arith)
  same_counts from (x ∷ xs) [] p q l = absurd (omega arith)
  same_counts from (x ∷ xs) (y ∷ ys) p q l = ap₂ (λ c cs. c ∷ cs) (same_count from x y p.0 q.0) (same_counts (from + 1) xs ys p.1 q.1 (omega arith))

pub same_counting : (a : Asked) (e f : Ending) (xs ys : List ℕ) → EndsCounting a e xs → EndsCounting a f ys → (e ≡ f) × (xs ≡ ys)
same_counting a e f xs ys (EndsCounting.stopped {m = m} stops are many) (EndsCounting.stopped {m = n} halts also more) =
    let size = same_stop a m n stops halts in
    (ap (λ k. Ending.stopped k) size, same_counts a.schema a.lists 1 xs ys are also (omega arith))
same_counting a e f xs ys (EndsCounting.stopped {m = m} stops are many) (EndsCounting.whole none also more) = absurd (none m stops)
same_counting a e f xs ys (EndsCounting.whole none are many) (EndsCounting.stopped {m = m} stops also more) = absurd (none m stops)
same_counting a e f xs ys (EndsCounting.whole none are many) (EndsCounting.whole never also more) =
    (refl, same_counts a.schema a.lists 1 xs ys are also (many ∙ sym more))
