-- A rule is broken by its name exactly where it is by its number.
use Rattle.std.proofs.Common.{◌≡◌, ◌≢◌, ℕ, zero, suc, ◌+◌, ◌<◌, ◌≤◌, ◌⊎◌, inl, inr, None, Some, refl, sym, ◌∙◌, ap, subst, arith}
use Rattle.rng_model.specs.Patterns.{Pattern, Schema, Definition, Defines}
use Rattle.rng_model.specs.Restrictions.{IsBroken, IsBrokenIn}
use Rattle.restrictions.specs.Rules.{number_of, IsLeastBroken, Breaks, BreaksIn, BreaksStart, BreaksContent}
use Rattle.restrictions.specs.declared.rule.Rule.{Rule}
use Rattle.restrictions.specs.declared.rule.Rule.TheVariants.{AttributeRef, AttributeAttribute, OneOrMoreGroupAttribute, OneOrMoreInterleaveAttribute, DataExcept, Start, StringSequence, DuplicateAttributes, InfiniteAttribute, InterleaveElements, InterleaveText}

-- the rule of a number
rule_at : ℕ → Rule
rule_at zero = AttributeRef
rule_at (suc zero) = AttributeRef
rule_at (suc (suc zero)) = AttributeAttribute
rule_at (suc (suc (suc zero))) = OneOrMoreGroupAttribute
rule_at (suc (suc (suc (suc zero)))) = OneOrMoreInterleaveAttribute
rule_at (suc (suc (suc (suc (suc zero))))) = DataExcept
rule_at (suc (suc (suc (suc (suc (suc zero)))))) = Start
rule_at (suc (suc (suc (suc (suc (suc (suc zero))))))) = StringSequence
rule_at (suc (suc (suc (suc (suc (suc (suc (suc zero)))))))) = DuplicateAttributes
rule_at (suc (suc (suc (suc (suc (suc (suc (suc (suc zero))))))))) = InfiniteAttribute
rule_at (suc (suc (suc (suc (suc (suc (suc (suc (suc (suc zero)))))))))) = InterleaveElements
rule_at (suc (suc (suc (suc (suc (suc (suc (suc (suc (suc (suc n))))))))))) = InterleaveText

decode : (r : Rule) → rule_at (number_of r) ≡ r
unfolding rule_at
decode AttributeRef = refl
decode _ = refl

at_most : (r : Rule) → number_of r ≤ 11
at_most AttributeRef = omega arith
at_most _ = omega arith

pub same_or : (i j : ℕ) → (i ≡ j) ⊎ (i ≢ j)
same_or zero zero = inl refl
same_or zero (suc j) = inr (λ e. cc)
same_or (suc i) zero = inr (λ e. cc)
same_or (suc i) (suc j) = go (same_or i j)
  where
    go : (i ≡ j) ⊎ (i ≢ j) → (suc i ≡ suc j) ⊎ (suc i ≢ suc j)
    go (inl e) = inl (ap suc e)
    go (inr n) = inr (λ e. n (cc))

module _ (g : Schema) where
  in_start : (r : Rule) (p : Pattern) → BreaksIn g r p → BreaksStart g r p
  in_start Start p n = absurd n
  in_start r p b = b

  in_content : (r : Rule) (p : Pattern) → BreaksIn g r p → BreaksContent g r p
  in_content StringSequence p n = absurd n
  in_content r p b = b

  -- a rule of the number that the pattern breaks
  pub record Named (P : Rule → Type 0) (k : ℕ) : Type 0 where
    pub rule : Rule
    pub number : number_of rule ≡ k
    pub broken : P rule

  by_name : (P : Rule → Type 0) (r : Rule) (k : ℕ) → k ≡ number_of r → P r → Named P k
  by_name P r k e b = record { rule = r; number = sym e; broken = b }

  to_in : (k : ℕ) (p : Pattern) → IsBrokenIn g k p → Named (λ r. BreaksIn g r p) k
  to_in k p (inl (e, w)) = by_name (λ r. BreaksIn g r p) AttributeRef k e w
  to_in k p (inr (inl (e, w))) = by_name (λ r. BreaksIn g r p) AttributeAttribute k e w
  to_in k p (inr (inr (inl (e, w)))) = by_name (λ r. BreaksIn g r p) OneOrMoreGroupAttribute k e w
  to_in k p (inr (inr (inr (inl (e, w))))) = by_name (λ r. BreaksIn g r p) OneOrMoreInterleaveAttribute k e w
  to_in k p (inr (inr (inr (inr (inl (e, w)))))) = by_name (λ r. BreaksIn g r p) DataExcept k e w
  to_in k p (inr (inr (inr (inr (inr (inl (e, w))))))) = by_name (λ r. BreaksIn g r p) DuplicateAttributes k e w
  to_in k p (inr (inr (inr (inr (inr (inr (inl (e, w)))))))) = by_name (λ r. BreaksIn g r p) InfiniteAttribute k e w
  to_in k p (inr (inr (inr (inr (inr (inr (inr (inl (e, w))))))))) = by_name (λ r. BreaksIn g r p) InterleaveElements k e w
  to_in k p (inr (inr (inr (inr (inr (inr (inr (inr (e, w))))))))) = by_name (λ r. BreaksIn g r p) InterleaveText k e w

  from_in : (r : Rule) (p : Pattern) → BreaksIn g r p → IsBrokenIn g (number_of r) p
  from_in AttributeRef p w = inl (refl, w)
  from_in AttributeAttribute p w = inr (inl (refl, w))
  from_in OneOrMoreGroupAttribute p w = inr (inr (inl (refl, w)))
  from_in OneOrMoreInterleaveAttribute p w = inr (inr (inr (inl (refl, w))))
  from_in DataExcept p w = inr (inr (inr (inr (inl (refl, w)))))
  from_in Start p w = absurd w
  from_in StringSequence p w = absurd w
  from_in DuplicateAttributes p w = inr (inr (inr (inr (inr (inl (refl, w))))))
  from_in InfiniteAttribute p w = inr (inr (inr (inr (inr (inr (inl (refl, w)))))))
  from_in InterleaveElements p w = inr (inr (inr (inr (inr (inr (inr (inl (refl, w))))))))
  from_in InterleaveText p w = inr (inr (inr (inr (inr (inr (inr (inr (refl, w))))))))

  -- a broken number is that of a broken rule
  pub some_rule : (k : ℕ) → IsBroken g k → Named (Breaks g) k
  some_rule k (inl w) = go (to_in k g.start w)
    where
      go : Named (λ r. BreaksIn g r g.start) k → Named (Breaks g) k
      go x = record { rule = x.rule; number = x.number; broken = inl (in_start x.rule g.start x.broken) }
  some_rule k (inr (inl (e, w))) = by_name (Breaks g) Start k e (inl w)
  some_rule k (inr (inr (d, e, is, inl w))) = go (to_in k e.content w)
    where
      go : Named (λ r. BreaksIn g r e.content) k → Named (Breaks g) k
      go x = record { rule = x.rule; number = x.number; broken = inr (d, e, is, in_content x.rule e.content x.broken) }
  some_rule k (inr (inr (d, e, is, inr (f, n, w)))) = by_name (Breaks g) StringSequence k f (inr (d, e, is, (n, w)))

  from_start : (r : Rule) → BreaksStart g r g.start → IsBroken g (number_of r)
  from_start Start w = inr (inl (refl, w))
  from_start r w = inl (from_in r g.start w)

  from_content : (r : Rule) (d : ℕ) (e : Definition) → Defines g d e → BreaksContent g r e.content → IsBroken g (number_of r)
  from_content StringSequence d e is w = inr (inr (d, e, is, inr (refl, w.0, w.1)))
  from_content r d e is w = inr (inr (d, e, is, inl (from_in r e.content w)))

  -- a broken rule's number is broken
  pub by_number : (r : Rule) → Breaks g r → IsBroken g (number_of r)
  by_number r (inl w) = from_start r w
  by_number r (inr (d, e, is, w)) = from_content r d e is w

  -- a rule that holds has a number that does
  pub holds_by_number : (r : Rule) (k : ℕ) → number_of r ≡ k → (Breaks g r → ⊥) → IsBroken g k → ⊥
  holds_by_number r k e n b =
      let x = some_rule k b in
      let same : x.rule ≡ r = sym (decode x.rule) ∙ ap rule_at (x.number ∙ sym e) ∙ decode r in
      n (subst (Breaks g) same x.broken)

  pub none_more : (n : ℕ) (r : Rule) → number_of r ≡ n → (Breaks g r → ⊥) → ((k : ℕ) → k < n → IsBroken g k → ⊥) → (k : ℕ) → k < n + 1 → IsBroken g k → ⊥
  none_more n r e h below k l = go (same_or k n)
    where
      go : (k ≡ n) ⊎ (k ≢ n) → IsBroken g k → ⊥
      go (inl f) = holds_by_number r k (e ∙ sym f) h
      go (inr f) = below k (omega (arith, l, f))

  pub least : (r : Rule) (n : ℕ) → number_of r ≡ n → Breaks g r → ((k : ℕ) → k < n → IsBroken g k → ⊥) → IsLeastBroken g (Some r)
  least r n e b below = (by_number r b, λ k l. below k (omega (arith, l, e)))

  pub none : (n : ℕ) → 12 ≤ n → ((k : ℕ) → k < n → IsBroken g k → ⊥) → IsLeastBroken g None
  none n m below k b = below k (let x = some_rule k b in let p = at_most x.rule in let q = x.number in omega (arith, m, p, q)) b
