-- What stands inside a pattern.
use Rattle.std.proofs.Common.{inl, inr}
use Rattle.rng_model.specs.Patterns.{Pattern, not_allowed, empty, text, ref, value, data_type, data_except, attribute, one_or_more, choice, group, interleave, after}
use Rattle.rng_model.specs.Inside.{Within}

module _ (K L : Pattern → Type 0) (more : (p : Pattern) → K p → L p) where
  -- where K holds, L does
  pub within_map : (p : Pattern) → Within K p → Within L p
  within_map not_allowed k = more not_allowed k
  within_map empty k = more empty k
  within_map text k = more text k
  within_map (ref d) k = more (ref d) k
  within_map (value kind t) k = more (value kind t) k
  within_map (data_type kind) k = more (data_type kind) k
  within_map (data_except kind e) (inl k) = inl (more (data_except kind e) k)
  within_map (data_except kind e) (inr w) = inr (within_map e w)
  within_map (attribute c p) (inl k) = inl (more (attribute c p) k)
  within_map (attribute c p) (inr w) = inr (within_map p w)
  within_map (one_or_more p) (inl k) = inl (more (one_or_more p) k)
  within_map (one_or_more p) (inr w) = inr (within_map p w)
  within_map (choice p q) (inl w) = inl (within_map p w)
  within_map (choice p q) (inr w) = inr (within_map q w)
  within_map (group p q) (inl k) = inl (more (group p q) k)
  within_map (group p q) (inr (inl w)) = inr (inl (within_map p w))
  within_map (group p q) (inr (inr w)) = inr (inr (within_map q w))
  within_map (interleave p q) (inl k) = inl (more (interleave p q) k)
  within_map (interleave p q) (inr (inl w)) = inr (inl (within_map p w))
  within_map (interleave p q) (inr (inr w)) = inr (inr (within_map q w))
  within_map (after p q) (inl k) = inl (more (after p q) k)
  within_map (after p q) (inr (inl w)) = inr (inl (within_map p w))
  within_map (after p q) (inr (inr w)) = inr (inr (within_map q w))

module _ (A : Type 0) (P : A → Pattern → Type 0) (Q : A → Type 0) where
  abbrev some_here : Pattern → Type 0
  some_here p = (a : A) × P a p × Q a

  abbrev pub SomeWithin : Pattern → Type 0
  SomeWithin p = (a : A) × Within (P a) p × Q a

  -- what holds of something inside holds of it for some one thing
  pub some_within : (p : Pattern) → Within some_here p → SomeWithin p
  some_within not_allowed k = k
  some_within empty k = k
  some_within text k = k
  some_within (ref d) k = k
  some_within (value kind t) k = k
  some_within (data_type kind) k = k
  some_within (data_except kind e) (inl k) = (k.0, inl k.1, k.2)
  some_within (data_except kind e) (inr w) = let t = some_within e w in (t.0, inr t.1, t.2)
  some_within (attribute c p) (inl k) = (k.0, inl k.1, k.2)
  some_within (attribute c p) (inr w) = let t = some_within p w in (t.0, inr t.1, t.2)
  some_within (one_or_more p) (inl k) = (k.0, inl k.1, k.2)
  some_within (one_or_more p) (inr w) = let t = some_within p w in (t.0, inr t.1, t.2)
  some_within (choice p q) (inl w) = let t = some_within p w in (t.0, inl t.1, t.2)
  some_within (choice p q) (inr w) = let t = some_within q w in (t.0, inr t.1, t.2)
  some_within (group p q) (inl k) = (k.0, inl k.1, k.2)
  some_within (group p q) (inr (inl w)) = let t = some_within p w in (t.0, inr (inl t.1), t.2)
  some_within (group p q) (inr (inr w)) = let t = some_within q w in (t.0, inr (inr t.1), t.2)
  some_within (interleave p q) (inl k) = (k.0, inl k.1, k.2)
  some_within (interleave p q) (inr (inl w)) = let t = some_within p w in (t.0, inr (inl t.1), t.2)
  some_within (interleave p q) (inr (inr w)) = let t = some_within q w in (t.0, inr (inr t.1), t.2)
  some_within (after p q) (inl k) = (k.0, inl k.1, k.2)
  some_within (after p q) (inr (inl w)) = let t = some_within p w in (t.0, inr (inl t.1), t.2)
  some_within (after p q) (inr (inr w)) = let t = some_within q w in (t.0, inr (inr t.1), t.2)

module _ (A : Type 0) (L : A → Pattern → Type 0) (C : A → Type 0) (K : Pattern → Type 0) where
  -- whatever stands inside the pattern is one of C
  abbrev pub AllInside : Pattern → Type 0
  AllInside p = (a : A) → Within (L a) p → C a

  abbrev both_here : Pattern → Type 0
  both_here p = K p × AllInside p

  -- what is so of all inside a pattern is so where K holds
  pub within_kept : (p : Pattern) → AllInside p → Within K p → Within both_here p
  within_kept not_allowed h k = (k, h)
  within_kept empty h k = (k, h)
  within_kept text h k = (k, h)
  within_kept (ref d) h k = (k, h)
  within_kept (value kind t) h k = (k, h)
  within_kept (data_type kind) h k = (k, h)
  within_kept (data_except kind e) h (inl k) = inl (k, h)
  within_kept (data_except kind e) h (inr w) = inr (within_kept e (λ a x. h a (inr x)) w)
  within_kept (attribute c p) h (inl k) = inl (k, h)
  within_kept (attribute c p) h (inr w) = inr (within_kept p (λ a x. h a (inr x)) w)
  within_kept (one_or_more p) h (inl k) = inl (k, h)
  within_kept (one_or_more p) h (inr w) = inr (within_kept p (λ a x. h a (inr x)) w)
  within_kept (choice p q) h (inl w) = inl (within_kept p (λ a x. h a (inl x)) w)
  within_kept (choice p q) h (inr w) = inr (within_kept q (λ a x. h a (inr x)) w)
  within_kept (group p q) h (inl k) = inl (k, h)
  within_kept (group p q) h (inr (inl w)) = inr (inl (within_kept p (λ a x. h a (inr (inl x))) w))
  within_kept (group p q) h (inr (inr w)) = inr (inr (within_kept q (λ a x. h a (inr (inr x))) w))
  within_kept (interleave p q) h (inl k) = inl (k, h)
  within_kept (interleave p q) h (inr (inl w)) = inr (inl (within_kept p (λ a x. h a (inr (inl x))) w))
  within_kept (interleave p q) h (inr (inr w)) = inr (inr (within_kept q (λ a x. h a (inr (inr x))) w))
  within_kept (after p q) h (inl k) = inl (k, h)
  within_kept (after p q) h (inr (inl w)) = inr (inl (within_kept p (λ a x. h a (inr (inl x))) w))
  within_kept (after p q) h (inr (inr w)) = inr (inr (within_kept q (λ a x. h a (inr (inr x))) w))
