-- The events of a document: how many there are, and that no document's begin another's.
use Rattle.std.proofs.Common.{◌≡◌, ℕ, zero, suc, ◌+◌, ◌*◌, ◌≤◌, List, [], ◌∷◌, ◌++◌, map, length, length-append, take, refl, sym, ◌∙◌, ap, arith, append-nil, Some, slice_get}
use Rattle.rng_model.specs.Hedges.{Hedge, none, element, text, Attributes, Skeleton, IsSkeleton, document, size, hedge_size}
use Rattle.rng_model.specs.Events.{Event, Opening, Attr, Body, Chars, Closing, events, hedge_events}
use Rattle.rng_model.proofs.Orders.{events-injective}
use Rattle.line_laws.specs.Nodes.{node_count}
use Rattle.line_laws.specs.Walks.{Walk, Before, After, walk}
use Rattle.line_laws.proofs.NodeLaw.{skeleton_nodes}
use Rattle.line_laws.proofs.WalkLaw.{walk_skeleton, walks_unfinished}

-- the events up to one, that one, and those behind
pub record Parts (xs : List Event) (i : ℕ) (x : Event) : Type 0 where
  pub back : List Event
  pub is : xs ≡ take i xs ++ (x ∷ back)
  pub more : take (suc i) xs ≡ take i xs ++ (x ∷ [])

cons_parts : (y : Event) (xs : List Event) (i : ℕ) (x : Event) → Parts xs i x → Parts (y ∷ xs) (suc i) x
cons_parts y xs i x p = record { back = p.back; is = ap (λ z. y ∷ z) p.is; more = ap (λ z. y ∷ z) p.more }

pub parts : (xs : List Event) (i : ℕ) (x : Event) → slice_get xs i ≡ Some x → Parts xs i x
parts [] i x e = absurd (cc)
parts (y ∷ xs) zero x e = let f : y ≡ x = cc in record { back = xs; is = ap (λ z. z ∷ xs) f; more = ap (λ z. z ∷ []) f }
parts (y ∷ xs) (suc i) x e = cons_parts y xs i x (parts xs i x e)

pub node_count-append : (xs ys : List Event) → node_count (xs ++ ys) ≡ node_count xs + node_count ys
node_count-append [] ys = omega arith
node_count-append (Opening n ∷ xs) ys = omega (arith, node_count-append xs ys)
node_count-append (Attr n t ∷ xs) ys = omega (arith, node_count-append xs ys)
node_count-append (Body ∷ xs) ys = node_count-append xs ys
node_count-append (Chars t ∷ xs) ys = omega (arith, node_count-append xs ys)
node_count-append (Closing ∷ xs) ys = node_count-append xs ys

-- an event has a node more than those before it, or none, and a document has them all
pub event_within : (c : Skeleton) (i : ℕ) (e : Event) → slice_get (events c) i ≡ Some e →
    node_count (take i (events c)) + node_count (e ∷ []) ≤ size c
event_within c i e h =
    let p = parts (events c) i e h in
    let q = p.is in
    let f : node_count (events c) ≡ node_count (take i (events c) ++ (e ∷ p.back)) = ap node_count q in
    omega (arith, skeleton_nodes c, node_count-append (take i (events c)) (e ∷ p.back), node_count-append (e ∷ []) p.back)

attribute_count : (a : Attributes) → length (map (λ x. Attr x.0 x.1) a) ≡ length a
attribute_count [] = refl
attribute_count (x ∷ a) = ap (λ z. suc z) (attribute_count a)

few : (h : Hedge) → length (hedge_events h) ≤ 3 * hedge_size h
few none = omega arith
few (text t rest) = omega (arith, few rest)
few (element n a k rest) =
    omega (
      arith,
      length-append ((Opening n ∷ map (λ x. Attr x.0 x.1) a) ++ (Body ∷ hedge_events k)) (Closing ∷ hedge_events rest),
      length-append (Opening n ∷ map (λ x. Attr x.0 x.1) a) (Body ∷ hedge_events k),
      attribute_count a,
      few k,
      few rest,
    )

-- there are at most three events for each node
pub few_events : (c : Skeleton) → length (events c) ≤ 3 * size c
few_events c = omega (arith, few (document c))

-- a document whose events begin with another's is that one
pub same_document : (c s : Skeleton) → IsSkeleton c → IsSkeleton s → (back : List Event) → events s ≡ events c ++ back → s ≡ c
same_document c s h k [] e = events-injective s c (e ∙ append-nil (events c))
same_document c s h k (x ∷ back) e = absurd (go (walks_unfinished (events c) (s, k, (x, (back, e)))))
  where
    go : (w : Walk) × (walk Before (events c) ≡ Some w) × (w ≡ After → ⊥) → ⊥
    go (w, at, differs) = differs (cc' w (sym at ∙ walk_skeleton c h))
      where
        cc' : (w : Walk) → Some w ≡ Some After → w ≡ After
        cc' w q = cc
