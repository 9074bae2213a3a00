-- The least of what stands in the parts of a tree.
use Rattle.std.proofs.Common.{◌≡◌, ℕ, ◌≤◌, ◌<◌, ◌⊎◌, inl, inr, Bool, true, false, Option, Some, None, refl, sym, ap, ◌∙◌, subst, arith, lit<, zero, suc}
use Rattle.std.specs.Bool.{⊤}
use Rattle.schema_tree.specs.declared.features.Feature.{Feature}
use Rattle.schema_tree.specs.Features.{Is, IsReference, HasFeature, HasReference}
use Rattle.grammar_laws.specs.Files.{Full}
use Rattle.schema_tree.specs.Least.{Wants, feature_rank, feature_order, IsLeast, IsEarlier, IsFirst, IsFirstFeature}

none_left : (w : Bool) (F G : Feature → ℕ → Type 0) (y : Option (Feature × ℕ)) → IsLeast w F None → IsLeast w G y → IsLeast w (λ f a. F f a ⊎ G f a) y
none_left w F G None h k = neither
  where
    neither : (f : Feature) (a : ℕ) → Wants w f → F f a ⊎ G f a → ⊥
    neither f a want (inl p) = h f a want p
    neither f a want (inr q) = k f a want q
none_left w F G (Some y) h k = ((k.0.0, inr k.0.1), after)
  where
    after : (f : Feature) (a : ℕ) → Wants w f → F f a ⊎ G f a → feature_order (y.0) (y.1) ≤ feature_order f a
    after f a want (inl p) = absurd (h f a want p)
    after f a want (inr q) = k.1 f a want q

none_right : (w : Bool) (F G : Feature → ℕ → Type 0) (x : Feature × ℕ) → IsLeast w F (Some x) → IsLeast w G None → IsLeast w (λ f a. F f a ⊎ G f a) (Some x)
none_right w F G x h k = ((h.0.0, inl h.0.1), after)
  where
    after : (f : Feature) (a : ℕ) → Wants w f → F f a ⊎ G f a → feature_order (x.0) (x.1) ≤ feature_order f a
    after f a want (inl p) = h.1 f a want p
    after f a want (inr q) = absurd (k f a want q)

both : (w : Bool) (F G : Feature → ℕ → Type 0) (x y : Feature × ℕ) (z : Option (Feature × ℕ)) → IsLeast w F (Some x) → IsLeast w G (Some y) → IsEarlier (Some x) (Some y) z → IsLeast w (λ f a. F f a ⊎ G f a) z
both w F G x y z h k (inl (less, same)) = subst (IsLeast w (λ f a. F f a ⊎ G f a)) (sym same) ((h.0.0, inl h.0.1), after)
  where
    after : (f : Feature) (a : ℕ) → Wants w f → F f a ⊎ G f a → feature_order (x.0) (x.1) ≤ feature_order f a
    after f a want (inl p) = h.1 f a want p
    after f a want (inr q) = let m : feature_order (y.0) (y.1) ≤ feature_order f a = k.1 f a want q in omega (arith, m, less)
both w F G x y z h k (inr (less, same)) = subst (IsLeast w (λ f a. F f a ⊎ G f a)) (sym same) ((k.0.0, inr k.0.1), after)
  where
    after : (f : Feature) (a : ℕ) → Wants w f → F f a ⊎ G f a → feature_order (y.0) (y.1) ≤ feature_order f a
    after f a want (inl p) = let m : feature_order (x.0) (x.1) ≤ feature_order f a = h.1 f a want p in omega (arith, m, less)
    after f a want (inr q) = k.1 f a want q

-- the earlier of the least of each part
pub least_two : (w : Bool) (F G : Feature → ℕ → Type 0) (x y z : Option (Feature × ℕ)) → IsLeast w F x → IsLeast w G y → IsEarlier x y z → IsLeast w (λ f a. F f a ⊎ G f a) z
least_two w F G None y z h k e = subst (IsLeast w (λ f a. F f a ⊎ G f a)) (sym e) (none_left w F G y h k)
least_two w F G (Some x) None z h k e = subst (IsLeast w (λ f a. F f a ⊎ G f a)) (sym e) (none_right w F G x h k)
least_two w F G (Some x) (Some y) z h k e = both w F G x y z h k e

pub none_there : (w : Bool) (F : Feature → ℕ → Type 0) → ((f : Feature) (a : ℕ) → F f a → ⊥) → IsLeast w F None
none_there w F no_one f a want p = no_one f a p

-- A walk along a list: the least of what was passed, where R is what is left of all.
abbrev Came : Bool → (Feature → ℕ → Type 0) → Option (Feature × ℕ) → Type 0
Came w A None = ⊤
Came w A (Some x) = Wants w (x.0) × A (x.0) (x.1)

abbrev NotAfter : Option (Feature × ℕ) → Feature → ℕ → Type 0
NotAfter None f a = ⊥
NotAfter (Some x) f a = feature_order (x.0) (x.1) ≤ feature_order f a

pub record Gathered (w : Bool) (A R : Feature → ℕ → Type 0) (found : Option (Feature × ℕ)) : Type 0 where
  pub came : Came w A found
  pub left : (f : Feature) (a : ℕ) → Wants w f → A f a → NotAfter found f a ⊎ R f a
  pub part : (f : Feature) (a : ℕ) → R f a → A f a

pub gather_none : {w : Bool} {A : Feature → ℕ → Type 0} → Gathered w A A None
gather_none = record { came = tt; left = λ f a want p. inr p; part = λ f a p. p }

gathered_came : (w : Bool) (A P R : Feature → ℕ → Type 0) (x y z : Option (Feature × ℕ)) → Gathered w A (λ f a. P f a ⊎ R f a) x → IsLeast w P y → IsEarlier x y z → Came w A z
gathered_came w A P R None None z g h e = subst (Came w A) (sym e) tt
gathered_came w A P R None (Some y) z g h e = subst (Came w A) (sym e) (h.0.0, g.part (y.0) (y.1) (inl h.0.1))
gathered_came w A P R (Some x) None z g h e = subst (Came w A) (sym e) g.came
gathered_came w A P R (Some x) (Some y) z g h (inl (less, e)) = subst (Came w A) (sym e) g.came
gathered_came w A P R (Some x) (Some y) z g h (inr (less, e)) = subst (Came w A) (sym e) (h.0.0, g.part (y.0) (y.1) (inl h.0.1))

-- what isn't before one of the two isn't before the earlier
first_kept : (x y z : Option (Feature × ℕ)) (f : Feature) (a : ℕ) → IsEarlier x y z → NotAfter x f a → NotAfter z f a
first_kept None y z f a e h = elim h [ ]
first_kept (Some x) None z f a e h = subst (λ u. NotAfter u f a) (sym e) h
first_kept (Some x) (Some y) z f a (inl (less, e)) h = subst (λ u. NotAfter u f a) (sym e) h
first_kept (Some x) (Some y) z f a (inr (less, e)) h = subst (λ u. NotAfter u f a) (sym e) (omega (arith, less, h))

second_kept : (x y z : Option (Feature × ℕ)) (f : Feature) (a : ℕ) → IsEarlier x y z → NotAfter y f a → NotAfter z f a
second_kept None None z f a e h = elim h [ ]
second_kept (Some x) None z f a e h = elim h [ ]
second_kept None (Some y) z f a e h = subst (λ u. NotAfter u f a) (sym e) h
second_kept (Some x) (Some y) z f a (inl (less, e)) h = subst (λ u. NotAfter u f a) (sym e) (omega (arith, less, h))
second_kept (Some x) (Some y) z f a (inr (less, e)) h = subst (λ u. NotAfter u f a) (sym e) h

least_bound : (w : Bool) (P : Feature → ℕ → Type 0) (y : Option (Feature × ℕ)) (f : Feature) (a : ℕ) → IsLeast w P y → Wants w f → P f a → NotAfter y f a
least_bound w P None f a h want p = h f a want p
least_bound w P (Some y) f a h want p = h.1 f a want p

pub gather_more : (w : Bool) (A P R : Feature → ℕ → Type 0) (x y z : Option (Feature × ℕ)) → Gathered w A (λ f a. P f a ⊎ R f a) x → IsLeast w P y → IsEarlier x y z → Gathered w A R z
gather_more w A P R x y z g h e = record {
  came = gathered_came w A P R x y z g h e;
  left = λ f a want p. go f a want (g.left f a want p);
  part = λ f a r. g.part f a (inr r);
}
  where
    go : (f : Feature) (a : ℕ) → Wants w f → NotAfter x f a ⊎ (P f a ⊎ R f a) → NotAfter z f a ⊎ R f a
    go f a want (inl n) = inl (first_kept x y z f a e n)
    go f a want (inr (inl p)) = inl (second_kept x y z f a e (least_bound w P y f a h want p))
    go f a want (inr (inr r)) = inr r

pub gather_all : (w : Bool) (A R : Feature → ℕ → Type 0) (x : Option (Feature × ℕ)) → Gathered w A R x → ((f : Feature) (a : ℕ) → R f a → ⊥) → IsLeast w A x
gather_all w A R None g over = λ f a want p. go f a (g.left f a want p)
  where
    go : (f : Feature) (a : ℕ) → ⊥ ⊎ R f a → ⊥
    go f a (inl n) = n
    go f a (inr r) = over f a r
gather_all w A R (Some x) g over = (g.came, λ f a want p. go f a (g.left f a want p))
  where
    go : (f : Feature) (a : ℕ) → (feature_order (x.0) (x.1) ≤ feature_order f a) ⊎ R f a → feature_order (x.0) (x.1) ≤ feature_order f a
    go f a (inl n) = n
    go f a (inr r) = absurd (over f a r)

-- ranks are below 6, and tell features apart
rank_small : (f : Feature) → feature_rank f < 6
rank_small Feature.Include = lit< tt
rank_small Feature.External = lit< tt
rank_small Feature.Inherit = lit< tt
rank_small Feature.List = lit< tt
rank_small Feature.ForeignType = lit< tt
rank_small Feature.Parameter = lit< tt

ranked : ℕ → Feature
ranked zero = Feature.Include
ranked (suc zero) = Feature.External
ranked (suc (suc zero)) = Feature.Inherit
ranked (suc (suc (suc zero))) = Feature.List
ranked (suc (suc (suc (suc zero)))) = Feature.ForeignType
ranked (suc (suc (suc (suc (suc n))))) = Feature.Parameter

ranked_back : (f : Feature) → ranked (feature_rank f) ≡ f
unfolding ranked
ranked_back Feature.Include = refl
ranked_back Feature.External = refl
ranked_back Feature.Inherit = refl
ranked_back Feature.List = refl
ranked_back Feature.ForeignType = refl
ranked_back Feature.Parameter = refl

-- a lesser number has no greater place
pub place_first : (f g : Feature) (a b : ℕ) → feature_order f a ≤ feature_order g b → a ≤ b
unfolding feature_order
place_first f g a b h = let r = rank_small g in omega (arith, h, r)

-- the number, by the place and then by the feature
pub by_place : (f g : Feature) (a b : ℕ) → (a < b) ⊎ ((a ≡ b) × (feature_rank f ≤ feature_rank g)) → feature_order f a ≤ feature_order g b
unfolding feature_order
by_place f g a b (inl less) = let r = rank_small f in omega (arith, less, r)
by_place f g a b (inr (same, less)) = omega (arith, same, less)

-- a schema has one first feature
pub first_feature_once : (t : Full) (f g : Feature) (a b : ℕ) → IsFirstFeature t f a → IsFirstFeature t g b → (f ≡ g) × (a ≡ b)
unfolding feature_order
first_feature_once t f g a b x y =
    let h : feature_order f a ≤ feature_order g b = x.first g b y.there in
    let k : feature_order g b ≤ feature_order f a = y.first f a x.there in
    let r = rank_small f in
    let s = rank_small g in
    let place : a ≡ b = omega (arith, h, k, r, s) in
    let rank : feature_rank f ≡ feature_rank g = omega (arith, h, k, r, s) in
    (sym (ranked_back f) ∙ ap ranked rank ∙ ranked_back g, place)

-- the least of the references is the first of them
pub least_reference : (t : Full) (f : Feature) (a : ℕ) → IsLeast true (HasFeature t) (Some (f, a)) → IsFirst (HasReference t) (Some a)
least_reference t f a h = ((f, h.0.0, h.0.1), after)
  where
    after : (b : ℕ) → HasReference t b → a ≤ b
    after b (g, is, there) = place_first f g a b (h.1 g b is there)
