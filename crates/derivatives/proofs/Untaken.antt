-- A text leads nowhere from a pattern that may take none.
use Rattle.std.proofs.Common.{◌≡◌, Bool, true, false, ◌||◌, ◌&&◌, refl, ◌∙◌, ap}
use Rattle.rng_model.specs.Texts.{Text}
use Rattle.rng_model.specs.Patterns.{Pattern, not_allowed, empty, text, ref, value, data_type, data_except, attribute, one_or_more, choice, group, interleave, after}
use Rattle.rng_model.specs.Constructors.{choice_of, group_of, interleave_of, after_of}
use Rattle.rng_model.specs.Matching.{nullable}
use Rattle.rng_model.specs.Derivatives.{where_true, more, text_step}
use Rattle.derivatives.specs.Takes.{has_text}

neither_left : (a b : Bool) → (a || b) ≡ false → a ≡ false
neither_left true b h = absurd (cc)
neither_left false b h = refl

neither_right : (a b : Bool) → (a || b) ≡ false → b ≡ false
neither_right true b h = absurd (cc)
neither_right false b h = h

where_nothing : (b t : Bool) (p : Pattern) → (b && t) ≡ false → (t ≡ false → p ≡ not_allowed) → where_true b p ≡ not_allowed
where_nothing true t p h k = k h
where_nothing false t p h k = refl

beside_nothing : (p : Pattern) → interleave_of p not_allowed ≡ not_allowed
beside_nothing not_allowed = refl
beside_nothing p = refl

no_choice : (p q : Pattern) → p ≡ not_allowed → q ≡ not_allowed → choice_of p q ≡ not_allowed
unfolding choice_of
no_choice p q e f = rw (e, f) refl

pub text_untaken : (s : Text) (p : Pattern) → has_text p ≡ false → text_step s p ≡ not_allowed
unfolding has_text text_step
text_untaken s text h = absurd (cc)
text_untaken s (value k v) h = absurd (cc)
text_untaken s (data_type k) h = absurd (cc)
text_untaken s (data_except k e) h = absurd (cc)
text_untaken s (choice p q) h =
    no_choice (text_step s p) (text_step s q) (text_untaken s p (neither_left (has_text p) (has_text q) h)) (text_untaken s q (neither_right (has_text p) (has_text q) h))
text_untaken s (group p q) h =
    no_choice (group_of (text_step s p) q) (where_true (nullable p) (text_step s q))
    (ap (λ x. group_of x q) (text_untaken s p (neither_left (has_text p) (nullable p && has_text q) h)))
    (where_nothing (nullable p) (has_text q) (text_step s q) (neither_right (has_text p) (nullable p && has_text q) h) (λ e. text_untaken s q e))
text_untaken s (interleave p q) h =
    no_choice (interleave_of (text_step s p) q) (interleave_of p (text_step s q))
    (ap (λ x. interleave_of x q) (text_untaken s p (neither_left (has_text p) (has_text q) h)))
    (ap (interleave_of p) (text_untaken s q (neither_right (has_text p) (has_text q) h)) ∙ beside_nothing p)
text_untaken s (one_or_more p) h = ap (λ x. group_of x (more p)) (text_untaken s p h)
text_untaken s (after p q) h = ap (λ x. after_of x q) (text_untaken s p h)
text_untaken s not_allowed h = refl
text_untaken s empty h = refl
text_untaken s (ref d) h = refl
text_untaken s (attribute c p) h = refl
