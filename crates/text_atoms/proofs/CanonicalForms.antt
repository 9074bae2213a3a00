-- Equal texts, and no others, have one canonical form.
use Rattle.std.proofs.Common.{◌≡◌, Bool, true, false, not, ◌&&◌, ◌||◌, ◌==◌, if◌then◌else◌, [], Some, None, is_some, codes, refl, sym, ◌∙◌, ap, true≢false}
use Rattle.std.specs.Str.{bytes_eq}
use Rattle.std.proofs.lemmas.Slice.Eq.{bytes_eq-Decides}
use Rattle.rng_model.specs.Texts.{Text, normal}
use Rattle.rng_model.specs.Kinds.{Kind, Boolean, Integer, NonNegative, Positive, allows, equal, same_value, is_yes, is_no, same_boolean, has_minus, is_zero, magnitude, same_integer}
use Rattle.text_atoms.specs.Canonical.{boolean_form, integer_form, form_of, canonical}
use Rattle.text_atoms.proofs.Words.{by_test}

pub both_true : (a b : Bool) → (a && b) ≡ true → (a ≡ true) × (b ≡ true)
both_true true b h = (refl, h)
both_true false b h = absurd (true≢false (sym h))

yes_not_no : (t : Text) → is_yes t ≡ true → is_no t ≡ false
yes_not_no t h = by_test (bytes_eq t (codes "true"))
    (λ e. let s : t ≡ codes "true" = (bytes_eq-Decides t (codes "true")).0 e in rw s refl)
    (λ e. let s : t ≡ codes "1" = (bytes_eq-Decides t (codes "1")).0 (rw e at h) in rw s refl)

booleans : (a b : Text) → (is_yes a || is_no a) ≡ true → (is_yes b || is_no b) ≡ true → same_boolean a b ≡ bytes_eq (boolean_form a) (boolean_form b)
booleans a b p q = by (is_yes a) (is_no a) (is_yes b) (is_no b) p q (yes_not_no a) (yes_not_no b)
  where
    by : (v n w m : Bool) → (v || n) ≡ true → (w || m) ≡ true → (v ≡ true → n ≡ false) → (w ≡ true → m ≡ false) →
        ((v && w) || (n && m)) ≡ bytes_eq (if v then codes "true" else codes "false") (if w then codes "true" else codes "false")
    by true n true m p q f g = refl
    by true n false m p q f g = rw (f refl) refl
    by false true true m p q f g = rw (g refl) refl
    by false true false true p q f g = refl
    by false true false false p q f g = absurd (true≢false (sym q))
    by false false w m p q f g = absurd (true≢false (sym p))

never : (b : Bool) → (b && false) ≡ false
never true = refl
never false = refl

integers : (a b : Text) → same_integer a b ≡ bytes_eq (integer_form a) (integer_form b)
integers a b = by_test (bytes_eq (magnitude a) (magnitude b))
    (λ e. (
    let same : is_zero b ≡ is_zero a = ap (λ z. bytes_eq z []) (sym ((bytes_eq-Decides (magnitude a) (magnitude b)).0 e)) in
    rw (e, same) (signs (has_minus a) (has_minus b) (is_zero a))))
    (λ e. rw e (sym (never _)))
  where
    signs : (v w z : Bool) → (((v && w) || (not v && not w)) || z) ≡ (((if v && not z then 45 else 43) == (if w && not z then 45 else 43)) && true)
    signs true true true = refl
    signs true true false = refl
    signs true false true = refl
    signs true false false = refl
    signs false true true = refl
    signs false true false = refl
    signs false false true = refl
    signs false false false = refl

same_form : (k : Kind) (s t : Text) → allows k s ≡ true → allows k t ≡ true → same_value k s t ≡ bytes_eq (form_of k s) (form_of k t)
unfolding allows
same_form Boolean s t p q = booleans (normal s) (normal t) p q
same_form Integer s t p q = integers (normal s) (normal t)
same_form NonNegative s t p q = integers (normal s) (normal t)
same_form Positive s t p q = integers (normal s) (normal t)
same_form k s t p q = refl

-- a text has a form where the kind allows it
pub has_form : (k : Kind) (t : Text) → is_some (canonical k t) ≡ allows k t
unfolding canonical
has_form k t = by_test (allows k t) (λ e. rw e refl) (λ e. rw e refl)

form_is : (k : Kind) (t c : Text) → canonical k t ≡ Some c → (allows k t ≡ true) × (form_of k t ≡ c)
unfolding canonical
form_is k t c h = by_test (allows k t)
    (λ e. let f : Some (form_of k t) ≡ Some c = rw e at h in let g : form_of k t ≡ c = cc in (e, g))
    (λ e. let f : None ≡ Some c = rw e at h in cc)

pub equal_by_form : (k : Kind) (s t c : Text) → canonical k s ≡ Some c → canonical k t ≡ Some c → equal k s t ≡ true
unfolding equal
equal_by_form k s t c f g =
    let (p, a) = form_is k s c f in
    let (q, b) = form_is k t c g in
    rw (p, q) (same_form k s t p q ∙ (bytes_eq-Decides (form_of k s) (form_of k t)).1 (a ∙ sym b))

pub form_by_equal : (k : Kind) (s t : Text) → equal k s t ≡ true → (c : Text) × (canonical k s ≡ Some c) × (canonical k t ≡ Some c)
unfolding equal canonical
form_by_equal k s t e =
    let (r, v) = both_true (allows k s && allows k t) (same_value k s t) e in
    let (p, q) = both_true (allows k s) (allows k t) r in
    let same : form_of k s ≡ form_of k t = (bytes_eq-Decides (form_of k s) (form_of k t)).0 (sym (same_form k s t p q) ∙ v) in
    (form_of k s, rw p refl, rw (q, same) refl)
