-- Words `text=T`, one by one.
use Rattle.std.specs.Prelude.{Option, None, IsSome, IfSome, IfNone, option_map}
use Rattle.std.specs.Borrow.{Bor}
use Rattle.std.proofs.lemmas.Option.{slice_get-map, slice_get-get_or}
use Rattle.std.proofs.lemmas.List.{length-map}
use Rattle.std.proofs.Common.{Bool, true, false, MatchBool, IsTrue, ◌↔◌, slice_index_or, ◌<◌, zero, suc, ◌≡◌, ℕ, ◌≤◌, List, [], ◌∷◌, ◌++◌, length, drop, subst, refl, sym, ap, ap₂, ◌∙◌, arith, codes, map, slice_get, Some}
use Rattle.std.specs.List.{AllByRecursion, All, AllWithin, HoldsAt}
use Rattle.std.proofs.lemmas.List.{append_cancel_left}
use Rattle.std.proofs.lemmas.List.Elements.{All-map, All-from_all_within, All-from_recursion, recursion_from_All}
use Rattle.rng_model.specs.Texts.{Text}
use Rattle.command_words.specs.Words.{IsExtraText, AreTexts}
use Rattle.command_words.specs.Extra.{IsTextWord, texts_in, AreFewTexts, AreNoTexts}

-- words have one list of texts
pub texts_one : (ws ts us : List Text) → AreTexts ws ts → AreTexts ws us → ts ≡ us
texts_one _ _ _ AreTexts.none AreTexts.none = refl
texts_one _ _ _ (AreTexts.next {t = t} {ws = ws} {ts = ts} i e more) (AreTexts.next {t = u} {ts = us} j f rest) =
    let first : t ≡ u = append_cancel_left (codes "text=") t u (sym e ∙ f) in
    let others : ts ≡ us = texts_one ws ts us more rest in cc

pub texts_count : (ws ts : List Text) → AreTexts ws ts → length ts ≡ length ws
texts_count _ _ AreTexts.none = refl
texts_count _ _ (AreTexts.next {ws = ws} {ts = ts} i e more) = let others = texts_count ws ts more in omega (arith, others)

by_each : (ws : List Text) → AllByRecursion IsTextWord ws → AreTexts ws (texts_in ws)
by_each [] h = AreTexts.none
by_each (w ∷ ws) ((t, e, i), more) =
    let same : drop 5 w ≡ t = ap (drop 5) e in
    AreTexts.next (rw same i) (rw same e) (by_each ws more)

each : (ws ts : List Text) → AreTexts ws ts → AllByRecursion IsTextWord ws
each _ _ AreTexts.none = tt
each _ _ (AreTexts.next {t = t} {ws = ws} {ts = ts} i e more) = ((t, e, i), each ws ts more)

pub texts_by_all : (ws : List Text) → All IsTextWord ws → AreTexts ws (texts_in ws)
texts_by_all ws h = by_each ws (recursion_from_All IsTextWord ws h)

pub all_by_texts : (ws ts : List Text) → AreTexts ws ts → All IsTextWord ws
all_by_texts ws ts h = All-from_recursion IsTextWord ws (each ws ts h)

-- more than eight words
pub too_many : (ws : List Text) → 8 < length ws → AreNoTexts ws
too_many ws many = λ ts are few. let same = texts_count ws ts are in omega (arith, same)

pub few_texts : (ws : List Text) → (8 < length ws → ⊥) → All IsTextWord ws → AreFewTexts ws
few_texts ws few all = record { are = texts_by_all ws all; few = omega (arith, few) }

-- the text in the word at a position
pub text_at : (ws ts : List Text) (k : ℕ) (w : Text) → AreTexts ws ts → slice_get ws k ≡ Some w → (t : Text) × (slice_get ts k ≡ Some t) × (w ≡ codes "text=" ++ t) × IsExtraText t
text_at _ _ k w AreTexts.none at = absurd (cc)
text_at _ _ zero w (AreTexts.next {t = t} i e more) at = (t, refl, cc, i)
text_at _ _ (suc k) w (AreTexts.next {ws = ws} {ts = ts} i e more) at = text_at ws ts k w more at

not_all : {X : Type 0} (f : X → Text) (xs : List X) (k : ℕ) → k < length xs → HoldsAt (λ x. IsTextWord (f x) → ⊥) xs k → All IsTextWord (map f xs) → ⊥
not_all f [] k less fails all = absurd (omega (arith, less))
not_all f (x ∷ xs) zero less fails all = fails x (all 0 (f x) (omega arith))
not_all f (x ∷ xs) (suc k) less fails all = not_all f xs k (omega (arith, less)) fails (λ i d below. all (suc i) d (omega (arith, below)))

-- what `all` answers, of each member's text
pub all_or_not : {X : Type 0} (f : X → Text) (xs : List X) (b : Bool) →
    MatchBool b (AllWithin (λ x. IsTextWord (f x)) xs 0 (length xs)) ((k : ℕ) × (k < length xs) × HoldsAt (λ x. IsTextWord (f x) → ⊥) xs k) → IsTrue b ↔ All IsTextWord (map f xs)
all_or_not f xs true h = (λ e. All-map IsTextWord f xs (All-from_all_within (λ x. IsTextWord (f x)) xs h), λ a. refl)
all_or_not f xs false (k, less, fails) = (λ e. absurd (cc), λ a. absurd (not_all f xs k less fails a))

-- the text in the member at a position
pub text_of : {X : Type 0} (f : X → Text) (xs : List X) (ts : List Text) (k : ℕ) (x : X) → texts_in (map f xs) ≡ ts → AreFewTexts (map f xs) → k < length ts → x ≡ slice_index_or xs k x →
    (t : Text) × (slice_get ts k ≡ Some t) × (f x ≡ codes "text=" ++ t) × IsExtraText t
text_of f xs ts k x view few less e =
    let are : AreTexts (map f xs) ts = subst (λ z. AreTexts (map f xs) z) view few.are in
    let count = texts_count (map f xs) ts are in
    let mapped : length (map f xs) ≡ length xs = simp length-map refl in
    let within : k < length xs = omega (arith, less, count, mapped) in
    text_at (map f xs) ts k (f x) are (slice_get-map f xs k ∙ ap (option_map f) (slice_get-get_or xs k x within ∙ ap Some (sym e)))

pub has_text : (r : Option (Bor Text)) (w t : Text) → w ≡ codes "text=" ++ t → IfNone r ((u : Text) → w ≡ codes "text=" ++ u → ⊥) → IsSome r
has_text None w t e none = absurd (none t e)
has_text (Some x) w t e none = refl

pub behind_text : (r : Option (Bor Text)) (x : Bor Text) (w t : Text) → r ≡ Some x → IfSome r (λ u. w ≡ codes "text=" ++ u.now) → w ≡ codes "text=" ++ t → t ≡ x.now
behind_text None x w t is some e = absurd (cc)
behind_text (Some y) x w t is some e = let same : y ≡ x = cc in append_cancel_left (codes "text=") t x.now (sym e ∙ (rw same at some))
