-- Bytes that are sent with their escapes, a front at a time.
use Rattle.std.proofs.Common.{◌≡◌, ℕ, ◌+◌, ◌-◌, ◌<◌, ◌≤◌, List, [], ◌∷◌, ◌++◌, length, take, drop, get_or, flat_map, append-nil, ap, sym, subst, ◌∙◌, arith, length-drop}
use Rattle.std.proofs.lemmas.List.{take-append-drop, take_more, drop_more, take_all}
use Rattle.std.proofs.lemmas.Grind.{flat_map-append}
use Rattle.std.proofs.Math.Seq.{take-add}
use Rattle.event_lines.specs.Pieces.{Progress, Sends, Fails}
use Rattle.event_lines.proofs.Sending.{sends_then, fails_then, fails_early}

in_two : (f : ℕ → List ℕ) (n : ℕ) (bs : List ℕ) → flat_map f bs ≡ flat_map f (take n bs) ++ flat_map f (drop n bs)
in_two f n bs = ap (flat_map f) (sym (take-append-drop n bs)) ∙ flat_map-append f (take n bs) (drop n bs)

-- the first n bytes stand for themselves, and fail
pub fails_plain : {s t : Progress} (f : ℕ → List ℕ) (n : ℕ) (bs : List ℕ) → flat_map f (take n bs) ≡ take n bs →
    Fails s t (take n bs) → Fails s t (flat_map f bs)
fails_plain {s} {t} f n bs plain failed =
    subst (λ z. Fails s t z) (ap (λ p. p ++ flat_map f (drop n bs)) (sym plain) ∙ sym (in_two f n bs))
    (fails_early (take n bs) (flat_map f (drop n bs)) failed)

-- the first n bytes stand for themselves, and the next fails
pub fails_byte : {s t u : Progress} (f : ℕ → List ℕ) (n : ℕ) (bs : List ℕ) → flat_map f (take n bs) ≡ take n bs → n < length bs →
    Sends s t (take n bs) → Fails t u (f (get_or bs n 0)) → Fails s u (flat_map f bs)
fails_byte {s} {t} {u} f n bs plain below sent failed =
    let whole : take n bs ++ (f (get_or bs n 0) ++ flat_map f (drop (n + 1) bs)) ≡ flat_map f bs =
    ap (λ p. p ++ (f (get_or bs n 0) ++ flat_map f (drop (n + 1) bs))) (sym plain)
    ∙ ap (λ q. flat_map f (take n bs) ++ flat_map f q) (sym (drop_more bs n 0 below))
    ∙ sym (in_two f n bs) in
    subst (λ z. Fails s u z) whole (fails_then (take n bs) (f (get_or bs n 0) ++ flat_map f (drop (n + 1) bs)) sent (fails_early (f (get_or bs n 0)) (flat_map f (drop (n + 1) bs)) failed))

-- the first n bytes stand for themselves, and are sent with the next
pub sends_byte : {s t u : Progress} (f : ℕ → List ℕ) (n : ℕ) (bs : List ℕ) → flat_map f (take n bs) ≡ take n bs → n < length bs →
    Sends s t (take n bs) → Sends t u (f (get_or bs n 0)) → Sends s u (flat_map f (take (n + 1) bs))
sends_byte {s} {t} {u} f n bs plain below sent next =
    let whole : take n bs ++ f (get_or bs n 0) ≡ flat_map f (take (n + 1) bs) =
    ap (λ p. p ++ f (get_or bs n 0)) (sym plain)
    ∙ ap (λ q. flat_map f (take n bs) ++ q) (sym (append-nil (f (get_or bs n 0))))
    ∙ sym (flat_map-append f (take n bs) (get_or bs n 0 ∷ []))
    ∙ ap (flat_map f) (sym (take_more bs n 0 below)) in
    subst (λ z. Sends s u z) whole (sends_then (take n bs) (f (get_or bs n 0)) sent next)

-- a slice from n on
rest_whole : (n : ℕ) (bs : List ℕ) → take (length bs - n) (drop n bs) ≡ drop n bs
rest_whole n bs = take_all (length bs - n) (drop n bs) (omega (arith, length-drop {A = ℕ}))

pub within_whole : (n m : ℕ) (bs : List ℕ) → n ≤ length bs → m ≤ length (take (length bs - n) (drop n bs)) → n + m ≤ length bs
within_whole n m bs below within =
    let rest : m ≤ length (drop n bs) = subst (λ z. m ≤ length z) (rest_whole n bs) within in
    omega (arith, length-drop {A = ℕ})

-- the bytes behind the first n fail
pub fails_rest : {s t u : Progress} (f : ℕ → List ℕ) (n : ℕ) (bs : List ℕ) →
    Sends s t (flat_map f (take n bs)) → Fails t u (flat_map f (take (length bs - n) (drop n bs))) → Fails s u (flat_map f bs)
fails_rest {s} {t} {u} f n bs sent failed =
    let rest : Fails t u (flat_map f (drop n bs)) = subst (λ z. Fails t u (flat_map f z)) (rest_whole n bs) failed in
    subst (λ z. Fails s u z) (sym (in_two f n bs)) (fails_then (flat_map f (take n bs)) (flat_map f (drop n bs)) sent rest)

-- m bytes more
pub sends_more : {s t u : Progress} (f : ℕ → List ℕ) (n m : ℕ) (bs : List ℕ) →
    Sends s t (flat_map f (take n bs)) → Sends t u (flat_map f (take m (take (length bs - n) (drop n bs)))) → Sends s u (flat_map f (take (n + m) bs))
sends_more {s} {t} {u} f n m bs sent more =
    let rest : Sends t u (flat_map f (take m (drop n bs))) = subst (λ z. Sends t u (flat_map f (take m z))) (rest_whole n bs) more in
    subst (λ z. Sends s u z) (sym (flat_map-append f (take n bs) (take m (drop n bs))) ∙ ap (flat_map f) (sym (take-add n m bs)))
    (sends_then (flat_map f (take n bs)) (flat_map f (take m (drop n bs))) sent rest)
