-- Events whose lines are sent one by one.
use Rattle.std.proofs.Common.{◌≡◌, ℕ, ◌+◌, ◌<◌, ◌≤◌, List, [], ◌∷◌, ◌++◌, length, take, drop, get_or, flat_map, append-nil, ap, sym, subst, ◌∙◌}
use Rattle.std.specs.Prelude.{slice_get, Some}
use Rattle.std.proofs.lemmas.List.{take-append-drop, take_more, take_all}
use Rattle.std.proofs.lemmas.Grind.{flat_map-append}
use Rattle.std.proofs.lemmas.Option.{get_or_from_slice_get, slice_get-get_or}
use Rattle.event_lines.specs.Pieces.{Progress, Sends, Fails}
use Rattle.event_lines.proofs.Sending.{sends_then, fails_then, fails_early}

-- one item more
one_more : {A : Type 0} (f : A → List ℕ) (n : ℕ) (es : List A) (e : A) → n < length es → e ≡ get_or es n e →
    flat_map f (take n es) ++ f e ≡ flat_map f (take (n + 1) es)
one_more f n es e below is =
    ap (λ q. flat_map f (take n es) ++ q) (sym (append-nil (f e)))
    ∙ ap (λ x. flat_map f (take n es) ++ flat_map f (x ∷ [])) is
    ∙ sym (flat_map-append f (take n es) (get_or es n e ∷ []))
    ∙ ap (flat_map f) (sym (take_more es n e below))

-- what is read with one default is read with another
pub item_is : {A : Type 0} (n : ℕ) (es : List A) (d : A) → n < length es → get_or es n d ≡ get_or es n (get_or es n d)
item_is n es d below = sym (get_or_from_slice_get es n (get_or es n d) (get_or es n d) (slice_get-get_or es n d below))

pub sends_item : {s t u : Progress} {A : Type 0} (f : A → List ℕ) (n : ℕ) (es : List A) (e : A) → n < length es → e ≡ get_or es n e →
    Sends s t (flat_map f (take n es)) → Sends t u (f e) → Sends s u (flat_map f (take (n + 1) es))
sends_item {s} {t} {u} f n es e below is sent next =
    subst (λ z. Sends s u z) (one_more f n es e below is) (sends_then (flat_map f (take n es)) (f e) sent next)

pub fails_item : {s t u : Progress} {A : Type 0} (f : A → List ℕ) (n : ℕ) (es : List A) (e : A) (last : List ℕ) → n < length es → e ≡ get_or es n e →
    Sends s t (flat_map f (take n es)) → Fails t u (f e) → Fails s u (flat_map f es ++ last)
fails_item {s} {t} {u} f n es e last below is sent failed =
    let front : Fails s u (flat_map f (take (n + 1) es)) =
    subst (λ z. Fails s u z) (one_more f n es e below is) (fails_then (flat_map f (take n es)) (f e) sent failed) in
    let whole : flat_map f (take (n + 1) es) ++ flat_map f (drop (n + 1) es) ≡ flat_map f es =
    sym (flat_map-append f (take (n + 1) es) (drop (n + 1) es)) ∙ ap (flat_map f) (take-append-drop (n + 1) es) in
    fails_early (flat_map f es) last
    (subst (λ z. Fails s u z) whole (fails_early (flat_map f (take (n + 1) es)) (flat_map f (drop (n + 1) es)) front))

-- nothing follows the items
pub fails_within : {s t u : Progress} {A : Type 0} (f : A → List ℕ) (n : ℕ) (es : List A) (e : A) → n < length es → e ≡ get_or es n e →
    Sends s t (flat_map f (take n es)) → Fails t u (f e) → Fails s u (flat_map f es)
fails_within {s} {t} {u} f n es e below is sent failed = subst (λ z. Fails s u z) (append-nil (flat_map f es)) (fails_item f n es e [] below is sent failed)

-- an item that was got
pub got_item : {A : Type 0} (es : List A) (n : ℕ) (e : A) → slice_get es n ≡ Some e → e ≡ get_or es n e
got_item es n e got = sym (get_or_from_slice_get es n e e got)

pub all_sent : {s t : Progress} {A : Type 0} (f : A → List ℕ) (n : ℕ) (es : List A) → length es ≤ n →
    Sends s t (flat_map f (take n es)) → Sends s t (flat_map f es)
all_sent {s} {t} f n es past sent = subst (λ z. Sends s t (flat_map f z)) (take_all n es past) sent
