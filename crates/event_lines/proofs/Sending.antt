-- Bytes that are sent one after the other.
use Rattle.std.specs.Prelude.{Result, OnOk, OnErr}
use Rattle.std.proofs.Common.{◌≡◌, ℕ, ◌≤◌, List, ◌++◌, Option, Some, None, Ok, Err, append_assoc, ap, sym, subst, ◌∙◌}
use Rattle.outside.specs.Counts.{Rose}
use Rattle.outside.specs.Devices.{AppendsFront}
use Rattle.event_lines.specs.Pieces.{Progress, Grows, Sends, Fails}

seam : (b x y f c g d : List ℕ) → b ++ x ≡ f ++ c → c ++ y ≡ g ++ d → b ++ (x ++ y) ≡ (f ++ g) ++ d
seam b x y f c g d first second =
    sym (append_assoc b x y) ∙ ap (λ t. t ++ y) first ∙ append_assoc f c y ∙ ap (λ t. f ++ t) second ∙ sym (append_assoc f g d)

behind : (zs ys xs f g : List ℕ) → zs ≡ ys ++ g → ys ≡ xs ++ f → zs ≡ xs ++ (f ++ g)
behind zs ys xs f g second first = second ∙ ap (λ t. t ++ g) first ∙ append_assoc xs f g

grows_then : (t : Option (List ℕ)) (b : List ℕ) (u : Option (List ℕ)) (c : List ℕ) (v : Option (List ℕ)) (d x y : List ℕ) →
    Grows t b u c x → Grows u c v d y → Grows t b v d (x ++ y)
grows_then None b u c v d x y first second = tt
grows_then (Some xs) b None c v d x y first second = absurd first
grows_then (Some xs) b (Some ys) c None d x y first second = absurd second
grows_then (Some xs) b (Some ys) c (Some zs) d x y first second =
    (first.0 ++ second.0, behind zs ys xs first.0 second.0 second.1 first.1, seam b x y first.0 c second.0 d first.2 second.2)

front_then : (t : Option (List ℕ)) (b : List ℕ) (u : Option (List ℕ)) (c : List ℕ) (v : Option (List ℕ)) (x y : List ℕ) →
    Grows t b u c x → AppendsFront u v (c ++ y) → AppendsFront t v (b ++ (x ++ y))
front_then None b u c v x y first second = tt
front_then (Some xs) b None c v x y first second = absurd first
front_then (Some xs) b (Some ys) c None x y first second = absurd second
front_then (Some xs) b (Some ys) c (Some zs) x y first second =
    (first.0 ++ second.0, (second.1.0, seam b x y first.0 c second.0 second.1.0 first.2 second.1.1), behind zs ys xs first.0 second.0 second.2 first.1)

front_early : (t u : Option (List ℕ)) (b x y : List ℕ) → AppendsFront t u (b ++ x) → AppendsFront t u (b ++ (x ++ y))
front_early None u b x y front = tt
front_early (Some xs) None b x y front = absurd front
front_early (Some xs) (Some ys) b x y front =
    (front.0, (front.1.0 ++ y, sym (append_assoc b x y) ∙ ap (λ t. t ++ y) front.1.1 ∙ append_assoc front.0 front.1.0 y), front.2)

pub sends_then : {s t u : Progress} (x y : List ℕ) → Sends s t x → Sends t u y → Sends s u (x ++ y)
sends_then {s} {t} {u} x y first second = record {
  grown = grows_then s.taken s.held t.taken t.held u.taken u.held x y first.grown second.grown;
  told = second.told ∙ first.told;
  faults = second.faults ∙ first.faults;
}

pub fails_then : {s t u : Progress} (x y : List ℕ) → Sends s t x → Fails t u y → Fails s u (x ++ y)
fails_then {s} {t} {u} x y first second = record {
  front = front_then s.taken s.held t.taken t.held u.taken x y first.grown second.front;
  told = second.told ∙ first.told;
  later = subst (λ n. n ≤ u.faults) first.faults second.later;
  rose = subst (λ n. Rose n u.faults) first.faults second.rose;
}

pub fails_early : {s t : Progress} (x y : List ℕ) → Fails s t x → Fails s t (x ++ y)
fails_early {s} {t} x y failed = record {
  front = front_early s.taken t.taken s.held x y failed.front;
  told = failed.told;
  later = failed.later;
  rose = failed.rose;
}

-- what holds at each error
pub on_err : {T E P : Type 0} (r : Result T E) → P → OnErr r P
on_err (Ok x) p = tt
on_err (Err e) p = p

pub ok_then : {s t : Progress} {T E : Type 0} (u : Progress) (r : Result T E) (x y : List ℕ) → Sends s t x → OnOk r (Sends t u y) → OnOk r (Sends s u (x ++ y))
ok_then u (Ok v) x y first second = sends_then x y first second
ok_then u (Err e) x y first second = tt

pub err_then : {s t : Progress} {T E : Type 0} (u : Progress) (r : Result T E) (x y : List ℕ) → Sends s t x → OnErr r (Fails t u y) → OnErr r (Fails s u (x ++ y))
err_then u (Ok v) x y first second = tt
err_then u (Err e) x y first second = fails_then x y first second

-- three parts, of which the first fails
pub fails_first : {s t : Progress} (x y z : List ℕ) → Fails s t x → Fails s t ((x ++ y) ++ z)
fails_first x y z failed = fails_early (x ++ y) z (fails_early x y failed)

-- three parts, of which the second fails
pub fails_second : {s t u : Progress} (x y z : List ℕ) → Sends s t x → Fails t u y → Fails s u ((x ++ y) ++ z)
fails_second x y z first failed = fails_early (x ++ y) z (fails_then x y first failed)

-- three parts, of which the last is sent or fails
pub ok_third : {s t u : Progress} {T E : Type 0} (v : Progress) (r : Result T E) (x y z : List ℕ) → Sends s t x → Sends t u y →
    OnOk r (Sends u v z) → OnOk r (Sends s v ((x ++ y) ++ z))
ok_third v r x y z first second third = ok_then v r (x ++ y) z (sends_then x y first second) third

pub err_third : {s t u : Progress} {T E : Type 0} (v : Progress) (r : Result T E) (x y z : List ℕ) → Sends s t x → Sends t u y →
    OnErr r (Fails u v z) → OnErr r (Fails s v ((x ++ y) ++ z))
err_third v r x y z first second third = err_then v r (x ++ y) z (sends_then x y first second) third
